-- `machine::outside::offer_to` meets its contract. Assumes nothing.
use mathlib.Core.Path.{refl, sym, ◌∙◌}
use Rattle.model.specs.Machine.{space_of}
use Rattle.machine.specs.Runs.{rest_of}
use Rattle.machine.proofs.Offers.{offer-tells, offer-hands, offer-fault}
use Rattle.machine.proofs.outside.offer_to.Goals as goal

pub returns-then-alt_state : goal.returns-then-alt_state
unfolding space_of
returns-then-alt_state c behind =
    let d = c.peek.ensures c.args.machine.setup c.requires.sized.0 (rest_of c.args.machine behind) c.args.machine.cpu in
    rw (c.settle.ensures, c.hold.ensures)
    (offer-tells _ _ behind _ _ c.requires.sized.0 c.requires.sized.1 c.requires.k_lt_inputs.0 c.requires.k_lt_inputs.1
    c.requires.k_lt_inputs.2 c.requires.k_value.0 c.requires.k_value.1 (rw (c.state_word.ensures, c.in-Ok.is) at d)
    (sym c.alt_state.ensures ∙ c.if-alt_state.true) (c.notify_wake-told.ensures c.args.machine.setup c.requires.sized.0 refl))

pub returns-else-alt_state : goal.returns-else-alt_state
unfolding space_of
returns-else-alt_state c behind =
    let d = c.peek.ensures c.args.machine.setup c.requires.sized.0 (rest_of c.args.machine behind) c.args.machine.cpu in
    rw c.settle-in-Ok.ensures
    (offer-hands _ _ behind _ _ c.requires.sized.0 c.requires.sized.1 c.requires.k_lt_inputs.0 c.requires.k_lt_inputs.1
    c.requires.k_lt_inputs.2 c.requires.k_value.0 c.requires.k_value.1 (rw (c.state_word.ensures, c.in-Ok.is) at d)
    (sym c.alt_state.ensures ∙ c.if-alt_state.false) (c.hand_wake-handed.ensures c.args.machine.setup c.requires.sized.0 refl))

pub returns-in-Err : goal.returns-in-Err
unfolding space_of
returns-in-Err c behind =
    let d = c.peek.ensures c.args.machine.setup c.requires.sized.0 (rest_of c.args.machine behind) c.args.machine.cpu in
    rw c.settle-in-Err.ensures
    (offer-fault _ _ behind _ _ c.requires.sized.0 c.requires.sized.1 c.requires.k_lt_inputs.0 c.requires.k_lt_inputs.1
    c.requires.k_lt_inputs.2 c.requires.k_value.0 c.requires.k_value.1
    (rw (c.state_word.ensures, c.in-Err.is) at d))
