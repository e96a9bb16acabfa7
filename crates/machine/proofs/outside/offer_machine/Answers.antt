-- `machine::outside::offer_machine` meets its contract. Assumes nothing.
use Prim.Native.Nat.{◌<◌}
use native.Mathlib.Omega.{arith}
use mathlib.Core.Path.{refl, ◌∙◌}
use mathlib.Core.Logic.{⊎_elim}
use Rattle.machine.proofs.Offers.{offer-nowhere, offer-again, offer-held}
use Rattle.machine.proofs.outside.offer_machine.Goals as goal

pub returns-then-setup-k : goal.returns-then-setup-k
returns-then-setup-k c behind =
    let n : c.args.k < c.args.machine.setup.inputs → c.args.k < 8 → ⊥ =
    λ p q. ⊎_elim (λ t. omega arith) (λ t. omega arith) c.then-setup-k.either in
    rw (offer-nowhere c.args.machine c.args.memory.now behind c.args.k c.args.value c.requires.0 c.requires.1 n) (record {
      answer = c.unchanged.ensures.0;
      machine = c.unchanged.ensures.1;
      memory = refl;
    })

pub returns-then-held-k : goal.returns-then-held-k
returns-then-held-k c behind =
    let i : c.args.k < c.args.machine.setup.inputs = omega (arith, c.if-setup-k.false) in
    let j : c.args.k < 8 = omega arith in
    rw (offer-again c.args.machine c.args.memory.now behind c.args.k c.args.value c.requires.0 c.requires.1 i j c.if-held-k.true)
    (record { answer = c.unchanged-then-held-k.ensures.0; machine = c.unchanged-then-held-k.ensures.1; memory = refl })

pub returns-then-p : goal.returns-then-p
returns-then-p c behind =
    let i : c.args.k < c.args.machine.setup.inputs = omega (arith, c.if-setup-k.false) in
    let j : c.args.k < 8 = omega arith in
    let m = c.args.memory.now in
    rw (offer-held c.args.machine m behind c.args.k c.args.value c.requires.0 c.requires.1 i j c.if-held-k.false refl c.if-p.true)
    (record { answer = c.unchanged-then-p.ensures.0; machine = c.unchanged-then-p.ensures.1 ∙ c.hold.ensures; memory = refl })

pub offer_to-requires : goal.offer_to-requires
offer_to-requires c =
    let i : c.args.k < c.args.machine.setup.inputs = omega (arith, c.if-setup-k.false) in
    let j : c.args.k < 8 = omega arith in
    record { sized = c.requires; k_lt_inputs = (i, j, c.if-held-k.false); k_value = (refl, c.if-p.false) }
