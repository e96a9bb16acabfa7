-- `executor::bytes::act` meets its contract. Assumes nothing.
use native.Mathlib.Omega.{arith}
use mathlib.Core.Path.{ap, sym, ◌∙◌}
use Rattle.model.specs.Machine.{next}
use Rattle.model.specs.Run.{land}
use Rattle.processor.specs.Quiet.{offering, timing}
use Rattle.executor.specs.Steps.{advanced_to}
use Rattle.executor.proofs.Acts.{acts-as, prefix-takes, other-acts}
use Rattle.executor.proofs.bytes.act.Goals as goal

pub returns-then-is_prefix : goal.returns-then-is_prefix
returns-then-is_prefix c =
    prefix-takes _ _ _ _ c.args.byte (sym c.is_prefix.ensures ∙ c.if-is_prefix.true)
    (c.advanced.ensures ∙ ap (λ o. advanced_to o c.args.cpu) (c.prefixed.ensures ∙ rw c.gather-operand.ensures))
    c.requires.sized.0 c.requires.sized.2

pub execute-requires : goal.execute-requires
execute-requires c =
    record {
      sized = (
        ap (λ q. q.running) c.advanced-r.ensures ∙ c.requires.sized.0,
        c.requires.sized.1,
        rw c.advanced-r.ensures (omega arith),
      );
    }

pub returns : goal.returns
returns c =
    acts-as c.execute.ensures
    (λ x.
    let y = offering c.args.offers.now c.args.held.now (timing c.args.clock c.args.front.now x) in
    rw (c.advanced-r.ensures, c.gather-operand.ensures)
    (ap (λ s. next s (λ n. land)) (other-acts y _ _ c.args.memory.now c.args.byte (sym c.is_prefix.ensures ∙ c.if-is_prefix.false))))
