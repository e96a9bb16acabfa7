-- `statements::alt::gen_front` meets its contract. Assumes nothing.
use mathlib.Core.Path.{◌≡◌, ap}
use mathlib.Core.Bool.{cond}
use Rattle.instruction.specs.Codes.{ALT, ALTWT, TALT, TALTWT}
use Rattle.statements.specs.Alts.{front_into}
use Rattle.statements.proofs.alt.gen_front.Goals as goal
use Rattle.statements.proofs.alt.gen_front.Goals.{then-timed, else-timed}

pub returns : goal.returns
unfolding front_into
returns c ns h =
    let timed = c.has_time-timed.result in
    let begins : c.if-timed.begins.0 ≡ cond timed TALT ALT =
    elim c.if-timed.branch [
      | then-timed w ↦ rw w.if-timed.true (ap (λ x. x.0) w.begins-is)
      | else-timed w ↦ rw w.if-timed.false (ap (λ x. x.0) w.begins-is)
    ]
    in
    let waits : c.if-timed.begins.1 ≡ cond timed TALTWT ALTWT =
    elim c.if-timed.branch [
      | then-timed w ↦ rw w.if-timed.true (ap (λ x. x.1) w.begins-is)
      | else-timed w ↦ rw w.if-timed.false (ap (λ x. x.1) w.begins-is)
    ]
    in
    rw (
      ← c.has_time-timed.ensures,
      ← c.minus-lower.ensures,
      ← c.plain-second.ensures,
      ← begins,
      ← c.operation.ensures,
      ← c.gen_enable-wait.ensures ns h,
      ← waits,
      ← c.operation-disable.ensures,
      ← c.less.ensures,
      ← c.plus-size.ensures,
      ← c.plus.ensures,
    )
