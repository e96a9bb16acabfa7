-- `waking::wake::is_due` meets its contract. Assumes nothing.
use mathlib.Core.Path.{◌∙◌}
use Rattle.processor.proofs.Laws.{fault-passed}
use Rattle.processor.proofs.Looks.{finds-looked}
use Rattle.waking.proofs.wake.is_due.Goals as goal

pub returns : goal.returns
returns c =
    let e = finds-looked c.time_word.result c.args.memory.now c.peek.result c.peek.ensures in
    rw (← c.time_word.ensures, ← e, c.in_ok-t.was, ← c.after.ensures)

pub returns-in_err-t : goal.returns-in_err-t
returns-in_err-t c =
    let e = finds-looked c.time_word.result c.args.memory.now c.peek.result c.peek.ensures in
    fault-passed c.from_residual.result c.from_residual.ensures.1 ∙ rw (← c.time_word.ensures, ← e, c.in_err-t.was)
