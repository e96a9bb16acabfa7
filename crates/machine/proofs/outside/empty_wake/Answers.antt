-- `machine::outside::empty_wake` meets its contract. Assumes nothing.
use Prim.Native.Nat.{ℕ}
use mathlib.Core.Path.{sym, ◌∙◌, subst}
use mathlib.Core.List.{List}
use lib.ListN.{get_or, length-set}
use Rattle.model.specs.Word.{not_process}
use Rattle.processor.specs.Seen.{Does}
use Rattle.machine.specs.Outsides.{empty_wake}
use Rattle.processor.proofs.Laws.{gives-back, gives-none}
use Rattle.machine.proofs.Woken.{empties}
use Rattle.machine.proofs.outside.empty_wake.Goals as goal

pub returns-then-is_err : goal.returns-then-is_err
returns-then-is_err c u h g =
    let s = c.wake-step.result in
    rw (gives-back s c.args.c _ _ (sym c.is_err.ensures.value ∙ c.if-is_err.true))
    (empties c.args.c c.args.w s h c.requires (c.wake-step.ensures u (h ∙ sym (length-set c.args.memory.now c.args.c not_process)) g))

pub returns-else-is_err : goal.returns-else-is_err
returns-else-is_err c u h g =
    let s = c.wake-step.result in
    let e = gives-none s c.args.c (get_or c.args.memory.now c.args.c 0) c.wake-step.new.memory
    (sym c.is_err.ensures.value ∙ c.if-is_err.false) in
    subst (λ (m : List ℕ). Does u (empty_wake c.args.c c.args.w) c.args.cpu c.args.memory.now s m) (sym e)
    (empties c.args.c c.args.w s h c.requires (c.wake-step.ensures u (h ∙ sym (length-set c.args.memory.now c.args.c not_process)) g))
