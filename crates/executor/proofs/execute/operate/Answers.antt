-- `executor::execute::operate` meets its contract. Assumes nothing.
use borrow.Author.Rules.{rules}
use mathlib.Core.Path.{refl, ap, ◌∙◌}
use Rattle.model.specs.Word.{low, less, truth, not_process}
use lib.Bits.{bit_and, bit_or, bit_xor}
use Prim.Native.Nat.{◌+◌, ◌*◌}
use Rattle.model.specs.Instruction.{operation_code, rev, diff, prod, gt, ldpi, xor, mint, and, or, sum}
use Rattle.model.specs.Machine.{stack, push}
use Rattle.model.specs.Execute.{operate, above}
use Rattle.executor.proofs.Executes.{operates, settled, reduces}
use Rattle.executor.proofs.execute.operate.Goals as goal

pub returns-in-0 : goal.returns-in-0
unfolding operation_code operate
returns-in-0 c =
    settled (λ r. stack r.b r.a r.c r) (operates rev c.in-0.is) c.stack.ensures c.requires.sized.0 c.requires.sized.2 _ _
    _ _

pub returns-in-4 : goal.returns-in-4
unfolding operation_code operate
returns-in-4 c =
    reduces less (operates diff c.in-4.is)
    c.reduce.ensures c.less.ensures c.requires.sized.0 c.requires.sized.2 _ _ _ _

pub returns-in-8 : goal.returns-in-8
unfolding operation_code operate
returns-in-8 c =
    reduces (λ b a. low (b * a)) (operates prod c.in-8.is)
    c.reduce-in-8.ensures c.product.ensures c.requires.sized.0 c.requires.sized.2 _ _ _ _

pub returns-in-9 : goal.returns-in-9
unfolding operation_code operate
returns-in-9 c =
    reduces (λ b a. truth (above b a)) (operates gt c.in-9.is)
    c.reduce-in-9.ensures c.above.ensures c.requires.sized.0 c.requires.sized.2 _ _ _ _

pub returns-in-27 : goal.returns-in-27
unfolding operation_code operate
returns-in-27 c =
    settled (λ r. stack (low (r.place + r.a)) r.b r.c r) (operates ldpi c.in-27.is)
    (c.stack-in-27.ensures ∙ ap (λ v. stack v c.args.cpu.b c.args.cpu.c c.args.cpu) c.plus.ensures) c.requires.sized.0
    c.requires.sized.2 _ _ _ _

pub returns-in-51 : goal.returns-in-51
unfolding operation_code operate
returns-in-51 c =
    reduces bit_xor (operates xor c.in-51.is) c.reduce-in-51.ensures refl c.requires.sized.0 c.requires.sized.2 _ _ _ _

pub returns-in-66 : goal.returns-in-66
unfolding operation_code operate
returns-in-66 c =
    settled (push not_process) (operates mint c.in-66.is) c.push.ensures c.requires.sized.0 c.requires.sized.2 _ _ _ _

pub returns-in-70 : goal.returns-in-70
unfolding operation_code operate
returns-in-70 c =
    reduces bit_and (operates and c.in-70.is) c.reduce-in-70.ensures refl c.requires.sized.0 c.requires.sized.2 _ _ _ _

pub returns-in-75 : goal.returns-in-75
unfolding operation_code operate
returns-in-75 c =
    reduces bit_or (operates or c.in-75.is) c.reduce-in-75.ensures refl c.requires.sized.0 c.requires.sized.2 _ _ _ _

pub returns-in-82 : goal.returns-in-82
unfolding operation_code operate
returns-in-82 c =
    reduces (λ b a. low (b + a)) (operates sum c.in-82.is)
    c.reduce-in-82.ensures c.plus-in-82.ensures c.requires.sized.0 c.requires.sized.2 _ _ _ _

pub operate_process-requires-clause-other : goal.operate_process-requires-clause-other
unfolding operation_code
operate_process-requires-clause-other c = search rules
