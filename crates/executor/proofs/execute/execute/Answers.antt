-- `executor::execute::execute` meets its contract. Assumes nothing.
use borrow.Author.Rules.{rules}
use Prim.Native.Nat.{◌+◌}
use mathlib.Core.Path.{refl, ap, ◌∙◌}
use lib.Dec.{eqb}
use Rattle.model.specs.Word.{low, truth}
use Rattle.model.specs.Instruction.{function_code, function_of, functions, j, ldlp, ldc, ldl, cj, ajw, eqc, stl, opr}
use Rattle.model.specs.Machine.{stack, work, push}
use Rattle.model.specs.Execute.{execute}
use Rattle.executor.specs.Steps.{executing}
use Rattle.executor.proofs.Executes.{flag, executes, settled, done-as, faulted, Uncoded, uncoded}
use Rattle.executor.proofs.execute.execute.Goals as goal

pub returns-in-0 : goal.returns-in-0
unfolding function_code execute
returns-in-0 c =
    done-as _ _ _ _ (executes j _ c.in-0.is) (search rules)

pub returns-in-1 : goal.returns-in-1
unfolding function_code execute
returns-in-1 c =
    settled (λ r. push (low (r.workspace + c.args.n)) r) (executes ldlp c.args.n c.in-1.is)
    (c.push.ensures ∙ ap (λ v. push v c.args.cpu) c.plus.ensures) c.requires.sized.0 c.requires.sized.2 _ _ _ _

pub returns-in-4 : goal.returns-in-4
unfolding function_code execute
returns-in-4 c =
    settled (push c.args.n) (executes ldc c.args.n c.in-4.is) c.push-in-4.ensures c.requires.sized.0 c.requires.sized.2 _
    _ _ _

pub returns-in-7 : goal.returns-in-7
unfolding function_code execute
returns-in-7 c =
    done-as _ _ _ _ (executes ldl _ c.in-7.is) (c.load_local.ensures c.args.setup c.requires.sized.1 c.requires.sized.2)

pub returns-in-10 : goal.returns-in-10
unfolding function_code execute
returns-in-10 c =
    done-as _ _ _ _ (executes cj _ c.in-10.is) (c.conditional_jump.ensures c.args.setup refl _)

pub returns-in-11 : goal.returns-in-11
unfolding function_code execute
returns-in-11 c =
    settled (λ r. work (low (r.workspace + c.args.n)) r) (executes ajw c.args.n c.in-11.is)
    (c.work.ensures ∙ ap (λ v. work v c.args.cpu) c.plus-in-11.ensures) c.requires.sized.0 c.requires.sized.2 _ _ _ _

pub returns-in-12 : goal.returns-in-12
unfolding function_code execute
returns-in-12 c =
    settled (λ r. stack (truth (eqb r.a c.args.n)) r.b r.c r)
    (executes eqc c.args.n c.in-12.is)
    (c.stack.ensures ∙ ap (λ v. stack v c.args.cpu.b c.args.cpu.c c.args.cpu) (c.from.ensures ∙ flag (eqb c.args.cpu.a c.args.n)))
    c.requires.sized.0 c.requires.sized.2 _ _ _ _

pub returns-in-13 : goal.returns-in-13
unfolding function_code execute
returns-in-13 c =
    done-as _ _ _ _ (executes stl _ c.in-13.is) (c.store_local.ensures c.args.setup c.requires.sized.1 c.requires.sized.2)

pub returns-in-15 : goal.returns-in-15
unfolding function_code
returns-in-15 c =
    rw (executes opr c.args.n c.in-15.is) c.operate.ensures

pub returns-in_default : goal.returns-in_default
unfolding function_code function_of
returns-in_default c =
    let others : Uncoded function_code c.args.function functions = search rules in
    let no = uncoded function_code _ functions others in
    faulted {act = executing c.args.function c.args.n} _ _ _ _ (rw no)
