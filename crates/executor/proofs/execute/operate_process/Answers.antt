-- `executor::execute::operate_process` meets its contract. Assumes nothing.
use borrow.Author.Rules.{rules}
use mathlib.Core.Path.{refl}
use Rattle.model.specs.Instruction.{operation_code, endp, «in», startp, outword, stopp}
use Rattle.model.specs.Execute.{operate, start_process}
use Rattle.processor.proofs.Laws.{like}
use Rattle.processor.proofs.Talking.{takes_none, poke-join-lands, untimed}
use Rattle.executor.proofs.Executes.{operates, done-as}
use Rattle.executor.proofs.execute.operate_process.Goals as goal

pub returns-in-3 : goal.returns-in-3
unfolding operation_code operate
returns-in-3 c =
    done-as _ _ _ _ (operates endp c.in-3.is) (c.end_process.ensures c.args.setup c.requires.sized.1 refl)

pub returns-in-7 : goal.returns-in-7
unfolding operation_code operate
returns-in-7 c =
    rw (operates «in» c.in-7.is) (untimed _ _ c.input.ensures)

pub returns-in-13 : goal.returns-in-13
unfolding operation_code operate start_process
returns-in-13 c =
    done-as _ _ _ _ (operates startp c.in-13.is)
    (like (c.start_process.ensures c.args.setup c.requires.sized.1)
    (λ x. poke-join-lands x _ _ _ c.requires.sized.0 c.requires.sized.2 _ _ _))

pub returns-in-15 : goal.returns-in-15
unfolding operation_code operate
returns-in-15 c =
    rw (operates outword c.in-15.is) (untimed _ _ (takes_none _ _ (c.output.ensures c.args.setup c.requires.sized.1 refl)))

pub returns-in-21 : goal.returns-in-21
unfolding operation_code operate
returns-in-21 c =
    done-as _ _ _ _ (operates stopp c.in-21.is) (c.stop_process.ensures c.args.setup c.requires.sized.1 refl)

pub returns-in_default : goal.returns-in_default
returns-in_default c = c.operate_alt.ensures _

pub operate_alt-requires-clause-other : goal.operate_alt-requires-clause-other
unfolding operation_code
operate_alt-requires-clause-other c = search rules
