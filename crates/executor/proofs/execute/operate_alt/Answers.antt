-- `executor::execute::operate_alt` meets its contract. Assumes nothing.
use borrow.Author.Rules.{rules}
use mathlib.Core.Path.{refl}
use Rattle.model.specs.Instruction.{operation_code, disc, diss, alt, altwt, altend, enbc, enbs}
use Rattle.model.specs.Execute.{operate}
use Rattle.processor.proofs.Talking.{untimed}
use Rattle.executor.proofs.Executes.{operates, done-as}
use Rattle.executor.proofs.execute.operate_alt.Goals as goal

pub returns-in-47 : goal.returns-in-47
unfolding operation_code operate
returns-in-47 c o =
    rw (operates disc c.in-47.is) (untimed _ _ (c.disable_channel.ensures o))

pub returns-in-48 : goal.returns-in-48
unfolding operation_code operate
returns-in-48 c o =
    done-as _ _ _ _ (operates diss c.in-48.is) (c.disable_skip.ensures c.args.setup c.requires.sized.1 c.requires.sized.2)

pub returns-in-67 : goal.returns-in-67
unfolding operation_code operate
returns-in-67 c o =
    done-as _ _ _ _ (operates alt c.in-67.is) (c.begin_alt.ensures c.args.setup c.requires.sized.1 c.requires.sized.2)

pub returns-in-68 : goal.returns-in-68
unfolding operation_code operate
returns-in-68 c o =
    done-as _ _ _ _ (operates altwt c.in-68.is) (c.wait_alt.ensures c.args.setup c.requires.sized.1 refl)

pub returns-in-69 : goal.returns-in-69
unfolding operation_code operate
returns-in-69 c o =
    done-as _ _ _ _ (operates altend c.in-69.is) (c.end_alt.ensures c.args.setup c.requires.sized.1 refl)

pub returns-in-72 : goal.returns-in-72
unfolding operation_code operate
returns-in-72 c o =
    rw (operates enbc c.in-72.is) (untimed _ _ (c.enable_channel.ensures o))

pub returns-in-73 : goal.returns-in-73
unfolding operation_code operate
returns-in-73 c o =
    done-as _ _ _ _ (operates enbs c.in-73.is) (c.enable_skip.ensures c.args.setup c.requires.sized.1 c.requires.sized.2)

pub returns-in_default : goal.returns-in_default
returns-in_default c o =
    c.operate_timer.ensures c.args.setup c.requires.sized.1 refl o _

pub operate_timer-requires-clause-other : goal.operate_timer-requires-clause-other
unfolding operation_code
operate_timer-requires-clause-other c = search rules
