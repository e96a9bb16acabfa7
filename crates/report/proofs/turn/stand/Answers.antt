-- `report::turn::stand` meets its contract. Assumes nothing.
use borrow.Author.Rules.{rules}
use mathlib.Core.Path.{refl}
use Rattle.model.specs.Bench.{ascii}
use Rattle.report.proofs.turn.stand.Goals as goal

pub finish-requires : goal.finish-requires
finish-requires c =
    (rw c.in-Ended.is at c.requires.0, c.requires.1, search rules)

pub after_run-requires : goal.after_run-requires
after_run-requires c =
    (rw c.in-Waiting.is at c.requires.0, c.requires.1)

pub finish-requires-in-Spent : goal.finish-requires-in-Spent
finish-requires-in-Spent c =
    (rw c.in-Spent.is at c.requires.0, c.requires.1, search rules)

pub finish-requires-in-Fault : goal.finish-requires-in-Fault
finish-requires-in-Fault c =
    (rw c.in-Fault.is at c.requires.0, c.requires.1, search rules)

pub returns-in-Ended : goal.returns-in-Ended
unfolding ascii
returns-in-Ended c l =
    rw c.in-Ended.is (c.finish.ensures l)

pub returns-in-Waiting : goal.returns-in-Waiting
returns-in-Waiting c l =
    rw c.in-Waiting.is (record { report = c.after_run.ensures; text = c.nothing.ensures.0; memory = refl; more = refl })

pub returns-in-Spent : goal.returns-in-Spent
unfolding ascii
returns-in-Spent c l =
    rw c.in-Spent.is (c.finish-in-Spent.ensures l)

pub returns-in-Fault : goal.returns-in-Fault
unfolding ascii
returns-in-Fault c l =
    rw c.in-Fault.is (c.finish-in-Fault.ensures l)
