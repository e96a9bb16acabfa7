-- `report::opening::begin` meets its contract. Assumes nothing.
use mathlib.Core.Path.{sym, ap}
use mathlib.Core.List.{◌++◌}
use lib.ListN.{drop}
use lib.Seq.{length-take-le}
use Rattle.report.proofs.opening.begin.Goals as goal

pub slice_bounds-start-end-2 : goal.slice_bounds-start-end-2
slice_bounds-start-end-2 c =
    sym (length-take-le _ _ c.requires.1)

pub returns : goal.returns
returns c =
    record {
      report = rw c.start-begun.ensures.machine;
      memory = ap (λ l. l
          ++ drop c.args.facts.words c.args.memory.now) c.start-begun.ensures.memory;
    }
