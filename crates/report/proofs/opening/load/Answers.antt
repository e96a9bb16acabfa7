-- `report::opening::load` meets its contract. Assumes nothing.
use native.Mathlib.Omega.{arith}
use mathlib.Core.Path.{refl, sym, ◌∙◌}
use lib.Seq.{length-take-le}
use Rattle.model.specs.Limits.{code_limit}
use Rattle.model.specs.Code.{compile}
use Rattle.report.proofs.Starts.{facts-fit}
use Rattle.report.proofs.opening.load.Goals as goal

pub slice_bounds-begin-end : goal.slice_bounds-begin-end
slice_bounds-begin-end c =
    sym (length-take-le _ _ c.requires.size_in_bounds.0)

pub begin-requires : goal.begin-requires
begin-requires c =
    let f = facts-fit c.args.table.now _ (compile c.args.table.now code_limit) refl c.requires.code_limit_value (sym c.read.ensures.answer
    ∙ c.in-Ok.is) in
    (f.0, omega (arith, f.1, c.requires.size_in_bounds.1))

pub returns-in-Ok : goal.returns-in-Ok
returns-in-Ok c =
    rw (← c.read.ensures.answer, c.in-Ok.is) c.begin.ensures

pub returns-in-Err : goal.returns-in-Err
returns-in-Err c =
    rw (← c.read.ensures.answer, c.in-Err.is) (record { report = c.refusing.ensures; memory = refl })
