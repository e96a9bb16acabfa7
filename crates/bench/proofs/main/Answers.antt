-- `bench::main` is safe and ends: the bytes that were read are in the room. Assumes nothing.
use mathlib.Core.Path.{sym}
use lib.Seq.{length-take-le}
use Rattle.bench.proofs.main.Goals as goal

pub slice_bounds-table-end : goal.slice_bounds-table-end
slice_bounds-table-end c = rw c.in-Ok.is at c.read_table.ensures

pub slice_bounds-print_report-end : goal.slice_bounds-print_report-end
slice_bounds-print_report-end c =
    sym (length-take-le _ _ (rw c.in-Ok.is at c.read_table.ensures))
