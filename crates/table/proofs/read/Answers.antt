-- `table::read` meets its contract. Assumes nothing.
use mathlib.Core.Path.{ap, ◌∙◌}
use Rattle.model.specs.Answers.{refused_reading}
use Rattle.model.specs.Accept.{accept}
use Rattle.model.proofs.Laws.Refused.{read-refuses}
use Rattle.table.proofs.SameTable.{table_same}
use Rattle.table.proofs.read.Goals as goal

pub returns : goal.returns
returns c =
    let e = c.read_table.ensures ∙ table_same _ (λ i. (c.shared_slice_known-1.given i).fits) in
    record { answer = e; refusal = ap refused_reading e ∙ read-refuses (accept _) }
