-- `report::piece::Piece::line` meets its contract. Assumes nothing.
use Rattle.model.specs.Bench.{decimal, newline}
use Rattle.report.proofs.Pieces.{three}
use Rattle.report.proofs.piece.Piece.line.Goals as goal

pub returns : goal.returns
returns c =
    three c.args.name.now (decimal c.args.n) newline
    c.nothing.ensures.0 c.push_text.ensures.text c.push_digits.ensures.0 c.push.ensures.text
