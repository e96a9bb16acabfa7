-- `report::piece::Piece::refused_line` meets its contract. Assumes nothing.
use Rattle.model.specs.Bench.{ascii, decimal, newline}
use Rattle.report.proofs.Pieces.{five}
use Rattle.report.proofs.piece.Piece.refused_line.Goals as goal

pub returns : goal.returns
unfolding ascii
returns c =
    five (ascii "refused ") (decimal c.args.n) (ascii " at ") (decimal c.args.p) newline
    c.nothing.ensures.0 c.push_text.ensures.text
    c.push_digits-number.ensures.0 c.push_text-2.ensures.text c.push_digits-place.ensures.0 c.push.ensures.text
