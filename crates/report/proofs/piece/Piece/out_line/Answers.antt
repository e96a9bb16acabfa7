-- `report::piece::Piece::out_line` meets its contract. Assumes nothing.
use Rattle.model.specs.Bench.{ascii, decimal, newline}
use Rattle.report.specs.Texts.{signed_text}
use Rattle.report.proofs.Pieces.{five}
use Rattle.report.proofs.piece.Piece.out_line.Goals as goal

pub returns : goal.returns
unfolding ascii
returns c =
    five (ascii "out ") (decimal c.args.k) (ascii " ") (signed_text c.args.v) newline c.nothing.ensures.0 c.push_text.ensures.text
    c.push_digits-name.ensures.0 c.push.ensures.text c.push_signed.ensures.0 c.push-2.ensures.text
