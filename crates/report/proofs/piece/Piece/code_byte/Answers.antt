-- `report::piece::Piece::code_byte` meets its contract. Assumes nothing.
use Rattle.report.proofs.piece.Piece.code_byte.Goals as goal

pub returns : goal.returns
returns c =
    rw (
      c.push-3.ensures.text,
      c.push-2.ensures.text,
      c.push.ensures.text,
      c.nothing.ensures.0,
      c.make_hex_digit-high.ensures,
      c.make_hex_digit-low.ensures,
    )
