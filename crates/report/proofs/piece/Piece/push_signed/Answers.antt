-- `report::piece::Piece::push_signed` meets its contract. Assumes nothing.
use native.Mathlib.Omega.{arith}
use mathlib.Core.List.{append_assoc}
use Rattle.report.proofs.Pieces.{signed_low, signed_high}
use Rattle.report.proofs.piece.Piece.push_signed.Goals as goal

pub returns-then-v-lt2147483648 : goal.returns-then-v-lt2147483648
returns-then-v-lt2147483648 c =
    (rw (signed_low c.args.v c.if-v-lt2147483648.true) c.push_digits.ensures.0, omega (arith, c.push_digits.ensures.1))

pub returns : goal.returns
returns c = (
  rw (c.push_digits-2.ensures.0, c.push.ensures.text, signed_high c.args.v c.if-v-lt2147483648.false (omega arith)) (simp append_assoc),
  omega (arith, c.push_digits-2.ensures.1, c.push.ensures.long),
)
