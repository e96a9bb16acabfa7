-- `report::piece::Piece::push_digits` meets its contract; the measure is the digits that are left. Assumes nothing.
use Rattle.report.proofs.piece.Piece.+push_digits.Given as goal

abbrev pub decreases-push_digits : goal.decreases-push_digits
decreases-push_digits l = l.k
