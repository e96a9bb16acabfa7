-- `report::piece::Piece::push_text` meets its contract: the bytes so far are behind the text.
use Prim.Native.Nat.{◌+◌}
use mathlib.Core.Path.{◌≡◌}
use mathlib.Core.List.{◌++◌}
use lib.ListN.{take}
use Rattle.report.specs.Texts.{text_in}
use Rattle.report.proofs.piece.Piece.push_text.Given as goal

abbrev pub invariant-loop-b : goal.invariant-loop-b
invariant-loop-b l =
    (text_in l.longer ≡ text_in l.initial.longer ++ take l.b-index l.text) × (l.longer.length ≡ l.initial.longer.length + l.b-index)
