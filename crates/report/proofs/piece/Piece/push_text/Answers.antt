-- `report::piece::Piece::push_text` meets its contract. Assumes nothing.
use native.Mathlib.Omega.{arith}
use mathlib.Core.Path.{◌≡◌, sym, ◌∙◌}
use mathlib.Core.List.{append-nil}
use lib.ListN.{length}
use lib.Seq.{take-length}
use Rattle.report.specs.Texts.{text_in}
use Rattle.report.proofs.Pieces.{further}
use Rattle.report.proofs.piece.Piece.push_text.Goals as goal

pub loop-b-init : goal.loop-b-init
loop-b-init c = (sym (append-nil _), omega arith)

pub push-longer-requires : goal.push-longer-requires
push-longer-requires c = omega (arith, c.loop-b.invariant.1)

pub loop-b-preserved : goal.loop-b-preserved
loop-b-preserved c = (
  further (text_in c.args.self) c.args.text.now c.loop-b.b-index c.loop-b-test.true c.push-longer.ensures.text c.loop-b.invariant.0,
  omega (arith, c.loop-b.invariant.1, c.push-longer.ensures.long),
)

pub returns : goal.returns
returns c =
    let e : c.loop-b.b-index ≡ length c.args.text.now = omega arith in
    record { text = c.loop-b.invariant.0 ∙ rw (e, take-length c.args.text.now); long = omega (arith, c.loop-b.invariant.1) }
