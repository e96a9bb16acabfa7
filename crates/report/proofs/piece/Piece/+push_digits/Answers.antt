-- `report::piece::Piece::push_digits` meets its contract; the measure is the digits that are left. Assumes nothing.
use native.Mathlib.Omega.{arith}
use mathlib.Core.Path.{ap, sym, ◌∙◌}
use mathlib.Core.List.{◌++◌, append_assoc, append-nil}
use Rattle.report.specs.Texts.{text_in}
use Rattle.report.proofs.Pieces.{digits-none, digits-one, digits_more}
use Rattle.report.proofs.piece.Piece.+push_digits.Goals as goal

pub returns-then-k-eq0 : goal.returns-then-k-eq0
returns-then-k-eq0 t c =
    (sym (append-nil _) ∙ ap (λ l. text_in c.args.self ++ l) (digits-none c.args.n c.if-k-eq0.true), omega arith)

pub push-requires : goal.push-requires
push-requires t c = omega (arith, c.requires)

pub returns-then-n-lt10 : goal.returns-then-n-lt10
returns-then-n-lt10 t c = (
  c.push.ensures.text ∙ ap (λ l. text_in c.args.self ++ l) (digits-one c.args.n c.args.k c.if-k-eq0.false c.if-n-lt10.true),
  omega (arith, c.push.ensures.long, c.if-k-eq0.false),
)

pub push_digits-requires : goal.push_digits-requires
push_digits-requires t c =
    (omega (arith, c.if-k-eq0.false), omega (arith, c.requires, c.if-k-eq0.false))

pub push-requires-2 : goal.push-requires-2
push-requires-2 t c =
    omega (arith, c.push_digits.ensures.1, c.requires, c.if-k-eq0.false)

pub returns : goal.returns
returns t c = (
  rw (c.push-2.ensures.text, c.push_digits.ensures.0, append_assoc) (ap (λ l. text_in c.args.self ++ l)
      (digits_more c.args.n c.args.k c.if-k-eq0.false c.if-n-lt10.false)),
  omega (arith, c.push-2.ensures.long, c.push_digits.ensures.1, c.if-k-eq0.false),
)
