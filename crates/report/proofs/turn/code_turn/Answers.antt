-- `report::turn::code_turn` meets its contract. Assumes nothing.
use mathlib.Core.Path.{◌∙◌, ap}
use mathlib.Core.List.{◌++◌, ◌∷◌, []}
use Rattle.model.specs.Bench.{hex}
use Rattle.report.proofs.Turns.{said, turn-code, turn-newline}
use Rattle.report.proofs.turn.code_turn.Goals as goal

pub returns-then-i-code : goal.returns-then-i-code
unfolding hex
returns-then-i-code c l =
    said (turn-code _ _ l c.requires c.if-i-code.true) c.code_byte.ensures (c.say.ensures l)

pub returns : goal.returns
returns c l =
    said (turn-newline _ _ l c.requires c.if-i-code.false)
    (c.push.ensures.text ∙ ap (λ t. t ++ 10 ∷ []) c.nothing.ensures.0)
    (c.say-2.ensures l)
