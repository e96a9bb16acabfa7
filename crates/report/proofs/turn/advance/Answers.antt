-- `report::turn::advance` meets its contract. Assumes nothing.
use mathlib.Core.Path.{refl, ap, ◌∙◌}
use mathlib.Core.List.{◌++◌}
use Rattle.model.specs.Bench.{ascii}
use Rattle.report.proofs.Turns.{said, turn-bytes, turn-words, turn-head, turn-refused, turn-done}
use Rattle.report.proofs.turn.advance.Goals as goal

pub returns-in-Bytes : goal.returns-in-Bytes
unfolding ascii
returns-in-Bytes c =
    said (turn-bytes _ _ _ c.in-Bytes.is) c.line.ensures (c.say.ensures _)

pub returns-in-Words : goal.returns-in-Words
unfolding ascii
returns-in-Words c =
    said (turn-words _ _ _ c.in-Words.is) c.line-in-Words.ensures (c.say-in-Words.ensures _)

pub returns-in-Head : goal.returns-in-Head
unfolding ascii
returns-in-Head c =
    said (turn-head _ _ _ c.in-Head.is)
    (c.push_text.ensures.text ∙ ap (λ t. t ++ ascii "code") c.nothing.ensures.0) (c.say-in-Head.ensures _)

pub returns-in-Code : goal.returns-in-Code
returns-in-Code c = c.code_turn.ensures _

pub returns-in-Taking : goal.returns-in-Taking
returns-in-Taking c = c.take_turn.ensures _

pub returns-in-Refused : goal.returns-in-Refused
returns-in-Refused c =
    said (turn-refused _ _ _ c.in-Refused.is) c.refused_line.ensures (c.say-in-Refused.ensures _)

pub returns-in-Done : goal.returns-in-Done
returns-in-Done c =
    rw (turn-done c.args.code.now c.args.report c.args.memory.now c.in-Done.is)
    (record { report = refl; text = c.nothing-in-Done.ensures.0; memory = refl; more = refl })
