-- The words that statements ask for (01, "Workspace and code"; 02, orders 2 and 4).
use Rattle.std.specs.Prelude.{ℕ, ◌+◌, max}
use Rattle.model.specs.Counts.{guard_words}
use Rattle.numbers.specs.Kinds.{by_head}
use Rattle.numbers.specs.declared.kinds.Head.{Head}
use Rattle.counts.specs.declared.Role.{Role}
use Rattle.counts.specs.declared.Role.TheVariants.{Value as ForValue, Output as ForOutput, Guard as ForGuard, Wait as ForWait}
use Rattle.counts.specs.declared.Role.TheVariants.{Time as ForTime}

-- by the stored values of an expression in it. 01: assignment 2; output 4. 02, order 2: at least t + 2; an output t + 3; an ALT t + 8.
-- Order 4: WAIT 5; an ALT with a time guard 6
unfoldable pub asked : Role → (stored : ℕ) → ℕ
asked ForValue t = t + 2
asked ForOutput t = max 4 (t + 3)
asked ForGuard t = guard_words t
asked ForWait t = max 5 (t + 2)
asked ForTime t = max 6 (guard_words t)

-- the least words that a statement of parts needs. 01: SEQ, IF, WHILE at least 2; ALT at least 4
abbrev pub least_words : Head → ℕ
least_words h = by_head h 2 2 4
