-- `instruction::decoder::decode` meets its contract. The loop's invariant: what is decoded from the start is decoded from here with the
-- operand so far. The measure is the code that is left. Assumes nothing.
use Prim.Native.Nat.{ℕ, suc, ◌+◌, ◌-◌, ◌/◌, ◌≤◌, ◌<◌}
use native.Mathlib.Omega.{arith}
use native.Mathlib.Numerals.{add-one}
use mathlib.Core.Path.{◌≡◌, ap, sym, ◌∙◌}
use mathlib.Core.Bool.{cond}
use mathlib.Core.List.{List}
use mathlib.Core.Option.{none, some}
use lib.ListN.{length, get_or, drop, length-drop, drop_of_length-le}
use lib.Seq.{drop-cons}
use Rattle.model.specs.Prefix.{gathered, decode}
use Rattle.instruction.specs.Coded.{is_prefix, moved_up, answer}
use Rattle.instruction.proofs.Decodes.{decode-byte}
use Rattle.instruction.proofs.decoder.decode.Goals as goal

ended : (s : List ℕ) (at o : ℕ) → length s ≤ at → decode o (drop at s) ≡ none
unfolding decode
ended s at o h = rw (drop_of_length-le s h)

-- a byte's place of the code, and what is decoded from there
module _ (s : List ℕ) (at o : ℕ) (inside : at < length s) where
  turn : let b = get_or s at 0 in
      decode o (drop at s) ≡ cond (is_prefix (b / 16)) (decode (moved_up (gathered o b) (b / 16)) (drop (at + 1) s))
      (some (record { function = b / 16; operand = gathered o b; rest = drop (at + 1) s }))
  turn = rw (drop-cons s at 0 inside, add-one) (decode-byte o (get_or s at 0) (drop (suc at) s))

  place : length s - length (drop (at + 1) s) ≡ at + 1
  place = simp length-drop (omega arith)

pub loop-at-preserved : goal.loop-at-preserved
loop-at-preserved c =
    c.loop-at.invariant
    ∙ turn c.args.code.now c.loop-at.at c.loop-at.operand c.if-code-at.false
    ∙ simp (
      sym c.is_prefix.ensures ∙ c.if-not-is_prefix.false,
      c.prefixed-operand.ensures,
      c.gather-whole.ensures,
    )

pub returns-then-code-at : goal.returns-then-code-at
returns-then-code-at c =
    sym (ap (answer (length c.args.code.now)) (c.loop-at.invariant ∙ ended _ _ _ c.if-code-at.true))

pub returns-then-not-is_prefix : goal.returns-then-not-is_prefix
returns-then-not-is_prefix c =
    simp (
      c.loop-at.invariant,
      turn c.args.code.now c.loop-at.at c.loop-at.operand c.if-code-at.false,
      sym c.is_prefix.ensures ∙ c.if-not-is_prefix.true,
      c.gather-whole.ensures,
      place c.args.code.now c.loop-at.at c.loop-at.operand c.if-code-at.false,
    )
