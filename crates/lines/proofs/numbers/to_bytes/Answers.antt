-- `lines::numbers::to_bytes` meets its contract: one number more is one byte more, and those without room make no difference.
use Prim.Native.Nat.{ℕ, zero, suc, ◌<◌, ◌+◌, ◌%◌}
use native.Mathlib.Numerals.{add-one}
use native.Mathlib.Omega.{arith}
use mathlib.Core.Path.{◌≡◌, refl, sym, ap, ◌∙◌}
use mathlib.Core.List.{List, [], ◌∷◌}
use lib.ListN.{length, take, get_or, set}
use Rattle.lines.specs.Rows.{low_bytes}
use Rattle.lines.proofs.numbers.to_bytes.Goals as goal

one_more : (i : ℕ) (ns b : List ℕ) → i < length ns → i < length b
    → low_bytes (take (suc i) ns) b ≡ set (low_bytes (take i ns) b) i (get_or ns i 0 % 256)
unfolding low_bytes
one_more i [] b p q = absurd (omega arith)
one_more i (n ∷ ns) [] p q = absurd (omega arith)
one_more zero (n ∷ ns) (x ∷ b) p q = refl
one_more (suc i) (n ∷ ns) (x ∷ b) p q = ap (λ (r : List ℕ). n % 256 ∷ r) (one_more i ns b (omega arith) (omega arith))

enough : (i : ℕ) (ns b : List ℕ) → (i < length ns → i < length b → ⊥) → low_bytes (take i ns) b ≡ low_bytes ns b
unfolding low_bytes
enough zero [] b p = refl
enough zero (n ∷ ns) [] p = refl
enough zero (n ∷ ns) (x ∷ b) p = absurd (p (omega arith) (omega arith))
enough (suc i) [] b p = refl
enough (suc i) (n ∷ ns) [] p = refl
enough (suc i) (n ∷ ns) (x ∷ b) p =
    ap (λ (r : List ℕ). n % 256 ∷ r) (enough i ns b (λ q r. p (omega arith) (omega arith)))

pub loop-i-init : goal.loop-i-init
unfolding low_bytes
loop-i-init c = refl

pub loop-i-preserved : goal.loop-i-preserved
loop-i-preserved c =
    ap (λ (b : List ℕ). set b c.loop-i.i (get_or c.args.numbers.now c.loop-i.i 0 % 256)) c.loop-i.invariant
    ∙ sym (ap (λ (k : ℕ). low_bytes (take k c.args.numbers.now) c.args.bytes.now) (add-one c.loop-i.i)
    ∙ one_more c.loop-i.i c.args.numbers.now c.args.bytes.now (omega (arith, c.min-count.ensures)) (omega (arith, c.min-count.ensures)))

pub returns-clause-bytes_after : goal.returns-clause-bytes_after
returns-clause-bytes_after c =
    c.loop-i.invariant ∙ enough c.loop-i.i c.args.numbers.now c.args.bytes.now (λ p q. omega (arith, c.min-count.ensures))
