-- The bytes of prefixes: how many, and the last of them stored first.
use Prim.Native.Nat.{ℕ, zero, suc, ◌+◌, ◌-◌, ◌%◌, ◌<◌, ◌≤◌}
use native.Mathlib.Omega.{arith}
use mathlib.Core.Path.{◌≡◌, sym}
use mathlib.Core.List.{List, [], ◌∷◌, ◌++◌}
use lib.ListN.{set}
use lib.Seq.{sets}
use Rattle.model.specs.Prefix.{shifted, first_prefix, prefixes}
use Rattle.model.proofs.Coding.RoundTrip.{prefixes-length}
use Rattle.instruction.proofs.Stores.{sets-join}

-- `prefixes` unrolled once
pub none : (k n : ℕ) → k ≡ 0 → prefixes k n ≡ []
unfolding prefixes
none k n e = rw e

pub one : (k n : ℕ) → k ≤ 1 → (k ≡ 0 → ⊥) → prefixes k n ≡ first_prefix n ∷ []
unfolding prefixes
one k n h p = let e : k ≡ 1 = omega arith in rw e

turn : (k n : ℕ) → 1 < k → prefixes k n ≡ prefixes (k - 1) (shifted n) ++ (32 + n % 16) ∷ []
unfolding prefixes
turn zero n h = absurd (omega arith)
turn (suc zero) n h = absurd (omega arith)
turn (suc (suc k)) n h = let e : suc (suc k) - 1 ≡ suc k = omega arith in rw e

-- the byte behind some prefixes, stored before them
pub stored-before : (l : List ℕ) (i k n b : ℕ) → sets (set l (i + k) b) i (prefixes k n) ≡ sets l i (prefixes k n ++ b ∷ [])
stored-before l i k n b = rw prefixes-length at (sets-join (prefixes k n) (b ∷ []) l i)

pub turn-stored : (l : List ℕ) (i k n : ℕ) → 1 < k
    → sets l i (prefixes k n) ≡ sets (set l (i + (k - 1)) (32 + n % 16)) i (prefixes (k - 1) (shifted n))
turn-stored l i k n h = rw (turn k n h) (sym (stored-before l i (k - 1) (shifted n) (32 + n % 16)))
