-- A program's code as it is found: its instructions, where each begins, the words of its names and the workspace it starts at.
use Prim.Native.Nat.{ℕ, zero, suc, ◌≤◌, ◌<◌}
use native.Mathlib.Omega.{arith}
use mathlib.Core.Path.{◌≡◌}
use mathlib.Core.List.{List, [], ◌∷◌}
use mathlib.Core.Option.{some}
use lib.ListN.{length, get_elem?}
use Rattle.model.specs.Limits.{word_limit}
use Rattle.model.specs.Syntax.{Site}
use Rattle.model.specs.Instruction.{Instruction}

-- what a program's code is found to be: its instructions, the first byte of each, the words of names, the W it starts at.
-- Instructions take bytes, so places rise with indices
pub record Setting : Type 0 where
  pub xs : List Instruction
  pub off : ℕ → ℕ
  pub word : Site → ℕ
  pub top : ℕ
  pub top_small : top ≤ word_limit
  pub rises : (i k : ℕ) → i < k → k ≤ length xs → off i < off k

abbrev pub whole : Setting → ℕ
whole S = S.off (length S.xs)

pub get_elem-inside : {A : Type 0} (l : List A) (i : ℕ) {a : A} → get_elem? l i ≡ some a → i < length l
get_elem-inside [] i e = let z : ◌≡◌ {A = ℕ} 0 1 = cc in absurd (omega arith)
get_elem-inside (x ∷ l) zero e = omega arith
get_elem-inside (x ∷ l) (suc i) e = omega (arith, get_elem-inside l i e)

module _ (S : Setting) where
  abbrev pub At : ℕ → Instruction → Type 0
  At i x = get_elem? S.xs i ≡ some x
