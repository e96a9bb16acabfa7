-- Stretches of code: the instructions that stand from one index up to another, and how a stretch is cut in two.
use Prim.Native.Nat.{ℕ, suc, ◌+◌, ◌^◌, ◌<◌}
use native.Mathlib.Omega.{arith}
use native.Mathlib.Nat.{add-zero, zero-add}
use mathlib.Core.Path.{◌≡◌, refl, ◌∙◌, subst}
use mathlib.Core.List.{List, [], ◌∷◌, ◌++◌, append_assoc}
use mathlib.Core.Option.{some}
use lib.ListN.{length, get_elem?}
use Rattle.model.specs.Word.{low, less}
use Rattle.model.specs.Instruction.{Instruction}

-- the instructions ys stand in xs from index i up to i'
pub data Seg (xs : List Instruction) : ℕ → List Instruction → ℕ → Type 0 where
  nil : {i : ℕ} → Seg xs i [] i
  at : {i i' : ℕ} {y : Instruction} {ys : List Instruction} → get_elem? xs i ≡ some y → Seg xs (suc i) ys i' → Seg xs i (y ∷ ys) i'

pub data Split (xs : List Instruction) (i : ℕ) (ys zs : List Instruction) (i' : ℕ) : Type 0 where
  split : {m : ℕ} → Seg xs i ys m → Seg xs m zs i' → Split xs i ys zs i'

pub apart : {xs : List Instruction} {i i' : ℕ} (ys : List Instruction) {zs : List Instruction} → Seg xs i (ys ++ zs) i'
    → Split xs i ys zs i'
apart [] g = split nil g
apart (y ∷ ys) (at e g) = elim (apart ys g) [ split g₁ g₂ ↦ split (at e g₁) g₂ ]

-- the same of the first of three
pub apart-first : {xs : List Instruction} {i i' : ℕ} (ys zs us : List Instruction) → Seg xs i ((ys ++ zs) ++ us) i'
    → Split xs i ys (zs ++ us) i'
apart-first {xs} {i} {i'} ys zs us h = apart ys (subst (λ l. Seg xs i l i') (append_assoc ys zs us) h)

pub seg-length : {xs ys : List Instruction} {i i' : ℕ} → Seg xs i ys i' → i' ≡ i + length ys
seg-length nil = omega arith
seg-length (at e g) = omega (arith, seg-length g)

-- a list stands in itself
seg-from : (xs zs : List Instruction) (i k : ℕ) → k ≡ i + length zs
    → ((j : ℕ) (y : Instruction) → get_elem? zs j ≡ some y → get_elem? xs (i + j) ≡ some y) → Seg xs i zs k
seg-from xs [] i k e h = let same : k ≡ i = omega arith in rw same nil
seg-from xs (z ∷ zs) i k e h =
    at (rw (add-zero i) at (h 0 z refl))
    (seg-from xs zs (suc i) k (omega arith) (λ j y q. let next : i + suc j ≡ suc i + j = omega arith in rw next at (h (suc j) y q)))

pub seg-whole : (xs : List Instruction) → Seg xs 0 xs (length xs)
seg-whole xs = seg-from xs xs 0 (length xs) (omega arith) (λ j y e. rw (zero-add j) e)

-- the same with the index in between given
pub cut : {xs : List Instruction} {i i' : ℕ} (ys : List Instruction) {zs : List Instruction} (m : ℕ) → i + length ys ≡ m
    → Seg xs i (ys ++ zs) i'
    → Seg xs i ys m × Seg xs m zs i'
cut {xs} {i} {i'} ys {zs} m e g = elim (apart ys g) [
  | split {m = n} g₁ g₂ ↦
      let q : n ≡ m = seg-length g₁ ∙ e in (rw q at g₁, subst (λ k. Seg xs k zs i') q g₂)
]

-- a name's word, counted from w, is its word again
pub local-word : (w a : ℕ) → w < 2 ^ 32 → a < 2 ^ 32 → low (w + less a w) ≡ a
local-word w a hw ha = omega arith
