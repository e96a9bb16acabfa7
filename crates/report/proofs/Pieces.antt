-- Laws of texts that are put together.
use Prim.Native.Nat.{ℕ, zero, suc, ◌+◌, ◌-◌, ◌≤◌, ◌<◌, ◌/◌, ◌%◌}
use native.Mathlib.Omega.{arith}
use native.Mathlib.Numerals.{add-one}
use mathlib.Core.Path.{◌≡◌, refl}
use mathlib.Core.List.{List, [], ◌∷◌, ◌++◌, append_assoc}
use lib.ListN.{length, get_or, take, set}
use lib.Seq.{take-suc, take-suc-set}
use borrow.Author.Tests.{lt-ltb, le-ltb}
use Rattle.model.specs.Word.{signed}
use Rattle.model.specs.Bench.{digits}
use Rattle.report.specs.Texts.{signed_text}

-- a byte more
pub pushed : (l : List ℕ) (i b : ℕ) → i < length l → take (i + 1) (set l i b) ≡ take i l ++ b ∷ []
pushed l i b h = rw add-one (take-suc-set l i b h)

-- a text's byte more
pub further : {a b : List ℕ} (p t : List ℕ) (i : ℕ) → i < length t → b ≡ a ++ (get_or t i 0 ∷ []) → a ≡ p ++ take i t
    → b ≡ p ++ take (i + 1) t
further p t i h e f = rw (e, f, add-one, take-suc t i 0 h) (append_assoc p (take i t) (get_or t i 0 ∷ []))

module _ (n : ℕ) where
  -- no digits
  pub digits-none : {k : ℕ} → k ≡ 0 → [] ≡ digits k n
  unfolding digits
  digits-none e = rw e

  -- one digit
  pub digits-one : (k : ℕ) → (k ≡ 0 → ⊥) → n < 10 → (48 + n % 10) ∷ [] ≡ digits k n
  unfolding digits
  digits-one zero z h = absurd (z refl)
  digits-one (suc k) z h = rw (lt-ltb n 10 h)

  -- more digits
  pub digits_more : (k : ℕ) → (k ≡ 0 → ⊥) → 10 ≤ n → digits (k - 1) (n / 10) ++ (48 + n % 10) ∷ [] ≡ digits k n
  unfolding digits
  digits_more zero z h = absurd (z refl)
  digits_more (suc k) z h = let e : suc k - 1 ≡ k = omega arith in rw (e, le-ltb n 10 h)

module _ (v : ℕ) where
  -- a word below 2^31
  pub signed_low : v < 2147483648 → signed_text v ≡ digits 20 v
  unfolding signed
  signed_low h = rw (lt-ltb v 2147483648 h)

  -- and the others, which are below 0
  pub signed_high : 2147483648 ≤ v → v < 4294967296 → signed_text v ≡ 45 ∷ digits 20 (4294967296 - v)
  unfolding signed
  signed_high h k =
      let e : suc (4294967295 - v) ≡ 4294967296 - v = omega arith in
      rw (le-ltb v 2147483648 h, e)

-- three texts one behind the other
pub three : (a b c : List ℕ) {w x y z : List ℕ} → w ≡ [] → x ≡ w ++ a → y ≡ x ++ b → z ≡ y ++ c → z ≡ a ++ b ++ c
three a b c e f g h = rw (h, g, f, e)

-- and five
pub five :
    (a b c d k : List ℕ) {u v w x y z : List ℕ} → u ≡ [] → v ≡ u ++ a → w ≡ v ++ b → x ≡ w ++ c → y ≡ x ++ d → z ≡ y ++ k
    → z ≡ a ++ b ++ c ++ d ++ k
five a b c d k e f g h i j = rw (j, i, h, g, f, e)
