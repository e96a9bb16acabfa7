-- Words of names.
use Prim.Native.Nat.{ℕ, zero, suc, ◌+◌, ◌*◌, ◌/◌, ◌%◌, ◌^◌, ◌≤◌, ◌<◌, min, max}
use native.Mathlib.Omega.{arith}
use native.Mathlib.Nat.{pow-suc, mod-eq_of_lt, mod-one, one-mul}
use mathlib.Core.Path.{◌≡◌, refl, sym, ap, ◌∙◌}
use mathlib.Core.Bool.{Bool, true, false, cond, ◌&&◌, ◌||◌}
use mathlib.Core.List.{List, [], ◌∷◌, ◌++◌}
use mathlib.Core.Option.{some, some-injective}
use lib.ListN.{length, get_elem?}
use lib.Dec.{lit≤, eqb, eqb-zero-suc, eqb-suc-zero, eqb-suc-suc}
use lib.Arith.{bin_ind, mod-mul}
use lib.Pow.{pow_pos, shl_exact}
use lib.Bits.{bit_and, bit_or, or_step, and_step}
use Rattle.model.proofs.Cases.{by_bool, never}
use Rattle.model.specs.Syntax.{Site}
use Rattle.table.specs.Sets.{word_of}

-- one bit more, by halves
low_bit : (t : Bool) → cond t 1 0 ≤ 1
low_bit true = omega arith
low_bit false = omega arith

-- an operation on the bits of two words is one on the tests of their names
record Bitwise (op : ℕ → ℕ → ℕ) (test : Bool → Bool → Bool) : Type 0 where
  on_bit : ℕ → ℕ → ℕ
  step : (a b : ℕ) → op a b ≡ op (a / 2) (b / 2) * 2 + on_bit (a % 2) (b % 2)
  bit : (s t : Bool) → on_bit (cond s 1 0) (cond t 1 0) ≡ cond (test s t) 1 0
  none : op 0 0 ≡ 0

word-by : {op : ℕ → ℕ → ℕ} {test : Bool → Bool → Bool} → Bitwise op test → (n : ℕ) (p q : Site → Bool) (names : List Site)
    → op (word_of n p names) (word_of n q names) ≡ word_of n (λ x. test (p x) (q x)) names
unfolding word_of
word-by o zero p q names = o.none
word-by o (suc n) p q [] = o.none
word-by o (suc n) p q (x ∷ names) =
    let a = word_of n p names in
    let b = word_of n q names in
    let s = p x in
    let t = q x in
    let a_half : (a * 2 + cond s 1 0) / 2 ≡ a = omega (arith, low_bit s) in
    let b-half : (b * 2 + cond t 1 0) / 2 ≡ b = omega (arith, low_bit t) in
    let a-bit : (a * 2 + cond s 1 0) % 2 ≡ cond s 1 0 = omega (arith, low_bit s) in
    let b_bit : (b * 2 + cond t 1 0) % 2 ≡ cond t 1 0 = omega (arith, low_bit t) in
    o.step (a * 2 + cond s 1 0) (b * 2 + cond t 1 0)
    ∙ rw (a_half, b-half, a-bit, b_bit, o.bit s t, word-by o n p q names) refl

pub word-or : (n : ℕ) (p q : Site → Bool) (names : List Site)
    → bit_or (word_of n p names) (word_of n q names) ≡ word_of n (λ x. p x || q x) names
word-or = word-by {test = λ s t. s || t} (record { on_bit = max; step = or_step; bit = bit; none = refl })
  where
    bit : (s t : Bool) → max (cond s 1 0) (cond t 1 0) ≡ cond (s || t) 1 0
    bit true t = omega (arith, low_bit t)
    bit false t = omega arith

pub word_and : (n : ℕ) (p q : Site → Bool) (names : List Site)
    → bit_and (word_of n p names) (word_of n q names) ≡ word_of n (λ x. p x && q x) names
word_and = word-by {test = λ s t. s && t} (record { on_bit = min; step = and_step; bit = bit; none = refl })
  where
    bit : (s t : Bool) → min (cond s 1 0) (cond t 1 0) ≡ cond (s && t) 1 0
    bit true t = omega (arith, low_bit t)
    bit false t = omega arith

-- the union of three in any grouping
pub or-assoc-word : (a b c : ℕ) → bit_or (bit_or a b) c ≡ bit_or a (bit_or b c)
or-assoc-word =
    bin_ind (λ (n : ℕ). (b c : ℕ) → bit_or (bit_or n b) c ≡ bit_or n (bit_or b c)) (λ b c. refl)
    (λ n ih b c. or_step (bit_or n b) c ∙ rw (half n b, rest n b, ih (b / 2) (c / 2), ← half b c) (right n b c))
  where
    half : (a b : ℕ) → bit_or a b / 2 ≡ bit_or (a / 2) (b / 2)
    half a b = let m : max (a % 2) (b % 2) ≤ 1 = omega arith in rw (or_step a b) (omega (arith, m))

    rest : (a b : ℕ) → bit_or a b % 2 ≡ max (a % 2) (b % 2)
    rest a b = let m : max (a % 2) (b % 2) ≤ 1 = omega arith in rw (or_step a b) (omega (arith, m))

    right : (n b c : ℕ)
        → bit_or (n / 2) (bit_or b c / 2) * 2 + max (max (n % 2) (b % 2)) (c % 2) ≡ bit_or n (bit_or b c)
    right n b c = sym (or_step n (bit_or b c) ∙ rw (rest b c) (ap (λ (z : ℕ). bit_or (n / 2) (bit_or b c / 2) * 2 + z) (omega arith)))

-- two tests that agree on the names give one word
pub word_same : (n : ℕ) (p q : Site → Bool) (names : List Site)
    → ((k : ℕ) (x : Site) → k < n → get_elem? names k ≡ some x → p x ≡ q x) → word_of n p names ≡ word_of n q names
unfolding word_of
word_same zero p q names h = refl
word_same (suc n) p q [] h = refl
word_same (suc n) p q (x ∷ names) h =
    rw (h 0 x (omega arith) refl, word_same n p q names (λ k y l e. h (suc k) y (omega (arith, l)) e)) refl

pub word-of-none : (n : ℕ) (p : Site → Bool) → word_of n p [] ≡ 0
unfolding word_of
word-of-none zero p = refl
word-of-none (suc n) p = refl

pub word_none : (n : ℕ) (names : List Site) → word_of n (λ x. false) names ≡ 0
unfolding word_of
word_none zero names = refl
word_none (suc n) [] = refl
word_none (suc n) (x ∷ names) = rw (word_none n names) refl

-- a test that one name of them passes
pub word-one : (n : ℕ) (p : Site → Bool) (names : List Site) (v : ℕ)
    → ((k : ℕ) (x : Site) → k < n → get_elem? names k ≡ some x → p x ≡ eqb k v) → v < n → v < length names → word_of n p names ≡ 2 ^ v
unfolding word_of
word-one zero p names v h l m = absurd (omega arith)
word-one (suc n) p [] v h l m = absurd (omega arith)
word-one (suc n) p (x ∷ names) zero h l m =
    let others = word_same n p (λ y. false) names (λ k y i e. h (suc k) y (omega (arith, i)) e ∙ eqb-suc-zero k) in
    rw (h 0 x (omega arith) refl, others, word_none n names) refl
word-one (suc n) p (x ∷ names) (suc v) h l m =
    let others = word-one n p names v (λ k y i e. h (suc k) y (omega (arith, i)) e ∙ eqb-suc-suc k v) (omega (arith, l))
    (omega (arith, m)) in
    rw (h 0 x (omega arith) refl, eqb-zero-suc v, others)
    (omega (arith, pow-suc 2 v))

-- a word is 0 if no name passes
pub word-has : (n : ℕ) (p : Site → Bool) (names : List Site) → 0 < word_of n p names
    → (k : ℕ) × (x : Site) × (get_elem? names k ≡ some x) × (p x ≡ true)
unfolding word_of
word-has zero p names h = absurd (omega arith)
word-has (suc n) p [] h = absurd (omega arith)
word-has (suc n) p (x ∷ names) h =
    by_bool (p x) (λ e. (0, x, refl, e))
    (λ e. let rest : 0 < word_of n p names * 2 + 0 = rw e at h in
    let r = word-has n p names (omega arith) in (suc r.0, r.1, r.2, r.3))

pub word_some : (n : ℕ) (p : Site → Bool) (names : List Site) (k : ℕ) (x : Site) → k < n → get_elem? names k ≡ some x → p x ≡ true
    → 0 < word_of n p names
unfolding word_of
word_some zero p names k x l e t = absurd (omega arith)
word_some (suc n) p [] k x l e t = never (cc)
word_some (suc n) p (y ∷ names) zero x l e t = let same : y ≡ x = some-injective y x e in rw (same, t) (omega arith)
word_some (suc n) p (y ∷ names) (suc k) x l e t = let r = word_some n p names k x (omega (arith, l)) e t in omega arith

-- a word has no more bits than there are names
pub word_low : (n : ℕ) (p : Site → Bool) (names : List Site) → word_of n p names < 2 ^ length names
unfolding word_of
word_low zero p names = pow_pos (length names)
word_low (suc n) p [] = omega arith
word_low (suc n) p (x ∷ names) = let b = low_bit (p x) in let r = word_low n p names in omega (arith, pow-suc 2 (length names))

-- names behind the first n do not count
pub word-front : (n : ℕ) (p : Site → Bool) (xs ys : List Site) → n ≤ length xs → word_of n p (xs ++ ys) ≡ word_of n p xs
unfolding word_of
word-front zero p xs ys h = refl
word-front (suc n) p [] ys h = absurd (omega arith)
word-front (suc n) p (x ∷ xs) ys h = rw (word-front n p xs ys (omega (arith, h))) refl

-- the low bits are the first names'
pub word-rest : (n : ℕ) (p : Site → Bool) (xs ys : List Site) → word_of n p (xs ++ ys) % 2 ^ length xs ≡ word_of n p xs
unfolding word_of
word-rest zero p xs ys = mod-eq_of_lt (pow_pos (length xs))
word-rest (suc n) p [] ys = mod-one (word_of (suc n) p ys)
word-rest (suc n) p (x ∷ xs) ys =
    let w = word_of n p (xs ++ ys) in
    let b = low_bit (p x) in
    let h : (w * 2 + cond (p x) 1 0) / 2 ≡ w = omega arith in
    let r : (w * 2 + cond (p x) 1 0) % 2 ≡ cond (p x) 1 0 = omega arith in
    rw (
      pow-suc 2 (length xs),
      mod-mul (w * 2 + cond (p x) 1 0) {m = 2 ^ length xs} {c = 2} (pow_pos (length xs)) (omega arith),
      h,
      r,
      word-rest n p xs ys,
    ) refl

-- a bit of a word of 64, as the code shifts it
pub bit_is : (v : ℕ) → (1 * 2 ^ (v % 64)) % 2 ^ 64 ≡ 2 ^ (v % 64)
bit_is v = shl_exact 1 (v % 64) 64 (lit≤ tt) (omega arith) ∙ one-mul (2 ^ (v % 64))
