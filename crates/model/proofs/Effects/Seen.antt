-- Those that a walk along the timer queue was at have link words of their own inside the memory, so they are no more than there are words.
use Prim.Native.Nat.{ℕ, zero, suc, ◌+◌, ◌^◌, ◌≤◌, ◌<◌}
use native.Mathlib.Omega.{arith}
use mathlib.Core.Path.{◌≡◌, refl, ap, ◌∙◌}
use mathlib.Core.Bool.{Bool, true, false, ◌||◌, or-true}
use mathlib.Core.List.{List, [], ◌∷◌}
use lib.Dec.{eqb}
use borrow.Author.Tests.{eq-eqb, ne_eqb, eqb-true, eqb-false}
use Rattle.model.specs.Machine.{time_link_word, space_of}
use Rattle.model.specs.Timer.{was_at}
use Rattle.model.proofs.Cases.{by_bool, or_left, or_right}

-- 1 where a test holds
abbrev pub bit : Bool → ℕ
bit true = 1
bit false = 0

-- how many numbers below n a test holds of
pub tally : (ℕ → Bool) → ℕ → ℕ
tally f zero = 0
tally f (suc n) = bit (f n) + tally f n

bit_le : (b : Bool) → bit b ≤ 1
bit_le true = omega arith
bit_le false = omega arith

pub tally-le : (f : ℕ → Bool) (n : ℕ) → tally f n ≤ n
unfolding tally
tally-le f zero = omega arith
tally-le f (suc n) = omega (arith, bit_le (f n), tally-le f n)

pub tally-none : (f : ℕ → Bool) (n : ℕ) → ((i : ℕ) → f i ≡ false) → tally f n ≡ 0
unfolding tally
tally-none f zero h = refl
tally-none f (suc n) h = rw (h n) (omega (arith, tally-none f n h))

tally-same : (f g : ℕ → Bool) (n : ℕ) → ((i : ℕ) → i < n → g i ≡ f i) → tally g n ≡ tally f n
unfolding tally
tally-same f g zero h = refl
tally-same f g (suc n) h =
    let e = tally-same f g n (λ i l. h i (omega arith)) in
    rw (h n (omega arith), e)

-- one more
pub tally-more : (f g : ℕ → Bool) (a n : ℕ) → a < n → f a ≡ false → g a ≡ true → ((i : ℕ) → (i ≡ a → ⊥) → g i ≡ f i)
    → tally g n ≡ suc (tally f n)
unfolding tally
tally-more f g a zero l x y other = absurd (omega arith)
tally-more f g a (suc n) l x y other =
    by_bool (eqb n a)
    (λ e.
    let is = eqb-true n a e in
    let same = tally-same f g n (λ i k. other i (λ z. absurd (omega arith))) in
    let fn : f n ≡ false = ap f is ∙ x in
    let gn : g n ≡ true = ap g is ∙ y in
    rw (gn, fn, same) (omega arith))
    (λ e.
    let off = eqb-false n a e in
    let more = tally-more f g a n (omega arith) x y other in
    let same = other n off in
    rw (same, more) (omega arith))

-- the link words of those that a walk was at
pub hits : List ℕ → ℕ → Bool
hits [] i = false
hits (q ∷ l) i = eqb i (time_link_word (space_of q)) || hits l i

-- words whose link words are the same are the same
link-one : (p q : ℕ) → p < 2 ^ 32 → q < 2 ^ 32 → time_link_word (space_of p) ≡ time_link_word (space_of q) → p ≡ q
unfolding space_of
link-one p q a b e = omega arith

-- all of a list are words
abbrev pub Words : List ℕ → Type 0
Words l = (q : ℕ) → was_at q l ≡ true → q < 2 ^ 32

words-rest : (q : ℕ) (l : List ℕ) → Words (q ∷ l) → Words l
unfolding was_at
words-rest q l w r e = w r (rw e (or-true (eqb r q)))

words-first : (q : ℕ) (l : List ℕ) → Words (q ∷ l) → q < 2 ^ 32
unfolding was_at
words-first q l w = w q (rw (eq-eqb q q refl))

-- a process that the walk was not at has a link word that it was not at
not-hit : (p : ℕ) (l : List ℕ) → p < 2 ^ 32 → Words l → was_at p l ≡ false → hits l (time_link_word (space_of p)) ≡ false
unfolding was_at hits
not-hit p [] b w e = refl
not-hit p (q ∷ l) b w e =
    let other = eqb-false p q (or_left (eqb p q) (was_at p l) e) in
    let off = ne_eqb (time_link_word (space_of p)) (time_link_word (space_of q)) (λ z. other (link-one p q b (words-first q l w) z)) in
    rw (off, not-hit p l b (words-rest q l w) (or_right (eqb p q) (was_at p l) e))

-- and it is one more
pub one_hit : (p size : ℕ) (l : List ℕ) → p < 2 ^ 32 → Words l → was_at p l ≡ false → time_link_word (space_of p) < size
    → tally (hits (p ∷ l)) size ≡ suc (tally (hits l) size)
unfolding hits
one_hit p size l b w e inside =
    let at = time_link_word (space_of p) in
    tally-more (hits l) (hits (p ∷ l)) at size inside (not-hit p l b w e) (rw (eq-eqb at at refl))
    (λ i off. rw (ne_eqb i at off))

pub words_more : (p : ℕ) (l : List ℕ) → p < 2 ^ 32 → Words l → Words (p ∷ l)
unfolding was_at
words_more p l b w q e =
    by_bool (eqb q p) (λ is. let same = eqb-true q p is in omega arith) (λ other. w q (rw other at e))

pub none-hit : (n : ℕ) → tally (hits []) n ≡ 0
unfolding hits
none-hit n = tally-none (hits []) n (λ i. refl)
