-- Clock words wrap, so `after` is no order. Of times that lie near one clock word it is: that of their distances from it, moved up so that
-- they are numbers (02, order 4: a time must lie less than 2^30 ticks before or after every clock word in force).
use Prim.Native.Nat.{ℕ, ◌+◌, ◌-◌, ◌^◌, ◌≤◌, ◌<◌}
use native.Mathlib.Omega.{arith}
use mathlib.Core.Path.{◌≡◌}
use mathlib.Core.Bool.{true, false}
use lib.Dec.{ltb, leb}
use borrow.Author.Tests.{lt-ltb, ltb-true, ltb-false, leb-true, leb-false}
use Rattle.model.specs.Word.{low, less, signed, after}
use Rattle.model.proofs.Cases.{by_bool, never}

-- one time is after another where their difference is above 0 and below 2^31
pub is-after : (x y : ℕ) → 0 < less x y → less x y < 2 ^ 31 → after x y ≡ true
unfolding after signed
is-after x y a b = rw (lt-ltb (less x y) (2 ^ 31) b) (lt-ltb 0 (less x y) a)

pub not_after : (x y : ℕ) → (0 < less x y → less x y < 2 ^ 31 → ⊥) → after x y ≡ false
unfolding after signed
not_after x y h =
    by_bool (ltb (less x y) (2 ^ 31))
    (λ b. rw b (by_bool (ltb 0 (less x y)) (λ a. absurd (h (ltb-true 0 (less x y) a) (ltb-true (less x y) (2 ^ 31) b))) (λ a. a)))
    (λ b. rw b)

-- a time's distance from a clock word, with 2^30 added: below 2^31, and not 0, where the time is near
abbrev pub distance : (clock time : ℕ) → ℕ
distance c t = low (t + 2 ^ 30 + 2 ^ 32 - c)

pub record Near (c t : ℕ) : Type 0 where
  pub before : 0 < distance c t
  pub behind : distance c t < 2 ^ 31

module _ {c t u : ℕ} (c-word : c < 2 ^ 32) (t-word : t < 2 ^ 32) (u-word : u < 2 ^ 32) (n : Near c t) (m : Near c u) where
  -- the later of two near times is the one at the larger distance
  pub later-after : distance c u < distance c t → after t u ≡ true
  later-after h =
      is-after t u (omega (arith, n.before, n.behind, m.before, m.behind)) (omega (arith, n.before, n.behind, m.before, m.behind))

  pub earlier-not : distance c t ≤ distance c u → after t u ≡ false
  earlier-not h = not_after t u (λ a b. absurd (omega (arith, n.before, n.behind, m.before, m.behind)))

-- one time is before another that is not after a third: so it is not after the third
pub least-of : {c t u v : ℕ} → c < 2 ^ 32 → t < 2 ^ 32 → u < 2 ^ 32 → v < 2 ^ 32 → Near c t → Near c u → Near c v → after t u ≡ true
    → after t v ≡ false → after u v ≡ false
least-of {c} {t} {u} {v} cw tw uw vw n m k e f =
    by_bool (leb (distance c u) (distance c v)) (λ d. earlier-not cw uw vw m k (leb-true _ _ d))
    (λ d.
    let above : distance c v < distance c u = omega (arith, leb-false (distance c u) (distance c v) d) in
    by_bool (leb (distance c t) (distance c u)) (λ g. never (cc (e, earlier-not cw tw uw n m (leb-true _ _ g))))
    (λ g. never (cc (f, later-after cw tw vw n k (omega (arith, above, leb-false (distance c t) (distance c u) g))))))

-- no time is after itself
pub self-not : (t : ℕ) → t < 2 ^ 32 → after t t ≡ false
self-not t h = not_after t t (λ a b. absurd (omega (arith, a, h)))

-- a near time is past where its distance is below 2^30
module _ {c t : ℕ} (c-word : c < 2 ^ 32) (t-word : t < 2 ^ 32) (n : Near c t) where
  pub past_near : after c t ≡ true → distance c t < 2 ^ 30
  past_near e = by_bool (ltb (distance c t) (2 ^ 30)) (λ d. ltb-true _ _ d)
      (λ d. never (cc (not_after c t (λ a b. absurd (omega (arith, ltb-false (distance c t) (2 ^ 30) d, n.behind))))))

  pub near-past : distance c t < 2 ^ 30 → after c t ≡ true
  near-past h = is-after c t (omega (arith, n.before)) (omega (arith, n.before))

-- what is past stays past while the clock does not go back and the time stays near
pub stays-past : {c d t : ℕ} → c < 2 ^ 32 → d < 2 ^ 32 → t < 2 ^ 32 → Near c t → Near d t → after c d ≡ false → after c t ≡ true
    → after d t ≡ true
stays-past {c} {d} {t} cw dw tw n m e p =
    let a = past_near cw tw n p in
    near-past dw tw m
    (by_bool (ltb (distance d t) (2 ^ 30)) (λ g. ltb-true _ _ g)
    (λ g.
    let b = ltb-false (distance d t) (2 ^ 30) g in
    never (cc (is-after c d (omega (arith, n.before, m.behind)) (omega (arith, n.before, m.behind))))))

-- where a near time is not past, none at a larger distance is
pub stays-ahead : {c t u : ℕ} → c < 2 ^ 32 → t < 2 ^ 32 → u < 2 ^ 32 → Near c t → Near c u → distance c t ≤ distance c u → after c t ≡ false
    → after c u ≡ false
stays-ahead {c} {t} {u} cw tw uw n m h e =
    by_bool (after c u) (λ p. never (cc (e, near-past cw tw n (omega (arith, h, past_near cw uw m p))))) (λ f. f)

-- nor is one that it is not after
pub least-ahead : {c t u : ℕ} → c < 2 ^ 32 → t < 2 ^ 32 → u < 2 ^ 32 → Near c t → Near c u → after t u ≡ false → after c t ≡ false
    → after c u ≡ false
least-ahead {c} {t} {u} cw tw uw n m f e =
    by_bool (leb (distance c t) (distance c u)) (λ h. stays-ahead cw tw uw n m (leb-true _ _ h) e)
    (λ h. never (cc (f, later-after cw tw uw n m (omega (arith, leb-false (distance c t) (distance c u) h)))))

-- times that are near two clock words lie in the same order seen from both
pub order-kept : {c d t u : ℕ} → c < 2 ^ 32 → d < 2 ^ 32 → t < 2 ^ 32 → u < 2 ^ 32 → Near c t → Near c u → Near d t → Near d u
    → distance c t ≤ distance c u → distance d t ≤ distance d u
order-kept {c} {d} {t} {u} cw dw tw uw n m k l h =
    by_bool (leb (distance d t) (distance d u)) (λ e. leb-true _ _ e)
    (λ e. never (cc (
      later-after dw tw uw k l (omega (arith, leb-false (distance d t) (distance d u) e)),
      earlier-not cw tw uw n m h,
    )))
