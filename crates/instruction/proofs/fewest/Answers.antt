-- `instruction::fewest` meets its contract. The loop's invariant: the fewest are the fewest from here on, and the limit is that of so many
-- prefixes. Assumes nothing.
use Prim.Native.Nat.{ℕ, zero, suc, ◌+◌, ◌-◌, ◌^◌, ◌≤◌, ◌<◌}
use native.Mathlib.Omega.{arith}
use native.Mathlib.Numerals.{add-one}
use native.Mathlib.Nat.{pow-suc, pow-le-pow_right}
use mathlib.Core.Path.{◌≡◌, refl, sym, ◌∙◌}
use mathlib.Core.Bool.{cond}
use Rattle.model.specs.Prefix.{enough, fewest_from, fewest}
use Rattle.instruction.proofs.fewest.Goals as goal

-- `fewest_from` unrolled once
last : (f k n : ℕ) → f ≡ 0 → fewest_from f k n ≡ k
unfolding fewest_from
last f k n e = rw e

turn : (f k n : ℕ) → 0 < f → fewest_from f k n ≡ cond (enough k n) k (fewest_from (f - 1) (k + 1) n)
unfolding fewest_from
turn zero k n h = absurd (omega arith)
turn (suc f) k n h = let e : suc f - 1 ≡ f = omega arith in rw (e, add-one)

pub loop-prefixes-init : goal.loop-prefixes-init
unfolding fewest
loop-prefixes-init c = (refl, refl)

pub returns-then-enough : goal.returns-then-enough
returns-then-enough c =
    let more : 0 < 7 - c.loop-prefixes.prefixes = omega arith in
    record {
      said = sym (c.loop-prefixes.invariant.0 ∙ turn _ _ _ more ∙ simp (sym c.enough.ensures ∙ c.if-enough.true));
      bound = omega arith;
    }

pub overflow_mul-limit : goal.overflow_mul-limit
overflow_mul-limit c =
    let few : suc c.loop-prefixes.prefixes ≤ 7 = omega arith in
    let small : 16 ^ suc c.loop-prefixes.prefixes ≤ 16 ^ 7 = pow-le-pow_right (omega arith) few in
    omega arith

pub loop-prefixes-preserved : goal.loop-prefixes-preserved
loop-prefixes-preserved c =
    let more : 0 < 7 - c.loop-prefixes.prefixes = omega arith in
    let fewer : 7 - c.loop-prefixes.prefixes - 1 ≡ 7 - (c.loop-prefixes.prefixes + 1) = omega arith in (
      c.loop-prefixes.invariant.0 ∙ turn _ _ _ more ∙ simp (sym c.enough.ensures ∙ c.if-enough.false, fewer),
      simp (c.loop-prefixes.invariant.1, add-one, pow-suc),
    )

pub returns : goal.returns
returns c =
    let left = last (7 - c.loop-prefixes.prefixes) _ _ (omega arith) in
    record { said = sym (c.loop-prefixes.invariant.0 ∙ left ∙ omega arith); bound = omega arith }
