-- Runs of stores: one behind another, and in either order.
use Prim.Native.Nat.{ℕ, suc, ◌+◌, ◌<◌, ◌≤◌}
use native.Mathlib.Omega.{arith}
use native.Mathlib.Nat.{add-zero}
use mathlib.Core.Path.{◌≡◌, refl, sym, ◌∙◌}
use mathlib.Core.List.{List, [], ◌∷◌, ◌++◌}
use lib.ListN.{length, set}
use lib.Seq.{sets, set_comm}

module _ {A : Type 0} where
  pub sets-append : (xs ys l : List A) (i : ℕ) → sets l i (xs ++ ys) ≡ sets (sets l i xs) (i + length xs) ys
  sets-append [] ys l i = rw add-zero
  sets-append (x ∷ xs) ys l i =
      let e : i + suc (length xs) ≡ suc i + length xs = omega arith in
      rw e (sets-append xs ys (set l i x) (suc i))

  -- a store before a run
  set-sets : (ys l : List A) (i j : ℕ) (a : A) → i < j → sets (set l i a) j ys ≡ set (sets l j ys) i a
  set-sets [] l i j a h = refl
  set-sets (y ∷ ys) l i j a h =
      rw (set_comm l i j a y (omega arith)) (set-sets ys (set l j y) i (suc j) a (omega arith))

  pub sets-comm : (xs ys l : List A) (i j : ℕ) → i + length xs ≤ j → sets (sets l i xs) j ys ≡ sets (sets l j ys) i xs
  sets-comm [] ys l i j h = refl
  sets-comm (x ∷ xs) ys l i j h =
      sets-comm xs ys (set l i x) (suc i) j (omega arith) ∙ rw (set-sets ys l i j x (omega arith))

  -- the later run first
  pub sets-join : (xs ys l : List A) (i : ℕ) → sets (sets l (i + length xs) ys) i xs ≡ sets l i (xs ++ ys)
  sets-join xs ys l i = sym (sets-comm xs ys l i (i + length xs) (omega arith)) ∙ sym (sets-append xs ys l i)
