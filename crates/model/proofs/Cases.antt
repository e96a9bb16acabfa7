-- Case distinctions that keep the equation, and cases that cannot be. `cc` proves 0 ≡ 1 from an equation of different constructors.
use Prim.Native.Nat.{ℕ}
use mathlib.Core.Path.{◌≡◌, refl, path_j'}
use mathlib.Core.Bool.{Bool, true, false, cond, ◌||◌, ◌&&◌}
use mathlib.Core.List.{List, [], ◌∷◌}
use mathlib.Core.Option.{Option, none, some}
use native.Mathlib.Omega.{arith}
use Rattle.model.specs.declared.Reason.{Reason}
use Rattle.model.specs.Reader.{Parsed, parsed, fails}

pub by_bool : {R : Type 0} (t : Bool) → (t ≡ true → R) → (t ≡ false → R) → R
by_bool true y n = y refl
by_bool false y n = n refl

-- where it is known which
pub by-true : {R : Type 0} (t : Bool) (y : t ≡ true → R) (n : t ≡ false → R) (e : t ≡ true) → by_bool t y n ≡ y e
unfolding by_bool
by-true {R} t y n e =
    path_j' (λ b p. (f : b ≡ true → R) (g : b ≡ false → R) → by_bool b f g ≡ f p) (λ f g. refl) e y n

-- what holds of both holds of the one that is chosen
pub of-cond {ℓ} : {A : Type 0} (P : A → Type ℓ) (t : Bool) {x y : A} → P x → P y → P (cond t x y)
of-cond P true h k = h
of-cond P false h k = k

pub by-option {ℓ} : {A : Type 0} {R : Type ℓ} (o : Option A) → (o ≡ none → R) → ((a : A) → o ≡ some a → R) → R
by-option none n s = n refl
by-option (some a) n s = s a refl

-- what became of a reading: failed, at the end of the bytes, or before it
pub by-parsed : {A R : Type 0} (m : Parsed A) → ((why : Reason) (p : ℕ) → m ≡ fails why p → R)
    → ((a : A) (to : ℕ) → m ≡ parsed a to [] → R)
    → ((a : A) (to b : ℕ) (left : List ℕ) → m ≡ parsed a to (b ∷ left) → R) → R
by-parsed (fails why p) f g h = f why p refl
by-parsed (parsed a to []) f g h = g a to refl
by-parsed (parsed a to (b ∷ left)) f g h = h a to b left refl

pub never : {R : Type 0} → ◌≡◌ {A = ℕ} 0 1 → R
never e = absurd (omega arith)

pub or_left : (a c : Bool) → (a || c) ≡ false → a ≡ false
or_left true c e = never (cc)
or_left false c e = refl

pub or_right : (a c : Bool) → (a || c) ≡ false → c ≡ false
or_right true c e = never (cc)
or_right false c e = e

pub is_true_lem : (t : Bool) → (t ≡ false → ◌≡◌ {A = ℕ} 0 1) → t ≡ true
is_true_lem t no_false = by_bool t (λ e. e) (λ e. never (no_false e))

pub is_none : {A : Type 0} (o : Option A) → ((a : A) → o ≡ some a → ◌≡◌ {A = ℕ} 0 1) → o ≡ none
is_none o no-some = by-option o (λ e. e) (λ a e. never (no-some a e))

-- of two that both hold, each does
pub and_left : (a b : Bool) → (a && b) ≡ true → a ≡ true
and_left true b e = refl
and_left false true e = never (cc)
and_left false false e = never (cc)

pub and_right : (a b : Bool) → (a && b) ≡ true → b ≡ true
and_right true b e = e
and_right false true e = refl
and_right false false e = never (cc)
