-- Sites are told apart by `same`, and found by `is_in`.
use mathlib.Core.Path.{◌≡◌, refl, ap, ap₂}
use mathlib.Core.Logic.{⊎_elim}
use mathlib.Core.Bool.{Bool, true, false, ◌&&◌}
use mathlib.Core.List.Memᴰ
use mathlib.Core.List.{List, [], ◌∷◌, Memᴰ}
use lib.Dec.{eqb}
use borrow.Author.Tests.{eq-eqb, eqb-true}
use Rattle.model.specs.Syntax.{Site, input_of, output_of, declared}
use Rattle.model.specs.Usage.{same, is_in}
use Rattle.model.proofs.Cases.{never, by_bool}

and_both : (a b : Bool) → (a && b) ≡ true → (a ≡ true) × (b ≡ true)
and_both true true e = (refl, refl)
and_both true false e = never (cc)
and_both false true e = never (cc)
and_both false false e = never (cc)

pub same_refl : (x : Site) → same x x ≡ true
unfolding same
same_refl (input_of k) = eq-eqb k k refl
same_refl (output_of k) = eq-eqb k k refl
same_refl (declared p j) = ap₂ ◌&&◌ (eq-eqb p p refl) (eq-eqb j j refl)

pub same-eq : (x y : Site) → same x y ≡ true → x ≡ y
unfolding same
same-eq (input_of j) (input_of k) e = ap input_of (eqb-true j k e)
same-eq (input_of j) (output_of k) e = never (cc)
same-eq (input_of j) (declared p k) e = never (cc)
same-eq (output_of j) (input_of k) e = never (cc)
same-eq (output_of j) (output_of k) e = ap output_of (eqb-true j k e)
same-eq (output_of j) (declared p k) e = never (cc)
same-eq (declared p j) (input_of k) e = never (cc)
same-eq (declared p j) (output_of k) e = never (cc)
same-eq (declared p j) (declared q k) e =
    let h = and_both (eqb p q) (eqb j k) e in
    ap₂ declared (eqb-true p q h.0) (eqb-true j k h.1)

pub is_in-mem : (x : Site) (ys : List Site) → is_in x ys ≡ true → Memᴰ x ys
unfolding is_in
is_in-mem x [] e = never (cc)
is_in-mem x (y ∷ ys) e =
    by_bool (same x y) (λ h. Memᴰ.head (same-eq x y h)) (λ h. Memᴰ.tail (is_in-mem x ys (rw h at e)))

pub mem-is_in : (x : Site) (ys : List Site) → Memᴰ x ys → is_in x ys ≡ true
unfolding is_in
mem-is_in x [] m = absurd (Memᴰ.not-nil m)
mem-is_in x (y ∷ ys) m =
    by_bool (same x y) (λ h. rw h) (λ h.
    ⊎_elim (λ e. never (cc (same_refl x, ap (same x) e))) (λ t. rw h (mem-is_in x ys t)) (Memᴰ.cases_cons m))
