-- Going along a timer queue to one of its processes, and the queue without it.
use Prim.Native.Nat.{ℕ, ◌<◌}
use mathlib.Core.Path.{◌≡◌, refl, sym, ap, ◌∙◌}
use mathlib.Core.Logic.{◌≢◌, ⊎_elim}
use mathlib.Core.Bool.{cond}
use mathlib.Core.List.{List, [], ◌∷◌, Memᴰ}
use mathlib.Core.Option.{Option, some}
use lib.ListN.{length}
use lib.Dec.{eqb}
use borrow.Author.Tests.{eq-eqb, ne_eqb, eqb-true, eqb-false}
use Rattle.model.specs.Machine.{World, done, return, time_link_word, name_of}
use Rattle.model.specs.Timer.{was_at, Stop, along}
use Rattle.model.proofs.Cases.{by_bool}
use Rattle.model.proofs.Quiet.Names.{name_back, name-injective}
use Rattle.model.proofs.Quiet.Ways.{Mem, upd, upd_same, upd_other}
use Rattle.model.proofs.Effects.Timers.{Chain, next, Sorted, Once, chain-stable}
use Rattle.model.proofs.Effects.Walking.{link_of, stop_by, stop-link, Walk, along-by}

-- where the process w stands, and the workspaces without it
abbrev pub stop_at : (w : ℕ) → (before : Option ℕ) → List ℕ → Stop
stop_at w b ts = stop_by (λ v. eqb v w) b ts

unfoldable pub without : (w : ℕ) → List ℕ → List ℕ
without w [] = []
without w (v ∷ ts) = cond (eqb v w) ts (v ∷ without w ts)

-- it is found
pub stop-found : (w : ℕ) (b : Option ℕ) (ts : List ℕ) → Memᴰ w ts → (stop_at w b ts).at ≡ name_of w
unfolding stop_by
stop-found w b [] m = absurd (mathlib.Core.List.Memᴰ.not-nil m)
stop-found w b (v ∷ ts) m =
    by_bool (eqb v w) (λ e. rw e (ap name_of (eqb-true v w e)))
    (λ e. rw e (stop-found w (some (name_of v)) ts
    (⊎_elim (λ f. absurd (eqb-false v w e (sym f))) (λ n. n) (mathlib.Core.List.Memᴰ.cases_cons m))))

-- its link is the first one or that of another in the queue
pub leave-link : (w : ℕ) (b : Option ℕ) (ts : List ℕ) (P : ℕ → Type 0) → P (link_of b)
    → ((v : ℕ) → Memᴰ v ts → v ≢ w → P (time_link_word v)) → P (link_of (stop_at w b ts).before)
leave-link w b ts P p h = stop-link (λ v. eqb v w) b ts P p (λ v m f. h v m (eqb-false v w f))

-- the walk
pub along-to : (n w front : ℕ) (b : Option ℕ) (ts : List ℕ) (s : World) (μ : Mem) (a p : ℕ) → p ≡ μ a → Chain μ a ts → Walk s μ ts
    → length ts < n → along n (λ q. return (eqb q (name_of w))) front [] b p s ≡ done (stop_at w b ts) s
unfolding was_at
along-to n w front b ts s μ a p e c k l =
    along-by (λ q. return (eqb q (name_of w))) (λ v. eqb v w) n front [] b ts s μ a p e c k
    (λ v m.
    by_bool (eqb v w) (λ h. rw (h, eq-eqb (name_of v) (name_of w) (ap name_of (eqb-true v w h))))
    (λ h. rw (h, ne_eqb (name_of v) (name_of w) (λ q. eqb-false v w h (name-injective v w q))))) (λ v m. refl) l

-- who is in the queue then
pub without_in : (w : ℕ) (ts : List ℕ) (v : ℕ) → Memᴰ v (without w ts) → Memᴰ v ts
unfolding without
without_in w [] v m = m
without_in w (u ∷ ts) v m =
    by_bool (eqb u w) (λ e. mathlib.Core.List.Memᴰ.tail (rw e at m))
    (λ e. ⊎_elim (λ f. mathlib.Core.List.Memᴰ.head f) (λ n. mathlib.Core.List.Memᴰ.tail (without_in w ts v n))
    (mathlib.Core.List.Memᴰ.cases_cons (rw e at m)))

pub without_not : (w : ℕ) (ts : List ℕ) → Once ts → Memᴰ w (without w ts) → ⊥
unfolding without
without_not w [] o m = mathlib.Core.List.Memᴰ.not-nil m
without_not w (u ∷ ts) o m =
    by_bool (eqb u w) (λ e. o.0 w (rw e at m) (eqb-true u w e))
    (λ e. ⊎_elim (λ f. eqb-false u w e (sym f)) (λ n. without_not w ts o.1 n) (mathlib.Core.List.Memᴰ.cases_cons (rw e at m)))

pub in_without : (w : ℕ) (ts : List ℕ) (v : ℕ) → Memᴰ v ts → v ≢ w → Memᴰ v (without w ts)
unfolding without
in_without w [] v m d = m
in_without w (u ∷ ts) v m d =
    by_bool (eqb u w)
    (λ e. rw e (⊎_elim (λ f. absurd (d (f ∙ eqb-true u w e))) (λ n. n) (mathlib.Core.List.Memᴰ.cases_cons m)))
    (λ e. rw e (⊎_elim (λ f. mathlib.Core.List.Memᴰ.head f) (λ n. mathlib.Core.List.Memᴰ.tail (in_without w ts v n d))
    (mathlib.Core.List.Memᴰ.cases_cons m)))

pub once-without : (w : ℕ) (ts : List ℕ) → Once ts → Once (without w ts)
unfolding without
once-without w [] o = tt
once-without w (u ∷ ts) o =
    by_bool (eqb u w) (λ e. rw e o.1) (λ e. rw e ((λ v m. o.0 v (without_in w ts v m)), once-without w ts o.1))

pub sorted-without : (c : ℕ) (μ : Mem) (w : ℕ) (ts : List ℕ) → Sorted c μ ts → Sorted c μ (without w ts)
unfolding without
sorted-without c μ w [] s = tt
sorted-without c μ w (u ∷ ts) s =
    by_bool (eqb u w) (λ e. rw e s.1) (λ e. rw e ((λ v m. s.0 v (without_in w ts v m)), sorted-without c μ w ts s.1))

-- the link before it leads to what was behind it
abbrev pub left_in : (w : ℕ) → Stop → Mem → Mem
left_in w p μ = upd μ (link_of p.before) (μ (time_link_word w))

pub chain-without : (μ : Mem) (w : ℕ) (ts : List ℕ) (b : Option ℕ) (a : ℕ) → link_of b ≡ a → Memᴰ w ts → Chain μ a ts
    → ((v : ℕ) → Memᴰ v ts → time_link_word v ≢ a)
    → ((u v : ℕ) → Memᴰ u ts → Memᴰ v ts → time_link_word u ≡ time_link_word v → u ≡ v) → Once ts
    → Chain (left_in w (stop_at w b ts) μ) a (without w ts)
unfolding stop_by without
chain-without μ w [] b a e m c off inj o = absurd (mathlib.Core.List.Memᴰ.not-nil m)
chain-without μ w (v ∷ ts) b a e m (next z c) off inj o =
    by_bool (eqb v w)
    (λ h.
    let is = eqb-true v w h in
    let ν = upd μ (link_of b) (μ (time_link_word w)) in
    let at : ν a ≡ μ (time_link_word v) =
    ap ν (sym e) ∙ upd_same μ (link_of b) (μ (time_link_word w)) ∙ ap (λ y. μ (time_link_word y)) (sym is) in
    rw h (chain-stable at
    (λ u n. upd_other μ (link_of b) (μ (time_link_word w)) (time_link_word u) (λ q. off u (mathlib.Core.List.Memᴰ.tail n) (q ∙ e))) c))
    (λ h.
    let there : Memᴰ w ts = ⊎_elim (λ f. absurd (eqb-false v w h (sym f))) (λ n. n) (mathlib.Core.List.Memᴰ.cases_cons m) in
    let rest = chain-without μ w ts (some (name_of v)) (time_link_word v) (ap time_link_word (name_back v)) there c
    (λ u n q. o.0 u n (sym (inj u v (mathlib.Core.List.Memᴰ.tail n) (mathlib.Core.List.Memᴰ.head refl) q)))
    (λ x y k n. inj x y (mathlib.Core.List.Memᴰ.tail k) (mathlib.Core.List.Memᴰ.tail n)) o.1 in
    let st = stop_at w (some (name_of v)) ts in
    let off-a : a ≢ link_of st.before =
    leave-link w (some (name_of v)) ts (λ y. a ≢ y) (λ q. off v (mathlib.Core.List.Memᴰ.head refl) (sym (q
    ∙ ap time_link_word (name_back v))))
    (λ u n d q. off u (mathlib.Core.List.Memᴰ.tail n) (sym q)) in
    rw h (next (upd_other μ (link_of st.before) (μ (time_link_word w)) a off-a ∙ z) rest))
