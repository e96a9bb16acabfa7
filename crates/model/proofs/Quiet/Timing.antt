-- What the two words of an ALT with a time guard hold: W - 4 says whether a time is set, or links it in the timer queue; W - 5 is a time.
use Prim.Native.Nat.{ℕ, suc, ◌^◌, ◌≤◌, ◌<◌}
use native.Mathlib.Omega.{arith}
use mathlib.Core.Path.{◌≡◌, sym, ap, ◌∙◌, subst}
use mathlib.Core.Logic.{◌≢◌}
use mathlib.Core.Bool.{true, false}
use Rattle.model.specs.Word.{after}
use Rattle.model.specs.Syntax.{Expr, Stmt, Guard, input_guard, skip_guard, time_guard, Guards, no_guard, guard, is_timed}
use Rattle.model.specs.Machine.{time_link_word, time_word}
use Rattle.model.specs.Timer.{time_set, time_not_set}
use Rattle.model.specs.Occam.{Store, eval, is_true, State, now}
use Rattle.model.proofs.Quiet.Ways.{Mem}
use Rattle.model.proofs.Cases.{never}

-- what is known of the time of a true time guard: its ALT's workspace, the time and the clock; and whether such times are known to be near
-- the clock, so that what is past stays past
pub record Times : Type 1 where
  pub guarded : (w t clock : ℕ) → Type 0
  pub sure : Type 0

-- how many guards there are
count : Guards → ℕ
count no_guard = 0
count (guard g s gs) = suc (count gs)

module _ (σ : Store) where
  -- a time of a true time guard of a list
  pub data Timely (tm : ℕ) : Guards → Type 0 where
    t-first : {e t : Expr} {s : Stmt} {gs : Guards} → is_true σ e ≡ true → eval σ t ≡ tm → Timely tm (guard (time_guard e t) s gs)
    t-later : {g : Guard} {s : Stmt} {gs : Guards} → Timely tm gs → Timely tm (guard g s gs)

  -- what holds of a guard's time, if it has one and is true
  abbrev pub OfTime : (P : ℕ → Type 0) → Guard → Type 0
  OfTime P (input_guard e c x) = Unit {0}
  OfTime P (skip_guard e) = Unit {0}
  OfTime P (time_guard e t) = is_true σ e ≡ true → P (eval σ t)

  -- of all times of the guards from the first list up to the second, which is the rest of it
  pub data EachTime (P : ℕ → Type 0) : Guards → Guards → Type 0 where
    e-none : {gs : Guards} → EachTime P gs gs
    e-later : {g : Guard} {s : Stmt} {gs hs : Guards} → OfTime P g → EachTime P gs hs → EachTime P (guard g s gs) hs

  of_map : {P Q : ℕ → Type 0} → ((u : ℕ) → P u → Q u) → (g : Guard) → OfTime P g → OfTime Q g
  of_map f (input_guard e c x) h = tt
  of_map f (skip_guard e) h = tt
  of_map f (time_guard e t) h = λ z. f (eval σ t) (h z)

  pub each_map : {P Q : ℕ → Type 0} {gs hs : Guards} → ((u : ℕ) → P u → Q u) → EachTime P gs hs → EachTime Q gs hs
  each_map f e-none = e-none
  each_map f (e-later {g = g} h r) = e-later (of_map f g h) (each_map f r)

  -- the rest is no longer
  each-few : {P : ℕ → Type 0} {gs hs : Guards} → EachTime P gs hs → count hs ≤ count gs
  unfolding count
  each-few e-none = omega arith
  each-few (e-later h r) = omega (arith, each-few r)

  of-both : {P Q R : ℕ → Type 0} → ((u : ℕ) → P u → Q u → R u) → (g : Guard) → OfTime P g → OfTime Q g → OfTime R g
  of-both f (input_guard e c x) h k = tt
  of-both f (skip_guard e) h k = tt
  of-both f (time_guard e t) h k = λ z. f (eval σ t) (h z) (k z)

  -- what two things say together
  pub each_both : {P Q R : ℕ → Type 0} {gs hs : Guards} → ((u : ℕ) → P u → Q u → R u) → EachTime P gs hs → EachTime Q gs hs
      → EachTime R gs hs
  unfolding count
  each_both f e-none k = e-none
  each_both f (e-later {g = g} h r) (e-later k q) = e-later (of-both f g h k) (each_both f r q)
  each_both f (e-later h r) e-none = absurd (omega (arith, each-few r))

  -- with one guard more
  pub each-past : {P : ℕ → Type 0} {gs : Guards} (g : Guard) {s : Stmt} {hs : Guards} → EachTime P gs (guard g s hs) → OfTime P g
      → EachTime P gs hs
  each-past g e-none h = e-later h e-none
  each-past g (e-later k r) h = e-later k (each-past g r h)

  -- of all times of a list
  pub each_all : {P : ℕ → Type 0} {gs : Guards} → EachTime P gs no_guard → (u : ℕ) → Timely u gs → P u
  each_all e-none u m = elim m [ ]
  each_all {P} (e-later h r) u (t-first z e) = subst P e (h z)
  each_all (e-later h r) u (t-later m) = each_all r u m

-- in the timer queue
abbrev pub Linked : Mem → (w : ℕ) → Type 0
Linked μ w = (μ (time_link_word w) ≢ time_set) × (μ (time_link_word w) ≢ time_not_set)

module _ (T : Times) (st : State) where
  abbrev σ : Store
  σ = st.store

  -- the least of the times of the guards up to hs stands in W - 5
  pub record Least (gs hs : Guards) (μ : Mem) (w : ℕ) : Type 0 where
    pub tm : ℕ
    pub is : μ (time_word w) ≡ tm
    pub small : tm < 2 ^ 32
    pub one : Timely σ tm gs
    pub knows : T.guarded w tm (now st)
    pub least : EachTime σ (λ u. T.sure → after tm u ≡ false) gs hs

  -- while the guards before hs are enabled
  pub data Bringing (gs hs : Guards) (μ : Mem) (w : ℕ) : Type 0 where
    not_set : μ (time_link_word w) ≡ time_not_set → EachTime σ (λ u. ⊥) gs hs → Bringing gs hs μ w
    is_set : μ (time_link_word w) ≡ time_set → Least gs hs μ w → Bringing gs hs μ w

  -- while it waits
  pub data Dozing (gs : Guards) (μ : Mem) (w : ℕ) : Type 0 where
    no-time : μ (time_link_word w) ≡ time_not_set → EachTime σ (λ u. ⊥) gs no_guard → Dozing gs μ w
    until : Linked μ w → Least gs no_guard μ w → Dozing gs μ w

  -- once it has come to its ALT: a time that the word's time is after is past
  -- and in the timer queue it has a true time guard among those still to be disabled
  pub data Passed (gs hs : Guards) (μ : Mem) (w : ℕ) : Type 0 where
    p-unset : μ (time_link_word w) ≡ time_not_set → Passed gs hs μ w
    p-set : μ (time_link_word w) ≡ time_set
        → ((u : ℕ) → Timely σ u gs → after (μ (time_word w)) u ≡ true → T.sure → after (now st) u ≡ true) → Passed gs hs μ w
    p-linked : Linked μ w → (u : ℕ) → Timely σ u hs → Passed gs hs μ w

  -- what is known of the times of the guards up to hs, and of all of a list
  abbrev pub Guarding : (gs hs : Guards) (w : ℕ) → Type 0
  Guarding gs hs w = EachTime σ (λ u. (u < 2 ^ 32) × T.guarded w u (now st)) gs hs

  -- they stay so where the words do
  pub least-same : {gs hs : Guards} {μ ν : Mem} {w : ℕ} → ν (time_word w) ≡ μ (time_word w) → Least gs hs μ w
      → Least gs hs ν w
  least-same e l = record { tm = l.tm; is = e ∙ l.is; small = l.small; one = l.one; knows = l.knows; least = l.least }

  pub bringing-same : {gs hs : Guards} {μ ν : Mem} {w : ℕ} → ν (time_link_word w) ≡ μ (time_link_word w) → ν (time_word w) ≡ μ (time_word w)
      → Bringing gs hs μ w → Bringing gs hs ν w
  bringing-same e f (not_set z n) = not_set (e ∙ z) n
  bringing-same e f (is_set z l) = is_set (e ∙ z) (least-same f l)

  pub linked-same : (μ ν : Mem) (w : ℕ) → ν (time_link_word w) ≡ μ (time_link_word w) → Linked μ w → Linked ν w
  linked-same μ ν w e (a, b) = ((λ z. a (sym e ∙ z)), (λ z. b (sym e ∙ z)))

  pub passed-same : {gs hs : Guards} {μ ν : Mem} {w : ℕ} → ν (time_link_word w) ≡ μ (time_link_word w) → ν (time_word w) ≡ μ (time_word w)
      → Passed gs hs μ w → Passed gs hs ν w
  passed-same {gs} {hs} {μ} {ν} {w} e f (p-unset z) = p-unset (e ∙ z)
  passed-same {gs} {hs} {μ} {ν} {w} e f (p-set z h) = p-set (e ∙ z) (λ u m a o. h u m (ap (λ y. after y u) (sym f) ∙ a) o)
  passed-same {gs} {hs} {μ} {ν} {w} e f (p-linked z u m) = p-linked (linked-same μ ν w e z) u m

-- past a guard without a time
untimed-of : (P : ℕ → Type 0) (st : State) (g : Guard) → is_timed g ≡ false → OfTime st.store P g
untimed-of P st (input_guard e c x) h = tt
untimed-of P st (skip_guard e) h = tt
untimed-of P st (time_guard e t) h = never (cc)

pub bringing-past : (T : Times) (st : State) {gs : Guards} (g : Guard) {s : Stmt} {hs : Guards} {μ : Mem} {w : ℕ} → is_timed g ≡ false
    → Bringing T st gs (guard g s hs) μ w → Bringing T st gs hs μ w
bringing-past T st g e (not_set z n) = not_set z (each-past st.store g n (untimed-of (λ u. ⊥) st g e))
bringing-past T st g e (is_set z l) =
    is_set z
    (record {
      tm = l.tm;
      is = l.is;
      small = l.small;
      one = l.one;
      knows = l.knows;
      least = each-past st.store g l.least (untimed-of (λ u. T.sure → after l.tm u ≡ false) st g e);
    })

-- from one context and clock to another: what is known of times stays known, and what is past stays past
pub record Onto (T T' : Times) (w c c' : ℕ) : Type 0 where
  pub less : T'.sure → T.sure
  pub on : (u : ℕ) → T.guarded w u c → T'.guarded w u c'
  pub past : (u : ℕ) → u < 2 ^ 32 → T.guarded w u c → T'.sure → after c u ≡ true → after c' u ≡ true

pub onto_same : {T : Times} {w c c' : ℕ} → c ≡ c' → Onto T T w c c'
onto_same {T} {w} e =
    record { less = λ o. o; on = λ u g. subst (T.guarded w u) e g; past = λ u l g o a. subst (λ z. after z u ≡ true) e a }
