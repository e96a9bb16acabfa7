-- What a process is led to, and what it waits for, stays under whatever happens to words and variables that are not its own.
use Prim.Native.Nat.{ℕ, ◌+◌, ◌^◌, ◌≤◌, ◌<◌}
use native.Mathlib.Omega.{arith}
use mathlib.Core.Path.{◌≡◌, refl, sym, ap, ap₂, ◌∙◌, subst}
use mathlib.Core.Logic.{◌≢◌, ◌⊎◌, inl, inr, ⊎_elim}
use mathlib.Core.Bool.{Bool, cond, not, true}
use mathlib.Core.List.{List, Memᴰ}
use lib.Dec.{eqb}
use Rattle.model.specs.Syntax.{Site, Expr, constant, variable, NOT, binary, Pairs, no_pair, pair, Guard, input_guard, skip_guard}
use Rattle.model.specs.Syntax.{condition, Guards, time_guard, no_guard, timed}
use Rattle.model.specs.Machine.{resume_word, link_word, state_word, name_of, time_word, time_link_word}
use Rattle.model.specs.Occam.{Store, eval, is_true, Frame, Process, first_true, deny, operate, State, Sender, Ready, by-input, by-skip}
use Rattle.model.specs.Occam.{now, by-time}
use Rattle.model.proofs.Quiet.Ways.{Regs, Mem, way-stable}
use Rattle.model.proofs.Words.Values.{FineExpr}
use Rattle.model.proofs.Quiet.Setting.{Setting}
use Rattle.model.proofs.Words.Parts.{Part, guard_room, FineWhole, FineInput, FinePairs, FineGuards}
use Rattle.model.proofs.Quiet.Continuations.{cont-low}
use Rattle.model.proofs.Quiet.Marks.{Own, own_name, Picks, p-first, p-later, Guarded, g-first, g-later, Unready, Noticed, n-none}
use Rattle.model.proofs.Quiet.Marks.{n-later, Marked, Disabling, Point, pt-stop, pt-assign, pt-var, pt-chan, pt-taken, pt-none}
use Rattle.model.proofs.Quiet.Marks.{pt-while, pt-in, pt-out, pt-par-place, pt-par-count, pt-end, pt-alt, pt-read, pt-store}
use Rattle.model.proofs.Quiet.Marks.{pt-wait-for, Present, is-sent, is-skip, AnyPresent, a_first, a-later, finds-present, finds-time}
use Rattle.model.proofs.Quiet.Marks.{AnyFound, f-first, f-later}
use Rattle.model.proofs.Quiet.Arrivals.{Goes, Comes, comes}
use Rattle.model.proofs.Quiet.Onwards.{guarded-fine}
use Rattle.model.proofs.Quiet.Timing.{Times, Timely, t-first, t-later, OfTime, EachTime, e-none, e-later, each_all, Least, Bringing}
use Rattle.model.proofs.Quiet.Timing.{not_set, is_set, Dozing, no-time, until, Passed, p-unset, p-set, p-linked, Guarding}
use Rattle.model.proofs.Quiet.Timing.{linked-same, Onto}
use Rattle.model.proofs.Invariant.Trees.{Info, Sits}
use Rattle.model.proofs.Invariant.Leaves.{Unmarked, MarkedOnly, Resumes, Waits, Held, h-queued, h-woken, h-input, h-output, h-stop}
use Rattle.model.proofs.Invariant.Leaves.{h-wait, Asleep, h-asleep}
use Rattle.model.specs.Word.{after}
use Rattle.model.proofs.Quiet.Onwards.{timed-fine}

-- expressions whose variables are as they were
module _ (b : Part) (vars : List Site) {σ τ : Store} (same : (x : Site) → Memᴰ x vars → Memᴰ x b.reads → σ x ≡ τ x) where
  eval-same : (e : Expr) → FineExpr vars e → FineExpr b.reads e → eval σ e ≡ eval τ e
  unfolding eval
  eval-same (constant n) f g = refl
  eval-same (variable x) f g = same x f g
  eval-same (NOT e) f g = ap deny (eval-same e f g)
  eval-same (binary op l r) f g = ap₂ (operate op) (eval-same l f.0 g.0) (eval-same r f.1 g.1)

  pub value_same : {Room : Type 0} (e : Expr) → FineExpr vars e × FineExpr b.reads e × Room → eval σ e ≡ eval τ e
  value_same e f = eval-same e f.0 f.1

  pub true_same : {Room : Type 0} (e : Expr) → FineExpr vars e × FineExpr b.reads e × Room → is_true σ e ≡ is_true τ e
  true_same e f = ap (λ v. not (eqb v 0)) (value_same e f)

  pairs-same : (word : Site → ℕ) (chans : List Site) (w : ℕ) (ps : Pairs) (k : List Frame) → FinePairs word b vars chans w ps
      → first_true σ ps k ≡ first_true τ ps k
  unfolding first_true
  pairs-same word chans w no_pair k f = refl
  pairs-same word chans w (pair e s ps) k f = rw (true_same e f.0, pairs-same word chans w ps k f.2)

  pub guarded-same : (word : Site → ℕ) (chans : List Site) (w : ℕ) {c : Site} {gs : Guards} → FineGuards word b vars chans w gs
      → Guarded σ c gs → Guarded τ c gs
  guarded-same word chans w f (g-first {e} h) = g-first (sym (true_same e f.0) ∙ h)
  guarded-same word chans w f (g-later g) = g-later (guarded-same word chans w f.3 g)

module _ (S : Setting) (b : Part) (vars chans : List Site) {σ τ : Store}
    (same : (x : Site) → Memᴰ x vars → Memᴰ x b.reads → σ x ≡ τ x) where
  -- a significant instruction
  point-stays : {q : Process} {up : ℕ} {μ ν : Mem} {i : ℕ} {r : Regs} → ((v : ℕ) → b.bottom ≤ v → v < b.top → ν v ≡ μ v)
      → Point S b σ vars chans q up μ i r → Point S b τ vars chans q up ν i r
  point-stays h (pt-stop a c) = pt-stop a c
  point-stays h (pt-assign {e} a w f v small c n) =
      let z = value_same b vars same e f.1 in pt-assign a w f (v ∙ z) (subst (λ n. n < 2 ^ 32) z small) c n
  point-stays {r} h (pt-var op f l j e z m) =
      pt-var op f l j e z (λ k d. h (r.w + k) (omega (arith, op.room)) (omega (arith, cont-low S b op.after)) ∙ m k d)
  point-stays {r} h (pt-chan op f l j e z m) =
      pt-chan op f l j e z (λ k d. h (r.w + k) (omega (arith, op.room)) (omega (arith, cont-low S b op.after)) ∙ m k d)
  point-stays {r} h (pt-taken {ps} d {k} a v fa e g f c n) =
      pt-taken d a v fa (sym (pairs-same b vars same S.word chans r.w ps k fa) ∙ e) g f c n
  point-stays {r} h (pt-none {ps} {k} a c fa e) =
      pt-none a c fa (sym (pairs-same b vars same S.word chans r.w ps k fa) ∙ e)
  point-stays h (pt-while {e} a l fe v g f c n d m) = pt-while a l fe (v ∙ value_same b vars same e fe) g f c n d m
  point-stays h (pt-in a v c x f k n) = pt-in a v c x f k n
  point-stays h (pt-out {e} a v small c f x k n) =
      let z = value_same b vars same e f.1 in pt-out a (v ∙ z) (subst (λ n. n < 2 ^ 32) z small) c f x k n
  point-stays h (pt-par-place a x y c v l) = pt-par-place a x y c v l
  point-stays {r} h (pt-par-count a v c m) =
      pt-par-count a v c (h r.w (omega (arith, c.room)) (omega (arith, c.placed.low)) ∙ m)
  point-stays h (pt-end e a v w) = pt-end e a v w
  point-stays h (pt-wait-for {e} a v small f c n) =
      let z = value_same b vars same e f.1 in pt-wait-for a (v ∙ z) (subst (λ n. n < 2 ^ 32) z small) f c n
  point-stays h (pt-read a x w f c l n) = pt-read a x w f c l n
  point-stays h (pt-store a w f v small c n) = pt-store a w f v small c n
  point-stays h (pt-alt c l) = pt-alt c l

  -- a path
  pub goes-stays : {q : Process} {hi : ℕ} {μ ν : Mem} {i : ℕ} {r : Regs} → ((v : ℕ) → b.bottom ≤ v → v < b.top → ν v ≡ μ v)
      → Goes S b σ vars chans q hi μ i r → Goes S b τ vars chans q hi ν i r
  goes-stays h way =
      way-stable S.xs S.off S.word (λ μ ν. (v : ℕ) → b.bottom ≤ v → v < b.top → ν v ≡ μ v)
      (λ μ ν v z s f u l k. ap (λ n. cond (eqb u v) z n) (f u l k)) (λ μ ν v s f. f v s.above s.below)
      (λ x m. same x m.0 m.1) (λ w c ν v k l. refl) (λ u μ ν i r f pt. point-stays f pt) h way

-- what a process is led to
pub comes-stays : (S : Setting) (b : Part) (vars chans : List Site) {σ τ : Store}
    → ((x : Site) → Memᴰ x vars → Memᴰ x b.reads → σ x ≡ τ x) → {hi : ℕ} {p : Process} {i w : ℕ}
    → Comes S b σ vars chans hi p i w → Comes S b τ vars chans hi p i w
comes-stays S b vars chans same (comes {vars'} {chans'} sk settled sub way) =
    comes sk settled sub
    (λ μ r e. goes-stays S b vars' chans' (λ x m n. same x (sub.vars-in x m) n) (λ v k l. refl) (way μ r e))

-- what happens elsewhere leaves a part alone: its words but one, the variables that it reads, the names that channels hold of it, and who
-- sends to it
pub record Intact (S : Setting) (b : Part) (i : Info) (skip : ℕ) (st st' : State) (μ ν : Mem) : Type 0 where
  pub own : (v : ℕ) → b.bottom ≤ v → v < b.top → v ≢ skip → ν v ≡ μ v
  pub reads : (x : Site) → Memᴰ x i.vars → Memᴰ x b.reads → st.store x ≡ st'.store x
  pub chans : (c : Site) → Memᴰ c i.chans
      → (ν (S.word c) ≡ μ (S.word c)) ⊎ ((Own b (μ (S.word c)) → ⊥) × (Own b (ν (S.word c)) → ⊥))
  pub sends : (c : Site) → Memᴰ c b.inputs → Sender st c → Sender st' c
  pub none-sends : (c : Site) → Memᴰ c i.chans → Memᴰ c b.inputs → Own b (μ (S.word c)) → Sender st' c → Sender st c

-- one thing after another
pub intact-trans : {S : Setting} {b : Part} {i : Info} {skip : ℕ} {st₁ st₂ st₃ : State} {μ₁ μ₂ μ₃ : Mem} → Intact S b i skip st₁ st₂ μ₁ μ₂
    → Intact S b i skip st₂ st₃ μ₂ μ₃ → Intact S b i skip st₁ st₃ μ₁ μ₃
intact-trans {S} {b} {i} {st₁} {st₂} {st₃} {μ₁} {μ₂} {μ₃} f g =
    record {
      own = λ v h k d. g.own v h k d ∙ f.own v h k d;
      reads = λ x m n. f.reads x m n ∙ g.reads x m n;
      chans = λ c m. two c m (f.chans c m) (g.chans c m);
      sends = λ c m h. g.sends c m (f.sends c m h);
      none-sends = λ c m n o h.
          f.none-sends c m n o
          (⊎_elim (λ e. g.none-sends c m n (subst (Own b) (sym e) o) h) (λ d. absurd (d.0 o)) (f.chans c m));
    }
  where
    two : (c : Site) → Memᴰ c i.chans
        → (μ₂ (S.word c) ≡ μ₁ (S.word c)) ⊎ ((Own b (μ₁ (S.word c)) → ⊥) × (Own b (μ₂ (S.word c)) → ⊥))
        → (μ₃ (S.word c) ≡ μ₂ (S.word c)) ⊎ ((Own b (μ₂ (S.word c)) → ⊥) × (Own b (μ₃ (S.word c)) → ⊥))
        → (μ₃ (S.word c) ≡ μ₁ (S.word c)) ⊎ ((Own b (μ₁ (S.word c)) → ⊥) × (Own b (μ₃ (S.word c)) → ⊥))
    two c m (inl e) (inl d) = inl (d ∙ e)
    two c m (inl e) (inr d) = inr ((λ o. d.0 (subst (Own b) (sym e) o)), d.1)
    two c m (inr e) (inl d) = inr (e.0, (λ o. e.1 (subst (Own b) d o)))
    two c m (inr e) (inr d) = inr (e.0, d.1)

module _ (S : Setting) (b : Part) (i : Info) (high : b.top < 2 ^ 32) (sits : Sits S b i) {skip : ℕ} {st st' : State} {μ ν : Mem}
    (intact : Intact S b i skip st st' μ ν) where
  -- its own words, at and below its workspace
  pub resume-same : resume_word i.w ≢ skip → ν (resume_word i.w) ≡ μ (resume_word i.w)
  resume-same d =
      intact.own (resume_word i.w) (omega (arith, sits.placed.room, sits.placed.low))
      (omega (arith, sits.placed.room, sits.placed.low)) d

  pub state-same : b.bottom + 3 ≤ i.w → state_word i.w ≢ skip → ν (state_word i.w) ≡ μ (state_word i.w)
  state-same h d = intact.own (state_word i.w) (omega (arith, sits.placed.low)) (omega (arith, sits.placed.low)) d

  pub base_same : b.bottom ≤ i.w → i.w < b.top → i.w ≢ skip → ν i.w ≡ μ i.w
  base_same h k d = intact.own i.w h k d

  -- the names of this part that channels hold
  pub own_back : (c : Site) → Memᴰ c i.chans → Own b (ν (S.word c)) → ν (S.word c) ≡ μ (S.word c)
  own_back c m o = ⊎_elim (λ e. e) (λ d. absurd (d.1 o)) (intact.chans c m)

  pub own_on : (c : Site) → Memᴰ c i.chans → Own b (μ (S.word c)) → ν (S.word c) ≡ μ (S.word c)
  own_on c m o = ⊎_elim (λ e. e) (λ d. absurd (d.0 o)) (intact.chans c m)

  pub unmarked-stays : Unmarked S b i st μ → Unmarked S b i st' ν
  unmarked-stays h c m o = h c m (subst (Own b) (own_back c m o) o)

  only-stays : {d : Site} → MarkedOnly S b i st μ d → MarkedOnly S b i st' ν d
  only-stays h c m o = h c m (subst (Own b) (own_back c m o) o)

  pub resumes-stays : {at hi : ℕ} → resume_word i.w ≢ skip → Resumes S b i st μ at hi → Resumes S b i st' ν at hi
  resumes-stays d r = record { place = resume-same d ∙ r.place; soon = r.soon }

  -- a workspace with room is one of the part's
  pub own-w : Own b (name_of i.w)
  own-w = own_name b i.w (omega (arith, sits.placed.room)) sits.placed.low

  waits-stays : {c : Site} {k : List Frame} {at hi message : ℕ} → resume_word i.w ≢ skip → state_word i.w ≢ skip
      → Waits S b i st μ c k at hi message → Waits S b i st' ν c k at hi message
  waits-stays {c} d e w =
      record {
        scope = w.scope;
        onward = w.onward;
        near = w.near;
        resumes = resumes-stays d w.resumes;
        space = w.space;
        here = own_on c w.scope (subst (Own b) (sym w.here) own-w) ∙ w.here;
        only = only-stays w.only;
        message-at = state-same w.space e ∙ w.message-at;
      }

  -- guards
  module _ (vw : ℕ) where
    -- a guard that is present stays so
    guard-stays : {g : Guard} → FineWhole b i.vars vw guard_room (condition g) → FineInput b i.vars i.chans vw g → Present st g
        → Present st' g
    guard-stays f c (is-sent {e} {c = d} h s) = is-sent (sym (true_same b i.vars intact.reads e f) ∙ h) (intact.sends d c.2 s)
    guard-stays f c (is-skip {e} h) = is-skip (sym (true_same b i.vars intact.reads e f) ∙ h)

    pub present-stays : {gs : Guards} → FineGuards S.word b i.vars i.chans vw gs → AnyPresent st gs → AnyPresent st' gs
    present-stays f (a_first r) = a_first (guard-stays f.0 f.1 r)
    present-stays f (a-later g) = a-later (present-stays f.3 g)

    -- none becomes present where each true guard is marked
    pub unready-stays : {gs : Guards} → FineGuards S.word b i.vars i.chans vw gs
        → ((d : Site) → Guarded st.store d gs → Own b (μ (S.word d))) → (AnyPresent st gs → ⊥) → AnyPresent st' gs → ⊥
    unready-stays f m n (a_first (is-sent {e} {c} h s)) =
        let t = true_same b i.vars intact.reads e f.0 ∙ h in
        n (a_first (is-sent t (intact.none-sends c f.1.1 f.1.2 (m c (g-first t)) s)))
    unready-stays f m n (a_first (is-skip {e} h)) = n (a_first (is-skip (true_same b i.vars intact.reads e f.0 ∙ h)))
    unready-stays f m n (a-later g) = unready-stays f.3 (λ d h. m d (g-later h)) (λ h. n (a-later h)) g

    guard-unready : (w : ℕ) → Own b (name_of w) → (g : Guard) → FineWhole b i.vars vw guard_room (condition g)
        → FineInput b i.vars i.chans vw g
        → Unready st S.word μ w g → Unready st' S.word ν w g
    guard-unready w o (input_guard e c x) f d u = λ z.
        let g = u (true_same b i.vars intact.reads e f ∙ z) in
        let mine = subst (Own b) (sym g.0) o in
        (own_on c d.1 mine ∙ g.0, (λ s. g.1 (intact.none-sends c d.1 d.2 mine s)))
    guard-unready w o (skip_guard e) f d u = sym (true_same b i.vars intact.reads e f) ∙ u
    guard-unready w o (time_guard e t) f d u = tt

    pub noticed-stays : {w : ℕ} {gs hs : Guards} → Own b (name_of w) → FineGuards S.word b i.vars i.chans vw gs
        → Noticed st S.word μ w gs hs → Noticed st' S.word ν w gs hs
    noticed-stays o f n-none = n-none
    noticed-stays {w} o f (n-later {g} u n) = n-later (guard-unready w o g f.0 f.1 u) (noticed-stays o f.3 n)

    pub marked-stays : {gs : Guards} (w : ℕ) → FineGuards S.word b i.vars i.chans vw gs
        → Marked S b st i.vars i.chans gs μ w → Marked S b st' i.vars i.chans gs ν w
    marked-stays w f h c m o =
        let e = own_back c m o in
        let g = h c m (subst (Own b) e o) in
        (e ∙ g.0, guarded-same b i.vars intact.reads S.word i.chans vw f g.1)

    -- times
    of-stays : {P Q : ℕ → Type 0} (g : Guard) → FineWhole b i.vars vw guard_room (condition g)
        → FineInput b i.vars i.chans vw g → ((u : ℕ) → P u → Q u) → OfTime st.store P g → OfTime st'.store Q g
    of-stays (input_guard e c x) f d h o = tt
    of-stays (skip_guard e) f d h o = tt
    of-stays {Q = Q} (time_guard e t) f d h o = λ z.
        subst Q (value_same b i.vars intact.reads t (d.0, d.1, tt {0})) (h (eval st.store t)
        (o (true_same b i.vars intact.reads e f ∙ z)))

    pub each-stays : {P Q : ℕ → Type 0} {gs hs : Guards} → FineGuards S.word b i.vars i.chans vw gs → ((u : ℕ) → P u → Q u)
        → EachTime st.store P gs hs → EachTime st'.store Q gs hs
    each-stays f h e-none = e-none
    each-stays f h (e-later {g = g} o r) = e-later (of-stays g f.0 f.1 h o) (each-stays f.3 h r)

    pub timely-stays : {u : ℕ} {gs : Guards} → FineGuards S.word b i.vars i.chans vw gs → Timely st.store u gs
        → Timely st'.store u gs
    timely-stays f (t-first {e} {t} z q) =
        t-first (sym (true_same b i.vars intact.reads e f.0) ∙ z)
        (sym (value_same b i.vars intact.reads t (f.1.0, f.1.1, tt {0})) ∙ q)
    timely-stays f (t-later h) = t-later (timely-stays f.3 h)

    pub timely-back : {u : ℕ} {gs : Guards} → FineGuards S.word b i.vars i.chans vw gs → Timely st'.store u gs
        → Timely st.store u gs
    timely-back f (t-first {e} {t} z q) =
        t-first (true_same b i.vars intact.reads e f.0 ∙ z)
        (value_same b i.vars intact.reads t (f.1.0, f.1.1, tt {0}) ∙ q)
    timely-back f (t-later h) = t-later (timely-back f.3 h)

    -- in the same context or another
    module _ {T T' : Times} {w : ℕ} (onto : Onto T T' w (now st) (now st')) where
      pub guarding-stays : {gs hs : Guards} → FineGuards S.word b i.vars i.chans vw gs → Guarding T st gs hs w
          → Guarding T' st' gs hs w
      guarding-stays f h = each-stays f (λ u g. (g.0, onto.on u g.1)) h

      least_stays : {gs hs : Guards} → FineGuards S.word b i.vars i.chans vw gs → ν (time_word w) ≡ μ (time_word w)
          → Least T st gs hs μ w → Least T' st' gs hs ν w
      least_stays f e l =
          record {
            tm = l.tm;
            is = e ∙ l.is;
            small = l.small;
            one = timely-stays f l.one;
            knows = onto.on l.tm l.knows;
            least = each-stays f (λ u h o. h (onto.less o)) l.least;
          }

      module _ {gs : Guards} (f : FineGuards S.word b i.vars i.chans vw gs) (link : ν (time_link_word w) ≡ μ (time_link_word w))
          (time : ν (time_word w) ≡ μ (time_word w)) where
        pub bringing-stays : {hs : Guards} → Bringing T st gs hs μ w → Bringing T' st' gs hs ν w
        bringing-stays (not_set z n) = not_set (link ∙ z) (each-stays f (λ u h. h) n)
        bringing-stays (is_set z l) = is_set (link ∙ z) (least_stays f time l)

        pub dozing-stays : Dozing T st gs μ w → Dozing T' st' gs ν w
        dozing-stays (no-time z n) = no-time (link ∙ z) (each-stays f (λ u h. h) n)
        dozing-stays (until z l) = until (linked-same T st μ ν w link z) (least_stays f time l)

        pub passed-stays : {hs : Guards} → FineGuards S.word b i.vars i.chans vw hs → Guarding T st gs no_guard w
            → Passed T st gs hs μ w → Passed T' st' gs hs ν w
        passed-stays f' g (p-unset z) = p-unset (link ∙ z)
        passed-stays f' g (p-set z h) =
            p-set (link ∙ z)
            (λ u m a o.
            let m₀ = timely-back f m in
            let (small, k) = each_all st.store g u m₀ in
            onto.past u small k o (h u m₀ (ap (λ y. after y u) (sym time) ∙ a) (onto.less o)))
        passed-stays f' g (p-linked z u m) = p-linked (linked-same T st μ ν w link z) u (timely-stays f' m)

    -- what will be found still is; an ALT has its time words where it has room for them
    pub found-stays : {w : ℕ} {hs : Guards} → vw ≡ w + 1
        → (b.bottom + 5 ≤ w → (ν (time_link_word w) ≡ μ (time_link_word w)) × (ν (time_word w) ≡ μ (time_word w)))
        → FineGuards S.word b i.vars i.chans vw hs → AnyFound st μ w hs → AnyFound st' ν w hs
    found-stays e words f (f-first (finds-present h)) = f-first (finds-present (guard-stays f.0 f.1 h))
    found-stays e words f (f-first (finds-time {e = c} {t} x y z)) =
        let (link, time) = words (omega (arith, e, f.1.2)) in
        f-first (finds-time (sym (true_same b i.vars intact.reads c f.0) ∙ x) (link ∙ y)
        (ap₂ after time (sym (value_same b i.vars intact.reads t (f.1.0, f.1.1, tt {0}))) ∙ z))
    found-stays e words f (f-later h) = f-later (found-stays e words f.3 h)

    -- a guard that was ready, by its time too, is so
    module _ {T T' : Times} {w : ℕ} (onto : Onto T T' w (now st) (now st')) where
      ready-stays : {g : Guard} → FineWhole b i.vars vw guard_room (condition g) → FineInput b i.vars i.chans vw g
          → OfTime st.store (λ u. (u < 2 ^ 32) × T.guarded w u (now st)) g → T'.sure → Ready st g → Ready st' g
      ready-stays f c k o (by-input {e} {c = d} h s) = by-input (sym (true_same b i.vars intact.reads e f) ∙ h)
          (intact.sends d c.2 s)
      ready-stays f c k o (by-skip {e} h) = by-skip (sym (true_same b i.vars intact.reads e f) ∙ h)
      ready-stays f c k o (by-time {e} {t} h p) =
          let (small, g) = k h in
          by-time (sym (true_same b i.vars intact.reads e f) ∙ h)
          (ap (after (now st')) (sym (value_same b i.vars intact.reads t (c.0, c.1, tt {0}))) ∙ onto.past
          (eval st.store t) small g o p)

      pub picks-stays : {k : List Frame} {gs : Guards} {b' t : ℕ} {p : Process} → Picks T st k gs b' t p
          → FineGuards S.word b i.vars i.chans vw gs → Guarding T st gs no_guard w → Picks T' st' k gs b' t p
      picks-stays (p-first h) f (e-later g r) = p-first (λ o. ready-stays f.0 f.1 g o (h (onto.less o)))
      picks-stays (p-later h) f (e-later g r) = p-later (picks-stays h f.3 r)

    pub disabling-stays : {T T' : Times} {k : List Frame} {gs hs : Guards} {choice w : ℕ} → Onto T T' w (now st) (now st') → vw ≡ w + 1
        → FineGuards S.word b i.vars i.chans vw gs
        → FineGuards S.word b i.vars i.chans vw hs → ν w ≡ μ w → ν (state_word w) ≡ μ (state_word w)
        → (b.bottom + 5 ≤ w → (ν (time_link_word w) ≡ μ (time_link_word w)) × (ν (time_word w) ≡ μ (time_word w)))
        → Disabling S b T st i.vars i.chans k gs hs choice μ w → Disabling S b T' st' i.vars i.chans k gs hs choice ν w
    disabling-stays {gs = gs} {w = w} onto same_w f g e x words d =
        record {
          marks = marked-stays w g d.marks;
          state = x ∙ d.state;
          chosen = ⊎_elim (λ c. let (t, p, h, z) = c in inl (t, p, picks-stays onto h f d.known, e ∙ z))
              (λ c. inr (e ∙ c.0, found-stays same_w words g c.1)) d.chosen;
          times = λ z.
              let (link, time) = words (omega (arith, same_w, timed-fine S.word b i.vars i.chans vw gs f z)) in
              passed-stays onto f link time g d.known (d.times z);
          known = guarding-stays onto f d.known;
        }

    pub waiting_stays : {T T' : Times} {gs : Guards} {w : ℕ} → Onto T T' w (now st) (now st') → vw ≡ w + 1
        → FineGuards S.word b i.vars i.chans vw gs
        → (b.bottom + 5 ≤ w → (ν (time_link_word w) ≡ μ (time_link_word w)) × (ν (time_word w) ≡ μ (time_word w)))
        → (timed gs ≡ true → Dozing T st gs μ w) → timed gs ≡ true → Dozing T' st' gs ν w
    waiting_stays {gs = gs} onto same_w f words z t =
        let (link, time) =
        words (omega (arith, same_w, timed-fine S.word b i.vars i.chans vw gs f t)) in dozing-stays onto f link time (z t)

-- one that waits for the clock
pub asleep-stays : (S : Setting) (b : Part) (i : Info) → b.top < 2 ^ 32 → Sits S b i → {st st' : State} {μ ν : Mem}
    → Intact S b i (link_word i.w) st st' μ ν → {t : ℕ} {k : List Frame} {at hi : ℕ} → Asleep S b i st μ t k at hi
    → Asleep S b i st' ν t k at hi
asleep-stays S b i high sits intact a =
    let low = sits.placed.low in
    record {
      onward = a.onward;
      near = a.near;
      resumes = resumes-stays S b i high sits intact (λ e. absurd (omega (arith, a.space, low))) a.resumes;
      space = a.space;
      state-is = state-same S b i high sits intact (omega (arith, a.space)) (λ e. absurd (omega (arith, a.space, low))) ∙ a.state-is;
      time-is =
          intact.own (time_word i.w) (omega (arith, a.space, low)) (omega (arith, a.space, low))
          (λ e. absurd (omega (arith, a.space, low)))
          ∙ a.time-is;
      small = a.small;
      unmarked = unmarked-stays S b i high sits intact a.unmarked;
    }

-- the two words of an ALT with a time guard stay
pub time-words-same : (S : Setting) (b : Part) (i : Info) → b.top < 2 ^ 32 → Sits S b i → {st st' : State} {μ ν : Mem}
    → Intact S b i (link_word i.w) st st' μ ν → b.bottom + 5 ≤ i.w
    → (ν (time_link_word i.w) ≡ μ (time_link_word i.w)) × (ν (time_word i.w) ≡ μ (time_word i.w))
time-words-same S b i high sits intact space =
    let low = sits.placed.low in (
      intact.own (time_link_word i.w) (omega (arith, space, low)) (omega (arith, space, low)) (λ e. absurd (omega (arith, space, low))),
      intact.own (time_word i.w) (omega (arith, space, low)) (omega (arith, space, low)) (λ e. absurd (omega (arith, space, low))),
    )

pub held_stays : (S : Setting) {T T' : Times} (b : Part) (i : Info) → b.top < 2 ^ 32 → Sits S b i
    → {st st' : State} {μ ν : Mem} → Intact S b i (link_word i.w) st st' μ ν → Onto T T' i.w (now st) (now st')
    → {f : Bool} {q : Process} → Held S T b i st μ f q → Held S T' b i st' ν f q
held_stays S b i high sits intact onto (h-queued c r h u) =
    h-queued (comes-stays S b i.vars i.chans intact.reads c)
    (resumes-stays S b i high sits intact (λ e. absurd (omega (arith, sits.placed.room, sits.placed.low))) r) h
    (unmarked-stays S b i high sits intact u)
held_stays S b i high sits {μ = μ} {ν} intact onto (h-woken {gs} c r s d) =
    let low = sits.placed.low in
    let state =
    state-same S b i high sits intact (omega (arith, c.fine.0)) (λ e. absurd (omega (arith, sits.placed.room, c.fine.0, low))) in
    h-woken c (resumes-stays S b i high sits intact (λ e. absurd (omega (arith, sits.placed.room, low))) r) (state ∙ s)
    (disabling-stays S b i high sits intact (i.w + 1) onto refl c.fine.1 c.fine.1
    (base_same S b i high sits intact (omega (arith, sits.placed.room)) (omega (arith, cont-low S b c.after))
    (λ e. absurd (omega (arith, sits.placed.room, low)))) state (time-words-same S b i high sits intact) d)
held_stays S b i high sits intact onto (h-input {c} w t m n) =
    let low = sits.placed.low in
    h-input
    (waits-stays S b i high sits intact (λ e. absurd (omega (arith, w.space, low))) (λ e. absurd (omega (arith, w.space, low))) w) t m
    (λ s. n (intact.none-sends c w.scope m (subst (Own b) (sym w.here) (own-w S b i high sits intact)) s))
held_stays S b i high sits intact onto (h-output w m l v z) =
    let low = sits.placed.low in
    h-output
    (waits-stays S b i high sits intact (λ e. absurd (omega (arith, w.space, low))) (λ e. absurd (omega (arith, w.space, low))) w) m l
    (base_same S b i high sits intact (omega (arith, w.space)) l (λ e. absurd (omega (arith, w.space, low))) ∙ v) z
held_stays S b i high sits intact onto (h-stop u) = h-stop (unmarked-stays S b i high sits intact u)
held_stays S b i high sits {st} {st'} {μ} {ν} intact onto (h-wait {gs} c r s v m n k z g) =
    let low = sits.placed.low in
    let mine : Own b (name_of i.w) = own-w S b i high sits intact in
    let back : (d : Site) → Guarded st'.store d gs → Guarded st.store d gs =
    λ d g. guarded-same b i.vars (λ x h l. sym (intact.reads x h l)) S.word i.chans (i.w + 1) c.fine.1 g in
    let here : (d : Site) → Guarded st.store d gs → Own b (μ (S.word d)) = λ d g. subst (Own b) (sym (m d g)) mine in
    h-wait c (resumes-stays S b i high sits intact (λ e. absurd (omega (arith, sits.placed.room, low))) r)
    (state-same S b i high sits intact (omega (arith, c.fine.0)) (λ e. absurd (omega (arith, sits.placed.room, c.fine.0, low))) ∙ s)
    (base_same S b i high sits intact (omega (arith, sits.placed.room)) (omega (arith, cont-low S b c.after))
    (λ e. absurd (omega (arith, sits.placed.room, low))) ∙ v)
    (λ d g. own_on S b i high sits intact d (guarded-fine S.word b i.vars i.chans (i.w + 1) (back d g) c.fine.1).0
    (here d (back d g)) ∙ m d (back d g))
    (unready-stays S b i high sits intact (i.w + 1) c.fine.1 here n)
    (marked-stays S b i high sits intact (i.w + 1) i.w c.fine.1 k)
    (waiting_stays S b i high sits intact (i.w + 1) onto refl c.fine.1 (time-words-same S b i high sits intact) z)
    (guarding-stays S b i high sits intact (i.w + 1) onto c.fine.1 g)
held_stays S b i high sits intact onto (h-asleep a) = h-asleep (asleep-stays S b i high sits intact a)
