-- Going along a timer queue whose processes are a list: where a process with a time has its place, and the queue with it.
use Prim.Native.Nat.{ℕ, zero, suc, ◌^◌, ◌≤◌, ◌<◌}
use native.Mathlib.Omega.{arith}
use mathlib.Core.Path.{◌≡◌, refl, sym, ap, ◌∙◌, subst}
use mathlib.Core.Logic.{◌≢◌, ◌⊎◌, inl, inr, ⊎_elim}
use mathlib.Core.Bool.{false, cond, Bool}
use mathlib.Core.List.Memᴰ
use mathlib.Core.List.{List, [], ◌∷◌, Memᴰ}
use mathlib.Core.Option.{Option, none, some}
use lib.ListN.{length, get_or}
use lib.Dec.{ltb, leb}
use borrow.Author.Tests.{ne_eqb, ltb-true, ltb-false, leb-true, leb-false}
use Rattle.model.specs.Word.{after, not_process}
use Rattle.model.specs.Limits.{word_limit}
use Rattle.model.specs.Machine.{World, done, time_link_word, time_word, name_of, space_of, Act}
use Rattle.model.specs.Timer.{was_at, Stop, along, is_later, time_set, time_not_set}
use Rattle.model.proofs.Cases.{by_bool, never}
use Rattle.model.proofs.Words.Times.{distance, Near, later-after, earlier-not}
use Rattle.model.proofs.Quiet.Names.{name_back, name-injective, name-given, name-unset}
use Rattle.model.proofs.Quiet.Ways.{Mem, front_word, upd, upd_same, upd_other}
use Rattle.model.proofs.Effects.OneWord.{size_of, peek-in}
use Rattle.model.proofs.Effects.Timers.{Chain, ends, next, Sorted, Once, chain-stable, sorted-stable}

-- where a walk stops that stops at the first process that passes a test
unfoldable pub stop_by : (test : ℕ → Bool) → (before : Option ℕ) → List ℕ → Stop
stop_by test b [] = record { before = b; at = not_process }
stop_by test b (w ∷ ts) = cond (test w) (record { before = b; at = name_of w }) (stop_by test (some (name_of w)) ts)

-- a process with the time t has its place before the first whose time is after it
abbrev pub later : Mem → (t w : ℕ) → Bool
later μ t w = after (μ (time_word w)) t

abbrev pub stop_in : Mem → (t : ℕ) → (before : Option ℕ) → List ℕ → Stop
stop_in μ t b ts = stop_by (later μ t) b ts

-- the workspaces with w there
unfoldable pub inserted : Mem → (t w : ℕ) → List ℕ → List ℕ
inserted μ t w [] = w ∷ []
inserted μ t w (v ∷ ts) = cond (after (μ (time_word v)) t) (w ∷ v ∷ ts) (v ∷ inserted μ t w ts)

-- the word that names what comes behind a process, or the first
abbrev pub link_of : Option ℕ → ℕ
link_of none = front_word
link_of (some p) = time_link_word (space_of p)

-- the stop's link is the first one or that of one that was passed
pub stop-link : (test : ℕ → Bool) (b : Option ℕ) (ts : List ℕ) (P : ℕ → Type 0) → P (link_of b)
    → ((v : ℕ) → Memᴰ v ts → test v ≡ false → P (time_link_word v)) → P (link_of (stop_by test b ts).before)
unfolding stop_by
stop-link test b [] P p h = p
stop-link test b (w ∷ ts) P p h =
    by_bool (test w) (λ e. rw e p)
    (λ e.
    rw e (stop-link test (some (name_of w)) ts P (subst P (ap time_link_word (sym (name_back w))) (h w (Memᴰ.head refl) e))
    (λ v m. h v (Memᴰ.tail m))))

-- what is there is a name, or none
pub stop-names : (test : ℕ → Bool) (b : Option ℕ) (ts : List ℕ) → ((v : ℕ) → Memᴰ v ts → v ≤ word_limit)
    → ((stop_by test b ts).at ≢ time_set) × ((stop_by test b ts).at ≢ time_not_set)
unfolding stop_by
stop-names test b [] small = ((λ e. absurd (omega (arith, e))), (λ e. absurd (omega (arith, e))))
stop-names test b (w ∷ ts) small =
    by_bool (test w) (λ e. rw e (name-unset w (small w (Memᴰ.head refl))))
    (λ e. rw e (stop-names test (some (name_of w)) ts (λ v m. small v (Memᴰ.tail m))))

-- what is known of the workspaces of a queue: they are small, with time words in memory
pub record Fit (size v : ℕ) : Type 0 where
  pub small : v ≤ word_limit
  pub space : 5 ≤ v
  pub inside : v ≤ size

-- a queue that a walk goes along, from where the word a leads
pub record Walk (s : World) (μ : Mem) (ts : List ℕ) : Type 0 where
  pub mirror : (v : ℕ) → v < size_of s → get_or s.memory v 0 ≡ μ v
  pub fit : (v : ℕ) → Memᴰ v ts → Fit (size_of s) v
  pub once : Once ts

pub along-by : (stops : ℕ → Act Bool) (test : ℕ → Bool) (n front : ℕ) (seen : List ℕ) (b : Option ℕ) (ts : List ℕ) (s : World) (μ : Mem)
    (a p : ℕ) → p ≡ μ a → Chain μ a ts → Walk s μ ts → ((v : ℕ) → Memᴰ v ts → stops (name_of v) s ≡ done (test v) s)
    → ((v : ℕ) → Memᴰ v ts → was_at (name_of v) seen ≡ false) → length ts < n
    → along n stops front seen b p s ≡ done (stop_by test b ts) s
unfolding along stop_by was_at
along-by stops test zero front seen b ts s μ a p e c k says new l = absurd (omega arith)
along-by stops test (suc n) front seen b [] s μ a p e (ends z) k says new l =
    let at : p ≡ not_process = e ∙ z in rw at
along-by stops test (suc n) front seen b (w ∷ ts) s μ a p e (next z c) k says new l =
    let at : p ≡ name_of w = e ∙ z in
    let f = k.fit w (Memᴰ.head refl) in
    let off = ne_eqb (name_of w) not_process (name-given w f.small) in
    let link : time_link_word w < size_of s = omega (arith, f.small, f.space, f.inside) in
    let said = says w (Memᴰ.head refl) in
    by_bool (test w)
    (λ h. rw (at, off, new w (Memᴰ.head refl), said, h))
    (λ h.
    let rest = along-by stops test n front (name_of w ∷ seen) (some (name_of w)) ts s μ (time_link_word w) (μ (time_link_word w)) refl c
    (record { mirror = k.mirror; fit = λ v m. k.fit v (Memᴰ.tail m); once = k.once.1 }) (λ v m. says v (Memᴰ.tail m))
    (λ v m. rw (ne_eqb (name_of v) (name_of w) (λ q. k.once.0 v m (sym (name-injective v w q)))) (new v (Memᴰ.tail m)))
    (omega arith) in
    rw (
      at,
      off,
      new w (Memᴰ.head refl),
      said,
      h,
      name_back w,
      peek-in (time_link_word w) s link,
      k.mirror (time_link_word w) link,
    ) rest)

-- to the place of a time
pub along-in : (n t front : ℕ) (b : Option ℕ) (ts : List ℕ) (s : World) (μ : Mem) (a p : ℕ) → p ≡ μ a → Chain μ a ts → Walk s μ ts
    → length ts < n → along n (is_later t) front [] b p s ≡ done (stop_in μ t b ts) s
unfolding was_at
along-in n t front b ts s μ a p e c k l =
    along-by (is_later t) (later μ t) n front [] b ts s μ a p e c k
    (λ v m.
    let f = k.fit v m in
    let time : time_word v < size_of s = omega (arith, f.small, f.space, f.inside) in
    rw (name_back v, peek-in (time_word v) s time, k.mirror (time_word v) time)) (λ v m. refl) l

-- who is in the queue then
pub inserted-in : (μ : Mem) (t w : ℕ) (ts : List ℕ) (v : ℕ) → Memᴰ v (inserted μ t w ts) → (v ≡ w) ⊎ Memᴰ v ts
unfolding inserted
inserted-in μ t w [] v m = ⊎_elim (λ e. inl e) (λ n. absurd (Memᴰ.not-nil n)) (Memᴰ.cases_cons m)
inserted-in μ t w (u ∷ ts) v m =
    by_bool (after (μ (time_word u)) t) (λ h. Memᴰ.cases_cons (rw h at m))
    (λ h.
    ⊎_elim (λ e. inr (Memᴰ.head e)) (λ n. ⊎_elim (λ e. inl e) (λ k. inr (Memᴰ.tail k)) (inserted-in μ t w ts v n))
    (Memᴰ.cases_cons (rw h at m)))

pub in-inserted : (μ : Mem) (t w : ℕ) (ts : List ℕ) (v : ℕ) → (v ≡ w) ⊎ Memᴰ v ts → Memᴰ v (inserted μ t w ts)
unfolding inserted
in-inserted μ t w [] v h = ⊎_elim (λ e. Memᴰ.head e) (λ n. absurd (Memᴰ.not-nil n)) h
in-inserted μ t w (u ∷ ts) v h =
    by_bool (after (μ (time_word u)) t) (λ z. rw z (⊎_elim (λ e. Memᴰ.head e) (λ n. Memᴰ.tail n) h))
    (λ z.
    rw z (⊎_elim (λ e. Memᴰ.tail (in-inserted μ t w ts v (inl e)))
    (λ n. ⊎_elim (λ e. Memᴰ.head e) (λ k. Memᴰ.tail (in-inserted μ t w ts v (inr k))) (Memᴰ.cases_cons n)) h))

pub once-inserted : (μ : Mem) (t w : ℕ) (ts : List ℕ) → ((v : ℕ) → Memᴰ v ts → w ≢ v) → Once ts → Once (inserted μ t w ts)
unfolding inserted
once-inserted μ t w [] new o = ((λ v m. absurd (Memᴰ.not-nil m)), tt)
once-inserted μ t w (u ∷ ts) new o =
    by_bool (after (μ (time_word u)) t) (λ h. rw h (new, o))
    (λ h.
    rw h (
      (λ v m. ⊎_elim (λ e q. new u (Memᴰ.head refl) (sym (q ∙ e))) (λ n. o.0 v n) (inserted-in μ t w ts v m)),
      once-inserted μ t w ts (λ v m. new v (Memᴰ.tail m)) o.1,
    ))

-- their times rise where those of the others do and all are near the clock
pub sorted-inserted : (μ ν : Mem) (c t w : ℕ) (ts : List ℕ) → c < 2 ^ 32 → t < 2 ^ 32 → Near c t
    → ((v : ℕ) → Memᴰ v ts → (μ (time_word v) < 2 ^ 32) × Near c (μ (time_word v)) × (ν (time_word v) ≡ μ (time_word v)))
    → ν (time_word w) ≡ t → Sorted c μ ts → Sorted c ν (inserted μ t w ts)
unfolding inserted
sorted-inserted μ ν c t w [] cw tw near known e s = ((λ v m. absurd (Memᴰ.not-nil m)), tt)
sorted-inserted μ ν c t w (u ∷ ts) cw tw near known e s =
    let k = known u (Memᴰ.head refl) in
    let below : (x y : ℕ) → ν (time_word x) ≡ y → distance c (ν (time_word x)) ≡ distance c y = λ x y q. ap (distance c) q in
    by_bool (after (μ (time_word u)) t)
    (λ h.
    let earlier : distance c t < distance c (μ (time_word u)) =
    by-lt (distance c t) (distance c (μ (time_word u))) (λ l. never (cc (h, earlier-not cw k.0 tw k.1 near l))) in
    rw h (
      (λ v m. ⊎_elim (λ q. let z = ap (λ x. distance c (ν (time_word x))) q in omega (arith, z, below w t e, below u _ k.2, earlier))
          (λ n.
          omega (arith, below w t e, below v _ (known v (Memᴰ.tail n)).2, s.0 v n, earlier)) (Memᴰ.cases_cons m)),
      (
        (λ v m. omega (arith, below u _ k.2, below v _ (known v (Memᴰ.tail m)).2, s.0 v m)),
        sorted-same ts s.1 (λ v m. (known v (Memᴰ.tail m)).2),
      ),
    ))
    (λ h.
    let later : distance c (μ (time_word u)) ≤ distance c t =
    by_le (distance c (μ (time_word u))) (distance c t) (λ l. never (cc (h, later-after cw k.0 tw k.1 near l))) in
    rw h (
      (λ v m. ⊎_elim
          (λ q. let z = ap (λ x. distance c (ν (time_word x))) q in omega (arith, z, below w t e, below u _ k.2, later))
          (λ n. omega (arith, below u _ k.2, below v _ (known v (Memᴰ.tail n)).2, s.0 v n)) (inserted-in μ t w ts v m)),
      sorted-inserted μ ν c t w ts cw tw near (λ v m. known v (Memᴰ.tail m)) e s.1,
    ))
  where
    sorted-same : (vs : List ℕ) → Sorted c μ vs → ((v : ℕ) → Memᴰ v vs → ν (time_word v) ≡ μ (time_word v)) → Sorted c ν vs
    sorted-same vs s h = sorted-stable μ ν c vs h s

    by-lt : (x y : ℕ) → (y ≤ x → ◌≡◌ {A = ℕ} 0 1) → x < y
    by-lt x y f = by_bool (ltb x y) (λ e. ltb-true x y e) (λ e. never (f (ltb-false x y e)))

    by_le : (x y : ℕ) → (y < x → ◌≡◌ {A = ℕ} 0 1) → x ≤ y
    by_le x y f = by_bool (leb x y) (λ e. leb-true x y e) (λ e. never (f (omega (arith, leb-false x y e))))

-- the words then
abbrev pub inserted_in : (w : ℕ) → Stop → Mem → Mem
inserted_in w s μ = upd (upd μ (time_link_word w) s.at) (link_of s.before) (name_of w)

-- the time link words of some workspaces, of w and the word a are all different
pub record Distinct (a w : ℕ) (ts : List ℕ) : Type 0 where
  pub first : time_link_word w ≢ a
  pub own : (v : ℕ) → Memᴰ v ts → time_link_word v ≢ time_link_word w
  pub others : (v : ℕ) → Memᴰ v ts → time_link_word v ≢ a

pub chain-inserted : (μ : Mem) (t w : ℕ) (ts : List ℕ) (b : Option ℕ) (a : ℕ) → link_of b ≡ a → Chain μ a ts → Distinct a w ts
    → ((u v : ℕ) → Memᴰ u ts → Memᴰ v ts → time_link_word u ≡ time_link_word v → u ≡ v) → Once ts
    → Chain (inserted_in w (stop_in μ t b ts) μ) a (inserted μ t w ts)
unfolding inserted stop_by
chain-inserted μ t w [] b a e (ends z) d inj o =
    let ν = upd (upd μ (time_link_word w) not_process) (link_of b) (name_of w) in
    let at : ν a ≡ name_of w = ap ν (sym e) ∙ upd_same (upd μ (time_link_word w) not_process) (link_of b) (name_of w) in
    let end : ν (time_link_word w) ≡ not_process =
    upd_other (upd μ (time_link_word w) not_process) (link_of b) (name_of w) (time_link_word w) (λ q. d.first (q ∙ e))
    ∙ upd_same μ (time_link_word w) not_process in
    next at (ends end)
chain-inserted μ t w (v ∷ ts) b a e (next z c) d inj o =
    by_bool (after (μ (time_word v)) t)
    (λ h.
    let ν = upd (upd μ (time_link_word w) (name_of v)) (link_of b) (name_of w) in
    let at : ν a ≡ name_of w = ap ν (sym e) ∙ upd_same (upd μ (time_link_word w) (name_of v)) (link_of b) (name_of w) in
    let on : ν (time_link_word w) ≡ name_of v =
    upd_other (upd μ (time_link_word w) (name_of v)) (link_of b) (name_of w) (time_link_word w) (λ q. d.first (q ∙ e))
    ∙ upd_same μ (time_link_word w) (name_of v) in
    let same : (x : ℕ) → Memᴰ x (v ∷ ts) → ν (time_link_word x) ≡ μ (time_link_word x) =
    λ x m. upd_other (upd μ (time_link_word w) (name_of v)) (link_of b) (name_of w) (time_link_word x) (λ q. d.others x m (q ∙ e))
    ∙ upd_other μ (time_link_word w) (name_of v) (time_link_word x) (d.own x m) in
    rw h (next at (next on (chain-stable (same v (Memᴰ.head refl)) (λ x m. same x (Memᴰ.tail m)) c))))
    (λ h.
    let st = stop_in μ t (some (name_of v)) ts in
    let rest = chain-inserted μ t w ts (some (name_of v)) (time_link_word v) (ap time_link_word (name_back v)) c
    (record {
      first = λ q. d.own v (Memᴰ.head refl) (sym q);
      own = λ x m. d.own x (Memᴰ.tail m);
      others = λ x m q. o.0 x m (sym (inj x v (Memᴰ.tail m) (Memᴰ.head refl) q));
    }) (λ x y m n. inj x y (Memᴰ.tail m) (Memᴰ.tail n)) o.1 in
    let at : inserted_in w st μ a ≡ name_of v =
    upd_other (upd μ (time_link_word w) st.at) (link_of st.before) (name_of w) a
    (stop-link (later μ t) (some (name_of v)) ts (λ y. a ≢ y)
    (λ q. d.others v (Memᴰ.head refl) (sym (q ∙ ap time_link_word (name_back v)))) (λ x m f q. d.others x (Memᴰ.tail m) (sym q)))
    ∙ upd_other μ (time_link_word w) st.at a (λ q. d.first (sym q)) ∙ z in
    rw h (next at rest))
