-- The paths between the significant instructions of an ALT and of a PAR's start.
use Prim.Native.Nat.{ℕ, zero, suc, ◌+◌, ◌-◌, ◌^◌, ◌≤◌, ◌<◌}
use native.Mathlib.Omega.{arith}
use native.Mathlib.Nat.{add-zero}
use mathlib.Core.Path.{◌≡◌, refl, sym, ap, ◌∙◌, subst}
use mathlib.Core.Logic.{◌⊎◌, inl, inr, ⊎_elim}
use mathlib.Core.Bool.{true}
use mathlib.Core.List.{List, [], ◌∷◌, ◌++◌, append-nil, Memᴰ}
use lib.ListN.{length, length-append}
use Rattle.model.specs.Word.{low, less, minus, after}
use Rattle.model.specs.Code.{function_in, operand_in}
use Rattle.model.specs.Counts.{temporaries, both_hold, need, sum_need}
use Rattle.model.specs.Syntax.{Site, Expr, Stmt, ALT, Stmts, no_stmt, stmt, Guard, input_guard, skip_guard, time_guard, Guards}
use Rattle.model.specs.Syntax.{no_guard, guard, timed}
use Rattle.model.specs.Instruction.{ldc, ldlp, ajw, Instruction, plain, distance, operation}
use Rattle.model.specs.Instruction as I
use Rattle.model.specs.Scheme.{size, size_enable, size_ends, alt_words, local, guard_code, both_code, code, code_all, code_starts}
use Rattle.model.specs.Scheme.{code_ends}
use Rattle.model.specs.Scheme.{code_enable, code_disable, code_branches, input_size, enable_code, disable_code, guard_input}
use Rattle.model.specs.Machine.{state_word, time_link_word, time_word, name_of}
use Rattle.model.specs.Timer.{time_set}
use Rattle.model.specs.Occam.{Store, eval, Sender, Frame, Process, before, at_alt, begin, State, branch_of, by-input, by-skip, Choice}
use Rattle.model.specs.Occam.{first-guard, later-guard, by-time, now, at_input, at_output, at_stop, at_wait, to_read, has_read, in_par}
use Rattle.model.specs.Occam.{finished}
use Rattle.model.proofs.Quiet.Ways.{Regs, pushing, pointing, reversing, moving, Mem, Way, arrived, quiet, quiet-ldc, quiet-ajw}
use Rattle.model.proofs.Quiet.Ways.{quiet-ldlp, quiet-rev}
use Rattle.model.proofs.Quiet.Stretches.{Seg, nil, at, split, apart-first, cut, seg-length, local-word}
use Rattle.model.proofs.Quiet.ExprPaths.{evaluates-whole, both-path}
use Rattle.model.proofs.Coding.Sizes.{input-length, code-length}
use Rattle.model.proofs.Quiet.Setting.{Setting, whole, At}
use Rattle.model.proofs.Quiet.CodeParts.{inside, rises-le}
use Rattle.model.proofs.Words.Parts.{need-two, sum_first, need-next, Part, Ending, the_end, joins, part_of, lowered, guard_room}
use Rattle.model.proofs.Words.Parts.{FineWhole, Fine, FineInput, FineGuards, FineBranches}
use Rattle.model.proofs.Quiet.Continuations.{Scoped, scoped-below, placed-down, Cont, c-end, c-join, c-chan, c-up, c-hop}
use Rattle.model.proofs.Quiet.Continuations.{cont-inside, cont-low, cont-placed, cont-scoped, cont-bound}
use Rattle.model.proofs.Quiet.Marks.{AnyReady, r-first, r-later, next_branch, Picks, p-first, p-later, Rest, rest_all, rest-later}
use Rattle.model.proofs.Quiet.Marks.{Unready, Noticed, n-none, n-later, AltCode, ParCode, Enabling, e-input, e-skip, Disabling}
use Rattle.model.proofs.Quiet.Marks.{d-input, d-skip, AltPoint, pt-enable, pt-wait, pt-disable, pt-choose, Own, Spare, Marked}
use Rattle.model.proofs.Quiet.Marks.{StartPoint, Guarded, g-first, g-later, Present, is-sent, is-skip, AnyPresent, a_first, a-later}
use Rattle.model.proofs.Quiet.Marks.{finds-present, finds-time, AnyFound, f-first, f-later, e-time, d-time}
use Rattle.model.proofs.Quiet.Timing.{Times, Timely, t-first, t-later, bringing-same, passed-same}
use Rattle.model.proofs.Cases.{never}
use Rattle.model.proofs.Quiet.Arrivals.{spare-below, Sound, Comes, comes, enters, arrives}

-- past one instruction
seg-tail : {xs ys : List Instruction} {y : Instruction} {i i' : ℕ} → Seg xs i (y ∷ ys) i' → Seg xs (suc i) ys i'
seg-tail (at e g) = g

-- what is picked is one of Occam's choices
pub picks-choice : {T : Times} {st : State} {k : List Frame} {gs : Guards} {b t : ℕ} {p : Process} → T.sure → Picks T st k gs b t p
    → Choice st k gs p
picks-choice o (p-first r) = first-guard (r o)
picks-choice o (p-later h) = later-guard (picks-choice o h)

-- a pick from the rest is one from all
pub rest-picks : {T : Times} {st : State} {k : List Frame} {gs hs : Guards} {b c t : ℕ} {p : Process} → Rest gs b hs c
    → Picks T st k hs c t p → Picks T st k gs b t p
rest-picks rest_all h = h
rest-picks (rest-later g) h = p-later (rest-picks g h)

-- the rest goes on with its next guard
pub rest-past : {gs : Guards} {g : Guard} {s : Stmt} {hs : Guards} {b c : ℕ} → Rest gs b (guard g s hs) c → Rest gs b hs (next_branch c g s)
rest-past rest_all = rest-later rest_all
rest-past (rest-later h) = rest-later (rest-past h)

-- one more guard is noticed
pub noticed-past : {st : State} {word : Site → ℕ} {μ : Mem} {w : ℕ} {gs : Guards} (g : Guard) {s : Stmt} {hs : Guards}
    → Noticed st word μ w gs (guard g s hs) → Unready st word μ w g → Noticed st word μ w gs hs
noticed-past g n-none h = n-later h n-none
noticed-past g (n-later u n) h = n-later u (noticed-past g n h)

-- where all are noticed none is present, and each guarded channel is marked
unready : {st : State} (word : Site → ℕ) (μ : Mem) (w : ℕ) {g : Guard} → Unready st word μ w g → Present st g → ⊥
unready word μ w u (is-sent e s) = (u e).1 s
unready word μ w u (is-skip e) = never (cc (u, e))

pub noticed-unready : {st : State} {word : Site → ℕ} {μ : Mem} {w : ℕ} {gs : Guards} → Noticed st word μ w gs no_guard → AnyPresent st gs
    → ⊥
noticed-unready n-none p = elim p [ ]
noticed-unready {word} {μ} {w} (n-later u n) (a_first r) = unready word μ w u r
noticed-unready (n-later u n) (a-later h) = noticed-unready n h

pub noticed-marked : {st : State} {word : Site → ℕ} {μ : Mem} {w : ℕ} {gs : Guards} {c : Site} → Noticed st word μ w gs no_guard
    → Guarded st.store c gs → μ (word c) ≡ name_of w
noticed-marked n-none p = elim p [ ]
noticed-marked (n-later u n) (g-first e) = (u e).0
noticed-marked (n-later u n) (g-later h) = noticed-marked n h

-- a present guard of the rest is one of all, and a time of the rest
pub rest-present : {st : State} {gs hs : Guards} {b c : ℕ} → Rest gs b hs c → AnyPresent st hs → AnyPresent st gs
rest-present rest_all h = h
rest-present (rest-later g) h = a-later (rest-present g h)

pub rest-timely : {σ : Store} {u : ℕ} {gs hs : Guards} {b c : ℕ} → Rest gs b hs c → Timely σ u hs → Timely σ u gs
rest-timely rest_all h = h
rest-timely (rest-later g) h = t-later (rest-timely g h)

-- guards with a time guard in their rest have one
pub rest-timed : {gs hs : Guards} {b c : ℕ} {e t : Expr} {s : Stmt} → Rest gs b (guard (time_guard e t) s hs) c → timed gs ≡ true
unfolding timed
rest-timed rest_all = refl
rest-timed (rest-later {g = input_guard e c x} r) = rest-timed r
rest-timed (rest-later {g = skip_guard e} r) = rest-timed r
rest-timed (rest-later {g = time_guard e t} r) = refl

-- a present guard is found, and so is one whose time the word's time is after
pub present-found : {st : State} (μ : Mem) (w : ℕ) {gs : Guards} → AnyPresent st gs → AnyFound st μ w gs
present-found μ w (a_first h) = f-first (finds-present h)
present-found μ w (a-later h) = f-later (present-found μ w h)

pub timely-found : {st : State} (μ : Mem) (w : ℕ) {u : ℕ} {gs : Guards} → μ (time_link_word w) ≡ time_set → after (μ (time_word w)) u ≡ true
    → Timely st.store u gs → AnyFound st μ w gs
timely-found μ w e f (t-first z g) = f-first (finds-time z e (ap (after (μ (time_word w))) g ∙ f))
timely-found μ w e f (t-later h) = f-later (timely-found μ w e f h)

-- what is ready is present, or its time is past
pub ready-so : {st : State} {gs : Guards} → AnyReady st gs
    → AnyPresent st gs ⊎ ((u : ℕ) × Timely st.store u gs × (after (now st) u ≡ true))
ready-so (r-first (by-input e s)) = inl (a_first (is-sent e s))
ready-so (r-first (by-skip e)) = inl (a_first (is-skip e))
ready-so (r-first (by-time {t = t} e p)) = inr (_, t-first e refl, p)
ready-so (r-later h) = ⊎_elim (λ a. inl (a-later a)) (λ (u, m, p). inr (u, t-later m, p)) (ready-so h)

-- a guarded channel of the rest is one of all
pub rest-guarded : {σ : Store} {d : Site} {gs hs : Guards} {b c : ℕ} → Rest gs b hs c → Guarded σ d hs → Guarded σ d gs
rest-guarded rest_all h = h
rest-guarded (rest-later g) h = g-later (rest-guarded g h)

-- a guarded channel that has a sender is present
pub guarded-present : {st : State} {c : Site} {gs : Guards} → Guarded st.store c gs → Sender st c → AnyPresent st gs
guarded-present (g-first e) h = a_first (is-sent e h)
guarded-present (g-later g) h = a-later (guarded-present g h)

-- the next branch of a PAR
pub ends_next : (s : Stmt) (ss : Stmts) (b : ℕ) {n : ℕ} → b + size_ends (stmt s ss) ≤ n → b + size s + 2 + size_ends ss ≤ n
unfolding size_ends
ends_next s ss b h = omega arith

-- a branch's distance
abbrev distance_of : Ending → ℕ
distance_of the_end = 0
distance_of (joins d) = d

-- a guard's stored values and the ALT's own words have room below the ALT's workspace
guard-room : (b w t : ℕ) → b + 4 ≤ w + 1 → b + lowered t guard_room ≤ w + 1 → b + lowered t alt_words ≤ w
unfolding lowered
guard-room b w zero h k = omega arith
guard-room b w (suc t) h k = omega arith

-- what is found stays so where the time words do
pub found-same : (st : State) {μ ν : Mem} {w : ℕ} {gs : Guards} → ν (time_link_word w) ≡ μ (time_link_word w)
    → ν (time_word w) ≡ μ (time_word w) → AnyFound st μ w gs → AnyFound st ν w gs
found-same st e f (f-first (finds-present h)) = f-first (finds-present h)
found-same st e f (f-first (finds-time {t = t} x y z)) = f-first (finds-time x (e ∙ y) (ap (λ n. after n (eval st.store t)) f ∙ z))
found-same st e f (f-later h) = f-later (found-same st e f h)

-- an ALT's marks stay where the words of the channels in scope do
pub marked-same : (S : Setting) (a : Part) (st : State) (vars chans : List Site) (hs : Guards) (μ ν : Mem) (w : ℕ)
    → ((d : Site) → Memᴰ d chans → ν (S.word d) ≡ μ (S.word d)) → Marked S a st vars chans hs μ w → Marked S a st vars chans hs ν w
marked-same S a st vars chans hs μ ν w same h d m o = let g = h d m (subst (Own a) (same d m) o) in (same d m ∙ g.0, g.1)

-- the rest of fine guards is fine
module _ (word : Site → ℕ) (a : Part) (vars chans : List Site) (w : ℕ) where
  pub rest-fine : {gs hs : Guards} {b c : ℕ} → Rest gs b hs c → FineGuards word a vars chans w gs → FineGuards word a vars chans w hs
  rest-fine rest_all f = f
  rest-fine (rest-later g) f = rest-fine g f.3

  -- an ALT with a time guard has room for its two words
  pub timed-fine : (gs : Guards) → FineGuards word a vars chans w gs → timed gs ≡ true → a.bottom + 6 ≤ w
  unfolding timed
  timed-fine no_guard f t = never (cc)
  timed-fine (guard (input_guard e c x) s gs) f t = timed-fine gs f.3 t
  timed-fine (guard (skip_guard e) s gs) f t = timed-fine gs f.3 t
  timed-fine (guard (time_guard e u) s gs) f t = f.1.2

  -- a guarded channel is in scope, and the part inputs from it
  pub guarded-fine : {σ : Store} {c : Site} {gs : Guards} → Guarded σ c gs → FineGuards word a vars chans w gs
      → Memᴰ c chans × Memᴰ c a.inputs
  guarded-fine (g-first e) f = (f.1.1, f.1.2)
  guarded-fine (g-later g) f = guarded-fine g f.3

-- once it has come to its ALT, the workspace is the one that is known of the process
abbrev pub Tied : Process → (w known : ℕ) → Type 0
Tied (at_alt gs k) w v = w ≡ v
Tied (before s k) w v = Unit {0}
Tied (at_input c x k) w v = Unit {0}
Tied (at_output c z k) w v = Unit {0}
Tied (at_stop k) w v = Unit {0}
Tied (at_wait t k) w v = Unit {0}
Tied (to_read x k) w v = Unit {0}
Tied (has_read x z k) w v = Unit {0}
Tied (in_par bs k) w v = Unit {0}
Tied finished w v = Unit {0}

module _ (S : Setting) (a : Part) (T : Times) (st : State) where
  -- the significant instructions of an ALT whose workspace is w, and the words for stored values, which are below the ALT's own
  abbrev pub AltAt : (vars chans : List Site) (q : Process) (w up : ℕ) (μ : Mem) (i : ℕ) (r : Regs) → Type 0
  AltAt vars chans q w up μ i r = AltPoint S a T st vars chans q up μ i r × (r.w ≡ w)

  abbrev pub AltSpare : (vars chans : List Site) (w v : ℕ) → Type 0
  AltSpare vars chans w v = Spare S a vars chans v × (v + alt_words < w)

  -- the path to the next significant instruction inside an ALT, without jumps
  abbrev pub AltWay : (vars chans : List Site) (q : Process) (w hi : ℕ) (μ : Mem) (i : ℕ) (r : Regs) → Type 0
  AltWay vars chans q w hi μ i r =
      Way S.xs S.off S.word (AltAt vars chans q w) ⊥ st.store (λ x. Memᴰ x vars × Memᴰ x a.reads)
      (AltSpare vars chans w) (λ w. ⊥) hi μ i r

  -- `known` is the workspace that is known of the process
  pub data AltGoes (vars chans : List Site) (q : Process) (known hi : ℕ) (μ : Mem) (i : ℕ) (r : Regs) : Type 0 where
    alt-goes : (w : ℕ) → Tied q w known → AltWay vars chans q w hi μ i r → AltGoes vars chans q known hi μ i r

  -- at registers whose workspace is known
  at-w : {vars chans : List Site} {q : Process} {up : ℕ} {μ : Mem} {i w : ℕ} (r : Regs) → r.w ≡ w
      → AltPoint S a T st vars chans q up μ i (record { a = r.a; b = r.b; c = r.c; w = w }) → AltAt vars chans q w up μ i r
  at-w {vars} {chans} {q} {up} {μ} {i} r e pt =
      (subst (λ z. AltPoint S a T st vars chans q up μ i (record { a = r.a; b = r.b; c = r.c; w = z })) (sym e) pt, e)

  -- memories that are the same at the words of an ALT and above
  abbrev Kept : (w : ℕ) (μ ν : Mem) → Type 0
  Kept w μ ν = (u : ℕ) → w ≤ u + alt_words → ν u ≡ μ u

  module _ {gs : Guards} {vars chans : List Site} {k : List Frame} {hi i : ℕ} (w : ℕ) (c : AltCode S a gs vars chans k hi i (w + 1))
      (v : Sound S a st.store vars chans) where
    alt-wide : w < 2 ^ 32
    alt-wide = omega (arith, cont-low S a c.after, v.high)

    -- an instruction up to ALTEND is before the bound
    alt-bound : {hi' : ℕ} (n : ℕ) → hi ≤ hi' → n ≤ c.choice → S.off (suc n) ≤ hi'
    alt-bound n l h =
        omega (
          arith,
          cont-bound S a c.after,
          rises-le S (suc n) c.over (omega (arith, seg-length c.branches)) (cont-inside S a c.after),
        )

    -- through a guard's condition: its stored values are below the ALT's words
    through-guard : (q : Process) (e : Expr) {hi' j m : ℕ} {μ : Mem} {r : Regs} → FineWhole a vars (w + 1) guard_room e
        → Seg S.xs j (guard_code S.word w e) m → r.w ≡ w
        → ((ν : Mem) (r' : Regs) → Kept w μ ν → r'.a ≡ eval st.store e → r'.w ≡ w → AltWay vars chans q w hi' ν m r')
        → AltWay vars chans q w hi' μ j r
    through-guard q e {hi'} f g p next =
        let room : a.bottom + lowered (temporaries e) alt_words ≤ w = guard-room a.bottom w (temporaries e) c.fine.0 f.2 in
        evaluates-whole S.xs S.off S.word (AltAt vars chans q w) ⊥ st.store vars a.reads (AltSpare vars chans w)
        (λ w. ⊥) hi' (λ u s. omega (arith, s.0.below, v.high)) v.vars-word v.values w alt_words e alt-wide f.0 f.1
        (omega arith) (λ u l h. (spare-below S a (cont-placed S a c.after) (omega arith) (omega arith), h)) g p
        (λ ν r' d. next ν r' d.kept d.value d.same_w)

    -- through a time guard's time and condition
    through-both : (q : Process) (t e : Expr) {hi' j m : ℕ} {μ : Mem} {r : Regs} → FineWhole a vars (w + 1) guard_room e
        → FineInput a vars chans (w + 1) (time_guard e t) → Seg S.xs j (both_code S.word w t e) m → r.w ≡ w
        → ((ν : Mem) (r' : Regs) → Kept w μ ν → r'.a ≡ eval st.store e → r'.b ≡ eval st.store t → eval st.store t < 2 ^ 32
        → r'.w ≡ w → AltWay vars chans q w hi' ν m r')
        → AltWay vars chans q w hi' μ j r
    through-both q t e {hi'} f h g p next =
        let room : a.bottom + lowered (both_hold t e) alt_words ≤ w = guard-room a.bottom w (both_hold t e) c.fine.0 h.3 in
        both-path S.xs S.off S.word (AltAt vars chans q w) ⊥ st.store vars a.reads (AltSpare vars chans w)
        (λ w. ⊥) hi' (λ u s. omega (arith, s.0.below, v.high)) v.vars-word v.values w alt_words t e alt-wide h.0 h.1 f.0
        f.1 (omega arith) (λ u l h. (spare-below S a (cont-placed S a c.after) (omega arith) (omega arith), h)) g p
        (λ ν r' d. next ν r' d.kept d.value d.time d.time-word d.same_w)

    -- what holds while an ALT enables or disables stays
    module _ {μ ν : Mem} (same : Kept w μ ν) where
      chan-kept : (d : Site) → Memᴰ d chans → ν (S.word d) ≡ μ (S.word d)
      chan-kept d m = same (S.word d) (omega (arith, (cont-scoped S a c.after).chans-above d m))

      state-kept : ν (state_word w) ≡ μ (state_word w)
      state-kept = same (state_word w) (omega (arith, c.fine.0, alt-wide))

      unready-kept : (g : Guard) → FineInput a vars chans (w + 1) g → Unready st S.word μ w g → Unready st S.word ν w g
      unready-kept (input_guard e d x) f u = λ z. (chan-kept d f.1 ∙ (u z).0, (u z).1)
      unready-kept (skip_guard e) f u = u
      unready-kept (time_guard e t) f u = u

      noticed-kept : {fs hs : Guards} → FineGuards S.word a vars chans (w + 1) fs → Noticed st S.word μ w fs hs
          → Noticed st S.word ν w fs hs
      noticed-kept f n-none = n-none
      noticed-kept f (n-later {g} u n) = n-later (unready-kept g f.1 u) (noticed-kept f.3 n)

      link-kept : ν (time_link_word w) ≡ μ (time_link_word w)
      link-kept = same (time_link_word w) (omega (arith, c.fine.0, alt-wide))

      time-kept : ν (time_word w) ≡ μ (time_word w)
      time-kept = same (time_word w) (omega (arith, c.fine.0, alt-wide))

      enabling-kept : {hs : Guards} → Enabling S a T st vars chans gs hs μ w → Enabling S a T st vars chans gs hs ν w
      enabling-kept n =
          record {
            rest = n.rest;
            marks = marked-same S a st vars chans gs μ ν w chan-kept n.marks;
            state = ⊎_elim (λ e. inl (state-kept ∙ e.0, noticed-kept c.fine.1 e.1)) (λ e. inr (state-kept ∙ e.0, e.1)) n.state;
            times = λ z. bringing-same T st link-kept time-kept (n.times z);
            known = n.known;
          }

      disabling-kept : {hs : Guards} → Disabling S a T st vars chans k gs hs c.choice μ w
          → Disabling S a T st vars chans k gs hs c.choice ν w
      disabling-kept {hs} d =
          let base : ν w ≡ μ w = same w (omega arith) in
          record {
            marks = marked-same S a st vars chans hs μ ν w chan-kept d.marks;
            state = state-kept ∙ d.state;
            chosen = ⊎_elim (λ x. let (t, p, h, z) = x in inl (t, p, h, base ∙ z))
                (λ x. inr (base ∙ x.0, found-same st link-kept time-kept x.1)) d.chosen;
            times = λ z. passed-same T st link-kept time-kept (d.times z);
            known = d.known;
          }

    -- past a condition, to ENBC
    enable-input : (e : Expr) (d x : Site) (s : Stmt) (hs : Guards) {hi' j m : ℕ} {μ : Mem} {r : Regs} → hi ≤ hi'
        → FineGuards S.word a vars chans (w + 1) (guard (input_guard e d x) s hs)
        → Enabling S a T st vars chans gs (guard (input_guard e d x) s hs) μ w
        → Seg S.xs j (guard_code S.word w e) m
        → Seg S.xs m (plain ldlp (local S.word w d) ∷ operation I.rev ∷ operation I.enbc ∷ code_enable S.word w hs)
        (i + 2 + size_enable gs) → r.w ≡ w → AltWay vars chans (before (ALT gs) k) w hi' μ j r
    unfolding function_in operand_in
    enable-input e d x s hs {hi'} {m} {μ} l f n g₁ (at p₁ (at p₂ (at p₃ g₂))) q =
        let o = less (S.word d) w in
        let vd : low (w + o) ≡ S.word d = local-word w (S.word d) alt-wide (v.chans-word d f.1.1) in
        let bound : S.off (suc (suc (suc m))) ≤ hi' = alt-bound (suc (suc m)) l (omega (arith, c.choice-is, seg-length g₂)) in
        through-guard (before (ALT gs) k) e f.0 g₁ q (λ ν r' same val q'.
        quiet (pointing o) p₁ (quiet-ldlp o)
        (quiet reversing p₂ quiet-rev
        (arrived
        (at-w (reversing (pointing o r')) q'
        (pt-enable c l (enabling-kept same n) (e-input p₃ val (rw q' vd) g₂))) bound)))

    -- past a condition, to ENBS
    enable-skip : (e : Expr) (s : Stmt) (hs : Guards) {hi' j m : ℕ} {μ : Mem} {r : Regs} → hi ≤ hi'
        → FineGuards S.word a vars chans (w + 1) (guard (skip_guard e) s hs)
        → Enabling S a T st vars chans gs (guard (skip_guard e) s hs) μ w
        → Seg S.xs j (guard_code S.word w e) m → Seg S.xs m (operation I.enbs ∷ code_enable S.word w hs) (i + 2 + size_enable gs)
        → r.w ≡ w → AltWay vars chans (before (ALT gs) k) w hi' μ j r
    enable-skip e s hs {hi'} {m} {μ} l f n g₁ (at p₁ g₂) q =
        let bound : S.off (suc m) ≤ hi' = alt-bound m l (omega (arith, c.choice-is, seg-length g₂)) in
        through-guard (before (ALT gs) k) e f.0 g₁ q (λ ν r' same val q'.
        arrived (at-w r' q' (pt-enable c l (enabling-kept same n) (e-skip p₁ val g₂))) bound)

    -- past time and condition, to ENBT
    enable-time : (e t : Expr) (s : Stmt) (hs : Guards) {hi' j m : ℕ} {μ : Mem} {r : Regs} → hi ≤ hi'
        → FineGuards S.word a vars chans (w + 1) (guard (time_guard e t) s hs)
        → Enabling S a T st vars chans gs (guard (time_guard e t) s hs) μ w
        → Seg S.xs j (both_code S.word w t e) m → Seg S.xs m (operation I.enbt ∷ code_enable S.word w hs) (i + 2 + size_enable gs)
        → r.w ≡ w → AltWay vars chans (before (ALT gs) k) w hi' μ j r
    enable-time e t s hs {hi'} {m} {μ} l f n g₁ (at p₁ g₂) q =
        let bound : S.off (suc m) ≤ hi' = alt-bound m l (omega (arith, c.choice-is, seg-length g₂)) in
        through-both (before (ALT gs) k) t e f.0 f.1 g₁ q (λ ν r' same val time small q'.
        arrived (at-w r' q' (pt-enable c l (enabling-kept same n) (e-time p₁ val time small g₂))) bound)

    -- the enabling of the rest of the guards leads to the next ENBC, ENBS or ENBT, or to ALTWT
    pub enable-way : (hs : Guards) {hi' j : ℕ} {μ : Mem} {r : Regs} → hi ≤ hi' → FineGuards S.word a vars chans (w + 1) hs
        → Enabling S a T st vars chans gs hs μ w → Seg S.xs j (code_enable S.word w hs) (i + 2 + size_enable gs) → r.w ≡ w
        → AltWay vars chans (before (ALT gs) k) w hi' μ j r
    unfolding code_enable enable_code
    enable-way no_guard {hi'} {μ} {r} l f n nil q =
        arrived (at-w r q (pt-wait c n))
        (alt-bound (i + 2 + size_enable gs) l (omega (arith, c.choice-is)))
    enable-way (guard (input_guard e d x) s hs) l f n g q = elim (apart-first (guard_code S.word w e) _ _ g) [
      | split g₁ g₂ ↦ enable-input e d x s hs l f n g₁ g₂ q
    ]
    enable-way (guard (skip_guard e) s hs) l f n g q = elim (apart-first (guard_code S.word w e) _ _ g) [
      | split g₁ g₂ ↦ enable-skip e s hs l f n g₁ g₂ q
    ]
    enable-way (guard (time_guard e t) s hs) l f n g q = elim (apart-first (both_code S.word w t e) _ _ g) [
      | split g₁ g₂ ↦ enable-time e t s hs l f n g₁ g₂ q
    ]

    -- past a condition, to DISC
    disable-input : (e : Expr) (d x : Site) (s : Stmt) (hs : Guards) {hi' j b m : ℕ} {μ : Mem} {r : Regs} → hi ≤ hi'
        → FineGuards S.word a vars chans (w + 1) (guard (input_guard e d x) s hs)
        → Rest gs (c.choice + 1) (guard (input_guard e d x) s hs) b
        → Disabling S a T st vars chans k gs (guard (input_guard e d x) s hs) c.choice μ w → Seg S.xs j (guard_code S.word w e) m
        → Seg S.xs m
        (plain ldlp (local S.word w d)
        ∷ operation I.rev
        ∷ distance ldc b c.choice
        ∷ operation I.disc
        ∷ code_disable S.word w c.choice (next_branch b (input_guard e d x) s) hs)
        c.choice → r.w ≡ w → AltWay vars chans (at_alt gs k) w hi' μ j r
    unfolding function_in operand_in
    disable-input e d x s hs {hi'} {b} {m} {μ} l f t n g₁ (at p₁ (at p₂ (at p₃ (at p₄ g₂)))) q =
        let o = less (S.word d) w in
        let z = less (S.off b) (S.off (suc c.choice)) in
        let vd : low (w + o) ≡ S.word d = local-word w (S.word d) alt-wide (v.chans-word d f.1.1) in
        let bound : S.off (suc (suc (suc (suc m)))) ≤ hi' = alt-bound (suc (suc (suc m))) l (omega (arith, seg-length g₂)) in
        through-guard (at_alt gs k) e f.0 g₁ q (λ ν r' same val q'.
        quiet (pointing o) p₁ (quiet-ldlp o)
        (quiet reversing p₂ quiet-rev
        (quiet (pushing z) p₃ (quiet-ldc z)
        (arrived (at-w (pushing z (reversing (pointing o r'))) q'
        (pt-disable c l t (disabling-kept same n) (d-input p₄ refl val (rw q' vd) g₂)))
        bound))))

    -- past a condition, to DISS
    disable-skip : (e : Expr) (s : Stmt) (hs : Guards) {hi' j b m : ℕ} {μ : Mem} {r : Regs} → hi ≤ hi'
        → FineGuards S.word a vars chans (w + 1) (guard (skip_guard e) s hs) → Rest gs (c.choice + 1) (guard (skip_guard e) s hs) b
        → Disabling S a T st vars chans k gs (guard (skip_guard e) s hs) c.choice μ w → Seg S.xs j (guard_code S.word w e) m
        → Seg S.xs m
        (distance ldc b c.choice ∷ operation I.diss ∷ code_disable S.word w c.choice (next_branch b (skip_guard e) s) hs) c.choice
        → r.w ≡ w → AltWay vars chans (at_alt gs k) w hi' μ j r
    unfolding function_in operand_in
    disable-skip e s hs {hi'} {b} {m} {μ} l f t n g₁ (at p₁ (at p₂ g₂)) q =
        let z = less (S.off b) (S.off (suc c.choice)) in
        let bound : S.off (suc (suc m)) ≤ hi' = alt-bound (suc m) l (omega (arith, seg-length g₂)) in
        through-guard (at_alt gs k) e f.0 g₁ q (λ ν r' same val q'.
        quiet (pushing z) p₁ (quiet-ldc z)
        (arrived (at-w (pushing z r') q' (pt-disable c l t (disabling-kept same n) (d-skip p₂ refl val g₂)))
        bound))

    -- past time and condition, to DIST
    disable-time : (e t : Expr) (s : Stmt) (hs : Guards) {hi' j b m : ℕ} {μ : Mem} {r : Regs} → hi ≤ hi'
        → FineGuards S.word a vars chans (w + 1) (guard (time_guard e t) s hs) → Rest gs (c.choice + 1) (guard (time_guard e t) s hs) b
        → Disabling S a T st vars chans k gs (guard (time_guard e t) s hs) c.choice μ w → Seg S.xs j (both_code S.word w t e) m
        → Seg S.xs m
        (distance ldc b c.choice ∷ operation I.dist ∷ code_disable S.word w c.choice (next_branch b (time_guard e t) s) hs)
        c.choice
        → r.w ≡ w → AltWay vars chans (at_alt gs k) w hi' μ j r
    unfolding function_in operand_in
    disable-time e t s hs {hi'} {b} {m} {μ} l f rest n g₁ (at p₁ (at p₂ g₂)) q =
        let z = less (S.off b) (S.off (suc c.choice)) in
        let bound : S.off (suc (suc m)) ≤ hi' = alt-bound (suc m) l (omega (arith, seg-length g₂)) in
        through-both (at_alt gs k) t e f.0 f.1 g₁ q (λ ν r' same val time small q'.
        quiet (pushing z) p₁ (quiet-ldc z)
        (arrived (at-w (pushing z r') q' (pt-disable c l rest (disabling-kept same n) (d-time p₂ refl val time g₂)))
        bound))

    -- the disabling of the rest of the guards leads to the next DISC, DISS or DIST, or to ALTEND
    pub disable-way : (hs : Guards) {hi' j b : ℕ} {μ : Mem} {r : Regs} → hi ≤ hi' → FineGuards S.word a vars chans (w + 1) hs
        → Rest gs (c.choice + 1) hs b → Disabling S a T st vars chans k gs hs c.choice μ w
        → Seg S.xs j (code_disable S.word w c.choice b hs) c.choice → r.w ≡ w
        → AltWay vars chans (at_alt gs k) w hi' μ j r
    unfolding code_disable disable_code
    disable-way no_guard {hi'} {μ} {r} l f t n nil q = arrived (at-w r q (pt-choose c n))
        (alt-bound c.choice l (omega arith))
    disable-way (guard (input_guard e d x) s hs) l f t n g q = elim (apart-first (guard_code S.word w e) _ _ g) [
      | split g₁ g₂ ↦ disable-input e d x s hs l f t n g₁ g₂ q
    ]
    disable-way (guard (skip_guard e) s hs) l f t n g q = elim (apart-first (guard_code S.word w e) _ _ g) [
      | split g₁ g₂ ↦ disable-skip e s hs l f t n g₁ g₂ q
    ]
    disable-way (guard (time_guard e u) s hs) l f t n g q = elim (apart-first (both_code S.word w u e) _ _ g) [
      | split g₁ g₂ ↦ disable-time e u s hs l f t n g₁ g₂ q
    ]

    -- from behind ALT, and from behind ALTWT
    pub enable-first : {known hi' : ℕ} {μ : Mem} {r : Regs} → hi ≤ hi' → Enabling S a T st vars chans gs gs μ w → r.w ≡ w
        → AltGoes vars chans (before (ALT gs) k) known hi' μ (i + 2) r
    enable-first l n q =
        let e : w + 1 - 1 ≡ w = omega arith in
        alt-goes w tt
        (enable-way gs l c.fine.1 n
        (subst (λ z. Seg S.xs (i + 2) (code_enable S.word z gs) (i + 2 + size_enable gs)) e c.enables) q)

    pub disable-first : {hi' : ℕ} {μ : Mem} {r : Regs} → hi ≤ hi' → Disabling S a T st vars chans k gs gs c.choice μ w → r.w ≡ w
        → AltGoes vars chans (at_alt gs k) w hi' μ (i + 2 + size_enable gs + 1) r
    disable-first l n q =
        let e : w + 1 - 1 ≡ w = omega arith in
        alt-goes w refl
        (disable-way gs l c.fine.1 rest_all n
        (subst (λ z. Seg S.xs (i + 2 + size_enable gs + 1) (code_disable S.word z c.choice (c.choice + 1) gs) c.choice) e
        c.disables) q)

  -- AJW leads on
  raise : {vars chans : List Site} {hi i n w : ℕ} {p : Process} → At S i (plain ajw n) → w + n < 2 ^ 32 → a.bottom + 2 ≤ w
      → Comes S a st.store vars chans hi p (suc i) (w + n) → Comes S a st.store vars chans hi p i w
  unfolding function_in operand_in
  raise {n} {w} e small room (comes sk settled sub way) =
      comes sk settled (record {
        vars-in = sub.vars-in;
        chans-in = sub.chans-in;
        live = sub.live;
        placed = placed-down S w n room sub.placed;
      })
      (λ μ r q. quiet (moving n) e (quiet-ajw n) (way μ (moving n r) (rw q (omega arith))))

  module _ {gs : Guards} {vars chans : List Site} {k : List Frame} {hi i : ℕ} (w : ℕ) (c : AltCode S a gs vars chans k hi i (w + 1))
      (v : Sound S a st.store vars chans) where
    -- what a branch's process is led to
    abbrev pub Led : Process → ℕ → Type 0
    Led p t = Comes S a st.store vars chans hi p t w

    alt-near : (n : ℕ) → c.choice ≤ n → n ≤ c.over → hi ≤ whole S + S.off n
    alt-near n l h =
        omega (arith, c.near, rises-le S i n (omega (arith, c.choice-is)) (omega (arith, cont-inside S a c.after)))

    alt-small : w + 1 < 2 ^ 32
    alt-small = omega (arith, cont-low S a c.after, v.high)

    -- a branch's code is its guard's input, if any, and its statement
    branch-code : (g : Guard) (s : Stmt) (t : ℕ)
        → guard_input S.word (w + 1) g ++ code S.word (w + 1) (t + input_size g) s ≡ code S.word (w + 1) t (branch_of g s)
    unfolding guard_input input_size code code_all size
    branch-code (input_guard e d x) s t = rw (append-nil (code S.word (w + 1) (t + 4) s)) refl
    branch-code (skip_guard e) s t = ap (λ n. code S.word (w + 1) n s) (add-zero t)
    branch-code (time_guard e u) s t = ap (λ n. code S.word (w + 1) n s) (add-zero t)

    branch-fine : (g : Guard) (s : Stmt) → FineInput a vars chans (w + 1) g → Fine S.word a vars chans (w + 1) s
        → Fine S.word a vars chans (w + 1) (branch_of g s)
    branch-fine (input_guard e d x) s f h = ((omega (arith, c.fine.0), f.0, f.1, f.2), (h, tt))
    branch-fine (skip_guard e) s f h = h
    branch-fine (time_guard e u) s f h = h

    -- a branch: AJW 1, its code, J over, and what is behind it
    branch-parts : (g : Guard) (s : Stmt) (zs : List Instruction) {t : ℕ}
        → Seg S.xs t
        (plain ajw 1
        ∷ guard_input S.word (w + 1) g
        ++ code S.word (w + 1) (t + 1 + input_size g) s
        ++ distance I.j c.over (t + 1 + input_size g + size s)
        ∷ zs) c.over
        → At S t (plain ajw 1)
        × Seg S.xs (suc t) (code S.word (w + 1) (suc t) (branch_of g s)) (t + 1 + input_size g + size s)
        × Seg S.xs (t + 1 + input_size g + size s) (distance I.j c.over (t + 1 + input_size g + size s) ∷ zs) c.over
    branch-parts g s zs {t} (at y h) =
        let input = guard_input S.word (w + 1) g in
        let body = code S.word (w + 1) (t + 1 + input_size g) s in
        let leave = t + 1 + input_size g + size s in
        let (g₁, g₂) = cut (input ++ body) leave
        (omega (arith, length-append input body, input-length S.word (w + 1) g, code-length S.word (w + 1) (t + 1 + input_size g) s))
        h in
        let e : t + 1 ≡ suc t = omega arith in
        (y, subst (λ l. Seg S.xs (suc t) l leave) (branch-code g s (t + 1) ∙ ap (λ n. code S.word (w + 1) n (branch_of g s)) e) g₁, g₂)

    picked : {hs : Guards} {b t : ℕ} {p : Process} → Picks T st k hs b t p
        → Seg S.xs b (code_branches S.word (w + 1) b c.over hs) c.over
        → c.choice ≤ b → FineGuards S.word a vars chans (w + 1) hs → Led p t
    unfolding code_branches
    picked (p-first {g} {s} {gs = hs} {b} r) h l f =
        let leave = b + 1 + input_size g + size s in
        let zs = code_branches S.word (w + 1) (leave + 1) c.over hs in
        let (y, body, z) = branch-parts g s zs h in
        elim z [
          | at j g₃ ↦
              let past : suc leave ≤ c.over = omega (arith, seg-length g₃) in
              let room : a.bottom + 2 ≤ w + 1 = omega (arith, c.fine.0) in
              let hop : Cont S a hi vars chans k leave (w + 1) = c-hop j room past c.after in
              raise y alt-small (omega (arith, c.fine.0))
              (enters S a st.store (branch_of g s) body (branch-fine g s f.1 f.2) hop
              (alt-near (suc b) (omega arith) (omega arith)) v
              (arrives S a st.store hop (alt-near leave (omega arith) (omega arith)) v))
        ]
    picked (p-later {g} {s} {gs = hs} {b} p) h l f =
        let leave = b + 1 + input_size g + size s in
        let zs = code_branches S.word (w + 1) (leave + 1) c.over hs in
        let (y, body, z) = branch-parts g s zs h in
        let e : suc leave ≡ leave + 1 = omega arith in
        picked p (subst (λ n. Seg S.xs n zs c.over) e (seg-tail z)) (omega arith) f.3

    -- the picked branch's code leads its process on
    pub branch-comes : {t : ℕ} {p : Process} → Picks T st k gs (c.choice + 1) t p → Led p t
    branch-comes h = picked h c.branches (omega arith) c.fine.1

module _ (S : Setting) (a : Part) (σ : Store) where
  -- without frames the part's end is the bound
  cont-nil : {hi i w : ℕ} {vars chans : List Site} → Cont S a hi vars chans [] i w → hi ≤ whole S
  cont-nil (c-end e r h) = omega arith
  cont-nil (c-join {i} e x y r h) = rises-le S (suc (suc i)) (length S.xs) (inside S y) (omega arith)
  cont-nil (c-chan e r h c) = cont-nil c
  cont-nil (c-up e r c) = cont-nil c
  cont-nil (c-hop e h l c) = cont-nil c

  -- a branch of a PAR, the first: its body from `first` up to m
  module _ (s₀ : Stmt) {vars chans : List Site} {first m hi w : ℕ} (body : Seg S.xs first (code S.word w first s₀) m)
      (f : Fine S.word a vars chans w s₀) (c : Cont S a hi vars chans [] m w) (v : Sound S a σ vars chans) where
    pub own_code : Comes S a σ vars chans hi (begin s₀ []) first w
    own_code =
        let near : (n : ℕ) → hi ≤ whole S + S.off n = λ n. omega (arith, cont-nil c) in
        enters S a σ s₀ body f c (near first) v (arrives S a σ c (near m) v)

module _ (S : Setting) (a : Part) (σ : Store) where
  -- what each branch from the one at distance d on will do, once started; their code is at b
  abbrev pub Started : (vars chans : List Site) (w d b : ℕ) → Stmts → Type 0
  Started vars chans w d b no_stmt = Unit {0}
  Started vars chans w d b (stmt s ss) =
      Comes S (part_of vars chans (w - d) (joins d) s) σ vars chans (S.off (b + size s + 2)) (begin s []) b (w - d)
      × Started vars chans w (d + need s) (b + size s + 2) ss

  module _ {vars chans : List Site} (w : ℕ) (scoped : Scoped S w vars chans) (v : Sound S a σ vars chans) (high : w ≤ a.top) where
    -- what is in scope fits in words for a branch too
    pub branch-sound : (s : Stmt) (d : ℕ) → d ≤ w → Sound S (part_of vars chans (w - d) (joins d) s) σ vars chans
    branch-sound s d l =
        record {
          bytes = v.bytes;
          high = omega (arith, v.high);
          joined = λ n e. let z : d ≡ n = ap distance_of e in omega (arith, v.high);
          vars-word = v.vars-word;
          chans-word = v.chans-word;
          values = v.values;
        }

    -- what a started branch will do
    pub branch-start : (s : Stmt) (d b : ℕ) {m n : ℕ} {zs : List Instruction} → Seg S.xs b (code S.word (w - d) b s) m
        → Seg S.xs m (plain ldlp d ∷ operation I.endp ∷ zs) n
        → Fine S.word (part_of vars chans (w - d) (joins d) s) vars chans (w - d) s → d + need s ≤ w
        → Comes S (part_of vars chans (w - d) (joins d) s) σ vars chans (S.off (suc (suc m))) (begin s []) b (w - d)
    branch-start s d b g (at x (at y h)) f l =
        own_code S (part_of vars chans (w - d) (joins d) s) σ s g f
        (c-join refl x y (omega (arith, need-two s)) (scoped-below S (omega arith) scoped)) (branch-sound s d (omega arith))

    -- the same for each from the one at distance d on, whose code is at b
    pub branch-starts : (ss : Stmts) (d b : ℕ) {n : ℕ} → Seg S.xs b (code_ends S.word w d b ss) n
        → FineBranches S.word a vars chans w d ss → d + sum_need ss ≤ w → Started vars chans w d b ss
    unfolding code_ends
    branch-starts no_stmt d b g f l = tt
    branch-starts (stmt s ss) d b {n} g f l =
        let m = b + size s in
        let zs = code_ends S.word w (d + need s) (b + size s + 2) ss in
        let (g₁, g₂) = cut (code S.word (w - d) b s) m (omega (arith, code-length S.word (w - d) b s)) g in
        let e : suc (suc m) ≡ m + 2 = omega arith in
        let first = branch-start s d b g₁ g₂ f.1 (omega (arith, sum_first s ss)) in
        let rest : Seg S.xs (m + 2) zs n = subst (λ z. Seg S.xs z zs n) e (seg-tail (seg-tail g₂)) in (
          subst (λ z. Comes S (part_of vars chans (w - d) (joins d) s) σ vars chans (S.off z) (begin s []) b (w - d)) e first,
          branch-starts ss (d + need s) (b + size s + 2) rest f.3 (need-next s ss d l),
        )

  -- behind a PAR's count
  module _ {s : Stmt} {ss : Stmts} {vars chans : List Site} {k : List Frame} {hi i w : ℕ} (c : ParCode S a s ss vars chans k hi i w)
      (v : Sound S a σ vars chans) where
    par-scoped : Scoped S w vars chans
    par-scoped = cont-scoped S a c.after

    par-low : w ≤ a.top
    par-low = cont-low S a c.after

    -- what every branch will do, once started
    pub all_start : Started vars chans w 0 c.first (stmt s ss)
    unfolding code_ends sum_need
    all_start =
        let none : w - 0 ≡ w = omega arith in
        let same : 0 + need s ≡ need s = omega arith in
        let all : Seg S.xs c.first (code_ends S.word w 0 c.first (stmt s ss)) c.over = rw (none, same) c.branches in
        branch-starts w par-scoped v par-low (stmt s ss) 0 c.first all c.fine (omega (arith, c.room))

module _ (S : Setting) (σ : Store) where
  -- the path to the start of the branch s of a PAR
  abbrev pub Starts : (s : Stmt) (ss : Stmts) (d b first w : ℕ) (hi : ℕ) (μ : Mem) (i : ℕ) (r : Regs) → Type 0
  Starts s ss d b first w hi μ i r =
      Way S.xs S.off S.word (λ hi μ i r. StartPoint S s ss d b first w i r) ⊥ σ (λ x. ⊥) (λ v. ⊥) (λ w. ⊥) hi μ i r

  pub start-path : (s : Stmt) (ss : Stmts) (d b : ℕ) {first w hi j : ℕ} {μ : Mem} {r : Regs} → whole S < 2 ^ 32 → w < 2 ^ 32
      → Seg S.xs j (code_starts S.word d j b (stmt s ss)) first → d ≤ w → b ≤ length S.xs → first ≤ length S.xs
      → S.off first ≤ hi → r.w ≡ w → Starts s ss d b first w hi μ j r
  unfolding code_starts function_in operand_in
  start-path s ss d b {first} {w} {hi} {j} {r} bytes wide (at p₁ (at p₂ (at p₃ g))) l n last near e =
      let i = suc (suc j) in
      let e₂ : j + 2 ≡ i = omega arith in
      let e₃ : j + 3 ≡ suc i = omega arith in
      let z = less (S.off b) (S.off (suc i)) in
      let x₁ : At S j (distance ldc b i) = subst (λ n. At S j (distance ldc b n)) e₂ p₁ in
      let rest : Seg S.xs (suc i) (code_starts S.word (d + need s) (suc i) (b + size s + 2) ss) first =
      subst (λ n. Seg S.xs (suc i) (code_starts S.word (d + need s) n (b + size s + 2) ss) first) e₃ g in
      let here_in : S.off (suc i) ≤ whole S = rises-le S (suc i) (length S.xs) (inside S p₃) (omega arith) in
      let there-in : S.off b ≤ whole S = rises-le S b (length S.xs) n (omega arith) in
      let place : low (S.off (suc i) + z) ≡ S.off b = local-word (S.off (suc i)) (S.off b) (omega arith) (omega arith) in
      let bound : S.off (suc i) ≤ hi = omega (arith, rises-le S (suc i) first (omega (arith, seg-length g)) last) in
      let below : low (r.w + minus d) ≡ w - d = rw e (omega arith) in
      quiet (pushing z) x₁ (quiet-ldc z)
      (quiet (pointing (minus d)) p₂ (quiet-ldlp (minus d))
      (arrived (record { starts = p₃; child = below; same_w = e; place = place; rest = rest }) bound))
