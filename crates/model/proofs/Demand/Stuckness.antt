-- Which processes can go on, and that a run with none of them, not over, is stuck.
use Prim.Native.Nat.{ℕ}
use native.Mathlib.Omega.{arith}
use mathlib.Core.Path.{◌≡◌, refl, sym, ap, ◌∙◌}
use mathlib.Core.Logic.{⊎_elim}
use mathlib.Core.Bool.{true}
use mathlib.Core.List.{List, [], ◌∷◌}
use mathlib.Core.Option.{some}
use Rattle.model.specs.Syntax.{Site, Stmt, Guard, input_guard, skip_guard, time_guard, Guards, no_guard, timed}
use Rattle.model.specs.Word.{after}
use Rattle.model.specs.Machine.{time_link_word, time_word}
use Rattle.model.specs.Timer.{time_set}
use Rattle.model.specs.Occam.{Frame, Process, before, at_input, at_output, at_stop, at_alt, in_par, finished, look, State, Communication}
use Rattle.model.specs.Occam.{Choice, first-guard, later-guard, Step, begins, ends, chooses, Stuck, to_read, has_read, reading, stores}
use Rattle.model.specs.Occam.{at_wait, Store, Ready, by-input, by-skip, by-time, now}
use Rattle.model.proofs.Quiet.Ways.{Regs, Mem}
use Rattle.model.proofs.Quiet.Setting.{Setting}
use Rattle.model.proofs.Occam.Paths.{look-prefix, prefixed, look-under, under, par-whole}
use Rattle.model.proofs.Words.Parts.{Part}
use Rattle.model.proofs.Quiet.Marks.{AnyReady, r-first, r-later, Skips, s-none, s-skip, s-par, Settled, Disabling, AltPoint, Rest}
use Rattle.model.proofs.Quiet.Marks.{pt-enable, pt-wait, pt-disable, pt-choose, rest_all, rest-later, Present, is-sent, is-skip}
use Rattle.model.proofs.Quiet.Marks.{AnyFound, f-first, f-later, finds-present, finds-time}
use Rattle.model.proofs.Quiet.Timing.{Times, Timely, t-first, t-later, Passed, p-unset, p-set, p-linked}
use Rattle.model.proofs.Quiet.Arrivals.{Comes, comes}
use Rattle.model.proofs.Quiet.Onwards.{picks-choice, rest-timely, AltGoes}
use Rattle.model.proofs.Quiet.PathEnds.{alt-kind}
use Rattle.model.proofs.Steps.Forks.{look_self}
use Rattle.model.proofs.Steps.BranchEnds.{Last, at_top, last, lastly}

-- a run goes on, or is over
pub data Able (st : State) : Type 0 where
  steps : (cs : List Communication) (st' : State) → Step st cs st' → Able st
  is-over : st.process ≡ finished → Able st

pub stuck-unable : {st : State} → Stuck st → Able st → ⊥
stuck-unable h (steps cs st' s) = h.still cs st' s
stuck-unable h (is-over e) = h.unfinished e

-- a process that can go on: it begins a statement, has finished, is in an ALT with a ready guard, or is at TIME
pub data Active (st : State) : Process → Type 0 where
  a-begins : {s : Stmt} {k : List Frame} → Active st (before s k)
  a-ends : Active st finished
  a-chooses : {gs : Guards} {k : List Frame} → AnyReady st gs → Active st (at_alt gs k)
  a-reads : {x : Site} {k : List Frame} → Active st (to_read x k)
  a-stores : {x : Site} {v : ℕ} {k : List Frame} → Active st (has_read x v k)

-- a process that has finished is a branch of a PAR, which can end, or all there is
finished-able : {st : State} (path : List ℕ) → look path st.process ≡ some finished → Able st
finished-able {st} path e = by (lastly path)
  where
    by : Last path → Able st
    by (at_top z) = is-over (look_self (ap (λ y. look y st.process) (sym z) ∙ e))
    by (last ρ n z) = elim (look-prefix ρ (n ∷ []) st.process (ap (λ y. look y st.process) (sym z) ∙ e)) [
      | prefixed r x y ↦ elim (look-under n [] r y) [
        | under m u v ↦ steps _ _ (ends ρ n (x ∙ ap some (sym (par-whole n r u))) (u ∙ ap some (look_self v)))
      ]
    ]

-- a ready guard is a choice
ready-choice : {st : State} (k : List Frame) {gs : Guards} → AnyReady st gs → (p : Process) × Choice st k gs p
ready-choice k (r-first r) = (_, first-guard r)
ready-choice k (r-later h) = let (p, c) = ready-choice k h in (p, later-guard c)

-- a run with a process that can go on goes on
pub active-able : {st : State} (path : List ℕ) {q : Process} → look path st.process ≡ some q → Active st q → Able st
active-able path e a-begins = steps _ _ (begins path e)
active-able path e a-ends = finished-able path e
active-able path e a-reads = steps _ _ (reading path e)
active-able path e a-stores = steps _ _ (stores path e)
active-able path e (a-chooses {k} r) = let (p, c) = ready-choice k r in steps _ _ (chooses path e c)

-- a choice is of a ready guard
pub choice-ready : {st : State} {k : List Frame} {gs : Guards} {p : Process} → Choice st k gs p → AnyReady st gs
choice-ready (first-guard r) = r-first r
choice-ready (later-guard c) = r-later (choice-ready c)

pub settled-active : {st : State} (q : Process) → Settled q → Active st q
settled-active (before s k) h = a-begins
settled-active (at_input c x k) h = absurd h
settled-active (at_output c v k) h = absurd h
settled-active (at_stop k) h = absurd h
settled-active (at_alt gs k) h = absurd h
settled-active (at_wait t k) h = absurd h
settled-active (to_read x k) h = a-reads
settled-active (has_read x v k) h = a-stores
settled-active (in_par bs k) h = absurd h
settled-active finished h = a-ends

-- steps without code begin a statement
skips-active : {st : State} {p : Process} (q : Process) → Settled q → Skips p q → Active st p
skips-active q h s-none = settled-active q h
skips-active q h (s-skip m) = a-begins
skips-active q h (s-par m) = a-begins

-- a present guard is ready, and a ready guard of the rest is one of all
present-ready : {st : State} {g : Guard} → Present st g → Ready st g
present-ready (is-sent e s) = by-input e s
present-ready (is-skip e) = by-skip e

rest-ready : {st : State} {gs hs : Guards} {b c : ℕ} → Rest gs b hs c → AnyReady st hs → AnyReady st gs
rest-ready rest_all h = h
rest-ready (rest-later g) h = r-later (rest-ready g h)

-- what is found is ready, where a time that the word's time is after is past
found-ready : {st : State} {μ : Mem} {w : ℕ} {hs : Guards}
    → ((u : ℕ) → Timely st.store u hs → μ (time_link_word w) ≡ time_set → after (μ (time_word w)) u ≡ true → after (now st) u ≡ true)
    → AnyFound st μ w hs → AnyReady st hs
found-ready h (f-first (finds-present p)) = r-first (present-ready p)
found-ready h (f-first (finds-time x y z)) = r-first (by-time x (h _ (t-first x refl) y z))
found-ready h (f-later k) = r-later (found-ready (λ u m. h u (t-later m)) k)

-- guards with a time have a time guard
pub timely-timed : {σ : Store} {u : ℕ} {gs : Guards} → Timely σ u gs → timed gs ≡ true
unfolding timed
timely-timed (t-first x y) = refl
timely-timed (t-later {g = input_guard e c x} h) = timely-timed h
timely-timed (t-later {g = skip_guard e} h) = timely-timed h
timely-timed (t-later {g = time_guard e t} h) = refl

passed-now : {T : Times} {st : State} {μ : Mem} {w : ℕ} {gs hs : Guards} → T.sure → Passed T st gs hs μ w → (u : ℕ)
    → Timely st.store u gs → μ (time_link_word w) ≡ time_set → after (μ (time_word w)) u ≡ true → after (now st) u ≡ true
passed-now o (p-unset z) u m e a = absurd (omega (arith, z, e))
passed-now o (p-set z h) u m e a = h u m a o
passed-now o (p-linked z v k) u m e a = absurd (z.0 e)

module _ (S : Setting) (a : Part) {st : State} where
  pub comes-active : {vars chans : List Site} {hi i w : ℕ} {p : Process} → Comes S a st.store vars chans hi p i w → Active st p
  comes-active (comes {q} sk settled sub way) = skips-active q settled sk

  -- where times are sure
  module _ {T : Times} (sure : T.sure) where
    -- a guard of an ALT is ready while it disables
    disabling-ready : {vars chans : List Site} {k : List Frame} {gs hs : Guards} {choice w b c : ℕ} {μ : Mem} → Rest gs b hs c
        → Disabling S a T st vars chans k gs hs choice μ w → AnyReady st gs
    disabling-ready t n =
        ⊎_elim (λ h. let (t, p, g, e) = h in choice-ready (picks-choice sure g))
        (λ h. rest-ready t (found-ready
        (λ u m e z. let k = rest-timely t m in passed-now sure (n.times (timely-timed k)) u k e z) h.1)) n.chosen

    disabled-ready : {vars chans : List Site} {k : List Frame} {gs : Guards} {choice w : ℕ} {μ : Mem}
        → Disabling S a T st vars chans k gs no_guard choice μ w → AnyReady st gs
    disabled-ready n =
        ⊎_elim (λ h. let (t, p, g, e) = h in choice-ready (picks-choice sure g)) (λ h. elim h.1 [ ]) n.chosen

    alt-active : {vars chans : List Site} {q : Process} (h : ℕ) (μ : Mem) (i : ℕ) (r : Regs) → AltPoint S a T st vars chans q h μ i r
        → Active st q
    alt-active h μ i r (pt-enable c l n e) = a-begins
    alt-active h μ i r (pt-wait c n) = a-begins
    alt-active h μ i r (pt-disable c l t n d) = a-chooses (disabling-ready t n)
    alt-active h μ i r (pt-choose c n) = a-chooses (disabled-ready n)

    pub alt-goes-active : {vars chans : List Site} {q : Process} {known hi i : ℕ} {μ : Mem} {r : Regs}
        → AltGoes S a T st vars chans q known hi μ i r → Active st q
    alt-goes-active {q = q} way = alt-kind S a (Active st q) alt-active way
