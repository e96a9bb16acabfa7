-- Moves of an Occam run one after another, with their communications and events.
use Prim.Native.Nat.{ℕ, ◌≤◌}
use native.Mathlib.Omega.{arith}
use mathlib.Core.Path.{◌≡◌, refl, ap, ◌∙◌, subst, sym}
use mathlib.Core.List.{List, [], ◌∷◌, ◌++◌}
use mathlib.Core.Option.{Option, none, some}
use Rattle.model.specs.Syntax.{SKIP, PAR, no_stmt, Stmt}
use Rattle.model.specs.Occam.{Frame, Process, before, resume, look, put, moved, go, State, Communication, Step, begins, Event, ends}
use Rattle.model.specs.Occam.{chooses, goes_on, reading, stores, communicates, receives, offers, takes, ticks, Outside, offered, held}
use Rattle.model.specs.Occam.{taken, nobody, ticked}
use Rattle.model.specs.Demand.{step, outside, Segment, Valid, reaches, steps, events_of, communications}
use Rattle.model.proofs.Occam.Paths.{look-put-same, put-put-same, put-found}
use Rattle.model.proofs.Occam.Live.{most, step-most, outside-most}
use Rattle.model.proofs.Quiet.Marks.{Skips, s-none, s-skip, s-par}
use Rattle.model.proofs.Invariant.Puts.{putting}
use Rattle.model.proofs.Cases.{never}

-- moves that lead from one state to another
pub data Trace : State → Segment → State → List Communication → List Event → Type 0 where
  t-none : {st : State} → Trace st [] st [] []
  t-step : {st st₁ st₂ : State} {g : Segment} {cs ds : List Communication} {es : List Event} → Step st cs st₁ → Trace st₁ g st₂ ds es
      → Trace st (step cs st₁ ∷ g) st₂ (cs ++ ds) es
  t-event : {st st₁ st₂ : State} {g : Segment} {e : Event} {cs ds : List Communication} {es : List Event} → Outside st e cs st₁
      → Trace st₁ g st₂ ds es → Trace st (outside e cs st₁ ∷ g) st₂ (cs ++ ds) (e ∷ es)

pub trace-valid : {st st' : State} {g : Segment} {cs : List Communication} {es : List Event} → Trace st g st' cs es → Valid st g
trace-valid t-none = tt
trace-valid (t-step s m) = (s, trace-valid m)
trace-valid (t-event s m) = (s, trace-valid m)

pub trace-reach : {st st' : State} {g : Segment} {cs : List Communication} {es : List Event} → Trace st g st' cs es → reaches st g ≡ st'
trace-reach t-none = refl
trace-reach (t-step s m) = trace-reach m
trace-reach (t-event s m) = trace-reach m

pub trace-talk : {st st' : State} {g : Segment} {cs : List Communication} {es : List Event} → Trace st g st' cs es → communications g ≡ cs
trace-talk t-none = refl
trace-talk (t-step {cs} s m) = ap (λ z. cs ++ z) (trace-talk m)
trace-talk (t-event {cs} s m) = ap (λ z. cs ++ z) (trace-talk m)

pub trace-events : {st st' : State} {g : Segment} {cs : List Communication} {es : List Event} → Trace st g st' cs es → events_of g ≡ es
trace-events t-none = refl
trace-events (t-step s m) = trace-events m
trace-events (t-event {e} s m) = ap (λ z. e ∷ z) (trace-events m)

-- they start no more processes than there may be
pub trace-most : {st st' : State} {g : Segment} {cs : List Communication} {es : List Event} → Trace st g st' cs es
    → most st'.process ≤ most st.process
trace-most t-none = omega arith
trace-most (t-step s m) = omega (arith, step-most s, trace-most m)
trace-most (t-event s m) = omega (arith, outside-most s, trace-most m)

-- only the clock's own moves change it
abbrev pub clock_after : Option ℕ → List Event → Option ℕ
clock_after k [] = k
clock_after k (offers n v a ∷ es) = clock_after k es
clock_after k (takes n a ∷ es) = clock_after k es
clock_after k (ticks c ∷ es) = clock_after (some c) es

step-clock : {st st' : State} {cs : List Communication} → Step st cs st' → st'.clock ≡ st.clock
step-clock (begins path e) = refl
step-clock (ends path i e f) = refl
step-clock (chooses path e c) = refl
step-clock (goes_on path e p) = refl
step-clock (reading path e) = refl
step-clock (stores path e) = refl
step-clock (communicates s r e f) = refl
step-clock (receives path e o) = refl

pub trace-clock : {st st' : State} {g : Segment} {cs : List Communication} {es : List Event} → Trace st g st' cs es
    → st'.clock ≡ clock_after st.clock es
trace-clock t-none = refl
trace-clock (t-step {es} s m) = trace-clock m ∙ ap (λ k. clock_after k es) (step-clock s)
trace-clock (t-event {es} (offered e) m) = trace-clock m
trace-clock (t-event {es} (held e) m) = trace-clock m
trace-clock (t-event {es} (taken path e) m) = trace-clock m
trace-clock (t-event {es} (nobody n) m) = trace-clock m
trace-clock (t-event {es} (ticked h) m) = trace-clock m

-- a clock that was given stays given
clock-given : (k : Option ℕ) (es : List Event) → clock_after k es ≡ none → k ≡ none
clock-given k [] z = z
clock-given k (offers c v a ∷ es) z = clock-given k es z
clock-given k (takes c a ∷ es) z = clock-given k es z
clock-given k (ticks c ∷ es) z = never (cc (clock-given (some c) es z))

pub trace-given : {st st' : State} {g : Segment} {cs : List Communication} {es : List Event} → Trace st g st' cs es → st'.clock ≡ none
    → st.clock ≡ none
trace-given {st} {es = es} ms z = clock-given st.clock es (sym (trace-clock ms) ∙ z)

-- some moves: those of a segment that is not given
pub data Moves (st st' : State) (cs : List Communication) : Type 0 where
  moves : (g : Segment) → Trace st g st' cs [] → Moves st st' cs

-- the step that begins a statement, where it leaves the variables
pub begins-as : {st : State} (path : List ℕ) {s : Stmt} {k : List Frame} {p : Process} → look path st.process ≡ some (before s k)
    → go s k st.store ≡ moved p st.store → Step st [] (putting path p st)
begins-as {st} path e f =
    subst
    (λ z.
    Step st [] (record { process = put path z.process st.process; store = z.store; offers = st.offers; clock = st.clock })) f
    (begins path e)

-- a statement whose step leads on at once, and what follows
one_more : {st : State} (q : Process) (path : List ℕ) (s : Stmt) (k : List Frame) → look path st.process ≡ some (before s k)
    → go s k st.store ≡ moved (resume k) st.store
    → Moves (putting path (resume k) st) (putting path q (putting path (resume k) st)) [] → Moves st (putting path q st) []
one_more {st} q path s k e f (moves g m) =
    moves (step [] (putting path (resume k) st) ∷ g)
    (t-step (begins-as path e f)
    (subst
    (λ z.
    Trace (putting path (resume k) st) g (record { process = z; store = st.store; offers = st.offers; clock = st.clock }) [] [])
    (put-put-same path q (resume k) st.process) m))

-- a process takes the steps without code that are next
pub skip-moves : {st : State} (path : List ℕ) {p q : Process} → look path st.process ≡ some p → Skips p q
    → Moves st (putting path q st) []
unfolding go
skip-moves {st} path e s-none = same-state (put-found path st.process e)
  where
    same-state : {p : Process} → p ≡ st.process
        → Moves st (record { process = p; store = st.store; offers = st.offers; clock = st.clock }) []
    same-state e = rw (e) (moves [] t-none)
skip-moves {st} path e (s-skip {k} {q} s) =
    one_more q path SKIP k e refl (skip-moves {st = putting path (resume k) st} path (look-put-same path st.process (resume k) e) s)
skip-moves {st} path e (s-par {p} {k} {q} s) =
    one_more q path (PAR p no_stmt) k e refl (skip-moves {st = putting path (resume k) st} path
    (look-put-same path st.process (resume k) e) s)

-- moves without communications and events after others
pub trace-then : {st st₁ st₂ : State} {g h : Segment} {cs : List Communication} {es : List Event}
    → Trace st g st₁ cs es → Trace st₁ h st₂ [] []
    → Trace st (g ++ h) st₂ cs es
trace-then t-none m = m
trace-then (t-step s k) m = t-step s (trace-then k m)
trace-then (t-event s k) m = t-event s (trace-then k m)

pub steps_then : (g h : Segment) → steps g ≤ steps (g ++ h)
steps_then [] h = omega arith
steps_then (step cs st ∷ g) h = omega (arith, steps_then g h)
steps_then (outside e cs st ∷ g) h = omega (arith, steps_then g h)
