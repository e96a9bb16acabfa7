-- The history's moments of a run are the run's (specs/Laws.antt, laws 4 and 5).
use Prim.Native.Nat.{ℕ, zero, suc, ◌+◌}
use native.Mathlib.Omega.{arith}
use native.Mathlib.Nat.{add-zero, zero-add, suc-add}
use mathlib.Core.Path.{◌≡◌, refl, sym, ap, ◌∙◌}
use mathlib.Core.Bool.{true, false, ◌||◌}
use mathlib.Core.List.{List, [], ◌∷◌, ◌++◌, append-nil, append_assoc}
use lib.ListN as L
use lib.ListN.{length, drop, take-append-drop}
use lib.Dec.{ltb}
use Rattle.model.specs.Word.{low}
use Rattle.model.specs.Machine.{World, machine_with, done, faults}
use Rattle.model.specs.Answers.{instructions_of, RunAnswer}
use Rattle.model.specs.Run.{byte, ended, waits, beginning, earlier_clock, keep, Finish, run_from, short_memory, After, unchanged}
use Rattle.model.specs.Run.{world_of, finished, run}
use Rattle.model.specs.Occam.{ticks}
use Rattle.model.specs.History.{Note, notes, call_run, Moment, quietly, executed, bytes, idle, begun, unless_kept, during, call}
use Rattle.model.specs.Laws.{counted, after_bytes, talk_in, last_of, leaving, executed_in, Recorded, Records, Continues}
use Rattle.model.specs.declared.Machine.{Machine}
use Rattle.model.specs.declared.FaultKind.{FaultKind}
use Rattle.std.specs.Prelude.{Err, None, Ok, Some}
use Rattle.model.specs.declared.RunRefusal.TheVariants.{EarlierClock, Short as RunShort}
use Rattle.model.specs.declared.Outcome.{Outcome}
use Rattle.model.specs.declared.Outcome.TheVariants.{Ended, Waiting, Spent, Fault as RunFault}
use Rattle.model.proofs.Cases.{by_bool, never, or_left, or_right}
use Rattle.model.proofs.Laws.Regular.{behind}
use Rattle.model.proofs.Laws.RunSteps.{run-waits, run_ends, run-spent}
use Rattle.model.proofs.Laws.Silent.{beginning-silent}
use Rattle.model.proofs.Laws.Runs.{by_result, preceded, run-behind, Refused, NoRun, Goes, run-goes, by-run}

module _ (code : List ℕ) where
  -- a machine that has ended or waits runs no byte
  pub run-stays : (b n : ℕ) (s : World) → (ended s.machine || waits s.machine) ≡ true → (run_from b code n s).world ≡ s
  run-stays b n s z =
      by_bool (ended s.machine) (λ e. ap (λ (f : Finish). f.world) (run_ends code n s b e))
      (λ e. by_bool s.machine.cpu.running (λ r. never (cc (rw (e, r) at z)))
      (λ r. ap (λ (f : Finish). f.world) (run-waits code n s b r)))

  pub bytes-stay : (b : ℕ) (rest : List ℕ) (s : World) → (ended s.machine || waits s.machine) ≡ true → bytes b code rest s ≡ []
  unfolding bytes
  bytes-stay zero rest s z = refl
  bytes-stay (suc b) rest s z = rw z

  -- nor does one without a budget
  pub run_none : (n : ℕ) (s : World) → (run_from zero code n s).world ≡ s
  run_none n s =
      by_bool (ended s.machine || waits s.machine) (run-stays zero n s)
      (λ z. ap (λ (f : Finish). f.world)
      (run-spent code n s (or_left (ended s.machine) (waits s.machine) z) (or_right (ended s.machine) (waits s.machine) z)))

  pub bytes-go : (b : ℕ) (rest : List ℕ) (s t : World) → ended s.machine ≡ false → waits s.machine ≡ false → byte code s ≡ done tt t
      → bytes (suc b) code rest s ≡ executed (notes code s.machine) t rest ∷ bytes b code rest (world_of t.machine t.memory)
  unfolding bytes
  bytes-go b rest s t e w d = rw (e, w, d)

  -- a run goes on as one that begins anew does
  pub run-anew : (b n : ℕ) (t : World) → run_from b code n t ≡ preceded n t.talk (run_from b code 0 (world_of t.machine t.memory))
  run-anew b n t = rw (add-zero, append-nil) at (run-behind code b n 0 t.talk (world_of t.machine t.memory))

  -- what was communicated before changes nothing of where it comes
  pub run-afresh : (b n : ℕ) (t : World)
      → ((run_from b code n t).world.machine ≡ (run_from b code n (world_of t.machine t.memory)).world.machine)
      × ((run_from b code n t).world.memory ≡ (run_from b code n (world_of t.machine t.memory)).world.memory)
  run-afresh b n t =
      let here = run-anew b n t in
      let there = run-anew b n (world_of t.machine t.memory) in (
        ap (λ (f : Finish). f.world.machine) here ∙ sym (ap (λ (f : Finish). f.world.machine) there),
        ap (λ (f : Finish). f.world.memory) here ∙ sym (ap (λ (f : Finish). f.world.memory) there),
      )

-- one instruction more before an outcome
counted-more : (o : Outcome) → instructions_of (counted 1 o) ≡ suc (instructions_of o)
counted-more (Ended n) = omega arith
counted-more (Waiting n) = omega arith
counted-more (Spent n) = omega arith
counted-more (RunFault n k) = omega arith

leaving-counted : (n : ℕ) (o : Outcome) (m : Machine) → leaving (Ok (counted n o)) m ≡ leaving (Ok o) m
leaving-counted n (Ended k) m = refl
leaving-counted n (Waiting k) m = refl
leaving-counted n (Spent k) m = refl
leaving-counted n (RunFault k e) m = refl

after-append : (l k : List Moment) → after_bytes (l ++ k) ≡ after_bytes l ++ after_bytes k
after-append [] k = refl
after-append (a ∷ l) k =
    by_bool a.instruction (λ e. rw e (ap (λ z. a ∷ z) (after-append l k))) (λ e. rw e (after-append l k))

talk-append : (l k : List Moment) → talk_in (l ++ k) ≡ talk_in l ++ talk_in k
talk-append [] k = refl
talk-append (a ∷ l) k = rw (talk-append l k, append_assoc)

-- the moments of a run's bytes
record Found (l : List Moment) (before : Moment) (rest : List ℕ) (f : Finish) : Type 0 where
  all-bytes : after_bytes l ≡ l
  as_many : length l ≡ instructions_of f.outcome
  same-talk : talk_in l ≡ f.world.talk
  same-machine : leaving (Ok f.outcome) (last_of before l).machine ≡ f.world.machine
  same_memory : (last_of before l).memory ≡ f.world.memory ++ rest

module _ (code rest : List ℕ) where
  -- a run without a byte
  found_none : {before : Moment} {o : Outcome} {t : World} → t.talk ≡ [] → before.memory ≡ t.memory ++ rest → instructions_of o ≡ 0
      → leaving (Ok o) before.machine ≡ t.machine → Found [] before rest (record { outcome = o; world = t })
  found_none z er c e = record { all-bytes = refl; as_many = sym c; same-talk = sym z; same-machine = e; same_memory = er }

  -- a byte and the run after it
  found-more : {before : Moment} {l : List Moment} {f : Finish} (ns : List Note) (t : World) → Found l (executed ns t rest) rest f
      → Found (executed ns t rest ∷ l) before rest (preceded 1 t.talk f)
  found-more {f = f} ns t h =
      record {
        all-bytes = ap (λ z. executed ns t rest ∷ z) h.all-bytes;
        as_many = ap (λ n. suc n) h.as_many ∙ sym (counted-more f.outcome);
        same-talk = ap (λ z. t.talk ++ z) h.same-talk;
        same-machine = leaving-counted 1 f.outcome _ ∙ h.same-machine;
        same_memory = h.same_memory;
      }

  found : (b : ℕ) (s : World) (before : Moment) → s.talk ≡ [] → before.machine ≡ s.machine → before.memory ≡ s.memory ++ rest
      → Found (bytes b code rest s) before rest (run_from b code 0 s)
  unfolding bytes run_from
  found zero s before z em er =
      by_bool (ended s.machine) (λ e. rw e (found_none z er refl em))
      (λ e. by_bool (waits s.machine) (λ w. rw (e, w) (found_none z er refl em)) (λ w. rw (e, w) (found_none z er refl em)))
  found (suc b) s before z em er =
      by_bool (ended s.machine) (λ e. rw e (found_none z er refl em))
      (λ e. by_bool (waits s.machine) (λ w. rw (e, w) (found_none z er refl em))
      (λ w. by_result (byte code s)
      (λ u t d.
      let here = world_of t.machine t.memory in
      let told = notes code s.machine in
      rw (e, w, d, run-anew code b 1 t) (found-more told t (found b here (executed told t rest) refl refl refl)))
      (λ k d. rw (e, w, d) (found_none z er refl (ap (λ (m : Machine). (keep k (world_of m [])).machine) em)))))

  -- with more to spend the moments go on
  found-longer : (a b : ℕ) (s : World) → (more : List Moment) × (bytes (a + b) code rest s ≡ bytes a code rest s ++ more)
  unfolding bytes
  found-longer zero b s = (bytes b code rest s, rw zero-add)
  found-longer (suc a) b s =
      by_bool (ended s.machine || waits s.machine) (λ e. ([], rw (suc-add, e)))
      (λ e. by_result (byte code s)
      (λ u t d.
      let (more, h) = found-longer a b (world_of t.machine t.memory) in
      (more, rw (suc-add, e, d) (ap (λ z. executed (notes code s.machine) t rest ∷ z) h)))
      (λ k d. ([], rw (suc-add, e, d))))

-- the moments of a run, as it is lent
module _ (m : Machine) (code memory rest : List ℕ) (c : ℕ) where
  pub during-refused : Refused m code memory c → (b : ℕ) → during m code memory rest b c ≡ idle m memory rest
  unfolding during
  during-refused z b = rw z

  pub during-kept : {k : FaultKind} → m.fault ≡ Some k → (b : ℕ) → during m code memory rest b c ≡ idle m memory rest
  unfolding during
  during-kept f b =
      by_bool (earlier_clock m c || ltb (length code) m.setup.code || short_memory m memory) (λ z. rw z) (λ z. rw (z, f))

  pub during-stays : {k : FaultKind} → (Refused m code memory c → ⊥) → m.fault ≡ None → beginning c (world_of m memory) ≡ faults k
      → (b : ℕ)
      → during m code memory rest b c ≡ idle m memory rest
  unfolding during
  during-stays i n f b =
      by_bool (earlier_clock m c || ltb (length code) m.setup.code || short_memory m memory) (λ z. rw z)
      (λ z.
      rw z
      (ap (λ e. unless_kept e (idle m memory rest) (begun (beginning c (world_of m memory)) c b m code memory rest)) n
      ∙ ap (λ r. begun r c b m code memory rest) f))

  -- the moment after a run's beginning
  abbrev pub opening : World → Moment
  opening t =
      record { instruction = false; machine = t.machine; memory = t.memory ++ rest; talk = t.talk; events = ticks c ∷ []; notes = [] }

  pub during-goes : (g : Goes m code memory c) (b : ℕ)
      → let t = g.begun in
      during m code memory rest b c ≡ opening t ∷ bytes b code rest (world_of t.machine t.memory)
  unfolding during
  during-goes g b =
      rw (g.not_earlier, g.code-long, g.memory-long)
      (ap (λ f. unless_kept f (idle m memory rest) (begun (beginning c (world_of m memory)) c b m code memory rest)) g.no-fault
      ∙ ap (λ r. begun r c b m code memory rest) g.begins)

-- the moment after a run is no byte and has no communications
module _ (l : List Moment) (m : Machine) (μ : List ℕ) where
  closing-bytes : after_bytes (l ++ quietly m μ ∷ []) ≡ after_bytes l
  closing-bytes = rw (after-append l (quietly m μ ∷ []), append-nil)

  closing-talk : talk_in (l ++ quietly m μ ∷ []) ≡ talk_in l
  closing-talk = rw (talk-append l (quietly m μ ∷ []), append-nil)

module _ (m : Machine) (memory rest full : List ℕ) (whole : full ≡ memory ++ rest) where
  abbrev Found-in : List Moment → After RunAnswer → Type 0
  Found-in l f = Recorded (l ++ quietly f.machine (f.memory ++ rest) ∷ []) (quietly m full) rest f

  -- a run that executed nothing
  recorded-none : (answer : RunAnswer) (n : Machine) → executed_in answer ≡ 0 → leaving answer m ≡ n
      → Found-in (idle m memory rest) (unchanged answer n memory)
  recorded-none answer n c e =
      record { as_many = sym c; same-talk = refl; no-other-talk = refl; same-machine = e; same_memory = refl }

  recorded_found : (a : Moment) (l : List Moment) (f : Finish) → a.instruction ≡ false → a.talk ≡ [] → Found l a rest f
      → Found-in (a ∷ l) (finished f)
  recorded_found a l f i t h =
      let w = f.world in
      let skips : after_bytes (a ∷ l) ≡ after_bytes l = rw i in
      let bs = closing-bytes (a ∷ l) w.machine (w.memory ++ rest) ∙ skips ∙ h.all-bytes in
      record {
        as_many = rw bs h.as_many;
        same-talk = rw bs h.same-talk;
        no-other-talk = closing-talk (a ∷ l) w.machine (w.memory ++ rest) ∙ (rw t h.same-talk);
        same-machine = rw bs h.same-machine;
        same_memory = rw bs h.same_memory;
      }

  recorded : (code : List ℕ) (b c : ℕ) → Found-in (during m code memory rest b c) (run m code memory b c)
  recorded code b c =
      by-run m code memory c
      (λ k i z e. rw (e b, during-refused m code memory rest c z b) (recorded-none k m (idle-count k i) (idle-machine k i)))
      (λ k f e.
      let same : (keep k (world_of m [])).machine ≡ m = ap (λ z. machine_with m.cpu m.offers m.held z m) (sym f) in
      rw (e b, during-kept m code memory rest c f b) (recorded-none (Ok (RunFault 0 k)) m refl same))
      (λ k i n f e.
      rw (e b, during-stays m code memory rest c i n f b) (recorded-none (Ok (RunFault 0 k)) (keep k (world_of m [])).machine refl refl))
      (λ g.
      let t = g.begun in
      let silent : t.talk ≡ [] = beginning-silent c (world_of m memory) g.begins in
      let s = world_of t.machine t.memory in
      let again : t ≡ s = ap (λ z. record { machine = t.machine; memory = t.memory; talk = z }) silent in
      rw (run-goes g b, during-goes m code memory rest c g b, again)
      (recorded_found (opening m code memory rest c s) (bytes b code rest s) (run_from b code 0 s) refl refl
      (found code rest b s (opening m code memory rest c s) refl refl refl)))
    where
      idle-count : (k : RunAnswer) → NoRun k → executed_in k ≡ 0
      idle-count (Err EarlierClock) i = refl
      idle-count (Err (RunShort n)) i = refl
      idle-count (Ok o) i = absurd i

      idle-machine : (k : RunAnswer) → NoRun k → leaving k m ≡ m
      idle-machine (Err EarlierClock) i = refl
      idle-machine (Err (RunShort n)) i = refl
      idle-machine (Ok o) i = absurd i

pub run-records : Records
unfolding call
run-records m code behind memory code_lent lent b c =
    recorded m (L.take lent memory) (drop lent memory) memory (sym (take-append-drop lent memory)) (L.take code_lent (code ++ behind)) b
    (low c)

-- with more to spend the moments go on
longer : (m : Machine) (code memory rest : List ℕ) (a b c : ℕ)
    → (more : List Moment) × (after_bytes (during m code memory rest (a + b) c) ≡ after_bytes (during m code memory rest a c) ++ more)
longer m code memory rest a b c =
    by-run m code memory c
    (λ k i z e. ([], rw (during-refused m code memory rest c z (a + b), during-refused m code memory rest c z a)))
    (λ k f e. ([], rw (during-kept m code memory rest c f (a + b), during-kept m code memory rest c f a)))
    (λ k i n f e. ([], rw (during-stays m code memory rest c i n f (a + b), during-stays m code memory rest c i n f a)))
    (λ g.
    let (more, h) = found-longer code rest a b (world_of g.begun.machine g.begun.memory) in
    (after_bytes more, rw (during-goes m code memory rest c g (a + b), during-goes m code memory rest c g a, h, after-append)))

pub run-continues : Continues
unfolding call
run-continues m code behind memory code_lent lent a b c =
    let lent-code = L.take code_lent (code ++ behind) in
    let lent-memory = L.take lent memory in
    let rest = drop lent memory in
    let (more, h) = longer m lent-code lent-memory rest a b (low c) in
    let frame : (n : ℕ) → after_bytes (call code (call_run behind code_lent lent n c) m memory).moments
    ≡ after_bytes (during m lent-code lent-memory rest n (low c)) =
    λ n.
    let f = run m lent-code lent-memory n (low c) in
    closing-bytes (during m lent-code lent-memory rest n (low c)) f.machine (f.memory ++ rest) in
    (more, frame (a + b) ∙ h ∙ ap (λ z. z ++ more) (sym (frame a)))
