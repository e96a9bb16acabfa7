-- The bench program always says how the machine stood (specs/Laws.antt, law 8). Each round but the first begins with a process that a take
-- woke, so it executes an instruction or is the last, and there are rounds enough.
use Prim.Native.Nat.{ℕ, zero, suc, ◌+◌, ◌-◌, ◌≤◌}
use native.Mathlib.Omega.{arith}
use mathlib.Core.Path.{◌≡◌, refl, sym, ap, ◌∙◌}
use mathlib.Core.Logic.{◌⊎◌, inl, inr, ⊎_elim}
use mathlib.Core.Bool.{Bool, true, false, cond, not}
use mathlib.Core.List.{List, [], ◌∷◌, ◌++◌, append-nil, append_assoc}
use mathlib.Core.Option.{Option, none, some}
use lib.ListN.{length, drop, replicate, length-append, length-replicate}
use lib.Dec.{ltb, eqb}
use borrow.Author.Tests.{eqb-true, eqb-false, le-ltb}
use Rattle.model.specs.Word.{not_process}
use Rattle.model.specs.Limits.{code_limit}
use Rattle.model.specs.Syntax.{Program}
use Rattle.model.specs.Accept.{memory_words}
use Rattle.model.specs.Layout.{base}
use Rattle.model.specs.Code.{Compilation, compiled, refused, compile}
use Rattle.model.specs.Machine.{World, done, Act, return, release, peek, poke, state_word, space_of}
use Rattle.model.specs.Execute.{receive, received}
use Rattle.model.specs.Run.{land, byte, ended, waits, run_from, short_memory, After, unchanged, world_of, finished, fresh, blank}
use Rattle.model.specs.Run.{cleared, start, waking, beginning, earlier_clock}
use Rattle.model.specs.Outside.{output_word_of, looking, taken, taking, took as took_by, take}
use Rattle.model.specs.Bench.{line, code_line, out_line, took_one, takes, bench_budget, bench_slice, on_takes, on_run, rounds}
use Rattle.model.specs.Bench.{of_compilation}
use Rattle.model.specs.Bench.{bench, bench_clock}
use Rattle.model.specs.Laws.{Out, out_lines, Standing, ended as stood_ended, waiting, spent, fault, standing_name, Report, one-refusal}
use Rattle.model.specs.Laws.{full, counted, Took, AlwaysReports}
use Rattle.model.specs.declared.Cpu.{Cpu}
use Rattle.model.specs.declared.Machine.{Machine}
use Rattle.model.specs.declared.Outcome.{Outcome}
use Rattle.model.specs.declared.Outcome.TheVariants.{Ended, Waiting, Spent, Fault as RunFault}
use Rattle.model.specs.Answers.{StartAnswer, TakeAnswer}
use Rattle.std.specs.Prelude.{Err, None, Ok, Some}
use Rattle.model.specs.declared.TakeRefusal.TheVariants.{Short as TakeShort, Fault as TakeFault, NoChannel}
use Rattle.model.proofs.Cases.{by_bool, by-option, never}
use Rattle.model.proofs.Laws.Keeping.{Left, Keeps, Brings, brings-keeps, bind, at_first, at_last, returning, picks, of-peek}
use Rattle.model.proofs.Laws.Keeping.{of-test_place}
use Rattle.model.proofs.Laws.Keeping.{Runs, join_runs, keeps}
use Rattle.model.proofs.Laws.Made.{begins, clocked, beginning-is, of-wake_sleepers}
use Rattle.model.proofs.Laws.Regular.{Same, by_alike, of-taking as regular-taking}
use Rattle.model.proofs.Laws.Runs.{by_result, not-after-itself, Goes, run-goes, by-run, begun-same, took, bytes_same, NoValue}
use Rattle.model.proofs.Laws.Runs.{by-take, by-start}
use Rattle.model.proofs.Laws.Recorded.{run-anew}

-- lines of outputs, and at the end how the machine stood
data Ends : List ℕ → Type 0 where
  ends : (outs : List Out) (stood : Standing) (n : ℕ) → n ≤ bench_budget → Ends (out_lines outs ++ line (standing_name stood) n)

out-lines-append : (l k : List Out) → out_lines (l ++ k) ≡ out_lines l ++ out_lines k
out-lines-append [] k = refl
out-lines-append (o ∷ l) k =
    let one = out_line o.number o.value in
    ap (λ z. one ++ z) (out-lines-append l k) ∙ sym (append_assoc one (out_lines l) (out_lines k))

ends-behind : (outs : List Out) {text : List ℕ} → Ends text → Ends (out_lines outs ++ text)
ends-behind outs (ends more stood n b) = rw (← append_assoc, ← out-lines-append) (ends (outs ++ more) stood n b)

-- code and memory as a run asks for them
record Lent (prog : List ℕ) (m : Machine) (memory : List ℕ) : Type 0 where
  not_earlier : earlier_clock m bench_clock ≡ false
  code-long : ltb (length prog) m.setup.code ≡ false
  memory-long : short_memory m memory ≡ false

-- what a take leaves of a machine
record Fixed (m m' : Machine) : Type 0 where
  setup-same : m'.setup ≡ m.setup
  clock-same : m'.timer.clock ≡ m.timer.clock
  given-same : m'.timer.given ≡ m.timer.given

fixed : {s t : World} → Same s t → Fixed s.machine t.machine
fixed h = record { setup-same = h.setup-same; clock-same = h.clock-same; given-same = h.given-same }

fixed-trans : {m m' m'' : Machine} → Fixed m m' → Fixed m' m'' → Fixed m m''
fixed-trans h k =
    record {
      setup-same = k.setup-same ∙ h.setup-same;
      clock-same = k.clock-same ∙ h.clock-same;
      given-same = k.given-same ∙ h.given-same;
    }

lent_same : {prog : List ℕ} {m m' : Machine} {memory memory' : List ℕ} → Fixed m m' → length memory' ≡ length memory
    → Lent prog m memory → Lent prog m' memory'
lent_same e f h =
    record {
      not_earlier = rw (e.clock-same, e.given-same) h.not_earlier;
      code-long = rw e.setup-same h.code-long;
      memory-long = rw (e.setup-same, f) h.memory-long;
    }

-- a take that finds a sender wakes it, and then a process has the processor
of-land : Keeps Runs land
unfolding land
of-land =
    record { from = λ s h. (picks s.machine.cpu.running (of-test_place s.machine.cpu.place) (returning tt)).from s h }

of-received : (c p v : ℕ) → Brings Runs (received c p v)
unfolding received
of-received c p v = at_last (poke c not_process) _ (λ u. at_first (join_runs p) (λ a. record { from = λ s h. h }))

of-waking : {act : Act (Unit {0})} → Brings Runs act → Brings Runs (waking act)
unfolding waking
of-waking h = record { from = λ s. (at_first h (λ u. picks s.machine.cpu.running (returning tt) of-land)).from s }

of-taken : (k v : ℕ) → Brings Runs (taken k (some v))
of-taken k v =
    at_last (output_word_of k) _ (λ c. at_last (peek c) _ (λ p. at_first (of-waking (of-received c p v)) (λ u. returning (some v))))

of-looking : (k : ℕ) → Keeps Runs (looking k)
unfolding looking receive
of-looking k =
    record {
      from = λ s h.
          let c = s.machine.setup.base + s.machine.setup.inputs + k in
          (bind (of-peek c)
          (λ p. picks (eqb p not_process) (returning none)
          (bind (bind (of-peek (state_word (space_of p))) (λ a. of-peek a)) (λ v. returning (some v))))).from s h;
    }

-- a process that has the processor keeps it through a take
keeps-taken : (k : ℕ) (v : Option ℕ) → Keeps Runs (taken k v)
keeps-taken k none = returning none
keeps-taken k (some v) = brings-keeps (of-taken k v)

keeps-taking : (k : ℕ) → Keeps Runs (taking k)
unfolding taking
keeps-taking k = bind (of-looking k) (keeps-taken k)

-- with a value one has it
taken_runs : (k : ℕ) (s t : World) (v : ℕ) → taking k s ≡ done (some v) t → Runs t.machine.cpu
unfolding taking
taken_runs k s t v e =
    by_result (looking k s)
    (λ o u p. by-option o (λ z. never (cc (rw (p, z) at e)))
    (λ x z. let d : taken k (some x) u ≡ done (some v) t = rw (p, z) at e in rw d at ((of-taken k x).from u)))
    (λ f p. never (cc (rw p at e)))

-- what takes print, and what they leave: outputs' lines, the setup and the memory's length; if a line was printed a process runs
record Printed (m : Machine) (memory lines : List ℕ) (m' : Machine) (memory' : List ℕ) : Type 0 where
  outs : List Out
  are : lines ≡ out_lines outs
  fixes : Fixed m m'
  length-same : length memory' ≡ length memory
  busy : Runs m.cpu → Runs m'.cpu
  woken : (outs ≡ []) ⊎ Runs m'.cpu

-- a take without a value leaves registers and setup
printed-none : (m m' : Machine) {memory : List ℕ} → m'.cpu ≡ m.cpu → Fixed m m' → Printed m memory [] m' memory
printed-none m m' e f =
    record { outs = []; are = refl; fixes = f; length-same = refl; busy = λ h. ap (λ (r : Cpu). r.running) e ∙ h; woken = inl refl }

fixed-still : {m : Machine} → Fixed m m
fixed-still = record { setup-same = refl; clock-same = refl; given-same = refl }

both : {A B : Type 0} (l k : List Out) → (l ≡ []) ⊎ A → (k ≡ []) ⊎ B → (A → B) → (l ++ k ≡ []) ⊎ B
both l k (inl e) (inl f) on = inl (rw (e, f))
both l k (inr a) (inl f) on = inr (on a)
both l k g (inr b) on = inr b

printed-more : {m m' m'' : Machine} {memory memory' memory'' l l' : List ℕ} → Printed m memory l m' memory'
    → Printed m' memory' l' m'' memory'' → Printed m memory (l ++ l') m'' memory''
printed-more h k =
    record {
      outs = h.outs ++ k.outs;
      are = rw (h.are, k.are) (sym (out-lines-append h.outs k.outs));
      fixes = fixed-trans h.fixes k.fixes;
      length-same = k.length-same ∙ h.length-same;
      busy = λ r. k.busy (h.busy r);
      woken = both h.outs k.outs h.woken k.woken k.busy;
    }

module _ (m : Machine) (memory : List ℕ) (k : ℕ) where
  abbrev Prints : After TakeAnswer → Type 0
  Prints t = Printed m memory (took_one k t.answer) t.machine t.memory

  took-prints : Prints (took_by (taking k (world_of m memory)) m memory)
  took-prints =
      let w = world_of m memory in
      by_alike ((regular-taking k).from [] w)
      (λ v s p q h.
      let stay : Runs m.cpu → Runs s.machine.cpu = λ r. rw p at ((keeps-taking k).from w r) in
      by-option v
      (λ e. rw (p, e) (record {
        outs = [];
        are = refl;
        fixes = fixed h;
        length-same = h.length-same;
        busy = stay;
        woken = inl refl;
      }))
      (λ x e. rw (p, e) (record {
        outs = record { number = k; value = x } ∷ [];
        are = sym (append-nil (out_line k x));
        fixes = fixed h;
        length-same = h.length-same;
        busy = stay;
        woken = inr (taken_runs k w s x (rw e at p));
      })))
      (λ f p q. rw p (printed-none m _ refl (record { setup-same = refl; clock-same = refl; given-same = refl })))

  -- a take that is refused
  refused-prints : (a : TakeAnswer) → NoValue a → Prints (unchanged a m memory)
  refused-prints (Ok (Some v)) h = absurd h
  refused-prints (Ok None) h = printed-none m m refl fixed-still
  refused-prints (Err (TakeShort n)) h = printed-none m m refl fixed-still
  refused-prints (Err (TakeFault f)) h = printed-none m m refl fixed-still
  refused-prints (Err NoChannel) h = printed-none m m refl fixed-still

  take-prints : Prints (take m memory k)
  take-prints = by-take m memory k Prints refused-prints took-prints

takes-print : (n k : ℕ) (m : Machine) (memory : List ℕ)
    → let t = takes n k m memory in Printed m memory t.lines t.machine t.memory
unfolding takes
takes-print zero k m memory = printed-none m m refl fixed-still
takes-print (suc n) k m memory =
    let t = take m memory k in
    printed-more (take-prints m memory k) (takes-print n (suc k) t.machine t.memory)

-- one instruction more before an outcome is one at least
not_first : (o : Outcome) → counted 1 o ≡ Waiting 0 → ◌≡◌ {A = ℕ} 0 1
not_first (Ended n) e = cc
not_first (Waiting n) e = let z : 1 + n ≡ 0 = cc in absurd (omega arith)
not_first (Spent n) e = cc
not_first (RunFault n k) e = cc

module _ (prog : List ℕ) where
  -- a machine whose process runs does not wait before its first instruction
  waits-later : (b : ℕ) (s : World) → Runs s.machine.cpu → (run_from b prog 0 s).outcome ≡ Waiting 0 → ◌≡◌ {A = ℕ} 0 1
  unfolding run_from
  waits-later zero s r e =
      let w : waits s.machine ≡ false = ap not r in
      by_bool (ended s.machine) (λ d. cc (rw d at e)) (λ d. cc (rw (d, w) at e))
  waits-later (suc b) s r e =
      let w : waits s.machine ≡ false = ap not r in
      by_bool (ended s.machine) (λ d. cc (rw d at e))
      (λ d. by_result (byte prog s)
      (λ u t p. not_first (run_from b prog 0 (world_of t.machine t.memory)).outcome (rw (d, w, p, run-anew prog b 1 t) at e))
      (λ k p. cc (rw (d, w, p) at e)))

by-list : {R : Type 0} (l : List ℕ) → (l ≡ [] → R) → ((x : ℕ) (k : List ℕ) → l ≡ x ∷ k → R) → R
by-list [] n c = n refl
by-list (x ∷ k) n c = c x k refl

-- a process that has the processor keeps it through a run's beginning
keeps-begins : (r : Cpu) → Keeps Runs (begins r)
keeps-begins r =
    bind (bind (keeps (λ n. absurd n) (λ w. brings-keeps (join_runs w)) (of-wake_sleepers {Fine = Runs} {More = ⊥} (λ r q h e. e ∙ h)))
    (λ u. record { from = λ s h. settles s.machine.cpu.running s h h }))
    (λ u. picks r.running (returning tt) of-land)
  where
    settles : (b : Bool) (s : World) → Runs s.machine.cpu → b ≡ true → Left Runs (cond b (return tt) release s)
    settles true s h e = h
    settles false s h e = never (cc)

begun-runs : (c : ℕ) (s : World) {t : World} → beginning c s ≡ done tt t → Runs s.machine.cpu → Runs t.machine.cpu
begun-runs c s e h = rw (← beginning-is c s, e) at ((keeps-begins s.machine.cpu).from (clocked c s) h)

-- what a run is lent after its beginning
lent-begun : {prog memory : List ℕ} {m : Machine} (g : Goes m prog memory bench_clock) → Lent prog m memory
    → Lent prog g.begun.machine g.begun.memory
lent-begun {prog} {memory} {m} g h =
    let same = begun-same bench_clock (world_of m memory) g.begins in
    record {
      not_earlier = rw (same.clock-same, same.given-same) (not-after-itself bench_clock);
      code-long = rw same.setup-same h.code-long;
      memory-long = rw (same.setup-same, same.length-same) h.memory-long;
    }

-- so many rounds are enough after so many instructions: one more than instructions are left, or two where no process runs yet
abbrev Enough : (rounds total : ℕ) → Machine → Type 0
Enough f total m = (bench_budget - total + 2 ≤ f) ⊎ (Runs m.cpu × (bench_budget - total + 1 ≤ f))

enough-next : (f total n : ℕ) (m : Machine) → Enough (suc f) total m → n ≤ bench_budget - total → (Runs m.cpu → n ≡ 0 → ◌≡◌ {A = ℕ} 0 1)
    → bench_budget - (total + n) + 1 ≤ f
enough-next f total n m (inl b) h later = omega arith
enough-next f total n m (inr (r, b)) h later =
    by_bool (eqb n 0) (λ e. never (later r (eqb-true n 0 e))) (λ e. let d = eqb-false n 0 e in omega arith)

module _ (prog : List ℕ) (outs : ℕ) where
  -- how a run stood: the last line, or takes and what comes after them
  module _ (total : ℕ) (inside : total ≤ bench_budget) (m : Machine)
      (more : ℕ → Machine → List ℕ → List ℕ)
      (next : (n : ℕ) (m' : Machine) (memory' : List ℕ) → n ≤ bench_budget - total → (Runs m.cpu → n ≡ 0 → ◌≡◌ {A = ℕ} 0 1)
      → Lent prog m' memory' → Runs m'.cpu → Ends (more (total + n) m' memory')) where
    takes-end : (n : ℕ) (t : World) → Lent prog t.machine t.memory → n ≤ bench_budget - total
        → (Runs m.cpu → n ≡ 0 → ◌≡◌ {A = ℕ} 0 1)
        → Ends (on_takes (takes outs 0 t.machine t.memory) (total + n) (more (total + n)))
    takes-end n t g few later =
        let s = takes outs 0 t.machine t.memory in
        let p = takes-print outs 0 t.machine t.memory in
        by-list s.lines (λ e. rw e (ends [] waiting (total + n) (omega arith)))
        (λ x k e.
        let woken : Runs s.machine.cpu = ⊎_elim (λ z. never (cc (p.are, ap out_lines z))) (λ r. r) p.woken in
        let rest = next n s.machine s.memory few later (lent_same p.fixes p.length-same g) woken in
        let all : Ends (s.lines ++ more (total + n) s.machine s.memory) = rw p.are (ends-behind p.outs rest) in
        rw e (rw e at all))

    run_ends : (s : World) → Lent prog s.machine s.memory → (o : Outcome) (t : World) → Took prog (bench_budget - total) s t o
        → (Runs m.cpu → o ≡ Waiting 0 → ◌≡◌ {A = ℕ} 0 1)
        → Ends (on_run (finished (record { outcome = o; world = t })) outs total more)
    run_ends s h (Ended n) t (d, few) later = ends [] stood_ended (total + n) (omega arith)
    run_ends s h (Spent n) t (d, few) later = ends [] spent (total + n) (omega arith)
    run_ends s h (RunFault n f) t (u, d, e, w, few) later = ends [] fault (total + n) (omega arith)
    run_ends s h (Waiting n) t (d, few) later =
        let same = bytes_same prog n d in
        takes-end n t (lent_same (fixed same) same.length-same h) few (λ r z. later r (ap Waiting z))

  rounds-end : (f total : ℕ) → total ≤ bench_budget → (m : Machine) (memory : List ℕ) → Lent prog m memory → Enough f total m
      → Ends (rounds f prog outs total m memory)
  unfolding rounds
  rounds-end zero total inside m memory h (inl b) = absurd (omega arith)
  rounds-end zero total inside m memory h (inr (r, b)) = absurd (omega arith)
  rounds-end (suc f) total inside m memory h left =
      let b = bench_budget - total in
      by-run m prog memory bench_clock
      (λ k i z e. never (cc (rw (h.not_earlier, h.code-long, h.memory-long) at z)))
      (λ k f e. rw (e b) (ends [] fault (total + 0) (omega arith)))
      (λ k i n f e. rw (e b) (ends [] fault (total + 0) (omega arith)))
      (λ g.
      let w = g.begun in
      let F = run_from b prog 0 w in
      rw (run-goes g b)
      (run_ends total inside m (λ n m2 memory2. rounds f prog outs n m2 memory2)
      (λ n m' memory' few later g' r.
      rounds-end f (total + n) (omega arith) m' memory' g' (inr (r, enough-next f total n m left few later)))
      w (lent-begun g h) F.outcome F.world (took prog b w)
      (λ r e. waits-later prog b w (begun-runs bench_clock (world_of m memory) g.begins r) e)))

-- a started machine is lent what it needs, and so is one whose start was refused: it needs nothing
start-lent : (code memory : List ℕ) (w i o q : ℕ) → let s = start code memory w i o q in Lent code s.machine s.memory
unfolding fresh blank cleared
start-lent code memory w i o q =
    by-start code memory w i o q (λ (f : After StartAnswer). Lent code f.machine f.memory)
    (λ a. record {
      not_earlier = refl;
      code-long = le-ltb (length code) 0 (omega arith);
      memory-long = le-ltb (length memory) 0 (omega arith);
    })
    (record {
      not_earlier = refl;
      code-long = le-ltb (length code) (length code) (omega arith);
      memory-long = le-ltb _ (w + i + o)
          (omega (
            arith,
            length-append (replicate w 0 ++ replicate (i + o) not_process) (drop (w + i + o) memory),
            length-append (replicate w 0) (replicate (i + o) not_process),
            length-replicate {A = ℕ} w 0,
            length-replicate (i + o) not_process,
          ));
    })

full-report : (p : Program) (code : List ℕ) {text : List ℕ} → Ends text
    → Report (compiled p code) (line "bytes " (length code) ++ line "words " (memory_words p) ++ code_line code ++ text)
full-report p code (ends outs stood n b) = rw (← append_assoc) (full p code outs stood n b)

reports : (c : Compilation) → Report c (of_compilation c)
reports (compiled p bytes) =
    let memory : List ℕ = replicate (memory_words p) 0 in
    let s = start bytes memory (base p) p.inputs p.outputs bench_slice in
    full-report p bytes
    (rounds-end bytes p.outputs (2 + bench_budget) 0 (omega arith) s.machine s.memory
    (start-lent bytes memory (base p) p.inputs p.outputs bench_slice) (inl (omega arith)))
reports (refused n r) = one-refusal n r

pub always-reports : AlwaysReports
unfolding bench
always-reports table = reports (compile table code_limit)
