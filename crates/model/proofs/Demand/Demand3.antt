-- Demand 3, for every table: the machine's history is a run of the Occam program.
use Prim.Native.Nat.{ℕ, zero, suc, ◌+◌, ◌*◌, ◌≤◌, ◌<◌}
use native.Mathlib.Omega.{arith}
use mathlib.Core.Path.{◌≡◌, refl, sym, ap, subst}
use mathlib.Core.Bool.{true, ◌&&◌}
use mathlib.Core.List.{List, [], ◌∷◌, ◌++◌, append-nil}
use mathlib.Core.Option.{some}
use native.Mathlib.Decide.{dec_lt}
use lib.ListN.{length, get_elem?}
use lib.Seq.{slice}
use lib.Dec.{leb}
use borrow.Author.Tests.{leb-true}
use Rattle.model.specs.Limits.{code_limit, slice_limit, word_limit}
use Rattle.model.specs.Syntax.{Program}
use Rattle.model.specs.Reader.{program}
use Rattle.model.specs.Accept.{limit, accept, memory_words}
use Rattle.model.specs.Instruction.{Instruction}
use Rattle.model.specs.Prefix.{decode}
use Rattle.model.specs.Layout.{base}
use Rattle.model.specs.Scheme.{scheme}
use Rattle.model.specs.Code.{place_of, Realises}
use Rattle.model.specs.Machine.{memory_size}
use Rattle.model.specs.Run.{After, start, world_of, fresh, cleared}
use Rattle.model.specs.Occam.{initial}
use Rattle.model.specs.History.{Call, quietly, history}
use Rattle.model.specs.Demand.{keeps, Faithful, Demand3}
use Rattle.model.specs.declared.Machine.{Machine}
use Rattle.model.specs.declared.Setup.{Setup}
use Rattle.model.specs.Answers.{StartAnswer}
use Rattle.std.specs.Prelude.{Ok}
use Rattle.model.proofs.Cases.{never, by_bool}
use Rattle.model.proofs.Tables.Readers.{read-well}
use Rattle.model.proofs.Tables.Accepts.{accept-reads, accept-passed, compile-accepts}
use Rattle.model.proofs.Coding.Realise.{code-realises}
use Rattle.model.proofs.Words.FineParts.{accepted-fine, accepted-one-way, accepted-one-way-in}
use Rattle.model.proofs.Occam.Live.{most, initial-most}
use Rattle.model.proofs.Invariant.Kernel.{Loaded, setup, size}
use Rattle.model.proofs.Invariant.Traces.{trace-reach, trace-most}
use Rattle.model.proofs.Invariant.Scheduling.{Settles, settles}
use Rattle.model.proofs.Demand.Chains.{chain-matches, chain-other, chain-progress}
use Rattle.model.proofs.Demand.Lending.{inv-few}
use Rattle.model.proofs.Demand.Watches.{watches_after, keeps-behind, on, no_times}
use Rattle.model.proofs.Demand.Histories.{follows}
use Rattle.model.proofs.Demand.Calls.{Sim, sim, run-from, run-grows, linked, run-matches}
use Rattle.model.proofs.Demand.Starting.{first, begun, settled}

-- what a start that was accepted leaves
data Begun (memory : List ℕ) (u : Setup) (s : After StartAnswer) : Type 0 where
  begun-with : memory_size u ≤ length memory → s.machine ≡ fresh u → s.memory ≡ cleared u memory → Begun memory u s

start-begun : (code memory : List ℕ) (w i o q : ℕ) (s : After StartAnswer) → start code memory w i o q ≡ s → s.answer ≡ Ok tt
    → Begun memory (record { code = length code; base = w; inputs = i; outputs = o; slice = q }) s
unfolding start
start-begun code memory w i o q s e a =
    by_bool (leb 1 q && leb q slice_limit)
    (λ t₁. by_bool (leb i 8 && leb o 8)
    (λ t₂. by_bool (leb (w + i + o) word_limit && leb (length code) code_limit)
    (λ t₃. by_bool (leb (w + i + o) (length memory))
    (λ t₄. begun-with (leb-true _ _ t₄) (ap (λ (r : After StartAnswer). r.machine) (sym (rw (t₁, t₂, t₃, t₄) at e)))
    (ap (λ (r : After StartAnswer). r.memory) (sym (rw (t₁, t₂, t₃, t₄) at e))))
    (λ t₄. never (cc (a, ap (λ (r : After StartAnswer). r.answer) (rw (t₁, t₂, t₃, t₄) at e)))))
    (λ t₃. never (cc (a, ap (λ (r : After StartAnswer). r.answer) (rw (t₁, t₂, t₃) at e)))))
    (λ t₂. never (cc (a, ap (λ (r : After StartAnswer). r.answer) (rw (t₁, t₂) at e)))))
    (λ t₁. never (cc (a, ap (λ (r : After StartAnswer). r.answer) (rw t₁ at e))))

-- up to a place that is not behind there is nothing
slice-none : (f t : ℕ) (l : List ℕ) → t ≤ f → slice f t l ≡ []
slice-none zero zero l h = refl
slice-none zero (suc t) l h = absurd (omega arith)
slice-none (suc f) zero l h = refl
slice-none (suc f) (suc t) [] h = refl
slice-none (suc f) (suc t) (x ∷ l) h = slice-none f t l (omega arith)

-- each instruction has bytes
realised-rise : (code : List ℕ) (xs : List Instruction) (off : ℕ → ℕ) → Realises code xs off → (i : ℕ) → i < length xs → off i < off (suc i)
unfolding decode
realised-rise code xs off r i h = by (dec_lt (off i) (off (suc i)))
  where
    found : (l : List Instruction) (j : ℕ) → j < length l → (x : Instruction) × (get_elem? l j ≡ some x)
    found [] j h = absurd (omega arith)
    found (x ∷ l) zero h = (x, refl)
    found (x ∷ l) (suc j) h = found l j (omega arith)

    by : Dec (off i < off (suc i)) → off i < off (suc i)
    by (yes g) = g
    by (no g) =
        let (x, e) = found xs i h in
        never (cc (r.each i x e, ap (decode 0) (slice-none (off i) (off (suc i)) code (omega arith))))

realised-rises : (code : List ℕ) (xs : List Instruction) (off : ℕ → ℕ) → Realises code xs off → (i k : ℕ) → i < k
    → k ≤ length xs → off i < off k
realised-rises code xs off r i zero h l = absurd (omega arith)
realised-rises code xs off r i (suc k) h l = by (dec_lt i k) (λ g. realised-rises code xs off r i k g (omega arith))
  where
    by : Dec (i < k) → (i < k → off i < off k) → off i < off (suc k)
    by (yes g) f = omega (arith, f g, realised-rise code xs off r k (omega arith))
    by (no g) f = let same : i ≡ k = omega arith in rw same (realised-rise code xs off r k (omega arith))

-- the run for a list of calls, with the steps without code that stand before the first instruction
loaded-faithful : (L : Loaded) (memory : List ℕ) → size L ≤ length memory
    → Faithful L.prog L.code (fresh (setup L)) (cleared (setup L) memory)
unfolding initial watches_after
loaded-faithful L memory room = by (settled L₀ memory room)
  where
    -- no time is waited for at first
    L₀ : Loaded
    L₀ = on L []

    m : Machine
    m = fresh (setup L)

    words : List ℕ
    words = cleared (setup L) memory

    -- the condition behind the first moment
    kept_on : (cs : List Call) → keeps [] (quietly m words ∷ history L.code cs m words) ≡ true
        → keeps [] (history L.code cs m words) ≡ true
    kept_on cs kept = keeps-behind [] (quietly m words ∷ []) (history L.code cs m words) kept

    by : {n l k : ℕ} → Settles L₀ (first L₀ memory room) (begun L₀ memory room) n l k → Faithful L.prog L.code m words
    by (settles {st'} {l} g ms inv e) =
        let few : most st'.process ≤ limit = omega (arith, trace-most ms, initial-most L.prog, L.few) in
        let s : Sim L [] m words = sim st' l inv few (λ z. refl) in
        let front = follows L {xs = []} {s = world_of m words} [] (quietly m words) refl (sym (append-nil words)) refl refl ms inv in
        let same : l ≤ l = omega arith in
        record {
          run = λ cs. g ∷ run-from L cs m words s;
          grows = λ cs c kept. let (more, z) = run-grows L cs c m words s (kept_on (cs ++ c ∷ []) kept) in (more, ap (λ y. g ∷ y) z);
          matches = λ cs kept. elim (run-matches L cs m words s (kept_on cs kept)) [
            | linked c ↦ chain-matches (chain-other front (trace-reach ms) refl same c)
          ];
          progress = λ cs kept. elim (run-matches L cs m words s (kept_on cs kept)) [
            | linked c ↦
                chain-progress (suc (limit * length L.code)) (omega (arith, ap (λ z. limit * z) L.realises.ends))
                (inv-few L₀ inv few) (chain-other front (trace-reach ms) refl same c)
          ];
        }

-- demand 3 for every code that realises the scheme of an accepted table
pub realised-faithful : (table : List ℕ) (p : Program) → accept table ≡ program p → memory_words p ≤ word_limit
    → (code : List ℕ) → length code ≤ code_limit
    → (off : ℕ → ℕ) → Realises code (scheme p) off → (slice : ℕ) (memory : List ℕ) (s : After StartAnswer)
    → start code memory (base p) p.inputs p.outputs slice ≡ s → s.answer ≡ Ok tt → Faithful p code s.machine s.memory
realised-faithful table p accepted small code short off realises slice memory s e a =
    elim (start-begun code memory (base p) p.inputs p.outputs slice s e a) [
      | begun-with room em er ↦ rw (em, er) (loaded-faithful loaded memory room)
    ]
  where
    loaded : Loaded
    loaded =
        record {
          prog = p;
          code = code;
          off = off;
          realises = realises;
          rises = realised-rises code (scheme p) off realises;
          slice = slice;
          sleeps = λ w t c. Unit {0};
          times = no_times;
          sleeps-near = λ o. absurd o;
          guarded-near = λ o. absurd o;
          fine = accepted-fine table p accepted;
          code-small = short;
          words_small = small;
          few-inputs = (read-well table p (accept-reads table p accepted)).0.0;
          few = (accept-passed table p accepted).1;
          one_way = accepted-one-way table p accepted;
          no_return = accepted-one-way-in table p accepted;
        }

-- demand 3
pub demand-3 : (table : List ℕ) → Demand3 table
demand-3 table room slice memory p code s e b a =
    let (accepted, same, small, short, fits) = compile-accepts table room p code e in
    let well = (read-well table p (accept-reads table p accepted)).0 in
    realised-faithful table p accepted small code short (place_of (scheme p))
    (subst (λ z. Realises z (scheme p) (place_of (scheme p))) (sym same) (code-realises p well (omega arith) (rw same at short))) slice
    memory s b a
