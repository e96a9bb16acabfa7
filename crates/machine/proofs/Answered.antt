-- Laws of a run's answer.
use Prim.Native.Nat.{ℕ, ◌≤◌, ◌<◌}
use mathlib.Core.Path.{◌≡◌, refl, ap, sym, ◌∙◌}
use mathlib.Core.Bool.{true, false}
use mathlib.Core.List.{List}
use lib.ListN.{length}
use borrow.Author.Tests.{lt-ltb, le-ltb}
use native.Mathlib.Omega.{arith}
use Rattle.std.proofs.lemmas.List.{length-append}
use Rattle.std.specs.Prelude.{◌++◌}
use Rattle.std.specs.Prelude.{Ok, Err}
use Rattle.model.specs.Machine.{World, memory_size, machine_with}
use Rattle.model.specs.Run.{run_from, finished, earlier_clock, run, unchanged}
use Rattle.model.specs.declared.Machine.{Machine}
use Rattle.std.specs.Prelude.{Err, None, Ok, Some}
use Rattle.model.specs.declared.RunRefusal.TheVariants.{EarlierClock, Short}
use Rattle.model.specs.declared.FaultKind.{FaultKind}
use Rattle.model.specs.declared.Outcome.{Outcome}
use Rattle.model.specs.declared.Outcome.TheVariants.{Ended, Waiting, Spent, Fault}
use Rattle.model.specs.Answers.{RunAnswer}
use Rattle.model.proofs.Laws.Runs.{Goes, run-goes, run-stays}
use Rattle.waking.specs.Wakes.{Begins, begun as begun_rest}
use Rattle.waking.specs.declared.wake.Awake.{Awake}
use Rattle.machine.specs.Runs.{keeping, kept_after, rest_of, awake_in, Finishes, Answers}
use Rattle.machine.specs.declared.budget.Finished.{Finished}

-- the machine after an outcome, if it kept no fault before
after-machine :
    (z : Outcome) (s : World) → s.machine.fault ≡ None
    → (keeping z s).machine
    ≡ record {
      cpu = s.machine.cpu;
      setup = s.machine.setup;
      timer = s.machine.timer;
      offers = s.machine.offers;
      held = s.machine.held;
      fault = kept_after z;
    }
after-machine (Ended n) s e = rw (← e)
after-machine (Waiting n) s e = rw (← e)
after-machine (Spent n) s e = rw (← e)
after-machine (Fault n k) s e = refl

-- an outcome changes no memory
after-memory : (z : Outcome) (s : World) → (keeping z s).memory ≡ s.memory
after-memory (Ended n) s = refl
after-memory (Waiting n) s = refl
after-memory (Spent n) s = refl
after-memory (Fault n k) s = refl

module _ (m : Machine) (code memory : List ℕ) (budget c : ℕ) where
  -- the last clock given is after this one
  pub earlier : earlier_clock m c ≡ true → run m code memory budget c ≡ unchanged (Err EarlierClock) m memory
  unfolding run
  earlier h = rw h

  module _ (w : earlier_clock m c ≡ false) where
    -- the code is too short
    pub short-code : length code < m.setup.code → run m code memory budget c ≡ unchanged (Err (Short m.setup.code)) m memory
    unfolding run
    short-code h = rw (w, lt-ltb _ _ h)

    module _ (h : m.setup.code ≤ length code) where
      -- the memory is too short
      pub short-memory :
          length memory < memory_size m.setup → run m code memory budget c ≡ unchanged (Err (Short (memory_size m.setup))) m memory
      unfolding run
      short-memory g = rw (w, le-ltb _ _ h, lt-ltb _ _ g)

      module _ (g : memory_size m.setup ≤ length memory) where
        -- a kept fault
        pub kept-fault : {k : FaultKind} → m.fault ≡ Some k → run m code memory budget c ≡ unchanged (Ok (Fault 0 k)) m memory
        unfolding run
        kept-fault e = rw (w, le-ltb _ _ h, le-ltb _ _ g, e)

module _ (m : Machine) (code words behind : List ℕ) (budget c : ℕ) (w : earlier_clock m c ≡ false) (h : m.setup.code ≤ length code)
    (g : memory_size m.setup ≡ length words) (e : m.fault ≡ None) where
  abbrev memory : List ℕ
  memory = words ++ behind

  long : memory_size m.setup ≤ length memory
  long = rw (length-append words behind) (omega (arith, g))

  -- the run cannot begin
  pub not-begun :
      {k : FaultKind} {l : List ℕ}
      → Begins m.setup.code c m.timer.front m.cpu words (Err k) l
      → Answers (run m code memory budget c) (Ok (Fault 0 k)) (machine_with m.cpu m.offers m.held (Some k) m) (l ++ behind)
  not-begun b =
      rw (run-stays m code memory c w (le-ltb _ _ h) (le-ltb _ _ long) e (b.said m.setup g refl (rest_of m behind)) budget)
      (record { answer = refl; machine = refl; memory = ap (λ q. q ++ behind) b.kept })

  -- it has begun, and its bytes follow
  pub begun :
      {a : Awake} {l n : List ℕ} {z : RunAnswer} {m' : Machine}
      → Begins m.setup.code c m.timer.front m.cpu words (Ok a) l
      → Answers (finished (run_from budget code 0 (awake_in m c a (l ++ behind)))) z m' n → Answers (run m code memory budget c) z m' n
  begun {a} {l} b f =
      let goes : Goes m code memory c = record {
        not_earlier = w;
        code-long = le-ltb _ _ h;
        memory-long = le-ltb _ _ long;
        no-fault = e;
        begun = awake_in m c a (l ++ behind);
        begins = b.said m.setup g refl (rest_of m behind);
      } in
      rw (run-goes goes budget) f

-- the bytes of a run that has begun
pub ran :
    (m : Machine) (code words behind : List ℕ) (budget c : ℕ) {a : Awake} {f : Finished} {l : List ℕ} → m.fault ≡ None
    → Finishes m.setup code budget m.offers a.cpu m.held c a.front words f l
    → Answers (finished (run_from budget code 0 (awake_in m c a (words ++ behind))))
    (Ok f.outcome)
    (record {
      cpu = f.cpu;
      setup = m.setup;
      timer = record { clock = c; given = true; front = f.front };
      offers = m.offers;
      held = f.held;
      fault = kept_after f.outcome;
    })
    (l ++ behind)
ran m code words behind budget c {a} {f} e w =
    let t = w.ends (begun_rest c a.front (rest_of m behind)) in
    record {
      answer = ap (λ v. Ok v.outcome) (sym t.1);
      machine = sym (ap (λ v. v.world.machine) t.1 ∙ after-machine f.outcome _ e);
      memory = sym (ap (λ v. v.world.memory) t.1 ∙ after-memory f.outcome _);
    }
