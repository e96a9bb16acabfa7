-- How a run goes, case by case: it ended, it waits, its budget is spent, or a byte is done or would fault.
use Prim.Native.Nat.{ℕ, zero, suc}
use mathlib.Core.Path.{◌≡◌, ap}
use mathlib.Core.Bool.{true, false, not, ◌&&◌}
use mathlib.Core.List.{List}
use lib.Dec.{eqb}
use Rattle.model.specs.Machine.{World, done, faults}
use Rattle.model.specs.Run.{byte, ended, waits, keep, run_from}
use Rattle.model.specs.declared.FaultKind.{FaultKind}
use Rattle.model.specs.declared.Outcome.TheVariants.{Ended, Waiting, Spent, Fault as RunFault}

module _ (code : List ℕ) (n : ℕ) (s : World) where
  -- no process has the processor
  pub run-waits : (k : ℕ) → s.machine.cpu.running ≡ false → run_from k code n s ≡ record { outcome = Waiting n; world = s }
  unfolding run_from
  run-waits zero h =
      let e : ended s.machine ≡ false = ap (λ b. b && eqb s.machine.cpu.place s.machine.setup.code) h in
      let w : waits s.machine ≡ true = ap not h in rw (e, w)
  run-waits (suc k) h =
      let e : ended s.machine ≡ false = ap (λ b. b && eqb s.machine.cpu.place s.machine.setup.code) h in
      let w : waits s.machine ≡ true = ap not h in rw (e, w)

  -- the process stands at the code's end
  pub run_ends : (k : ℕ) → ended s.machine ≡ true → run_from k code n s ≡ record { outcome = Ended n; world = s }
  unfolding run_from
  run_ends zero e = rw e
  run_ends (suc k) e = rw e

  module _ (e : ended s.machine ≡ false) (w : waits s.machine ≡ false) where
    -- the budget is spent
    pub run-spent : run_from zero code n s ≡ record { outcome = Spent n; world = s }
    unfolding run_from
    run-spent = rw (e, w)

    -- a byte is done
    pub run_on : (k : ℕ) (t : World) → byte code s ≡ done tt t → run_from (suc k) code n s ≡ run_from k code (suc n) t
    unfolding run_from
    run_on k t d = rw (e, w, d)

    -- a byte would fault
    pub run-faults : (k : ℕ) (j : FaultKind) → byte code s ≡ faults j
        → run_from (suc k) code n s ≡ record { outcome = RunFault n j; world = keep j s }
    unfolding run_from
    run-faults k j d = rw (e, w, d)
