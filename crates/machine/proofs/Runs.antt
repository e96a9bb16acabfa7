-- Laws of runs.
use Prim.Native.Nat.{ℕ, suc, ◌-◌, ◌<◌}
use native.Mathlib.Omega.{arith}
use mathlib.Core.Path.{◌≡◌, refl, ap, ◌∙◌}
use mathlib.Core.Bool.{Bool, true, false, not, ◌&&◌}
use mathlib.Core.List.{List, []}
use lib.Dec.{eqb}
use borrow.Author.Tests.{eq-eqb, ne_eqb}
use Rattle.std.specs.Prelude.{Ok, Err, ◌++◌}
use Rattle.model.specs.Machine.{Talk, Result, done, faults}
use Rattle.model.specs.Run.{byte}
use Rattle.model.specs.declared.Cpu.{Cpu}
use Rattle.model.specs.declared.Setup.{Setup}
use Rattle.model.specs.declared.Machine.{Machine}
use Rattle.model.specs.declared.FaultKind.{FaultKind}
use Rattle.model.specs.declared.Outcome.TheVariants.{Ended, Waiting, Spent, Fault as RunFault}
use Rattle.processor.specs.Seen.{Rest, whole, world}
use Rattle.processor.specs.Quiet.{quiet, offering, timing, Acts}
use Rattle.model.proofs.Laws.RunSteps.{run-waits, run_ends, run-spent, run_on, run-faults}
use Rattle.machine.specs.Runs.{saying, Reaches, Finishes}

-- what a result says of the machine and the memory, beside communications
abbrev machine_in : Machine → Result (Unit {0}) → Machine
machine_in m (done n s) = s.machine
machine_in m (faults k) = m

abbrev memory_in : List ℕ → Result (Unit {0}) → List ℕ
memory_in l (done n s) = s.memory
memory_in l (faults k) = l

-- a result is known but for its communications
pub heard :
    (s : Result (Unit {0})) (y : Rest) (u : Setup) (r : Cpu) (m : List ℕ) → quiet s ≡ quiet (done tt (whole y u r m))
    → (t : List Talk) × (s ≡ done tt (whole (saying t y) u r m))
heard (done n s) y u r m e =
    let f : s.machine ≡ (whole y u r m).machine = ap (machine_in s.machine) e in
    let g : s.memory ≡ m = ap (memory_in m) e in
    let h : Machine → List ℕ → Result (Unit {0}) = λ k a. done tt (record { machine = k; memory = a; talk = s.talk }) in
    (s.talk, ap (λ k. h k s.memory) f ∙ ap (h (whole y u r m).machine) g)
heard (faults k) y u r m e = ([], cc)

-- a fault is known
pub heard-fault : (s : Result (Unit {0})) (k : FaultKind) → quiet s ≡ faults k → s ≡ faults k
heard-fault (done n s) k e = cc
heard-fault (faults j) k e = e

-- what is told by its negation
pub of-not : (b c : Bool) → not b ≡ c → b ≡ not c
of-not true true e = cc
of-not true false e = refl
of-not false true e = refl
of-not false false e = cc

-- before any byte
pub reaches-start :
    (u : Setup) (code : List ℕ) (budget : ℕ) (o : List ℕ) (r : Cpu) (b : List Bool) (k f : ℕ) (l : List ℕ)
    → Reaches u code budget o r b k f l 0 r b f l
reaches-start u code budget o r b k f l =
    let z : budget - 0 ≡ budget = omega arith in
    record { goes = λ x. (x.talk, rw z) }

module _ {u : Setup} {code : List ℕ} {budget : ℕ} {o : List ℕ} {r : Cpu} {b : List Bool} {clock from : ℕ} {l : List ℕ} {n : ℕ} {q : Cpu}
    {d : List Bool} {at : ℕ} {m : List ℕ} (g : Reaches u code budget o r b clock from l n q d at m) where
  -- no process has the processor
  pub finishes-waiting :
      not q.running ≡ true → Finishes u code budget o r b clock from l (record { cpu = q; front = at; held = d; outcome = Waiting n }) m
  finishes-waiting e =
      record {
        ends = λ x.
            let t = g.goes x in
            let s = world (saying t.0 (offering o d (timing clock at x))) u q m in
            (t.0, t.1 ∙ run-waits code n s (budget - n) (of-not q.running true e));
      }

  module _ (f : not q.running ≡ false) where
    -- a process has the processor
    e : q.running ≡ true
    e = of-not q.running false f

    -- the process stands at the code's end
    pub finishes-ended :
        q.place ≡ u.code → Finishes u code budget o r b clock from l (record { cpu = q; front = at; held = d; outcome = Ended n }) m
    finishes-ended p =
        let h = ap (λ t. t && eqb q.place u.code) e ∙ eq-eqb _ _ p in
        record {
          ends = λ x.
              let t = g.goes x in
              (t.0, t.1 ∙ run_ends code n (world (saying t.0 (offering o d (timing clock at x))) u q m) (budget - n) h);
        }

    module _ (p : q.place ≡ u.code → ⊥) where
      -- it does not stand there
      goes_on_lem : q.running && eqb q.place u.code ≡ false
      goes_on_lem = ap (λ t. t && eqb q.place u.code) e ∙ ne_eqb _ _ p

      -- the budget is spent
      pub finishes-spent : n ≡ budget
          → Finishes u code budget o r b clock from l (record { cpu = q; front = at; held = d; outcome = Spent n }) m
      finishes-spent h =
          let z : budget - n ≡ 0 = omega arith in
          record {
            ends = λ x.
                let t = g.goes x in
                (t.0, t.1 ∙ rw z (run-spent code n (world (saying t.0 (offering o d (timing clock at x))) u q m) goes_on_lem f));
          }

      module _ (h : n < budget) {c : List Bool} {to : ℕ} {k : List ℕ} where
        -- a byte is done
        pub reaches-on :
            {i : Cpu} → Acts u (byte code) q o d clock at m (Ok i) c to k → Reaches u code budget o r b clock from l (suc n) i c to k
        reaches-on {i} w =
            let z : budget - n ≡ suc (budget - suc n) = omega arith in
            record {
              goes = λ x.
                  let t = g.goes x in
                  let s = world (saying t.0 (offering o d (timing clock at x))) u q m in
                  let v = heard (byte code s) (saying t.0 (offering o c (timing clock to x))) u i (k ++ x.behind) (w.said (saying t.0 x)) in
                  (v.0, t.1 ∙ rw z (run_on code n s goes_on_lem f (budget - suc n) _ v.1));
            }

        -- a byte would fault
        pub finishes-fault :
            {j : FaultKind} → Acts u (byte code) q o d clock at m (Err j) c to k
            → Finishes u code budget o r b clock from l (record { cpu = q; front = to; held = c; outcome = RunFault n j }) k
        finishes-fault {j} w =
            let z : budget - n ≡ suc (budget - suc n) = omega arith in
            rw (w.keeps, w.keeps_held, w.keeps_front)
            (record {
              ends = λ x.
                  let t = g.goes x in
                  let s = world (saying t.0 (offering o d (timing clock at x))) u q m in
                  let v = heard-fault (byte code s) j (w.said (saying t.0 x)) in
                  (t.0, t.1 ∙ rw z (run-faults code n s goes_on_lem f (budget - suc n) j v));
            })
