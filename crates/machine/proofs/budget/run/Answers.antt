-- `machine::budget::run` meets its contract. Assumes nothing.
use borrow.Author.Rules.{rules}
use native.Mathlib.Omega.{arith}
use mathlib.Core.Path.{◌≡◌, refl, sym, ◌∙◌}
use mathlib.Core.Bool.{true, false}
use Rattle.model.specs.Run.{earlier_clock, run}
use Rattle.model.specs.Answers.{refused_run}
use Rattle.model.proofs.Laws.Refused.{run-refuses}
use Rattle.machine.proofs.Numbers.{with_number, rejoined}
use Rattle.machine.proofs.Answered.{earlier, short-code, short-memory, kept-fault}
use Rattle.machine.proofs.budget.run.Goals as goal

-- Which of the two answers comes first is told by no step's name: an edit that lets them change places fails by what is known there.
pub returns-then-is_earlier : goal.returns-then-is_earlier
returns-then-is_earlier c =
    let w : earlier_clock c.args.machine c.args.clock ≡ true = cc in
    let e = earlier c.args.machine c.args.code.now c.args.memory.now c.args.budget c.args.clock w in
    record {
      answer = rw e (cc);
      machine = rw e (cc);
      memory = rw e refl;
      refusal = with_number refused_run (run-refuses c.args.machine c.args.code.now c.args.memory.now c.args.budget c.args.clock)
          (rw e (cc));
    }

pub returns-then-code-setup : goal.returns-then-code-setup
returns-then-code-setup c =
    let w : earlier_clock c.args.machine c.args.clock ≡ false = cc in
    let e = short-code c.args.machine c.args.code.now c.args.memory.now c.args.budget c.args.clock w (omega arith) in
    record {
      answer = rw e (cc);
      machine = rw e (cc);
      memory = rw e refl;
      refusal = with_number refused_run (run-refuses c.args.machine c.args.code.now c.args.memory.now c.args.budget c.args.clock)
          (rw e (cc));
    }

pub returns-then-memory-size : goal.returns-then-memory-size
returns-then-memory-size c =
    let e = short-memory c.args.machine c.args.code.now c.args.memory.now c.args.budget c.args.clock
    (sym c.is_earlier.ensures ∙ c.if-is_earlier.false) (omega arith) (omega arith) in
    record {
      answer = rw e c.unchanged-then-memory-size.ensures.0;
      machine = rw e c.unchanged-then-memory-size.ensures.1;
      memory = rw e refl;
      refusal = with_number refused_run (run-refuses c.args.machine c.args.code.now c.args.memory.now c.args.budget c.args.clock)
          (rw e c.unchanged-then-memory-size.ensures.0);
    }

pub run_machine-requires : goal.run_machine-requires
run_machine-requires c =
    record {
      sized = (search rules, search rules);
      fault_value = (c.in-None.is, sym c.is_earlier.ensures ∙ c.if-is_earlier.false);
    }

pub returns-in-Some : goal.returns-in-Some
returns-in-Some c =
    let e = kept-fault c.args.machine c.args.code.now c.args.memory.now c.args.budget c.args.clock
    (sym c.is_earlier.ensures ∙ c.if-is_earlier.false) (omega arith) (omega arith) c.in-Some.is in
    record {
      answer = rw e c.unchanged-in-Some.ensures.0;
      machine = rw e c.unchanged-in-Some.ensures.1;
      memory = rw e refl;
      refusal = with_number refused_run (run-refuses c.args.machine c.args.code.now c.args.memory.now c.args.budget c.args.clock)
          (rw e c.unchanged-in-Some.ensures.0);
    }

pub returns-in-None : goal.returns-in-None
returns-in-None c =
    let r = rejoined (λ l. run c.args.machine c.args.code.now l c.args.budget c.args.clock) _ c.args.memory.now _ c.run_machine.ensures in
    record {
      answer = r.answer;
      machine = r.machine;
      memory = r.memory;
      refusal = with_number refused_run (run-refuses c.args.machine c.args.code.now c.args.memory.now c.args.budget c.args.clock) r.answer;
    }
