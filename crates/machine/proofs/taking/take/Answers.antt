-- `machine::taking::take` meets its contract. Assumes nothing.
use native.Mathlib.Omega.{arith}
use mathlib.Core.Path.{refl}
use Rattle.model.specs.Answers.{refused_take}
use Rattle.model.specs.Outside.{take}
use Rattle.model.proofs.Laws.Refused.{take-refuses}
use Rattle.machine.proofs.Numbers.{with_number, rejoined}
use Rattle.machine.proofs.Takes.{take_short, take-kept}
use Rattle.machine.proofs.taking.take.Goals as goal

pub returns-then-memory-size : goal.returns-then-memory-size
returns-then-memory-size c =
    let e = take_short c.args.machine c.args.memory.now c.args.k (omega arith) in
    record {
      answer = rw e c.same.ensures.0;
      machine = rw e c.same.ensures.1;
      memory = rw e refl;
      refusal = with_number refused_take (take-refuses c.args.machine c.args.memory.now c.args.k) (rw e c.same.ensures.0);
    }

pub returns-in-Some : goal.returns-in-Some
returns-in-Some c =
    let e = take-kept c.args.machine c.args.memory.now c.args.k (omega arith) c.in-Some.is in
    record {
      answer = rw e c.same-in-Some.ensures.0;
      machine = rw e c.same-in-Some.ensures.1;
      memory = rw e refl;
      refusal = with_number refused_take (take-refuses c.args.machine c.args.memory.now c.args.k) (rw e c.same-in-Some.ensures.0);
    }

pub returns-in-None : goal.returns-in-None
returns-in-None c =
    let r = rejoined (λ l. take c.args.machine l c.args.k) _ c.args.memory.now _ c.take_machine.ensures in
    record {
      answer = r.answer;
      machine = r.machine;
      memory = r.memory;
      refusal = with_number refused_take (take-refuses c.args.machine c.args.memory.now c.args.k) r.answer;
    }
