-- `machine::outside::offer` meets its contract. Assumes nothing.
use native.Mathlib.Omega.{arith}
use mathlib.Core.Path.{refl}
use Rattle.model.specs.Answers.{refused_offer}
use Rattle.model.specs.Outside.{offer}
use Rattle.model.proofs.Laws.Refused.{offer-refuses}
use Rattle.machine.proofs.Numbers.{with_number, rejoined}
use Rattle.machine.proofs.Offers.{offer-short, offer-kept}
use Rattle.machine.proofs.outside.offer.Goals as goal

pub returns-then-memory-size : goal.returns-then-memory-size
returns-then-memory-size c =
    let e = offer-short c.args.machine c.args.memory.now c.args.k c.args.value (omega arith) in
    record {
      answer = rw e c.unchanged.ensures.0;
      machine = rw e c.unchanged.ensures.1;
      memory = rw e refl;
      refusal = with_number refused_offer (offer-refuses c.args.machine c.args.memory.now c.args.k c.args.value)
          (rw e c.unchanged.ensures.0);
    }

pub returns-in-Some : goal.returns-in-Some
returns-in-Some c =
    let e = offer-kept c.args.machine c.args.memory.now c.args.k c.args.value (omega arith) c.in-Some.is in
    record {
      answer = rw e c.unchanged-in-Some.ensures.0;
      machine = rw e c.unchanged-in-Some.ensures.1;
      memory = rw e refl;
      refusal = with_number refused_offer (offer-refuses c.args.machine c.args.memory.now c.args.k c.args.value)
          (rw e c.unchanged-in-Some.ensures.0);
    }

pub returns-in-None : goal.returns-in-None
returns-in-None c =
    let r = rejoined (λ l. offer c.args.machine l c.args.k c.args.value) _ c.args.memory.now _ c.offer_machine.ensures in
    record {
      answer = r.answer;
      machine = r.machine;
      memory = r.memory;
      refusal = with_number refused_offer (offer-refuses c.args.machine c.args.memory.now c.args.k c.args.value) r.answer;
    }
