-- `channel::receiver::input` meets its contract. Assumes nothing.
use mathlib.Core.Path.{refl, ap}
use mathlib.Core.Bool.{false}
use native.Mathlib.Omega.{arith}
use lib.ListN.{length-set}
use borrow.Author.Tests.{eq-eqb, ne_eqb}
use Rattle.model.specs.Execute.{input_message, input_word}
use Rattle.processor.specs.Quiet.{quiet}
use Rattle.processor.proofs.Talking.{takes_none}
use Rattle.channel.proofs.Handing.{took, took-not}
use Rattle.processor.proofs.Laws.{fault-passed}
use Rattle.channel.proofs.receiver.input.Goals as goal

pub returns-then-cpu-ne-WORD_BYTES : goal.returns-then-cpu-ne-WORD_BYTES
unfolding input_message
returns-then-cpu-ne-WORD_BYTES c = record {
  said = λ x. rw (ne_eqb _ _ c.if-cpu-ne-WORD_BYTES.true);
  keeps = refl;
  keeps_held = refl;
  long = refl;
}

pub returns-in_default : goal.returns-in_default
unfolding input_message input_word
returns-in_default c =
    let t = takes_none c.args.offers.now c.args.held.now (c.input_inside.ensures c.args.setup c.requires.sized.1 refl) in
    record {
      said = λ x. rw (eq-eqb _ _ c.if-cpu-ne-WORD_BYTES.false, c.in_default.ensures) (t.said x);
      keeps = t.keeps;
      keeps_held = t.keeps_held;
      long = t.long;
    }

pub returns : goal.returns
unfolding input_message input_word
returns c =
    let o = c.in-Some.ensures in
    record {
      said = λ x.
          rw (eq-eqb _ _ c.if-cpu-ne-WORD_BYTES.false, o.0, ← o.1)
          (took _ _ _ _ _ c.requires.sized.1
          (c.swap.ensures.held, c.swap.ensures.holds) _ c.in_ok-swap.was c.requires.sized.0 (omega arith) _);
      keeps = tt;
      keeps_held = tt;
      long = length-set c.args.held.now c.in-Some.k false;
    }

pub returns-in_err-swap : goal.returns-in_err-swap
unfolding input_message input_word
returns-in_err-swap c =
    let o = c.in-Some.ensures in
    rw (fault-passed c.from_residual.result c.from_residual.ensures.1)
    (record {
      said = λ x.
          rw (eq-eqb _ _ c.if-cpu-ne-WORD_BYTES.false, o.0, ← o.1)
          (ap quiet (took-not _ _ _ _ _ c.requires.sized.1 (c.swap.ensures.held, c.swap.ensures.holds) _ c.in_err-swap.was _));
      keeps = rw c.in_err-swap.was at c.swap.ensures.holds;
      keeps_held = refl;
      long = refl;
    })
