-- `machine::begin::start` meets its contract. Assumes nothing.
use Rattle.std.proofs.lemmas.List.{length-take-le}
use Prim.Native.Nat.{◌+◌, ◌<◌, ◌≤◌}
use native.Mathlib.Omega.{arith}
use mathlib.Core.Path.{refl}
use mathlib.Core.Logic.{⊎_elim}
use lib.ListN.{length}
use Rattle.model.specs.Limits.{word_limit, code_limit, channel_limit, slice_limit}
use Rattle.model.specs.Answers.{refused_start}
use Rattle.model.proofs.Laws.Refused.{start-refuses}
use Rattle.machine.proofs.Numbers.{with_number}
use Rattle.machine.proofs.Refusals.{bad-slice, bad-count, too_large, short, starts}
use Rattle.machine.proofs.begin.start.Goals as goal

pub returns-then-slice-eq0 : goal.returns-then-slice-eq0
returns-then-slice-eq0 c =
    let h : 1 ≤ c.args.slice → c.args.slice ≤ slice_limit → ⊥ =
    λ p q. ⊎_elim (λ t. omega arith) (λ t. omega arith) c.then-slice-eq0.either in
    let e = bad-slice c.args.code.now c.args.memory.now c.args.w c.args.inputs c.args.outputs c.args.slice h in
    record {
      answer = rw e c.refused.ensures.0;
      machine = rw e c.refused.ensures.1;
      memory = rw e refl;
      refusal = with_number refused_start (start-refuses c.args.code.now c.args.memory.now c.args.w c.args.inputs c.args.outputs
          c.args.slice) (rw e c.refused.ensures.0);
    }

pub returns-then-inputs-gt-START_CHANNELS : goal.returns-then-inputs-gt-START_CHANNELS
returns-then-inputs-gt-START_CHANNELS c =
    let q : c.args.slice ≤ slice_limit = omega arith in
    let h : c.args.inputs ≤ channel_limit → c.args.outputs ≤ channel_limit → ⊥ =
    λ p q. ⊎_elim (λ t. omega arith) (λ t. omega arith) c.then-inputs-gt-START_CHANNELS.either in
    let e = bad-count c.args.code.now c.args.memory.now c.args.w c.args.inputs c.args.outputs c.args.slice (omega arith) q h in
    record {
      answer = rw e c.refused-then-inputs-gt-START_CHANNELS.ensures.0;
      machine = rw e c.refused-then-inputs-gt-START_CHANNELS.ensures.1;
      memory = rw e refl;
      refusal = with_number refused_start (start-refuses c.args.code.now c.args.memory.now c.args.w c.args.inputs c.args.outputs
          c.args.slice) (rw e c.refused-then-inputs-gt-START_CHANNELS.ensures.0);
    }

pub returns-then-size-gt-WIDE_WORDS : goal.returns-then-size-gt-WIDE_WORDS
returns-then-size-gt-WIDE_WORDS c =
    let n = c.args.w + c.args.inputs + c.args.outputs in
    let q : c.args.slice ≤ slice_limit = omega arith in
    let o : c.args.outputs ≤ channel_limit = omega arith in
    let h : n ≤ word_limit → length c.args.code.now ≤ code_limit → ⊥ = λ p q. ⊎_elim (λ t. omega arith)
    (λ t. omega arith) c.then-size-gt-WIDE_WORDS.either in
    let e = too_large c.args.code.now c.args.memory.now c.args.w c.args.inputs c.args.outputs c.args.slice (omega arith) q
    (omega arith) o h in
    record {
      answer = rw e c.refused-then-size-gt-WIDE_WORDS.ensures.0;
      machine = rw e c.refused-then-size-gt-WIDE_WORDS.ensures.1;
      memory = rw e refl;
      refusal = with_number refused_start (start-refuses c.args.code.now c.args.memory.now c.args.w c.args.inputs c.args.outputs
          c.args.slice) (rw e c.refused-then-size-gt-WIDE_WORDS.ensures.0);
    }

pub returns-then-memory-size : goal.returns-then-memory-size
returns-then-memory-size c =
    let q : c.args.slice ≤ slice_limit = omega arith in
    let o : c.args.outputs ≤ channel_limit = omega arith in
    let b : length c.args.code.now ≤ code_limit = omega arith in
    let m : length c.args.memory.now < c.args.w + c.args.inputs + c.args.outputs = omega arith in
    let e = short c.args.code.now c.args.memory.now c.args.w c.args.inputs c.args.outputs c.args.slice (omega arith) q (omega arith) o
    (omega arith) b m in
    record {
      answer = rw e c.refused-then-memory-size.ensures.0;
      machine = rw e c.refused-then-memory-size.ensures.1;
      memory = rw e refl;
      refusal = with_number refused_start (start-refuses c.args.code.now c.args.memory.now c.args.w c.args.inputs c.args.outputs
          c.args.slice) (rw e c.refused-then-memory-size.ensures.0);
    }

pub overflow_cast-code : goal.overflow_cast-code
overflow_cast-code c = omega arith

pub returns : goal.returns
returns c =
    let q : c.args.slice ≤ slice_limit = omega arith in
    let o : c.args.outputs ≤ channel_limit = omega arith in
    let b : length c.args.code.now ≤ code_limit = omega arith in
    let m : c.args.w + c.args.inputs + c.args.outputs ≤ length c.args.memory.now = omega arith in
    let e = starts c.args.code.now c.args.memory.now c.args.w c.args.inputs c.args.outputs c.args.slice (omega arith) q (omega arith) o
    (omega arith) b m in
    record {
      answer = rw e c.started.ensures.0;
      machine = rw e c.started.ensures.1;
      memory = rw (e, c.clear.ensures, length-take-le _ c.args.memory.now m);
      refusal = with_number refused_start (start-refuses c.args.code.now c.args.memory.now c.args.w c.args.inputs c.args.outputs
          c.args.slice) (rw e c.started.ensures.0);
    }
