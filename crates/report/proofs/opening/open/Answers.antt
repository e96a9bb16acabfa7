-- `report::opening::open` meets its contract. Assumes nothing.
use native.Mathlib.Omega.{arith}
use mathlib.Core.Path.{sym, ap, ◌∙◌}
use mathlib.Core.List.{◌++◌}
use lib.ListN.{take, drop}
use lib.Seq.{length-take-le}
use Rattle.model.specs.Limits.{code_limit}
use Rattle.model.specs.Code.{compile}
use Rattle.report.proofs.Starts.{told, open-short, open-small, opens-coded, opens-refused, size_fits}
use Rattle.report.proofs.opening.open.Goals as goal

pub returns-then-code-lt-CODE : goal.returns-then-code-lt-CODE
returns-then-code-lt-CODE c =
    let o = open-short c.args.table.now c.args.code.now c.args.memory.now c.if-code-lt-CODE.true in
    record { opens = rw (c.refusing.ensures, c.at.ensures) o; text = λ h k. absurd (omega (arith, c.if-code-lt-CODE.true)) }

pub returns-then-memory-lt-MEMORY : goal.returns-then-memory-lt-MEMORY
returns-then-memory-lt-MEMORY c =
    let o = open-small c.args.table.now c.args.code.now c.args.memory.now c.if-code-lt-CODE.false c.if-memory-lt-MEMORY.true in
    record {
      opens = rw (c.refusing-then-memory-lt-MEMORY.ensures, c.at-then-memory-lt-MEMORY.ensures) o;
      text = λ h k. absurd (omega (arith, c.if-memory-lt-MEMORY.true));
    }

pub slice_bounds-compile_into-end-2 : goal.slice_bounds-compile_into-end-2
slice_bounds-compile_into-end-2 c =
    sym (length-take-le code_limit c.args.code.now c.if-code-lt-CODE.false)

pub load-requires : goal.load-requires
load-requires c =
    let t = length-take-le code_limit c.args.code.now c.if-code-lt-CODE.false in
    let q = sym c.compile_into.ensures.answer ∙ c.in-Ok.is in
    let d = ap (λ l. l ++ drop code_limit c.args.code.now) (rw t at c.compile_into.ensures.buffer) in
    let s = rw t at q in
    record {
      size_in_bounds = (
        size_fits (take code_limit c.args.code.now) (drop code_limit c.args.code.now)
            (compile c.args.table.now code_limit) s d,
        c.if-memory-lt-MEMORY.false,
      );
      code_limit_value = s;
    }

pub returns-in-Ok : goal.returns-in-Ok
returns-in-Ok c =
    let t = length-take-le code_limit c.args.code.now c.if-code-lt-CODE.false in
    let q = sym c.compile_into.ensures.answer ∙ c.in-Ok.is in
    let o = opens-coded c.args.table.now c.args.code.now c.args.memory.now c.if-code-lt-CODE.false c.if-memory-lt-MEMORY.false (rw t at q)
    (ap (λ l. l ++ drop code_limit c.args.code.now) (rw t at c.compile_into.ensures.buffer)) c.load.ensures in
    record { opens = o; text = λ h k. told _ _ _ h k o }

pub returns-in-Err : goal.returns-in-Err
returns-in-Err c =
    let t = length-take-le code_limit c.args.code.now c.if-code-lt-CODE.false in
    let q = sym c.compile_into.ensures.answer ∙ c.in-Err.is in
    let o = opens-refused c.args.table.now c.args.code.now c.args.memory.now c.if-code-lt-CODE.false c.if-memory-lt-MEMORY.false (rw t at q)
    (ap (λ l. l ++ drop code_limit c.args.code.now) (rw t at c.compile_into.ensures.buffer)) in
    record { opens = rw c.refusing-in-Err.ensures o; text = λ h k. rw c.refusing-in-Err.ensures (told _ _ _ h k o) }
