-- `compiler::compile` meets its contract. Assumes nothing.
use native.Mathlib.Omega.{arith}
use mathlib.Core.Path.{sym, ap, ◌∙◌}
use lib.ListN.{length, take}
use lib.Seq.{length-take-le}
use Rattle.model.specs.Code.{compile}
use Rattle.compiler.proofs.Compiled.{front_fits, front-given, refusal-given}
use Rattle.compiler.proofs.compile.Goals as goal

pub slice_bounds-result-end : goal.slice_bounds-result-end
slice_bounds-result-end c =
    let fits = front_fits _ _ _ (sym c.compile_into.ensures.answer ∙ c.in-Ok.is) in
    sym (length-take-le _ c.compile_into.new.out (omega (arith, fits, c.compile_into.auto.out)))

pub returns-in-Ok : goal.returns-in-Ok
returns-in-Ok c =
    let x = compile c.args.table.now (length c.args.out.now) in
    let g = front-given x c.in-Ok.size c.args.out.now (sym c.compile_into.ensures.answer ∙ c.in-Ok.is) in
    record { given = ap (take c.in-Ok.size) c.compile_into.ensures.buffer ∙ g.0; number = g.1; returned = g.2 }

pub returns-in-Err : goal.returns-in-Err
returns-in-Err c =
    let x = compile c.args.table.now (length c.args.out.now) in
    let g = refusal-given x _ c.args.out.now (sym c.compile_into.ensures.answer ∙ c.in-Err.is) in
    record { given = c.compile_into.ensures.buffer ∙ g.0; number = c.number.ensures ∙ g.1; returned = g.2 }
