-- `compiler::assemble` meets its contract. Assumes nothing.
use borrow.Author.Tests.{le-leb, lt-leb}
use mathlib.Core.Path.{refl, ap, ◌∙◌}
use Rattle.model.specs.Limits.{code_limit}
use Rattle.model.specs.Code.{bytes_in}
use Rattle.std.specs.Prelude.{Ok, Err}
use Rattle.model.specs.Answers.{refused_for}
use Rattle.model.specs.declared.Reason.TheVariants.{Short}
use Rattle.compiler.proofs.assemble.Goals as goal

pub returns-then-size-gt-CODE : goal.returns-then-size-gt-CODE
returns-then-size-gt-CODE c xs h =
    let e = c.place-size.ensures.size xs h in
    rw (lt-leb (bytes_in xs) code_limit (rw e at c.if-size-gt-CODE.true)) (ap Err c.at.ensures, refl)

pub returns-then-out-size : goal.returns-then-out-size
returns-then-out-size c xs h =
    let e = c.place-size.ensures.size xs h in
    rw (
      le-leb (bytes_in xs) code_limit (rw e at c.if-size-gt-CODE.false),
      lt-leb (bytes_in xs) _ (rw e at c.if-out-size.true),
    ) (ap Err c.at-then-out-size.ensures ∙ ap (λ n. Err (refused_for Short n)) e, refl)

pub returns : goal.returns
returns c xs h =
    let e = c.place-size.ensures.size xs h in
    rw (le-leb (bytes_in xs) code_limit (rw e at c.if-size-gt-CODE.false), le-leb (bytes_in xs) _ (rw e at c.if-out-size.false))
    (ap Ok e, c.write.ensures.bytes xs h (c.place-size.ensures.places xs h))
