-- `processor::process::land_at` meets its contract. Assumes nothing.
use native.Mathlib.Omega.{arith}
use borrow.Author.Tests.{le-leb, lt-leb}
use Rattle.model.specs.Machine.{test_place}
use Rattle.processor.proofs.Laws.{like, faulty}
use Rattle.processor.proofs.process.land_at.Goals as goal

pub returns-then-code-to : goal.returns-then-code-to
unfolding test_place
returns-then-code-to c u h l = faulty (λ x. rw (lt-leb c.args.to u.code (omega arith)))

pub returns : goal.returns
unfolding test_place
returns c u h l = like (c.land.ensures u h l) (λ x. rw (le-leb c.args.to u.code (omega arith)))
