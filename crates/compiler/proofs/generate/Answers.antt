-- `compiler::generate` meets its contract. Assumes nothing.
use Rattle.compiler.proofs.generate.Goals as goal

pub returns : goal.returns
returns c = c.generate.ensures c.make_plan.ensures
