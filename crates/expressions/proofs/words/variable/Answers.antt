-- `expressions::words::variable` meets its contract. Assumes nothing.
use Rattle.expressions.specs.Names.{local_of}
use Rattle.expressions.proofs.words.variable.Goals as goal

pub returns : goal.returns
unfolding local_of
returns c vs h = simp (← c.word_of.ensures vs h) c.less.ensures
