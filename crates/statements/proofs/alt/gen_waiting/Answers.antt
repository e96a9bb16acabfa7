-- `statements::alt::gen_waiting` meets its contract. Assumes nothing.
use Rattle.statements.specs.Alts.{waiting_into}
use Rattle.statements.proofs.alt.gen_waiting.Goals as goal

pub returns : goal.returns
unfolding waiting_into
returns c ns h =
    rw (
      ← c.gen_whole-test.ensures ns.variables h.variables,
      ← c.value_at-name.ensures,
      ← c.channel-word.ensures ns.channels h.channels,
      ← c.plain-second.ensures,
      ← c.operation.ensures,
    )
