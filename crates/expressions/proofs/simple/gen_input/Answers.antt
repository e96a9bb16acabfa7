-- `expressions::simple::gen_input` meets its contract. Assumes nothing.
use Rattle.expressions.specs.Simples.{in_into}
use Rattle.expressions.proofs.simple.gen_input.Goals as goal

pub returns : goal.returns
unfolding in_into
returns c ns h =
    simp (
      ← c.value_at-channel.ensures,
      ← c.value_at-variable.ensures,
      ← c.channel-from.ensures ns.channels h.channels,
      ← c.variable-to.ensures ns.variables h.variables,
      ← c.put_input-here.ensures,
    )
