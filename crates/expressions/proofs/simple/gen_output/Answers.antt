-- `expressions::simple::gen_output` meets its contract. Assumes nothing.
use Rattle.expressions.specs.Simples.{out_into}
use Rattle.expressions.proofs.simple.gen_output.Goals as goal

pub returns : goal.returns
unfolding out_into
returns c ns h =
    simp (
      ← c.value_at-channel.ensures,
      ← c.gen_whole-value.ensures ns.variables h.variables,
      ← c.channel-to.ensures ns.channels h.channels,
      ← c.put_output-here.ensures,
    )
