-- `instruction::put_instruction` meets its contract. Assumes nothing.
use Prim.Native.Nat.{◌+◌, ◌*◌, ◌/◌, ◌%◌}
use Rattle.model.specs.Prefix.{shifted}
use Rattle.instruction.specs.Coded.{coded}
use Rattle.instruction.proofs.Prefixes.{stored-before}
use Rattle.instruction.proofs.put_instruction.Goals as goal

pub returns : goal.returns
unfolding coded
returns c =
    simp (c.put_prefixes.ensures, c.shift.ensures, c.put.ensures, c.digit.ensures.0)
    (stored-before c.args.out.now c.args.here c.args.count (shifted c.args.operand) (c.args.function / 16 * 16 + c.args.operand % 16))
