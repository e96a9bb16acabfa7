-- `assembler::write` meets its contract. The loop's invariant: the bytes of all entries are those of the entries that are left, from here
-- on. Assumes nothing.
use Prim.Native.Nat.{suc, ◌+◌, ◌-◌, ◌<◌}
use native.Mathlib.Omega.{arith}
use native.Mathlib.Nat.{sub-zero}
use mathlib.Core.Path.{◌≡◌, sym, ◌∙◌}
use lib.ListN.{length}
use Rattle.std.proofs.lemmas.List.{get_or-take, length-take-le}
use Rattle.assembler.specs.Entries.{blank}
use Rattle.assembler.specs.Places.{wrote}
use Rattle.assembler.proofs.Assembled.{bytes-are}
use Rattle.assembler.proofs.write.Goals as goal

pub loop-i-init : goal.loop-i-init
loop-i-init c = simp sub-zero

pub loop-i-preserved : goal.loop-i-preserved
unfolding wrote
loop-i-preserved c =
    let l = length-take-le c.min-most.result c.args.list.now (omega arith) in
    let inside : c.loop-i.i < c.min-most.result = omega arith in
    let e : c.min-most.result - c.loop-i.i ≡ suc (c.min-most.result - (c.loop-i.i + 1)) = omega arith in
    let here = get_or-take c.min-most.result c.args.list.now c.loop-i.i blank inside in
    rw (
      e,
      wrote,
      ← rw here at c.operand-operand.ensures,
      ← rw here at c.prefixes.ensures.said,
      ← rw here at c.function.ensures,
      ← c.put_instruction.ensures,
    )
    at c.loop-i.invariant

pub returns : goal.returns
unfolding wrote
returns c =
    let l = length-take-le c.min-most.result c.args.list.now (omega arith) in
    let e : c.min-most.result - c.loop-i.i ≡ 0 = omega arith in
    let bytes = rw (e, c.min-most.ensures) at (sym c.loop-i.invariant) in
    record {
      made = bytes;
      bytes = λ xs h at. bytes ∙ bytes-are xs (length c.args.list.now) c.args.list.now h c.args.places.now c.args.out.now at;
    }
