-- `assembler::place` meets its contract. The loop's invariant: the size and the places of all entries are those of the entries that are
-- left, from here on, and there is a place more than entries. Assumes nothing.
use Prim.Native.Nat.{suc, ◌+◌, ◌-◌, ◌<◌}
use native.Mathlib.Omega.{arith}
use native.Mathlib.Nat.{sub-zero}
use mathlib.Core.Path.{◌≡◌, ap, sym, ◌∙◌}
use lib.ListN.{length, length-set}
use Rattle.std.proofs.lemmas.List.{get_or-take, length-take-le}
use Rattle.assembler.specs.Entries.{blank}
use Rattle.assembler.specs.Places.{sized, placed}
use Rattle.assembler.proofs.Assembled.{size_is, places-are}
use Rattle.assembler.proofs.place.Goals as goal

pub loop-i-init : goal.loop-i-init
loop-i-init c = (simp sub-zero, simp sub-zero, c.told-places)

pub loop-i-preserved : goal.loop-i-preserved
unfolding sized placed
loop-i-preserved c =
    let l = length-take-le c.min-most.result c.args.list.now (omega arith) in
    let inside : c.loop-i.i < c.min-most.result = omega arith in
    let e : c.min-most.result - c.loop-i.i ≡ suc (c.min-most.result - (c.loop-i.i + 1)) = omega arith in
    let said = rw (get_or-take c.min-most.result c.args.list.now c.loop-i.i blank inside) at c.prefixes.ensures.said in (
      rw (e, sized, ← said, ← c.plus-here.ensures) at c.loop-i.invariant.0,
      rw (e, placed, ← said, ← c.plus-here.ensures) at c.loop-i.invariant.1,
      length-set c.loop-i.all c.loop-i.i c.loop-i.here ∙ c.loop-i.invariant.2,
    )

pub returns : goal.returns
unfolding sized placed
returns c =
    let l = length-take-le c.min-most.result c.args.list.now (omega arith) in
    let i : c.loop-i.i ≡ c.min-most.result = omega arith in
    let e : c.min-most.result - c.loop-i.i ≡ 0 = omega arith in
    let size = rw (e, c.min-most.ensures) at (sym c.loop-i.invariant.0) in
    let places =
    sym (rw (e, i) at c.loop-i.invariant.1)
    ∙ ap (λ n. placed n 0 0 c.args.list.now c.args.places.now) c.min-most.ensures in
    record {
      made = (size, places);
      size = λ xs h. size ∙ size_is xs (length c.args.list.now) c.args.list.now h;
      places = λ xs h. rw places (places-are xs (length c.args.list.now) c.args.list.now h c.args.places.now c.told-places);
    }
