-- `table::usage::merge` meets its contract: the words before k are merged, and those from k on are as they were. Assumes nothing.
use native.Mathlib.Omega.{arith}
use lib.Dec.{eqb}
use borrow.Author.Tests.{eqb-true, eqb-false}
use Rattle.model.proofs.Cases.{by_bool}
use mathlib.Core.List.{List}
use mathlib.Core.Path.{◌≡◌, refl, sym, ◌∙◌}
use Prim.Native.Nat.{ℕ, ◌+◌, ◌<◌, ◌≤◌}
use lib.Bits.{bit_or}
use lib.ListN.{get_or, set, length, length-set}
use lib.Seq.{ext_get_or}
use borrow.Author.Tests.{lt-ltb}
use Rattle.std.proofs.lemmas.List.{get_or-set_same, get_or-set_other}
use Rattle.table.specs.Uses.{merged}
use Rattle.table.proofs.Marks.{merged-at, merged-length}
use Rattle.table.proofs.usage.merge.Goals as goal

-- one more word is merged
below : (b m l : List ℕ) (k : ℕ) → k < length l
    → ((j : ℕ) → j < k → get_or l j 0 ≡ bit_or (get_or b j 0) (get_or m j 0))
    → ((j : ℕ) → k ≤ j → get_or l j 0 ≡ get_or b j 0)
    → (j : ℕ) → j < k + 1 → get_or (set l k (bit_or (get_or l k 0) (get_or m k 0))) j 0 ≡ bit_or (get_or b j 0) (get_or m j 0)
below b m l k f h g j n =
    by_bool (eqb j k)
    (λ e. rw (eqb-true j k e, get_or-set_same l k (bit_or (get_or l k 0) (get_or m k 0)) 0 f, g k (omega arith)) refl)
    (λ e. let apart : (j ≡ k → ⊥) = eqb-false j k e in
    get_or-set_other l k j (bit_or (get_or l k 0) (get_or m k 0)) 0 apart ∙ h j (omega (arith, n, apart)))

-- all of them
whole : (b m l : List ℕ) → length b ≡ 64 → length l ≡ length b
    → ((j : ℕ) → j < 64 → get_or l j 0 ≡ bit_or (get_or b j 0) (get_or m j 0)) → l ≡ merged 64 b m
whole b m l e f h =
    ext_get_or 0 l (merged 64 b m) (f ∙ sym (merged-length 64 b m))
    (λ j n. h j (omega (arith, n, f, e)) ∙ sym (merged-at 64 b m j (omega (arith, e)) ∙ rw (lt-ltb j 64 (omega (arith, n, f, e))) refl))

pub loop-k-preserved : goal.loop-k-preserved
loop-k-preserved c =
    let i = c.loop-k.invariant in
    let f : c.loop-k.k < length c.loop-k.sets = omega (arith, i.0) in (
      length-set c.loop-k.sets _ _ ∙ i.0,
      below c.args.sets.now c.args.branch.now c.loop-k.sets c.loop-k.k f i.1 i.2,
      λ j n. get_or-set_other c.loop-k.sets c.loop-k.k j _ 0 (λ e. omega (arith, e, n)) ∙ i.2 j (omega (arith, n)),
    )

pub returns : goal.returns
returns c =
    let i = c.loop-k.invariant in whole _ c.args.branch.now _ c.told-sets i.0 (λ j n. i.1 j (omega (arith, n)))
