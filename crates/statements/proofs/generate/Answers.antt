-- `statements::generate` meets its contract. Assumes nothing.
use Prim.Native.Nat.{ℕ, ◌+◌, ◌-◌, ◌≤◌}
use native.Mathlib.Omega.{arith}
use native.Mathlib.Nat.{mod-eq_of_lt}
use mathlib.Core.Path.{◌≡◌, refl, ap, ◌∙◌}
use mathlib.Core.List.{List}
use lib.ListN.{length-replicate, replicate}
use Rattle.assembler.specs.declared.entry.Entry.{Entry}
use Rattle.model.specs.Limits.{name_limit}
use Rattle.model.specs.Word.{low}
use Rattle.model.specs.declared.Facts.{Facts}
use Rattle.numbers.specs.declared.kinds.Declared.TheVariants.{Channels}
use Rattle.expressions.specs.Emits.{Code, at}
use Rattle.plan.specs.Entries.{next_of}
use Rattle.expressions.specs.Names.{Scoped, declaring}
use Rattle.expressions.specs.Exprs.{code_of}
use Rattle.statements.specs.Kinds.{stmt_into}
use Rattle.statements.specs.Tables.{no_names, table_into}
use Rattle.statements.proofs.Scoping.{within-names}
use Rattle.statements.proofs.TableCode.{facts-are, outside-few, table-code}
use Rattle.statements.proofs.generate.Goals as goal

-- no name in scope: there is room for all
nothing-scoped : (w : ℕ) → Scoped 33 (record { depth = 32; w = w; variables = 0; channels = 0 }) (replicate 2112 0) no_names
nothing-scoped w = record {
  shows = record {
    variables = record { counted = refl; few = omega arith; each = λ k l. absurd (omega arith) };
    channels = record { counted = refl; few = omega arith; each = λ k l. absurd (omega arith) };
  };
  variables = omega arith;
  channels = omega arith;
  long = length-replicate {A = ℕ} 2112 0;
}

-- what is put into the list for the statement behind the channel counts
table_of : (s plan : List ℕ) (f : Facts) (o l : List Entry) (outside i : ℕ) {n h : ℕ} → outside ≡ low (f.inputs + f.outputs)
    → i ≡ next_of s (next_of s 0)
    → record { next = n; here = h; list = l }
    ≡ stmt_into 32 (f.words - outside) (declaring Channels outside (f.words - outside) no_names) plan s i (at 0 o)
    → at h l ≡ table_into plan s f o
unfolding table_into
table_of s plan f o l outside i po pi e = ap code_of e ∙ rw (po, pi)

-- the list, by the plan of the table and the facts of its program
planned : (s p q : List ℕ) (f g : Facts) (o : List Entry) {c : Code} → p ≡ q → f ≡ g → c ≡ table_into p s f o → c ≡ table_into q s g o
planned s p q f g o e h is = is ∙ rw (e, h)

pub returns : goal.returns
returns c plan q is answer few =
    let f = facts-are _ _ q answer is in
    let small : c.plus-outside.result ≤ name_limit =
    rw (c.plus-outside.ensures, f) (let l = outside-few _ q is in
    let e : low (q.inputs + q.outputs) ≡ q.inputs + q.outputs = mod-eq_of_lt (omega arith) in
    rw e (omega arith)) in
    let r = rw c.enter-scope.ensures.scope at c.statement-end.ensures in
    let m = (within-names Channels _ _ 32 _ _ small c.enter-scope.ensures.names r no_names (nothing-scoped _)).0 in
    let t = table_of _ _ _ _ _ _ _ c.plus-outside.ensures (c.skip-2.ensures ∙ ap (next_of _) c.skip.ensures) m in
    let z = planned _ _ _ _ _ _ plan f t ∙ table-code _ q (λ y. (c.type_inv.table y).fits) is few _ in
    (ap (λ x. x.here) z, ap (λ x. x.list) z)
