-- The functions of `statements::stmt` that call each other meet their contracts. The measures count 8 for each level of the depth left, and
-- further for what has statements of that depth inside: for what follows a kind 7, for VAR, CHAN, PAR and parts 6, for SEQ, IF, WHILE and
-- ALT 5, for the branches of PAR and ALT 4, for a branch and a pair 3. Assumes nothing.
use Prim.Native.Nat.{ℕ, suc, ◌+◌, ◌-◌, ◌*◌, ◌≤◌}
use mathlib.Core.List.{List}
use borrow.Author.Tests.{eq-eqb, ne_eqb}
use native.Mathlib.Omega.{arith}
use native.Mathlib.Nat.{sub-zero}
use mathlib.Core.Path.{◌≡◌, refl, sym, ap, ◌∙◌}
use lib.ListN.{length}
use Rattle.model.specs.Limits.{name_limit}
use Rattle.expressions.specs.Emits.{Code, at as standing, plain_into, distance_into}
use Rattle.expressions.specs.Names.{Names}
use Rattle.expressions.specs.declared.words.Scope.{Scope}
use Rattle.model.specs.Word.{low}
use Rattle.instruction.specs.Codes.{AJW, LDC}
use Rattle.model.specs.declared.kinds.StmtKind.{StmtKind}
use Rattle.numbers.specs.Kinds.{shape_of, count_in}
use Rattle.numbers.specs.declared.kinds.Count.{Count}
use Rattle.numbers.specs.declared.kinds.Shape.TheVariants.{Branches}
use Rattle.plan.specs.Extents.{extent_in}
use Rattle.plan.specs.declared.extent.Extent.{Extent}
use Rattle.expressions.specs.Exprs.{Wrote, written, code_of}
use Rattle.statements.specs.Stmts.{declaration_into, seq_into, pair_into, pairs_into, if_into, while_into}
use Rattle.statements.specs.Stmts.{branch_into, branches_into, Forked, fork_into, par_into}
use Rattle.statements.specs.Alts.{choice_into, choices_into, guards_into, alt_into}
use Rattle.statements.specs.Kinds.{stmt_into, inner_at, parts_into, inside_into}
use Rattle.statements.proofs.Scoping.{within, within-names, count_most, parts-few, shape-few, relabel, shows-under, stmt-under}
use Rattle.statements.proofs.Scoping.{branch-under, branches-under}
use Rattle.statements.proofs.Closes.{close-front}
use Rattle.statements.proofs.stmt as cycle
use cycle.+alt_branch_branches_choice_choices_declare_inside_pair_pairs_par_parts_repetition_seq_statement.Goals as goal

-- a PAR by its parts: a law of its own, since rewriting all of them at once where they stand takes too long
par-more : (d w : ℕ) (ns : Names) (plan s : List ℕ) (n i : ℕ) (c : Code) {t g : ℕ} {f : Forked} {l z : Code} {e : Extent} {b r : Wrote}
    → (n ≡ 0 → ⊥) → f ≡ fork_into n c → t ≡ low (3 * (n - 1)) → g ≡ low (f.fork.starts + t) → e ≡ extent_in plan i
    → b ≡ branch_into 0 (inner_at d plan s) (w - 2) ns i (standing g f.list)
    → r ≡ branches_into (n - 1) (inner_at d plan s) (w - 2) ns plan b.next e.need f.fork.starts (code_of b)
    → l ≡ distance_into LDC r.here f.fork.user (standing f.fork.gap r.list)
    → z ≡ plain_into AJW 2 (standing r.here l.list) → written r.next z ≡ par_into n (inner_at d plan s) w ns plan i c
unfolding par_into
par-more d w ns plan s n i c q pf pt pg pe pb pr pl pz = rw (pz, pl, pr, pb, pe, pg, pt, pf, ne_eqb n 0 q)

inside-par : (d w : ℕ) (ns : Names) (plan s : List ℕ) (k : StmtKind) (i : ℕ) (c : Code) {m : Count} → shape_of k ≡ Branches m
    → (let n = count_in m s i in par_into n.value (inner_at d plan s) w ns plan n.next c)
    ≡ inside_into k d (inner_at d plan s) w ns plan s i c
unfolding inside_into
inside-par d w ns plan s k i c e = rw e

pub alt-returns : goal.alt-returns
unfolding alt_into
alt-returns t c ns h =
    let r = c.choices.ensures ns h in (
      rw (
        ← rw c.lowered-inner.ensures at (c.gen_front-front.ensures ns (shows-under _ _ _ _ _ c.lowered-inner.ensures h.shows)),
        ← c.operation.ensures,
        r.0,
      ),
      r.1,
    )

pub branch-statement-body-requires : goal.branch-statement-body-requires
branch-statement-body-requires t c =
    let d = ap (λ (x : Scope). x.depth) c.lowered-inner.ensures in omega (arith, c.decreases)

pub branch-returns : goal.branch-returns
unfolding branch_into
branch-returns t c ns h =
    let r = stmt-under _ _ _ _ _ _ _ c.lowered-inner.ensures c.statement-body.ensures ns h in
    (rw (← r.0, ← c.plain-second.ensures, ← c.operation-here.ensures), r.1)

pub branches-loop-init : goal.branches-loop-init
branches-loop-init t c ns h = (simp sub-zero, h)

pub branches-loop-preserved : goal.branches-loop-preserved
unfolding branches_into
branches-loop-preserved t c ns h =
    let i = c.loop.invariant ns h in
    let r = c.branch-next.ensures ns i.1 in
    let e : c.args.rest.left - c.loop.counter ≡ suc (c.args.rest.left - (c.loop.counter + 1)) = omega arith in (
      rw (e, branches_into, ← c.extent_in-own.ensures, ← c.put_start-start.ensures, ← r.0, ← c.plus-d.ensures) at i.0,
      r.1,
    )

pub branches-returns : goal.branches-returns
unfolding branches_into
branches-returns t c ns h =
    let i = c.loop.invariant ns h in
    let e : c.args.rest.left - c.loop.counter ≡ 0 = omega arith in
    (rw e at (sym i.0), i.1)

pub choice-returns : goal.choice-returns
unfolding choice_into
choice-returns t c ns h =
    let r = within _ _ _ refl refl c.statement-body.ensures ns h in (
      rw (
        ← rw c.lowered.ensures at (c.gen_guard-guard.ensures ns (shows-under _ _ _ _ _ c.lowered.ensures h.shows)),
        ← c.put_disable-disable.ensures,
        ← c.plain-first.ensures,
        ← c.put_input-input.ensures ns h.shows,
        ← r.0,
      ),
      r.1,
    )

pub choices-loop-i-init : goal.choices-loop-i-init
choices-loop-i-init t c = (refl, λ ns h. (simp sub-zero, h))

pub choices-loop-i-preserved : goal.choices-loop-i-preserved
unfolding choices_into
choices-loop-i-preserved t c =
    let e : c.args.count - c.loop-i.i ≡ suc (c.args.count - (c.loop-i.i + 1)) = omega arith in
    let more : suc c.loop-i.i ≡ c.loop-i.i + 1 = omega arith in (
      c.loop-i.invariant.0,
      λ ns h.
          let i = c.loop-i.invariant.1 ns h in
          let r = rw c.loop-i.invariant.0 at (c.choice-body.ensures ns i.1) in
          (rw (e, choices_into, ← r.0, ← c.plus.ensures, more) at i.0, r.1),
    )

pub choices-returns : goal.choices-returns
unfolding guards_into choices_into
choices-returns t c ns h =
    let i = c.loop-i.invariant.1 ns h in
    let e : c.args.count - c.loop-i.i ≡ 0 = omega arith in
    let room : c.args.count ≤ length c.loop-i.ends = omega arith in
    (rw (rw e at i.0, ← close-front c.args.count c.loop-i.ends _ _ room, ← c.close.ensures), i.1)

pub declare-statement-body-requires : goal.declare-statement-body-requires
declare-statement-body-requires t c =
    let d = ap (λ (x : Scope). x.depth) c.enter-inner.ensures.scope in omega (arith, c.decreases)

pub declare-returns : goal.declare-returns
unfolding declaration_into
declare-returns t c ns h =
    let few : c.count_at-count.result.value ≤ name_limit = rw c.count_at-count.ensures (count_most _ _ _) in
    let r = within-names c.args.declared _ (c.args.scope.w - c.count_at-count.result.value) c.args.scope.depth c.args.scope _ few
    c.enter-inner.ensures.names (rw c.enter-inner.ensures.scope at c.statement-body.ensures) ns h in (
      rw (
        ← c.count_at-count.ensures,
        ← c.minus.ensures,
        ← c.plain-first.ensures,
        ← c.put_initial.ensures,
        ← r.0,
        ← c.plain-here.ensures,
      ),
      r.1,
    )

pub inside-parts-requires : goal.inside-parts-requires
inside-parts-requires t c =
    (omega (arith, c.decreases), shape-few c.args.kind _ _ (sym c.shape_of.ensures ∙ c.in-Parts.is))

pub inside-returns-in-Simple : goal.inside-returns-in-Simple
unfolding inside_into
inside-returns-in-Simple t c ns h =
    (rw (c.gen_simple.ensures ns h.shows, ← c.shape_of.ensures, c.in-Simple.is), h)

pub inside-returns-in-Declares : goal.inside-returns-in-Declares
unfolding inside_into
inside-returns-in-Declares t c ns h =
    let r = c.declare.ensures ns h in
    (rw (r.0, ← c.shape_of.ensures, c.in-Declares.is), r.1)

pub inside-returns-in-Branches : goal.inside-returns-in-Branches
inside-returns-in-Branches t c ns h =
    let r = c.par.ensures ns h in
    (r.0 ∙ rw c.count_at-number.ensures (inside-par _ _ ns _ _ _ _ _ (sym c.shape_of.ensures ∙ c.in-Branches.is)), r.1)

pub inside-returns-in-Parts : goal.inside-returns-in-Parts
unfolding inside_into
inside-returns-in-Parts t c ns h =
    let r = c.parts.ensures ns h in
    (rw (r.0, ← c.shape_of.ensures, c.in-Parts.is), r.1)

pub pair-returns : goal.pair-returns
unfolding pair_into
pair-returns t c ns h =
    let r = within _ _ _ refl refl c.statement-body.ensures ns h in (
      rw (
        ← c.gen_whole-test.ensures ns.variables h.shows.variables,
        ← c.plus.ensures,
        ← r.0,
        ← c.plus-next.ensures,
        ← c.distance.ensures,
      ),
      r.1,
    )

pub pairs-loop-i-init : goal.pairs-loop-i-init
pairs-loop-i-init t c ns h = (simp sub-zero, h)

pub pairs-loop-i-preserved : goal.pairs-loop-i-preserved
unfolding pairs_into
pairs-loop-i-preserved t c ns h =
    let e : c.args.count - c.loop-i.i ≡ suc (c.args.count - (c.loop-i.i + 1)) = omega arith in
    let more : suc c.loop-i.i ≡ c.loop-i.i + 1 = omega arith in
    let i = c.loop-i.invariant ns h in
    let r = c.pair-body.ensures ns i.1 in
    (rw (e, pairs_into, ← r.0, ← c.plus.ensures, more) at i.0, r.1)

pub pairs-returns : goal.pairs-returns
unfolding if_into pairs_into
pairs-returns t c ns h =
    let i = c.loop-i.invariant ns h in
    let e : c.args.count - c.loop-i.i ≡ 0 = omega arith in
    let room : c.args.count ≤ length c.loop-i.ends = omega arith in
    (rw (rw e at i.0, ← c.operation-over.ensures, ← close-front c.args.count c.loop-i.ends _ _ room, ← c.close.ensures), i.1)

pub par-returns-then-count-eq0 : goal.par-returns-then-count-eq0
unfolding par_into
par-returns-then-count-eq0 t c ns h = (rw (eq-eqb _ 0 c.if-count-eq0.true), h)

pub par-branch-one-requires : goal.par-branch-one-requires
par-branch-one-requires t c =
    let d = ap (λ (x : Scope). x.depth) c.lowered-inner.ensures in omega (arith, c.decreases)

pub par-branches-end-requires : goal.par-branches-end-requires
par-branches-end-requires t c =
    let d = ap (λ (x : Scope). x.depth) c.lowered-inner.ensures in omega (arith, c.decreases)

pub par-returns : goal.par-returns
par-returns t c ns h =
    let b = branch-under _ _ _ _ _ _ _ c.lowered-inner.ensures _ c.branch-one.ensures ns h in
    let r = branches-under _ _ _ _ _ _ _ c.lowered-inner.ensures _ _ _ c.branches-end.ensures ns b.1 in (
      par-more _ _ ns _ _ _ _ _ c.if-count-eq0.false c.put_fork-fork.ensures c.product.ensures c.plus.ensures
          c.extent_in-own.ensures b.0 r.0 c.distance.ensures c.plain.ensures,
      r.1,
    )

pub parts-pairs-requires : goal.parts-pairs-requires
parts-pairs-requires t c =
    (omega (arith, c.decreases), rw c.count_at-number.ensures (parts-few _ _ _ c.requires))

pub parts-alt-requires : goal.parts-alt-requires
parts-alt-requires t c =
    (omega (arith, c.decreases), rw c.count_at-number.ensures (parts-few _ _ _ c.requires))

pub parts-returns-in-Nothing : goal.parts-returns-in-Nothing
unfolding parts_into
parts-returns-in-Nothing t c ns h =
    let r = c.seq.ensures ns h in
    (rw (r.0, c.count_at-number.ensures, c.in-Nothing.is), r.1)

pub parts-returns-in-UpTo : goal.parts-returns-in-UpTo
unfolding parts_into
parts-returns-in-UpTo t c ns h =
    let r = c.pairs.ensures ns h in
    (rw (r.0, c.count_at-number.ensures, c.in-Condition.is, c.in-UpTo.is), r.1)

pub parts-returns-in-Fixed : goal.parts-returns-in-Fixed
unfolding parts_into
parts-returns-in-Fixed t c ns h =
    let r = c.repetition.ensures ns h in
    (rw (r.0, c.count_at-number.ensures, c.in-Condition.is, c.in-Fixed.is), r.1)

pub parts-returns-in-Guard : goal.parts-returns-in-Guard
unfolding parts_into
parts-returns-in-Guard t c ns h =
    let r = c.alt.ensures ns h in
    (rw (r.0, c.count_at-number.ensures, c.in-Guard.is), r.1)

pub repetition-returns : goal.repetition-returns
unfolding while_into
repetition-returns t c ns h =
    let r = c.pair-body.ensures ns h in (rw (← r.0, ← c.distance-here.ensures), r.1)

pub seq-loop-init : goal.seq-loop-init
seq-loop-init t c ns h = (simp sub-zero, h)

pub seq-loop-preserved : goal.seq-loop-preserved
unfolding seq_into
seq-loop-preserved t c ns h =
    let i = c.loop.invariant ns h in
    let r = within _ _ _ refl refl c.statement-next.ensures ns i.1 in
    let e : c.args.count - c.loop.counter ≡ suc (c.args.count - (c.loop.counter + 1)) = omega arith in
    (rw (e, seq_into, ← r.0) at i.0, r.1)

pub seq-returns : goal.seq-returns
unfolding seq_into
seq-returns t c ns h =
    let i = c.loop.invariant ns h in
    let e : c.args.count - c.loop.counter ≡ 0 = omega arith in
    (rw e at (sym i.0), i.1)

pub statement-returns-then-scope-eq0 : goal.statement-returns-then-scope-eq0
unfolding stmt_into
statement-returns-then-scope-eq0 t c ns h = (rw c.if-scope-eq0.true, h)

pub statement-returns : goal.statement-returns
unfolding stmt_into
statement-returns t c ns h =
    let r = relabel _ _ _ _ (omega (arith, c.if-scope-eq0.false)) refl refl c.inside.ensures ns h in
    let e : c.args.scope.depth ≡ suc (c.args.scope.depth - 1) = omega (arith, c.if-scope-eq0.false) in
    (rw e (rw (← c.value_at-number.ensures, ← c.stmt_kind-kind.ensures, ← r.0)), r.1)
