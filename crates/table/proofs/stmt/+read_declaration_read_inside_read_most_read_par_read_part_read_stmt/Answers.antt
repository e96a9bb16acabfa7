-- The functions of `table::stmt` that call each other meet their contracts. The measures are six times the depth left, and more for what
-- has statements of that depth. Assumes nothing.
use Prim.Native.Nat.{ℕ, ◌<◌, zero, suc, ◌+◌, ◌-◌, ◌≤◌}
use native.Mathlib.Omega.{arith}
use mathlib.Core.List.{List}
use mathlib.Core.Path.{◌≡◌, refl, sym, ◌∙◌}
use Rattle.table.specs.Uses.{no_names}
use Rattle.table.specs.Exprs.{kept}
use Rattle.numbers.specs.Items.{between_at, deep_at, with_read}
use Rattle.model.specs.declared.kinds.StmtKind.{StmtKind}
use Rattle.numbers.specs.Kinds.{shape_of, stmt_kind, count_at, by_shape, last_statement}
use Rattle.numbers.specs.declared.kinds.Declared.{Declared}
use Rattle.numbers.specs.declared.kinds.Declared.TheVariants.{Variables, Channels}
use Rattle.numbers.specs.declared.kinds.Head.{Head}
use Rattle.numbers.specs.declared.kinds.Shape.{Shape}
use Rattle.table.specs.Stmts.{stmt_at, part_in, most_at, par_at, declared_at, inside_at, simple_at, most_from}
use Rattle.table.specs.Stmts.{stmt_uses}
use Rattle.table.specs.Stmts.{part_uses_in, most_uses_at, par_uses_at, declared_uses, inside_uses, simple_uses, most_use}
use Rattle.table.specs.Stmts.{branches_at}
use Rattle.table.specs.Stmts.{branches_from, Branches, joined_by, no_branches, nothing, added, more_names, Fits}
use Rattle.std.specs.Prelude.{Result, Ok, Err}
use borrow.Author.Rules.{rules}
use Rattle.numbers.specs.declared.Misread.{Misread}
use Rattle.numbers.specs.declared.Number.{Number}
use Rattle.table.specs.declared.stmt.Part.{Part}
use Rattle.table.specs.declared.stmt.Names.{Names}
use Rattle.table.specs.declared.stmt.Sum.{Sum}
use Rattle.table.specs.Sets.{Exact}
use Rattle.table.proofs.SameItems.{Bytes}
use Rattle.table.proofs.SameStmt.{exact-uses}
use Rattle.table.proofs.Small.{between_in, FewIn, few, count-few, stmt-counts, part-counts}
use Rattle.table.proofs.stmt.+read_declaration_read_inside_read_most_read_par_read_part_read_stmt.Invariants.{most_left, uses_left}
use Rattle.table.proofs.stmt.+read_declaration_read_inside_read_most_read_par_read_part_read_stmt.Goals as goal

-- more names fit where there is depth left, and what is counted in a table fits
more-fits : (x : Declared) (n d : ℕ) (w : Names) → n ≤ 32 → Fits w (d + 1) → Fits (more_names x n w) d
more-fits Variables n d w q f = (omega arith, omega arith, omega arith, omega arith, omega arith)
more-fits Channels n d w q f = (omega arith, omega arith, omega arith, omega arith, omega arith)

less-fits : (d : ℕ) (w : Names) → Fits w (d + 1) → Fits w d
less-fits d w f = (omega arith, omega arith, omega arith, omega arith, omega arith)

same-fits : (d : ℕ) (w : Names) → (d ≡ 0 → ⊥) → Fits w d → Fits w (d - 1 + 1)
same-fits d w p f = let e : d - 1 + 1 ≡ d = omega arith in rw e f

-- `stmt_at` and `stmt_uses` at depth 0, and unrolled once where there is depth left
none : (d : ℕ) (w : Names) (s : List ℕ) (at : ℕ) (l : List ℕ) → d ≡ 0
    → (stmt_at d w s at ≡ Err (deep_at s at)) × (stmt_uses d w s at l ≡ l)
unfolding stmt_at stmt_uses
none d w s at l e = (rw e, rw e)

turn : (d : ℕ) (w : Names) (s : List ℕ) (at : ℕ) (l : List ℕ) → (d ≡ 0 → ⊥)
    → (stmt_at d w s at
    ≡ with_read Err (between_at 0 last_statement s at) (λ k. inside_at at (stmt_kind k.value) (d - 1) w s k.next))
    × (stmt_uses d w s at l
    ≡ with_read (kept l) (between_at 0 last_statement s at) (λ k. inside_uses (stmt_kind k.value) (d - 1) w s k.next l))
unfolding stmt_at stmt_uses inside_at inside_uses
turn zero w s at l p = absurd (p refl)
turn (suc d) w s at l p = let e : suc d - 1 ≡ d = omega arith in (rw e, rw e)

-- what follows a kind, by its shape
abbrev by_kind : (place : ℕ) → Shape → (d : ℕ) → Names → List ℕ → (at : ℕ) → Result Part Misread
by_kind place x d w s at =
    by_shape x (λ y. simple_at y d w s at)
    (λ y. with_read Err (between_at 1 32 s at) (λ c. declared_at y c.value d w s c.next))
    (λ m. with_read Err (count_at m s at) (λ c. par_at place c.value d w s c.next))
    (λ h m. with_read Err (count_at m s at) (λ c. most_at h c.value d w s c.next))

abbrev uses_by_kind : Shape → (d : ℕ) → Names → List ℕ → List ℕ → (at : ℕ) → List ℕ
uses_by_kind x d w s l at =
    by_shape x (λ y. simple_uses y d w s at l)
    (λ y. with_read (kept l) (between_at 1 32 s at) (λ c. declared_uses y c.value d w s c.next l))
    (λ m. with_read (kept l) (count_at m s at) (λ c. par_uses_at c.value d w s c.next l))
    (λ h m. with_read (kept l) (count_at m s at) (λ c. most_uses_at h c.value d w s c.next l))

most-none : (i : ℕ) (k : Head) (d : ℕ) (w : Names) (s : List ℕ) (t : Sum) (l : List ℕ) → i ≡ 0
    → (most_left i k d w s t ≡ Ok t) × (uses_left i k d w s t.next l ≡ l)
unfolding most_from most_use
most-none i k d w s t l e = (rw e, rw e)

most-turn : (i : ℕ) (k : Head) (d : ℕ) (w : Names) (s : List ℕ) (t : Sum) (l : List ℕ) → 0 < i
    → (most_left i k d w s t ≡ with_read Err (part_in k d w s t.next) (λ p. most_left (i - 1) k d w s (added t p)))
    × (uses_left i k d w s t.next l
    ≡ with_read (kept (part_uses_in k d w s t.next l)) (part_in k d w s t.next) (λ p.
    uses_left (i - 1) k d w s p.next (part_uses_in k d w s t.next l)))
unfolding most_from most_use part_in part_uses_in
most-turn zero k d w s t l h = absurd (omega arith)
most-turn (suc i) k d w s t l h = let e : suc i - 1 ≡ i = omega arith in (rw e, rw e)

branches-none : (i d : ℕ) (w : Names) (s : List ℕ) (b : Branches) → i ≡ 0 → branches_at i d w s b ≡ Ok b
unfolding branches_at branches_from
branches-none i d w s b e = rw e

branches-turn : (i d : ℕ) (w : Names) (s : List ℕ) (b : Branches) → 0 < i
    → branches_at i d w s b
    ≡ with_read Err (stmt_at d w s b.total.next) (λ p.
    branches_at (i - 1) d w s (joined_by (stmt_uses d w s b.total.next no_names) b p))
unfolding branches_at branches_from
branches-turn zero d w s b h = absurd (omega arith)
branches-turn (suc i) d w s b h = let e : suc i - 1 ≡ i = omega arith in rw e

-- what is to be answered once a kind's number is read, and once its shape is known
first : (d : ℕ) (w : Names) (s : List ℕ) (at : ℕ) (l : List ℕ) (x : Result Number Misread)
    → (d ≡ 0 → ⊥)
    → x ≡ between_at 0 last_statement s at
    → (stmt_at d w s at ≡ with_read Err x (λ k. inside_at at (stmt_kind k.value) (d - 1) w s k.next))
    × (stmt_uses d w s at l ≡ with_read (kept l) x (λ k. inside_uses (stmt_kind k.value) (d - 1) w s k.next l))
first d w s at l x p r = let u = turn d w s at l p in (u.0 ∙ simp (← r), u.1 ∙ simp (← r))

shaped : (place : ℕ) (k : StmtKind) (d : ℕ) (w : Names) (s : List ℕ) (at : ℕ) (l : List ℕ) (q x : Shape)
    → q ≡ shape_of k
    → q ≡ x
    → (inside_at place k d w s at ≡ by_kind place x d w s at) × (inside_uses k d w s at l ≡ uses_by_kind x d w s l at)
unfolding inside_at inside_uses declared_at declared_uses most_at most_uses_at par_at par_uses_at branches_at
shaped place k d w s at l q x r e = let f = sym r ∙ e in (simp f, simp f)

-- how parts are counted is known to be few
counts-few : (k : StmtKind) (q x : Shape) → q ≡ shape_of k → q ≡ x → FewIn x
counts-few k q x r e = rw (sym r ∙ e) at (few k)

-- what is to be answered once a part or a branch is read
one-part : (i c : ℕ) (k : Head) (d : ℕ) (w : Names) (s : List ℕ) (at : ℕ) (t : Sum) (l₀ l : List ℕ) (x : Result Part Misread) (m : List ℕ)
    → i < c
    → most_left c k d w s (nothing at) ≡ most_left (c - i) k d w s t
    → uses_left c k d w s at l₀ ≡ uses_left (c - i) k d w s t.next l
    → x ≡ part_in k d w s t.next
    → m ≡ part_uses_in k d w s t.next l
    → (most_left c k d w s (nothing at) ≡ with_read Err x (λ p. most_left (c - (i + 1)) k d w s (added t p)))
    × (uses_left c k d w s at l₀ ≡ with_read (kept m) x (λ p. uses_left (c - (i + 1)) k d w s p.next m))
one-part i c k d w s at t l₀ l x m b f g r n =
    let h : 0 < c - i = omega arith in
    let z : c - i - 1 ≡ c - (i + 1) = omega arith in
    let u = most-turn (c - i) k d w s t l h in (f ∙ u.0 ∙ simp (← r, z), g ∙ u.1 ∙ simp (← r, ← n, z))

one-branch : (i c d : ℕ) (w : Names) (s : List ℕ) (at : ℕ) (b : Branches) (x : Result Part Misread) (m : List ℕ)
    → i < c
    → branches_at c d w s (no_branches at) ≡ branches_at (c - i) d w s b
    → x ≡ stmt_at d w s b.total.next
    → m ≡ stmt_uses d w s b.total.next no_names
    → branches_at c d w s (no_branches at) ≡ with_read Err x (λ p. branches_at (c - (i + 1)) d w s (joined_by m b p))
one-branch i c d w s at b x m h f r n =
    let h : 0 < c - i = omega arith in
    let z : c - i - 1 ≡ c - (i + 1) = omega arith in f ∙ branches-turn (c - i) d w s b h ∙ simp (← r, ← n, z)

-- the sets that a statement leaves are exactly its usage
exact-of : (d : ℕ) (w : Names) (s : List ℕ) (at : ℕ) (l m : List ℕ)
    → Bytes s
    → Fits w d
    → m ≡ stmt_uses d w s at l
    → Exact d w s at l m
exact-of d w s at l m b f e = rw e (exact-uses d w s at l b f)

pub read_declaration-in_scope-requires : goal.read_declaration-in_scope-requires
read_declaration-in_scope-requires t c =
    let h = stmt-counts {p = c.in_ok-part.part} _ _ _ _ (sym c.in_ok-part.ensures.said) in (c.requires.2, omega arith)

pub read_inside-returns-in_ok-count-in-Declares : goal.read_inside-returns-in_ok-count-in-Declares
read_inside-returns-in_ok-count-in-Declares t c =
    let h = shaped c.args.place c.args.kind c.args.depth c.args.names c.args.table.now c.args.at c.args.sets.now _ _ c.shape_of.ensures
    c.in-Declares.is in
    let e = c.in_ok-count-in-Declares.ensures.said in
    record {
      said = c.read_declaration.ensures.said ∙ sym (h.0 ∙ simp (← e));
      uses = c.read_declaration.ensures.uses ∙ sym (h.1 ∙ simp (← e));
    }

pub read_inside-returns-in_err-count-in-Declares-clause-said : goal.read_inside-returns-in_err-count-in-Declares-clause-said
read_inside-returns-in_err-count-in-Declares-clause-said t c =
    let h = shaped c.args.place c.args.kind c.args.depth c.args.names c.args.table.now c.args.at c.args.sets.now _ _ c.shape_of.ensures
    c.in-Declares.is in
    let e : inside_at c.args.place c.args.kind c.args.depth c.args.names c.args.table.now c.args.at
    ≡ Err c.in_err-count-in-Declares.field-0.0 =
    h.0 ∙ simp (← c.in_err-count-in-Declares.ensures.said) in
    search rules

pub read_inside-returns-in_err-count-in-Declares-clause-uses : goal.read_inside-returns-in_err-count-in-Declares-clause-uses
read_inside-returns-in_err-count-in-Declares-clause-uses t c =
    let h = shaped c.args.place c.args.kind c.args.depth c.args.names c.args.table.now c.args.at c.args.sets.now _ _ c.shape_of.ensures
    c.in-Declares.is in
    sym (h.1 ∙ simp (← c.in_err-count-in-Declares.ensures.said))

pub read_inside-returns-in_ok-count-in-Branches : goal.read_inside-returns-in_ok-count-in-Branches
read_inside-returns-in_ok-count-in-Branches t c =
    let h = shaped c.args.place c.args.kind c.args.depth c.args.names c.args.table.now c.args.at c.args.sets.now _ _ c.shape_of.ensures
    c.in-Branches.is in
    let e = c.in_ok-count-in-Branches.ensures in
    record { said = c.read_par.ensures.said ∙ sym (h.0 ∙ simp (← e)); uses = c.read_par.ensures.uses ∙ sym (h.1 ∙ simp (← e)) }

pub read_inside-returns-in_err-count-in-Branches-clause-said : goal.read_inside-returns-in_err-count-in-Branches-clause-said
read_inside-returns-in_err-count-in-Branches-clause-said t c =
    let h = shaped c.args.place c.args.kind c.args.depth c.args.names c.args.table.now c.args.at c.args.sets.now _ _ c.shape_of.ensures
    c.in-Branches.is in
    let e : inside_at c.args.place c.args.kind c.args.depth c.args.names c.args.table.now c.args.at
    ≡ Err c.in_err-count-in-Branches.field-0.0 =
    h.0 ∙ simp (← c.in_err-count-in-Branches.ensures) in
    search rules

pub read_inside-returns-in_err-count-in-Branches-clause-uses : goal.read_inside-returns-in_err-count-in-Branches-clause-uses
read_inside-returns-in_err-count-in-Branches-clause-uses t c =
    let h = shaped c.args.place c.args.kind c.args.depth c.args.names c.args.table.now c.args.at c.args.sets.now _ _ c.shape_of.ensures
    c.in-Branches.is in
    sym (h.1 ∙ simp (← c.in_err-count-in-Branches.ensures))

pub read_inside-returns-in_ok-count-in-Parts : goal.read_inside-returns-in_ok-count-in-Parts
read_inside-returns-in_ok-count-in-Parts t c =
    let h = shaped c.args.place c.args.kind c.args.depth c.args.names c.args.table.now c.args.at c.args.sets.now _ _ c.shape_of.ensures
    c.in-Parts.is in
    let e = c.in_ok-count-in-Parts.ensures in
    record { said = c.read_most.ensures.said ∙ sym (h.0 ∙ simp (← e)); uses = c.read_most.ensures.uses ∙ sym (h.1 ∙ simp (← e)) }

pub read_inside-returns-in_err-count-in-Parts-clause-said : goal.read_inside-returns-in_err-count-in-Parts-clause-said
read_inside-returns-in_err-count-in-Parts-clause-said t c =
    let h = shaped c.args.place c.args.kind c.args.depth c.args.names c.args.table.now c.args.at c.args.sets.now _ _ c.shape_of.ensures
    c.in-Parts.is in
    let e : inside_at c.args.place c.args.kind c.args.depth c.args.names c.args.table.now c.args.at
    ≡ Err c.in_err-count-in-Parts.field-0.0 =
    h.0 ∙ simp (← c.in_err-count-in-Parts.ensures) in
    search rules

pub read_inside-returns-in_err-count-in-Parts-clause-uses : goal.read_inside-returns-in_err-count-in-Parts-clause-uses
read_inside-returns-in_err-count-in-Parts-clause-uses t c =
    let h = shaped c.args.place c.args.kind c.args.depth c.args.names c.args.table.now c.args.at c.args.sets.now _ _ c.shape_of.ensures
    c.in-Parts.is in
    sym (h.1 ∙ simp (← c.in_err-count-in-Parts.ensures))

pub read_inside-returns-in-Simple : goal.read_inside-returns-in-Simple
read_inside-returns-in-Simple t c =
    let h = shaped c.args.place c.args.kind c.args.depth c.args.names c.args.table.now c.args.at c.args.sets.now _ _ c.shape_of.ensures
    c.in-Simple.is in
    record { said = c.read_simple.ensures.said ∙ sym h.0; uses = c.read_simple.ensures.uses ∙ sym h.1 }

pub read_inside-read_par-requires : goal.read_inside-read_par-requires
read_inside-read_par-requires t c =
    let l = counts-few c.args.kind _ _ c.shape_of.ensures c.in-Branches.is in (
      omega arith,
      (
        less-fits _ _ c.requires.0,
        omega (arith, c.requires.0.2),
        c.requires.1,
        count-few _ _ _ l (sym c.in_ok-count-in-Branches.ensures),
        c.requires.2,
      ),
    )

pub read_inside-read_most-requires : goal.read_inside-read_most-requires
read_inside-read_most-requires t c =
    let l = counts-few c.args.kind _ _ c.shape_of.ensures c.in-Parts.is in (
      omega arith,
      (
        less-fits _ _ c.requires.0,
        omega (arith, c.requires.0.2),
        c.requires.1,
        count-few _ _ _ l (sym c.in_ok-count-in-Parts.ensures),
      ),
    )

pub read_most-add-sum-requires : goal.read_most-add-sum-requires
read_most-add-sum-requires t c =
    -- what is counted of the part that is read
    let h = part-counts {p = c.in_ok-part.part} _ _ _ _ _ (sym c.in_ok-part.ensures.said) in
    (omega arith, omega arith, omega arith, omega arith)

pub read_most-loop-preserved : goal.read_most-loop-preserved
read_most-loop-preserved t c =
    let h = part-counts {p = c.in_ok-part.part} _ _ _ _ _ (sym c.in_ok-part.ensures.said) in
    let o = one-part c.loop.counter c.args.count c.args.head c.args.depth c.args.names c.args.table.now c.args.at c.loop.sum
    c.args.sets.now c.loop.sets _ _ c.loop-test.true c.loop.invariant.0 c.loop.invariant.1
    c.in_ok-part.ensures.said c.read_part.ensures.uses in (
      o.0 ∙ simp c.add-sum.ensures,
      o.1 ∙ simp c.add-sum.ensures,
      rw c.add-sum.ensures (omega arith),
      rw c.add-sum.ensures (omega arith),
    )

pub read_most-returns-in_err-part-clause-said : goal.read_most-returns-in_err-part-clause-said
unfolding most_at
read_most-returns-in_err-part-clause-said t c =
    let o = one-part c.loop.counter c.args.count c.args.head c.args.depth c.args.names c.args.table.now c.args.at c.loop.sum
    c.args.sets.now c.loop.sets _ _ c.loop-test.true c.loop.invariant.0 c.loop.invariant.1
    c.in_err-part.ensures.said c.read_part.ensures.uses in
    let e : most_at c.args.head c.args.count c.args.depth c.args.names c.args.table.now c.args.at
    ≡ Err c.in_err-part.field-0.0 = simp o.0 in
    search rules

pub read_most-returns-in_err-part-clause-uses : goal.read_most-returns-in_err-part-clause-uses
unfolding most_uses_at
read_most-returns-in_err-part-clause-uses t c =
    let o = one-part c.loop.counter c.args.count c.args.head c.args.depth c.args.names c.args.table.now c.args.at c.loop.sum
    c.args.sets.now c.loop.sets _ _ c.loop-test.true c.loop.invariant.0 c.loop.invariant.1
    c.in_err-part.ensures.said c.read_part.ensures.uses in
    sym o.1

pub read_most-returns : goal.read_most-returns
unfolding most_at most_uses_at
read_most-returns t c =
    let z : c.args.count - c.loop.counter ≡ 0 = omega arith in
    let n = most-none _ _ _ _ _ _ _ z in
    record { said = simp (c.loop.invariant.0 ∙ n.0, c.gather.ensures); uses = sym (c.loop.invariant.1 ∙ n.1) }

pub read_par-add-sum-requires : goal.read_par-add-sum-requires
read_par-add-sum-requires t c =
    -- what is counted of the branch that is read
    let h = stmt-counts {p = c.in_ok-part.part} _ _ _ _ (sym c.in_ok-part.ensures.said) in
    (omega arith, omega arith, omega arith, omega arith)

pub read_par-loop-preserved : goal.read_par-loop-preserved
read_par-loop-preserved t c =
    let h = stmt-counts {p = c.in_ok-part.part} _ _ _ _ (sym c.in_ok-part.ensures.said) in
    let more = one-branch c.loop.counter c.args.count c.args.depth c.args.names c.args.table.now c.args.at
    (record { total = c.loop.sum; before = c.loop.before; bad = c.loop.bad }) _ _ c.loop-test.true c.loop.invariant.0
    c.in_ok-part.ensures.said c.read_stmt.ensures.uses in (
      more ∙ simp (c.add-sum.ensures, c.merge.ensures, c.clash-bad.ensures),
      rw c.add-sum.ensures (omega arith),
      rw c.add-sum.ensures (omega arith),
    )

pub read_par-returns-in_err-part-clause-said : goal.read_par-returns-in_err-part-clause-said
unfolding par_at
read_par-returns-in_err-part-clause-said t c =
    let o = one-branch c.loop.counter c.args.count c.args.depth c.args.names c.args.table.now c.args.at
    (record { total = c.loop.sum; before = c.loop.before; bad = c.loop.bad }) _ _ c.loop-test.true c.loop.invariant.0
    c.in_err-part.ensures.said c.read_stmt.ensures.uses in
    let e : par_at c.args.place c.args.count c.args.depth c.args.names c.args.table.now c.args.at
    ≡ Err c.in_err-part.field-0.0 = simp o in
    search rules

pub read_par-returns-in_err-part-clause-uses : goal.read_par-returns-in_err-part-clause-uses
unfolding par_uses_at
read_par-returns-in_err-part-clause-uses t c =
    let o = one-branch c.loop.counter c.args.count c.args.depth c.args.names c.args.table.now c.args.at
    (record { total = c.loop.sum; before = c.loop.before; bad = c.loop.bad }) _ _ c.loop-test.true c.loop.invariant.0
    c.in_err-part.ensures.said c.read_stmt.ensures.uses in
    simp o

pub read_par-returns : goal.read_par-returns
unfolding par_at par_uses_at
read_par-returns t c =
    let z : c.args.count - c.loop.counter ≡ 0 = omega arith in
    let e = c.loop.invariant.0 ∙ branches-none _ _ _ _ _ z in
    record { said = simp (e, c.close_par.ensures); uses = c.merge-2.ensures ∙ simp e }

pub read_stmt-returns-then-depth-eq0 : goal.read_stmt-returns-then-depth-eq0
read_stmt-returns-then-depth-eq0 t c =
    let h = none _ _ _ _ _ c.if-depth-eq0.true in
    record {
      said = sym (h.0 ∙ simp c.read_deep.ensures);
      uses = sym h.1;
      exact = exact-of _ _ _ _ _ _ (λ i. (c.type_inv.table i).fits) c.requires.0 (sym h.1);
    }

pub read_stmt-read_inside-requires : goal.read_stmt-read_inside-requires
read_stmt-read_inside-requires t c =
    let b = rw (← c.in_ok-number.ensures.said) at (between_in 0 last_statement c.args.table.now c.args.at) in (
      omega arith,
      (same-fits _ _ c.if-depth-eq0.false c.requires.0, c.requires.1, omega (arith, b, c.requires.1)),
    )

pub read_stmt-returns : goal.read_stmt-returns
read_stmt-returns t c =
    let h = first c.args.depth c.args.names c.args.table.now c.args.at c.args.sets.now _ c.if-depth-eq0.false
    c.in_ok-number.ensures.said in
    record {
      said = c.read_inside.ensures.said ∙ sym (h.0 ∙ simp (← c.stmt_kind-kind.ensures));
      uses = c.read_inside.ensures.uses ∙ sym (h.1 ∙ simp (← c.stmt_kind-kind.ensures));
      exact = exact-of _ _ _ _ _ _ (λ i. (c.type_inv.table i).fits) c.requires.0
          (c.read_inside.ensures.uses ∙ sym (h.1 ∙ simp (← c.stmt_kind-kind.ensures)));
    }

pub read_stmt-returns-in_err-number-clause-said : goal.read_stmt-returns-in_err-number-clause-said
read_stmt-returns-in_err-number-clause-said t c =
    let h = first c.args.depth c.args.names c.args.table.now c.args.at c.args.sets.now _ c.if-depth-eq0.false
    c.in_err-number.ensures.said in
    search rules

pub read_stmt-returns-in_err-number-clause-uses : goal.read_stmt-returns-in_err-number-clause-uses
read_stmt-returns-in_err-number-clause-uses t c =
    let h = first c.args.depth c.args.names c.args.table.now c.args.at c.args.sets.now _ c.if-depth-eq0.false
    c.in_err-number.ensures.said in
    sym h.1

pub read_stmt-returns-in_err-number-clause-exact : goal.read_stmt-returns-in_err-number-clause-exact
read_stmt-returns-in_err-number-clause-exact t c =
    let h = first c.args.depth c.args.names c.args.table.now c.args.at c.args.sets.now _ c.if-depth-eq0.false
    c.in_err-number.ensures.said in
    exact-of _ _ _ _ _ _ (λ i. (c.type_inv.table i).fits) c.requires.0 (sym h.1)
