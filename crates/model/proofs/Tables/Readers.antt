-- What reading a table gives: a program that is well formed, with its declarations at places of the table.
use Prim.Native.Nat.{ℕ, zero, suc, ◌+◌, ◌^◌, ◌≤◌, ◌<◌}
use mathlib.Core.Path.{◌≡◌, refl, ◌∙◌}
use mathlib.Core.Bool.{Bool, true, false}
use mathlib.Core.List.{List, [], ◌∷◌, Memᴰ}
use mathlib.Core.Option.{Option, none, some}
use native.Mathlib.Omega.{arith}
use lib.ListN.{length, get_elem?, length-drop}
use lib.Dec.{leb, ltb, eqb}
use borrow.Author.Tests.{leb-true, ltb-true}
use Rattle.model.specs.Limits.{table_limit, depth_limit, name_limit, part_limit, branch_limit}
use Rattle.model.specs.Number.{Number, groups, number}
use Rattle.model.specs.Syntax.{Site, Expr, Stmt, Stmts, no_stmt, stmt, Pairs, Guard, Guards, Program}
use Rattle.model.specs.Reader.{Parsed, parsed, fails, Reader, onward, pure, refuse, read_number, one_of, read_count, Scope, read_name}
use Rattle.model.specs.Reader.{can_input, can_output, any_site, with_variables, with_channels, expr_kinds, operators, too_deep, expr_of}
use Rattle.model.specs.Reader.{read_expr, read_many, stmt_kinds, guard_kinds, Inner, read_pair, guard_of, read_guard, stmt_of, read_stmt}
use Rattle.model.specs.Reader.{read_program, program, read_table}
use Rattle.model.specs.declared.Reason.{Reason}
use Rattle.model.specs.declared.kinds.ExprKind.{ExprKind}
use Rattle.model.specs.declared.kinds.ExprKind.TheVariants.{Constant, Variable, Not, Binary}
use Rattle.model.specs.declared.kinds.StmtKind.{StmtKind}
use Rattle.model.specs.declared.kinds.StmtKind.TheVariants.{Skip, Stop, Assign, Input, Output, Var, Chan, Seq, Par, If, While, Alt}
use Rattle.model.specs.declared.kinds.StmtKind.TheVariants.{Time, Wait}
use Rattle.model.specs.declared.kinds.GuardKind.{GuardKind}
use Rattle.model.specs.declared.kinds.GuardKind.TheVariants.{Input as InputGuard, Skip as SkipGuard, Time as TimeGuard}
use Rattle.model.specs.Scheme.{how_many}
use Rattle.model.proofs.Cases.{by_bool, by-option, by-parsed, never, is_true_lem}
use Rattle.model.proofs.Tables.WellFormed.{WellExpr, Well, WellAll, WellPairs, WellGuard, WellGuards, WellProgram, Placed, PlacedAll}
use Rattle.model.proofs.Tables.WellFormed.{PlacedPairs, PlacedGuards}

-- a number at the front of k bytes
abbrev Sized : ℕ → Option Number → Type 0
Sized k none = Unit {0}
Sized k (some n) = (1 ≤ n.size) × (n.size ≤ k)

groups-sized : (bytes : List ℕ) → Sized (length bytes) (groups bytes)
unfolding groups
groups-sized [] = tt
groups-sized (b ∷ bytes) =
    let rest = groups-sized bytes in
    by_bool (ltb b 128) (λ e. rw e (omega arith)) (λ e. by-option (groups bytes) (λ f. rw (e, f) tt) (λ n f. more e n f (rw f at rest)))
  where
    more : ltb b 128 ≡ false → (n : Number) → groups bytes ≡ some n → Sized (length bytes) (some n)
        → Sized (suc (length bytes)) (groups (b ∷ bytes))
    more e n f s = by_bool (eqb n.value 0) (λ g. rw (e, f, g) tt) (λ g. rw (e, f, g) (omega arith))

-- what a table's number is
pub number-sized : (bytes : List ℕ) (n : Number) → number bytes ≡ some n → (1 ≤ n.size) × (n.size ≤ length bytes) × (n.value < 2 ^ 32)
unfolding number
number-sized bytes n h =
    by-option (groups bytes) (λ f. never (cc (rw f at h))) λ m e.
    let small = is_true_lem (ltb m.value (2 ^ 32)) (λ f. cc (rw (e, f) at h)) in
    let same : m ≡ n = cc (rw (e, small) at h) in
    let s : Sized (length bytes) (some m) = rw e at (groups-sized bytes) in
    rw (← same) (s.0, s.1, ltb-true m.value (2 ^ 32) small)

-- a reading that does not fail gives P
abbrev Gives : {A : Type 0} → (A → ℕ → List ℕ → Type 0) → Parsed A → Type 0
Gives P (parsed a at bytes) = P a at bytes
Gives P (fails n p) = Unit {0}

-- and what follows from P
gives_more : {A : Type 0} {P Q : A → ℕ → List ℕ → Type 0} (m : Parsed A)
    → ((a : A) (at : ℕ) (bytes : List ℕ) → P a at bytes → Q a at bytes) → Gives P m → Gives Q m
gives_more (parsed a at bytes) f g = f a at bytes g
gives_more (fails n p) f g = tt

-- in a table of so many bytes, what is read from a place on, up to another place, is as P says
record Sound (end : ℕ) (A : Type 0) (at : ℕ) (P : ℕ → A → Type 0) (read : List ℕ → Parsed A) : Type 0 where
  holds : (bytes : List ℕ) → at + length bytes ≡ end → Gives (λ a to left. (at ≤ to) × (to + length left ≡ end) × P to a) (read bytes)

-- what stands at an index is in the list
found : {A : Type 0} {a : A} (l : List A) (n : ℕ) → get_elem? l n ≡ some a → Memᴰ a l
found [] n e = never cc
found {a} (b ∷ l) zero e = Memᴰ.head (let q : a ≡ b = cc in q)
found (b ∷ l) (suc n) e = Memᴰ.tail (found l n e)

module _ {end : ℕ} where
  relaxed : {A : Type 0} {at : ℕ} {P Q : ℕ → A → Type 0} {read : List ℕ → Parsed A}
      → ((to : ℕ) (a : A) → at ≤ to → P to a → Q to a) → Sound end A at P read → Sound end A at Q read
  relaxed {read} f h =
      record { holds = λ bytes e. gives_more (read bytes) (λ a to left g. (g.0, g.1, f to a g.0 g.2)) (h.holds bytes e) }

  -- one part, and then another from where it ends
  next : {A B : Type 0} {at : ℕ} {P : ℕ → A → Type 0} {Q : ℕ → B → Type 0} {read : List ℕ → Parsed A} {f : A → Reader B}
      → Sound end A at P read
      → ((mid : ℕ) (a : A) → at ≤ mid → P mid a → Sound end B mid Q (f a mid))
      → Sound end B at Q (λ bytes. onward (read bytes) f)
  next {A} {at} {P} {Q} {read} {f} first rest = record { holds = λ bytes e. go (read bytes) (first.holds bytes e) }
    where
      go : (m : Parsed A) → Gives (λ a to left. (at ≤ to) × (to + length left ≡ end) × P to a) m
          → Gives (λ b to left. (at ≤ to) × (to + length left ≡ end) × Q to b) (onward m f)
      go (parsed a mid left) g =
          gives_more (f a mid left) (λ b to more h. (omega arith, h.1, h.2)) ((rest mid a g.0 g.2).holds left g.1)
      go (fails n p) g = tt

  done : {A : Type 0} {at : ℕ} {P : ℕ → A → Type 0} {a : A} → P at a → Sound end A at P (pure a at)
  done p = record { holds = λ bytes e. (omega arith, e, p) }

  turned : {A : Type 0} {at : ℕ} {P : ℕ → A → Type 0} {why : Reason} {p : ℕ} → Sound end A at P (refuse why p at)
  turned = record { holds = λ bytes e. tt }

  -- the readers, each with what it gives
  number-reads : (at : ℕ) → Sound end ℕ at (λ to n. (at < to) × (n < 2 ^ 32)) (read_number at)
  unfolding read_number
  number-reads at =
      record {
        holds =
            λ bytes e.
            by-option (number bytes)
            (λ f. rw f tt)
            (λ n f. let h = number-sized bytes n f in rw f (omega arith, omega (arith, length-drop n.size bytes), (omega arith, h.2)));
      }

  one-reads : {A : Type 0} (things : List A) (at : ℕ) → Sound end A at (λ to a. at < to) (one_of things at)
  unfolding one_of
  one-reads things at =
      next (number-reads at) λ to n h g. by-option (get_elem? things n) (λ e. rw e turned) (λ a e. rw e (done g.0))

  count-reads : (lo hi at : ℕ) → Sound end ℕ at (λ to n. (lo ≤ n) × (n ≤ hi)) (read_count lo hi at)
  unfolding read_count
  count-reads lo hi at =
      next (number-reads at) λ to n h g.
      by_bool (leb lo n)
      (λ e. by_bool (leb n hi) (λ f. rw (e, f) (done (leb-true lo n e, leb-true n hi f))) (λ f. rw (e, f) turned))
      (λ e. rw e turned)

  name-reads : (fits : Site → Bool) (names : List Site) (at : ℕ)
      → Sound end Site at (λ to s. Memᴰ s names × (fits s ≡ true)) (read_name fits names at)
  unfolding read_name
  name-reads fits names at =
      next (number-reads at) λ to n h g.
      by-option (get_elem? names n)
      (λ e. rw e turned)
      (λ s e. by_bool (fits s) (λ f. rw (e, f) (done (found names n e, f))) (λ f. rw (e, f) turned))

  variable-reads : (sc : Scope) (at : ℕ)
      → Sound end Site at (λ to x. Memᴰ x sc.variables) (read_name any_site sc.variables at)
  variable-reads sc at = relaxed (λ to x le g. g.0) (name-reads any_site sc.variables at)

  -- more than 32 deep nothing is read
  deep-reads : {A : Type 0} {P : ℕ → A → Type 0} (at : ℕ) → Sound end A at P (too_deep at)
  unfolding too_deep
  deep-reads at = next (number-reads at) λ to n h g. turned

  -- what follows an expression's kind, where the expressions inside are read as they should be
  expr-of : (sc : Scope) {inner : Reader Expr} → ((at : ℕ) → Sound end Expr at (λ to e. WellExpr sc e) (inner at))
      → (k : ExprKind) (at : ℕ) → Sound end Expr at (λ to e. WellExpr sc e) (expr_of sc inner k at)
  unfolding expr_of
  expr-of sc h Constant at = next (number-reads at) λ to n le g. done g.1
  expr-of sc h Variable at = next (variable-reads sc at) λ to x le g. done g
  expr-of sc h Not at = next (h at) λ to e le g. done g
  expr-of sc h Binary at =
      next (one-reads operators at) λ to₁ op le₁ g. next (h to₁) λ to₂ l le₂ gl. next (h to₂) λ to₃ r le₃ gr. done (gl, gr)

  expr-reads : (d : ℕ) (sc : Scope) (at : ℕ) → Sound end Expr at (λ to e. WellExpr sc e) (read_expr d sc at)
  unfolding read_expr
  expr-reads zero sc at = deep-reads at
  expr-reads (suc d) sc at = next (one-reads expr_kinds at) λ to k le g. expr-of sc (expr-reads d sc) k to

  -- so many parts, where each part read extends what is read after it
  many-reads : {A L : Type 0} {empty : L} {more : A → L → L} {part : Reader A} (Q : (n at to : ℕ) → L → Type 0)
      → ((at : ℕ) → Q 0 at at empty)
      → ((n at : ℕ) → Sound end A at (λ mid a. (to : ℕ) (l : L) → Q n mid to l → Q (suc n) at to (more a l)) (part at))
      → (n at : ℕ) → Sound end L at (Q n at) (read_many empty more part n at)
  unfolding read_many
  many-reads Q none_left one zero at = done (none_left at)
  many-reads Q none_left one (suc n) at =
      next (one n at) λ mid a le g. next (many-reads Q none_left one n mid) λ to l le₂ h. done (g to l h)

-- statements read from one place up to another: well formed, and placed from there on
abbrev ReadStmt : Scope → (at to : ℕ) → Stmt → Type 0
ReadStmt sc at to s = Well sc s × ((lo : ℕ) → lo ≤ at → Placed lo to s)

abbrev ReadAll : Scope → (n at to : ℕ) → Stmts → Type 0
ReadAll sc n at to ss = (how_many ss ≡ n) × WellAll sc ss × ((lo : ℕ) → lo ≤ at → PlacedAll lo to ss)

abbrev ReadPairs : Scope → (at to : ℕ) → Pairs → Type 0
ReadPairs sc at to ps = WellPairs sc ps × ((lo : ℕ) → lo ≤ at → PlacedPairs lo to ps)

abbrev ReadGuards : Scope → (at to : ℕ) → Guards → Type 0
ReadGuards sc at to gs = WellGuards sc gs × ((lo : ℕ) → lo ≤ at → PlacedGuards lo to gs)

-- what is put in front of a list that goes on at mid
abbrev Extends : {L : Type 0} → ((at to : ℕ) → L → Type 0) → (at mid : ℕ) → (L → L) → Type 0
Extends {L} Q at mid f = (to : ℕ) (l : L) → Q mid to l → Q at to (f l)

-- the parts inside a statement are read as they should be
record InnerSound (end : ℕ) (sc : Scope) (inner : Inner) : Type 0 where
  whole : (at : ℕ) → Sound end Expr at (λ to e. WellExpr sc e) (inner.expr at)
  body : (sc₂ : Scope) (at : ℕ) → Sound end Stmt at (ReadStmt sc₂ at) (inner.stmt sc₂ at)

module _ {end : ℕ} {sc : Scope} {inner : Inner} (i : InnerSound end sc inner) where
  all-reads : (n at : ℕ) → Sound end Stmts at (ReadAll sc n at) (read_many no_stmt stmt (inner.stmt sc) n at)
  unfolding how_many
  all-reads =
      many-reads (ReadAll sc)
      (λ at. (refl, tt, λ lo h. h))
      (λ n at.
      relaxed (λ mid s le g to ss h. (cc, (g.0, h.1), λ lo l. (mid, g.1 lo l, h.2 mid (omega arith)))) (i.body sc at))

  pair_reads : (at : ℕ) → Sound end (Pairs → Pairs) at (Extends (ReadPairs sc) at) (read_pair sc inner at)
  unfolding read_pair
  pair_reads at =
      next (i.whole at) λ at₁ e le₁ ge. next (i.body sc at₁) λ mid s le₂ gs.
      done λ to ps h. ((ge, gs.0, h.0), λ lo l. (mid, gs.1 lo (omega arith), h.1 mid (omega arith)))

  guard-of : (k : GuardKind) (at : ℕ) → Sound end Guard at (λ to g. WellGuard sc g) (guard_of sc inner.expr k at)
  unfolding guard_of
  guard-of InputGuard at =
      next (i.whole at) λ at₁ e le₁ ge. next (name-reads can_input sc.channels at₁) λ at₂ c le₂ gc.
      next (variable-reads sc at₂) λ at₃ x le₃ gx. done (ge, gc, gx)
  guard-of SkipGuard at = next (i.whole at) λ at₁ e le₁ ge. done ge
  guard-of TimeGuard at = next (i.whole at) λ at₁ e le₁ ge. next (i.whole at₁) λ at₂ t le₂ gt. done (ge, gt)

  guard-reads : (at : ℕ) → Sound end (Guards → Guards) at (Extends (ReadGuards sc) at) (read_guard sc inner at)
  unfolding read_guard
  guard-reads at =
      next (one-reads guard_kinds at) λ at₁ k le₁ gk. next (guard-of k at₁) λ at₂ g le₂ gg. next (i.body sc at₂) λ mid s le₃ gs.
      done λ to l h. ((gg, gs.0, h.0), λ lo le. (mid, gs.1 lo (omega arith), h.1 mid (omega arith)))

  -- what follows the kind of a statement at p
  stmt-of : (p at : ℕ) → p < at → (k : StmtKind) → Sound end Stmt at (ReadStmt sc p) (stmt_of p sc inner k at)
  unfolding stmt_of
  stmt-of p at lt Skip = done (tt, λ lo l. omega arith)
  stmt-of p at lt Stop = done (tt, λ lo l. omega arith)
  stmt-of p at lt Assign =
      next (variable-reads sc at) λ at₁ x le₁ gx. next (i.whole at₁) λ to e le₂ ge. done ((gx, ge), λ lo l. omega arith)
  stmt-of p at lt Input =
      next (name-reads can_input sc.channels at) λ at₁ c le₁ gc. next (variable-reads sc at₁) λ to x le₂ gx.
      done ((gc, gx), λ lo l. omega arith)
  stmt-of p at lt Output =
      next (name-reads can_output sc.channels at) λ at₁ c le₁ gc. next (i.whole at₁) λ to e le₂ ge.
      done ((gc, ge), λ lo l. omega arith)
  stmt-of p at lt Var =
      next (count-reads 1 name_limit at) λ at₁ n le₁ gn. next (i.body (with_variables p n sc) at₁) λ to s le₂ gs.
      done ((gn.0, gn.1, gs.0), λ lo l. (l, gs.1 (suc p) (omega arith)))
  stmt-of p at lt Chan =
      next (count-reads 1 name_limit at) λ at₁ n le₁ gn. next (i.body (with_channels p n sc) at₁) λ to s le₂ gs.
      done ((gn.0, gn.1, gs.0), λ lo l. (l, gs.1 (suc p) (omega arith)))
  stmt-of p at lt Seq =
      next (count-reads 0 part_limit at) λ at₁ n le₁ gn. next (all-reads n at₁) λ to ss le₂ g. done (g.1, λ lo l. g.2 lo (omega arith))
  stmt-of p at lt Par =
      next (count-reads 0 branch_limit at) λ at₁ n le₁ gn. next (all-reads n at₁) λ to ss le₂ g.
      done ((omega arith, g.1), λ lo l. g.2 lo (omega arith))
  stmt-of p at lt If =
      next (count-reads 0 part_limit at) λ at₁ n le₁ gn.
      next (many-reads (λ n. ReadPairs sc) (λ at. (tt, λ lo h. h)) (λ k. pair_reads) n at₁) λ to ps le₂ g.
      done (g.0, λ lo l. g.1 lo (omega arith))
  stmt-of p at lt While =
      next (i.whole at) λ at₁ e le₁ ge. next (i.body sc at₁) λ to s le₂ gs. done ((ge, gs.0), λ lo l. gs.1 lo (omega arith))
  stmt-of p at lt Alt =
      next (count-reads 0 part_limit at) λ at₁ n le₁ gn.
      next (many-reads (λ n. ReadGuards sc) (λ at. (tt, λ lo h. h)) (λ k. guard-reads) n at₁) λ to ps le₂ g.
      done (g.0, λ lo l. g.1 lo (omega arith))
  stmt-of p at lt Time = next (variable-reads sc at) λ to x le₁ gx. done (gx, λ lo l. omega arith)
  stmt-of p at lt Wait = next (i.whole at) λ to e le₁ ge. done (ge, λ lo l. omega arith)

stmt-reads : {end : ℕ} (d : ℕ) (sc : Scope) (at : ℕ) → Sound end Stmt at (ReadStmt sc at) (read_stmt d sc at)
unfolding read_stmt
stmt-reads zero sc at = deep-reads at
stmt-reads (suc d) sc at =
    next (one-reads stmt_kinds at) λ to k le g. stmt-of (record { whole = expr-reads d sc; body = stmt-reads d }) at to g k

program-reads : (end : ℕ) → Sound end Program 0 (λ to p. WellProgram p × Placed 0 to p.body) (read_program 0)
unfolding read_program
program-reads end =
    next (count-reads 0 8 0) λ at₁ ins le₁ gi. next (count-reads 0 8 at₁) λ at₂ outs le₂ go.
    next (stmt-reads depth_limit _ at₂) λ to s le₃ gs. done ((gi.1, go.1, gs.0), gs.1 0 (omega arith))

-- a table that was read was read to its end, as a well-formed program whose declarations stand at places of the table
pub record ReadWhole (table : List ℕ) (p : Program) : Type 0 where
  pub reads : read_program 0 table ≡ parsed p (length table) []
  pub short : length table ≤ table_limit
  pub well : WellProgram p
  pub placed : Placed 0 (length table) p.body

pub read_whole : (table : List ℕ) (p : Program) → read_table table ≡ program p → ReadWhole table p
unfolding read_table
read_whole table p h =
    let e₁ = is_true_lem (leb 1 (length table)) (λ f. cc (rw f at h)) in
    let e₂ = is_true_lem (leb (length table) table_limit) (λ f. cc (rw (e₁, f) at h)) in
    by-parsed (read_program 0 table)
    (λ n at f. never (cc (rw (e₁, e₂, f) at h)))
    (λ q to e.
    let same : q ≡ p = cc (rw (e₁, e₂, e) at h) in
    let g = rw e at ((program-reads (length table)).holds table (omega arith)) in
    let all : to ≡ length table = omega (arith, g.1) in
    let good : WellProgram p × Placed 0 (length table) p.body = rw (same, all) at g.2 in
    record { reads = e ∙ rw (same, all) refl; short = leb-true _ _ e₂; well = good.0; placed = good.1 })
    (λ q to b left f. never (cc (rw (e₁, e₂, f) at h)))

pub read-well : (table : List ℕ) (p : Program) → read_table table ≡ program p → WellProgram p × Placed 0 (length table) p.body
read-well table p h = let r = read_whole table p h in (r.well, r.placed)
