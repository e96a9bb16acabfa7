-- What a statement is counted with is bounded by its bytes, and a name is below its count.
use Prim.Native.Nat.{ℕ, zero, suc, ◌+◌, ◌-◌, ◌*◌, ◌≤◌, ◌<◌, max}
use native.Mathlib.Omega.{arith}
use mathlib.Core.Path.{◌≡◌}
use mathlib.Core.Bool.{◌&&◌, ◌||◌, or-true}
use mathlib.Core.List.{List}
use lib.ListN.{length, get_or}
use lib.Dec.{ltb, leb, eqb}
use borrow.Author.Tests.{leb-false, ltb-false}
use Rattle.model.proofs.Cases.{by_bool, of-cond}
use Rattle.numbers.specs.Items.{groups_at, number_at, between_at, name_at, with_read}
use Rattle.numbers.specs.Kinds.{expr_kind, by_expr, guard_kind, by_guard, stmt_kind, shape_of, by_shape, count_at}
use Rattle.numbers.specs.Kinds.{last_expression, last_guard, last_operator, last_statement}
use Rattle.model.specs.declared.kinds.ExprKind.{ExprKind}
use Rattle.model.specs.declared.kinds.ExprKind.TheVariants.{Constant, Variable, Not, Binary}
use Rattle.model.specs.declared.kinds.GuardKind.{GuardKind}
use Rattle.model.specs.declared.kinds.GuardKind.TheVariants.{Input as InputGuard, Skip as SkipGuard, Time as TimeGuard}
use Rattle.model.specs.declared.kinds.StmtKind.{StmtKind}
use Rattle.model.specs.declared.kinds.StmtKind.TheVariants.{Skip, Stop, Assign, Input, Output, Var, Chan, Seq, Par, If, While, Alt}
use Rattle.model.specs.declared.kinds.StmtKind.TheVariants.{Time, Wait}
use Rattle.numbers.specs.declared.kinds.Simple.{Simple}
use Rattle.numbers.specs.declared.kinds.Simple.TheVariants.{Skip as Idle, Stop as Stopping, Assign as Assigning, Input as Inputting}
use Rattle.numbers.specs.declared.kinds.Simple.TheVariants.{Output as Outputting, Time as Timing, Wait as Waiting}
use Rattle.numbers.specs.declared.kinds.Head.{Head}
use Rattle.numbers.specs.declared.kinds.Head.TheVariants.{Nothing, Condition, Guard}
use Rattle.numbers.specs.declared.kinds.Shape.{Shape}
use Rattle.numbers.specs.declared.kinds.Shape.TheVariants.{Simple as Bare, Declares, Branches as Side, Parts}
use Rattle.numbers.specs.declared.kinds.Count.{Count}
use Rattle.numbers.specs.declared.kinds.Count.TheVariants.{UpTo, Fixed}
use Rattle.counts.specs.declared.Role.{Role}
use Rattle.counts.specs.declared.Role.TheVariants.{Value, Output as Outward, Guard as ForGuard, Wait as ForWait, Time as ForTime}
use Rattle.model.specs.Counts.{order_of, sides_hold, guard_words}
use Rattle.model.proofs.Tables.Needs.{sides-hold}
use Rattle.table.specs.Exprs.{single, constant_at, used_at, sides, operated, expr_at}
use Rattle.counts.specs.Words.{asked, least_words}
use Rattle.table.specs.Stmts.{whole_at, variable_at, input_at, output_at, leaf, value_at, taken_at, timed_at}
use Rattle.table.specs.Stmts.{simple_at}
use Rattle.table.specs.Stmts.{waiting_at, both_at, guard_at}
use Rattle.table.specs.Stmts.{head_at, nothing, added, part_at, most_from, gathered, Branches, joined_by}
use Rattle.table.specs.Stmts.{branches_from, no_branches, par_of, more_names, declaring, inside_of, stmt_at, stmt_uses}
use Rattle.table.specs.Stmts.{part_in}
use Rattle.table.specs.Uses.{no_names}
use Rattle.std.specs.Prelude.{Option, Some, None, Result, Ok, Err}
use Rattle.std.specs.Option.{option_and_then, ok_or}
use Rattle.numbers.specs.declared.Misread.{Misread}
use Rattle.numbers.specs.declared.Number.{Number}
use Rattle.table.specs.declared.expr.Term.{Term}
use Rattle.table.specs.declared.stmt.Names.{Names}
use Rattle.table.specs.declared.stmt.Part.{Part}
use Rattle.table.specs.declared.stmt.Front.{Front}
use Rattle.table.specs.declared.stmt.Sum.{Sum}

-- the place after a part is behind its own and no further than the table
abbrev Inside : (at len : ℕ) → Option Number → Type 0
Inside at len (Some n) = (at < n.next) × (n.next ≤ len)
Inside at len None = Unit {0}

abbrev InItem : (at len : ℕ) → Result Number Misread → Type 0
InItem at len (Ok n) = (at < n.next) × (n.next ≤ len)
InItem at len (Err r) = Unit {0}

-- an expression stores fewer values than it has bytes
abbrev InExpr : (at len : ℕ) → Result Term Misread → Type 0
InExpr at len (Ok e) = (at < e.next) × (e.next ≤ len) × (e.stored < e.next - at)
InExpr at len (Err r) = Unit {0}

abbrev Most : ℕ → Result Number Misread → Type 0
Most hi (Ok n) = n.value ≤ hi
Most hi (Err r) = Unit {0}

-- a head may be empty; it ends from `from` on, and the words that it asks for are bounded by its bytes from base on
abbrev InHead : (base from len : ℕ) → Result Front Misread → Type 0
InHead base from len (Ok f) = (from ≤ f.next) × (f.next ≤ len) × (f.words ≤ 40 * (f.next - base))
InHead base from len (Err r) = Unit {0}

-- what follows a part that was read is as P says, where a refusal is
of-read : {A R : Type 0} {refuse : Misread → R} (P : R → Type 0) (Q : Result A Misread → Type 0) → ((r : Misread) → P (refuse r))
    → (x : Result A Misread) {f : A → R} → Q x → ((a : A) → Q (Ok a) → P (f a)) → P (with_read refuse x f)
of-read P Q r (Ok a) h g = g a h
of-read P Q r (Err e) h g = r e

-- the same after the groups of a number, where none is
of-groups : (P Q : Option Number → Type 0) → P None → (x : Option Number) {f : Number → Option Number} → Q x
    → ((n : Number) → Q (Some n) → P (f n)) → P (option_and_then f x)
of-groups P Q r (Some n) h g = g n h
of-groups P Q r None h g = r

groups-in : (k : ℕ) (s : List ℕ) (at : ℕ) → Inside at (length s) (groups_at k s at)
unfolding groups_at
groups-in zero s at = tt
groups-in (suc k) s at =
    by_bool (leb (length s) at) (λ e. rw e tt)
    (λ e. let l : at < length s = leb-false (length s) at e in
    rw e (of-cond (Inside at (length s)) (ltb (get_or s at 0) 128) (omega (arith, l))
    (of-groups (Inside at (length s)) (Inside (at + 1) (length s)) tt (groups_at k s (at + 1)) (groups-in k s (at + 1)) (λ n h.
    of-cond (Inside at (length s)) (eqb n.value 0) tt
    (of-cond (Inside at (length s)) (ltb n.value 33554432) (omega (arith, h.0, h.1)) tt)))))

number-in : (s : List ℕ) (at : ℕ) → InItem at (length s) (number_at s at)
unfolding number_at
number-in s at = of-option _ (groups_at 5 s at) (groups-in 5 s at)
  where
    of-option : (r : Misread) (x : Option Number) → Inside at (length s) x → InItem at (length s) (ok_or x r)
    of-option r (Some n) h = h
    of-option r None h = tt

pub between_in : (lo hi : ℕ) (s : List ℕ) (at : ℕ) → InItem at (length s) (between_at lo hi s at)
unfolding between_at
between_in lo hi s at =
    of-read (InItem at (length s)) (InItem at (length s)) (λ r. tt) (number_at s at) (number-in s at) (λ n h.
    of-cond (InItem at (length s)) (ltb n.value lo || ltb hi n.value) tt h)

name_in : (count from to : ℕ) (s : List ℕ) (at : ℕ) → InItem at (length s) (name_at count from to s at)
unfolding name_at
name_in count from to s at =
    of-read (InItem at (length s)) (InItem at (length s)) (λ r. tt) (number_at s at) (number-in s at) (λ n h.
    of-cond (InItem at (length s)) (leb count n.value || leb from n.value && ltb n.value to) tt h)

-- a count is in its bounds
between-most : (lo hi : ℕ) (s : List ℕ) (at : ℕ) → Most hi (between_at lo hi s at)
unfolding between_at
between-most lo hi s at =
    of-read (Most hi) (λ x. Unit {0}) (λ r. tt) (number_at s at) tt (λ n h.
    by_bool (ltb hi n.value) (λ e. rw (e, or-true (ltb n.value lo)) tt)
    (λ e. of-cond (Most hi) (ltb n.value lo || ltb hi n.value) tt (ltb-false hi n.value e)))

earlier-expr : (x : Result Term Misread) (from at len : ℕ) → from < at → InExpr at len x → InExpr from len x
earlier-expr (Ok e) from at len l h = (omega (arith, l, h.0), h.1, omega (arith, l, h.0, h.2))
earlier-expr (Err r) from at len l h = tt

leaf-in : (x : Result Number Misread) (at len : ℕ) → InItem at len x → InExpr at len (with_read Err x (λ n. Ok (single n.next)))
leaf-in x at len h =
    of-read (InExpr at len) (InItem at len) (λ r. tt) x h (λ n g. (g.0, g.1, omega (arith, g.0)))

sides-in : (inner : ℕ → Result Term Misread) (at len : ℕ) → ((i : ℕ) → InExpr i len (inner i)) → InExpr at len (sides inner at)
sides-in inner at len h =
    of-read (InExpr at len) (InExpr at len) (λ r. tt) (inner at) (h at) (λ l a.
    of-read (InExpr at len) (InExpr l.next len) (λ r. tt) (inner l.next) (h l.next) (λ r b. (
      omega (arith, a.0, b.0),
      b.1,
      omega (arith, a.0, a.2, b.0, b.2, sides-hold (order_of l.registers r.registers) l.stored r.stored),
    )))

expr-in : (d vs : ℕ) (s : List ℕ) (at : ℕ) → InExpr at (length s) (expr_at d vs s at)
unfolding expr_at used_at
expr-in zero vs s at = tt
expr-in (suc d) vs s at =
    of-read (InExpr at (length s)) (InItem at (length s)) (λ r. tt) (between_at 0 last_expression s at)
    (between_in 0 last_expression s at) (λ k h.
    earlier-expr (kinds (expr_kind k.value) k.next) at k.next (length s) h.0
    (of-kind (λ i. expr-in d vs s i) (expr_kind k.value) k.next))
  where
    kinds : ExprKind → ℕ → Result Term Misread
    kinds k n = by_expr k (constant_at s n) (used_at vs s n) (expr_at d vs s n) (operated (λ i. expr_at d vs s i) s n)

    of-kind : ((i : ℕ) → InExpr i (length s) (expr_at d vs s i)) → (k : ExprKind) (n : ℕ) → InExpr n (length s) (kinds k n)
    of-kind h Constant n = leaf-in (between_at 0 4294967295 s n) n (length s) (between_in 0 4294967295 s n)
    of-kind h Variable n = leaf-in (name_at vs 0 0 s n) n (length s) (name_in vs 0 0 s n)
    of-kind h Not n = h n
    of-kind h Binary n =
        of-read (InExpr n (length s)) (InItem n (length s)) (λ r. tt) (between_at 0 last_operator s n)
        (between_in 0 last_operator s n) (λ o g.
        earlier-expr (sides (λ i. expr_at d vs s i) o.next) n o.next (length s) g.0 (sides-in (λ i. expr_at d vs s i) o.next (length s) h))

-- what is counted from base on, for a statement that ends from `from` on
abbrev In : (base from len : ℕ) → Result Part Misread → Type 0
In base from len (Ok p) = (from ≤ p.next) × (p.next ≤ len) × (p.words ≤ 40 * (p.next - base)) × (p.processes ≤ p.next - base)
In base from len (Err r) = Unit {0}

later-stmt : (x : Result Part Misread) (base from from2 len : ℕ) → from ≤ from2 → In base from2 len x → In base from len x
later-stmt (Ok p) base from from2 len l h = (omega (arith, l, h.0), h.1, h.2, h.3)
later-stmt (Err r) base from from2 len l h = tt

leaf-small : (n words base from len : ℕ) → base < from → from ≤ n → n ≤ len → words ≤ 40 * (n - base) → In base from len (Ok (leaf n words))
leaf-small n words base from len l m u w = (m, u, w, omega (arith, l, m))

earlier-head : (x : Result Front Misread) (base from base2 from2 len : ℕ) → base2 ≤ base → from2 ≤ from → InHead base from len x
    → InHead base2 from2 len x
earlier-head (Ok f) base from base2 from2 len l m h = (omega (arith, m, h.0), h.1, omega (arith, l, h.2))
earlier-head (Err r) base from base2 from2 len l m h = tt

asked-most : (r : Role) (t : ℕ) → asked r t ≤ t + 8
unfolding asked guard_words
asked-most Value t = omega arith
asked-most Outward t = omega arith
asked-most ForGuard zero = omega arith
asked-most ForGuard (suc t) = omega arith
asked-most ForWait t = omega arith
asked-most ForTime zero = omega arith
asked-most ForTime (suc t) = omega arith

whole_in : (r : Role) (d vs : ℕ) (s : List ℕ) (at : ℕ) → InHead at at (length s) (whole_at r d vs s at)
unfolding whole_at
whole_in r d vs s at =
    of-read (InHead at at (length s)) (InExpr at (length s)) (λ r. tt) (expr_at d vs s at) (expr-in d vs s at) (λ e h.
    (omega (arith, h.0), h.1, omega (arith, h.0, h.2, asked-most r e.stored)))

value_in : (r : Role) (d vs : ℕ) (s : List ℕ) (base from at : ℕ) → base < from → from ≤ at
    → In base from (length s) (value_at r d vs s at)
unfolding value_at
value_in r d vs s base from at l m =
    of-read (In base from (length s)) (InHead at at (length s)) (λ r. tt) (whole_at r d vs s at) (whole_in r d vs s at) (λ f h.
    leaf-small f.next f.words base from (length s) l (omega (arith, m, h.0)) h.1 (omega (arith, l, m, h.0, h.2)))

-- a channel and a variable, behind what asks for so many words from base on
taken_in : (w : Names) (s : List ℕ) (base at a : ℕ) → base ≤ at → a ≤ 40 * (at - base) → InHead base at (length s) (taken_at w s at a)
unfolding taken_at
taken_in w s base at a l u =
    of-read (InHead base at (length s)) (InItem at (length s)) (λ r. tt) (input_at w s at) (name_in _ _ _ s at) (λ c h.
    of-read (InHead base at (length s)) (InItem c.next (length s)) (λ r. tt) (variable_at w s c.next) (name_in _ _ _ s c.next) (λ x g.
    (omega (arith, h.0, g.0), g.1, omega (arith, l, u, h.0, g.0))))

simple-in : (x : Simple) (d : ℕ) (w : Names) (s : List ℕ) (base at : ℕ) → base < at → at ≤ length s
    → In base at (length s) (simple_at x d w s at)
unfolding simple_at timed_at
simple-in Idle d w s base at l u = leaf-small at 2 base at (length s) l (omega arith) u (omega (arith, l))
simple-in Stopping d w s base at l u = leaf-small at 2 base at (length s) l (omega arith) u (omega (arith, l))
simple-in Assigning d w s base at l u =
    of-read (In base at (length s)) (InItem at (length s)) (λ r. tt) (variable_at w s at) (name_in _ _ _ s at) (λ x h.
    value_in Value d w.variables s base at x.next l (omega (arith, h.0)))
simple-in Inputting d w s base at l u =
    of-read (In base at (length s)) (InHead base at (length s)) (λ r. tt) (taken_at w s at 3)
    (taken_in w s base at 3 (omega (arith, l)) (omega (arith, l))) (λ f h.
    leaf-small f.next f.words base at (length s) l h.0 h.1 h.2)
simple-in Outputting d w s base at l u =
    of-read (In base at (length s)) (InItem at (length s)) (λ r. tt) (output_at w s at) (name_in _ _ _ s at) (λ x h.
    value_in Outward d w.variables s base at x.next l (omega (arith, h.0)))
simple-in Timing d w s base at l u =
    of-read (In base at (length s)) (InItem at (length s)) (λ r. tt) (variable_at w s at) (name_in _ _ _ s at) (λ x h.
    leaf-small x.next 2 base at (length s) l (omega (arith, h.0)) h.1 (omega (arith, l, h.0)))
simple-in Waiting d w s base at l u = value_in ForWait d w.variables s base at at l (omega arith)

waiting-in : (d : ℕ) (w : Names) (s : List ℕ) (at : ℕ) → InHead at at (length s) (waiting_at d w s at)
unfolding waiting_at
waiting-in d w s at =
    of-read (InHead at at (length s)) (InHead at at (length s)) (λ r. tt) (whole_at ForGuard d w.variables s at)
    (whole_in ForGuard d w.variables s at) (λ f h.
    earlier-head (taken_at w s f.next f.words) at f.next at at (length s) (omega arith) h.0 (taken_in w s at f.next f.words h.0 h.2))

both-in : (d vs : ℕ) (s : List ℕ) (at : ℕ) → InHead at at (length s) (both_at d vs s at)
unfolding both_at
both-in d vs s at =
    of-read (InHead at at (length s)) (InExpr at (length s)) (λ r. tt) (expr_at d vs s at) (expr-in d vs s at) (λ e a.
    of-read (InHead at at (length s)) (InExpr e.next (length s)) (λ r. tt) (expr_at d vs s e.next) (expr-in d vs s e.next)
    (λ t b.
    let o = order_of t.registers e.registers in
    let held = sides-hold o t.stored e.stored in (
      omega (arith, a.0, b.0),
      b.1,
      omega (arith, a.0, a.2, b.0, b.2, held, asked-most ForTime (sides_hold o t.stored e.stored)),
    )))

guard-in : (d : ℕ) (w : Names) (s : List ℕ) (at : ℕ) → InHead at at (length s) (guard_at d w s at)
unfolding guard_at
guard-in d w s at =
    of-read (InHead at at (length s)) (InItem at (length s)) (λ r. tt) (between_at 0 last_guard s at)
    (between_in 0 last_guard s at) (λ g b.
    let l : at ≤ g.next = omega (arith, b.0) in
    earlier-head (kinds (guard_kind g.value) g.next) g.next g.next at at (length s) l l (of-kind (guard_kind g.value) g.next))
  where
    kinds : GuardKind → ℕ → Result Front Misread
    kinds k n = by_guard k (waiting_at d w s n) (whole_at ForGuard d w.variables s n) (both_at d w.variables s n)

    of-kind : (k : GuardKind) (n : ℕ) → InHead n n (length s) (kinds k n)
    of-kind InputGuard n = waiting-in d w s n
    of-kind SkipGuard n = whole_in ForGuard d w.variables s n
    of-kind TimeGuard n = both-in d w.variables s n

-- the head of a part; an empty one ends where it begins
abbrev After : ℕ → Result Front Misread → Type 0
After from (Ok f) = (from ≤ f.next) × (f.words ≤ 40 * (f.next - from))
After from (Err r) = Unit {0}

of-in : (x : Result Front Misread) (at len : ℕ) → InHead at at len x → After at x
of-in (Ok f) at len h = (h.0, h.2)
of-in (Err r) at len h = tt

head-after : (h : Head) (d : ℕ) (w : Names) (s : List ℕ) (at : ℕ) → After at (head_at h d w s at)
unfolding head_at
head-after Nothing d w s at = (omega arith, omega arith)
head-after Condition d w s at = of-in (whole_at Value d w.variables s at) at (length s) (whole_in Value d w.variables s at)
head-after Guard d w s at = of-in (guard_at d w s at) at (length s) (guard-in d w s at)

-- a statement ends behind its place and in the table, and its words and processes are bounded by its bytes
abbrev pub Small : (at len : ℕ) → Result Part Misread → Type 0
Small at len x = In at (suc at) len x

part_in_lem : (e : Head) (d : ℕ) (w : Names) (inner : ℕ → Result Part Misread) (s : List ℕ) (at : ℕ)
    → ((n : ℕ) → Small n (length s) (inner n))
    → Small at (length s) (part_at e d w inner s at)
unfolding part_at
part_in_lem e d w inner s at h =
    of-read (Small at (length s)) (After at) (λ r. tt) (head_at e d w s at) (head-after e d w s at) (λ f l.
    of-read (Small at (length s)) (Small f.next (length s)) (λ r. tt) (inner f.next) (h f.next) (λ p g.
    (omega (arith, l.0, g.0), g.1, omega (arith, l.0, l.1, g.0, g.2), omega (arith, l.0, g.3))))

-- what is counted over parts from base on
record SumIn (base from len : ℕ) (t : Sum) : Type 0 where
  reached : from ≤ t.next
  inside : t.next ≤ len
  most : t.most ≤ 40 * (t.next - base)
  sum : t.sum ≤ 40 * (t.next - base)
  live : t.live ≤ t.next - base
  all : t.all ≤ t.next - base

abbrev InSum : (base from len : ℕ) → Result Sum Misread → Type 0
InSum base from len (Ok t) = SumIn base from len t
InSum base from len (Err r) = Unit {0}

nothing-in : (base at len : ℕ) → at ≤ len → SumIn base at len (nothing at)
nothing-in base at len l =
    record { reached = omega arith; inside = l; most = omega arith; sum = omega arith; live = omega arith; all = omega arith }

added-in : (base from len : ℕ) (t : Sum) (p : Part) → base ≤ from → SumIn base from len t → Small t.next len (Ok p)
    → SumIn base from len (added t p)
added-in base from len t p b h k =
    let r : from ≤ p.next = omega (arith, h.reached, k.0) in
    let m : max t.most p.words ≤ 40 * (p.next - base) = omega (arith, h.reached, b, h.most, k.0, k.2) in
    let a : t.sum + p.words ≤ 40 * (p.next - base) = omega (arith, h.reached, b, h.sum, k.0, k.2) in
    let l : max t.live p.processes ≤ p.next - base = omega (arith, h.reached, b, h.live, k.0, k.3) in
    let e : t.all + p.processes ≤ p.next - base = omega (arith, h.reached, b, h.all, k.0, k.3) in
    record { reached = r; inside = k.1; most = m; sum = a; live = l; all = e }

most-in : (i : ℕ) (e : Head) (d : ℕ) (w : Names) (inner : ℕ → Result Part Misread) (s : List ℕ) (t : Sum) (base from : ℕ) → base ≤ from
    → ((n : ℕ) → Small n (length s) (inner n)) → SumIn base from (length s) t → InSum base from (length s) (most_from i e d w inner s t)
unfolding most_from
most-in zero e d w inner s t base from b h g = g
most-in (suc i) e d w inner s t base from b h g =
    of-read (InSum base from (length s)) (Small t.next (length s)) (λ r. tt) (part_at e d w inner s t.next)
    (part_in_lem e d w inner s t.next h)
    (λ p q. most-in i e d w inner s (added t p) base from b h (added-in base from (length s) t p b g q))

gathered-in : (e : Head) (t : Sum) (base from len : ℕ) → base < from → SumIn base from len t → In base from len (Ok (gathered e t))
gathered-in e t base from len l h = (h.reached, h.inside, words e, omega (arith, l, h.reached, h.live))
  where
    words : (e : Head) → max (least_words e) t.most ≤ 40 * (t.next - base)
    words Nothing = omega (arith, l, h.reached, h.most)
    words Condition = omega (arith, l, h.reached, h.most)
    words Guard = omega (arith, l, h.reached, h.most)

-- what is counted over the branches of a PAR
abbrev InBranches : (base from len : ℕ) → Result Branches Misread → Type 0
InBranches base from len (Ok b) = SumIn base from len b.total
InBranches base from len (Err r) = Unit {0}

branches-in : (i : ℕ) (inner : ℕ → Result Part Misread) (uses : ℕ → List ℕ → List ℕ) (b : Branches) (base from len : ℕ) → base ≤ from
    → ((n : ℕ) → Small n len (inner n)) → SumIn base from len b.total → InBranches base from len (branches_from i inner uses b)
unfolding branches_from
branches-in zero inner uses b base from len l h g = g
branches-in (suc i) inner uses b base from len l h g =
    of-read (InBranches base from len) (Small b.total.next len) (λ r. tt) (inner b.total.next) (h b.total.next) (λ p q.
    branches-in i inner uses (joined_by (uses b.total.next no_names) b p) base from len l h
    (added-in base from len b.total p l g q))

par-in : (x : Result Branches Misread) (place base from len : ℕ) → base < from → InBranches (suc base) from len x
    → In base from len (with_read Err x (λ b. Ok (par_of place b.total b.bad)))
par-in (Ok b) place base from len l g =
    (g.reached, g.inside, omega (arith, l, g.reached, g.sum), omega (arith, l, g.reached, g.all))
par-in (Err r) place base from len l g = tt

-- a count of parts is at most 32, and the place after it is in the table
abbrev FewOf : Count → Type 0
FewOf (UpTo m) = m ≤ 32
FewOf (Fixed n) = n ≤ 32

abbrev pub FewIn : Shape → Type 0
FewIn (Bare x) = Unit {0}
FewIn (Declares x) = Unit {0}
FewIn (Side m) = FewOf m
FewIn (Parts h m) = FewOf m

pub few : (k : StmtKind) → FewIn (shape_of k)
few Skip = tt
few Stop = tt
few Assign = tt
few Input = tt
few Output = tt
few Var = tt
few Chan = tt
few Seq = omega arith
few Par = omega arith
few If = omega arith
few While = omega arith
few Alt = omega arith
few Time = tt
few Wait = tt

abbrev Behind : (at len : ℕ) → Result Number Misread → Type 0
Behind at len (Ok c) = (at ≤ c.next) × (c.next ≤ len)
Behind at len (Err r) = Unit {0}

few-most : (m : Count) (s : List ℕ) (at : ℕ) → FewOf m → Most 32 (count_at m s at)
unfolding count_at
few-most (UpTo m) s at l = wider (between_at 0 m s at) (between-most 0 m s at)
  where
    wider : (x : Result Number Misread) → Most m x → Most 32 x
    wider (Ok c) h = omega (arith, l, h)
    wider (Err r) h = tt
few-most (Fixed n) s at l = l

count-behind : (m : Count) (s : List ℕ) (at : ℕ) → at ≤ length s → Behind at (length s) (count_at m s at)
unfolding count_at
count-behind (UpTo m) s at u = later (between_at 0 m s at) (between_in 0 m s at)
  where
    later : (x : Result Number Misread) → InItem at (length s) x → Behind at (length s) x
    later (Ok c) h = (omega (arith, h.0), h.1)
    later (Err r) h = tt
count-behind (Fixed n) s at u = (omega arith, u)

pub count-few : {c : Number} (m : Count) (s : List ℕ) (at : ℕ) → FewOf m → count_at m s at ≡ Ok c → c.value ≤ 32
count-few m s at l e = rw e at (few-most m s at l)

inside-in : (place : ℕ) (k : StmtKind) (d : ℕ) (w : Names) (inner : Names → ℕ → Result Part Misread) (uses : Names → ℕ → List ℕ → List ℕ)
    (s : List ℕ)
    (at : ℕ)
    → place < at → at ≤ length s → ((v : Names) (n : ℕ) → Small n (length s) (inner v n))
    → Small place (length s) (inside_of place k d w inner uses s at)
inside-in place k d w inner uses s at l u h =
    of-shape (shape_of k) (few k)
  where
    most : (e : Head) (c n : ℕ) → place < n → n ≤ length s
        → Small place (length s) (with_read Err (most_from c e d w (inner w) s (nothing n)) (λ t. Ok (gathered e t)))
    most e c n a b =
        of-read (Small place (length s)) (InSum place n (length s)) (λ r. tt) (most_from c e d w (inner w) s (nothing n))
        (most-in c e d w (inner w) s (nothing n) place n (omega (arith, a)) (h w) (nothing-in place n (length s) b))
        (λ t g. later-stmt (Ok (gathered e t)) place (suc place) n (length s) a (gathered-in e t place n (length s) a g))

    read : ℕ → ℕ → Result Branches Misread
    read c n = branches_from c (inner w) (uses w) (no_branches n)

    par : (c n : ℕ) → place < n → n ≤ length s
        → Small place (length s) (with_read Err (read c n) (λ b. Ok (par_of place b.total b.bad)))
    par c n a b =
        later-stmt (with_read Err (read c n) (λ b. Ok (par_of place b.total b.bad))) place (suc place) n (length s) a
        (par-in (read c n) place place n (length s) a
        (branches-in c (inner w) (uses w) (no_branches n) (suc place) n (length s) a (h w) (nothing-in (suc place) n (length s) b)))

    of-shape : (x : Shape) → FewIn x
        → Small place (length s)
        (by_shape x (λ y. simple_at y d w s at)
        (λ y. with_read Err (between_at 1 32 s at) (λ c.
        with_read Err (inner (more_names y c.value w) c.next) (λ p. Ok (declaring c.value p))))
        (λ m. with_read Err (count_at m s at) (λ c. with_read Err (read c.value c.next) (λ b. Ok (par_of place b.total b.bad))))
        (λ e m. with_read Err (count_at m s at) (λ c.
        with_read Err (most_from c.value e d w (inner w) s (nothing c.next)) (λ t. Ok (gathered e t)))))
    of-shape (Bare y) f =
        later-stmt (simple_at y d w s at) place (suc place) at (length s) l (simple-in y d w s place at l u)
    of-shape (Declares y) f =
        of-read (Small place (length s)) (λ x. Most 32 x × InItem at (length s) x) (λ r. tt) (between_at 1 32 s at)
        (between-most 1 32 s at, between_in 1 32 s at) (λ c b.
        let a : place < c.next = omega (arith, l, b.1) in
        of-read (Small place (length s)) (Small c.next (length s)) (λ r. tt) (inner (more_names y c.value w) c.next)
        (h (more_names y c.value w) c.next) (λ p g.
        (omega (arith, a, g.0), g.1, omega (arith, b.0, a, g.0, g.2), omega (arith, a, g.3))))
    of-shape (Side m) f =
        of-read (Small place (length s)) (Behind at (length s)) (λ r. tt) (count_at m s at) (count-behind m s at u)
        (λ c b. par c.value c.next (omega (arith, l, b.0)) b.1)
    of-shape (Parts e m) f =
        of-read (Small place (length s)) (Behind at (length s)) (λ r. tt) (count_at m s at) (count-behind m s at u)
        (λ c b. most e c.value c.next (omega (arith, l, b.0)) b.1)

pub stmt-small : (d : ℕ) (w : Names) (s : List ℕ) (at : ℕ) → Small at (length s) (stmt_at d w s at)
unfolding stmt_at
stmt-small zero w s at = tt
stmt-small (suc d) w s at =
    of-read (Small at (length s)) (InItem at (length s)) (λ r. tt) (between_at 0 last_statement s at)
    (between_in 0 last_statement s at) (λ k h.
    inside-in at (stmt_kind k.value) d w (λ v i. stmt_at d v s i) (λ v i j. stmt_uses d v s i j) s k.next h.0 h.1
    (λ v i. stmt-small d v s i))

pub stmt-counts : {p : Part} (d : ℕ) (w : Names) (s : List ℕ) (at : ℕ) → stmt_at d w s at ≡ Ok p → Small at (length s) (Ok p)
stmt-counts d w s at e = rw e at (stmt-small d w s at)

pub part-counts : {p : Part} (h : Head) (d : ℕ) (w : Names) (s : List ℕ) (at : ℕ) → part_in h d w s at ≡ Ok p
    → Small at (length s) (Ok p)
unfolding part_in
part-counts h d w s at e = rw e at (part_in_lem h d w (λ i. stmt_at d w s i) s at (λ i. stmt-small d w s i))
