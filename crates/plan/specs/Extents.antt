-- The place after a part and the words that it needs, by places of the table (01, "Workspace and code"; 02, orders 2 and 4), with the plan
-- that has the entries of all in it.
use Rattle.std.specs.Prelude.{ℕ, zero, suc, ◌+◌, ◌*◌, ◌/◌, ◌%◌, ◌^◌, max, Bool, true, false, cond, List, replicate}
use Rattle.model.specs.Limits.{table_limit, depth_limit}
use Rattle.model.specs.Word.{low}
use Rattle.counts.specs.Words.{asked, least_words}
use Rattle.counts.specs.declared.Role.{Role}
use Rattle.counts.specs.declared.Role.TheVariants.{Value as ForValue, Output as ForOutput, Guard as ForGuard, Wait as ForWait}
use Rattle.counts.specs.declared.Role.TheVariants.{Time as ForTime}
use Rattle.numbers.specs.Items.{value_at}
use Rattle.plan.specs.Entries.{next_of, next_in, stored_in, plan_at, put_at, sides_held, expr_entered}
use Rattle.plan.specs.declared.extent.Extent.{Extent}
use Rattle.numbers.specs.Kinds.{stmt_kind, guard_kind, by_guard, by_head, by_shape, shape_of, count_in}
use Rattle.numbers.specs.declared.kinds.Simple.{Simple}
use Rattle.numbers.specs.declared.kinds.Simple.TheVariants.{Skip, Stop, Assign, Input, Output, Time, Wait}
use Rattle.numbers.specs.declared.kinds.Head.{Head}
use Rattle.numbers.specs.declared.kinds.Head.TheVariants.{Nothing}
use Rattle.model.specs.declared.kinds.StmtKind.{StmtKind}

-- the place after a statement, and the words that it needs
abbrev pub extended : (next need : ℕ) → Extent
extended n d = record { next = n; need = d }

-- its entry in a plan, 16 bits for each: a table has at most 16,384 bytes, and a program that is compiled at most 4,096 words (01, refusals
-- 1 and 10)
unfoldable pub extent_entry : Extent → ℕ
extent_entry e = e.next % 2 ^ 16 * 2 ^ 16 + e.need % 2 ^ 16

-- what a plan tells of the statement at a place
unfoldable pub extent_in : (plan : List ℕ) → (at : ℕ) → Extent
extent_in p at = let e = plan_at p at in extended (e / 2 ^ 16) (e % 2 ^ 16)

-- what is measured of a part: its extent, and the plan with the entries of all in it
pub record Measured : Type 0 where
  pub extent : Extent
  pub plan : List ℕ

abbrev pub measured : Extent → List ℕ → Measured
measured e p = record { extent = e; plan = p }

-- an expression that stands in no other, and the words that it asks for
unfoldable pub whole_measured : Role → (depth : ℕ) → List ℕ → (at : ℕ) → List ℕ → Measured
whole_measured r d s at p =
    let m = expr_entered d s at p in
    measured (extended (next_in m.own) (asked r (stored_in m.own))) m.plan

-- what follows the kind of a statement without statements inside. 01: SKIP, STOP 2; input 3. 02, order 4: TIME 2
unfoldable pub simple_measured : Simple → (depth : ℕ) → List ℕ → (at : ℕ) → List ℕ → Measured
simple_measured Skip d s at p = measured (extended at 2) p
simple_measured Stop d s at p = measured (extended at 2) p
simple_measured Assign d s at p = whole_measured ForValue d s (next_of s at) p
simple_measured Input d s at p = measured (extended (next_of s (next_of s at)) 3) p
simple_measured Output d s at p = whole_measured ForOutput d s (next_of s at) p
simple_measured Time d s at p = measured (extended (next_of s at) 2) p
simple_measured Wait d s at p = whole_measured ForWait d s at p

-- 02, order 4: the condition and the time of a time guard, and the words that they ask for as the right and the left side of an operator
unfoldable pub both_measured : (depth : ℕ) → List ℕ → (at : ℕ) → List ℕ → Measured
both_measured d s at p =
    let e = expr_entered d s at p in
    let t = expr_entered d s (next_in e.own) e.plan in
    measured (extended (next_in t.own) (asked ForTime (sides_held t.own e.own))) t.plan

-- a guard, and the words that it asks for
unfoldable pub guard_measured : (depth : ℕ) → List ℕ → (at : ℕ) → List ℕ → Measured
guard_measured d s at p =
    let k = value_at s at in
    let m = whole_measured ForGuard d s k.next p in
    let e = m.extent in
    by_guard (guard_kind k.value) (measured (extended (next_of s (next_of s e.next)) e.need) m.plan) m
    (both_measured d s k.next p)

-- what stands before the statement of a part, and the words that it asks for
unfoldable pub head_measured : Head → (depth : ℕ) → List ℕ → (at : ℕ) → List ℕ → Measured
head_measured h d s at p = by_head h (measured (extended at 0) p) (whole_measured ForValue d s at p) (guard_measured d s at p)

-- what is needed with one more part. 01: PAR the sum of branches; SEQ, IF, WHILE, ALT the most of the parts
abbrev pub joined : (beside : Bool) → (before part : ℕ) → ℕ
joined b n m = cond b (low (n + m)) (max n m)

-- so many parts, behind what is measured already, by what measures a statement inside
unfoldable pub parts_measured : (left : ℕ) → Head → (beside : Bool) → (ℕ → List ℕ → Measured) → (depth : ℕ) → List ℕ → Measured → Measured
parts_measured zero h b inner d s m = m
parts_measured (suc i) h b inner d s m =
    let x = head_measured h d s m.extent.next m.plan in
    let y = inner x.extent.next x.plan in
    let most = max m.extent.need x.extent.need in
    parts_measured i h b inner d s (measured (extended y.extent.next (joined b most y.extent.need)) y.plan)

-- what follows a kind, by its shape, and by what measures a statement inside. 01: VAR or CHAN count + body; SEQ, IF, WHILE at least 2; ALT
-- at least 4; PAR 2 + the sum of branches
unfoldable pub inside_measured : StmtKind → (ℕ → List ℕ → Measured) → (depth : ℕ) → List ℕ → (at : ℕ) → List ℕ → Measured
inside_measured k inner d s at p =
    by_shape (shape_of k) (λ x. simple_measured x d s at p)
    (λ x.
    let c = value_at s at in
    let m = inner c.next p in
    measured (extended m.extent.next (low (c.value + m.extent.need))) m.plan)
    (λ m. let n = count_in m s at in parts_measured n.value Nothing true inner d s (measured (extended n.next 2) p))
    (λ h m. let n = count_in m s at in parts_measured n.value h false inner d s (measured (extended n.next (least_words h)) p))

-- a statement, which has `depth` levels left: its own entry is put at its first place
unfoldable pub stmt_measured : (depth : ℕ) → List ℕ → (at : ℕ) → List ℕ → Measured
stmt_measured zero s at p = measured (extended at 2) p
stmt_measured (suc d) s at p =
    let k = value_at s at in
    let m = inside_measured (stmt_kind k.value) (λ i q. stmt_measured d s i q) d s k.next p in
    measured m.extent (put_at at (extent_entry m.extent) m.plan)

-- what measures the statements inside, which have `depth` left
abbrev pub inner_measured : (depth : ℕ) → List ℕ → (at : ℕ) → List ℕ → Measured
inner_measured d s i q = stmt_measured d s i q

-- the plan of a table: the entries of the statement behind the channel counts
unfoldable pub table_plan : List ℕ → (plan : List ℕ) → List ℕ
table_plan s p = (stmt_measured depth_limit s (next_of s (next_of s 0)) p).plan

-- from an empty one
abbrev pub plan_of : List ℕ → List ℕ
plan_of s = table_plan s (replicate table_limit 0)
