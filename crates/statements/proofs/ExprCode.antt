-- What is put into the list for an expression is the model's code.
use Prim.Native.Nat.{ℕ, zero, suc, ◌+◌, ◌-◌, ◌≤◌}
use native.Mathlib.Omega.{arith}
use native.Mathlib.Nat.{mod-eq_of_lt}
use mathlib.Core.Path.{◌≡◌, ap, ◌∙◌}
use mathlib.Core.List.{List, [], ◌∷◌, ◌++◌, append_assoc}
use mathlib.Core.Option.{some}
use lib.ListN.{length, get_or, get_elem?}
use lib.Seq.{sets}
use borrow.Author.Tests.{ne_eqb}
use Rattle.assembler.specs.declared.entry.Entry.{Entry}
use Rattle.model.specs.Limits.{word_limit, depth_limit}
use Rattle.model.specs.Word.{low, minus}
use Rattle.model.specs.Syntax.{Site, Expr}
use Rattle.model.specs.declared.kinds.Operator.{Operator}
use Rattle.model.specs.declared.kinds.Operator.TheVariants.{Plus as PLUS, Minus as MINUS, Times as TIMES, Gt as GT, Eq as EQ, And as AND}
use Rattle.model.specs.declared.kinds.Operator.TheVariants.{Or as OR, Xor as XOR}
use Rattle.model.specs.Counts.{order, sides_hold, both_hold, temporaries}
use Rattle.model.proofs.Tables.Needs.{sides-hold}
use Rattle.model.specs.declared.kinds.Order.{Order}
use Rattle.model.specs.declared.kinds.Order.TheVariants.{LeftFirst, RightFirst, RightStored}
use Rattle.model.specs.Instruction.{Instruction, plain, operation, ldc, ldl, stl, ajw, eqc, rev, function_code, operation_code}
use Rattle.model.specs.Scheme.{operator_code, sides_code, wrapped, local, expr_code}
use Rattle.table.proofs.SameItems.{operator-is}
use Rattle.assembler.specs.Entries.{entries_of}
use Rattle.expressions.specs.Emits.{Code, at, operation_into}
use Rattle.expressions.specs.Names.{local_of}
use Rattle.expressions.specs.Exprs.{Wrote, written, code_of, operator_into, constant_into, variable_into, in_order, between_into}
use Rattle.expressions.specs.Exprs.{behind_into}
use Rattle.expressions.specs.Exprs.{sides_of, time_and_condition, sides_into, operated_into, expr_into, lowering, adjust_into, whole_into}
use Rattle.expressions.specs.Exprs.{both_into}
use Rattle.statements.proofs.Spelled.{OneAt, ExprAt, constant_at, variable_at, not_at, binary_at}
use Rattle.statements.proofs.Planned.{PlannedExpr, holds-few}
use Rattle.statements.proofs.Fills.{filled, fill-then, Room, room-left, room-right, emits-fills, emits-at}

-- each name's word stands at its number; `depth` levels are left
pub record Named (word : Site → ℕ) (depth : ℕ) (sites : List Site) (ws : List ℕ) : Type 0 where
  pub word-is : (k : ℕ) (x : Site) → get_elem? sites k ≡ some x → get_or ws k 0 ≡ word x
  pub long : length ws ≡ length sites
  pub deep : depth ≤ depth_limit

-- what puts instructions into the list, for a part of the table that ends before a place
abbrev Writes : (Code → Wrote) → (next : ℕ) → List Instruction → Type 0
Writes into n xs = (h : ℕ) (o : List Entry) → Room h xs → into (at h o) ≡ written n (filled h xs o)

-- two sides in each order. Left stands at a place, right at another; g values are held before
sides-fill : (inner : (held at : ℕ) → Code → Wrote) (ord : Order) (i j p q g tl tr : ℕ) (left : ℕ → List Instruction)
    (right : List Instruction) → g + sides_hold ord tl tr ≤ word_limit
    → ((k : ℕ) → k + tl ≤ word_limit → Writes (inner k i) j (left k)) → (g + tr ≤ word_limit → Writes (inner g p) q right)
    → (h : ℕ) (o : List Entry) → Room h (sides_code ord g left right)
    → let a = in_order ord g i p in
    let one = inner g a.first (at h o) in
    let two = inner a.held a.second (between_into a.order g (code_of one)) in
    behind_into a.order g (code_of two) ≡ filled h (sides_code ord g left right) o
unfolding sides_code sides_hold between_into behind_into function_code operation_code operation_into
sides-fill inner LeftFirst i j p q g tl tr left right few wl wr h o r =
    let L = left g in
    rw (
      wl g (omega arith) h o (room-left h L right r),
      wr (omega arith) (h + length L) (sets o h (entries_of L)) (room-right h L right r),
    )
    (fill-then h L right o)
sides-fill inner RightFirst i j p q g tl tr left right few wl wr h o r =
    let L = left g in
    let sides = room-left h (right ++ L) (operation rev ∷ []) r in
    rw (
      wr (omega arith) h o (room-left h right L sides),
      wl g (omega arith) (h + length right) (sets o h (entries_of right)) (room-right h right L sides),
      fill-then h right L o,
    )
    (emits-fills (operation rev ∷ []) h (right ++ L) o r)
sides-fill inner RightStored i j p q g tl tr left right few wl wr h o r =
    let L = left (suc g) in
    let next : low (g + 1) ≡ suc g = mod-eq_of_lt (omega arith) ∙ omega arith in
    let stored = right ++ plain stl g ∷ [] in
    let all : stored ++ L ≡ right ++ plain stl g ∷ L = append_assoc right (plain stl g ∷ []) L in
    let sides : Room h (stored ++ L) = rw all (room-left h (right ++ plain stl g ∷ L) (plain ldl g ∷ []) r) in
    rw (
      next,
      wr (omega arith) h o (room-left h right _ (room-left h stored L sides)),
      emits-fills (plain stl g ∷ []) h right o (room-left h stored L sides),
      wl (suc g) (omega arith) (h + length stored) (sets o h (entries_of stored)) (room-right h stored L sides),
      fill-then h stored L o,
      all,
    )
    (emits-fills (plain ldl g ∷ []) h (right ++ plain stl g ∷ L) o r)

-- code with t stored values, wrapped in its two AJWs
wrapped-fills : (into : (w : ℕ) → Code → Wrote) (n t more w : ℕ) (code : ℕ → List Instruction) → t + more ≤ 8192
    → ((v : ℕ) → Writes (into v) n (code v))
    → let m = lowering t more in
    Writes (λ c. let e = into (w - m) (adjust_into m (minus m) c) in written e.next (adjust_into m m (code_of e))) n
    (wrapped t more w code)
unfolding lowering adjust_into wrapped function_code
wrapped-fills into n zero more w code few f h o r =
    let same : w - 0 ≡ w = omega arith in
    rw (same, f w h o r)
wrapped-fills into n (suc t) more w code few f h o r =
    let m = suc t + more in
    let A = plain ajw (minus m) ∷ [] in
    let C = code (w - m) in
    let front = room-left h (A ++ C) (plain ajw m ∷ []) r in
    let lowered : lowering (suc t) more ≡ m = rw (ne_eqb (suc t) 0 (omega arith)) (mod-eq_of_lt (omega arith)) in
    rw (
      lowered,
      ne_eqb m 0 (omega arith),
      emits-at A h o (room-left h A C front),
      f (w - m) (h + length A) (sets o h (entries_of A)) (room-right h A C front),
      fill-then h A C o,
    )
    (ap (written n) (emits-fills (plain ajw m ∷ []) h (A ++ C) o r))

operator-fills : (op : Operator) (h : ℕ) (o : List Entry) → Room h (operator_code op) →
    operator_into op (at h o) ≡ filled h (operator_code op) o
unfolding operator_into operator_code operation_code function_code operation_into
operator-fills PLUS h o l = emits-at (operator_code PLUS) h o l
operator-fills MINUS h o l = emits-at (operator_code MINUS) h o l
operator-fills TIMES h o l = emits-at (operator_code TIMES) h o l
operator-fills GT h o l = emits-at (operator_code GT) h o l
operator-fills EQ h o l = emits-at (operator_code EQ) h o l
operator-fills AND h o l = emits-at (operator_code AND) h o l
operator-fills OR h o l = emits-at (operator_code OR) h o l
operator-fills XOR h o l = emits-at (operator_code XOR) h o l

module _ (word : Site → ℕ) (s : List ℕ) where
  pub local-is : {k : ℕ} {vs : List Site} {ws : List ℕ} → Named word k vs ws → (w : ℕ) {i n : ℕ} {x : Site} (a : OneAt s vs i x n)
      → local_of ws a.index w ≡ local word w x
  unfolding local_of
  local-is names w a = rw (names.word-is a.index _ a.listed)

  module _ (plan : List ℕ) {k : ℕ} {vs : List Site} {ws : List ℕ} (names : Named word k vs ws) (w : ℕ) where
    expr-code : {d i n : ℕ} {e : Expr} (a : ExprAt s vs d i e n) → PlannedExpr s plan a → d ≤ 32 → (g : ℕ) → g + temporaries e ≤ word_limit
        → Writes (λ c. expr_into d w ws plan s g i c) n (expr_code word w g e)
    unfolding expr_into operated_into sides_of sides_into expr_code constant_into variable_into function_code temporaries
    expr-code (constant_at v k t) told deep g few h o r =
        rw (k.value, k.is, t.value) (ap (written _) (emits-at (plain ldc v ∷ []) h o r))
    expr-code (variable_at {x = y} k x) told deep g few h o r =
        rw (k.value, k.is, x.there.value, local-is names w x) (ap (written _) (emits-at (plain ldl (local word w y) ∷ []) h o r))
    expr-code (not_at {e = e} k a) told deep g few h o r =
        rw (k.value, k.is, expr-code a told.1 (omega arith) g few h o (room-left h (expr_code word w g e) (plain eqc 0 ∷ []) r))
        (ap (written _) (emits-fills (plain eqc 0 ∷ []) h (expr_code word w g e) o r))
    expr-code (binary_at {d = d} {m = m} {p = p} {q = q} {op = op} {l = le} {r = re} k v a c) told deep g few h o r =
        let S = sides_code (order le re) g (λ k. expr_code word w k le) (expr_code word w g re) in
        let x = told.1.0.0 in
        let y = told.1.1.0 in
        rw (
          k.value,
          k.is,
          v.there.value,
          operator-is v.index v.listed,
          x.next,
          x.needs,
          y.next,
          y.needs,
          sides-fill (λ g i c. expr_into d w ws plan s g i c) (order le re) m p p q g (temporaries le) (temporaries re)
              (λ k. expr_code word w k le) (expr_code word w g re) few (λ k l. expr-code a told.1.0 (omega arith) k l)
              (λ l. expr-code c told.1.1 (omega arith) g l) h o (room-left h S (operator_code op) r),
          operator-fills op (h + length S) (sets o h (entries_of S)) (room-right h S _ r),
        )
        (ap (written _) (fill-then h S (operator_code op) o))

  -- a whole expression, with so many words more below W
  pub whole-coded : (plan : List ℕ) {d i n : ℕ} {vs : List Site} {ws : List ℕ} {e : Expr} (more : ℕ) → more ≤ word_limit
      → Named word (suc d) vs ws → (w : ℕ) (a : ExprAt s vs d i e n) → PlannedExpr s plan a → (h : ℕ) (o : List Entry)
      → let X = wrapped (temporaries e) more w (λ v. expr_code word v 0 e) in
      Room h X → whole_into d w more ws plan s i (at h o) ≡ written n (filled h X o)
  unfolding whole_into
  whole-coded plan {d} {i} {n} {vs} {ws} {e} more few names w a told =
      let deep : d ≤ 32 = omega (arith, names.deep) in
      let held = holds-few s a in
      rw told.0.holds
      (wrapped-fills (λ v c. expr_into d v ws plan s 0 i c) n (temporaries e) more w (λ v. expr_code word v 0 e) (omega arith)
      (λ v. expr-code plan names v a told deep 0 (omega arith)))

  -- a time guard's time and condition, with so many words more below W
  pub both-coded : (plan : List ℕ) {d i m n : ℕ} {vs : List Site} {ws : List ℕ} {e t : Expr} (more : ℕ) → more ≤ word_limit
      → Named word (suc d) vs ws → (w : ℕ) (a : ExprAt s vs d i e m) → PlannedExpr s plan a → (b : ExprAt s vs d m t n)
      → PlannedExpr s plan b → (h : ℕ) (o : List Entry)
      → let X = wrapped (both_hold t e) more w (λ v. sides_code (order t e) 0 (λ k. expr_code word v k t) (expr_code word v 0 e)) in
      Room h X → both_into d w more ws plan s i (at h o) ≡ written n (filled h X o)
  unfolding both_into sides_into sides_of time_and_condition
  both-coded plan {d} {i} {m} {n} {vs} {ws} {e} {t} more few names w a x b y =
      let deep : d ≤ 32 = omega (arith, names.deep) in
      let held = sides-hold (order t e) (temporaries t) (temporaries e) in
      let one = holds-few s a in
      let two = holds-few s b in
      rw (x.0.next, x.0.needs, x.0.holds, y.0.next, y.0.needs, y.0.holds)
      (wrapped-fills
      (λ v c.
      let a = in_order (order t e) 0 m i in
      let one = expr_into d v ws plan s 0 a.first c in
      let two = expr_into d v ws plan s a.held a.second (between_into a.order 0 (code_of one)) in
      written n (behind_into a.order 0 (code_of two)))
      n (both_hold t e) more w (λ v. sides_code (order t e) 0 (λ k. expr_code word v k t) (expr_code word v 0 e)) (omega arith)
      (λ v h o r. ap (written n)
      (sides-fill (λ g i c. expr_into d v ws plan s g i c) (order t e) m n i m 0 (temporaries t) (temporaries e)
      (λ k. expr_code word v k t) (expr_code word v 0 e) (omega arith) (λ k l. expr-code plan names v b y deep k l)
      (λ l. expr-code plan names v a x deep 0 l) h o r)))
