-- The plan of a table tells of its program: what is measured of a part is what it is, and is written at places of that part alone.
use Prim.Native.Nat.{ℕ, suc, ◌+◌, ◌*◌, ◌/◌, ◌%◌, ◌^◌, ◌≤◌, ◌<◌, max}
use native.Mathlib.Omega.{arith}
use native.Mathlib.Nat.{mod-eq_of_lt}
use mathlib.Core.Path.{◌≡◌, refl, sym, ap, subst, ◌∙◌}
use mathlib.Core.Bool.{Bool, true, false, cond}
use mathlib.Core.List.{List}
use lib.ListN.{length, length-set}
use lib.Seq.{get_or-set_same, get_or-set_other}
use lib.Dec.{ltb}
use borrow.Author.Tests.{lt-ltb}
use Rattle.model.specs.Limits.{word_limit, table_limit}
use Rattle.model.specs.Word.{low}
use Rattle.model.specs.Syntax.{Site, Expr, constant, variable, binary, Stmt, SKIP, STOP, input, Stmts, no_stmt, stmt, Pairs, Guard}
use Rattle.model.specs.Syntax.{Guards, WHILE, TIME}
use Rattle.model.specs.Reader.{Scope}
use Rattle.model.specs.Counts.{order, registers, temporaries, guard_words, both_hold, guard_asks, need, most_need, sum_need, pair_need}
use Rattle.model.specs.Counts.{guard_need}
use Rattle.model.proofs.Cases.{by_bool}
use Rattle.model.proofs.Tables.Needs.{sides-hold}
use Rattle.counts.specs.Words.{asked}
use Rattle.counts.specs.declared.Role.{Role}
use Rattle.counts.specs.declared.Role.TheVariants.{Value as ForValue, Output as ForOutput, Guard as ForGuard, Wait as ForWait}
use Rattle.plan.specs.Entries.{next_of, next_in, plan_at, put_at, sides_entry, Entered, entered, expr_entered, sides_entered, inner_entered}
use Rattle.plan.specs.Extents.{extended, extent_entry, extent_in, Measured, measured, whole_measured, simple_measured, guard_measured}
use Rattle.plan.specs.Extents.{both_measured, head_measured, joined, parts_measured, inside_measured, stmt_measured, inner_measured}
use Rattle.numbers.specs.Items.{value_at}
use Rattle.numbers.specs.Kinds.{stmt_kind, count_in}
use Rattle.numbers.specs.declared.kinds.Head.{Head}
use Rattle.numbers.specs.declared.kinds.Head.TheVariants.{Nothing, Condition, Guard as GuardHead}
use Rattle.statements.proofs.Spelled.{NumeralAt, KindAt, ExprAt, constant_at, variable_at, not_at, binary_at, GuardAt, input_guard_at}
use Rattle.statements.proofs.Spelled.{skip_guard_at, StmtAt, skip_at, stop_at, assign_at, input_at, output_at, var_at, chan_at, seq_at}
use Rattle.statements.proofs.Spelled.{par_at}
use Rattle.statements.proofs.Spelled.{if_at, while_at, alt_at, time_at, wait_at, StmtsAt, no_stmt_at, stmts_at, PairsAt, no_pair_at}
use Rattle.statements.proofs.Spelled.{pair_at}
use Rattle.statements.proofs.Spelled.{time_guard_at, GuardsAt, no_guard_at, guards_at}
use Rattle.statements.proofs.Planned.{Tells, entry-tells, next-is, expr-ends, holds-few, InsideExpr, PlannedExpr, PlannedGuard}
use Rattle.statements.proofs.Planned.{InsideStmt, PlannedStmts, PlannedPairs, PlannedGuards, PlannedStmt}

-- what is read from a statement's entry is what was put there
entry_gives : (n m : ℕ) → n < 2 ^ 16 → m < 2 ^ 16
    → (let x = extent_entry (extended n m) in extended (x / 2 ^ 16) (x % 2 ^ 16)) ≡ extended n m
unfolding extent_entry
entry_gives n m l k =
    let x = n % 2 ^ 16 * 2 ^ 16 + m % 2 ^ 16 in
    let place : x / 2 ^ 16 ≡ n = omega arith in
    let words : x % 2 ^ 16 ≡ m = omega arith in
    rw (place, words)

-- What is measured of a part, from lo up to hi: only there the plan is changed, and every plan that has the same there tells of the part.
record Leaves (s : List ℕ) (lo hi : ℕ) (p q : List ℕ) (P : List ℕ → Type 0) : Type 0 where
  forward : lo ≤ hi
  inside : hi ≤ length s
  long : length q ≡ length p
  others : (j : ℕ) → (lo ≤ j → j < hi → ⊥) → plan_at q j ≡ plan_at p j
  tells : (r : List ℕ) → ((j : ℕ) → lo ≤ j → j < hi → plan_at r j ≡ plan_at q j) → P r

put-there : (i x : ℕ) (p : List ℕ) → i < table_limit → length p ≡ table_limit → plan_at (put_at i x p) i ≡ x
unfolding put_at plan_at
put-there i x p l long = rw (lt-ltb i table_limit l) (get_or-set_same p i x 0 (omega arith))

put_other : (i j x : ℕ) (p : List ℕ) → (j ≡ i → ⊥) → plan_at (put_at i x p) j ≡ plan_at p j
unfolding put_at plan_at
put_other i j x p out =
    by_bool (ltb i table_limit) (λ e. rw (e, get_or-set_other p i j x 0 out)) (λ e. rw e)

put-long : (i x : ℕ) (p : List ℕ) → length (put_at i x p) ≡ length p
unfolding put_at
put-long i x p = by_bool (ltb i table_limit) (λ e. rw e (length-set p i x)) (λ e. rw e)

module _ (s : List ℕ) where
  nothing-in : (lo hi : ℕ) (p : List ℕ) → lo ≤ hi → hi ≤ length s → Leaves s lo hi p p (λ r. Unit {0})
  nothing-in lo hi p l m = record { forward = l; inside = m; long = refl; others = λ j out. refl; tells = λ r same. tt }

  -- the same of a longer stretch, and of what follows from what is told
  wider : {a b : ℕ} {p q : List ℕ} {P : List ℕ → Type 0} (lo hi : ℕ) → Leaves s a b p q P → lo ≤ a → b ≤ hi → hi ≤ length s
      → Leaves s lo hi p q P
  wider lo hi f l m in_table = record {
    forward = omega (arith, f.forward);
    inside = in_table;
    long = f.long;
    others = λ j out. f.others j (λ x y. out (omega arith) (omega arith));
    tells = λ r same. f.tells r (λ j x y. same j (omega arith) (omega arith));
  }

  follows : {lo hi : ℕ} {p q : List ℕ} {P Q : List ℕ → Type 0} → Leaves s lo hi p q P → ((x : List ℕ) → P x → Q x) → Leaves s lo hi p q Q
  follows f so = record {
    forward = f.forward;
    inside = f.inside;
    long = f.long;
    others = λ j out. f.others j out;
    tells = λ x same. so x (f.tells x same);
  }

  -- one part, and one behind it
  behind : {a b c d : ℕ} {p q r : List ℕ} {P Q : List ℕ → Type 0} → Leaves s a b p q P → Leaves s c d q r Q → b ≤ c
      → Leaves s a d p r (λ x. P x × Q x)
  behind f g l =
      let x = f.forward in
      let y = g.forward in
      record {
        forward = omega arith;
        inside = g.inside;
        long = g.long ∙ f.long;
        others = λ j out. g.others j (λ u v. out (omega arith) (omega arith)) ∙ f.others j (λ u v. out (omega arith) (omega arith));
        tells = λ r same. (
          f.tells r (λ j u v. same j (omega arith) (omega arith) ∙ g.others j (λ m n. omega arith)),
          g.tells r (λ j u v. same j (omega arith) (omega arith)),
        );
      }

  module _ (short : length s ≤ table_limit) where
    -- the own entry of what begins at i, put behind those in it
    own : {i n x : ℕ} {p q : List ℕ} {P O : List ℕ → Type 0} → length p ≡ table_limit → ((r : List ℕ) → plan_at r i ≡ x → O r)
        → Leaves s (suc i) n p q P → Leaves s i n p (put_at i x q) (λ r. O r × P r)
    own {i} {n} {x} {p} {q} long entry f =
        let ahead = f.forward in
        let in_table = f.inside in
        record {
          forward = omega arith;
          inside = in_table;
          long = put-long i x q ∙ f.long;
          others =
              λ j out.
              put_other i j x q (λ is. out (omega arith) (omega arith)) ∙ f.others j (λ u v. out (omega arith) (omega arith));
          tells = λ r same. (
            entry r (same i (omega arith) (omega arith) ∙ put-there i x q (omega arith) (f.long ∙ long)),
            f.tells r (λ j u v. same j (omega arith) (omega arith) ∙ put_other i j x q (λ is. omega arith)),
          );
        }

    -- what is measured of an expression: its entry tells of it
    abbrev ExprMade : {vs : List Site} {d i n : ℕ} {e : Expr} → List ℕ → ExprAt s vs d i e n → Entered → Type 0
    ExprMade {i = i} {n = n} {e = e} p a m = Tells m.own n e × Leaves s i n p m.plan (λ r. PlannedExpr s r a)

    told : {x y n : ℕ} {e : Expr} → y ≡ x → Tells x n e → Tells y n e
    told is t = rw is (record { next = t.next; needs = t.needs; holds = t.holds })

    expr-own : {vs : List Site} {d i n x : ℕ} {e : Expr} {p q : List ℕ} (a : ExprAt s vs d i e n) → length p ≡ table_limit → Tells x n e
        → Leaves s (suc i) n p q (λ r. InsideExpr s r a) → expr_entered d s i p ≡ entered x (put_at i x q)
        → ExprMade p a (expr_entered d s i p)
    expr-own {p = p} a long t f is = subst (λ m. ExprMade p a m) (sym is) (t, own long (λ r e. told e t) f)

    -- operator, left and right, by where they stand
    sides-turn : (d n m j : ℕ) (p : List ℕ) → next_of s n ≡ m → next_in (expr_entered d s m p).own ≡ j
        → let l = expr_entered d s m p in
        let r = expr_entered d s j l.plan in
        sides_entered (inner_entered d s) s n p ≡ entered (sides_entry l.own r.own) r.plan
    unfolding sides_entered
    sides-turn d n m j p e f = rw (e, f)

    expr-planned : {vs : List Site} {d i n : ℕ} {e : Expr} (p : List ℕ) (a : ExprAt s vs d i e n) → d ≤ 32 → length p ≡ table_limit
        → ExprMade p a (expr_entered d s i p)
    unfolding expr_entered sides_entry registers temporaries
    expr-planned {vs} p (constant_at {d = d} {at = i} {m = n} v k t) deep long =
        let a : ExprAt s vs (suc d) i (constant v) n = constant_at v k t in
        let ends = expr-ends s a in
        expr-own a long (entry-tells n (constant v) (omega arith) (omega arith)) (nothing-in (suc i) n p ends.0 ends.1)
        (rw (k.value, k.is, next-is s t))
    expr-planned {vs} p (variable_at {d = d} {at = i} {m = n} {x = y} k x) deep long =
        let a : ExprAt s vs (suc d) i (variable y) n = variable_at k x in
        let ends = expr-ends s a in
        expr-own a long (entry-tells n (variable y) (omega arith) (omega arith)) (nothing-in (suc i) n p ends.0 ends.1)
        (rw (k.value, k.is, next-is s x.there))
    expr-planned p (not_at {at = i} {m = n} k a) deep long =
        let (t, f) = expr-planned p a (omega arith) long in
        expr-own (not_at k a) long (record { next = t.next; needs = t.needs; holds = t.holds })
        (wider (suc i) n f k.ahead (omega arith) f.inside) (rw (k.value, k.is))
    expr-planned p (binary_at {d = d} {at = i} {n = n} {m = m} {p = j} {q = z} {op = op} {l = l} {r = r} k v a c) deep long =
        let left = expr_entered d s m p in
        let (x, f) = expr-planned p a (omega arith) long in
        let (y, g) = expr-planned left.plan c (omega arith) (f.long ∙ long) in
        let entry = sides_entry left.own (expr_entered d s j left.plan).own in
        let few = sides-hold (order l r) (temporaries l) (temporaries r) in
        let own-told = entry-tells z (binary op l r) (omega (arith, (expr-ends s c).1)) (omega (arith, few, holds-few s a, holds-few s c))
        in
        expr-own {x = entry} (binary_at k v a c) long (rw (x.needs, x.holds, y.next, y.needs, y.holds) own-told)
        (wider (suc i) z (behind f g (omega arith)) (omega (arith, k.ahead, v.there.ahead)) (omega arith) g.inside)
        (rw (k.value, k.is)
        (ap (λ m. entered m.own (put_at i m.own m.plan)) (sides-turn d n m j p (next-is s v.there) x.next)))

    -- what is measured of a part: its extent
    abbrev Made : (i n x : ℕ) → List ℕ → (List ℕ → Type 0) → Measured → Type 0
    Made i n x p P m = (m.extent ≡ extended n x) × Leaves s i n p m.plan P

    -- a kind and the number behind it lie ahead
    past : {A : Type 0} {of : ℕ → A} {k : A} {i n v m : ℕ} → KindAt s of i k n → NumeralAt s n v m → suc i ≤ m
    past k t = omega (arith, k.ahead, t.ahead)

    -- the same from a place before it on
    ahead : {i n x : ℕ} {p : List ℕ} {P : List ℕ → Type 0} (lo : ℕ) {m : Measured} → lo ≤ i → Made i n x p P m → Made lo n x p P m
    ahead lo l (t, f) = (t, wider lo _ f l (omega arith) f.inside)

    whole-made : {vs : List Site} {d i n : ℕ} {e : Expr} (r : Role) (p : List ℕ) (a : ExprAt s vs d i e n) → d ≤ 32 → length p ≡ table_limit
        → Made i n (asked r (temporaries e)) p (λ q. PlannedExpr s q a) (whole_measured r d s i p)
    unfolding whole_measured
    whole-made r p a deep long = let (t, f) = expr-planned p a deep long in (rw (t.next, t.holds), f)

    -- what stands before the statement of a part
    condition-made : {vs : List Site} {d i n : ℕ} {e : Expr} (p : List ℕ) (a : ExprAt s vs d i e n) → d ≤ 32 → length p ≡ table_limit
        → Made i n (temporaries e + 2) p (λ q. PlannedExpr s q a) (head_measured Condition d s i p)
    unfolding head_measured asked
    condition-made p a deep long = whole-made ForValue p a deep long

    both-made : {vs : List Site} {d i m n : ℕ} {e t : Expr} (p : List ℕ) (a : ExprAt s vs d i e m) (b : ExprAt s vs d m t n) → d ≤ 32
        → length p ≡ table_limit
        → Made i n (max 6 (guard_words (both_hold t e))) p (λ q. PlannedExpr s q a × PlannedExpr s q b) (both_measured d s i p)
    unfolding both_measured asked
    both-made {d = d} {i = i} {e = e} {t = t} p a b deep long =
        let (x, f) = expr-planned p a deep long in
        let (y, g) = expr-planned (expr_entered d s i p).plan b deep (f.long ∙ long) in
        rw x.next (rw (x.needs, x.holds, y.next, y.needs, y.holds), behind f g (omega arith))

    guard-made : {w : Scope} {d i n : ℕ} {g : Guard} (p : List ℕ) (a : GuardAt s d w i g n) → d ≤ 32 → length p ≡ table_limit
        → Made i n (guard_asks g) p (λ q. PlannedGuard s q a) (head_measured GuardHead d s i p)
    unfolding head_measured guard_measured guard_asks asked
    guard-made {i = i} {n = n} p (input_guard_at k e c x) deep long =
        let (t, f) = whole-made ForGuard p e deep long in
        rw (k.value, k.is) (
          rw (t, next-is s c.there, next-is s x.there),
          wider i n f (omega (arith, k.ahead)) (omega (arith, c.there.ahead, x.there.ahead)) x.there.inside,
        )
    guard-made {i = i} {n = n} p (skip_guard_at k e) deep long =
        rw (k.value, k.is) (ahead i (omega (arith, k.ahead)) (whole-made ForGuard p e deep long))
    guard-made {i = i} {n = n} p (time_guard_at k e t) deep long =
        rw (k.value, k.is) (ahead i (omega (arith, k.ahead)) (both-made p e t deep long))

    -- a statement by what is in it: its own entry is put at its first place
    stmt-own : {w : Scope} {d i n : ℕ} {b : Stmt} {p : List ℕ} (m : Measured) (a : StmtAt s (suc d) w i b n) → length p ≡ table_limit
        → need b ≤ word_limit → Made (suc i) n (need b) p (λ r. InsideStmt s r a) m
        → (let k = value_at s i in inside_measured (stmt_kind k.value) (inner_measured d s) d s k.next p) ≡ m
        → Made i n (need b) p (λ r. PlannedStmt s r a) (stmt_measured (suc d) s i p)
    unfolding stmt_measured extent_in
    stmt-own {i = i} {n = n} {b = b} {p = p} m a long l (e, f) is =
        let ends = f.inside in
        subst (λ x. Made i n (need b) p (λ r. PlannedStmt s r a) (measured x.extent (put_at i (extent_entry x.extent) x.plan)))
        (sym is) (e, own long (λ r x few. rw (x, e) (entry_gives n (need b) (omega arith) (omega arith))) f)

    -- so many parts, behind some that need x words
    abbrev parts_by : (k : ℕ) → Head → Bool → (d i x : ℕ) → List ℕ → Measured
    parts_by k h b d i x p = parts_measured k h b (inner_measured d s) d s (measured (extended i x) p)

    part-turn : (k : ℕ) (h : Head) (b : Bool) (d i j n x y z : ℕ) (p : List ℕ) → let q = head_measured h d s i p in
        q.extent ≡ extended j y → let r = stmt_measured d s j q.plan in
        r.extent ≡ extended n z → parts_by (suc k) h b d i x p ≡ parts_by k h b d n (joined b (max x y) z) r.plan
    unfolding parts_measured
    part-turn k h b d i j n x y z p f g = rw (f, g)

    -- what stands before a statement, the statement, and the parts behind it
    part-made : (k : ℕ) (h : Head) (b : Bool) (d x : ℕ) {i j m n y z u v : ℕ} {p : List ℕ} {P Q R : List ℕ → Type 0}
        → Made i j y p P (head_measured h d s i p) → let q = (head_measured h d s i p).plan in
        Made j m z q Q (stmt_measured d s j q) → let a = (stmt_measured d s j q).plan in
        Made m n u a R (parts_by k h b d m (joined b (max x y) z) a) → u ≡ v
        → Made i n v p (λ r. P r × Q r × R r) (parts_by (suc k) h b d i x p)
    part-made k h b d x {i} {j} {m} {n} {y} {z} {v = v} {p = p} {P} {Q} {R} (e, f) (t, g) (w, r) is =
        subst (λ a. Made i n v p (λ r. P r × Q r × R r) a) (sym (part-turn k h b d i j m x y z p e t))
        (w ∙ ap (extended n) is, follows (behind f (behind g r (omega arith)) (omega arith)) (λ r h. (h.0, h.1.0, h.1.1)))

    -- names around a body
    abbrev named : ℕ → Measured → Measured
    named k m = measured (extended m.extent.next (low (k + m.extent.need))) m.plan

    named-made : {i n x : ℕ} {p : List ℕ} {P : List ℕ → Type 0} (k : ℕ) {m : Measured} → k + x ≤ word_limit → Made i n x p P m
        → Made i n (k + x) p P (named k m)
    named-made {x = x} k l (t, f) = let sum : low (k + x) ≡ k + x = mod-eq_of_lt (omega arith) in (rw (t, sum), f)

    -- what statements need behind some that need x words: side by side the sum, else the most
    abbrev total : Bool → ℕ → Stmts → ℕ
    total b x ss = cond b (x + sum_need ss) (max x (most_need ss))

    total-none : (b : Bool) (x : ℕ) → x ≡ total b x no_stmt
    unfolding most_need
    total-none true x = omega arith
    total-none false x = omega arith

    total-turn : (b : Bool) (x : ℕ) (y : Stmt) (ss : Stmts) → total b x (stmt y ss) ≤ word_limit
        → (need y ≤ word_limit) × (total b (joined b (max x 0) (need y)) ss ≡ total b x (stmt y ss))
    unfolding most_need
    total-turn true x y ss l =
        let sum : low (max x 0 + need y) ≡ x + need y = mod-eq_of_lt (omega arith) ∙ omega arith in (omega arith, rw sum (omega arith))
    total-turn false x y ss l = (omega arith, omega arith)

    mutual
      unfolding inside_measured simple_measured head_measured parts_measured count_in asked InsideStmt need

      stmt-planned : {w : Scope} {d i n : ℕ} {b : Stmt} (p : List ℕ) (a : StmtAt s d w i b n) → d ≤ 32 → length p ≡ table_limit
          → need b ≤ word_limit → Made i n (need b) p (λ r. PlannedStmt s r a) (stmt_measured d s i p)
      stmt-planned {w = w} p (skip_at {d = d} {at = i} {n = n} k) deep long l =
          let a : StmtAt s (suc d) w i SKIP n = skip_at k in
          stmt-own (measured (extended n 2) p) a long l (refl, nothing-in (suc i) n p k.ahead k.inside) (rw (k.value, k.is))
      stmt-planned {w = w} p (stop_at {d = d} {at = i} {n = n} k) deep long l =
          let a : StmtAt s (suc d) w i STOP n = stop_at k in
          stmt-own (measured (extended n 2) p) a long l (refl, nothing-in (suc i) n p k.ahead k.inside) (rw (k.value, k.is))
      stmt-planned p (assign_at {d = d} {at = i} {m = j} {p = n} {w = w} k x e) deep long l =
          stmt-own (whole_measured ForValue d s j p) (assign_at {w = w} k x e) long l
          (ahead (suc i) (past k x.there) (whole-made ForValue p e (omega arith) long))
          (rw (k.value, k.is, next-is s x.there))
      stmt-planned {w = w} p (input_at {d = d} {at = i} {p = n} {c = u} {x = v} k c x) deep long l =
          let a : StmtAt s (suc d) w i (input u v) n = input_at k c x in
          stmt-own (measured (extended n 3) p) a long l
          (refl, nothing-in (suc i) n p (omega (arith, k.ahead, c.there.ahead, x.there.ahead)) x.there.inside)
          (rw (k.value, k.is, next-is s c.there, next-is s x.there))
      stmt-planned p (output_at {d = d} {at = i} {m = j} {p = n} {w = w} k c e) deep long l =
          stmt-own (whole_measured ForOutput d s j p) (output_at {w = w} k c e) long l
          (ahead (suc i) (past k c.there) (whole-made ForOutput p e (omega arith) long))
          (rw (k.value, k.is, next-is s c.there))
      stmt-planned p (var_at {d = d} {at = i} {m = j} {p = n} {k = q} {w = w} {b = b} k c a) deep long l =
          stmt-own (named q (stmt_measured d s j p)) (var_at {w = w} k c a) long l
          (ahead (suc i) (past k c.there) (named-made q l (stmt-planned p a (omega arith) long (omega arith))))
          (rw (k.value, k.is, c.there.value))
      stmt-planned p (chan_at {d = d} {at = i} {m = j} {p = n} {k = q} {w = w} {b = b} k c a) deep long l =
          stmt-own (named q (stmt_measured d s j p)) (chan_at {w = w} k c a) long l
          (ahead (suc i) (past k c.there) (named-made q l (stmt-planned p a (omega arith) long (omega arith))))
          (rw (k.value, k.is, c.there.value))
      stmt-planned p (seq_at {d = d} {at = i} {m = j} {p = n} {k = q} k c a) deep long l =
          stmt-own (parts_by q Nothing false d j 2 p) (seq_at k c a) long l
          (ahead (suc i) (past k c.there) (stmts-planned false 2 p a (omega arith) long l c.there.inside))
          (rw (k.value, k.is, c.there.value, c.fits))
      stmt-planned p (par_at {d = d} {at = i} {m = j} {p = n} {k = q} k c a) deep long l =
          stmt-own (parts_by q Nothing true d j 2 p) (par_at k c a) long l
          (ahead (suc i) (past k c.there) (stmts-planned true 2 p a (omega arith) long l c.there.inside))
          (rw (k.value, k.is, c.there.value, c.fits))
      stmt-planned p (if_at {d = d} {at = i} {m = j} {p = n} {k = q} k c a) deep long l =
          stmt-own (parts_by q Condition false d j 2 p) (if_at k c a) long l
          (ahead (suc i) (past k c.there) (pairs-planned 2 p a (omega arith) long (omega arith) c.there.inside))
          (rw (k.value, k.is, c.there.value, c.fits))
      stmt-planned p (while_at {d = d} {at = i} {n = j} {m = m} {p = n} {e = t} {b = b} k e a) deep long l =
          let (x, f) = condition-made p e (omega arith) long in
          let (y, g) = stmt-planned (head_measured Condition d s j p).plan a (omega arith) (f.long ∙ long) (omega arith) in
          stmt-own (parts_by 1 Condition false d j 2 p) (while_at k e a) long l
          (subst (λ m. Made (suc i) n (need (WHILE t b)) p (λ r. InsideStmt s r (while_at k e a)) m)
          (sym (part-turn 0 Condition false d j m n 2 (temporaries t + 2) (need b) p x y))
          (ap (extended n) (omega arith), wider (suc i) n (behind f g (omega arith)) k.ahead (omega arith) g.inside))
          (rw (k.value, k.is))
      stmt-planned p (alt_at {d = d} {at = i} {m = j} {p = n} {k = q} k c a) deep long l =
          stmt-own (parts_by q GuardHead false d j 4 p) (alt_at k c a) long l
          (ahead (suc i) (past k c.there) (guards-planned 4 p a (omega arith) long (omega arith) c.there.inside))
          (rw (k.value, k.is, c.there.value, c.fits))
      stmt-planned {w = w} p (time_at {d = d} {at = i} {m = n} {x = v} k x) deep long l =
          let a : StmtAt s (suc d) w i (TIME v) n = time_at k x in
          stmt-own (measured (extended n 2) p) a long l
          (refl, nothing-in (suc i) n p (omega (arith, k.ahead, x.there.ahead)) x.there.inside)
          (rw (k.value, k.is, next-is s x.there))
      stmt-planned p (wait_at {d = d} {at = i} {n = j} {m = n} {w = w} k e) deep long l =
          stmt-own (whole_measured ForWait d s j p) (wait_at {w = w} k e) long l
          (ahead (suc i) k.ahead (whole-made ForWait p e (omega arith) long))
          (rw (k.value, k.is))

      stmts-planned : {w : Scope} {d k i n : ℕ} {ss : Stmts} (b : Bool) (x : ℕ) (p : List ℕ) (a : StmtsAt s d w k i ss n) → d ≤ 32
          → length p ≡ table_limit → total b x ss ≤ word_limit → i ≤ length s
          → Made i n (total b x ss) p (λ r. PlannedStmts s r a) (parts_by k Nothing b d i x p)
      stmts-planned b x p no_stmt_at deep long l in_table =
          (ap (extended _) (total-none b x), nothing-in _ _ p (omega arith) in_table)
      stmts-planned {d = d} b x p (stmts_at {k = k} {at = i} {n = j} {m = n} {b = y} {ss = ss} a c) deep long l in_table =
          let (few, sum) = total-turn b x y ss l in
          let (e, f) = stmt-planned p a deep long few in
          let (g, h) = stmts-planned b (joined b (max x 0) (need y)) (stmt_measured d s i p).plan c deep (f.long ∙ long) (omega arith)
          f.inside in
          subst (λ m. Made i n (total b x (stmt y ss)) p (λ r. PlannedStmts s r (stmts_at a c)) m)
          (sym (part-turn k Nothing b d i i j x 0 (need y) p refl e)) (g ∙ ap (extended n) sum, behind f h (omega arith))

      pairs-planned : {w : Scope} {d k i n : ℕ} {ps : Pairs} (x : ℕ) (p : List ℕ) (a : PairsAt s d w k i ps n) → d ≤ 32
          → length p ≡ table_limit → pair_need ps ≤ word_limit → i ≤ length s
          → Made i n (max x (pair_need ps)) p (λ r. PlannedPairs s r a) (parts_by k Condition false d i x p)
      pairs-planned x p no_pair_at deep long l in_table = (ap (extended _) (omega arith), nothing-in _ _ p (omega arith) in_table)
      pairs-planned {d = d} x p (pair_at {k = k} t a c) deep long l in_table =
          let f = condition-made p t deep long in
          let g = stmt-planned _ a deep (f.1.long ∙ long) (omega arith) in
          let r = pairs-planned _ _ c deep (g.1.long ∙ f.1.long ∙ long) (omega arith) g.1.inside in
          part-made k Condition false d x f g r (omega arith)

      guards-planned : {w : Scope} {d k i n : ℕ} {gs : Guards} (x : ℕ) (p : List ℕ) (a : GuardsAt s d w k i gs n) → d ≤ 32
          → length p ≡ table_limit → guard_need gs ≤ word_limit → i ≤ length s
          → Made i n (max x (guard_need gs)) p (λ r. PlannedGuards s r a) (parts_by k GuardHead false d i x p)
      guards-planned x p no_guard_at deep long l in_table = (ap (extended _) (omega arith), nothing-in _ _ p (omega arith) in_table)
      guards-planned {d = d} x p (guards_at {k = k} t a c) deep long l in_table =
          let f = guard-made p t deep long in
          let g = stmt-planned _ a deep (f.1.long ∙ long) (omega arith) in
          let r = guards-planned _ _ c deep (g.1.long ∙ f.1.long ∙ long) (omega arith) g.1.inside in
          part-made k GuardHead false d x f g r (omega arith)

    pub plan-of : {w : Scope} {d i n : ℕ} {b : Stmt} (p : List ℕ) (a : StmtAt s d w i b n) → d ≤ 32 → length p ≡ table_limit
        → need b ≤ word_limit → PlannedStmt s (stmt_measured d s i p).plan a
    plan-of p a deep long l = (stmt-planned p a deep long l).1.tells _ (λ j x y. refl)
