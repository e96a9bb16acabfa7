-- ALT.
use Prim.Native.Nat.{ℕ, ◌≤◌, ◌<◌, max}
use native.Mathlib.Omega.{arith}
use mathlib.Core.Path.{◌≡◌, refl, sym, ◌∙◌}
use mathlib.Core.List.{List}
use lib.ListN.{drop}
use Rattle.model.specs.Syntax.{input_guard, skip_guard, time_guard, Guards, no_guard, guard}
use Rattle.model.specs.Syntax as M
use Rattle.model.specs.Reader.{Parsed, onward, pure, Scope, read_expr, Inner, stmt_of, applied, read_guard, guard_of, guard_kinds}
use Rattle.model.specs.Reader.{read_stmt}
use Rattle.model.specs.Usage.{◌⊕◌, reading, usage, first_clash, guard_usage, usage_guards, first_clash_guards}
use Rattle.model.specs.Counts.{temporaries, guard_words, guard_asks, processes, need, guard_need, guard_processes}
use Rattle.counts.specs.Words.{asked}
use Rattle.table.specs.Stmts.{whole_at, taken_at, Fits, stmt_at, head_at, guard_at, behind, nothing as no_part}
use Rattle.table.specs.Stmts.{part_at, most_from, gathered, taken_uses, guard_uses, head_uses, part_uses, stmt_uses, waiting_at}
use Rattle.table.specs.Stmts.{waiting_uses}
use Rattle.table.specs.Stmts.{both_of, both_at, both_uses}
use Rattle.table.specs.Exprs.{expr_at, expr_uses}
use Rattle.model.specs.declared.kinds.StmtKind.TheVariants.{Alt}
use Rattle.model.specs.declared.kinds.GuardKind.{GuardKind}
use Rattle.model.specs.declared.kinds.GuardKind.TheVariants.{Input as InputGuard, Skip as SkipGuard, Time as TimeGuard}
use Rattle.numbers.specs.declared.kinds.Head.TheVariants.{Guard}
use Rattle.counts.specs.declared.Role.TheVariants.{Guard as ForGuard}
use Rattle.numbers.specs.Kinds.{guard_kind, by_guard, last_guard}
use Rattle.table.specs.declared.stmt.Names.{Names}
use Rattle.table.specs.Scopes.{Scoped}
use Rattle.std.specs.Prelude.{Result, Ok, Err}
use Rattle.numbers.specs.declared.Misread.{Misread}
use Rattle.table.specs.declared.stmt.Front.{Front}
use Rattle.table.specs.declared.stmt.Part.{Part}
use Rattle.table.proofs.SameItems.{to, Bytes, Same, gives, onwards, one_same, guard-kind-is}
use Rattle.table.proofs.Marks.{Uses, use-both}
use Rattle.table.proofs.SameExpr.{Numbers, ExprIs, term_of, expr-same}
use Rattle.table.proofs.SameSimple.{front, first, Within, RestIs, wider, within_both, taken-onward, taken-uses, within-input}
use Rattle.table.proofs.SameSimple.{within-reads}
use Rattle.table.proofs.SameDeclare.{InnerIs}
use Rattle.numbers.specs.Items.{between_at, with_read}
use Rattle.table.proofs.SameMany.{first-or_else, Counting, PartIs}
use Rattle.table.proofs.SameParts.{scoped-later, plus_assoc, inner_uses, whole-scoped, counted_way, counted_same}

abbrev guarded : Counting Guards
unfolding guard_need guard_processes first_clash_guards usage_guards
guarded =
    record {
      empty = no_guard;
      needs = guard_need;
      lives = guard_processes;
      clashes = first_clash_guards;
      usages = usage_guards;
      no-needs = refl;
      no-lives = refl;
      no-clashes = refl;
      no-usages = refl;
    }

-- the statement behind a guard's head
abbrev behind_head : (d : ℕ) → Names → List ℕ → Result Front Misread → Result Part Misread
behind_head d w s x = with_read Err x (λ f. with_read Err (stmt_at d w s f.next) (λ p. Ok (behind f.words p)))

-- how a part of an ALT is used
abbrev guard_way : (d : ℕ) → Names → List ℕ → (at : ℕ) → List ℕ → List ℕ
guard_way d w s at l = part_uses Guard d w (inner_uses d w s) s at l

-- a guard was read; what it asks for, and how it is used
record GuardIs (sc : Scope) (place at : ℕ) (way : List ℕ → List ℕ) (g : M.Guard) (n : ℕ) (x : Result Front Misread) : Type 0 where
  is : x ≡ Ok (front n (guard_asks g))
  ahead : at < n
  uses : Uses sc (guard_usage g) way
  within : (hi : ℕ) → Within sc place hi (guard_usage g)

module _ (s : List ℕ) (d : ℕ) (w : Names) (sc : Scope) (place : ℕ) (b : Bytes s) (h : Scoped w sc place) (o : Numbers sc) where
  -- what follows a guard's number
  skip-head : (at v n : ℕ) → at < n → between_at 0 last_guard s at ≡ Ok (to v n) → guard_kind v ≡ SkipGuard
      → Same s (GuardIs sc place at (guard_uses d w s at))
      (whole_at ForGuard d w.variables s n) (guard_of sc (read_expr d sc) SkipGuard n (drop n s))
  unfolding guard_uses guard_of guard_asks asked
  skip-head at v n t item kind =
      onwards (λ x. x) (λ e. pure (skip_guard e)) (whole-scoped ForGuard d w sc s place n b h o)
      (λ e m y r q.
      let value : Uses sc (reading e) (λ l. expr_uses d w.variables s n l) = rw h.variables r.uses in
      gives (skip_guard e) m y
      (record { is = r.is; ahead = omega (arith, t, r.ahead); uses = rw (item, kind) value; within = r.within place }))
      (λ e. refl)

  input-head : (at v n : ℕ) → at < n → between_at 0 last_guard s at ≡ Ok (to v n) → guard_kind v ≡ InputGuard
      → Same s (GuardIs sc place at (guard_uses d w s at))
      (waiting_at d w s n) (guard_of sc (read_expr d sc) InputGuard n (drop n s))
  unfolding waiting_at waiting_uses guard_uses guard_of guard_asks asked
  input-head at number n t item kind =
      onwards (λ x. with_read Err x (λ f. taken_at w s f.next f.words)) _ (whole-scoped ForGuard d w sc s place n b h o)
      (λ e m y r q.
      let value : Uses sc (reading e) (λ l. expr_uses d w.variables s n l) = rw h.variables r.uses in
      rw r.is (
      taken-onward w sc s place m (guard_words (temporaries e)) (λ x. x) (λ ch x. pure (input_guard e ch x)) b h
      (λ ch x c v g. gives (input_guard e ch x) v (Ok (front v (guard_words (temporaries e))))
      (record {
        is = refl;
        ahead = omega (arith, t, r.ahead, g.channel.there.ahead, g.target.there.ahead);
        uses = rw (item, kind, q ∙ r.is) (use-both {f = expr_uses d w.variables s n} {g = taken_uses w s m} value (taken-uses g o));
        within = λ hi. within_both (r.within place hi) (within-input place hi g);
      }))
      (λ e. refl)))
      (λ e. refl)

  expr-scoped : (at : ℕ)
      → Same s (ExprIs sc at (λ l. expr_uses d w.variables s at l)) (expr_at d w.variables s at) (read_expr d sc at (drop at s))
  expr-scoped at = rw h.variables (expr-same d sc s at b o)

  -- 02, order 4: condition, then time
  time-head : (at v n : ℕ) → at < n → between_at 0 last_guard s at ≡ Ok (to v n) → guard_kind v ≡ TimeGuard
      → Same s (GuardIs sc place at (guard_uses d w s at))
      (both_at d w.variables s n) (guard_of sc (read_expr d sc) TimeGuard n (drop n s))
  unfolding both_at both_uses guard_uses guard_of guard_asks asked
  time-head at v n l item kind =
      onwards (λ x. with_read Err x (λ e. with_read Err (expr_at d w.variables s e.next) (λ t. Ok (both_of e t)))) _ (expr-scoped n)
      (λ e m y r q. rw r.is (
      onwards (λ x. with_read Err x (λ t. Ok (both_of (term_of e m) t))) (λ t. pure (time_guard e t)) (expr-scoped m)
      (λ t i z k p. rw k.is (gives (time_guard e t) i (Ok (both_of (term_of e m) (term_of t i)))
      (record {
        is = refl;
        ahead = omega (arith, l, r.ahead, k.ahead);
        uses = rw (item, kind, q ∙ r.is)
            (use-both {f = expr_uses d w.variables s n} {g = expr_uses d w.variables s m} r.uses k.uses);
        within = λ hi. within_both (within-reads sc e place hi r.within) (within-reads sc t place hi k.within);
      })))
      (λ e. refl)))
      (λ e. refl)

  module _ (inner : Inner) (f : Fits w d) (i : InnerIs s d) (ee : inner.expr ≡ read_expr d sc) (es : inner.stmt ≡ read_stmt d) where
    -- a guard, and the statement behind it
    guard-then : (at : ℕ) → place ≤ at → {x : Result Front Misread} {r : Parsed M.Guard} → guard_at d w s at ≡ x
        → Same s (GuardIs sc place at (guard_uses d w s at)) x r
        → Same s (λ a m x. PartIs guarded sc place at (guard_way d w s at) (applied a) m x) (behind_head d w s x)
        (onward r (λ g. λ i bytes. onward (inner.stmt sc i bytes) (λ st. pure (guard g st))))
    unfolding part_uses head_uses head_at guard_need guard_processes first_clash_guards usage_guards
    guard-then at l head r =
        rw es (
        onwards (λ x. behind_head d w s x) _ r
        (λ g m y k q. rw k.is (
        onwards (λ z. with_read Err z (λ p. Ok (behind (guard_asks g) p))) (λ st. pure (guard g st))
        (i w sc m (scoped-later m (omega (arith, l, k.ahead)) h) f)
        (λ st u z t p. rw t.is (gives (guard g st) u _
        (record {
          words = max (guard_asks g) (need st);
          processes = processes st;
          clash = first (first_clash st);
          use-of = guard_usage g ⊕ usage st;
          is = refl;
          ahead = omega (arith, k.ahead, t.ahead);
          needs = λ gs. omega arith;
          lives = λ gs. refl;
          clashes = λ gs. first-or_else (first_clash st) (first_clash_guards gs);
          usages = λ gs. sym (plus_assoc (guard_usage g) (usage st) (usage_guards gs));
          uses = rw (head ∙ q ∙ k.is) (use-both {f = guard_uses d w s at} {g = stmt_uses d w s m} k.uses t.uses);
          within = within_both (k.within u) (wider (omega (arith, l, k.ahead)) (omega arith) t.within);
        })))
        (λ e. refl)))
        (λ e. refl))

    guard-part : (at : ℕ) → place ≤ at
        → Same s (λ a m x. PartIs guarded sc place at (guard_way d w s at) (applied a) m x)
        (part_at Guard d w (λ i. stmt_at d w s i) s at) (read_guard sc inner at (drop at s))
    unfolding part_at head_at guard_at read_guard
    guard-part at l =
        rw ee (
        onwards
        (λ x. behind_head d w s
        (with_read Err x (λ g.
        by_guard (guard_kind g.value) (waiting_at d w s g.next) (whole_at ForGuard d w.variables s g.next)
        (both_at d w.variables s g.next))))
        _ (one_same guard_kinds 2 s at b refl)
        (λ kind n y k q.
        let e = guard-kind-is k.value k.listed in
        rw (k.found, e) (guard-then at l (rw (q ∙ k.found, e) refl) (of-kind kind k.value n k.there.ahead (q ∙ k.found) e)))
        (λ e. refl))
      where
        of-kind : (kind : GuardKind) (v n : ℕ) → at < n → between_at 0 last_guard s at ≡ Ok (to v n) → guard_kind v ≡ kind
            → Same s (GuardIs sc place at (guard_uses d w s at))
            (by_guard kind (waiting_at d w s n) (whole_at ForGuard d w.variables s n) (both_at d w.variables s n))
            (guard_of sc (read_expr d sc) kind n (drop n s))
        of-kind InputGuard v n = input-head at v n
        of-kind SkipGuard v n = skip-head at v n
        of-kind TimeGuard v n = time-head at v n

pub alternative-same : (s : List ℕ) (d : ℕ) (w : Names) (sc : Scope) (place at : ℕ) (inner : Inner) → Bytes s → place ≤ at
    → Scoped w sc place
    → Numbers sc → Fits w d → InnerIs s d → inner.expr ≡ read_expr d sc → inner.stmt ≡ read_stmt d
    → Same s (RestIs sc place at (counted_way Guard d w (λ i. stmt_at d w s i) (inner_uses d w s) s at))
    (with_read Err (between_at 0 32 s at) (λ c.
    with_read Err (most_from c.value Guard d w (λ i. stmt_at d w s i) s (no_part c.next)) (λ t. Ok (gathered Guard t))))
    (stmt_of place sc inner Alt at (drop at s))
unfolding stmt_of need processes first_clash usage
alternative-same s d w sc place at inner b l h o f i ee es =
    counted_same guarded applied (read_guard sc inner) (λ gs. M.ALT gs) s d w sc (λ i. stmt_at d w s i)
    (inner_uses d w s) Guard place at b l
    (record { counts = λ gs t a c x. rw (a, c, x) refl; same-usage = λ gs. refl }) (guard-part s d w sc place b h o inner f i ee es)
