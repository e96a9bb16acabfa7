-- SEQ, IF, WHILE and ALT.
use Prim.Native.Nat.{ℕ, ◌+◌, ◌≤◌, max}
use native.Mathlib.Omega.{arith}
use mathlib.Core.Path.{◌≡◌, refl, sym, ◌∙◌}
use mathlib.Core.List.{List, append_assoc}
use lib.ListN.{drop}
use Rattle.model.specs.Syntax.{Stmts, no_stmt, stmt, Pairs, no_pair, pair}
use Rattle.model.specs.Syntax as M
use Rattle.model.specs.Reader.{Reader, onward, pure, Scope, read_expr, Inner, stmt_of, read_many, applied, read_pair, read_stmt, read_count}
use Rattle.model.specs.Usage.{Usage, ◌⊕◌, reading, usage, first_clash, usage_all, usage_pairs, first_clash_all, first_clash_pairs}
use Rattle.model.specs.Counts.{temporaries, processes, need, most_need, pair_need, most_processes, pair_processes}
use Rattle.counts.specs.Words.{asked}
use Rattle.table.specs.Stmts.{whole_at, Fits, stmt_at, head_at, behind, nothing as no_part, added, part_at}
use Rattle.table.specs.Stmts.{most_from, gathered, head_uses, part_uses, most_use, stmt_uses}
use Rattle.table.specs.Exprs.{kept, expr_uses}
use Rattle.model.specs.declared.kinds.StmtKind.TheVariants.{Seq, If, While}
use Rattle.numbers.specs.declared.kinds.Head.{Head}
use Rattle.numbers.specs.declared.kinds.Head.TheVariants.{Nothing, Condition}
use Rattle.counts.specs.declared.Role.{Role}
use Rattle.counts.specs.declared.Role.TheVariants.{Value}
use Rattle.table.specs.declared.stmt.Names.{Names}
use Rattle.table.specs.Scopes.{Scoped}
use Rattle.std.specs.Prelude.{Result, Ok, Err}
use Rattle.numbers.specs.declared.Misread.{Misread}
use Rattle.table.specs.declared.stmt.Part.{Part}
use Rattle.table.proofs.SameItems.{Bytes, Same, gives, onwards, count_same, mapped}
use Rattle.table.proofs.Marks.{Uses, use-both}
use Rattle.table.specs.declared.stmt.Sum.{Sum}
use Rattle.table.proofs.SameExpr.{Numbers}
use Rattle.table.proofs.SameSimple.{front, first, part_of, Within, RestIs, below-later, wider, within_both, WholeIs, whole_same}
use Rattle.table.proofs.SameDeclare.{InnerIs}
use Rattle.numbers.specs.Items.{between_at, with_read}
use Rattle.table.proofs.SameMany.{first-or_else, Counting, PartIs, many-same}

-- how the statements one level down are used
abbrev pub inner_uses : (d : ℕ) → Names → List ℕ → ℕ → List ℕ → List ℕ
inner_uses d w s i j = stmt_uses d w s i j

pub scoped-later : {w : Names} {sc : Scope} {place : ℕ} (m : ℕ) → place ≤ m → Scoped w sc place → Scoped w sc m
scoped-later {sc = sc} {place} m l h =
    record {
      variables = h.variables;
      channels = h.channels;
      outer = h.outer;
      ins = h.ins;
      outs = h.outs;
      own-variables = h.own-variables;
      own-channels = h.own-channels;
      before-variables = below-later sc.variables place m l h.before-variables;
      before-channels = below-later sc.channels place m l h.before-channels;
    }

abbrev sequence : Counting Stmts
unfolding most_need most_processes first_clash_all usage_all
sequence =
    record {
      empty = no_stmt;
      needs = most_need;
      lives = most_processes;
      clashes = first_clash_all;
      usages = usage_all;
      no-needs = refl;
      no-lives = refl;
      no-clashes = refl;
      no-usages = refl;
    }

sequence-part : (s : List ℕ) (d : ℕ) (w : Names) (sc : Scope) (place : ℕ) → Scoped w sc place → Fits w d → InnerIs s d → (at : ℕ)
    → place ≤ at
    → Same s (λ a n x. PartIs sequence sc place at (λ j. part_uses Nothing d w (inner_uses d w s) s at j) (stmt a) n x)
    (part_at Nothing d w (λ i. stmt_at d w s i) s at) (read_stmt d sc at (drop at s))
unfolding part_at part_uses head_at head_uses most_need most_processes first_clash_all usage_all
sequence-part s d w sc place h f inner at l =
    mapped (λ x. with_read Err x (λ p. Ok (behind 0 p))) (inner w sc at (scoped-later at l h) f)
    (λ st n y k. rw k.is
    (record {
      words = max 0 (need st);
      processes = processes st;
      clash = first (first_clash st);
      use-of = usage st;
      is = refl;
      ahead = omega (arith, k.ahead);
      needs = λ ss. omega arith;
      lives = λ ss. refl;
      clashes = λ ss. first-or_else (first_clash st) (first_clash_all ss);
      usages = λ ss. refl;
      uses = k.uses;
      within = wider l (omega arith) k.within;
    }))
    (λ e. refl)

-- the sets behind parts with their count
abbrev pub counted_way : Head → (d : ℕ) → Names → (ℕ → Result Part Misread) → (ℕ → List ℕ → List ℕ) → List ℕ → (at : ℕ) → List ℕ → List ℕ
counted_way head d w inner uses s at l = with_read (kept l) (between_at 0 32 s at) (λ c.
    most_use c.value head d w inner uses s c.next l)

-- what is counted over parts is what is counted of their statement
pub record Gathers {L : Type 0} (K : Counting L) (head : Head) (of : L → M.Stmt) : Type 0 where
  pub counts : (l : L) (t : Sum) → t.most ≡ K.needs l → t.live ≡ K.lives l
      → t.clash ≡ first (K.clashes l) → gathered head t ≡ part_of (of l) t.next
  pub same-usage : (l : L) → usage (of l) ≡ K.usages l

pub counted_same : {A L : Type 0} (K : Counting L) (more : A → L → L) (part : Reader A) (of : L
    → M.Stmt) (s : List ℕ) (d : ℕ) (w : Names) (sc : Scope)
    (inner : ℕ → Result Part Misread) (uses : ℕ → List ℕ → List ℕ) (head : Head) (place at : ℕ) → Bytes s → place ≤ at → Gathers K head of
    → ((at : ℕ) → place ≤ at
    → Same s (λ a n x. PartIs K sc place at (λ j. part_uses head d w uses s at j) (more a) n x) (part_at head d w inner s at)
    (part at (drop at s)))
    → Same s (RestIs sc place at (counted_way head d w inner uses s at))
    (with_read Err (between_at 0 32 s at) (λ c.
    with_read Err (most_from c.value head d w inner s (no_part c.next)) (λ t. Ok (gathered head t))))
    (onward (read_count 0 32 at (drop at s)) (λ c. λ i bytes. onward (read_many K.empty more part c i bytes) (λ l. pure (of l))))
counted_same K more part of s d w sc inner uses head place at b l g parts =
    onwards (λ x. with_read Err x (λ c.
    with_read Err (most_from c.value head d w inner s (no_part c.next)) (λ t. Ok (gathered head t)))) _ (count_same 0 32 s at b)
    (λ c m y k q. rw k.found (
    onwards (λ x. with_read Err x (λ t. Ok (gathered head t))) (λ l. pure (of l))
    (many-same K more part s d w sc inner uses c head place (no_part m) (omega (arith, l, k.there.ahead)) parts)
    (λ list n z r p.
    let same-part : gathered head r.total ≡ part_of (of list) n =
    g.counts list r.total (r.most ∙ omega arith) (r.live ∙ omega arith) r.clash ∙ rw r.next refl in
    rw (r.is, same-part) (gives (of list) n (Ok (part_of (of list) n))
    (record {
      is = refl;
      ahead = omega (arith, k.there.ahead, r.ahead);
      uses = rw (q ∙ k.found, g.same-usage list) r.uses;
      within = rw (g.same-usage list) r.within;
    })))
    (λ e. refl)))
    (λ e. refl)

pub sequence-same : (s : List ℕ) (d : ℕ) (w : Names) (sc : Scope) (place at : ℕ) (inner : Inner) → Bytes s → place ≤ at → Scoped w sc place
    → Fits w d → InnerIs s d → inner.stmt ≡ read_stmt d
    → Same s (RestIs sc place at (counted_way Nothing d w (λ i. stmt_at d w s i) (inner_uses d w s) s at))
    (with_read Err (between_at 0 32 s at) (λ c.
    with_read Err (most_from c.value Nothing d w (λ i. stmt_at d w s i) s (no_part c.next)) (λ t. Ok (gathered Nothing t))))
    (stmt_of place sc inner Seq at (drop at s))
unfolding stmt_of need processes first_clash usage
sequence-same s d w sc place at inner b l h f i e =
    rw e (
    counted_same sequence stmt (read_stmt d sc) (λ ss. M.SEQ ss) s d w sc (λ i. stmt_at d w s i) (inner_uses d w s) Nothing place at b l
    (record { counts = λ ss t a c x. rw (a, c, x) refl; same-usage = λ ss. refl }) (sequence-part s d w sc place h f i))

pub plus_assoc : (u v w : Usage) → (u ⊕ v) ⊕ w ≡ u ⊕ (v ⊕ w)
plus_assoc u v w =
    rw (
      append_assoc u.changes v.changes w.changes,
      append_assoc u.uses v.uses w.uses,
      append_assoc u.inputs v.inputs w.inputs,
      append_assoc u.outputs v.outputs w.outputs,
    ) refl

-- a condition and a statement behind it
pub record ConditionIs (s : List ℕ) (role : Role) (d : ℕ) (w : Names) (sc : Scope) (place at : ℕ) (e : M.Expr) (st : M.Stmt) (n : ℕ)
    : Type 0 where
  pub ahead : at ≤ n
  pub middle : ℕ
  pub head : whole_at role d w.variables s at ≡ Ok (front middle (asked role (temporaries e)))
  pub body : stmt_at d w s middle ≡ Ok (part_of st n)
  pub uses : Uses sc (reading e ⊕ usage st) (λ l. stmt_uses d w s middle (expr_uses d w.variables s at l))
  pub within : Within sc place n (reading e ⊕ usage st)

pub whole-scoped : (role : Role) (d : ℕ) (w : Names) (sc : Scope) (s : List ℕ) (place at : ℕ) → Bytes s → Scoped w sc place → Numbers sc
    → Same s (WholeIs s role d sc at) (whole_at role d w.variables s at) (read_expr d sc at (drop at s))
whole-scoped role d w sc s place at b h o = rw h.variables (whole_same role d sc s at b o)

pub condition-same : {B : Type 0} (R : B → ℕ → Result Part Misread → Type 0) (s : List ℕ) (role : Role) (d : ℕ) (w : Names) (sc : Scope)
    (place at : ℕ)
    (of : M.Expr → M.Stmt → B) → Bytes s → place ≤ at → Scoped w sc place → Numbers sc → Fits w d → InnerIs s d
    → ((e : M.Expr) (st : M.Stmt) (n : ℕ) → ConditionIs s role d w sc place at e st n
    → R (of e st) n (Ok (behind (asked role (temporaries e)) (part_of st n))))
    → Same s R
    (with_read Err (whole_at role d w.variables s at) (λ f.
    with_read Err (stmt_at d w s f.next) (λ p. Ok (behind f.words p))))
    (onward (read_expr d sc at (drop at s)) (λ e. λ i bytes. onward (read_stmt d sc i bytes) (λ st. pure (of e st))))
condition-same R s role d w sc place at of b l h o f inner g =
    onwards (λ x. with_read Err x (λ f.
    with_read Err (stmt_at d w s f.next) (λ p. Ok (behind f.words p)))) _
    (whole-scoped role d w sc s place at b h o)
    (λ e n y r q. rw r.is (
    onwards (λ x. with_read Err x (λ p. Ok (behind (asked role (temporaries e)) p))) (λ st. pure (of e st))
    (inner w sc n (scoped-later n (omega (arith, l, r.ahead)) h) f)
    (λ st m z k p.
    let value : Uses sc (reading e) (λ l. expr_uses d w.variables s at l) = rw h.variables r.uses in
    rw k.is (gives (of e st) m _ (g e st m
    (record {
      ahead = omega (arith, r.ahead, k.ahead);
      middle = n;
      head = q ∙ r.is;
      body = p ∙ k.is;
      uses = use-both {f = expr_uses d w.variables s at} {g = stmt_uses d w s n} value k.uses;
      within = within_both (r.within place m) (wider (omega (arith, l, r.ahead)) (omega arith) k.within);
    })))) (λ e. refl)))
    (λ e. refl)

abbrev choices : Counting Pairs
unfolding pair_need pair_processes first_clash_pairs usage_pairs
choices =
    record {
      empty = no_pair;
      needs = pair_need;
      lives = pair_processes;
      clashes = first_clash_pairs;
      usages = usage_pairs;
      no-needs = refl;
      no-lives = refl;
      no-clashes = refl;
      no-usages = refl;
    }

choice-part : (s : List ℕ) (d : ℕ) (w : Names) (sc : Scope) (place : ℕ) (inner : Inner) → Bytes s → Scoped w sc place → Numbers sc
    → Fits w d → InnerIs s d
    → inner.expr ≡ read_expr d sc → inner.stmt ≡ read_stmt d → (at : ℕ) → place ≤ at
    → Same s (λ a n x. PartIs choices sc place at (λ j. part_uses Condition d w (inner_uses d w s) s at j) (applied a) n x)
    (part_at Condition d w (λ i. stmt_at d w s i) s at) (read_pair sc inner at (drop at s))
unfolding part_at part_uses head_at head_uses read_pair asked pair_need pair_processes first_clash_pairs usage_pairs
choice-part s d w sc place inner b h o f i ee es at l =
    rw (ee, es) (
    condition-same (λ a n x. PartIs choices sc place at (λ j. part_uses Condition d w (inner_uses d w s) s at j) (applied a) n x) s Value
    d w
    sc place at
    (λ e st. pair e st) b l h o f i
    (λ e st n k.
    record {
      words = max (temporaries e + 2) (need st);
      processes = processes st;
      clash = first (first_clash st);
      use-of = reading e ⊕ usage st;
      is = refl;
      ahead = k.ahead;
      needs = λ ps. omega arith;
      lives = λ ps. refl;
      clashes = λ ps. first-or_else (first_clash st) (first_clash_pairs ps);
      usages = λ ps. sym (plus_assoc (reading e) (usage st) (usage_pairs ps));
      uses = rw k.head k.uses;
      within = k.within;
    }))

pub choice-same : (s : List ℕ) (d : ℕ) (w : Names) (sc : Scope) (place at : ℕ) (inner : Inner) → Bytes s → place ≤ at → Scoped w sc place
    → Numbers sc → Fits w d → InnerIs s d → inner.expr ≡ read_expr d sc → inner.stmt ≡ read_stmt d
    → Same s (RestIs sc place at (counted_way Condition d w (λ i. stmt_at d w s i) (inner_uses d w s) s at))
    (with_read Err (between_at 0 32 s at) (λ c.
    with_read Err (most_from c.value Condition d w (λ i. stmt_at d w s i) s (no_part c.next)) (λ t. Ok (gathered Condition t))))
    (stmt_of place sc inner If at (drop at s))
unfolding stmt_of need processes first_clash usage
choice-same s d w sc place at inner b l h o f i ee es =
    counted_same choices applied (read_pair sc inner) (λ ps. M.IF ps) s d w sc (λ i. stmt_at d w s i)
    (inner_uses d w s) Condition place at b l
    (record { counts = λ ps t a c x. rw (a, c, x) refl; same-usage = λ ps. refl }) (choice-part s d w sc place inner b h o f i ee es)

-- a statement is at least one process
live-some : (st : M.Stmt) → 1 ≤ processes st
unfolding processes
live-some M.SKIP = omega arith
live-some M.STOP = omega arith
live-some (M.assign x e) = omega arith
live-some (M.input c x) = omega arith
live-some (M.output c e) = omega arith
live-some (M.VAR p n st) = live-some st
live-some (M.CHAN p n st) = live-some st
live-some (M.SEQ ss) = omega arith
live-some (M.PAR p ss) = omega arith
live-some (M.IF ps) = omega arith
live-some (M.WHILE e st) = live-some st
live-some (M.ALT gs) = omega arith
live-some (M.TIME x) = omega arith
live-some (M.WAIT e) = omega arith

pub loop-same : (s : List ℕ) (d : ℕ) (w : Names) (sc : Scope) (place at : ℕ) (inner : Inner) → Bytes s → place ≤ at → Scoped w sc place
    → Numbers sc → Fits w d → InnerIs s d → inner.expr ≡ read_expr d sc → inner.stmt ≡ read_stmt d
    → Same s (RestIs sc place at (λ j. most_use 1 Condition d w (λ i. stmt_at d w s i) (inner_uses d w s) s at j))
    (with_read Err (most_from 1 Condition d w (λ i. stmt_at d w s i) s (no_part at)) (λ t. Ok (gathered Condition t)))
    (stmt_of place sc inner While at (drop at s))
unfolding stmt_of part_at part_uses head_at head_uses most_from most_use asked need processes first_clash usage
loop-same s d w sc place at inner b l h o f i ee es =
    rw (ee, es) (
    mapped (λ x. with_read Err (with_read Err x (λ p. Ok (added (no_part at) p))) (λ t. Ok (gathered Condition t)))
    (condition-same Turn s Value d w sc place at (λ e st. M.WHILE e st) b l h o f i (λ e st n k. (e, st, refl, refl, k)))
    (λ a n y t. one a n y t)
    (λ e. refl))
  where
    Turn : M.Stmt → ℕ → Result Part Misread → Type 0
    Turn a n x =
        (e : M.Expr)
        × (st : M.Stmt)
        × (a ≡ M.WHILE e st)
        × (x ≡ Ok (behind (temporaries e + 2) (part_of st n)))
        × ConditionIs s Value d w sc place at e st n

    one : (a : M.Stmt) (n : ℕ) (y : Result Part Misread) → Turn a n y
        → RestIs sc place at (λ j. most_use 1 Condition d w (λ i. stmt_at d w s i) (inner_uses d w s) s at j) a n
        (with_read Err (with_read Err y (λ p. Ok (added (no_part at) p))) (λ t. Ok (gathered Condition t)))
    one a n y t =
        let e = t.0 in
        let st = t.1 in
        let k = t.4 in
        let asks = temporaries e + 2 in
        let words : max 2 (max 0 (max asks (need st))) ≡ max asks (need st) = omega arith in
        let live : max 1 (max 0 (processes st)) ≡ processes st = omega (arith, live-some st) in
        rw (t.2, t.3)
        (record {
          is = rw (words, live) refl;
          ahead = k.ahead;
          uses = rw (k.head, k.body) k.uses;
          within = k.within;
        })
