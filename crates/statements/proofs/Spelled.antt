-- What the bytes of a table spell: each part that the model's reader reads, by places of the table.
use Prim.Native.Nat.{ℕ, zero, suc, ◌+◌, ◌-◌, ◌*◌, ◌^◌, ◌<◌, ◌≤◌}
use native.Mathlib.Omega.{arith}
use native.Mathlib.Nat.{mod-eq_of_lt}
use mathlib.Core.Path.{◌≡◌, refl}
use mathlib.Core.Bool.{Bool, false}
use mathlib.Core.List.{List}
use mathlib.Core.Option.{some as just}
use lib.ListN.{length, get_or, drop, get_elem?}
use lib.Dec.{ltb, leb, eqb}
use borrow.Author.Tests.{le-ltb, ltb-true, leb-false}
use Rattle.std.specs.Prelude.{Option as Maybe, Some, None, Result}
use Rattle.std.specs.Option.{option_and_then}
use Rattle.numbers.specs.Items.{groups_at, grouped, number_at, value_at}
use Rattle.numbers.specs.declared.Number.{Number}
use Rattle.model.specs.declared.Reason.{Reason}
use Rattle.model.specs.declared.Reason.TheVariants.{TooDeep, BadName}
use Rattle.numbers.specs.declared.Misread.{Misread}
use Rattle.model.specs.Syntax.{Site, Expr, constant, variable, NOT, binary, Stmt, SKIP, STOP, assign, input, output, VAR, CHAN, SEQ, PAR}
use Rattle.model.specs.Syntax.{IF, WHILE, ALT, TIME, WAIT, Stmts, no_stmt, stmt, Pairs, no_pair, pair, Guard, input_guard, skip_guard}
use Rattle.model.specs.Syntax.{Guards}
use Rattle.model.specs.Syntax.{time_guard, no_guard, guard}
use Rattle.model.specs.declared.kinds.Operator.{Operator}
use Rattle.model.specs.Reader.{Parsed, parsed, fails, Reader, onward, Scope, with_variables, with_channels, read_name, operators}
use Rattle.model.specs.Reader.{expr_kinds}
use Rattle.model.specs.Reader.{expr_of, read_expr, read_many, stmt_kinds, stmt_of, read_stmt, read_pair, guard_kinds, guard_of, read_guard}
use Rattle.model.specs.Reader.{Inner}
use Rattle.model.specs.Reader.{read_number, read_count, one_of, too_deep, any_site, can_input, can_output, applied}
use Rattle.model.specs.declared.kinds.StmtKind.{StmtKind}
use Rattle.model.specs.declared.kinds.StmtKind.TheVariants.{Skip, Stop, Assign, Input, Output, Var, Chan, Seq, Par, If, While, Alt}
use Rattle.model.specs.declared.kinds.StmtKind.TheVariants.{Time, Wait}
use Rattle.model.specs.declared.kinds.ExprKind.{ExprKind}
use Rattle.model.specs.declared.kinds.ExprKind.TheVariants.{Constant, Variable, Not, Binary}
use Rattle.model.specs.declared.kinds.GuardKind.{GuardKind}
use Rattle.model.specs.declared.kinds.GuardKind.TheVariants.{Input as InputGuard, Skip as SkipGuard, Time as TimeGuard}
use Rattle.numbers.specs.Kinds.{stmt_kind, expr_kind, guard_kind}
use Rattle.model.proofs.Cases.{by_bool, by-option, never}
use Rattle.table.proofs.SameItems.{Bytes, Same, gives, turns, NumberAt, count_same, one_same, word_same, stmt-kind-is, expr-kind-is}
use Rattle.table.proofs.SameItems.{guard-kind-is}

-- the number at a place and the place after it, as the generator reads them
pub record NumeralAt (s : List ℕ) (at v n : ℕ) : Type 0 where
  pub value : value_at s at ≡ record { value = v; next = n }
  pub ahead : at < n
  pub inside : n ≤ length s

-- a number is a word, and ends in the table
record Bounded (s : List ℕ) (x : Maybe Number) : Type 0 where
  bounded : (m : Number) → x ≡ Some m → (m.value < 2 ^ 32) × (m.next ≤ length s)

grouped-bounded : (s : List ℕ) (b : ℕ) (x : Maybe Number) → b < 256 → Bounded s x → Bounded s (option_and_then (grouped b) x)
grouped-bounded s b None h r = record { bounded = λ m e. never (cc) }
grouped-bounded s b (Some w) h r =
    by_bool (eqb w.value 0) (λ f. rw f (record { bounded = λ m e. never (cc) }))
    (λ f. by_bool (ltb w.value 33554432)
    (λ g. rw (f, g) (record { bounded = is (ltb-true _ _ g) }))
    (λ g. rw (f, g) (record { bounded = λ m e. never (cc) })))
  where
    is : w.value < 33554432 → (m : Number) → Some (record { value = b - 128 + 128 * w.value; next = w.next }) ≡ Some m
        → (m.value < 2 ^ 32) × (m.next ≤ length s)
    is l m q =
        let same : b - 128 + 128 * w.value ≡ m.value = cc in
        let end : w.next ≡ m.next = cc in
        (omega arith, omega (arith, (r.bounded w refl).1))

groups-bounded : (k : ℕ) (s : List ℕ) (at : ℕ) → Bytes s → Bounded s (groups_at k s at)
unfolding groups_at
groups-bounded zero s at b = record { bounded = λ m e. never (cc) }
groups-bounded (suc k) s at b =
    by_bool (leb (length s) at) (λ f. rw f (record { bounded = λ m e. never (cc) }))
    (λ f. by_bool (ltb (get_or s at 0) 128)
    (λ g. rw (f, g) (record { bounded = is (leb-false _ _ f) }))
    (λ g. rw (f, g) (grouped-bounded s (get_or s at 0) (groups_at k s (at + 1)) (b at) (groups-bounded k s (at + 1) b))))
  where
    is : at < length s → (m : Number) → Some (record { value = get_or s at 0; next = at + 1 }) ≡ Some m
        → (m.value < 2 ^ 32) × (m.next ≤ length s)
    is l m q =
        let same : get_or s at 0 ≡ m.value = cc in
        let end : at + 1 ≡ m.next = cc in
        (omega (arith, b at), omega arith)

numeral : {s : List ℕ} {at v n : ℕ} → Bytes s → NumberAt s at v n → NumeralAt s at v n
unfolding value_at number_at
numeral {s} {at} {v} {n} b t =
    let h = (groups-bounded 5 s at b).bounded _ t.number in
    record { value = rw (t.number, mod-eq_of_lt h.0); ahead = t.ahead; inside = h.1 }

-- what the model reads from a place on: the bytes after it are those of the table, and a fact on what was read and where it ends
pub data Gives {A : Type 0} (s : List ℕ) (P : A → ℕ → Type 0) : Parsed A → Type 0 where
  parses : (a : A) (n : ℕ) → P a n → Gives s P (parsed a n (drop n s))
  stops : (why : Reason) (p : ℕ) → Gives s P (fails why p)

pub and_then : {A B : Type 0} {s : List ℕ} {P : A → ℕ → Type 0} {Q : B → ℕ → Type 0} {r : Parsed A} (k : A → Reader B) → Gives s P r
    → ((a : A) (n : ℕ) → P a n → Gives s Q (k a n (drop n s))) → Gives s Q (onward r k)
and_then k (parses a n h) f = f a n h
and_then k (stops j p) f = stops j p

given : {A X : Type 0} {s : List ℕ} {R : A → ℕ → Result X Misread → Type 0} {P : A → ℕ → Type 0} {x : Result X Misread} {r : Parsed A}
    → Same s R x r → ((a : A) (n : ℕ) (y : Result X Misread) → R a n y → P a n) → Gives s P r
given (gives a n x h) f = parses a n (f a n x h)
given (turns k p) f = stops k p

-- a number that stands for one of the things listed
pub record OneAt {A : Type 0} (s : List ℕ) (things : List A) (at : ℕ) (a : A) (n : ℕ) : Type 0 where
  pub index : ℕ
  pub listed : get_elem? things index ≡ just a
  pub there : NumeralAt s at index n

-- a number that stands for a kind
pub record KindAt {A : Type 0} (s : List ℕ) (of : ℕ → A) (at : ℕ) (k : A) (n : ℕ) : Type 0 where
  pub number : ℕ
  pub is : of number ≡ k
  pub value : value_at s at ≡ record { value = number; next = n }
  pub ahead : at < n
  pub inside : n ≤ length s

-- expressions
pub data ExprAt (s : List ℕ) (vs : List Site) : (depth at : ℕ) → Expr → (next : ℕ) → Type 0 where
  constant_at : {d at n m : ℕ} (v : ℕ) → KindAt s expr_kind at Constant n → NumeralAt s n v m → ExprAt s vs (suc d) at (constant v) m
  variable_at : {d at n m : ℕ} {x : Site} → KindAt s expr_kind at Variable n → OneAt s vs n x m → ExprAt s vs (suc d) at (variable x) m
  not_at : {d at n m : ℕ} {e : Expr} → KindAt s expr_kind at Not n → ExprAt s vs d n e m → ExprAt s vs (suc d) at (NOT e) m
  binary_at : {d at n m p q : ℕ} {op : Operator} {l r : Expr} → KindAt s expr_kind at Binary n → OneAt s operators n op m
      → ExprAt s vs d m l p → ExprAt s vs d p r q → ExprAt s vs (suc d) at (binary op l r) q

-- a number from lo to hi
pub record CountAt (s : List ℕ) (lo hi at v n : ℕ) : Type 0 where
  pub there : NumeralAt s at v n
  pub least : lo ≤ v
  pub most : v ≤ hi
  pub fits : ltb hi v ≡ false

-- guards
pub data GuardAt (s : List ℕ) (d : ℕ) (w : Scope) (at : ℕ) : Guard → (next : ℕ) → Type 0 where
  input_guard_at : {n m p q : ℕ} {e : Expr} {c x : Site} → KindAt s guard_kind at InputGuard n → ExprAt s w.variables d n e m
      → OneAt s w.channels m c p → OneAt s w.variables p x q → GuardAt s d w at (input_guard e c x) q
  skip_guard_at : {n m : ℕ} {e : Expr} → KindAt s guard_kind at SkipGuard n → ExprAt s w.variables d n e m
      → GuardAt s d w at (skip_guard e) m
  time_guard_at : {n m p : ℕ} {e t : Expr} → KindAt s guard_kind at TimeGuard n → ExprAt s w.variables d n e m
      → ExprAt s w.variables d m t p → GuardAt s d w at (time_guard e t) p

-- statements, and the parts of a statement
mutual
  pub data StmtAt (s : List ℕ) : (depth : ℕ) → Scope → (at : ℕ) → Stmt → (next : ℕ) → Type 0 where
    skip_at : {d at n : ℕ} {w : Scope} → KindAt s stmt_kind at Skip n → StmtAt s (suc d) w at SKIP n
    stop_at : {d at n : ℕ} {w : Scope} → KindAt s stmt_kind at Stop n → StmtAt s (suc d) w at STOP n
    assign_at : {d at n m p : ℕ} {w : Scope} {x : Site} {e : Expr} → KindAt s stmt_kind at Assign n → OneAt s w.variables n x m
        → ExprAt s w.variables d m e p → StmtAt s (suc d) w at (assign x e) p
    input_at : {d at n m p : ℕ} {w : Scope} {c x : Site} → KindAt s stmt_kind at Input n → OneAt s w.channels n c m
        → OneAt s w.variables m x p → StmtAt s (suc d) w at (input c x) p
    output_at : {d at n m p : ℕ} {w : Scope} {c : Site} {e : Expr} → KindAt s stmt_kind at Output n → OneAt s w.channels n c m
        → ExprAt s w.variables d m e p → StmtAt s (suc d) w at (output c e) p
    var_at : {d at n m p k : ℕ} {w : Scope} {b : Stmt} → KindAt s stmt_kind at Var n → CountAt s 1 32 n k m
        → StmtAt s d (with_variables at k w) m b p → StmtAt s (suc d) w at (VAR at k b) p
    chan_at : {d at n m p k : ℕ} {w : Scope} {b : Stmt} → KindAt s stmt_kind at Chan n → CountAt s 1 32 n k m
        → StmtAt s d (with_channels at k w) m b p → StmtAt s (suc d) w at (CHAN at k b) p
    seq_at : {d at n m p k : ℕ} {w : Scope} {ss : Stmts} → KindAt s stmt_kind at Seq n → CountAt s 0 32 n k m
        → StmtsAt s d w k m ss p → StmtAt s (suc d) w at (SEQ ss) p
    par_at : {d at n m p k : ℕ} {w : Scope} {ss : Stmts} → KindAt s stmt_kind at Par n → CountAt s 0 16 n k m
        → StmtsAt s d w k m ss p → StmtAt s (suc d) w at (PAR at ss) p
    if_at : {d at n m p k : ℕ} {w : Scope} {ps : Pairs} → KindAt s stmt_kind at If n → CountAt s 0 32 n k m
        → PairsAt s d w k m ps p → StmtAt s (suc d) w at (IF ps) p
    while_at : {d at n m p : ℕ} {w : Scope} {e : Expr} {b : Stmt} → KindAt s stmt_kind at While n → ExprAt s w.variables d n e m
        → StmtAt s d w m b p → StmtAt s (suc d) w at (WHILE e b) p
    alt_at : {d at n m p k : ℕ} {w : Scope} {gs : Guards} → KindAt s stmt_kind at Alt n → CountAt s 0 32 n k m
        → GuardsAt s d w k m gs p → StmtAt s (suc d) w at (ALT gs) p
    time_at : {d at n m : ℕ} {w : Scope} {x : Site} → KindAt s stmt_kind at Time n → OneAt s w.variables n x m
        → StmtAt s (suc d) w at (TIME x) m
    wait_at : {d at n m : ℕ} {w : Scope} {e : Expr} → KindAt s stmt_kind at Wait n → ExprAt s w.variables d n e m
        → StmtAt s (suc d) w at (WAIT e) m

  pub data StmtsAt (s : List ℕ) : (depth : ℕ) → Scope → (count at : ℕ) → Stmts → (next : ℕ) → Type 0 where
    no_stmt_at : {d at : ℕ} {w : Scope} → StmtsAt s d w 0 at no_stmt at
    stmts_at : {d k at n m : ℕ} {w : Scope} {b : Stmt} {ss : Stmts} → StmtAt s d w at b n → StmtsAt s d w k n ss m
        → StmtsAt s d w (suc k) at (stmt b ss) m

  pub data PairsAt (s : List ℕ) : (depth : ℕ) → Scope → (count at : ℕ) → Pairs → (next : ℕ) → Type 0 where
    no_pair_at : {d at : ℕ} {w : Scope} → PairsAt s d w 0 at no_pair at
    pair_at : {d k at n m p : ℕ} {w : Scope} {e : Expr} {b : Stmt} {ps : Pairs} → ExprAt s w.variables d at e n → StmtAt s d w n b m
        → PairsAt s d w k m ps p → PairsAt s d w (suc k) at (pair e b ps) p

  pub data GuardsAt (s : List ℕ) : (depth : ℕ) → Scope → (count at : ℕ) → Guards → (next : ℕ) → Type 0 where
    no_guard_at : {d at : ℕ} {w : Scope} → GuardsAt s d w 0 at no_guard at
    guards_at : {d k at n m p : ℕ} {w : Scope} {g : Guard} {b : Stmt} {gs : Guards} → GuardAt s d w at g n → StmtAt s d w n b m
        → GuardsAt s d w k m gs p → GuardsAt s d w (suc k) at (guard g b gs) p

module _ (s : List ℕ) (b : Bytes s) where
  one : {A : Type 0} (things : List A) (hi : ℕ) (at : ℕ) → length things ≡ suc hi
      → Gives s (OneAt s things at) (one_of things at (drop at s))
  one things hi at l =
      given (one_same things hi s at b l)
      (λ a n y h. record { index = h.value; listed = h.listed; there = numeral b h.there })

  -- a number that stands for one of the things listed, where `of` gives the thing of each number
  kind : {A : Type 0} (things : List A) (of : ℕ → A) (hi : ℕ) (at : ℕ) → length things ≡ suc hi
      → ((a : A) (v : ℕ) → get_elem? things v ≡ just a → of v ≡ a) → Gives s (KindAt s of at) (one_of things at (drop at s))
  kind things of hi at l f =
      given (one_same things hi s at b l)
      (λ a n y h. let t = numeral b h.there in
      record { number = h.value; is = f a h.value h.listed; value = t.value; ahead = t.ahead; inside = t.inside })

  pub count : (lo hi at : ℕ) → Gives s (CountAt s lo hi at) (read_count lo hi at (drop at s))
  count lo hi at =
      given (count_same lo hi s at b)
      (λ a n y h. record { there = numeral b h.there; least = h.least; most = h.most; fits = le-ltb hi a h.most })

  word : (at : ℕ) → Gives s (NumeralAt s at) (read_number at (drop at s))
  word at = given (word_same s at b) (λ a n y h. numeral b h.there)

  name : (fits : Site → Bool) (sites : List Site) (at : ℕ) → Gives s (OneAt s sites at) (read_name fits sites at (drop at s))
  unfolding read_name
  name fits sites at =
      and_then _ (word at)
      (λ k n t. by-option (get_elem? sites k) (λ e. rw e (stops BadName at))
      (λ x e. by_bool (fits x)
      (λ f. rw (e, f) (parses x n (record { index = k; listed = e; there = t })))
      (λ f. rw (e, f) (stops BadName at))))

  deep : {A : Type 0} (P : A → ℕ → Type 0) (at : ℕ) → Gives s P (too_deep at (drop at s))
  unfolding too_deep
  deep P at = and_then _ (word at) (λ k n t. stops TooDeep at)

  pub expr-spelled : (d : ℕ) (w : Scope) (at : ℕ) → Gives s (ExprAt s w.variables d at) (read_expr d w at (drop at s))
  unfolding read_expr expr_of
  expr-spelled zero w at = deep _ at
  expr-spelled (suc d) w at =
      and_then _ (kind expr_kinds expr_kind 3 at refl (λ k. expr-kind-is)) (λ k n t. of-kind (expr-spelled d w) n k t)
    where
      of-kind : ((at : ℕ) → Gives s (ExprAt s w.variables d at) (read_expr d w at (drop at s))) → (n : ℕ) (k : ExprKind)
          → KindAt s expr_kind at k n → Gives s (ExprAt s w.variables (suc d) at) (expr_of w (read_expr d w) k n (drop n s))
      of-kind inner n Constant t = and_then _ (word n) (λ v m q. parses (constant v) m (constant_at v t q))
      of-kind inner n Variable t = and_then _ (name any_site w.variables n) (λ x m q. parses (variable x) m (variable_at t q))
      of-kind inner n Not t = and_then _ (inner n) (λ e m q. parses (NOT e) m (not_at t q))
      of-kind inner n Binary t =
          and_then _ (one operators 7 n refl)
          (λ op m o. and_then _ (inner m)
          (λ l p q. and_then _ (inner p) (λ r u z. parses (binary op l r) u (binary_at t o q z))))

  -- so many parts, one after the other
  many : {A L : Type 0} (P : A → ℕ → ℕ → Type 0) (Q : ℕ → L → ℕ → ℕ → Type 0) (empty : L) (more : A → L → L) (part : Reader A)
      → ((at : ℕ) → Gives s (λ a n. P a at n) (part at (drop at s))) → ((at : ℕ) → Q 0 empty at at)
      → ((k : ℕ) (a : A) (l : L) (at n m : ℕ) → P a at n → Q k l n m → Q (suc k) (more a l) at m)
      → (k at : ℕ) → Gives s (λ l n. Q k l at n) (read_many empty more part k at (drop at s))
  unfolding read_many
  many P Q empty more part each_part last next zero at = parses empty at (last at)
  many P Q empty more part each_part last next (suc k) at =
      and_then _ (each_part at)
      (λ a n h. and_then _ (many P Q empty more part each_part last next k n) (λ l m g. parses (more a l) m (next k a l at n m h g)))

  -- the parts of a pair and of a guard in front of others
  record PairAt (d : ℕ) (w : Scope) (f : Pairs → Pairs) (at m : ℕ) : Type 0 where
    before : (k : ℕ) (ps : Pairs) (p : ℕ) → PairsAt s d w k m ps p → PairsAt s d w (suc k) at (f ps) p

  record GuardBefore (d : ℕ) (w : Scope) (f : Guards → Guards) (at m : ℕ) : Type 0 where
    before : (k : ℕ) (gs : Guards) (p : ℕ) → GuardsAt s d w k m gs p → GuardsAt s d w (suc k) at (f gs) p

  -- with what is inside
  module _ (d : ℕ) (inner : (w : Scope) (at : ℕ) → Gives s (StmtAt s d w at) (read_stmt d w at (drop at s))) where
    stmts : (w : Scope) (k at : ℕ) → Gives s (λ ss n. StmtsAt s d w k at ss n) (read_many no_stmt stmt (read_stmt d w) k at (drop at s))
    stmts w k at =
        many (λ b at n. StmtAt s d w at b n) (λ k ss at n. StmtsAt s d w k at ss n) no_stmt stmt (read_stmt d w) (inner w)
        (λ at. no_stmt_at)
        (λ k b ss at n m h g. stmts_at h g) k at

    abbrev within : Scope → Inner
    within w = record { expr = read_expr d w; stmt = read_stmt d }

    pairs : (w : Scope) (k at : ℕ)
        → Gives s (λ ps n. PairsAt s d w k at ps n) (read_many no_pair applied (read_pair w (within w)) k at (drop at s))
    unfolding read_pair
    pairs w k at =
        many (λ f at n. PairAt d w f at n) (λ k ps at n. PairsAt s d w k at ps n) no_pair applied (read_pair w (within w))
        (λ at. and_then _ (expr-spelled d w at)
        (λ e n h. and_then _ (inner w n) (λ b m g. parses (pair e b) m (record { before = λ k ps p r. pair_at h g r }))))
        (λ at. no_pair_at) (λ k f ps at n m h g. h.before k ps m g) k at

    -- what follows a guard's number
    of_guard : (w : Scope) (at n : ℕ) (k : GuardKind) → KindAt s guard_kind at k n
        → Gives s (λ g m. GuardAt s d w at g m) (guard_of w (read_expr d w) k n (drop n s))
    unfolding guard_of
    of_guard w at n InputGuard t =
        and_then _ (expr-spelled d w n)
        (λ e m q. and_then _ (name can_input w.channels m)
        (λ c p r. and_then _ (name any_site w.variables p) (λ x u y. parses (input_guard e c x) u (input_guard_at t q r y))))
    of_guard w at n SkipGuard t = and_then _ (expr-spelled d w n) (λ e m q. parses (skip_guard e) m (skip_guard_at t q))
    of_guard w at n TimeGuard t =
        and_then _ (expr-spelled d w n)
        (λ e m q. and_then _ (expr-spelled d w m) (λ x p r. parses (time_guard e x) p (time_guard_at t q r)))

    guards : (w : Scope) (k at : ℕ)
        → Gives s (λ gs n. GuardsAt s d w k at gs n) (read_many no_guard applied (read_guard w (within w)) k at (drop at s))
    unfolding read_guard
    guards w k at =
        many (λ f at n. GuardBefore d w f at n) (λ k gs at n. GuardsAt s d w k at gs n) no_guard applied (read_guard w (within w))
        (λ at. and_then _ (kind guard_kinds guard_kind 2 at refl (λ k. guard-kind-is))
        (λ k n t. and_then _ (of_guard w at n k t)
        (λ g m q. and_then _ (inner w m) (λ b z i. parses (guard g b) z (record { before = λ k gs p l. guards_at q i l })))))
        (λ at. no_guard_at) (λ k f gs at n m h g. h.before k gs m g) k at

    -- what follows each kind
    of-stmt : (w : Scope) (at n : ℕ) (k : StmtKind) → KindAt s stmt_kind at k n
        → Gives s (StmtAt s (suc d) w at) (stmt_of at w (within w) k n (drop n s))
    unfolding stmt_of
    of-stmt w at n Skip t = parses SKIP n (skip_at t)
    of-stmt w at n Stop t = parses STOP n (stop_at t)
    of-stmt w at n Assign t =
        and_then _ (name any_site w.variables n)
        (λ x m h. and_then _ (expr-spelled d w m) (λ e p g. parses (assign x e) p (assign_at t h g)))
    of-stmt w at n Input t =
        and_then _ (name can_input w.channels n)
        (λ c m h. and_then _ (name any_site w.variables m) (λ x p g. parses (input c x) p (input_at t h g)))
    of-stmt w at n Output t =
        and_then _ (name can_output w.channels n)
        (λ c m h. and_then _ (expr-spelled d w m) (λ e p g. parses (output c e) p (output_at t h g)))
    of-stmt w at n Var t =
        and_then _ (count 1 32 n)
        (λ k m h. and_then _ (inner (with_variables at k w) m) (λ b p g. parses (VAR at k b) p (var_at t h g)))
    of-stmt w at n Chan t =
        and_then _ (count 1 32 n)
        (λ k m h. and_then _ (inner (with_channels at k w) m) (λ b p g. parses (CHAN at k b) p (chan_at t h g)))
    of-stmt w at n Seq t = and_then _ (count 0 32 n) (λ k m h. and_then _ (stmts w k m) (λ ss p g. parses (SEQ ss) p (seq_at t h g)))
    of-stmt w at n Par t = and_then _ (count 0 16 n) (λ k m h. and_then _ (stmts w k m) (λ ss p g. parses (PAR at ss) p (par_at t h g)))
    of-stmt w at n If t = and_then _ (count 0 32 n) (λ k m h. and_then _ (pairs w k m) (λ ps p g. parses (IF ps) p (if_at t h g)))
    of-stmt w at n While t =
        and_then _ (expr-spelled d w n) (λ e m h. and_then _ (inner w m) (λ b p g. parses (WHILE e b) p (while_at t h g)))
    of-stmt w at n Alt t = and_then _ (count 0 32 n) (λ k m h. and_then _ (guards w k m) (λ gs p g. parses (ALT gs) p (alt_at t h g)))
    of-stmt w at n Time t = and_then _ (name any_site w.variables n) (λ x m h. parses (TIME x) m (time_at t h))
    of-stmt w at n Wait t = and_then _ (expr-spelled d w n) (λ e m h. parses (WAIT e) m (wait_at t h))

  pub stmt-spelled : (d : ℕ) (w : Scope) (at : ℕ) → Gives s (StmtAt s d w at) (read_stmt d w at (drop at s))
  unfolding read_stmt
  stmt-spelled zero w at = deep _ at
  stmt-spelled (suc d) w at =
      and_then _ (kind stmt_kinds stmt_kind 13 at refl (λ k. stmt-kind-is)) (λ k n t. of-stmt d (λ w i. stmt-spelled d w i) w at n k t)
