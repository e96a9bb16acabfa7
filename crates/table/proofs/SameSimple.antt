-- What is counted of statements and how they use names, against the model; statements without statements inside.
use Prim.Native.Nat.{ℕ, zero, suc, ◌+◌, ◌-◌, ◌≤◌, ◌<◌}
use native.Mathlib.Omega.{arith}
use mathlib.Core.Path.{◌≡◌, refl, sym, ◌∙◌}
use mathlib.Core.Logic.{◌⊎◌, inl, inr, ⊎_elim}
use mathlib.Core.Bool.{true, false, ◌||◌}
use mathlib.Core.List.{List, [], ◌∷◌, ◌++◌}
use mathlib.Core.Option.{Option, none, some, some-injective}
use lib.ListN.{length, drop, get_elem?, length-append}
use lib.Dec.{eqb}
use borrow.Author.Tests.{eq-eqb, ne_eqb, eqb-true, eqb-false}
use Rattle.model.proofs.Quiet.Setting.{get_elem-inside as inside}
use Rattle.model.proofs.Cases.{by_bool, never}
use Rattle.model.specs.Syntax.{Site, input_of, output_of, declared}
use Rattle.model.specs.Syntax as M
use Rattle.model.specs.Reader.{parsed, Reader, onward, pure, Scope, numbered, names, read_name, any_site, can_input, can_output, read_expr}
use Rattle.model.specs.Reader.{Inner, stmt_of}
use Rattle.model.specs.declared.kinds.StmtKind.TheVariants.{Assign, Input, Output, Time, Wait}
use Rattle.numbers.specs.declared.kinds.Simple.TheVariants.{Assign as Assigning, Input as Inputting, Output as Outputting}
use Rattle.numbers.specs.declared.kinds.Simple.TheVariants.{Time as Timing, Wait as Waiting}
use Rattle.counts.specs.declared.Role.{Role}
use Rattle.counts.specs.declared.Role.TheVariants.{Value, Output as Outward, Wait as ForWait}
use Rattle.model.specs.Usage.{Usage, nothing, ◌⊕◌, reading, changing, inputting, same, is_in, reads, usage, first_clash}
use Rattle.model.specs.Counts.{temporaries, processes, need}
use Rattle.counts.specs.Words.{asked}
use Rattle.table.specs.Stmts.{whole_at, variable_at, input_at, output_at, leaf, value_at, taken_at, simple_at, taken_uses}
use Rattle.table.specs.Stmts.{timed_at, timed_uses}
use Rattle.table.specs.Stmts.{simple_uses, stmt_uses}
use Rattle.table.specs.Scopes.{Fresh, Below, Scoped}
use Rattle.table.specs.Uses.{mark_at, change_at}
use Rattle.table.specs.declared.stmt.Names.{Names}
use Rattle.table.specs.declared.stmt.Part.{Part}
use Rattle.std.specs.Prelude.{Result, Ok, Err}
use Rattle.numbers.specs.declared.Misread.{Misread}
use Rattle.numbers.specs.declared.Number.{Number}
use Rattle.table.specs.declared.stmt.Front.{Front}
use Rattle.table.proofs.SameItems.{Bytes, Same, gives, onwards, mapped, Listed, name-same}
use Rattle.table.proofs.Marks.{Field, changed, used-there, inputs-of, outputs-of, field, names_of, only, Uses, use-nothing, use-both}
use Rattle.table.proofs.Marks.{mark-one, change-one, is_in-append, field_both, field-nothing, field-only, fields, InScope, or_cases}
use Rattle.table.proofs.Marks.{in_one}
use Rattle.table.proofs.SameExpr.{Numbers, expr_way, expr-same, variable-same}
use Rattle.numbers.specs.Items.{with_read}

abbrev pub first : Option ℕ → ℕ
first none = 0
first (some p) = suc p

-- what is counted of a statement that ends at a place
abbrev pub part_of : M.Stmt → ℕ → Part
part_of st n =
    record { next = n; words = need st; processes = processes st; clash = first (first_clash st) }

-- declared at a place from lo up to hi
abbrev pub DeclaredIn : (lo hi : ℕ) → Site → Type 0
DeclaredIn lo hi (input_of k) = ⊥
DeclaredIn lo hi (output_of k) = ⊥
DeclaredIn lo hi (declared p j) = (lo ≤ p) × (p < hi)

-- a usage of names in scope and of names declared from lo up to hi
pub record Within (sc : Scope) (lo hi : ℕ) (u : Usage) : Type 0 where
  pub each_in : (f : Field) (x : Site) → is_in x (field f u) ≡ true
      → InScope (names_of f sc) x ⊎ DeclaredIn lo hi x

-- what stands before a statement, up to a place, and the words that it asks for
abbrev pub front : (next words : ℕ) → Front
front n a = record { next = n; words = a }

-- an expression of a statement that stands in no other
pub record WholeIs (s : List ℕ) (role : Role) (d : ℕ) (sc : Scope) (at : ℕ) (e : M.Expr) (n : ℕ) (x : Result Front Misread) : Type 0 where
  pub is : x ≡ Ok (front n (asked role (temporaries e)))
  pub ahead : at < n
  pub uses : Uses sc (reading e) (expr_way d sc s at)
  pub within : (lo hi : ℕ) → Within sc lo hi (reading e)

pub within-reads : (sc : Scope) (e : M.Expr) (lo hi : ℕ) → ((x : Site) → is_in x (reads e) ≡ true → InScope sc.variables x)
    → Within sc lo hi (reading e)
unfolding is_in
within-reads sc e lo hi h = record { each_in = λ f x i. in_field f x i }
  where
    in_field : (f : Field) (x : Site) → is_in x (field f (reading e)) ≡ true
        → InScope (names_of f sc) x ⊎ DeclaredIn lo hi x
    in_field changed x i = never (cc)
    in_field used-there x i = inl (h x i)
    in_field inputs-of x i = never (cc)
    in_field outputs-of x i = never (cc)

pub whole_same : (role : Role) (d : ℕ) (sc : Scope) (s : List ℕ) (at : ℕ) → Bytes s → Numbers sc
    → Same s (WholeIs s role d sc at) (whole_at role d (length sc.variables) s at) (read_expr d sc at (drop at s))
unfolding whole_at
whole_same role d sc s at b o =
    mapped (λ x. with_read Err x (λ e. Ok (front e.next (asked role e.stored)))) (expr-same d sc s at b o)
    (λ e n y k. rw k.is
    (record { is = refl; ahead = k.ahead; uses = k.uses; within = λ lo hi. within-reads sc e lo hi k.within }))
    (λ e. refl)

-- what follows a statement's kind
pub record RestIs (sc : Scope) (place at : ℕ) (way : List ℕ → List ℕ) (st : M.Stmt) (n : ℕ) (x : Result Part Misread) : Type 0 where
  pub is : x ≡ Ok (part_of st n)
  pub ahead : at ≤ n
  pub uses : Uses sc (usage st) way
  pub within : Within sc place n (usage st)

-- parts of usages within a scope
pub within-nothing : (sc : Scope) (lo hi : ℕ) → Within sc lo hi nothing
unfolding is_in
within-nothing sc lo hi = record { each_in = λ f x e. never (cc (rw (field-nothing f) at e)) }

pub declared-wider : (x : Site) (lo hi lo2 hi2 : ℕ) → lo2 ≤ lo → hi ≤ hi2 → DeclaredIn lo hi x → DeclaredIn lo2 hi2 x
declared-wider (input_of k) lo hi lo2 hi2 a b d = absurd d
declared-wider (output_of k) lo hi lo2 hi2 a b d = absurd d
declared-wider (declared p j) lo hi lo2 hi2 a b d = (omega (arith, a, d.0), omega (arith, b, d.1))

pub wider : {sc : Scope} {lo hi lo2 hi2 : ℕ} {u : Usage} → lo2 ≤ lo → hi ≤ hi2 → Within sc lo hi u → Within sc lo2 hi2 u
wider {lo = lo} {hi} {lo2} {hi2} a b w =
    record { each_in = λ f x e. ⊎_elim (λ i. inl i) (λ d. inr (declared-wider x lo hi lo2 hi2 a b d)) (w.each_in f x e) }

pub within_both : {sc : Scope} {lo hi : ℕ} {u v : Usage} → Within sc lo hi u → Within sc lo hi v → Within sc lo hi (u ⊕ v)
within_both {sc} {lo} {hi} {u} {v} a b =
    record {
      each_in = λ f x e.
          let split : (is_in x (field f u) || is_in x (field f v)) ≡ true = rw
          (field_both f u v, is_in-append x (field f u) (field f v)) at e in
          or_cases (is_in x (field f u)) (is_in x (field f v)) split (λ h. a.each_in f x h) (λ h. b.each_in f x h);
    }

within-only : (f : Field) (sc : Scope) (lo hi k : ℕ) (x : Site) → get_elem? (names_of f sc) k ≡ some x
    → Within sc lo hi (only f x)
unfolding is_in
within-only f sc lo hi k x e =
    record {
      each_in = λ g y h.
          fields g f
          (λ q. let eq : y ≡ x = in_one x y (rw (q, field-only f x) at h) in inl (k, rw (q, eq) e))
          (λ a. never (cc (rw (a.empty x) at h)));
    }

within-changing : (sc : Scope) (lo hi k : ℕ) (x : Site) → get_elem? sc.variables k ≡ some x → Within sc lo hi (changing x)
within-changing sc lo hi k x e = within_both (within-only changed sc lo hi k x e) (within-only used-there sc lo hi k x e)

-- SKIP and STOP
pub idle-same : (sc : Scope) (s : List ℕ) (place at : ℕ) (st : M.Stmt) → usage st ≡ nothing
    → part_of st at ≡ record { next = at; words = 2; processes = 1; clash = 0 }
    → Same s (RestIs sc place at (λ l. l)) (Ok (leaf at 2)) (parsed st at (drop at s))
idle-same sc s place at st none-used is =
    gives st at (Ok (leaf at 2))
    (record {
      is = rw is refl;
      ahead = omega arith;
      uses = rw none-used (use-nothing sc);
      within = rw none-used (within-nothing sc place at);
    })

-- an expression at the end of a statement without statements inside
value_same : (role : Role) (d : ℕ) (sc : Scope) (s : List ℕ) (at : ℕ) (of : M.Expr → M.Stmt) (R : M.Stmt → ℕ → Result Part Misread → Type 0)
    → Bytes s
    → Numbers sc
    → ((e : M.Expr) (n : ℕ) (x : Result Front Misread) → WholeIs s role d sc at e n x
    → R (of e) n (Ok (leaf n (asked role (temporaries e)))))
    → Same s R (value_at role d (length sc.variables) s at) (onward (read_expr d sc at (drop at s)) (λ e. pure (of e)))
unfolding value_at
value_same role d sc s at of R b o h =
    onwards (λ x. with_read Err x (λ f. Ok (leaf f.next f.words))) (λ e. pure (of e)) (whole_same role d sc s at b o)
    (λ e n y k q. rw k.is (gives (of e) n (Ok (leaf n (asked role (temporaries e)))) (h e n y k))) (λ e. refl)

input-same : (w : Names) (sc : Scope) (place : ℕ) (s : List ℕ) (at : ℕ) → Bytes s → Scoped w sc place
    → Same s (Listed s at sc.channels) (input_at w s at) (read_name can_input sc.channels at (drop at s))
input-same w sc place s at b h = rw h.channels (name-same can_input sc.channels w.inputs (w.inputs + w.outputs) s at b h.ins)

output-same : (w : Names) (sc : Scope) (place : ℕ) (s : List ℕ) (at : ℕ) → Bytes s → Scoped w sc place
    → Same s (Listed s at sc.channels) (output_at w s at) (read_name can_output sc.channels at (drop at s))
output-same w sc place s at b h = rw h.channels (name-same can_output sc.channels 0 w.inputs s at b h.outs)

pub assign-same : (d : ℕ) (w : Names) (sc : Scope) (s : List ℕ) (place at : ℕ) (stmts : Scope → Reader M.Stmt) → Bytes s → Scoped w sc place
    → Numbers sc
    → Same s (RestIs sc place at (λ l. simple_uses Assigning d w s at l)) (simple_at Assigning d w s at)
    (stmt_of place sc (record { expr = read_expr d sc; stmt = stmts }) Assign at (drop at s))
unfolding simple_at simple_uses stmt_of asked need processes first_clash usage
assign-same d w sc s place at stmts b h o =
    rw h.variables (
    onwards (λ i. with_read Err i (λ x. value_at Value d (length sc.variables) s x.next)) _ (variable-same sc.variables s at b)
    (λ x n y k q. rw k.found (
    value_same Value d sc s n (λ e. M.assign x e) (RestIs sc place at _) b o (λ e m z r.
    record {
      is = refl;
      ahead = omega (arith, k.there.ahead, r.ahead);
      uses = rw (q ∙ k.found)
          (use-both {f = change_at k.value} {g = expr_way d sc s n}
          (change-one sc k.value x o.own-variables k.listed o.few-variables) r.uses);
      within = within_both (within-changing sc place m k.value x k.listed) (r.within place m);
    })))
    (λ e. refl))

-- an item that was read stands for one of the things listed
listed-is : {A : Type 0} {s : List ℕ} {at n : ℕ} {things : List A} {a : A} {i j : Result Number Misread} → i ≡ j → Listed s at things a n j
    → Listed s at things a n i
listed-is e k = record { value = k.value; found = e ∙ k.found; listed = k.listed; there = k.there }

-- a channel to input from at a place, and a variable behind it
pub record TakenAt (w : Names) (sc : Scope) (s : List ℕ) (at : ℕ) (ch x : Site) (n m : ℕ) : Type 0 where
  pub channel : Listed s at sc.channels ch n (input_at w s at)
  pub target : Listed s n sc.variables x m (variable_at w s n)

-- a channel to input from and a variable, and what follows them
pub taken-onward : {B Y : Type 0} {Q : B → ℕ → Result Y Misread → Type 0} (w : Names) (sc : Scope) (s : List ℕ) (place at words : ℕ)
    (c : Result Front Misread → Result Y Misread) (k : Site → Site → Reader B) → Bytes s → Scoped w sc place
    → ((ch x : Site) (n m : ℕ) → TakenAt w sc s at ch x n m → Same s Q (c (Ok (front m words))) (k ch x m (drop m s)))
    → ((e : Misread) → c (Err e) ≡ Err e)
    → Same s Q (c (taken_at w s at words))
    (onward (read_name can_input sc.channels at (drop at s))
    (λ ch. λ i bytes. onward (read_name any_site sc.variables i bytes) (λ x. k ch x)))
unfolding taken_at
taken-onward w sc s place at words c k b h f r =
    onwards (λ i. c (with_read Err i (λ ch. with_read Err (variable_at w s ch.next) (λ x. Ok (front x.next words))))) _
    (input-same w sc place s at b h)
    (λ ch n y kc q. rw (kc.found, h.variables) (
    onwards (λ i. c (with_read Err i (λ x. Ok (front x.next words)))) (λ x. k ch x) (variable-same sc.variables s n b)
    (λ x m z kx p. rw kx.found
    (f ch x n m (record { channel = listed-is q kc; target = listed-is (rw h.variables p) kx }))) r))
    r

-- how a channel and a variable that are input are used
pub taken-uses : {w : Names} {sc : Scope} {s : List ℕ} {at n m : ℕ} {ch x : Site} → TakenAt w sc s at ch x n m → Numbers sc
    → Uses sc (inputting ch ⊕ changing x) (λ l. taken_uses w s at l)
unfolding taken_uses
taken-uses {sc = sc} {ch = ch} {x} t o =
    rw (t.channel.found, t.target.found) (
    use-both {f = mark_at 32 t.channel.value} {g = change_at t.target.value}
    (mark-one inputs-of sc t.channel.value ch o.own-channels t.channel.listed o.few-channels)
    (change-one sc t.target.value x o.own-variables t.target.listed o.few-variables))

pub within-input : {w : Names} {sc : Scope} {s : List ℕ} {at n m : ℕ} {ch x : Site} (lo hi : ℕ) → TakenAt w sc s at ch x n m
    → Within sc lo hi (inputting ch ⊕ changing x)
within-input {sc = sc} {ch = ch} {x} lo hi t =
    within_both (within-only inputs-of sc lo hi t.channel.value ch t.channel.listed)
    (within-changing sc lo hi t.target.value x t.target.listed)

pub input-stmt-same : (d : ℕ) (w : Names) (sc : Scope) (s : List ℕ) (place at : ℕ) (inner : Inner) → Bytes s → Scoped w sc place
    → Numbers sc
    → Same s (RestIs sc place at (λ l. simple_uses Inputting d w s at l)) (simple_at Inputting d w s at)
    (stmt_of place sc inner Input at (drop at s))
unfolding simple_at simple_uses stmt_of need processes first_clash usage
input-stmt-same d w sc s place at inner b h o =
    taken-onward w sc s place at 3 (λ x. with_read Err x (λ f. Ok (leaf f.next f.words))) (λ c x. pure (M.input c x)) b h
    (λ ch x n m t. gives (M.input ch x) m (Ok (leaf m 3))
    (record {
      is = refl;
      ahead = omega (arith, t.channel.there.ahead, t.target.there.ahead);
      uses = taken-uses t o;
      within = within-input place m t;
    }))
    (λ e. refl)

pub output-stmt-same : (d : ℕ) (w : Names) (sc : Scope) (s : List ℕ) (place at : ℕ) (stmts : Scope → Reader M.Stmt) → Bytes s
    → Scoped w sc place → Numbers sc
    → Same s (RestIs sc place at (λ l. simple_uses Outputting d w s at l)) (simple_at Outputting d w s at)
    (stmt_of place sc (record { expr = read_expr d sc; stmt = stmts }) Output at (drop at s))
unfolding simple_at simple_uses stmt_of asked need processes first_clash usage
output-stmt-same d w sc s place at stmts b h o =
    rw h.variables (
    onwards (λ i. with_read Err i (λ x. value_at Outward d (length sc.variables) s x.next)) _ (output-same w sc place s at b h)
    (λ ch n y k q. rw k.found (
    value_same Outward d sc s n (λ e. M.output ch e) (RestIs sc place at _) b o (λ e m z r.
    record {
      is = refl;
      ahead = omega (arith, k.there.ahead, r.ahead);
      uses = rw (q ∙ k.found)
          (use-both {f = mark_at 48 k.value} {g = expr_way d sc s n}
          (mark-one outputs-of sc k.value ch o.own-channels k.listed o.few-channels) r.uses);
      within = within_both (within-only outputs-of sc place m k.value ch k.listed) (r.within place m);
    })))
    (λ e. refl))

-- TIME and WAIT (02, order 4)
pub time-same : (d : ℕ) (w : Names) (sc : Scope) (s : List ℕ) (place at : ℕ) (inner : Inner) → Bytes s → Scoped w sc place → Numbers sc
    → Same s (RestIs sc place at (λ l. simple_uses Timing d w s at l)) (simple_at Timing d w s at)
    (stmt_of place sc inner Time at (drop at s))
unfolding simple_at simple_uses timed_at timed_uses stmt_of need processes first_clash usage
time-same d w sc s place at inner b h o =
    rw h.variables (
    onwards (λ i. with_read Err i (λ x. Ok (leaf x.next 2))) (λ x. pure (M.TIME x)) (variable-same sc.variables s at b)
    (λ x n y k q. rw k.found
    (gives (M.TIME x) n (Ok (leaf n 2))
    (record {
      is = refl;
      ahead = omega (arith, k.there.ahead);
      uses = rw (q ∙ k.found) (change-one sc k.value x o.own-variables k.listed o.few-variables);
      within = within-changing sc place n k.value x k.listed;
    })))
    (λ e. refl))

pub wait-same : (d : ℕ) (w : Names) (sc : Scope) (s : List ℕ) (place at : ℕ) (stmts : Scope → Reader M.Stmt) → Bytes s → Scoped w sc place
    → Numbers sc
    → Same s (RestIs sc place at (λ l. simple_uses Waiting d w s at l)) (simple_at Waiting d w s at)
    (stmt_of place sc (record { expr = read_expr d sc; stmt = stmts }) Wait at (drop at s))
unfolding simple_at simple_uses stmt_of asked need processes first_clash usage
wait-same d w sc s place at stmts b h o =
    rw h.variables (
    value_same ForWait d sc s at (λ e. M.WAIT e) (RestIs sc place at _) b o (λ e m z r.
    record { is = refl; ahead = omega (arith, r.ahead); uses = r.uses; within = r.within place m }))

-- a statement
pub record StmtIs (s : List ℕ) (d : ℕ) (w : Names) (sc : Scope) (at : ℕ) (st : M.Stmt) (n : ℕ) (x : Result Part Misread) : Type 0 where
  pub is : x ≡ Ok (part_of st n)
  pub ahead : at < n
  pub uses : Uses sc (usage st) (λ l. stmt_uses d w s at l)
  pub within : Within sc at n (usage st)

-- a name among two lists of names
pub lookup-append : {A : Type 0} (a b : List A) (k : ℕ) (x : A) → get_elem? (a ++ b) k ≡ some x
    → (get_elem? a k ≡ some x) ⊎ ((length a ≤ k) × (get_elem? b (k - length a) ≡ some x))
lookup-append [] b k x e = inr (omega arith, let here : k - 0 ≡ k = omega arith in rw here e)
lookup-append (y ∷ a) b zero x e = inl e
lookup-append (y ∷ a) b (suc k) x e =
    ⊎_elim (λ (h : get_elem? a k ≡ some x). inl h)
    (λ (h : (length a ≤ k) × (get_elem? b (k - length a) ≡ some x)).
    let here : suc k - suc (length a) ≡ k - length a = omega arith in inr (omega (arith, h.0), rw here h.1))
    (lookup-append a b k x e)

pub length-numbered : (of : ℕ → Site) (n : ℕ) → length (numbered of n) ≡ n
unfolding numbered
length-numbered of zero = refl
length-numbered of (suc n) = length-append (numbered of n) (of n ∷ []) ∙ rw (length-numbered of n) (omega arith)

-- so many names, by their numbers
pub numbered-at : (of : ℕ → Site) (n i : ℕ) (x : Site) → get_elem? (numbered of n) i ≡ some x → (x ≡ of i) × (i < n)
unfolding numbered
numbered-at of zero i x e = never (cc)
numbered-at of (suc n) i x e =
    ⊎_elim
    (λ (h : get_elem? (numbered of n) i ≡ some x). let r = numbered-at of n i x h in (r.0, omega (arith, r.1)))
    (λ (h : (length (numbered of n) ≤ i) × (get_elem? (of n ∷ []) (i - length (numbered of n)) ≡ some x)).
    let q = only_one (i - length (numbered of n)) h.1 in
    let here : i ≡ n = omega (arith, h.0, q.0, length-numbered of n) in
    (rw here (sym q.1), omega (arith, here)))
    (lookup-append (numbered of n) (of n ∷ []) i x e)
  where
    only_one : (j : ℕ) → get_elem? (of n ∷ []) j ≡ some x → (j ≡ 0) × (of n ≡ x)
    only_one zero h = (refl, some-injective (of n) x h)
    only_one (suc j) h = never (cc)

-- names declared before a place are none of those declared there
before-other : (y : Site) (p i : ℕ) → ((q j : ℕ) → y ≡ declared q j → q < p)
    → (same y (declared p i) ≡ false) × (same (declared p i) y ≡ false)
unfolding same
before-other (input_of k) p i h = (refl, refl)
before-other (output_of k) p i h = (refl, refl)
before-other (declared q j) p i h =
    let l : q < p = h q j refl in
    (rw (ne_eqb q p (λ e. omega (arith, l, e))) refl, rw (ne_eqb p q (λ e. omega (arith, l, e))) refl)

before-name : (place : ℕ) (vs : List Site) (k : ℕ) (y : Site) → Below place vs → get_elem? vs k ≡ some y → (q j : ℕ) → y ≡ declared q j
    → q < place
before-name place vs k y below e q j d = below k q j (rw d at e)

pub fresh-more : (vs old : List Site) (p c : ℕ) → Below p vs → Fresh vs old → length vs ≤ length old → Fresh vs (old ++ names p c)
fresh-more vs old p c below fresh few k v y x ek ev =
    ⊎_elim (λ (h : get_elem? old v ≡ some x). fresh k v y x ek h)
    (λ (h : (length old ≤ v) × (get_elem? (names p c) (v - length old) ≡ some x)).
    let new = numbered-at (declared p) c (v - length old) x h.1 in
    let apart : k ≡ v → ⊥ = λ e. omega (arith, e, h.0, few, inside vs k ek) in
    rw (new.0, (before-other y p (v - length old) (before-name p vs k y below ek)).0) (sym (ne_eqb k v apart)))
    (lookup-append old (names p c) v x ev)

pub own-more : (vs : List Site) (p c : ℕ) → Below p vs → Fresh vs vs → Fresh (vs ++ names p c) (vs ++ names p c)
unfolding same
own-more vs p c below fresh k v y x ek ev =
    ⊎_elim (λ (h : get_elem? vs k ≡ some y). fresh-more vs vs p c below fresh (omega arith) k v y x h ev)
    (λ (h : (length vs ≤ k) × (get_elem? (names p c) (k - length vs) ≡ some y)).
    let new = numbered-at (declared p) c (k - length vs) y h.1 in
    rw new.0 (
    ⊎_elim (λ (g : get_elem? vs v ≡ some x).
    let apart : k ≡ v → ⊥ = λ e. omega (arith, e, h.0, inside vs v g) in
    rw (before-other x p (k - length vs) (before-name p vs v x below g)).1 (sym (ne_eqb k v apart)))
    (λ (g : (length vs ≤ v) × (get_elem? (names p c) (v - length vs) ≡ some x)).
    rw ((numbered-at (declared p) c (v - length vs) x g.1).0, eq-eqb p p refl) (
    by_bool (eqb k v)
    (λ q. rw (q, eqb-true k v q) (eq-eqb (v - length vs) (v - length vs) refl))
    (λ q. rw q (ne_eqb (k - length vs) (v - length vs) (λ e. eqb-false k v q (omega (arith, e, h.0, g.0)))))))
    (lookup-append vs (names p c) v x ev)))
    (lookup-append vs (names p c) k y ek)

pub below_more : (vs : List Site) (p c m : ℕ) → Below p vs → p < m → Below m (vs ++ names p c)
below_more vs p c m below l k q j e =
    ⊎_elim (λ (h : get_elem? vs k ≡ some (declared q j)). omega (arith, l, below k q j h))
    (λ (h : (length vs ≤ k) × (get_elem? (names p c) (k - length vs) ≡ some (declared q j))).
    let new : declared q j ≡ declared p (k - length vs) = (numbered-at (declared p) c (k - length vs) (declared q j) h.1).0 in
    let here : q ≡ p = cc in
    omega (arith, l, here))
    (lookup-append vs (names p c) k (declared q j) e)

pub below-later : (vs : List Site) (p m : ℕ) → p ≤ m → Below p vs → Below m vs
below-later vs p m l below k q j e = omega (arith, l, below k q j e)
