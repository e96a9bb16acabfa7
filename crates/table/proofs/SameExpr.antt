-- Expressions as the reader answers them are those of the model's reader, with the registers that they need and the values that they store.
use Prim.Native.Nat.{ℕ, zero, suc, ◌≤◌, ◌<◌}
use native.Mathlib.Omega.{arith}
use mathlib.Core.Path.{◌≡◌, refl, ◌∙◌}
use mathlib.Core.Bool.{true}
use mathlib.Core.List.{List}
use lib.ListN.{length, drop}
use borrow.Author.Tests.{le-leb, le-ltb}
use Rattle.model.specs.Syntax.{Site, constant, variable, NOT, binary}
use Rattle.model.specs.Syntax as M
use Rattle.model.specs.Reader.{Parsed, Reader, pure, Scope, read_name, any_site, expr_kinds, operators, expr_of, read_expr}
use Rattle.model.specs.declared.kinds.ExprKind.{ExprKind}
use Rattle.model.specs.declared.kinds.ExprKind.TheVariants.{Constant, Variable, Not, Binary}
use Rattle.numbers.specs.Kinds.{expr_kind, by_expr, last_expression}
use Rattle.model.specs.Usage.{reading, is_in, reads}
use Rattle.model.proofs.Cases.{never}
use Rattle.model.specs.Counts.{registers, temporaries}
use Rattle.numbers.specs.Items.{between_at, name_at, with_read}
use Rattle.table.specs.Exprs.{single, constant_at, used_at, joined, operated, expr_at, used_uses, operated_use, expr_uses}
use Rattle.table.specs.declared.expr.Term.{Term}
use Rattle.table.specs.Scopes.{Fresh}
use Rattle.std.specs.Prelude.{Result, Ok, Err}
use Rattle.numbers.specs.declared.Misread.{Misread}
use Rattle.table.proofs.SameItems.{to, Bytes, NumberAt, Same, gives, turns, onwards, Listed, one_same, name-same, deep-same, word_same}
use Rattle.table.proofs.SameItems.{expr-kind-is}
use Rattle.table.proofs.Marks.{Uses, used-there, use-nothing, use-both, mark-one, InScope, or_cases, in_one, is_in-append}

-- what is counted of an expression that ends at a place
abbrev pub term_of : M.Expr → ℕ → Term
term_of e n = record { next = n; registers = registers e; stored = temporaries e }

-- an expression: what is counted of it, its end and what it reads
pub record ExprIs (names : Scope) (at : ℕ) (way : List ℕ → List ℕ) (e : M.Expr) (n : ℕ) (x : Result Term Misread) : Type 0 where
  pub is : x ≡ Ok (term_of e n)
  pub ahead : at < n
  pub uses : Uses names (reading e) way
  pub within : (x : Site) → is_in x (reads e) ≡ true → InScope names.variables x

-- a scope whose names have a number each, and a place in the sets
pub record Numbers (names : Scope) : Type 0 where
  pub own-variables : Fresh names.variables names.variables
  pub own-channels : Fresh names.channels names.channels
  pub few-variables : length names.variables ≤ 1024
  pub few-channels : length names.channels ≤ 1024

abbrev pub expr_way : (d : ℕ) → Scope → List ℕ → (at : ℕ) → List ℕ → List ℕ
expr_way d names s at l = expr_uses d (length names.variables) s at l

pub variable-same : (vs : List Site) (s : List ℕ) (at : ℕ) → Bytes s
    → Same s (Listed s at vs) (name_at (length vs) 0 0 s at) (read_name any_site vs at (drop at s))
variable-same vs s at b =
    name-same any_site vs 0 0 s at b (λ i a e. rw (le-ltb i 0 (omega arith), le-leb 0 i (omega arith)) refl)

constant-same : (names : Scope) (inner : Reader M.Expr) (s : List ℕ) (at : ℕ) → Bytes s
    → Same s (ExprIs names at (λ l. l)) (constant_at s at) (expr_of names inner Constant at (drop at s))
unfolding expr_of registers temporaries reads is_in
constant-same names inner s at b =
    onwards (λ i. with_read Err i (λ v. Ok (single v.next))) (λ v. pure (constant v)) (word_same s at b)
    (λ v n y h e. rw h.found (gives (constant v) n _
    (record { is = refl; ahead = h.there.ahead; uses = use-nothing names; within = λ x i. never (cc) })))
    (λ e. refl)

used-same : (names : Scope) (inner : Reader M.Expr) (s : List ℕ) (at : ℕ) → Bytes s → Numbers names
    → Same s (ExprIs names at (λ l. used_uses (length names.variables) s at l)) (used_at (length names.variables) s at)
    (expr_of names inner Variable at (drop at s))
unfolding used_at used_uses expr_of registers temporaries reads
used-same names inner s at b o =
    onwards (λ i. with_read Err i (λ v. Ok (single v.next))) (λ x. pure (variable x)) (variable-same names.variables s at b)
    (λ x n y h e. rw h.found (gives (variable x) n _
    (record {
      is = refl;
      ahead = h.there.ahead;
      uses = rw (e ∙ h.found) (mark-one used-there names h.value x o.own-variables h.listed o.few-variables);
      within = λ z i. (h.value, rw (in_one x z i) h.listed);
    })))
    (λ e. refl)

abbrev InnerSame : List ℕ → Scope → (ℕ → Result Term Misread) → (ℕ → List ℕ → List ℕ) → Reader M.Expr → Type 0
InnerSame s names inner uses reader = (i : ℕ) → Same s (ExprIs names i (uses i)) (inner i) (reader i (drop i s))

not_same : (names : Scope) (inner : ℕ → Result Term Misread) (uses : ℕ → List ℕ → List ℕ) (reader : Reader M.Expr) (s : List ℕ) (at : ℕ)
    → InnerSame s names inner uses reader
    → Same s (ExprIs names at (uses at)) (inner at) (expr_of names reader Not at (drop at s))
unfolding expr_of registers temporaries reads
not_same names inner uses reader s at h =
    onwards (λ y. y) (λ e. pure (NOT e)) (h at)
    (λ e n y k q. gives (NOT e) n y (record { is = k.is; ahead = k.ahead; uses = k.uses; within = k.within })) (λ e. refl)

binary-same : (names : Scope) (inner : ℕ → Result Term Misread) (uses : ℕ → List ℕ → List ℕ) (reader : Reader M.Expr) (s : List ℕ)
    (at : ℕ) → Bytes s
    → InnerSame s names inner uses reader
    → Same s (ExprIs names at (operated_use inner uses s at)) (operated inner s at) (expr_of names reader Binary at (drop at s))
unfolding expr_of registers temporaries reads
binary-same names inner uses reader s at b h =
    onwards (λ i. with_read Err i (λ o. with_read Err (inner o.next) (λ l. with_read Err (inner l.next) (λ r. Ok (joined l r))))) _
    (one_same operators 7 s at b refl)
    (λ op n y k q. rw k.found (
    onwards (λ x. with_read Err x (λ l. with_read Err (inner l.next) (λ r. Ok (joined l r)))) _ (h n)
    (λ l m z kl ql. rw kl.is (
    onwards (λ x. with_read Err x (λ r. Ok (joined (term_of l m) r))) (λ r. pure (binary op l r)) (h m)
    (λ r i u kr qr. rw kr.is (gives (binary op l r) i _
    (record {
      is = refl;
      ahead = omega (arith, k.there.ahead, kl.ahead, kr.ahead);
      uses = rw (q ∙ k.found, ql ∙ kl.is) (use-both {f = uses n} {g = uses m} kl.uses kr.uses);
      within =
          λ x a.
          or_cases (is_in x (reads l)) (is_in x (reads r)) (rw (is_in-append x (reads l) (reads r)) at a) (kl.within x) (kr.within x);
    })))
    (λ e. refl)))
    (λ e. refl)))
    (λ e. refl)

pub expr-same : (d : ℕ) (names : Scope) (s : List ℕ) (at : ℕ) → Bytes s → Numbers names
    → Same s (ExprIs names at (expr_way d names s at)) (expr_at d (length names.variables) s at) (read_expr d names at (drop at s))
unfolding expr_at read_expr expr_uses
expr-same zero names s at b o =
    deep-same (ExprIs names at (expr_way zero names s at)) s at b
expr-same (suc d) names s at b o =
    let inner : InnerSame s names (λ i. expr_at d (length names.variables) s i) (expr_way d names s) (read_expr d names) =
    λ i. expr-same d names s i b o in
    onwards (λ x. with_read Err x (λ k. kinds (expr_kind k.value) k.next)) (λ k. expr_of names (read_expr d names) k)
    (one_same expr_kinds 3 s at b refl)
    (λ kind n y k q. let e = expr-kind-is k.value k.listed in
    rw (k.found, e) (with-kind k.value kind n _ _ (q ∙ k.found) e k.there (of-kind inner n kind)))
    (λ e. refl)
  where
    kinds : ExprKind → ℕ → Result Term Misread
    kinds k n =
        by_expr k (constant_at s n) (used_at (length names.variables) s n) (expr_at d (length names.variables) s n)
        (operated (λ i. expr_at d (length names.variables) s i) s n)

    uses-of : ExprKind → ℕ → List ℕ → List ℕ
    uses-of k n l =
        by_expr k l (used_uses (length names.variables) s n l) (expr_way d names s n l)
        (operated_use (λ i. expr_at d (length names.variables) s i) (expr_way d names s) s n l)

    of-kind : InnerSame s names (λ i. expr_at d (length names.variables) s i) (expr_way d names s) (read_expr d names) → (n : ℕ)
        → (k : ExprKind) → Same s (ExprIs names n (uses-of k n)) (kinds k n) (expr_of names (read_expr d names) k n (drop n s))
    of-kind inner n Constant = constant-same names (read_expr d names) s n b
    of-kind inner n Variable = used-same names (read_expr d names) s n b o
    of-kind inner n Not = not_same names (λ i. expr_at d (length names.variables) s i) (expr_way d names s) (read_expr d names) s n inner
    of-kind inner n Binary =
        binary-same names (λ i. expr_at d (length names.variables) s i) (expr_way d names s) (read_expr d names) s n b inner

    with-kind : (v : ℕ) (k : ExprKind) (n : ℕ) (x : Result Term Misread) (r : Parsed M.Expr)
        → between_at 0 last_expression s at ≡ Ok (to v n)
        → expr_kind v ≡ k → NumberAt s at v n → Same s (ExprIs names n (uses-of k n)) x r
        → Same s (ExprIs names at (expr_way (suc d) names s at)) x r
    with-kind v k n x r f g t (gives e m y h) =
        gives e m y (record { is = h.is; ahead = omega (arith, t.ahead, h.ahead); uses = rw (f, g) h.uses; within = h.within })
    with-kind v k n x r f g t (turns why p) = turns why p
