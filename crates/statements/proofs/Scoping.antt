-- The words of the names in scope stay where they are while the statements inside are compiled; and no statement has more parts than 32.
use Prim.Native.Nat.{ℕ, ◌+◌, ◌-◌, ◌≤◌}
use native.Mathlib.Omega.{arith}
use mathlib.Core.Path.{◌≡◌, refl, sym, subst}
use mathlib.Core.List.{List}
use borrow.Author.Tests.{ltb-false}
use lib.Dec.{ltb}
use Rattle.model.specs.Limits.{name_limit, part_limit}
use Rattle.model.specs.declared.kinds.StmtKind.{StmtKind}
use Rattle.model.specs.declared.kinds.StmtKind.TheVariants.{Skip, Stop, Assign, Input, Output, Var, Chan, Seq, Par, If, While, Alt}
use Rattle.model.specs.declared.kinds.StmtKind.TheVariants.{Time, Wait}
use Rattle.model.proofs.Cases.{by_bool, never}
use Rattle.numbers.specs.Items.{value_at}
use Rattle.numbers.specs.Kinds.{shape_of, count_in}
use Rattle.numbers.specs.declared.kinds.Count.{Count}
use Rattle.numbers.specs.declared.kinds.Count.TheVariants.{UpTo, Fixed}
use Rattle.numbers.specs.declared.kinds.Declared.{Declared}
use Rattle.numbers.specs.declared.kinds.Head.{Head}
use Rattle.numbers.specs.declared.kinds.Shape.TheVariants.{Parts}
use Rattle.expressions.specs.Names.{Names, Shows, Scoped, entered, declaring, declare_into}
use Rattle.expressions.specs.Emits.{Code}
use Rattle.expressions.specs.Exprs.{Wrote}
use Rattle.expressions.specs.declared.words.Scope.{Scope}
use Rattle.expressions.proofs.Scopes.{enters, leaves}
use Rattle.statements.specs.Stmts.{Makes, under, branch_into, branches_into}
use Rattle.statements.specs.Kinds.{FewParts, stmt_into, inner_at}

-- the same names in another scope, with fewer levels left
deeper : (d e : ℕ) (sc inner : Scope) (ws : List ℕ) (ns : Names) → d ≤ e → inner.variables ≡ sc.variables
    → inner.channels ≡ sc.channels → Scoped e sc ws ns → Scoped d inner ws ns
deeper d e sc inner ws ns l v c h = record {
  shows = record { variables = rw v h.shows.variables; channels = rw c h.shows.channels };
  variables = omega (arith, h.variables);
  channels = omega (arith, h.channels);
  long = h.long;
}

-- what is made with such a scope
pub relabel : {A : Type 0} {ws after : List ℕ} {f : Names → A} {a : A} (d e : ℕ) (sc inner : Scope) → d ≤ e
    → inner.variables ≡ sc.variables → inner.channels ≡ sc.channels → Makes d inner ws after f a → Makes e sc ws after f a
relabel {ws = ws} d e sc inner l v c m ns h =
    let r = m ns (deeper d e sc inner ws ns l v c h) in
    let s = r.1.shows in (
      r.0,
      record {
        shows = record { variables = rw (sym v) s.variables; channels = rw (sym c) s.channels };
        variables = h.variables;
        channels = h.channels;
        long = r.1.long;
      },
    )

pub within : {A : Type 0} {ws after : List ℕ} {f : Names → A} {a : A} (d : ℕ) (sc inner : Scope) → inner.variables ≡ sc.variables
    → inner.channels ≡ sc.channels → Makes d inner ws after f a → Makes (d + 1) sc ws after f a
within d sc inner v c m = relabel d (d + 1) sc inner (omega arith) v c m

-- what is made in the scope of a declaration
pub within-names : {A : Type 0} {between after : List ℕ} {f : Names → A} {a : A} (x : Declared) (n w d : ℕ) (sc : Scope) (ws : List ℕ)
    → n ≤ name_limit → between ≡ declare_into x n w sc ws
    → Makes d (entered x n sc) between after f a → Makes (d + 1) sc ws after (λ ns. f (declaring x n w ns)) a
within-names {after = after} x n w d sc ws few is m ns h =
    let r = m (declaring x n w ns) (rw is (enters x n w d sc ws ns few h)) in
    (r.0, leaves x n w d sc after ns few h.variables h.channels h.shows.variables.counted h.shows.channels.counted r.1)

-- a count in a table that was read before is at most the largest
pub count_most : (m : ℕ) (s : List ℕ) (at : ℕ) → (count_in (UpTo m) s at).value ≤ m
unfolding count_in
count_most m s at =
    let v = (value_at s at).value in
    by_bool (ltb m v) (λ e. rw e (omega arith)) (λ e. rw e (ltb-false m v e))

pub parts-few : (m : Count) (s : List ℕ) (at : ℕ) → FewParts m → (count_in m s at).value ≤ part_limit
unfolding count_in
parts-few (UpTo m) s at h = let l = count_most m s at in omega arith
parts-few (Fixed n) s at h = h

-- a statement of parts has at most 32
pub shape-few : (k : StmtKind) (h : Head) (m : Count) → shape_of k ≡ Parts h m → FewParts m
shape-few Skip h m e = never (cc)
shape-few Stop h m e = never (cc)
shape-few Assign h m e = never (cc)
shape-few Input h m e = never (cc)
shape-few Output h m e = never (cc)
shape-few Var h m e = never (cc)
shape-few Chan h m e = never (cc)
shape-few Seq h m e = let q : UpTo part_limit ≡ m = cc in rw (sym q) (omega arith)
shape-few Par h m e = never (cc)
shape-few If h m e = let q : UpTo part_limit ≡ m = cc in rw (sym q) (omega arith)
shape-few While h m e = let q : Fixed 1 ≡ m = cc in rw (sym q) (omega arith)
shape-few Alt h m e = let q : UpTo part_limit ≡ m = cc in rw (sym q) (omega arith)
shape-few Time h m e = never (cc)
shape-few Wait h m e = never (cc)

-- in the scope of a statement that runs n words below, as a call has answered it
pub shows-under : (n : ℕ) (sc inner : Scope) (ws : List ℕ) (ns : Names) → inner ≡ under n sc → Shows sc ws ns → Shows inner ws ns
shows-under n sc inner ws ns e h = rw e (record { variables = h.variables; channels = h.channels })

made-under : {A : Type 0} {ws after : List ℕ} {a : A} (n : ℕ) (sc inner : Scope) (f : (d w : ℕ) → Names → A) → inner ≡ under n sc
    → Makes (inner.depth + 1) inner ws after (f inner.depth inner.w) a → Makes (sc.depth + 1) sc ws after (f sc.depth
    (sc.w - n)) a
made-under {ws = ws} {after = after} {a = a} n sc inner f e m =
    relabel (sc.depth + 1) (sc.depth + 1) sc (under n sc) (omega arith) refl refl
    (subst (λ x. Makes (x.depth + 1) x ws after (f x.depth x.w) a) e m)

within-under : {A : Type 0} {ws after : List ℕ} {a : A} (n : ℕ) (sc inner : Scope) (f : (d w : ℕ) → Names → A) → inner ≡ under n sc
    → Makes inner.depth inner ws after (f inner.depth inner.w) a → Makes (sc.depth + 1) sc ws after (f sc.depth (sc.w - n)) a
within-under {ws = ws} {after = after} {a = a} n sc inner f e m =
    within sc.depth sc (under n sc) refl refl (subst (λ x. Makes x.depth x ws after (f x.depth x.w) a) e m)

-- so it is for a statement, and for the branches of a PAR
module _ {ws after : List ℕ} {a : Wrote} (n : ℕ) (sc inner : Scope) (plan s : List ℕ) (i : ℕ) (c : Code) (is : inner ≡ under n sc) where
  pub stmt-under : Makes inner.depth inner ws after (λ ns. stmt_into inner.depth inner.w ns plan s i c) a
      → Makes (sc.depth + 1) sc ws after (λ ns. stmt_into sc.depth (sc.w - n) ns plan s i c) a
  stmt-under m = within-under n sc inner (λ d w ns. stmt_into d w ns plan s i c) is m

  pub branch-under : (b : ℕ)
      → Makes (inner.depth + 1) inner ws after (λ ns. branch_into b (inner_at inner.depth plan s) inner.w ns i c) a
      → Makes (sc.depth + 1) sc ws after (λ ns. branch_into b (inner_at sc.depth plan s) (sc.w - n) ns i c) a
  branch-under b m = made-under n sc inner (λ d w ns. branch_into b (inner_at d plan s) w ns i c) is m

  pub branches-under : (k b start : ℕ)
      → Makes (inner.depth + 1) inner ws after (λ ns. branches_into k (inner_at inner.depth plan s) inner.w ns plan i b start c) a
      → Makes (sc.depth + 1) sc ws after (λ ns. branches_into k (inner_at sc.depth plan s) (sc.w - n) ns plan i b start c) a
  branches-under k b start m = made-under n sc inner (λ d w ns. branches_into k (inner_at d plan s) w ns plan i b start c) is m
