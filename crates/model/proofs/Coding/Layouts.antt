-- Each declaration of a program finds its own entry in the layout.
use Prim.Native.Nat.{ℕ, suc, ◌-◌, ◌≤◌}
use mathlib.Core.Path.{◌≡◌, refl, ◌∙◌}
use mathlib.Core.List.{List, [], ◌∷◌, ◌++◌}
use native.Mathlib.Nat.{le_trans}
use native.Mathlib.Omega.{arith}
use borrow.Author.Tests.{eq-eqb, ne_eqb}
use Rattle.model.specs.Syntax.{Stmt, SKIP, STOP, assign, input, output, VAR, CHAN, SEQ, PAR, IF, WHILE, ALT, Stmts, no_stmt, stmt}
use Rattle.model.specs.Syntax.{Pairs, no_pair, pair, Guards, no_guard, guard, TIME, WAIT}
use Rattle.model.specs.Counts.{need}
use Rattle.model.specs.Layout.{Laid as Entry, layout, layout_all, layout_branches, layout_pairs, layout_guards, workspace_of}
use Rattle.model.proofs.Tables.WellFormed.{Placed, PlacedAll, PlacedPairs, PlacedGuards, Laid, LaidAll, LaidBranches, LaidPairs}
use Rattle.model.proofs.Tables.WellFormed.{LaidGuards}

-- places go up, from lo to below hi
data Rising (hi : ℕ) : ℕ → List Entry → Type 0 where
  level : {lo : ℕ} → lo ≤ hi → Rising hi lo []
  rise : {lo : ℕ} {l : Entry} {ls : List Entry} → lo ≤ l.place → Rising hi (suc l.place) ls → Rising hi lo (l ∷ ls)

rising-from : {lo mid hi : ℕ} {ls : List Entry} → lo ≤ mid → Rising hi mid ls → Rising hi lo ls
rising-from h (level r) = level (le_trans h r)
rising-from h (rise r q) = rise (le_trans h r) q

rising-append : {mid lo hi : ℕ} {xs ys : List Entry} → Rising mid lo xs → Rising hi mid ys → Rising hi lo (xs ++ ys)
rising-append (level r) q = rising-from r q
rising-append (rise r t) q = rise r (rising-append t q)

-- the places of a layout go up
mutual
  unfolding layout layout_all layout_branches layout_pairs layout_guards

  rising : (lo hi w : ℕ) (s : Stmt) → Placed lo hi s → Rising hi lo (layout w s)
  rising lo hi w SKIP h = level h
  rising lo hi w STOP h = level h
  rising lo hi w (assign x e) h = level h
  rising lo hi w (input c x) h = level h
  rising lo hi w (output c e) h = level h
  rising lo hi w (VAR p n s) h = rise h.0 (rising (suc p) hi (w - n) s h.1)
  rising lo hi w (CHAN p n s) h = rise h.0 (rising (suc p) hi (w - n) s h.1)
  rising lo hi w (SEQ ss) h = rising-all lo hi w ss h
  rising lo hi w (PAR p ss) h = rising-branches lo hi (w - 2) ss h
  rising lo hi w (IF ps) h = rising-pairs lo hi w ps h
  rising lo hi w (WHILE e s) h = rising lo hi w s h
  rising lo hi w (ALT gs) h = rising-guards lo hi w gs h
  rising lo hi w (TIME x) h = level h
  rising lo hi w (WAIT e) h = level h

  rising-all : (lo hi w : ℕ) (ss : Stmts) → PlacedAll lo hi ss → Rising hi lo (layout_all w ss)
  rising-all lo hi w no_stmt h = level h
  rising-all lo hi w (stmt s ss) h = rising-append (rising lo h.0 w s h.1) (rising-all h.0 hi w ss h.2)

  rising-branches : (lo hi w : ℕ) (ss : Stmts) → PlacedAll lo hi ss → Rising hi lo (layout_branches w ss)
  rising-branches lo hi w no_stmt h = level h
  rising-branches lo hi w (stmt s ss) h = rising-append (rising lo h.0 w s h.1) (rising-branches h.0 hi (w - need s) ss h.2)

  rising-pairs : (lo hi w : ℕ) (ps : Pairs) → PlacedPairs lo hi ps → Rising hi lo (layout_pairs w ps)
  rising-pairs lo hi w no_pair h = level h
  rising-pairs lo hi w (pair e s ps) h = rising-append (rising lo h.0 w s h.1) (rising-pairs h.0 hi w ps h.2)

  rising-guards : (lo hi w : ℕ) (gs : Guards) → PlacedGuards lo hi gs → Rising hi lo (layout_guards w gs)
  rising-guards lo hi w no_guard h = level h
  rising-guards lo hi w (guard g s gs) h = rising-append (rising lo h.0 w s h.1) (rising-guards h.0 hi w gs h.2)

-- `at` gives every entry's place its workspace
data Right (at : ℕ → ℕ) : List Entry → Type 0 where
  all_right : Right at []
  right : {l : Entry} {ls : List Entry} → at l.place ≡ l.workspace → Right at ls → Right at (l ∷ ls)

-- what agrees from the first place on is right too
right-from : {at at₂ : ℕ → ℕ} {hi lo : ℕ} {ls : List Entry} → Rising hi lo ls
    → ((q : ℕ) → lo ≤ q → at₂ q ≡ at q) → Right at ls → Right at₂ ls
right-from (level r) same all_right = all_right
right-from (rise {l = l} r t) same (right e h) = right (same l.place r ∙ e) (right-from t (λ q le. same q (omega arith)) h)

-- places that go up differ, so that each look-up finds its own entry
looked-up : {hi lo : ℕ} {ls : List Entry} → Rising hi lo ls → Right (λ q. workspace_of q ls) ls
unfolding workspace_of
looked-up (level r) = all_right
looked-up (rise {l = l} r t) =
    right {l = l}
    (rw (eq-eqb l.place l.place refl, workspace_of))
    (right-from t (λ q le. rw (ne_eqb l.place q (omega arith), workspace_of)) (looked-up t))

-- what holds of the parts of a list of entries that are right
right-first : {B : Type 0} {at : ℕ → ℕ} {l : Entry} {ls : List Entry} → (Right at ls → B)
    → Right at (l ∷ ls) → (at l.place ≡ l.workspace) × B
right-first f (right e r) = (e, f r)

right-both : {A B : Type 0} {at : ℕ → ℕ} (xs : List Entry) {ys : List Entry} → (Right at xs → A) → (Right at ys → B)
    → Right at (xs ++ ys) → A × B
right-both [] f g r = (f all_right, g r)
right-both (x ∷ xs) f g (right e r) = right-both xs (λ q. f (right e q)) g r

-- a statement whose entries are right is laid out
module _ {at : ℕ → ℕ} where
  mutual
    unfolding layout layout_all layout_branches layout_pairs layout_guards

    laid : (w : ℕ) (s : Stmt) → Right at (layout w s) → Laid at w s
    laid w SKIP = λ r. tt
    laid w STOP = λ r. tt
    laid w (assign x e) = λ r. tt
    laid w (input c x) = λ r. tt
    laid w (output c e) = λ r. tt
    laid w (VAR p n s) = right-first (laid (w - n) s)
    laid w (CHAN p n s) = right-first (laid (w - n) s)
    laid w (SEQ ss) = laid-all w ss
    laid w (PAR p ss) = laid-branches (w - 2) ss
    laid w (IF ps) = laid-pairs w ps
    laid w (WHILE e s) = laid w s
    laid w (ALT gs) = laid-guards w gs
    laid w (TIME x) = λ r. tt
    laid w (WAIT e) = λ r. tt

    laid-all : (w : ℕ) (ss : Stmts) → Right at (layout_all w ss) → LaidAll at w ss
    laid-all w no_stmt = λ r. tt
    laid-all w (stmt s ss) = right-both (layout w s) (laid w s) (laid-all w ss)

    laid-branches : (w : ℕ) (ss : Stmts) → Right at (layout_branches w ss) → LaidBranches at w ss
    laid-branches w no_stmt = λ r. tt
    laid-branches w (stmt s ss) = right-both (layout w s) (laid w s) (laid-branches (w - need s) ss)

    laid-pairs : (w : ℕ) (ps : Pairs) → Right at (layout_pairs w ps) → LaidPairs at w ps
    laid-pairs w no_pair = λ r. tt
    laid-pairs w (pair e s ps) = right-both (layout w s) (laid w s) (laid-pairs w ps)

    laid-guards : (w : ℕ) (gs : Guards) → Right at (layout_guards w gs) → LaidGuards at w gs
    laid-guards w no_guard = λ r. tt
    laid-guards w (guard g s gs) = right-both (layout w s) (laid w s) (laid-guards w gs)

-- the look-up gives each declaration of a placed statement the W of its body
pub program-laid : (lo hi w : ℕ) (s : Stmt) → Placed lo hi s → Laid (λ q. workspace_of q (layout w s)) w s
program-laid lo hi w s h = laid w s (looked-up (rising lo hi w s h))
