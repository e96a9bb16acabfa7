-- PAR: the branches, and whether any two clash.
use Prim.Native.Nat.{ℕ, zero, suc, ◌+◌, ◌≤◌, max}
use native.Mathlib.Omega.{arith}
use mathlib.Core.Path.{◌≡◌, refl, sym, ap, ◌∙◌}
use mathlib.Core.Logic.{◌⊎◌, inl, inr}
use mathlib.Core.Bool.{Bool, ◌||◌, or-false, or_assoc}
use mathlib.Core.List.{List, append-nil}
use lib.ListN.{drop}
use Rattle.model.proofs.Cases.{by_bool}
use Rattle.model.specs.Syntax.{Site, input_of, output_of, declared, Stmts, no_stmt, stmt}
use Rattle.model.specs.Syntax as M
use Rattle.model.specs.Reader.{pure, Scope, Inner, stmt_of, read_many, read_stmt}
use Rattle.model.specs.Usage.{Usage, nothing, ◌⊕◌, usage, first_clash, usage_all, first_clash_all, clash, any_clash}
use Rattle.model.specs.Counts.{processes, need, sum_need, sum_processes}
use Rattle.table.specs.Uses.{no_names, clashing, merged}
use Rattle.table.specs.Exprs.{kept}
use Rattle.table.specs.Stmts.{first_among, Fits, stmt_at, stmt_uses, Branches, joined_by, par_of}
use Rattle.table.specs.Stmts.{branches_from, no_branches}
use Rattle.model.specs.declared.kinds.StmtKind.TheVariants.{Par}
use Rattle.table.specs.declared.stmt.Names.{Names}
use Rattle.table.specs.Scopes.{Scoped}
use Rattle.std.specs.Prelude.{Result, Ok, Err}
use Rattle.numbers.specs.declared.Misread.{Misread}
use Rattle.table.specs.declared.stmt.Part.{Part}
use Rattle.table.proofs.SameItems.{Bytes, Same, gives, onwards, count_same}
use Rattle.table.proofs.Marks.{changed, used-there, inputs-of, outputs-of, Marked, marked-nothing, marked-merged, clean-none}
use Rattle.table.proofs.Marks.{InScope}
use Rattle.table.specs.declared.stmt.Sum.{Sum}
use Rattle.table.proofs.SameExpr.{Numbers}
use Rattle.table.proofs.SameSimple.{first, part_of, Within, RestIs, StmtIs, wider, within_both, within-nothing, DeclaredIn}
use Rattle.table.proofs.SameDeclare.{InnerIs}
use Rattle.numbers.specs.Items.{between_at, with_read}
use Rattle.table.proofs.SameMany.{first-or_else, first_among-assoc, first_among-none}
use Rattle.table.proofs.Clash.{clashing-is, clashes_before, before-any}
use Rattle.table.proofs.SameParts.{scoped-later, inner_uses, plus_assoc}

-- a name of two branches is declared outside the PAR
shared : (names : List Site) (lo mid hi : ℕ) (x : Site) → InScope names x ⊎ DeclaredIn lo mid x → InScope names x ⊎ DeclaredIn mid hi x
    → InScope names x
shared names lo mid hi x (inl i) b = i
shared names lo mid hi x (inr a) (inl i) = i
shared names lo mid hi (input_of k) (inr a) (inr b) = absurd a
shared names lo mid hi (output_of k) (inr a) (inr b) = absurd a
shared names lo mid hi (declared p j) (inr a) (inr b) = absurd (omega (arith, a.1, b.0))

-- the check of one branch beside those before it, which use u
branch-clashes : {s : List ℕ} {d : ℕ} {w : Names} {sc : Scope} {place from n : ℕ} {st : M.Stmt} {x : Result Part Misread} (u : Usage)
    (before : List ℕ) → Numbers sc → Marked sc no_names u before → Within sc place from u → StmtIs s d w sc from st n x
    → clashing before (stmt_uses d w s from no_names) ≡ clash u (usage st)
branch-clashes {s} {d} {w} {sc} {place} {from} {n} {st} u before o sets within k =
    clashing-is sc u (usage st) before (stmt_uses d w s from no_names) sets (k.uses no_names (clean-none sc)) o.few-variables
    o.few-channels
    (λ x a b. shared sc.variables place from n x (within.each_in changed x a) (k.within.each_in used-there x b))
    (λ x a b. shared sc.variables place from n x (within.each_in used-there x b) (k.within.each_in changed x a))
    (λ x a b. shared sc.channels place from n x (within.each_in inputs-of x a) (k.within.each_in inputs-of x b))
    (λ x a b. shared sc.channels place from n x (within.each_in outputs-of x a) (k.within.each_in outputs-of x b))

plus-nothing : (u : Usage) → u ⊕ nothing ≡ u
plus-nothing u = rw (append-nil u.changes, append-nil u.uses, append-nil u.inputs, append-nil u.outputs) refl

-- so many branches, after some that use u
record BranchesIs (sc : Scope) (place : ℕ) (b : Branches) (u : Usage) (ss : Stmts) (n : ℕ) (x : Result Branches Misread) : Type 0 where
  end : Branches
  is : x ≡ Ok end
  next : end.total.next ≡ n
  ahead : b.total.next ≤ n
  sum : end.total.sum ≡ b.total.sum + sum_need ss
  live : end.total.all ≡ b.total.all + sum_processes ss
  clash-in : end.total.clash ≡ first_among b.total.clash (first (first_clash_all ss))
  clashing-in : end.bad ≡ (b.bad || clashes_before u ss)
  sets : Marked sc no_names (u ⊕ usage_all ss) end.before
  within : Within sc place n (usage_all ss)

branches-same : (s : List ℕ) (d : ℕ) (w : Names) (sc : Scope) (i place : ℕ) (b : Branches) (u : Usage) → place ≤ b.total.next
    → Scoped w sc place → Fits w d → Numbers sc → InnerIs s d → Marked sc no_names u b.before → Within sc place b.total.next u
    → Same s (BranchesIs sc place b u) (branches_from i (λ i. stmt_at d w s i) (inner_uses d w s) b)
    (read_many no_stmt stmt (read_stmt d sc) i b.total.next (drop b.total.next s))
unfolding branches_from read_many sum_need sum_processes first_clash_all clashes_before usage_all
branches-same s d w sc zero place b u l h f o inner sets within =
    gives no_stmt b.total.next (Ok b)
    (record {
      end = b;
      is = refl;
      next = refl;
      ahead = omega arith;
      sum = omega arith;
      live = omega arith;
      clash-in = sym (first_among-none b.total.clash);
      clashing-in = sym (or-false b.bad);
      sets = rw (plus-nothing u) sets;
      within = within-nothing sc place b.total.next;
    })
branches-same s d w sc (suc i) place b u l h f o inner sets within =
    let from = b.total.next in
    let branch = stmt_uses d w s from no_names in
    onwards (λ x. with_read Err x (λ p. branches_from i (λ i. stmt_at d w s i) (inner_uses d w s) (joined_by branch b p))) _
    (inner w sc from (scoped-later from l h) f)
    (λ st n y k q.
    rw k.is (
    onwards (λ x. x) (λ ss. pure (stmt st ss))
    (branches-same s d w sc i place (joined_by branch b (part_of st n)) (u ⊕ usage st) (omega (arith, l, k.ahead)) h f o inner
    (marked-merged sets (k.uses no_names (clean-none sc)))
    (within_both (wider (omega arith) (omega (arith, k.ahead)) within) (wider l (omega arith) k.within)))
    (λ ss m z r p. gives (stmt st ss) m z
    (record {
      end = r.end;
      is = r.is;
      next = r.next;
      ahead = omega (arith, k.ahead, r.ahead);
      sum = r.sum ∙ omega arith;
      live = r.live ∙ omega arith;
      clash-in = r.clash-in
          ∙ rw (first-or_else (first_clash st) (first_clash_all ss))
          (first_among-assoc b.total.clash (first (first_clash st)) (first (first_clash_all ss)));
      clashing-in = r.clashing-in
          ∙ rw (branch-clashes u b.before o sets within k)
          (or_assoc b.bad (clash u (usage st)) (clashes_before (u ⊕ usage st) ss));
      sets = rw (plus_assoc u (usage st) (usage_all ss)) at r.sets;
      within = within_both (wider l (omega (arith, r.ahead)) k.within) r.within;
    }))
    (λ e. refl)))
    (λ e. refl)

-- the sets behind a PAR: those of its branches together
abbrev pub par_way : (d : ℕ) → Names → List ℕ → (at : ℕ) → List ℕ → List ℕ
par_way d w s at l =
    with_read (kept l) (between_at 0 16 s at) (λ c.
    with_read (kept l) (branches_from c.value (λ i. stmt_at d w s i) (inner_uses d w s) (no_branches c.next)) (λ b. merged 64 l b.before))

pub par-same : (s : List ℕ) (d : ℕ) (w : Names) (sc : Scope) (place at : ℕ) (inner : Inner) → Bytes s → place ≤ at → Scoped w sc place
    → Numbers sc → Fits w d → InnerIs s d → inner.stmt ≡ read_stmt d
    → Same s (RestIs sc place at (par_way d w s at))
    (with_read Err (between_at 0 16 s at) (λ c.
    with_read Err (branches_from c.value (λ i. stmt_at d w s i) (inner_uses d w s) (no_branches c.next))
    (λ b. Ok (par_of place b.total b.bad))))
    (stmt_of place sc inner Par at (drop at s))
unfolding stmt_of need processes first_clash usage
par-same s d w sc place at inner b l h o f i es =
    rw es (
    onwards
    (λ x. with_read Err x (λ c.
    with_read Err (branches_from c.value (λ i. stmt_at d w s i) (inner_uses d w s) (no_branches c.next))
    (λ b. Ok (par_of place b.total b.bad)))) _
    (count_same 0 16 s at b)
    (λ c m y k q. rw k.found (
    onwards (λ x. with_read Err x (λ b. Ok (par_of place b.total b.bad))) (λ ss. pure (M.PAR place ss))
    (branches-same s d w sc c place (no_branches m) nothing (omega (arith, l, k.there.ahead)) h f o i
    (marked-nothing sc no_names (clean-none sc).long) (within-nothing sc place m))
    (λ ss n z r p. rw r.is (gives (M.PAR place ss) n _
    (record {
      is =
          ap (λ p. Ok p) (par-is ss r.end.total r.end.bad r.sum r.live r.clash-in (r.clashing-in ∙ before-any ss)
          ∙ rw r.next refl);
      ahead = omega (arith, k.there.ahead, r.ahead);
      uses = λ j z. rw (q ∙ k.found, p ∙ r.is) (marked-merged (marked-nothing sc j z.long) r.sets);
      within = r.within;
    })))
    (λ e. refl)))
    (λ e. refl))
  where
    par-is : (ss : Stmts) (t : Sum) (bad : Bool) → t.sum ≡ 0 + sum_need ss → t.all ≡ 0 + sum_processes ss
        → t.clash ≡ first (first_clash_all ss) → bad ≡ any_clash ss → par_of place t bad ≡ part_of (M.PAR place ss) t.next
    par-is ss t bad a c x e =
        let words : 2 + t.sum ≡ 2 + sum_need ss = omega (arith, a) in
        let live : max 1 t.all ≡ max 1 (sum_processes ss) = omega (arith, c) in
        rw (words, live, x, e) (by_bool (any_clash ss) (λ f. rw f refl) (λ f. rw f refl))
