-- Statements as the reader answers them are those of the model's reader, with what is counted of them.
use Prim.Native.Nat.{ℕ, zero, suc, ◌<◌}
use native.Mathlib.Omega.{arith}
use mathlib.Core.Path.{◌≡◌, refl, ◌∙◌}
use mathlib.Core.List.{List}
use lib.ListN.{drop}
use Rattle.model.specs.Syntax.{stmt}
use Rattle.model.specs.Syntax as M
use Rattle.model.specs.Reader.{Parsed, parsed, Scope, read_expr, Inner, stmt_of, read_stmt, stmt_kinds}
use Rattle.model.specs.declared.kinds.StmtKind.{StmtKind}
use Rattle.model.specs.declared.kinds.StmtKind.TheVariants.{Skip, Stop, Assign, Input, Output, Var, Chan, Seq, Par, If, While, Alt}
use Rattle.model.specs.declared.kinds.StmtKind.TheVariants.{Time, Wait}
use Rattle.numbers.specs.Kinds.{stmt_kind, count_at, last_statement}
use Rattle.model.specs.Usage.{usage, first_clash}
use Rattle.model.specs.Counts.{processes, need}
use Rattle.table.specs.Stmts.{simple_at, Fits, stmt_at, inside_of, simple_uses, stmt_uses, inside_uses_of}
use Rattle.table.specs.declared.stmt.Names.{Names}
use Rattle.table.specs.Scopes.{Scoped}
use Rattle.std.specs.Prelude.{Result, Ok, Err}
use Rattle.numbers.specs.declared.Misread.{Misread}
use Rattle.table.specs.declared.stmt.Part.{Part}
use Rattle.table.proofs.SameItems.{to, Bytes, NumberAt, Same, gives, turns, onwards, one_same, deep-same, stmt-kind-is}
use Rattle.table.proofs.SameExpr.{Numbers}
use Rattle.table.proofs.SameSimple.{RestIs, StmtIs, idle-same, assign-same, input-stmt-same, output-stmt-same, time-same}
use Rattle.table.proofs.SameSimple.{wait-same}
use Rattle.table.proofs.SameDeclare.{InnerIs, variables-same, channels-same}
use Rattle.table.proofs.SameParts.{sequence-same, choice-same, loop-same}
use Rattle.table.proofs.SameAlt.{alternative-same}
use Rattle.table.proofs.SamePar.{par-same}
use Rattle.table.proofs.Exact.{exact}
use Rattle.table.proofs.Marks.{Uses, clean-none}
use Rattle.table.specs.Uses.{no_names}
use Rattle.table.specs.Sets.{Exact}
use Rattle.model.proofs.Cases.{never}
use Rattle.numbers.specs.Items.{between_at, with_read}

-- the names in scope fit the sets where there is depth left
fitting : {w : Names} {sc : Scope} {at : ℕ} (d : ℕ) → Scoped w sc at → Fits w (suc d) → Numbers sc
fitting d h f =
    record {
      own-variables = h.own-variables;
      own-channels = h.own-channels;
      few-variables = omega (arith, h.variables, f.1);
      few-channels = omega (arith, h.channels, f.2);
    }

pub stmt-same : (d : ℕ) (s : List ℕ) → Bytes s → InnerIs s d
unfolding stmt_at stmt_uses read_stmt count_at simple_at simple_uses stmt_of need processes first_clash usage
stmt-same zero s b w sc at h f =
    deep-same (StmtIs s zero w sc at) s at b
stmt-same (suc d) s b w sc at h f =
    let down : InnerIs s d = stmt-same d s b in
    let fits : Fits w d = (omega (arith, f.0), omega (arith, f.1), omega (arith, f.2), f.3, f.4) in
    let o : Numbers sc = fitting d h f in
    onwards (λ x. with_read Err x (λ k. kinds (stmt_kind k.value) k.next)) (λ k. stmt_of at sc inner k) (one_same stmt_kinds 13 s at b refl)
    (λ kind n y k q. let e = stmt-kind-is k.value k.listed in
    rw (k.found, e) (with-kind k.value kind n _ _ (q ∙ k.found) e k.there (of-kind down fits o n k.there.ahead kind)))
    (λ e. refl)
  where
    inner : Inner
    inner = record { expr = read_expr d sc; stmt = read_stmt d }

    kinds : StmtKind → ℕ → Result Part Misread
    kinds k n = inside_of at k d w (λ v i. stmt_at d v s i) (λ v i j. stmt_uses d v s i j) s n

    uses-of : StmtKind → ℕ → List ℕ → List ℕ
    uses-of k n l = inside_uses_of k d w (λ v i. stmt_at d v s i) (λ v i j. stmt_uses d v s i j) s n l

    of-kind : InnerIs s d → Fits w d → Numbers sc → (n : ℕ) → at < n → (k : StmtKind)
        → Same s (RestIs sc at n (uses-of k n)) (kinds k n) (stmt_of at sc inner k n (drop n s))
    of-kind down fits o n l Skip = idle-same sc s at n M.SKIP refl refl
    of-kind down fits o n l Stop = idle-same sc s at n M.STOP refl refl
    of-kind down fits o n l Assign = assign-same d w sc s at n (read_stmt d) b h o
    of-kind down fits o n l Input = input-stmt-same d w sc s at n inner b h o
    of-kind down fits o n l Output = output-stmt-same d w sc s at n (read_stmt d) b h o
    of-kind down fits o n l Var = variables-same s d w sc at n inner b l h f down refl
    of-kind down fits o n l Chan = channels-same s d w sc at n inner b l h f down refl
    of-kind down fits o n l Seq = sequence-same s d w sc at n inner b (omega (arith, l)) h fits down refl
    of-kind down fits o n l Par = par-same s d w sc at n inner b (omega (arith, l)) h o fits down refl
    of-kind down fits o n l If = choice-same s d w sc at n inner b (omega (arith, l)) h o fits down refl refl
    of-kind down fits o n l While = loop-same s d w sc at n inner b (omega (arith, l)) h o fits down refl refl
    of-kind down fits o n l Alt = alternative-same s d w sc at n inner b (omega (arith, l)) h o fits down refl refl
    of-kind down fits o n l Time = time-same d w sc s at n inner b h o
    of-kind down fits o n l Wait = wait-same d w sc s at n (read_stmt d) b h o

    with-kind : (v : ℕ) (k : StmtKind) (n : ℕ) (x : Result Part Misread) (r : Parsed M.Stmt)
        → between_at 0 last_statement s at ≡ Ok (to v n)
        → stmt_kind v ≡ k → NumberAt s at v n → Same s (RestIs sc at n (uses-of k n)) x r
        → Same s (StmtIs s (suc d) w sc at) x r
    with-kind v k n x r f g t (gives st m y r2) =
        gives st m y
        (record { is = r2.is; ahead = omega (arith, t.ahead, r2.ahead); uses = rw (f, g) r2.uses; within = r2.within })
    with-kind v k n x r f g t (turns why p) = turns why p

-- a statement that the model reads is used as the model says
used-as : {s : List ℕ} {d at : ℕ} {w : Names} {sc : Scope} {x : Result Part Misread} {r : Parsed M.Stmt} (st : M.Stmt) (n : ℕ)
    (rest : List ℕ)
    → Same s (StmtIs s d w sc at) x r → r ≡ parsed st n rest → Uses sc (usage st) (λ l. stmt_uses d w s at l)
used-as st n rest (gives a m y k) e = let same : a ≡ st = cc in rw (← same) k.uses
used-as st n rest (turns why p) e = never (cc)

-- one reading with empty sets gives exactly a statement's usage
pub exact-uses : (d : ℕ) (w : Names) (s : List ℕ) (at : ℕ) (l : List ℕ) → Bytes s → Fits w d → Exact d w s at l (stmt_uses d w s at l)
exact-uses d w s at l b f sc st n rest h e p =
    exact (rw e (used-as st n rest (stmt-same d s b w sc at h f) p no_names (clean-none sc)))
