-- The model's code of PAR is put into the list.
use Prim.Native.Nat.{ℕ, suc, ◌+◌, ◌-◌, ◌*◌, ◌≤◌}
use native.Mathlib.Omega.{arith}
use native.Mathlib.Nat.{add-zero, mod-eq_of_lt}
use borrow.Author.Tests.{ne_eqb}
use mathlib.Core.Path.{◌≡◌, refl, sym, ap, subst, ◌∙◌}
use mathlib.Core.List.{List, [], ◌∷◌, ◌++◌, append_assoc}
use lib.ListN.{length, length-append}
use lib.Seq.{sets}
use Rattle.assembler.specs.declared.entry.Entry.{Entry}
use Rattle.model.specs.Limits.{word_limit}
use Rattle.model.specs.Word.{low, minus}
use Rattle.model.specs.Syntax.{Site, Stmt, PAR, Stmts, stmt}
use Rattle.model.specs.Reader as M
use Rattle.model.specs.Counts.{need, sum_need}
use Rattle.model.specs.Instruction.{Instruction, plain, distance, operation, ldlp, ldc, ajw, stl, endp, startp, ldpi, function_code}
use Rattle.model.specs.Instruction.{operation_code}
use Rattle.model.specs.Scheme.{how_many, size, size_ends, code, code_par, code_starts, code_ends}
use Rattle.model.proofs.Tables.WellFormed.{LaidBranches}
use Rattle.model.proofs.Coding.Sizes.{code-length, starts-length, ends-length}
use Rattle.assembler.specs.Entries.{entries_of}
use Rattle.expressions.specs.Emits.{at, plain_into, operation_into}
use Rattle.expressions.specs.Names.{Names}
use Rattle.expressions.specs.Exprs.{written}
use Rattle.statements.specs.Stmts.{start_into, branch_into, branches_into, fork_into, par_into}
use Rattle.model.specs.declared.kinds.StmtKind.TheVariants.{Par}
use Rattle.numbers.specs.Kinds.{stmt_kind, count_in}
use Rattle.instruction.specs.Codes.{AJW}
use Rattle.statements.specs.Kinds.{stmt_into, inner_at, inside_into}
use Rattle.statements.proofs.Spelled.{KindAt, CountAt, StmtAt, StmtsAt, no_stmt_at, stmts_at}
use Rattle.statements.proofs.Planned.{PlannedStmt, PlannedStmts}
use Rattle.statements.proofs.Fills.{filled, fill-then, fill-before, fill_none, Room, room-left, emits-fills, emits-at}
use Rattle.statements.proofs.Fills.{gap-fills, areas-fill, no-entries, distance-list}
use Rattle.statements.proofs.Compiles.{Scoped, inner-scope, Placed, Written, Compiles}

module _ (word : Site → ℕ) (workspace : ℕ → ℕ) (s plan : List ℕ) where
  -- the start of a branch: LDC start, LDLP -d, STARTP
  abbrev start : (d j b : ℕ) → List Instruction
  start d j b = distance ldc b (j + 2) ∷ plain ldlp (minus d) ∷ operation startp ∷ []

  start-fills : (d j b : ℕ) (o : List Entry) → Room j (start d j b) → start_into d b (at j o) ≡ filled j (start d j b) o
  unfolding start_into function_code operation_code operation_into
  start-fills d j b o r =
      let user : low (j + 2) ≡ j + 2 = mod-eq_of_lt (omega arith) in
      rw user (emits-at (start d j b) j o r)

  module _ {d : ℕ} {sc : M.Scope} {ns : Names} (w : ℕ) (fits : w ≤ word_limit) (scope : Scoped word (suc d) sc ns)
      (inner : Compiles word workspace s plan d) where
    -- a branch m words below: its code, LDLP m, ENDP
    abbrev branch : (m j : ℕ) → Stmt → List Instruction
    branch m j b = code word (w - m) j b ++ plain ldlp m ∷ operation endp ∷ []

    -- the starts and the branches, from the second on
    branches-fill : {k i n : ℕ} {ss : Stmts} (m st j : ℕ) (o : List Entry) (a : StmtsAt s d sc k i ss n) → PlannedStmts s plan a
        → LaidBranches workspace (w - m) ss
        → m + sum_need ss ≤ word_limit → st + length (code_starts word m st j ss) ≤ j → Room j (code_ends word w m j ss)
        → branches_into k (inner_at d plan s) w ns plan i m st (at j o)
        ≡ record {
          next = n;
          here = j + length (code_ends word w m j ss);
          list = sets (sets o j (entries_of (code_ends word w m j ss))) st (entries_of (code_starts word m st j ss));
        }
    unfolding PlannedStmts branch_into branches_into code_starts code_ends sum_need function_code operation_code operation_into
    branches-fill m st j o no_stmt_at told laid few l r = rw (no-entries, add-zero j)
    branches-fill m st j o (stmts_at {b = b} {ss = ss} a c) told laid few l r =
        let S = start m st j in
        let S2 = code_starts word (m + need b) (st + 3) (j + size b + 2) ss in
        let C = code word (w - m) j b in
        let B = branch m j b in
        let B2 = code_ends word w (m + need b) (j + size b + 2) ss in
        let ends : C ++ plain ldlp m ∷ operation endp ∷ B2 ≡ B ++ B2 = sym (append_assoc C (plain ldlp m ∷ operation endp ∷ []) B2) in
        let r2 : Room j (B ++ B2) = rw ends at r in
        let bodies = length-append B B2 in
        let index : j + length B ≡ j + size b + 2 =
        omega (arith, length-append C (plain ldlp m ∷ operation endp ∷ []), code-length word (w - m) j b) in
        let lower : w - m - need b ≡ w - (m + need b) = omega arith in
        let sum : low (m + need b) ≡ m + need b = mod-eq_of_lt (omega arith) in
        rw (
          start-fills m st j o (omega arith),
          inner.compiles (w - m) j a told.0 (inner-scope scope)
              (record { laid = laid.0; low = omega arith; few = omega arith; room = room-left j C _ (room-left j B B2 r2) })
              (sets o st (entries_of S)),
          emits-fills (plain ldlp m ∷ operation endp ∷ []) j C (sets o st (entries_of S)) (room-left j B B2 r2),
          told.0.0 (omega arith),
          sum,
          index,
          branches-fill (m + need b) (st + 3) (j + size b + 2) (sets (sets o st (entries_of S)) j (entries_of B)) c told.1
              (rw lower at laid.1)
              (omega arith) (omega arith) (omega arith),
          ends,
        )
        (let place : j + length (B ++ B2) ≡ j + size b + 2 + length B2 = omega arith in
        rw (place, rw index at (areas-fill st S S2 j B B2 o (omega arith))) refl)

  module _ {d : ℕ} {sc : M.Scope} {ns : Names} (w : ℕ) (fits : w ≤ word_limit) (scope : Scoped word (suc d) sc ns)
      (inner : Compiles word workspace s plan d) where
    branches-code : {k i m n : ℕ} {b : Stmt} {ss : Stmts} (j : ℕ) (o : List Entry) (a : StmtAt s d sc i b m) → PlannedStmt s plan a
        → (c : StmtsAt s d sc k m ss n) → PlannedStmts s plan c → how_many ss ≡ k → k ≤ 16
        → LaidBranches workspace (w - 2) (stmt b ss) → 2 + sum_need (stmt b ss) ≤ word_limit
        → Room j (code_par word w j (stmt b ss))
        → par_into (suc k) (inner_at d plan s) w ns plan i (at j o) ≡ written n (filled j (code_par word w j (stmt b ss)) o)
    unfolding par_into branch_into code_par sum_need fork_into function_code operation_code operation_into
    branches-code {k} {i} {m} {n} {b} {ss} j o a one c others many small laid few r =
        let first = j + 6 + 3 * how_many ss in
        let over = first + size b + 2 + size_ends ss in
        let H = plain ajw (minus 2) ∷ [] in
        let X = distance ldc over (j + 2) in
        let U = operation ldpi ∷ plain stl 0 ∷ plain ldc (suc (how_many ss)) ∷ plain stl 1 ∷ [] in
        let S = code_starts word (need b) (j + 6) (first + size b + 2) ss in
        let C = code word (w - 2) first b in
        let L = plain ldlp 0 ∷ operation endp ∷ [] in
        let N = code_ends word (w - 2) (need b) (first + size b + 2) ss in
        let Z = plain ajw 2 ∷ [] in
        let R = U ++ (S ++ (C ++ L ++ N)) in
        let shape : code_par word w j (stmt b ss) ≡ H ++ X ∷ R ++ Z = simp append_assoc in
        let r1 : Room j (H ++ X ∷ R ++ Z) = subst (Room j) shape r in
        let s-long = starts-length word (need b) (j + 6) (first + size b + 2) ss in
        let c-long = code-length word (w - 2) first b in
        let cl-long = length-append C L in
        let n-long = ends-length word (w - 2) (need b) (first + size b + 2) ss in
        let r-long : length R ≡ 4 + length S + length (C ++ L) + length N =
        omega (arith, length-append S (C ++ L ++ N), length-append (C ++ L) N) in
        let z-long = length-append (H ++ X ∷ R) Z in
        let u-is : operation ldpi ∷ plain stl 0 ∷ plain ldc (suc k) ∷ plain stl 1 ∷ [] ≡ U = rw many refl in
        let user : low (j + 1 + 1) ≡ j + 2 = mod-eq_of_lt (omega arith) ∙ omega arith in
        let one_less : suc k - 1 ≡ k = omega arith in
        let zero-less : w - 2 - 0 ≡ w - 2 = omega arith in
        let six : j + 2 + 4 ≡ j + 6 = omega arith in
        let begin : low (j + 6 + low (3 * k)) ≡ first =
        let three : low (3 * k) ≡ 3 * k = mod-eq_of_lt (omega arith) in
        rw three (mod-eq_of_lt (omega (arith, many)) ∙ omega (arith, many)) in
        let c-index : first + length (C ++ L) ≡ first + size b + 2 = omega arith in
        let O = sets o j (entries_of H) in
        let P = sets O (j + 2) (entries_of U) in
        rw (
          emits-at H j o (omega arith),
          user,
          emits-at (operation ldpi ∷ plain stl 0 ∷ plain ldc (suc k) ∷ plain stl 1 ∷ []) (j + 2) O (omega arith),
          u-is,
          six,
          one_less,
          begin,
          zero-less,
          inner.compiles (w - 2) first a one (inner-scope scope)
              (record { laid = laid.0; low = omega arith; few = omega arith; room = omega arith }) P,
          emits-fills L first C P (omega arith),
          one.0 (omega arith),
          c-index,
          branches-fill (w - 2) (omega arith) scope inner (need b) (j + 6) (first + size b + 2) (sets P first (entries_of (C ++ L))) c
              others laid.1 (omega arith) (omega arith) (omega arith),
        )
        (let Y = S ++ (C ++ L ++ N) in
        let hn = first + size b + 2 in
        let two : j + 1 + 1 ≡ j + 2 = omega arith in
        let s-index : j + 6 + length S ≡ first = omega arith in
        let place : over ≡ j + length (H ++ X ∷ R) = omega arith in
        let end : hn + length N ≡ over = omega arith in
        let bodies : sets (sets P first (entries_of (C ++ L))) hn (entries_of N) ≡ sets P first (entries_of (C ++ L ++ N)) =
        rw c-index at (ap (λ c. c.list) (fill-then first (C ++ L) N P)) in
        let starts : sets (sets P first (entries_of (C ++ L ++ N))) (j + 6) (entries_of S) ≡ sets P (j + 6) (entries_of Y) =
        rw s-index at (fill-before (j + 6) S (C ++ L ++ N) P) in
        let header : sets P (j + 6) (entries_of Y) ≡ sets O (j + 2) (entries_of R) = rw six at (ap (λ c. c.list) (fill-then
        (j + 2) U Y O)) in
        let gap : sets (sets O (j + 2) (entries_of R)) (j + 1) (entries_of (X ∷ [])) ≡ sets o j (entries_of (H ++ X ∷ R)) =
        rw two at (gap-fills j H X R o) in
        rw (ne_eqb (suc k) 0 (omega arith), bodies, starts, header, end, distance-list ldc over (j + 2) (j + 1) _, gap)
        (ap (λ h. written n (plain_into AJW 2 (at h (sets o j (entries_of (H ++ X ∷ R)))))) place
        ∙ ap (written n) (emits-fills Z j (H ++ X ∷ R) o r1)
        ∙ ap (λ l. written n (filled j l o)) (sym shape)))

    count-is : {k i n : ℕ} {ss : Stmts} → StmtsAt s d sc k i ss n → how_many ss ≡ k
    unfolding how_many
    count-is no_stmt_at = refl
    count-is (stmts_at a c) = ap suc (count-is c)

    pub par-code : {i n m q k : ℕ} {ss : Stmts} (j : ℕ) → KindAt s stmt_kind i Par n → CountAt s 0 16 n k m → (a : StmtsAt s d sc k m ss q)
        → PlannedStmts s plan a → Placed word workspace s plan w j (PAR i ss) → Written word workspace s plan (suc d) ns w j i q (PAR i ss)
    unfolding PlannedStmts stmt_into inside_into par_into count_in code need
    par-code j t c no_stmt_at told p o = rw (t.value, t.is, c.there.value) (ap (written _) (sym (fill_none j o)))
    par-code j t c (stmts_at a g) told p o =
        rw (t.value, t.is, c.there.value, c.fits)
        (branches-code j o a told.0 g told.1 (count-is g) (omega (arith, c.most)) p.laid p.few p.room)
