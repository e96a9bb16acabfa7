-- The model's code of SEQ, IF and WHILE is put into the list.
use Prim.Native.Nat.{ℕ, suc, ◌+◌, ◌^◌, ◌≤◌, ◌<◌}
use native.Mathlib.Omega.{arith}
use native.Mathlib.Nat.{add-zero, mod-eq_of_lt}
use mathlib.Core.Path.{◌≡◌, refl, sym, ap, ◌∙◌}
use mathlib.Core.List.{List, [], ◌∷◌, ◌++◌, append_assoc}
use lib.ListN.{length, length-append, length-replicate, length-set, set}
use lib.Seq.{sets}
use Rattle.assembler.specs.declared.entry.Entry.{Entry}
use Rattle.model.specs.Limits.{word_limit}
use Rattle.model.specs.Word.{low}
use Rattle.model.specs.Syntax.{Site, Expr, Stmt, SEQ, IF, WHILE, Stmts, Pairs, no_pair, pair}
use Rattle.model.specs.Reader as M
use Rattle.model.specs.Counts.{need, most_need, pair_need}
use Rattle.model.specs.Instruction as I
use Rattle.model.specs.Instruction.{Instruction, distance, operation, cj, function_code}
use Rattle.model.specs.Scheme.{whole_size, size, size_pairs, whole_code, code, code_all, code_pairs}
use Rattle.model.proofs.Tables.WellFormed.{Laid, LaidAll, LaidPairs}
use Rattle.model.proofs.Coding.Sizes.{whole_length, code-length, pairs-length}
use Rattle.assembler.specs.Entries.{entries_of}
use Rattle.expressions.specs.Emits.{at, distance_into}
use Rattle.expressions.specs.Names.{Names}
use Rattle.expressions.specs.Exprs.{written}
use Rattle.statements.specs.Stmts.{Open, seq_into, pair_into, pairs_into, no_ends, if_into, while_into}
use Rattle.model.specs.declared.kinds.StmtKind.TheVariants.{Seq, If, While}
use Rattle.numbers.specs.Kinds.{stmt_kind, count_in}
use Rattle.statements.specs.Kinds.{stmt_into, inner_at, inside_into, parts_into}
use Rattle.statements.proofs.Spelled.{KindAt, ExprAt, CountAt, StmtAt, StmtsAt, no_stmt_at, stmts_at, PairsAt, no_pair_at, pair_at}
use Rattle.statements.proofs.Planned.{PlannedExpr, PlannedStmt, PlannedStmts, PlannedPairs}
use Rattle.statements.proofs.Fills.{filled, fill-then, fill_none, Room, room-left, room-right, emits-fills, gap-fills, distance-list}
use Rattle.statements.proofs.Closes.{closed, close-is, Kept, kept-all, kept_more, closed-more, closed_none}
use Rattle.statements.proofs.ExprCode.{whole-coded}
use Rattle.statements.proofs.Compiles.{Scoped, inner-scope, Placed, Written, Compiles, stopp-fills}

-- a gap in front of what follows it, filled
joined : (j leave : ℕ) (T : List Instruction) (x : Instruction) (P Z : List Instruction) (o m : List Entry) → j + length T ≡ leave
    → m ≡ sets (sets o j (entries_of T)) (leave + 1) (entries_of (P ++ Z))
    → sets m leave (entries_of (x ∷ [])) ≡ sets o j (entries_of (T ++ x ∷ P ++ Z))
joined j leave T x P Z o m long is = rw (is, ← long, gap-fills j T x (P ++ Z) o, append_assoc T (x ∷ P) Z) refl

module _ (word : Site → ℕ) (workspace : ℕ → ℕ) (s plan : List ℕ) where
  module _ {d : ℕ} {sc : M.Scope} {ns : Names} (w : ℕ) (fits : w ≤ word_limit)
      (scope : Scoped word (suc d) sc ns) (inner : Compiles word workspace s plan d) where
    seq-parts : {k i n : ℕ} {ss : Stmts} (j : ℕ) (a : StmtsAt s d sc k i ss n) → PlannedStmts s plan a → LaidAll workspace w ss
        → most_need ss ≤ word_limit
        → Room j (code_all word w j ss) → (o : List Entry)
        → seq_into k (inner_at d plan s w ns) i (at j o) ≡ written n (filled j (code_all word w j ss) o)
    unfolding seq_into code_all most_need PlannedStmts
    seq-parts j no_stmt_at told laid few r o = ap (written _) (sym (fill_none j o))
    seq-parts j (stmts_at {b = b} {ss = ss} a c) told laid few r o =
        let B = code word w j b in
        let C = code_all word w (j + size b) ss in
        let e : j + length B ≡ j + size b = rw (code-length word w j b) refl in
        let behind : filled (j + size b) C (sets o j (entries_of B)) ≡ filled j (B ++ C) o = rw e at (fill-then j B C o) in
        rw (
          inner.compiles w j a told.0 (inner-scope scope)
              (record { laid = laid.0; low = fits; few = omega arith; room = room-left j B C r }) o,
          e,
          seq-parts (j + size b) c told.1 laid.1 (omega arith) (rw e at (room-right j B C r)) (sets o j (entries_of B)),
        )
        (ap (written _) behind)

    pub seq-code : {i n m q k : ℕ} {ss : Stmts} (j : ℕ) → KindAt s stmt_kind i Seq n → CountAt s 0 32 n k m → (a : StmtsAt s d sc k m ss q)
        → PlannedStmts s plan a → Placed word workspace s plan w j (SEQ ss) → Written word workspace s plan (suc d) ns w j i q (SEQ ss)
    unfolding stmt_into inside_into parts_into count_in code need
    seq-code j t c a told p o =
        rw (t.value, t.is, c.there.value, c.fits) (seq-parts j a told p.laid (omega (arith, p.few)) p.room o)

    -- the index of the J that leaves a tested body
    abbrev leaves : (j : ℕ) → Expr → Stmt → ℕ
    leaves j e b = j + whole_size e + 1 + size b

    -- a tested body: condition, CJ behind the J, body
    abbrev tested : (j : ℕ) → Expr → Stmt → List Instruction
    tested j e b =
        let test = j + whole_size e in
        whole_code word w e ++ distance cj (leaves j e b + 1) test ∷ code word w (test + 1) b

    tested-long : (j : ℕ) (e : Expr) (b : Stmt) → j + length (tested j e b) ≡ leaves j e b
    tested-long j e b =
        let test = j + whole_size e in
        let T = distance cj (leaves j e b + 1) test in
        let B = code word w (test + 1) b in
        omega (arith, length-append (whole_code word w e) (T ∷ B), whole_length word w e, code-length word w (test + 1) b)

    pair_code : {i m n : ℕ} {e : Expr} {b : Stmt} (j : ℕ) (o : List Entry) (c : ExprAt s sc.variables d i e m) → PlannedExpr s plan c
        → (a : StmtAt s d sc m b n) → PlannedStmt s plan a → Laid workspace w b → need b ≤ word_limit → leaves j e b + 1 < 2 ^ 32
        → pair_into d w ns.variables (inner_at d plan s w ns) plan s i (at j o) ≡ written n (filled j (tested j e b) o)
    unfolding pair_into function_code
    pair_code {n = n} {e = e} {b = b} j o c first a second laid few r =
        let E = whole_code word w e in
        let test = j + whole_size e in
        let leave = leaves j e b in
        let B = code word w (test + 1) b in
        let T = distance cj (leave + 1) test in
        let long : length E ≡ whole_size e = whole_length word w e in
        let size_is : length B ≡ size b = code-length word w (test + 1) b in
        let begins : low (test + 1) ≡ test + 1 = mod-eq_of_lt (omega arith) in
        let goes : low (leave + 1) ≡ leave + 1 = mod-eq_of_lt r in
        let O = sets o j (entries_of E) in
        let placed : j + length E ≡ test = rw long refl in
        let ended : test + 1 + length B ≡ leave = rw size_is refl in
        let gap : sets (sets O (test + 1) (entries_of B)) test (entries_of (T ∷ [])) ≡ sets o j (entries_of (E ++ T ∷ B)) =
        rw placed at (gap-fills j E T B o) in
        rw (
          whole-coded word s plan 0 (omega arith) scope.variables w c first j o (omega arith),
          placed,
          begins,
          inner.compiles w (test + 1) a second (inner-scope scope) (record { laid = laid; low = fits; few = few; room = omega arith }) O,
          ended,
          goes,
          tested-long j e b,
          ← gap,
        )
        (ap (λ l. record { next = n; here = leave; list = l }) (distance-list cj (leave + 1) test test (sets O (test + 1) (entries_of B))))

    pub while-code : {i n m q : ℕ} {e : Expr} {b : Stmt} (j : ℕ) → KindAt s stmt_kind i While n → (c : ExprAt s sc.variables d n e m)
        → PlannedExpr s plan c → (a : StmtAt s d sc m b q) → PlannedStmt s plan a → Placed word workspace s plan w j (WHILE e b)
        → Written word workspace s plan (suc d) ns w j i q (WHILE e b)
    unfolding stmt_into inside_into parts_into while_into count_in code need function_code
    while-code {q = q} {e = e} {b = b} j t c first a second p o =
        let T = tested j e b in
        let J = distance I.j j (leaves j e b) in
        let long = tested-long j e b in
        rw (
          t.value,
          t.is,
          pair_code j o c first a second p.laid (omega (arith, p.few)) (omega (arith, p.room, length-append T (J ∷ []))),
        )
        (ap (λ u. written q (distance_into 0 j u (filled j T o))) long ∙ ap (written q) (emits-fills (J ∷ []) j T o p.room))

    -- the pairs of an IF without the STOPP behind them
    abbrev pairs_code : (j over : ℕ) → Pairs → List Instruction
    pairs_code j over no_pair = []
    pairs_code j over (pair e b ps) = tested j e b ++ distance I.j over (leaves j e b) ∷ pairs_code (leaves j e b + 1) over ps

    pairs-are : (j over : ℕ) (ps : Pairs) → code_pairs word w j over ps ≡ pairs_code j over ps ++ operation I.stopp ∷ []
    unfolding code_pairs
    pairs-are j over no_pair = refl
    pairs-are j over (pair e b ps) =
        rw (pairs-are (leaves j e b + 1) over ps)
        (simp append_assoc)

    -- what pairs have come to, from the q-th end on: all but the Js, and with these the pairs' code, whatever follows
    record Paired (r : Open) (k q n j over : ℕ) (e : List ℕ) (o : List Entry) (P : List Instruction) : Type 0 where
      next : r.next ≡ n
      here : r.here ≡ j + length P
      kept : Kept q e r.ends
      closes : (Z : List Instruction) → closed k q r.ends over (sets r.list r.here (entries_of Z)) ≡ sets o j (entries_of (P ++ Z))

    pairs-fill : {k i n : ℕ} {ps : Pairs} (q j over : ℕ) (e : List ℕ) (o : List Entry) (a : PairsAt s d sc k i ps n) → PlannedPairs s plan a
        → LaidPairs workspace w ps
        → pair_need ps ≤ word_limit → q + k ≤ length e → Room j (pairs_code j over ps)
        → Paired (pairs_into k q d w ns.variables (inner_at d plan s w ns) plan s e i (at j o)) k q n j over e o (pairs_code j over ps)
    unfolding pairs_into pair_need entries_of PlannedPairs
    pairs-fill q j over e o no_pair_at told laid few m r = record {
      next = refl;
      here = sym (add-zero j);
      kept = kept-all q e;
      closes = λ Z. closed_none q e over (sets o j (entries_of Z));
    }
    pairs-fill {k = suc k} q j over e o (pair_at {e = x} {b = b} {ps = ps} c a g) told laid few m r =
        let T = tested j x b in
        let leave = leaves j x b in
        let J = distance I.j over leave in
        let P = pairs_code (leave + 1) over ps in
        let long = tested-long j x b in
        let all = length-append T (J ∷ P) in
        let next : low (leave + 1) ≡ leave + 1 = mod-eq_of_lt (omega arith) in
        let rest = pairs-fill (suc q) (leave + 1) over (set e q leave) (sets o j (entries_of T)) g told.2 laid.1 (omega arith)
        (omega (arith, length-set e q leave)) (omega arith) in
        let ends = kept_more {e = e} leave (omega arith) rest.kept in
        rw (pair_code j o c told.0 a told.1 laid.0 (omega arith) (omega arith), long, next) (record {
          next = rest.next;
          here = rest.here ∙ omega arith;
          kept = ends.0;
          closes = λ Z. closed-more k q _ over leave _ ends.1 ∙ joined j leave T J P Z o _ long (rest.closes Z);
        })

    pub if-code : {i n m q k : ℕ} {ps : Pairs} (j : ℕ) → KindAt s stmt_kind i If n → CountAt s 0 32 n k m → (a : PairsAt s d sc k m ps q)
        → PlannedPairs s plan a → Placed word workspace s plan w j (IF ps) → Written word workspace s plan (suc d) ns w j i q (IF ps)
    unfolding stmt_into inside_into parts_into if_into count_in code need
    if-code {q = q} {k = k} {ps = ps} j t c a told p o =
        let over = j + size_pairs ps in
        let P = pairs_code j over ps in
        let Z = operation I.stopp ∷ [] in
        let all : code_pairs word w j over ps ≡ P ++ Z = pairs-are j over ps in
        let long : length (P ++ Z) ≡ size_pairs ps = rw all at (pairs-length word w j over ps) in
        let room : Room j (P ++ Z) = rw all at p.room in
        let end : j + length P + 1 ≡ over = omega (arith, length-append P Z) in
        let f = pairs-fill 0 j over no_ends o a told p.laid (omega (arith, p.few))
        (omega (arith, c.most, length-replicate {A = ℕ} 32 0)) (room-left j P Z room) in
        rw (t.value, t.is, c.there.value, c.fits, f.next, f.here, stopp-fills (j + length P) _ (room-right j P Z room), end)
        (ap (λ l. record { next = q; here = over; list = l }) (close-is k _ over _ ∙ rw f.here at (f.closes Z)) ∙ rw (all, long) refl)
