-- What it is that the model's code of a statement is put into the list; statements without statements inside.
use Prim.Native.Nat.{ℕ, suc, ◌≤◌}
use native.Mathlib.Omega.{arith}
use mathlib.Core.Path.{◌≡◌, sym, ap}
use mathlib.Core.List.{List, [], ◌∷◌}
use Rattle.assembler.specs.declared.entry.Entry.{Entry}
use Rattle.model.specs.Limits.{word_limit}
use Rattle.model.specs.Word.{minus}
use Rattle.model.specs.Syntax.{Site, Expr, Stmt, SKIP, STOP, assign, input, output, TIME, WAIT}
use Rattle.model.specs.Reader as M
use Rattle.model.specs.Counts.{need}
use Rattle.model.specs.Instruction as I
use Rattle.model.specs.Instruction.{plain, operation, ldlp, ajw, stl, function_code, operation_code}
use Rattle.model.specs.Scheme.{local, whole_code, input_code, code}
use Rattle.model.proofs.Tables.WellFormed.{Laid}
use Rattle.model.specs.declared.kinds.StmtKind.TheVariants.{Skip, Stop, Assign, Input, Output, Time, Wait}
use Rattle.numbers.specs.Kinds.{stmt_kind}
use Rattle.instruction.specs.Codes.{STOPP}
use Rattle.expressions.specs.Emits.{at, operation_into}
use Rattle.expressions.specs.Names.{Names}
use Rattle.expressions.specs.Exprs.{written}
use Rattle.expressions.specs.Simples.{input_into, output_into, assign_into, in_into, out_into, time_into, wait_into, simple_into}
use Rattle.statements.specs.Kinds.{stmt_into, inside_into}
use Rattle.statements.proofs.Spelled.{KindAt, OneAt, ExprAt, StmtAt}
use Rattle.statements.proofs.Planned.{PlannedExpr, PlannedStmt}
use Rattle.statements.proofs.Fills.{filled, fill_none, Room, room-left, emits-fills, emits-at}
use Rattle.statements.proofs.ExprCode.{Named, local-is, whole-coded}

-- the words of the names in scope
pub record Scoped (word : Site → ℕ) (depth : ℕ) (sc : M.Scope) (ns : Names) : Type 0 where
  pub variables : Named word depth sc.variables ns.variables
  pub channels : Named word depth sc.channels ns.channels

-- the same with one level less
pub inner-names : {word : Site → ℕ} {d : ℕ} {sites : List Site} {ws : List ℕ} → Named word (suc d) sites ws → Named word d sites ws
inner-names h = record { word-is = h.word-is; long = h.long; deep = omega (arith, h.deep) }

pub inner-scope : {word : Site → ℕ} {d : ℕ} {sc : M.Scope} {ns : Names} → Scoped word (suc d) sc ns → Scoped word d sc ns
inner-scope h = record { variables = inner-names h.variables; channels = inner-names h.channels }

-- STOPP: a STOP, and what stands behind an IF's last pair
pub stopp-fills : (h : ℕ) (o : List Entry) → Room h (operation I.stopp ∷ []) → operation_into STOPP (at h o) ≡ filled h
    (operation I.stopp ∷ []) o
unfolding function_code operation_code operation_into
stopp-fills h o room = emits-at (operation I.stopp ∷ []) h o room

module _ (word : Site → ℕ) (workspace : ℕ → ℕ) (s plan : List ℕ) where
  -- a statement laid out at w, whose code is at index j
  pub record Placed (w j : ℕ) (b : Stmt) : Type 0 where
    pub laid : Laid workspace w b
    pub low : w ≤ word_limit
    pub few : need b ≤ word_limit
    pub room : Room j (code word w j b)

  -- what is put into the list for a statement at a place of the table is the model's code
  abbrev pub Written : (depth : ℕ) → Names → (w j i n : ℕ) → Stmt → Type 0
  Written d ns w j i n b = (o : List Entry) → stmt_into d w ns plan s i (at j o) ≡ written n (filled j (code word w j b) o)

  -- so it is for every statement that is spelt with `depth` left
  pub record Compiles (depth : ℕ) : Type 0 where
    pub compiles : {sc : M.Scope} {i n : ℕ} {b : Stmt} {ns : Names} (w j : ℕ) (a : StmtAt s depth sc i b n) → PlannedStmt s plan a
        → Scoped word depth sc ns → Placed w j b → Written depth ns w j i n b

  module _ {d : ℕ} {sc : M.Scope} {ns : Names} (w j : ℕ) (names : Scoped word (suc d) sc ns) where
    pub skip-code : {i n : ℕ} → KindAt s stmt_kind i Skip n → Placed w j SKIP → Written (suc d) ns w j i n SKIP
    unfolding stmt_into inside_into simple_into code
    skip-code k p o = rw (k.value, k.is) (ap (written _) (sym (fill_none j o)))

    pub stop-code : {i n : ℕ} → KindAt s stmt_kind i Stop n → Placed w j STOP → Written (suc d) ns w j i n STOP
    unfolding stmt_into inside_into simple_into code
    stop-code k p o = rw (k.value, k.is) (ap (written _) (stopp-fills j o p.room))

    pub assign-code : {i n m q : ℕ} {x : Site} {e : Expr} → KindAt s stmt_kind i Assign n → OneAt s sc.variables n x m
        → (c : ExprAt s sc.variables d m e q) → PlannedExpr s plan c → Placed w j (assign x e) → Written (suc d) ns w j i q (assign x e)
    unfolding stmt_into inside_into simple_into assign_into code function_code
    assign-code {x = x} {e = e} k a c told p o =
        rw (
          k.value,
          k.is,
          a.there.value,
          local-is word s names.variables w a,
          whole-coded word s plan 0 (omega arith) names.variables w c told j o (room-left j (whole_code word w e) _ p.room),
        )
        (ap (written _) (emits-fills (plain stl (local word w x) ∷ []) j (whole_code word w e) o p.room))

    pub input-code : {i n m q : ℕ} {c x : Site} → KindAt s stmt_kind i Input n → OneAt s sc.channels n c m
        → OneAt s sc.variables m x q → Placed w j (input c x) → Written (suc d) ns w j i q (input c x)
    unfolding stmt_into inside_into simple_into in_into input_into code function_code operation_code operation_into
    input-code {c = c} {x = x} k a b p o =
        rw (
          k.value,
          k.is,
          a.there.value,
          b.there.value,
          local-is word s names.channels w a,
          local-is word s names.variables w b,
        )
        (ap (written _) (emits-at (input_code word w c x) j o p.room))

    pub output-code : {i n m q : ℕ} {c : Site} {e : Expr} → KindAt s stmt_kind i Output n → OneAt s sc.channels n c m
        → (b : ExprAt s sc.variables d m e q) → PlannedExpr s plan b → Placed w j (output c e) → Written (suc d) ns w j i q (output c e)
    unfolding stmt_into inside_into simple_into out_into output_into code function_code operation_code operation_into
    output-code {c = c} {e = e} k a b told p o =
        rw (
          k.value,
          k.is,
          a.there.value,
          local-is word s names.channels w a,
          whole-coded word s plan 0 (omega arith) names.variables w b told j o (room-left j (whole_code word w e) _ p.room),
        )
        (ap (written _) (emits-fills
        (plain ldlp (local word w c) ∷ operation I.rev ∷ plain ajw (minus 1) ∷ operation I.outword ∷ plain ajw 1 ∷ [])
        j (whole_code word w e) o p.room))

    pub time-code : {i n m : ℕ} {x : Site} → KindAt s stmt_kind i Time n → OneAt s sc.variables n x m → Placed w j (TIME x)
        → Written (suc d) ns w j i m (TIME x)
    unfolding stmt_into inside_into simple_into time_into code function_code operation_code operation_into
    time-code {x = x} k a p o =
        rw (k.value, k.is, a.there.value, local-is word s names.variables w a)
        (ap (written _) (emits-at (operation I.ldtimer ∷ plain stl (local word w x) ∷ []) j o p.room))

    pub wait-code : {i n m : ℕ} {e : Expr} → KindAt s stmt_kind i Wait n → (c : ExprAt s sc.variables d n e m) → PlannedExpr s plan c
        → Placed w j (WAIT e) → Written (suc d) ns w j i m (WAIT e)
    unfolding stmt_into inside_into simple_into wait_into code function_code operation_code operation_into
    wait-code {e = e} k c told p o =
        rw (
          k.value,
          k.is,
          whole-coded word s plan 0 (omega arith) names.variables w c told j o (room-left j (whole_code word w e) _ p.room),
        )
        (ap (written _) (emits-fills (operation I.tin ∷ []) j (whole_code word w e) o p.room))
