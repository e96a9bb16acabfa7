-- The code of ALT as it is put into the list (01, "Workspace and code"; 02, order 4).
use Rattle.std.specs.Prelude.{ℕ, zero, suc, ◌+◌, ◌-◌, Bool, true, false, cond, ◌||◌, List, set}
use Rattle.model.specs.Word.{low, less, minus}
use Rattle.model.specs.Scheme.{alt_words}
use Rattle.numbers.specs.Items.{value_at}
use Rattle.numbers.specs.Kinds.{guard_kind, by_guard}
use Rattle.model.specs.declared.kinds.GuardKind.{GuardKind}
use Rattle.model.specs.declared.kinds.GuardKind.TheVariants.{Input as InputGuard, Skip as SkipGuard, Time as TimeGuard}
use Rattle.assembler.specs.declared.entry.Entry.{Entry}
use Rattle.plan.specs.Entries.{next_of, next_in, plan_at}
use Rattle.plan.specs.Extents.{extent_in}
use Rattle.expressions.specs.Emits.{Code, at, plain_into, distance_into, operation_into}
use Rattle.expressions.specs.Names.{Names, local_of}
use Rattle.expressions.specs.Exprs.{Wrote, written, code_of, whole_into, both_into}
use Rattle.expressions.specs.Simples.{in_into}
use Rattle.statements.specs.Stmts.{Inner, Open, opened, no_ends, close_into}
use Rattle.statements.specs.declared.alt.Guard.{Guard}
use Rattle.statements.specs.declared.alt.Front.{Front}
use Rattle.statements.specs.declared.stmt.Turn.{Turn}
use Rattle.instruction.specs.Codes.{AJW, ALT, ALTEND, ALTWT, DISC, DISS, DIST, ENBC, ENBS, ENBT, LDC, LDLP, REV, TALT, TALTWT}

-- a guard's code so far, and the list
pub record Guarded : Type 0 where
  pub guard : Guard
  pub list : List Entry

-- the same from what a function answers, and the list
abbrev pub guarded : Guard → List Entry → Guarded
guarded g l = record { guard = g; list = l }

-- a guard's expressions, put behind one another
abbrev pub guard_of : GuardKind → Wrote → Guarded
guard_of k x = guarded (record { at = x.next; here = x.here; kind = k }) x.list

-- what enabling and disabling begin with. 01, a guard that waits: condition, LDLP channel, REV
unfoldable pub waiting_into : (depth w : ℕ) → Names → (plan s : List ℕ) → (at : ℕ) → Code → Guarded
waiting_into d w ns p s i c =
    let t = whole_into d w alt_words ns.variables p s i c in
    let ch = local_of ns.channels (value_at s t.next).value w in
    guard_of InputGuard (written t.next (operation_into REV (plain_into LDLP ch (code_of t))))

-- 01, a SKIP guard: condition. 02, order 4, a time guard: time, condition
unfoldable pub guard_into : (depth w : ℕ) → Names → (plan s : List ℕ) → (at : ℕ) → Code → Guarded
guard_into d w ns p s i c =
    let k = value_at s i in
    by_guard (guard_kind k.value) (waiting_into d w ns p s k.next c)
    (guard_of SkipGuard (whole_into d w alt_words ns.variables p s k.next c))
    (guard_of TimeGuard (both_into d w alt_words ns.variables p s k.next c))

-- 02, order 4: the guard at a place is a time guard
unfoldable pub is_timed : List ℕ → (at : ℕ) → Bool
is_timed s i = by_guard (guard_kind (value_at s i).value) false false true

-- the place of the statement of the guard at a place, as the plan tells
unfoldable pub statement_of : (plan s : List ℕ) → (at : ℕ) → ℕ
statement_of p s i =
    let k = value_at s i in
    let n = next_in (plan_at p k.next) in
    by_guard (guard_kind k.value) (next_of s (next_of s n)) n (next_in (plan_at p n))

-- the place of the next guard, behind this one's statement
unfoldable pub next_guard : (plan s : List ℕ) → (at : ℕ) → ℕ
next_guard p s i = (extent_in p (statement_of p s i)).next

-- 02, order 4: "an ALT with a time guard", by so many guards from a place on
unfoldable pub timed_in : (left : ℕ) → (plan s : List ℕ) → (at : ℕ) → Bool
timed_in zero p s i = false
timed_in (suc l) p s i = is_timed s i || timed_in l p s (next_guard p s i)

-- 01, per guard: condition, LDLP channel, REV, ENBC, or condition, ENBS. 02, order 4: time, condition, ENBT
unfoldable pub enable_into : (left depth w : ℕ) → Names → (plan s : List ℕ) → (at : ℕ) → Code → Code
enable_into zero d w ns p s i c = c
enable_into (suc l) d w ns p s i c =
    let g = guard_into d w ns p s i c in
    enable_into l d w ns p s (next_guard p s i)
    (operation_into (by_guard g.guard.kind ENBC ENBS ENBT) (at g.guard.here g.list))

-- the rest of a guard's disabling. 01: LDC branch, DISC, or LDC branch, DISS; 02, order 4: LDC branch, DIST. `choice` is the index of
-- ALTEND
unfoldable pub disable_into : Guard → (branch choice : ℕ) → List Entry → Code
disable_into g b choice l = operation_into (by_guard g.kind DISC DISS DIST) (distance_into LDC b choice (at g.here l))

-- the input that a guard's branch begins with, if it waits for one
unfoldable pub branch_input : Guard → (w : ℕ) → Names → List ℕ → Code → Wrote
branch_input g w ns s c = by_guard g.kind (in_into w ns s g.at c) (written g.at c) (written g.at c)

-- a guard's disabling and its branch: the place after it, the index of the next guard's disabling, the index left for the branch's J, and
-- the list
pub record Chosen : Type 0 where
  pub next : ℕ
  pub disable : ℕ
  pub here : ℕ
  pub list : List Entry

-- the same from what a function answers, and the list
abbrev pub chosen : Turn → List Entry → Chosen
chosen x l = record { next = x.at; disable = x.disable; here = x.here; list = l }

-- 01, per guard its disabling, and a branch: AJW 1, the input if any, statement
unfoldable pub choice_into : (depth : ℕ) → Inner → (w : ℕ) → Names → (plan s : List ℕ) → (choice at disable : ℕ) → Code → Chosen
choice_into d inner w ns p s choice i dis c =
    let g = guard_into d (w - 1) ns p s i (at dis c.list) in
    let f = disable_into g.guard c.here choice g.list in
    let x = branch_input g.guard w ns s (plain_into AJW 1 (at c.here f.list)) in
    let b = inner w ns x.next (code_of x) in
    record { next = b.next; disable = f.here; here = b.here; list = b.list }

-- so many guards from the k-th on
unfoldable pub choices_into : (left k depth : ℕ) → Inner → (w : ℕ) → Names → (plan s : List ℕ) → (choice : ℕ) → (ends : List ℕ)
    → (at disable : ℕ) → Code → Open
choices_into zero k d inner w ns p s choice e i dis c = opened i c e
choices_into (suc n) k d inner w ns p s choice e i dis c =
    let b = choice_into d inner w ns p s choice i dis c in
    choices_into n (suc k) d inner w ns p s choice (set e k b.here) b.next b.disable (at (low (b.here + 1)) b.list)

-- so many guards with their branches. 01: each branch ends with J end
unfoldable pub guards_into : (count depth : ℕ) → Inner → (w : ℕ) → Names → (plan s : List ℕ) → (choice at disable : ℕ) → Code → Wrote
guards_into n d inner w ns p s choice i dis c =
    let r = choices_into n 0 d inner w ns p s choice no_ends i dis c in
    record { next = r.next; here = r.here; list = close_into n r.ends r.here r.list }

-- what an ALT begins with: the index of its disabling, that of its ALTEND, and the list
pub record Fronted : Type 0 where
  pub disable : ℕ
  pub choice : ℕ
  pub list : List Entry

-- the same from what a function answers, and the list
abbrev pub fronted : Front → List Entry → Fronted
fronted f l = record { disable = f.disable; choice = f.choice; list = l }

-- 01: AJW -1, ALT, the enabling, ALTWT; 02, order 4: with a time guard TALT and TALTWT. The disabling has the enabling's instructions, with
-- another operation, and one more for each guard
unfoldable pub front_into : (count depth w : ℕ) → Names → (plan s : List ℕ) → (at : ℕ) → Code → Fronted
front_into n d w ns p s i c =
    let t = timed_in n p s i in
    let a = operation_into (cond t TALT ALT) (plain_into AJW (minus 1) c) in
    let e = enable_into n d w ns p s i a in
    let wt = operation_into (cond t TALTWT ALTWT) e in
    record { disable = wt.here; choice = low (wt.here + low (less e.here a.here + n)); list = wt.list }

-- 01, ALT: behind this the disabling, ALTEND, the branches
unfoldable pub alt_into : (count depth : ℕ) → Inner → (w : ℕ) → Names → (plan s : List ℕ) → (at : ℕ) → Code → Wrote
alt_into n d inner w ns p s i c =
    let f = front_into n d (w - 1) ns p s i c in
    guards_into n d inner w ns p s f.choice i f.disable (operation_into ALTEND (at f.choice f.list))
