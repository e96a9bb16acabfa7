-- Statements as the reader answers them, by places of the table. What ends in `Uses` or `Use` has the sets of names (02, order 3) behind
-- what is read there, by those before it; a refusal leaves them as they are by then. The check of a PAR sees the sets of its branches.
use Rattle.std.specs.Prelude.{ℕ, zero, suc, ◌+◌, ◌*◌, ◌≤◌, max, Bool, false, cond, ◌||◌, List, Result, Ok, Err}
use Rattle.numbers.specs.Items.{between_at, name_at, deep_at, with_read, ◌>>=◌}
use Rattle.table.specs.Exprs.{expr_at, kept, expr_uses, both_use}
use Rattle.table.specs.Uses.{inputs_set, outputs_set, no_names, mark_at, change_at, leave_at, clashing, merged}
use Rattle.numbers.specs.declared.Misread.{Misread}
use Rattle.numbers.specs.declared.Number.{Number}
use Rattle.table.specs.declared.expr.Term.{Term}
use Rattle.table.specs.declared.stmt.Names.{Names}
use Rattle.table.specs.declared.stmt.Part.{Part}
use Rattle.table.specs.declared.stmt.Front.{Front}
use Rattle.table.specs.declared.stmt.Sum.{Sum}
use Rattle.model.specs.Limits.{name_limit}
use Rattle.model.specs.Counts.{order_of, sides_hold}
use Rattle.model.specs.declared.kinds.StmtKind.{StmtKind}
use Rattle.numbers.specs.Kinds.{last_statement, stmt_kind, last_guard, guard_kind, by_guard, by_head, by_declared, by_shape, shape_of}
use Rattle.numbers.specs.Kinds.{count_at}
use Rattle.numbers.specs.declared.kinds.Simple.{Simple}
use Rattle.numbers.specs.declared.kinds.Simple.TheVariants.{Skip, Stop, Assign, Input, Output, Time, Wait}
use Rattle.numbers.specs.declared.kinds.Declared.{Declared}
use Rattle.numbers.specs.declared.kinds.Head.{Head}
use Rattle.counts.specs.Words.{asked, least_words}
use Rattle.counts.specs.declared.Role.{Role}
use Rattle.counts.specs.declared.Role.TheVariants.{Value as ForValue, Output as ForOutput, Guard as ForGuard, Wait as ForWait}
use Rattle.counts.specs.declared.Role.TheVariants.{Time as ForTime}

-- a clash is told by one more than the place of its PAR, and 0 is none: the first of two
abbrev pub first_among : ℕ → ℕ → ℕ
first_among zero o = o
first_among (suc p) o = suc p

-- an expression of a statement that stands in no other
unfoldable pub whole_at : Role → (depth variables : ℕ) → List ℕ → (at : ℕ) → Result Front Misread
whole_at r d vs s at = do e ← expr_at d vs s at; Ok (record { next = e.next; words = asked r e.stored })

abbrev pub variable_at : Names → List ℕ → ℕ → Result Number Misread
variable_at w s at = name_at w.variables 0 0 s at

abbrev pub input_at : Names → List ℕ → ℕ → Result Number Misread
input_at w s at = name_at w.channels w.inputs (w.inputs + w.outputs) s at

abbrev pub output_at : Names → List ℕ → ℕ → Result Number Misread
output_at w s at = name_at w.channels 0 w.inputs s at

abbrev pub leaf : (next words : ℕ) → Part
leaf n words = record { next = n; words = words; processes = 1; clash = 0 }

-- an expression as the end of a statement without statements inside
unfoldable pub value_at : Role → (depth variables : ℕ) → List ℕ → (at : ℕ) → Result Part Misread
value_at r d vs s at = do v ← whole_at r d vs s at; Ok (leaf v.next v.words)

-- a channel to input from and a variable, behind what has been read
unfoldable pub taken_at : Names → List ℕ → (at words : ℕ) → Result Front Misread
taken_at w s at a = do
  c ← input_at w s at
  x ← variable_at w s c.next
  Ok (record { next = x.next; words = a })

unfoldable pub taken_uses : Names → List ℕ → (at : ℕ) → List ℕ → List ℕ
taken_uses w s at l =
    with_read (kept l) (input_at w s at) (λ c.
    with_read (kept l) (variable_at w s c.next) (λ x. change_at x.value (mark_at inputs_set c.value l)))

-- 02, order 4: the variable of a TIME, changed as by an input
unfoldable pub timed_at : Names → List ℕ → (at : ℕ) → Result Part Misread
timed_at w s at = do x ← variable_at w s at; Ok (leaf x.next 2)

unfoldable pub timed_uses : Names → List ℕ → (at : ℕ) → List ℕ → List ℕ
timed_uses w s at l = with_read (kept l) (variable_at w s at) (λ x. change_at x.value l)

-- what follows the kind of a statement without statements inside, whose expressions have `depth` left
unfoldable pub simple_at : Simple → (depth : ℕ) → Names → List ℕ → (at : ℕ) → Result Part Misread
simple_at Skip d w s at = Ok (leaf at 2)
simple_at Stop d w s at = Ok (leaf at 2)
simple_at Assign d w s at = do x ← variable_at w s at; value_at ForValue d w.variables s x.next
simple_at Input d w s at = do t ← taken_at w s at 3; Ok (leaf t.next t.words)
simple_at Output d w s at = do c ← output_at w s at; value_at ForOutput d w.variables s c.next
simple_at Time d w s at = timed_at w s at
simple_at Wait d w s at = value_at ForWait d w.variables s at

unfoldable pub simple_uses : Simple → (depth : ℕ) → Names → List ℕ → (at : ℕ) → List ℕ → List ℕ
simple_uses Skip d w s at l = l
simple_uses Stop d w s at l = l
simple_uses Assign d w s at l = with_read (kept l) (variable_at w s at) (λ x. expr_uses d w.variables s x.next (change_at x.value l))
simple_uses Input d w s at l = taken_uses w s at l
simple_uses Output d w s at l =
    with_read (kept l) (output_at w s at) (λ c. expr_uses d w.variables s c.next (mark_at outputs_set c.value l))
simple_uses Time d w s at l = timed_uses w s at l
simple_uses Wait d w s at l = expr_uses d w.variables s at l

-- a condition, a channel to input from and a variable
unfoldable pub waiting_at : (depth : ℕ) → Names → List ℕ → (at : ℕ) → Result Front Misread
waiting_at d w s at = do f ← whole_at ForGuard d w.variables s at; taken_at w s f.next f.words

unfoldable pub waiting_uses : (depth : ℕ) → Names → List ℕ → (at : ℕ) → List ℕ → List ℕ
waiting_uses d w s at l =
    let half = expr_uses d w.variables s at l in
    with_read (kept half) (whole_at ForGuard d w.variables s at) (λ f. taken_uses w s f.next half)

-- 02, order 4: a condition and a time. They are brought in as the right and the left side of an operator
abbrev pub both_of : (condition time : Term) → Front
both_of e t =
    record { next = t.next; words = asked ForTime (sides_hold (order_of t.registers e.registers) t.stored e.stored) }

unfoldable pub both_at : (depth variables : ℕ) → List ℕ → (at : ℕ) → Result Front Misread
both_at d vs s at = do
  e ← expr_at d vs s at
  t ← expr_at d vs s e.next
  Ok (both_of e t)

unfoldable pub both_uses : (depth variables : ℕ) → List ℕ → (at : ℕ) → List ℕ → List ℕ
both_uses d vs s at l = both_use (λ i. expr_at d vs s i) (λ i j. expr_uses d vs s i j) at l

-- a guard: its kind, its condition, and its channel and its variable if it waits for input, its time if it is a time guard
unfoldable pub guard_at : (depth : ℕ) → Names → List ℕ → (at : ℕ) → Result Front Misread
guard_at d w s at = do
  g ← between_at 0 last_guard s at
  by_guard (guard_kind g.value) (waiting_at d w s g.next) (whole_at ForGuard d w.variables s g.next) (both_at d w.variables s g.next)

unfoldable pub guard_uses : (depth : ℕ) → Names → List ℕ → (at : ℕ) → List ℕ → List ℕ
guard_uses d w s at l =
    with_read (kept l) (between_at 0 last_guard s at) (λ g.
    by_guard (guard_kind g.value) (waiting_uses d w s g.next l) (expr_uses d w.variables s g.next l) (both_uses d w.variables s g.next l))

-- what stands before the statement of a part
unfoldable pub head_at : Head → (depth : ℕ) → Names → List ℕ → (at : ℕ) → Result Front Misread
head_at h d w s at = by_head h (Ok (record { next = at; words = 0 })) (whole_at ForValue d w.variables s at) (guard_at d w s at)

unfoldable pub head_uses : Head → (depth : ℕ) → Names → List ℕ → (at : ℕ) → List ℕ → List ℕ
head_uses h d w s at l = by_head h l (expr_uses d w.variables s at l) (guard_uses d w s at l)

-- a statement behind a head that asks for so many words
abbrev pub behind : (words : ℕ) → Part → Part
behind a p = record { next = p.next; words = max a p.words; processes = p.processes; clash = p.clash }

abbrev pub nothing : ℕ → Sum
nothing at = record { next = at; most = 0; sum = 0; live = 0; all = 0; clash = 0 }

abbrev pub added : Sum → Part → Sum
added t p =
    record {
      next = p.next;
      most = max t.most p.words;
      sum = t.sum + p.words;
      live = max t.live p.processes;
      all = t.all + p.processes;
      clash = first_among t.clash p.clash;
    }

-- one part: its head, then its statement
unfoldable pub part_at : Head → (depth : ℕ) → Names → (ℕ → Result Part Misread) → List ℕ → (at : ℕ) → Result Part Misread
part_at h d w inner s at = do
  f ← head_at h d w s at
  p ← inner f.next
  Ok (behind f.words p)

unfoldable pub part_uses : Head → (depth : ℕ) → Names → (ℕ → List ℕ → List ℕ) → List ℕ → (at : ℕ) → List ℕ → List ℕ
part_uses h d w uses s at l =
    let half = head_uses h d w s at l in
    with_read (kept half) (head_at h d w s at) (λ f. uses f.next half)

-- so many parts, after some
unfoldable pub most_from : (left : ℕ) → Head → (depth : ℕ) → Names → (ℕ → Result Part Misread) → List ℕ → Sum → Result Sum Misread
most_from zero h d w inner s t = Ok t
most_from (suc i) h d w inner s t = do p ← part_at h d w inner s t.next; most_from i h d w inner s (added t p)

-- so many parts from a place on
unfoldable pub most_use : (left : ℕ) → Head → (depth : ℕ) → Names → (ℕ → Result Part Misread) → (ℕ → List ℕ → List ℕ) → List ℕ → (at : ℕ)
    → List ℕ
    → List ℕ
most_use zero h d w inner uses s at l = l
most_use (suc i) h d w inner uses s at l =
    let half = part_uses h d w uses s at l in
    with_read (kept half) (part_at h d w inner s at) (λ p. most_use i h d w inner uses s p.next half)

-- what is counted of it
abbrev pub gathered : Head → Sum → Part
gathered h t = record { next = t.next; words = max (least_words h) t.most; processes = max 1 t.live; clash = t.clash }

-- the branches of a PAR so far: what is counted, the sets of all of them, and whether any two clash
pub record Branches : Type 0 where
  pub total : Sum
  pub before : List ℕ
  pub bad : Bool

-- one more branch, by its sets
abbrev pub joined_by : (branch : List ℕ) → Branches → Part → Branches
joined_by m b p =
    record { total = added b.total p; before = merged 64 b.before m; bad = b.bad || clashing b.before m }

abbrev pub no_branches : ℕ → Branches
no_branches at = record { total = nothing at; before = no_names; bad = false }

-- so many branches, after some. Each is read with sets of its own
unfoldable pub branches_from : (left : ℕ) → (ℕ → Result Part Misread) → (ℕ → List ℕ → List ℕ) → Branches → Result Branches Misread
branches_from zero inner uses b = Ok b
branches_from (suc i) inner uses b = do
  p ← inner b.total.next
  branches_from i inner uses (joined_by (uses b.total.next no_names) b p)

-- what is counted of the PAR at a place: its own clash before those inside
abbrev pub par_of : (place : ℕ) → Sum → Bool → Part
par_of at t bad =
    record { next = t.next; words = 2 + t.sum; processes = max 1 t.all; clash = first_among (cond bad (suc at) 0) t.clash }

-- so many more names
abbrev pub more_names : Declared → (count : ℕ) → Names → Names
more_names x n w =
    record {
      variables = by_declared x (w.variables + n) w.variables;
      channels = by_declared x w.channels (w.channels + n);
      inputs = w.inputs;
      outputs = w.outputs;
    }

-- VAR and CHAN
abbrev pub declaring : (count : ℕ) → Part → Part
declaring n p = record { next = p.next; words = n + p.words; processes = p.processes; clash = p.clash }

-- what follows a kind, by its shape: its count, if one is read, and what is behind that; `refuse` answers a refusal of the count
abbrev pub behind_kind : {R : Type 0} → (refuse : Misread → R) → StmtKind → List ℕ → (at : ℕ) → (simple : Simple → R)
    → (declares : Declared → Number → R)
    → (branches : Number → R)
    → (parts : Head → Number → R)
    → R
behind_kind refuse k s at simple declares branches parts =
    by_shape (shape_of k) simple (λ x. with_read refuse (between_at 1 name_limit s at) (declares x))
    (λ m. with_read refuse (count_at m s at) branches)
    (λ h m. with_read refuse (count_at m s at) (parts h))

-- the same with a reader of the statements inside, which have `depth` left, and what they use
abbrev pub inside_of : (place : ℕ) → StmtKind → (depth : ℕ) → Names → (Names → ℕ → Result Part Misread) → (Names → ℕ → List ℕ → List ℕ)
    → List ℕ
    → (at : ℕ)
    → Result Part Misread
inside_of place k d w inner uses s at =
    behind_kind Err k s at (λ x. simple_at x d w s at)
    (λ x c. do p ← inner (more_names x c.value w) c.next; Ok (declaring c.value p))
    (λ c. do b ← branches_from c.value (inner w) (uses w) (no_branches c.next); Ok (par_of place b.total b.bad))
    (λ h c. do t ← most_from c.value h d w (inner w) s (nothing c.next); Ok (gathered h t))

-- the sets behind it: a declaration's own names leave them, and a PAR's are those of its branches together
abbrev pub inside_uses_of : StmtKind → (depth : ℕ) → Names → (Names → ℕ → Result Part Misread) → (Names → ℕ → List ℕ → List ℕ) → List ℕ →
    (at : ℕ)
    → List ℕ
    → List ℕ
inside_uses_of k d w inner uses s at l =
    behind_kind (kept l) k s at (λ x. simple_uses x d w s at l)
    (λ x c. leave_at x w.variables w.channels (uses (more_names x c.value w) c.next l))
    (λ c. with_read (kept l) (branches_from c.value (inner w) (uses w) (no_branches c.next)) (λ b. merged 64 l b.before))
    (λ h c. most_use c.value h d w (inner w) (uses w) s c.next l)

-- a statement, and the sets behind it
unfoldable mutual
  pub stmt_at : (depth : ℕ) → Names → List ℕ → (at : ℕ) → Result Part Misread
  stmt_at zero w s at = Err (deep_at s at)
  stmt_at (suc d) w s at =
      with_read Err (between_at 0 last_statement s at) (λ k.
      inside_of at (stmt_kind k.value) d w (λ v i. stmt_at d v s i) (λ v i j. stmt_uses d v s i j) s k.next)

  pub stmt_uses : (depth : ℕ) → Names → List ℕ → (at : ℕ) → List ℕ → List ℕ
  stmt_uses zero w s at l = l
  stmt_uses (suc d) w s at l =
      with_read (kept l) (between_at 0 last_statement s at) (λ k.
      inside_uses_of (stmt_kind k.value) d w (λ v i. stmt_at d v s i) (λ v i j. stmt_uses d v s i j) s k.next l)

-- the same by its parts
unfoldable pub inside_at : (place : ℕ) → StmtKind → (depth : ℕ) → Names → List ℕ → (at : ℕ) → Result Part Misread
inside_at place k d w s at = inside_of place k d w (λ v i. stmt_at d v s i) (λ v i j. stmt_uses d v s i j) s at

unfoldable pub inside_uses : StmtKind → (depth : ℕ) → Names → List ℕ → (at : ℕ) → List ℕ → List ℕ
inside_uses k d w s at l = inside_uses_of k d w (λ v i. stmt_at d v s i) (λ v i j. stmt_uses d v s i j) s at l

abbrev pub part_in : Head → (depth : ℕ) → Names → List ℕ → (at : ℕ) → Result Part Misread
part_in h d w s at = part_at h d w (λ i. stmt_at d w s i) s at

abbrev pub part_uses_in : Head → (depth : ℕ) → Names → List ℕ → (at : ℕ) → List ℕ → List ℕ
part_uses_in h d w s at l = part_uses h d w (λ i j. stmt_uses d w s i j) s at l

unfoldable pub most_at : Head → (count depth : ℕ) → Names → List ℕ → (at : ℕ) → Result Part Misread
most_at h c d w s at = do
  t ← most_from c h d w (λ i. stmt_at d w s i) s (nothing at)
  Ok (gathered h t)

unfoldable pub most_uses_at : Head → (count depth : ℕ) → Names → List ℕ → (at : ℕ) → List ℕ → List ℕ
most_uses_at h c d w s at l = most_use c h d w (λ i. stmt_at d w s i) (λ i j. stmt_uses d w s i j) s at l

unfoldable pub branches_at : (left depth : ℕ) → Names → List ℕ → Branches → Result Branches Misread
branches_at i d w s b = branches_from i (λ j. stmt_at d w s j) (λ j l. stmt_uses d w s j l) b

unfoldable pub par_at : (place count depth : ℕ) → Names → List ℕ → (at : ℕ) → Result Part Misread
par_at place c d w s at = do
  b ← branches_at c d w s (no_branches at)
  Ok (par_of place b.total b.bad)

unfoldable pub par_uses_at : (count depth : ℕ) → Names → List ℕ → (at : ℕ) → List ℕ → List ℕ
par_uses_at c d w s at l = with_read (kept l) (branches_at c d w s (no_branches at)) (λ b. merged 64 l b.before)

unfoldable pub declared_at : Declared → (count depth : ℕ) → Names → List ℕ → (at : ℕ) → Result Part Misread
declared_at x c d w s at = do
  p ← stmt_at d (more_names x c w) s at
  Ok (declaring c p)

unfoldable pub declared_uses : Declared → (count depth : ℕ) → Names → List ℕ → (at : ℕ) → List ℕ → List ℕ
declared_uses x c d w s at l = leave_at x w.variables w.channels (stmt_uses d (more_names x c w) s at l)

-- what the readers of names ask: the sets have a place for each name
abbrev pub Numbered : Names → Type 0
Numbered w = (w.variables ≤ 1024) × (w.channels ≤ 1024) × (w.inputs ≤ 8) × (w.outputs ≤ 8)

-- what the readers ask: at most 32 names are declared for each depth that is left
abbrev pub Fits : Names → ℕ → Type 0
Fits w d =
    (d ≤ 32) × (w.variables + 32 * d ≤ 1024) × (w.channels + 32 * d ≤ 1040) × (w.inputs ≤ 8) × (w.outputs ≤ 8)
