-- How many processes are live: the leaves of the tree. They are never more than the program's count of processes (refusal 9).
use Prim.Native.Nat.{ℕ, zero, suc, ◌+◌, max, ◌≤◌}
use native.Mathlib.Omega.{arith}
use mathlib.Core.Path.{◌≡◌, subst, ◌∙◌}
use mathlib.Core.List.{List, [], ◌∷◌}
use mathlib.Core.Option.{some}
use Rattle.model.specs.Syntax.{Stmt, SKIP, STOP, assign, input, output, VAR, CHAN, SEQ, PAR, IF, WHILE, ALT, Stmts, no_stmt, stmt}
use Rattle.model.specs.Syntax.{Pairs, no_pair, pair, Guard, input_guard, skip_guard, time_guard, Guards, Program, TIME, WAIT}
use Rattle.model.specs.Reader.{names}
use Rattle.model.specs.Counts.{processes, most_processes, sum_processes, pair_processes, guard_processes}
use Rattle.model.specs.Occam.{Store, is_true, Frame, in_seq, in_var, in_while, enter, enter_all, resume, begin, branches, first_true, go}
use Rattle.model.specs.Occam.{Process, before, at_input, at_output, at_stop, at_alt, in_par, finished, Branches, no_branch, branch, over}
use Rattle.model.specs.Occam.{branch_at, set_branch, end_branch, all_over, closed, branches_of, frames_of, look, put, State, Communication}
use Rattle.model.specs.Occam.{branch_of, Choice, first-guard, later-guard, Step, begins, ends, chooses, communicates, receives, Event}
use Rattle.model.specs.Occam.{Outside, offered, held, taken, nobody, ticked, initial, to_read, has_read, reading, stores, now, at_wait}
use Rattle.model.specs.Occam.{goes_on}
use Rattle.model.proofs.Cases.{never, of-cond}
use Rattle.model.proofs.Occam.Paths.{under, look-under, put_in, par-whole, l-input, l-output, leaves-differ, look-put-other}

-- the live processes
unfoldable mutual
  pub leaves : Process → ℕ
  leaves (before s k) = 1
  leaves (at_input c x k) = 1
  leaves (at_output c v k) = 1
  leaves (at_stop k) = 1
  leaves (at_alt gs k) = 1
  leaves (at_wait t k) = 1
  leaves (to_read x k) = 1
  leaves (has_read x v k) = 1
  leaves (in_par bs k) = leaves_in bs
  leaves finished = 1

  pub leaves_in : Branches → ℕ
  leaves_in no_branch = 0
  leaves_in (branch p bs) = leaves p + leaves_in bs
  leaves_in (over bs) = leaves_in bs

-- the most processes that there can be in what follows
unfoldable pub most_after : List Frame → ℕ
most_after [] = 1
most_after (in_seq ss ∷ k) = max (most_processes ss) (most_after k)
most_after (in_var xs ∷ k) = most_after k
most_after (in_while e s ∷ k) = max (processes s) (most_after k)

-- the most that a process can become
unfoldable mutual
  pub most : Process → ℕ
  most (before s k) = max (processes s) (most_after k)
  most (at_input c x k) = most_after k
  most (at_output c v k) = most_after k
  most (at_stop k) = most_after k
  most (at_alt gs k) = max (guard_processes gs) (most_after k)
  most (at_wait t k) = most_after k
  most (to_read x k) = most_after k
  most (has_read x v k) = most_after k
  most (in_par bs k) = max (most_in bs) (most_after k)
  most finished = 1

  pub most_in : Branches → ℕ
  most_in no_branch = 0
  most_in (branch p bs) = most p + most_in bs
  most_in (over bs) = most_in bs

-- what follows is one at least
after_one : (k : List Frame) → 1 ≤ most_after k
unfolding most_after
after_one [] = omega arith
after_one (in_seq ss ∷ k) = omega (arith, after_one k)
after_one (in_var xs ∷ k) = after_one k
after_one (in_while e s ∷ k) = omega (arith, after_one k)

-- every statement is one process at least
processes-one : (s : Stmt) → 1 ≤ processes s
unfolding processes
processes-one SKIP = omega arith
processes-one STOP = omega arith
processes-one (assign x e) = omega arith
processes-one (input c x) = omega arith
processes-one (output c e) = omega arith
processes-one (VAR p n s) = processes-one s
processes-one (CHAN p n s) = processes-one s
processes-one (SEQ ss) = omega arith
processes-one (PAR p ss) = omega arith
processes-one (IF ps) = omega arith
processes-one (WHILE e s) = processes-one s
processes-one (ALT gs) = omega arith
processes-one (TIME x) = omega arith
processes-one (WAIT e) = omega arith

-- no process is more than it can become
mutual
  unfolding leaves leaves_in most most_in

  pub leaves-most : (p : Process) → leaves p ≤ most p
  leaves-most (before s k) = omega (arith, after_one k)
  leaves-most (at_input c x k) = after_one k
  leaves-most (at_output c v k) = after_one k
  leaves-most (at_stop k) = after_one k
  leaves-most (at_alt gs k) = omega (arith, after_one k)
  leaves-most (at_wait t k) = after_one k
  leaves-most (to_read x k) = after_one k
  leaves-most (has_read x v k) = after_one k
  leaves-most (in_par bs k) = omega (arith, leaves-most-in bs)
  leaves-most finished = omega arith

  leaves-most-in : (bs : Branches) → leaves_in bs ≤ most_in bs
  leaves-most-in no_branch = omega arith
  leaves-most-in (branch p bs) = omega (arith, leaves-most p, leaves-most-in bs)
  leaves-most-in (over bs) = leaves-most-in bs

-- a statement that is entered
mutual
  unfolding enter enter_all most most_in most_after processes most_processes

  most-enter : (s : Stmt) (k : List Frame) (p : Process) (m : ℕ) → processes s ≤ m → most_after k ≤ m → most p ≤ m → most (enter s k p) ≤ m
  most-enter SKIP k p m a b c = omega arith
  most-enter STOP k p m a b c = omega arith
  most-enter (assign x e) k p m a b c = omega arith
  most-enter (input d x) k p m a b c = omega arith
  most-enter (output d e) k p m a b c = omega arith
  most-enter (VAR q n s) k p m a b c = omega arith
  most-enter (CHAN q n s) k p m a b c = omega arith
  most-enter (SEQ ss) k p m a b c = most-enter-all ss k p m (omega arith) b c
  most-enter (PAR q ss) k p m a b c = omega arith
  most-enter (IF ps) k p m a b c = omega arith
  most-enter (WHILE e s) k p m a b c = omega arith
  most-enter (ALT gs) k p m a b c = omega arith
  most-enter (TIME x) k p m a b c = b
  most-enter (WAIT e) k p m a b c = omega arith

  most-enter-all : (ss : Stmts) (k : List Frame) (p : Process) (m : ℕ) → most_processes ss ≤ m → most_after k ≤ m → most p ≤ m
      → most (enter_all ss k p) ≤ m
  most-enter-all no_stmt k p m a b c = c
  most-enter-all (stmt s ss) k p m a b c =
      most-enter s (in_seq ss ∷ k) (enter_all ss k p) m (omega arith) (omega arith) (most-enter-all ss k p m (omega arith) b c)

-- what follows where a part is over
pub most-resume : (k : List Frame) → most (resume k) ≤ most_after k
unfolding resume most most_after processes
most-resume [] = omega arith
most-resume (in_seq ss ∷ k) =
    most-enter-all ss k (resume k) (max (most_processes ss) (most_after k)) (omega arith) (omega arith) (omega (arith, most-resume k))
most-resume (in_var xs ∷ k) = most-resume k
most-resume (in_while e s ∷ k) = omega arith

-- a process that begins a statement
pub most-begin : (s : Stmt) (k : List Frame) → most (begin s k) ≤ max (processes s) (most_after k)
most-begin s k =
    most-enter s k (resume k) (max (processes s) (most_after k)) (omega arith) (omega arith) (omega (arith, most-resume k))

-- a PAR that was started
pub most-branches : (ss : Stmts) → most_in (branches ss) ≤ sum_processes ss
unfolding branches most most_in most_after sum_processes
most-branches no_stmt = omega arith
most-branches (stmt s ss) = omega (arith, most-begin s [], processes-one s, most-branches ss)

-- an IF
most-if : (σ : Store) (ps : Pairs) (k : List Frame) → most (first_true σ ps k) ≤ max (max 1 (pair_processes ps)) (most_after k)
unfolding first_true most pair_processes
most-if σ no_pair k = omega arith
most-if σ (pair e s ps) k =
    of-cond (λ p. most p ≤ max (max 1 (max (processes s) (pair_processes ps))) (most_after k)) (is_true σ e) (omega (arith, most-begin s k))
    (omega (arith, most-if σ ps k))

-- an ALT
most-branch : (g : Guard) (s : Stmt) (k : List Frame) → most (begin (branch_of g s) k) ≤ max (processes s) (most_after k)
unfolding processes
most-branch (input_guard e c x) s k = omega (arith, most-begin (SEQ (stmt (input c x) (stmt s no_stmt))) k, processes-one s)
most-branch (skip_guard e) s k = most-begin s k
most-branch (time_guard e t) s k = most-begin s k

most-choice : {st : State} {k : List Frame} {gs : Guards} {p : Process} → Choice st k gs p
    → most p ≤ max (guard_processes gs) (most_after k)
unfolding guard_processes
most-choice {k} (first-guard {g} {s} r) = omega (arith, most-branch g s k)
most-choice (later-guard c) = omega (arith, most-choice c)

-- the step that begins a statement
pub most-go : (s : Stmt) (k : List Frame) (σ : Store) → most (go s k σ).process ≤ most (before s k)
unfolding go most most_in most_after processes
most-go SKIP k σ = omega (arith, most-resume k)
most-go STOP k σ = omega arith
most-go (assign x e) k σ = omega (arith, most-resume k)
most-go (input c x) k σ = omega arith
most-go (output c e) k σ = omega arith
most-go (VAR p n s) k σ = omega (arith, most-begin s (in_var (names p n) ∷ k))
most-go (CHAN p n s) k σ = most-begin s k
most-go (SEQ ss) k σ = most-begin (SEQ ss) k
most-go (PAR p no_stmt) k σ = omega (arith, most-resume k)
most-go (PAR p (stmt s ss)) k σ = omega (arith, most-branches (stmt s ss))
most-go (IF ps) k σ = omega (arith, most-if σ ps k)
most-go (WHILE e s) k σ =
    of-cond (λ p. most p ≤ max (processes s) (most_after k)) (is_true σ e) (omega (arith, most-begin s (in_while e s ∷ k)))
    (omega (arith, most-resume k))
most-go (ALT gs) k σ = omega arith
most-go (TIME x) k σ = omega arith
most-go (WAIT e) k σ = omega arith

-- a branch that becomes no more
most-set : (i : ℕ) (bs : Branches) {q : Process} (r : Process) → branch_at i bs ≡ some q → most r ≤ most q
    → most_in (set_branch i r bs) ≤ most_in bs
unfolding branch_at set_branch most most_in
most-set i no_branch r e l = never (cc)
most-set zero (branch p bs) {q} r e l = let h : most q ≡ most p = cc in omega (arith, h, l)
most-set (suc i) (branch p bs) r e l = omega (arith, most-set i bs r e l)
most-set zero (over bs) r e l = never (cc)
most-set (suc i) (over bs) r e l = most-set i bs r e l

-- a branch that ends
pub most-end : (i : ℕ) (bs : Branches) → most_in (end_branch i bs) ≤ most_in bs
unfolding end_branch most most_in
most-end i no_branch = omega arith
most-end zero (branch p bs) = omega arith
most-end (suc i) (branch p bs) = omega (arith, most-end i bs)
most-end zero (over bs) = omega arith
most-end (suc i) (over bs) = most-end i bs

-- and may be the last
most-closed : (i : ℕ) (bs : Branches) (k : List Frame) → most (closed (end_branch i bs) k) ≤ most (in_par bs k)
unfolding most most_in
most-closed i bs k =
    of-cond (λ p. most p ≤ max (most_in bs) (most_after k)) (all_over (end_branch i bs)) (omega (arith, most-resume k))
    (omega (arith, most-end i bs))

-- a process at a path that becomes no more
pub most-put : (path : List ℕ) (p r : Process) {q : Process} → look path p ≡ some q → most r ≤ most q → most (put path r p) ≤ most p
unfolding look put most most_in
most-put [] p r {q} e l = let h : most q ≡ most p = cc in omega (arith, h, l)
most-put (i ∷ path) p r e l = elim (look-under i path p e) [
  | under b f g ↦
      rw (put_in i path r p f)
      (subst (λ z. max (most_in (set_branch i (put path r b) (branches_of p))) (most_after (frames_of p)) ≤ most z) (par-whole i p f)
      (omega (arith, most-set i (branches_of p) (put path r b) f (most-put path b r g l))))
]

-- no step makes the processes more than they could become before
pub step-most : {st : State} {cs : List Communication} {st' : State} → Step st cs st' → most st'.process ≤ most st.process
unfolding most most_in
step-most {st} (begins path {s} {k} e) = most-put path st.process (go s k st.store).process e (most-go s k st.store)
step-most {st} (ends path i {bs} {k} e f) = most-put path st.process (closed (end_branch i bs) k) e (most-closed i bs k)
step-most {st} (chooses path {p} e c) = most-put path st.process p e (most-choice c)
step-most {st} (goes_on path {k} e f) = most-put path st.process (resume k) e (most-resume k)
step-most {st} (reading path {x} {k} e) = most-put path st.process (has_read x (now st) k) e (omega arith)
step-most {st} (stores path {k} e) = most-put path st.process (resume k) e (most-resume k)
step-most {st} (communicates sender receiver {k} {l} e f) =
    let v = leaves-differ receiver sender st.process f l-input e l-output (λ z. never (cc)) in
    omega (
      arith,
      most-put sender (put receiver (resume l) st.process) (resume k) (look-put-other (resume l) st.process v ∙ e) (most-resume k),
      most-put receiver st.process (resume l) f (most-resume l),
    )
step-most {st} (receives path {k} e f) = most-put path st.process (resume k) e (most-resume k)

-- nor does what the outside does
pub outside-most : {st : State} {ev : Event} {cs : List Communication} {st' : State} → Outside st ev cs st'
    → most st'.process ≤ most st.process
unfolding most most_in
outside-most (offered e) = omega arith
outside-most (held e) = omega arith
outside-most {st} (taken path {f} e) = most-put path st.process (resume f) e (most-resume f)
outside-most (nobody n) = omega arith
outside-most (ticked h) = omega arith

-- a program begins with no more than its processes
pub initial-most : (p : Program) → most (initial p).process ≤ processes p.body
unfolding initial most_after
initial-most p = omega (arith, most-begin p.body [], processes-one p.body)
