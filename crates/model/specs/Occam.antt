-- Occam's own rules (01, "Occam's steps"). They know sites and no words: channels and variables are not laid out here.
use Rattle.std.specs.Prelude.{ℕ, zero, suc, ◌+◌, ◌*◌, ◌≡◌, Bool, true, false, cond, not, List, [], ◌∷◌, eqb, Err, None, Ok, Some}
use Rattle.std.proofs.Math.Option.{Option, none, some}
use Rattle.std.specs.Int.Bits.{bit_and, bit_or, bit_xor}
use Rattle.std.specs.Int.Signed.{lt_z}
use Rattle.model.specs.Word.{low, less, signed, after, truth}
use Rattle.model.specs.Syntax.{Site, input_of, output_of, Expr, constant, variable, NOT, binary, Stmt, SKIP, STOP, assign, input}
use Rattle.model.specs.Syntax.{output, VAR, CHAN, SEQ, PAR, IF, WHILE, ALT, TIME, WAIT, Stmts, no_stmt, stmt, Pairs, no_pair, pair}
use Rattle.model.specs.Syntax.{Guard, input_guard, skip_guard, time_guard, Guards, guard, Program}
use Rattle.model.specs.declared.kinds.Operator.{Operator}
use Rattle.model.specs.declared.kinds.Operator.TheVariants.{Plus as PLUS, Minus as MINUS, Times as TIMES, Gt as GT, Eq as EQ}
use Rattle.model.specs.declared.kinds.Operator.TheVariants.{And as AND, Or as OR, Xor as XOR}
use Rattle.model.specs.Reader.{names}
use Rattle.model.specs.Usage.{same, is_in}
use Rattle.model.specs.Answers.{OfferAnswer, TakeAnswer}
use Rattle.model.specs.declared.OfferRefusal.TheVariants.{Held}

-- PLUS, MINUS and TIMES keep the low 32 bits. GT compares signed words; GT and EQ give 1 or 0. AND, OR, XOR work bit by bit
unfoldable pub operate : Operator → ℕ → ℕ → ℕ
operate PLUS l r = low (l + r)
operate MINUS l r = less l r
operate TIMES l r = low (l * r)
operate GT l r = truth (lt_z (signed r) (signed l))
operate EQ l r = truth (eqb l r)
operate AND l r = bit_and l r
operate OR l r = bit_or l r
operate XOR l r = bit_xor l r

-- NOT gives 1 for 0, else 0
unfoldable pub deny : ℕ → ℕ
deny v = truth (eqb v 0)

-- the values of the variables
abbrev pub Store : Type 0
Store = Site → ℕ

-- an expression's value
unfoldable pub eval : Store → Expr → ℕ
eval σ (constant n) = n
eval σ (variable x) = σ x
eval σ (NOT e) = deny (eval σ e)
eval σ (binary op l r) = operate op (eval σ l) (eval σ r)

-- a condition is true when not 0
abbrev pub is_true : Store → Expr → Bool
is_true σ e = not (eqb (eval σ e) 0)

-- a variable gets a value: assignment and input
abbrev pub store : Site → ℕ → Store → Store
store x v σ = λ y. cond (same y x) v (σ y)

-- the variables of a VAR become 0
abbrev pub zeros : List Site → Store → Store
zeros xs σ = λ y. cond (is_in y xs) 0 (σ y)

-- what a process is in the middle of: a SEQ, with the statements left; a VAR, whose variables are live; a WHILE's body
pub data Frame : Type 0 where
  in_seq : Stmts → Frame
  in_var : List Site → Frame
  in_while : Expr → Stmt → Frame

-- a process, and what it goes on with. `before`: about to begin a statement. The next five: waiting there; an output holds its value, a
-- wait for the clock its time. 02, order 4: before TIME a process is about to read the clock; it holds what it read until the statement's
-- step stores it. In a PAR, a branch whose process is finished has not yet taken the step of its end; after it, it is over
mutual
  pub data Process : Type 0 where
    before : Stmt → List Frame → Process
    at_input : (channel variable : Site) → List Frame → Process
    at_output : (channel : Site) (value : ℕ) → List Frame → Process
    at_stop : List Frame → Process
    at_alt : Guards → List Frame → Process
    at_wait : (time : ℕ) → List Frame → Process
    to_read : (variable : Site) → List Frame → Process
    has_read : (variable : Site) (reading : ℕ) → List Frame → Process
    in_par : Branches → List Frame → Process
    finished : Process

  pub data Branches : Type 0 where
    no_branch : Branches
    branch : Process → Branches → Branches
    over : Branches → Branches

-- Beginning or ending a SEQ, the end of a VAR, of an IF's branch and of a WHILE's body are no steps: they are gone through at
-- once, so a VAR is over with its body's last step. `after` is what follows where there is nothing to do
unfoldable mutual
  pub enter : Stmt → List Frame → (after : Process) → Process
  enter SKIP k after = before SKIP k
  enter STOP k after = before STOP k
  enter (assign x e) k after = before (assign x e) k
  enter (input c x) k after = before (input c x) k
  enter (output c e) k after = before (output c e) k
  enter (VAR p n s) k after = before (VAR p n s) k
  enter (CHAN p n s) k after = before (CHAN p n s) k
  enter (SEQ ss) k after = enter_all ss k after
  enter (PAR p ss) k after = before (PAR p ss) k
  enter (IF ps) k after = before (IF ps) k
  enter (WHILE e s) k after = before (WHILE e s) k
  enter (ALT gs) k after = before (ALT gs) k
  enter (TIME x) k after = to_read x k
  enter (WAIT e) k after = before (WAIT e) k

  pub enter_all : Stmts → List Frame → (after : Process) → Process
  enter_all no_stmt k after = after
  enter_all (stmt s ss) k after = enter s (in_seq ss ∷ k) (enter_all ss k after)

-- what follows where a part is over
unfoldable pub resume : List Frame → Process
resume [] = finished
resume (in_seq ss ∷ k) = enter_all ss k (resume k)
resume (in_var xs ∷ k) = resume k
resume (in_while e s ∷ k) = before (WHILE e s) k

-- a process that begins a statement, in the middle of what is around it
abbrev pub begin : Stmt → List Frame → Process
begin s k = enter s k (resume k)

-- a PAR that was started: each branch begins
unfoldable pub branches : Stmts → Branches
branches no_stmt = no_branch
branches (stmt s ss) = branch (begin s []) (branches ss)

-- an IF takes its first true branch; with no true condition, or with no pairs, it comes to a wait, as at STOP (02, order 1, which
-- prevails here over 01 and 004; 001 has it so)
unfoldable pub first_true : Store → Pairs → List Frame → Process
first_true σ no_pair k = at_stop k
first_true σ (pair e s ps) k = cond (is_true σ e) (begin s k) (first_true σ ps k)

-- a process and the store after a step
pub record Moved : Type 0 where
  pub process : Process
  pub store : Store

-- what a step makes
abbrev pub moved : Process → Store → Moved
moved p σ = record { process = p; store = σ }

-- the step that begins a statement. A PAR of none is over with its start. SEQ and TIME have none here: `enter` goes into them
unfoldable pub go : Stmt → List Frame → Store → Moved
go SKIP k σ = moved (resume k) σ
go STOP k σ = moved (at_stop k) σ
go (assign x e) k σ = moved (resume k) (store x (eval σ e) σ)
go (input c x) k σ = moved (at_input c x k) σ
go (output c e) k σ = moved (at_output c (eval σ e) k) σ
go (VAR p n s) k σ = moved (begin s (in_var (names p n) ∷ k)) (zeros (names p n) σ)
go (CHAN p n s) k σ = moved (begin s k) σ
go (SEQ ss) k σ = moved (begin (SEQ ss) k) σ
go (PAR p no_stmt) k σ = moved (resume k) σ
go (PAR p (stmt s ss)) k σ = moved (in_par (branches (stmt s ss)) k) σ
go (IF ps) k σ = moved (first_true σ ps k) σ
go (WHILE e s) k σ = moved (cond (is_true σ e) (begin s (in_while e s ∷ k)) (resume k)) σ
go (ALT gs) k σ = moved (at_alt gs k) σ
go (TIME x) k σ = moved (to_read x k) σ
go (WAIT e) k σ = moved (at_wait (eval σ e) k) σ

-- the process of a branch that is not over
unfoldable pub branch_at : ℕ → Branches → Option Process
branch_at i no_branch = none
branch_at zero (branch p bs) = some p
branch_at (suc i) (branch p bs) = branch_at i bs
branch_at zero (over bs) = none
branch_at (suc i) (over bs) = branch_at i bs

-- another process in a branch
unfoldable pub set_branch : ℕ → Process → Branches → Branches
set_branch i q no_branch = no_branch
set_branch zero q (branch p bs) = branch q bs
set_branch (suc i) q (branch p bs) = branch p (set_branch i q bs)
set_branch zero q (over bs) = over bs
set_branch (suc i) q (over bs) = over (set_branch i q bs)

-- a branch's end
unfoldable pub end_branch : ℕ → Branches → Branches
end_branch i no_branch = no_branch
end_branch zero (branch p bs) = over bs
end_branch (suc i) (branch p bs) = branch p (end_branch i bs)
end_branch zero (over bs) = over bs
end_branch (suc i) (over bs) = over (end_branch i bs)

-- no branch is left
unfoldable pub all_over : Branches → Bool
all_over no_branch = true
all_over (branch p bs) = false
all_over (over bs) = all_over bs

-- the last branch's end lets the PAR go on
abbrev pub closed : Branches → List Frame → Process
closed bs k = cond (all_over bs) (resume k) (in_par bs k)

-- the branches of a process that is in a PAR
abbrev pub branches_of : Process → Branches
branches_of (before s k) = no_branch
branches_of (at_input c x k) = no_branch
branches_of (at_output c v k) = no_branch
branches_of (at_stop k) = no_branch
branches_of (at_alt gs k) = no_branch
branches_of (at_wait t k) = no_branch
branches_of (to_read x k) = no_branch
branches_of (has_read x v k) = no_branch
branches_of (in_par bs k) = bs
branches_of finished = no_branch

-- what a process is in the middle of
abbrev pub frames_of : Process → List Frame
frames_of (before s k) = k
frames_of (at_input c x k) = k
frames_of (at_output c v k) = k
frames_of (at_stop k) = k
frames_of (at_alt gs k) = k
frames_of (at_wait t k) = k
frames_of (to_read x k) = k
frames_of (has_read x v k) = k
frames_of (in_par bs k) = k
frames_of finished = []

-- the process that branches lead to, outermost first
unfoldable pub look : List ℕ → Process → Option Process
look [] p = some p
look (i ∷ path) p = elim (branch_at i (branches_of p)) [ none ↦ none | some q ↦ look path q ]

-- another process in its place
unfoldable pub put : List ℕ → Process → Process → Process
put [] q p = q
put (i ∷ path) q p = elim (branch_at i (branches_of p))
    [ none ↦ p | some b ↦ in_par (set_branch i (put path q b) (branches_of p)) (frames_of p) ]

-- the outermost process, the variables, for each outside input the offer that waits there, and the last clock word given, if one was
pub record State : Type 0 where
  pub process : Process
  pub store : Store
  pub offers : ℕ → Option ℕ
  pub clock : Option ℕ

-- the clock: the last word given. Before the first run there is none, and nothing is read
abbrev pub now : State → ℕ
now st = elim st.clock [ none ↦ 0 | some c ↦ c ]

-- what a step shows: a communication, with its channel and its value; or what was read of the clock
pub data Communication : Type 0 where
  talks : (channel : Site) (value : ℕ) → Communication
  reads : (clock : ℕ) → Communication

-- the one communication of a step
abbrev pub over-channel : Site → ℕ → List Communication
over-channel c v = talks c v ∷ []

-- what an ALT goes on with where it takes a guard: the guard's input, if it waits for one, then its statement
abbrev pub branch_of : Guard → Stmt → Stmt
branch_of (input_guard e c x) s = SEQ (stmt (input c x) (stmt s no_stmt))
branch_of (skip_guard e) s = s
branch_of (time_guard e t) s = s

-- the steps of a state
module _ (st : State) where
  -- another process and store, offers and clock as they are
  abbrev replaced : List ℕ → Process → Store → State
  replaced path p σ = record { process = put path p st.process; store = σ; offers = st.offers; clock = st.clock }

  -- another offer, or none, on one outside input
  abbrev with_offer : ℕ → Option ℕ → ℕ → Option ℕ
  with_offer k o = λ j. cond (eqb j k) o (st.offers j)

  -- a channel's sender waits: in an output, or outside
  pub data Sender : Site → Type 0 where
    process : (path : List ℕ) {c : Site} {v : ℕ} {k : List Frame} → look path st.process ≡ some (at_output c v k) → Sender c
    outside : {n v : ℕ} → st.offers n ≡ some v → Sender (input_of n)

  -- a true guard that is SKIP, whose channel has a sender or, 02, order 4, whose time the clock is after
  pub data Ready : Guard → Type 0 where
    by-input : {e : Expr} {c x : Site} → is_true st.store e ≡ true → Sender c → Ready (input_guard e c x)
    by-skip : {e : Expr} → is_true st.store e ≡ true → Ready (skip_guard e)
    by-time : {e t : Expr} → is_true st.store e ≡ true → after (now st) (eval st.store t) ≡ true → Ready (time_guard e t)

  -- an ALT takes any one ready guard; the guard's input is a later step
  pub data Choice (k : List Frame) : Guards → Process → Type 0 where
    first-guard : {g : Guard} {s : Stmt} {gs : Guards} → Ready g → Choice k (guard g s gs) (begin (branch_of g s) k)
    later-guard : {g : Guard} {s : Stmt} {gs : Guards} {p : Process} → Choice k gs p → Choice k (guard g s gs) p

  -- any live process that can go may take the next step
  pub data Step : List Communication → State → Type 0 where
    -- a process goes: SKIP, an assignment, entering VAR or CHAN, an IF, a WHILE test, starting a PAR, coming to where it waits
    begins : (path : List ℕ) {s : Stmt} {k : List Frame} → look path st.process ≡ some (before s k)
        → Step [] (replaced path (go s k st.store).process (go s k st.store).store)
    -- a branch's end
    ends : (path : List ℕ) (i : ℕ) {bs : Branches} {k : List Frame} → look path st.process ≡ some (in_par bs k)
        → branch_at i bs ≡ some finished → Step [] (replaced path (closed (end_branch i bs) k) st.store)
    -- an ALT takes a guard
    chooses : (path : List ℕ) {gs : Guards} {k : List Frame} {p : Process} → look path st.process ≡ some (at_alt gs k) → Choice k gs p
        → Step [] (replaced path p st.store)
    -- 02, order 4: a process that waits for the clock goes on once the clock is after its time
    goes_on : (path : List ℕ) {t : ℕ} {k : List Frame} → look path st.process ≡ some (at_wait t k) → after (now st) t ≡ true
        → Step [] (replaced path (resume k) st.store)
    -- 02, order 4: a process reads the clock for TIME. It belongs to the statement's one step, which stores what was read, also where the
    -- clock has moved between
    reading : (path : List ℕ) {x : Site} {k : List Frame} → look path st.process ≡ some (to_read x k)
        → Step (reads (now st) ∷ []) (replaced path (has_read x (now st) k) st.store)
    stores : (path : List ℕ) {x : Site} {v : ℕ} {k : List Frame} → look path st.process ≡ some (has_read x v k)
        → Step [] (replaced path (resume k) (store x v st.store))
    -- a communication, when sender and receiver are both there, as one step of both
    communicates : (sender receiver : List ℕ) {c x : Site} {v : ℕ} {k l : List Frame} → look sender st.process ≡ some (at_output c v k)
        → look receiver st.process ≡ some (at_input c x l)
        → Step (over-channel c v)
        (record {
          process = put sender (resume k) (put receiver (resume l) st.process);
          store = store x v
              st.store;
          offers = st.offers;
          clock = st.clock;
        })
    -- the same with an offer from outside as the sender
    receives : (path : List ℕ) {n v : ℕ} {x : Site} {k : List Frame} → look path st.process ≡ some (at_input (input_of n) x k)
        → st.offers n ≡ some v
        → Step (over-channel (input_of n) v)
        (record {
          process = put path (resume k) st.process;
          store = store x v
              st.store;
          offers = with_offer n none;
          clock = st.clock;
        })

-- what the outside does, and what it is answered; and the clock word that a run brings
pub data Event : Type 0 where
  offers : (k value : ℕ) → OfferAnswer → Event
  takes : (k : ℕ) → TakeAnswer → Event
  ticks : (clock : ℕ) → Event

module _ (st : State) where
  -- an offer is a sender waiting until received; another there meanwhile gets 14 and changes nothing. A take receives from a
  -- sender, else answers none. The clock moves, but not to a word that the last one given is after (02, order 4)
  pub data Outside : Event → List Communication → State → Type 0 where
    offered : {k v : ℕ} → st.offers k ≡ none
        → Outside (offers k v (Ok tt)) []
        (record { process = st.process; store = st.store; offers = with_offer st k (some v); clock = st.clock })
    held : {k v u : ℕ} → st.offers k ≡ some u → Outside (offers k v (Err Held)) [] st
    taken : {k v : ℕ} (path : List ℕ) {f : List Frame} → look path st.process ≡ some (at_output (output_of k) v f)
        → Outside (takes k (Ok (Some v))) (over-channel (output_of k) v) (replaced st path (resume f) st.store)
    nobody : {k : ℕ} → (Sender st (output_of k) → ⊥) → Outside (takes k (Ok None)) [] st
    ticked : {c : ℕ} → ((t : ℕ) → st.clock ≡ some t → after t c ≡ false)
        → Outside (ticks c) [] (record { process = st.process; store = st.store; offers = st.offers; clock = some c })

-- a program before its first step
unfoldable pub initial : Program → State
initial p = record { process = begin p.body []; store = λ x. 0; offers = λ k. none; clock = none }

-- demand 3: Occam cannot go on though not ended
pub record Stuck (st : State) : Type 0 where
  pub still : (cs : List Communication) (st' : State) → Step st cs st' → ⊥
  pub unfinished : st.process ≡ finished → ⊥
