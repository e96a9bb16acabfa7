-- Paths into Occam's processes: what is found and put at a path, which branches of a PAR are left, and that leaves' paths are apart.
use Prim.Native.Nat.{ℕ, zero, suc, ◌<◌}
use native.Mathlib.Omega.{arith}
use native.Mathlib.Decide.{ℕ_discrete}
use mathlib.Core.Path.{◌≡◌, refl, sym, ap, subst, ◌∙◌}
use mathlib.Core.Logic.{◌≢◌, ◌⊎◌, inl, inr, ⊎_elim}
use mathlib.Core.Bool.{true, false, Bool}
use mathlib.Core.List.Memᴰ
use mathlib.Core.List.{List, [], ◌∷◌, ◌++◌, append-nil, Memᴰ}
use mathlib.Core.Option.{Option, none, some}
use Rattle.model.specs.Syntax.{Site, Stmt, SKIP, STOP, assign, input, output, VAR, CHAN, SEQ, PAR, IF, WHILE, ALT, Stmts, no_stmt}
use Rattle.model.specs.Syntax.{stmt, Guards, TIME, WAIT, timed}
use Rattle.model.specs.Scheme.{how_many}
use Rattle.model.specs.Occam.{Frame, in_seq, in_var, in_while, enter, enter_all, resume, begin, branches, closed, Process, before}
use Rattle.model.specs.Occam.{at_input, at_output, at_stop, at_alt, in_par, finished, Branches, no_branch, branch, over, branch_at}
use Rattle.model.specs.Occam.{set_branch, end_branch, all_over, branches_of, frames_of, look, put, to_read, has_read, at_wait}
use Rattle.model.specs.Demand.{live_in}
use Rattle.model.proofs.Cases.{never, by-option, is_none}

-- a branch that is set is the one found there
pub branch-set-same : (i : ℕ) (bs : Branches) {b : Process} (r : Process) → branch_at i bs ≡ some b → branch_at i (set_branch i r bs)
    ≡ some r
unfolding branch_at set_branch
branch-set-same i no_branch r e = never (cc)
branch-set-same zero (branch p bs) r e = refl
branch-set-same (suc i) (branch p bs) r e = branch-set-same i bs r e
branch-set-same zero (over bs) r e = never (cc)
branch-set-same (suc i) (over bs) r e = branch-set-same i bs r e

-- the other branches stay
pub branch-set-other : (i j : ℕ) (bs : Branches) (r : Process) → i ≢ j → branch_at j (set_branch i r bs) ≡ branch_at j bs
unfolding branch_at set_branch
branch-set-other i j no_branch r d = refl
branch-set-other zero zero (branch p bs) r d = absurd (d refl)
branch-set-other zero (suc j) (branch p bs) r d = refl
branch-set-other (suc i) zero (branch p bs) r d = refl
branch-set-other (suc i) (suc j) (branch p bs) r d = branch-set-other i j bs r (λ e. d (ap suc e))
branch-set-other zero zero (over bs) r d = refl
branch-set-other zero (suc j) (over bs) r d = refl
branch-set-other (suc i) zero (over bs) r d = refl
branch-set-other (suc i) (suc j) (over bs) r d = branch-set-other i j bs r (λ e. d (ap suc e))

-- the later of two settings of a branch holds
pub set-set-same : (i : ℕ) (bs : Branches) (r s : Process) → set_branch i r (set_branch i s bs) ≡ set_branch i r bs
unfolding set_branch
set-set-same i no_branch r s = refl
set-set-same zero (branch p bs) r s = refl
set-set-same (suc i) (branch p bs) r s = ap (branch p) (set-set-same i bs r s)
set-set-same zero (over bs) r s = refl
set-set-same (suc i) (over bs) r s = ap over (set-set-same i bs r s)

-- settings of two branches commute
pub set-set-other : (i j : ℕ) (bs : Branches) (r s : Process) → i ≢ j
    → set_branch i r (set_branch j s bs) ≡ set_branch j s (set_branch i r bs)
unfolding set_branch
set-set-other i j no_branch r s d = refl
set-set-other zero zero (branch p bs) r s d = absurd (d refl)
set-set-other zero (suc j) (branch p bs) r s d = refl
set-set-other (suc i) zero (branch p bs) r s d = refl
set-set-other (suc i) (suc j) (branch p bs) r s d = ap (branch p) (set-set-other i j bs r s (λ e. d (ap suc e)))
set-set-other zero zero (over bs) r s d = refl
set-set-other zero (suc j) (over bs) r s d = refl
set-set-other (suc i) zero (over bs) r s d = refl
set-set-other (suc i) (suc j) (over bs) r s d = ap over (set-set-other i j bs r s (λ e. d (ap suc e)))

-- a branch that is set to what it is
pub set_found : (i : ℕ) (bs : Branches) {b : Process} → branch_at i bs ≡ some b → set_branch i b bs ≡ bs
unfolding branch_at set_branch
set_found i no_branch e = refl
set_found zero (branch p bs) e = cc
set_found (suc i) (branch p bs) e = ap (branch p) (set_found i bs e)
set_found zero (over bs) e = refl
set_found (suc i) (over bs) e = ap over (set_found i bs e)

-- a branch that ended is over
pub branch-end-same : (i : ℕ) (bs : Branches) → branch_at i (end_branch i bs) ≡ none
unfolding branch_at end_branch
branch-end-same i no_branch = refl
branch-end-same zero (branch p bs) = refl
branch-end-same (suc i) (branch p bs) = branch-end-same i bs
branch-end-same zero (over bs) = refl
branch-end-same (suc i) (over bs) = branch-end-same i bs

-- the other branches stay
pub branch-end-other : (i j : ℕ) (bs : Branches) → i ≢ j → branch_at j (end_branch i bs) ≡ branch_at j bs
unfolding branch_at end_branch
branch-end-other i j no_branch d = refl
branch-end-other zero zero (branch p bs) d = absurd (d refl)
branch-end-other zero (suc j) (branch p bs) d = refl
branch-end-other (suc i) zero (branch p bs) d = refl
branch-end-other (suc i) (suc j) (branch p bs) d = branch-end-other i j bs (λ e. d (ap suc e))
branch-end-other zero zero (over bs) d = refl
branch-end-other zero (suc j) (over bs) d = refl
branch-end-other (suc i) zero (over bs) d = refl
branch-end-other (suc i) (suc j) (over bs) d = branch-end-other i j bs (λ e. d (ap suc e))

-- how many branches are not over
unfoldable pub left : Branches → ℕ
left no_branch = 0
left (branch p bs) = suc (left bs)
left (over bs) = left bs

-- another process in a branch leaves as many
pub left-set : (i : ℕ) (r : Process) (bs : Branches) → left (set_branch i r bs) ≡ left bs
unfolding left set_branch
left-set i r no_branch = refl
left-set zero r (branch p bs) = refl
left-set (suc i) r (branch p bs) = ap suc (left-set i r bs)
left-set zero r (over bs) = refl
left-set (suc i) r (over bs) = left-set i r bs

-- a branch's end leaves one less
pub left_end : (i : ℕ) (bs : Branches) {b : Process} → branch_at i bs ≡ some b → left bs ≡ suc (left (end_branch i bs))
unfolding left branch_at end_branch
left_end i no_branch e = never (cc)
left_end zero (branch p bs) e = refl
left_end (suc i) (branch p bs) e = ap suc (left_end i bs e)
left_end zero (over bs) e = never (cc)
left_end (suc i) (over bs) e = left_end i bs e

-- a branch that is found is one of those left
pub left-found : (i : ℕ) (bs : Branches) {b : Process} → branch_at i bs ≡ some b → left bs ≢ 0
left-found i bs e z = absurd (omega (arith, left_end i bs e, z))

-- all are over where none is left
pub none_left : (bs : Branches) → left bs ≡ 0 → all_over bs ≡ true
unfolding left all_over
none_left no_branch e = refl
none_left (branch p bs) e = absurd (omega arith)
none_left (over bs) e = none_left bs e

-- not all are over where some are left
pub some_left : (bs : Branches) → left bs ≢ 0 → all_over bs ≡ false
unfolding left all_over
some_left no_branch d = absurd (d refl)
some_left (branch p bs) d = refl
some_left (over bs) d = some_left bs d

-- after a branch's end all are over where it was the last
pub last-over : (i : ℕ) (bs : Branches) {b : Process} → branch_at i bs ≡ some b → left bs ≡ 1 → all_over (end_branch i bs) ≡ true
last-over i bs e z = none_left (end_branch i bs) (omega (arith, left_end i bs e, z))

-- and not all, where another is found
pub other-over : (i j : ℕ) (bs : Branches) {c : Process} → i ≢ j → branch_at j bs ≡ some c → all_over (end_branch i bs) ≡ false
other-over i j bs d e = some_left (end_branch i bs) (left-found j (end_branch i bs) (branch-end-other i j bs d ∙ e))

-- nor where it was not the last
pub more-over : (i : ℕ) (bs : Branches) {b : Process} → branch_at i bs ≡ some b → left bs ≢ 1 → all_over (end_branch i bs) ≡ false
more-over i bs e d = some_left (end_branch i bs) (λ z. d (omega (arith, left_end i bs e, z)))

-- a PAR that was started has all its branches left
pub left-branches : (ss : Stmts) → left (branches ss) ≡ how_many ss
unfolding left branches how_many
left-branches no_stmt = refl
left-branches (stmt s ss) = ap suc (left-branches ss)

-- the statement of a branch
unfoldable pub stmt_at : ℕ → Stmts → Option Stmt
stmt_at i no_stmt = none
stmt_at zero (stmt s ss) = some s
stmt_at (suc i) (stmt s ss) = stmt_at i ss

-- and only such a place
pub stmt-inside : (i : ℕ) (ss : Stmts) {s : Stmt} → stmt_at i ss ≡ some s → i < how_many ss
unfolding stmt_at how_many
stmt-inside i no_stmt e = never (cc)
stmt-inside zero (stmt s ss) e = omega arith
stmt-inside (suc i) (stmt s ss) e = omega (arith, stmt-inside i ss e)

-- in a PAR that was started each branch begins its statement
pub branch-begins : (i : ℕ) (ss : Stmts) {s : Stmt} → stmt_at i ss ≡ some s → branch_at i (branches ss) ≡ some (begin s [])
unfolding stmt_at branches branch_at
branch-begins i no_stmt e = never (cc)
branch-begins zero (stmt s ss) e = cc
branch-begins (suc i) (stmt s ss) e = branch-begins i ss e

-- a process that begins the statement of a branch
pub data Begun (i : ℕ) (ss : Stmts) (p : Process) : Type 0 where
  begun : (s : Stmt) → stmt_at i ss ≡ some s → p ≡ begin s [] → Begun i ss p

-- what is found in a branch of a PAR that was started
pub branch-begun : (i : ℕ) (ss : Stmts) {p : Process} → branch_at i (branches ss) ≡ some p → Begun i ss p
unfolding stmt_at branches branch_at
branch-begun i no_stmt e = never (cc)
branch-begun zero (stmt s ss) e = begun s refl (cc)
branch-begun (suc i) (stmt s ss) e = elim (branch-begun i ss e) [ begun t f g ↦ begun t f g ]

-- by way of a branch is found what is found in it
pub look_in : (i : ℕ) (path : List ℕ) (p : Process) {b : Process} → branch_at i (branches_of p) ≡ some b → look (i ∷ path) p ≡ look path b
unfolding look
look_in i path p e = rw (e, look) refl

-- by way of a branch that is over, or of none, nothing is found
pub look-out : (i : ℕ) (path : List ℕ) (p : Process) → branch_at i (branches_of p) ≡ none → look (i ∷ path) p ≡ none
unfolding look
look-out i path p e = rw (e, look) refl

-- a put by way of a branch is a put into it
pub put_in : (i : ℕ) (path : List ℕ) (r p : Process) {b : Process} → branch_at i (branches_of p) ≡ some b
    → put (i ∷ path) r p ≡ in_par (set_branch i (put path r b) (branches_of p)) (frames_of p)
unfolding put
put_in i path r p e = rw (e, put) refl

-- by way of a branch that is over, or of none, a put changes nothing
pub put-out : (i : ℕ) (path : List ℕ) (r p : Process) → branch_at i (branches_of p) ≡ none → put (i ∷ path) r p ≡ p
unfolding put
put-out i path r p e = rw (e, put) refl

-- a process at a path is under the path's first branch
pub data Under (i : ℕ) (path : List ℕ) (p q : Process) : Type 0 where
  under : (b : Process) → branch_at i (branches_of p) ≡ some b → look path b ≡ some q → Under i path p q

-- what is found at a path is found in its first branch
pub look-under : (i : ℕ) (path : List ℕ) (p : Process) {q : Process} → look (i ∷ path) p ≡ some q → Under i path p q
look-under i path p e =
    by-option (branch_at i (branches_of p)) (λ n. never (cc (look-out i path p n, e))) (λ b s. under b s (sym (look_in i path p s) ∙ e))

-- the empty path leads to the whole
pub look-nil : (p : Process) → look [] p ≡ some p
unfolding look
look-nil p = refl

-- after a put the branch on its way has the put in it
put-way : (i : ℕ) (path : List ℕ) (r p : Process) {b : Process} → branch_at i (branches_of p) ≡ some b
    → branch_at i (branches_of (put (i ∷ path) r p)) ≡ some (put path r b)
put-way i path r p {b} e = rw (put_in i path r p e) (branch-set-same i (branches_of p) (put path r b) e)

-- what is put is found
pub look-put-same : (path : List ℕ) (p r : Process) {q : Process} → look path p ≡ some q → look path (put path r p) ≡ some r
unfolding look put
look-put-same [] p r e = refl
look-put-same (i ∷ path) p r e = elim (look-under i path p e) [
  | under b f g ↦ look_in i path (put (i ∷ path) r p) (put-way i path r p f) ∙ look-put-same path b r g
]

-- under a path are the paths into what is found there
pub look-append : (path rest : List ℕ) (p : Process) {q : Process} → look path p ≡ some q → look (path ++ rest) p ≡ look rest q
unfolding look
look-append [] rest p e = cc
look-append (i ∷ path) rest p e = elim (look-under i path p e) [
  | under b f g ↦ look_in i (path ++ rest) p f ∙ look-append path rest b g
]

-- and a put under it is a put into what is found there
pub put-append : (path rest : List ℕ) (r p : Process) {q : Process} → look path p ≡ some q
    → put (path ++ rest) r p ≡ put path (put rest r q) p
unfolding look put
put-append [] rest r p e = cc
put-append (i ∷ path) rest r p {q} e = elim (look-under i path p e) [
  | under b f g ↦
      put_in i (path ++ rest) r p f ∙ ap (λ z. in_par (set_branch i z (branches_of p)) (frames_of p)) (put-append path rest r b g)
      ∙ sym (put_in i path (put rest r q) p f)
]

-- under the path of a put are the paths into what was put
pub look-put-below : (path rest : List ℕ) (r p : Process) {q : Process} → look path p ≡ some q
    → look (path ++ rest) (put path r p) ≡ look rest r
look-put-below path rest r p e = look-append path rest (put path r p) (look-put-same path p r e)

-- two paths that part somewhere: neither begins with the other
pub data Apart : List ℕ → List ℕ → Type 0 where
  here : {i j : ℕ} {ps qs : List ℕ} → i ≢ j → Apart (i ∷ ps) (j ∷ qs)
  later : {i : ℕ} {ps qs : List ℕ} → Apart ps qs → Apart (i ∷ ps) (i ∷ qs)

-- either is apart from the other
pub apart-sym : {ps qs : List ℕ} → Apart ps qs → Apart qs ps
apart-sym (here d) = here (λ e. d (sym e))
apart-sym (later a) = later (apart-sym a)

-- paths under them are apart
pub apart-append : {ps qs : List ℕ} (xs ys : List ℕ) → Apart ps qs → Apart (ps ++ xs) (qs ++ ys)
apart-append xs ys (here d) = here d
apart-append xs ys (later a) = later (apart-append xs ys a)

-- and so are paths that go on apart from the same one
pub apart-under : (path : List ℕ) {ps qs : List ℕ} → Apart ps qs → Apart (path ++ ps) (path ++ qs)
apart-under [] a = a
apart-under (i ∷ path) a = later (apart-under path a)

-- no path is apart from itself
pub apart-differ : {ps qs : List ℕ} → Apart ps qs → ps ≢ qs
apart-differ (here d) e = d (cc)
apart-differ (later a) e = apart-differ a (cc)

-- a put leaves the other branches as they are
put_other : (i j : ℕ) (path : List ℕ) (r p : Process) → i ≢ j → branch_at j (branches_of (put (i ∷ path) r p)) ≡ branch_at j (branches_of p)
put_other i j path r p d =
    by-option (branch_at i (branches_of p)) (λ n. ap (λ z. branch_at j (branches_of z)) (put-out i path r p n))
    (λ b e. rw (put_in i path r p e) (branch-set-other i j (branches_of p) (put path r b) d))

-- what is found by way of a branch depends on this branch alone
look-same : (i : ℕ) (path : List ℕ) (p q : Process) → branch_at i (branches_of p) ≡ branch_at i (branches_of q)
    → look (i ∷ path) p ≡ look (i ∷ path) q
unfolding look
look-same i path p q e = rw (e, look) refl

-- a put leaves what is found at a path that is apart
pub look-put-other : {path other : List ℕ} (r p : Process) → Apart path other → look other (put path r p) ≡ look other p
look-put-other r p (here {i} {j} {ps} {qs} d) = look-same j qs (put (i ∷ ps) r p) p (put_other i j ps r p d)
look-put-other r p (later {i} {ps} {qs} a) =
    by-option (branch_at i (branches_of p)) (λ n. ap (look (i ∷ qs)) (put-out i ps r p n))
    (λ b e. look_in i qs (put (i ∷ ps) r p) (put-way i ps r p e) ∙ look-put-other r b a ∙ sym (look_in i qs p e))

-- the later of two puts at a path holds
pub put-put-same : (path : List ℕ) (r s p : Process) → put path r (put path s p) ≡ put path r p
unfolding put
put-put-same [] r s p = refl
put-put-same (i ∷ path) r s p =
    by-option (branch_at i (branches_of p)) (λ n. ap (put (i ∷ path) r) (put-out i path s p n))
    (λ b e. put_in i path r (put (i ∷ path) s p) (put-way i path s p e)
    ∙ rw (put_in i path s p e, put_in i path r p e, put-put-same path r s b)
    (ap (λ z. in_par z (frames_of p)) (set-set-same i (branches_of p) (put path r b) (put path s b))))

-- puts at two paths that are apart commute
pub put-put-apart : {path other : List ℕ} (r s p : Process) → Apart path other → put path r (put other s p) ≡ put other s (put path r p)
put-put-apart r s p (here {i} {j} {ps} {qs} d) =
    by-option (branch_at i (branches_of p)) (λ n. missing i j ps qs r s d n)
    (λ b e. by-option (branch_at j (branches_of p)) (λ n. sym (missing j i qs ps s r (λ u. d (sym u)) n)) (λ c f. both b c e f))
  where
    -- nothing where the one is put
    missing : (i j : ℕ) (ps qs : List ℕ) (r s : Process) → i ≢ j → branch_at i (branches_of p) ≡ none
        → put (i ∷ ps) r (put (j ∷ qs) s p) ≡ put (j ∷ qs) s (put (i ∷ ps) r p)
    missing i j ps qs r s d n =
        put-out i ps r (put (j ∷ qs) s p) (put_other j i qs s p (λ u. d (sym u)) ∙ n)
        ∙ ap (put (j ∷ qs) s) (sym (put-out i ps r p n))

    both : (b c : Process) → branch_at i (branches_of p) ≡ some b → branch_at j (branches_of p) ≡ some c
        → put (i ∷ ps) r (put (j ∷ qs) s p) ≡ put (j ∷ qs) s (put (i ∷ ps) r p)
    both b c e f =
        put_in i ps r (put (j ∷ qs) s p) (put_other j i qs s p (λ u. d (sym u)) ∙ e)
        ∙ rw (put_in i ps r p e, put_in j qs s p f)
        (ap (λ z. in_par z (frames_of p)) (set-set-other i j (branches_of p) (put ps r b) (put qs s c) d))
        ∙ sym (put_in j qs s (put (i ∷ ps) r p) (put_other i j ps r p d ∙ f))
put-put-apart r s p (later {i} {ps} {qs} a) =
    by-option (branch_at i (branches_of p))
    (λ n. ap (put (i ∷ ps) r) (put-out i qs s p n) ∙ put-out i ps r p n ∙ sym (put-out i qs s p n)
    ∙ ap (put (i ∷ qs) s) (sym (put-out i ps r p n)))
    (λ b e. put_in i ps r (put (i ∷ qs) s p) (put-way i qs s p e)
    ∙ rw (put_in i ps r p e, put_in i qs s p e) (ap (λ z. in_par z (frames_of p))
    (set-set-same i (branches_of p) (put ps r (put qs s b)) (put qs s b)
    ∙ ap (λ z. set_branch i z (branches_of p)) (put-put-apart r s b a)
    ∙ sym (set-set-same i (branches_of p) (put qs s (put ps r b)) (put ps r b))))
    ∙ sym (put_in i qs s (put (i ∷ ps) r p) (put-way i ps r p e)))

-- only a PAR has branches
pub par-whole : (i : ℕ) (p : Process) {b : Process} → branch_at i (branches_of p) ≡ some b → in_par (branches_of p) (frames_of p) ≡ p
unfolding branch_at
par-whole i (before s k) e = never (cc)
par-whole i (at_input c x k) e = never (cc)
par-whole i (at_output c v k) e = never (cc)
par-whole i (at_stop k) e = never (cc)
par-whole i (at_alt gs k) e = never (cc)
par-whole i (at_wait t k) e = never (cc)
par-whole i (to_read x k) e = never (cc)
par-whole i (has_read x v k) e = never (cc)
par-whole i (in_par bs k) e = refl
par-whole i finished e = never (cc)

-- a process put where it is
pub put-found : (path : List ℕ) (p : Process) {q : Process} → look path p ≡ some q → put path q p ≡ p
unfolding look put
put-found [] p e = cc
put-found (i ∷ path) p {q} e = elim (look-under i path p e) [
  | under b f g ↦
      put_in i path q p f
      ∙ ap (λ z. in_par z (frames_of p)) (ap (λ z. set_branch i z (branches_of p)) (put-found path b g) ∙ set_found i (branches_of p) f)
      ∙ par-whole i p f
]

-- a process that is in no PAR
pub data Leaf : Process → Type 0 where
  l-before : {s : Stmt} {k : List Frame} → Leaf (before s k)
  l-input : {c x : Site} {k : List Frame} → Leaf (at_input c x k)
  l-output : {c : Site} {v : ℕ} {k : List Frame} → Leaf (at_output c v k)
  l-stop : {k : List Frame} → Leaf (at_stop k)
  l-alt : {gs : Guards} {k : List Frame} → Leaf (at_alt gs k)
  l-wait : {t : ℕ} {k : List Frame} → Leaf (at_wait t k)
  l-to-read : {x : Site} {k : List Frame} → Leaf (to_read x k)
  l-has-read : {x : Site} {v : ℕ} {k : List Frame} → Leaf (has_read x v k)
  l-finished : Leaf finished

-- a leaf has no branches
pub leaf-sole : {p : Process} → Leaf p → branches_of p ≡ no_branch
leaf-sole l-before = refl
leaf-sole l-input = refl
leaf-sole l-output = refl
leaf-sole l-stop = refl
leaf-sole l-alt = refl
leaf-sole l-wait = refl
leaf-sole l-to-read = refl
leaf-sole l-has-read = refl
leaf-sole l-finished = refl

-- a leaf is no PAR
pub leaf-par : {bs : Branches} {k : List Frame} {p : Process} → Leaf p → p ≢ in_par bs k
leaf-par l-before e = never (cc)
leaf-par l-input e = never (cc)
leaf-par l-output e = never (cc)
leaf-par l-stop e = never (cc)
leaf-par l-alt e = never (cc)
leaf-par l-wait e = never (cc)
leaf-par l-to-read e = never (cc)
leaf-par l-has-read e = never (cc)
leaf-par l-finished e = never (cc)

-- every process is a leaf or a PAR
pub data Form (p : Process) : Type 0 where
  leaf : Leaf p → Form p
  par : (bs : Branches) (k : List Frame) → p ≡ in_par bs k → Form p

-- which of the two it is
pub form : (p : Process) → Form p
form (before s k) = leaf l-before
form (at_input c x k) = leaf l-input
form (at_output c v k) = leaf l-output
form (at_stop k) = leaf l-stop
form (at_alt gs k) = leaf l-alt
form (at_wait t k) = leaf l-wait
form (to_read x k) = leaf l-to-read
form (has_read x v k) = leaf l-has-read
form (in_par bs k) = par bs k refl
form finished = leaf l-finished

-- a statement that is entered is a leaf, if what follows is one
mutual
  unfolding enter enter_all

  pub leaf-enter : (s : Stmt) (k : List Frame) {p : Process} → Leaf p → Leaf (enter s k p)
  leaf-enter SKIP k l = l-before
  leaf-enter STOP k l = l-before
  leaf-enter (assign x e) k l = l-before
  leaf-enter (input c x) k l = l-before
  leaf-enter (output c e) k l = l-before
  leaf-enter (VAR q n s) k l = l-before
  leaf-enter (CHAN q n s) k l = l-before
  leaf-enter (SEQ ss) k l = leaf-all ss k l
  leaf-enter (PAR q ss) k l = l-before
  leaf-enter (IF ps) k l = l-before
  leaf-enter (WHILE e s) k l = l-before
  leaf-enter (ALT gs) k l = l-before
  leaf-enter (TIME x) k l = l-to-read
  leaf-enter (WAIT e) k l = l-before

  pub leaf-all : (ss : Stmts) (k : List Frame) {p : Process} → Leaf p → Leaf (enter_all ss k p)
  leaf-all no_stmt k l = l
  leaf-all (stmt s ss) k l = leaf-enter s (in_seq ss ∷ k) (leaf-all ss k l)

-- what follows where a part is over is a leaf
pub leaf-resume : (k : List Frame) → Leaf (resume k)
unfolding resume
leaf-resume [] = l-finished
leaf-resume (in_seq ss ∷ k) = leaf-all ss k (leaf-resume k)
leaf-resume (in_var xs ∷ k) = leaf-resume k
leaf-resume (in_while e s ∷ k) = l-before

-- a process that begins a statement is a leaf
pub leaf-begin : (s : Stmt) (k : List Frame) → Leaf (begin s k)
leaf-begin s k = leaf-enter s k (leaf-resume k)

-- nothing is under a leaf
pub leaf-ends : {q : Process} (i : ℕ) (rest : List ℕ) → Leaf q → look (i ∷ rest) q ≡ none
unfolding branch_at
leaf-ends {q} i rest l = look-out i rest q (ap (branch_at i) (leaf-sole l))

-- so nothing is found under a path that leads to one
pub leaf-below : (path : List ℕ) (i : ℕ) (rest : List ℕ) (p : Process) {q : Process} → look path p ≡ some q → Leaf q
    → look (path ++ i ∷ rest) p ≡ none
leaf-below path i rest p e l = look-append path (i ∷ rest) p e ∙ leaf-ends i rest l

-- how two paths are to each other
pub data Compared (ps qs : List ℕ) : Type 0 where
  equal : ps ≡ qs → Compared ps qs
  below : (i : ℕ) (rest : List ℕ) → qs ≡ ps ++ i ∷ rest → Compared ps qs
  above : (i : ℕ) (rest : List ℕ) → ps ≡ qs ++ i ∷ rest → Compared ps qs
  apart : Apart ps qs → Compared ps qs

-- any two paths compare
pub compare : (ps qs : List ℕ) → Compared ps qs
compare [] [] = equal refl
compare [] (j ∷ qs) = below j qs refl
compare (i ∷ ps) [] = above i ps refl
compare (i ∷ ps) (j ∷ qs) = by (ℕ_discrete i j) (compare ps qs)
  where
    on : Compared ps qs → Compared (i ∷ ps) (i ∷ qs)
    on (equal e) = equal (ap (λ z. i ∷ z) e)
    on (below n rest e) = below n rest (ap (λ z. i ∷ z) e)
    on (above n rest e) = above n rest (ap (λ z. i ∷ z) e)
    on (apart a) = apart (later a)

    by : Dec (i ≡ j) → Compared ps qs → Compared (i ∷ ps) (j ∷ qs)
    by (yes e) c = subst (λ z. Compared (i ∷ ps) (z ∷ qs)) e (on c)
    by (no d) c = apart (here d)

-- two leaves are at the same path or at paths that are apart
pub leaves : (path other : List ℕ) (p : Process) {q r : Process} → look path p ≡ some q → Leaf q → look other p ≡ some r → Leaf r
    → (path ≡ other) ⊎ Apart path other
leaves path other p e l f m = by (compare path other)
  where
    by : Compared path other → (path ≡ other) ⊎ Apart path other
    by (equal g) = inl g
    by (below i rest g) = never (cc (leaf-below path i rest p e l, f, g))
    by (above i rest g) = never (cc (leaf-below other i rest p f m, e, g))
    by (apart a) = inr a

-- so at different paths they are apart
pub leaves-apart : (path other : List ℕ) (p : Process) {q r : Process} → look path p ≡ some q → Leaf q → look other p ≡ some r → Leaf r
    → path ≢ other → Apart path other
leaves-apart path other p e l f m d = ⊎_elim (λ u. absurd (d u)) (λ a. a) (leaves path other p e l f m)

-- two different leaves are apart
pub leaves-differ : (path other : List ℕ) (p : Process) {q r : Process} → look path p ≡ some q → Leaf q → look other p ≡ some r → Leaf r
    → q ≢ r → Apart path other
leaves-differ path other p e l f m d = leaves-apart path other p e l f m (λ u. d (cc (ap (λ z. look z p) u, e, f)))

-- a leaf that is found after a put: in what was put, or aside, where it was
pub data After (path other : List ℕ) (r p t : Process) : Type 0 where
  into : (rest : List ℕ) → other ≡ path ++ rest → look rest r ≡ some t → After path other r p t
  aside : Apart path other → look other p ≡ some t → After path other r p t

-- a leaf that is found after a put is one of these
pub look-after : (path other : List ℕ) (r p : Process) {q t : Process} → look path p ≡ some q → look other (put path r p) ≡ some t → Leaf t
    → After path other r p t
look-after path other r p {q} {t} e f l = by (compare path other)
  where
    -- under the put
    inner : (rest : List ℕ) → other ≡ path ++ rest → After path other r p t
    inner rest g = into rest g (sym (look-put-below path rest r p e) ∙ ap (λ z. look z (put path r p)) (sym g) ∙ f)

    by : Compared path other → After path other r p t
    by (equal g) = inner [] (sym g ∙ sym (append-nil path))
    by (below i rest g) = inner (i ∷ rest) g
    by (above i rest g) =
        never (cc (leaf-below other i rest (put path r p) f l, ap (λ z. look z (put path r p)) g, look-put-same path p r e))
    by (apart a) = aside a (sym (look-put-other r p a) ∙ f)

-- where a leaf was put, it is the one in it
pub leaf-found : (rest : List ℕ) (r : Process) {t : Process} → Leaf r → look rest r ≡ some t → (rest ≡ []) × (r ≡ t)
unfolding look
leaf-found [] r l e = (refl, cc)
leaf-found (i ∷ rest) r l e = never (cc (leaf-ends i rest l, e))

-- a PAR that was started has in each branch the beginning of its statement
pub look-started : (i : ℕ) (ss : Stmts) (k : List Frame) {s : Stmt} → stmt_at i ss ≡ some s
    → look (i ∷ []) (in_par (branches ss) k) ≡ some (begin s [])
look-started i ss k {s} e = look_in i [] (in_par (branches ss) k) (branch-begins i ss e) ∙ look-nil (begin s [])

-- what is found in a PAR that was started
pub started-found : (i : ℕ) (rest : List ℕ) (ss : Stmts) (k : List Frame) {t : Process} → look (i ∷ rest) (in_par (branches ss) k) ≡ some t
    → (rest ≡ []) × Begun i ss t
started-found i rest ss k {t} e =
    elim (look-under i rest (in_par (branches ss) k) e) [
      | under b f g ↦ elim (branch-begun i ss f) [
        | begun s h u ↦
            let v = leaf-found rest b (subst Leaf (sym u) (leaf-begin s [])) g in (v.0, begun s h (sym v.1 ∙ u))
      ]
    ]

-- the end of the last branch lets the PAR go on
pub closed-last : (i : ℕ) (bs : Branches) (k : List Frame) {b : Process} → branch_at i bs ≡ some b → left bs ≡ 1
    → closed (end_branch i bs) k ≡ resume k
closed-last i bs k e z = rw (last-over i bs e z) refl

-- the PAR stays where others are left
pub closed-more : (i : ℕ) (bs : Branches) (k : List Frame) {b : Process} → branch_at i bs ≡ some b → left bs ≢ 1
    → closed (end_branch i bs) k ≡ in_par (end_branch i bs) k
closed-more i bs k e d = rw (more-over i bs e d) refl

-- after a branch's end nothing is found in it
pub look-end-same : (path : List ℕ) (i : ℕ) (rest : List ℕ) (p : Process) {bs : Branches} {k : List Frame} → look path p
    ≡ some (in_par bs k)
    → look (path ++ i ∷ rest) (put path (in_par (end_branch i bs) k) p) ≡ none
look-end-same path i rest p {bs} {k} e =
    look-put-below path (i ∷ rest) (in_par (end_branch i bs) k) p e ∙ look-out i rest (in_par (end_branch i bs) k) (branch-end-same i bs)

-- in the other branches what was there is found
pub look-end-other : (path : List ℕ) (i j : ℕ) (rest : List ℕ) (p : Process) {bs : Branches} {k : List Frame} → i ≢ j
    → look path p ≡ some (in_par bs k) → look (path ++ j ∷ rest) (put path (in_par (end_branch i bs) k) p) ≡ look (path ++ j ∷ rest) p
look-end-other path i j rest p {bs} {k} d e =
    look-put-below path (j ∷ rest) (in_par (end_branch i bs) k) p e
    ∙ look-same j rest (in_par (end_branch i bs) k) (in_par bs k) (branch-end-other i j bs d) ∙ sym (look-append path (j ∷ rest) p e)

-- where the only branch left ends, there is no other one
pub only-left : (i j : ℕ) (bs : Branches) {b : Process} → branch_at i bs ≡ some b → left bs ≡ 1 → i ≢ j → branch_at j bs ≡ none
only-left i j bs e z d =
    is_none (branch_at j bs) (λ c f. cc (last-over i bs e z, other-over i j bs d f))

-- two paths are the same or not
pub same-path : (ps qs : List ℕ) → (ps ≡ qs) ⊎ (ps ≢ qs)
same-path [] [] = inl refl
same-path [] (j ∷ qs) = inr (λ e. never (cc))
same-path (i ∷ ps) [] = inr (λ e. never (cc))
same-path (i ∷ ps) (j ∷ qs) = by (ℕ_discrete i j) (same-path ps qs)
  where
    by : Dec (i ≡ j) → (ps ≡ qs) ⊎ (ps ≢ qs) → (i ∷ ps ≡ j ∷ qs) ⊎ (i ∷ ps ≢ j ∷ qs)
    by (yes e) (inl f) = inl (cc)
    by (yes e) (inr d) = inr (λ f. d (cc))
    by (no d) h = inr (λ f. d (cc))

-- what is equal in `some`, and in a PAR
some-inner : {x y : Process} → ◌≡◌ {A = Option Process} (some x) (some y) → x ≡ y
some-inner e = cc

branches-same : {bs cs : Branches} {k l : List Frame} → in_par bs k ≡ in_par cs l → bs ≡ cs
branches-same e = cc

frames-same : {bs cs : Branches} {k l : List Frame} → in_par bs k ≡ in_par cs l → k ≡ l
frames-same e = cc

-- on the way to a process others are found
pub data Prefixed (path rest : List ℕ) (p q : Process) : Type 0 where
  prefixed : (r : Process) → look path p ≡ some r → look rest r ≡ some q → Prefixed path rest p q

pub look-prefix : (path rest : List ℕ) (p : Process) {q : Process} → look (path ++ rest) p ≡ some q → Prefixed path rest p q
look-prefix [] rest p e = prefixed p (look-nil p) e
look-prefix (i ∷ path) rest p e = elim (look-under i (path ++ rest) p e) [
  | under b f g ↦ elim (look-prefix path rest b g) [ prefixed r h k ↦ prefixed r (look_in i path p f ∙ h) k ]
]

-- the PARs after a leaf was put in the place of another: as many branches are left
pub data SamePar (path : List ℕ) (p : Process) (bs : Branches) (k : List Frame) : Type 0 where
  same-par : (cs : Branches) → look path p ≡ some (in_par cs k) → left cs ≡ left bs → SamePar path p bs k

pub par-above : (path other : List ℕ) (i : ℕ) (rest : List ℕ) (r p : Process) {q : Process} {bs : Branches} {k : List Frame}
    → path ≡ other ++ i ∷ rest
    → look path p ≡ some q → look other (put path r p) ≡ some (in_par bs k) → SamePar other p bs k
par-above path other i rest r p {bs = bs} {k} g e f = elim (look-prefix other (i ∷ rest) p (ap (λ z. look z p) (sym g) ∙ e)) [
  | prefixed z h n ↦ elim (look-under i rest z n) [
    | under b u v ↦
        let whole : z ≡ in_par (branches_of z) (frames_of z) = sym (par-whole i z u) in
        let now : some (put (i ∷ rest) r z) ≡ some (in_par bs k) =
        sym (look-put-same other p (put (i ∷ rest) r z) h) ∙ ap (look other) (sym (put-append other (i ∷ rest) r p h))
        ∙ ap (λ y. look other (put y r p)) (sym g) ∙ f in
        let inner : in_par (set_branch i (put rest r b) (branches_of z)) (frames_of z) ≡ in_par bs k =
        sym (put_in i rest r z u) ∙ some-inner now in
        same-par (branches_of z) (h ∙ ap some (whole ∙ ap (in_par (branches_of z)) (frames-same inner)))
        (sym (left-set i (put rest r b) (branches_of z)) ∙ ap left (branches-same inner))
  ]
]

pub par-after : (path other : List ℕ) (p : Process) {q r : Process} {bs : Branches} {k : List Frame}
    → look path p ≡ some q → Leaf q → Leaf r
    → look other (put path r p) ≡ some (in_par bs k) → SamePar other p bs k
par-after path other p {q} {r} {bs} {k} e l m f = by (compare path other)
  where
    by : Compared path other → SamePar other p bs k
    by (equal g) = absurd (leaf-par {bs = bs} {k = k} m (cc (look-put-same path p r e, f, ap (λ z. look z (put path r p)) g)))
    by (below i rest g) =
        never (cc (look-put-below path (i ∷ rest) r p e, leaf-ends i rest m, f, ap (λ z. look z (put path r p)) g))
    by (apart a) = same-par bs (sym (look-put-other r p a) ∙ f) refl
    by (above i rest g) = par-above path other i rest r p g e f

-- the live variables of a process that begins a statement, or goes on, are among those of what is around it
mutual
  unfolding enter enter_all

  live-enter : (s : Stmt) (k : List Frame) (p : Process) (l : List Site) → ((x : Site) → Memᴰ x (live_in k) → Memᴰ x l)
      → ((x : Site) → Memᴰ x (live_in (frames_of p)) → Memᴰ x l) → (x : Site) → Memᴰ x (live_in (frames_of (enter s k p)))
      → Memᴰ x l
  live-enter SKIP k p l h g = h
  live-enter STOP k p l h g = h
  live-enter (assign x e) k p l h g = h
  live-enter (input c x) k p l h g = h
  live-enter (output c e) k p l h g = h
  live-enter (VAR q n s) k p l h g = h
  live-enter (CHAN q n s) k p l h g = h
  live-enter (SEQ ss) k p l h g = live_all ss k p l h g
  live-enter (PAR q ss) k p l h g = h
  live-enter (IF ps) k p l h g = h
  live-enter (WHILE e s) k p l h g = h
  live-enter (ALT gs) k p l h g = h
  live-enter (TIME x) k p l h g = h
  live-enter (WAIT e) k p l h g = h

  live_all : (ss : Stmts) (k : List Frame) (p : Process) (l : List Site) → ((x : Site) → Memᴰ x (live_in k) → Memᴰ x l)
      → ((x : Site) → Memᴰ x (live_in (frames_of p)) → Memᴰ x l) → (x : Site) → Memᴰ x (live_in (frames_of (enter_all ss k p)))
      → Memᴰ x l
  live_all no_stmt k p l h g = g
  live_all (stmt s ss) k p l h g = live-enter s (in_seq ss ∷ k) (enter_all ss k p) l h (live_all ss k p l h g)

pub live-resume : (k : List Frame) (l : List Site) → ((x : Site) → Memᴰ x (live_in k) → Memᴰ x l) → (x : Site)
    → Memᴰ x (live_in (frames_of (resume k))) → Memᴰ x l
unfolding resume
live-resume [] l h = h
live-resume (in_seq ss ∷ k) l h = live_all ss k (resume k) l h (live-resume k l h)
live-resume (in_var xs ∷ k) l h = live-resume k l (λ x m. h x (Memᴰ.append_right xs m))
live-resume (in_while e s ∷ k) l h = h

pub live-begin : (s : Stmt) (k : List Frame) (l : List Site) → ((x : Site) → Memᴰ x (live_in k) → Memᴰ x l) → (x : Site)
    → Memᴰ x (live_in (frames_of (begin s k))) → Memᴰ x l
live-begin s k l h = live-enter s k (resume k) l h (live-resume k l h)

-- such a process begins a statement, is about to read the clock, or has finished
pub data Entering : Process → Type 0 where
  en-before : {s : Stmt} {k : List Frame} → Entering (before s k)
  en-read : {x : Site} {k : List Frame} → Entering (to_read x k)
  en-finished : Entering finished

mutual
  unfolding enter enter_all

  enters : (s : Stmt) (k : List Frame) {p : Process} → Entering p → Entering (enter s k p)
  enters SKIP k e = en-before
  enters STOP k e = en-before
  enters (assign x y) k e = en-before
  enters (input d x) k e = en-before
  enters (output d y) k e = en-before
  enters (VAR q m s) k e = en-before
  enters (CHAN q m s) k e = en-before
  enters (SEQ ss) k e = enters-all ss k e
  enters (PAR q ss) k e = en-before
  enters (IF ps) k e = en-before
  enters (WHILE y s) k e = en-before
  enters (ALT gs) k e = en-before
  enters (TIME x) k e = en-read
  enters (WAIT x) k e = en-before

  enters-all : (ss : Stmts) (k : List Frame) {p : Process} → Entering p → Entering (enter_all ss k p)
  enters-all no_stmt k e = e
  enters-all (stmt s ss) k e = enters s (in_seq ss ∷ k) (enters-all ss k e)

resumes : (k : List Frame) → Entering (resume k)
unfolding resume
resumes [] = en-finished
resumes (in_seq ss ∷ k) = enters-all ss k (resumes k)
resumes (in_var xs ∷ k) = resumes k
resumes (in_while x s ∷ k) = en-before

-- so it is at no output
entering-silent : {p : Process} {c : Site} {v : ℕ} {f : List Frame} → Entering p → p ≢ at_output c v f
entering-silent en-before e = never (cc)
entering-silent en-read e = never (cc)
entering-silent en-finished e = never (cc)

pub silent-resume : (k : List Frame) {c : Site} {v : ℕ} {f : List Frame} → resume k ≢ at_output c v f
silent-resume k e = entering-silent (resumes k) e

pub silent-begin : (s : Stmt) (k : List Frame) {c : Site} {v : ℕ} {f : List Frame} → begin s k ≢ at_output c v f
silent-begin s k e = entering-silent (enters s k (resumes k)) e

-- a process that does not wait for the clock
abbrev pub Awake : Process → Type 0
Awake q = (t : ℕ) (k : List Frame) → q ≢ at_wait t k

-- a process that has come to an ALT with a time guard
abbrev pub is_alt : Process → Bool
is_alt (at_alt gs k) = timed gs
is_alt (before s k) = false
is_alt (at_input c x k) = false
is_alt (at_output c v k) = false
is_alt (at_stop k) = false
is_alt (at_wait t k) = false
is_alt (to_read x k) = false
is_alt (has_read x v k) = false
is_alt (in_par bs k) = false
is_alt finished = false

entering-off : {p : Process} → Entering p → is_alt p ≡ false
entering-off en-before = refl
entering-off en-read = refl
entering-off en-finished = refl

pub off-resume : (k : List Frame) → is_alt (resume k) ≡ false
off-resume k = entering-off (resumes k)

pub off-begin : (s : Stmt) (k : List Frame) → is_alt (begin s k) ≡ false
off-begin s k = entering-off (enters s k (resumes k))
