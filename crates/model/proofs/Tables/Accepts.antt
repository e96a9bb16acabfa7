-- What accepting and compiling a table gives: a program that was read, and that passed every check.
use Prim.Native.Nat.{ℕ, ◌≤◌}
use mathlib.Core.Path.{◌≡◌, refl}
use mathlib.Core.Bool.{false}
use mathlib.Core.List.{List}
use mathlib.Core.Option.{Option, none, some}
use lib.ListN.{length}
use lib.Dec.{leb}
use borrow.Author.Tests.{leb-true}
use Rattle.model.specs.Limits.{code_limit, word_limit}
use Rattle.model.specs.Syntax.{PAR, Stmts, Program}
use Rattle.model.specs.Reader.{Read, program, refused, read_table}
use Rattle.model.specs.declared.Reason.{Reason}
use Rattle.model.specs.Usage.{or_else, any_clash, first_clash, first_clash_all}
use Rattle.model.specs.Counts.{processes}
use Rattle.model.specs.Accept.{limit, checks, accept, memory_words}
use Rattle.model.specs.Code.{code_of, compiled, fitting, compile}
use Rattle.model.proofs.Cases.{by_bool, never, is_true_lem, is_none}

-- refusals 7 and 9 pass
abbrev pub Passed : Program → Type 0
Passed p = (first_clash p.body ≡ none) × (processes p.body ≤ limit)

by_read : {R : Type 0} (r : Read) → ((why : Reason) (at : ℕ) → r ≡ refused why at → R) → ((p : Program) → r ≡ program p → R) → R
by_read (refused why at) f g = f why at refl
by_read (program p) f g = g p refl

checked : (q p : Program) → checks q ≡ program p → (q ≡ p) × Passed q
unfolding checks
checked q p h =
    let e₁ = is_none (first_clash q.body) (λ at f. cc (rw f at h)) in
    let e₂ = is_true_lem (leb (processes q.body) limit) (λ f. cc (rw (e₁, f) at h)) in
    (cc (rw (e₁, e₂) at h), (e₁, leb-true (processes q.body) limit e₂))

accepted : (table : List ℕ) (p : Program) → accept table ≡ program p → (read_table table ≡ program p) × Passed p
unfolding accept
accepted table p h =
    by_read (read_table table) (λ n at f. never (cc (rw f at h))) λ q e.
    let (same, passed) = checked q p (rw e at h) in
    rw (← same) (e, passed)

-- an accepted program is the one that was read
pub accept-reads : (table : List ℕ) (p : Program) → accept table ≡ program p → read_table table ≡ program p
accept-reads table p h = (accepted table p h).0

-- no branches clash, and no more processes than the limit are live together
pub accept-passed : (table : List ℕ) (p : Program) → accept table ≡ program p → Passed p
accept-passed table p h = (accepted table p h).1

-- compiled code is the scheme's code of the accepted program, and both are within their bounds
pub compile-accepts : (table : List ℕ) (room : ℕ) (p : Program) (code : List ℕ) → compile table room ≡ compiled p code
    → (accept table ≡ program p) × (code ≡ code_of p) × (memory_words p ≤ word_limit) × (length code ≤ code_limit) × (length code ≤ room)
unfolding compile fitting
compile-accepts table room p code h =
    by_read (accept table) (λ n at f. never (cc (rw f at h))) λ q e.
    let e₁ = is_true_lem (leb (memory_words q) word_limit) (λ f. cc (rw (e, f) at h)) in
    let e₂ = is_true_lem (leb (length (code_of q)) code_limit) (λ f. cc (rw (e, e₁, f) at h)) in
    let e₃ = is_true_lem (leb (length (code_of q)) room) (λ f. cc (rw (e, e₁, e₂, f) at h)) in
    let all : compiled q (code_of q) ≡ compiled p code = rw (e, e₁, e₂, e₃) at h in
    let same : q ≡ p = cc in
    let same_code : code_of q ≡ code = cc in (
      cc,
      cc,
      rw same at (leb-true (memory_words q) word_limit e₁),
      rw same_code at (leb-true (length (code_of q)) code_limit e₂),
      rw same_code at (leb-true (length (code_of q)) room e₃),
    )

-- a walk down `first_clash`
pub or_else-none : (a b : Option ℕ) → or_else a b ≡ none → (a ≡ none) × (b ≡ none)
or_else-none none b e = (refl, e)
or_else-none (some p) b e = never cc

pub clash-par : (p : ℕ) (ss : Stmts) → first_clash (PAR p ss) ≡ none → (any_clash ss ≡ false) × (first_clash_all ss ≡ none)
unfolding first_clash
clash-par p ss h = by_bool (any_clash ss) (λ e. never (cc (rw e at h))) (λ e. (e, rw e at h))
