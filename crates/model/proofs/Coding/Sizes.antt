-- The code of a statement has as many instructions as `size` says.
use Prim.Native.Nat.{ℕ, zero, suc, ◌+◌, ◌-◌, ◌*◌}
use native.Mathlib.Omega.{arith}
use mathlib.Core.Path.{◌≡◌, refl}
use mathlib.Core.List.{List}
use lib.ListN.{length, length-append}
use Rattle.model.specs.Syntax.{Site, Expr, constant, variable, NOT, binary, Stmt, SKIP, STOP, assign, input, output, VAR, CHAN, SEQ}
use Rattle.model.specs.Syntax.{PAR, IF, WHILE, ALT, Stmts, no_stmt, stmt, Pairs, no_pair, pair, Guard, input_guard, skip_guard, Guards}
use Rattle.model.specs.Syntax.{time_guard, no_guard, guard, TIME, WAIT}
use Rattle.model.specs.declared.kinds.Operator.{Operator}
use Rattle.model.specs.declared.kinds.Operator.TheVariants.{Plus as PLUS, Minus as MINUS, Times as TIMES, Gt as GT, Eq as EQ}
use Rattle.model.specs.declared.kinds.Operator.TheVariants.{And as AND, Or as OR, Xor as XOR}
use Rattle.model.specs.Counts.{order, temporaries, need, both_hold}
use Rattle.model.specs.declared.kinds.Order.{Order}
use Rattle.model.specs.declared.kinds.Order.TheVariants.{LeftFirst, RightFirst, RightStored}
use Rattle.model.specs.Instruction.{Instruction}
use Rattle.model.specs.Scheme.{operator_code, operator_size, initialise, sides_code, sides_size, expr_size, wrapped, wrap_size, whole_size}
use Rattle.model.specs.Scheme.{alt_words, how_many, size, size_all, size_par, size_ends, size_pairs, size_enable, size_disable}
use Rattle.model.specs.Scheme.{size_branches}
use Rattle.model.specs.Scheme.{expr_code, whole_code, guard_code, code, code_all, code_par, code_starts, code_ends, code_pairs, code_enable}
use Rattle.model.specs.Scheme.{code_disable, code_branches, enable_size, disable_size, input_size, enable_code, disable_code, guard_input}
use Rattle.model.specs.Scheme.{both_size, both_code}

pub operator-length : (op : Operator) → length (operator_code op) ≡ operator_size op
unfolding operator_code operator_size
operator-length PLUS = refl
operator-length MINUS = refl
operator-length TIMES = refl
operator-length GT = refl
operator-length EQ = refl
operator-length AND = refl
operator-length OR = refl
operator-length XOR = refl

pub initialise-length : (first : Instruction) (n : ℕ) → length (initialise first n) ≡ n + n
unfolding initialise
initialise-length first zero = refl
initialise-length first (suc n) = simp (length-append, initialise-length first n) (omega arith)

-- two sides, each of its own length
pub sides-length : (o : Order) (h : ℕ) (left : ℕ → List Instruction) (right : List Instruction) {l r : ℕ}
    → ((k : ℕ) → length (left k) ≡ l) → length right ≡ r → length (sides_code o h left right) ≡ sides_size o l r
unfolding sides_code sides_size
sides-length LeftFirst h left right el er = omega (arith, length-append (left h) right, el h)
sides-length RightFirst h left right el er = simp (length-append, el h, er) (omega arith)
sides-length RightStored h left right el er = simp (length-append, el (suc h), er) (omega arith)

pub wrapped-length : (t more w : ℕ) (code : ℕ → List Instruction) {n : ℕ} → ((v : ℕ) → length (code v) ≡ n)
    → length (wrapped t more w code) ≡ n + wrap_size t
unfolding wrapped wrap_size
wrapped-length zero more w code e = omega (arith, e w)
wrapped-length (suc t) more w code e = simp (length-append, e (w - (suc t + more))) (omega arith)

module _ (word : Site → ℕ) where
  pub expr-length : (w h : ℕ) (e : Expr) → length (expr_code word w h e) ≡ expr_size e
  unfolding expr_code expr_size
  expr-length w h (constant n) = refl
  expr-length w h (variable x) = refl
  expr-length w h (NOT e) = simp (length-append, expr-length w h e)
  expr-length w h (binary op l r) =
      simp (
        length-append,
        sides-length (order l r) h (λ k. expr_code word w k l) (expr_code word w h r) (λ k. expr-length w k l) (expr-length w h r),
        operator-length op,
      )

  pub whole_length : (w : ℕ) (e : Expr) → length (whole_code word w e) ≡ whole_size e
  unfolding whole_size
  whole_length w e = wrapped-length (temporaries e) 0 w (λ v. expr_code word v 0 e) (λ v. expr-length v 0 e)

  pub guard-length : (w : ℕ) (e : Expr) → length (guard_code word w e) ≡ whole_size e
  unfolding whole_size
  guard-length w e = wrapped-length (temporaries e) alt_words w (λ v. expr_code word v 0 e) (λ v. expr-length v 0 e)

  -- a time guard's time and condition
  pub both-length : (w : ℕ) (t e : Expr) → length (both_code word w t e) ≡ both_size t e
  unfolding both_size
  both-length w t e =
      wrapped-length (both_hold t e) alt_words w (λ v. sides_code (order t e) 0 (λ k. expr_code word v k t) (expr_code word v 0 e))
      (λ v.
      sides-length (order t e) 0 (λ k. expr_code word v k t) (expr_code word v 0 e) (λ k. expr-length v k t) (expr-length v 0 e))

  pub starts-length : (d i b : ℕ) (ss : Stmts) → length (code_starts word d i b ss) ≡ 3 * how_many ss
  unfolding code_starts how_many
  starts-length d i b no_stmt = refl
  starts-length d i b (stmt s ss) = omega (arith, starts-length (d + need s) (i + 3) (b + size s + 2) ss)

  enable-one : (w : ℕ) (g : Guard) → length (enable_code word w g) ≡ enable_size g
  unfolding enable_code enable_size
  enable-one w (input_guard e c x) = simp (length-append, guard-length w e)
  enable-one w (skip_guard e) = simp (length-append, guard-length w e)
  enable-one w (time_guard e t) = simp (length-append, both-length w t e)

  disable-one : (w choice b : ℕ) (g : Guard) → length (disable_code word w choice b g) ≡ disable_size g
  unfolding disable_code disable_size
  disable-one w choice b (input_guard e c x) = simp (length-append, guard-length w e)
  disable-one w choice b (skip_guard e) = simp (length-append, guard-length w e)
  disable-one w choice b (time_guard e t) = simp (length-append, both-length w t e)

  pub input-length : (w : ℕ) (g : Guard) → length (guard_input word w g) ≡ input_size g
  unfolding guard_input input_size
  input-length w (input_guard e c x) = refl
  input-length w (skip_guard e) = refl
  input-length w (time_guard e t) = refl

  pub enable-length : (w : ℕ) (gs : Guards) → length (code_enable word w gs) ≡ size_enable gs
  unfolding code_enable size_enable
  enable-length w no_guard = refl
  enable-length w (guard g s gs) = simp (length-append, enable-one w g, enable-length w gs)

  pub disable-length : (w choice b : ℕ) (gs : Guards) → length (code_disable word w choice b gs) ≡ size_disable gs
  unfolding code_disable size_disable
  disable-length w choice b no_guard = refl
  disable-length w choice b (guard g s gs) =
      simp (length-append, disable-one w choice b g, disable-length w choice (b + 1 + input_size g + size s + 1) gs)

  mutual
    unfolding code size

    pub code-length : (w i : ℕ) (s : Stmt) → length (code word w i s) ≡ size s
    code-length w i SKIP = refl
    code-length w i STOP = refl
    code-length w i (assign x e) = simp (length-append, whole_length w e)
    code-length w i (input c x) = refl
    code-length w i (TIME x) = refl
    code-length w i (WAIT e) = simp (length-append, whole_length w e)
    code-length w i (output c e) = simp (length-append, whole_length w e)
    code-length w i (VAR p n s) =
        simp (length-append, initialise-length, code-length (w - n) (i + 1 + (n + n)) s) (omega arith)
    code-length w i (CHAN p n s) =
        simp (length-append, initialise-length, code-length (w - n) (i + 1 + (n + n)) s) (omega arith)
    code-length w i (SEQ ss) = all-length w i ss
    code-length w i (PAR p ss) = par-length w i ss
    code-length w i (IF ps) = pairs-length w i _ ps
    code-length w i (WHILE e s) =
        simp (length-append, whole_length w e, code-length w (i + whole_size e + 1) s) (omega arith)
    code-length w i (ALT gs) =
        let choice = i + 2 + size_enable gs + 1 + size_disable gs in
        let disable = disable-length (w - 1) choice (choice + 1) gs in
        let branches = branches-length w (choice + 1) (choice + 1 + size_branches gs) gs in
        simp (length-append, enable-length (w - 1) gs, disable, branches) (omega arith)

    pub all-length : (w i : ℕ) (ss : Stmts) → length (code_all word w i ss) ≡ size_all ss
    all-length w i no_stmt = refl
    all-length w i (stmt s ss) = simp (length-append, code-length w i s, all-length w (i + size s) ss)

    pub par-length : (w i : ℕ) (ss : Stmts) → length (code_par word w i ss) ≡ size_par ss
    par-length w i no_stmt = refl
    par-length w i (stmt s ss) =
        let first = i + 6 + 3 * how_many ss in
        let starts = starts-length (need s) (i + 6) (first + size s + 2) ss in
        let ends = ends-length (w - 2) (need s) (first + size s + 2) ss in
        simp (length-append, starts, code-length (w - 2) first s, ends) (omega arith)

    pub ends-length : (w d i : ℕ) (ss : Stmts) → length (code_ends word w d i ss) ≡ size_ends ss
    ends-length w d i no_stmt = refl
    ends-length w d i (stmt s ss) =
        simp (length-append, code-length (w - d) i s, ends-length w (d + need s) (i + size s + 2) ss) (omega arith)

    pub pairs-length : (w i over : ℕ) (ps : Pairs) → length (code_pairs word w i over ps) ≡ size_pairs ps
    pairs-length w i over no_pair = refl
    pairs-length w i over (pair e s ps) =
        let test = i + whole_size e in
        simp (length-append, whole_length w e, code-length w (test + 1) s, pairs-length w (test + 1 + size s + 1) over ps) (omega arith)

    pub branches-length : (w i over : ℕ) (gs : Guards) → length (code_branches word w i over gs) ≡ size_branches gs
    branches-length w i over no_guard = refl
    branches-length w i over (guard g s gs) =
        simp (
          length-append,
          input-length w g,
          code-length w (i + 1 + input_size g) s,
          branches-length w (i + 1 + input_size g + size s + 1) over gs,
        )
        (omega arith)
