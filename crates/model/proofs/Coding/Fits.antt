-- The operands of a well-formed program's scheme are words, and its distances stay inside the scheme.
use Prim.Native.Nat.{ℕ, zero, suc, ◌+◌, ◌-◌, ◌*◌, ◌^◌, ◌≤◌, ◌<◌}
use native.Mathlib.Omega.{arith}
use mathlib.Core.Path.{◌≡◌}
use mathlib.Core.List.{List, ◌∷◌, ◌++◌}
use mathlib.Core.Option.{some}
use lib.ListN.{length, get_elem?}
use Rattle.model.specs.Limits.{word_limit, branch_limit}
use Rattle.model.specs.Syntax.{Site, Expr, constant, variable, NOT, binary, Stmt, SKIP, STOP, assign, input, output, VAR, CHAN, SEQ}
use Rattle.model.specs.Syntax.{PAR, IF, WHILE, ALT, Stmts, no_stmt, stmt, Pairs, no_pair, pair, Guard, input_guard, skip_guard, time_guard}
use Rattle.model.specs.Syntax.{Guards, no_guard, guard, timed, Program, TIME, WAIT}
use Rattle.model.specs.declared.kinds.Operator.{Operator}
use Rattle.model.specs.declared.kinds.Operator.TheVariants.{Plus as PLUS, Minus as MINUS, Times as TIMES, Gt as GT, Eq as EQ}
use Rattle.model.specs.declared.kinds.Operator.TheVariants.{And as AND, Or as OR, Xor as XOR}
use Rattle.model.specs.Reader.{Scope, with_variables, with_channels}
use Rattle.model.specs.Counts.{order, sides_hold, temporaries, both_hold, guard_words, guard_asks, need, most_need, sum_need, pair_need}
use Rattle.model.specs.Counts.{guard_need}
use Rattle.model.specs.declared.kinds.Order.{Order}
use Rattle.model.specs.declared.kinds.Order.TheVariants.{LeftFirst, RightFirst, RightStored}
use Rattle.model.specs.Instruction.{operation_code, Instruction, plain, operation, ldc, mint, alt, altwt, talt, taltwt}
use Rattle.model.specs.Layout.{base, word_of}
use Rattle.model.specs.Code.{Fits, AllFit, nil-fits, cons-fits}
use Rattle.model.specs.Scheme.{operator_code, initialise, sides_code, wrapped, alt_words, whole_size, how_many, size, size_all, size_par}
use Rattle.model.specs.Scheme.{size_ends, size_pairs, size_enable, input_size, enable_code, disable_code, guard_input, size_disable}
use Rattle.model.specs.Scheme.{size_branches, expr_code, whole_code, guard_code, code, code_all, code_par, code_starts, code_ends}
use Rattle.model.specs.Scheme.{code_pairs}
use Rattle.model.specs.Scheme.{both_code, code_enable, code_disable, code_branches, scheme}
use Rattle.model.proofs.Cases.{of-cond}
use Rattle.model.proofs.Tables.WellFormed.{WellExpr, Well, WellAll, WellPairs, WellGuard, WellGuards, WellProgram, outermost}
use Rattle.model.proofs.Coding.Sizes.{code-length}

pub fits-at : {count : ℕ} {xs : List Instruction} (i : ℕ) (x : Instruction) → AllFit count xs → get_elem? xs i ≡ some x → Fits count x
fits-at i x nil-fits e = absurd (let z : ◌≡◌ {A = ℕ} 0 1 = cc in omega arith)
fits-at {count} zero x (cons-fits {x = y} h a) e = let q : y ≡ x = cc in rw q at h
fits-at (suc i) x (cons-fits h a) e = fits-at i x a e

infixr 40 ◌▸◌
◌▸◌ : {count : ℕ} {x : Instruction} {xs : List Instruction} → Fits count x → AllFit count xs → AllFit count (x ∷ xs)
h ▸ a = cons-fits h a

infixl 35 ◌⊕◌
◌⊕◌ : {count : ℕ} {xs ys : List Instruction} → AllFit count xs → AllFit count ys → AllFit count (xs ++ ys)
nil-fits ⊕ b = b
cons-fits h a ⊕ b = cons-fits h (a ⊕ b)

module _ (count : ℕ) where
  operator-fits : (op : Operator) → AllFit count (operator_code op)
  unfolding operator_code operation_code
  operator-fits PLUS = omega arith ▸ nil-fits
  operator-fits MINUS = omega arith ▸ nil-fits
  operator-fits TIMES = omega arith ▸ nil-fits
  operator-fits GT = omega arith ▸ nil-fits
  operator-fits EQ = omega arith ▸ omega arith ▸ nil-fits
  operator-fits AND = omega arith ▸ nil-fits
  operator-fits OR = omega arith ▸ nil-fits
  operator-fits XOR = omega arith ▸ nil-fits

  initialise-fits : (first : Instruction) (n : ℕ) → Fits count first → n < 2 ^ 32 → AllFit count (initialise first n)
  unfolding initialise
  initialise-fits first zero f h = nil-fits
  initialise-fits first (suc n) f h = initialise-fits first n f (omega arith) ⊕ f ▸ omega arith ▸ nil-fits

  -- two sides, where so many values are held before them
  sides-fit : (o : Order) (h a b : ℕ) (left : ℕ → List Instruction) (right : List Instruction) → h + sides_hold o a b ≤ word_limit
      → ((k : ℕ) → k + a ≤ word_limit → AllFit count (left k)) → (h + b ≤ word_limit → AllFit count right)
      → AllFit count (sides_code o h left right)
  unfolding sides_code sides_hold operation_code
  sides-fit LeftFirst h a b left right few l r = l h (omega arith) ⊕ r (omega arith)
  sides-fit RightFirst h a b left right few l r = r (omega arith) ⊕ l h (omega arith) ⊕ omega arith ▸ nil-fits
  sides-fit RightStored h a b left right few l r = r (omega arith) ⊕ omega arith ▸ l (suc h) (omega arith) ⊕ omega arith ▸ nil-fits

  wrapped-fits : (t more w : ℕ) (code : ℕ → List Instruction) → t ≤ word_limit → more ≤ word_limit → ((v : ℕ) → AllFit count (code v))
      → AllFit count (wrapped t more w code)
  unfolding wrapped
  wrapped-fits zero more w code few small f = f w
  wrapped-fits (suc t) more w code few small f = omega arith ▸ f (w - (suc t + more)) ⊕ omega arith ▸ nil-fits

-- the stored values of a guard's condition are fewer than the words that it asks for
held-few : (t : ℕ) → t ≤ guard_words t
unfolding guard_words
held-few zero = omega arith
held-few (suc t) = omega arith

module _ (word : Site → ℕ) (count : ℕ) where
  expr-fits : (sc : Scope) (w h : ℕ) (e : Expr) → WellExpr sc e → h + temporaries e ≤ word_limit → AllFit count (expr_code word w h e)
  unfolding expr_code temporaries
  expr-fits sc w h (constant n) f few = f ▸ nil-fits
  expr-fits sc w h (variable x) f few = omega arith ▸ nil-fits
  expr-fits sc w h (NOT e) f few = expr-fits sc w h e f few ⊕ omega arith ▸ nil-fits
  expr-fits sc w h (binary op l r) f few =
      sides-fit count (order l r) h (temporaries l) (temporaries r) (λ k. expr_code word w k l) (expr_code word w h r) few
      (λ k. expr-fits sc w k l f.0) (expr-fits sc w h r f.1)
      ⊕ operator-fits count op

  whole-fits : (sc : Scope) (w : ℕ) (e : Expr) → WellExpr sc e → temporaries e ≤ word_limit → AllFit count (whole_code word w e)
  whole-fits sc w e f few =
      wrapped-fits count (temporaries e) 0 w (λ v. expr_code word v 0 e) few (omega arith) (λ v. expr-fits sc v 0 e f (omega arith))

  guard-fits : (sc : Scope) (w : ℕ) (e : Expr) → WellExpr sc e → guard_words (temporaries e) ≤ word_limit
      → AllFit count (guard_code word w e)
  guard-fits sc w e f few =
      let held : temporaries e ≤ word_limit = omega (arith, held-few (temporaries e)) in
      wrapped-fits count (temporaries e) alt_words w (λ v. expr_code word v 0 e) held (omega arith)
      (λ v. expr-fits sc v 0 e f (omega arith))

  both-fits : (sc : Scope) (w : ℕ) (t e : Expr) → WellExpr sc t → WellExpr sc e → guard_words (both_hold t e) ≤ word_limit
      → AllFit count (both_code word w t e)
  both-fits sc w t e ft fe few =
      let held : both_hold t e ≤ word_limit = omega (arith, held-few (both_hold t e)) in
      wrapped-fits count (both_hold t e) alt_words w (λ v. sides_code (order t e) 0 (λ k. expr_code word v k t) (expr_code word v 0 e)) held
      (omega arith)
      (λ v.
      sides-fit count (order t e) 0 (temporaries t) (temporaries e) (λ k. expr_code word v k t) (expr_code word v 0 e) (omega arith)
      (λ k. expr-fits sc v k t ft) (expr-fits sc v 0 e fe))

  starts_fit : (d i b : ℕ) (ss : Stmts) → i + 3 * how_many ss ≤ count → b + size_ends ss ≤ count → AllFit count (code_starts word d i b ss)
  unfolding code_starts how_many size_ends operation_code
  starts_fit d i b no_stmt hi hb = nil-fits
  starts_fit d i b (stmt s ss) hi hb =
      omega arith ▸ omega arith ▸ omega arith ▸ starts_fit (d + need s) (i + 3) (b + size s + 2) ss (omega arith) (omega arith)

  -- a guard's enabling, its disabling, and its branch's input
  enable-one : (sc : Scope) (w : ℕ) (g : Guard) → WellGuard sc g → guard_asks g ≤ word_limit → AllFit count (enable_code word w g)
  unfolding enable_code operation_code guard_asks
  enable-one sc w (input_guard e c x) h few = guard-fits sc w e h.0 few ⊕ omega arith ▸ omega arith ▸ omega arith ▸ nil-fits
  enable-one sc w (skip_guard e) h few = guard-fits sc w e h few ⊕ omega arith ▸ nil-fits
  enable-one sc w (time_guard e t) h few = both-fits sc w t e h.1 h.0 (omega arith) ⊕ omega arith ▸ nil-fits

  disable-one : (sc : Scope) (w choice b : ℕ) (g : Guard) → WellGuard sc g → guard_asks g ≤ word_limit
      → choice < count → b ≤ count → AllFit count (disable_code word w choice b g)
  unfolding disable_code operation_code guard_asks
  disable-one sc w choice b (input_guard e c x) h few hc hb =
      guard-fits sc w e h.0 few ⊕ omega arith ▸ omega arith ▸ omega arith ▸ omega arith ▸ nil-fits
  disable-one sc w choice b (skip_guard e) h few hc hb = guard-fits sc w e h few ⊕ omega arith ▸ omega arith ▸ nil-fits
  disable-one sc w choice b (time_guard e t) h few hc hb =
      both-fits sc w t e h.1 h.0 (omega arith) ⊕ omega arith ▸ omega arith ▸ nil-fits

  input-fits : (w : ℕ) (g : Guard) → AllFit count (guard_input word w g)
  unfolding guard_input operation_code
  input-fits w (input_guard e c x) = omega arith ▸ omega arith ▸ omega arith ▸ omega arith ▸ nil-fits
  input-fits w (skip_guard e) = nil-fits
  input-fits w (time_guard e t) = nil-fits

  enable-fits : (sc : Scope) (w : ℕ) (gs : Guards) → WellGuards sc gs → guard_need gs ≤ word_limit → AllFit count (code_enable word w gs)
  unfolding code_enable guard_need
  enable-fits sc w no_guard h hn = nil-fits
  enable-fits sc w (guard g s gs) h hn = enable-one sc w g h.0 (omega arith) ⊕ enable-fits sc w gs h.2 (omega arith)

  disable-fits : (sc : Scope) (w choice b : ℕ) (gs : Guards) → WellGuards sc gs → guard_need gs ≤ word_limit → choice < count
      → b + size_branches gs ≤ count
      → AllFit count (code_disable word w choice b gs)
  unfolding code_disable size_branches guard_need
  disable-fits sc w choice b no_guard h hn hc hb = nil-fits
  disable-fits sc w choice b (guard g s gs) h hn hc hb =
      disable-one sc w choice b g h.0 (omega arith) hc (omega arith)
      ⊕ disable-fits sc w choice (b + 1 + input_size g + size s + 1) gs h.2 (omega arith) hc (omega arith)

  -- what stands from index i is within i + size, and the words below the workspace pointer are at most 4,096
  mutual
    unfolding code size need how_many operation_code

    pub code_fits : (sc : Scope) (w i : ℕ) (s : Stmt) → Well sc s → need s ≤ word_limit → i + size s ≤ count
        → AllFit count (code word w i s)
    code_fits sc w i SKIP h hn hi = nil-fits
    code_fits sc w i STOP h hn hi = omega arith ▸ nil-fits
    code_fits sc w i (assign x e) h hn hi = whole-fits sc w e h.1 (omega arith) ⊕ omega arith ▸ nil-fits
    code_fits sc w i (input c x) h hn hi = omega arith ▸ omega arith ▸ omega arith ▸ omega arith ▸ nil-fits
    code_fits sc w i (TIME x) h hn hi = omega arith ▸ omega arith ▸ nil-fits
    code_fits sc w i (WAIT e) h hn hi = whole-fits sc w e h (omega arith) ⊕ omega arith ▸ nil-fits
    code_fits sc w i (output c e) h hn hi =
        whole-fits sc w e h.1 (omega arith) ⊕ omega arith ▸ omega arith ▸ omega arith ▸ omega arith ▸ omega arith ▸ nil-fits
    code_fits sc w i (VAR p n s) h hn hi =
        omega arith ▸ initialise-fits count (plain ldc 0) n (omega arith) (omega arith)
        ⊕ code_fits (with_variables p n sc) (w - n) (i + 1 + (n + n)) s h.2 (omega arith) (omega arith)
        ⊕ omega arith ▸ nil-fits
    code_fits sc w i (CHAN p n s) h hn hi =
        omega arith ▸ initialise-fits count (operation mint) n (omega arith) (omega arith)
        ⊕ code_fits (with_channels p n sc) (w - n) (i + 1 + (n + n)) s h.2 (omega arith) (omega arith)
        ⊕ omega arith ▸ nil-fits
    code_fits sc w i (SEQ ss) h hn hi = all_fit sc w i ss h (omega arith) hi
    code_fits sc w i (PAR p ss) h hn hi = par-fits sc w i ss h.0 h.1 (omega arith) hi
    code_fits sc w i (IF ps) h hn hi = pairs-fit sc w i (i + size_pairs ps) ps h (omega arith) (omega arith) hi
    code_fits sc w i (WHILE e s) h hn hi =
        whole-fits sc w e h.0 (omega arith)
        ⊕ omega arith ▸ code_fits sc w (i + whole_size e + 1) s h.1 (omega arith) (omega arith)
        ⊕ omega arith ▸ nil-fits
    code_fits sc w i (ALT gs) h hn hi =
        let choice = i + 2 + size_enable gs + 1 + size_disable gs in
        omega arith
        ▸ of-cond (λ o. Fits count (operation o)) (timed gs) {x = talt} {y = alt} (omega arith) (omega arith)
        ▸ enable-fits sc (w - 1) gs h (omega arith)
        ⊕ of-cond (λ o. Fits count (operation o)) (timed gs) {x = taltwt} {y = altwt} (omega arith) (omega arith)
        ▸ disable-fits sc (w - 1) choice (choice + 1) gs h (omega arith) (omega arith) (omega arith)
        ⊕ omega arith ▸ branches-fit sc w (choice + 1) (choice + 1 + size_branches gs) gs h (omega arith) (omega arith) (omega arith)

    all_fit : (sc : Scope) (w i : ℕ) (ss : Stmts) → WellAll sc ss → most_need ss ≤ word_limit → i + size_all ss ≤ count
        → AllFit count (code_all word w i ss)
    all_fit sc w i no_stmt h hn hi = nil-fits
    all_fit sc w i (stmt s ss) h hn hi =
        code_fits sc w i s h.0 (omega arith) (omega arith) ⊕ all_fit sc w (i + size s) ss h.1 (omega arith) (omega arith)

    par-fits : (sc : Scope) (w i : ℕ) (ss : Stmts) → how_many ss ≤ branch_limit → WellAll sc ss → sum_need ss ≤ word_limit
        → i + size_par ss ≤ count → AllFit count (code_par word w i ss)
    par-fits sc w i no_stmt hm h hn hi = nil-fits
    par-fits sc w i (stmt s ss) hm h hn hi =
        let first = i + 6 + 3 * how_many ss in
        omega arith ▸ omega arith ▸ omega arith ▸ omega arith ▸ omega arith ▸ omega arith
        ▸ starts_fit (need s) (i + 6) (first + size s + 2) ss (omega arith) (omega arith)
        ⊕ code_fits sc (w - 2) first s h.0 (omega arith) (omega arith)
        ⊕ omega arith ▸ omega arith ▸ ends-fit sc (w - 2) (need s) (first + size s + 2) ss h.1 hn (omega arith)
        ⊕ omega arith ▸ nil-fits

    ends-fit : (sc : Scope) (w d i : ℕ) (ss : Stmts) → WellAll sc ss → d + sum_need ss ≤ word_limit → i + size_ends ss ≤ count
        → AllFit count (code_ends word w d i ss)
    ends-fit sc w d i no_stmt h hn hi = nil-fits
    ends-fit sc w d i (stmt s ss) h hn hi =
        code_fits sc (w - d) i s h.0 (omega arith) (omega arith)
        ⊕ omega arith ▸ omega arith ▸ ends-fit sc w (d + need s) (i + size s + 2) ss h.1 (omega arith) (omega arith)

    pairs-fit : (sc : Scope) (w i over : ℕ) (ps : Pairs) → WellPairs sc ps → pair_need ps ≤ word_limit → over ≤ count
        → i + size_pairs ps ≤ count
        → AllFit count (code_pairs word w i over ps)
    pairs-fit sc w i over no_pair h hn ho hi = omega arith ▸ nil-fits
    pairs-fit sc w i over (pair e s ps) h hn ho hi =
        let test = i + whole_size e in
        whole-fits sc w e h.0 (omega arith)
        ⊕ omega arith ▸ code_fits sc w (test + 1) s h.1 (omega arith) (omega arith)
        ⊕ omega arith ▸ pairs-fit sc w (test + 1 + size s + 1) over ps h.2 (omega arith) ho (omega arith)

    branches-fit : (sc : Scope) (w i over : ℕ) (gs : Guards) → WellGuards sc gs → guard_need gs ≤ word_limit → over ≤ count
        → i + size_branches gs ≤ count → AllFit count (code_branches word w i over gs)
    branches-fit sc w i over no_guard h hn ho hi = nil-fits
    branches-fit sc w i over (guard g s gs) h hn ho hi =
        omega arith ▸ input-fits w g
        ⊕ code_fits sc w (i + 1 + input_size g) s h.1 (omega arith) (omega arith)
        ⊕ omega arith ▸ branches-fit sc w (i + 1 + input_size g + size s + 1) over gs h.2 (omega arith) ho (omega arith)

pub scheme-fits : (p : Program) → WellProgram p → need p.body ≤ word_limit → AllFit (length (scheme p)) (scheme p)
unfolding scheme
scheme-fits p h hn =
    let l = code-length (word_of p) (base p) 0 p.body in
    code_fits (word_of p) (length (scheme p)) (outermost p) (base p) 0 p.body h.2 hn (omega arith)
