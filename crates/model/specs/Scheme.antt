-- The compiling scheme as a list of instructions (01, "Workspace and code").
use Rattle.std.specs.Prelude.{ℕ, zero, suc, ◌+◌, ◌-◌, ◌*◌, cond, List, [], ◌∷◌, ◌++◌}
use Rattle.model.specs.Word.{less, minus}
use Rattle.model.specs.Syntax.{Site, Expr, constant, variable, NOT, binary, Stmt, SKIP, STOP, assign, input, output, VAR, CHAN, SEQ}
use Rattle.model.specs.Syntax.{PAR, IF, WHILE, ALT, TIME, WAIT, Stmts, no_stmt, stmt, Pairs, no_pair, pair, Guard, input_guard}
use Rattle.model.specs.Syntax.{skip_guard, time_guard, Guards, no_guard, guard, timed, Program}
use Rattle.model.specs.declared.kinds.Operator.{Operator}
use Rattle.model.specs.declared.kinds.Operator.TheVariants.{Plus as PLUS, Minus as MINUS, Times as TIMES, Gt as GT, Eq as EQ}
use Rattle.model.specs.declared.kinds.Operator.TheVariants.{And as AND, Or as OR, Xor as XOR}
use Rattle.model.specs.Counts.{order, temporaries, need, both_hold}
use Rattle.model.specs.declared.kinds.Order.{Order}
use Rattle.model.specs.declared.kinds.Order.TheVariants.{LeftFirst, RightFirst, RightStored}
use Rattle.model.specs.Layout.{base, word_of}
use Rattle.model.specs.Instruction as I
use Rattle.model.specs.Instruction.{Instruction, plain, distance, operation, ldlp, ldc, ldl, cj, ajw, eqc, stl, rev, endp, diff, «in»}
use Rattle.model.specs.Instruction.{prod, startp, outword, stopp, ldpi, disc, diss, mint, altwt, altend, enbc, enbs, ldtimer, tin}
use Rattle.model.specs.Instruction.{Operation, talt, taltwt, enbt, dist}

-- 01: SUM, DIFF, PROD, GT, AND, OR, XOR; EQ is DIFF, EQC 0
unfoldable pub operator_code : Operator → List Instruction
operator_code PLUS = operation I.sum ∷ []
operator_code MINUS = operation diff ∷ []
operator_code TIMES = operation prod ∷ []
operator_code GT = operation I.gt ∷ []
operator_code EQ = operation diff ∷ plain eqc 0 ∷ []
operator_code AND = operation I.and ∷ []
operator_code OR = operation I.or ∷ []
operator_code XOR = operation I.xor ∷ []

-- 02, order 2: the code of two sides apart from the operator; it leaves left in B and right in A. Left, then right; right first, then left,
-- then REV; or right is stored, left follows, and the word is loaded. `h` values are held before: that is the stored value's number, and
-- left is computed with one more held
unfoldable pub sides_code : Order → (h : ℕ) → (left : ℕ → List Instruction) → (right : List Instruction) → List Instruction
sides_code LeftFirst h left right = left h ++ right
sides_code RightFirst h left right = right ++ left h ++ operation rev ∷ []
sides_code RightStored h left right = right ++ plain stl h ∷ left (suc h) ++ plain ldl h ∷ []

-- code with t stored values, at w lowered by t and so many words more; without stored values, at w
unfoldable pub wrapped : (t more w : ℕ) → (ℕ → List Instruction) → List Instruction
wrapped zero more w code = code w
wrapped (suc t) more w code = let n = suc t + more in plain ajw (minus n) ∷ code (w - n) ++ plain ajw n ∷ []

-- 02, order 2, the 5 of AJW -t-5: an ALT's own words below its W, which are resume place, queue link, state, and two for a time guard
abbrev pub alt_words : ℕ
alt_words = 5

-- VAR and CHAN: LDC 0 or MINT, then STL j, for j = 0 to n - 1
unfoldable pub initialise : Instruction → ℕ → List Instruction
initialise first zero = []
initialise first (suc n) = initialise first n ++ first ∷ plain stl n ∷ []

-- how many instructions an operator has
unfoldable pub operator_size : Operator → ℕ
operator_size PLUS = 1
operator_size MINUS = 1
operator_size TIMES = 1
operator_size GT = 1
operator_size EQ = 2
operator_size AND = 1
operator_size OR = 1
operator_size XOR = 1

-- how many instructions bring in two sides, by how many each has: REV, or STL and LDL, beside them
unfoldable pub sides_size : Order → (left right : ℕ) → ℕ
sides_size LeftFirst l r = l + r
sides_size RightFirst l r = l + r + 1
sides_size RightStored l r = l + r + 2

-- how many instructions an expression has
unfoldable pub expr_size : Expr → ℕ
expr_size (constant n) = 1
expr_size (variable x) = 1
expr_size (NOT e) = expr_size e + 1
expr_size (binary op l r) = sides_size (order l r) (expr_size l) (expr_size r) + operator_size op

-- how many instructions wrap an expression with so many stored values: its two AJWs
unfoldable pub wrap_size : (t : ℕ) → ℕ
wrap_size zero = 0
wrap_size (suc t) = 2

-- how many instructions a whole expression has, one that stands in no other
unfoldable pub whole_size : Expr → ℕ
whole_size e = expr_size e + wrap_size (temporaries e)

-- how many instructions bring in a time guard's time and condition
unfoldable pub both_size : (time condition : Expr) → ℕ
both_size t e = sides_size (order t e) (expr_size t) (expr_size e) + wrap_size (both_hold t e)

-- how many instructions a guard's enabling has, its disabling, and the input that its branch begins with
unfoldable pub enable_size : Guard → ℕ
enable_size (input_guard e c x) = whole_size e + 3
enable_size (skip_guard e) = whole_size e + 1
enable_size (time_guard e t) = both_size t e + 1

unfoldable pub disable_size : Guard → ℕ
disable_size (input_guard e c x) = whole_size e + 4
disable_size (skip_guard e) = whole_size e + 2
disable_size (time_guard e t) = both_size t e + 2

unfoldable pub input_size : Guard → ℕ
input_size (input_guard e c x) = 4
input_size (skip_guard e) = 0
input_size (time_guard e t) = 0

-- how many statements or branches there are
unfoldable pub how_many : Stmts → ℕ
how_many no_stmt = 0
how_many (stmt s ss) = suc (how_many ss)

-- how many instructions a statement has, and the parts of SEQ, PAR and IF, and an ALT's enabling, disabling and branches
unfoldable mutual
  pub size : Stmt → ℕ
  size SKIP = 0
  size STOP = 1
  size (assign x e) = whole_size e + 1
  size (input c x) = 4
  size (output c e) = whole_size e + 5
  size (VAR p n s) = 1 + (n + n) + size s + 1
  size (CHAN p n s) = 1 + (n + n) + size s + 1
  size (SEQ ss) = size_all ss
  size (PAR p ss) = size_par ss
  size (IF ps) = size_pairs ps
  size (WHILE e s) = whole_size e + 1 + size s + 1
  size (ALT gs) = 2 + size_enable gs + 1 + size_disable gs + 1 + size_branches gs
  size (TIME x) = 2
  size (WAIT e) = whole_size e + 1

  pub size_all : Stmts → ℕ
  size_all no_stmt = 0
  size_all (stmt s ss) = size s + size_all ss

  pub size_par : Stmts → ℕ
  size_par no_stmt = 0
  size_par (stmt s ss) = 6 + 3 * how_many ss + (size s + 2 + size_ends ss) + 1

  -- each branch's code with its end
  pub size_ends : Stmts → ℕ
  size_ends no_stmt = 0
  size_ends (stmt s ss) = size s + 2 + size_ends ss

  pub size_pairs : Pairs → ℕ
  size_pairs no_pair = 1
  size_pairs (pair e s ps) = whole_size e + 1 + size s + 1 + size_pairs ps

  pub size_enable : Guards → ℕ
  size_enable no_guard = 0
  size_enable (guard g s gs) = enable_size g + size_enable gs

  pub size_disable : Guards → ℕ
  size_disable no_guard = 0
  size_disable (guard g s gs) = disable_size g + size_disable gs

  pub size_branches : Guards → ℕ
  size_branches no_guard = 0
  size_branches (guard g s gs) = 1 + input_size g + size s + 1 + size_branches gs

-- 02, order 4: "An ALT with a time guard has TALT and TALTWT for ALT and ALTWT"
abbrev pub begins_alt : Guards → Operation
begins_alt gs = cond (timed gs) talt I.alt

abbrev pub waits_alt : Guards → Operation
waits_alt gs = cond (timed gs) taltwt altwt

-- the code, where names stand in the words of `word`. `w` is W as adjusted at the place, `i` the index of the first instruction
module _ (word : Site → ℕ) where
  -- a name's word, counted from w
  abbrev pub local : (w : ℕ) → Site → ℕ
  local w x = less (word x) w

  -- 01, expression: LDC a constant, LDL a variable; both sides, then the operation; NOT is EQC 0. `h` stored values are held before it
  unfoldable pub expr_code : (w h : ℕ) → Expr → List Instruction
  expr_code w h (constant n) = plain ldc n ∷ []
  expr_code w h (variable x) = plain ldl (local w x) ∷ []
  expr_code w h (NOT e) = expr_code w h e ++ plain eqc 0 ∷ []
  expr_code w h (binary op l r) = sides_code (order l r) h (λ k. expr_code w k l) (expr_code w h r) ++ operator_code op

  -- the code of a whole expression, one that stands in no other. 02, order 2: one with stored values is wrapped in AJW -t and AJW t;
  -- in an ALT's guards in AJW -t-5 and AJW t + 5, below the ALT's own words
  abbrev pub whole_code : (w : ℕ) → Expr → List Instruction
  whole_code w e = wrapped (temporaries e) 0 w (λ v. expr_code v 0 e)

  abbrev pub guard_code : (w : ℕ) → Expr → List Instruction
  guard_code w e = wrapped (temporaries e) alt_words w (λ v. expr_code v 0 e)

  -- 02, order 4: time and condition are brought in as left and right side of an operator, by order 2's rule, with its wrap
  abbrev pub both_code : (w : ℕ) → (time condition : Expr) → List Instruction
  both_code w t e = wrapped (both_hold t e) alt_words w (λ v. sides_code (order t e) 0 (λ k. expr_code v k t) (expr_code v 0 e))

  -- 01, input: LDLP variable, LDLP channel, LDC 4, IN
  abbrev pub input_code : (w : ℕ) → (channel variable : Site) → List Instruction
  input_code w c x = plain ldlp (local w x) ∷ plain ldlp (local w c) ∷ plain ldc 4 ∷ operation «in» ∷ []

  -- enabling a guard: condition, LDLP channel, REV, ENBC, or condition, ENBS; 02, order 4: time, condition, ENBT
  unfoldable pub enable_code : (w : ℕ) → Guard → List Instruction
  enable_code w (input_guard e c x) = guard_code w e ++ plain ldlp (local w c) ∷ operation rev ∷ operation enbc ∷ []
  enable_code w (skip_guard e) = guard_code w e ++ operation enbs ∷ []
  enable_code w (time_guard e t) = both_code w t e ++ operation enbt ∷ []

  -- disabling it: condition, LDLP channel, REV, LDC branch, DISC, or condition, LDC branch, DISS; 02, order 4: time, condition, LDC branch,
  -- DIST. `choice` is the index of ALTEND, b that of the branch
  unfoldable pub disable_code : (w choice b : ℕ) → Guard → List Instruction
  disable_code w choice b (input_guard e c x) =
      guard_code w e ++ plain ldlp (local w c) ∷ operation rev ∷ distance ldc b choice ∷ operation disc ∷ []
  disable_code w choice b (skip_guard e) = guard_code w e ++ distance ldc b choice ∷ operation diss ∷ []
  disable_code w choice b (time_guard e t) = both_code w t e ++ distance ldc b choice ∷ operation dist ∷ []

  -- the input that its branch begins with, if it waits for one
  unfoldable pub guard_input : (w : ℕ) → Guard → List Instruction
  guard_input w (input_guard e c x) = input_code w c x
  guard_input w (skip_guard e) = []
  guard_input w (time_guard e t) = []

  -- 01's listings. STOP: STOPP. Assign: value, STL. Output: value, LDLP channel, REV, AJW -1, OUTWORD, AJW 1.
  -- VAR n: AJW -n, then LDC 0, STL j for each j, body, AJW n. CHAN: the same with MINT. WHILE: condition, CJ end, body, J start.
  -- ALT: AJW -1, ALT, the enabling, ALTWT, the disabling, ALTEND, the branches. 02, order 4: TALT and TALTWT in place of these where there
  -- is a time guard. TIME: LDTIMER, STL. WAIT: the time, TIN
  unfoldable mutual
    pub code : (w i : ℕ) → Stmt → List Instruction
    code w i SKIP = []
    code w i STOP = operation stopp ∷ []
    code w i (assign x e) = whole_code w e ++ plain stl (local w x) ∷ []
    code w i (input c x) = input_code w c x
    code w i (output c e) =
        whole_code w e ++ plain ldlp (local w c) ∷ operation rev ∷ plain ajw (minus 1) ∷ operation outword ∷ plain ajw 1 ∷ []
    code w i (VAR p n s) =
        plain ajw (minus n) ∷ initialise (plain ldc 0) n ++ code (w - n) (i + 1 + (n + n)) s ++ plain ajw n ∷ []
    code w i (CHAN p n s) =
        plain ajw (minus n) ∷ initialise (operation mint) n ++ code (w - n) (i + 1 + (n + n)) s ++ plain ajw n ∷ []
    code w i (SEQ ss) = code_all w i ss
    code w i (PAR p ss) = code_par w i ss
    code w i (IF ps) = code_pairs w i (i + size_pairs ps) ps
    code w i (WHILE e s) =
        let test = i + whole_size e in
        let back = test + 1 + size s in
        whole_code w e ++ distance cj (back + 1) test ∷ code w (test + 1) s ++ distance I.j i back ∷ []
    code w i (ALT gs) =
        let choice = i + 2 + size_enable gs + 1 + size_disable gs in
        plain ajw (minus 1)
        ∷ operation (begins_alt gs)
        ∷ code_enable (w - 1) gs
        ++ operation (waits_alt gs)
        ∷ code_disable (w - 1) choice (choice + 1) gs
        ++ operation altend
        ∷ code_branches w (choice + 1) (choice + 1 + size_branches gs) gs
    code w i (TIME x) = operation ldtimer ∷ plain stl (local w x) ∷ []
    code w i (WAIT e) = whole_code w e ++ operation tin ∷ []

    -- SEQ: the parts, one after the other
    pub code_all : (w i : ℕ) → Stmts → List Instruction
    code_all w i no_stmt = []
    code_all w i (stmt s ss) = code w i s ++ code_all w (i + size s) ss

    -- PAR with branches: AJW -2; LDC end, LDPI, STL 0; LDC count, STL 1; the starts; the branches; AJW 2. PAR of none: no code.
    -- Word 0 holds where the PAR goes on, word 1 how many branches are not over
    pub code_par : (w i : ℕ) → Stmts → List Instruction
    code_par w i no_stmt = []
    code_par w i (stmt s ss) =
        let first = i + 6 + 3 * how_many ss in
        let over = first + size s + 2 + size_ends ss in
        plain ajw (minus 2)
        ∷ distance ldc over (i + 2)
        ∷ operation ldpi
        ∷ plain stl 0
        ∷ plain ldc (suc (how_many ss))
        ∷ plain stl 1
        ∷ code_starts (need s) (i + 6) (first + size s + 2) ss
        ++ code (w - 2) first s
        ++ plain ldlp 0
        ∷ operation endp
        ∷ code_ends (w - 2) (need s) (first + size s + 2) ss
        ++ plain ajw 2
        ∷ []

    -- for each branch from the second LDC start, LDLP -d, STARTP. The first of these runs at d below, its code is at index b
    pub code_starts : (d i b : ℕ) → Stmts → List Instruction
    code_starts d i b no_stmt = []
    code_starts d i b (stmt s ss) =
        distance ldc b (i + 2) ∷ plain ldlp (minus d) ∷ operation startp ∷ code_starts (d + need s) (i + 3) (b + size s + 2) ss

    -- per branch its code, LDLP d, ENDP
    pub code_ends : (w d i : ℕ) → Stmts → List Instruction
    code_ends w d i no_stmt = []
    code_ends w d i (stmt s ss) =
        code (w - d) i s ++ plain ldlp d ∷ operation endp ∷ code_ends w (d + need s) (i + size s + 2) ss

    -- IF, per pair: condition, CJ next, statement, J end; the last pair too. 02, order 1: one STOPP after the last pair, before the end
    -- that each J reaches
    pub code_pairs : (w i over : ℕ) → Pairs → List Instruction
    code_pairs w i over no_pair = operation stopp ∷ []
    code_pairs w i over (pair e s ps) =
        let test = i + whole_size e in
        let leave = test + 1 + size s in
        whole_code w e
        ++ distance cj (leave + 1) test
        ∷ code w (test + 1) s
        ++ distance I.j over leave
        ∷ code_pairs w (leave + 1) over ps

    -- ALT: the enabling of each guard
    pub code_enable : (w : ℕ) → Guards → List Instruction
    code_enable w no_guard = []
    code_enable w (guard g s gs) = enable_code w g ++ code_enable w gs

    -- the disabling of each guard; b is the index of the first branch
    pub code_disable : (w choice b : ℕ) → Guards → List Instruction
    code_disable w choice b no_guard = []
    code_disable w choice b (guard g s gs) = disable_code w choice b g ++ code_disable w choice (b + 1 + input_size g + size s + 1) gs

    -- per branch AJW 1, the input if any, statement, J end; the last branch too
    pub code_branches : (w i over : ℕ) → Guards → List Instruction
    code_branches w i over no_guard = []
    code_branches w i over (guard g s gs) =
        let first = i + 1 + input_size g in
        let leave = first + size s in
        plain ajw 1 ∷ guard_input w g ++ code w first s ++ distance I.j over leave ∷ code_branches w (leave + 1) over gs

-- the scheme for a program
unfoldable pub scheme : Program → List Instruction
scheme p = code (word_of p) (base p) 0 p.body
