-- From where a part of a program is over, or begins, its code leads to the next significant instruction.
use Prim.Native.Nat.{ℕ, suc, ◌+◌, ◌-◌, ◌*◌, ◌^◌, ◌≤◌, ◌<◌}
use native.Mathlib.Omega.{arith}
use native.Mathlib.Nat.{add-zero}
use native.Mathlib.Numerals.{add-one}
use mathlib.Core.Path.{◌≡◌, refl, sym, ap, ◌∙◌, subst}
use mathlib.Core.Logic.{◌≢◌, ⊎_elim}
use mathlib.Core.Bool.{Bool, true, false}
use mathlib.Core.List.Memᴰ
use mathlib.Core.List.{List, [], ◌∷◌, ◌++◌, Memᴰ}
use lib.ListN.{length, length-append}
use lib.Dec.{eqb}
use borrow.Author.Tests.{eqb-true, eqb-false}
use Rattle.model.specs.Word.{low, less, minus, not_process}
use Rattle.model.specs.Code.{function_in, operand_in}
use Rattle.model.specs.Counts.{need}
use Rattle.model.specs.Syntax.{Site, Expr, Stmt, SKIP, STOP, assign, input, output, VAR, CHAN, SEQ, PAR, IF, WHILE, ALT, Stmts}
use Rattle.model.specs.Syntax.{no_stmt, stmt, Pairs, no_pair, pair, Guards, TIME, WAIT}
use Rattle.model.specs.Reader.{names}
use Rattle.model.specs.Instruction.{ldc, ldlp, cj, ajw, stl, Instruction, plain, distance, operation}
use Rattle.model.specs.Instruction as I
use Rattle.model.specs.Scheme.{initialise, how_many, whole_size, size, size_pairs, size_ends, size_enable, size_disable, size_branches}
use Rattle.model.specs.Scheme.{begins_alt, waits_alt, local, whole_code, input_code, code, code_all, code_pairs, code_starts, code_ends}
use Rattle.model.specs.Scheme.{code_enable, code_disable, code_branches}
use Rattle.model.specs.Occam.{Store, eval, Frame, in_while, Process, before, finished, frames_of, resume, begin, enter, enter_all}
use Rattle.model.specs.Occam.{first_true, to_read}
use Rattle.model.specs.Demand.{live_in}
use Rattle.model.proofs.Quiet.Ways.{Regs, Quiet, pushing, pointing, reversing, placing, moving, Mem, Way, arrived, through, quiet}
use Rattle.model.proofs.Quiet.Ways.{jumps, falls, quiet-ldc, quiet-ajw, quiet-ldlp, quiet-rev, quiet-mint, quiet-ldpi}
use Rattle.model.proofs.Words.Values.{eval-word}
use Rattle.model.proofs.Quiet.Stretches.{Seg, nil, at, cut, seg-length, local-word}
use Rattle.model.proofs.Quiet.ExprPaths.{evaluates-whole}
use Rattle.model.proofs.Coding.Sizes.{initialise-length, code-length, whole_length, starts-length, enable-length, disable-length}
use Rattle.model.proofs.Coding.Sizes.{ends-length, pairs-length, branches-length}
use Rattle.model.proofs.Quiet.Setting.{Setting, whole, At}
use Rattle.model.proofs.Quiet.CodeParts.{inside, up, rises-le, init-at, tested, loop-parts, pair_parts}
use Rattle.model.proofs.Words.Parts.{need-two, sum_first, Part, the_end, joins, Words, Within, FineWhole, Fine, FineAll, FinePairs}
use Rattle.model.proofs.Quiet.Continuations.{Placed, placed-down, Cont, c-end, c-join, c-seq, c-var, c-chan, c-up, c-while, c-hop}
use Rattle.model.proofs.Quiet.Continuations.{cont-inside, cont-low, cont-placed, cont-bound}
use Rattle.model.proofs.Quiet.Marks.{Skips, Settled, s-none, s-skip, s-par, AltCode, Opening, ParCode, Spare, Clear, Point, pt-stop}
use Rattle.model.proofs.Quiet.Marks.{pt-assign, pt-var, pt-chan, pt-taken, pt-none, pt-while, pt-in, pt-out, pt-par-place, pt-end}
use Rattle.model.proofs.Quiet.Marks.{pt-alt, pt-read, pt-wait-for}

-- two stretches of instructions, one behind the other
pub seg-join : {xs ys zs : List Instruction} {i m i' : ℕ} → Seg xs i ys m → Seg xs m zs i' → Seg xs i (ys ++ zs) i'
seg-join nil h = h
seg-join (at e g) h = at e (seg-join g h)

-- a word below the workspace
pub spare-below : (S : Setting) (a : Part) {w v : ℕ} {vars chans : List Site} → Placed S a w vars chans → a.bottom ≤ v → v < w
    → Spare S a vars chans v
spare-below S a p l h =
    record {
      above = l;
      below = omega (arith, p.low);
      no-var = λ x m. omega (arith, p.scoped.vars-above x m);
      no-chan = λ c m. omega (arith, p.scoped.chans-above c m);
    }

-- what is in scope fits in words
pub record Sound (S : Setting) (a : Part) (σ : Store) (vars chans : List Site) : Type 0 where
  pub bytes : whole S < 2 ^ 32
  pub high : a.top < 2 ^ 32
  pub joined : (d : ℕ) → a.ending ≡ joins d → a.top + d < 2 ^ 32
  pub vars-word : (x : Site) → Memᴰ x vars → S.word x < 2 ^ 32
  pub chans-word : (c : Site) → Memᴰ c chans → S.word c < 2 ^ 32
  pub values : (x : Site) → Memᴰ x vars → σ x < 2 ^ 32

sound-vars : {S : Setting} {a : Part} {σ : Store} (l : List Site) {vars chans : List Site} → Sound S a σ (l ++ vars) chans
    → Sound S a σ vars chans
sound-vars l v =
    record {
      bytes = v.bytes;
      high = v.high;
      joined = v.joined;
      vars-word = λ x m. v.vars-word x (Memᴰ.append_right l m);
      chans-word = v.chans-word;
      values = λ x m. v.values x (Memᴰ.append_right l m);
    }

sound-chans : {S : Setting} {a : Part} {σ : Store} (l : List Site) {vars chans : List Site} → Sound S a σ vars (l ++ chans)
    → Sound S a σ vars chans
sound-chans l v =
    record {
      bytes = v.bytes;
      high = v.high;
      joined = v.joined;
      vars-word = v.vars-word;
      chans-word = λ x m. v.chans-word x (Memᴰ.append_right l m);
      values = v.values;
    }

module _ (S : Setting) (a : Part) where
  -- live variables are in scope
  pub cont-live : {hi i w : ℕ} {vars chans : List Site} {k : List Frame} → Cont S a hi vars chans k i w → Within (live_in k) vars
  cont-live (c-end e r h) x m = absurd (Memᴰ.not-nil m)
  cont-live (c-join e y z r h) x m = absurd (Memᴰ.not-nil m)
  cont-live (c-seq g f c) x m = cont-live c x m
  cont-live (c-var {p} {n} {vars} e r h c) x m =
      ⊎_elim (λ m. Memᴰ.append_left vars m) (λ m. Memᴰ.append_right (names p n) (cont-live c x m)) (Memᴰ.append_cases (names p n) m)
  cont-live (c-chan e r h c) x m = cont-live c x m
  cont-live (c-up e r c) x m = cont-live c x m
  cont-live (c-while g f n b c) x m = cont-live c x m
  cont-live (c-hop e h l c) x m = cont-live c x m

  -- where frames are k, vars' and chans' are in scope: some of the former ones, among them the live variables
  pub record Scope (vars chans : List Site) (k : List Frame) (vars' chans' : List Site) (w : ℕ) : Type 0 where
    pub vars-in : Within vars' vars
    pub chans-in : Within chans' chans
    pub live : Within (live_in k) vars'
    pub placed : Placed S a w vars' chans'

  here : {hi i w : ℕ} {vars chans : List Site} {k : List Frame} (c : Cont S a hi vars chans k i w) → Scope vars chans k vars chans w
  here c = record { vars-in = λ x m. m; chans-in = λ x m. m; live = cont-live c; placed = cont-placed S a c }

  module _ (σ : Store) where
    -- the path to the next significant instruction of q, with these names in scope
    abbrev pub Goes : (vars chans : List Site) (q : Process) (hi : ℕ) (μ : Mem) (i : ℕ) (r : Regs) → Type 0
    Goes vars chans q hi μ i r =
        Way S.xs S.off S.word (Point S a σ vars chans q) ((q ≡ finished) × (a.ending ≡ the_end)) σ
        (λ x. Memᴰ x vars × Memᴰ x a.reads) (Spare S a vars chans) (Clear S a vars chans) hi μ i r

    -- from index i, at workspace w, a process is led to its next significant instruction, after steps without code
    pub data Comes (vars chans : List Site) (hi : ℕ) (p : Process) (i w : ℕ) : Type 0 where
      comes : {q : Process} {vars' chans' : List Site} → Skips p q → Settled q → Scope vars chans (frames_of q) vars' chans' w
          → ((μ : Mem) (r : Regs) → r.w ≡ w → Goes vars' chans' q hi μ i r) → Comes vars chans hi p i w

    abbrev pub set_w : ℕ → Regs → Regs
    set_w w r = record { a = r.a; b = r.b; c = r.c; w = w }

    pub onto : {vars chans : List Site} {q : Process} {hi : ℕ} {μ : Mem} {i w : ℕ} (r : Regs) → r.w ≡ w
        → Point S a σ vars chans q hi μ i (set_w w r) → Point S a σ vars chans q hi μ i r
    onto {vars} {chans} {q} {hi} {μ} {i} r e pt = subst (λ z. Point S a σ vars chans q hi μ i (set_w z r)) (sym e) pt

    -- through an expression of a statement whose frames are k
    module _ {k : List Frame} {hi' c w : ℕ} {vars chans : List Site} (cont : Cont S a hi' vars chans k c w)
        (v : Sound S a σ vars chans) where
      wide : w < 2 ^ 32
      wide = omega (arith, cont-low S a cont, v.high)

      clear : (r : Regs) → r.w ≡ w → a.bottom + 2 ≤ w → Clear S a vars chans r.w
      clear r e room =
          subst (λ w. Clear S a vars chans w) (sym e) (cont-placed S a cont)

      through-expr : (q : Process) (e : Expr) {hi i i' : ℕ} {μ : Mem} {r : Regs} → FineWhole a vars w 0 e
          → Seg S.xs i (whole_code S.word w e) i' → r.w ≡ w
          → ((μ' : Mem) (r' : Regs) → r'.a ≡ eval σ e → r'.w ≡ w → Goes vars chans q hi μ' i' r') → Goes vars chans q hi μ i r
      through-expr q e {hi} f g p next =
          evaluates-whole S.xs S.off S.word (Point S a σ vars chans q) ((q ≡ finished) × (a.ending ≡ the_end)) σ vars a.reads
          (Spare S a vars chans) (Clear S a vars chans) hi (λ u s. omega (arith, s.below, v.high)) v.vars-word v.values w 0 e wide
          f.0 f.1 (omega (arith, f.2)) (λ u l h. spare-below S a (cont-placed S a cont) (omega (arith, f.2)) (omega arith)) g p
          (λ μ' r' d. next μ' r' d.value d.same_w)

      while-way : (e : Expr) (s : Stmt) {hi i : ℕ} → Seg S.xs i (code S.word w i (WHILE e s)) c
          → Fine S.word a vars chans w (WHILE e s)
          → hi' ≤ whole S + S.off i → S.off (suc (i + whole_size e)) ≤ hi → (μ : Mem) (r : Regs) → r.w ≡ w
          → Goes vars chans (before (WHILE e s) k) hi μ i r
      while-way e s {i} g f near bound μ r q = elim (loop-parts S e s g) [
        | tested m g₁ x g₂ d g₃ ↦
            let p : c ≡ suc m = seg-length g₃ ∙ omega arith in
            let test = i + whole_size e in
            let mid : suc test ≤ m = omega (arith, seg-length g₂) in
            let high : S.off (suc m) ≤ whole S = rises-le S (suc m) (length S.xs) (inside S d) (omega arith) in
            let start : S.off i ≤ S.off (suc test) = rises-le S i (suc test) (omega arith) (omega (arith, inside S d)) in
            let reach : S.off (suc m) + S.off (suc test) ≤ S.off (suc m) + S.off (suc test) - S.off i + S.off i = omega arith in
            let back : Cont S a (S.off (suc m) + S.off (suc test) - S.off i) vars chans (in_while e s ∷ k) m w =
            c-while (rw p at g) f near reach (subst (λ z. Cont S a hi' vars chans k z w) p cont) in
            let near-back : S.off (suc m) + S.off (suc test) - S.off i ≤ whole S + S.off (suc test) = omega arith in
            let near_on : hi' ≤ whole S + S.off test = omega (arith, rises-le S i test (omega arith) (omega (arith, inside S d))) in
            let ahead : suc test ≤ suc m = omega arith in
            through-expr (before (WHILE e s) k) e f.1 g₁ q (λ μ' r' val q'.
            arrived
            (onto r' q'
            (pt-while x ahead f.1 val g₂ f.2 back near-back (subst (λ z. Cont S a hi' vars chans k z w) p cont) near_on)) bound)
      ]

      -- at the CJ of a pair: its branch is taken, or the path goes on by `other`
      pair-way : (all : Pairs) (e : Expr) (s : Stmt) (ps : Pairs) {i m : ℕ} {μ : Mem} {r : Regs} → a.bottom + 2 ≤ w
          → FinePairs S.word a vars chans w all → Fine S.word a vars chans w s
          → first_true σ all k ≡ first_true σ (pair e s ps) k → hi' ≤ whole S + S.off i → At S i (distance cj (suc m) i)
          → Seg S.xs (suc i) (code S.word w (suc i) s) m → At S m (distance I.j c m) → suc m ≤ c → r.a ≡ eval σ e
          → r.w ≡ w
          → (t : Bool) → eqb (eval σ e) 0 ≡ t
          → (r.a ≡ 0 → first_true σ all k ≡ first_true σ ps k → Goes vars chans (before (IF all) k) hi' μ i r)
          → Goes vars chans (before (IF all) k) hi' μ i r
      unfolding first_true
      pair-way all e s ps {i} {m} {r} two fa f same near x g d l val q false z other =
          let taken : first_true σ all k ≡ begin s k = same ∙ rw z in
          let yes : r.a ≢ 0 = λ h. eqb-false _ _ z (sym val ∙ h) in
          let bound : S.off (suc i) ≤ hi' =
          omega (arith, cont-bound S a cont, rises-le S (suc i) c (omega (arith, seg-length g)) (cont-inside S a cont)) in
          arrived (onto r q (pt-taken s x yes fa taken g f (c-hop d two l cont) near)) bound
      pair-way all e s ps two fa f same near x g d l val q true z other = other (val ∙ eqb-true _ _ z) (same ∙ rw z)

      -- through the conditions of an IF that are false, to the CJ of the first true pair or to the STOPP behind the last
      pairs-way : (all ps : Pairs) {i : ℕ} → Seg S.xs i (code_pairs S.word w i c ps) c
          → a.bottom + 2 ≤ w → FinePairs S.word a vars chans w all → FinePairs S.word a vars chans w ps
          → first_true σ all k ≡ first_true σ ps k
          → hi' ≤ whole S + S.off i
          → (μ : Mem) (r : Regs) → r.w ≡ w → Goes vars chans (before (IF all) k) hi' μ i r
      unfolding first_true code_pairs
      pairs-way all no_pair g two fa f same near μ r q = stop-way g (cont-bound S a cont)
        where
          stop-way : {i j : ℕ} → Seg S.xs i (operation I.stopp ∷ []) j → S.off j ≤ hi' → Goes vars chans (before (IF all) k) hi' μ i r
          stop-way (at x nil) bound = arrived (onto r q (pt-none x (cont-placed S a cont) fa same)) bound
      pairs-way all (pair e s ps) {i} g two fa f same near μ r q = elim (pair_parts S e s ps g) [
        | tested m g₁ x g₂ d g₃ ↦
            let test = i + whole_size e in
            let later : suc test ≤ suc m = omega (arith, seg-length g₂) in
            let near_on : hi' ≤ whole S + S.off test = omega (arith, rises-le S i test (omega arith) (omega (arith, inside S x))) in
            let near_next : hi' ≤ whole S + S.off (suc m) =
            omega (arith, rises-le S i (suc m) (omega arith) (omega (arith, inside S d))) in
            let hop : S.off (suc test) ≤ S.off (suc m) = rises-le S (suc test) (suc m) later (inside S d) in
            through-expr (before (IF all) k) e f.0 g₁ q (λ μ' r' val q'.
            pair-way all e s ps two fa f.1 same near_on x g₂ d
            (omega (arith, seg-length g₃)) val q' (eqb (eval σ e) 0) refl
            (λ z none.
            falls x (inside S d) z hop (pairs-way all ps g₃ two fa f.2 none near_next μ' r' q')))
      ]

    -- a VAR's or CHAN's code
    data Opened (f : Instruction) (p n : ℕ) (s : Stmt) (vars chans : List Site) (k : List Frame) (hi i w : ℕ) : Type 0 where
      opened : At S i (plain ajw (minus n)) → Opening S a f p n s vars chans k hi (suc i) (w - n) → Opened f p n s vars chans k hi i w

    open-pick : {hi i d m i' w p n : ℕ} {f : Instruction} {s : Stmt} {vars chans : List Site} {k : List Frame} → n ≤ w
        → a.bottom + n + 2 ≤ w → Words S.word p n (w - n) → hi ≤ whole S + S.off i
        → Seg S.xs i (plain ajw (minus n) ∷ initialise f n) d
        → Seg S.xs (suc i + (n + n)) (code S.word (w - n) (suc i + (n + n)) s) m → Seg S.xs m (plain ajw n ∷ []) i'
        → Cont S a hi vars chans k i' w → Opened f p n s vars chans k hi i w
    open-pick {i} {m} {w} {p} {n} {f} {k} fits room sites near (at x g₁) g₂ (at b nil) c =
        let q : w ≡ w - n + n = omega arith in
        opened x (record {
          room = omega arith;
          inits = init-at S f n g₁;
          close = m;
          body = g₂;
          closes = b;
          sites = sites;
          after = rw q at c;
          near = omega (arith, up S x);
        })

    open-parts : {hi i i' w p n : ℕ} {f : Instruction} {s : Stmt} {vars chans : List Site} {k : List Frame}
        → Seg S.xs i (plain ajw (minus n) ∷ initialise f n ++ code S.word (w - n) (i + 1 + (n + n)) s ++ plain ajw n ∷ []) i'
        → n ≤ w → a.bottom + n + 2 ≤ w → Words S.word p n (w - n) → Cont S a hi vars chans k i' w → hi ≤ whole S + S.off i
        → Opened f p n s vars chans k hi i w
    open-parts {hi} {i} {w} {p} {n} {f} {s} {k} g fits room sites c near =
        let inits = plain ajw (minus n) ∷ initialise f n in
        let m = i + 1 + (n + n) in
        let body = code S.word (w - n) m s in
        let (g₁, g₂) = cut (inits ++ body) (m + size s)
        (omega (arith, length-append inits body, initialise-length f n, code-length S.word (w - n) m s)) g in
        let (g₃, g₄) = cut inits m (omega (arith, initialise-length f n)) g₁ in
        let e : i + 1 + (n + n) ≡ suc i + (n + n) = omega arith in
        open-pick fits room sites near g₃ (rw e at g₄) (rw e at g₂) c

    -- it leads to its first store
    open-way : {f : Instruction} {p n : ℕ} {s : Stmt} {vars chans : List Site} {k : List Frame} {hi i w : ℕ} (q : Process) (v : ℕ)
        → ((p : ℕ) → Quiet p (function_in f) (operand_in S.off f) (pushing v)) → Opened f p n s vars chans k hi i w → 1 ≤ n → n ≤ w
        → w < 2 ^ 32
        → (Opening S a f p n s vars chans k hi (suc i) (w - n) → (μ : Mem) (r : Regs) → r.a ≡ v
        → Point S a σ vars chans q hi μ (suc (suc i)) (set_w (w - n) r))
        → (μ : Mem) (r : Regs) → r.w ≡ w → Goes vars chans q hi μ i r
    unfolding function_in operand_in
    open-way {f} {n} {hi} {i} {w} q v intact (opened x op) one fits wide pt μ r e =
        let down : low (r.w + minus n) ≡ w - n = rw e (omega arith) in
        let first = op.inits 0 one in
        let z : suc i + 0 ≡ suc i = add-zero (suc i) in
        let bound : S.off (suc (suc (suc i))) ≤ hi =
        omega (
          arith,
          cont-bound S a op.after,
          rises-le S (suc (suc (suc i))) (suc op.close) (omega (arith, seg-length op.body))
              (cont-inside S a op.after),
        ) in
        quiet (moving (minus n)) x (quiet-ajw (minus n))
        (quiet (pushing v) (rw z at first.0) (intact (S.off (suc (suc i))))
        (arrived (onto (pushing v (moving (minus n) r)) down (pt op μ (pushing v (moving (minus n) r)) refl)) bound))

    -- an ALT's code
    alt-pick : {gs : Guards} {vars chans : List Site} {k : List Frame} {hi i w choice over : ℕ}
        → choice ≡ i + 2 + size_enable gs + 1 + size_disable gs
        → Seg S.xs i (plain ajw (minus 1) ∷ operation (begins_alt gs) ∷ code_enable S.word (w - 1) gs) (i + 2 + size_enable gs)
        → Seg S.xs (i + 2 + size_enable gs) (operation (waits_alt gs) ∷ code_disable S.word (w - 1) choice (choice + 1) gs) choice
        → Seg S.xs choice (operation I.altend ∷ code_branches S.word w (choice + 1) over gs) over
        → Fine S.word a vars chans w (ALT gs) → Cont S a hi vars chans k over w → hi ≤ whole S + S.off i
        → AltCode S a gs vars chans k hi i w
    alt-pick {gs} {i} {w} {choice} {over} e (at x (at y g)) (at z h) (at u b) f c near =
        let one : suc i ≡ i + 1 = omega arith in
        let two : suc (suc i) ≡ i + 2 = omega arith in
        let past : suc (i + 2 + size_enable gs) ≡ i + 2 + size_enable gs + 1 = omega arith in
        let next : suc choice ≡ choice + 1 = omega arith in
        record {
          over = over;
          lowers = x;
          begins = subst (λ n. At S n (operation (begins_alt gs))) one y;
          enables = subst (λ n. Seg S.xs n (code_enable S.word (w - 1) gs) (i + 2 + size_enable gs)) two g;
          waits = z;
          choice = choice;
          choice-is = e;
          disables = subst (λ n. Seg S.xs n (code_disable S.word (w - 1) choice (choice + 1) gs) choice) past h;
          ends = u;
          branches = subst (λ n. Seg S.xs n (code_branches S.word w (choice + 1) over gs) over) next b;
          fine = f;
          after = c;
          near = near;
        }

    alt-parts : (gs : Guards) {vars chans : List Site} {k : List Frame} {hi i i' w : ℕ} → Seg S.xs i (code S.word w i (ALT gs)) i'
        → Fine S.word a vars chans w (ALT gs) → Cont S a hi vars chans k i' w → hi ≤ whole S + S.off i
        → AltCode S a gs vars chans k hi i w
    unfolding code
    alt-parts gs {i} {i'} {w} g f c near =
        let choice = i + 2 + size_enable gs + 1 + size_disable gs in
        let front = plain ajw (minus 1) ∷ operation (begins_alt gs) ∷ code_enable S.word (w - 1) gs in
        let mid = operation (waits_alt gs) ∷ code_disable S.word (w - 1) choice (choice + 1) gs in
        let over = choice + 1 + size_branches gs in
        let (g₁, g₂) = cut (front ++ mid) choice
        (omega (
          arith,
          length-append front mid,
          enable-length S.word (w - 1) gs,
          disable-length S.word (w - 1) choice (choice + 1) gs,
        )) g in
        let (g₃, g₄) = cut front (i + 2 + size_enable gs) (omega (arith, enable-length S.word (w - 1) gs)) g₁ in
        let p : over ≡ i' = omega (arith, seg-length g₂, branches-length S.word w (choice + 1) over gs) in
        alt-pick refl g₃ g₄
        (subst (λ n. Seg S.xs choice (operation I.altend ∷ code_branches S.word w (choice + 1) n gs) i') p g₂) f c near

    -- a PAR's code
    data ParOpened (s : Stmt) (ss : Stmts) (vars chans : List Site) (k : List Frame) (hi i w : ℕ) : Type 0 where
      par-opened : (c : ParCode S a s ss vars chans k hi (suc (suc (suc (suc (suc (suc i)))))) (w - 2)) → At S i (plain ajw (minus 2))
          → At S (suc i) (distance ldc c.over (suc (suc i))) → At S (suc (suc i)) (operation I.ldpi)
          → At S (suc (suc (suc i))) (plain stl 0)
          → At S (suc (suc (suc (suc i)))) (plain ldc (suc (how_many ss))) → At S (suc (suc (suc (suc (suc i))))) (plain stl 1)
          → ParOpened s ss vars chans k hi i w

    par-pick : (p : ℕ) {s : Stmt} {ss : Stmts} {vars chans : List Site} {k : List Frame} {hi i i' w first m over : ℕ}
        → Seg S.xs i
        (plain ajw (minus 2)
        ∷ distance ldc over (i + 2)
        ∷ operation I.ldpi
        ∷ plain stl 0
        ∷ plain ldc (suc (how_many ss))
        ∷ plain stl 1
        ∷ code_starts S.word (need s) (i + 6) (first + size s + 2) ss) first
        → Seg S.xs first (code S.word (w - 2) first s) m
        → Seg S.xs m (plain ldlp 0 ∷ operation I.endp ∷ code_ends S.word (w - 2) (need s) (first + size s + 2) ss) over
        → Seg S.xs over (plain ajw 2 ∷ []) i' → Fine S.word a vars chans w (PAR p (stmt s ss)) → Cont S a hi vars chans k i' w
        → hi ≤ whole S + S.off i → ParOpened s ss vars chans k hi i w
    par-pick p {s} {ss} {vars} {chans} {k} {hi} {i} {w} {first} {over}
        (at x₁ (at x₂ (at x₃ (at x₄ (at x₅ (at x₆ g)))))) body ends (at y nil) f c near =
        let e : i + 6 ≡ suc (suc (suc (suc (suc (suc i))))) = omega arith in
        let e₂ : i + 2 ≡ suc (suc i) = omega arith in
        let q : w ≡ w - 2 + 2 = omega (arith, f.0) in
        let space : a.bottom + 2 ≤ w - 2 = omega (arith, f.0, need-two s, sum_first s ss) in
        par-opened (record {
          first = first;
          over = over;
          starts = subst
              (λ n. Seg S.xs (suc (suc (suc (suc (suc (suc i)))))) (code_starts S.word (need s) n (first + size s + 2) ss) first) e g;
          branches = seg-join body ends;
          fine = f.1;
          room = omega (arith, f.0);
          placed = subst (λ n. Placed S a n vars chans) q (cont-placed S a c);
          after = c-up y space (subst (λ n. Cont S a hi vars chans k (suc over) n) q c);
          near = omega (arith, up S x₁, up S x₂, up S x₃, up S x₄, up S x₅, up S x₆);
        }) x₁ (subst (λ n. At S (suc i) (distance ldc over n)) e₂ x₂) x₃ x₄ x₅ x₆

    par-parts : (p : ℕ) (s : Stmt) (ss : Stmts) {vars chans : List Site} {k : List Frame} {hi i i' w : ℕ}
        → Seg S.xs i (code S.word w i (PAR p (stmt s ss))) i'
        → Fine S.word a vars chans w (PAR p (stmt s ss)) → Cont S a hi vars chans k i' w → hi ≤ whole S + S.off i
        → ParOpened s ss vars chans k hi i w
    unfolding code
    par-parts p s ss {i} {i'} {w} g f c near =
        let first = i + 6 + 3 * how_many ss in
        let over = first + size s + 2 + size_ends ss in
        let front =
        plain ajw (minus 2)
        ∷ distance ldc over (i + 2)
        ∷ operation I.ldpi
        ∷ plain stl 0
        ∷ plain ldc (suc (how_many ss))
        ∷ plain stl 1
        ∷ code_starts S.word (need s) (i + 6) (first + size s + 2) ss in
        let body = code S.word (w - 2) first s in
        let ends = plain ldlp 0 ∷ operation I.endp ∷ code_ends S.word (w - 2) (need s) (first + size s + 2) ss in
        let l₁ = starts-length S.word (need s) (i + 6) (first + size s + 2) ss in
        let l₂ = code-length S.word (w - 2) first s in
        let l₃ = ends-length S.word (w - 2) (need s) (first + size s + 2) ss in
        let (g₁, g₂) = cut (front ++ body ++ ends) over
        (omega (arith, length-append (front ++ body) ends, length-append front body, l₁, l₂, l₃)) g in
        let (g₃, g₄) = cut (front ++ body) (first + size s) (omega (arith, length-append front body, l₁, l₂)) g₁ in
        let (g₅, g₆) = cut front first (omega (arith, l₁)) g₃ in
        par-pick p g₅ g₆ g₄ g₂ f c near

    assign-comes : (x : Site) (e : Expr) {hi i m i' w : ℕ} {vars chans : List Site} {k : List Frame}
        → Seg S.xs i (whole_code S.word w e) m
        → Seg S.xs m (plain stl (local S.word w x) ∷ []) i' → Fine S.word a vars chans w (assign x e)
        → (c : Cont S a hi vars chans k i' w) → hi ≤ whole S + S.off i
        → Sound S a σ vars chans → Comes vars chans hi (before (assign x e) k) i w
    assign-comes x e {hi} {i} {m} {w} {vars} {chans} {k} g (at y nil) f c near v =
        let named : low (w + less (S.word x) w) ≡ S.word x = local-word w (S.word x) (wide c v) (v.vars-word x f.0.0) in
        let near_on : hi ≤ whole S + S.off m = omega (arith, rises-le S i m (omega (arith, seg-length g)) (omega (arith, inside S y))) in
        comes s-none tt (here c) (λ μ r q. through-expr c v (before (assign x e) k) e f.1 g q (λ μ' r' val q'.
        arrived (onto r' q' (pt-assign y named f val (eval-word σ v.values e f.1.0) c near_on)) (cont-bound S a c)))

    wait-comes : (e : Expr) {hi i m i' w : ℕ} {vars chans : List Site} {k : List Frame} → Seg S.xs i (whole_code S.word w e) m
        → Seg S.xs m (operation I.tin ∷ []) i' → Fine S.word a vars chans w (WAIT e) → (c : Cont S a hi vars chans k i' w)
        → hi ≤ whole S + S.off i → Sound S a σ vars chans → Comes vars chans hi (before (WAIT e) k) i w
    wait-comes e {hi} {i} {m} {k = k} g (at y nil) f c near v =
        let near_on : hi ≤ whole S + S.off m = omega (arith, rises-le S i m (omega (arith, seg-length g)) (omega (arith, inside S y))) in
        comes s-none tt (here c) (λ μ r q. through-expr c v (before (WAIT e) k) e f.1 g q (λ μ' r' val q'.
        arrived (onto r' q' (pt-wait-for y val (eval-word σ v.values e f.1.0) f c near_on)) (cont-bound S a c)))

    input-comes : (d x : Site) {hi i i' w : ℕ} {vars chans : List Site} {k : List Frame} → Seg S.xs i (input_code S.word w d x) i'
        → Fine S.word a vars chans w (input d x) → (c : Cont S a hi vars chans k i' w) → hi ≤ whole S + S.off i
        → Sound S a σ vars chans → Comes vars chans hi (before (input d x) k) i w
    unfolding function_in operand_in
    input-comes d x {hi} {i} {w} (at p₁ (at p₂ (at p₃ (at p₄ nil)))) f c near v =
        let o = less (S.word x) w in
        let o' = less (S.word d) w in
        let vx : low (w + o) ≡ S.word x = local-word w (S.word x) (wide c v) (v.vars-word x f.1.0) in
        let vd : low (w + o') ≡ S.word d = local-word w (S.word d) (wide c v) (v.chans-word d f.2) in
        let near_on : hi ≤ whole S + S.off (suc (suc (suc i))) = omega (arith, up S p₁, up S p₂, up S p₃) in
        comes s-none tt (here c) (λ μ r q.
        quiet (pointing o) p₁ (quiet-ldlp o)
        (quiet (pointing o') p₂ (quiet-ldlp o')
        (quiet (pushing 4) p₃ (quiet-ldc 4)
        (arrived (onto (pushing 4 (pointing o' (pointing o r))) q (pt-in p₄ refl (rw q vd) (rw q vx) f c near_on)) (cont-bound S a c)))))

    output-comes : (d : Site) (e : Expr) {hi i m i' w : ℕ} {vars chans : List Site} {k : List Frame}
        → Seg S.xs i (whole_code S.word w e) m
        → Seg S.xs m
        (plain ldlp (local S.word w d) ∷ operation I.rev ∷ plain ajw (minus 1) ∷ operation I.outword ∷ plain ajw 1 ∷ []) i'
        → Fine S.word a vars chans w (output d e) → (c : Cont S a hi vars chans k i' w) → hi ≤ whole S + S.off i
        → Sound S a σ vars chans → Comes vars chans hi (before (output d e) k) i w
    unfolding function_in operand_in
    output-comes d e {hi} {i} {m} {w} {vars} {chans} {k} g (at p₁ (at p₂ (at p₃ (at p₄ (at p₅ nil))))) f c near v =
        let o = less (S.word d) w in
        let vd : low (w + o) ≡ S.word d = local-word w (S.word d) (wide c v) (v.chans-word d f.2) in
        let back : w ≡ w - 1 + 1 = omega (arith, f.0) in
        let near_on : hi ≤ whole S + S.off (suc (suc (suc m))) =
        omega (arith, rises-le S i m (omega (arith, seg-length g)) (omega (arith, inside S p₁)), up S p₁, up S p₂, up S p₃) in
        let bound : S.off (suc (suc (suc (suc m)))) ≤ hi = omega (arith, cont-bound S a c, up S p₅) in
        comes s-none tt (here c) (λ μ r q. through-expr c v (before (output d e) k) e f.1 g q (λ μ' r' val q'.
        let down : low (r'.w + minus 1) ≡ w - 1 = rw q' (omega (arith, f.0, wide c v)) in
        quiet (pointing o) p₁ (quiet-ldlp o)
        (quiet reversing p₂ quiet-rev
        (quiet (moving (minus 1)) p₃ (quiet-ajw (minus 1))
        (arrived (onto (moving (minus 1) (reversing (pointing o r'))) down
        (pt-out p₄ val (eval-word σ v.values e f.1.0) (rw q' vd)
        (subst (λ n. Fine S.word a vars chans n (output d e)) back f) p₅
        (subst (λ n. Cont S a hi vars chans k (suc (suc (suc (suc (suc m))))) n) back c) near_on))
        bound)))))

    module _ {hi i i' w : ℕ} {vars chans : List Site} {k : List Frame} (c : Cont S a hi vars chans k i' w) (near : hi ≤ whole S + S.off i)
        (v : Sound S a σ vars chans) where
      if-comes : (ps : Pairs) → Seg S.xs i (code S.word w i (IF ps)) i' → Fine S.word a vars chans w (IF ps)
          → Comes vars chans hi (before (IF ps) k) i w
      unfolding code
      if-comes ps g f =
          let p : i + size_pairs ps ≡ i' = sym (seg-length g ∙ ap (λ n. i + n) (pairs-length S.word w i _ ps)) in
          comes s-none tt (here c) (pairs-way c v ps ps (rw p at g) f.0 f.1 f.1 refl near)

      while-comes : (e : Expr) (s : Stmt) → Seg S.xs i (code S.word w i (WHILE e s)) i'
          → Fine S.word a vars chans w (WHILE e s) → Comes vars chans hi (before (WHILE e s) k) i w
      while-comes e s g f = elim (loop-parts S e s g) [
        | tested m g₁ x g₂ d g₃ ↦
            let test = i + whole_size e in
            let bound : S.off (suc test) ≤ hi =
            omega (arith, cont-bound S a c, rises-le S (suc test) i' (omega (arith, seg-length g₂, seg-length g₃)) (cont-inside S a c)) in
            comes s-none tt (here c) (while-way c v e s g f near bound)
      ]

      var-comes : (p n : ℕ) (s : Stmt) → Seg S.xs i (code S.word w i (VAR p n s)) i' → Fine S.word a vars chans w (VAR p n s)
          → Comes vars chans hi (before (VAR p n s) k) i w
      unfolding code function_in operand_in
      var-comes p n s g f =
          let fits : n ≤ w = omega (arith, f.1) in
          let e : suc (suc i) ≡ suc (suc i + 0) = omega arith in
          let same : hi ≤ hi = omega arith in
          comes s-none tt (here c)
          (open-way (before (VAR p n s) k) 0 (λ p. quiet-ldc 0) (open-parts g fits f.1 f.2 c near) f.0 fits (wide c v)
          (λ op μ r z. pt-var op f.4 same f.0 e z (λ l h. absurd (omega arith))))

      chan-comes : (p n : ℕ) (s : Stmt) → Seg S.xs i (code S.word w i (CHAN p n s)) i' → Fine S.word a vars chans w (CHAN p n s)
          → Comes vars chans hi (before (CHAN p n s) k) i w
      unfolding code function_in operand_in
      chan-comes p n s g f =
          let fits : n ≤ w = omega (arith, f.1) in
          let e : suc (suc i) ≡ suc (suc i + 0) = omega arith in
          let same : hi ≤ hi = omega arith in
          comes s-none tt (here c)
          (open-way (before (CHAN p n s) k) not_process (λ p. quiet-mint) (open-parts g fits f.1 f.2 c near) f.0 fits (wide c v)
          (λ op μ r z. pt-chan op f.3 same f.0 e z (λ l h. absurd (omega arith))))

      par-comes : (p : ℕ) (s : Stmt) (ss : Stmts) → Seg S.xs i (code S.word w i (PAR p (stmt s ss))) i'
          → Fine S.word a vars chans w (PAR p (stmt s ss))
          → Comes vars chans hi (before (PAR p (stmt s ss)) k) i w
      unfolding function_in operand_in
      par-comes p s ss g f = elim (par-parts p s ss g f c near) [
        | par-opened t x₁ x₂ x₃ x₄ x₅ x₆ ↦
            let o = less (S.off t.over) (S.off (suc (suc (suc i)))) in
            let user : S.off (suc (suc (suc i))) ≤ whole S = rises-le S (suc (suc (suc i))) (length S.xs) (inside S x₃) (omega arith) in
            let goal : S.off t.over ≤ whole S = rises-le S t.over (length S.xs) (cont-inside S a t.after) (omega arith) in
            let place : low (S.off (suc (suc (suc i))) + o) ≡ S.off t.over =
            local-word (S.off (suc (suc (suc i)))) (S.off t.over) (omega (arith, v.bytes)) (omega (arith, v.bytes)) in
            let same : hi ≤ hi = omega arith in
            let later : suc (suc (suc (suc i))) ≤ t.over = omega (arith, seg-length t.starts, seg-length t.branches) in
            let bound : S.off (suc (suc (suc (suc i)))) ≤ hi =
            omega (arith, cont-bound S a t.after, rises-le S (suc (suc (suc (suc i)))) t.over later (cont-inside S a t.after)) in
            comes s-none tt (here c) (λ μ r q.
            let down : low (r.w + minus 2) ≡ w - 2 = rw q (omega (arith, f.0, wide c v)) in
            quiet (moving (minus 2)) x₁ (quiet-ajw (minus 2))
            (quiet (pushing o) x₂ (quiet-ldc o)
            (quiet (placing (S.off (suc (suc (suc i))))) x₃ quiet-ldpi
            (arrived
            (onto (placing (S.off (suc (suc (suc i)))) (pushing o (moving (minus 2) r))) down (pt-par-place x₄ x₅ x₆ t place same))
            bound))))
      ]

      alt-comes : (gs : Guards) → Seg S.xs i (code S.word w i (ALT gs)) i' → Fine S.word a vars chans w (ALT gs)
          → Comes vars chans hi (before (ALT gs) k) i w
      unfolding function_in operand_in
      alt-comes gs g f =
          let t = alt-parts gs g f c near in
          let back : w ≡ w - 1 + 1 = omega (arith, f.0) in
          let t' : AltCode S a gs vars chans k hi i (w - 1 + 1) = subst (λ n. AltCode S a gs vars chans k hi i n) back t in
          let same : hi ≤ hi = omega arith in
          let one : i + 1 ≡ suc i = add-one i in
          let later : suc (suc i) ≤ t.over = omega (arith, t.choice-is, seg-length t.branches) in
          let bound : S.off (suc (suc i)) ≤ hi =
          omega (arith, cont-bound S a t.after, rises-le S (suc (suc i)) t.over later (cont-inside S a t.after)) in
          comes s-none tt (here c) (λ μ r q.
          let down : low (r.w + minus 1) ≡ w - 1 = rw q (omega (arith, f.0, wide c v)) in
          quiet (moving (minus 1)) t.lowers (quiet-ajw (minus 1))
          (arrived (onto (moving (minus 1) r) down
          (subst (λ n. Point S a σ vars chans (before (ALT gs) k) hi μ n (set_w (w - 1) (moving (minus 1) r))) one (pt-alt t' same)))
          bound))

      time-comes : (x : Site) → Seg S.xs i (code S.word w i (TIME x)) i' → Fine S.word a vars chans w (TIME x)
          → Comes vars chans hi (to_read x k) i w
      unfolding code
      time-comes x g f = by g c
        where
          by : {j : ℕ} → Seg S.xs i (operation I.ldtimer ∷ plain stl (local S.word w x) ∷ []) j → Cont S a hi vars chans k j w
              → Comes vars chans hi (to_read x k) i w
          by (at y (at z nil)) c' =
              let named : low (w + less (S.word x) w) ≡ S.word x = local-word w (S.word x) (wide c v) (v.vars-word x f.0) in
              let same : hi ≤ hi = omega arith in
              let bound : S.off (suc i) ≤ hi = omega (arith, cont-bound S a c', up S z) in
              comes s-none tt (here c') (λ μ r q. arrived (onto r q (pt-read y z named f c' same near)) bound)

    mutual
      unfolding enter enter_all code resume

      pub enters : (s : Stmt) {hi i i' w : ℕ} {vars chans : List Site} {k : List Frame} → Seg S.xs i (code S.word w i s) i'
          → Fine S.word a vars chans w s → (c : Cont S a hi vars chans k i' w) → hi ≤ whole S + S.off i
          → Sound S a σ vars chans
          → Comes vars chans hi (resume k) i' w
          → Comes vars chans hi (begin s k) i w
      enters SKIP nil f c near v (comes sk settled sub way) = comes (s-skip sk) settled sub way
      enters STOP (at x nil) f c near v rest =
          comes s-none tt (here c) (λ μ r q. arrived (pt-stop x (clear c v r q f)) (cont-bound S a c))
      enters (assign x e) {i} {w} g f c near v rest =
          let (g₁, g₂) = cut (whole_code S.word w e) (i + whole_size e) (omega (arith, whole_length S.word w e)) g in
          assign-comes x e g₁ g₂ f c near v
      enters (input d x) g f c near v rest = input-comes d x g f c near v
      enters (output d e) {i} {w} g f c near v rest =
          let (g₁, g₂) = cut (whole_code S.word w e) (i + whole_size e) (omega (arith, whole_length S.word w e)) g in
          output-comes d e g₁ g₂ f c near v
      enters (VAR p n s) g f c near v rest = var-comes c near v p n s g f
      enters (CHAN p n s) g f c near v rest = chan-comes c near v p n s g f
      enters (SEQ ss) g f c near v rest = enters-all ss g f c near v rest
      enters (PAR p no_stmt) nil f c near v (comes sk settled sub way) = comes (s-par sk) settled sub way
      enters (PAR p (stmt s ss)) g f c near v rest = par-comes c near v p s ss g f
      enters (IF ps) g f c near v rest = if-comes c near v ps g f
      enters (WHILE e s) g f c near v rest = while-comes c near v e s g f
      enters (ALT gs) g f c near v rest = alt-comes c near v gs g f
      enters (TIME x) g f c near v rest = time-comes c near v x g f
      enters (WAIT e) {i} {w} g f c near v rest =
          let (g₁, g₂) = cut (whole_code S.word w e) (i + whole_size e) (omega (arith, whole_length S.word w e)) g in
          wait-comes e g₁ g₂ f c near v

      pub enters-all : (ss : Stmts) {hi i i' w : ℕ} {vars chans : List Site} {k : List Frame} → Seg S.xs i (code_all S.word w i ss) i'
          → FineAll S.word a vars chans w ss
          → (c : Cont S a hi vars chans k i' w) → hi ≤ whole S + S.off i → Sound S a σ vars chans
          → Comes vars chans hi (resume k) i' w
          → Comes vars chans hi (enter_all ss k (resume k)) i w
      enters-all no_stmt nil f c near v rest = rest
      enters-all (stmt s ss) {hi} {i} {w} {k} g f c near v rest =
          let (g₁, g₂) = cut (code S.word w i s) (i + size s) (omega (arith, code-length S.word w i s)) g in
          let near_on : hi ≤ whole S + S.off (i + size s) =
          omega (arith, rises-le S i (i + size s) (omega arith) (omega (arith, seg-length g₂, cont-inside S a c))) in
          enters s g₁ f.0 (c-seq g₂ f.1 c) near v (enters-all ss g₂ f.1 c near_on v rest)

    -- from where the frames' parts are over
    pub arrives : {hi i w : ℕ} {vars chans : List Site} {k : List Frame} (c : Cont S a hi vars chans k i w) → hi ≤ whole S + S.off i
        → Sound S a σ vars chans → Comes vars chans hi (resume k) i w
    unfolding resume function_in operand_in
    arrives (c-end e r h) near v =
        comes s-none tt (here (c-end e r h)) (λ μ r q. let last : whole S ≤ whole S = omega arith in through refl last (refl, e))
    arrives (c-join {i} {d} e x y r h) near v =
        let same : S.off (suc (suc i)) ≤ S.off (suc (suc i)) = omega arith in
        comes s-none tt (here (c-join e x y r h)) (λ μ r q.
        quiet (pointing d) x (quiet-ldlp d) (arrived (pt-end {r = pointing d r} e y (rw q (omega (arith, v.joined d e))) q) same))
    arrives (c-seq {i} {i'} {ss} g f c) near v =
        enters-all ss g f c near v (arrives c (omega (arith, rises-le S i i' (omega (arith, seg-length g)) (cont-inside S a c))) v)
    arrives (c-var {i} {w} {p} {n} e room h c) near v =
        elim (arrives c (omega (arith, up S e)) (sound-vars (names p n) v)) [
          | comes sk settled sub way ↦
              comes sk settled (record {
                vars-in = λ x m. Memᴰ.append_right (names p n) (sub.vars-in x m);
                chans-in = sub.chans-in;
                live = sub.live;
                placed = placed-down S w n room sub.placed;
              })
              (λ μ r q. quiet (moving n) e (quiet-ajw n) (way μ (moving n r) (rw q (omega (arith, cont-low S a c, v.high)))))
        ]
    arrives (c-chan {i} {w} {p} {n} e room h c) near v =
        elim (arrives c (omega (arith, up S e)) (sound-chans (names p n) v)) [
          | comes sk settled sub way ↦
              comes sk settled (record {
                vars-in = sub.vars-in;
                chans-in = λ x m. Memᴰ.append_right (names p n) (sub.chans-in x m);
                live = sub.live;
                placed = placed-down S w n room sub.placed;
              })
              (λ μ r q. quiet (moving n) e (quiet-ajw n) (way μ (moving n r) (rw q (omega (arith, cont-low S a c, v.high)))))
        ]
    arrives (c-up {i} {w} {n} e room c) near v =
        elim (arrives c (omega (arith, up S e)) v) [
          | comes sk settled sub way ↦
              comes sk settled (record {
                vars-in = sub.vars-in;
                chans-in = sub.chans-in;
                live = sub.live;
                placed = placed-down S w n room sub.placed;
              })
              (λ μ r q. quiet (moving n) e (quiet-ajw n) (way μ (moving n r) (rw q (omega (arith, cont-low S a c, v.high)))))
        ]
    arrives (c-while {hi} {i} {b} {w} {e} {s} g f n l c) near v = elim (loop-parts S e s g) [
      | tested m g₁ x g₂ d g₃ ↦
          let p : i ≡ m = omega (arith, seg-length g₃) in
          let back : At S i (distance I.j b i) = rw p d in
          comes s-none tt (here c) (λ μ r q.
          let reach : S.off (suc (b + whole_size e)) + S.off (suc i) ≤ hi + S.off b = omega arith in
          jumps back (omega (arith, inside S x)) (clear c v r q f.0) reach
          (λ μ' r' q'. while-way c v e s g f n (omega arith) μ' r' (q' ∙ q)))
    ]
    arrives (c-hop {hi} {i} {t} {w} e two l c) near v =
        elim (arrives c (omega (arith, rises-le S i t (omega arith) (cont-inside S a c))) v) [
          | comes {vars'} {chans'} sk settled sub way ↦
              comes sk settled sub (λ μ r q.
              let ready : Clear S a vars' chans' r.w =
              subst (λ w. Clear S a vars' chans' w) (sym q) sub.placed in
              let reach : hi + S.off (suc i) ≤ hi + S.off t = omega (arith, rises-le S (suc i) t l (cont-inside S a c)) in
              jumps e (cont-inside S a c) ready reach (λ μ' r' q'. way μ' r' (q' ∙ q)))
        ]
