-- The model's code of ALT is put into the list.
use Prim.Native.Nat.{ℕ, suc, ◌+◌, ◌-◌, ◌^◌, ◌≤◌, ◌<◌}
use native.Mathlib.Omega.{arith}
use native.Mathlib.Nat.{add-zero, mod-eq_of_lt}
use mathlib.Core.Path.{◌≡◌, refl, sym, ap, subst, ◌∙◌}
use mathlib.Core.Bool.{Bool, true, false, cond}
use mathlib.Core.List.{List, [], ◌∷◌, ◌++◌, append_assoc}
use lib.ListN.{length, length-append, length-replicate, length-set, set}
use lib.Seq.{sets}
use Rattle.assembler.specs.declared.entry.Entry.{Entry}
use Rattle.model.specs.Limits.{word_limit}
use Rattle.model.specs.Word.{low, less, minus}
use Rattle.model.specs.Syntax.{Site, Expr, Stmt, ALT, input_guard, skip_guard, time_guard, Guards, no_guard, guard, timed}
use Rattle.model.specs.Syntax as Syntax
use Rattle.model.specs.Reader as M
use Rattle.model.specs.Counts.{need, guard_need}
use Rattle.model.specs.Instruction as I
use Rattle.model.specs.Instruction.{Operation, Instruction, plain, distance, operation, ldlp, ldc, ajw, rev, disc, diss, altwt, altend}
use Rattle.model.specs.Instruction.{enbc, enbs, enbt, dist, talt, taltwt, function_code, operation_code}
use Rattle.model.specs.Scheme.{size, size_enable, size_disable, size_branches, local, guard_code, both_code, input_code, code, code_enable}
use Rattle.model.specs.Scheme.{code_disable, begins_alt, waits_alt}
use Rattle.model.specs.Scheme.{code_branches, alt_words, input_size, enable_size, disable_size, enable_code, disable_code, guard_input}
use Rattle.model.proofs.Tables.WellFormed.{Laid, LaidGuards}
use Rattle.model.proofs.Coding.Sizes.{code-length, enable-length, disable-length, branches-length}
use Rattle.plan.specs.Extents.{extent_in}
use Rattle.plan.specs.declared.extent.Extent.{Extent}
use Rattle.assembler.specs.Entries.{entries_of}
use Rattle.expressions.specs.Emits.{at, plain_into, operation_into}
use Rattle.expressions.specs.Names.{Names}
use Rattle.expressions.specs.Exprs.{written}
use Rattle.expressions.specs.Simples.{in_into, input_into}
use Rattle.statements.specs.Stmts.{Open, no_ends}
use Rattle.statements.specs.Alts.{waiting_into, guard_into, guarded, is_timed, statement_of, next_guard, timed_in, enable_into}
use Rattle.statements.specs.Alts.{disable_into}
use Rattle.statements.specs.Alts.{branch_input, choice_into, choices_into, guards_into, front_into, alt_into}
use Rattle.model.specs.declared.kinds.StmtKind.TheVariants.{Alt}
use Rattle.model.specs.declared.kinds.GuardKind.{GuardKind}
use Rattle.model.specs.declared.kinds.GuardKind.TheVariants.{Input as InputGuard, Skip as SkipGuard, Time as TimeGuard}
use Rattle.numbers.specs.Kinds.{stmt_kind, guard_kind, by_guard, count_in}
use Rattle.instruction.specs.Codes.{AJW, ALT as ALT-code, ALTWT, DISC, DISS, DIST, ENBC, ENBS, ENBT, TALT, TALTWT}
use Rattle.statements.specs.Kinds.{stmt_into, inner_at, inside_into, parts_into}
use Rattle.statements.specs.declared.alt.Guard.{Guard}
use Rattle.statements.proofs.Spelled.{KindAt, OneAt, ExprAt, CountAt, StmtAt, GuardAt, input_guard_at, skip_guard_at, time_guard_at}
use Rattle.statements.proofs.Spelled.{GuardsAt, no_guard_at, guards_at}
use Rattle.statements.proofs.Planned.{next-is, PlannedExpr, PlannedGuard, PlannedStmt, PlannedGuards}
use Rattle.statements.proofs.Fills.{filled, fill-then, fill-before, fill_none, fill-swap, Room, room-left, room-right, emits}
use Rattle.statements.proofs.Fills.{emits-fills, emits-at, gap-fills}
use Rattle.statements.proofs.Closes.{closed, close-is, Kept, kept-all, kept_more, closed-more, closed_none}
use Rattle.statements.proofs.ExprCode.{whole-coded, both-coded, local-is}
use Rattle.statements.proofs.Compiles.{Scoped, inner-scope, Placed, Written, Compiles}

-- a guard, its expressions put
abbrev guard_of : (next here : ℕ) → GuardKind → Guard
guard_of n h kind = record { at = n; here = h; kind = kind }

-- the operations of an ALT by whether it has a time guard
begins-code : (b : Bool) → cond b TALT ALT-code ≡ operation_code (cond b talt I.alt)
unfolding operation_code
begins-code true = refl
begins-code false = refl

waits-code : (b : Bool) → cond b TALTWT ALTWT ≡ operation_code (cond b taltwt altwt)
unfolding operation_code
waits-code true = refl
waits-code false = refl

-- what ends a guard's disabling: LDC branch, DISC, DISS or DIST
abbrev disabling : Operation → (b choice : ℕ) → List Instruction
disabling op b choice = distance ldc b choice ∷ operation op ∷ []

same-less : (h n : ℕ) → h + n < 2 ^ 32 → less (h + n) h ≡ n
same-less h n l =
    let e : h + n + 2 ^ 32 - h ≡ n + 2 ^ 32 = omega arith in
    rw e (omega arith)

module _ (word : Site → ℕ) (workspace : ℕ → ℕ) (s plan : List ℕ) where
  -- the disabling has an instruction more for each guard
  disable-more : {k i n d : ℕ} {sc : M.Scope} {gs : Guards} → GuardsAt s d sc k i gs n → size_disable gs ≡ size_enable gs + k
  unfolding size_disable disable_size enable_size
  disable-more no_guard_at = refl
  disable-more (guards_at (input_guard_at k t ch v) a g) = omega (arith, disable-more g)
  disable-more (guards_at (skip_guard_at k t) a g) = omega (arith, disable-more g)
  disable-more (guards_at (time_guard_at k t x) a g) = omega (arith, disable-more g)

  -- the plan tells where a guard's statement stands, and so the next guard and whether there is a time guard
  statement-is : {d i n : ℕ} {sc : M.Scope} {g : Syntax.Guard} (a : GuardAt s d sc i g n) → PlannedGuard s plan a →
      statement_of plan s i ≡ n
  unfolding statement_of
  statement-is (input_guard_at k t ch v) told = rw (k.value, k.is, told.0.next, next-is s ch.there, next-is s v.there) refl
  statement-is (skip_guard_at k t) told = rw (k.value, k.is, told.0.next) refl
  statement-is (time_guard_at k e t) told = rw (k.value, k.is, told.0.0.next, told.1.0.next) refl

  next-guard-is : {d i n m : ℕ} {sc : M.Scope} {g : Syntax.Guard} {b : Stmt} (a : GuardAt s d sc i g n) → PlannedGuard s plan a
      → (c : StmtAt s d sc n b m) → PlannedStmt s plan c → need b ≤ word_limit → next_guard plan s i ≡ m
  unfolding next_guard
  next-guard-is a told c told-too few =
      ap (λ (j : ℕ). (extent_in plan j).next) (statement-is a told) ∙ ap (λ (x : Extent). x.next) (told-too.0 few)

  guard-timed : {d i n : ℕ} {sc : M.Scope} {g : Syntax.Guard} → GuardAt s d sc i g n → is_timed s i ≡ Syntax.is_timed g
  unfolding is_timed
  guard-timed (input_guard_at k t ch v) = rw (k.value, k.is) refl
  guard-timed (skip_guard_at k t) = rw (k.value, k.is) refl
  guard-timed (time_guard_at k e t) = rw (k.value, k.is) refl

  timed-is : {k i n d : ℕ} {sc : M.Scope} {gs : Guards} (a : GuardsAt s d sc k i gs n) → PlannedGuards s plan a → guard_need gs ≤ word_limit
      → timed_in k plan s i ≡ timed gs
  unfolding timed_in timed PlannedGuards guard_need
  timed-is no_guard_at told few = refl
  timed-is (guards_at g a h) told few =
      rw (
        guard-timed g,
        next-guard-is g told.0 a told.1 (omega arith),
        timed-is h told.2 (omega arith),
      )
      refl

  -- a guard's enabling and its disabling begin with G
  abbrev Begins : (depth : ℕ) → Names → (w i next h : ℕ) (o : List Entry) → GuardKind → List Instruction → Type 0
  Begins d ns w i n h o kind G =
      Room h G → guard_into d w ns plan s i (at h o) ≡ guarded (guard_of n (h + length G) kind) (sets o h (entries_of G))

  module _ {d : ℕ} {sc : M.Scope} {ns : Names} (scope : Scoped word (suc d) sc ns) where
    -- what enabling and disabling begin with: the condition, and for a guard that waits LDLP channel, REV
    abbrev waiting : (w : ℕ) → Expr → Site → List Instruction
    waiting w e c = guard_code word w e ++ plain ldlp (local word w c) ∷ operation rev ∷ []

    waiting-fills : {i n m p : ℕ} {e : Expr} {c : Site} (w h : ℕ) (o : List Entry) → KindAt s guard_kind i InputGuard n
        → (x : ExprAt s sc.variables d n e m) → PlannedExpr s plan x → OneAt s sc.channels m c p
        → Begins d ns w i m h o InputGuard (waiting w e c)
    unfolding guard_into waiting_into function_code operation_code operation_into
    waiting-fills {e = e} {c = c} w h o k x told ch r =
        rw (
          k.value,
          k.is,
          whole-coded word s plan alt_words (omega arith) scope.variables w x told h o (room-left h (guard_code word w e) _ r),
          ch.there.value,
          local-is word s scope.channels w ch,
          emits-fills (plain ldlp (local word w c) ∷ operation rev ∷ []) h (guard_code word w e) o r,
        )
        refl

    skipping-fills : {i n m : ℕ} {e : Expr} (w h : ℕ) (o : List Entry) → KindAt s guard_kind i SkipGuard n
        → (x : ExprAt s sc.variables d n e m) → PlannedExpr s plan x → Begins d ns w i m h o SkipGuard (guard_code word w e)
    unfolding guard_into
    skipping-fills w h o k x told r =
        rw (k.value, k.is, whole-coded word s plan alt_words (omega arith) scope.variables w x told h o r) refl

    -- 02, order 4: time and condition
    timing-fills : {i n m p : ℕ} {e t : Expr} (w h : ℕ) (o : List Entry) → KindAt s guard_kind i TimeGuard n
        → (x : ExprAt s sc.variables d n e m) → PlannedExpr s plan x → (y : ExprAt s sc.variables d m t p) → PlannedExpr s plan y
        → Begins d ns w i p h o TimeGuard (both_code word w t e)
    unfolding guard_into
    timing-fills w h o k x told y told-too r =
        rw (k.value, k.is, both-coded word s plan alt_words (omega arith) scope.variables w x told y told-too h o r) refl

    enable-waits : (w : ℕ) (e : Expr) (c x : Site) (y : Stmt) (gs : Guards)
        → code_enable word w (guard (input_guard e c x) y gs) ≡ waiting w e c ++ operation enbc ∷ [] ++ code_enable word w gs
    unfolding code_enable enable_code
    enable-waits w e c x y gs = simp append_assoc

    enable-skips : (w : ℕ) (e : Expr) (y : Stmt) (gs : Guards)
        → code_enable word w (guard (skip_guard e) y gs) ≡ guard_code word w e ++ operation enbs ∷ [] ++ code_enable word w gs
    unfolding code_enable enable_code
    enable-skips w e y gs = simp append_assoc

    enable-times : (w : ℕ) (e t : Expr) (y : Stmt) (gs : Guards)
        → code_enable word w (guard (time_guard e t) y gs) ≡ both_code word w t e ++ operation enbt ∷ [] ++ code_enable word w gs
    unfolding code_enable enable_code
    enable-times w e t y gs = simp append_assoc

    disable-waits : (w choice b : ℕ) (e : Expr) (c x : Site) (y : Stmt) (gs : Guards)
        → code_disable word w choice b (guard (input_guard e c x) y gs)
        ≡ waiting w e c ++ disabling disc b choice ++ code_disable word w choice (b + 1 + 4 + size y + 1) gs
    unfolding code_disable disable_code input_size
    disable-waits w choice b e c x y gs = simp append_assoc

    disable-skips : (w choice b : ℕ) (e : Expr) (y : Stmt) (gs : Guards)
        → code_disable word w choice b (guard (skip_guard e) y gs)
        ≡ guard_code word w e ++ disabling diss b choice ++ code_disable word w choice (b + 1 + 0 + size y + 1) gs
    unfolding code_disable disable_code input_size
    disable-skips w choice b e y gs = simp append_assoc

    disable-times : (w choice b : ℕ) (e t : Expr) (y : Stmt) (gs : Guards)
        → code_disable word w choice b (guard (time_guard e t) y gs)
        ≡ both_code word w t e ++ disabling dist b choice ++ code_disable word w choice (b + 1 + 0 + size y + 1) gs
    unfolding code_disable disable_code input_size
    disable-times w choice b e t y gs = simp append_assoc

    -- the enabling of k guards is E
    record Enables (w k i h : ℕ) (o : List Entry) (E : List Instruction) : Type 0 where
      enables : enable_into k d w ns plan s i (at h o) ≡ filled h E o

    none-enabled : {i : ℕ} (w h : ℕ) (o : List Entry) → Enables w 0 i h o (code_enable word w no_guard)
    unfolding enable_into code_enable
    none-enabled w h o = record { enables = sym (fill_none h o) }

    -- a guard that begins with G, and those behind it
    enable-more : {k i m q : ℕ} (kind : GuardKind) (op : Operation) (w h : ℕ) (o : List Entry) (G : List Instruction)
        {E C : List Instruction}
        → C ≡ G ++ operation op ∷ [] ++ E → by_guard kind ENBC ENBS ENBT ≡ operation_code op → Room h C
        → Begins d ns w i m h o kind G → next_guard plan s i ≡ q
        → ((h : ℕ) (o : List Entry) → Room h E → Enables w k q h o E) → Enables w (suc k) i h o C
    unfolding enable_into function_code operation_into
    enable-more kind op w h o G {E} {C} c-is op-is r begun place rest =
        let N = operation op ∷ [] in
        let r2 : Room h (G ++ N ++ E) = subst (Room h) c-is r in
        let front = room-left h (G ++ N) E r2 in
        record {
          enables = rw (
            begun (room-left h G N front),
            op-is,
            emits-fills N h G o front,
            place,
            (rest (h + length (G ++ N)) (sets o h (entries_of (G ++ N))) (room-right h (G ++ N) E r2)).enables,
            c-is,
          )
              (fill-then h (G ++ N) E o);
        }

    enable-fills : {k i n : ℕ} {gs : Guards} (w h : ℕ) (o : List Entry) (a : GuardsAt s d sc k i gs n) → PlannedGuards s plan a
        → guard_need gs ≤ word_limit
        → Room h (code_enable word w gs) → Enables w k i h o (code_enable word w gs)
    unfolding PlannedGuards guard_need operation_code
    enable-fills w h o no_guard_at told few r = none-enabled w h o
    enable-fills w h o (guards_at {b = y} {gs = gs} (input_guard_at {e = e} {c = c} {x = x} k t ch v) a g) told few r =
        enable-more InputGuard enbc w h o (waiting w e c) (enable-waits w e c x y gs) refl r (waiting-fills w h o k t told.0 ch)
        (next-guard-is (input_guard_at k t ch v) told.0 a told.1 (omega arith))
        (λ h o r. enable-fills w h o g told.2 (omega arith) r)
    enable-fills w h o (guards_at {b = y} {gs = gs} (skip_guard_at {e = e} k t) a g) told few r =
        enable-more SkipGuard enbs w h o (guard_code word w e) (enable-skips w e y gs) refl r (skipping-fills w h o k t told.0)
        (next-guard-is (skip_guard_at k t) told.0 a told.1 (omega arith))
        (λ h o r. enable-fills w h o g told.2 (omega arith) r)
    enable-fills w h o (guards_at {b = y} {gs = gs} (time_guard_at {e = e} {t = x} k t u) a g) told few r =
        enable-more TimeGuard enbt w h o (both_code word w x e) (enable-times w e x y gs) refl r
        (timing-fills w h o k t told.0.0 u told.0.1)
        (next-guard-is (time_guard_at k t u) told.0 a told.1 (omega arith))
        (λ h o r. enable-fills w h o g told.2 (omega arith) r)

  -- one branch with its J, and its disabling, each in its own area
  choice-stores : (a : ℕ) (xs xs2 : List Instruction) (h : ℕ) (ys : List Instruction) (x : Instruction) (ys2 : List Instruction)
      (o : List Entry) → a + length xs + length xs2 ≤ h
      → sets
      (sets
      (sets (sets (sets o a (entries_of xs)) h (entries_of ys)) (h + length ys + 1) (entries_of ys2))
      (a + length xs)
      (entries_of xs2))
      (h + length ys)
      (entries_of (x ∷ []))
      ≡ sets (sets o h (entries_of (ys ++ x ∷ ys2))) a (entries_of (xs ++ xs2))
  choice-stores a xs xs2 h ys x ys2 o l =
      rw (
        fill-swap (a + length xs) xs2 (h + length ys) (x ∷ [])
            (sets (sets (sets o a (entries_of xs)) h (entries_of ys)) (h + length ys + 1) (entries_of ys2)) (omega arith),
        gap-fills h ys x ys2 (sets o a (entries_of xs)),
        fill-swap a xs h (ys ++ x ∷ ys2) o (omega arith),
      )
      (ap (λ c. c.list) (fill-then a xs xs2 (sets o h (entries_of (ys ++ x ∷ ys2)))))

  module _ {d : ℕ} {sc : M.Scope} {ns : Names} (w : ℕ) (fits : w ≤ word_limit) (scope : Scoped word (suc d) sc ns)
      (inner : Compiles word workspace s plan d) where
    -- what guards have come to, from the q-th end on: with the Js their disabling is D, in an area of its own, and their branches are B
    record Chooses (r : Open) (k q n over dis h : ℕ) (e : List ℕ) (o : List Entry) (D B : List Instruction) : Type 0 where
      next : r.next ≡ n
      here : r.here ≡ h + length B
      kept : Kept q e r.ends
      closes : closed k q r.ends over r.list ≡ sets (sets o h (entries_of B)) dis (entries_of D)

    abbrev chosen_by : (k q choice : ℕ) (e : List ℕ) (i dis h : ℕ) (o : List Entry) → Open
    chosen_by k q choice e i dis h o = choices_into k q d (inner_at d plan s) w ns plan s choice e i dis (at h o)

    none-chosen : {i : ℕ} (q choice over dis h : ℕ) (e : List ℕ) (o : List Entry)
        → Chooses (chosen_by 0 q choice e i dis h o) 0 q i over dis h e o (code_disable word (w - 1) choice h no_guard)
        (code_branches word w h over no_guard)
    unfolding choices_into code_disable code_branches entries_of
    none-chosen q choice over dis h e o = record {
      next = refl;
      here = sym (add-zero h);
      kept = kept-all q e;
      closes = closed_none q e over o;
    }

    -- one guard that begins with G, whose branch is F and the code of y
    one-chosen : {z n : ℕ} {y : Stmt} (i m : ℕ) (kind : GuardKind) (op : Operation) (choice dis h j : ℕ) (o : List Entry)
        (G F : List Instruction)
        → by_guard kind DISC DISS DIST ≡ operation_code op → h + length F ≡ j → Laid workspace w y → need y ≤ word_limit
        → Room dis (G ++ disabling op h choice) → j + size y < 2 ^ 32 → Begins d ns (w - 1) i m dis o kind G
        → ((o : List Entry) → branch_input (guard_of m (dis + length G) kind) w ns s (plain_into AJW 1 (at h o))
        ≡ written z (emits F (at h o)))
        → (a : StmtAt s d sc z y n) → PlannedStmt s plan a
        → choice_into d (inner_at d plan s) w ns plan s choice i dis (at h o)
        ≡ record {
          next = n;
          disable = dis + length (G ++ disabling op h choice);
          here = j + size y;
          list = sets (sets o dis (entries_of (G ++ disabling op h choice))) h (entries_of (F ++ code word w j y));
        }
    unfolding choice_into disable_into function_code operation_into
    one-chosen {n = n} {y = y} i m kind op choice dis h j o G F op-is index laid few rd rb begun branch a told =
        let X = disabling op h choice in
        let B = code word w j y in
        let O = sets o dis (entries_of (G ++ X)) in
        let long : length B ≡ size y = code-length word w j y in
        rw (
          begun (room-left dis G X rd),
          op-is,
          emits-fills X dis G o rd,
          branch O,
          emits-at F h O (omega arith),
          index,
          inner.compiles w j a told (inner-scope scope) (record { laid = laid; low = fits; few = few; room = omega arith })
              (sets O h (entries_of F)),
          long,
        )
        (ap (λ l. record { next = n; disable = dis + length (G ++ X); here = j + size y; list = l })
        (rw index at (ap (λ c. c.list) (fill-then h F B O))))

    -- the same, and the guards behind it
    choice-more : {k n z p : ℕ} {y : Stmt} (i m : ℕ) (kind : GuardKind) (op : Operation) (q choice over dis h j : ℕ) (e : List ℕ)
        (o : List Entry)
        (G F D R : List Instruction) {C A : List Instruction} → C ≡ G ++ disabling op h choice ++ D
        → A ≡ F ++ code word w j y ++ distance I.j over (j + size y) ∷ R → by_guard kind DISC DISS DIST ≡ operation_code op →
        h + length F ≡ j
        → q < length e → Laid workspace w y → need y ≤ word_limit → Room h A → dis + length C ≤ h
        → Begins d ns (w - 1) i m dis o kind G
        → ((o : List Entry) → branch_input (guard_of m (dis + length G) kind) w ns s (plain_into AJW 1 (at h o))
        ≡ written z (emits F (at h o)))
        → (a : StmtAt s d sc z y p) → PlannedStmt s plan a
        → ((dis : ℕ) (e : List ℕ) (o : List Entry) → suc q + k ≤ length e → Room (j + size y + 1) R → dis + length D ≤ j + size y + 1
        → Chooses (chosen_by k (suc q) choice e p dis (j + size y + 1) o) k (suc q) n over dis (j + size y + 1) e o D R)
        → q + suc k ≤ length e → Chooses (chosen_by (suc k) q choice e i dis h o) (suc k) q n over dis h e o C A
    unfolding choices_into
    choice-more {k} {y = y} i m kind op q choice over dis h j e o G F D R {C} {A} c-is a-is op-is index room laid few r l begun branch a
        told rest ends-room =
        let X = disabling op h choice in
        let B = code word w j y in
        let leave = j + size y in
        let J = distance I.j over leave in
        let c-long : length C ≡ length (G ++ X) + length D = ap length c-is ∙ length-append (G ++ X) D in
        let a-long : length A ≡ length (F ++ B) + suc (length R) = ap length a-is ∙ length-append (F ++ B) (J ∷ R) in
        let f-long = length-append F B in
        let b-long = code-length word w j y in
        let left : h + length (F ++ B) ≡ leave = omega arith in
        let next : low (leave + 1) ≡ leave + 1 = mod-eq_of_lt (omega arith) in
        let O = sets (sets o dis (entries_of (G ++ X))) h (entries_of (F ++ B)) in
        let more = rest (dis + length (G ++ X)) (set e q leave) O (omega (arith, length-set e q leave)) (omega arith) (omega arith) in
        let ends = kept_more {e = e} leave room more.kept in
        rw (one-chosen i m kind op choice dis h j o G F op-is index laid few (omega arith) (omega arith) begun branch a told, next)
        (record {
          next = more.next;
          here = more.here ∙ omega arith;
          kept = ends.0;
          closes = closed-more k q _ over leave _ ends.1
              ∙ rw (more.closes, c-is, a-is) (rw left at (choice-stores dis (G ++ X) D h (F ++ B) J R o (omega arith)));
        })

    choices-fill : {k i n : ℕ} {gs : Guards} (q choice over dis h : ℕ) (e : List ℕ) (o : List Entry) (a : GuardsAt s d sc k i gs n)
        → PlannedGuards s plan a → LaidGuards workspace w gs → guard_need gs ≤ word_limit → q + k ≤ length e
        → Room h (code_branches word w h over gs) → dis + length (code_disable word (w - 1) choice h gs) ≤ h
        → Chooses (chosen_by k q choice e i dis h o) k q n over dis h e o (code_disable word (w - 1) choice h gs)
        (code_branches word w h over gs)
    unfolding PlannedGuards code_branches guard_input input_size need branch_input in_into input_into function_code operation_code
        operation_into
    choices-fill q choice over dis h e o no_guard_at told laid few m r l = none-chosen q choice over dis h e o
    choices-fill {i = i} q choice over dis h e o
        (guards_at {b = y} {gs = gs} (input_guard_at {m = at-channel} {e = x} {c = c} {x = z} k t ch v) a g) told laid few m r l =
        let after = h + 1 + 4 + size y + 1 in
        choice-more i at-channel InputGuard disc q choice over dis h (h + 1 + 4) e o (waiting scope (w - 1) x c)
        (plain ajw 1 ∷ input_code word w c z) (code_disable word (w - 1) choice after gs) (code_branches word w after over gs)
        (disable-waits scope (w - 1) choice h x c z y gs) refl refl (omega arith) (omega arith) laid.0 (omega arith) r l
        (waiting-fills scope (w - 1) dis o k t told.0 ch)
        (λ o. rw (
          ch.there.value,
          v.there.value,
          local-is word s scope.channels w ch,
          local-is word s scope.variables w v,
        )) a told.1
        (λ dis e o m r l. choices-fill (suc q) choice over dis after e o g told.2 laid.1 (omega arith) m r l) m
    choices-fill {i = i} {n = n} q choice over dis h e o (guards_at {n = at-statement} {b = y} {gs = gs} (skip_guard_at {e = x} k t) a g)
        told
        laid few m r l =
        let after = h + 1 + 0 + size y + 1 in
        choice-more i at-statement SkipGuard diss q choice over dis h (h + 1 + 0) e o (guard_code word (w - 1) x) (plain ajw 1 ∷ [])
        (code_disable word (w - 1) choice after gs) (code_branches word w after over gs)
        (disable-skips scope (w - 1) choice h x y gs) refl refl (omega arith) (omega arith) laid.0 (omega arith) r l
        (skipping-fills scope (w - 1) dis o k t told.0) (λ o. refl) a told.1
        (λ dis e o m r l. choices-fill (suc q) choice over dis after e o g told.2 laid.1 (omega arith) m r l) m
    choices-fill {i = i} {n = n} q choice over dis h e o
        (guards_at {n = at-statement} {b = y} {gs = gs} (time_guard_at {e = x} {t = z} k t u) a g) told laid few m r l =
        let after = h + 1 + 0 + size y + 1 in
        choice-more i at-statement TimeGuard dist q choice over dis h (h + 1 + 0) e o (both_code word (w - 1) z x) (plain ajw 1 ∷ [])
        (code_disable word (w - 1) choice after gs) (code_branches word w after over gs)
        (disable-times scope (w - 1) choice h x z y gs) refl refl (omega arith) (omega arith) laid.0 (omega arith) r l
        (timing-fills scope (w - 1) dis o k t told.0.0 u told.0.1) (λ o. refl) a told.1
        (λ dis e o m r l. choices-fill (suc q) choice over dis after e o g told.2 laid.1 (omega arith) m r l) m

    pub alt-code : {i n m q k : ℕ} {gs : Guards} (j : ℕ) → KindAt s stmt_kind i Alt n → CountAt s 0 32 n k m →
        (a : GuardsAt s d sc k m gs q)
        → PlannedGuards s plan a → Placed word workspace s plan w j (ALT gs) → Written word workspace s plan (suc d) ns w j i q (ALT gs)
    unfolding stmt_into inside_into parts_into alt_into front_into guards_into count_in code need function_code operation_code
        operation_into
    alt-code {q = q} {k = k} {gs = gs} j t c a told p o =
        let choice = j + 2 + size_enable gs + 1 + size_disable gs in
        let over = choice + 1 + size_branches gs in
        let A = plain ajw (minus 1) ∷ operation (begins_alt gs) ∷ [] in
        let E = code_enable word (w - 1) gs in
        let N = operation (waits_alt gs) ∷ [] in
        let D = code_disable word (w - 1) choice (choice + 1) gs in
        let Z = operation altend ∷ [] in
        let B = code_branches word w (choice + 1) over gs in
        let shape : code word w j (ALT gs) ≡ A ++ E ++ (N ++ (D ++ (Z ++ B))) = simp append_assoc in
        let r : Room j (A ++ E ++ (N ++ (D ++ (Z ++ B)))) = subst (Room j) shape p.room in
        let e-long = enable-length word (w - 1) gs in
        let d-long = disable-length word (w - 1) choice (choice + 1) gs in
        let b-long = branches-length word w (choice + 1) over gs in
        let more = disable-more a in
        let all : length (A ++ E ++ (N ++ (D ++ (Z ++ B)))) ≡ 2 + length E + 1 + length D + 1 + length B =
        length-append (A ++ E) (N ++ (D ++ (Z ++ B))) ∙ omega (arith, length-append D (Z ++ B)) in
        let P = sets o j (entries_of (A ++ E)) in
        let waits = j + length (A ++ E) in
        let Q = sets P waits (entries_of N) in
        let same : less (j + 2 + length E) (j + 2) ≡ length E = same-less (j + 2) (length E) (omega arith) in
        let sum : low (length E + k) ≡ length E + k = mod-eq_of_lt (omega arith) in
        let placed : low (waits + 1 + (length E + k)) ≡ choice = mod-eq_of_lt (omega arith) ∙ omega arith in
        let Y = D ++ (Z ++ B) in
        let end : choice + 1 + length B ≡ over = omega arith in
        let place : over ≡ j + length (A ++ E ++ (N ++ Y)) = omega arith in
        let index : waits + 1 + length D ≡ choice = omega arith in
        let disabled : sets (sets Q choice (entries_of (Z ++ B))) (waits + 1) (entries_of D) ≡ sets Q (waits + 1) (entries_of Y) =
        rw index at (fill-before (waits + 1) D (Z ++ B) Q) in
        let stored : sets (sets (sets Q choice (entries_of Z)) (choice + 1) (entries_of B)) (waits + 1) (entries_of D)
        ≡ sets o j (entries_of (A ++ E ++ (N ++ Y))) =
        rw (
          ap (λ c. c.list) (fill-then choice Z B Q),
          disabled,
          ap (λ c. c.list) (fill-then waits N Y P),
          ap (λ c. c.list) (fill-then j (A ++ E) (N ++ Y) o),
        )
        refl in
        let f = choices-fill 0 choice over (waits + 1) (choice + 1) no_ends (sets Q choice (entries_of Z)) a told p.laid
        (omega (arith, p.few)) (omega (arith, c.most, length-replicate {A = ℕ} 32 0)) (omega arith) (omega arith) in
        rw (
          t.value,
          t.is,
          c.there.value,
          c.fits,
          timed-is a told (omega (arith, p.few)),
          begins-code (timed gs),
          waits-code (timed gs),
          emits-at A j o (omega arith),
          (enable-fills scope (w - 1) (j + 2) (sets o j (entries_of A)) a told (omega (arith, p.few)) (omega arith)).enables,
          fill-then j A E o,
          emits-at N waits P (omega arith),
          same,
          sum,
          placed,
          emits-at Z choice Q (omega arith),
          f.next,
          f.here,
          end,
        )
        (ap (λ l. record { next = q; here = over; list = l }) (close-is k _ over _ ∙ f.closes ∙ stored)
        ∙ ap (λ h. record { next = q; here = h; list = sets o j (entries_of (A ++ E ++ (N ++ Y))) }) place
        ∙ ap (λ l. written q (filled j l o)) (sym shape))
