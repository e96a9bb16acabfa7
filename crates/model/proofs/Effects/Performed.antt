-- Three registers serve every expression: what Exprs shows of the path through its code, told of the machine's instructions carried out one
-- after the other (specs/Registers.antt).
use Prim.Native.Nat.{ℕ, zero, suc, ◌+◌, ◌≤◌, ◌<◌}
use native.Mathlib.Omega.{arith}
use native.Mathlib.Decide.{ℕ_discrete}
use mathlib.Core.Path.{◌≡◌, refl, sym, ap, ◌∙◌}
use mathlib.Core.Logic.{◌≢◌, ⊎_elim}
use mathlib.Core.List.Memᴰ
use mathlib.Core.List.{List, [], ◌∷◌, ◌++◌, Memᴰ}
use mathlib.Core.Option.{some}
use lib.ListN.{length, get_or, get_elem?, drop, set, length-set}
use lib.Seq.{drop-length, get_or-set_same, get_or-set_other}
use Rattle.model.specs.Word.{low}
use Rattle.model.specs.Syntax.{Site, Expr, constant, variable, NOT, binary}
use Rattle.model.specs.declared.kinds.Operator.{Operator}
use Rattle.model.specs.declared.kinds.Operator.TheVariants.{Plus as PLUS, Minus as MINUS, Times as TIMES, Gt as GT, Eq as EQ}
use Rattle.model.specs.declared.kinds.Operator.TheVariants.{And as AND, Or as OR, Xor as XOR}
use Rattle.model.specs.Usage.{reads}
use Rattle.model.specs.Counts.{order, temporaries}
use Rattle.model.specs.declared.kinds.Order.{Order}
use Rattle.model.specs.declared.kinds.Order.TheVariants.{LeftFirst, RightFirst, RightStored}
use Rattle.model.specs.Instruction as I
use Rattle.model.specs.Instruction.{Function, Instruction, plain, distance}
use Rattle.model.specs.Scheme.{operator_code, sides_code, expr_code}
use Rattle.model.specs.Code.{function_in, operand_in}
use Rattle.model.specs.Occam.{Store}
use Rattle.model.specs.Machine.{World, done, memory_size, with_cpu, push, pop}
use Rattle.model.specs.Execute.{execute}
use Rattle.model.specs.Registers.{AtMostThree, perform, InWords, Ready, Computed, ThreeRegistersServe}
use Rattle.model.proofs.Cases.{never}
use Rattle.model.proofs.Tables.Needs.{registers-three}
use Rattle.model.proofs.Words.Values.{FineExpr}
use Rattle.model.proofs.Quiet.Stretches.{seg-whole}
use Rattle.model.proofs.Quiet.Ways.{Regs, regs_of, pushing, popping, Mem, upd, upd_same, upd_other, Way, arrived, through, quiet}
use Rattle.model.proofs.Quiet.Ways.{loads, stores, reloads, jumps, falls}
use Rattle.model.proofs.Quiet.ExprPaths.{Evaluated, evaluates}
use Rattle.model.proofs.Effects.OneWord.{cpu_of, size_of, mem_of, stored, exec-ldl, exec-stl}

pub at-most-three : AtMostThree
at-most-three e = registers-three e

-- the variables of an expression are those that it reads
fine-reads : (e : Expr) (l : List Site) → InWords e → ((x : Site) → Memᴰ x (reads e) → Memᴰ x l) → FineExpr l e
unfolding reads
fine-reads (constant n) l w h = w
fine-reads (variable x) l w h = h x (Memᴰ.head refl)
fine-reads (NOT e) l w h = fine-reads e l w h
fine-reads (binary op a b) l (v, w) h =
    (fine-reads a l v (λ x m. h x (Memᴰ.append_left (reads b) m)), fine-reads b l w (λ x m. h x (Memᴰ.append_right (reads a) m)))

-- an expression's code has no distance
abbrev Plain : List Instruction → Type 0
Plain [] = Unit {0}
Plain (plain f n ∷ xs) = Plain xs
Plain (distance f r u ∷ xs) = ⊥

plain-append : (xs ys : List Instruction) → Plain xs → Plain ys → Plain (xs ++ ys)
plain-append [] ys h k = k
plain-append (plain f n ∷ xs) ys h k = plain-append xs ys h k
plain-append (distance f r u ∷ xs) ys h k = h

plain-operator : (op : Operator) → Plain (operator_code op)
unfolding operator_code
plain-operator PLUS = tt
plain-operator MINUS = tt
plain-operator TIMES = tt
plain-operator GT = tt
plain-operator EQ = tt
plain-operator AND = tt
plain-operator OR = tt
plain-operator XOR = tt

plain-sides : (o : Order) (h : ℕ) (l : ℕ → List Instruction) (r : List Instruction) → ((k : ℕ) → Plain (l k)) → Plain r
    → Plain (sides_code o h l r)
unfolding sides_code
plain-sides LeftFirst h l r p q = plain-append (l h) r (p h) q
plain-sides RightFirst h l r p q = plain-append (r ++ l h) _ (plain-append r (l h) q (p h)) tt
plain-sides RightStored h l r p q = plain-append (r ++ plain I.stl h ∷ l (suc h)) _ (plain-append r _ q (p (suc h))) tt

plain-expr : (word : Site → ℕ) (w h : ℕ) (e : Expr) → Plain (expr_code word w h e)
unfolding expr_code
plain-expr word w h (constant n) = tt
plain-expr word w h (variable x) = tt
plain-expr word w h (NOT e) = plain-append (expr_code word w h e) _ (plain-expr word w h e) tt
plain-expr word w h (binary op l r) =
    plain-append (sides_code (order l r) h (λ k. expr_code word w k l) (expr_code word w h r)) _
    (plain-sides (order l r) h (λ k. expr_code word w k l) (expr_code word w h r) (λ k. plain-expr word w k l) (plain-expr word w h r))
    (plain-operator op)

-- no instruction of such code is one
plain_at : (xs : List Instruction) (i : ℕ) {x : Instruction} → Plain xs → get_elem? xs i ≡ some x
    → (f : Function) × (n : ℕ) × (x ≡ plain f n)
plain_at [] i h e = never (cc)
plain_at (plain f n ∷ xs) zero h e = (f, n, cc)
plain_at (plain f n ∷ xs) (suc i) h e = plain_at xs i h e
plain_at (distance f r u ∷ xs) i h e = absurd h

drop_at : (xs : List Instruction) (i : ℕ) {x : Instruction} → get_elem? xs i ≡ some x → drop i xs ≡ x ∷ drop (suc i) xs
drop_at [] i e = never (cc)
drop_at (y ∷ xs) zero e = cc
drop_at (y ∷ xs) (suc i) e = drop_at xs i e

-- an expression's code, carried out from a world where it may be
module _ (off : ℕ → ℕ) (word : Site → ℕ) (σ : Store) (w h : ℕ) (e : Expr) (s₀ : World) (ready : Ready word σ w h e s₀) where
  abbrev code : List Instruction
  code = expr_code word w h e

  -- while it is carried out the place stays
  abbrev here : ℕ → ℕ
  here i = (cpu_of s₀).place

  abbrev Slot : ℕ → Type 0
  Slot v = (w ≤ v) × (v < w + h + temporaries e)

  -- the end of the code, with what was computed
  abbrev Point : ℕ → Mem → ℕ → Regs → Type 0
  Point hi μ i r = (i ≡ length code) × Evaluated σ w h e (mem_of s₀) μ (regs_of (cpu_of s₀)) r

  abbrev Goes : ℕ → Mem → ℕ → Regs → Type 0
  Goes hi μ i r =
      Way code here word Point ⊥ σ (λ x. Memᴰ x (reads e) × Memᴰ x (reads e)) Slot (λ v. ⊥) hi μ i r

  -- the path through it
  goes : Goes (cpu_of s₀).place (mem_of s₀) 0 (regs_of (cpu_of s₀))
  goes =
      let fine = fine-reads e (reads e) ready.in_words (λ x m. m) in
      let room = ready.room in
      let small = ready.addressed in
      evaluates code here word Point ⊥ σ (reads e) (reads e) Slot (λ v. ⊥) (cpu_of s₀).place
      (λ v b. omega arith) (λ x m. omega (arith, ready.inside x m)) ready.a_word w ready.wide e fine fine h 0 (length code)
      (mem_of s₀) (regs_of (cpu_of s₀)) (seg-whole code) (λ k b. (omega arith, omega arith)) ready.workspace
      (λ μ r d. arrived (refl, d) (omega arith))

  -- a world in the middle of it
  record Midway (μ : Mem) (r : Regs) (s : World) : Type 0 where
    setup-same : s.machine.setup ≡ s₀.machine.setup
    place_same : (cpu_of s).place ≡ (cpu_of s₀).place
    regs_are : regs_of (cpu_of s) ≡ r
    long : size_of s₀ ≤ length s.memory
    mirror : (v : ℕ) → mem_of s v ≡ μ v
    named : (x : Site) → Memᴰ x (reads e) → μ (word x) ≡ σ x

  -- where it comes to
  data Arrives (xs : List Instruction) (s : World) : Type 0 where
    arrives : (t : World) (μ : Mem) (r : Regs) → perform off xs s ≡ done tt t → Midway μ r t
        → Evaluated σ w h e (mem_of s₀) μ (regs_of (cpu_of s₀)) r → Arrives xs s

  -- one instruction, and the ones after it
  arrives-next : {xs : List Instruction} {f : Function} {n : ℕ} {s t : World} → execute f n s ≡ done tt t → Arrives xs t
      → Arrives (plain f n ∷ xs) s
  unfolding function_in operand_in
  arrives-next d (arrives t μ r p m v) = arrives t μ r (rw d p) m v

  -- a word of memory that the code reads or writes
  inside-now : {s : World} {μ : Mem} {r : Regs} (v : ℕ) → Midway μ r s → v < size_of s₀ → v < size_of s
  inside-now v m b = omega (arith, ap memory_size m.setup-same)

  at-word : {s : World} {μ : Mem} {r : Regs} {v : ℕ} (o : ℕ) → Midway μ r s → low (r.w + o) ≡ v → low ((cpu_of s).workspace + o) ≡ v
  at-word o m a = ap (λ (z : Regs). low (z.w + o)) m.regs_are ∙ a

  slot-inside : {v : ℕ} → Slot v → v < size_of s₀
  slot-inside (l, b) = omega (arith, ready.room)

  slot-other : {v : ℕ} (x : Site) → Memᴰ x (reads e) → Slot v → word x ≢ v
  slot-other x m (l, b) z = ⊎_elim (λ d. absurd (omega arith)) (λ d. absurd (omega arith)) (ready.apart x m)

  -- what is loaded is pushed
  pushed : {s : World} {μ : Mem} {r : Regs} {z : ℕ} (v : ℕ) → Midway μ r s → mem_of s v ≡ z
      → Midway μ (pushing z r) (with_cpu (push (mem_of s v) (cpu_of s)) s)
  pushed {s} {r = r} v m q =
      record {
        setup-same = m.setup-same;
        place_same = m.place_same;
        regs_are = ap (λ y. pushing (mem_of s v) y) m.regs_are ∙ ap (λ y. pushing y r) q;
        long = m.long;
        mirror = m.mirror;
        named = m.named;
      }

  -- what is stored is taken from A
  kept : {s : World} {μ : Mem} {r : Regs} {v : ℕ} → Midway μ r s → Slot v
      → Midway (upd μ v r.a) (popping r) (with_cpu (pop (cpu_of s)) (stored v (cpu_of s).a s))
  kept {s} {μ} {r} {v} m slot =
      record {
        setup-same = m.setup-same;
        place_same = m.place_same;
        regs_are = ap popping m.regs_are;
        long = rw (length-set s.memory v (cpu_of s).a) m.long;
        mirror = λ u. by u (ℕ_discrete u v);
        named = λ x k. upd_other μ v r.a (word x) (slot-other x k slot) ∙ m.named x k;
      }
    where
      by : (u : ℕ) → Dec (u ≡ v) → get_or (set s.memory v (cpu_of s).a) u 0 ≡ upd μ v r.a u
      by u (yes q) =
          let there : v < length s.memory = omega (arith, slot-inside slot, m.long) in
          rw q (get_or-set_same s.memory v (cpu_of s).a 0 there ∙ ap (λ (z : Regs). z.a) m.regs_are ∙ sym (upd_same μ v r.a))
      by u (no q) = get_or-set_other s.memory v u (cpu_of s).a 0 q ∙ m.mirror u ∙ sym (upd_other μ v r.a u q)

  performed : {hi i : ℕ} {μ : Mem} {r : Regs} {s : World} → Goes hi μ i r → Midway μ r s → Arrives (drop i code) s
  unfolding function_in operand_in
  performed (arrived (at-end, v) b) m = rw (at-end, drop-length code) (arrives _ _ _ refl m v)
  performed (through at-end b none) m = absurd none
  performed {i = i} {s = s} (quiet g y q next) m =
      let (f, n, is) = plain_at code i (plain-expr word w h e) y in
      let q' = rw is at q in
      rw (drop_at code i y, is)
      (arrives-next (q' s m.place_same) (performed next (record {
        setup-same = m.setup-same;
        place_same = m.place_same;
        regs_are = ap g m.regs_are;
        long = m.long;
        mirror = m.mirror;
        named = m.named;
      })))
  performed {i = i} {s = s} (loads {o} x y a (k, l) next) m =
      rw (drop_at code i y)
      (arrives-next (exec-ldl o (word x) s (at-word o m a) (inside-now (word x) m (ready.inside x k)))
      (performed next (pushed (word x) m (m.mirror (word x) ∙ m.named x k))))
  performed {i = i} {s = s} (stores {o} v y a slot next) m =
      rw (drop_at code i y)
      (arrives-next (exec-stl o v s (at-word o m a) (inside-now v m (slot-inside slot))) (performed next (kept m slot)))
  performed {i = i} {s = s} (reloads {o} v y a slot next) m =
      rw (drop_at code i y)
      (arrives-next (exec-ldl o v s (at-word o m a) (inside-now v m (slot-inside slot))) (performed next (pushed v m (m.mirror v))))
  performed (jumps y t none b next) m = absurd none
  performed {i = i} (falls y t z b next) m = let (f, n, is) = plain_at code i (plain-expr word w h e) y in never (cc)

  computed : (t : World) × (perform off code s₀ ≡ done tt t) × Computed σ w h e s₀ t
  computed =
      let begun : Midway (mem_of s₀) (regs_of (cpu_of s₀)) s₀ = record {
        setup-same = refl;
        place_same = refl;
        regs_are = refl;
        long = ready.lent;
        mirror = λ v. refl;
        named = ready.value;
      } in
      elim (performed goes begun) [
        | arrives t μ r p m v ↦
            let is = m.regs_are in (
              t,
              p,
              record {
                in-a = ap (λ (z : Regs). z.a) is ∙ v.value;
                keeps-b = λ b. ap (λ (z : Regs). z.b) is ∙ v.keeps-b b;
                keeps-c = λ b. ap (λ (z : Regs). z.c) is ∙ v.keeps-c b;
                elsewhere = λ u b. m.mirror u ∙ ⊎_elim (λ l. v.below u l) (λ l. v.above u l) b;
              },
            )
      ]

pub three-registers-serve : ThreeRegistersServe
three-registers-serve off word σ w h e s ready = computed off word σ w h e s ready
