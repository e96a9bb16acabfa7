-- The path through an expression's code: it leaves the value in A and keeps 3 - registers of what was below. So no expression needs a
-- fourth register.
use Prim.Native.Nat.{ℕ, zero, suc, ◌+◌, ◌-◌, ◌*◌, ◌^◌, ◌≤◌, ◌<◌}
use native.Mathlib.Omega.{arith}
use mathlib.Core.Path.{◌≡◌, refl, ap, ap₂, ◌∙◌}
use mathlib.Core.List.{List, [], ◌∷◌, ◌++◌, Memᴰ}
use lib.Bits.{bit_and, bit_or, bit_xor}
use lib.Dec.{eqb, ltb}
use borrow.Author.Tests.{eqb-true, eqb-false, ltb-true, ltb-false}
use Rattle.model.specs.Word.{low, less, minus, truth}
use Rattle.model.specs.Limits.{register_limit}
use Rattle.model.specs.Syntax.{Site, Expr, constant, variable, NOT, binary}
use Rattle.model.specs.declared.kinds.Operator.{Operator}
use Rattle.model.specs.declared.kinds.Operator.TheVariants.{Plus as PLUS, Minus as MINUS, Times as TIMES, Gt as GT, Eq as EQ}
use Rattle.model.specs.declared.kinds.Operator.TheVariants.{And as AND, Or as OR, Xor as XOR}
use Rattle.model.specs.Instruction.{ajw, eqc, ldl, stl, Instruction, plain, operation, opr}
use Rattle.model.specs.Instruction as I
use Rattle.model.specs.Counts.{sides_need, registers, order_of, order, sides_hold, temporaries, both_hold}
use Rattle.model.specs.declared.kinds.Order.{Order}
use Rattle.model.specs.declared.kinds.Order.TheVariants.{LeftFirst, RightFirst, RightStored}
use Rattle.model.specs.Scheme.{operator_code, sides_code, wrapped, expr_code}
use Rattle.model.specs.Execute.{above}
use Rattle.model.specs.Occam.{Store, operate, deny, eval}
use Rattle.model.specs.Code.{function_in, operand_in}
use Rattle.model.proofs.Cases.{by_bool}
use Rattle.model.proofs.Quiet.Stretches.{Seg, nil, at, split, apart, local-word}
use Rattle.model.proofs.Quiet.Ways.{Regs, Quiet, pushing, reducing, popping, reversing, moving, testing, Mem, upd, upd_same}
use Rattle.model.proofs.Quiet.Ways.{upd_other, Way, quiet, loads, stores, reloads, quiet-ldc, quiet-ajw, quiet-rev, quiet-eqc}
use Rattle.model.proofs.Quiet.Ways.{quiet_sum, quiet-diff, quiet-prod, quiet-gt, quiet-and, quiet_or, quiet-xor}
use Rattle.model.proofs.Words.Values.{FineExpr, eq-words, gt-words, eval-word}
use Rattle.model.proofs.Words.Parts.{lowered}
use Rattle.model.proofs.Tables.Needs.{sides-two, registers-pos, registers-three, both-two}

-- which order two sides have, by the registers that they need
pub data Ordered (l r : ℕ) : Order → Type 0 where
  left-first : r ≤ l → (l ≡ register_limit → r ≡ register_limit → ⊥) → Ordered l r LeftFirst
  right-first : l < r → Ordered l r RightFirst
  right-stored : l ≡ register_limit → r ≡ register_limit → Ordered l r RightStored

pub ordered : (l r : ℕ) → Ordered l r (order_of l r)
unfolding order_of
ordered l r =
    by_bool (ltb l r) (λ e. rw e (right-first (ltb-true l r e)))
    (λ e. by_bool (eqb l register_limit)
    (λ f. by_bool (eqb r register_limit)
    (λ g. rw (e, f, g) (right-stored (eqb-true l register_limit f) (eqb-true r register_limit g)))
    (λ g. rw (e, f, g) (left-first (ltb-false l r e) (λ a b. eqb-false r register_limit g b))))
    (λ f. rw (e, f) (left-first (ltb-false l r e) (λ a b. eqb-false l register_limit f a))))

-- what an expression's code does to memory and registers, at w and with h values held before: words below those of its own stored values
-- and words above them stay
pub record Evaluated (σ : Store) (w h : ℕ) (e : Expr) (μ μ' : Mem) (r r' : Regs) : Type 0 where
  pub value : r'.a ≡ eval σ e
  pub keeps-b : registers e ≤ 2 → r'.b ≡ r.a
  pub keeps-c : registers e ≤ 1 → r'.c ≡ r.b
  pub same_w : r'.w ≡ r.w
  pub below : (v : ℕ) → v < w + h → μ' v ≡ μ v
  pub above : (v : ℕ) → w + h + temporaries e ≤ v → μ' v ≡ μ v

-- a leaf's value is pushed
pushed : {σ : Store} {w h z : ℕ} {e : Expr} {μ : Mem} {r : Regs} → z ≡ eval σ e → Evaluated σ w h e μ μ r (pushing z r)
pushed v =
    record {
      value = v;
      keeps-b = λ b. refl;
      keeps-c = λ b. refl;
      same_w = refl;
      below = λ v b. refl;
      above = λ v b. refl;
    }

-- what a whole expression's code does: words from w - more on stay
pub record Whole (σ : Store) (w more : ℕ) (e : Expr) (μ μ' : Mem) (r' : Regs) : Type 0 where
  pub value : r'.a ≡ eval σ e
  pub same_w : r'.w ≡ w
  pub kept : (v : ℕ) → w ≤ v + more → μ' v ≡ μ v

-- what the code of a time guard's time and condition does: the time is in B, the condition in A, and words from w - more on stay
pub record Both (σ : Store) (w more : ℕ) (t e : Expr) (μ μ' : Mem) (r' : Regs) : Type 0 where
  pub time : r'.b ≡ eval σ t
  pub value : r'.a ≡ eval σ e
  pub time-word : eval σ t < 2 ^ 32
  pub value-word : eval σ e < 2 ^ 32
  pub same_w : r'.w ≡ w
  pub kept : (v : ℕ) → w ≤ v + more → μ' v ≡ μ v

-- what the code of two sides does
pub record Brought (σ : Store) (w h : ℕ) (o : Order) (l r : Expr) (μ μ' : Mem) (q q' : Regs) : Type 0 where
  pub left : q'.b ≡ eval σ l
  pub right : q'.a ≡ eval σ r
  pub keeps : sides_need (registers l) (registers r) ≤ 2 → q'.c ≡ q.a
  pub same_w : q'.w ≡ q.w
  pub below : (v : ℕ) → v < w + h → μ' v ≡ μ v
  pub above : (v : ℕ) → w + h + sides_hold o (temporaries l) (temporaries r) ≤ v → μ' v ≡ μ v

module _ (xs : List Instruction) (off : ℕ → ℕ) (word : Site → ℕ) (Point : ℕ → Mem → ℕ → Regs → Type 0) (End : Type 0) (σ : Store)
    (vars reads : List Site) (Spare Clear : ℕ → Type 0) where
  -- a variable in scope that no other process changes
  abbrev pub Readable : Site → Type 0
  Readable x = Memᴰ x vars × Memᴰ x reads

  abbrev Goes : ℕ → Mem → ℕ → Regs → Type 0
  Goes hi μ i r = Way xs off word Point End σ Readable Spare Clear hi μ i r

  module _ {hi : ℕ} {μ : Mem} where
    -- one operation on two values
    reduced : {i i' n l k : ℕ} {r : Regs} (f : ℕ → ℕ → ℕ) → Seg xs i (plain opr n ∷ []) i'
        → ((p : ℕ) → Quiet p opr n (reducing f)) → r.b ≡ l → r.a ≡ k
        → ((r' : Regs) → r'.a ≡ f l k → r'.b ≡ r.c → r'.w ≡ r.w → Goes hi μ i' r') → Goes hi μ i r
    unfolding function_in operand_in
    reduced {i} {r} f (at e nil) q p s next = quiet (reducing f) e (q (off (suc i))) (next (reducing f r) (ap₂ f p s) refl refl)

    -- EQC 0
    tested : {i i' m : ℕ} (r : Regs) → Seg xs i (plain eqc 0 ∷ []) i' → r.a ≡ m
        → ((r' : Regs) → r'.a ≡ truth (eqb m 0) → r'.b ≡ r.b → r'.c ≡ r.c → r'.w ≡ r.w → Goes hi μ i' r') → Goes hi μ i r
    unfolding function_in operand_in
    tested r (at e nil) v next = quiet (testing 0) e (quiet-eqc 0) (next (testing 0 r) (ap (λ n. truth (eqb n 0)) v) refl refl refl)

    operated : (op : Operator) {i i' l k : ℕ} {r : Regs} → Seg xs i (operator_code op) i' → r.b ≡ l → r.a ≡ k → l < 2 ^ 32 → k < 2 ^ 32
        → ((r' : Regs) → r'.a ≡ operate op l k → r'.b ≡ r.c → r'.w ≡ r.w → Goes hi μ i' r') → Goes hi μ i r
    unfolding operator_code operate
    operated PLUS g p s hl hk next = reduced (λ x y. low (x + y)) g (λ p. quiet_sum) p s next
    operated MINUS g p s hl hk next = reduced less g (λ p. quiet-diff) p s next
    operated TIMES g p s hl hk next = reduced (λ x y. low (x * y)) g (λ p. quiet-prod) p s next
    operated GT {l} {k} g p s hl hk next = reduced (λ x y. truth (above x y)) g (λ p. quiet-gt) p s
        (λ r' v. next r' (v ∙ ap truth (gt-words l k hl hk)))
    operated EQ {l} {k} g p s hl hk next =
        elim (apart (operation I.diff ∷ []) g) [
          | split g₁ g₂ ↦
              reduced less g₁ (λ p. quiet-diff) p s
              (λ r' v b w. tested r' g₂ v (λ r'' v'' b'' c'' w''. next r'' (v'' ∙ ap truth (eq-words l k hl hk)) (b'' ∙ b) (w'' ∙ w)))
        ]
    operated AND g p s hl hk next = reduced bit_and g (λ p. quiet-and) p s next
    operated OR g p s hl hk next = reduced bit_or g (λ p. quiet_or) p s next
    operated XOR g p s hl hk next = reduced bit_xor g (λ p. quiet-xor) p s next

  module _ (hi : ℕ) (spare-word : (v : ℕ) → Spare v → v < 2 ^ 32) (words : (x : Site) → Memᴰ x vars → word x < 2 ^ 32)
      (values : (x : Site) → Memᴰ x vars → σ x < 2 ^ 32) where
    module _ (w : ℕ) (wide : w < 2 ^ 32) where
      -- words for the stored values from 0 up to n
      abbrev Slots : ℕ → Type 0
      Slots n = (k : ℕ) → k < n → Spare (w + k)

      -- the code of an expression leads through, with any values held before
      abbrev Evaluates : Expr → Type 0
      Evaluates e =
          (h i i' : ℕ) (μ : Mem) (r : Regs) → Seg xs i (expr_code word w h e) i' → Slots (h + temporaries e) → r.w ≡ w
          → ((μ' : Mem) (r' : Regs) → Evaluated σ w h e μ μ' r r' → Goes hi μ' i' r') → Goes hi μ i r

      -- a value is stored
      puts : (h : ℕ) {i i' : ℕ} {μ : Mem} {r : Regs} → Seg xs i (plain stl h ∷ []) i' → Spare (w + h) → r.w ≡ w
          → Goes hi (upd μ (w + h) r.a) i' (popping r) → Goes hi μ i r
      puts h {r = r} (at e nil) s p next =
          let b = spare-word (w + h) s in
          let there : low (r.w + h) ≡ w + h = rw p (omega arith) in
          stores (w + h) e there s next

      -- and loaded again
      gets : (h : ℕ) {i i' : ℕ} {μ : Mem} {r : Regs} → Seg xs i (plain ldl h ∷ []) i' → Spare (w + h) → r.w ≡ w
          → Goes hi μ i' (pushing (μ (w + h)) r) → Goes hi μ i r
      gets h {r = r} (at e nil) s p next =
          let b = spare-word (w + h) s in
          let there : low (r.w + h) ≡ w + h = rw p (omega arith) in
          reloads (w + h) e there s next

      turns : {i i' : ℕ} {μ : Mem} {r : Regs} → Seg xs i (operation I.rev ∷ []) i' → Goes hi μ i' (reversing r) → Goes hi μ i r
      unfolding function_in operand_in
      turns (at e nil) next = quiet reversing e quiet-rev next

      -- two sides, by their order: left is then in B and right in A
      brings : (l r : Expr) → Evaluates l → Evaluates r → (o : Order) → Ordered (registers l) (registers r) o → (h : ℕ) {i i' : ℕ} {μ : Mem}
          {q : Regs} → Seg xs i (sides_code o h (λ k. expr_code word w k l) (expr_code word w h r)) i'
          → Slots (h + sides_hold o (temporaries l) (temporaries r)) → q.w ≡ w
          → ((μ' : Mem) (q' : Regs) → Brought σ w h o l r μ μ' q q' → Goes hi μ' i' q') → Goes hi μ i q
      unfolding sides_code sides_hold
      brings l r ev-l ev-r LeftFirst (left-first le unlike) h g s p next =
          let pos-l = registers-pos l in
          let pos-r = registers-pos r in
          let three-l = registers-three l in
          let two : registers r ≤ 2 = few three-l (registers-three r) in
          elim (apart (expr_code word w h l) g) [
            | split g₁ g₂ ↦
                ev-l h _ _ _ _ g₁ (λ k b. s k (omega arith)) p (λ μ₁ r₁ d₁.
                ev-r h _ _ _ _ g₂ (λ k b. s k (omega arith)) (d₁.same_w ∙ p) (λ μ₂ r₂ d₂.
                next μ₂ r₂ (record {
                  left = d₂.keeps-b two ∙ d₁.value;
                  right = d₂.value;
                  keeps = λ few.
                      let b = both-two (registers l) (registers r) pos-l pos-r few in
                      d₂.keeps-c (omega (arith, b.2)) ∙ d₁.keeps-b b.0;
                  same_w = d₂.same_w ∙ d₁.same_w;
                  below = λ v b. d₂.below v b ∙ d₁.below v b;
                  above = λ v b. d₂.above v (omega arith) ∙ d₁.above v (omega arith);
                })))
          ]
        where
          few : registers l ≤ 3 → registers r ≤ 3 → registers r ≤ 2
          few a b =
              by_bool (ltb (registers r) 3) (λ e. omega (arith, ltb-true (registers r) 3 e))
              (λ e. let f : 3 ≤ registers r = ltb-false (registers r) 3 e in absurd (unlike (omega arith) (omega arith)))
      brings l r ev-l ev-r RightFirst (right-first lt) h g s p next =
          let pos-l = registers-pos l in
          let pos-r = registers-pos r in
          let three-r = registers-three r in
          let two : registers l ≤ 2 = omega arith in
          elim (apart (expr_code word w h r ++ expr_code word w h l) g) [
            | split g₃ g₄ ↦ elim (apart (expr_code word w h r) g₃) [
              | split g₁ g₂ ↦
                  ev-r h _ _ _ _ g₁ (λ k b. s k (omega arith)) p (λ μ₁ r₁ d₁.
                  ev-l h _ _ _ _ g₂ (λ k b. s k (omega arith)) (d₁.same_w ∙ p) (λ μ₂ r₂ d₂.
                  turns g₄ (next μ₂ (reversing r₂) (record {
                    left = d₂.value;
                    right = d₂.keeps-b two ∙ d₁.value;
                    keeps = λ few.
                        let b = both-two (registers l) (registers r) pos-l pos-r few in
                        d₂.keeps-c (omega (arith, b.2)) ∙ d₁.keeps-b b.1;
                    same_w = d₂.same_w ∙ d₁.same_w;
                    below = λ v b. d₂.below v b ∙ d₁.below v b;
                    above = λ v b. d₂.above v (omega arith) ∙ d₁.above v (omega arith);
                  }))))
            ]
          ]
      brings l r ev-l ev-r RightStored (right-stored el er) h {μ} g s p next =
          let v = w + h in
          let own : Spare v = s h (omega arith) in
          elim (apart (expr_code word w h r ++ plain stl h ∷ expr_code word w (suc h) l) g) [
            | split g₃ g₆ ↦ elim (apart (expr_code word w h r) g₃) [
              | split g₁ g₅ ↦ elim (apart (plain stl h ∷ []) g₅) [
                | split g₂ g₄ ↦
                    ev-r h _ _ _ _ g₁ (λ k b. s k (omega arith)) p (λ μ₁ r₁ d₁.
                    puts h g₂ own (d₁.same_w ∙ p)
                    (ev-l (suc h) _ _ _ _ g₄ (λ k b. s k (omega arith)) (d₁.same_w ∙ p) (λ μ₂ r₂ d₂.
                    gets h g₆ own (d₂.same_w ∙ d₁.same_w ∙ p)
                    (next μ₂ (pushing (μ₂ v) r₂) (record {
                      left = d₂.value;
                      right = d₂.below v (omega arith) ∙ upd_same μ₁ v r₁.a ∙ d₁.value;
                      keeps = λ few. absurd
                          (omega (arith, (both-two (registers l) (registers r) (registers-pos l) (registers-pos r) few).0));
                      same_w = d₂.same_w ∙ d₁.same_w;
                      below = λ u b. d₂.below u (omega arith) ∙ upd_other μ₁ v r₁.a u (λ e. absurd (omega arith)) ∙ d₁.below u b;
                      above = λ u b.
                          d₂.above u (omega arith) ∙ upd_other μ₁ v r₁.a u (λ e. absurd (omega arith)) ∙ d₁.above u (omega arith);
                    })))))
              ]
            ]
          ]

      pub evaluates : (e : Expr) → FineExpr vars e → FineExpr reads e → Evaluates e
      unfolding expr_code eval registers temporaries deny function_in operand_in
      evaluates (constant n) f g h i i' μ r (at e nil) s p next =
          quiet (pushing n) e (quiet-ldc n) (next _ (pushing n r) (pushed refl))
      evaluates (variable x) f g h i i' μ r (at e nil) s p next =
          let a : low (r.w + less (word x) w) ≡ word x = rw p (local-word w (word x) wide (words x f)) in
          loads x e a (f, g) (next _ (pushing (σ x) r) (pushed refl))
      evaluates (NOT e) f g h i i' μ q c s p next =
          elim (apart (expr_code word w h e) c) [
            | split c₁ c₂ ↦
                evaluates e f g h _ _ _ _ c₁ s p (λ μ₁ r₁ d. tested r₁ c₂ d.value (λ r₂ v b c q.
                next μ₁ r₂ (record {
                  value = v;
                  keeps-b = λ few. b ∙ d.keeps-b few;
                  keeps-c = λ few. c ∙ d.keeps-c few;
                  same_w = q ∙ d.same_w;
                  below = d.below;
                  above = d.above;
                })))
          ]
      evaluates (binary op l r) f g h i i' μ q c s p next =
          let o = order l r in
          elim (apart (sides_code o h (λ k. expr_code word w k l) (expr_code word w h r)) c) [
            | split c₁ c₂ ↦
                brings l r (evaluates l f.0 g.0) (evaluates r f.1 g.1) o (ordered (registers l) (registers r)) h c₁ s p
                (λ μ₁ r₁ d.
                operated op c₂ d.left d.right (eval-word σ values l f.0) (eval-word σ values r f.1) (λ r₂ v b q.
                next μ₁ r₂ (record {
                  value = v;
                  keeps-b = λ few. b ∙ d.keeps few;
                  keeps-c = λ few. absurd (omega (arith, sides-two (registers l) (registers r) (registers-pos l) (registers-pos r)));
                  same_w = q ∙ d.same_w;
                  below = d.below;
                  above = d.above;
                })))
          ]

    -- code that stores t values at most: where it is at v, it leads through and leaves what is asked of A and B
    abbrev Leaves : (t : ℕ) (code : ℕ → List Instruction) (Done : (a b : ℕ) → Type 0) → Type 0
    Leaves t code Done =
        (v i i' : ℕ) (μ : Mem) (r : Regs) → v < 2 ^ 32 → Seg xs i (code v) i' → ((k : ℕ) → k < t → Spare (v + k)) → r.w ≡ v
        → ((μ' : Mem) (r' : Regs) → Done r'.a r'.b → r'.w ≡ r.w → ((u : ℕ) → u < v → μ' u ≡ μ u)
        → ((u : ℕ) → v + t ≤ u → μ' u ≡ μ u) → Goes hi μ' i' r')
        → Goes hi μ i r

    -- such code at w, wrapped where it stores values: words from w - more on stay
    through-wrap : (t more w : ℕ) (code : ℕ → List Instruction) (Done : (a b : ℕ) → Type 0) → Leaves t code Done → w < 2 ^ 32
        → lowered t more ≤ w → ((v : ℕ) → w ≤ v + lowered t more → v + more < w → Spare v) → {i i' : ℕ} {μ : Mem} {r : Regs}
        → Seg xs i (wrapped t more w code) i' → r.w ≡ w
        → ((μ' : Mem) (r' : Regs) → Done r'.a r'.b → r'.w ≡ w → ((u : ℕ) → w ≤ u + more → μ' u ≡ μ u) → Goes hi μ' i' r')
        → Goes hi μ i r
    unfolding wrapped lowered function_in operand_in
    through-wrap zero more w code Done leaves wide room spare c p next =
        leaves w _ _ _ _ wide c (λ k b. absurd (omega arith)) p (λ μ' r' d q below above.
        next μ' r' d (q ∙ p)
        (λ u b. by_bool (ltb u w) (λ l. below u (ltb-true u w l)) (λ l. above u (omega (arith, ltb-false u w l)))))
    through-wrap (suc t) more w code Done leaves wide room spare {μ} {r} c p next =
        let n = suc t + more in
        let down : low (r.w + minus n) ≡ w - n = rw p (omega arith) in
        elim (apart (plain ajw (minus n) ∷ code (w - n)) c) [
          | split c₃ c₄ ↦ elim (apart (plain ajw (minus n) ∷ []) c₃) [
            | split c₁ c₂ ↦
                lowers c₁
                (leaves (w - n) _ _ _ _ (omega arith) c₂ (λ k b. spare (w - n + k) (omega arith) (omega arith)) down
                (λ μ' r' d q below above.
                raises c₄ (next μ' (moving n r') d (rw (q ∙ down) (omega arith)) (λ u b. above u (omega arith)))))
          ]
        ]
      where
        lowers : {j j' : ℕ} → Seg xs j (plain ajw (minus (suc t + more)) ∷ []) j' → Goes hi μ j' (moving (minus (suc t + more)) r)
            → Goes hi μ j r
        lowers (at x nil) w = quiet (moving (minus (suc t + more))) x (quiet-ajw (minus (suc t + more))) w

        raises : {j j' : ℕ} {ν : Mem} {q : Regs} → Seg xs j (plain ajw (suc t + more) ∷ []) j' → Goes hi ν j' (moving (suc t + more) q)
            → Goes hi ν j q
        raises (at x nil) w = quiet (moving (suc t + more)) x (quiet-ajw (suc t + more)) w

    -- a whole expression at w
    pub evaluates-whole : (w more : ℕ) (e : Expr) → w < 2 ^ 32 → FineExpr vars e → FineExpr reads e → lowered (temporaries e) more ≤ w
        → ((v : ℕ) → w ≤ v + lowered (temporaries e) more → v + more < w → Spare v) → {i i' : ℕ} {μ : Mem} {r : Regs}
        → Seg xs i (wrapped (temporaries e) more w (λ v. expr_code word v 0 e)) i' → r.w ≡ w
        → ((μ' : Mem) (r' : Regs) → Whole σ w more e μ μ' r' → Goes hi μ' i' r') → Goes hi μ i r
    evaluates-whole w more e wide f g room spare c p next =
        through-wrap (temporaries e) more w (λ v. expr_code word v 0 e) (λ a b. a ≡ eval σ e)
        (λ v i i' μ r small c s p next.
        evaluates v small e f g 0 i i' μ r c (λ k b. s k (omega arith)) p (λ μ' r' d.
        next μ' r' d.value d.same_w (λ u b. d.below u (omega arith)) (λ u b. d.above u (omega arith))))
        wide room spare c p (λ μ' r' d q kept. next μ' r' (record { value = d; same_w = q; kept = kept }))

    -- a time guard's time and condition at w, brought in as the sides of an operator
    pub both-path : (w more : ℕ) (t e : Expr) → w < 2 ^ 32 → FineExpr vars t → FineExpr reads t → FineExpr vars e → FineExpr reads e
        → lowered (both_hold t e) more ≤ w → ((v : ℕ) → w ≤ v + lowered (both_hold t e) more → v + more < w → Spare v)
        → {i i' : ℕ} {μ : Mem} {r : Regs}
        → Seg xs i (wrapped (both_hold t e) more w (λ v. sides_code (order t e) 0 (λ k. expr_code word v k t) (expr_code word v 0 e))) i'
        → r.w ≡ w → ((μ' : Mem) (r' : Regs) → Both σ w more t e μ μ' r' → Goes hi μ' i' r') → Goes hi μ i r
    both-path w more t e wide ft gt fe ge room spare c p next =
        through-wrap (both_hold t e) more w (λ v. sides_code (order t e) 0 (λ k. expr_code word v k t) (expr_code word v 0 e))
        (λ a b. (a ≡ eval σ e) × (b ≡ eval σ t))
        (λ v i i' μ r small c s p next.
        brings v small t e (evaluates v small t ft gt) (evaluates v small e fe ge) (order t e) (ordered (registers t) (registers e)) 0
        c (λ k b. s k (omega arith)) p (λ μ' r' d.
        next μ' r' (d.right, d.left) d.same_w (λ u b. d.below u (omega arith)) (λ u b. d.above u (omega arith))))
        wide room spare c p (λ μ' r' d q kept.
        next μ' r' (record {
          time = d.1;
          value = d.0;
          time-word = eval-word σ values t ft;
          value-word = eval-word σ values e fe;
          same_w = q;
          kept = kept;
        }))
