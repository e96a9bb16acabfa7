-- What a process goes on with where a part of its program is over: the code behind it, frame by frame, to the end of its part.
use Prim.Native.Nat.{ℕ, suc, ◌+◌, ◌≤◌, ◌<◌}
use native.Mathlib.Omega.{arith}
use mathlib.Core.Path.{◌≡◌, sym, ap, ◌∙◌}
use mathlib.Core.Logic.{◌⊎◌, inl, inr, ⊎_elim}
use mathlib.Core.List.Memᴰ
use mathlib.Core.List.{List, [], ◌∷◌, ◌++◌, Memᴰ}
use lib.ListN.{length}
use Rattle.model.specs.Syntax.{Site, declared, Expr, Stmt, WHILE, Stmts}
use Rattle.model.specs.Reader.{names}
use Rattle.model.specs.Instruction.{ldlp, ajw, endp, plain, distance, operation}
use Rattle.model.specs.Instruction as I
use Rattle.model.specs.Scheme.{whole_size, code, code_all}
use Rattle.model.specs.Occam.{Frame, in_seq, in_var, in_while}
use Rattle.model.proofs.Quiet.Stretches.{Seg, seg-length}
use Rattle.model.proofs.Quiet.Setting.{Setting, whole, At}
use Rattle.model.proofs.Quiet.CodeParts.{named, named_in, inside, rises-le, up, tested, loop-parts}
use Rattle.model.proofs.Words.Parts.{Part, the_end, joins, Words, Within, Fine, FineAll}

module _ (S : Setting) where
  -- the names in scope: their words are at and above w, and each has its own
  pub record Scoped (w : ℕ) (vars chans : List Site) : Type 0 where
    pub vars-above : (x : Site) → Memᴰ x vars → w ≤ S.word x
    pub chans-above : (x : Site) → Memᴰ x chans → w ≤ S.word x
    pub vars-distinct : (x y : Site) → Memᴰ x vars → Memᴰ y vars → S.word x ≡ S.word y → x ≡ y
    pub chans-distinct : (x y : Site) → Memᴰ x chans → Memᴰ y chans → S.word x ≡ S.word y → x ≡ y
    pub apart : (x y : Site) → Memᴰ x vars → Memᴰ y chans → S.word x ≡ S.word y → ⊥

  -- more words below
  pub scoped-below : {w w' : ℕ} {vars chans : List Site} → w' ≤ w → Scoped w vars chans → Scoped w' vars chans
  scoped-below l h =
      record {
        vars-above = λ x m. omega (arith, h.vars-above x m);
        chans-above = λ x m. omega (arith, h.chans-above x m);
        vars-distinct = h.vars-distinct;
        chans-distinct = h.chans-distinct;
        apart = h.apart;
      }

  pub scoped-up : (w n : ℕ) {vars chans : List Site} → Scoped (w + n) vars chans → Scoped w vars chans
  scoped-up w n h = scoped-below (omega arith) h

  -- names that are declared
  module _ (p n w : ℕ) (words : Words S.word p n w) where
    -- their words
    names-here : (x : Site) → Memᴰ x (names p n) → (w ≤ S.word x) × (S.word x < w + n)
    names-here x m =
        elim (named_in p n {x = x} m) [
          | named j b e ↦ (omega (arith, words j b, ap S.word e), omega (arith, words j b, ap S.word e))
        ]

    names-distinct : (x y : Site) → Memᴰ x (names p n) → Memᴰ y (names p n) → S.word x ≡ S.word y → x ≡ y
    names-distinct x y m l e =
        elim (named_in p n {x = x} m) [
          | named i b q ↦ elim (named_in p n {x = y} l) [
            | named j d r ↦
                let z : i ≡ j = omega (arith, words i b, words j d, ap S.word q, ap S.word r, e) in q ∙ ap (declared p) z ∙ sym r
          ]
        ]

    -- names onto others, whose words are above
    above_on : (l : List Site) → ((x : Site) → Memᴰ x l → w + n ≤ S.word x) → (x : Site)
        → Memᴰ x (names p n ++ l) → w ≤ S.word x
    above_on l h x m =
        ⊎_elim (λ m. (names-here x m).0) (λ m. omega (arith, h x m)) (Memᴰ.append_cases (names p n) m)

    distinct-on :
        (l : List Site) → ((x : Site) → Memᴰ x l → w + n ≤ S.word x)
        → ((x y : Site) → Memᴰ x l → Memᴰ y l → S.word x ≡ S.word y → x ≡ y)
        → (x y : Site) → Memᴰ x (names p n ++ l) → Memᴰ y (names p n ++ l) → S.word x ≡ S.word y → x ≡ y
    distinct-on l h d x y m k e =
        ⊎_elim
        (λ m. ⊎_elim (λ k. names-distinct x y m k e) (λ k. absurd (omega (arith, (names-here x m).1, h y k, e)))
        (Memᴰ.append_cases (names p n) k))
        (λ m. ⊎_elim (λ k. absurd (omega (arith, (names-here y k).1, h x m, e))) (λ k. d x y m k e)
        (Memᴰ.append_cases (names p n) k))
        (Memᴰ.append_cases (names p n) m)

    scoped-vars : {vars chans : List Site} → Scoped (w + n) vars chans → Scoped w (names p n ++ vars) chans
    scoped-vars {vars} h =
        record {
          vars-above = above_on vars h.vars-above;
          chans-above = λ x m. omega (arith, h.chans-above x m);
          vars-distinct = distinct-on vars h.vars-above h.vars-distinct;
          chans-distinct = h.chans-distinct;
          apart = λ x y m k e.
              ⊎_elim (λ m. absurd (omega (arith, (names-here x m).1, h.chans-above y k, e))) (λ m. h.apart x y m k e)
              (Memᴰ.append_cases (names p n) m);
        }

    scoped-chans : {vars chans : List Site} → Scoped (w + n) vars chans → Scoped w vars (names p n ++ chans)
    scoped-chans {chans = chans} h =
        record {
          vars-above = λ x m. omega (arith, h.vars-above x m);
          chans-above = above_on chans h.chans-above;
          vars-distinct = h.vars-distinct;
          chans-distinct = distinct-on chans h.chans-above h.chans-distinct;
          apart = λ x y m k e.
              ⊎_elim (λ k. absurd (omega (arith, (names-here y k).1, h.vars-above x m, e))) (λ k. h.apart x y m k e)
              (Memᴰ.append_cases (names p n) k);
        }

  -- names that are in scope in a part, at a workspace: each has a word of its own above it, and was in scope where the part began or is
  -- declared in it
  pub record Placed (a : Part) (w : ℕ) (vars chans : List Site) : Type 0 where
    pub scoped : Scoped w vars chans
    pub room : a.bottom + 2 ≤ w
    pub low : w ≤ a.top
    pub vars-origin : (x : Site) → Memᴰ x vars → Memᴰ x a.vars ⊎ (S.word x < a.top)
    pub chans-origin : (c : Site) → Memᴰ c chans → Memᴰ c a.chans ⊎ (S.word c < a.top)
    pub vars-outer : Within a.vars vars
    pub chans-outer : Within a.chans chans

  -- where the part is over
  placed-top : (a : Part) → a.bottom + 2 ≤ a.top → Scoped a.top a.vars a.chans → Placed a a.top a.vars a.chans
  placed-top a r h =
      record {
        scoped = h;
        room = r;
        low = omega arith;
        vars-origin = λ x m. inl m;
        chans-origin = λ x m. inl m;
        vars-outer = λ x m. m;
        chans-outer = λ x m. m;
      }

  -- below
  pub placed-down : {a : Part} (w n : ℕ) {vars chans : List Site} → a.bottom + 2 ≤ w → Placed a (w + n) vars chans → Placed a w vars chans
  placed-down w n r h =
      record {
        scoped = scoped-up w n h.scoped;
        room = r;
        low = omega (arith, h.low);
        vars-origin = h.vars-origin;
        chans-origin = h.chans-origin;
        vars-outer = h.vars-outer;
        chans-outer = h.chans-outer;
      }

  -- with declared variables, or channels
  module _ {a : Part} (p n w : ℕ) (words : Words S.word p n w) {vars chans : List Site} (r : a.bottom + 2 ≤ w)
      (h : Placed a (w + n) vars chans) where
    named-origin : (l m : List Site) → ((x : Site) → Memᴰ x l → Memᴰ x m ⊎ (S.word x < a.top))
        → (x : Site) → Memᴰ x (names p n ++ l) → Memᴰ x m ⊎ (S.word x < a.top)
    named-origin l m f x k =
        ⊎_elim (λ k. inr (omega (arith, (names-here p n w words x k).1, h.low))) (f x) (Memᴰ.append_cases (names p n) k)

    pub placed-vars : Placed a w (names p n ++ vars) chans
    placed-vars =
        record {
          scoped = scoped-vars p n w words h.scoped;
          room = r;
          low = omega (arith, h.low);
          vars-origin = named-origin vars a.vars h.vars-origin;
          chans-origin = h.chans-origin;
          vars-outer = λ x m. Memᴰ.append_right (names p n) (h.vars-outer x m);
          chans-outer = h.chans-outer;
        }

    pub placed-chans : Placed a w vars (names p n ++ chans)
    placed-chans =
        record {
          scoped = scoped-chans p n w words h.scoped;
          room = r;
          low = omega (arith, h.low);
          vars-origin = h.vars-origin;
          chans-origin = named-origin chans a.chans h.chans-origin;
          vars-outer = h.vars-outer;
          chans-outer = λ x m. Memᴰ.append_right (names p n) (h.chans-outer x m);
        }

  module _ (a : Part) where
    -- in the part a, the frames k are gone through by the code from index i on, at the workspace w, with these variables and channels in
    -- scope; paths from here end at the byte hi at the latest
    pub data Cont : (hi : ℕ) (vars chans : List Site) → List Frame → (i w : ℕ) → Type 0 where
      c-end : a.ending ≡ the_end → a.bottom + 2 ≤ a.top → Scoped a.top a.vars a.chans
          → Cont (whole S) a.vars a.chans [] (length S.xs) a.top
      c-join : {i d : ℕ} → a.ending ≡ joins d → At S i (plain ldlp d) → At S (suc i) (operation endp)
          → a.bottom + 2 ≤ a.top → Scoped a.top a.vars a.chans → Cont (S.off (suc (suc i))) a.vars a.chans [] i a.top
      c-seq : {hi i i' w : ℕ} {vars chans : List Site} {ss : Stmts} {k : List Frame} → Seg S.xs i (code_all S.word w i ss) i'
          → FineAll S.word a vars chans w ss → Cont hi vars chans k i' w → Cont hi vars chans (in_seq ss ∷ k) i w
      c-var : {hi i w p n : ℕ} {vars chans : List Site} {k : List Frame} → At S i (plain ajw n) → a.bottom + 2 ≤ w → Words S.word p n w
          → Cont hi vars chans k (suc i) (w + n) → Cont hi (names p n ++ vars) chans (in_var (names p n) ∷ k) i w
      c-chan : {hi i w p n : ℕ} {vars chans : List Site} {k : List Frame} → At S i (plain ajw n) → a.bottom + 2 ≤ w → Words S.word p n w
          → Cont hi vars chans k (suc i) (w + n) → Cont hi vars (names p n ++ chans) k i w
      c-up : {hi i w n : ℕ} {vars chans : List Site} {k : List Frame} → At S i (plain ajw n) → a.bottom + 2 ≤ w
          → Cont hi vars chans k (suc i) (w + n) → Cont hi vars chans k i w
      c-while : {hi hi' i b w : ℕ} {vars chans : List Site} {e : Expr} {s : Stmt} {k : List Frame}
          → Seg S.xs b (code S.word w b (WHILE e s)) (suc i) → Fine S.word a vars chans w (WHILE e s)
          → hi' ≤ whole S + S.off b → S.off (suc i) + S.off (suc (b + whole_size e)) ≤ hi + S.off b
          → Cont hi' vars chans k (suc i) w → Cont hi vars chans (in_while e s ∷ k) i w
      c-hop : {hi i t w : ℕ} {vars chans : List Site} {k : List Frame} → At S i (distance I.j t i) → a.bottom + 2 ≤ w → suc i ≤ t
          → Cont hi vars chans k t w → Cont hi vars chans k i w

    pub cont-inside : {hi i w : ℕ} {vars chans : List Site} {k : List Frame} → Cont hi vars chans k i w → i ≤ length S.xs
    cont-inside (c-end e r h) = omega arith
    cont-inside (c-join e x y r h) = omega (arith, inside S x)
    cont-inside (c-seq g f c) = omega (arith, seg-length g, cont-inside c)
    cont-inside (c-var e r h c) = omega (arith, cont-inside c)
    cont-inside (c-chan e r h c) = omega (arith, cont-inside c)
    cont-inside (c-up e r c) = omega (arith, cont-inside c)
    cont-inside (c-while g f n b c) = omega (arith, cont-inside c)
    cont-inside (c-hop e h l c) = omega (arith, cont-inside c)

    -- the names in scope have words of their own, at and above the workspace
    pub cont-placed : {hi i w : ℕ} {vars chans : List Site} {k : List Frame} → Cont hi vars chans k i w → Placed a w vars chans
    cont-placed (c-end e r h) = placed-top a r h
    cont-placed (c-join e x y r h) = placed-top a r h
    cont-placed (c-seq g f c) = cont-placed c
    cont-placed (c-var {w} {p} {n} e r h c) = placed-vars p n w h r (cont-placed c)
    cont-placed (c-chan {w} {p} {n} e r h c) = placed-chans p n w h r (cont-placed c)
    cont-placed (c-up {w} {n} e r c) = placed-down w n r (cont-placed c)
    cont-placed (c-while g f n b c) = cont-placed c
    cont-placed (c-hop e h l c) = cont-placed c

    pub cont-low : {hi i w : ℕ} {vars chans : List Site} {k : List Frame} → Cont hi vars chans k i w → w ≤ a.top
    cont-low c = (cont-placed c).low

    pub cont-scoped : {hi i w : ℕ} {vars chans : List Site} {k : List Frame} → Cont hi vars chans k i w → Scoped w vars chans
    cont-scoped c = (cont-placed c).scoped

    pub cont-bound : {hi i w : ℕ} {vars chans : List Site} {k : List Frame} → Cont hi vars chans k i w → S.off i ≤ hi
    cont-bound (c-end e r h) = omega arith
    cont-bound (c-join e x y r h) = omega (arith, up S x, up S y)
    cont-bound (c-seq {i} {i'} g f c) = omega (arith, cont-bound c, rises-le S i i' (omega (arith, seg-length g)) (cont-inside c))
    cont-bound (c-var {i} e r h c) = omega (arith, cont-bound c, up S e)
    cont-bound (c-chan {i} e r h c) = omega (arith, cont-bound c, up S e)
    cont-bound (c-up {i} e r c) = omega (arith, cont-bound c, up S e)
    cont-bound (c-while {i} {b} {e} {s} g f n l c) = elim (loop-parts S e s g) [
      | tested m g₁ x g₂ d g₃ ↦
          omega (
            arith,
            l,
            S.rises i (suc i) (omega arith) (cont-inside c),
            rises-le S b (suc (b + whole_size e)) (omega arith) (omega (arith, seg-length g₂, seg-length g₃, cont-inside c)),
          )
    ]
    cont-bound (c-hop {i} {t} e h l c) = omega (arith, cont-bound c, rises-le S (suc i) t l (cont-inside c), up S e)
