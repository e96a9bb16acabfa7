-- What stands where in a program's code: places rise with indices; the parts of a test, of a loop, of a pair and of an initialisation.
use Prim.Native.Nat.{ℕ, zero, suc, ◌+◌, ◌≤◌, ◌<◌}
use native.Mathlib.Omega.{arith}
use native.Mathlib.Numerals.{add-one}
use native.Mathlib.Decide.{ℕ_discrete}
use mathlib.Core.Path.{◌≡◌, ◌∙◌}
use mathlib.Core.Logic.{⊎_elim}
use mathlib.Core.List.Memᴰ
use mathlib.Core.List.{List, [], ◌∷◌, ◌++◌, Memᴰ}
use lib.ListN.{length, length-append}
use Rattle.model.specs.Syntax.{Site, declared, Expr, Stmt, WHILE, Pairs, pair}
use Rattle.model.specs.Reader.{numbered, names}
use Rattle.model.specs.Instruction.{cj, stl, Instruction, plain, distance}
use Rattle.model.specs.Instruction as I
use Rattle.model.specs.Scheme.{initialise, whole_size, size, whole_code, code, code_pairs}
use Rattle.model.proofs.Quiet.Stretches.{Seg, nil, at, cut}
use Rattle.model.proofs.Coding.Sizes.{code-length, whole_length, initialise-length}
use Rattle.model.proofs.Quiet.Setting.{Setting, get_elem-inside, At}

-- the names of a VAR
pub data Named (p n : ℕ) (x : Site) : Type 0 where
  named : (j : ℕ) → j < n → x ≡ declared p j → Named p n x

pub named_in : (p n : ℕ) {x : Site} → Memᴰ x (names p n) → Named p n x
unfolding numbered
named_in p zero m = absurd (Memᴰ.not-nil m)
named_in p (suc n) {x} m =
    ⊎_elim
    (λ h. elim (named_in p n {x = x} h) [ named j b e ↦ named j (omega arith) e ])
    (λ h. named n (omega arith) (Memᴰ.eq_of_singleton h))
    (Memᴰ.append_cases (names p n) m)

module _ (S : Setting) where
  pub inside : {i : ℕ} {x : Instruction} → At S i x → i < length S.xs
  inside {i} e = get_elem-inside S.xs i e

  pub up : {i : ℕ} {x : Instruction} → At S i x → S.off i < S.off (suc i)
  up {i} e = S.rises i (suc i) (omega arith) (inside e)

  pub rises-le : (i k : ℕ) → i ≤ k → k ≤ length S.xs → S.off i ≤ S.off k
  rises-le i k h l = by (ℕ_discrete i k)
    where
      by : Dec (i ≡ k) → S.off i ≤ S.off k
      by (yes e) = rw e (omega arith)
      by (no e) = omega (arith, S.rises i k (omega arith) l)

  -- a condition, CJ past the J, a statement, and a J to t: in a WHILE, and for each pair of an IF
  pub data Tested (w i t i' : ℕ) (e : Expr) (s : Stmt) (zs : ℕ → List Instruction) : Type 0 where
    tested : (m : ℕ) → Seg S.xs i (whole_code S.word w e) (i + whole_size e)
        → At S (i + whole_size e) (distance cj (suc m) (i + whole_size e))
        → Seg S.xs (suc (i + whole_size e)) (code S.word w (suc (i + whole_size e)) s) m → At S m (distance I.j t m)
        → Seg S.xs (suc m) (zs (suc m)) i' → Tested w i t i' e s zs

  test-pick : {w i t i' m : ℕ} {e : Expr} {s : Stmt} (zs : ℕ → List Instruction)
      → Seg S.xs i (whole_code S.word w e) (i + whole_size e)
      → Seg S.xs (i + whole_size e) (distance cj (m + 1) (i + whole_size e) ∷ code S.word w (i + whole_size e + 1) s) m
      → Seg S.xs m (distance I.j t m ∷ zs (m + 1)) i' → Tested w i t i' e s zs
  test-pick {i} {m} {e} zs g (at p h) (at q r) =
      tested m g (rw (add-one m) at p) (rw (add-one (i + whole_size e)) at h) q (rw (add-one m) at r)

  test_parts : {w i t i' : ℕ} (e : Expr) (s : Stmt) (zs : ℕ → List Instruction)
      → Seg S.xs i
      (whole_code S.word w e
      ++ distance cj (i + whole_size e + 1 + size s + 1) (i + whole_size e)
      ∷ code S.word w (i + whole_size e + 1) s
      ++ distance I.j t (i + whole_size e + 1 + size s)
      ∷ zs (i + whole_size e + 1 + size s + 1)) i'
      → Tested w i t i' e s zs
  test_parts {w} {i} e s zs g =
      let test = i + whole_size e in
      let back = test + 1 + size s in
      let front = whole_code S.word w e in
      let body = code S.word w (test + 1) s in
      let long : length (front ++ distance cj (back + 1) test ∷ body) ≡ whole_size e + suc (size s) =
      length-append front _ ∙ omega (arith, whole_length S.word w e, code-length S.word w (test + 1) s) in
      let (g₁, g₂) = cut (front ++ distance cj (back + 1) test ∷ body) back (omega arith) g in
      let (g₃, g₄) = cut front test (omega (arith, whole_length S.word w e)) g₁ in
      test-pick {m = back} {e = e} {s = s} zs g₃ g₄ g₂

  pub loop-parts : {w b i' : ℕ} (e : Expr) (s : Stmt) → Seg S.xs b (code S.word w b (WHILE e s)) i' → Tested w b b i' e s (λ i. [])
  unfolding code
  loop-parts e s g = test_parts e s (λ i. []) g

  pub pair_parts : {w i over i' : ℕ} (e : Expr) (s : Stmt) (ps : Pairs) → Seg S.xs i (code_pairs S.word w i over (pair e s ps)) i'
      → Tested w i over i' e s (λ m. code_pairs S.word w m over ps)
  unfolding code_pairs
  pair_parts {w} {over} e s ps g = test_parts e s (λ m. code_pairs S.word w m over ps) g

  -- the words of a VAR's initialisation
  pub init-at : {c c' : ℕ} (f : Instruction) (n : ℕ) → Seg S.xs c (initialise f n) c' → (j : ℕ) → j < n
      → At S (c + (j + j)) f × At S (suc (c + (j + j))) (plain stl j)
  unfolding initialise
  init-at f zero g j h = absurd (omega arith)
  init-at {c} {c'} f (suc n) g j h =
      let (g₁, g₂) = cut (initialise f n) (c + (n + n)) (omega (arith, initialise-length f n)) g in
      by (ℕ_discrete j n) (λ l. init-at {c' = c + (n + n)} f n g₁ j l) g₂
    where
      two : {c' : ℕ} → Seg S.xs (c + (n + n)) (f ∷ plain stl n ∷ []) c' → At S (c + (n + n)) f × At S (suc (c + (n + n))) (plain stl n)
      two (at p (at q nil)) = (p, q)

      by : {c' : ℕ} → Dec (j ≡ n) → (j < n → At S (c + (j + j)) f × At S (suc (c + (j + j))) (plain stl j))
          → Seg S.xs (c + (n + n)) (f ∷ plain stl n ∷ []) c' → At S (c + (j + j)) f × At S (suc (c + (j + j))) (plain stl j)
      by (yes e) rec t = rw e (two t)
      by (no e) rec t = rec (omega arith)
