-- Words: what the operators give is what the machine's instructions give, and is a word.
use Prim.Native.Nat.{ℕ, ◌+◌, ◌-◌, ◌*◌, ◌^◌, ◌≤◌, ◌<◌}
use native.Mathlib.Omega.{arith}
use mathlib.Core.Path.{◌≡◌, refl}
use mathlib.Core.Bool.{Bool, true, false}
use mathlib.Core.List.{List, Memᴰ}
use lib.Bits.{and_lt, or_lt, xor_lt}
use lib.Dec.{eqb, ltb}
use lib.Signed.{lt_z}
use borrow.Author.Tests.{lt-ltb, le-ltb, eq-eqb, ne_eqb, eqb-true, eqb-false, ltb-true, ltb-false}
use Rattle.model.specs.Word.{low, less, signed, truth}
use Rattle.model.specs.Syntax.{Site, Expr, constant, variable, NOT, binary}
use Rattle.model.specs.declared.kinds.Operator.{Operator}
use Rattle.model.specs.declared.kinds.Operator.TheVariants.{Plus as PLUS, Minus as MINUS, Times as TIMES, Gt as GT, Eq as EQ}
use Rattle.model.specs.declared.kinds.Operator.TheVariants.{And as AND, Or as OR, Xor as XOR}
use Rattle.model.specs.Execute.{above}
use Rattle.model.specs.Occam.{operate, deny, eval, Store}

-- an expression whose variables are in scope and whose constants are words
abbrev pub FineExpr : List Site → Expr → Type 0
FineExpr live (constant n) = n < 2 ^ 32
FineExpr live (variable x) = Memᴰ x live
FineExpr live (NOT e) = FineExpr live e
FineExpr live (binary op l r) = FineExpr live l × FineExpr live r

pub truth-word : (t : Bool) → truth t < 2 ^ 32
truth-word true = omega arith
truth-word false = omega arith

pub low_word : (n : ℕ) → low n < 2 ^ 32
low_word n = omega arith

-- DIFF, EQC 0 is EQ
pub eq-words : (l r : ℕ) → l < 2 ^ 32 → r < 2 ^ 32 → eqb (less l r) 0 ≡ eqb l r
eq-words l r hl hr = by (eqb l r) refl
  where
    by : (t : Bool) → eqb l r ≡ t → eqb (less l r) 0 ≡ t
    by true e = let h : l ≡ r = eqb-true l r e in eq-eqb (less l r) 0 (omega arith)
    by false e = ne_eqb (less l r) 0 (λ (z : less l r ≡ 0). eqb-false l r e (omega arith))

-- two comparisons that hold together are one
ltb-same : (a b c d : ℕ) → (a < b → c < d) → (c < d → a < b) → ltb a b ≡ ltb c d
ltb-same a b c d f g = by (ltb c d) refl
  where
    by : (t : Bool) → ltb c d ≡ t → ltb a b ≡ t
    by true e = lt-ltb a b (g (ltb-true c d e))
    by false e = not-lt (ltb a b) refl
      where
        not-lt : (u : Bool) → ltb a b ≡ u → u ≡ false
        not-lt true k = let p : c < d = f (ltb-true a b k) in let q : d ≤ c = ltb-false c d e in absurd (omega arith)
        not-lt false k = refl

-- comparing with 2 ^ 31 added is comparing signed
pub gt-words : (l r : ℕ) → l < 2 ^ 32 → r < 2 ^ 32 → above l r ≡ lt_z (signed r) (signed l)
unfolding signed
gt-words l r hl hr = by (ltb l (2 ^ 31)) (ltb r (2 ^ 31)) refl refl
  where
    by : (s t : Bool) → ltb l (2 ^ 31) ≡ s → ltb r (2 ^ 31) ≡ t → above l r ≡ lt_z (signed r) (signed l)
    by true true e f =
        let p : l < 2 ^ 31 = ltb-true l (2 ^ 31) e in
        let q : r < 2 ^ 31 = ltb-true r (2 ^ 31) f in
        rw (e, f) (ltb-same _ _ r l (λ (h : low (r + 2 ^ 31) < low (l + 2 ^ 31)). omega arith) (λ (h : r < l). omega arith))
    by true false e f =
        let p : l < 2 ^ 31 = ltb-true l (2 ^ 31) e in
        let q : 2 ^ 31 ≤ r = ltb-false r (2 ^ 31) f in
        rw (e, f) (lt-ltb (low (r + 2 ^ 31)) (low (l + 2 ^ 31)) (omega arith))
    by false true e f =
        let p : 2 ^ 31 ≤ l = ltb-false l (2 ^ 31) e in
        let q : r < 2 ^ 31 = ltb-true r (2 ^ 31) f in
        rw (e, f) (le-ltb (low (r + 2 ^ 31)) (low (l + 2 ^ 31)) (omega arith))
    by false false e f =
        let p : 2 ^ 31 ≤ l = ltb-false l (2 ^ 31) e in
        let q : 2 ^ 31 ≤ r = ltb-false r (2 ^ 31) f in
        rw (e, f)
        (ltb-same _ _ (2 ^ 32 - 1 - l) (2 ^ 32 - 1 - r) (λ (h : low (r + 2 ^ 31) < low (l + 2 ^ 31)). omega arith)
        (λ (h : 2 ^ 32 - 1 - l < 2 ^ 32 - 1 - r). omega arith))

pub operate-word : (op : Operator) (l r : ℕ) → l < 2 ^ 32 → r < 2 ^ 32 → operate op l r < 2 ^ 32
unfolding operate
operate-word PLUS l r hl hr = low_word (l + r)
operate-word MINUS l r hl hr = low_word (l + 2 ^ 32 - r)
operate-word TIMES l r hl hr = low_word (l * r)
operate-word GT l r hl hr = truth-word (lt_z (signed r) (signed l))
operate-word EQ l r hl hr = truth-word (eqb l r)
operate-word AND l r hl hr = and_lt 32 l r hl hr
operate-word OR l r hl hr = or_lt 32 l r hl hr
operate-word XOR l r hl hr = xor_lt 32 l r hl hr

pub eval-word : {live : List Site} (σ : Store) → ((x : Site) → Memᴰ x live → σ x < 2 ^ 32) → (e : Expr) → FineExpr live e
    → eval σ e < 2 ^ 32
unfolding eval deny
eval-word σ h (constant n) f = f
eval-word σ h (variable x) f = h x f
eval-word σ h (NOT e) f = truth-word (eqb (eval σ e) 0)
eval-word σ h (binary op l r) f = operate-word op _ _ (eval-word σ h l f.0) (eval-word σ h r f.1)
