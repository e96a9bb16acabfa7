-- Encoded instructions stand where `place_of` says, and decode to themselves.
use Prim.Native.Nat.{ℕ, zero, suc, ◌^◌, ◌≤◌, ◌<◌}
use native.Mathlib.Omega.{arith}
use native.Mathlib.Nat.{add-zero}
use native.Mathlib.Decide.{dec_lt}
use mathlib.Core.Path.{◌≡◌, refl}
use mathlib.Core.Bool.{true}
use mathlib.Core.List.{List, [], ◌∷◌}
use mathlib.Core.Option.{some}
use lib.ListN.{length, length-append, get_elem?}
use lib.Seq.{slice, take_at, take-append-add, drop-append-add, take-length, take-nil}
use Rattle.model.specs.Word.{less}
use Rattle.model.specs.Limits.{code_limit, word_limit}
use Rattle.model.specs.Syntax.{Program}
use Rattle.model.specs.Instruction.{Instruction, plain, distance}
use Rattle.model.specs.Prefix.{enough, with_prefixes}
use Rattle.model.specs.Counts.{need}
use Rattle.model.specs.Scheme.{scheme}
use Rattle.model.specs.Code.{prefixes_of, bytes_in, place_of, function_in, operand_in, encode, code_of, Realises}
use Rattle.model.proofs.Tables.WellFormed.{WellProgram}
use Rattle.model.specs.Code.{Fits, AllFit}
use Rattle.model.proofs.Coding.Fits.{fits-at, scheme-fits}
use Rattle.model.proofs.Coding.RoundTrip.{decode-alone, enough-ahead, enough-back, fewest-fits, with_prefixes-length}

pub place_of-below : (xs : List Instruction) (i : ℕ) → place_of xs i ≤ bytes_in xs
unfolding place_of bytes_in
place_of-below [] i = rw take-nil (omega arith)
place_of-below (y ∷ ys) zero = omega arith
place_of-below (y ∷ ys) (suc i) = omega (arith, place_of-below ys i)

-- each instruction takes at least a byte
pub place_of-past : (xs : List Instruction) (i : ℕ) → i ≤ length xs → i ≤ place_of xs i
unfolding place_of bytes_in
place_of-past xs zero h = omega arith
place_of-past [] (suc i) h = omega arith
place_of-past (x ∷ xs) (suc i) h = omega (arith, place_of-past xs i (omega arith))

pub encode-length : (off : ℕ → ℕ) (xs : List Instruction) → length (encode off xs) ≡ bytes_in xs
unfolding encode bytes_in
encode-length off [] = refl
encode-length off (x ∷ xs) = rw (length-append, with_prefixes-length, encode-length off xs)

pub place_of-end : (off : ℕ → ℕ) (xs : List Instruction) → place_of xs (length xs) ≡ length (encode off xs)
unfolding place_of
place_of-end off xs = rw (take-length xs, encode-length off xs)

-- the bytes of each instruction are those from its place up to the next one's
encode-slice : (off : ℕ → ℕ) (xs : List Instruction) (i : ℕ) (x : Instruction) → get_elem? xs i ≡ some x
    → slice (place_of xs i) (place_of xs (suc i)) (encode off xs) ≡ with_prefixes (prefixes_of x) (function_in x) (operand_in off x)
unfolding place_of bytes_in encode
encode-slice off [] i x e = cc
encode-slice off (y ∷ ys) zero x e = let q : y ≡ x = cc in rw (q, add-zero) (take_at _ _ _ (with_prefixes-length _ _ _))
encode-slice off (y ∷ ys) (suc i) x e =
    let l = with_prefixes-length (prefixes_of y) (function_in y) (operand_in off y) in
    rw (← l, take-append-add, drop-append-add) (encode-slice off ys i x e)

-- a distance between places of at most 65,536 bytes, counted from behind a first byte
distance-enough : (a b : ℕ) → a ≤ 65536 → 1 ≤ b → b ≤ 65536 → enough 3 (less a b) ≡ true
distance-enough a b ha hb hc =
    elim (dec_lt a b) [ yes l ↦ enough-back _ (omega arith) (omega arith) | no l ↦ enough-ahead _ (omega arith) ]

pub operand-word : (off : ℕ → ℕ) (count : ℕ) (x : Instruction) → Fits count x → operand_in off x < 2 ^ 32
unfolding operand_in
operand-word off count (plain f n) h = h
operand-word off count (distance f r u) h = omega arith

-- in a list of at most 65,536 bytes the prefixes of each operand are enough, so each instruction decodes to itself
module _ (xs : List Instruction) (small : bytes_in xs ≤ 65536) where
  operand-enough : (x : Instruction) → Fits (length xs) x → enough (prefixes_of x) (operand_in (place_of xs) x) ≡ true
  unfolding operand_in prefixes_of
  operand-enough (plain f n) h = (fewest-fits n).0
  operand-enough (distance f r u) h =
      let past = place_of-past xs (suc u) h.1 in
      distance-enough _ _ (omega (arith, place_of-below xs r)) (omega arith) (omega (arith, place_of-below xs (suc u)))

  pub encode-realises : AllFit (length xs) xs → Realises (encode (place_of xs) xs) xs (place_of xs)
  unfolding place_of bytes_in
  encode-realises fit = record {
    begins = refl;
    ends = place_of-end (place_of xs) xs;
    each = λ i x e.
        let h = fits-at i x fit e in
        rw (encode-slice (place_of xs) xs i x e)
        (decode-alone (prefixes_of x) (function_in x) _ (operand-word (place_of xs) (length xs) x h) (operand-enough x h));
  }

-- the code of a well-formed program that is not too large realises its scheme
pub code-realises : (p : Program) → WellProgram p → need p.body ≤ word_limit → length (code_of p) ≤ code_limit
    → Realises (code_of p) (scheme p) (place_of (scheme p))
unfolding code_of
code-realises p well hn hc =
    encode-realises (scheme p) (omega (arith, encode-length (place_of (scheme p)) (scheme p))) (scheme-fits p well hn)
