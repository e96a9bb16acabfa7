-- The prefixes that are written are the fewest (specs/Laws.antt, law 7).
use Prim.Native.Nat.{ℕ, zero, suc, ◌+◌, ◌/◌, ◌^◌, ◌≤◌, ◌<◌}
use native.Mathlib.Omega.{arith}
use native.Mathlib.Nat.{pow-suc}
use mathlib.Core.Path.{◌≡◌, refl, ap}
use mathlib.Core.Bool.{true}
use mathlib.Core.List.{List, [], ◌∷◌}
use mathlib.Core.Option.{some}
use lib.ListN.{length}
use lib.Dec.{ltb, eqb}
use borrow.Author.Tests.{ltb-true, ltb-false, lt-ltb}
use Rattle.model.specs.Instruction.{pfix_code, nfix_code, function_code}
use Rattle.model.specs.Prefix.{enough, fewest_from, fewest, gathered, pfixed, nfixed, Decoded, decode}
use Rattle.model.specs.Laws.{WritesShortest}
use Rattle.model.proofs.Cases.{by_bool, never}
use Rattle.model.proofs.Coding.RoundTrip.{magnitude, magnitude-enough, with_prefixes-length}

-- the fewest prefixes are no more than any number of them that is enough
fewest_from-least : (f k₀ k n : ℕ) → k₀ ≤ k → enough k n ≡ true → fewest_from f k₀ n ≤ k
unfolding fewest_from
fewest_from-least zero k₀ k n h e = h
fewest_from-least (suc f) k₀ k n h e =
    by_bool (enough k₀ n) (λ t. rw t h)
    (λ t. by_bool (ltb k₀ k)
    (λ l. rw t (fewest_from-least f (suc k₀) k n (omega (arith, ltb-true k₀ k l)) e))
    (λ l. let s : k₀ ≡ k = omega (arith, ltb-false k₀ k l) in never (cc (ap (λ z. enough z n) s))))

fewest-least : (k n : ℕ) → enough k n ≡ true → fewest n ≤ k
unfolding fewest
fewest-least k n e = fewest_from-least 7 0 k n (omega arith) e

-- what k prefixes can gather: a word with so many digits, and nothing where there is none
record Gathers (k o : ℕ) : Type 0 where
  word : o < 2 ^ 32
  few : magnitude o < 16 ^ suc k
  none_yet_lem : k ≡ 0 → o ≡ 0

-- a digit more stays within, and PFIX and NFIX move it up
digit-in : (k o b : ℕ) → Gathers k o → (gathered o b < 2 ^ 32) × (magnitude (gathered o b) < 16 ^ suc k)
digit-in k o b g = let w = g.word in let f = g.few in let p = pow-suc 16 k in (omega arith, omega arith)

pfix-in : (k o b : ℕ) → Gathers k o → Gathers (suc k) (pfixed (gathered o b))
pfix-in k o b g =
    let (w, f) = digit-in k o b g in
    let p = pow-suc 16 (suc k) in
    record { word = omega arith; few = omega arith; none_yet_lem = λ z. absurd (omega arith) }

nfix-in : (k o b : ℕ) → Gathers k o → Gathers (suc k) (nfixed (gathered o b))
nfix-in k o b g =
    let (w, f) = digit-in k o b g in
    let p = pow-suc 16 (suc k) in
    record { word = omega arith; few = omega arith; none_yet_lem = λ z. absurd (omega arith) }

-- an operand that k prefixes gather can be had with k prefixes
gathers-enough : (k o b : ℕ) → Gathers k o → enough k (gathered o b) ≡ true
unfolding enough
gathers-enough zero o b g =
    let z = g.none_yet_lem refl in
    let s : gathered o b < 16 = rw z (omega arith) in
    rw (lt-ltb (gathered o b) (2 ^ 31) (omega arith), lt-ltb (gathered o b) (16 ^ 1) (omega arith))
gathers-enough (suc k) o b g = magnitude-enough (suc k) (gathered o b) (omega arith) (digit-in (suc k) o b g).1

-- bytes that decode to an operand, with k prefixes before them
no-shorter : (k o : ℕ) (bytes : List ℕ) (d : Decoded) → Gathers k o → decode o bytes ≡ some d
    → suc (fewest d.operand) + length d.rest ≤ k + length bytes
unfolding decode
no-shorter k o [] d g e = never (cc)
no-shorter k o (b ∷ bytes) d g e =
    by_bool (eqb (b / 16) pfix_code)
    (λ p. omega (arith, no-shorter (suc k) (pfixed (gathered o b)) bytes d (pfix-in k o b g) (rw p at e)))
    (λ p. by_bool (eqb (b / 16) nfix_code)
    (λ n. omega (arith, no-shorter (suc k) (nfixed (gathered o b)) bytes d (nfix-in k o b g) (rw (p, n) at e)))
    (λ n.
    let last : some (record { function = b / 16; operand = gathered o b; rest = bytes }) ≡ some d = rw (p, n) at e in
    let is-operand : d.operand ≡ gathered o b = cc in
    let is-rest : d.rest ≡ bytes = cc in
    rw (is-operand, is-rest) (omega (arith, fewest-least k (gathered o b) (gathers-enough k o b g)))))

pub writes-shortest : WritesShortest
writes-shortest f n bytes rest e =
    let d : Decoded = record { function = function_code f; operand = n; rest = rest } in
    let g : Gathers 0 0 = record { word = omega arith; few = omega arith; none_yet_lem = λ z. refl } in
    rw (with_prefixes-length (fewest n) f n) (omega (arith, no-shorter 0 0 bytes d g e))
