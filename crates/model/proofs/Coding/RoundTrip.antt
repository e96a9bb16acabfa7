-- An operand coded with any number of prefixes that is enough for it is decoded again.
use Prim.Native.Nat.{ℕ, zero, suc, ◌+◌, ◌-◌, ◌*◌, ◌/◌, ◌%◌, ◌^◌, ◌≤◌, ◌<◌, min}
use native.Mathlib.Omega.{arith}
use native.Mathlib.Numerals.{add-one}
use native.Mathlib.Nat.{pow-suc}
use mathlib.Core.Path.{◌≡◌, refl, sym, ◌∙◌}
use mathlib.Core.Bool.{Bool, true, false, cond, ◌&&◌}
use mathlib.Core.List.{List, [], ◌∷◌, ◌++◌, append-nil, append_assoc}
use mathlib.Core.Option.{some}
use lib.ListN.{length, length-append}
use lib.Dec.{ltb, leb}
use borrow.Author.Tests.{ltb-true, ltb-false, lt-ltb, leb-true, le-leb, ne_eqb}
use Rattle.model.specs.Word.{low}
use Rattle.model.specs.Instruction.{Function, j, ldlp, ldc, ldl, cj, ajw, eqc, stl, opr, function_code, pfix_code, nfix_code}
use Rattle.model.specs.Prefix.{shifted, first_prefix, prefixes, with_prefixes, enough, fewest_from, fewest, pfixed, nfixed, decode}

-- how far a signed word is from 0 or, below 0, from -1
abbrev pub magnitude : ℕ → ℕ
magnitude n = min n (2 ^ 32 - 1 - n)

-- the two ways a word is read signed
data Sign (n : ℕ) : Type 0 where
  from_zero : n < 2 ^ 31 → shifted n ≡ n / 16 → first_prefix n ≡ pfix_code * 16 + n % 16
      → ((k : ℕ) → enough k n ≡ ltb n (16 ^ suc k)) → Sign n
  below-zero : 2 ^ 31 ≤ n → shifted n ≡ 2 ^ 32 - 1 - (2 ^ 32 - 1 - n) / 16 → first_prefix n ≡ nfix_code * 16 + (15 - n % 16)
      → ((k : ℕ) → enough k n ≡ leb 1 k && ltb (2 ^ 32 - 1 - n) (16 ^ suc k)) → Sign n

sign : (n : ℕ) → Sign n
unfolding shifted first_prefix enough
sign n = go (ltb n (2 ^ 31)) refl
  where
    go : (t : Bool) → ltb n (2 ^ 31) ≡ t → Sign n
    go true e = from_zero (ltb-true _ _ e) (rw e) (rw e) (λ k. rw e)
    go false e = below-zero (ltb-false _ _ e) (rw e) (rw e) (λ k. rw e)

-- a word without its low four bits: moved up again it has zeros there
record IsShifted (n m : ℕ) : Type 0 where
  word : m < 2 ^ 32
  back : low (m * 16) ≡ n / 16 * 16
  less : magnitude m ≡ magnitude n / 16

is-shifted : (n : ℕ) → n < 2 ^ 32 → IsShifted n (shifted n)
is-shifted n h = elim (sign n) [ from_zero s e p f ↦ rw e (omega arith) | below-zero s e p f ↦ rw e (omega arith) ]

-- a prefix takes in four bits; a byte that is none ends the instruction
pfix-step : (o d : ℕ) (more : List ℕ) → d < 16 → decode o ((pfix_code * 16 + d) ∷ more) ≡ decode (pfixed (o / 16 * 16 + d)) more
unfolding decode
pfix-step o d more h =
    let q : (pfix_code * 16 + d) / 16 ≡ pfix_code = omega arith in
    let r : (pfix_code * 16 + d) % 16 ≡ d = omega arith in
    rw (q, r)

nfix-step : (o d : ℕ) (more : List ℕ) → d < 16 → decode o ((nfix_code * 16 + d) ∷ more) ≡ decode (nfixed (o / 16 * 16 + d)) more
unfolding decode
nfix-step o d more h =
    let q : (nfix_code * 16 + d) / 16 ≡ nfix_code = omega arith in
    let r : (nfix_code * 16 + d) % 16 ≡ d = omega arith in
    rw (q, r)

no-prefix : (f : Function) → (function_code f ≡ pfix_code → ⊥) × (function_code f ≡ nfix_code → ⊥)
unfolding function_code
no-prefix j = omega arith
no-prefix ldlp = omega arith
no-prefix ldc = omega arith
no-prefix ldl = omega arith
no-prefix cj = omega arith
no-prefix ajw = omega arith
no-prefix eqc = omega arith
no-prefix stl = omega arith
no-prefix opr = omega arith

last_step : (o d : ℕ) (f : Function) (more : List ℕ) → d < 16
    → decode o ((function_code f * 16 + d) ∷ more) ≡ some (record { function = function_code f; operand = o / 16 * 16 + d; rest = more })
unfolding decode
last_step o d f more h =
    let q : (function_code f * 16 + d) / 16 ≡ function_code f = omega arith in
    let r : (function_code f * 16 + d) % 16 ≡ d = omega arith in
    rw (q, r, ne_eqb _ _ (no-prefix f).0, ne_eqb _ _ (no-prefix f).1)

-- a word of one digit is its first prefix's
first-gathers : (m : ℕ) (more : List ℕ) → m < 2 ^ 32 → magnitude m < 16 → decode 0 (first_prefix m ∷ more) ≡ decode (low (m * 16)) more
first-gathers m more h small = go (sign m)
  where
    go : Sign m → decode 0 (first_prefix m ∷ more) ≡ decode (low (m * 16)) more
    go (from_zero s e p f) =
        let o : pfixed (0 / 16 * 16 + m % 16) ≡ low (m * 16) = omega arith in
        rw (p, pfix-step 0 (m % 16) more (omega arith), o)
    go (below-zero s e p f) =
        let o : nfixed (0 / 16 * 16 + (15 - m % 16)) ≡ low (m * 16) = omega arith in
        rw (p, nfix-step 0 (15 - m % 16) more (omega arith), o)

-- the low four bits set to those of the number
joined : (n : ℕ) → n / 16 * 16 / 16 * 16 + n % 16 ≡ n
joined n = omega arith

-- prefixes for the higher digits of an operand gather them
prefixes-gather : (k n : ℕ) (more : List ℕ) → n < 2 ^ 32 → magnitude n < 16 ^ suc (suc k)
    → decode 0 (prefixes (suc k) (shifted n) ++ more) ≡ decode (n / 16 * 16) more
unfolding prefixes
prefixes-gather zero n more h small =
    let i = is-shifted n h in
    rw (first-gathers (shifted n) more i.word (omega arith), i.back)
prefixes-gather (suc k) n more h small =
    let i = is-shifted n h in
    let m = shifted n in
    let ih = prefixes-gather k m ((pfix_code * 16 + m % 16) ∷ more) i.word (omega (arith, pow-suc 16 (suc (suc k)))) in
    rw (append_assoc, ih, pfix-step _ (m % 16) more (omega arith), joined, i.back)

-- what is enough, as an inequality
and-true : (a b : Bool) → a && b ≡ true → b ≡ true
and-true true b e = e
and-true false b e = cc

enough-magnitude : (k n : ℕ) → enough k n ≡ true → magnitude n < 16 ^ suc k
enough-magnitude k n h = go (sign n)
  where
    go : Sign n → magnitude n < 16 ^ suc k
    go (from_zero s e p f) = let b = ltb-true n (16 ^ suc k) (sym (f k) ∙ h) in omega arith
    go (below-zero s e p f) = let b = ltb-true (2 ^ 32 - 1 - n) (16 ^ suc k) (and-true (leb 1 k) _ (sym (f k) ∙ h)) in omega arith

enough-zero : (n : ℕ) → enough 0 n ≡ true → n < 16
enough-zero n h = go (sign n)
  where
    go : Sign n → n < 16
    go (from_zero s e p f) = ltb-true _ _ (sym (f 0) ∙ h)
    go (below-zero s e p f) = let z : 1 ≤ 0 = leb-true 1 0 (sym (f 0) ∙ h) in omega arith

pub magnitude-enough : (k n : ℕ) → 1 ≤ k → magnitude n < 16 ^ suc k → enough k n ≡ true
magnitude-enough k n one h = go (sign n)
  where
    go : Sign n → enough k n ≡ true
    go (from_zero s e p f) = f k ∙ lt-ltb n (16 ^ suc k) (omega arith)
    go (below-zero s e p f) = rw (f k, le-leb 1 k one, lt-ltb (2 ^ 32 - 1 - n) (16 ^ suc k) (omega arith))

-- a distance of up to 65,536 bytes has room behind three prefixes
pub enough-ahead : (n : ℕ) → n < 65536 → enough 3 n ≡ true
enough-ahead n h = magnitude-enough 3 n (omega arith) (omega arith)

pub enough-back : (n : ℕ) → 2 ^ 32 - 65536 ≤ n → n < 2 ^ 32 → enough 3 n ≡ true
enough-back n l h = magnitude-enough 3 n (omega arith) (omega arith)

-- the fewest prefixes are enough, and at most seven
fewest_from-enough : (f k n : ℕ) → enough (k + f) n ≡ true → (enough (fewest_from f k n) n ≡ true) × (fewest_from f k n ≤ k + f)
unfolding fewest_from
fewest_from-enough zero k n h = let z : k + 0 ≡ k = omega arith in (rw z at h, omega arith)
fewest_from-enough (suc f) k n h = go (fewest_from-enough f (suc k) n (rw z h)) (enough k n) refl
  where
    z : suc k + f ≡ k + suc f
    z = omega arith

    go : (enough (fewest_from f (suc k) n) n ≡ true) × (fewest_from f (suc k) n ≤ suc k + f) → (t : Bool) → enough k n ≡ t
        → (enough (cond t k (fewest_from f (suc k) n)) n ≡ true) × (cond t k (fewest_from f (suc k) n) ≤ k + suc f)
    go ih true e = (e, omega arith)
    go ih false e = (ih.0, omega arith)

pub fewest-fits : (n : ℕ) → (enough (fewest n) n ≡ true) × (fewest n ≤ 7)
unfolding fewest
fewest-fits n = fewest_from-enough 7 0 n (magnitude-enough 7 n (omega arith) (omega arith))

-- so many prefixes and the last byte
pub prefixes-length : (k n : ℕ) → length (prefixes k n) ≡ k
unfolding prefixes
prefixes-length zero n = refl
prefixes-length (suc zero) n = refl
prefixes-length (suc (suc k)) n = rw (length-append, prefixes-length (suc k) (shifted n), add-one)

pub with_prefixes-length : (k : ℕ) (f : Function) (n : ℕ) → length (with_prefixes k f n) ≡ suc k
unfolding with_prefixes
with_prefixes-length k f n = rw (length-append, prefixes-length k (shifted n), add-one)

-- an instruction is decoded from the front of any bytes that begin with it
pub decode-front : (k : ℕ) (f : Function) (n : ℕ) (more : List ℕ) → n < 2 ^ 32 → enough k n ≡ true
    → decode 0 (with_prefixes k f n ++ more) ≡ some (record { function = function_code f; operand = n; rest = more })
unfolding with_prefixes prefixes
decode-front zero f n more h e =
    let s = enough-zero n e in
    let o : 0 / 16 * 16 + n % 16 ≡ n = omega arith in
    rw (last_step 0 (n % 16) f more (omega arith), o)
decode-front (suc k) f n more h e =
    let g = prefixes-gather k n ((function_code f * 16 + n % 16) ∷ more) h (enough-magnitude (suc k) n e) in
    rw (append_assoc, g, last_step _ (n % 16) f more (omega arith), joined)

pub decode-alone : (k : ℕ) (f : Function) (n : ℕ) → n < 2 ^ 32 → enough k n ≡ true
    → decode 0 (with_prefixes k f n) ≡ some (record { function = function_code f; operand = n; rest = [] })
decode-alone k f n h e = rw append-nil at (decode-front k f n [] h e)
