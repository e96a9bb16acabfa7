-- Coding an instruction with its prefixes, and decoding (01, "Workspace and code", "The machine"; the guide's PFIX and NFIX).
use Rattle.std.specs.Prelude.{ℕ, zero, suc, ◌+◌, ◌-◌, ◌*◌, ◌/◌, ◌%◌, ◌^◌, Bool, cond, ◌&&◌, List, [], ◌∷◌, ◌++◌, ltb, leb, eqb}
use Rattle.std.proofs.Math.Option.{Option, none, some}
use Rattle.model.specs.Word.{low}
use Rattle.model.specs.Instruction.{Function, function_code, pfix_code, nfix_code}

-- a signed word divided by 16, rounded down
unfoldable pub shifted : ℕ → ℕ
shifted n = cond (ltb n (2 ^ 31)) (n / 16) (2 ^ 32 - 1 - (2 ^ 32 - 1 - n) / 16)

-- below 0 the first prefix is NFIX, all others are PFIX
unfoldable pub first_prefix : ℕ → ℕ
first_prefix n = cond (ltb n (2 ^ 31)) (pfix_code * 16 + n % 16) (nfix_code * 16 + (15 - n % 16))

-- so many prefixes for the higher digits of an operand
unfoldable pub prefixes : ℕ → ℕ → List ℕ
prefixes zero n = []
prefixes (suc zero) n = first_prefix n ∷ []
prefixes (suc (suc k)) n = prefixes (suc k) (shifted n) ++ (pfix_code * 16 + n % 16) ∷ []

-- an instruction with so many prefixes
unfoldable pub with_prefixes : ℕ → Function → ℕ → List ℕ
with_prefixes k f n = prefixes k (shifted n) ++ (function_code f * 16 + n % 16) ∷ []

-- a signed operand can be had with so many prefixes
unfoldable pub enough : ℕ → ℕ → Bool
enough k n = cond (ltb n (2 ^ 31)) (ltb n (16 ^ suc k)) (leb 1 k && ltb (2 ^ 32 - 1 - n) (16 ^ suc k))

-- the first number of prefixes from k on that is enough
unfoldable pub fewest_from : (fuel k : ℕ) → ℕ → ℕ
fewest_from zero k n = k
fewest_from (suc f) k n = let more = fewest_from f (suc k) n in cond (enough k n) k more

-- the shortest: the fewest prefixes that are enough, at most seven
unfoldable pub fewest : ℕ → ℕ
fewest n = fewest_from 7 0 n

-- code distances take exactly four bytes
abbrev pub distance_prefixes : ℕ
distance_prefixes = 3

-- every byte: the gathered operand with its low four bits set to the byte's
abbrev pub gathered : (operand byte : ℕ) → ℕ
gathered o b = o / 16 * 16 + b % 16

-- PFIX then moves it up by four bits
abbrev pub pfixed : ℕ → ℕ
pfixed o = low (o * 16)

-- NFIX turns every bit over and moves it up by four bits
abbrev pub nfixed : ℕ → ℕ
nfixed o = low ((2 ^ 32 - 1 - o) * 16)

-- a decoded instruction: its function's four bits, its operand, the bytes after it
pub record Decoded : Type 0 where
  pub function : ℕ
  pub operand : ℕ
  pub rest : List ℕ

-- prefix bytes are gathered until a byte that is no prefix; none where the bytes end before
unfoldable pub decode : ℕ → List ℕ → Option Decoded
decode o [] = none
decode o (b ∷ bytes) =
    let by_pfix = decode (pfixed (gathered o b)) bytes in
    let by_nfix = decode (nfixed (gathered o b)) bytes in
    let last : Option Decoded = some (record { function = b / 16; operand = gathered o b; rest = bytes }) in
    cond (eqb (b / 16) pfix_code) by_pfix (cond (eqb (b / 16) nfix_code) by_nfix last)
