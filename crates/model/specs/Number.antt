-- The numbers of a table (01, "The program table").
use Rattle.std.specs.Prelude.{ℕ, suc, ◌+◌, ◌-◌, ◌*◌, ◌^◌, cond, List, [], ◌∷◌, ltb, eqb}
use Rattle.std.proofs.Math.Option.{Option, none, some}

-- a number and how many bytes it takes
pub record Number : Type 0 where
  pub value : ℕ
  pub size : ℕ

-- one group of seven bits in front of the others. A group above that is 0 would not be the shortest form
abbrev grouped : ℕ → Option Number → Option Number
grouped b none = none
grouped b (some n) = cond (eqb n.value 0) none (some (record { value = b - 128 + 128 * n.value; size = suc n.size }))

-- groups of seven bits, lowest first, up to the first byte without 80; only the shortest form
unfoldable pub groups : List ℕ → Option Number
groups [] = none
groups (b ∷ bytes) = let rest = groups bytes in cond (ltb b 128) (some (record { value = b; size = 1 })) (grouped b rest)

-- values below 2 ^ 32
abbrev small : Option Number → Option Number
small none = none
small (some n) = cond (ltb n.value (2 ^ 32)) (some n) none

-- the number at the front of the bytes, if they begin with one: values below 2 ^ 32
unfoldable pub number : List ℕ → Option Number
number bytes = small (groups bytes)
