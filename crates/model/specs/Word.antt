-- Words of 32 bits, as numbers below 2 ^ 32 (01: "Words have 32 bits").
use Rattle.std.specs.Prelude.{ℕ, ◌+◌, ◌-◌, ◌%◌, ◌^◌, Bool, true, false, cond, ltb, ℤ, pos, negsuc}
use Rattle.std.specs.Int.Signed.{lt_z}

-- the low 32 bits of a number
abbrev pub low : ℕ → ℕ
low n = n % 2 ^ 32

-- the word a - b, for words a and b
abbrev pub less : ℕ → ℕ → ℕ
less a b = low (a + 2 ^ 32 - b)

-- the word -n, for a word n
abbrev pub minus : ℕ → ℕ
minus n = less 0 n

-- a word read signed
unfoldable pub signed : ℕ → ℤ
signed w = cond (ltb w (2 ^ 31)) (pos w) (negsuc (2 ^ 32 - 1 - w))

-- 02, order 4: one time is after another when it less the other, low 32 bits, read signed, is above 0
unfoldable pub after : ℕ → ℕ → Bool
after x y = lt_z (pos 0) (signed (less x y))

-- 1 or 0, as GT and EQ give them
abbrev pub truth : Bool → ℕ
truth true = 1
truth false = 0

-- NotProcess, the least word read signed (01, "Workspace and code")
abbrev pub not_process : ℕ
not_process = 2 ^ 31
