-- Numbers as bytes.
use Rattle.std.specs.Prelude.{ℕ, ◌%◌, List, [], ◌∷◌}

-- the low bytes of numbers in front, as far as the numbers and the buffer go; the rest of the buffer as it was
unfoldable pub low_bytes : (numbers buffer : List ℕ) → List ℕ
low_bytes [] b = b
low_bytes (n ∷ ns) [] = []
low_bytes (n ∷ ns) (x ∷ b) = n % 256 ∷ low_bytes ns b
