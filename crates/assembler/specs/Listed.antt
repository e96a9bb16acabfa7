-- The lists that the assembler is for, and what it makes of every one: the definitions' places, size and bytes.
use Rattle.std.specs.Prelude.{ℕ, ◌≤◌, ◌≡◌, List, length, get_or, take}
use Rattle.std.proofs.lemmas.List.Edits.{sets}
use Rattle.model.specs.Limits.{code_limit}
use Rattle.model.specs.Instruction.{Instruction}
use Rattle.model.specs.Code.{AllFit, bytes_in, place_of, encode}
use Rattle.assembler.specs.Entries.{entries_of}
use Rattle.assembler.specs.declared.entry.Entry.{Entry}

-- the first so many entries are these instructions: no more than the limit of code bytes, operands are words, and distances stay inside
pub record Listed (xs : List Instruction) (count : ℕ) (list : List Entry) : Type 0 where
  pub counted : count ≡ length xs
  pub short : length xs ≤ code_limit
  pub fit : AllFit (length xs) xs
  pub entries : take (length xs) list ≡ entries_of xs

-- the places of all instructions and of the end
abbrev pub PlacesOf : (xs : List Instruction) (places : List ℕ) → Type 0
PlacesOf xs p = (i : ℕ) → i ≤ length xs → get_or p i 0 ≡ place_of xs i

-- what the assembler makes of every such list: the size, the places, and the bytes in front of the buffer, as many as it has room for
abbrev pub Size : (count : ℕ) → (list : List Entry) → (size : ℕ) → Type 0
Size n l size = (xs : List Instruction) → Listed xs n l → size ≡ bytes_in xs

abbrev pub Places : (count : ℕ) → (list : List Entry) → (places : List ℕ) → Type 0
Places n l p = (xs : List Instruction) → Listed xs n l → PlacesOf xs p

abbrev pub Bytes : (count : ℕ) → (list : List Entry) → (places before after : List ℕ) → Type 0
Bytes n l p o m = (xs : List Instruction) → Listed xs n l → PlacesOf xs p → m ≡ sets o 0 (encode (place_of xs) xs)
