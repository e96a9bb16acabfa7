-- What the assembler makes of a list of entries, one after the other: their places, the size of their code, its bytes (01, "Workspace and
-- code": code distances take exactly four bytes, other operands the shortest prefixes; distances count from the byte after their user).
use Rattle.std.specs.Prelude.{ℕ, zero, suc, ◌+◌, min, cond, List, get_or, set, leb}
use Rattle.std.proofs.lemmas.List.Edits.{sets}
use Rattle.model.specs.Limits.{code_limit}
use Rattle.model.specs.Word.{low, less}
use Rattle.model.specs.Prefix.{fewest, distance_prefixes}
use Rattle.instruction.specs.Coded.{coded}
use Rattle.assembler.specs.Entries.{byte_in, blank}
use Rattle.assembler.specs.declared.entry.Entry.{Entry}
use Rattle.assembler.specs.declared.entry.Entry.TheVariants.{Plain, Distance}

-- the prefixes of an entry
abbrev pub prefixes_in : Entry → ℕ
prefixes_in (Plain f n) = fewest n
prefixes_in (Distance f r u) = distance_prefixes

-- the place after so many entries from index i on, the first of which stands at place h
unfoldable pub sized : (left i h : ℕ) → (list : List Entry) → ℕ
sized zero i h l = h
sized (suc n) i h l = sized n (i + 1) (low (h + (prefixes_in (get_or l i blank) + 1))) l

-- their places, and behind them the place after the last
unfoldable pub placed : (left i h : ℕ) → (list : List Entry) → (places : List ℕ) → List ℕ
placed zero i h l p = set p i h
placed (suc n) i h l p = placed n (i + 1) (low (h + (prefixes_in (get_or l i blank) + 1))) l (set p i h)

-- the place of an index, 0 where there is none
unfoldable pub place_in : (places : List ℕ) → (index : ℕ) → ℕ
place_in p i = cond (leb i code_limit) (get_or p i 0) 0

-- an entry's operand, by the places
abbrev pub operand_by : (places : List ℕ) → Entry → ℕ
operand_by p (Plain f n) = n
operand_by p (Distance f r u) = less (place_in p r) (place_in p (u + 1))

-- the bytes of so many entries from index i on, each at its place
unfoldable pub wrote : (left i : ℕ) → (list : List Entry) → (places out : List ℕ) → List ℕ
wrote zero i l p o = o
wrote (suc n) i l p o =
    let e = get_or l i blank in
    wrote n (i + 1) l p (sets o (get_or p i 0) (coded (prefixes_in e) (byte_in e) (operand_by p e)))

-- so many entries as a list can have
abbrev pub within : ℕ → ℕ
within n = min n code_limit
