-- 01's limits, each named once. The code has them in src/limits.rt; Accept.antt has the one for live processes, which demand 3 uses too.
use Rattle.std.specs.Prelude.{ℕ}

-- the bytes of a table (refusal 1)
abbrev pub table_limit : ℕ
table_limit = 16384

-- the bytes of code (refusal 10)
abbrev pub code_limit : ℕ
code_limit = 16384

-- the words of memory, with outside channels (refusal 10)
abbrev pub word_limit : ℕ
word_limit = 4096

-- the deepest statement or expression (refusal 4)
abbrev pub depth_limit : ℕ
depth_limit = 32

-- the registers that an expression's code may use (02, order 2: never over 3)
abbrev pub register_limit : ℕ
register_limit = 3

-- outside inputs, and outside outputs (refusal 3)
abbrev pub channel_limit : ℕ
channel_limit = 8

-- the names of a VAR or CHAN (refusal 3)
abbrev pub name_limit : ℕ
name_limit = 32

-- the parts of a SEQ, an IF or an ALT (refusal 3)
abbrev pub part_limit : ℕ
part_limit = 32

-- the branches of a PAR (refusal 3)
abbrev pub branch_limit : ℕ
branch_limit = 16

-- the slice (refusal 15)
abbrev pub slice_limit : ℕ
slice_limit = 65535
