-- The list of an accepted table (01, "Workspace and code").
use Rattle.std.specs.Prelude.{ℕ, ◌+◌, ◌-◌, ◌≤◌, ◌≡◌, List, [], length}
use Rattle.std.proofs.lemmas.List.Edits.{sets}
use Rattle.model.specs.Limits.{depth_limit, word_limit}
use Rattle.model.specs.Word.{low}
use Rattle.model.specs.Syntax.{Program}
use Rattle.model.specs.Reader.{program}
use Rattle.model.specs.Accept.{accept, memory_words, answer_of}
use Rattle.model.specs.Scheme.{scheme}
use Rattle.model.specs.declared.Facts.{Facts}
use Rattle.std.specs.Prelude.{Ok}
use Rattle.assembler.specs.declared.entry.Entry.{Entry}
use Rattle.assembler.specs.Entries.{entries_of}
use Rattle.plan.specs.Extents.{plan_of}
use Rattle.plan.specs.Entries.{next_of}
use Rattle.expressions.specs.Emits.{Code, at}
use Rattle.expressions.specs.Names.{Names, declaring}
use Rattle.expressions.specs.Exprs.{code_of}
use Rattle.numbers.specs.declared.kinds.Declared.TheVariants.{Channels}
use Rattle.statements.specs.Kinds.{stmt_into}

-- no name in scope
abbrev pub no_names : Names
no_names = record { variables = []; channels = [] }

-- the list, and its length. 01: W = the need; outside channel k is word W + k
unfoldable pub table_into : (plan s : List ℕ) → Facts → (list : List Entry) → Code
table_into p s f l =
    let outside = low (f.inputs + f.outputs) in
    let w = f.words - outside in
    code_of (stmt_into depth_limit w (declaring Channels outside w no_names) p s (next_of s (next_of s 0)) (at 0 l))

-- for every accepted table whose program has at most 4,096 words, with its facts: the list is the scheme's, and its length
abbrev pub Lists : (table : List ℕ) → Facts → (before after : List Entry) → (count : ℕ) → Type 0
Lists s f before after n =
    (p : Program) → accept s ≡ program p → answer_of (accept s) ≡ Ok f → memory_words p ≤ word_limit
    → (n ≡ length (scheme p)) × (after ≡ sets before 0 (entries_of (scheme p)))

-- so it is with the plan of the table
abbrev pub Generates : (table plan : List ℕ) → Facts → (before after : List Entry) → (count : ℕ) → Type 0
Generates s p f before after n = p ≡ plan_of s → Lists s f before after n
