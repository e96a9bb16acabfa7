-- Which tables are accepted: refusals 1 to 7 and 9, lowest first after reading (01, "When a call is turned down").
use Rattle.std.specs.Prelude.{ℕ, ◌+◌, cond, List, leb, Result, Ok, Err}
use Rattle.std.proofs.Math.Option.{Option, none, some}
use Rattle.model.specs.Syntax.{Program}
use Rattle.model.specs.Reader.{Read, program, refused, read_table}
use Rattle.model.specs.Usage.{first_clash}
use Rattle.model.specs.Counts.{processes, need}
use Rattle.model.specs.Answers.{refused_for}
use Rattle.model.specs.declared.Facts.{Facts}
use Rattle.model.specs.declared.Reason.TheVariants.{Clash, TooManyProcesses}
use Rattle.model.specs.declared.Refusal.{Refusal}

-- the most processes that may be live together (refusal 9, and the bound of demand 3)
abbrev pub limit : ℕ
limit = 64

-- 7 at the place found, if one was; else what is tested next
abbrev clash_or : Option ℕ → Read → Read
clash_or none r = r
clash_or (some p) r = refused Clash p

-- 7 at the first PAR with a clash, then 9 at place 0: lowest first, whatever the places
unfoldable pub checks : Program → Read
checks p = clash_or (first_clash p.body) (cond (leb (processes p.body) limit) (program p) (refused TooManyProcesses 0))

-- 7 and 9 are tested after the whole table was read
abbrev pub on_read : Read → Read
on_read (program p) = checks p
on_read (refused why p) = refused why p

-- a table that passes refusals 1 to 7 and 9. 10 and 11 need the code: Code.antt has them
unfoldable pub accept : List ℕ → Read
accept table = on_read (read_table table)

-- memory words with outside channels, as refusal 10 and the bench program count them
abbrev pub memory_words : Program → ℕ
memory_words p = need p.body + p.inputs + p.outputs

-- a reading's answer: the facts, or the refusal
abbrev pub answer_of : Read → Result Facts Refusal
answer_of (program p) =
    Ok (record { words = memory_words p; inputs = p.inputs; outputs = p.outputs; processes = processes p.body })
answer_of (refused why p) = Err (refused_for why p)
