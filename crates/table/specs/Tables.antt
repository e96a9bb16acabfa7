-- A whole table as the reader answers it: the channel counts, the statement, and what is tested after it was read.
use Rattle.std.specs.Prelude.{ℕ, zero, suc, ◌+◌, cond, ◌||◌, List, length, ltb, leb, eqb, Result, Ok, Err}
use Rattle.model.specs.Answers.{refused_for}
use Rattle.model.specs.declared.Facts.{Facts}
use Rattle.model.specs.declared.Reason.TheVariants.{TableSize, BytesBehind, Clash, TooManyProcesses}
use Rattle.model.specs.declared.Refusal.{Refusal}
use Rattle.numbers.specs.Items.{refusal_of, between_at, with_read}
use Rattle.numbers.specs.declared.Misread.{Misread}
use Rattle.table.specs.Stmts.{stmt_at}
use Rattle.table.specs.declared.stmt.Part.{Part}
use Rattle.model.specs.Limits.{table_limit, depth_limit, channel_limit}
use Rattle.model.specs.Accept.{limit}

-- what follows a part that was read; a refusal is the table's
abbrev pub answered : {A : Type 0} → Result A Misread → (A → Result Facts Refusal) → Result Facts Refusal
answered x f = with_read (λ m. Err (refusal_of m)) x f

-- 7 at the place found, if one was; else what is tested next
abbrev pub clash_or : (clash : ℕ) → Result Facts Refusal → Result Facts Refusal
clash_or zero r = r
clash_or (suc p) r = Err (refused_for Clash p)

-- the answer for a statement that was read: refusals 6, 7 and 9, lowest first, then the facts
unfoldable pub finished : (ins outs len : ℕ) → Part → Result Facts Refusal
finished ins outs len p =
    cond (ltb p.next len) (Err (refused_for BytesBehind p.next))
    (clash_or p.clash
    (cond (leb p.processes limit)
    (Ok (record { words = p.words + ins + outs; inputs = ins; outputs = outs; processes = p.processes }))
    (Err (refused_for TooManyProcesses 0))))

-- the statement behind the channel counts, and nothing behind it
unfoldable pub body_at : (ins outs : ℕ) → List ℕ → (at : ℕ) → Result Facts Refusal
body_at ins outs s at =
    answered (stmt_at depth_limit (record { variables = 0; channels = ins + outs; inputs = ins; outputs = outs }) s at) (λ p.
    finished ins outs (length s) p)

-- a table of 1 byte to the most that one may have: the channel counts, then the statement
unfoldable pub table_at : List ℕ → Result Facts Refusal
table_at s =
    cond (eqb (length s) 0 || ltb table_limit (length s)) (Err (refused_for TableSize 0))
    (answered (between_at 0 channel_limit s 0) (λ ins.
    answered (between_at 0 channel_limit s ins.next) (λ outs. body_at ins.value outs.value s outs.next)))
