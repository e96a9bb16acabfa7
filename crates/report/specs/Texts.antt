-- The bench program's text by its pieces: what each turn gives, and what is still to come.
use Rattle.std.specs.Prelude.{ℕ, suc, ◌+◌, ◌-◌, ◌*◌, ◌≡◌, Bool, true, false, cond, ◌||◌, List, [], ◌∷◌, ◌++◌, length, take, drop, get_or}
use Rattle.std.specs.Prelude.{ltb, eqb, Err, None, Ok, Some}
use Rattle.model.specs.Run.{run}
use Rattle.model.specs.Outside.{take as take_from}
use Rattle.model.specs.Word.{signed}
use Rattle.model.specs.Bench.{ascii, hex, newline, line, code_line, refused_line, signed_decimal, took_one, takes, bench_budget}
use Rattle.model.specs.Bench.{bench_clock}
use Rattle.model.specs.Bench.{on_takes, rounds}
use Rattle.model.specs.declared.Machine.{Machine}
use Rattle.model.specs.declared.Outcome.{Outcome}
use Rattle.model.specs.declared.Outcome.TheVariants.{Ended, Waiting, Spent, Fault}
use Rattle.model.specs.Answers.{RunAnswer, TakeAnswer}
use Rattle.report.specs.declared.piece.Piece.{Piece}
use Rattle.report.specs.declared.stage.Stage.{Stage}
use Rattle.report.specs.declared.stage.Stage.TheVariants.{Bytes, Words, Head, Code, Running, Taking, Refused, Done}
use Rattle.report.specs.declared.stage.Report.{Report}
use Rattle.report.specs.declared.turn.Turn.{Turn}

-- a piece's text
abbrev pub text_in : Piece → List ℕ
text_in p = take p.length p.bytes

-- a piece with a text more
pub record Adds (p : Piece) (l : List ℕ) (r : Piece) : Type 0 where
  pub text : text_in r ≡ text_in p ++ l
  pub long : r.length ≡ p.length + length l

-- a word in decimal, read signed
abbrev pub signed_text : ℕ → List ℕ
signed_text v = signed_decimal (signed v)

-- a report at another stage
abbrev pub at : Stage → Report → Report
at s r =
    record {
      machine = r.machine;
      stage = s;
      total = r.total;
      left = r.left;
      outputs = r.outputs;
      size = r.size;
      words = r.words;
    }

-- a report after a run of n instructions
abbrev pub after : Machine → ℕ → Stage → Report → Report
after m n s r =
    record {
      machine = m;
      stage = s;
      total = r.total + n;
      left = r.left - 1;
      outputs = r.outputs;
      size = r.size;
      words = r.words;
    }

-- a report after a take
abbrev pub taking : Machine → Stage → Report → Report
taking m s r =
    record {
      machine = m;
      stage = s;
      total = r.total;
      left = r.left;
      outputs = r.outputs;
      size = r.size;
      words = r.words;
    }

-- what a turn gives: the report after it, its text, the memory, and whether there may be more
pub record Turned : Type 0 where
  pub report : Report
  pub text : List ℕ
  pub memory : List ℕ
  pub more : Bool

-- a text, and where the report stands after it
abbrev pub says : Report → List ℕ → (memory : List ℕ) → Turned
says r t l = record { report = r; text = t; memory = l; more = true }

-- how a run stood: the last line, or the takes come
abbrev pub stood_turn : Report → Machine → (memory : List ℕ) → Outcome → Turned
stood_turn r m l (Ended n) = says (after m n Done r) (line "ended " (r.total + n)) l
stood_turn r m l (Waiting n) = says (after m n (Taking 0 false) r) [] l
stood_turn r m l (Spent n) = says (after m n Done r) (line "spent " (r.total + n)) l
stood_turn r m l (Fault n k) = says (after m n Done r) (line "fault " (r.total + n)) l

abbrev pub ran_turn : Report → Machine → (memory : List ℕ) → RunAnswer → Turned
ran_turn r m l (Ok o) = stood_turn r m l o
ran_turn r m l (Err e) = says (after m 0 Done r) [] l

-- whether a take gave a value, or one before it did
abbrev pub gave : Bool → TakeAnswer → Bool
gave any (Ok (Some v)) = true
gave any (Ok None) = any
gave any (Err e) = any

-- a take: its line, if it had a sender
abbrev pub took_turn : Report → ℕ → Bool → Machine → (memory : List ℕ) → TakeAnswer → Turned
took_turn r k any m l a = says (taking m (Taking (suc k) (gave any a)) r) (took_one k a) l

-- a turn over the code and the machine's memory
unfoldable pub turn_of : (prog : List ℕ) → Report → (memory : List ℕ) → Turned
turn_of prog r l =
    let f = run r.machine prog l (bench_budget - r.total) bench_clock in
    elim r.stage [
      | Bytes ↦ says (at Words r) (line "bytes " (length prog)) l
      | Words ↦ says (at Head r) (line "words " r.words) l
      | Head ↦ says (at (Code 0) r) (ascii "code") l
      | Code i ↦ cond (ltb i (length prog)) (says (at (Code (suc i)) r) (hex (get_or prog i 0 ∷ [])) l) (says (at Running r) newline l)
      | Running ↦ cond (eqb r.left 0) (says (at Done r) [] l) (ran_turn r f.machine f.memory f.answer)
      | Taking k any ↦
          let t = take_from r.machine l k in
          cond (ltb k r.outputs) (took_turn r k any t.machine t.memory t.answer)
          (cond any (says (at Running r) [] l) (says (at Done r) (line "waiting " r.total) l))
      | Refused n p ↦ says (at Done r) (refused_line n p) l
      | Done ↦ record { report = r; text = []; memory = l; more = false }
    ]

-- a turn over lent buffers, of which the report uses the front; nothing is done where they are too short
unfoldable pub next_of : (code : List ℕ) → Report → (memory : List ℕ) → Turned
next_of code r l =
    let t = turn_of (take r.size code) r (take r.words l) in
    cond (ltb (length code) r.size || ltb (length l) r.words)
    (record { report = r; text = []; memory = l; more = false })
    (record { report = t.report; text = t.text; memory = t.memory ++ drop r.words l; more = t.more })

-- the rounds that are still to come
abbrev pub rounds_of : (prog : List ℕ) → Report → Machine → (memory : List ℕ) → List ℕ
rounds_of prog r m l = rounds r.left prog r.outputs r.total m l

-- the text that is still to come
unfoldable pub text_from : (prog : List ℕ) → Report → (memory : List ℕ) → List ℕ
text_from prog r l =
    elim r.stage [
      | Bytes ↦ line "bytes " (length prog) ++ line "words " r.words ++ code_line prog ++ rounds_of prog r r.machine l
      | Words ↦ line "words " r.words ++ code_line prog ++ rounds_of prog r r.machine l
      | Head ↦ code_line prog ++ rounds_of prog r r.machine l
      | Code i ↦ hex (drop i prog) ++ newline ++ rounds_of prog r r.machine l
      | Running ↦ rounds_of prog r r.machine l
      | Taking k any ↦
          let t = takes (r.outputs - k) k r.machine l in
          cond any (t.lines ++ rounds_of prog r t.machine t.memory) (on_takes t r.total (rounds_of prog r))
      | Refused n p ↦ refused_line n p
      | Done ↦ []
    ]

-- the same over lent buffers
abbrev pub text_of : (code : List ℕ) → Report → (memory : List ℕ) → List ℕ
text_of code r l = text_from (take r.size code) r (take r.words l)

-- turns that so many rounds can take, each with a run and a take from every output
abbrev pub round_turns : (left outputs : ℕ) → ℕ
round_turns left o = left * (o + 3)

-- turns that there may be until the end
abbrev pub turns_left : Report → ℕ
turns_left r =
    elim r.stage [
      | Bytes ↦ 5 + r.size + round_turns r.left r.outputs
      | Words ↦ 4 + r.size + round_turns r.left r.outputs
      | Head ↦ 3 + r.size + round_turns r.left r.outputs
      | Code i ↦ 2 + (r.size - i) + round_turns r.left r.outputs
      | Running ↦ 1 + round_turns r.left r.outputs
      | Taking k any ↦ 2 + (r.outputs - k) + round_turns r.left r.outputs
      | Refused n p ↦ 1
      | Done ↦ 0
    ]

-- a turn is as defined
pub record Gives (t : Turned) (r : Turn) (l : List ℕ) : Type 0 where
  pub report : r.report ≡ t.report
  pub text : text_in r.piece ≡ t.text
  pub memory : l ≡ t.memory
  pub more : r.more ≡ t.more
