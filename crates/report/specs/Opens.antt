-- The beginning of the bench program's text: the table is compiled and started, or refused.
use Rattle.std.specs.Prelude.{ℕ, ◌+◌, ◌-◌, ◌≡◌, cond, List, ◌++◌, length, take, drop, ltb, Result, Ok, Err}
use Rattle.model.specs.Limits.{code_limit, word_limit}
use Rattle.model.specs.Reader.{Read, program}
use Rattle.model.specs.Accept.{answer_of}
use Rattle.model.specs.Code.{Compilation, compiled, refused, compile, buffer_after}
use Rattle.model.specs.Run.{start, blank}
use Rattle.model.specs.Bench.{bench_budget, bench_slice}
use Rattle.model.specs.declared.Facts.{Facts}
use Rattle.model.specs.Answers.{refused_for, reason_number}
use Rattle.model.specs.declared.Refusal.{Refusal}
use Rattle.model.specs.declared.Reason.TheVariants.{Short}
use Rattle.report.specs.declared.stage.Stage.TheVariants.{Bytes, Refused}
use Rattle.report.specs.declared.stage.Report.{Report}

-- a report of a refusal
abbrev pub refusing : Refusal → Report
refusing e =
    record { machine = blank; stage = Refused (reason_number e.reason) e.returned; total = 0; left = 0; outputs = 0; size = 0; words = 0 }

-- a report, and the memory after it was begun
pub record Begun : Type 0 where
  pub report : Report
  pub memory : List ℕ

-- an accepted table's code is started over the front of the memory: q = 32, and one round more than there are instructions, and one
abbrev pub begun_by : Facts → (bytes memory : List ℕ) → Begun
begun_by f bytes l =
    let s = start bytes (take f.words l) (f.words - f.inputs - f.outputs) f.inputs f.outputs bench_slice in
    record {
      report = record {
        machine = s.machine;
        stage = Bytes;
        total = 0;
        left = 2 + bench_budget;
        outputs = f.outputs;
        size = length bytes;
        words = f.words;
      };
      memory = s.memory ++ drop f.words l;
    }

-- by what reading answered
abbrev pub begun_on : Result Facts Refusal → (bytes memory : List ℕ) → Begun
begun_on (Ok f) bytes l = begun_by f bytes l
begun_on (Err e) bytes l = record { report = refusing e; memory = l }

abbrev pub loaded : Read → (bytes memory : List ℕ) → Begun
loaded r bytes l = begun_on (answer_of r) bytes l

-- a report is as defined
pub record Begins (b : Begun) (r : Report) (l : List ℕ) : Type 0 where
  pub report : r ≡ b.report
  pub memory : l ≡ b.memory

-- a report, and both buffers after it was opened
pub record Opened : Type 0 where
  pub report : Report
  pub code : List ℕ
  pub memory : List ℕ

-- the code buffer, the first bytes of which were lent to the compiler
abbrev pub filled : Compilation → List ℕ → List ℕ
filled x code = buffer_after x (take code_limit code) ++ drop code_limit code

-- a compiled table is started
abbrev pub opened_by : Compilation → (code memory : List ℕ) → Opened
opened_by (compiled p bytes) code l =
    let b = loaded (program p) bytes l in
    record { report = b.report; code = filled (compiled p bytes) code; memory = b.memory }
opened_by (refused why r) code l = record { report = refusing (refused_for why r); code = code; memory = l }

-- the compiler's buffer is as long as the longest code; shorter buffers get 11, code tested before memory
unfoldable pub open_of : (table code memory : List ℕ) → Opened
open_of table code l =
    cond (ltb (length code) code_limit) (record { report = refusing (refused_for Short code_limit); code = code; memory = l })
    (cond (ltb (length l) word_limit) (record { report = refusing (refused_for Short word_limit); code = code; memory = l })
    (opened_by (compile table code_limit) code l))

-- a report and both buffers are as defined
pub record Opens (o : Opened) (r : Report) (c l : List ℕ) : Type 0 where
  pub report : r ≡ o.report
  pub code : c ≡ o.code
  pub memory : l ≡ o.memory
