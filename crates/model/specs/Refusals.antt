-- Which refusal a call gets, in 01's numbers and in 01's order of tests ("When a call is turned down"). The answers of a start, a run, an
-- offer and a take do not come in here: proofs/Laws/Refused.antt shows that their numbers (specs/Answers.antt) are these. Reading and
-- compiling are refused by name in the definitions, and the name has its number here as there, by `reason_number`.
use Rattle.std.specs.Prelude.{ℕ, ◌+◌, false, cond, ◌&&◌, ◌||◌, List, [], ◌∷◌, length, get_or, ltb, leb, eqb, None, Some}
use Rattle.std.proofs.Math.Option.{Option, none}
use Rattle.model.specs.Word.{after}
use Rattle.model.specs.Limits.{code_limit, word_limit, channel_limit, slice_limit}
use Rattle.model.specs.Reader.{Read, program, refused as unread}
use Rattle.model.specs.Code.{Compilation, compiled, refused}
use Rattle.model.specs.Answers.{KeptFault, Row, refusal, reason_number, fault_kind, fault_number}
use Rattle.model.specs.Machine.{Result, done, faults, memory_size}
use Rattle.model.specs.Run.{world_of, begun_run}
use Rattle.model.specs.Outside.{offering, taking}
use Rattle.model.specs.declared.Machine.{Machine}
use Rattle.model.specs.declared.FaultKind.{FaultKind}
use Rattle.model.specs.declared.Outcome.{Outcome}
use Rattle.model.specs.declared.Outcome.TheVariants.{Ended, Waiting, Spent, Fault as RunFault}

-- "1 comes first; reading goes left to right, at one byte 2, 4, 3, 5; then 6; then 7 to 11": reading and compiling find number and place
abbrev pub read_refusal : Read → Option Row
read_refusal (program p) = none
read_refusal (unread why at) = refusal (reason_number why) (at ∷ [])

abbrev pub compile_refusal : Compilation → Option Row
compile_refusal (compiled p code) = none
compile_refusal (refused why r) = refusal (reason_number why) (r ∷ [])

-- "At a start 15 comes first, then 3 for a channel count over 8 and 10, both at place 0, then 11"
unfoldable pub start_refusal : (code memory : List ℕ) → (w inputs outputs slice : ℕ) → Option Row
start_refusal code memory w i o q =
    cond (eqb q 0 || ltb slice_limit q) (refusal 15 [])
    (cond (ltb channel_limit i || ltb channel_limit o) (refusal 3 (0 ∷ []))
    (cond (ltb word_limit (w + i + o) || ltb code_limit (length code)) (refusal 10 (0 ∷ []))
    (cond (ltb (length memory) (w + i + o)) (refusal 11 ((w + i + o) ∷ [])) none)))

-- 12, with the fault's kind and number
abbrev pub fault12 : FaultKind → Option Row
fault12 k = refusal 12 (fault_kind k ∷ fault_number k ∷ [])

-- 11, with the size needed, where fewer are lent; else what comes after
abbrev pub or11 : (lent needed : ℕ) → Option Row → Option Row
or11 n size after = cond (ltb n size) (refusal 11 (size ∷ [])) after

-- "then a kept fault, which they answer again"
abbrev pub kept_or : KeptFault → Option Row → Option Row
kept_or (Some k) after = fault12 k
kept_or None after = after

-- "last, 12": the fault that a run comes to, or an offer or take
abbrev pub ran_into : Outcome → Option Row
ran_into (Ended n) = none
ran_into (Waiting n) = none
ran_into (Spent n) = none
ran_into (RunFault n k) = fault12 k

abbrev pub came_to : {A : Type 0} → Result A → Option Row
came_to (done a s) = none
came_to (faults k) = fault12 k

-- "Run, offer and take test 11 first", code before memory, "then a kept fault, which they answer again; then 13, 14 and, last, 12". 02,
-- order 4: "refusal 16, a clock that the last one given is after, tested before anything else in a run"
unfoldable pub run_refusal : Machine → (code memory : List ℕ) → (budget clock : ℕ) → Option Row
run_refusal m code memory budget c =
    cond (m.timer.given && after m.timer.clock c) (refusal 16 [])
    (or11 (length code) m.setup.code (or11 (length memory) (memory_size m.setup)
    (kept_or m.fault (ran_into (begun_run budget code c (world_of m memory)).outcome))))

unfoldable pub offer_refusal : Machine → (memory : List ℕ) → (k value : ℕ) → Option Row
offer_refusal m memory k v =
    or11 (length memory) (memory_size m.setup) (kept_or m.fault
    (cond (leb m.setup.inputs k || leb channel_limit k) (refusal 13 [])
    (cond (get_or m.held k false) (refusal 14 []) (came_to (offering k v (world_of m memory))))))

unfoldable pub take_refusal : Machine → (memory : List ℕ) → (k : ℕ) → Option Row
take_refusal m memory k =
    or11 (length memory) (memory_size m.setup) (kept_or m.fault
    (cond (leb m.setup.outputs k) (refusal 13 []) (came_to (taking k (world_of m memory)))))
