-- Walks along the timer queue, by memory alone: they change nothing. What the model's walk comes to is this (proofs/Walking.antt), though
-- it counts the processes that it passes and does not keep them.
use Rattle.std.specs.Prelude.{ℕ, zero, suc, Bool, true, false, cond, List, eqb, Option, Some, None, Result, Ok, Err}
use Rattle.std.proofs.Math.Option.{Option as Perhaps, none, some}
use Rattle.model.specs.Word.{after, not_process}
use Rattle.model.specs.Machine.{Act, return, name_of, time_link_word, time_word}
use Rattle.model.specs.Timer.{is_later}
use Rattle.model.specs.declared.FaultKind.{FaultKind}
use Rattle.model.specs.declared.FaultKind.TheVariants.{Word}
use Rattle.processor.specs.Seen.{Peeked, looked}
use Rattle.timer.specs.declared.walk.Until.{Until}
use Rattle.timer.specs.declared.walk.Until.TheVariants.{Later, Is}
use Rattle.timer.specs.declared.walk.Place.{Place}

-- whether a walk stops at a process, or the fault
abbrev pub Tested : Type 0
Tested = Result Bool FaultKind

-- what comes of a process on the way: the next one, none where the walk stops, or the fault
abbrev pub Passed : Type 0
Passed = Result (Option ℕ) FaultKind

-- where a walk stopped, or the fault
abbrev pub Walked : Type 0
Walked = Result Place FaultKind

-- where the model's walk stops
abbrev pub stops_of : Until → ℕ → Act Bool
stops_of (Later t) = is_later t
stops_of (Is w) = λ p. return (eqb p (name_of w))

-- a time that was looked for is after t
abbrev pub later_than : (t : ℕ) → Peeked → Tested
later_than t (Ok u) = Ok (after u t)
later_than t (Err k) = Err k

-- whether a walk stops at a process
unfoldable pub stops_in : (memory : List ℕ) → Until → ℕ → Tested
stops_in l (Later t) p = later_than t (looked (time_word p) l)
stops_in l (Is w) p = Ok (eqb p w)

-- a link that was looked for
abbrev pub on_to : Peeked → Passed
on_to (Ok q) = Ok (Some q)
on_to (Err k) = Err k

-- where a walk does not stop the link is looked for
abbrev pub passing : Tested → Peeked → Passed
passing (Ok true) q = Ok None
passing (Ok false) q = on_to q
passing (Err k) q = Err k

-- what comes of a process on the way
unfoldable pub pass_in : (memory : List ℕ) → Until → ℕ → Passed
pass_in l e p = passing (stops_in l e p) (looked (time_link_word p) l)

-- the queue's first place
abbrev pub from_front : ℕ → Place
from_front f = record { before = None; at = f }

-- the place behind a process
abbrev pub behind : (p q : ℕ) → Place
behind p q = record { before = Some p; at = q }

-- what comes after a process is passed
abbrev pub onward : Passed → Place → (ℕ → Walked) → Walked
onward (Ok None) here more = Ok here
onward (Ok (Some q)) here more = more q
onward (Err k) here more = Err k

-- a walk on from a place, past so many processes at most
unfoldable pub walk_in : (fuel : ℕ) (memory : List ℕ) → Until → (front : ℕ) → Place → Walked
walk_in zero l e f here = Err (Word f)
walk_in (suc n) l e f here =
    cond (eqb here.at not_process) (Ok here)
    (onward (pass_in l e here.at) here (λ q. walk_in n l e f (behind here.at q)))

-- a process or none, as the model has it
abbrev pub perhaps : Option ℕ → Perhaps ℕ
perhaps (Some p) = some p
perhaps None = none

-- the process before a place
abbrev pub before_of : Place → Perhaps ℕ
before_of here = perhaps here.before
