-- 01's numbers beside a call's answer, and the whole lent memory again behind a call on the machine's words.
use Prim.Native.Nat.{ℕ}
use mathlib.Core.List.{List, ◌++◌}
use lib.ListN.{take, drop}
use Rattle.std.proofs.lemmas.List.{take-append-drop}
use mathlib.Core.Path.{◌≡◌, ap, ◌∙◌}
use mathlib.Core.Option.{Option}
use Rattle.model.specs.Answers.{Row}
use Rattle.model.specs.Run.{After}
use Rattle.model.specs.declared.Machine.{Machine}
use Rattle.machine.specs.Runs.{Answers, Amid}

-- an answer that is the definition's is refused as the definition's is
pub with_number :
    {Answer : Type 0} (refused : Answer → Option Row) {a d : Answer} {n : Option Row} → refused d ≡ n → a ≡ d → refused a ≡ n
with_number refused e t = ap refused t ∙ e

-- the machine's words are the first of the lent memory, and the call kept what is behind them
pub rejoined :
    {Answer : Type 0} (f : List ℕ → After Answer) {a : Answer} {m : Machine} (size : ℕ) (l k : List ℕ) → Amid f a m (take size l) k
    → Answers (f l) a m (k ++ drop size l)
rejoined f size l k h = rw (take-append-drop size l) at (h (drop size l))
