-- A walk along the timer queue never ends for want of steps (specs/Laws.antt, law 9): the processes that it was at have link words of their
-- own inside the memory, so they are no more than there are words.
use Prim.Native.Nat.{ℕ, zero, suc, ◌+◌, ◌^◌, ◌<◌}
use native.Mathlib.Omega.{arith}
use native.Mathlib.Nat.{suc-add}
use mathlib.Core.Path.{◌≡◌, refl, ap, ◌∙◌}
use mathlib.Core.Bool.{Bool, true, false}
use mathlib.Core.List.{List, [], ◌∷◌}
use mathlib.Core.Option.{Option, none, some}
use lib.ListN.{length, get_or}
use lib.Dec.{ltb, eqb}
use borrow.Author.Tests.{ltb-true}
use Rattle.model.specs.Word.{not_process}
use Rattle.model.specs.Machine.{World, Result, done, faults, Act, memory_size, peek, time_link_word, space_of}
use Rattle.model.specs.Timer.{was_at, along, walk}
use Rattle.model.specs.Laws.{AreWords, Tests, tells, breaks-off, WalksEnd}
use Rattle.model.specs.declared.FaultKind.{FaultKind}
use Rattle.model.proofs.Cases.{by_bool, never}
use Rattle.model.proofs.Effects.Seen.{tally, tally-le, hits, Words, one_hit, words_more, none-hit}

by_tests : {R : Type 0} {s : World} {r : Result Bool} → Tests s r → ((k : FaultKind) → r ≡ faults k → R) → (r ≡ done true s → R)
    → (r ≡ done false s → R) → R
by_tests (tells true) f y n = y refl
by_tests (tells false) f y n = n refl
by_tests (breaks-off k) f y n = f k refl

-- the walk from p with `n` steps left, and with more
walks-on : (n more size front : ℕ) (seen : List ℕ) (before : Option ℕ) (p : ℕ) (stops : ℕ → Act Bool) (s : World)
    → ((q : ℕ) → Tests s (stops q s)) → AreWords s.memory → memory_size s.machine.setup ≡ size → n + length seen ≡ suc size
    → tally (hits seen) size ≡ length seen → Words seen → p < 2 ^ 32
    → along n stops front seen before p s ≡ along (n + more) stops front seen before p s
unfolding along peek
walks-on zero more size front seen before p stops s tests words sized left counted w b =
    absurd (omega (arith, tally-le (hits seen) size))
walks-on (suc n) more size front seen before p stops s tests words sized left counted w b =
    by_bool (eqb p not_process) (λ e. rw (suc-add, e))
    (λ e. by_bool (was_at p seen) (λ f. rw (suc-add, e, f))
    (λ f. by_tests (tests p)
    (λ k x. rw (suc-add, e, f, x))
    (λ x. rw (suc-add, e, f, x))
    (λ x. by_bool (ltb (time_link_word (space_of p)) (memory_size s.machine.setup))
    (λ i.
    let at = time_link_word (space_of p) in
    let l = ltb-true at (memory_size s.machine.setup) i in
    let one = one_hit p size seen b w f (omega arith) ∙ ap suc counted in
    rw (suc-add, e, f, x, i) (walks-on n more size front (p ∷ seen) (some p) (get_or s.memory at 0) stops s tests words sized
    (omega arith) one (words_more p seen b w) (words at)))
    (λ i. rw (suc-add, e, f, x, i)))))

pub walks-end : WalksEnd
unfolding walk was_at
walks-end s stops more tests words inside =
    let f = s.machine.timer.front in
    let size = memory_size s.machine.setup in
    walks-on (suc size) more size f [] none f stops s tests words refl (omega arith) (none-hit size) (λ q e. never (cc)) inside
