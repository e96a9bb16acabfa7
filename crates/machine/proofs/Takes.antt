-- What a take comes to.
use Prim.Native.Nat.{ℕ, ◌+◌, ◌≤◌, ◌<◌}
use native.Mathlib.Omega.{arith}
use mathlib.Core.Path.{◌≡◌, refl, ap, ◌∙◌}
use mathlib.Core.List.{List}
use mathlib.Core.Option.{none, some}
use lib.ListN.{length, get_or, get_or-append}
use Rattle.std.proofs.lemmas.List.{length-append}
use Rattle.std.specs.Prelude.{◌++◌}
use borrow.Author.Tests.{lt-ltb, le-ltb, eq-eqb, ne_eqb}
use Rattle.std.specs.Prelude.{Ok, Err}
use Rattle.model.specs.Word.{not_process}
use Rattle.model.specs.Machine.{done, faults, next, return, memory_size, peek}
use Rattle.model.specs.Execute.{receive, received}
use Rattle.model.specs.Run.{unchanged, world_of, waking}
use Rattle.model.specs.Outside.{looking, taking, took, take_unless, take}
use Rattle.model.specs.declared.Machine.{Machine}
use Rattle.model.specs.declared.FaultKind.{FaultKind}
use Rattle.std.specs.Prelude.{Err, None, Ok, Some}
use Rattle.model.specs.declared.TakeRefusal.TheVariants.{Short, Fault as TakeFault, NoChannel}
use Rattle.processor.specs.Seen.{Step, Does}
use Rattle.processor.specs.Quiet.{quiet}
use Rattle.machine.specs.Runs.{rest_of, Answers}
use Rattle.machine.specs.Outsides.{empty_wake, taken_by}
use Rattle.machine.proofs.Runs.{heard, heard-fault}
use Rattle.machine.proofs.Woken.{wakes-received}

-- the word of an outside output
abbrev output_at : Machine → ℕ → ℕ
output_at m k = m.setup.base + m.setup.inputs + k

module _ (m : Machine) (memory : List ℕ) (k : ℕ) {p : ℕ} (i : k < m.setup.outputs) (a : get_or memory (output_at m k) 0 ≡ p) where
  -- the process at the channel's word
  at-word : peek (output_at m k) (world_of m memory) ≡ done p (world_of m memory)
  unfolding peek
  at-word =
      let h : output_at m k < memory_size m.setup = omega arith in
      rw (lt-ltb _ _ h, a)

  -- none is there
  taking-none : p ≡ not_process → taking k (world_of m memory) ≡ done none (world_of m memory)
  unfolding taking looking
  taking-none e = rw (at-word, eq-eqb _ _ e)

  module _ (n : p ≡ not_process → ⊥) where
    -- its value is outside
    taking-fault : {f : FaultKind} → receive p (world_of m memory) ≡ faults f → taking k (world_of m memory) ≡ faults f
    unfolding taking looking
    taking-fault g = rw (at-word, ne_eqb _ _ n, g)

    -- its value is taken, and it is woken
    taking-wakes :
        {v : ℕ} → receive p (world_of m memory) ≡ done v (world_of m memory)
        → taking k (world_of m memory) ≡ next (waking (received (output_at m k) p v) (world_of m memory)) (λ u. return (some v))
    unfolding taking looking
    taking-wakes g = rw (at-word, ne_eqb _ _ n, g, at-word)

module _ (m : Machine) (memory : List ℕ) (k : ℕ) where
  -- 11
  pub take_short : length memory < memory_size m.setup → take m memory k ≡ unchanged (Err (Short (memory_size m.setup))) m memory
  unfolding take
  take_short h = rw (lt-ltb _ _ h)

  module _ (g : memory_size m.setup ≤ length memory) where
    -- a kept fault
    pub take-kept : {f : FaultKind} → m.fault ≡ Some f → take m memory k ≡ unchanged (Err (TakeFault f)) m memory
    unfolding take
    take-kept e = rw (le-ltb _ _ g) (ap (λ f. take_unless f m memory k) e)

module _ (m : Machine) (words behind : List ℕ) (k : ℕ) (g : memory_size m.setup ≡ length words) (e : m.fault ≡ None) where
  abbrev memory : List ℕ
  memory = words ++ behind

  long : memory_size m.setup ≤ length memory
  long = rw (length-append words behind) (omega (arith, g))

  goes : take m memory k ≡ take_unless None m memory k
  unfolding take
  goes = rw (le-ltb _ _ long) (ap (λ f. take_unless f m memory k) e)

  -- 13
  pub take-nowhere : m.setup.outputs ≤ k → take m memory k ≡ unchanged (Err NoChannel) m memory
  take-nowhere h = goes ∙ rw (le-ltb _ _ h)

  module _ (i : k < m.setup.outputs) where
    came : take m memory k ≡ took (taking k (world_of m memory)) m memory
    came = goes ∙ rw (lt-ltb _ _ i)

    module _ {p : ℕ} (at : get_or words (output_at m k) 0 ≡ p) where
      a : get_or memory (output_at m k) 0 ≡ p
      a =
          let w : output_at m k < length words = omega (arith, g) in
          get_or-append words behind 0 _ w ∙ at

      -- no sender waits
      pub take_none : p ≡ not_process → take m memory k ≡ unchanged (Ok None) m memory
      take_none n = came ∙ rw (taking-none m memory k i a n)

      module _ (n : p ≡ not_process → ⊥) where
        -- the sender's value is outside
        pub take-fault :
            {f : FaultKind} (v : ℕ) → receive p (world_of m memory) ≡ faults f
            → Answers (take m memory k) (taken_by m v (Err f)).answer (taken_by m v (Err f)).machine memory
        take-fault v d = rw (came, taking-fault m memory k i a n d) (record { answer = refl; machine = refl; memory = refl })

        -- the sender's value is taken
        pub take-wakes :
            {v : ℕ} {l : List ℕ} (s : Step) → receive p (world_of m memory) ≡ done v (world_of m memory)
            → Does m.setup (empty_wake (output_at m k) p) m.cpu words s l
            → Answers (take m memory k) (taken_by m v s).answer (taken_by m v s).machine (l ++ behind)
        take-wakes {v} {l} (Ok q) d b =
            let r = waking (received (output_at m k) p v) (world_of m memory) in
            let h = wakes-received (rest_of m behind) m.setup m.cpu (output_at m k) p v memory ∙ ap quiet (b.said (rest_of m behind)) in
            let t = heard r (rest_of m behind) m.setup q (l ++ behind) h in
            rw (came, taking-wakes m memory k i a n d, t.1) (record { answer = refl; machine = refl; memory = refl })
        take-wakes {v} (Err f) d b =
            let r = waking (received (output_at m k) p v) (world_of m memory) in
            let h = wakes-received (rest_of m behind) m.setup m.cpu (output_at m k) p v memory ∙ ap quiet (b.said (rest_of m behind)) in
            rw (came, taking-wakes m memory k i a n d, heard-fault r f h)
            (record { answer = refl; machine = refl; memory = ap (λ w. w ++ behind) b.keeps })
