-- Laws of a run's beginning: waking, and then what a free processor does.
use Prim.Native.Nat.{ℕ}
use mathlib.Core.Path.{◌≡◌, refl, sym, ap, ◌∙◌}
use mathlib.Core.Bool.{true, false, cond}
use mathlib.Core.List.{List}
use lib.ListN.{length}
use Rattle.std.specs.Prelude.{Ok, Err}
use Rattle.model.specs.Machine.{Act, done, faults, next, return, release, memory_size}
use Rattle.model.specs.Timer.{wake_sleepers}
use Rattle.model.specs.Run.{land, waking, beginning}
use Rattle.model.specs.declared.Cpu.{Cpu}
use Rattle.model.specs.declared.Setup.{Setup}
use Rattle.model.specs.declared.FaultKind.{FaultKind}
use Rattle.processor.specs.Seen.{Rest, whole, world}
use Rattle.processor.specs.Pieces.{release_at}
use Rattle.processor.proofs.Laws.{pick_true, pick-false, first-place}
use Rattle.waking.specs.Wakes.{Woken, fronted, awoken, settling, SettlesAs, begun, began, WakesAll, Kept, Begins}
use Rattle.waking.specs.declared.wake.Awake.{Awake}

module _ (x : Rest) (u : Setup) (r : Cpu) (l : List ℕ) where
  -- what is picked first, and then
  picked :
      {first second : Act (Unit {0})} → cond r.running (return tt) release ≡ first → cond r.running (return tt) land ≡ second
      → settling r (whole x u r l) ≡ next (first (whole x u r l)) (λ n. second)
  picked {first} e f =
      ap (λ (g : Act (Unit {0})). next (g (whole x u r l)) (λ n. cond r.running (return tt) land)) e
      ∙ ap (λ (g : Act (Unit {0})). next (first (whole x u r l)) (λ n. g)) f

  -- a process has the processor
  pub settles-running : r.running ≡ true → settling r (whole x u r l) ≡ done tt (whole x u r l)
  settles-running t = picked (pick_true r.running (return tt) release t) (pick_true r.running (return tt) land t)

  -- none has
  pub settles-free : r.running ≡ false → settling r (whole x u r l) ≡ release_at 0 (whole x u r l)
  settles-free t =
      picked (pick-false r.running (return tt) release t) (pick-false r.running (return tt) land t ∙ first-place)

-- what stands after waking, under the clock of the run
under : (c f : ℕ) (x : Rest) (u : Setup) (w : Woken) (m : List ℕ) → awoken (begun c f x) u w m ≡ began c x u w m
under c f x u (Ok a) m = refl
under c f x u (Err k) m = refl

module _ {c front : ℕ} {r : Cpu} {l m : List ℕ} where
  -- waking, and then what a free processor does
  pub begins-awake :
      {code : ℕ} {a : Awake} (w : Woken) → WakesAll c front r l (Ok a) m → SettlesAs code a.front a.cpu m w
      → (u : Setup) → memory_size u ≡ length l → u.code ≡ code → (x : Rest) → beginning c (world (fronted front x) u r l) ≡ began c x u w m
  unfolding beginning waking wake_sleepers
  begins-awake w d s u h g x =
      rw (h, d.said u h (begun c front x), ← d.runs) (s u (h ∙ sym d.long) g (begun c front x) ∙ under c front x u w m)

  -- a fault of waking
  pub begins-fault :
      {k : FaultKind} → WakesAll c front r l (Err k) m
      → (u : Setup) → memory_size u ≡ length l → (x : Rest) → beginning c (world (fronted front x) u r l) ≡ faults k
  unfolding beginning waking wake_sleepers
  begins-fault d u h x = rw (h, d.said u h (begun c front x))

-- a memory that nothing was written to is kept
kept_same : (w : Woken) (l : List ℕ) → Kept w l l
kept_same (Ok a) l = tt
kept_same (Err k) l = refl

module _ {code c front : ℕ} {r : Cpu} {l : List ℕ} where
  -- nobody's time has come
  pub begins-asleep :
      {a : Awake} (w : Woken) → WakesAll c front r l (Ok a) l → SettlesAs code a.front a.cpu l w
      → Begins code c front r l w l
  begins-asleep w d s = record { said = begins-awake w d s; kept = kept_same w l }

  -- a fault before anything is written
  pub begins-faulty : {k : FaultKind} → WakesAll c front r l (Err k) l → Begins code c front r l (Err k) l
  begins-faulty d = record { said = λ u h g x. begins-fault d u h x; kept = refl }
