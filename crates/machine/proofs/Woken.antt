-- What comes to processes that are woken from outside: the test of a place comes last, and communications are not seen.
use Prim.Native.Nat.{ℕ, ◌<◌}
use mathlib.Core.Path.{◌≡◌, refl, ap, ◌∙◌}
use mathlib.Core.Bool.{Bool, true, false, cond}
use mathlib.Core.List.{List}
use lib.ListN.{get_or, set, length}
use lib.Dec.{ltb, leb, eqb}
use borrow.Author.Tests.{lt-ltb}
use Rattle.std.specs.Prelude.{Ok}
use Rattle.model.specs.Word.{not_process}
use Rattle.model.specs.Machine.{World, Act, Result, done, faults, next, ◌>>◌, return, memory_size, poke, test_place, join, communicate}
use Rattle.model.specs.Machine.{space_of, state_word}
use Rattle.model.specs.Alternative.{notify, waiting, ready}
use Rattle.model.specs.Execute.{received}
use Rattle.model.specs.Run.{land, waking}
use Rattle.model.specs.declared.Cpu.{Cpu}
use Rattle.model.specs.declared.Setup.{Setup}
use Rattle.model.specs.declared.FaultKind.TheVariants.{Word}
use Rattle.processor.specs.Seen.{Step, Rest, whole, Does, looked, undone}
use Rattle.processor.specs.Pieces.{wake_join, notify_wake}
use Rattle.processor.specs.Quiet.{quiet}
use Rattle.processor.proofs.Laws.{undid}
use Rattle.processor.proofs.Talking.{after-poke}
use Rattle.machine.specs.Outsides.{empty_wake}

-- the test of a place sees no communications
land-quiet : (c v : ℕ) (s : World) (t b : Bool) → s.machine.cpu.running ≡ t → leb s.machine.cpu.place s.machine.setup.code ≡ b
    → quiet ((do communicate c v; land) s) ≡ quiet (land s)
unfolding land test_place
land-quiet c v s true true e f = rw (e, f)
land-quiet c v s true false e f = rw (e, f)
land-quiet c v s false b e f = rw e

-- nor does what comes after an action from outside
wakes-quiet :
    (c v : ℕ) (q : Result (Unit {0})) (t : Bool)
    → quiet (next (next q (λ n. communicate c v)) (λ n. cond t (return tt) land)) ≡ quiet (next q (λ n. cond t (return tt) land))
wakes-quiet c v (done n s) true = refl
wakes-quiet c v (done n s) false =
    land-quiet c v s s.machine.cpu.running (leb s.machine.cpu.place s.machine.setup.code) refl refl
wakes-quiet c v (faults k) t = refl

module _ (x : Rest) (u : Setup) (r : Cpu) where
  -- a word is written first
  pub wakes-poke : (act : Act (Unit {0})) (a v : ℕ) (l : List ℕ)
      → waking (do poke a v; act) (whole x u r l) ≡ (do poke a v; waking act) (whole x u r l)
  unfolding waking poke
  wakes-poke act a v l = go (ltb a (memory_size u)) (set l a v)
    where
      go :
          (t : Bool) (m : List ℕ)
          → next (next (cond t (done (tt {0}) (whole x u r m)) (faults (Word a))) (λ n. act)) (λ n. cond r.running (return tt) land)
          ≡ next (cond t (done (tt {0}) (whole x u r m)) (faults (Word a))) (λ n. waking act)
      go true m = refl
      go false m = refl

  -- an action that leaves the registers
  pub wakes-done :
      (y : Rest) (l : List ℕ) (act : Act (Unit {0})) (t : Bool) → r.running ≡ t → act (whole x u r l) ≡ done tt (whole y u r l)
      → waking act (whole x u r l) ≡ done tt (whole y u r l)
  unfolding waking land
  wakes-done y l act true e d = rw (d, e)
  wakes-done y l act false e d = rw (d, e)

  -- a process in an ALT is told
  pub wakes-notify : (p s : ℕ) (l : List ℕ) → waking (notify p s) (whole x u r l) ≡ notify_wake p s (whole x u r l)
  unfolding notify
  wakes-notify p s l =
      wakes-poke (cond (eqb s waiting) (join p) (return tt)) (state_word (space_of p)) ready l
      ∙ after-poke (λ q. q) x u _ _ (state_word (space_of p)) ready r l (go (eqb s waiting))
    where
      go : (t : Bool) (m : List ℕ)
          → waking (cond t (join p) (return tt)) (whole x u r m) ≡ cond t (wake_join p) (return tt) (whole x u r m)
      go true m = refl
      go false m = wakes-done x m (return tt) r.running refl refl

  -- a process that waited at a channel's word is woken, and the communication is made
  pub wakes-received : (c p v : ℕ) (l : List ℕ) → quiet (waking (received c p v) (whole x u r l)) ≡ quiet (empty_wake c p (whole x u r l))
  unfolding received waking
  wakes-received c p v l =
      ap quiet (wakes-poke (do join p; communicate c v) c not_process l)
      ∙ after-poke quiet x u (waking (do join p; communicate c v)) (wake_join p) c not_process r l go
    where
      go : (m : List ℕ) → quiet (waking (do join p; communicate c v) (whole x u r m)) ≡ quiet (wake_join p (whole x u r m))
      go m = wakes-quiet c v (join p (whole x u r m)) r.running

-- a channel's word is empty again before a process is woken, and gets back what it held on a fault
pub empties :
    {u : Setup} {r : Cpu} {l n : List ℕ} (c p : ℕ) (s : Step) → memory_size u ≡ length l → c < length l
    → Does u (wake_join p) r (set l c not_process) s n → Does u (empty_wake c p) r l s (undone s c (get_or l c 0) n)
empties {l = l} c p s h i d =
    let e : Ok (get_or l c 0) ≡ looked c l = rw (lt-ltb c (length l) i) in
    undid c not_process (wake_join p) h s (e, refl) refl d (refl, refl)
