-- Nothing is heard from the machine at a run's beginning.
use Prim.Native.Nat.{ℕ}
use mathlib.Core.Path.{◌≡◌, refl, ◌∙◌}
use mathlib.Core.Bool.{Bool, true, false, cond}
use lib.Dec.{ltb, leb, eqb}
use Rattle.model.specs.Machine.{World, Result, done, faults, Act, next, ◌>>=◌, ◌>>◌, return, set_registers, queueing, running}
use Rattle.model.specs.Machine.{memory_size, peek, poke, test_place, resume_word, link_word, space_of, resume, take_front, release, enqueue}
use Rattle.model.specs.Machine.{join}
use Rattle.model.specs.Timer.{wake_sleepers}
use Rattle.model.specs.Run.{land, settle, beginning}
use Rattle.model.specs.declared.Cpu.{Cpu}
use Rattle.model.proofs.Cases.{of-cond}
use Rattle.model.proofs.Laws.Made.{Made, binds, reads, sets, returns, fails, reads-setup, communicates, reads-clock, reads-timer}
use Rattle.model.proofs.Laws.Made.{fronts, drops, asks, holds, outputs, peeks, pokes, tests, releases, joins, begins, clocked}
use Rattle.model.proofs.Laws.Made.{beginning-is, of-wake_sleepers, of-land}

-- what an act comes to from s has the same communications
abbrev Still : World → {A : Type 0} → Result A → Type 0
Still s (done a t) = t.talk ≡ s.talk
Still s (faults k) = Unit {0}

onward : {A B : Type 0} (s : World) (r : Result A) (f : A → Act B) → Still s r → ((a : A) (t : World) → Still t (f a t))
    → Still s (next r f)
onward {B} s (done a t) f h k = by (f a t) (k a t)
  where
    by : (q : Result B) → Still t q → Still s q
    by (done b u) g = g ∙ h
    by (faults e) g = tt
onward s (faults e) f h k = tt

of-peek : (a : ℕ) (s : World) → Still s (peek a s)
unfolding peek
of-peek a s = of-cond (Still s) (ltb a (memory_size s.machine.setup)) refl tt

of-poke : (a v : ℕ) (s : World) → Still s (poke a v s)
unfolding poke
of-poke a v s = of-cond (Still s) (ltb a (memory_size s.machine.setup)) refl tt

of-test_place : (p : ℕ) (s : World) → Still s (test_place p s)
unfolding test_place
of-test_place p s = of-cond (Still s) (leb p s.machine.setup.code) refl tt

of-resume : (p : ℕ) (s : World) → Still s (resume p s)
unfolding resume
of-resume p s = onward s (peek (resume_word (space_of p)) s) _ (of-peek _ s) (λ a t. refl)

either : {A : Type 0} (b : Bool) (x y : Act A) (s : World) → Still s (x s) → Still s (y s) → Still s (cond b x y s)
either true x y s h k = h
either false x y s h k = k

of-take_front : (s : World) → Still s (take_front s)
unfolding take_front
of-take_front s =
    let r = s.machine.cpu in
    let on : Act (Unit {0}) = (do f ← peek (link_word (space_of r.front)); set_registers (queueing f r.back true r)) in
    let off : Act (Unit {0}) = set_registers (queueing r.front r.back false r) in
    onward s (cond (eqb r.front r.back) off on s) (λ u. resume r.front)
    (either (eqb r.front r.back) off on s refl (onward s (peek (link_word (space_of r.front)) s) _ (of-peek _ s) (λ a t. refl)))
    (λ a t. of-resume r.front t)

of-release : (s : World) → Still s (release s)
unfolding release
of-release s =
    let r = s.machine.cpu in
    either r.queued take_front (set_registers (running false r)) s (of-take_front s) refl

of-settle : (s : World) → Still s (settle s)
of-settle s = either s.machine.cpu.running (return tt) release s refl (of-release s)

of-join : (p : ℕ) (s : World) → Still s (join p s)
unfolding join
of-join p s =
    let r = s.machine.cpu in
    let alone : Act (Unit {0}) = (do set_registers (queueing p p false r); resume p) in
    let behind : Act (Unit {0}) = (do poke (link_word (space_of r.back)) p; set_registers (queueing r.front p true r)) in
    either r.running (enqueue p r) alone s
    (either r.queued behind (set_registers (queueing p p true r)) s (onward s (poke _ _ s) _ (of-poke _ _ s) (λ a t. refl)) refl)
    (onward s (set_registers (queueing p p false r) s) (λ u. resume p) refl (λ a t. of-resume p t))

abbrev AnyRegisters : Cpu → Type 0
AnyRegisters r = Unit {0}

still : {A : Type 0} {a : Act A} → Made AnyRegisters ⊥ A a → (s : World) → Still s (a s)
still (binds {a = a} {f} h k) s = onward s (a s) f (still h s) (λ x t. still (k x) t)
still (reads k) s = still (k s.machine.cpu tt) s
still (sets r h) s = refl
still (returns a) s = refl
still (fails k) s = tt
still reads-setup s = refl
still (communicates h c v) s = absurd h
still (reads-clock h c) s = absurd h
still reads-timer s = refl
still (fronts f) s = refl
still (drops c) s = refl
still (asks c) s = refl
still (holds k v) s = refl
still (outputs k) s = refl
still (peeks a) s = of-peek a s
still (pokes a v) s = of-poke a v s
still (tests p) s = of-test_place p s
still (releases h) s = absurd h
still (joins w) s = of-join w s

of-begins : (r : Cpu) (s : World) → Still s (begins r s)
of-begins r s =
    onward s ((do wake_sleepers; settle) s) _ (onward s (wake_sleepers s) _ (still (of-wake_sleepers (λ r q h e. tt)) s)
    (λ a t. of-settle t))
    (λ a t. either r.running (return tt) land t refl (still of-land t))

pub beginning-silent : (c : ℕ) (s : World) {t : World} → beginning c s ≡ done tt t → t.talk ≡ s.talk
beginning-silent c s e = rw (← beginning-is c s, e) at (of-begins s.machine.cpu (clocked c s))
