-- Laws of actions that may communicate, and of a process that keeps the processor.
use Prim.Native.Nat.{ℕ, ◌≤◌}
use mathlib.Core.Path.{◌≡◌, refl, ap, ◌∙◌}
use mathlib.Core.Bool.{Bool, true, false, cond}
use lib.ListN.{set}
use lib.Dec.{ltb}
use mathlib.Core.List.{List}
use borrow.Author.Tests.{le-leb}
use Rattle.std.specs.Prelude.{Ok, Err}
use Rattle.model.specs.Machine.{World, Act, Result, done, faults, next, ◌>>◌, test_place, memory_size, poke, join, queueing, link_word}
use Rattle.model.specs.Run.{land}
use Rattle.model.specs.declared.Cpu.{Cpu}
use Rattle.model.specs.declared.Setup.{Setup}
use Rattle.model.specs.declared.FaultKind.{FaultKind}
use Rattle.model.specs.declared.FaultKind.TheVariants.{Word}
use Rattle.processor.specs.Seen.{Rest, whole, world, Does, Step}
use Rattle.processor.specs.Pieces.{landing, poke_join}
use Rattle.processor.specs.Quiet.{quiet, Hears, offering, KeepsHeld, Takes, timing, KeepsFront, Times, Acts}
use Rattle.processor.proofs.Laws.{pick_true, join-behind, join_first}

-- the process that has the processor is where it was
pub lands : (s : World) → s.machine.cpu.running ≡ true → s.machine.cpu.place ≤ s.machine.setup.code → land s ≡ done tt s
unfolding land test_place
lands s t e =
    ap (λ (f : Act (Unit {0})). f s) (pick_true s.machine.cpu.running _ _ t) ∙ pick_true _ _ _ (le-leb _ _ e)

-- what an action comes to that may communicate
pub hears :
    {u : Setup} {act other : Act (Unit {0})} {q r : Cpu} {l m : List ℕ} {s : Step} → Does u other q l s m
    → ((x : Rest) → quiet (act (world x u r l)) ≡ quiet (other (world x u q l))) → Hears u act r l s m
hears d e = record { said = λ x. e x ∙ ap quiet (d.said x); keeps = d.keeps }

-- or faults before it does
pub hears-fault :
    {u : Setup} {act : Act (Unit {0})} {r : Cpu} {l : List ℕ} {k : FaultKind} → ((x : Rest) → act (world x u r l) ≡ faults k)
    → Hears u act r l (Err k) l
hears-fault e = record { said = λ x. ap quiet (e x); keeps = refl }

-- offers that stay held
pub still-held : (s : Step) (b : List Bool) → KeepsHeld s b b
still-held (Ok r) b = tt
still-held (Err k) b = refl

-- an action that takes no offer
pub takes_none :
    {u : Setup} {act : Act (Unit {0})} {r : Cpu} {l m : List ℕ} {s : Step} (o : List ℕ) (b : List Bool) → Hears u act r l s m
    → Takes u act r o b l s b m
takes_none {s = s} o b d =
    record { said = λ x. d.said (offering o b x); keeps = d.keeps; keeps_held = still-held s b; long = refl }

-- an action that does not communicate
pub silent :
    {u : Setup} {act : Act (Unit {0})} {r : Cpu} {l m : List ℕ} {s : Step} → Does u act r l s m → Hears u act r l s m
silent d = record { said = λ x. ap quiet (d.said x); keeps = d.keeps }

module _ (x : Rest) (u : Setup) (r : Cpu) (l : List ℕ) (t : r.running ≡ true) (p : r.place ≤ u.code) where
  -- a word is written, and the process goes on where it is
  pub poke-lands : (a v : ℕ) → landing (poke a v) (whole x u r l) ≡ poke a v (whole x u r l)
  unfolding poke
  poke-lands a v = go (ltb a (memory_size u)) (set l a v) (Word a)
    where
      go :
          (b : Bool) (m : List ℕ) (k : FaultKind)
          → next (cond b (done (tt {0}) (whole x u r m)) (faults k)) (λ n. land) ≡ cond b (done (tt {0}) (whole x u r m)) (faults k)
      go true m k = lands (whole x u r m) t p
      go false m k = refl

-- actions that come to the same after a word is written, as far as it is looked at
module _ {B : Type 0} (q : Result (Unit {0}) → B) (x : Rest) (u : Setup) (f g : Act (Unit {0})) (a v : ℕ) (r : Cpu) (l : List ℕ) where
  pub after-set :
      q (f (whole x u r (set l a v))) ≡ q (g (whole x u r (set l a v)))
      → q ((do poke a v; f) (whole x u r l)) ≡ q ((do poke a v; g) (whole x u r l))
  unfolding poke
  after-set e = go (ltb a (memory_size u)) (set l a v) e
    where
      go :
          (t : Bool) (m : List ℕ) → q (f (whole x u r m)) ≡ q (g (whole x u r m))
          → q (next (cond t (done (tt {0}) (whole x u r m)) (faults (Word a))) (λ n. f))
          ≡ q (next (cond t (done (tt {0}) (whole x u r m)) (faults (Word a))) (λ n. g))
      go true m e = e
      go false m e = refl

  pub after-poke :
      ((m : List ℕ) → q (f (whole x u r m)) ≡ q (g (whole x u r m)))
      → q ((do poke a v; f) (whole x u r l)) ≡ q ((do poke a v; g) (whole x u r l))
  after-poke e = after-set (e (set l a v))

-- a process is queued by one that goes on where it is
pub join-lands :
    (x : Rest) (u : Setup) (r : Cpu) (l : List ℕ) → r.running ≡ true → r.place ≤ u.code → (b : Bool) → r.queued ≡ b → (w : ℕ)
    → landing (join w) (whole x u r l) ≡ join w (whole x u r l)
join-lands x u r l t p true q w =
    rw (join-behind x u r l w t q) (poke-lands x u (queueing r.front w true r) l t p (link_word r.back) w)
join-lands x u r l t p false q w = rw (join_first x u r l w t q) (lands (whole x u (queueing w w true r) l) t p)

-- after a word is written
pub poke-join-lands :
    (x : Rest) (u : Setup) (r : Cpu) (l : List ℕ) → r.running ≡ true → r.place ≤ u.code → (a v w : ℕ)
    → landing (poke_join a v w) (whole x u r l) ≡ poke_join a v w (whole x u r l)
unfolding poke
poke-join-lands x u r l t p a v w = go (ltb a (memory_size u)) (set l a v) (Word a)
  where
    go :
        (b : Bool) (m : List ℕ) (k : FaultKind)
        → next (next (cond b (done (tt {0}) (whole x u r m)) (faults k)) (λ n. join w)) (λ n. land)
        ≡ next (cond b (done (tt {0}) (whole x u r m)) (faults k)) (λ n. join w)
    go true m k = join-lands x u r m t p r.queued refl w
    go false m k = refl

-- the front stays where it is not changed
pub front-stays : (s : Step) (f : ℕ) → KeepsFront s f f
front-stays (Ok r) f = tt
front-stays (Err k) f = refl

-- an action that does not see the clock or the timer queue
pub untimed :
    {u : Setup} {act : Act (Unit {0})} {r : Cpu} {o : List ℕ} {b d : List Bool} {l m : List ℕ} {s : Step} (k f : ℕ)
    → Takes u act r o b l s d m → Acts u act r o b k f l s d f m
untimed {s = s} k f t =
    record {
      said = λ x. t.said (timing k f x);
      keeps = t.keeps;
      keeps_held = t.keeps_held;
      keeps_front = front-stays s f;
      long = t.long;
    }

-- one that sees no offers
pub unoffered :
    {u : Setup} {act : Act (Unit {0})} {r : Cpu} {k f g : ℕ} {l m : List ℕ} {s : Step} (o : List ℕ) (b : List Bool)
    → Times u act r k f l s g m → Acts u act r o b k f l s b g m
unoffered {s = s} o b t =
    record {
      said = λ x. ap quiet (t.does.said (offering o b x));
      keeps = t.does.keeps;
      keeps_held = still-held s b;
      keeps_front = t.keeps_front;
      long = refl;
    }
