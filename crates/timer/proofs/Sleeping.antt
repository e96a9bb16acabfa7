-- Laws of the clock's operations: what does not see the front of the timer queue, words that are given back, and where a walk leads.
use Prim.Native.Nat.{ℕ, suc, ◌≤◌}
use mathlib.Core.Path.{◌≡◌, refl, sym, ap, ◌∙◌}
use mathlib.Core.Bool.{Bool, true, false, cond}
use mathlib.Core.List.{List, []}
use lib.ListN.{length, set}
use lib.Dec.{ltb, eqb}
use Rattle.std.specs.Prelude.{◌++◌, Ok, Err}
use Rattle.model.specs.Word.{not_process}
use Rattle.model.specs.Machine.{◌>>◌, ◌>>=◌, World, Act, Result, done, faults, next, return, registers}
use Rattle.model.specs.Machine.{set_front, memory_size, poke, release, state_word}
use Rattle.model.specs.Machine.{time_link_word, name_of}
use Rattle.model.specs.Alternative.{enabling, none_selected, begin_alt}
use Rattle.model.specs.Timer.{Stop, walk, link, sleep, begin_timed_alt, wait_timed_alt, leave_timer, time_not_set}
use Rattle.model.specs.declared.Cpu.{Cpu}
use Rattle.model.specs.declared.Setup.{Setup}
use Rattle.model.specs.declared.FaultKind.{FaultKind}
use Rattle.model.specs.declared.FaultKind.TheVariants.{Word}
use Rattle.processor.specs.Seen.{Step, Peeked, Rest, whole, world, told, Does, Works, looked, written, undone}
use Rattle.processor.specs.Pieces.{landing, release_at, poke2_tell}
use Rattle.processor.specs.Quiet.{timing, Times}
use Rattle.processor.proofs.Laws.{undid, refused, next-next, first-place}
use Rattle.processor.proofs.Talking.{poke-lands, after-poke, front-stays}
use Rattle.timer.specs.declared.walk.Until.{Until}
use Rattle.timer.specs.declared.walk.Until.TheVariants.{Later, Is}
use Rattle.timer.specs.declared.walk.Place.{Place}
use Rattle.timer.specs.Walks.{Walked, stops_of, from_front, walk_in}
use Rattle.timer.specs.Sleeps.{SameCpu, link_release, sleep_release, poke2_sleep, poke2, wait_ready, unlink}
use Rattle.processor.proofs.Looks.{any_rest, any_setup, any_size}
use Rattle.processor.proofs.Whole.{fit-front}
use Rattle.timer.proofs.Walking.{placed, walk-so}

-- an action that does not see the front
pub unseen : {u : Setup} {act : Act (Unit {0})} {r : Cpu} {l m : List ℕ} {s : Step} (k f : ℕ) → Does u act r l s m
    → Times u act r k f l s f m
unseen {s = s} k f d = record { does = record { said = λ x. d.said (timing k f x); keeps = d.keeps }; keeps_front = front-stays s f }

-- one that comes to another
pub alike :
    {u : Setup} {act other : Act (Unit {0})} {q r : Cpu} {k f g : ℕ} {l m : List ℕ} {s : Step} → Times u other q k f l s g m
    → ((x : Rest) → act (world (timing k f x) u r l) ≡ other (world (timing k f x) u q l)) → Times u act r k f l s g m
alike t e = record { does = record { said = λ x. e x ∙ t.does.said x; keeps = t.does.keeps }; keeps_front = t.keeps_front }

-- one that ends the answer
pub ended :
    {u : Setup} {act : Act (Unit {0})} {r q : Cpu} {k f g : ℕ} {l m : List ℕ}
    → ((x : Rest) → act (world (timing k f x) u r l) ≡ done tt (world (timing k g x) u q m)) → Times u act r k f l (Ok q) g m
ended e = record { does = record { said = e; keeps = tt }; keeps_front = tt }

-- one that faults
pub faulted :
    {u : Setup} {act : Act (Unit {0})} {r : Cpu} {k f : ℕ} {l : List ℕ} {j : FaultKind}
    → ((x : Rest) → act (world (timing k f x) u r l) ≡ faults j) → Times u act r k f l (Err j) f l
faulted e = record { does = record { said = e; keeps = refl }; keeps_front = refl }

-- a fault of a part is one of the whole
pub fault-on :
    {u : Setup} {act other : Act (Unit {0})} {r : Cpu} {k f g : ℕ} {l m : List ℕ} {s : Step} {j : FaultKind} → Times u act r k f l s g m
    → s ≡ Err j → ((x : Rest) → act (world (timing k f x) u r l) ≡ faults j → other (world (timing k f x) u r l) ≡ faults j)
    → Times u other r k f l (Err j) g m
fault-on {u} {act} {r = r} {k} {f} {g} {l} {m} t e on =
    let h : Times u act r k f l (Err _) g m = rw e at t in
    record { does = record { said = λ x. on x (h.does.said x); keeps = h.does.keeps }; keeps_front = h.keeps_front }

module _ {u : Setup} (a v : ℕ) {l : List ℕ} {p : Peeked} (act : Act (Unit {0})) {r : Cpu} {k f : ℕ}
    (h : memory_size u ≡ length l) where
  -- a word is written, then an action, and on its fault the word gets back what it held
  pub slept :
      {old g : ℕ} {m n o : List ℕ} {t : Step} (s : Step) → (p ≡ looked a l) × (m ≡ written p a v l) → p ≡ Ok old
      → Times u act r k f m s g n → (t ≡ s) × (o ≡ undone s a old n) → Times u (do poke a v; act) r k f l t g o
  slept s w e t i = record { does = undid a v act h s w e t.does i; keeps_front = rw i.0 t.keeps_front }

  -- the word is outside
  pub not-slept :
      {j : FaultKind} {m : List ℕ} → (p ≡ looked a l) × (m ≡ written p a v l) → p ≡ Err j
      → Times u (do poke a v; act) r k f l (Err j) f m
  not-slept w e = record { does = refused a v act h w e; keeps_front = refl }

-- the registers of a result, or these
abbrev cpu_in : Cpu → Result (Unit {0}) → Cpu
cpu_in r (done n s) = s.machine.cpu
cpu_in r (faults k) = r

-- registers are as they were after a word is written
kept-cpu : (x : Rest) (u : Setup) (r : Cpu) (n m : List ℕ) (k : FaultKind) (t : Bool) (s : Step)
    → cond t (done (tt {0}) (whole x u r n)) (faults k) ≡ told x u s m → SameCpu s r
kept-cpu x u r n m k true (Ok q) e = sym (ap (cpu_in r) e)
kept-cpu x u r n m k true (Err j) e = tt
kept-cpu x u r n m k false (Ok q) e = cc
kept-cpu x u r n m k false (Err j) e = tt

pub poke-same : (a v : ℕ) {r : Cpu} {l m : List ℕ} (s : Step) → Works (poke a v) r l s m → SameCpu s r
unfolding poke
poke-same a v {r} {l} {m} s d =
    let u = any_setup (length l) in
    kept-cpu any_rest u r (set (l ++ []) a v) m (Word a) (ltb a (memory_size u)) s ((d u (any_size (length l))).said any_rest)

-- a step with the same registers as another
pub same-as : (r : Cpu) (s t : Step) → t ≡ s → SameCpu s r → SameCpu t r
same-as r s t e h = rw e h

module _ (u : Setup) (x : Rest) (r : Cpu) (l : List ℕ) (k f : ℕ) where
  -- a word is written, and the front changes, which the rest of the action does not see
  pub front-later : (a v g : ℕ) (act : Act (Unit {0}))
      → (do (do poke a v; set_front g); act) (whole (timing k f x) u r l) ≡ (do poke a v; act) (whole (timing k g x) u r l)
  unfolding poke
  front-later a v g act = by (ltb a (memory_size u)) (set l a v)
    where
      by : (t : Bool) (m : List ℕ)
          → next (next (cond t (done (tt {0}) (whole (timing k f x) u r m)) (faults (Word a))) (λ n. set_front g)) (λ n. act)
          ≡ next (cond t (done (tt {0}) (whole (timing k g x) u r m)) (faults (Word a))) (λ n. act)
      by true m = refl
      by false m = refl

  -- the front changes before a word is written
  pub front-first : (a v g : ℕ) → (do set_front g; poke a v) (whole (timing k f x) u r l) ≡ poke a v (whole (timing k g x) u r l)
  front-first a v g = refl

module _ (u : Setup) (x : Rest) (r : Cpu) (l : List ℕ) (k f : ℕ) (h : memory_size u ≡ length l) where
  -- what the model's walk comes to, in a machine with so many words
  walked : (e : Until) {v : Walked} → v ≡ walk_in (suc (length l)) l e f (from_front f)
      → walk (stops_of e) (world (timing k f x) u r l) ≡ placed u (timing k f x) r (l ++ x.behind) v
  walked e g = walk-so u x r (l ++ x.behind) k f e ∙ ap (placed u (timing k f x) r (l ++ x.behind)) (rw (h, fit-front l x.behind) (sym g))

  -- where a walk stops, the process comes
  pub sleeps-at : (t : ℕ) {here : Place} → Ok here ≡ walk_in (suc (length l)) l (Later t) f (from_front f)
      → sleep_release t (world (timing k f x) u r l) ≡ link_release here (world (timing k f x) u r l)
  unfolding sleep
  sleeps-at t e =
      ap (λ (q : Result Stop). next (next q (λ s. do poke (time_link_word r.workspace) s.at; link s.before (name_of r.workspace)))
      (λ n. release_at 0)) (walked (Later t) e)

  pub sleeps-fault : (t : ℕ) {j : FaultKind} → Err j ≡ walk_in (suc (length l)) l (Later t) f (from_front f)
      → sleep_release t (world (timing k f x) u r l) ≡ faults j
  unfolding sleep
  sleeps-fault t e =
      ap (λ (q : Result Stop). next (next q (λ s. do poke (time_link_word r.workspace) s.at; link s.before (name_of r.workspace)))
      (λ n. release_at 0)) (walked (Later t) e)

  -- where a walk finds the process, it leaves
  abbrev leaving : (behind : ℕ) → Stop → Act (Unit {0})
  leaving n s = do
    cond (eqb s.at not_process) (return tt) (link s.before n)
    poke (time_link_word r.workspace) time_not_set

  pub leaves_at : (n : ℕ) {here : Place} → Ok here ≡ walk_in (suc (length l)) l (Is r.workspace) f (from_front f)
      → leave_timer n (world (timing k f x) u r l) ≡ unlink here n (world (timing k f x) u r l)
  unfolding leave_timer
  leaves_at n e = ap (λ (q : Result Stop). next q (leaving n)) (walked (Is r.workspace) e)

  pub leaves-fault : (n : ℕ) {j : FaultKind} → Err j ≡ walk_in (suc (length l)) l (Is r.workspace) f (from_front f)
      → leave_timer n (world (timing k f x) u r l) ≡ faults j
  unfolding leave_timer
  leaves-fault n e = ap (λ (q : Result Stop). next q (leaving n)) (walked (Is r.workspace) e)

-- the place of a process that waits is not tested
pub wait-shape : (a v b w c z t : ℕ) (s : World)
    → landing (do poke a v; poke b w; poke c z; sleep t; release) s ≡ (do poke a v; poke2_sleep b w c z t) s
wait-shape a v b w c z t s =
    simp next-next (ap (λ (f : Act (Unit {0})). (do poke a v; poke b w; poke c z; sleep t; release; f) s) first-place)

-- two words are written and the processor is free, with no process to tell
pub behind-shape : (a v b w : ℕ) (s : World) → (do (do poke a v; poke b w); release_at 0) s ≡ poke2_tell a v b w 0 0 s
behind-shape a v b w s = next-next (poke a v s) _ _

-- TALT
pub begin-shape :
    (x : Rest) (u : Setup) (r : Cpu) (l : List ℕ) → r.running ≡ true → r.place ≤ u.code
    → landing begin_timed_alt (whole x u r l)
    ≡ poke2 (state_word r.workspace) enabling (time_link_word r.workspace) time_not_set (whole x u r l)
unfolding begin_timed_alt begin_alt
begin-shape x u r l t p =
    let a = state_word r.workspace in
    let b = time_link_word r.workspace in
    next-next (poke a enabling (whole x u r l)) _ _
    ∙ after-poke (λ q. q) x u (landing (do q ← registers; poke (time_link_word q.workspace) time_not_set))
    (poke b time_not_set) a enabling r l
    (λ m. poke-lands x u r m t p b time_not_set)

-- two words are written, and the process goes on where it is
pub poke2-lands :
    (x : Rest) (u : Setup) (r : Cpu) (l : List ℕ) → r.running ≡ true → r.place ≤ u.code → (a v b w : ℕ)
    → landing (poke2 a v b w) (whole x u r l) ≡ poke2 a v b w (whole x u r l)
poke2-lands x u r l t p a v b w =
    next-next (poke a v (whole x u r l)) _ _
    ∙ after-poke (λ q. q) x u (landing (poke b w)) (poke b w) a v r l (λ m. poke-lands x u r m t p b w)

-- an ALT waits, asleep or not
pub alt-sleeps : (a v b w t : ℕ) (s : World) → landing (do poke2 a v b w; sleep t; release) s ≡ poke2_sleep a v b w t s
alt-sleeps a v b w t s = simp next-next (ap (λ (f : Act (Unit {0})). (do poke a v; poke b w; sleep t; release; f) s) first-place)

pub alt-waits : (a v b w : ℕ) (s : World) → landing (do poke2 a v b w; release) s ≡ poke2_tell a v b w 0 0 s
alt-waits a v b w s = simp next-next (ap (λ (f : Act (Unit {0})). (do poke a v; poke b w; release; f) s) first-place)

-- TALTWT: no branch is chosen, and the rest of it
pub timed-shape :
    (x : Rest) (u : Setup) (r : Cpu) (l : List ℕ)
    → landing wait_timed_alt (whole x u r l)
    ≡ (do poke r.workspace none_selected; landing (wait_ready r.workspace x.timer.clock)) (whole x u r l)
unfolding wait_timed_alt
timed-shape x u r l = next-next (poke r.workspace none_selected (whole x u r l)) _ _
