-- Laws of what functions of registers and memory do: how their actions go together.
use Prim.Native.Nat.{ℕ, zero, suc, ◌+◌, ◌≤◌}
use mathlib.Core.Path.{◌≡◌, refl, fun_ext, ap, sym, ◌∙◌}
use mathlib.Core.Bool.{Bool, true, false, cond}
use mathlib.Core.List.{List, [], ◌∷◌}
use borrow.Author.Tests.{ltb-true}
use Rattle.std.proofs.lemmas.List.{append-nil, set-append_left}
use Rattle.std.specs.Prelude.{◌++◌}
use lib.ListN.{length, get_or, set}
use native.Mathlib.Omega.{arith}
use lib.Seq.{set-set, set-get_or}
use lib.Dec.{ltb, leb-zero}
use Rattle.std.specs.Prelude.{Ok, Err, Result as Answer, IsErrAnd, is_err}
use Rattle.model.specs.Machine.{World, Act, Result, done, faults, next, ◌>>◌, return, set_registers, running, queueing, space_of}
use Rattle.model.specs.Machine.{memory_size}
use Rattle.model.specs.Machine.{poke, test_place, link_word, resume, take_front, release, enqueue, join}
use Rattle.model.specs.Word.{low}
use Rattle.model.specs.Execute.{jump}
use Rattle.model.specs.Run.{land, waking}
use Rattle.model.specs.declared.Cpu.{Cpu}
use Rattle.model.specs.declared.Setup.{Setup}
use Rattle.model.specs.declared.FaultKind.{FaultKind}
use Rattle.model.specs.declared.FaultKind.TheVariants.{Word}
use Rattle.processor.specs.Seen.{Rest, whole, world, Changes, looked, written, undone, Step, Peeked}
use Rattle.processor.specs.Pieces.{landing, land_at, poke_release, yield_slice}
use Rattle.processor.proofs.Whole.{fit, fit-same, looked-fit}

-- what a `?` hands on is the fault itself
pub fault-passed : {A : Type 0} {k : FaultKind} (r : Answer A FaultKind) → IsErrAnd r (λ e. e ≡ k) → r ≡ Err k
fault-passed (Ok x) e = absurd e
fault-passed (Err j) e = ap Err e

-- a word that was looked at is inside the memory
pub value-inside : (t : Bool) (v old : ℕ) (k : FaultKind) → cond t (Ok v) (Err k) ≡ Ok old → (t ≡ true) × (v ≡ old)
value-inside true v old k e = (refl, cc)
value-inside false v old k e = (cc, cc)

-- a fault comes of a word outside
pub fault-outside : (t : Bool) (v : ℕ) (j k : FaultKind) → cond t (Ok v) (Err j) ≡ Err k → (t ≡ false) × (j ≡ k)
fault-outside true v j k e = (cc, cc)
fault-outside false v j k e = (refl, cc)

-- after a fault a word gets back what it held
pub gives-back : (s : Step) (a old : ℕ) (l : List ℕ) → is_err s ≡ true → set l a old ≡ undone s a old l
gives-back (Ok r) a old l e = cc
gives-back (Err k) a old l e = refl

-- else nothing is written
pub gives-none : (s : Step) (a old : ℕ) (l : List ℕ) → is_err s ≡ false → l ≡ undone s a old l
gives-none (Ok r) a old l e = refl
gives-none (Err k) a old l e = cc

-- a word of the machine's is written in the whole memory
pub set-whole : (l b : List ℕ) (a v : ℕ) → ltb a (length l) ≡ true → set (l ++ b) a v ≡ set l a v ++ b
set-whole l b a v t = set-append_left l b a v (ltb-true _ _ t)

-- the memory is as it was where a word gets back what it held
back : (l m : List ℕ) (a v old : ℕ) → get_or l a 0 ≡ old → m ≡ set l a v → set m a old ≡ l
back l m a v old e k = rw (k, set-set, ← e, set-get_or)

module _ {φ ψ : Rest → Rest} {u : Setup} (a v : ℕ) {l : List ℕ} (act : Act (Unit {0})) {r : Cpu} where
  -- `undid-in`, where the word is known to be inside
  gave-back :
      {old : ℕ} {m n : List ℕ} (s : Step) → ltb a (memory_size u) ≡ true → get_or l a 0 ≡ old → m ≡ set l a v
      → ((x : Rest) → set (l ++ (φ x).behind) a v ≡ set l a v ++ (φ x).behind)
      → Changes φ ψ u act r m s n → Changes φ ψ u (do poke a v; act) r l s (undone s a old n)
  unfolding poke
  gave-back (Ok q) t e k c d = record { said = λ x. rw (t, c x, ← k) (d.said x); keeps = tt }
  gave-back {old} {m} {n} (Err f) t e k c d =
      record { said = λ x. rw (t, c x, ← k) (d.said x); keeps = back l n a v old e (d.keeps ∙ k) }

module _ {φ ψ : Rest → Rest} {u : Setup} (a v : ℕ) {l : List ℕ} {p : Peeked} (act : Act (Unit {0})) {r : Cpu} where
  -- a word is written, then an action, and on its fault the word gets back what it held: where writing a word of the machine's in the lent
  -- memory is writing it in what is seen of that
  undid-in :
      {old : ℕ} {m n o : List ℕ} {t : Step} (s : Step)
      → (ltb a (memory_size u) ≡ true → (x : Rest) → set (l ++ (φ x).behind) a v ≡ set l a v ++ (φ x).behind)
      → (p ≡ looked a (fit (memory_size u) l)) × (m ≡ written p a v l) → p ≡ Ok old
      → Changes φ ψ u act r m s n → (t ≡ s) × (o ≡ undone s a old n) → Changes φ ψ u (do poke a v; act) r l t o
  undid-in {old} s c (e, w) g d (t, i) =
      let size = memory_size u in
      let b = value-inside (ltb a size) (get_or l a 0) old (Word a) (sym (looked-fit size a l) ∙ sym e ∙ g) in
      rw (t, i) (gave-back a v act s b.0 b.1 (rw g at w) (c b.0) d)

  -- so it is where all of the lent memory is seen, whatever its length
  pub undid-whole :
      {old : ℕ} {m n o : List ℕ} {t : Step} (s : Step) → ((x : Rest) → (φ x).behind ≡ [])
      → (p ≡ looked a (fit (memory_size u) l)) × (m ≡ written p a v l) → p ≡ Ok old
      → Changes φ ψ u act r m s n → (t ≡ s) × (o ≡ undone s a old n) → Changes φ ψ u (do poke a v; act) r l t o
  undid-whole s z = undid-in s (λ t x. rw (z x, append-nil l, append-nil (set l a v)) refl)

module _ {φ ψ : Rest → Rest} {u : Setup} (a v : ℕ) {l : List ℕ} {p : Peeked} (act : Act (Unit {0})) {r : Cpu}
    (h : memory_size u ≡ length l) where
  -- and where the machine's words are, whatever stands behind them
  pub undid :
      {old : ℕ} {m n o : List ℕ} {t : Step} (s : Step) → (p ≡ looked a l) × (m ≡ written p a v l) → p ≡ Ok old
      → Changes φ ψ u act r m s n → (t ≡ s) × (o ≡ undone s a old n) → Changes φ ψ u (do poke a v; act) r l t o
  undid s (e, w) = undid-in a v act s (λ t x. set-whole l (φ x).behind a v (rw h at t)) (rw (h, fit-same l) e, w)

  -- the word is outside
  pub refused :
      {k : FaultKind} {m : List ℕ} → (p ≡ looked a l) × (m ≡ written p a v l) → p ≡ Err k
      → Changes φ ψ u (do poke a v; act) r l (Err k) m
  unfolding poke
  refused {k} (e, w) g =
      let b = fault-outside (ltb a (length l)) (get_or l a 0) (Word a) k (sym e ∙ g) in
      record { said = λ x. rw (h, b.0, b.1); keeps = rw g at w }

-- an action that comes to another, perhaps with other registers
pub like :
    {φ ψ : Rest → Rest} {u : Setup} {act other : Act (Unit {0})} {q r : Cpu} {l m : List ℕ} {s : Step} → Changes φ ψ u other q l s m
    → ((x : Rest) → act (world (φ x) u r l) ≡ other (world (φ x) u q l)) → Changes φ ψ u act r l s m
like d e = record { said = λ x. e x ∙ d.said x; keeps = d.keeps }

-- an action that ends the answer
pub ends :
    {φ ψ : Rest → Rest} {u : Setup} {act : Act (Unit {0})} {r q : Cpu} {l m : List ℕ}
    → ((x : Rest) → act (world (φ x) u r l) ≡ done tt (world (ψ x) u q m)) → Changes φ ψ u act r l (Ok q) m
ends e = record { said = e; keeps = tt }

-- an action that faults
pub faulty :
    {φ ψ : Rest → Rest} {u : Setup} {act : Act (Unit {0})} {r : Cpu} {l : List ℕ} {k : FaultKind}
    → ((x : Rest) → act (world (φ x) u r l) ≡ faults k) → Changes φ ψ u act r l (Err k) l
faulty e = record { said = e; keeps = refl }

-- writing a word looks at no registers
poked :
    (t : Bool) (x : Rest) (u : Setup) (q r : Cpu) (l : List ℕ) (k : FaultKind)
    → next (cond t (done (tt {0}) (whole x u q l)) (faults k)) (λ n. set_registers r) ≡ cond t (done (tt {0}) (whole x u r l)) (faults k)
poked true x u q r l k = refl
poked false x u q r l k = refl

pub poke-registers :
    (x : Rest) (u : Setup) (q r : Cpu) (l : List ℕ) (a v : ℕ) → (do poke a v; set_registers r) (whole x u q l) ≡ poke a v (whole x u r l)
unfolding poke
poke-registers x u q r l a v = poked (ltb a (memory_size u)) x u q r (set l a v) (Word a)

-- a choice whose test is known, where registers hold the test too
pub pick_true : {A : Type 0} (t : Bool) (a b : A) → t ≡ true → cond t a b ≡ a
pick_true true a b e = refl
pick_true false a b e = cc

pub pick-false : {A : Type 0} (t : Bool) (a b : A) → t ≡ false → cond t a b ≡ b
pick-false true a b e = cc
pick-false false a b e = refl

-- an action with nothing after it
pub nothing-after : (q : Result (Unit {0})) → next q (λ n. return tt) ≡ q
nothing-after (done n s) = refl
nothing-after (faults k) = refl

-- at a whole, an action that is picked
at : (x : Rest) (u : Setup) (r : Cpu) (l : List ℕ) {f g : Act (Unit {0})} → f ≡ g → f (whole x u r l) ≡ g (whole x u r l)
at x u r l e = ap (λ f. f (whole x u r l)) e

module _ (x : Rest) (u : Setup) (r : Cpu) (l : List ℕ) where
  -- the processor takes the front of the queue
  pub release-takes : r.queued ≡ true → release (whole x u r l) ≡ take_front (whole x u r l)
  unfolding release
  release-takes e = at x u r l (pick_true r.queued _ _ e)

  -- none is queued
  pub release-frees : r.queued ≡ false → release (whole x u r l) ≡ done tt (whole x u (running false r) l)
  unfolding release
  release-frees e = at x u r l (pick-false r.queued _ _ e)

  -- a process joins the queue of a busy processor
  pub join-queues : (w : ℕ) → r.running ≡ true → join w (whole x u r l) ≡ enqueue w r (whole x u r l)
  unfolding join
  join-queues w t = at x u r l (pick_true r.running _ _ t)

  -- behind others that are queued
  pub enqueue-behind :
      (w : ℕ) → r.queued ≡ true → enqueue w r (whole x u r l) ≡ poke (link_word r.back) w (whole x u (queueing r.front w true r) l)
  unfolding space_of
  enqueue-behind w q =
      at x u r l (pick_true r.queued _ _ q) ∙ poke-registers x u r (queueing r.front w true r) l (link_word r.back) w

  -- or as the only one
  pub enqueue-first : (w : ℕ) → r.queued ≡ false → enqueue w r (whole x u r l) ≡ done tt (whole x u (queueing w w true r) l)
  enqueue-first w q = at x u r l (pick-false r.queued _ _ q)

  pub join-behind :
      (w : ℕ) → r.running ≡ true → r.queued ≡ true
      → join w (whole x u r l) ≡ poke (link_word r.back) w (whole x u (queueing r.front w true r) l)
  join-behind w t q = join-queues w t ∙ enqueue-behind w q

  pub join_first :
      (w : ℕ) → r.running ≡ true → r.queued ≡ false → join w (whole x u r l) ≡ done tt (whole x u (queueing w w true r) l)
  join_first w t q = join-queues w t ∙ enqueue-first w q

  -- a free processor takes a process at once
  pub join_free :
      (w : ℕ) → r.running ≡ false → join w (whole x u r l) ≡ resume w (whole x u (queueing w w false r) l)
  unfolding join
  join_free w t = at x u r l (pick-false r.running _ _ t)

  -- an action from outside while a process has the processor
  pub wakes-running : (act : Act (Unit {0})) → r.running ≡ true → waking act (whole x u r l) ≡ act (whole x u r l)
  unfolding waking
  wakes-running act t =
      ap (λ (f : Act (Unit {0})). next (act (whole x u r l)) (λ n. f)) (pick_true r.running _ _ t) ∙ nothing-after _

  -- and while none has
  pub wakes-free : (act : Act (Unit {0})) → r.running ≡ false → waking act (whole x u r l) ≡ landing act (whole x u r l)
  unfolding waking
  wakes-free act t = ap (λ (f : Act (Unit {0})). next (act (whole x u r l)) (λ n. f)) (pick-false r.running _ _ t)

-- actions one after the other, put together from the right
pub next-next :
    {A B C : Type 0} (q : Result A) (f : A → Act B) (g : B → Act C) → next (next q f) g ≡ next q (λ n s. next (f n s) g)
next-next (done n s) f g = refl
next-next (faults k) f g = refl

-- the code's first place is never a fault
pub first-place : land ≡ land_at 0
unfolding test_place
first-place = fun_ext (λ s. rw leb-zero)

-- a word is written and the processor is free, with no place to go on at
pub poke-release : (a v : ℕ) (s : World) → landing (do poke a v; release) s ≡ poke_release 0 a v s
poke-release a v s = simp next-next (ap (λ (f : Act (Unit {0})). (do poke a v; release; f) s) first-place)

-- the slice is over
pub jump-yields :
    (x : Rest) (u : Setup) (r : Cpu) (l : List ℕ) (n : ℕ) → ltb r.count u.slice ≡ false
    → landing (jump n) (whole x u r l) ≡ yield_slice (low (r.place + n)) (whole x u r l)
unfolding jump
jump-yields x u r l n e =
    rw e (simp next-next)

-- past the end of the flags none is held
pub none-beyond : (b : List Bool) (k : ℕ) → length b ≤ k → get_or b k false ≡ false
none-beyond [] k h = refl
none-beyond (x ∷ b) zero h = absurd (omega arith)
none-beyond (x ∷ b) (suc k) h = none-beyond b k (omega arith)
