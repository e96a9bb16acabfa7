-- A walk along the timer queue comes to what counting its steps comes to: one that comes to a process where it was before passes the same
-- processes for ever, since it changes nothing.
use Prim.Native.Nat.{ℕ, zero, suc}
use mathlib.Core.Path.{◌≡◌, refl, sym, ap, ◌∙◌, subst}
use mathlib.Core.Logic.{◌⊎◌, inl, inr, ⊎_elim}
use mathlib.Core.Bool.{Bool, true, false, cond, ◌||◌}
use mathlib.Core.List.{List, [], ◌∷◌}
use lib.Dec.{eqb}
use borrow.Author.Tests.{eq-eqb, eqb-true}
use Rattle.std.specs.Prelude.{Some, None, Ok, Err}
use Rattle.model.specs.Word.{after, not_process}
use Rattle.model.specs.Machine.{◌>>=◌, World, Act, Result, done, faults, next, return, memory_size}
use Rattle.model.specs.Machine.{peek, time_link_word, time_word, space_of, name_of}
use Rattle.model.specs.Timer.{was_at, Stop, along, walk}
use Rattle.model.specs.declared.Cpu.{Cpu}
use Rattle.model.specs.declared.Setup.{Setup}
use Rattle.model.specs.declared.FaultKind.{FaultKind}
use Rattle.model.specs.declared.FaultKind.TheVariants.{Word}
use Rattle.model.proofs.Cases.{by_bool, never}
use Rattle.processor.specs.Quiet.{timing}
use Rattle.processor.specs.Seen.{Peeked, Rest, whole, Finds, looked}
use Rattle.processor.proofs.Looks.{finds-looked}
use Rattle.processor.proofs.Whole.{fit, seen, peek-whole}
use Rattle.timer.specs.declared.walk.Until.{Until}
use Rattle.timer.specs.declared.walk.Until.TheVariants.{Later, Is}
use Rattle.timer.specs.declared.walk.Place.{Place}
use Rattle.timer.specs.Walks.{stops_of, Tested, Passed, Walked, stops_in, later_than, passing, on_to, pass_in, from_front, behind}
use Rattle.timer.specs.Walks.{walk_in, before_of}

by-passed : {R : Type 0} (p : Passed) → (p ≡ Ok None → R) → ((q : ℕ) → p ≡ Ok (Some q) → R) → ((k : FaultKind) → p ≡ Err k → R) → R
by-passed (Ok None) s o n = s refl
by-passed (Ok (Some q)) s o n = o q refl
by-passed (Err k) s o n = n k refl

-- what was found at a word is what is in the memory
pub saw : (l : List ℕ) {a b : ℕ} {p q : Peeked} → Finds (peek a) l p → a ≡ b → p ≡ q → looked b l ≡ q
saw l {a} {p = p} h e f = rw (← e, ← f) (sym (finds-looked a l p h))

module _ (u : Setup) (x : Rest) (r : Cpu) (m : List ℕ) where
  abbrev w : World
  w = whole x u r m

  -- the machine's words
  abbrev l : List ℕ
  l = fit (memory_size u) m

  -- the model's test of a process
  stops_so : (e : Until) (p : ℕ) → stops_of e p w ≡ seen w (stops_in l e p)
  unfolding stops_in space_of name_of
  stops_so (Later t) p =
      ap (λ (q : Result ℕ). next q (λ v s. done (after v t) s)) (peek-whole x u r m (time_word p)) ∙ by (looked (time_word p) l)
    where
      by : (v : Peeked) → next (seen w v) (λ v s. done (after v t) s) ≡ seen w (later_than t v)
      by (Ok v) = refl
      by (Err k) = refl
  stops_so (Is v) p = refl

  -- what comes of a process that a walk is at
  abbrev on_pass : {A : Type 0} → Passed → Result A → (ℕ → Result A) → Result A
  on_pass (Ok None) d more = d
  on_pass (Ok (Some q)) d more = more q
  on_pass (Err k) d more = faults k

  step_so : {A : Type 0} (e : Until) (p : ℕ) (a : A) (more : ℕ → Act A)
      → (do b ← stops_of e p; cond b (return a) (do q ← peek (time_link_word (space_of p)); more q)) w
      ≡ on_pass (pass_in l e p) (done a w) (λ q. more q w)
  unfolding pass_in space_of
  step_so {A} e p a more =
      ap (λ (b : Result Bool). next b (λ b. cond b (return a) (do q ← peek (time_link_word p); more q))) (stops_so e p)
      ∙ by (stops_in l e p)
    where
      linked : (v : Peeked) → next (seen w v) more ≡ on_pass (on_to v) (done a w) (λ q. more q w)
      linked (Ok q) = refl
      linked (Err k) = refl

      by : (t : Tested) → next (seen w t) (λ b. cond b (return a) (do q ← peek (time_link_word p); more q))
          ≡ on_pass (passing t (looked (time_link_word p) l)) (done a w) (λ q. more q w)
      by (Ok true) = refl
      by (Ok false) = ap (λ (q : Result ℕ). next q more) (peek-whole x u r m (time_link_word p)) ∙ linked (looked (time_link_word p) l)
      by (Err k) = refl

  -- where a walk stopped, as the model's result
  abbrev pub placed : Walked → Result Stop
  placed (Ok here) = done (record { before = before_of here; at = here.at }) w
  placed (Err k) = faults k

  module _ (e : Until) (f : ℕ) where
    -- a walk that is at p passes it and comes to q
    record Passes (p q : ℕ) : Type 0 where
      process : eqb p not_process ≡ false
      on : pass_in l e p ≡ Ok (Some q)

    -- from each of these a walk comes to one of these
    abbrev Closed : List ℕ → Type 0
    Closed seen = (q : ℕ) → was_at q seen ≡ true → (z : ℕ) × Passes q z × (was_at z seen ≡ true)

    -- so it does not stop
    cycles : (n : ℕ) (seen : List ℕ) (here : Place) → Closed seen → was_at here.at seen ≡ true
        → walk_in n l e f here ≡ Err (Word f)
    unfolding walk_in
    cycles zero seen here h m = refl
    cycles (suc n) seen here h m =
        let (z, p, i) = h here.at m in
        rw (p.process, p.on) (cycles n seen (behind here.at z) h i)

    -- from each of those that a walk was at it came to another of them, or to where it is
    abbrev Came : List ℕ → ℕ → Type 0
    Came seen p = (q : ℕ) → was_at q seen ≡ true → (z : ℕ) × Passes q z × ((was_at z seen ≡ true) ⊎ (z ≡ p))

    came-on : (seen : List ℕ) (p q : ℕ) → Came seen p → Passes p q → Came (p ∷ seen) q
    unfolding was_at
    came-on seen p q h on s m =
        by_bool (eqb s p)
        (λ same. let is = eqb-true s p same in (q, subst (λ y. Passes y q) (sym is) on, inr refl))
        (λ other.
        let (z, next, i) = h s (rw other at m) in
        (z, next, inl (⊎_elim (λ was. or-there (eqb z p) (was_at z seen) was) (λ is. or-here (eqb z p) (was_at z seen) (eq-eqb z p is)) i)))
      where
        or-here : (a b : Bool) → a ≡ true → (a || b) ≡ true
        or-here true b i = refl
        or-here false b i = never (cc)

        or-there : (a b : Bool) → b ≡ true → (a || b) ≡ true
        or-there true b i = refl
        or-there false b i = i

    walks-so : (n : ℕ) (seen : List ℕ) (here : Place) → Came seen here.at
        → along n (stops_of e) f seen (before_of here) here.at w ≡ placed (walk_in n l e f here)
    unfolding along walk_in space_of
    walks-so zero seen here h = refl
    walks-so (suc n) seen here h =
        let p = here.at in
        by_bool (eqb p not_process) (λ end. rw end)
        (λ inner. by_bool (was_at p seen)
        (λ back.
        let closed : Closed seen = λ q m. (let (z, on, i) = h q m in (z, on, ⊎_elim (λ was. was) (λ is. rw is back) i)) in
        let (z, on, i) = closed p back in
        rw (inner, back, on.on) (sym (ap placed (cycles n seen (behind p z) closed i))))
        (λ new.
        by-passed (pass_in l e p)
        (λ s. rw (inner, new) (step_so e p _ _ ∙ rw s))
        (λ q s.
        rw (inner, new)
        (step_so e p _ _ ∙ rw s (walks-so n (p ∷ seen) (behind p q) (came-on seen p q h (record { process = inner; on = s })))))
        (λ k s. rw (inner, new) (step_so e p _ _ ∙ rw s))))

-- the model's walk, over a memory of any length
pub walk-so : (u : Setup) (x : Rest) (r : Cpu) (m : List ℕ) (k f : ℕ) (e : Until)
    → walk (stops_of e) (whole (timing k f x) u r m)
    ≡ placed u (timing k f x) r m (walk_in (suc (memory_size u)) (fit (memory_size u) m) e f (from_front f))
unfolding walk was_at
walk-so u x r m k f e = walks-so u (timing k f x) r m e f (suc (memory_size u)) [] (from_front f) none_yet_lem
  where
    none_yet_lem : Came u (timing k f x) r m e f [] f
    none_yet_lem q n = never (cc)
