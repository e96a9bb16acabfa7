-- Laws of waking one sleeper.
use Prim.Native.Nat.{ℕ, ◌<◌}
use mathlib.Core.Path.{◌≡◌, refl, sym, ap, fun_ext, ◌∙◌}
use mathlib.Core.Bool.{cond}
use mathlib.Core.List.{List}
use borrow.Author.Tests.{ltb-true}
use lib.ListN.{length, get_or, set}
use lib.Dec.{ltb, eqb}
use Rattle.std.specs.Prelude.{Ok, Err}
use Rattle.std.proofs.Math.ListN.{get_or-append}
use Rattle.model.specs.Machine.{◌>>◌, ◌>>=◌, World, Act, next, return, registers, peek, poke, space_of, state_word, time_link_word}
use Rattle.model.specs.Machine.{time_word}
use Rattle.model.specs.Alternative.{waiting}
use Rattle.model.specs.Timer.{time_set, wake_one}
use Rattle.model.specs.declared.Cpu.{Cpu}
use Rattle.model.specs.declared.Setup.{Setup}
use Rattle.model.specs.declared.FaultKind.{FaultKind}
use Rattle.model.specs.declared.FaultKind.TheVariants.{Word}
use Rattle.model.proofs.Cases.{by_bool, never}
use Rattle.processor.specs.Seen.{Step, Peeked, Rest, world, told, looked, written}
use Rattle.processor.proofs.Laws.{set-whole, value-inside, fault-outside, next-next}
use Rattle.waking.specs.Wakes.{Woken, Runs, Roughly, ready_join, wake_state, wake_rest, named, StillRuns, WakesOne}
use Rattle.waking.specs.declared.wake.Awake.{Awake}
use Rattle.processor.proofs.Looks.{any_rest, any_setup, any_size}
use Rattle.waking.proofs.Roughly.{written-long}

-- the registers after waking one, whose link was n
abbrev pub woken_to : (n : ℕ) → Step → Woken
woken_to n (Ok r) = Ok (record { cpu = r; front = n })
woken_to n (Err k) = Err k

-- waking one, once its link is written, as the model has it
rest_one : (c p n : ℕ) → Act ℕ
rest_one c p n = do
  poke (time_word p) c
  s ← peek (state_word p)
  r ← registers
  cond (eqb s waiting) (ready_join p r) (return tt)
  return n

-- its link is read and written before that
wake_one-is : (c p : ℕ) (s : World) → wake_one c p s ≡ (do n ← peek (time_link_word p); poke (time_link_word p) time_set; rest_one c p n) s
unfolding wake_one rest_one space_of
wake_one-is c p s = refl

-- with the rest of it put together
rest_one-is : (c p n : ℕ) (s : World) → rest_one c p n s ≡ next (wake_rest c p s) (λ t. return n)
unfolding rest_one space_of
rest_one-is c p n s =
    let q = poke (time_word p) c s in
    let k = fun_ext (λ t. fun_ext (λ w. next-next (peek (state_word p) w) _ (λ t. return n))) in
    sym (next-next q (λ t. wake_state p) (λ t. return n) ∙ ap (λ (f : Unit {0} → Act ℕ). next q f) k)

-- registers and memory, and the link as the front
wokes : (n : ℕ) (x : Rest) (u : Setup) (s : Step) (m : List ℕ) → next (told x u s m) (λ t. return n) ≡ named x u (woken_to n s) m
wokes n x u (Ok r) m = refl
wokes n x u (Err k) m = refl

still-runs : (n : ℕ) (r : Cpu) (s : Step) → Runs r s → StillRuns r (woken_to n s)
still-runs n r (Ok q) e = e
still-runs n r (Err k) e = tt

module _ (c p : ℕ) {r : Cpu} {l m : List ℕ} {q : Peeked}
    (e : (q ≡ looked (time_link_word p) l) × (m ≡ written q (time_link_word p) time_set l)) where
  -- the link is inside
  pub one-woken :
      {n : ℕ} {o : List ℕ} (s : Step) → q ≡ Ok n → Roughly (wake_rest c p) r m s o → WakesOne c p r l (woken_to n s) o
  unfolding peek poke
  one-woken {n} {o} s g d =
      let a = time_link_word p in
      let b = value-inside (ltb a (length l)) (get_or l a 0) n (Word a) (sym e.0 ∙ g) in
      let k : m ≡ set l a time_set = rw g at e.1 in
      let i = ltb-true a (length l) b.0 in
      let w = sym (written-long l a time_set k) in
      let any = d (any_setup (length l)) (any_size (length l) ∙ w) in
      record {
        said = λ u h x.
            rw (wake_one-is, h, b.0, h, b.0, get_or-append l x.behind 0 a i, b.1, set-whole l x.behind a time_set b.0)
            (rw (← k, rest_one-is c p n (world x u r m), (d u (h ∙ w)).said x) (wokes n x u s o));
        long = any.long ∙ written-long l a time_set k;
        runs = still-runs n r s any.runs;
      }

  -- or outside
  pub one-refused : {k : FaultKind} → q ≡ Err k → WakesOne c p r l (Err k) m
  unfolding peek
  one-refused {k} g =
      let a = time_link_word p in
      let b = fault-outside (ltb a (length l)) (get_or l a 0) (Word a) k (sym e.0 ∙ g) in
      record { said = λ u h x. rw (wake_one-is, h, b.0, b.1); long = ap length (rw g at e.1); runs = tt }

-- a process that was woken has its link inside
pub one_inside : {c p : ℕ} {r : Cpu} {l m : List ℕ} {a : Awake} → WakesOne c p r l (Ok a) m → time_link_word p < length l
unfolding peek
one_inside {c} {p} {r} {l} {m} {a} d =
    let e = d.said (any_setup (length l)) (any_size (length l)) any_rest in
    by_bool (ltb (time_link_word p) (length l)) (λ t. ltb-true _ _ t)
    (λ t. never (cc (rw (wake_one-is, any_size (length l), t) at e)))
