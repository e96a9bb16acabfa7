-- A run's beginning under the condition on times: those whose time is still to come are watched on.
use Prim.Native.Nat.{ℕ, ◌^◌, ◌<◌}
use mathlib.Core.Path.{◌≡◌, ap, ◌∙◌, subst, refl}
use mathlib.Core.Bool.{true, false, Bool}
use mathlib.Core.List.Memᴰ
use mathlib.Core.List.{List, [], ◌∷◌, Memᴰ}
use mathlib.Core.Option.{Option, none, some}
use Rattle.model.specs.Word.{after}
use Rattle.model.specs.Machine.{World, done}
use Rattle.model.specs.Run.{beginning}
use Rattle.model.specs.Occam.{State, Communication, ticks}
use Rattle.model.specs.Demand.{Segment, Watch, all_near, unpassed}
use Rattle.model.proofs.Invariant.Kernel.{Loaded}
use Rattle.model.proofs.Invariant.Traces.{Trace, trace-clock}
use Rattle.model.proofs.Invariant.Running.{Inv}
use Rattle.model.proofs.Invariant.Finish.{inv-timed}
use Rattle.model.proofs.Outside.Beginnings.{Begun, begun, run-begins}
use Rattle.model.proofs.Demand.Watches.{watch, near-in, unpassed-in, Watched, on, timeless, ahead_in, watching, no_times, to-timeless}
use Rattle.model.proofs.Words.Times.{Near}

-- the clock is the run's then
pub begun-clock : (L : Loaded) {c n : ℕ} {u : World} {st st' : State} {g : Segment} {cs : List Communication}
    → Trace st g st' cs (ticks c ∷ []) → Inv L u st' n → u.machine.timer.clock ≡ c
begun-clock L ms inv = (inv-timed L inv).clock-read ∙ ap (λ (k : Option ℕ). elim k [ none ↦ 0 | some c ↦ c ]) (trace-clock ms)

module _ (L : Loaded) {xs : List Watch} (c : ℕ) (word : c < 2 ^ 32) {s : World} {st : State} {n : ℕ}
    (later : (t : ℕ) → st.clock ≡ some t → after t c ≡ false) (fresh : st.clock ≡ none → xs ≡ []) (inv : Inv (on L xs) s st n)
    (near : (u : World) → beginning c s ≡ done tt u → all_near u.machine.timer.clock xs ≡ true) where
  -- it has no fault, whatever times are waited for
  begins-plain : (u : World) × (beginning c s ≡ done tt u) × (u.machine.timer.clock ≡ c)
  begins-plain =
      elim (run-begins (timeless L) (λ w t c. Unit {0}) no_times (λ o. absurd o) (λ o. absurd o) (λ o. o) c word later (λ o. absurd o)
      (λ o. absurd o) (λ o. absurd o) (λ w t k f. tt) (λ w t k. tt) (to-timeless L inv)) [
        | begun u g d talk ms inv' le ↦ (u, d, begun-clock (timeless L) ms inv')
      ]

  all_near_lem : all_near c xs ≡ true
  all_near_lem = let (u, d, e) = begins-plain in subst (λ z. all_near z xs ≡ true) e (near u d)

  near-all : (w t : ℕ) (g : Bool) → Memᴰ (watch w t g) xs → Near c t
  near-all w t g m = near-in c xs word all_near_lem (watch w t g) m

  -- times of guards are watched once a clock was given
  pub begins-on : Begun (on L (unpassed c xs)) c s st n
  begins-on =
      run-begins (on L xs) (Watched (unpassed c xs)) (watching (unpassed c xs)) (λ o w t d k. k.near) (λ o w t d k. k.near)
      (λ o. o) c word
      later (λ o w t k z. Memᴰ.not-nil (subst (Memᴰ (watch w t true)) (fresh z) k.noted))
      (λ o w t k. near-all w t k.guard k.noted) (λ o w t k. near-all w t true k.noted)
      (λ w t k ahead. record {
        guard = k.guard;
        noted = ahead_in c xs w t k.guard k.noted (ahead tt);
        near = near-all w t k.guard k.noted;
        ahead = ahead tt;
      })
      (λ w t k. record { noted = unpassed-in c xs (watch w t true) k.noted refl; near = near-all w t true k.noted }) inv
