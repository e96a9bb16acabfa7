-- The processes in the timer queue are no more than there are words.
use Prim.Native.Nat.{ℕ, zero, suc, ◌≤◌, ◌<◌}
use native.Mathlib.Omega.{arith}
use mathlib.Core.Path.{◌≡◌, refl, ap, ◌∙◌}
use mathlib.Core.Logic.{◌≢◌}
use mathlib.Core.Bool.{false}
use mathlib.Core.List.{List, [], ◌∷◌, Memᴰ}
use lib.ListN.{length}
use Rattle.model.specs.Occam.{State}
use Rattle.model.proofs.Cases.{by_bool}
use Rattle.model.proofs.Quiet.Ways.{Mem}
use Rattle.model.proofs.Effects.Timers.{Once}
use Rattle.model.proofs.Effects.Seen.{tally, tally-le, tally-none, tally-more}
use Rattle.model.proofs.Invariant.Trees.{Tree}
use Rattle.model.proofs.Invariant.Leaves.{member}
use Rattle.model.proofs.Invariant.Kernel.{Loaded, S, root, size, Rest, sleeper, part_small, sits-at}
use Rattle.model.proofs.Invariant.Moving.{member-in, member-head, member-cons}

absent : (w : ℕ) (vs : List ℕ) → ((v : ℕ) → Memᴰ v vs → w ≢ v) → member w vs ≡ false
absent w vs d = by_bool (member w vs) (λ e. absurd (d w (member-in w vs e) refl)) (λ e. e)

none-there : (n : ℕ) → tally (λ i. member (suc i) []) n ≡ 0
unfolding member
none-there n = tally-none (λ i. member (suc i) []) n (λ i. refl)

counted : (n : ℕ) (ts : List ℕ) → ((v : ℕ) → Memᴰ v ts → (0 < v) × (v ≤ n)) → Once ts → tally (λ i. member (suc i) ts) n ≡ length ts
counted n [] h o = none-there n
counted n (zero ∷ ts) h o = absurd (omega (arith, (h 0 (Memᴰ.head refl)).0))
counted n (suc a ∷ ts) h o =
    tally-more (λ i. member (suc i) ts) (λ i. member (suc i) (suc a ∷ ts)) a n (omega (arith, (h (suc a) (Memᴰ.head refl)).1))
    (absent (suc a) ts o.0) (member-head (suc a) ts) (λ i d. member-cons (suc i) (suc a) ts (λ e. d (omega (arith, e))))
    ∙ ap suc (counted n ts (λ v m. h v (Memᴰ.tail m)) o.1)

-- numbers from 1 up to n, none of them twice
pub few-upto : (n : ℕ) (ts : List ℕ) → ((v : ℕ) → Memᴰ v ts → (0 < v) × (v ≤ n)) → Once ts → length ts ≤ n
few-upto n ts h o = omega (arith, tally-le (λ i. member (suc i) ts) n, counted n ts h o)

pub few-asleep : (L : Loaded) {st : State} {μ : Mem} {t : Tree (S L) (root L) st.process} {Out : List ℕ → Type 0} {ws : List ℕ}
    (h : Rest L st μ t Out ws) → length h.sleepers.asleep ≤ size L
few-asleep L h =
    few-upto (size L) h.sleepers.asleep
    (λ v m. elim (h.sleepers.each v m) [
      | sleeper k e a d ↦ (omega (arith, e, a), omega (arith, e, (sits-at L k).placed.low, part_small L k))
    ]) h.sleepers.once
