-- The segments of a run, moment by moment, and the bytes that may be left until its next step.
use Prim.Native.Nat.{ℕ, ◌≤◌, ◌<◌}
use native.Mathlib.Omega.{arith}
use native.Mathlib.Decide.{ℕ_discrete}
use mathlib.Core.Path.{◌≡◌, sym, ◌∙◌, subst}
use mathlib.Core.Logic.{◌⊎◌, inl, inr, ⊎_elim}
use mathlib.Core.Bool.{true, false}
use mathlib.Core.List.{List, [], ◌∷◌, ◌++◌, append_assoc}
use lib.ListN.{length}
use Rattle.model.specs.Syntax.{Program}
use Rattle.model.specs.Occam.{State}
use Rattle.model.specs.Demand.{Segment, reaches, steps, Follows, Matches, per_instruction, total, Progress}
use Rattle.model.specs.History.{Moment}

-- a row of moments with their segments, and the bytes that may be left until the next step: fewer with each instruction that brings none,
-- and no more after another moment
pub data Chain (p : Program) (most : ℕ) : List Moment → State → List Segment → State → ℕ → ℕ → Type 0 where
  chain-nil : {st : State} {n : ℕ} → Chain p most [] st [] st n n
  chain-byte : {m : Moment} {ms : List Moment} {st st₁ st₂ : State} {g : Segment} {gs : List Segment} {n k l : ℕ} → Follows p m st g
      → reaches st g ≡ st₁ → m.instruction ≡ true → k ≤ most → (k < n) ⊎ (0 < steps g) → Chain p most ms st₁ gs st₂ k l
      → Chain p most (m ∷ ms) st (g ∷ gs) st₂ n l
  chain-other : {m : Moment} {ms : List Moment} {st st₁ st₂ : State} {g : Segment} {gs : List Segment} {n k l : ℕ} → Follows p m st g
      → reaches st g ≡ st₁ → m.instruction ≡ false → k ≤ n → Chain p most ms st₁ gs st₂ k l → Chain p most (m ∷ ms) st (g ∷ gs) st₂ n l

module _ {p : Program} {most : ℕ} where
  pub chain-append : {ms ms' : List Moment} {st st₁ st₂ : State} {gs gs' : List Segment} {n k l : ℕ} → Chain p most ms st gs st₁ n k
      → Chain p most ms' st₁ gs' st₂ k l → Chain p most (ms ++ ms') st (gs ++ gs') st₂ n l
  chain-append chain-nil d = d
  chain-append (chain-byte f e i h j c) d = chain-byte f e i h j (chain-append c d)
  chain-append (chain-other f e i h c) d = chain-other f e i h (chain-append c d)

  pub chain-matches : {ms : List Moment} {st st' : State} {gs : List Segment} {n l : ℕ} → Chain p most ms st gs st' n l → Matches p ms st gs
  chain-matches chain-nil = tt
  chain-matches (chain-byte {ms} {gs} f e i h j c) = (f, subst (λ z. Matches p ms z gs) (sym e) (chain-matches c))
  chain-matches (chain-other {ms} {gs} f e i h c) = (f, subst (λ z. Matches p ms z gs) (sym e) (chain-matches c))

-- counts of steps that fall so
data Falls (most : ℕ) : ℕ → List ℕ → Type 0 where
  f-nil : {n : ℕ} → Falls most n []
  f-cons : {n k c : ℕ} {l : List ℕ} → k ≤ most → (k < n) ⊎ (0 < c) → Falls most k l → Falls most n (c ∷ l)

falls-more : {most n k : ℕ} {l : List ℕ} → k ≤ n → Falls most k l → Falls most n l
falls-more h f-nil = f-nil
falls-more {n} {k} h (f-cons {k = j} {c} b d f) =
    let less : (j < n) ⊎ (0 < c) = ⊎_elim (λ (a : j < k). inl (omega arith)) (λ a. inr a) d in f-cons b less f

chain-falls : {p : Program} {most : ℕ} {ms : List Moment} {st st' : State} {gs : List Segment} {n l : ℕ} → Chain p most ms st gs st' n l
    → Falls most n (per_instruction ms gs)
chain-falls chain-nil = f-nil
chain-falls (chain-byte f e i h j c) = rw i (f-cons h j (chain-falls c))
chain-falls (chain-other f e i h c) = rw i (falls-more h (chain-falls c))

data Later (most : ℕ) (l : List ℕ) : Type 0 where
  later : {n : ℕ} → n ≤ most → Falls most n l → Later most l

falls-later : {most n : ℕ} (before : List ℕ) {l : List ℕ} → n ≤ most → Falls most n (before ++ l) → Later most l
falls-later [] h f = later h f
falls-later (c ∷ before) h (f-cons k j f) = falls-later before k f

falls-window : {most n : ℕ} (window after : List ℕ) → Falls most n (window ++ after) → total window ≡ 0 → length window ≤ n
falls-window [] after f z = omega arith
falls-window {n} (c ∷ window) after (f-cons {k} h j f) z =
    let shorter : length window ≤ k = falls-window window after f (omega arith) in
    ⊎_elim (λ (a : k < n). omega arith) (λ (a : 0 < c). absurd (omega arith)) j

falls-progress : {most n : ℕ} {l : List ℕ} (bound : ℕ) → most < bound → n ≤ most → Falls most n l → Progress bound l
falls-progress {most} bound h k f before window after e size =
    elim (falls-later before k (rw (e ∙ append_assoc before window after) at f))
    [ later {n = m} a g ↦ by a g (ℕ_discrete (total window) 0) ]
  where
    by : {m : ℕ} → m ≤ most → Falls most m (window ++ after) → Dec (total window ≡ 0) → 0 < total window
    by a g (yes z) = absurd (omega (arith, falls-window window after g z))
    by a g (no z) = omega arith

-- any more instructions than may be left hold a step
pub chain-progress : {p : Program} {most : ℕ} {ms : List Moment} {st st' : State} {gs : List Segment} {n l : ℕ} (bound : ℕ)
    → most < bound → n ≤ most
    → Chain p most ms st gs st' n l → Progress bound (per_instruction ms gs)
chain-progress bound h k c = falls-progress bound h k (chain-falls c)
