-- The timer queue as a list of workspaces: from its front each process links to the next by its time link word, in the order of their
-- times.
use Prim.Native.Nat.{ℕ, ◌≤◌}
use mathlib.Core.Path.{◌≡◌, refl, ap, ◌∙◌}
use mathlib.Core.Logic.{◌≢◌}
use mathlib.Core.List.{List, [], ◌∷◌, Memᴰ}
use native.Mathlib.Omega.{arith}
use Rattle.model.specs.Word.{not_process}
use Rattle.model.specs.Machine.{time_link_word, time_word, name_of}
use Rattle.model.proofs.Words.Times.{distance}
use Rattle.model.proofs.Quiet.Ways.{Mem}

-- the word a names the first of some workspaces, and each the next
pub data Chain (μ : Mem) : (a : ℕ) → List ℕ → Type 0 where
  ends : {a : ℕ} → μ a ≡ not_process → Chain μ a []
  next : {a w : ℕ} {ts : List ℕ} → μ a ≡ name_of w → Chain μ (time_link_word w) ts → Chain μ a (w ∷ ts)

-- their times rise, seen from a clock word
abbrev pub Sorted : (clock : ℕ) → Mem → List ℕ → Type 0
Sorted c μ [] = Unit {0}
Sorted c μ (w ∷ ts) = ((v : ℕ) → Memᴰ v ts → distance c (μ (time_word w)) ≤ distance c (μ (time_word v))) × Sorted c μ ts

-- none is there twice
abbrev pub Once : List ℕ → Type 0
Once [] = Unit {0}
Once (w ∷ ts) = ((v : ℕ) → Memᴰ v ts → w ≢ v) × Once ts

-- a memory that agrees on the words, from where its word a leads
pub chain-stable : {μ ν : Mem} {a b : ℕ} {ts : List ℕ} → ν a ≡ μ b → ((w : ℕ) → Memᴰ w ts → ν (time_link_word w) ≡ μ (time_link_word w))
    → Chain μ b ts → Chain ν a ts
chain-stable {a} e h (ends z) = ends (e ∙ z)
chain-stable {a} e h (next {w} z c) = next (e ∙ z) (chain-stable {a = time_link_word w} (h w (Memᴰ.head refl)) (λ v m. h v (Memᴰ.tail m)) c)

pub sorted-stable : (μ ν : Mem) (c : ℕ) (ts : List ℕ) → ((w : ℕ) → Memᴰ w ts → ν (time_word w) ≡ μ (time_word w)) → Sorted c μ ts
    → Sorted c ν ts
sorted-stable μ ν c [] h s = tt
sorted-stable μ ν c (w ∷ ts) h s = (
  (λ v m.
      omega (
        arith,
        s.0 v m,
        ap (distance c) (h w (Memᴰ.head refl)),
        ap (distance c) (h v (Memᴰ.tail m)),
      )),
  sorted-stable μ ν c ts (λ v m. h v (Memᴰ.tail m)) s.1,
)
