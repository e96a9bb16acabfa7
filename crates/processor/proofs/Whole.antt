-- Which words of a lent memory, of any length, a machine has, and what a look into the whole of it finds.
use Prim.Native.Nat.{ℕ, zero, suc, ◌<◌}
use native.Mathlib.Omega.{arith}
use mathlib.Core.Path.{◌≡◌, refl, ap}
use mathlib.Core.Bool.{Bool, true, false, cond}
use mathlib.Core.List.{List, [], ◌∷◌}
use borrow.Author.Tests.{ltb-true}
use Rattle.std.specs.Prelude.{◌++◌, Ok, Err, Result as Answer}
use Rattle.std.proofs.lemmas.List.{append-nil}
use lib.ListN.{length, get_or}
use lib.Dec.{ltb}
use Rattle.model.specs.Machine.{World, Result, done, faults, memory_size, peek}
use Rattle.model.specs.declared.Cpu.{Cpu}
use Rattle.model.specs.declared.Setup.{Setup}
use Rattle.model.specs.declared.FaultKind.{FaultKind}
use Rattle.model.specs.declared.FaultKind.TheVariants.{Word}
use Rattle.processor.specs.Seen.{Rest, whole, looked}

-- the words of a machine that has so many: a memory's first ones, and 0 behind its end
unfoldable pub fit : (size : ℕ) → List ℕ → List ℕ
fit zero l = []
fit (suc n) [] = 0 ∷ fit n []
fit (suc n) (v ∷ l) = v ∷ fit n l

fit-length : (n : ℕ) (l : List ℕ) → length (fit n l) ≡ n
unfolding fit
fit-length zero l = refl
fit-length (suc n) [] = ap suc (fit-length n [])
fit-length (suc n) (v ∷ l) = ap suc (fit-length n l)

-- a word inside is the memory's
fit-get : (n : ℕ) (l : List ℕ) (a : ℕ) → a < n → get_or (fit n l) a 0 ≡ get_or l a 0
unfolding fit
fit-get zero l a h = omega arith
fit-get (suc n) [] zero h = refl
fit-get (suc n) [] (suc a) h = fit-get n [] a (omega arith)
fit-get (suc n) (v ∷ l) zero h = refl
fit-get (suc n) (v ∷ l) (suc a) h = fit-get n l a (omega arith)

-- of a memory that begins with these words they are the machine's
pub fit-front : (l b : List ℕ) → fit (length l) (l ++ b) ≡ l
unfolding fit
fit-front [] b = refl
fit-front (v ∷ l) b = ap (λ m. v ∷ m) (fit-front l b)

pub fit-same : (l : List ℕ) → fit (length l) l ≡ l
fit-same l = rw (append-nil l) at (fit-front l [])

-- a word that was looked at, of a machine of so many
pub looked-fit : (n a : ℕ) (l : List ℕ) → looked a (fit n l) ≡ cond (ltb a n) (Ok (get_or l a 0)) (Err (Word a))
looked-fit n a l = rw (fit-length n l) (by (ltb a n) refl)
  where
    by : (t : Bool) → ltb a n ≡ t → cond t (Ok (get_or (fit n l) a 0)) (Err (Word a)) ≡ cond t (Ok (get_or l a 0)) (Err (Word a))
    by true e = ap Ok (fit-get n l a (ltb-true _ _ e))
    by false e = refl

-- an answer that changes nothing, as the model's result
abbrev pub seen : {A : Type 0} → World → Answer A FaultKind → Result A
seen w (Ok a) = done a w
seen w (Err k) = faults k

pub peek-whole : (x : Rest) (u : Setup) (r : Cpu) (l : List ℕ) (a : ℕ)
    → peek a (whole x u r l) ≡ seen (whole x u r l) (looked a (fit (memory_size u) l))
unfolding peek
peek-whole x u r l a = rw (looked-fit (memory_size u) a l) (by (ltb a (memory_size u)))
  where
    by : (t : Bool)
        → cond t (done (get_or l a 0) (whole x u r l)) (faults (Word a))
        ≡ seen (whole x u r l) (cond t (Ok (get_or l a 0)) (Err (Word a)))
    by true = refl
    by false = refl
