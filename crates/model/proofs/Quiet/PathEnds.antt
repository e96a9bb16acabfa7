-- How far a path goes, and what kind of process it leads.
use Prim.Native.Nat.{ℕ, suc, ◌≤◌, ◌<◌}
use native.Mathlib.Omega.{arith}
use mathlib.Core.Path.{◌≡◌, refl}
use mathlib.Core.List.{List}
use lib.ListN.{length}
use Rattle.model.specs.Syntax.{Site, Stmt, Stmts, Guards}
use Rattle.model.specs.Occam.{Store, Frame, Process, before, at_alt, finished, State}
use Rattle.model.proofs.Quiet.Ways.{Regs, Mem, Way, arrived, through, quiet, loads, stores, reloads, jumps, falls}
use Rattle.model.proofs.Quiet.Setting.{Setting}
use Rattle.model.proofs.Quiet.CodeParts.{inside, up}
use Rattle.model.proofs.Words.Parts.{Part}
use Rattle.model.proofs.Quiet.Onwards.{AltAt, AltGoes, alt-goes}
use Rattle.model.proofs.Quiet.Marks.{Enables, e-input, e-skip, Disables, d-input, d-skip, AltPoint, pt-enable, pt-wait, pt-disable}
use Rattle.model.proofs.Quiet.Marks.{e-time, d-time, pt-choose, Point, pt-stop, pt-assign, pt-var, pt-chan, pt-taken, pt-none}
use Rattle.model.proofs.Quiet.Marks.{pt-while, pt-in, pt-out, pt-par-place, pt-par-count, pt-end, pt-alt, StartPoint, pt-read}
use Rattle.model.proofs.Quiet.Marks.{pt-store, pt-wait-for}
use Rattle.model.proofs.Quiet.Timing.{Times}

-- a process that begins a statement, is at an ALT, or has finished
pub data Moving : Process → Type 0 where
  begins : {s : Stmt} {k : List Frame} → Moving (before s k)
  alters : {gs : Guards} {k : List Frame} → Moving (at_alt gs k)
  ends : Moving finished

module _ (S : Setting) where
  -- significant instructions stand in the code
  module _ {P : ℕ → Mem → ℕ → Regs → Type 0} {E : Type 0} {σ : Store} {R : Site → Type 0} {Spare C : ℕ → Type 0}
      (in_p : (h : ℕ) (μ : Mem) (i : ℕ) (r : Regs) → P h μ i r → i < length S.xs) where
    -- paths reach no byte past their bound
    pub way-bound : {hi : ℕ} {μ : Mem} {i : ℕ} {r : Regs} → Way S.xs S.off S.word P E σ R Spare C hi μ i r → S.off i ≤ hi
    way-bound {i = i} (arrived p b) = omega (arith, S.rises i (suc i) (omega arith) (in_p _ _ _ _ p))
    way-bound (through e b f) = b
    way-bound (quiet g at q v) = omega (arith, up S at, way-bound v)
    way-bound (loads x at a m v) = omega (arith, up S at, way-bound v)
    way-bound (stores v at a m w) = omega (arith, up S at, way-bound w)
    way-bound (reloads v at a m w) = omega (arith, up S at, way-bound w)
    way-bound (jumps {μ} {r} at i c e v) = omega (arith, up S at, way-bound (v μ r refl))
    way-bound (falls at i a e v) = omega (arith, up S at, way-bound v)

    -- an instruction on the path ends before the path's bound
    pub way-far : {hi : ℕ} {μ : Mem} {i : ℕ} {r : Regs} → i < length S.xs → Way S.xs S.off S.word P E σ R Spare C hi μ i r
        → S.off (suc i) ≤ hi
    way-far z (arrived p b) = b
    way-far z (through e b f) = absurd (omega arith)
    way-far z (quiet g at q v) = way-bound v
    way-far z (loads x at a m v) = way-bound v
    way-far z (stores v at a m w) = way-bound w
    way-far z (reloads v at a m w) = way-bound w
    way-far z (jumps {μ} {r} at i c e v) = omega (arith, way-bound (v μ r refl))
    way-far z (falls at i a e v) = omega (arith, way-bound v)

    -- at the code's end only what holds there is found
    pub way_end : {hi : ℕ} {μ : Mem} {i : ℕ} {r : Regs} → i ≡ length S.xs → Way S.xs S.off S.word P E σ R Spare C hi μ i r → E
    way_end z (arrived p b) = absurd (omega (arith, in_p _ _ _ _ p))
    way_end z (through e b f) = f
    way_end z (quiet g at q v) = absurd (omega (arith, inside S at))
    way_end z (loads x at a m v) = absurd (omega (arith, inside S at))
    way_end z (stores v at a m w) = absurd (omega (arith, inside S at))
    way_end z (reloads v at a m w) = absurd (omega (arith, inside S at))
    way_end z (jumps at i c e v) = absurd (omega (arith, inside S at))
    way_end z (falls at i a e v) = absurd (omega (arith, inside S at))

    -- what holds at every significant instruction and at the end holds on the path
    way-kind : (K : Type 0) → ((h : ℕ) (μ : Mem) (i : ℕ) (r : Regs) → P h μ i r → K) → (E → K) → {hi : ℕ} {μ : Mem} {i : ℕ} {r : Regs}
        → Way S.xs S.off S.word P E σ R Spare C hi μ i r → K
    way-kind K f g (arrived p b) = f _ _ _ _ p
    way-kind K f g (through e b h) = g h
    way-kind K f g (quiet h at q v) = way-kind K f g v
    way-kind K f g (loads x at a m v) = way-kind K f g v
    way-kind K f g (stores v at a m w) = way-kind K f g w
    way-kind K f g (reloads v at a m w) = way-kind K f g w
    way-kind K f g (jumps {μ} {r} at i c e v) = way-kind K f g (v μ r refl)
    way-kind K f g (falls at i a e v) = way-kind K f g v

  module _ (a : Part) where
    pub point-in : {σ : Store} {vars chans : List Site} {q : Process} (h : ℕ) (μ : Mem) (i : ℕ) (r : Regs)
        → Point S a σ vars chans q h μ i r → i < length S.xs
    point-in h μ i r (pt-stop x c) = inside S x
    point-in h μ i r (pt-assign x w f v small c n) = inside S x
    point-in h μ i r (pt-var op f l j e z m) = rw e (inside S (op.inits _ j).1)
    point-in h μ i r (pt-chan op f l j e z m) = rw e (inside S (op.inits _ j).1)
    point-in h μ i r (pt-taken d x v fa e g f c n) = inside S x
    point-in h μ i r (pt-none x c fa e) = inside S x
    point-in h μ i r (pt-while x l fe v g f c n d m) = inside S x
    point-in h μ i r (pt-in x v c y f k n) = inside S x
    point-in h μ i r (pt-out x v small c f y k n) = inside S x
    point-in h μ i r (pt-par-place x y z c v l) = inside S x
    point-in h μ i r (pt-par-count x v c m) = inside S x
    point-in h μ i r (pt-end e x v w) = inside S x
    point-in h μ i r (pt-wait-for x v small f c n) = inside S x
    point-in h μ i r (pt-read x y w f c l n) = inside S x
    point-in h μ i r (pt-store x w f v small c n) = inside S x
    point-in h μ i r (pt-alt c l) = inside S c.begins

    enables-in : {st : State} {vars chans : List Site} {gs : Guards} {i j : ℕ} {r : Regs} → Enables S a st vars chans gs i r j
        → i < length S.xs
    enables-in (e-input x v c g) = inside S x
    enables-in (e-skip x v g) = inside S x
    enables-in (e-time x v u z g) = inside S x

    disables-in : {st : State} {vars chans : List Site} {gs : Guards} {c b i j : ℕ} {r : Regs} → Disables S a st vars chans gs c b i r j
        → i < length S.xs
    disables-in (d-input x u v c g) = inside S x
    disables-in (d-skip x u v g) = inside S x
    disables-in (d-time x u v t g) = inside S x

    alt-point-in : {T : Times} {st : State} {vars chans : List Site} {q : Process} {h : ℕ} {μ : Mem} {i : ℕ} {r : Regs}
        → AltPoint S a T st vars chans q h μ i r → i < length S.xs
    alt-point-in (pt-enable c l n e) = enables-in e
    alt-point-in (pt-wait c n) = inside S c.waits
    alt-point-in (pt-disable c l t n d) = disables-in d
    alt-point-in (pt-choose c n) = inside S c.ends

    alt-in : {T : Times} {st : State} {vars chans : List Site} {q : Process} {w : ℕ} (h : ℕ) (μ : Mem) (i : ℕ) (r : Regs)
        → AltAt S a T st vars chans q w h μ i r → i < length S.xs
    alt-in h μ i r p = alt-point-in p.0

    -- the same for a path inside an ALT
    module _ {T : Times} {st : State} {vars chans : List Site} {q : Process} {known hi : ℕ} {μ : Mem} {i : ℕ} {r : Regs} where
      pub alt-bound : AltGoes S a T st vars chans q known hi μ i r → S.off i ≤ hi
      alt-bound (alt-goes w tied way) = way-bound alt-in way

      pub alt-far : i < length S.xs → AltGoes S a T st vars chans q known hi μ i r → S.off (suc i) ≤ hi
      alt-far z (alt-goes w tied way) = way-far alt-in z way

      pub alt-end : i ≡ length S.xs → AltGoes S a T st vars chans q known hi μ i r → ⊥
      alt-end z (alt-goes w tied way) = way_end alt-in z way

      pub alt-kind : (K : Type 0) → ((h : ℕ) (μ : Mem) (i : ℕ) (r : Regs) → AltPoint S a T st vars chans q h μ i r → K)
          → AltGoes S a T st vars chans q known hi μ i r → K
      alt-kind K f (alt-goes w tied way) = way-kind alt-in K (λ h μ i r p. f h μ i r p.0) (λ z. absurd z) way

    pub alt-moving : {T : Times} {st : State} {vars chans : List Site} {q : Process} (h : ℕ) (μ : Mem) (i : ℕ) (r : Regs)
        → AltPoint S a T st vars chans q h μ i r → Moving q
    alt-moving h μ i r (pt-enable c l n e) = begins
    alt-moving h μ i r (pt-wait c n) = begins
    alt-moving h μ i r (pt-disable c l t n d) = alters
    alt-moving h μ i r (pt-choose c n) = alters

  pub start-in : {s : Stmt} {ss : Stmts} {d b first w : ℕ} (h : ℕ) (μ : Mem) (i : ℕ) (r : Regs) → StartPoint S s ss d b first w i r
      → i < length S.xs
  start-in h μ i r p = inside S p.starts

  -- a path begins in the code, or at its end
  pub way-inside : {P : ℕ → Mem → ℕ → Regs → Type 0} {E : Type 0} {σ : Store} {R : Site → Type 0} {Spare C : ℕ → Type 0}
      → ((h : ℕ) (μ : Mem) (i : ℕ) (r : Regs) → P h μ i r → i < length S.xs) → {hi : ℕ} {μ : Mem} {i : ℕ} {r : Regs}
      → Way S.xs S.off S.word P E σ R Spare C hi μ i r → i ≤ length S.xs
  way-inside in_p (arrived p b) = omega (arith, in_p _ _ _ _ p)
  way-inside in_p (through e b f) = omega arith
  way-inside in_p (quiet g at q v) = omega (arith, inside S at)
  way-inside in_p (loads x at a m v) = omega (arith, inside S at)
  way-inside in_p (stores v at a m w) = omega (arith, inside S at)
  way-inside in_p (reloads v at a m w) = omega (arith, inside S at)
  way-inside in_p (jumps at i c e v) = omega (arith, inside S at)
  way-inside in_p (falls at i a e v) = omega (arith, inside S at)
