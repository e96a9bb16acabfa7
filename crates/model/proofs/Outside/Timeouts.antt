-- An ALT leaves the timer queue at a run's beginning: its two words are others, and what is known of its disabling stays.
use Prim.Native.Nat.{ℕ, ◌+◌, ◌^◌, ◌≤◌, ◌<◌}
use native.Mathlib.Omega.{arith}
use mathlib.Core.Path.{◌≡◌, refl, sym, ap, ◌∙◌, subst}
use mathlib.Core.Logic.{◌≢◌, inl, inr, ⊎_elim}
use mathlib.Core.Bool.{cond}
use mathlib.Core.List.{List, Memᴰ}
use lib.Dec.{eqb}
use Rattle.model.specs.Word.{after}
use Rattle.model.specs.Syntax.{Site, Guards}
use Rattle.model.specs.Machine.{state_word, time_link_word, time_word}
use Rattle.model.specs.Alternative.{ready}
use Rattle.model.specs.Timer.{time_set}
use Rattle.model.specs.Occam.{Frame, at_alt, State, now}
use Rattle.model.proofs.Quiet.Ways.{Regs, Mem, upd, upd_other, way-stable}
use Rattle.model.proofs.Quiet.Setting.{Setting}
use Rattle.model.proofs.Quiet.Timing.{Times, Linked, linked-same, Passed, p-set}
use Rattle.model.proofs.Words.Parts.{Part}
use Rattle.model.proofs.Quiet.Continuations.{cont-low, cont-scoped}
use Rattle.model.proofs.Quiet.Marks.{AltCode, Disabling, AltPoint, pt-disable, pt-choose, AnyFound, f-first, f-later, finds-present}
use Rattle.model.proofs.Quiet.Marks.{finds-time}
use Rattle.model.proofs.Quiet.Onwards.{AltSpare, AltWay, AltGoes, alt-goes, marked-same}
use Rattle.model.proofs.Outside.Bystanders.{way-holds}

-- the two words of one that leaves are TimeSet and the clock, and all others are as they were
pub record Timeout (c w : ℕ) (μ ν : Mem) : Type 0 where
  pub was : Linked μ w
  pub link : ν (time_link_word w) ≡ time_set
  pub time : ν (time_word w) ≡ c
  pub others : (u : ℕ) → u ≢ time_link_word w → u ≢ time_word w → ν u ≡ μ u

-- no guard was to be found by its time before
found-then : (st : State) {c w : ℕ} {μ ν : Mem} {hs : Guards} → Timeout c w μ ν → AnyFound st μ w hs → AnyFound st ν w hs
found-then st out (f-first (finds-present h)) = f-first (finds-present h)
found-then st out (f-first (finds-time x y z)) = absurd (out.was.0 y)
found-then st out (f-later h) = f-later (found-then st out h)

module _ (S : Setting) (b : Part) (high : b.top < 2 ^ 32) (T : Times) (st : State) (vars chans : List Site) (c : ℕ)
    (clock : now st ≡ c) where
  -- the times that the clock is after are past
  pub passed-now : {gs hs : Guards} {ν : Mem} {w : ℕ} → ν (time_link_word w) ≡ time_set → ν (time_word w) ≡ c → Passed T st gs hs ν w
  passed-now e f = p-set e (λ u m a o. ap (λ y. after y u) (clock ∙ sym f) ∙ a)

  module _ {w : ℕ} (space : b.bottom + 5 ≤ w) {gs : Guards} {k : List Frame} {hi at : ℕ} {μ ν : Mem}
      (a : AltCode S b gs vars chans k hi at (w + 1)) (out : Timeout c w μ ν) where
    top : w + 1 ≤ b.top
    top = cont-low S b a.after

    pub base-then : ν w ≡ μ w
    base-then = out.others w (λ e. absurd (omega (arith, e, space, top, high))) (λ e. absurd (omega (arith, e, space, top, high)))

    pub state-then : ν (state_word w) ≡ μ (state_word w)
    state-then =
        out.others (state_word w) (λ e. absurd (omega (arith, e, space, top, high))) (λ e. absurd (omega (arith, e, space, top, high)))

    pub chan-then : (d : Site) → Memᴰ d chans → ν (S.word d) ≡ μ (S.word d)
    chan-then d m =
        let above = (cont-scoped S b a.after).chans-above d m in
        out.others (S.word d) (λ e. absurd (omega (arith, e, above, space, top, high)))
        (λ e. absurd (omega (arith, e, above, space, top, high)))

    -- what holds while it disables
    pub disabling-then : {hs : Guards} {choice : ℕ} → Disabling S b T st vars chans k gs hs choice μ w
        → Disabling S b T st vars chans k gs hs choice ν w
    disabling-then {hs} d =
        record {
          marks = marked-same S b st vars chans hs μ ν w chan-then d.marks;
          state = state-then ∙ d.state;
          chosen = ⊎_elim (λ x. let (t, p, h, z) = x in inl (t, p, h, base-then ∙ z))
              (λ x. inr (base-then ∙ x.0, found-then st out x.1)) d.chosen;
          times = λ z. passed-now out.link out.time;
          known = d.known;
        }

  -- the significant instructions of its disabling
  point-then : {w : ℕ} → b.bottom + 5 ≤ w → {gs : Guards} {k : List Frame} {up j : ℕ} {r : Regs} {μ ν : Mem} → r.w ≡ w
      → Timeout c w μ ν → AltPoint S b T st vars chans (at_alt gs k) up μ j r → AltPoint S b T st vars chans (at_alt gs k) up ν j r
  point-then space {μ = μ} {ν} e out (pt-disable a l t n d) =
      pt-disable a l t (disabling-then (omega (arith, space, e)) a (subst (λ v. Timeout c v μ ν) (sym e) out) n) d
  point-then space {μ = μ} {ν} e out (pt-choose a n) =
      pt-choose a (disabling-then (omega (arith, space, e)) a (subst (λ v. Timeout c v μ ν) (sym e) out) n)

  point-ready : {gs : Guards} {k : List Frame} {up j : ℕ} {r : Regs} {μ : Mem} → AltPoint S b T st vars chans (at_alt gs k) up μ j r
      → μ (state_word r.w) ≡ ready
  point-ready (pt-disable a l t n d) = n.state
  point-ready (pt-choose a n) = n.state

  -- its workspace is below the end of words
  module _ {w : ℕ} (space : b.bottom + 5 ≤ w) (low : w ≤ b.top) where
    -- a stored value is in none of its words
    spare-off : {u : ℕ} → AltSpare S b T st vars chans w u → (u ≢ time_link_word w) × (u ≢ time_word w) × (u ≢ state_word w)
    spare-off s = (
      (λ e. absurd (omega (arith, e, s.1, space, low, high))),
      (λ e. absurd (omega (arith, e, s.1, space, low, high))),
      (λ e. absurd (omega (arith, e, s.1, space, low, high))),
    )

    both_out : (μ ν : Mem) (u z : ℕ) → AltSpare S b T st vars chans w u → Timeout c w μ ν → Timeout c w (upd μ u z) (upd ν u z)
    both_out μ ν u z s out =
        let (a, d, f) = spare-off s in
        let link = upd_other μ u z (time_link_word w) (λ e. a (sym e)) in
        record {
          was = linked-same T st μ (upd μ u z) w link out.was;
          link = upd_other ν u z (time_link_word w) (λ e. a (sym e)) ∙ out.link;
          time = upd_other ν u z (time_word w) (λ e. d (sym e)) ∙ out.time;
          others = λ x e g. ap (λ y. cond (eqb x u) z y) (out.others x e g);
        }

    -- one that has the processor goes on
    pub goes_then : {gs : Guards} {k : List Frame} {hi j : ℕ} {r : Regs} {μ ν : Mem} → Timeout c w μ ν
        → AltGoes S b T st vars chans (at_alt gs k) w hi μ j r → AltGoes S b T st vars chans (at_alt gs k) w hi ν j r
    goes_then {gs} {k} {hi} {j} {r} {μ} {ν} out (alt-goes v tied way) =
        alt-goes v tied (by v tied way)
      where
        by : (v : ℕ) → v ≡ w → AltWay S b T st vars chans (at_alt gs k) v hi μ j r → AltWay S b T st vars chans (at_alt gs k) v hi ν j r
        by v e way =
            subst (λ z. AltWay S b T st vars chans (at_alt gs k) z hi ν j r) (sym e)
            (way-stable S.xs S.off S.word (Timeout c w) both_out
            (λ μ ν u s o. let (a, d, f) = spare-off s in o.others u a d) (λ x m. refl) (λ v z. absurd z)
            (λ h μ ν j r o p. (point-then space p.1 o p.0, p.1)) out
            (subst (λ z. AltWay S b T st vars chans (at_alt gs k) z hi μ j r) e way))

    -- it is Ready
    pub goes-ready : {gs : Guards} {k : List Frame} {hi j : ℕ} {r : Regs} {μ : Mem}
        → AltGoes S b T st vars chans (at_alt gs k) w hi μ j r → μ (state_word w) ≡ ready
    goes-ready {gs} {k} {hi} {j} {r} {μ} (alt-goes v tied way) =
        way-holds S (λ ν. ν (state_word w) ≡ ready)
        (λ ν u z s e. let (a, d, f) = spare-off s in sym (upd_other ν u z (state_word w) (λ e. f (sym e))) ∙ e)
        (λ h ν j r p. ap (λ y. ν (state_word y)) (sym p.1) ∙ point-ready p.0) (λ ν z. absurd z)
        (subst (λ z. AltWay S b T st vars chans (at_alt gs k) z hi μ j r) tied way)
