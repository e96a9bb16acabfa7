-- An ALT that has the processor is told of an offer on a channel that it has marked.
use Prim.Native.Nat.{ℕ, ◌+◌, ◌≤◌, ◌<◌}
use native.Mathlib.Omega.{arith}
use mathlib.Core.Path.{◌≡◌, refl, sym, ap, ◌∙◌, subst}
use mathlib.Core.Logic.{◌≢◌, ◌⊎◌, inl, inr, ⊎_elim}
use mathlib.Core.Bool.{cond}
use lib.Dec.{eqb}
use mathlib.Core.List.{List, Memᴰ}
use Rattle.model.specs.Limits.{word_limit}
use Rattle.model.specs.Syntax.{Site, input_of, Guards}
use Rattle.model.specs.Machine.{state_word, time_link_word, time_word, name_of}
use Rattle.model.specs.Alternative.{enabling, ready}
use Rattle.model.specs.Occam.{Frame, Process, State, Sender}
use Rattle.model.proofs.Quiet.Names.{name_back, name-injective}
use Rattle.model.proofs.Quiet.Ways.{upd_other, upd, Regs, Mem, way-stable}
use Rattle.model.proofs.Quiet.Continuations.{Placed, cont-low, cont-placed}
use Rattle.model.proofs.Words.Parts.{Part}
use Rattle.model.proofs.Quiet.Marks.{Own, AltCode, Marked, Enabling, Disabling, AltPoint, pt-enable, pt-wait, pt-disable, pt-choose}
use Rattle.model.proofs.Quiet.Onwards.{AltSpare, AltWay, marked-same, rest-fine, guarded-present}
use Rattle.model.proofs.Invariant.Trees.{Info}
use Rattle.model.proofs.Invariant.Kernel.{Loaded, S}
use Rattle.model.proofs.Invariant.Writes.{changed}
use Rattle.model.proofs.Steps.Meets.{chan-above}
use Rattle.model.proofs.Steps.Outword.{SameTimes, found-more, picks_more, bringing-more, passed-more}
use Rattle.model.proofs.Outside.Bystanders.{way-holds, enables-stays, disables-stays}
use Rattle.model.proofs.Outside.Offerings.{with_offer, more-senders, offer-sends}

-- an ALT that has the processor and has marked the channel
module _ (L : Loaded) (b : Part) (i : Info) (st : State) where
  -- its words at and below its name, and its state
  pub record Stood (μ : Mem) (p : ℕ) : Type 0 where
    pub low : b.bottom + 3 ≤ p
    pub placed : Placed (S L) b (p + 1) i.vars i.chans
    pub state : (μ (state_word p) ≡ enabling) ⊎ (μ (state_word p) ≡ ready)

  module _ (c : Site) (m : Memᴰ c i.chans) where
    -- it stands at w, and the channel holds its name
    pub record StoodAt (w : ℕ) (μ : Mem) : Type 0 where
      pub holds : μ ((S L).word c) ≡ name_of w
      pub stood : Stood μ w

    stood-at : {gs : Guards} {l : List Frame} {hi at : ℕ} {μ : Mem} (w : ℕ) → AltCode (S L) b gs i.vars i.chans l hi at (w + 1)
        → μ ((S L).word c) ≡ name_of w
        → (μ (state_word w) ≡ enabling) ⊎ (μ (state_word w) ≡ ready) → StoodAt w μ
    stood-at w a e f =
        record { holds = e; stood = record { low = omega (arith, a.fine.0); placed = cont-placed (S L) b a.after; state = f } }

    point-stood : {q : Process} {μ : Mem} (up j : ℕ) (r : Regs) → Own b (μ ((S L).word c))
        → AltPoint (S L) b L.times st i.vars i.chans q up μ j r → StoodAt r.w μ
    point-stood up j r o (pt-enable a l n e) =
        stood-at r.w a (n.marks c m o).0 (⊎_elim (λ z. inl z.0) (λ z. inr z.0) n.state)
    point-stood up j r o (pt-wait a n) = stood-at r.w a (n.marks c m o).0 (⊎_elim (λ z. inl z.0) (λ z. inr z.0) n.state)
    point-stood up j r o (pt-disable a l t n d) = stood-at r.w a (n.marks c m o).0 (inr n.state)
    point-stood up j r o (pt-choose a n) = stood-at r.w a (n.marks c m o).0 (inr n.state)

    module _ (high : b.top ≤ word_limit) where
      -- a stored value is in no word that this looks at
      before-store : (w : ℕ) (ν : Mem) (v z : ℕ) → AltSpare (S L) b L.times st i.vars i.chans w v
          → (Own b (upd ν v z ((S L).word c)) → StoodAt w (upd ν v z)) → Own b (ν ((S L).word c)) → StoodAt w ν
      before-store w ν v z s k o =
          let here : upd ν v z ((S L).word c) ≡ ν ((S L).word c) =
          upd_other ν v z ((S L).word c) (λ e. absurd (omega (arith, s.0.no-chan c m, e))) in
          let h = k (subst (Own b) (sym here) o) in
          let p = h.stood in
          let state : upd ν v z (state_word w) ≡ ν (state_word w) =
          upd_other ν v z (state_word w) (λ e. absurd (omega (arith, s.1, p.low, p.placed.low, e))) in
          record {
            holds = sym here ∙ h.holds;
            stood = record {
              low = p.low;
              placed = p.placed;
              state = ⊎_elim (λ e. inl (sym state ∙ e)) (λ e. inr (sym state ∙ e)) p.state;
            };
          }

      -- on the way
      pub stood : {q : Process} {hi j w : ℕ} {μ : Mem} {r : Regs} → Own b (μ ((S L).word c))
          → AltWay (S L) b L.times st i.vars i.chans q w hi μ j r → StoodAt w μ
      stood {w = w} o way =
          way-holds (S L) (λ ν. Own b (ν ((S L).word c)) → StoodAt w ν) (before-store w)
          (λ h ν j r p o. subst (λ w. StoodAt w ν) p.1 (point-stood h j r o p.0)) (λ ν z. absurd z) way o

      -- it stays in the ALT, Ready, when its channel gets an offer
      module _ (n v : ℕ) (named : c ≡ input_of n) (p : ℕ) (o : Own b (name_of p)) where
        -- its state word is Ready, and all others are as they were
        pub record Told (μ η : Mem) : Type 0 where
          pub holds : μ ((S L).word c) ≡ name_of p
          pub now-ready : η (state_word p) ≡ ready
          pub others : (u : ℕ) → u ≢ state_word p → η u ≡ μ u

        abbrev st₂ : State
        st₂ = changed st.store (with_offer n v st.offers) st

        sends-now : Sender st₂ c
        sends-now = subst (λ z. Sender st₂ z) (sym named) (offer-sends st n v)

        module _ {μ η : Mem} (told : Told μ η) where
          mine : Own b (μ ((S L).word c))
          mine = subst (Own b) (sym told.holds) o

          module _ (w : ℕ) {gs : Guards} {l : List Frame} {hi at : ℕ} (a : AltCode (S L) b gs i.vars i.chans l hi at (w + 1))
              (e : μ ((S L).word c) ≡ name_of w) where
            same_w : p ≡ w
            same_w = name-injective p w (sym told.holds ∙ e)

            state-low : state_word p < p
            state-low = omega (arith, a.fine.0, cont-low (S L) b a.after, same_w)

            ready-now : η (state_word w) ≡ ready
            ready-now = ap (λ z. η (state_word z)) (sym same_w) ∙ told.now-ready

            base_kept : η w ≡ μ w
            base_kept = told.others w (λ z. absurd (omega (arith, state-low, same_w)))

            times-kept : SameTimes μ η w
            times-kept =
                let low = cont-low (S L) b a.after in (
                  told.others (time_link_word w) (λ z. absurd (omega (arith, z, same_w, a.fine.0, low, high))),
                  told.others (time_word w) (λ z. absurd (omega (arith, z, same_w, a.fine.0, low, high))),
                )

            marks-kept : {hs : Guards} → Marked (S L) b st i.vars i.chans hs μ w → Marked (S L) b st₂ i.vars i.chans hs η w
            marks-kept {hs} h =
                marked-same (S L) b st₂ i.vars i.chans hs μ η w
                (λ y x. told.others ((S L).word y)
                (chan-above L (cont-placed (S L) b a.after) (state_word p) (omega (arith, state-low, same_w)) y x)) h

            enabling-told : {hs : Guards} → Enabling (S L) b L.times st i.vars i.chans gs hs μ w
                → Enabling (S L) b L.times st₂ i.vars i.chans gs hs η w
            enabling-told f =
                record {
                  rest = f.rest;
                  marks = marks-kept f.marks;
                  state = inr (ready-now, guarded-present (f.marks c m mine).1 sends-now);
                  times = λ e. bringing-more L.times st st₂ refl refl times-kept (f.times e);
                  known = f.known;
                }

            disabling-told : {hs : Guards} → Disabling (S L) b L.times st i.vars i.chans l gs hs a.choice μ w
                → Disabling (S L) b L.times st₂ i.vars i.chans l gs hs a.choice η w
            disabling-told f =
                record {
                  marks = marks-kept f.marks;
                  state = ready-now;
                  chosen = ⊎_elim
                      (λ y. let (z, x, g, h) = y in inl (z, x, picks_more (λ y. more-senders st n v) refl refl g, base_kept ∙ h))
                      (λ y. inr (base_kept ∙ y.0, found-more (λ y. more-senders st n v) refl (λ e. times-kept) y.1)) f.chosen;
                  times = λ e. passed-more L.times st st₂ refl refl times-kept (f.times e);
                  known = f.known;
                }

          told-point : {q : Process} (up j : ℕ) (r : Regs) → AltPoint (S L) b L.times st i.vars i.chans q up μ j r
              → AltPoint (S L) b L.times st₂ i.vars i.chans q up η j r
          told-point up j r (pt-enable a l f e) =
              pt-enable a l (enabling-told r.w a (f.marks c m mine).0 f)
              (enables-stays (S L) b i.vars i.chans (λ x y z. refl) (r.w + 1)
              (rest-fine (S L).word b i.vars i.chans (r.w + 1) f.rest.1 a.fine.1) e)
          told-point up j r (pt-wait a f) = pt-wait a (enabling-told r.w a (f.marks c m mine).0 f)
          told-point up j r (pt-disable a l t f d) =
              pt-disable a l t (disabling-told r.w a (f.marks c m mine).0 f)
              (disables-stays (S L) b i.vars i.chans (λ x y z. refl) (r.w + 1)
              (rest-fine (S L).word b i.vars i.chans (r.w + 1) t a.fine.1) d)
          told-point up j r (pt-choose a f) = pt-choose a (disabling-told r.w a (f.marks c m mine).0 f)

        -- a spare word is below the state word
        spare-off : {u : ℕ} → b.bottom + 3 ≤ p → AltSpare (S L) b L.times st i.vars i.chans p u → u ≢ state_word p
        spare-off low s e = absurd (omega (arith, s.1, o.below, name_back p, e))

        both_told : b.bottom + 3 ≤ p → (μ η : Mem) (u z : ℕ) → AltSpare (S L) b L.times st i.vars i.chans p u → Told μ η
            → Told (upd μ u z) (upd η u z)
        both_told low μ η u z s t =
            record {
              holds = upd_other μ u z ((S L).word c) (λ e. absurd (omega (arith, s.0.no-chan c m, e))) ∙ t.holds;
              now-ready = upd_other η u z (state_word p) (λ e. spare-off low s (sym e)) ∙ t.now-ready;
              others = λ x d. ap (λ y. cond (eqb x u) z y) (t.others x d);
            }

        pub told-way : b.bottom + 3 ≤ p → {q : Process} {hi j : ℕ} {μ η : Mem} {r : Regs} → Told μ η
            → AltWay (S L) b L.times st i.vars i.chans q p hi μ j r
            → AltWay (S L) b L.times st₂ i.vars i.chans q p hi η j r
        told-way low t way =
            way-stable (S L).xs (S L).off (S L).word Told (both_told low) (λ μ η u s t. t.others u (spare-off low s)) (λ x y. refl)
            (λ w z. absurd z) (λ h μ η j r t p. (told-point t h j r p.0, p.1)) t way
