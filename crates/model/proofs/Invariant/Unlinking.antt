-- An ALT that has the processor leaves the timer queue: the word that led to it leads to what was behind it, and its own says that no time
-- is set.
use Prim.Native.Nat.{ℕ, ◌+◌, ◌^◌, ◌≤◌, ◌<◌}
use native.Mathlib.Omega.{arith}
use native.Mathlib.Decide.{ℕ_discrete}
use mathlib.Core.Path.{◌≡◌, refl, sym, ◌∙◌, subst}
use mathlib.Core.Logic.{◌≢◌, inl, ⊎_elim}
use mathlib.Core.Bool.{true}
use mathlib.Core.List.{List, Memᴰ}
use mathlib.Core.Option.{none}
use Rattle.model.specs.Syntax.{Site, Guards, timed}
use Rattle.model.specs.Machine.{time_link_word, time_word}
use Rattle.model.specs.Timer.{time_not_set, Stop}
use Rattle.model.specs.Occam.{Frame, Process, at_alt, State, now}
use Rattle.model.proofs.Quiet.Ways.{Mem, front_word, upd, upd_same, upd_other}
use Rattle.model.proofs.Quiet.Timing.{Linked, linked-same}
use Rattle.model.proofs.Occam.Paths.{is_alt, same-path}
use Rattle.model.proofs.Words.Parts.{Part}
use Rattle.model.proofs.Effects.Timers.{chain-stable, sorted-stable}
use Rattle.model.proofs.Effects.Walking.{link_of}
use Rattle.model.proofs.Effects.Leaving.{stop_at, without, leave-link, left_in, chain-without, without_in, without_not, in_without}
use Rattle.model.proofs.Effects.Leaving.{once-without, sorted-without}
use Rattle.model.proofs.Invariant.Trees.{Info, Tree}
use Rattle.model.proofs.Invariant.Kernel.{Loaded, S, root, LeafAt, Dozer, in-alt, sleeper, Sleepers, Rest, node, part_small, sits-at}
use Rattle.model.proofs.Invariant.Kernel.{plain_of, rest_of, linked-in}
use Rattle.model.proofs.Invariant.Writes.{apart-zones, time-words, plain-own}
use Rattle.model.proofs.Invariant.Moving.{same-leaf, other-w}
use Rattle.model.proofs.Invariant.Sleeping.{Spot, at_front, behind, plain-relinked, fits, links-apart, times-off, off-chans}

module _ (L : Loaded) {st : State} {μ : Mem} {t : Tree (S L) (root L) st.process} {Out : List ℕ → Type 0} {ws : List ℕ}
    (h : Rest L st μ t Out ws) {path : List ℕ} {gs : Guards} {k : List Frame} {b : Part} {i : Info}
    (leaf : LeafAt L st t path (at_alt gs k) b i) (out : Out path) (has-time : timed gs ≡ true) (room : b.bottom + 5 ≤ i.w)
    (linked : Linked μ i.w) where
  abbrev w : ℕ
  w = i.w

  abbrev ts : List ℕ
  ts = h.sleepers.asleep

  -- it is in the queue
  pub there : Memᴰ w ts
  there = h.sleepers.all leaf room (in-alt has-time) (λ e. linked)

  abbrev pub place : Stop
  place = stop_at w none ts

  abbrev ν : Mem
  ν = left_in w place μ

  -- the words then
  abbrev pub η : Mem
  η = upd ν (time_link_word w) time_not_set

  own-words : (b.bottom ≤ time_link_word w) × (time_link_word w < b.top) × (time_link_word w < w)
  own-words =
      let words = time-words L leaf room in
      (words.0, words.1, omega (arith, room, (sits-at L leaf).placed.low, part_small L leaf, (S L).top_small))

  pub spot : Spot L st t Out μ (link_of place.before)
  spot = leave-link w none ts (Spot L st t Out μ) at_front (λ v m d. elim (h.sleepers.each v m) [
    | sleeper l e a z ↦
        subst (λ y. Spot L st t Out μ (time_link_word y)) e (behind l a z (subst (Linked μ) (sym e) (linked-in L h v m)))
  ])

  -- the word before is in no part of its own
  off-spot : (v : ℕ) → b.bottom ≤ v → v < b.top → v ≢ link_of place.before
  off-spot v lo hi = leave-link w none ts (λ z. v ≢ z) (λ e. absurd (omega (arith, e, hi, part_small L leaf, (S L).top_small)))
      (λ u m d. elim (h.sleepers.each u m) [
        | sleeper {path = other} l e a z ↦ λ f.
            let words = time-words L l a in
            ⊎_elim (λ p. d (sym (same-leaf L (λ q b (y : Info). y.w ≡ u) (sym p) l leaf e)))
            (λ c. (apart-zones L c (node L leaf) (node L l)).words v (lo, hi) (omega (arith, f, e, words.0), omega (arith, f, e, words.1)))
            (same-path path other)
      ])

  -- its words stay but its link
  pub own-left : (v : ℕ) → b.bottom ≤ v → v < b.top → v ≢ time_link_word w → η v ≡ μ v
  own-left v lo hi d =
      upd_other ν (time_link_word w) time_not_set v d ∙ upd_other μ (link_of place.before) (μ (time_link_word w)) v (off-spot v lo hi)

  vars-off : (x : Site) → Memᴰ x i.vars → (S L).word x ≢ time_link_word w
  vars-off x m e = absurd (omega (arith, e, (sits-at L leaf).placed.scoped.vars-above x m, own-words.2))

  chans-off : (c : Site) → Memᴰ c i.chans → (S L).word c ≢ time_link_word w
  chans-off c m e = absurd (omega (arith, e, (sits-at L leaf).placed.scoped.chans-above c m, own-words.2))

  pub chan-left : (c : Site) → Memᴰ c i.chans → η ((S L).word c) ≡ μ ((S L).word c)
  chan-left c m =
      upd_other ν (time_link_word w) time_not_set ((S L).word c) (chans-off c m)
      ∙ upd_other μ (link_of place.before) (μ (time_link_word w)) ((S L).word c) (off-chans L (plain_of L h) spot (node L leaf) c m)

  -- links and times of the others
  far-link : (v : ℕ) → Memᴰ v (without w ts) → time_link_word v ≢ time_link_word w
  far-link v m e =
      without_not w ts h.sleepers.once
      (subst (λ y. Memᴰ y (without w ts)) (links-apart L h v w (without_in w ts v m) there e) m)

  far-time : (v : ℕ) → Memᴰ v ts → η (time_word v) ≡ μ (time_word v)
  far-time v m =
      upd_other ν (time_link_word w) time_not_set (time_word v) (times-off L h w v there m)
      ∙ upd_other μ (link_of place.before) (μ (time_link_word w)) (time_word v)
      (leave-link w none ts (λ z. time_word v ≢ z) (λ z. absurd (omega (arith, z))) (λ u n d. times-off L h u v n m))

  queue : Sleepers L st η t Out
  queue =
      record {
        asleep = without w ts;
        chain = chain-stable (upd_other ν (time_link_word w) time_not_set front_word (λ e. absurd (omega (arith, e))))
            (λ v m. upd_other ν (time_link_word w) time_not_set (time_link_word v) (far-link v m))
            (chain-without μ w ts none front_word refl there h.sleepers.chain (λ v m e. absurd (omega (arith, e))) (links-apart L h)
            h.sleepers.once);
        sorted = λ o.
            sorted-stable μ η (now st) (without w ts) (λ v m. far-time v (without_in w ts v m))
            (sorted-without (now st) μ w ts (h.sleepers.sorted o));
        once = once-without w ts h.sleepers.once;
        each = λ v m. h.sleepers.each v (without_in w ts v m);
        known = λ v m.
            let (a, b) = h.sleepers.known v (without_in w ts v m) in
            let e = far-time v (without_in w ts v m) in
            (subst (λ n. n < 2 ^ 32) (sym e) a, subst (λ n. L.sleeps v n (now st)) (sym e) b);
        all = λ {path = other} {i = j} l a d f.
            ⊎_elim (λ p. absurd (gone p l d f))
            (λ u.
            in_without w ts j.w (link-of l a u d f (ℕ_discrete (time_link_word j.w) (link_of place.before)))
            (λ e. other-w L leaf l u (sym e))) (same-path path other);
      }
    where
      -- it is not in the queue
      gone : {other : List ℕ} {q : Process} {c : Part} {j : Info} → path ≡ other → LeafAt L st t other q c j → Dozer L Out other q
          → (is_alt q ≡ true → Linked η j.w) → ⊥
      gone {q = q} {j = j} p l d f =
          same-leaf L (λ q c (j : Info). (is_alt q ≡ true → Linked η j.w) → ⊥) p leaf l
          (λ g. (g has-time).1 (upd_same ν (time_link_word w) time_not_set)) f

      -- another whose link is another now was there before
      link-of : {other : List ℕ} {p : Process} {c : Part} {j : Info} → LeafAt L st t other p c j → c.bottom + 5 ≤ j.w → path ≢ other
          → Dozer L Out other p → (is_alt p ≡ true → Linked η j.w) → Dec (time_link_word j.w ≡ link_of place.before)
          → Memᴰ j.w ts
      link-of {j = j} l a u d f (yes e) =
          leave-link w none ts (λ z. time_link_word j.w ≡ z → Memᴰ j.w ts) (λ z. absurd (omega (arith, z)))
          (λ v m x z.
          subst (λ y. Memᴰ y ts)
          (omega (arith, z, a, (sits-at L l).placed.low, part_small L l, (S L).top_small, (fits L h v m).small, (fits L h v m).space)) m) e
      link-of {other} {j = j} l a u d f (no e) =
          let far : time_link_word j.w ≢ time_link_word w = λ z.
          other-w L leaf l u (omega (
            arith,
            z,
            a,
            room,
            (sits-at L l).placed.low,
            part_small L l,
            (sits-at L leaf).placed.low,
            part_small L leaf,
            (S L).top_small,
          )) in
          let same : η (time_link_word j.w) ≡ μ (time_link_word j.w) =
          upd_other ν (time_link_word w) time_not_set (time_link_word j.w) far
          ∙ upd_other μ (link_of place.before) (μ (time_link_word w)) (time_link_word j.w) e in
          h.sleepers.all l a d (λ x. linked-same L.times st η μ j.w (sym same) (f x))

  pub rest-left : Rest L st η t Out ws
  rest-left =
      rest_of L
      (plain-own L leaf (plain-relinked L (plain_of L h) (μ (time_link_word w)) linked.0 linked.1 spot (λ other q b i l n. inl n))
      (time_link_word w) time_not_set own-words.0 own-words.1 vars-off chans-off (inl out)) queue
