-- What is known of the processes that are left out while those of the timer queue wake: it stays, whether they see nothing of it or one of
-- them, in an ALT, leaves the timer queue itself.
use Prim.Native.Nat.{ℕ, ◌+◌, ◌≤◌}
use mathlib.Core.Path.{◌≡◌, refl, sym}
use mathlib.Core.Logic.{◌⊎◌, inl, inr}
use mathlib.Core.Bool.{true}
use mathlib.Core.List.{List}
use Rattle.model.specs.Syntax.{Guards, timed}
use Rattle.model.specs.Machine.{World, state_word}
use Rattle.model.specs.Alternative.{ready}
use Rattle.model.specs.Occam.{Frame, Process, at_alt, State, now}
use Rattle.model.proofs.Cases.{never}
use Rattle.model.proofs.Quiet.Ways.{Mem}
use Rattle.model.proofs.Quiet.Timing.{onto_same}
use Rattle.model.proofs.Occam.Paths.{same-path}
use Rattle.model.proofs.Words.Parts.{Part}
use Rattle.model.proofs.Invariant.Trees.{Info, Tree}
use Rattle.model.proofs.Invariant.Kernel.{Loaded, S, root, LeafAt, sits-at}
use Rattle.model.proofs.Invariant.Running.{Only, Nobody, StartsLeft, Starting, Now, now-goes, now-alt, NowStarts}
use Rattle.model.proofs.Invariant.Moving.{same-leaf}
use Rattle.model.proofs.Outside.Bystanders.{SameRegs, Keeps, now-stays, starts-stays, starting-known, starts-off, part-high}
use Rattle.model.proofs.Outside.Timeouts.{Timeout, goes_then, goes-ready}

module _ (L : Loaded) where
  -- a machine, a state, its words and its tree
  abbrev pub Known : Type 1
  Known = World → (st : State) → Mem → Tree (S L) (root L) st.process → Type 0

  -- one that is left out has come to an ALT with a time guard, and has its two words
  pub record Late (st : State) (t : Tree (S L) (root L) st.process) (Out : List ℕ → Type 0) (path : List ℕ) (gs : Guards)
      (k : List Frame) (b : Part) (i : Info) : Type 0 where
    pub leaf : LeafAt L st t path (at_alt gs k) b i
    pub out : Out path
    pub has-time : timed gs ≡ true
    pub space : b.bottom + 5 ≤ i.w

  module _ (c : ℕ) where
    pub record Aside (Out : List ℕ → Type 0) (Go : Known) : Type 0 where
      pub known : (other : List ℕ) → Out other ⊎ (Out other → ⊥)
      pub stays : {u s : World} {st st' : State} {μ ν : Mem} {t : Tree (S L) (root L) st.process}
          {t' : Tree (S L) (root L) st'.process} → SameRegs L u s → now st' ≡ now st → Keeps L st st' μ ν t t' Out → Go s st μ t
          → Go u st' ν t'
      pub leaves : {s : World} {st : State} {μ ν : Mem} {t : Tree (S L) (root L) st.process} {path : List ℕ} {gs : Guards}
          {k : List Frame} {b : Part} {i : Info} → Late st t Out path gs k b i → now st ≡ c → Timeout c i.w μ ν → Go s st μ t
          → Go s st ν t
      pub is-ready : {s : World} {st : State} {μ : Mem} {t : Tree (S L) (root L) st.process} {path : List ℕ} {gs : Guards}
          {k : List Frame} {b : Part} {i : Info} → Late st t Out path gs k b i → now st ≡ c → Go s st μ t → μ (state_word i.w) ≡ ready

    -- the ALT that has the processor
    module _ {s : World} {st : State} {t : Tree (S L) (root L) st.process} {Out : List ℕ → Type 0} {path : List ℕ} {gs : Guards}
        {k : List Frame} {b : Part} {i : Info} (late : Late st t Out path gs k b i) (clock : now st ≡ c) where
      now-then : {μ ν : Mem} → Timeout c i.w μ ν → Now L s st μ b i (at_alt gs k) → Now L s st ν b i (at_alt gs k)
      now-then out (now-goes h way settled clean soon) = absurd settled
      now-then out (now-alt h way soon) =
          now-alt h
          (goes_then (S L) b (part-high L late.leaf) L.times st i.vars i.chans c clock late.space
          (sits-at L late.leaf).placed.low out way) soon

      now-ready : {μ : Mem} → Now L s st μ b i (at_alt gs k) → μ (state_word i.w) ≡ ready
      now-ready (now-goes h way settled clean soon) = absurd settled
      now-ready (now-alt h way soon) =
          goes-ready (S L) b (part-high L late.leaf) L.times st i.vars i.chans c clock late.space
          (sits-at L late.leaf).placed.low way

    -- the process at a path has the processor
    pub runs-aside : (path : List ℕ) (q : Process) (b : Part) (i : Info)
        → Aside (Only path) (λ s st μ t. LeafAt L st t path q b i × Now L s st μ b i q)
    runs-aside path q b i =
        record {
          known = same-path path;
          stays = λ same clock keeps (leaf, now).
              let (leaf', intact) = keeps path q b i leaf refl in
              (leaf', now-stays L same (part-high L leaf) (sits-at L leaf) (λ w. onto_same (sym clock)) intact now);
          leaves = λ {s} {st} {μ} {ν} late clock out (leaf, now). (
            leaf,
            same-leaf L (λ q b (i : Info). Now L s st ν b i q) (sym late.out) late.leaf leaf
                (now-then late clock out (same-leaf L (λ q b (i : Info). Now L s st μ b i q) late.out leaf late.leaf now)),
          );
          is-ready = λ {s} {st} {μ} late clock (leaf, now).
              now-ready late clock (same-leaf L (λ q b (i : Info). Now L s st μ b i q) late.out leaf late.leaf now);
        }

    -- the first branch of a PAR starts the others
    pub starts-aside : (path : List ℕ) (q : Process) (b : Part) (i : Info) (B : StartsLeft)
        → Aside (Starting path B) (λ s st μ t. LeafAt L st t path q b i × NowStarts L s st μ t path q b i B)
    starts-aside path q b i B =
        record {
          known = starting-known path B;
          stays = λ same clock keeps (leaf, now). ((keeps path q b i leaf (inl refl)).0, starts-stays L same leaf keeps now);
          leaves = λ late clock out (leaf, now). never (cc (starts-off L leaf B now late.leaf late.out, late.has-time));
          is-ready = λ late clock (leaf, now). never (cc (starts-off L leaf B now late.leaf late.out, late.has-time));
        }

    -- none is left out
    pub idle-aside : Aside Nobody (λ s st μ t. Unit {0})
    idle-aside =
        record {
          known = λ other. inr (λ o. o);
          stays = λ same clock keeps go. tt;
          leaves = λ late clock out go. tt;
          is-ready = λ late clock go. absurd late.out;
        }
