-- What holds of a process that has not the processor: it is queued, or waits at an input, an output, a STOP or an ALT.
use Prim.Native.Nat.{ℕ, ◌+◌, ◌≤◌, ◌<◌, ◌^◌}
use mathlib.Core.Path.{◌≡◌, refl, subst}
use mathlib.Core.Bool.{Bool, true, false, ◌||◌}
use mathlib.Core.List.{List, [], ◌∷◌, Memᴰ}
use lib.Dec.{eqb}
use lib.ListN.{length}
use Rattle.model.specs.Syntax.{Site, Guards, no_guard, timed}
use Rattle.model.specs.Machine.{resume_word, state_word, name_of, time_word}
use Rattle.model.specs.Alternative.{waiting, ready, none_selected}
use Rattle.model.specs.Scheme.{size_enable}
use Rattle.model.specs.Occam.{Frame, Process, at_input, at_output, at_stop, at_alt, State, Sender, at_wait}
use Rattle.model.proofs.Cases.{never}
use Rattle.model.proofs.Quiet.Ways.{Mem}
use Rattle.model.proofs.Quiet.Setting.{Setting, whole}
use Rattle.model.proofs.Quiet.Timing.{Times, Dozing, Guarding}
use Rattle.model.proofs.Words.Parts.{Part, Target}
use Rattle.model.proofs.Quiet.Continuations.{Cont}
use Rattle.model.proofs.Quiet.Marks.{Own, AnyPresent, Guarded, AltCode, Marked, Disabling, s-none}
use Rattle.model.proofs.Quiet.Arrivals.{Comes, comes}
use Rattle.model.proofs.Invariant.Trees.{Info}

-- whether a workspace is among some
unfoldable pub member : ℕ → List ℕ → Bool
member w [] = false
member w (v ∷ vs) = eqb w v || member w vs

module _ (S : Setting) (b : Part) (i : Info) (st : State) (μ : Mem) where
  -- no channel in scope holds a name of this part's processes
  abbrev pub Unmarked : Type 0
  Unmarked = (c : Site) → Memᴰ c i.chans → Own b (μ (S.word c)) → ⊥

  -- only this one does
  abbrev pub MarkedOnly : Site → Type 0
  MarkedOnly d = (c : Site) → Memᴰ c i.chans → Own b (μ (S.word c)) → c ≡ d

  -- the process goes on at an instruction: its resume word says so, and its path ends in time
  pub record Resumes (at hi : ℕ) : Type 0 where
    pub place : μ (resume_word i.w) ≡ S.off at
    pub soon : hi ≤ i.left + S.off at

  -- a process that waits at a channel: at the channel's word, with its state word and room for it
  pub record Waits (c : Site) (k : List Frame) (at hi : ℕ) (message : ℕ) : Type 0 where
    pub scope : Memᴰ c i.chans
    pub onward : Cont S b hi i.vars i.chans k at i.w
    pub near : hi ≤ whole S + S.off at
    pub resumes : Resumes at hi
    pub space : b.bottom + 3 ≤ i.w
    pub here : μ (S.word c) ≡ name_of i.w
    pub only : MarkedOnly c
    pub message-at : μ (state_word i.w) ≡ message

  -- a process that waits for the clock: its words hold its time and that it waits
  pub record Asleep (t : ℕ) (k : List Frame) (at hi : ℕ) : Type 0 where
    pub onward : Cont S b hi i.vars i.chans k at i.w
    pub near : hi ≤ whole S + S.off at
    pub resumes : Resumes at hi
    pub space : b.bottom + 5 ≤ i.w
    pub state-is : μ (state_word i.w) ≡ waiting
    pub time-is : μ (time_word i.w) ≡ t
    pub small : t < 2 ^ 32
    pub unmarked : Unmarked

-- `T` is what is known of the times of an ALT's true time guards
module _ (S : Setting) (T : Times) (b : Part) (i : Info) (st : State) (μ : Mem) where
  -- whether it is queued, and what it waits for
  pub data Held : (queued : Bool) → Process → Type 0 where
    h-queued : {q : Process} {hi at : ℕ} → Comes S b st.store i.vars i.chans hi q at i.w → Resumes S b i st μ at hi
        → at ≤ length S.xs → Unmarked S b i st μ → Held true q
    -- woken in an ALT
    h-woken : {gs : Guards} {k : List Frame} {hi at : ℕ} (c : AltCode S b gs i.vars i.chans k hi at (i.w + 1))
        → Resumes S b i st μ (at + 2 + size_enable gs + 1) hi → μ (state_word i.w) ≡ ready
        → Disabling S b T st i.vars i.chans k gs gs c.choice μ i.w → Held true (at_alt gs k)
    -- at an input nobody sends
    h-input : {c x : Site} {k : List Frame} {hi at : ℕ} → Waits S b i st μ c k at hi (S.word x) → Target b i.vars x
        → Memᴰ c b.inputs → (Sender st c → ⊥) → Held false (at_input c x k)
    -- an output holds its value
    h-output : {c : Site} {v : ℕ} {k : List Frame} {hi at : ℕ} → Waits S b i st μ c k at hi i.w → Memᴰ c b.outputs
        → i.w < b.top → μ i.w ≡ v → v < 2 ^ 32 → Held false (at_output c v k)
    h-stop : {k : List Frame} → Unmarked S b i st μ → Held false (at_stop k)
    -- waiting in an ALT: every true guard has its mark, and none is present; one with a true time guard is in the timer queue
    h-wait : {gs : Guards} {k : List Frame} {hi at : ℕ} (c : AltCode S b gs i.vars i.chans k hi at (i.w + 1))
        → Resumes S b i st μ (at + 2 + size_enable gs + 1) hi → μ (state_word i.w) ≡ waiting → μ i.w ≡ none_selected
        → ((d : Site) → Guarded st.store d gs → μ (S.word d) ≡ name_of i.w) → (AnyPresent st gs → ⊥)
        → Marked S b st i.vars i.chans gs μ i.w → (timed gs ≡ true → Dozing T st gs μ i.w) → Guarding T st gs no_guard i.w
        → Held false (at_alt gs k)
    -- at WAIT, in the timer queue
    h-asleep : {t : ℕ} {k : List Frame} {hi at : ℕ} → Asleep S b i st μ t k at hi → Held false (at_wait t k)

  -- one that waits for the clock is asleep
  pub data Sleeping (t : ℕ) (k : List Frame) : Type 0 where
    sleeping : {hi at : ℕ} → Asleep S b i st μ t k at hi → Sleeping t k

  no-waiting : {hi at w t : ℕ} {k : List Frame} {vars chans : List Site} → Comes S b st.store vars chans hi (at_wait t k) at w → ⊥
  no-waiting (comes s-none settled sub way) = settled

  pub held-sleeping : {f : Bool} {t : ℕ} {k : List Frame} → Held f (at_wait t k) → Sleeping t k
  held-sleeping (h-queued c r h u) = absurd (no-waiting c)
  held-sleeping (h-asleep a) = sleeping a

  pub asleep-unqueued : {f : Bool} {t : ℕ} {k : List Frame} → Held f (at_wait t k) → f ≡ false
  asleep-unqueued (h-queued c r h u) = absurd (no-waiting c)
  asleep-unqueued (h-asleep a) = refl

  -- one that is queued is not
  pub held-awake : {q : Process} → Held true q → (t : ℕ) (k : List Frame) → q ≡ at_wait t k → ⊥
  held-awake {q} (h-queued {hi = hi} {at} c r h u) t k e =
      no-waiting (subst (λ p. Comes S b st.store i.vars i.chans hi p at i.w) e c)
  held-awake (h-woken c r s d) t k e = never (cc)
