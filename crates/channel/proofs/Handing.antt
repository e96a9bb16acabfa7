-- Laws of waiting at a channel's word, of values handed over and of held offers.
use Prim.Native.Nat.{ℕ, ◌≤◌}
use mathlib.Core.Path.{◌≡◌, refl, ap, sym, ◌∙◌}
use mathlib.Core.Bool.{Bool, true, false, cond}
use mathlib.Core.List.{List}
use lib.ListN.{get_or, set, length}
use lib.Seq.{drop-append_seam}
use Rattle.std.specs.Prelude.{◌++◌, drop}
use lib.Dec.{ltb, eqb}
use Rattle.std.specs.Prelude.{Ok, Err}
use Rattle.model.specs.Word.{not_process}
use Rattle.model.specs.Machine.{World, Act, done, faults, ◌>>◌, return, memory_size, poke, release, join, communicate, name_of, space_of}
use Rattle.model.specs.Machine.{link_word, resume_word, state_word, queueing}
use Rattle.model.specs.Alternative.{notify, waiting, ready}
use Rattle.model.specs.Execute.{wait_at, output_word, received}
use Rattle.model.specs.Run.{land}
use Rattle.model.specs.declared.Cpu.{Cpu}
use Rattle.model.specs.declared.Setup.{Setup}
use Rattle.model.specs.declared.FaultKind.{FaultKind}
use Rattle.model.specs.declared.FaultKind.TheVariants.{Word}
use Rattle.processor.specs.Seen.{Step, Peeked, Rest, whole, world, told, looked, written, undone}
use Rattle.processor.specs.Pieces.{landing, release_at, join_release, notify_release}
use Rattle.processor.specs.Quiet.{quiet, Hears}
use Rattle.processor.proofs.Laws.{set-whole, value-inside, fault-outside, undid, nothing-after, next-next, first-place, join-behind}
use Rattle.processor.proofs.Laws.{join_first}
use Rattle.processor.proofs.Talking.{lands, hears, after-set, after-poke}
use Rattle.channel.specs.Channels.{wait_tell, hand, output_behind}

-- a process waits where no other is told
pub waits : (c m : ℕ) (s : World) → landing (do wait_at c m; release) s ≡ wait_tell c m 0 0 s
unfolding wait_at
waits c m s =
    let r = s.machine.cpu in
    let w = r.workspace in
    simp next-next
    (ap (λ (f : Act (Unit {0})). (do poke c (name_of w); poke (resume_word w) r.place; poke (state_word w) m; release; f) s) first-place)

-- a process in an ALT is woken if it was Waiting, and the processor is free
woken : (t : Bool) (p : ℕ) → (do cond t (join p) (return tt); release; land) ≡ cond t (join_release 0 p) (release_at 0)
woken true p = ap (λ (f : Act (Unit {0})). do join p; release; f) first-place
woken false p = ap (λ (f : Act (Unit {0})). do release; f) first-place

-- a process waits where one in an ALT is told
pub waits-told :
    (c m p a : ℕ) (s : World)
    → let r = s.machine.cpu in
    let w = r.workspace in
    landing (do wait_at c m; notify p a; release) s
    ≡ (do poke c (name_of w); poke (resume_word w) r.place; poke (state_word w) m; notify_release p a) s
unfolding wait_at notify
waits-told c m p a s =
    let r = s.machine.cpu in
    let w = r.workspace in
    simp next-next
    (ap (λ (f : Act (Unit {0})).
    (do poke c (name_of w); poke (resume_word w) r.place; poke (state_word w) m; poke (state_word (space_of p)) ready; f) s)
    (woken (eqb a waiting) p))

-- OUTWORD's value goes to W + 0 first
pub puts :
    (s : World)
    → let r = s.machine.cpu in
    landing output_word s ≡ (do poke r.workspace r.a; output_behind r) s
unfolding output_word
puts s = rw (next-next (poke s.machine.cpu.workspace s.machine.cpu.a s))

module _ (x : Rest) (u : Setup) where
  module _ (c v : ℕ) (r : Cpu) (e : r.running ≡ true) (g : r.place ≤ u.code) where
    -- a process is woken and the communication is made
    joined :
        (b : Bool) (l : List ℕ) (p : ℕ) → r.queued ≡ b
        → quiet ((do join p; communicate c v; land) (whole x u r l)) ≡ quiet (join p (whole x u r l))
    joined true l p q =
        let a = link_word r.back in
        let n = queueing r.front p true r in
        rw (join-behind x u r l p e q)
        (after-poke quiet x u (do communicate c v; land) (return tt) a p n l (λ m. ap quiet (lands _ e g))
        ∙ ap quiet (nothing-after (poke a p (whole x u n l))))
    joined false l p q = rw (join_first x u r l p e q) (ap quiet (lands _ e g))

    -- a value is handed over
    pub handed :
        (m p : ℕ) (l : List ℕ) → quiet (landing (do poke m v; received c p v) (whole x u r l)) ≡ quiet (hand c p m v (whole x u r l))
    unfolding received
    handed m p l =
        simp next-next
        (after-poke quiet x u (do poke c not_process; join p; communicate c v; land) (do poke c not_process; join p) m v r l
        (λ n. after-poke quiet x u (do join p; communicate c v; land) (join p) c not_process r n (λ o. joined r.queued o p refl)))

module _ (u : Setup) (r : Cpu) (a v : ℕ) (l : List ℕ) {m : List ℕ} {p : Peeked} (h : memory_size u ≡ length l)
    (e : (p ≡ looked a l) × (m ≡ written p a v l)) where
  -- a word is written, then an action that may communicate, and on its fault the word gets back what it held
  pub undid-hears :
      {old : ℕ} {n o : List ℕ} {t : Step} (act : Act (Unit {0})) (s : Step) → p ≡ Ok old → Hears u act r m s n
      → (t ≡ s) × (o ≡ undone s a old n) → Hears u (do poke a v; act) r l t o
  undid-hears {old} {n} act s g d i =
      let t = value-inside (ltb a (length l)) (get_or l a 0) old (Word a) (sym e.0 ∙ g) in
      let k : m ≡ set l a v = rw g at e.1 in
      let rest : World → Rest =
      λ w.
      let q = w.machine in
      let b = drop (length m) w.memory in
      record { behind = b; timer = q.timer; offers = q.offers; held = q.held; fault = q.fault; talk = w.talk } in
      let other : Act (Unit {0}) = λ w. told (rest w) u s n in
      let same : (x : Rest) → other (world x u r m) ≡ told x u s n = λ x. rw (drop-append_seam m x.behind) in
      hears (undid a v other h s e g (record { said = same; keeps = d.keeps }) i)
      (λ x. after-set quiet x u act other a v r (l ++ x.behind)
      (rw (set-whole l x.behind a v t.0, ← k) (d.said x ∙ ap quiet (sym (same x)))))

  -- a held offer's value is written
  pub took :
      {old : ℕ} (c : ℕ) → p ≡ Ok old → r.running ≡ true → r.place ≤ u.code → (x : Rest)
      → quiet (landing (do poke a v; communicate c v) (world x u r l)) ≡ quiet (done tt (world x u r m))
  unfolding poke
  took {old} c g t b x =
      let i = value-inside (ltb a (length l)) (get_or l a 0) old (Word a) (sym e.0 ∙ g) in
      let k : m ≡ set l a v = rw g at e.1 in
      rw (h, i.0, set-whole l x.behind a v i.0, k) (ap quiet (lands _ t b))

  -- or its place is outside
  pub took-not : {k : FaultKind} (c : ℕ) → p ≡ Err k → (x : Rest) → landing (do poke a v; communicate c v) (world x u r l) ≡ faults k
  unfolding poke
  took-not {k} c g x =
      let i = fault-outside (ltb a (length l)) (get_or l a 0) (Word a) k (sym e.0 ∙ g) in
      rw (h, i.0, i.1)
