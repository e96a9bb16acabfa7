-- What an offer comes to.
use Prim.Native.Nat.{ℕ, ◌+◌, ◌≤◌, ◌<◌}
use native.Mathlib.Omega.{arith}
use mathlib.Core.Path.{◌≡◌, refl, ap, ◌∙◌}
use mathlib.Core.Bool.{true, false}
use mathlib.Core.List.{List, []}
use lib.ListN.{length, get_or, get_or-append}
use Rattle.std.proofs.lemmas.List.{length-append}
use Rattle.std.specs.Prelude.{◌++◌}
use lib.Dec.{ltb}
use borrow.Author.Tests.{lt-ltb, le-ltb, ltb-true, eq-eqb, ne_eqb}
use Rattle.std.specs.Prelude.{Ok, Err}
use Rattle.model.specs.Word.{not_process}
use Rattle.model.specs.Machine.{done, faults, memory_size, peek, state_word, space_of}
use Rattle.model.specs.Alternative.{is_alt_state, notify}
use Rattle.model.specs.Execute.{deliver, received}
use Rattle.model.specs.Run.{unchanged, world_of, waking}
use Rattle.model.specs.Outside.{offering, offered, offer_unless, offer}
use Rattle.model.specs.declared.Machine.{Machine}
use Rattle.model.specs.declared.FaultKind.{FaultKind}
use Rattle.std.specs.Prelude.{Err, None, Ok, Some}
use Rattle.model.specs.declared.OfferRefusal.TheVariants.{Short, Fault as OfferFault, NoChannel, Held}
use Rattle.processor.specs.Seen.{Step, whole, told, Keeps, Does}
use Rattle.processor.specs.Pieces.{notify_wake}
use Rattle.processor.specs.Quiet.{quiet}
use Rattle.processor.proofs.Talking.{after-poke}
use Rattle.machine.specs.Runs.{rest_of, Answers}
use Rattle.machine.specs.Outsides.{empty_wake, hand_wake, holding, offered_by}
use Rattle.machine.proofs.Refusals.{one-false}
use Rattle.machine.proofs.Runs.{heard, heard-fault}
use Rattle.machine.proofs.Woken.{wakes-poke, wakes-done, wakes-notify, wakes-received}

module _ (m : Machine) (memory : List ℕ) (k v : ℕ) {p : ℕ} (i : k < m.setup.inputs) (a : get_or memory (m.setup.base + k) 0 ≡ p) where
  -- the process at the channel's word
  at-word : peek (m.setup.base + k) (world_of m memory) ≡ done p (world_of m memory)
  unfolding peek
  at-word =
      let h : m.setup.base + k < memory_size m.setup = omega arith in
      rw (lt-ltb _ _ h, a)

  -- none is there: the offer is held
  offering-held :
      p ≡ not_process → offering k v (world_of m memory) ≡ done tt (whole (rest_of (holding m k v) []) m.setup m.cpu memory)
  unfolding offering
  offering-held e =
      wakes-done (rest_of m []) m.setup m.cpu (rest_of (holding m k v) []) memory _ m.cpu.running refl (rw (at-word, eq-eqb _ _ e))

  module _ (n : p ≡ not_process → ⊥) where
    -- its state word is outside
    offering-fault : {f : FaultKind} → peek (state_word (space_of p)) (world_of m memory) ≡ faults f
        → offering k v (world_of m memory) ≡ faults f
    unfolding offering waking
    offering-fault g = rw (at-word, ne_eqb _ _ n, g)

    module _ {s : ℕ} (g : peek (state_word (space_of p)) (world_of m memory) ≡ done s (world_of m memory)) where
      told-alt :
          is_alt_state s ≡ true
          → offering k v (world_of m memory) ≡ waking (notify p s) (whole (rest_of (holding m k v) []) m.setup m.cpu memory)
      unfolding offering waking
      told-alt t = rw (at-word, ne_eqb _ _ n, g, t)

      handed-in : is_alt_state s ≡ false → offering k v (world_of m memory) ≡ waking (deliver (m.setup.base + k) p s v) (world_of m memory)
      unfolding offering waking
      handed-in t = rw (at-word, ne_eqb _ _ n, g, t)

      -- it is in an ALT: the offer is held, and it is told
      offering-tells :
          is_alt_state s ≡ true
          → offering k v (world_of m memory) ≡ notify_wake p s (whole (rest_of (holding m k v) []) m.setup m.cpu memory)
      offering-tells t = told-alt t ∙ wakes-notify (rest_of (holding m k v) []) m.setup m.cpu p s memory

      -- it is in IN: it gets the value
      offering-hands :
          is_alt_state s ≡ false
          → quiet (offering k v (world_of m memory)) ≡ quiet (hand_wake (m.setup.base + k) p s v (world_of m memory))
      unfolding deliver
      offering-hands t =
          let c = m.setup.base + k in
          ap quiet (handed-in t ∙ wakes-poke (rest_of m []) m.setup m.cpu (received c p v) s v memory)
          ∙ after-poke quiet (rest_of m []) m.setup (waking (received c p v)) (empty_wake c p) s v m.cpu memory
          (λ l. wakes-received (rest_of m []) m.setup m.cpu c p v l)

module _ (m : Machine) (memory : List ℕ) (k v : ℕ) where
  -- 11
  pub offer-short : length memory < memory_size m.setup → offer m memory k v ≡ unchanged (Err (Short (memory_size m.setup))) m memory
  unfolding offer
  offer-short h = rw (lt-ltb _ _ h)

  module _ (g : memory_size m.setup ≤ length memory) where
    -- a kept fault
    pub offer-kept : {f : FaultKind} → m.fault ≡ Some f → offer m memory k v ≡ unchanged (Err (OfferFault f)) m memory
    unfolding offer
    offer-kept e = rw (le-ltb _ _ g) (ap (λ f. offer_unless f m memory k v) e)

module _ (m : Machine) (words behind : List ℕ) (k v : ℕ) (g : memory_size m.setup ≡ length words) (e : m.fault ≡ None) where
  abbrev memory : List ℕ
  memory = words ++ behind

  long : memory_size m.setup ≤ length memory
  long = rw (length-append words behind) (omega (arith, g))

  goes : offer m memory k v ≡ offer_unless None m memory k v
  unfolding offer
  goes = rw (le-ltb _ _ long) (ap (λ f. offer_unless f m memory k v) e)

  -- 13
  pub offer-nowhere : (k < m.setup.inputs → k < 8 → ⊥) → offer m memory k v ≡ unchanged (Err NoChannel) m memory
  offer-nowhere h =
      goes ∙ rw (one-false (ltb k m.setup.inputs) (ltb k 8) (λ a b. h (ltb-true _ _ a) (ltb-true _ _ b)))

  module _ (i : k < m.setup.inputs) (j : k < 8) where
    -- 14
    pub offer-again : get_or m.held k false ≡ true → offer m memory k v ≡ unchanged (Err Held) m memory
    offer-again h = goes ∙ rw (lt-ltb _ _ i, lt-ltb _ _ j, h)

    module _ (h : get_or m.held k false ≡ false) where
      came : offer m memory k v ≡ offered (offering k v (world_of m memory)) m memory
      came = goes ∙ rw (lt-ltb _ _ i, lt-ltb _ _ j, h)

      -- what the offer came to, beside communications
      settled :
          (l : List ℕ) (n : Machine) (s : Step)
          → quiet (offering k v (world_of m memory)) ≡ quiet (told (rest_of n behind) n.setup s l) → Keeps s words l
          → Answers (offer m memory k v) (offered_by m n s).answer (offered_by m n s).machine (l ++ behind)
      settled l n (Ok q) d c =
          let t = heard (offering k v (world_of m memory)) (rest_of n behind) n.setup q (l ++ behind) d in
          rw (came, t.1) (record { answer = refl; machine = refl; memory = refl })
      settled l n (Err f) d c =
          let t = heard-fault (offering k v (world_of m memory)) f d in
          rw (came, t) (record { answer = refl; machine = refl; memory = ap (λ w. w ++ behind) c })

      module _ {p : ℕ} (at : get_or words (m.setup.base + k) 0 ≡ p) where
        a : get_or memory (m.setup.base + k) 0 ≡ p
        a =
            let w : m.setup.base + k < length words = omega (arith, g) in
            get_or-append words behind 0 _ w ∙ at

        -- no process is at the channel's word
        pub offer-held :
            p ≡ not_process → offer m memory k v ≡ record { answer = Ok tt; machine = holding m k v; memory = memory; talk = [] }
        offer-held n = rw (came, offering-held m memory k v i a n)

        module _ (n : p ≡ not_process → ⊥) where
          -- the process's state word is outside
          pub offer-fault :
              {f : FaultKind} → peek (state_word (space_of p)) (world_of m memory) ≡ faults f
              → Answers (offer m memory k v) (offered_by m m (Err f)).answer (offered_by m m (Err f)).machine memory
          offer-fault {f} d = settled words m (Err f) (ap quiet (offering-fault m memory k v i a n d)) refl

          module _ {s : ℕ} (d : peek (state_word (space_of p)) (world_of m memory) ≡ done s (world_of m memory)) {l : List ℕ} where
            -- it is told
            pub offer-tells :
                {q : Step} → is_alt_state s ≡ true → Does m.setup (notify_wake p s) m.cpu words q l
                → let o = offered_by m (holding m k v) q in Answers (offer m memory k v) o.answer o.machine (l ++ behind)
            offer-tells {q} t b =
                settled _ (holding m k v) q
                (ap quiet (offering-tells m memory k v i a n d t ∙ b.said (rest_of (holding m k v) behind))) b.keeps

            -- or gets the value
            pub offer-hands :
                {q : Step} → is_alt_state s ≡ false → Does m.setup (hand_wake (m.setup.base + k) p s v) m.cpu words q l
                → Answers (offer m memory k v) (offered_by m m q).answer (offered_by m m q).machine (l ++ behind)
            offer-hands {q} t b =
                settled _ m q (offering-hands m memory k v i a n d t ∙ ap quiet (b.said (rest_of m behind))) b.keeps
