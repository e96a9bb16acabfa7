-- From one byte to a run, and from a call to every list of calls: the Occam run that grows with the list.
use Prim.Native.Nat.{ℕ, zero, suc, ◌*◌, ◌≤◌}
use native.Mathlib.Omega.{arith}
use mathlib.Core.Path.{◌≡◌, refl, sym, ap, ◌∙◌, subst}
use mathlib.Core.Bool.{true, false, ◌||◌}
use mathlib.Core.List.{List, [], ◌∷◌, ◌++◌, map}
use lib.ListN.{length}
use Rattle.model.specs.Accept.{limit}
use Rattle.model.specs.Machine.{World, done}
use Rattle.model.specs.Run.{Finish, world_of, byte, ended, waits, run_from}
use Rattle.model.specs.Occam.{State, Communication, Event}
use Rattle.model.specs.Demand.{Segment, talk_of, Follows, Watch, noting, unpassed, keeps, all_near}
use Rattle.model.specs.History.{Note, notes, Moment, executed, bytes}
use Rattle.model.proofs.Cases.{by_bool, or_left, or_right}
use Rattle.model.proofs.Quiet.Setting.{whole}
use Rattle.model.proofs.Occam.Live.{most}
use Rattle.model.proofs.Invariant.Kernel.{Loaded, S, size}
use Rattle.model.proofs.Invariant.Traces.{Trace, trace-valid, trace-reach, trace-talk, trace-events, trace-most, trace-given}
use Rattle.model.proofs.Invariant.Running.{Inv, Did, came}
use Rattle.model.proofs.Invariant.Finish.{inv-setup}
use Rattle.model.proofs.Steps.OneByte.{code_is, inv-inside, Byte}
use Rattle.model.proofs.Demand.Agreement.{inv-agrees}
use Rattle.model.proofs.Laws.RunSteps.{run_on}
use Rattle.model.proofs.Laws.Recorded.{run-stays, bytes-stay, run_none, bytes-go, run-afresh}
use Rattle.model.proofs.Demand.Chains.{Chain, chain-nil, chain-byte}
use Rattle.model.proofs.Demand.Watches.{watches_after, keeps-behind, keeps-near, on, inv-narrow, byte-on}
use Rattle.model.proofs.Demand.Lending.{byte-lent, notes-lent, inv-lent, inv-few, inv-room}
use mathlib.Core.Option.{none}

module _ (L : Loaded) where
  abbrev pub bound : ℕ
  bound = limit * whole (S L)

  -- moves are a segment for a moment with their communications and events
  pub follows : {xs : List Watch} {s : World} {st st' : State} {g : Segment} {cs : List Communication} {es : List Event} {n : ℕ}
      (rest : List ℕ) (now : Moment)
      → now.machine ≡ s.machine → now.memory ≡ s.memory ++ rest → now.talk ≡ map (talk_of L.prog) cs → now.events ≡ es
      → Trace st g st' cs es → Inv (on L xs) s st' n → Follows L.prog now st g
  follows {xs} rest now em er et ee ms inv =
      record {
        valid = trace-valid ms;
        same-talk = ap (map (talk_of L.prog)) (trace-talk ms) ∙ sym et;
        same-events = trace-events ms ∙ sym ee;
        agrees = rw (trace-reach ms) (inv-agrees (on L xs) rest now em er (λ w t c k. k.ahead) tt inv);
      }

  -- a run's bytes, from times that are watched to those that are then
  pub data Ran (xs : List Watch) (b n₀ : ℕ) (code : List ℕ) (s : World) (st : State) (n : ℕ) (rest : List ℕ) : Type 0 where
    ran : {gs : List Segment} {st' : State} {k : ℕ} (t : World) → Chain L.prog bound (bytes b code rest s) st gs st' n k
        → (run_from b code n₀ s).world.machine ≡ t.machine → (run_from b code n₀ s).world.memory ≡ t.memory
        → Inv (on L (watches_after xs (bytes b code rest s))) t st' k → most st'.process ≤ limit → (st'.clock ≡ none → st.clock ≡ none)
        → Ran xs b n₀ code s st n rest

  module _ (more rest : List ℕ) where
    abbrev lent : List ℕ
    lent = L.code ++ more

    run-rest : {xs : List Watch} (b n₀ : ℕ) (s : World) {st : State} {n : ℕ} → (ended s.machine || waits s.machine) ≡ true
        → Inv (on L xs) s st n → most st.process ≤ limit → Ran xs b n₀ lent s st n rest
    unfolding watches_after
    run-rest {xs} b n₀ s {st} {n} e inv few =
        let stay = bytes-stay lent b rest s e in
        let c : Chain L.prog bound (bytes b lent rest s) st [] st n n = rw stay chain-nil in
        let stays = run-stays lent b n₀ s e in
        ran s c (ap (λ (w : World). w.machine) stays) (ap (λ (w : World). w.memory) stays)
        (subst (λ l. Inv (on L (watches_after xs l)) s st n) (sym stay) inv) few (λ z. z)

    module _ {xs : List Watch} (b n₀ : ℕ) (s : World) {st : State} {n : ℕ} (z : s.talk ≡ []) (e : ended s.machine ≡ false)
        (w : waits s.machine ≡ false) (inv : Inv (on L xs) s st n) (few : most st.process ≤ limit)
        (kept : keeps xs (bytes (suc b) lent rest s) ≡ true) where
      abbrev ns : List Note
      ns = notes lent s.machine

      lent-byte : {t : World} → Byte L s t → byte lent s ≡ done tt t
      lent-byte d = byte-lent L.code more s (code_is L s (inv-setup (on L xs) inv)) ∙ d

      -- the condition from the byte's moment on
      kept_on : (t : World) → Byte L s t
          → keeps xs (executed ns t rest ∷ bytes b lent rest (world_of t.machine t.memory)) ≡ true
      kept_on t d = subst (λ l. keeps xs l ≡ true) (bytes-go lent b rest s t e w (lent-byte d)) kept

      byte-did : Did (on L (noting ns xs)) (Byte L s) s st n
      byte-did =
          let same = notes-lent L.code more s.machine (inv-inside (on L xs) inv e w) in
          subst (λ l. Did (on L (noting l xs)) (Byte L s) s st n) (sym same)
          (byte-on L inv e w
          (λ t d.
          subst (λ l. all_near t.machine.timer.clock (noting l xs) ≡ true) same
          (keeps-near xs (executed ns t rest) (bytes b lent rest (world_of t.machine t.memory)) (kept_on t d))))

      run-byte : ((ys : List Watch) (t : World) (st' : State) (k : ℕ) → t.talk ≡ [] → Inv (on L ys) t st' k → most st'.process ≤ limit
          → keeps ys (bytes b lent rest t) ≡ true → Ran ys b (suc n₀) lent t st' k rest)
          → Did (on L (noting ns xs)) (Byte L s) s st n → Ran xs (suc b) n₀ lent s st n rest
      unfolding watches_after
      run-byte rec (came t {st'} {m} {cs} g d ms talk inv' fewer) =
          let d' = lent-byte d in
          let said : t.talk ≡ map (talk_of L.prog) cs = talk ∙ rw z in
          let few' : most st'.process ≤ limit = omega (arith, trace-most ms) in
          let on-ys = on L (noting ns xs) in
          let fits : size L ≤ length t.memory = inv-room on-ys inv' in
          let here = executed ns t rest in
          let f : Follows L.prog here st g = follows {xs = noting ns xs} {s = t} rest here refl refl said refl ms inv' in
          let (am, ar) = run-afresh lent b (suc n₀) t in
          let ys = unpassed t.machine.timer.clock (noting ns xs) in
          let u = world_of t.machine t.memory in
          let inv'' = inv-lent (on L ys) t.memory [] fits (λ a h. refl) (inv-narrow L inv') in
          elim (rec ys u st' m refl inv'' few' (keeps-behind xs (here ∷ []) (bytes b lent rest u) (kept_on t d))) [
            | ran {gs} {st' = st₂} {k} v c em er inv₂ few₂ given₂ ↦
                let moments = bytes-go lent b rest s t e w d' in
                let all : Chain L.prog bound (bytes (suc b) lent rest s) st (g ∷ gs) st₂ n k =
                rw moments (chain-byte f (trace-reach ms) refl (inv-few on-ys inv' few') fewer c) in
                let goes = run_on lent n₀ s e w b t d' in
                ran v all (ap (λ (r : Finish). r.world.machine) goes ∙ am ∙ em)
                (ap (λ (r : Finish). r.world.memory) goes ∙ ar ∙ er)
                (subst (λ l. Inv (on L (watches_after xs l)) v st₂ k) (sym moments) inv₂) few₂ (λ z. trace-given ms (given₂ z))
          ]

    pub run-bytes : (xs : List Watch) (b n₀ : ℕ) (s : World) (st : State) (n : ℕ) → s.talk ≡ [] → Inv (on L xs) s st n
        → most st.process ≤ limit → keeps xs (bytes b lent rest s) ≡ true → Ran xs b n₀ lent s st n rest
    unfolding bytes watches_after
    run-bytes xs zero n₀ s st n z inv few kept =
        let c : Chain L.prog bound (bytes zero lent rest s) st [] st n n = chain-nil in
        let stays = run_none lent n₀ s in
        ran s c (ap (λ (w : World). w.machine) stays) (ap (λ (w : World). w.memory) stays) inv few (λ z. z)
    run-bytes xs (suc b) n₀ s st n z inv few kept =
        by_bool (ended s.machine || waits s.machine)
        (λ e. run-rest (suc b) n₀ s e inv few)
        (λ e.
        let goes : ended s.machine ≡ false = or_left (ended s.machine) (waits s.machine) e in
        let busy : waits s.machine ≡ false = or_right (ended s.machine) (waits s.machine) e in
        run-byte b n₀ s z goes busy inv few kept (λ ys t st' k. run-bytes ys b (suc n₀) t st' k)
        (byte-did b n₀ s z goes busy inv few kept))
