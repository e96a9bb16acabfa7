-- Every list of calls: runs, offers and takes, with whatever they are lent.
use Prim.Native.Nat.{ℕ, zero, suc, ◌-◌, ◌^◌, ◌≤◌, ◌<◌}
use native.Mathlib.Omega.{arith}
use mathlib.Core.Path.{◌≡◌, refl, sym, ap, ◌∙◌, subst}
use mathlib.Core.Logic.{◌⊎◌, inl, inr}
use mathlib.Core.Bool.{Bool, true, false, cond, ◌||◌, ◌&&◌}
use mathlib.Core.List.{List, [], ◌∷◌, ◌++◌, map, append-nil, append_assoc}
use mathlib.Core.Option.{none, some}
use lib.ListN as Ls
use lib.ListN.{length, get_or, drop, length-append, length-take, take-append-drop, get_or-append}
use lib.Dec.{ltb}
use borrow.Author.Tests.{ltb-true, ltb-false}
use Rattle.model.specs.Word.{low, after}
use Rattle.model.specs.Syntax.{output_of}
use Rattle.model.specs.Accept.{limit}
use Rattle.model.specs.Machine.{World, done, memory_size}
use Rattle.model.specs.Run.{After, unchanged, world_of, short_memory, earlier_clock, beginning, run}
use Rattle.model.specs.Outside.{taking, offered, offer_unless, took, take_unless, offer, take}
use Rattle.model.specs.Occam.{State, Communication, Event, offers, takes, Sender, held, nobody}
use Rattle.model.specs.Demand.{Segment, outside, talk_of, Watch, unpassed, keeps}
use Rattle.model.specs.History.{Call, call_run, call_offer, call_take, Moment, quietly, bytes, during, call, history, offer_event}
use Rattle.model.specs.History.{take_event}
use Rattle.model.specs.declared.Machine.{Machine}
use Rattle.model.specs.declared.Setup.{Setup}
use Rattle.std.specs.Prelude.{Err, None, Ok, Some}
use Rattle.model.specs.declared.OfferRefusal.TheVariants.{Short as OfferShort, NoChannel as OfferNoChannel, Held}
use Rattle.model.specs.declared.TakeRefusal.TheVariants.{Short as TakeShort, NoChannel as TakeNoChannel}
use Rattle.model.proofs.Cases.{by_bool, by-true, never, or_left, or_right, and_left}
use Rattle.model.proofs.Occam.Live.{most}
use Rattle.model.proofs.Invariant.Kernel.{Loaded, setup, size}
use Rattle.model.proofs.Invariant.Traces.{Trace, t-none, t-event, trace-reach, trace-most, trace-given, trace-clock}
use Rattle.model.proofs.Invariant.Running.{Inv}
use Rattle.model.proofs.Invariant.Finish.{inv-setup, inv-timed}
use Rattle.model.proofs.Steps.OneByte.{code_is}
use Rattle.model.proofs.Outside.Wakings.{Answers, answers}
use Rattle.model.proofs.Outside.Takes.{takes-does}
use Rattle.model.proofs.Outside.Offerings.{offer-held}
use Rattle.model.proofs.Outside.Offers.{offers-does}
use Rattle.model.proofs.Demand.Agreement.{inv-no-fault}
use Rattle.model.proofs.Demand.Chains.{Chain, chain-nil, chain-other, chain-append}
use Rattle.model.proofs.Demand.Lending.{inv-lent, inv-room}
use Rattle.model.proofs.Outside.Beginnings.{Begun, begun}
use Rattle.model.proofs.Demand.Watches.{watches_after, after-append, keeps-front, keeps-behind, keeps-near, on, inv-narrow}
use Rattle.model.proofs.Demand.Beginnings.{begins-on, begun-clock}
use Rattle.model.proofs.Laws.Runs.{Refused, Goes, run-goes}
use Rattle.model.proofs.Laws.Recorded.{run-afresh, during-refused, opening, during-goes}
use Rattle.model.proofs.Demand.Histories.{bound, follows, ran, run-bytes}

-- a run that is refused
run-refuses : (m : Machine) (code memory : List ℕ) (budget c : ℕ) → Refused m code memory c
    → ((run m code memory budget c).machine ≡ m) × ((run m code memory budget c).memory ≡ memory)
unfolding run
run-refuses m code memory budget c z =
    by_bool (earlier_clock m c) (λ k. (rw k, rw k))
    (λ k. by_bool (ltb (length code) m.setup.code) (λ e. (rw (k, e), rw (k, e)))
    (λ e. by_bool (short_memory m memory) (λ w. (rw (k, e, w), rw (k, e, w))) (λ w. never (cc (rw (k, e, w) at z)))))

-- a front that is longer than a list is the list with something behind it
take_past : (a b : List ℕ) (n : ℕ) → length a ≤ n → Ls.take n (a ++ b) ≡ a ++ Ls.take (n - length a) b
take_past [] b n h = let e : n ≡ n - 0 = omega arith in ap (λ z. Ls.take z b) e
take_past (x ∷ a) b zero h = absurd (omega arith)
take_past (x ∷ a) b (suc n) h =
    let e : n - length a ≡ suc n - suc (length a) = omega arith in
    ap (λ l. x ∷ l) (take_past a b n (omega arith) ∙ ap (λ z. a ++ Ls.take z b) e)

module _ (L : Loaded) where
  -- a machine and memory that a run of Occam is simulated in, and the times that are watched
  pub data Sim (xs : List Watch) (m : Machine) (memory : List ℕ) : Type 0 where
    sim : (st : State) (n : ℕ) → Inv (on L xs) (world_of m memory) st n → most st.process ≤ limit → (st.clock ≡ none → xs ≡ [])
        → Sim xs m memory

  abbrev pub state_of : {xs : List Watch} {m : Machine} {memory : List ℕ} → Sim xs m memory → State
  state_of (sim st n inv few fresh) = st

  abbrev pub left_of : {xs : List Watch} {m : Machine} {memory : List ℕ} → Sim xs m memory → ℕ
  left_of (sim st n inv few fresh) = n

  -- a moment at which nothing has happened
  same-moment : {xs : List Watch} {m : Machine} {memory : List ℕ} {st : State} {n : ℕ} (memory' : List ℕ) → memory' ≡ memory
      → Inv (on L xs) (world_of m memory) st n → Chain L.prog (bound L) (quietly m memory' ∷ []) st ([] ∷ []) st n n
  same-moment {m} {memory} {st} {n} memory' e inv =
      let same : n ≤ n = omega arith in
      chain-other (follows L {s = world_of m memory} [] (quietly m memory') refl (e ∙ sym (append-nil memory)) refl refl t-none inv) refl
      refl same
      chain-nil

  -- what a call comes to
  pub data Simulated (xs : List Watch) (c : Call) (m : Machine) (memory : List ℕ) (st : State) (n : ℕ) : Type 0 where
    simulated : (gs : List Segment)
        (s : Sim (watches_after xs (call L.code c m memory).moments) (call L.code c m memory).machine
        (call L.code c m memory).memory)
        → Chain L.prog (bound L) (call L.code c m memory).moments st gs (state_of s) n (left_of s) → Simulated xs c m memory st n

  -- an offer or a take that was answered r, over a part of the memory
  data Heard (xs : List Watch) {Answer : Type 0} (said : Answer → List Event) (rest : List ℕ) (st : State) (n : ℕ)
      (r : After Answer) : Type 0 where
    heard : (gs : List Segment) (s : Sim (unpassed r.machine.timer.clock xs) r.machine (r.memory ++ rest))
        → Chain L.prog (bound L)
        (record {
          instruction = false;
          machine = r.machine;
          memory = r.memory ++ rest;
          talk = r.talk;
          events = said r.answer;
          notes = [];
        }
        ∷ [])
        st gs (state_of s) n (left_of s)
        → Heard xs said rest st n r

  module _ {xs : List Watch} {m : Machine} {memory : List ℕ} {st : State} {n : ℕ} (inv : Inv (on L xs) (world_of m memory) st n)
      (few : most st.process ≤ limit) (fresh : st.clock ≡ none → xs ≡ []) where
    ok : m.fault ≡ None
    ok = inv-no-fault (on L xs) inv

    set : m.setup ≡ setup L
    set = inv-setup (on L xs) inv

    -- the same machine over a part that is long enough, and back over the whole
    lent-part : (part rest : List ℕ) → part ++ rest ≡ memory → short_memory m part ≡ false → Inv (on L xs) (world_of m part) st n
    lent-part part rest e b =
        let fits : size L ≤ length part = omega (arith, ltb-false (length part) (memory_size m.setup) b, ap memory_size set) in
        inv-lent (on L xs) {s = world_of m memory} part [] fits
        (λ a h. sym (get_or-append part rest 0 a (omega (arith, fits))) ∙ ap (λ l. get_or l a 0) e) inv

    -- a refused call changes nothing
    refused : {Answer : Type 0} {said : Answer → List Event} {part rest : List ℕ} (a : Answer) → said a ≡ [] → part ++ rest ≡ memory
        → {r : After Answer} → r ≡ unchanged a m part → Heard xs said rest st n r
    refused {said = said} {part} {rest} a q e {r} z =
        let kept : Inv (on L xs) (world_of m (part ++ rest)) st n = subst (λ y. Inv (on L xs) (world_of m y) st n) (sym e) inv in
        let same : n ≤ n = omega arith in
        subst (λ y. Heard xs said rest st n y) (sym z)
        (heard ([] ∷ []) (sim st n (inv-narrow L kept) few (λ z. ap (unpassed m.timer.clock) (fresh z)))
        (chain-other (follows L {s = world_of m (part ++ rest)} [] _ refl (sym (append-nil (part ++ rest))) refl q t-none kept) refl refl
        same
        chain-nil))

    -- what Occam does with an offer or a take, and the machine over a part of the memory
    told : {Answer : Type 0} {said : Answer → List Event} (rest : List ℕ) (u : World) {st' : State} {k : ℕ}
        {cs : List Communication} {e : Event}
        (g : Segment) (a : Answer) → Trace st g st' cs (e ∷ []) → u.talk ≡ map (talk_of L.prog) cs
        → said a ≡ e ∷ [] → Inv (on L xs) u st' k → k ≤ n
        → {r : After Answer} → r ≡ record { answer = a; machine = u.machine; memory = u.memory; talk = u.talk }
        → Heard xs said rest st n r
    told {said = said} rest u {st'} {k} g a ms talk q inv' le {r} z =
        let fits : size L ≤ length (u.memory ++ rest) = omega (arith, inv-room (on L xs) inv', length-append u.memory rest) in
        let over-all : Inv (on L xs) (world_of u.machine (u.memory ++ rest)) st' k =
        inv-lent (on L xs) {s = u} (u.memory ++ rest) [] fits
        (λ i h. get_or-append u.memory rest 0 i (omega (arith, inv-room (on L xs) inv'))) inv' in
        let few' : most st'.process ≤ limit = omega (arith, trace-most ms) in
        subst (λ y. Heard xs said rest st n y) (sym z)
        (heard (g ∷ []) (sim st' k (inv-narrow L over-all) few' (λ z. ap (unpassed u.machine.timer.clock) (fresh (trace-given ms z))))
        (chain-other (follows L {s = u} rest _ refl refl talk q ms inv') (trace-reach ms) refl le chain-nil))

    -- an offer
    module _ (part rest : List ℕ) (e : part ++ rest ≡ memory) where
      -- without a fault and over enough words
      offer-open : (k v : ℕ) → short_memory m part ≡ false → offer m part k v ≡ offer_unless None m part k v
      unfolding offer
      offer-open k v b = let e : offer m part k v ≡ offer_unless m.fault m part k v = rw b in e ∙ ap (λ f. offer_unless f m part k v) ok

      take_open : (k : ℕ) → short_memory m part ≡ false → take m part k ≡ take_unless None m part k
      unfolding take
      take_open k b = let e : take m part k ≡ take_unless m.fault m part k = rw b in e ∙ ap (λ f. take_unless f m part k) ok

      offer-goes : (k v : ℕ) → v < 2 ^ 32 → short_memory m part ≡ false → (ltb k m.setup.inputs && ltb k 8) ≡ true
          → Heard xs (offer_event k v) rest st n (offer m part k v)
      offer-goes k v small b c = by_bool (get_or m.held k false) already first
        where
          below : k < L.prog.inputs
          below =
              omega (
                arith,
                ltb-true k m.setup.inputs (and_left (ltb k m.setup.inputs) (ltb k 8) c),
                ap (λ (u : Setup). u.inputs) set,
              )

          part-inv : Inv (on L xs) (world_of m part) st n
          part-inv = lent-part part rest e b

          already : get_or m.held k false ≡ true → Heard xs (offer_event k v) rest st n (offer m part k v)
          already h =
              let (u, there) = offer-held (on L xs) part-inv k below h in
              let same : n ≤ n = omega arith in
              told rest (world_of m part) (outside (offers k v (Err Held)) [] st ∷ []) (Err Held) (t-event (held there) t-none)
              refl refl part-inv same
              (offer-open k v b ∙ rw (c, h))

          first : get_or m.held k false ≡ false → Heard xs (offer_event k v) rest st n (offer m part k v)
          first h = elim (offers-does (on L xs) part-inv k v below small h) [
            | answers u g d ms talk inv' le ↦
                told rest u g (Ok tt) ms talk refl inv' le (offer-open k v b ∙ rw (c, h) (ap (λ r. offered r m part) d))
          ]

      call-offers : (k v : ℕ) → v < 2 ^ 32 → Heard xs (offer_event k v) rest st n (offer m part k v)
      unfolding offer
      call-offers k v small =
          by_bool (short_memory m part) (λ b. refused {part = part} {rest = rest} (Err (OfferShort (memory_size m.setup))) refl e (rw b))
          (λ b. by_bool (ltb k m.setup.inputs && ltb k 8) (λ c. offer-goes k v small b c)
          (λ c. refused {part = part} {rest = rest} (Err OfferNoChannel) refl e (offer-open k v b ∙ rw c)))

      -- a take
      take-goes : (k : ℕ) → short_memory m part ≡ false → ltb k m.setup.outputs ≡ true → Heard xs (take_event k) rest st n (take m part k)
      take-goes k b c = by (takes-does (on L xs) part-inv k below)
        where
          below : k < L.prog.outputs
          below = omega (arith, ltb-true k m.setup.outputs c, ap (λ (u : Setup). u.outputs) set)

          part-inv : Inv (on L xs) (world_of m part) st n
          part-inv = lent-part part rest e b

          by : ((taking k (world_of m part) ≡ done none (world_of m part)) × (Sender st (output_of k) → ⊥))
              ⊎ ((v : ℕ) × Answers (on L xs) (λ u. taking k (world_of m part) ≡ done (some v) u) (world_of m part) st
              (takes k (Ok (Some v))) n)
              → Heard xs (take_event k) rest st n (take m part k)
          by (inl (d, nobody-there)) =
              let same : n ≤ n = omega arith in
              told rest (world_of m part) (outside (takes k (Ok None)) [] st ∷ []) (Ok None)
              (t-event (nobody nobody-there) t-none) refl refl part-inv same
              (take_open k b ∙ rw c (ap (λ r. took r m part) d))
          by (inr (v, answers u g d ms talk inv' le)) =
              told rest u g (Ok (Some v)) ms talk refl inv' le (take_open k b ∙ rw c (ap (λ r. took r m part) d))

      call-takes : (k : ℕ) → Heard xs (take_event k) rest st n (take m part k)
      unfolding take
      call-takes k =
          by_bool (short_memory m part) (λ b. refused {part = part} {rest = rest} (Err (TakeShort (memory_size m.setup))) refl e (rw b))
          (λ b. by_bool (ltb k m.setup.outputs) (λ c. take-goes k b c)
          (λ c. refused {part = part} {rest = rest} (Err TakeNoChannel) refl e (take_open k b ∙ rw c)))

    -- a run's moments, the last one with what it leaves
    data RunEnd (rest : List ℕ) (dur : List Moment) (m' : Machine) (part : List ℕ) : Type 0 where
      run_end : (gs : List Segment) (s : Sim (watches_after xs (dur ++ quietly m' (part ++ rest) ∷ [])) m' (part ++ rest))
          → Chain L.prog (bound L) (dur ++ quietly m' (part ++ rest) ∷ []) st gs (state_of s) n (left_of s)
          → RunEnd rest dur m' part

    run_ends : {st' : State} {k : ℕ} {dur : List Moment} {gs : List Segment} (rest : List ℕ) (t : World)
        → Chain L.prog (bound L) dur st gs st' n k → Inv (on L (watches_after xs dur)) t st' k → most st'.process ≤ limit
        → (st'.clock ≡ none → ⊥) → RunEnd rest dur t.machine t.memory
    unfolding watches_after
    run_ends {st'} {k} {dur} {gs} rest t c inv' few' given =
        let ys = on L (watches_after xs dur) in
        let fits : size L ≤ length (t.memory ++ rest) = omega (arith, inv-room ys inv', length-append t.memory rest) in
        let all = t.memory ++ rest in
        let over : Inv ys (world_of t.machine all) st' k =
        inv-lent ys {s = t} all [] fits (λ a h. get_or-append t.memory rest 0 a (omega (arith, inv-room ys inv'))) inv' in
        let last = quietly t.machine all ∷ [] in
        run_end (gs ++ ([] ∷ []))
        (sim st' k (subst (λ l. Inv (on L l) (world_of t.machine all) st' k) (sym (after-append xs dur last)) (inv-narrow L over)) few'
        (λ z. absurd (given z)))
        (chain-append c (same-moment all refl over))

    module _ (part rest : List ℕ) (e : part ++ rest ≡ memory) (budget c : ℕ) (word : c < 2 ^ 32) where
      -- a run that is refused
      run-refused : (code : List ℕ) → Refused m code part c
          → RunEnd rest (during m code part rest budget c) (run m code part budget c).machine (run m code part budget c).memory
      unfolding watches_after
      run-refused code z =
          let (a, b) = run-refuses m code part budget c z in
          let kept : Inv (on L xs) (world_of m (part ++ rest)) st n = subst (λ y. Inv (on L xs) (world_of m y) st n) (sym e) inv in
          let on-kept = inv-narrow L kept in
          rw (during-refused m code part rest c z budget, a, b)
          (run_end (([] ∷ []) ++ ([] ∷ [])) (sim st n (inv-narrow L on-kept) few
          (λ z. ap (λ l. unpassed m.timer.clock (unpassed m.timer.clock l)) (fresh z)))
          (chain-append (same-moment (part ++ rest) refl kept) (same-moment (part ++ rest) refl on-kept)))

      -- the clock moves
      later-clock : earlier_clock m c ≡ false → (t : ℕ) → st.clock ≡ some t → after t c ≡ false
      later-clock z t f = by m.timer.given m.timer.clock z ((inv-timed (on L xs) inv).clock-same ∙ f)
        where
          by : (g : Bool) (k : ℕ) → (g && after k c) ≡ false → cond g (some k) none ≡ some t → after t c ≡ false
          by true k z f = let same : k ≡ t = cc in rw same at z
          by false k z f = never (cc)

      -- a run that is lent enough
      module _ (more : List ℕ) (z : earlier_clock m c ≡ false) (a : ltb (length (L.code ++ more)) m.setup.code ≡ false)
          (b : short_memory m part ≡ false) (kept : keeps xs (during m (L.code ++ more) part rest budget c) ≡ true) where
        abbrev code : List ℕ
        code = L.code ++ more

        abbrev goes : (u : World) → beginning c (world_of m part) ≡ done tt u → Goes m code part c
        goes u d =
            record { not_earlier = z; code-long = a; memory-long = b; no-fault = ok; begun = u; begins = d }

        -- the condition from the beginning's moment on
        kept_on : (u : World) → beginning c (world_of m part) ≡ done tt u
            → keeps xs (opening m code part rest c u ∷ bytes budget code rest (world_of u.machine u.memory)) ≡ true
        kept_on u d = subst (λ l. keeps xs l ≡ true) (during-goes m code part rest c (goes u d) budget) kept

        begun-so : Begun (on L (unpassed c xs)) c (world_of m part) st n
        begun-so =
            begins-on L c word (later-clock z) fresh (lent-part part rest e b)
            (λ u d. keeps-near xs (opening m code part rest c u) (bytes budget code rest (world_of u.machine u.memory)) (kept_on u d))

        run-whole : Begun (on L (unpassed c xs)) c (world_of m part) st n
            → RunEnd rest (during m code part rest budget c) (run m code part budget c).machine (run m code part budget c).memory
        unfolding watches_after
        run-whole (begun u {st'} {m = k} g d talk ms inv' le) =
            let now = opening m code part rest c u in
            let ys = unpassed u.machine.timer.clock xs in
            let t = world_of u.machine u.memory in
            let clock-is : unpassed c xs ≡ ys = ap (λ y. unpassed y xs) (sym (begun-clock (on L (unpassed c xs)) ms inv')) in
            let inv-ys : Inv (on L ys) u st' k = subst (λ l. Inv (on L l) u st' k) clock-is inv' in
            let fits : size L ≤ length u.memory = inv-room (on L ys) inv-ys in
            let few' : most st'.process ≤ limit = omega (arith, trace-most ms) in
            let first : Chain L.prog (bound L) (now ∷ []) st (g ∷ []) st' n k =
            chain-other (follows L {xs = ys} {s = u} rest now refl refl talk refl ms inv-ys) (trace-reach ms) refl le chain-nil in
            elim (run-bytes L more rest ys budget 0 t st' k refl (inv-lent (on L ys) u.memory [] fits (λ a h. refl) inv-ys) few'
            (keeps-behind xs (now ∷ []) (bytes budget code rest t) (kept_on u d))) [
              | ran v ch em er inv'' few'' given ↦
                  let (am, ar) = run-afresh code budget 0 u in
                  rw (during-goes m code part rest c (goes u d) budget, run-goes (goes u d) budget, am ∙ em, ar ∙ er)
                  (run_ends {dur = now ∷ bytes budget code rest t} rest v (chain-append first ch) inv'' few''
                  (λ z. never (cc (given z, trace-clock ms))))
            ]

      -- a run that is lent a part of the code with anything behind it
      run-any : (behind : List ℕ) (code_lent : ℕ)
          → let code = Ls.take code_lent (L.code ++ behind) in
          keeps xs (during m code part rest budget c) ≡ true
          → RunEnd rest (during m code part rest budget c) (run m code part budget c).machine (run m code part budget c).memory
      run-any behind code_lent kept =
          let code = Ls.take code_lent (L.code ++ behind) in
          let short = ltb (length code) m.setup.code in
          by_bool (earlier_clock m c || short || short_memory m part) (λ z. run-refused code z)
          (λ z.
          let y = or_left (earlier_clock m c || short) (short_memory m part) z in
          let b = or_right (earlier_clock m c || short) (short_memory m part) z in
          let k = or_left (earlier_clock m c) short y in
          let a = or_right (earlier_clock m c) short y in
          let long : length L.code ≤ code_lent =
          omega (
            arith,
            ltb-false (length code) m.setup.code a,
            length-take code_lent (L.code ++ behind),
            code_is L (world_of m memory) set,
          ) in
          let more = Ls.take (code_lent - length L.code) behind in
          let front : code ≡ L.code ++ more = take_past L.code behind code_lent long in
          let kept-front = subst (λ l. keeps xs (during m l part rest budget c) ≡ true) front kept in
          subst (λ l. RunEnd rest (during m l part rest budget c) (run m l part budget c).machine (run m l part budget c).memory)
          (sym front) (run-whole more k (rw front at a) b kept-front (begun-so more k (rw front at a) b kept-front)))

    call-run : (behind : List ℕ) (code_lent lent budget c : ℕ)
        → keeps xs (call L.code (call_run behind code_lent lent budget c) m memory).moments ≡ true
        → Simulated xs (call_run behind code_lent lent budget c) m memory st n
    unfolding call
    call-run behind code_lent lent budget c kept =
        let lent_code = Ls.take code_lent (L.code ++ behind) in
        elim (run-any (Ls.take lent memory) (drop lent memory) (take-append-drop lent memory) budget (low c) (omega arith) behind
        code_lent (keeps-front xs (during m lent_code (Ls.take lent memory) (drop lent memory) budget (low c)) _ kept)) [
          | run_end gs s c ↦ simulated gs s c
        ]

    call-offer : (lent k v : ℕ) → Simulated xs (call_offer lent k v) m memory st n
    unfolding call watches_after
    call-offer lent k v =
        elim (call-offers (Ls.take lent memory) (drop lent memory) (take-append-drop lent memory) k (low v) (omega arith)) [
          | heard gs s c ↦ simulated gs s c
        ]

    call-take : (lent k : ℕ) → Simulated xs (call_take lent k) m memory st n
    unfolding call watches_after
    call-take lent k = elim (call-takes (Ls.take lent memory) (drop lent memory) (take-append-drop lent memory) k) [
      | heard gs s c ↦ simulated gs s c
    ]

  call_sim : {xs : List Watch} (c : Call) (m : Machine) (memory : List ℕ) (s : Sim xs m memory)
      → keeps xs (call L.code c m memory).moments ≡ true → Simulated xs c m memory (state_of s) (left_of s)
  call_sim (call_run behind code_lent lent budget c) m memory
      (sim st n inv few fresh) kept = call-run inv few fresh behind code_lent lent budget c kept
  call_sim (call_offer lent k v) m memory (sim st n inv few fresh) kept = call-offer inv few fresh lent k v
  call_sim (call_take lent k) m memory (sim st n inv few fresh) kept = call-take inv few fresh lent k

  -- the run of a list of calls
  abbrev segments_of : {xs : List Watch} {c : Call} {m : Machine} {memory : List ℕ} {st : State} {n : ℕ} → Simulated xs c m memory st n
      → List Segment
  segments_of (simulated gs s c) = gs

  abbrev next_of : {xs : List Watch} {c : Call} {m : Machine} {memory : List ℕ} {st : State} {n : ℕ} → Simulated xs c m memory st n
      → Sim (watches_after xs (call L.code c m memory).moments) (call L.code c m memory).machine (call L.code c m memory).memory
  next_of (simulated gs s c) = s

  -- as far as the condition on times is kept
  pub run-from : {xs : List Watch} (cs : List Call) (m : Machine) (memory : List ℕ) → Sim xs m memory → List Segment
  run-from [] m memory s = []
  run-from {xs} (c ∷ cs) m memory s =
      by_bool (keeps xs (call L.code c m memory).moments)
      (λ k.
      segments_of (call_sim c m memory s k)
      ++ run-from {xs = watches_after xs (call L.code c m memory).moments} cs (call L.code c m memory).machine
      (call L.code c m memory).memory
      (next_of (call_sim c m memory s k)))
      (λ k. [])

  run-first : {xs : List Watch} (c : Call) (cs : List Call) (m : Machine) (memory : List ℕ) (s : Sim xs m memory)
      (k : keeps xs (call L.code c m memory).moments ≡ true)
      → run-from (c ∷ cs) m memory s
      ≡ segments_of (call_sim c m memory s k)
      ++ run-from cs (call L.code c m memory).machine (call L.code c m memory).memory (next_of (call_sim c m memory s k))
  unfolding run-from
  run-first {xs} c cs m memory s k = by-true (keeps xs (call L.code c m memory).moments) _ _ k

  pub run-grows : {xs : List Watch} (cs : List Call) (c : Call) (m : Machine) (memory : List ℕ) (s : Sim xs m memory)
      → keeps xs (history L.code (cs ++ c ∷ []) m memory) ≡ true
      → (more : List Segment) × (run-from (cs ++ c ∷ []) m memory s ≡ run-from cs m memory s ++ more)
  unfolding run-from history
  run-grows [] c m memory s kept = (run-from (c ∷ []) m memory s, refl)
  run-grows {xs} (d ∷ cs) c m memory s kept =
      let r = call L.code d m memory in
      let k = keeps-front xs r.moments (history L.code (cs ++ c ∷ []) r.machine r.memory) kept in
      let on-kept = keeps-behind xs r.moments (history L.code (cs ++ c ∷ []) r.machine r.memory) kept in
      let t = call_sim d m memory s k in
      let (more, e) = run-grows {xs = watches_after xs r.moments} cs c r.machine r.memory (next_of t) on-kept in (
        more,
        run-first d (cs ++ c ∷ []) m memory s k ∙ ap (λ l. segments_of t ++ l) e ∙ sym (append_assoc (segments_of t) _ more)
            ∙ ap (λ l. l ++ more) (sym (run-first d cs m memory s k)),
      )

  pub data Linked (ms : List Moment) (st : State) (gs : List Segment) (n : ℕ) : Type 0 where
    linked : {st' : State} {k : ℕ} → Chain L.prog (bound L) ms st gs st' n k → Linked ms st gs n

  link : {xs : List Watch} {c : Call} {m : Machine} {memory : List ℕ} {st : State} {n : ℕ} {ms : List Moment} {gs : List Segment}
      (r : Simulated xs c m memory st n)
      → Linked ms (state_of (next_of r)) gs (left_of (next_of r))
      → Linked ((call L.code c m memory).moments ++ ms) st (segments_of r ++ gs) n
  link (simulated gs s c) (linked d) = linked (chain-append c d)

  pub run-matches : {xs : List Watch} (cs : List Call) (m : Machine) (memory : List ℕ) (s : Sim xs m memory)
      → keeps xs (history L.code cs m memory) ≡ true
      → Linked (history L.code cs m memory) (state_of s) (run-from cs m memory s) (left_of s)
  unfolding run-from history
  run-matches [] m memory s kept = linked chain-nil
  run-matches {xs} (c ∷ cs) m memory s kept =
      let r = call L.code c m memory in
      let k = keeps-front xs r.moments (history L.code cs r.machine r.memory) kept in
      let t = call_sim c m memory s k in
      subst (λ l. Linked (history L.code (c ∷ cs) m memory) (state_of s) l (left_of s)) (sym (run-first c cs m memory s k))
      (link t (run-matches {xs = watches_after xs r.moments} cs r.machine r.memory (next_of t)
      (keeps-behind xs r.moments (history L.code cs r.machine r.memory) kept)))
