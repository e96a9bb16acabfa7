-- The laws of specs/Laws.antt.
use Prim.Native.Nat.{ℕ, zero, suc, ◌+◌, ◌-◌, ◌^◌}
use native.Mathlib.Omega.{arith}
use native.Mathlib.Nat.{zero-add, suc-add, add-suc, add-zero}
use mathlib.Core.Path.{◌≡◌, refl, ap, ◌∙◌, subst}
use mathlib.Core.Bool.{true, false, ◌&&◌, ◌||◌}
use mathlib.Core.List.{List, [], append-nil}
use lib.ListN.{length, get_or, drop}
use lib.Dec.{ltb, leb}
use Rattle.model.specs.Word.{signed, after}
use Rattle.model.specs.Limits.{code_limit, word_limit, channel_limit, slice_limit}
use Rattle.model.specs.Answers.{KeptFault, RunAnswer, StartAnswer, OfferAnswer, TakeAnswer}
use Rattle.model.specs.Machine.{Talk, World, Result, done, faults, memory_size}
use Rattle.model.specs.Run.{byte, ended, waits, beginning, keep, Finish, run_from, short_memory, After, unchanged, world_of, finished}
use Rattle.model.specs.Run.{kept_or_run, begun_run, earlier_clock, run, fresh, blank, cleared, start}
use Rattle.model.specs.Outside.{offering, offered, offer_unless, offer, taking, took as took_by, take_unless, take}
use Rattle.model.specs.Laws.{counted, and_then, Splits, Beyond, KeepsBeyond, OfferKeepsBeyond, TakeKeepsBeyond, bytes, Took}
use Rattle.model.specs.Laws.{WakesNobody, CountsSteps, begun, not-begun}
use Rattle.model.specs.declared.Machine.{Machine}
use Rattle.model.specs.declared.FaultKind.{FaultKind}
use Rattle.std.specs.Prelude.{Err, None, Ok, Some}
use Rattle.model.specs.declared.RunRefusal.TheVariants.{EarlierClock, Short as RunShort}
use Rattle.model.specs.declared.TakeRefusal.TheVariants.{Short as TakeShort, Fault as TakeFault, NoChannel}
use Rattle.model.specs.declared.Outcome.{Outcome}
use Rattle.model.specs.declared.Outcome.TheVariants.{Ended, Waiting, Spent, Fault as RunFault}
use Rattle.model.specs.declared.Setup.{Setup}
use Rattle.model.proofs.Cases.{by_bool, of-cond, never}
use Rattle.model.proofs.Laws.Made.{clocked, beginning-is}
use Rattle.model.proofs.Laws.Regular.{behind, Same, Regular, by_alike, seq, returned, of-byte, of-offering, of-taking, of-begins}

pub by_result : {A R : Type 0} (r : Result A) → ((a : A) (s : World) → r ≡ done a s → R) → ((k : FaultKind) → r ≡ faults k → R) → R
by_result (done a s) d f = d a s refl
by_result (faults k) d f = f k refl

pub by-kept : {R : Type 0} (k : KeptFault) → (k ≡ None → R) → ((f : FaultKind) → k ≡ Some f → R) → R
by-kept None n f = n refl
by-kept (Some k) n f = f k refl

one_more : (n : ℕ) → 1 + n ≡ suc n
one_more n = omega arith

-- a finish with n instructions and the communications t before it
abbrev pub preceded : ℕ → List Talk → Finish → Finish
preceded n t f = record { outcome = counted n f.outcome; world = behind t f.world }

-- with b more to spend, only a spent run goes on
abbrev extended : ℕ → List ℕ → Outcome → World → Finish
extended b code (Spent n) s = run_from b code n s
extended b code (Ended n) s = record { outcome = Ended n; world = s }
extended b code (Waiting n) s = record { outcome = Waiting n; world = s }
extended b code (RunFault n k) s = record { outcome = RunFault n k; world = s }

module _ (code : List ℕ) where
  -- a run goes the same way whatever was before it
  pub run-behind : (b n k : ℕ) (t : List Talk) (s : World) → run_from b code (n + k) (behind t s) ≡ preceded n t (run_from b code k s)
  unfolding run_from
  run-behind zero n k t s =
      by_bool (ended s.machine) (λ e. rw e)
      (λ e. by_bool (waits s.machine) (λ w. rw (e, w)) (λ w. rw (e, w)))
  run-behind (suc b) n k t s =
      by_bool (ended s.machine) (λ e. rw e)
      (λ e. by_bool (waits s.machine) (λ w. rw (e, w))
      (λ w. by_alike ((of-byte code).from t s)
      (λ a s' p q h. rw (e, w, p, q, ← add-suc) (run-behind b n (suc k) t s'))
      (λ f p q. rw (e, w, p, q))))

  run-extended : (a b n : ℕ) (s : World)
      → let f = run_from a code n s in run_from (a + b) code n s ≡ extended b code f.outcome f.world
  unfolding run_from
  run-extended zero zero n s =
      by_bool (ended s.machine) (λ e. rw e)
      (λ e. by_bool (waits s.machine) (λ w. rw (e, w)) (λ w. simp (e, w)))
  run-extended zero (suc b) n s =
      by_bool (ended s.machine) (λ e. rw (zero-add, e))
      (λ e. by_bool (waits s.machine) (λ w. rw (zero-add, e, w)) (λ w. simp (zero-add, e, w)))
  run-extended (suc a) b n s =
      by_bool (ended s.machine) (λ e. rw (suc-add, e))
      (λ e. by_bool (waits s.machine) (λ w. rw (suc-add, e, w))
      (λ w. by_result (byte code s)
      (λ u s' p. rw (suc-add, e, w, p) (run-extended a b (suc n) s'))
      (λ k p. rw (suc-add, e, w, p))))

  -- one byte more before a run
  took_more : (b : ℕ) (s s' t : World) (o : Outcome) → byte code s ≡ done tt s' → Took code b s' t o
      → Took code (suc b) s t (counted 1 o)
  unfolding bytes
  took_more b s s' t (Ended n) e (h, l) = (rw (one_more n, e) h, omega arith)
  took_more b s s' t (Waiting n) e (h, l) = (rw (one_more n, e) h, omega arith)
  took_more b s s' t (Spent n) e (h, l) = (rw (one_more n, e) h, omega arith)
  took_more b s s' t (RunFault n k) e (u, h, f, w, l) = (u, rw (one_more n, e) h, f, w, omega arith)

  pub took : (b : ℕ) (s : World) → let f = run_from b code 0 s in Took code b s f.world f.outcome
  unfolding run_from bytes
  took zero s =
      by_bool (ended s.machine) (λ e. rw e (refl, omega arith))
      (λ e. by_bool (waits s.machine) (λ w. rw (e, w) (refl, omega arith)) (λ w. rw (e, w) (refl, refl)))
  took (suc b) s =
      by_bool (ended s.machine) (λ e. rw e (refl, omega arith))
      (λ e. by_bool (waits s.machine) (λ w. rw (e, w) (refl, omega arith))
      (λ w. by_result (byte code s)
      (λ a s' p.
      let f = run_from b code 0 s' in
      rw (e, w, p, run-behind b 1 0 [] s') (took_more b s s' f.world f.outcome p (took b s')))
      (λ k p. rw (e, w, p) (s, refl, p, refl, omega arith))))

  of-bytes : (n : ℕ) → Regular (bytes n code)
  unfolding bytes
  of-bytes zero = returned tt
  of-bytes (suc n) = seq (of-byte code) (of-bytes n)

  pub bytes_same : (n : ℕ) {s t : World} → bytes n code s ≡ done tt t → Same s t
  bytes_same n {s} {t} e =
      by_alike ((of-bytes n).from [] s) (λ a s' p q h. let w : s' ≡ t = cc in rw w at h) (λ k p q. never (cc))

  took-beyond : (b : ℕ) (s t : World) (o : Outcome) → Took code b s t o
      → let size = memory_size s.machine.setup in
      (length t.memory ≡ length s.memory) × (drop size t.memory ≡ drop size s.memory)
  took-beyond b s t (Ended n) (h, l) = let same = bytes_same n h in (same.length-same, same.beyond-same)
  took-beyond b s t (Waiting n) (h, l) = let same = bytes_same n h in (same.length-same, same.beyond-same)
  took-beyond b s t (Spent n) (h, l) = let same = bytes_same n h in (same.length-same, same.beyond-same)
  took-beyond b s t (RunFault n k) (u, h, f, w, l) = let same = bytes_same n h in rw w (same.length-same, same.beyond-same)

-- a clock is not after itself
pub not-after-itself : (c : ℕ) → after c c ≡ false
unfolding after signed
not-after-itself c =
    let e : c + 2 ^ 32 - c ≡ 2 ^ 32 = omega arith in
    rw e

-- a run that is not refused, with no fault kept, and what its beginning comes to
pub record Goes (m : Machine) (code memory : List ℕ) (c : ℕ) : Type 0 where
  pub not_earlier : earlier_clock m c ≡ false
  pub code-long : ltb (length code) m.setup.code ≡ false
  pub memory-long : short_memory m memory ≡ false
  pub no-fault : m.fault ≡ None
  pub begun : World
  pub begins : beginning c (world_of m memory) ≡ done tt begun

-- a run that is not refused comes to what its beginning comes to
module _ (b : ℕ) (code : List ℕ) (c : ℕ) (s : World) where
  begins-run : {t : World} → beginning c s ≡ done tt t → begun_run b code c s ≡ run_from b code 0 t
  unfolding begun_run
  begins-run e = rw e

  begins-fault : {k : FaultKind} → beginning c s ≡ faults k → begun_run b code c s ≡ record { outcome = RunFault 0 k; world = keep k s }
  unfolding begun_run
  begins-fault e = rw e

comes-to :
    (m : Machine) (code memory : List ℕ) (b c : ℕ) {f : Finish} → earlier_clock m c ≡ false → ltb (length code) m.setup.code ≡ false
    → short_memory m memory ≡ false → m.fault ≡ None → begun_run b code c (world_of m memory) ≡ f → run m code memory b c ≡ finished f
unfolding run
comes-to m code memory b c w s l n e =
    rw (w, s, l) (ap (λ f. kept_or_run f m memory (begun_run b code c (world_of m memory))) n ∙ ap finished e)

pub run-goes : {m : Machine} {code memory : List ℕ} {c : ℕ} (g : Goes m code memory c) (b : ℕ)
    → run m code memory b c ≡ finished (run_from b code 0 g.begun)
run-goes {m} {code} {memory} {c} g b =
    comes-to m code memory b c g.not_earlier g.code-long g.memory-long g.no-fault (begins-run b code c _ g.begins)

pub run-stays :
    (m : Machine) (code memory : List ℕ) (c : ℕ) → earlier_clock m c ≡ false → ltb (length code) m.setup.code ≡ false
    → short_memory m memory ≡ false → m.fault ≡ None → {k : FaultKind} → beginning c (world_of m memory) ≡ faults k → (b : ℕ)
    → run m code memory b c ≡ finished (record { outcome = RunFault 0 k; world = keep k (world_of m memory) })
run-stays m code memory c w s l n e b = comes-to m code memory b c w s l n (begins-fault b code c _ e)

-- a run brings an earlier clock, or is lent too little
abbrev pub Refused : Machine → (code memory : List ℕ) → (clock : ℕ) → Type 0
Refused m code memory c = (earlier_clock m c || ltb (length code) m.setup.code || short_memory m memory) ≡ true

-- an answer that says so
abbrev pub NoRun : RunAnswer → Type 0
NoRun (Ok o) = ⊥
NoRun (Err EarlierClock) = Unit {0}
NoRun (Err (RunShort k)) = Unit {0}

-- whatever its budget, a run is refused, answers the kept fault, cannot begin, or goes
pub by-run : {R : Type 0} (m : Machine) (code memory : List ℕ) (c : ℕ)
    → ((a : RunAnswer) → NoRun a → Refused m code memory c → ((b : ℕ) → run m code memory b c ≡ unchanged a m memory) → R)
    → ((k : FaultKind) → m.fault ≡ Some k → ((b : ℕ) → run m code memory b c ≡ unchanged (Ok (RunFault 0 k)) m memory) → R)
    → ((k : FaultKind) → (Refused m code memory c → ⊥) → m.fault ≡ None → beginning c (world_of m memory) ≡ faults k
    → ((b : ℕ) → run m code memory b c ≡ finished (record { outcome = RunFault 0 k; world = keep k (world_of m memory) })) → R)
    → (Goes m code memory c → R) → R
unfolding run
by-run m code memory c refused kept stays goes =
    by_bool (earlier_clock m c) (λ w. refused (Err EarlierClock) tt (rw w) (λ b. rw w))
    (λ w. by_bool (ltb (length code) m.setup.code) (λ s. refused (Err (RunShort m.setup.code)) tt (rw (w, s)) (λ b. rw (w, s)))
    (λ s. by_bool (short_memory m memory) (λ l. refused (Err (RunShort (memory_size m.setup))) tt (rw (w, s, l)) (λ b. rw (w, s, l)))
    (λ l. by-kept m.fault
    (λ n. by_result (beginning c (world_of m memory))
    (λ u t e. goes (record { not_earlier = w; code-long = s; memory-long = l; no-fault = n; begun = t; begins = e }))
    (λ k e. stays k (λ z. never (cc (rw (w, s, l) at z))) n e (run-stays m code memory c w s l n e)))
    (λ k f. kept k f (λ b. rw (w, s, l, f))))))

-- what a run's beginning keeps, once it has its clock
pub begun-same : (c : ℕ) (s : World) {t : World} → beginning c s ≡ done tt t → Same (clocked c s) t
begun-same c s {t} e =
    by_alike ((of-begins s.machine.cpu).from [] (clocked c s))
    (λ a s' p q h. let w : s' ≡ t = cc (beginning-is c s) in rw w at h) (λ k p q. never (cc (beginning-is c s)))

-- where a spent run stopped, another goes under the same clock
splits-at : {m : Machine} {code memory : List ℕ} {c : ℕ} (g : Goes m code memory c) (a b : ℕ) (o : Outcome) (w : World)
    → Took code a g.begun w o → WakesNobody c w.machine w.memory
    → finished (extended b code o w) ≡ and_then (finished (record { outcome = o; world = w })) (run w.machine code w.memory b c)
splits-at g a b (Ended n) w h z = refl
splits-at g a b (Waiting n) w h z = refl
splits-at g a b (RunFault n k) w h z = refl
splits-at {m} {code} {memory} {c} g a b (Spent n) w (h, l) z =
    let first = begun-same c (world_of m memory) g.begins in
    let same = bytes_same code n h in
    let clock : w.machine.timer.clock ≡ c = same.clock-same ∙ first.clock-same in
    let goes : Goes w.machine code w.memory c = record {
      not_earlier = rw (clock, same.given-same, first.given-same) (not-after-itself c);
      code-long = rw (same.setup-same, first.setup-same) g.code-long;
      memory-long = rw (same.setup-same, same.length-same, first.setup-same, first.length-same) g.memory-long;
      no-fault = same.fault-same ∙ first.fault-same ∙ g.no-fault;
      begun = world_of w.machine w.memory;
      begins = z;
    } in
    rw (run-goes goes b) (ap finished (rw (add-zero, append-nil) at (run-behind code b n 0 w.talk (world_of w.machine w.memory))))

-- a run that was refused does not go on
refused-stays : (a : RunAnswer) → NoRun a → (m : Machine) (memory : List ℕ) (g : After RunAnswer)
    → unchanged a m memory ≡ and_then (unchanged a m memory) g
refused-stays (Err EarlierClock) i m memory g = refl
refused-stays (Err (RunShort k)) i m memory g = refl
refused-stays (Ok o) i m memory g = absurd i

pub run-splits : Splits
run-splits m code memory a b c =
    by-run m code memory c (λ k i z e h. rw (e (a + b), e a) (refused-stays k i m memory _)) (λ k f e h. rw (e (a + b), e a))
    (λ k i n f e h. rw (e (a + b), e a))
    (λ g h.
    let f = run_from a code 0 g.begun in
    rw (run-goes g (a + b), run-goes g a, run-extended code a b 0 g.begun)
    (splits-at g a b f.outcome f.world (took code a g.begun) (rw (run-goes g a) at h)))

pub run-keeps-beyond : KeepsBeyond
run-keeps-beyond m code memory b c =
    by-run m code memory c (λ k i z e. rw (e b) (refl, refl)) (λ k f e. rw (e b) (refl, refl)) (λ k i n f e. rw (e b) (refl, refl))
    (λ g.
    let f = run_from b code 0 g.begun in
    let first = begun-same c (world_of m memory) g.begins in
    let (long, same) = took-beyond code b g.begun f.world f.outcome (took code b g.begun) in
    let here = subst (λ u. drop (memory_size u) f.world.memory ≡ drop (memory_size u) g.begun.memory) first.setup-same same in
    rw (run-goes g b) (long ∙ first.length-same, here ∙ first.beyond-same))

pub run-counts : CountsSteps
run-counts m code memory b c o n e =
    by-run m code memory c (λ k i z r. never (no_run k i (cc (r b)))) (λ k f r. never (cc))
    (λ k i z f r.
    let is : o ≡ RunFault 0 k = cc (r b) in
    rw (r b, is) (not-begun k f refl))
    (λ g.
    let is : o ≡ (run_from b code 0 g.begun).outcome = cc (run-goes g b) in
    rw (run-goes g b, is) (begun g.begun g.begins (took code b g.begun)))
  where
    no_run : (a : RunAnswer) → NoRun a → a ≡ Ok o → ◌≡◌ {A = ℕ} 0 1
    no_run (Err EarlierClock) i z = cc
    no_run (Err (RunShort k)) i z = cc
    no_run (Ok p) i z = absurd i

-- an offer or take that came to a result
offer-beyond : (k v : ℕ) (m : Machine) (memory : List ℕ) → Beyond m memory (offered (offering k v (world_of m memory)) m memory)
offer-beyond k v m memory =
    by_alike ((of-offering k v).from [] (world_of m memory)) (λ a s p q h. rw p (h.length-same, h.beyond-same)) (λ j p q. rw p (refl, refl))

take_beyond : (k : ℕ) (m : Machine) (memory : List ℕ) → Beyond m memory (took_by (taking k (world_of m memory)) m memory)
take_beyond k m memory =
    by_alike ((of-taking k).from [] (world_of m memory)) (λ a s p q h. rw p (h.length-same, h.beyond-same)) (λ j p q. rw p (refl, refl))

-- an offer is refused and changes nothing, or comes to what offering does
module _ (m : Machine) (memory : List ℕ) (k v : ℕ) (P : After OfferAnswer → Type 0) (refused : (a : OfferAnswer) → P (unchanged a m memory))
    (goes : P (offered (offering k v (world_of m memory)) m memory)) where
  offer-unless : (e : KeptFault) → P (offer_unless e m memory k v)
  offer-unless (Some j) = refused _
  offer-unless None =
      of-cond P (ltb k m.setup.inputs && ltb k channel_limit) (of-cond P (get_or m.held k false) (refused _) goes) (refused _)

  pub by-offer : P (offer m memory k v)
  unfolding offer
  by-offer = of-cond P (short_memory m memory) (refused _) (offer-unless m.fault)

-- a take, likewise; where it is refused it has no value
abbrev pub NoValue : TakeAnswer → Type 0
NoValue (Ok (Some v)) = ⊥
NoValue (Ok None) = Unit {0}
NoValue (Err (TakeShort n)) = Unit {0}
NoValue (Err (TakeFault f)) = Unit {0}
NoValue (Err NoChannel) = Unit {0}

module _ (m : Machine) (memory : List ℕ) (k : ℕ) (P : After TakeAnswer → Type 0)
    (refused : (a : TakeAnswer) → NoValue a → P (unchanged a m memory)) (goes : P (took_by (taking k (world_of m memory)) m memory)) where
  take-unless : (e : KeptFault) → P (take_unless e m memory k)
  take-unless (Some j) = refused (Err (TakeFault j)) tt
  take-unless None = of-cond P (ltb k m.setup.outputs) goes (refused (Err NoChannel) tt)

  pub by-take : P (take m memory k)
  unfolding take
  by-take = of-cond P (short_memory m memory) (refused (Err (TakeShort (memory_size m.setup))) tt) (take-unless m.fault)

-- a start is refused, or begins a machine
module _ (code memory : List ℕ) (w i o q : ℕ) (P : After StartAnswer → Type 0) (refused : (a : StartAnswer) → P (unchanged a blank memory))
  where
    pub by-start :
        (let u : Setup = record { code = length code; base = w; inputs = i; outputs = o; slice = q } in
        P (record { answer = Ok tt; machine = fresh u; memory = cleared u memory; talk = [] }))
        → P (start code memory w i o q)
    unfolding start
    by-start begins =
        of-cond P (leb 1 q && leb q slice_limit)
        (of-cond P (leb i channel_limit && leb o channel_limit)
        (of-cond P (leb (w + i + o) word_limit && leb (length code) code_limit)
        (of-cond P (leb (w + i + o) (length memory)) begins (refused _)) (refused _)) (refused _)) (refused _)

pub offer-keeps-beyond : OfferKeepsBeyond
offer-keeps-beyond m memory k v = by-offer m memory k v (Beyond m memory) (λ a. (refl, refl)) (offer-beyond k v m memory)

pub take-keeps-beyond : TakeKeepsBeyond
take-keeps-beyond m memory k = by-take m memory k (Beyond m memory) (λ a n. (refl, refl)) (take_beyond k m memory)
