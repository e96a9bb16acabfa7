-- Each turn's text is the front of what was to come, and fewer turns are left after it.
use Prim.Native.Nat.{ℕ, zero, suc, ◌+◌, ◌-◌, ◌≤◌, ◌<◌}
use native.Mathlib.Omega.{arith}
use native.Mathlib.Nat.{suc-mul, sub-zero}
use mathlib.Core.Path.{◌≡◌, refl, sym, ◌∙◌}
use mathlib.Core.Bool.{Bool, true, false, cond, ◌||◌}
use mathlib.Core.List.{List, [], ◌∷◌, ◌++◌, append_assoc, append-nil}
use lib.ListN.{length, take, drop}
use lib.Seq.{drop-cons, take_at, length-take-le}
use lib.Dec.{ltb, eqb}
use borrow.Author.Tests.{ltb-true, ltb-false, lt-ltb, le-ltb, ne_eqb}
use Rattle.model.specs.Run.{After, run}
use Rattle.model.specs.Outside.{take as take_from}
use Rattle.model.specs.Bench.{ascii, hex, took_one, and_takes, takes, bench_budget, bench_clock, on_takes, on_run, rounds}
use Rattle.model.specs.declared.Machine.{Machine}
use Rattle.model.specs.declared.Outcome.TheVariants.{Ended, Waiting, Spent, Fault}
use Rattle.model.specs.Answers.{RunAnswer, TakeAnswer}
use Rattle.std.specs.Prelude.{Err, None, Ok, Some}
use Rattle.model.specs.declared.RunRefusal.TheVariants.{EarlierClock, Short}
use Rattle.model.specs.declared.TakeRefusal.TheVariants.{Short as TakeShort, Fault as TakeFault, NoChannel}
use Rattle.model.proofs.Cases.{by_bool, of-cond, never}
use Rattle.model.proofs.Laws.Runs.{run-keeps-beyond, take-keeps-beyond}
use Rattle.report.specs.Texts.{Turned, at, ran_turn, took_turn, turn_of, next_of, rounds_of, text_from, text_of, round_turns, turns_left}
use Rattle.report.specs.declared.stage.Stage.{Stage}
use Rattle.report.specs.declared.stage.Stage.TheVariants.{Bytes, Words, Head, Code, Running, Taking, Refused, Done}
use Rattle.report.specs.declared.stage.Report.{Report}

-- the text that is to come is the turn's, and then what is to come after it
abbrev Front : (prog : List ℕ) → Report → (memory : List ℕ) → Turned → Type 0
Front prog r l t = text_from prog r l ≡ t.text ++ text_from prog t.report t.memory

-- past a list's end nothing is left
pub past : (p : List ℕ) (n : ℕ) → length p ≤ n → drop n p ≡ []
past [] zero h = refl
past [] (suc n) h = refl
past (x ∷ xs) zero h = absurd (omega arith)
past (x ∷ xs) (suc n) h = past xs n (omega arith)

module _ (prog : List ℕ) (r : Report) (l : List ℕ) where
  front_bytes : r.stage ≡ Bytes → Front prog r l (turn_of prog r l)
  unfolding text_from turn_of
  front_bytes e =
      rw e (simp append_assoc)

  front-words : r.stage ≡ Words → Front prog r l (turn_of prog r l)
  unfolding text_from turn_of
  front-words e = rw e (simp append_assoc)

  front-head : r.stage ≡ Head → Front prog r l (turn_of prog r l)
  unfolding text_from turn_of
  front-head e = rw e (simp append_assoc)

  front-code : (i : ℕ) → r.stage ≡ Code i → Front prog r l (turn_of prog r l)
  unfolding text_from turn_of hex
  front-code i e =
      by_bool (ltb i (length prog))
      (λ t. rw (e, t, drop-cons prog i 0 (ltb-true i (length prog) t)))
      (λ t. rw (e, t, past prog i (ltb-false i (length prog) t)))

  front-refused : (n p : ℕ) → r.stage ≡ Refused n p → Front prog r l (turn_of prog r l)
  unfolding text_from turn_of
  front-refused n p e = rw e (sym (append-nil _))

  front-done : r.stage ≡ Done → Front prog r l (turn_of prog r l)
  unfolding text_from turn_of
  front-done e = rw e

  -- what a run stands for
  front-ran :
      {f : ℕ} → r.left ≡ suc f → (g : After RunAnswer) (a : RunAnswer) → g.answer ≡ a
      → let t = ran_turn r g.machine g.memory a in
      on_run g r.outputs r.total (λ n m2 l2. rounds f prog r.outputs n m2 l2) ≡ t.text ++ text_from prog t.report t.memory
  unfolding text_from
  front-ran h g (Ok (Ended n)) e = rw e (sym (append-nil _))
  front-ran {f} h g (Ok (Waiting n)) e = let z : suc f - 1 ≡ f = omega arith in rw (e, h, z, sub-zero)
  front-ran h g (Ok (Spent n)) e = rw e (sym (append-nil _))
  front-ran h g (Ok (Fault n k)) e = rw e (sym (append-nil _))
  front-ran h g (Err EarlierClock) e = rw e
  front-ran h g (Err (Short n)) e = rw e

  -- what a take stands for
  front-took :
      (k : ℕ) (any : Bool) (g : After TakeAnswer) (a : TakeAnswer) (n : ℕ) → g.answer ≡ a → r.outputs - suc k ≡ n
      → let t = took_turn r k any g.machine g.memory a in
      let b = and_takes k g (λ m2 l2. takes n (suc k) m2 l2) in
      cond any (b.lines ++ rounds_of prog r b.machine b.memory) (on_takes b r.total (rounds_of prog r))
      ≡ t.text ++ text_from prog t.report t.memory
  unfolding text_from ascii
  front-took k true g (Ok (Some v)) n e h = rw (e, h) (append_assoc (took_one k (Ok (Some v))) _ _)
  front-took k true g (Ok None) n e h = rw (e, h)
  front-took k true g (Err (TakeShort j)) n e h = rw (e, h)
  front-took k true g (Err (TakeFault f)) n e h = rw (e, h)
  front-took k true g (Err NoChannel) n e h = rw (e, h)
  front-took k false g (Ok (Some v)) n e h = rw (e, h) (append_assoc (took_one k (Ok (Some v))) _ _)
  front-took k false g (Ok None) n e h = rw (e, h)
  front-took k false g (Err (TakeShort j)) n e h = rw (e, h)
  front-took k false g (Err (TakeFault f)) n e h = rw (e, h)
  front-took k false g (Err NoChannel) n e h = rw (e, h)

  front-past : (k : ℕ) (any : Bool) → r.stage ≡ Taking k any → r.outputs ≤ k → Front prog r l (turn_of prog r l)
  unfolding text_from turn_of takes
  front-past k true e h =
      let z : r.outputs - k ≡ 0 = omega arith in
      rw (e, le-ltb k r.outputs h, z)
  front-past k false e h =
      let z : r.outputs - k ≡ 0 = omega arith in
      rw (e, le-ltb k r.outputs h, z) (sym (append-nil _))

  front-taking : (k : ℕ) (any : Bool) → r.stage ≡ Taking k any → k < r.outputs → Front prog r l (turn_of prog r l)
  unfolding text_from turn_of takes
  front-taking k any e h =
      let g = take_from r.machine l k in
      let z : r.outputs - k ≡ suc (r.outputs - suc k) = omega arith in
      rw (e, lt-ltb k r.outputs h, z) (front-took k any g g.answer (r.outputs - suc k) refl refl)

-- a report before a run, with so many rounds behind it
abbrev runs : ℕ → Report → Report
runs f r =
    record {
      machine = r.machine;
      stage = Running;
      total = r.total;
      left = suc f;
      outputs = r.outputs;
      size = r.size;
      words = r.words;
    }

module _ (prog : List ℕ) (r : Report) (l : List ℕ) where
  front-running : (n : ℕ) → r.left ≡ n → r.stage ≡ Running → Front prog r l (turn_of prog r l)
  unfolding text_from turn_of rounds
  front-running zero h e = rw (e, h)
  front-running (suc f) h e =
      let g = run r.machine prog l (bench_budget - r.total) bench_clock in
      rw (e, h, ne_eqb (suc f) 0 (λ z. omega arith)) (front-ran prog (runs f r) l refl g g.answer refl)

  front : (s : Stage) → r.stage ≡ s → Front prog r l (turn_of prog r l)
  front Bytes e = front_bytes prog r l e
  front Words e = front-words prog r l e
  front Head e = front-head prog r l e
  front (Code i) e = front-code prog r l i e
  front Running e = front-running r.left refl e
  front (Taking k any) e =
      by_bool (ltb k r.outputs) (λ t. front-taking prog r l k any e (ltb-true _ _ t))
      (λ t. front-past prog r l k any e (ltb-false _ _ t))
  front (Refused n p) e = front-refused prog r l n p e
  front Done e = front-done prog r l e

-- what no turn changes
abbrev Kept : Report → (memory : List ℕ) → Turned → Type 0
Kept r l t = (t.report.size ≡ r.size) × (t.report.words ≡ r.words) × (length t.memory ≡ length l)

module _ (r : Report) (l : List ℕ) (m : Machine) (k : List ℕ) (e : length k ≡ length l) where
  ran-kept : (a : RunAnswer) → Kept r l (ran_turn r m k a)
  ran-kept (Ok (Ended n)) = (refl, refl, e)
  ran-kept (Ok (Waiting n)) = (refl, refl, e)
  ran-kept (Ok (Spent n)) = (refl, refl, e)
  ran-kept (Ok (Fault n f)) = (refl, refl, e)
  ran-kept (Err EarlierClock) = (refl, refl, e)
  ran-kept (Err (Short n)) = (refl, refl, e)

module _ (prog : List ℕ) (r : Report) (l : List ℕ) where
  turn-kept : (s : Stage) → r.stage ≡ s → Kept r l (turn_of prog r l)
  unfolding turn_of
  turn-kept Bytes e = rw e (refl, refl, refl)
  turn-kept Words e = rw e (refl, refl, refl)
  turn-kept Head e = rw e (refl, refl, refl)
  turn-kept (Code i) e = rw e (of-cond (Kept r l) (ltb i (length prog)) (refl, refl, refl) (refl, refl, refl))
  turn-kept Running e =
      let g = run r.machine prog l (bench_budget - r.total) bench_clock in
      let h = (run-keeps-beyond r.machine prog l (bench_budget - r.total) bench_clock).0 in
      rw e (of-cond (Kept r l) (eqb r.left 0) (refl, refl, refl) (ran-kept (at Running r) l g.machine g.memory h g.answer))
  turn-kept (Taking k any) e =
      let h = (take-keeps-beyond r.machine l k).0 in
      rw e (of-cond (Kept r l) (ltb k r.outputs) (refl, refl, h) (of-cond (Kept r l) any (refl, refl, refl) (refl, refl, refl)))
  turn-kept (Refused n p) e = rw e (refl, refl, refl)
  turn-kept Done e = rw e (refl, refl, refl)

-- neither buffer is too short
pub both_false : (x y : Bool) → x || y ≡ false → (x ≡ false) × (y ≡ false)
both_false true y e = never (cc)
both_false false y e = (refl, e)

-- the text that was to come is a turn's text and what is to come after it
pub coming :
    (code : List ℕ) (r : Report) (l : List ℕ)
    → let t = next_of code r l in
    text_of code r l ≡ t.text ++ text_of code t.report t.memory
unfolding next_of
coming code r l =
    by_bool (ltb (length code) r.size || ltb (length l) r.words) (λ b. rw b)
    (λ b.
    let prog = take r.size code in
    let t = turn_of prog r (take r.words l) in
    let k = turn-kept prog r (take r.words l) r.stage refl in
    let w : r.words ≤ length l = ltb-false _ _ (both_false (ltb (length code) r.size) (ltb (length l) r.words) b).1 in
    let e : length t.memory ≡ r.words = k.2 ∙ length-take-le r.words l w in
    rw (b, k.0, k.1, take_at t.memory (drop r.words l) r.words e) (front prog r (take r.words l) r.stage refl))

-- a round less
round-less : {n : ℕ} (o f : ℕ) → n ≡ suc f → round_turns n o ≡ round_turns (n - 1) o + (o + 3)
round-less o f h = let z : suc f - 1 ≡ f = omega arith in rw (h, z, suc-mul)

-- fewer turns are left
abbrev Fewer : Report → Turned → Type 0
Fewer r t = t.more ≡ true → turns_left t.report < turns_left r

module _ (r : Report) (e : r.stage ≡ Running) (f : ℕ) (h : r.left ≡ suc f) (m : Machine) (k : List ℕ) where
  ran-fewer : (a : RunAnswer) → Fewer r (ran_turn r m k a)
  ran-fewer (Ok (Ended n)) i = rw e (omega arith)
  ran-fewer (Ok (Waiting n)) i = rw (e, round-less r.outputs f h) (omega arith)
  ran-fewer (Ok (Spent n)) i = rw e (omega arith)
  ran-fewer (Ok (Fault n j)) i = rw e (omega arith)
  ran-fewer (Err EarlierClock) i = rw e (omega arith)
  ran-fewer (Err (Short n)) i = rw e (omega arith)

module _ (prog : List ℕ) (r : Report) (l : List ℕ) (long : length prog ≡ r.size) where
  running-fewer : (n : ℕ) → r.left ≡ n → r.stage ≡ Running → Fewer r (turn_of prog r l)
  unfolding turn_of
  running-fewer zero h e = rw (e, h) (λ i. omega arith)
  running-fewer (suc f) h e =
      let g = run r.machine prog l (bench_budget - r.total) bench_clock in
      rw (e, h, ne_eqb (suc f) 0 (λ z. omega arith)) (ran-fewer (runs f r) refl f refl g.machine g.memory g.answer)

  turn-fewer : (s : Stage) → r.stage ≡ s → Fewer r (turn_of prog r l)
  unfolding turn_of
  turn-fewer Bytes e = rw e (λ i. omega arith)
  turn-fewer Words e = rw e (λ i. omega arith)
  turn-fewer Head e = rw e (λ i. omega arith)
  turn-fewer (Code j) e =
      by_bool (ltb j (length prog))
      (λ b. let h = ltb-true j (length prog) b in rw (e, b) (λ i. omega arith))
      (λ b. rw (e, b) (λ i. omega arith))
  turn-fewer Running e = running-fewer r.left refl e
  turn-fewer (Taking k any) e =
      by_bool (ltb k r.outputs)
      (λ b. let h : k < r.outputs = ltb-true _ _ b in rw (e, b) (λ i. omega arith))
      (λ b. by_bool any (λ c. rw (e, b, c) (λ i. omega arith)) (λ c. rw (e, b, c) (λ i. omega arith)))
  turn-fewer (Refused n p) e = rw e (λ i. omega arith)
  turn-fewer Done e = rw e (λ i. never (cc))

-- a turn with more to come leaves fewer turns
pub shorter : (code : List ℕ) (r : Report) (l : List ℕ) → Fewer r (next_of code r l)
unfolding next_of
shorter code r l =
    by_bool (ltb (length code) r.size || ltb (length l) r.words) (λ b. rw b (λ i. never (cc)))
    (λ b.
    let c : r.size ≤ length code = ltb-false _ _ (both_false (ltb (length code) r.size) (ltb (length l) r.words) b).0 in
    rw b (turn-fewer (take r.size code) r (take r.words l) (length-take-le r.size code c) r.stage refl))

-- every run's turn says that there may be more
ran-more : (r : Report) (m : Machine) (k : List ℕ) (a : RunAnswer) → (ran_turn r m k a).more ≡ true
ran-more r m k (Ok (Ended n)) = refl
ran-more r m k (Ok (Waiting n)) = refl
ran-more r m k (Ok (Spent n)) = refl
ran-more r m k (Ok (Fault n j)) = refl
ran-more r m k (Err EarlierClock) = refl
ran-more r m k (Err (Short n)) = refl

module _ (prog : List ℕ) (r : Report) (l : List ℕ) where
  turn_last : (s : Stage) → r.stage ≡ s → (turn_of prog r l).more ≡ false → text_from prog r l ≡ []
  unfolding turn_of text_from
  turn_last Bytes e m = never (cc (rw e at m))
  turn_last Words e m = never (cc (rw e at m))
  turn_last Head e m = never (cc (rw e at m))
  turn_last (Code i) e m = by_bool (ltb i (length prog)) (λ b. never (cc (rw (e, b) at m))) (λ b. never (cc (rw (e, b) at m)))
  turn_last Running e m =
      let g = run r.machine prog l (bench_budget - r.total) bench_clock in
      by_bool (eqb r.left 0) (λ b. never (cc (rw (e, b) at m)))
      (λ b. never (cc (rw (e, b) at m, ran-more (at Running r) g.machine g.memory g.answer)))
  turn_last (Taking k any) e m =
      by_bool (ltb k r.outputs) (λ b. never (cc (rw (e, b) at m)))
      (λ b. by_bool any (λ c. never (cc (rw (e, b, c) at m))) (λ c. never (cc (rw (e, b, c) at m))))
  turn_last (Refused n p) e m = never (cc (rw e at m))
  turn_last Done e m = rw e

-- where there is no more and the buffers are long enough, nothing was to come
pub last :
    (code : List ℕ) (r : Report) (l : List ℕ) → (next_of code r l).more ≡ false → r.size ≤ length code → r.words ≤ length l
    → text_of code r l ≡ []
unfolding next_of
last code r l m h k =
    turn_last (take r.size code) r (take r.words l) r.stage refl (rw (le-ltb _ _ h, le-ltb _ _ k) at m)
