-- What a turn is, at each stage.
use Prim.Native.Nat.{ℕ, ◌+◌, ◌-◌, ◌≤◌, ◌<◌}
use native.Mathlib.Omega.{arith}
use native.Mathlib.Numerals.{add-one}
use mathlib.Core.Path.{◌≡◌, refl, sym, ◌∙◌}
use mathlib.Core.Bool.{Bool, true, false, ◌||◌}
use mathlib.Core.List.{List, [], ◌∷◌, ◌++◌}
use lib.ListN.{length, take, drop, get_or}
use lib.Dec.{ltb}
use borrow.Author.Tests.{ltb-false, lt-ltb, le-ltb, eq-eqb, ne_eqb}
use Rattle.model.specs.Answers.{instructions_of, KeptFault, RunAnswer, TakeAnswer}
use Rattle.model.specs.Run.{short_memory, earlier_clock, run}
use Rattle.model.specs.Laws.{Took, Began, begun, not-begun}
use Rattle.model.specs.Outside.{take as take_from}
use Rattle.model.specs.Bench.{ascii, hex, newline, line, refused_line, took_one, bench_budget, bench_clock}
use Rattle.model.specs.Machine.{World}
use Rattle.model.specs.declared.Machine.{Machine}
use Rattle.std.specs.Prelude.{None, Ok, Some}
use Rattle.model.specs.declared.Outcome.{Outcome}
use Rattle.model.specs.declared.Outcome.TheVariants.{Ended, Waiting, Spent, Fault}
use Rattle.model.proofs.Cases.{by_bool, never}
use Rattle.model.proofs.Laws.Runs.{run-counts}
use Rattle.report.specs.Texts.{text_in, Turned, at, taking, says, ran_turn, gave, took_turn, turn_of, next_of, text_of, turns_left, Gives}
use Rattle.report.specs.declared.stage.Stage.TheVariants.{Bytes, Words, Head, Code, Running, Taking, Refused, Done}
use Rattle.report.specs.declared.stage.Report.{Report}
use Rattle.report.specs.declared.turn.Turn.{Turn}
use Rattle.report.proofs.Coming.{both_false, coming, shorter, last}

-- a turn that says a text
pub said :
    {u : Turned} {q : Report} {t v l k : List ℕ} {x : Turn} → u ≡ says q t l → v ≡ t → Gives (says q v l) x k → Gives u x k
said e f g = rw (e, ← f) g

module _ (prog : List ℕ) (r : Report) (l : List ℕ) where
  pub turn-bytes : r.stage ≡ Bytes → turn_of prog r l ≡ says (at Words r) (line "bytes " (length prog)) l
  unfolding turn_of
  turn-bytes e = rw e

  pub turn-words : r.stage ≡ Words → turn_of prog r l ≡ says (at Head r) (line "words " r.words) l
  unfolding turn_of
  turn-words e = rw e

  pub turn-head : r.stage ≡ Head → turn_of prog r l ≡ says (at (Code 0) r) (ascii "code") l
  unfolding turn_of
  turn-head e = rw e

  pub turn-code :
      {i : ℕ} → r.stage ≡ Code i → i < length prog → turn_of prog r l ≡ says (at (Code (i + 1)) r) (hex (get_or prog i 0 ∷ [])) l
  unfolding turn_of
  turn-code {i} e h = rw (e, lt-ltb i (length prog) h, add-one)

  pub turn-newline : {i : ℕ} → r.stage ≡ Code i → length prog ≤ i → turn_of prog r l ≡ says (at Running r) newline l
  unfolding turn_of
  turn-newline {i} e h = rw (e, le-ltb i (length prog) h)

  pub turn-over : r.stage ≡ Running → r.left ≡ 0 → turn_of prog r l ≡ says (at Done r) [] l
  unfolding turn_of
  turn-over e h = rw (e, eq-eqb r.left 0 h)

  pub turn-run :
      r.stage ≡ Running → (r.left ≡ 0 → ⊥)
      → let f = run r.machine prog l (bench_budget - r.total) bench_clock in
      turn_of prog r l ≡ ran_turn r f.machine f.memory f.answer
  unfolding turn_of
  turn-run e h =
      let f = run r.machine prog l (bench_budget - r.total) bench_clock in
      rw (e, ne_eqb r.left 0 h)

  pub turn-take :
      {k : ℕ} {any : Bool} → r.stage ≡ Taking k any → k < r.outputs
      → let t = take_from r.machine l k in turn_of prog r l ≡ took_turn r k any t.machine t.memory t.answer
  unfolding turn_of
  turn-take {k} e h = rw (e, lt-ltb k r.outputs h)

  pub turn-again : {k : ℕ} {any : Bool} → r.stage ≡ Taking k any → r.outputs ≤ k → any ≡ true → turn_of prog r l ≡ says (at Running r) [] l
  unfolding turn_of
  turn-again {k} e h t = rw (e, le-ltb k r.outputs h, t)

  pub turn-waits :
      {k : ℕ} {any : Bool} → r.stage ≡ Taking k any → r.outputs ≤ k → any ≡ false
      → turn_of prog r l ≡ says (at Done r) (line "waiting " r.total) l
  unfolding turn_of
  turn-waits {k} e h t = rw (e, le-ltb k r.outputs h, t)

  pub turn-refused : {n p : ℕ} → r.stage ≡ Refused n p → turn_of prog r l ≡ says (at Done r) (refused_line n p) l
  unfolding turn_of
  turn-refused e = rw e

  pub turn-done : r.stage ≡ Done → turn_of prog r l ≡ record { report = r; text = []; memory = l; more = false }
  unfolding turn_of
  turn-done e = rw e

  -- a run, by what it answered and left
  pub ran :
      {x : Turn} {k : List ℕ} {b : ℕ} {a : RunAnswer} {m : Machine} → r.stage ≡ Running → (r.left ≡ 0 → ⊥) → b ≡ bench_budget - r.total
      → let f = run r.machine prog l b bench_clock in
      a ≡ f.answer → m ≡ f.machine → k ≡ f.memory → Gives (ran_turn r m k a) x k → Gives (turn_of prog r l) x k
  ran e h c p q s g = rw (turn-run e h, ← c, ← p, ← q, ← s) g

  -- a take, likewise
  pub took :
      {x : Turn} {k : ℕ} {j : List ℕ} {any : Bool} {a : TakeAnswer} {m : Machine} → r.stage ≡ Taking k any → k < r.outputs
      → let t = take_from r.machine l k in
      a ≡ t.answer → m ≡ t.machine → j ≡ t.memory → x.report ≡ taking m (Taking (k + 1) (gave any a)) r
      → text_in x.piece ≡ took_one k a → x.more ≡ true → Gives (turn_of prog r l) x j
  took {k} e h p q s c d f =
      rw (turn-take e h, ← p, ← q, ← s) (record { report = rw (← add-one k) c; text = d; memory = refl; more = f })

-- a run stays within its budget
took-within : (code : List ℕ) (b : ℕ) (s t : World) (o : Outcome) → Took code b s t o → instructions_of o ≤ b
took-within code b s t (Ended n) h = h.1
took-within code b s t (Waiting n) h = h.1
took-within code b s t (Spent n) h = omega (arith, h.1)
took-within code b s t (Fault n k) h = omega (arith, h.4)

began-within : (code : List ℕ) (b c : ℕ) (s t : World) (o : Outcome) → Began code b c s t o → instructions_of o ≤ b
began-within code b c s t o (begun u e h) = took-within code b u t o h
began-within code b c s t o (not-begun k e h) = omega arith

module _ (m : Machine) (code l : List ℕ) (b c : ℕ) (o : Outcome) (e : (run m code l b c).answer ≡ Ok o) where
  kept-within : (k : KeptFault) → m.fault ≡ k → instructions_of o ≤ b
  unfolding run
  kept-within None f = began-within code b c _ _ o (run-counts m code l b c o f e)
  kept-within (Some k) f =
      by_bool (earlier_clock m c) (λ w. never (cc (rw w at e)))
      (λ w. by_bool (ltb (length code) m.setup.code) (λ s. never (cc (rw (w, s) at e)))
      (λ s. by_bool (short_memory m l) (λ t. never (cc (rw (w, s, t) at e)))
      (λ t.
      let q : Fault 0 k ≡ o = cc (rw (w, s, t, f) at e) in
      rw (← q) (omega arith))))

  pub run-within : instructions_of o ≤ b
  run-within = kept-within m.fault refl

module _ (code : List ℕ) (r : Report) (l : List ℕ) where
  -- the lent buffers are too short
  pub next-short :
      (r.size ≤ length code → r.words ≤ length l → ⊥) → next_of code r l ≡ record { report = r; text = []; memory = l; more = false }
  unfolding next_of
  next-short h =
      by_bool (ltb (length code) r.size || ltb (length l) r.words) (λ b. rw b)
      (λ b.
      let f = both_false (ltb (length code) r.size) (ltb (length l) r.words) b in
      absurd (h (ltb-false _ _ f.0) (ltb-false _ _ f.1)))

  -- or long enough
  pub next-turn :
      r.size ≤ length code → r.words ≤ length l
      → let t = turn_of (take r.size code) r (take r.words l) in
      next_of code r l ≡ record { report = t.report; text = t.text; memory = t.memory ++ drop r.words l; more = t.more }
  unfolding next_of
  next-turn h k = rw (le-ltb _ _ h, le-ltb _ _ k)

  -- what a turn promises
  pub promised :
      {x : Turn} {k : List ℕ} → Gives (next_of code r l) x k
      → Gives (next_of code r l) x k
      × ((text_of code r l ≡ text_in x.piece ++ text_of code x.report k)
      × ((x.more ≡ true → turns_left x.report < turns_left r)
      × (x.more ≡ false → r.size ≤ length code → r.words ≤ length l → text_of code r l ≡ [])))
  promised g = (
    g,
    (
      rw (g.report, g.text, g.memory) (coming code r l),
      (λ i. rw g.report (shorter code r l (sym g.more ∙ i)), λ i. last code r l (sym g.more ∙ i)),
    ),
  )
