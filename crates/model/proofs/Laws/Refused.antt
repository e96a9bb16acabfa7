-- The answers' numbers are those of specs/Refusals.antt, for every call.
use Prim.Native.Nat.{ℕ, ◌+◌}
use mathlib.Core.Path.{◌≡◌, refl}
use mathlib.Core.Bool.{Bool, true, false, cond, not, ◌&&◌, ◌||◌}
use mathlib.Core.List.{List, []}
use lib.ListN.{length, get_or}
use lib.Dec.{ltb, leb, eqb}
use borrow.Author.Tests.{ltb-true, ltb-false, leb-true, leb-false, lt-ltb, le-ltb, le-leb, lt-leb, ne_eqb, eq-eqb}
use native.Mathlib.Omega.{arith}
use Rattle.model.specs.Limits.{code_limit, slice_limit, word_limit}
use Rattle.model.specs.Answers.{refusal, refused_reading, refused_compiling, refused_start, refused_run, refused_offer, refused_take}
use Rattle.model.specs.Reader.{Read, program, refused as unread}
use Rattle.model.specs.Accept.{answer_of}
use Rattle.model.specs.Code.{Compilation, compiled, refused, compiled_answer}
use Rattle.model.specs.Run.{Finish, short_memory, world_of, kept_or_run, start, run, earlier_clock}
use Rattle.model.specs.Outside.{offering, offer_unless, offer, taking, take_unless, take}
use Rattle.model.specs.Refusals.{read_refusal, compile_refusal, start_refusal, kept_or, ran_into, came_to, run_refusal, offer_refusal}
use Rattle.model.specs.Refusals.{take_refusal}
use Rattle.model.specs.Answers.{KeptFault}
use Rattle.model.specs.declared.Machine.{Machine}
use Rattle.std.specs.Prelude.{None, Ok, Some}
use Rattle.model.specs.declared.Outcome.{Outcome}
use Rattle.model.specs.declared.Outcome.TheVariants.{Ended, Waiting, Spent, Fault as RunFault}
use Rattle.model.proofs.Cases.{by_bool, by-option}
use Rattle.model.proofs.Laws.Runs.{by_result}

pub read-refuses : (r : Read) → refused_reading (answer_of r) ≡ read_refusal r
read-refuses (program p) = refl
read-refuses (unread n at) = refl

pub compile-refuses : (r : Compilation) → refused_compiling (compiled_answer r) ≡ compile_refusal r
compile-refuses (compiled p code) = refl
compile-refuses (refused n at) = refl

-- tests told the other way round
over : (a b : ℕ) → ltb b a ≡ not (leb a b)
over a b = by_bool (leb a b) (λ e. rw (e, le-ltb b a (leb-true a b e))) (λ e. rw (e, lt-ltb b a (leb-false a b e)))

below : (a b : ℕ) → leb b a ≡ not (ltb a b)
below a b = by_bool (ltb a b) (λ e. rw (e, lt-leb b a (ltb-true a b e))) (λ e. rw (e, le-leb b a (ltb-false a b e)))

is_zero : (n : ℕ) → eqb n 0 ≡ not (leb 1 n)
is_zero n =
    by_bool (leb 1 n)
    (λ e. let h = leb-true 1 n e in rw (e, ne_eqb n 0 (λ z. omega arith)))
    (λ e. let h = leb-false 1 n e in rw (e, eq-eqb n 0 (omega arith)))

one-not : (x y : Bool) {s t : Bool} → s ≡ not x → t ≡ not y → s || t ≡ not (x && y)
one-not true y e f = rw (e, f)
one-not false y e f = rw e

pub start-refuses :
    (code memory : List ℕ) (w i o q : ℕ) → refused_start (start code memory w i o q).answer ≡ start_refusal code memory w i o q
unfolding start start_refusal
start-refuses code memory w i o q =
    let n = w + i + o in
    let a = one-not (leb 1 q) (leb q slice_limit) (is_zero q) (over q slice_limit) in
    let b = one-not (leb i 8) (leb o 8) (over i 8) (over o 8) in
    let c = one-not (leb n word_limit) (leb (length code) code_limit) (over n word_limit) (over (length code) code_limit) in
    let d = over n (length memory) in
    by_bool (leb 1 q && leb q slice_limit)
    (λ s. by_bool (leb i 8 && leb o 8)
    (λ t. by_bool (leb n word_limit && leb (length code) code_limit)
    (λ u. by_bool (leb n (length memory)) (λ v. rw (a, b, c, d, s, t, u, v)) (λ v. rw (a, b, c, d, s, t, u, v)))
    (λ u. rw (a, b, c, s, t, u)))
    (λ t. rw (a, b, s, t)))
    (λ s. rw (a, s))

-- how a run stood is refused as the fault that it ran into
ran-into : (o : Outcome) → refused_run (Ok o) ≡ ran_into o
ran-into (Ended n) = refl
ran-into (Waiting n) = refl
ran-into (Spent n) = refl
ran-into (RunFault n k) = refl

run-kept :
    (e : KeptFault) (m : Machine) (memory : List ℕ) (f : Finish)
    → refused_run (kept_or_run e m memory f).answer ≡ kept_or e (ran_into f.outcome)
run-kept None m memory f = ran-into f.outcome
run-kept (Some k) m memory f = refl

pub run-refuses :
    (m : Machine) (code memory : List ℕ) (budget c : ℕ)
    → refused_run (run m code memory budget c).answer ≡ run_refusal m code memory budget c
unfolding run run_refusal
run-refuses m code memory budget c =
    by_bool (earlier_clock m c) (λ e. rw e)
    (λ e. by_bool (ltb (length code) m.setup.code) (λ s. rw (e, s))
    (λ s. by_bool (short_memory m memory) (λ t. rw (e, s, t)) (λ t. rw (e, s, t) (run-kept m.fault m memory _))))

module _ (m : Machine) (memory : List ℕ) (k : ℕ) where
  offer-kept :
      (e : KeptFault) (v : ℕ)
      → refused_offer (offer_unless e m memory k v).answer
      ≡ kept_or e (cond (leb m.setup.inputs k || leb 8 k) (refusal 13 [])
      (cond (get_or m.held k false) (refusal 14 []) (came_to (offering k v (world_of m memory)))))
  offer-kept None v =
      let o = one-not (ltb k m.setup.inputs) (ltb k 8) (below k m.setup.inputs) (below k 8) in
      by_bool (ltb k m.setup.inputs && ltb k 8)
      (λ n. by_bool (get_or m.held k false) (λ h. rw (o, n, h))
      (λ h. by_result (offering k v (world_of m memory)) (λ a s g. rw (o, n, h, g)) (λ j g. rw (o, n, h, g))))
      (λ n. rw (o, n))
  offer-kept (Some j) v = refl

  pub offer-refuses : (v : ℕ) → refused_offer (offer m memory k v).answer ≡ offer_refusal m memory k v
  unfolding offer offer_refusal
  offer-refuses v = by_bool (short_memory m memory) (λ t. rw t) (λ t. rw t (offer-kept m.fault v))

  take-kept :
      (e : KeptFault)
      → refused_take (take_unless e m memory k).answer
      ≡ kept_or e (cond (leb m.setup.outputs k) (refusal 13 []) (came_to (taking k (world_of m memory))))
  take-kept None =
      let o = below k m.setup.outputs in
      by_bool (ltb k m.setup.outputs)
      (λ n. by_result (taking k (world_of m memory))
      (λ v s g. by-option v (λ w. rw (o, n, g, w)) (λ a w. rw (o, n, g, w))) (λ j g. rw (o, n, g)))
      (λ n. rw (o, n))
  take-kept (Some j) = refl

  pub take-refuses : refused_take (take m memory k).answer ≡ take_refusal m memory k
  unfolding take take_refusal
  take-refuses = by_bool (short_memory m memory) (λ t. rw t) (λ t. rw t (take-kept m.fault))
