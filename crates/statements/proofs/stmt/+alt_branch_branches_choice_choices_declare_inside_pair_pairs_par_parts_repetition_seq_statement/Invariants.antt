-- The functions of `statements::stmt` that call each other meet their contracts. The measures count 8 for each level of the depth left, and
-- further for what has statements of that depth inside: for what follows a kind 7, for VAR, CHAN, PAR and parts 6, for SEQ, IF, WHILE and
-- ALT 5, for the branches of PAR and ALT 4, for a branch and a pair 3. Assumes nothing.
use Prim.Native.Nat.{ℕ, ◌+◌, ◌-◌, ◌*◌}
use mathlib.Core.List.{List}
use mathlib.Core.Path.{◌≡◌}
use Rattle.expressions.specs.Emits.{Code, at as standing}
use Rattle.expressions.specs.Names.{Names, Scoped}
use Rattle.statements.specs.Stmts.{Open, no_ends, seq_into, pairs_into}
use Rattle.statements.specs.Stmts.{branches_into}
use Rattle.statements.specs.Alts.{choices_into}
use Rattle.statements.specs.Kinds.{inner_at}
use Rattle.statements.proofs.stmt as cycle
use cycle.+alt_branch_branches_choice_choices_declare_inside_pair_pairs_par_parts_repetition_seq_statement.Given as goal

-- the pairs of an IF and the guards of an ALT that are left
abbrev pub pairs_left : (d w : ℕ) → Names → (plan s : List ℕ) → (left k : ℕ) → (ends : List ℕ) → (at : ℕ) → Code → Open
pairs_left d w ns plan s n k e i c = pairs_into n k d w ns.variables (inner_at d plan s w ns) plan s e i c

abbrev pub choices_left : (d w : ℕ) → Names → (plan s : List ℕ) → (left k choice : ℕ) → (ends : List ℕ) → (at disable : ℕ) → Code → Open
choices_left d w ns plan s n k choice e i dis c = choices_into n k d (inner_at d plan s) w ns plan s choice e i dis c

abbrev pub decreases-alt : goal.decreases-alt
decreases-alt l = 8 * l.scope.depth + 5

abbrev pub decreases-branch : goal.decreases-branch
decreases-branch l = 8 * l.scope.depth + 3

abbrev pub decreases-branches : goal.decreases-branches
decreases-branches l = 8 * l.scope.depth + 4

abbrev pub decreases-choice : goal.decreases-choice
decreases-choice l = 8 * l.scope.depth + 3

abbrev pub decreases-choices : goal.decreases-choices
decreases-choices l = 8 * l.scope.depth + 4

abbrev pub decreases-declare : goal.decreases-declare
decreases-declare l = 8 * l.scope.depth + 6

abbrev pub decreases-inside : goal.decreases-inside
decreases-inside l = 8 * l.scope.depth + 7

abbrev pub decreases-pair : goal.decreases-pair
decreases-pair l = 8 * l.scope.depth + 3

abbrev pub decreases-pairs : goal.decreases-pairs
decreases-pairs l = 8 * l.scope.depth + 5

abbrev pub decreases-par : goal.decreases-par
decreases-par l = 8 * l.scope.depth + 6

abbrev pub decreases-parts : goal.decreases-parts
decreases-parts l = 8 * l.scope.depth + 6

abbrev pub decreases-repetition : goal.decreases-repetition
decreases-repetition l = 8 * l.scope.depth + 5

abbrev pub decreases-seq : goal.decreases-seq
decreases-seq l = 8 * l.scope.depth + 5

abbrev pub decreases-statement : goal.decreases-statement
decreases-statement l = 8 * l.scope.depth

abbrev pub invariant-branches-loop : goal.invariant-branches-loop
invariant-branches-loop l =
    (ns : Names) → Scoped (l.scope.depth + 1) l.scope l.initial.words ns
    → (branches_into l.fn.rest.left (inner_at l.scope.depth l.plan l.table) l.scope.w ns l.plan l.initial.next.at l.initial.d
    l.initial.start (standing l.initial.next.here l.initial.list)
    ≡ branches_into (l.fn.rest.left - l.counter) (inner_at l.scope.depth l.plan l.table) l.scope.w ns l.plan l.next.at l.d l.start
    (standing l.next.here l.list))
    × Scoped (l.scope.depth + 1) l.scope l.words ns

abbrev pub invariant-choices-loop-i : goal.invariant-choices-loop-i
invariant-choices-loop-i l =
    (l.turn.choice ≡ l.initial.turn.choice) × ((ns : Names) → Scoped (l.scope.depth + 1) l.scope l.initial.words ns
    → (choices_left l.scope.depth l.scope.w ns l.plan l.table l.count 0 l.initial.turn.choice no_ends l.initial.turn.at
    l.initial.turn.disable
    (standing l.initial.turn.here l.initial.list)
    ≡ choices_left l.scope.depth l.scope.w ns l.plan l.table (l.count - l.i) l.i l.initial.turn.choice l.ends l.turn.at l.turn.disable
    (standing l.turn.here l.list))
    × Scoped (l.scope.depth + 1) l.scope l.words ns)

abbrev pub invariant-pairs-loop-i : goal.invariant-pairs-loop-i
invariant-pairs-loop-i l =
    ((ns : Names) → Scoped (l.scope.depth + 1) l.scope l.initial.words ns
    → (pairs_left l.scope.depth l.scope.w ns l.plan l.table l.count 0 no_ends l.initial.next.at
    (standing l.initial.next.here l.initial.list)
    ≡ pairs_left l.scope.depth l.scope.w ns l.plan l.table (l.count - l.i) l.i l.ends l.next.at (standing l.next.here l.list))
    × Scoped (l.scope.depth + 1) l.scope l.words ns)

abbrev pub invariant-seq-loop : goal.invariant-seq-loop
invariant-seq-loop l =
    (ns : Names) → Scoped (l.scope.depth + 1) l.scope l.initial.words ns
    → (seq_into l.count (inner_at l.scope.depth l.plan l.table l.scope.w ns) l.initial.next.at
    (standing l.initial.next.here l.initial.list)
    ≡ seq_into (l.count - l.counter) (inner_at l.scope.depth l.plan l.table l.scope.w ns) l.next.at (standing l.next.here l.list))
    × Scoped (l.scope.depth + 1) l.scope l.words ns
