-- The model's code of every statement is put into the list.
use Prim.Native.Nat.{ℕ, zero, suc, ◌+◌, ◌≤◌}
use native.Mathlib.Omega.{arith}
use mathlib.Core.Path.{◌≡◌}
use mathlib.Core.List.{List}
use Rattle.model.specs.Syntax.{Site, declared, Stmt}
use Rattle.model.specs.Reader as M
use Rattle.expressions.specs.Names.{Names}
use Rattle.statements.proofs.Spelled.{StmtAt, skip_at, stop_at, assign_at, input_at, output_at, var_at, chan_at, seq_at, par_at, if_at}
use Rattle.statements.proofs.Spelled.{while_at, alt_at, time_at, wait_at}
use Rattle.statements.proofs.Planned.{PlannedStmt, InsideStmt}
use Rattle.statements.proofs.Compiles.{Scoped, Placed, Written, Compiles, skip-code, stop-code, assign-code, input-code, output-code}
use Rattle.statements.proofs.Compiles.{time-code, wait-code}
use Rattle.statements.proofs.Declares.{var-code, chan-code}
use Rattle.statements.proofs.Flows.{seq-code, if-code, while-code}
use Rattle.statements.proofs.Pars.{par-code}
use Rattle.statements.proofs.Choices.{alt-code}

-- a statement is spelt where there is depth left
some-depth : {s : List ℕ} {d : ℕ} {sc : M.Scope} {i n : ℕ} {b : Stmt} → StmtAt s d sc i b n → 1 ≤ d
some-depth (skip_at k) = omega arith
some-depth (stop_at k) = omega arith
some-depth (assign_at k x e) = omega arith
some-depth (input_at k c x) = omega arith
some-depth (output_at k c e) = omega arith
some-depth (var_at k c a) = omega arith
some-depth (chan_at k c a) = omega arith
some-depth (seq_at k c a) = omega arith
some-depth (par_at k c a) = omega arith
some-depth (if_at k c a) = omega arith
some-depth (while_at k e a) = omega arith
some-depth (alt_at k c a) = omega arith
some-depth (time_at k x) = omega arith
some-depth (wait_at k e) = omega arith

module _ (word : Site → ℕ) (workspace : ℕ → ℕ) (s plan : List ℕ)
    (declared-is : (p j : ℕ) → word (declared p j) ≡ workspace p + j) where
  by_kind : {d : ℕ} {sc : M.Scope} {i n : ℕ} {b : Stmt} {ns : Names} (w j : ℕ) → Compiles word workspace s plan d
      → (a : StmtAt s (suc d) sc i b n) → PlannedStmt s plan a → Scoped word (suc d) sc ns → Placed word workspace s plan w j b
      → Written word workspace s plan (suc d) ns w j i n b
  unfolding InsideStmt
  by_kind w j inner (skip_at k) h q p = skip-code word workspace s plan w j q k p
  by_kind w j inner (stop_at k) h q p = stop-code word workspace s plan w j q k p
  by_kind w j inner (assign_at k x e) h q p = assign-code word workspace s plan w j q k x e h.1 p
  by_kind w j inner (input_at k c x) h q p = input-code word workspace s plan w j q k c x p
  by_kind w j inner (output_at k c e) h q p = output-code word workspace s plan w j q k c e h.1 p
  by_kind w j inner (var_at k c a) h q p = var-code word workspace s plan declared-is w j q inner k c a h.1 p
  by_kind w j inner (chan_at k c a) h q p = chan-code word workspace s plan declared-is w j q inner k c a h.1 p
  by_kind w j inner (seq_at k c a) h q p = seq-code word workspace s plan w p.low q inner j k c a h.1 p
  by_kind w j inner (par_at k c a) h q p = par-code word workspace s plan w p.low q inner j k c a h.1 p
  by_kind w j inner (if_at k c a) h q p = if-code word workspace s plan w p.low q inner j k c a h.1 p
  by_kind w j inner (while_at k e a) h q p = while-code word workspace s plan w p.low q inner j k e h.1.0 a h.1.1 p
  by_kind w j inner (alt_at k c a) h q p = alt-code word workspace s plan w p.low q inner j k c a h.1 p
  by_kind w j inner (time_at k x) h q p = time-code word workspace s plan w j q k x p
  by_kind w j inner (wait_at k e) h q p = wait-code word workspace s plan w j q k e h.1 p

  -- by the depth left; without depth nothing is spelt
  pub compiles-all : (d : ℕ) → Compiles word workspace s plan d
  compiles-all zero = record { compiles = λ w j a h. absurd (omega (arith, some-depth a)) }
  compiles-all (suc d) = record { compiles = λ w j a h q p. by_kind w j (compiles-all d) a h q p }
