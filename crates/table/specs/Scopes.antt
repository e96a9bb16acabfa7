-- A scope of the model, and the numbers of names that the reader counts in it.
use Rattle.std.specs.Prelude.{ℕ, ◌+◌, ◌≤◌, ◌<◌, ◌≡◌, ◌||◌, List, length, ltb, leb, eqb}
use Rattle.std.proofs.Math.Option.{some}
use Rattle.std.proofs.Math.ListN.{get_elem?}
use Rattle.model.specs.Syntax.{Site, declared}
use Rattle.model.specs.Reader.{Scope, can_input, can_output}
use Rattle.model.specs.Usage.{same}
use Rattle.table.specs.declared.stmt.Names.{Names}

-- a name of one list is a name of the other exactly where their numbers are the same; of a list and itself: each name stands there once
abbrev pub Fresh : (names inner : List Site) → Type 0
Fresh names inner = (k v : ℕ) (y x : Site) → get_elem? names k ≡ some y → get_elem? inner v ≡ some x → same y x ≡ eqb k v

-- all names were declared before a place
abbrev pub Below : ℕ → List Site → Type 0
Below at names = (k p j : ℕ) → get_elem? names k ≡ some (declared p j) → p < at

-- a scope at a place, and the numbers of names in it: which channels are outside inputs and outputs, and that each name is declared once,
-- before the place
pub record Scoped (w : Names) (sc : Scope) (at : ℕ) : Type 0 where
  pub variables : w.variables ≡ length sc.variables
  pub channels : w.channels ≡ length sc.channels
  pub outer : w.inputs + w.outputs ≤ w.channels
  pub ins : (i : ℕ) (a : Site) → get_elem? sc.channels i ≡ some a → can_input a ≡ (ltb i w.inputs || leb (w.inputs + w.outputs) i)
  pub outs : (i : ℕ) (a : Site) → get_elem? sc.channels i ≡ some a → can_output a ≡ (ltb i 0 || leb w.inputs i)
  pub own-variables : Fresh sc.variables sc.variables
  pub own-channels : Fresh sc.channels sc.channels
  pub before-variables : Below at sc.variables
  pub before-channels : Below at sc.channels
