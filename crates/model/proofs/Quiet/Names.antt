-- The name by which the queue and channels know a process: what a word that names a process holds.
use Prim.Native.Nat.{ℕ, ◌≤◌, ◌<◌}
use native.Mathlib.Omega.{arith}
use mathlib.Core.Path.{◌≡◌, refl, sym, ap, ◌∙◌}
use mathlib.Core.Logic.{◌≢◌}
use Rattle.model.specs.Word.{not_process}
use Rattle.model.specs.Limits.{word_limit}
use Rattle.model.specs.Machine.{name_of, space_of}
use Rattle.model.specs.Timer.{time_set, time_not_set}

-- there and back
pub name_back : (w : ℕ) → space_of (name_of w) ≡ w
unfolding name_of space_of
name_back w = refl

-- so names tell workspaces apart
pub name-injective : (v w : ℕ) → name_of v ≡ name_of w → v ≡ w
name-injective v w e = sym (name_back v) ∙ ap space_of e ∙ name_back w

-- no process of a program is NotProcess
pub name-given : (w : ℕ) → w ≤ word_limit → name_of w ≢ not_process
unfolding name_of
name-given w h e = absurd (omega arith)

-- nor says its name in a link word that a time is set, or not
pub name-unset : (w : ℕ) → w ≤ word_limit → (name_of w ≢ time_set) × (name_of w ≢ time_not_set)
unfolding name_of
name-unset w h = ((λ e. absurd (omega arith)), (λ e. absurd (omega arith)))

-- nor has NotProcess a workspace in memory
pub none-high : word_limit < space_of not_process
unfolding space_of
none-high = omega arith
