-- What a usage is as sets of the names in scope (02, order 3: "exactly what it changes, uses, inputs from and outputs to"): four sets of 16
-- words each. The name of number 64 i + j is bit j of a set's word i.
use Rattle.std.specs.Prelude.{ℕ, zero, suc, ◌+◌, ◌*◌, ◌≡◌, Bool, cond, List, [], ◌∷◌, ◌++◌, drop}
use Rattle.model.specs.Syntax.{Site, Stmt}
use Rattle.model.specs.Reader.{Scope, parsed, read_stmt}
use Rattle.model.specs.Usage.{Usage, is_in, usage}
use Rattle.table.specs.Uses.{no_names}
use Rattle.table.specs.Scopes.{Scoped}
use Rattle.table.specs.declared.stmt.Names.{Names}

-- a word of the names that pass a test, of at most so many names: the first is bit 0
unfoldable pub word_of : (left : ℕ) → (Site → Bool) → (names : List Site) → ℕ
word_of zero p names = 0
word_of (suc n) p [] = 0
word_of (suc n) p (x ∷ names) = word_of n p names * 2 + cond (p x) 1 0

-- the names that a list has, in so many words
unfoldable pub set_of : (words : ℕ) → (names list : List Site) → List ℕ
set_of zero names xs = []
set_of (suc n) names xs = word_of 64 (λ x. is_in x xs) names ∷ set_of n (drop 64 names) xs

-- the four sets: changed, used, input from, output to
unfoldable pub usage_sets : Scope → Usage → List ℕ
usage_sets sc u =
    set_of 16 sc.variables u.changes
    ++ (set_of 16 sc.variables u.uses ++ (set_of 16 sc.channels u.inputs ++ set_of 16 sc.channels u.outputs))

-- what one reading of a statement gives, where it begins with empty sets: exactly its usage, of the names in scope
abbrev pub Exact : (depth : ℕ) → Names → (table : List ℕ) → (at : ℕ) → (before after : List ℕ) → Type 0
Exact d w s at l m =
    (sc : Scope) (st : Stmt) (n : ℕ) (rest : List ℕ) → Scoped w sc at → l ≡ no_names → read_stmt d sc at (drop at s) ≡ parsed st n rest
    → m ≡ usage_sets sc (usage st)
