-- The words of the names in scope: as lists, by number (01: word operands count from W as adjusted at that place), and as one array has
-- them.
use Rattle.std.specs.Prelude.{ℕ, zero, suc, ◌+◌, ◌-◌, ◌*◌, ◌<◌, ◌≤◌, ◌≡◌, cond, List, [], ◌∷◌, ◌++◌, length, get_or, leb}
use Rattle.std.proofs.lemmas.List.Edits.{sets}
use Rattle.model.specs.Limits.{name_limit}
use Rattle.model.specs.Word.{low, less}
use Rattle.numbers.specs.Kinds.{by_declared}
use Rattle.numbers.specs.declared.kinds.Declared.{Declared}
use Rattle.expressions.specs.declared.words.Scope.{Scope}

-- the words of the variables in scope, and of the channels
pub record Names : Type 0 where
  pub variables : List ℕ
  pub channels : List ℕ

-- a name's word, counted from w
unfoldable pub local_of : List ℕ → (name w : ℕ) → ℕ
local_of ws k w = less (get_or ws k 0) w

-- so many words from w on
unfoldable pub words_from : (count w : ℕ) → List ℕ
words_from zero w = []
words_from (suc n) w = w ∷ words_from n (low (w + 1))

-- the names in scope with those of a declaration of n, whose statement runs at w
abbrev pub declaring : Declared → (n w : ℕ) → Names → Names
declaring x n w ns =
    record {
      variables = by_declared x (ns.variables ++ words_from n w) ns.variables;
      channels = by_declared x ns.channels (ns.channels ++ words_from n w);
    }

-- the scope of its statement
abbrev pub entered : Declared → (n : ℕ) → Scope → Scope
entered x n sc =
    record {
      depth = sc.depth;
      w = sc.w - n;
      variables = by_declared x (low (sc.variables + n)) sc.variables;
      channels = by_declared x sc.channels (low (sc.channels + n));
    }

-- the most names of a kind that are in scope together: 32 for each of 32 levels, and the outside channels as those of one more. The words
-- of variables begin at index 0 of the array, those of channels behind so many
abbrev pub most_names : ℕ
most_names = 1056

-- the array with so many names more, behind so many whose words begin at an index: they stand in the words from w on. Of more names than
-- there can be none
unfoldable pub fill_into : (first names count w : ℕ) → (words : List ℕ) → List ℕ
fill_into f k n w ws = cond (leb (k + n) most_names) (sets ws (f + k) (words_from n w)) ws

-- the array with the names of a declaration of n behind those in scope
abbrev pub declare_into : Declared → (n w : ℕ) → Scope → (words : List ℕ) → List ℕ
declare_into x n w sc ws = by_declared x (fill_into 0 sc.variables n w ws) (fill_into most_names sc.channels n w ws)

-- so many names stand in these words, which begin at an index of the array
pub record Shown (first count : ℕ) (words vs : List ℕ) : Type 0 where
  pub counted : length vs ≡ count
  pub few : count ≤ most_names
  pub each : (k : ℕ) → k < count → get_or words (first + k) 0 ≡ get_or vs k 0

-- so do the names of a scope
pub record Shows (sc : Scope) (words : List ℕ) (ns : Names) : Type 0 where
  pub variables : Shown 0 sc.variables words ns.variables
  pub channels : Shown most_names sc.channels words ns.channels

-- and there is room for those of every declaration inside
pub record Scoped (depth : ℕ) (sc : Scope) (words : List ℕ) (ns : Names) : Type 0 where
  pub shows : Shows sc words ns
  pub variables : sc.variables + name_limit * depth ≤ most_names
  pub channels : sc.channels + name_limit * depth ≤ most_names
  pub long : length words ≡ most_names + most_names

-- what is so whatever words the names in scope have, as the array shows them: the variables, the channels, both
abbrev pub WithVariables : (count : ℕ) → (words : List ℕ) → (List ℕ → Type 0) → Type 0
WithVariables n ws P = (vs : List ℕ) → Shown 0 n ws vs → P vs

abbrev pub WithChannels : (count : ℕ) → (words : List ℕ) → (List ℕ → Type 0) → Type 0
WithChannels n ws P = (cs : List ℕ) → Shown most_names n ws cs → P cs

abbrev pub WithNames : Scope → (words : List ℕ) → (Names → Type 0) → Type 0
WithNames sc ws P = (ns : Names) → Shows sc ws ns → P ns
