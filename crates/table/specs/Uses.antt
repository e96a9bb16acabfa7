-- What a part of a program does to names, as the reader keeps it (02, order 3): four sets of names by number, in 16 words each. The name of
-- number 64 i + j is bit j of a set's word i.
use Rattle.std.specs.Prelude.{ℕ, zero, suc, ◌+◌, ◌/◌, ◌%◌, ◌^◌, Bool, cond, List, get_or, set, replicate, ltb}
use Rattle.std.specs.Int.Bits.{bit_and, bit_or}
use Rattle.numbers.specs.Kinds.{by_declared}
use Rattle.numbers.specs.declared.kinds.Declared.{Declared}

-- the first words of the sets: variables assigned or input; variables read, assigned or input; channels input from; channels output to
abbrev pub changes_set : ℕ
changes_set = 0

abbrev pub uses_set : ℕ
uses_set = 16

abbrev pub inputs_set : ℕ
inputs_set = 32

abbrev pub outputs_set : ℕ
outputs_set = 48

-- no name in any set
abbrev pub no_names : List ℕ
no_names = replicate 64 0

-- a name goes into a set
unfoldable pub mark_at : (base name : ℕ) → List ℕ → List ℕ
mark_at b v l = set l (b + v / 64) (bit_or (get_or l (b + v / 64) 0) (2 ^ (v % 64)))

-- a variable that is assigned or input is also used
unfoldable pub change_at : (name : ℕ) → List ℕ → List ℕ
change_at v l = mark_at uses_set v (mark_at changes_set v l)

-- the names from a number on leave a set: at most 32 were declared there, so they are in two words
unfoldable pub forget_at : (base names : ℕ) → List ℕ → List ℕ
forget_at b n l =
    let kept = set l (b + n / 64) (get_or l (b + n / 64) 0 % 2 ^ (n % 64)) in
    cond (ltb (n / 64) 15) (set kept (b + n / 64 + 1) 0) kept

-- the names of a VAR or CHAN leave the sets behind it, where so many were in scope before
unfoldable pub leave_at : Declared → (variables channels : ℕ) → List ℕ → List ℕ
leave_at x vs cs l =
    by_declared x (forget_at uses_set vs (forget_at changes_set vs l)) (forget_at outputs_set cs (forget_at inputs_set cs l))

-- the names of one word that two branches may not have together: one changes what the other uses, or both input from, or output to, a
-- channel
unfoldable pub met_at : (k : ℕ) (before branch : List ℕ) → ℕ
met_at k b m =
    bit_or
    (bit_or
    (bit_or (bit_and (get_or b k 0) (get_or m (uses_set + k) 0)) (bit_and (get_or m k 0) (get_or b (uses_set + k) 0)))
    (bit_and (get_or b (inputs_set + k) 0) (get_or m (inputs_set + k) 0)))
    (bit_and (get_or b (outputs_set + k) 0) (get_or m (outputs_set + k) 0))

-- the same below word k, with some already found
unfoldable pub met_below : (k found : ℕ) (before branch : List ℕ) → ℕ
met_below zero x b m = x
met_below (suc k) x b m = met_below k (bit_or x (met_at k b m)) b m

-- two branches may not stand in one PAR
unfoldable pub clashing : (before branch : List ℕ) → Bool
clashing b m = ltb 0 (met_below 16 0 b m)

-- the sets of two parts together, below word k
unfoldable pub merged : (k : ℕ) (before branch : List ℕ) → List ℕ
merged zero b m = b
merged (suc k) b m = merged k (set b k (bit_or (get_or b k 0) (get_or m k 0))) m
