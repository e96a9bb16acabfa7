-- Numbers, counts, kinds and names as the reader answers them, by places of the table. proofs/ shows that these are the numbers, counts
-- and names of the model's reader.
use Rattle.std.specs.Prelude.{ℕ, zero, suc, ◌+◌, ◌-◌, ◌*◌, ◌%◌, cond, ◌&&◌, ◌||◌, List, length, get_or, ltb, leb, eqb}
use Rattle.std.specs.Prelude.{Option, Some, None, Result, Ok, Err}
use Rattle.std.specs.Option.{option_and_then, ok_or}
use Rattle.model.specs.Answers.{reason_number, refused_for}
use Rattle.model.specs.declared.Reason.{Reason}
use Rattle.model.specs.declared.Reason.TheVariants.{TableSize, BadNumber, OutOfRange, TooDeep, BadName, BytesBehind, Clash}
use Rattle.model.specs.declared.Reason.TheVariants.{TooManyProcesses, TooLarge, Short}
use Rattle.model.specs.declared.Refusal.{Refusal}
use Rattle.numbers.specs.declared.Misread.{Misread}
use Rattle.numbers.specs.declared.Number.{Number}
use Rattle.numbers.specs.declared.Value.{Value}

-- the refusal for a reason at a place, on its way through the reader
abbrev pub misread : Reason → (place : ℕ) → Misread
misread why p = record { place = p; number = reason_number why }

-- the reason of a number
abbrev pub reason_of : ℕ → Reason
reason_of n =
    cond (eqb n 1) TableSize
    (cond (eqb n 2) BadNumber
    (cond (eqb n 3) OutOfRange
    (cond (eqb n 4) TooDeep
    (cond (eqb n 5) BadName
    (cond (eqb n 6) BytesBehind
    (cond (eqb n 7) Clash (cond (eqb n 9) TooManyProcesses (cond (eqb n 10) TooLarge Short))))))))

-- the refusal that the reader answers
abbrev pub refusal_of : Misread → Refusal
refusal_of m = refused_for (reason_of m.number) m.place

-- what follows a part that was read; `refuse` answers a refusal
abbrev pub with_read : {A R : Type 0} → (refuse : Misread → R) → Result A Misread → (A → R) → R
with_read refuse (Ok a) f = f a
with_read refuse (Err r) f = refuse r

-- one part, and then another; a refusal ends the reading
infixl 10 ◌>>=◌
abbrev pub ◌>>=◌ : {A B : Type 0} → Result A Misread → (A → Result B Misread) → Result B Misread
x >>= f = with_read Err x f

-- a group in front of others
abbrev pub grouped : ℕ → Number → Option Number
grouped b n =
    cond (eqb n.value 0) None (cond (ltb n.value 33554432) (Some (record { value = b - 128 + 128 * n.value; next = n.next })) None)

unfoldable pub groups_at : (left : ℕ) → List ℕ → (at : ℕ) → Option Number
groups_at zero s at = None
groups_at (suc k) s at =
    cond (leb (length s) at) None
    (cond (ltb (get_or s at 0) 128) (Some (record { value = get_or s at 0; next = at + 1 }))
    (option_and_then (grouped (get_or s at 0)) (groups_at k s (at + 1))))

-- the number at a place, or 2
unfoldable pub number_at : List ℕ → (at : ℕ) → Result Number Misread
number_at s at = ok_or (groups_at 5 s at) (misread BadNumber at)

-- a kind or a count from lo to hi
unfoldable pub between_at : (lo hi : ℕ) → List ℕ → (at : ℕ) → Result Number Misread
between_at lo hi s at = do
  n ← number_at s at
  cond (ltb n.value lo || ltb hi n.value) (Err (misread OutOfRange at)) (Ok n)

-- a name below count, and not from `from` up to `to`
unfoldable pub name_at : (count from to : ℕ) → List ℕ → (at : ℕ) → Result Number Misread
name_at count from to s at = do
  n ← number_at s at
  cond (leb count n.value || leb from n.value && ltb n.value to) (Err (misread BadName at)) (Ok n)

-- what is too deep
unfoldable pub deep_at : List ℕ → (at : ℕ) → Misread
deep_at s at = with_read (λ r. r) (number_at s at) (λ n. misread TooDeep at)

-- a number of a table that was read before, and the place after it; 0 and the place itself where none stands
unfoldable pub value_at : List ℕ → (at : ℕ) → Value
value_at s at =
    with_read (λ r. record { value = 0; next = at }) (number_at s at) (λ n. record { value = n.value % 4294967296; next = n.next })
