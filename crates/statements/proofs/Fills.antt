-- What is put into the list is the model's instructions; instructions one behind another, and in either order.
use Prim.Native.Nat.{ℕ, suc, ◌+◌, ◌*◌, ◌^◌, ◌≤◌, ◌<◌}
use native.Mathlib.Omega.{arith}
use native.Mathlib.Nat.{add-zero, add_assoc, mod-eq_of_lt}
use mathlib.Core.Path.{◌≡◌, refl, ap, ◌∙◌}
use mathlib.Core.List.{List, [], ◌∷◌, ◌++◌, append-nil, append_assoc}
use lib.ListN.{length, length-append}
use lib.Seq.{sets}
use Rattle.assembler.specs.declared.entry.Entry.{Entry}
use Rattle.model.specs.Instruction.{Function, function_code, Instruction, plain, distance}
use Rattle.instruction.proofs.Stores.{sets-append, sets-comm, sets-join}
use Rattle.assembler.specs.Entries.{entry_of, entries_of}
use Rattle.expressions.specs.Emits.{Code, at, put_into, plain_into, distance_into}

pub entries-append : (xs ys : List Instruction) → entries_of (xs ++ ys) ≡ entries_of xs ++ entries_of ys
unfolding entries_of
entries-append [] ys = refl
entries-append (x ∷ xs) ys = rw (entries-append xs ys)

pub entries-length : (xs : List Instruction) → length (entries_of xs) ≡ length xs
unfolding entries_of
entries-length [] = refl
entries-length (x ∷ xs) = ap suc (entries-length xs)

-- the indices of instructions fit below 2 ^ 32
abbrev pub Room : (here : ℕ) → List Instruction → Type 0
Room h xs = h + length xs < 2 ^ 32

pub room-left : (h : ℕ) (xs ys : List Instruction) → Room h (xs ++ ys) → Room h xs
room-left h xs ys l = omega (arith, length-append xs ys)

pub room-right : (h : ℕ) (xs ys : List Instruction) → Room h (xs ++ ys) → Room (h + length xs) ys
room-right h xs ys l = omega (arith, length-append xs ys)

-- the list with instructions from an index on, and the index after them
abbrev pub filled : (here : ℕ) → List Instruction → List Entry → Code
filled h xs o = at (h + length xs) (sets o h (entries_of xs))

-- instructions behind others, put in either order
pub fill-then : (h : ℕ) (xs ys : List Instruction) (o : List Entry)
    → filled (h + length xs) ys (sets o h (entries_of xs)) ≡ filled h (xs ++ ys) o
fill-then h xs ys o =
    rw (
      length-append xs ys,
      ← add_assoc h (length xs) (length ys),
      entries-append xs ys,
      sets-append (entries_of xs) (entries_of ys) o h,
      entries-length xs,
    )

pub fill-before : (h : ℕ) (xs ys : List Instruction) (o : List Entry)
    → sets (sets o (h + length xs) (entries_of ys)) h (entries_of xs) ≡ sets o h (entries_of (xs ++ ys))
fill-before h xs ys o = rw (entries-append xs ys, ← sets-join (entries_of xs) (entries_of ys) o h, entries-length xs)

-- an instruction put into a gap in front of what follows it
pub gap-fills : (h : ℕ) (xs : List Instruction) (x : Instruction) (ys : List Instruction) (o : List Entry)
    → sets (sets (sets o h (entries_of xs)) (h + length xs + 1) (entries_of ys)) (h + length xs) (entries_of (x ∷ []))
    ≡ sets o h (entries_of (xs ++ x ∷ ys))
gap-fills h xs x ys o =
    fill-before (h + length xs) (x ∷ []) ys (sets o h (entries_of xs)) ∙ ap (λ c. c.list) (fill-then h xs (x ∷ ys) o)

-- two areas apart, filled in either order
pub fill-swap : (a : ℕ) (xs : List Instruction) (b : ℕ) (ys : List Instruction) (o : List Entry) → a + length xs ≤ b
    → sets (sets o a (entries_of xs)) b (entries_of ys) ≡ sets (sets o b (entries_of ys)) a (entries_of xs)
fill-swap a xs b ys o l = sets-comm (entries_of xs) (entries_of ys) o a b (omega (arith, entries-length xs))

-- two areas, each filled in two parts, a part of one after a part of the other
pub areas-fill : (a : ℕ) (xs xs2 : List Instruction) (b : ℕ) (ys ys2 : List Instruction) (o : List Entry) → a + length xs ≤ b
    → sets (sets (sets (sets o a (entries_of xs)) b (entries_of ys)) (b + length ys) (entries_of ys2)) (a + length xs) (entries_of xs2)
    ≡ sets (sets o b (entries_of (ys ++ ys2))) a (entries_of (xs ++ xs2))
areas-fill a xs xs2 b ys ys2 o l =
    rw (
      fill-swap a xs b ys o l,
      fill-swap a xs (b + length ys) ys2 (sets o b (entries_of ys)) (omega arith),
      ap (λ c. c.list) (fill-then b ys ys2 o),
    )
    (ap (λ c. c.list) (fill-then a xs xs2 (sets o b (entries_of (ys ++ ys2)))))

pub no-entries : entries_of [] ≡ []
unfolding entries_of
no-entries = refl

pub fill_none : (h : ℕ) (o : List Entry) → filled h [] o ≡ at h o
unfolding entries_of
fill_none h o = rw (add-zero h)

one-fills : (x : Instruction) (h : ℕ) (o : List Entry) → h + 1 < 2 ^ 32 → put_into (entry_of x) (at h o) ≡ filled h (x ∷ []) o
unfolding put_into entries_of
one-fills x h o l = rw (mod-eq_of_lt l)

-- instructions one behind another, as they are put into the list
abbrev pub emits : List Instruction → Code → Code
emits [] c = c
emits (plain f n ∷ xs) c = emits xs (plain_into (function_code f * 16) n c)
emits (distance f r u ∷ xs) c = emits xs (distance_into (function_code f * 16) r u c)

emits-more : (x : Instruction) (xs : List Instruction) (c : Code) → emits (x ∷ xs) c ≡ emits xs (put_into (entry_of x) c)
unfolding plain_into distance_into entry_of
emits-more (plain f n) xs c = refl
emits-more (distance f r u) xs c = refl

pub emits-fills : (xs : List Instruction) (h : ℕ) (ys : List Instruction) (o : List Entry) → Room h (ys ++ xs)
    → emits xs (filled h ys o) ≡ filled h (ys ++ xs) o
emits-fills [] h ys o l = rw append-nil
emits-fills (x ∷ xs) h ys o l =
    let room : Room h (ys ++ x ∷ [] ++ xs) = rw append_assoc l in
    emits-more x xs (filled h ys o)
    ∙ rw (
      one-fills x (h + length ys) (sets o h (entries_of ys)) (room-right h ys (x ∷ []) (room-left h (ys ++ x ∷ []) xs room)),
      fill-then h ys (x ∷ []) o,
    )
    (emits-fills xs h (ys ++ x ∷ []) o room ∙ rw append_assoc)

-- the same from an index on
pub emits-at : (xs : List Instruction) (h : ℕ) (o : List Entry) → Room h xs → emits xs (at h o) ≡ filled h xs o
emits-at xs h o l = rw (fill_none h o) at (emits-fills xs h [] o l)

-- a distance in the list alone
pub distance-list : (f : Function) (r u h : ℕ) (o : List Entry)
    → (distance_into (function_code f * 16) r u (at h o)).list ≡ sets o h (entries_of (distance f r u ∷ []))
unfolding distance_into put_into entries_of entry_of
distance-list f r u h o = refl
