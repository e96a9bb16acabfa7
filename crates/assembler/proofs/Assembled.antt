-- What the assembler makes of the entries of instructions is the definition's size, places and bytes.
use Prim.Native.Nat.{ℕ, zero, suc, ◌+◌, ◌*◌, ◌%◌, ◌^◌, ◌≤◌, ◌<◌}
use native.Mathlib.Omega.{arith}
use native.Mathlib.Nat.{zero-add, add-zero, mod-eq_of_lt}
use native.Mathlib.Numerals.{add-one}
use borrow.Author.Tests.{le-leb}
use mathlib.Core.Path.{◌≡◌, refl, sym, ap, ◌∙◌}
use mathlib.Core.List.{List, [], ◌∷◌}
use lib.ListN.{length, get_or, take, drop, set, length-set}
use lib.Seq.{sets, get_or-set_same, get_or-set_other}
use Rattle.model.specs.Limits.{code_limit}
use Rattle.model.specs.Word.{low}
use Rattle.model.specs.Prefix.{with_prefixes}
use Rattle.model.specs.Instruction.{function_code, Instruction, plain, distance}
use Rattle.model.specs.Code.{Fits, AllFit, cons-fits, prefixes_of, bytes_in, place_of, function_in, operand_in as operand_of, encode}
use Rattle.model.proofs.Coding.RoundTrip.{with_prefixes-length, fewest-fits}
use Rattle.model.proofs.Cases.{never}
use Rattle.instruction.specs.Coded.{coded}
use Rattle.instruction.proofs.Stores.{sets-append}
use Rattle.instruction.proofs.Decodes.{coded-is}
use Rattle.assembler.specs.Entries.{blank, entry_of, entries_of, byte_in}
use Rattle.assembler.specs.declared.entry.Entry.{Entry}
use Rattle.assembler.specs.Places.{prefixes_in, sized, placed, place_in, operand_by, wrote, within}
use Rattle.assembler.specs.Listed.{Listed, PlacesOf}

-- the function and the prefixes of an entry are the definition's: at most seven
byte_of : (x : Instruction) → byte_in (entry_of x) ≡ function_code (function_in x) * 16
unfolding entry_of function_in
byte_of (plain f o) = refl
byte_of (distance f r u) = refl

prefixes-are : (x : Instruction) → prefixes_in (entry_of x) ≡ prefixes_of x
unfolding entry_of prefixes_of
prefixes-are (plain f o) = refl
prefixes-are (distance f r u) = refl

prefixes-few : (x : Instruction) → prefixes_of x ≤ 7
unfolding prefixes_of
prefixes-few (plain f o) = (fewest-fits o).1
prefixes-few (distance f r u) = omega arith

-- every instruction takes at least one byte, and at most eight
pub bytes-least : (xs : List Instruction) → length xs ≤ bytes_in xs
unfolding bytes_in
bytes-least [] = omega arith
bytes-least (x ∷ xs) = omega (arith, bytes-least xs)

bytes-few : (xs : List Instruction) → bytes_in xs ≤ 8 * length xs
unfolding bytes_in
bytes-few [] = omega arith
bytes-few (x ∷ xs) = omega (arith, prefixes-few x, bytes-few xs)

-- the entries of these instructions stand in a list from index i on
abbrev Stands : (xs : List Instruction) (i : ℕ) (list : List Entry) → Type 0
Stands xs i l = take (length xs) (drop i l) ≡ entries_of xs

first : (n i : ℕ) (e : Entry) (es l : List Entry) → take (suc n) (drop i l) ≡ e ∷ es
    → (get_or l i blank ≡ e) × (take n (drop (suc i) l) ≡ es)
first n zero e es [] h = never (cc)
first n zero e es (y ∷ l) h = (cc, cc)
first n (suc i) e es [] h = never (cc)
first n (suc i) e es (y ∷ l) h = first n i e es l h

stands-first : (x : Instruction) (xs : List Instruction) (i : ℕ) (l : List Entry) → Stands (x ∷ xs) i l
    → (get_or l i blank ≡ entry_of x) × Stands xs (i + 1) l
unfolding entries_of
stands-first x xs i l h = rw add-one (first (length xs) i (entry_of x) (entries_of xs) l h)

module _ (n : ℕ) (list : List Entry) where
  -- the place after an instruction
  after : (x : Instruction) (i h : ℕ) → get_or list i blank ≡ entry_of x → h + suc (prefixes_of x) < 2 ^ 32
      → low (h + (prefixes_in (get_or list i blank) + 1)) ≡ h + suc (prefixes_of x)
  after x i h e b = rw (e, prefixes-are x) (omega arith)

  sized-is : (xs : List Instruction) (i h : ℕ) → AllFit n xs → Stands xs i list → h + bytes_in xs < 2 ^ 32
      → sized (length xs) i h list ≡ h + bytes_in xs
  unfolding sized bytes_in
  sized-is [] i h f s b = omega arith
  sized-is (x ∷ xs) i h (cons-fits f fs) s b =
      let (e, t) = stands-first x xs i list s in
      ap (λ z. sized (length xs) (i + 1) z list) (after x i h e (omega arith))
      ∙ sized-is xs (i + 1) (h + suc (prefixes_of x)) fs t (omega arith)
      ∙ omega arith

  -- places before those that are set stay, and those that are set are the definition's
  placed-before : (k i h m : ℕ) (p : List ℕ) → m < i → get_or (placed k i h list p) m 0 ≡ get_or p m 0
  unfolding placed
  placed-before zero i h m p b = get_or-set_other p i m h 0 (omega arith)
  placed-before (suc k) i h m p b = placed-before k (i + 1) _ m (set p i h) (omega arith) ∙ get_or-set_other p i m h 0 (omega arith)

  placed-is : (xs : List Instruction) (i h k : ℕ) (p : List ℕ) → AllFit n xs → Stands xs i list → h + bytes_in xs < 2 ^ 32
      → i + length xs < length p → k ≤ length xs → get_or (placed (length xs) i h list p) (i + k) 0 ≡ h + place_of xs k
  unfolding placed bytes_in place_of
  placed-is [] i h zero p f s b l c = simp add-zero (get_or-set_same p i h 0 (omega arith))
  placed-is [] i h (suc k) p f s b l c = absurd (omega arith)
  placed-is (x ∷ xs) i h zero p f s b l c =
      simp add-zero (placed-before (length xs) (i + 1) _ i (set p i h) (omega arith) ∙ get_or-set_same p i h 0 (omega arith))
  placed-is (x ∷ xs) i h (suc k) p (cons-fits f fs) s b l c =
      let (e, t) = stands-first x xs i list s in
      let on : i + suc k ≡ i + 1 + k = omega arith in
      let room : i + 1 + length xs < length (set p i h) = rw length-set (omega arith) in
      rw on
      (ap (λ z. get_or (placed (length xs) (i + 1) z list (set p i h)) (i + 1 + k) 0) (after x i h e (omega arith))
      ∙ placed-is xs (i + 1) (h + suc (prefixes_of x)) k (set p i h) fs t (omega arith) room (omega arith)
      ∙ omega arith)

  module _ (short : n ≤ code_limit) (off : ℕ → ℕ) (places : List ℕ) (at : (i : ℕ) → i ≤ n → get_or places i 0 ≡ off i) where
    place_is : (i : ℕ) → i ≤ n → place_in places i ≡ off i
    unfolding place_in
    place_is i h = rw (le-leb i code_limit (omega arith)) (at i h)

    operand-is : (x : Instruction) → Fits n x → operand_by places (entry_of x) ≡ operand_of off x
    unfolding entry_of operand_of
    operand-is (plain f o) h = refl
    operand-is (distance f r u) h =
        let reached : r % 2 ^ 16 ≡ r = mod-eq_of_lt (omega arith) in
        let user : u % 2 ^ 16 ≡ u = mod-eq_of_lt (omega arith) in
        rw (reached, user, add-one, place_is r h.0, place_is (suc u) h.1)

    -- one instruction, and all of them
    one-is : (x : Instruction) → Fits n x
        → coded (prefixes_in (entry_of x)) (byte_in (entry_of x)) (operand_by places (entry_of x))
        ≡ with_prefixes (prefixes_of x) (function_in x) (operand_of off x)
    one-is x h = rw (prefixes-are x, byte_of x, operand-is x h) (coded-is _ _ _)

    wrote-is : (xs : List Instruction) (i h : ℕ) (out : List ℕ) → AllFit n xs → Stands xs i list
        → ((k : ℕ) → k ≤ length xs → get_or places (i + k) 0 ≡ h + place_of xs k)
        → wrote (length xs) i list places out ≡ sets out h (encode off xs)
    unfolding wrote encode place_of bytes_in
    wrote-is [] i h out f s p = refl
    wrote-is (x ∷ xs) i h out (cons-fits f fs) s p =
        let (e, t) = stands-first x xs i list s in
        let b = get_or list i blank in
        let w = with_prefixes (prefixes_of x) (function_in x) (operand_of off x) in
        let length-w : length w ≡ suc (prefixes_of x) = with_prefixes-length _ _ _ in
        let here : get_or places i 0 ≡ h = simp add-zero at (p 0 (omega arith)) in
        let one : sets out (get_or places i 0) (coded (prefixes_in b) (byte_in b) (operand_by places b)) ≡ sets out h w =
        rw (here, e, one-is x f) in
        let later : (k : ℕ) → k ≤ length xs → get_or places (i + 1 + k) 0 ≡ h + suc (prefixes_of x) + place_of xs k =
        λ k c. let on : i + 1 + k ≡ i + suc k = omega arith in rw on (p (suc k) (omega arith) ∙ omega arith) in
        ap (λ z. wrote (length xs) (i + 1) list places z) one
        ∙ wrote-is xs (i + 1) (h + suc (prefixes_of x)) (sets out h w) fs t later
        ∙ sym (rw length-w at (sets-append w (encode off xs) out h))

-- of every list
module _ (xs : List Instruction) (count : ℕ) (list : List Entry) (l : Listed xs count list) where
  within-is : within count ≡ length xs
  within-is = omega arith

  few : 0 + bytes_in xs < 2 ^ 32
  few = omega (arith, bytes-few xs)

  pub size_is : sized (within count) 0 0 list ≡ bytes_in xs
  size_is = rw within-is (sized-is (length xs) list xs 0 0 l.fit l.entries few ∙ zero-add _)

  pub places-are : (places : List ℕ) → length places ≡ code_limit + 1 → PlacesOf xs (placed (within count) 0 0 list places)
  places-are p e i h =
      let room : 0 + length xs < length p = omega arith in
      rw within-is (simp zero-add at (placed-is (length xs) list xs 0 0 i p l.fit l.entries few room h))

  pub bytes-are : (places out : List ℕ) → PlacesOf xs places
      → wrote (within count) 0 list places out ≡ sets out 0 (encode (place_of xs) xs)
  bytes-are p o at =
      rw within-is
      (wrote-is (length xs) list l.short (place_of xs) p at xs 0 0 o l.fit l.entries (λ k c. simp zero-add (at k c)))
