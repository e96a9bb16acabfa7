-- Parts that end with a J to the end: the Js are put last, from the last part to the first.
use Prim.Native.Nat.{ℕ, zero, suc, ◌+◌, ◌<◌, ◌≤◌}
use native.Mathlib.Omega.{arith}
use native.Mathlib.Nat.{add-zero, zero-add}
use mathlib.Core.Path.{◌≡◌, refl, ap, ◌∙◌}
use mathlib.Core.List.{List, [], ◌∷◌}
use lib.ListN.{length, length-set, get_or, set, take}
use Rattle.std.proofs.lemmas.List.{get_or-take, length-take-le}
use lib.Seq.{sets, get_or-set_same, get_or-set_other}
use Rattle.assembler.specs.declared.entry.Entry.{Entry}
use Rattle.model.specs.Instruction as I
use Rattle.model.specs.Instruction.{distance, function_code}
use Rattle.assembler.specs.Entries.{entries_of}
use Rattle.expressions.specs.Emits.{at, distance_into}
use Rattle.instruction.specs.Codes.{J}
use Rattle.statements.specs.Stmts.{close_into}
use Rattle.statements.proofs.Fills.{distance-list}

-- only the indices in front are read
front : (n m : ℕ) (e : List ℕ) (o : ℕ) (l : List Entry) → n ≤ m → close_into n (take m e) o l ≡ close_into n e o l
unfolding close_into
front zero m e o l h = refl
front (suc n) m e o l h =
    let inside : n < m = omega arith in
    rw (get_or-take m e n 0 inside) (front n m e o _ (omega arith))

pub close-front : (m : ℕ) (e : List ℕ) (o : ℕ) (l : List Entry) → m ≤ length e
    → close_into (length (take m e)) (take m e) o l ≡ close_into m e o l
close-front m e o l h = rw (length-take-le m e h) (front m m e o l (omega arith))

-- the list with a J at an index
abbrev jump : (over h : ℕ) → List Entry → List Entry
jump over h l = (distance_into J over h (at h l)).list

jump-is : (over h : ℕ) (l : List Entry) → jump over h l ≡ sets l h (entries_of (distance I.j over h ∷ []))
unfolding function_code
jump-is over h l = distance-list I.j over h h l

-- so many Js from the k-th index on, the last one first
unfoldable pub closed : (left k : ℕ) → (ends : List ℕ) → (over : ℕ) → List Entry → List Entry
closed zero k e o l = l
closed (suc n) k e o l = jump o (get_or e k 0) (closed n (suc k) e o l)

closed-last : (n k : ℕ) (e : List ℕ) (o : ℕ) (l : List Entry) → closed n k e o (jump o (get_or e (k + n) 0) l) ≡ closed (suc n) k e o l
unfolding closed
closed-last zero k e o l = rw (add-zero k)
closed-last (suc n) k e o l =
    let next : k + suc n ≡ suc k + n = omega arith in
    rw next (ap (jump o (get_or e k 0)) (closed-last n (suc k) e o l))

pub close-is : (n : ℕ) (e : List ℕ) (o : ℕ) (l : List Entry) → close_into n e o l ≡ closed n 0 e o l
unfolding close_into closed
close-is zero e o l = refl
close-is (suc n) e o l =
    close-is n e o (jump o (get_or e n 0) l)
    ∙ rw (zero-add n) at (closed-last n 0 e o l)

-- the indices below the k-th stay
pub record Kept (k : ℕ) (before after : List ℕ) : Type 0 where
  pub long : length after ≡ length before
  pub below : (x : ℕ) → x < k → get_or after x 0 ≡ get_or before x 0

pub kept-all : (k : ℕ) (e : List ℕ) → Kept k e e
kept-all k e = record { long = refl; below = λ x l. refl }

-- one more index, and what follows keeps it
pub kept_more : {k : ℕ} {e after : List ℕ} (h : ℕ) → k < length e → Kept (suc k) (set e k h) after
    → Kept k e after × (get_or after k 0 ≡ h)
kept_more {k} {e} h l q = (
  record {
    long = q.long ∙ length-set e k h;
    below = λ x m. q.below x (omega arith) ∙ get_or-set_other e k x h 0 (omega arith);
  },
  q.below k (omega arith) ∙ get_or-set_same e k h 0 l,
)

-- the first J, behind what the others close
pub closed-more : (n k : ℕ) (e : List ℕ) (o h : ℕ) (l : List Entry) → get_or e k 0 ≡ h
    → closed (suc n) k e o l ≡ sets (closed n (suc k) e o l) h (entries_of (distance I.j o h ∷ []))
unfolding closed
closed-more n k e o h l is = rw is (jump-is o h (closed n (suc k) e o l))

pub closed_none : (k : ℕ) (e : List ℕ) (o : ℕ) (l : List Entry) → closed 0 k e o l ≡ l
unfolding closed
closed_none k e o l = refl
