-- The sets of names that the reader keeps, against the usage of the model.
use Prim.Native.Nat.{ℕ, zero, suc, ◌+◌, ◌-◌, ◌*◌, ◌/◌, ◌%◌, ◌^◌, ◌≤◌, ◌<◌}
use native.Mathlib.Omega.{arith}
use native.Mathlib.Nat.{mod-eq_of_lt, lt_of_lt_of_le}
use mathlib.Core.Path.{◌≡◌, refl, sym, ◌∙◌}
use mathlib.Core.Logic.{◌≢◌}
use mathlib.Core.Bool.{Bool, true, false, cond, ◌||◌, or-false, or_assoc}
use mathlib.Core.List.{List, [], ◌∷◌, ◌++◌}
use mathlib.Core.Option.{some}
use lib.ListN.{length, get_or, get_elem?, set, drop, length-set, length-drop, length-append, length-replicate, drop_of_length-le}
use lib.ListN.{get_or-replicate}
use lib.Seq.{get_or-set_same, get_or-set_other, drop-append-le}
use lib.Dec.{ltb, eqb}
use lib.Pow.{pow_pos, pow_mono}
use lib.Bits.{bit_or, or_zero_r, or_lt, or_mod}
use borrow.Author.Tests.{lt-ltb, le-ltb, eq-eqb, ne_eqb, ltb-true, ltb-false, eqb-true, eqb-false}
use Rattle.model.proofs.Quiet.Setting.{get_elem-inside as inside}
use Rattle.model.proofs.Cases.{by_bool, never}
use Rattle.model.specs.Syntax.{Site}
use Rattle.model.specs.Reader.{Scope, names, with_variables, with_channels}
use Rattle.model.specs.Usage.{Usage, nothing, ◌⊕◌, changing, same, is_in}
use Rattle.model.proofs.Tables.Sites.{same-eq}
use Rattle.table.specs.Uses.{no_names, mark_at, change_at, forget_at, merged}
use Rattle.table.specs.Sets.{word_of}
use Rattle.table.specs.Scopes.{Fresh}
use Rattle.table.proofs.Words.{or-assoc-word, word-or, word_same, word_none, word-of-none, word-one, word_low, word-front, word-rest}

-- the four sets, in the order in which they stand
pub data Field : Type 0 where
  changed used-there inputs-of outputs-of : Field

abbrev pub base : Field → ℕ
base changed = 0
base used-there = 16
base inputs-of = 32
base outputs-of = 48

abbrev pub field : Field → Usage → List Site
field changed u = u.changes
field used-there u = u.uses
field inputs-of u = u.inputs
field outputs-of u = u.outputs

-- the names that a set is about
abbrev pub names_of : Field → Scope → List Site
names_of changed sc = sc.variables
names_of used-there sc = sc.variables
names_of inputs-of sc = sc.channels
names_of outputs-of sc = sc.channels

-- one name in one set
abbrev pub only : Field → Site → Usage
only changed x = record { changes = x ∷ []; uses = []; inputs = []; outputs = [] }
only used-there x = record { changes = []; uses = x ∷ []; inputs = []; outputs = [] }
only inputs-of x = record { changes = []; uses = []; inputs = x ∷ []; outputs = [] }
only outputs-of x = record { changes = []; uses = []; inputs = []; outputs = x ∷ [] }

-- a word of a usage's set
abbrev pub word_in : Scope → Usage → Field → ℕ → ℕ
word_in sc u f i = word_of 64 (λ x. is_in x (field f u)) (drop (64 * i) (names_of f sc))

-- the sets afterwards: those before, and what the usage has of the names in scope
pub record Marked (sc : Scope) (before : List ℕ) (u : Usage) (marks : List ℕ) : Type 0 where
  pub long : length marks ≡ 64
  pub word : (f : Field) (i : ℕ) → i < 16 → get_or marks (base f + i) 0 ≡ bit_or (get_or before (base f + i) 0) (word_in sc u f i)

-- sets that have no name but those in scope
pub record Clean (sc : Scope) (marks : List ℕ) : Type 0 where
  pub long : length marks ≡ 64
  pub low : (f : Field) (i : ℕ) → i < 16 → get_or marks (base f + i) 0 < 2 ^ (length (names_of f sc) - 64 * i)

-- how a part of the table is used: as a usage says
abbrev pub Uses : Scope → Usage → (List ℕ → List ℕ) → Type 0
Uses sc u way = (l : List ℕ) → Clean sc l → Marked sc l u (way l)

pub is_in-append : (x : Site) (ys zs : List Site) → is_in x (ys ++ zs) ≡ (is_in x ys || is_in x zs)
unfolding is_in
is_in-append x [] zs = refl
is_in-append x (y ∷ ys) zs = rw (is_in-append x ys zs) (sym (or_assoc (same x y) (is_in x ys) (is_in x zs)))

pub field_both : (f : Field) (u v : Usage) → field f (u ⊕ v) ≡ field f u ++ field f v
field_both changed u v = refl
field_both used-there u v = refl
field_both inputs-of u v = refl
field_both outputs-of u v = refl

pub field-nothing : (f : Field) → field f nothing ≡ []
field-nothing changed = refl
field-nothing used-there = refl
field-nothing inputs-of = refl
field-nothing outputs-of = refl

-- a set that a usage leaves empty
word-empty : (sc : Scope) (u : Usage) (f : Field) (i : ℕ) → field f u ≡ [] → word_in sc u f i ≡ 0
unfolding is_in
word-empty sc u f i e = rw e (word_none 64 (drop (64 * i) (names_of f sc)))

pub word-both : (sc : Scope) (u v : Usage) (f : Field) (i : ℕ) → word_in sc (u ⊕ v) f i ≡ bit_or (word_in sc u f i) (word_in sc v f i)
word-both sc u v f i =
    let names = drop (64 * i) (names_of f sc) in
    rw (field_both f u v) (
    word_same 64 (λ x. is_in x (field f u ++ field f v)) (λ x. is_in x (field f u) || is_in x (field f v)) names
    (λ k x l e. is_in-append x (field f u) (field f v))
    ∙ sym (word-or 64 (λ x. is_in x (field f u)) (λ x. is_in x (field f v)) names))

pub marked-nothing : (sc : Scope) (l : List ℕ) → length l ≡ 64 → Marked sc l nothing l
marked-nothing sc l e =
    record { long = e; word = λ f i h. rw (word-empty sc nothing f i (field-nothing f)) (sym (or_zero_r (get_or l (base f + i) 0))) }

pub marked-both : {sc : Scope} {l m n : List ℕ} {u v : Usage} → Marked sc l u m → Marked sc m v n → Marked sc l (u ⊕ v) n
marked-both {sc} {l} {m} {n} {u} {v} a b =
    record {
      long = b.long;
      word =
          λ f i h.
          rw (b.word f i h, a.word f i h, word-both sc u v f i)
          (or-assoc-word (get_or l (base f + i) 0) (word_in sc u f i) (word_in sc v f i));
    }

pub clean-marked : {sc : Scope} {l m : List ℕ} {u : Usage} → Clean sc l → Marked sc l u m → Clean sc m
clean-marked {sc} {l} {m} {u} c a =
    record {
      long = a.long;
      low = λ f i h.
          let names = drop (64 * i) (names_of f sc) in
          let few : word_in sc u f i < 2 ^ (length (names_of f sc) - 64 * i) =
          rw (length-drop (64 * i) (names_of f sc)) at (word_low 64 (λ x. is_in x (field f u)) names) in
          rw (a.word f i h) (or_lt (length (names_of f sc) - 64 * i) (get_or l (base f + i) 0) (word_in sc u f i) (c.low f i h) few);
    }

-- one part's use, then another's
pub use-both : {sc : Scope} {u v : Usage} {f g : List ℕ → List ℕ} → Uses sc u f → Uses sc v g → Uses sc (u ⊕ v) (λ l. g (f l))
use-both {f = f} a b l c = let m = a l c in marked-both m (b (f l) (clean-marked c m))

pub use-nothing : (sc : Scope) → Uses sc nothing (λ l. l)
use-nothing sc l c = marked-nothing sc l c.long

pub base-low : (f : Field) → base f ≤ 48
base-low changed = omega arith
base-low used-there = omega arith
base-low inputs-of = omega arith
base-low outputs-of = omega arith

none-at : (i : ℕ) → i < 64 → get_or no_names i 0 ≡ 0
none-at i h = get_or-replicate {A = ℕ} 64 i 0 0 h

pub clean-none : (sc : Scope) → Clean sc no_names
clean-none sc =
    record {
      long = length-replicate {A = ℕ} 64 0;
      low = λ f i h. rw (none-at (base f + i) (omega (arith, base-low f, h))) (pow_pos (length (names_of f sc) - 64 * i));
    }

-- sets from nothing are a usage's own
pub own-word : {sc : Scope} {u : Usage} {m : List ℕ} (f : Field) (i : ℕ) → i < 16 → Marked sc no_names u m
    → get_or m (base f + i) 0 ≡ word_in sc u f i
own-word f i h a = a.word f i h ∙ rw (none-at (base f + i) (omega (arith, base-low f, h))) refl

pub record Apart (f g : Field) : Type 0 where
  pub places : (k v : ℕ) → k < 16 → v < 16 → base f + k ≢ base g + v
  pub empty : (x : Site) → field f (only g x) ≡ []

pub fields : {R : Type 0} (f g : Field) → (f ≡ g → R) → (Apart f g → R) → R
fields changed changed s a = s refl
fields changed used-there s a = a (record { places = λ k v h i e. omega arith; empty = λ x. refl })
fields changed inputs-of s a = a (record { places = λ k v h i e. omega arith; empty = λ x. refl })
fields changed outputs-of s a = a (record { places = λ k v h i e. omega arith; empty = λ x. refl })
fields used-there changed s a = a (record { places = λ k v h i e. omega arith; empty = λ x. refl })
fields used-there used-there s a = s refl
fields used-there inputs-of s a = a (record { places = λ k v h i e. omega arith; empty = λ x. refl })
fields used-there outputs-of s a = a (record { places = λ k v h i e. omega arith; empty = λ x. refl })
fields inputs-of changed s a = a (record { places = λ k v h i e. omega arith; empty = λ x. refl })
fields inputs-of used-there s a = a (record { places = λ k v h i e. omega arith; empty = λ x. refl })
fields inputs-of inputs-of s a = s refl
fields inputs-of outputs-of s a = a (record { places = λ k v h i e. omega arith; empty = λ x. refl })
fields outputs-of changed s a = a (record { places = λ k v h i e. omega arith; empty = λ x. refl })
fields outputs-of used-there s a = a (record { places = λ k v h i e. omega arith; empty = λ x. refl })
fields outputs-of inputs-of s a = a (record { places = λ k v h i e. omega arith; empty = λ x. refl })
fields outputs-of outputs-of s a = s refl

pub field-only : (f : Field) (x : Site) → field f (only f x) ≡ x ∷ []
field-only changed x = refl
field-only used-there x = refl
field-only inputs-of x = refl
field-only outputs-of x = refl

pub drop_at : {A : Type 0} (n k : ℕ) (l : List A) → get_elem? (drop n l) k ≡ get_elem? l (n + k)
drop_at zero k l = let e : 0 + k ≡ k = omega arith in rw e refl
drop_at (suc n) k [] = refl
drop_at (suc n) k (x ∷ l) = let e : suc n + k ≡ suc (n + k) = omega arith in rw e (drop_at n k l)

-- the name of a number is one name's if it is its number
one_name : (names : List Site) (v i k : ℕ) (x y : Site) → Fresh names names → get_elem? names v ≡ some x
    → get_elem? (drop (64 * i) names) k ≡ some y → is_in y (x ∷ []) ≡ eqb (64 * i + k) v
unfolding is_in
one_name names v i k x y fresh e f = or-false (same y x) ∙ fresh (64 * i + k) v y x (sym (drop_at (64 * i) k names) ∙ f) e

-- a name in scope goes into a set
pub mark-one : (f : Field) (sc : Scope) (v : ℕ) (x : Site) → Fresh (names_of f sc) (names_of f sc) → get_elem? (names_of f sc) v ≡ some x
    → length (names_of f sc) ≤ 1024 → Uses sc (only f x) (λ l. mark_at (base f) v l)
unfolding mark_at
mark-one f sc v x fresh e few l c =
    record { long = length-set l (base f + v / 64) _ ∙ c.long; word = λ g i h. fields g f (λ s. rw s (own i h)) (λ a. other g i h a) }
  where
    numbered : v < length (names_of f sc)
    numbered = inside (names_of f sc) v e

    Word : Field → ℕ → Type 0
    Word g i =
        get_or (set l (base f + v / 64) (bit_or (get_or l (base f + v / 64) 0) (2 ^ (v % 64)))) (base g + i) 0
        ≡ bit_or (get_or l (base g + i) 0) (word_in sc (only f x) g i)

    other : (g : Field) (i : ℕ) → i < 16 → Apart g f → Word g i
    other g i h a =
        rw (
          get_or-set_other l (base f + v / 64) (base g + i) _ 0 (a.places i (v / 64) h (omega (arith, numbered, few))),
          word-empty sc (only f x) g i (a.empty x),
        ) (sym (or_zero_r (get_or l (base g + i) 0)))

    here : (i : ℕ) → i ≡ v / 64 → word_in sc (only f x) f i ≡ 2 ^ (v % 64)
    here i s =
        rw (field-only f x) (
        word-one 64 (λ y. is_in y (x ∷ [])) (drop (64 * i) (names_of f sc)) (v % 64)
        (λ k y l e2. one_name (names_of f sc) v i k x y fresh e e2 ∙ by_bool (eqb k (v % 64))
        (λ q. rw q (eq-eqb (64 * i + k) v (omega (arith, s, eqb-true k (v % 64) q))))
        (λ q. rw q (ne_eqb (64 * i + k) v (λ z. eqb-false k (v % 64) q (omega (arith, s, z))))))
        (omega arith) (rw (length-drop (64 * i) (names_of f sc)) (omega (arith, s, numbered))))

    elsewhere : (i : ℕ) → i ≢ v / 64 → word_in sc (only f x) f i ≡ 0
    elsewhere i s =
        rw (field-only f x) (
        word_same 64 (λ y. is_in y (x ∷ [])) (λ y. false) (drop (64 * i) (names_of f sc))
        (λ k y l e2. one_name (names_of f sc) v i k x y fresh e e2 ∙ ne_eqb (64 * i + k) v (λ z. s (omega (arith, l, z))))
        ∙ word_none 64 (drop (64 * i) (names_of f sc)))

    own : (i : ℕ) → i < 16 → Word f i
    own i h =
        by_bool (eqb i (v / 64))
        (λ q. let s : i ≡ v / 64 = eqb-true i (v / 64) q in
        rw (
          here i s,
          s,
          get_or-set_same l (base f + v / 64) (bit_or (get_or l (base f + v / 64) 0) (2 ^ (v % 64))) 0
              (omega (arith, base-low f, c.long, numbered, few)),
        ) refl)
        (λ q. let s : i ≢ v / 64 = eqb-false i (v / 64) q in
        rw (
          elsewhere i s,
          get_or-set_other l (base f + v / 64) (base f + i) (bit_or (get_or l (base f + v / 64) 0) (2 ^ (v % 64))) 0
              (λ z. s (omega (arith, z))),
        ) (sym (or_zero_r (get_or l (base f + i) 0))))

pub change-one : (sc : Scope) (v : ℕ) (x : Site) → Fresh sc.variables sc.variables → get_elem? sc.variables v ≡ some x
    → length sc.variables ≤ 1024 → Uses sc (changing x) (λ l. change_at v l)
unfolding change_at
change-one sc v x fresh e few = use-both (mark-one changed sc v x fresh e few) (mark-one used-there sc v x fresh e few)

-- a word of a set that so many names are left in
abbrev cut_word : (names i word : ℕ) → ℕ
cut_word n i x = cond (eqb i (n / 64)) (x % 2 ^ (n % 64)) (cond (eqb i (n / 64 + 1)) 0 x)

-- the names from a number on leave one set, and no other
record Forgets (f : Field) (n : ℕ) (l m : List ℕ) : Type 0 where
  long : length m ≡ length l
  own : (i : ℕ) → i < 16 → get_or m (base f + i) 0 ≡ cut_word n i (get_or l (base f + i) 0)
  others : (g : Field) (i : ℕ) → i < 16 → Apart g f → get_or m (base g + i) 0 ≡ get_or l (base g + i) 0

forgets : (f : Field) (n : ℕ) (l : List ℕ) → length l ≡ 64 → n < 1024 → Forgets f n l (forget_at (base f) n l)
unfolding forget_at
forgets f n l long few =
    by_bool (ltb (n / 64) 15) (λ q. rw q (two-words (ltb-true (n / 64) 15 q))) (λ q. rw q (one_word (ltb-false (n / 64) 15 q)))
  where
    w : ℕ
    w = base f + n / 64

    y : ℕ
    y = get_or l (base f + n / 64) 0 % 2 ^ (n % 64)

    cut : {R : Type 0} (i : ℕ) → (i ≡ n / 64 → R) → (i ≡ n / 64 + 1 → R) → (i ≢ n / 64 → i ≢ n / 64 + 1 → R) → R
    cut i a b c =
        by_bool (eqb i (n / 64)) (λ q. a (eqb-true i (n / 64) q))
        (λ q. by_bool (eqb i (n / 64 + 1)) (λ r. b (eqb-true i (n / 64 + 1) r))
        (λ r. c (eqb-false i (n / 64) q) (eqb-false i (n / 64 + 1) r)))

    cut-far : (i x : ℕ) → i ≢ n / 64 → i ≢ n / 64 + 1 → cut_word n i x ≡ x
    cut-far i x s t = rw (ne_eqb i (n / 64) s, ne_eqb i (n / 64 + 1) t) refl

    here : get_or (set l w y) w 0 ≡ y
    here = get_or-set_same l w y 0 (omega (arith, base-low f, long, few))

    one_word : 15 ≤ n / 64 → Forgets f n l (set l (base f + n / 64) (get_or l (base f + n / 64) 0 % 2 ^ (n % 64)))
    one_word top =
        record {
          long = length-set l w y;
          own = λ i h.
              cut i (λ s. rw (s, here, eq-eqb (n / 64) (n / 64) refl) refl) (λ s. absurd (omega (arith, s, h, top)))
              (λ s t. get_or-set_other l w (base f + i) y 0 (λ z. s (omega (arith, z))) ∙ sym (cut-far i (get_or l (base f + i) 0) s t));
          others = λ g i h a. get_or-set_other l w (base g + i) y 0 (a.places i (n / 64) h (omega (arith, few)));
        }

    two-words : n / 64 < 15
        → Forgets f n l (set (set l (base f + n / 64) (get_or l (base f + n / 64) 0 % 2 ^ (n % 64))) (base f + n / 64 + 1) 0)
    two-words low =
        record {
          long = length-set (set l w y) (w + 1) 0 ∙ length-set l w y;
          own = λ i h.
              cut i
              (λ s. rw (s, eq-eqb (n / 64) (n / 64) refl) (get_or-set_other (set l w y) (w + 1) w 0 0 (λ z. omega (arith, z)) ∙ here))
              (λ s. let p : base f + (n / 64 + 1) ≡ w + 1 = omega arith in
              rw (s, p, ne_eqb (n / 64 + 1) (n / 64) (λ z. omega (arith, z)), eq-eqb (n / 64 + 1) (n / 64 + 1) refl)
              (get_or-set_same (set l w y) (w + 1) 0 0 (rw (length-set l w y) (omega (arith, base-low f, long, low)))))
              (λ s t. get_or-set_other (set l w y) (w + 1) (base f + i) 0 0 (λ z. t (omega (arith, z)))
              ∙ get_or-set_other l w (base f + i) y 0 (λ z. s (omega (arith, z)))
              ∙ sym (cut-far i (get_or l (base f + i) 0) s t));
          others = λ g i h a.
              let p : base f + (n / 64 + 1) ≡ w + 1 = omega arith in
              get_or-set_other (set l w y) (w + 1) (base g + i) 0 0 (rw p at (a.places i (n / 64 + 1) h (omega (arith, low))))
              ∙ get_or-set_other l w (base g + i) y 0 (a.places i (n / 64) h (omega (arith, few)));
        }

-- names that were declared behind others leave their words
cut_word_lem : (names new : List Site) (p : Site → Bool) (i b : ℕ) → length new ≤ 32 → b < 2 ^ (length names - 64 * i)
    → cut_word (length names) i (bit_or b (word_of 64 p (drop (64 * i) (names ++ new)))) ≡ bit_or b (word_of 64 p (drop (64 * i) names))
cut_word_lem names new p i b few low =
    by_bool (eqb i (n / 64))
    (λ q. rw q (last (eqb-true i (n / 64) q)))
    (λ q. let s : i ≢ n / 64 = eqb-false i (n / 64) q in
    by_bool (eqb i (n / 64 + 1))
    (λ r. let e : i ≡ n / 64 + 1 = eqb-true i (n / 64 + 1) r in
    rw (q, r, none (omega (arith, e)), past (omega (arith, e))) refl)
    (λ r. let e : i ≢ n / 64 + 1 = eqb-false i (n / 64 + 1) r in
    rw (q, r) (by_bool (ltb i (n / 64))
    (λ t. inner (ltb-true i (n / 64) t))
    (λ t. let far : n / 64 + 2 ≤ i = omega (arith, s, e, ltb-false i (n / 64) t) in
    rw (past (omega (arith, far)), nothing-there (omega (arith, far))) refl))))
  where
    n : ℕ
    n = length names

    past : n ≤ 64 * i → word_of 64 p (drop (64 * i) names) ≡ 0
    past h = rw (drop_of_length-le names h) (word-of-none 64 p)

    nothing-there : n + 32 ≤ 64 * i → word_of 64 p (drop (64 * i) (names ++ new)) ≡ 0
    nothing-there h =
        let all : length (names ++ new) ≤ 64 * i = rw (length-append names new) (omega (arith, h, few)) in
        rw (drop_of_length-le (names ++ new) all) (word-of-none 64 p)

    none : n ≤ 64 * i → b ≡ 0
    none h = let e : n - 64 * i ≡ 0 = omega (arith, h) in omega (arith, rw e at low)

    inner : i < n / 64 → bit_or b (word_of 64 p (drop (64 * i) (names ++ new))) ≡ bit_or b (word_of 64 p (drop (64 * i) names))
    inner h =
        rw (
          drop-append-le (64 * i) names new (omega (arith, h)),
          word-front 64 p (drop (64 * i) names) new (rw (length-drop (64 * i) names) (omega (arith, h))),
        ) refl

    last : i ≡ n / 64
        → bit_or b (word_of 64 p (drop (64 * i) (names ++ new))) % 2 ^ (n % 64) ≡ bit_or b (word_of 64 p (drop (64 * i) names))
    last e =
        let r : length (drop (64 * i) names) ≡ n % 64 = length-drop (64 * i) names ∙ omega (arith, e) in
        let k : n - 64 * i ≡ n % 64 = omega (arith, e) in
        or_mod b (word_of 64 p (drop (64 * i) (names ++ new))) (n % 64)
        ∙ rw (
          mod-eq_of_lt (rw k at low),
          drop-append-le (64 * i) names new (omega (arith, e)),
          ← r,
          word-rest 64 p (drop (64 * i) names) new,
        ) refl

-- a scope that the names of two sets are added to, and the same scope without them
pub record Adds (f g : Field) (sc inner : Scope) (new : List Site) : Type 0 where
  few : length new ≤ 32
  apart : Apart f g
  back : Apart g f
  first : names_of f inner ≡ names_of f sc ++ new
  second : names_of g inner ≡ names_of g sc ++ new
  as_many : length (names_of g sc) ≡ length (names_of f sc)
  others : (h : Field) → Apart h f → Apart h g → names_of h inner ≡ names_of h sc

-- names that leave their two sets
pub left : {sc inner : Scope} {l m : List ℕ} {u : Usage} {new : List Site} (f g : Field) → Adds f g sc inner new
    → length (names_of f sc) < 1024 → Clean sc l → Marked inner l u m
    → Marked sc l u (forget_at (base g) (length (names_of f sc)) (forget_at (base f) (length (names_of f sc)) m))
left {sc} {inner} {l} {m} {u} {new} f g adds low c k =
    record { long = two.long ∙ one.long ∙ k.long; word = λ h i z. fields h g (λ s. rw s (in-second i z)) (λ a. other h i z a) }
  where
    n : ℕ
    n = length (names_of f sc)

    one : Forgets f (length (names_of f sc)) m (forget_at (base f) (length (names_of f sc)) m)
    one = forgets f n m k.long low

    two : Forgets g (length (names_of f sc)) (forget_at (base f) (length (names_of f sc)) m)
        (forget_at (base g) (length (names_of f sc)) (forget_at (base f) (length (names_of f sc)) m))
    two = forgets g n (forget_at (base f) n m) (one.long ∙ k.long) low

    Word : Field → ℕ → Type 0
    Word h i =
        get_or (forget_at (base g) (length (names_of f sc)) (forget_at (base f) (length (names_of f sc)) m)) (base h + i) 0
        ≡ bit_or (get_or l (base h + i) 0) (word_in sc u h i)

    in-first : (i : ℕ) → i < 16 → Word f i
    in-first i z =
        rw (two.others f i z adds.apart, one.own i z, k.word f i z, adds.first)
        (cut_word_lem (names_of f sc) new (λ x. is_in x (field f u)) i (get_or l (base f + i) 0) adds.few (c.low f i z))

    in-second : (i : ℕ) → i < 16 → Word g i
    in-second i z =
        rw (two.own i z, one.others g i z adds.back, k.word g i z, adds.second, ← adds.as_many)
        (cut_word_lem (names_of g sc) new (λ x. is_in x (field g u)) i (get_or l (base g + i) 0) adds.few (c.low g i z))

    other : (h : Field) (i : ℕ) → i < 16 → Apart h g → Word h i
    other h i z a =
        fields h f (λ s. rw s (in-first i z))
        (λ b. rw (two.others h i z a, one.others h i z b, k.word h i z, adds.others h b a) refl)

-- a VAR adds variables, a CHAN channels
pub adds-variables : (sc : Scope) (place c : ℕ) → length (names place c) ≤ 32
    → Adds changed used-there sc (with_variables place c sc) (names place c)
adds-variables sc place c few =
    record {
      few = few;
      apart = fields changed used-there (λ e. never (cc)) (λ a. a);
      back = fields used-there changed (λ e. never (cc)) (λ a. a);
      first = refl;
      second = refl;
      as_many = refl;
      others = λ h a b. other h a b;
    }
  where
    other : (h : Field) → Apart h changed → Apart h used-there → names_of h (with_variables place c sc) ≡ names_of h sc
    other changed a b = absurd (a.places 0 0 (omega arith) (omega arith) refl)
    other used-there a b = absurd (b.places 0 0 (omega arith) (omega arith) refl)
    other inputs-of a b = refl
    other outputs-of a b = refl

pub adds-channels : (sc : Scope) (place c : ℕ) → length (names place c) ≤ 32
    → Adds inputs-of outputs-of sc (with_channels place c sc) (names place c)
adds-channels sc place c few =
    record {
      few = few;
      apart = fields inputs-of outputs-of (λ e. never (cc)) (λ a. a);
      back = fields outputs-of inputs-of (λ e. never (cc)) (λ a. a);
      first = refl;
      second = refl;
      as_many = refl;
      others = λ h a b. other h a b;
    }
  where
    other : (h : Field) → Apart h inputs-of → Apart h outputs-of → names_of h (with_channels place c sc) ≡ names_of h sc
    other changed a b = refl
    other used-there a b = refl
    other inputs-of a b = absurd (a.places 0 0 (omega arith) (omega arith) refl)
    other outputs-of a b = absurd (b.places 0 0 (omega arith) (omega arith) refl)

-- sets that are clean stay so where names are added
pub clean-added : {f g : Field} {sc inner : Scope} {new : List Site} {l : List ℕ} → Adds f g sc inner new → Clean sc l → Clean inner l
clean-added {f} {g} {sc} {inner} {new} adds c =
    record {
      long = c.long;
      low = λ h i z. lt_of_lt_of_le (c.low h i z)
          (pow_mono {i = length (names_of h sc) - 64 * i} {j = length (names_of h inner) - 64 * i} (omega (arith, longer h)));
    }
  where
    longer : (h : Field) → length (names_of h sc) ≤ length (names_of h inner)
    longer h =
        fields h f (λ s. rw (s, adds.first) (omega (arith, length-append (names_of f sc) new)))
        (λ a. fields h g (λ s. rw (s, adds.second) (omega (arith, length-append (names_of g sc) new)))
        (λ b. rw (adds.others h a b) (omega arith)))

pub merged-at : (n : ℕ) (b m : List ℕ) (i : ℕ) → n ≤ length b
    → get_or (merged n b m) i 0 ≡ cond (ltb i n) (bit_or (get_or b i 0) (get_or m i 0)) (get_or b i 0)
unfolding merged
merged-at zero b m i h = rw (le-ltb i 0 (omega arith)) refl
merged-at (suc k) b m i h =
    let x = bit_or (get_or b k 0) (get_or m k 0) in
    merged-at k (set b k x) m i (rw (length-set b k x) (omega (arith, h)))
    ∙ by_bool (eqb i k)
    (λ q. let s : i ≡ k = eqb-true i k q in
    rw (s, le-ltb k k (omega arith), lt-ltb k (suc k) (omega arith), get_or-set_same b k x 0 (omega (arith, h))) refl)
    (λ q. let d : i ≢ k = eqb-false i k q in
    rw (get_or-set_other b k i x 0 d, below d) refl)
  where
    below : i ≢ k → ltb i k ≡ ltb i (suc k)
    below d =
        by_bool (ltb i k)
        (λ q. rw (q, lt-ltb i (suc k) (omega (arith, ltb-true i k q))) refl)
        (λ q. rw (q, le-ltb i (suc k) (omega (arith, d, ltb-false i k q))) refl)

pub merged-length : (n : ℕ) (b m : List ℕ) → length (merged n b m) ≡ length b
unfolding merged
merged-length zero b m = refl
merged-length (suc k) b m =
    let x = bit_or (get_or b k 0) (get_or m k 0) in merged-length k (set b k x) m ∙ length-set b k x

-- sets together with those of one branch more
pub marked-merged : {sc : Scope} {l b m : List ℕ} {u v : Usage} → Marked sc l u b → Marked sc no_names v m
    → Marked sc l (u ⊕ v) (merged 64 b m)
marked-merged {sc} {l} {b} {m} {u} {v} p q =
    record {
      long = merged-length 64 b m ∙ p.long;
      word =
          λ f i h.
          rw (
            merged-at 64 b m (base f + i) (omega (arith, p.long)),
            lt-ltb (base f + i) 64 (omega (arith, base-low f, h)),
            p.word f i h,
            own-word f i h q,
            word-both sc u v f i,
          ) (or-assoc-word (get_or l (base f + i) 0) (word_in sc u f i) (word_in sc v f i));
    }

-- a name in scope, by its number
abbrev pub InScope : List Site → Site → Type 0
InScope names x = (k : ℕ) × (get_elem? names k ≡ some x)

pub or_cases : {R : Type 0} (a b : Bool) → (a || b) ≡ true → (a ≡ true → R) → (b ≡ true → R) → R
or_cases true b e f g = f refl
or_cases false b e f g = g e

pub in_one : (x y : Site) → is_in y (x ∷ []) ≡ true → y ≡ x
unfolding is_in
in_one x y e = same-eq y x (sym (or-false (same y x)) ∙ e)
