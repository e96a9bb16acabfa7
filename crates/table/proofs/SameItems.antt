-- The items that the reader answers are the numbers, counts and names of the model's reader.
use Prim.Native.Nat.{ℕ, zero, suc, ◌+◌, ◌-◌, ◌*◌, ◌^◌, ◌≤◌, ◌<◌}
use native.Mathlib.Omega.{arith}
use native.Mathlib.Numerals.{add-one}
use native.Mathlib.Nat.{pow-suc, pow-le-pow_right}
use native.Mathlib.Decide.{dec_le}
use mathlib.Core.Path.{◌≡◌, refl, sym, ap, ◌∙◌}
use mathlib.Core.Logic.{◌≢◌, ◌⊎◌, inl, inr, ⊎_elim}
use mathlib.Core.Bool.{Bool, true, false, cond, ◌&&◌, ◌||◌, and-false}
use mathlib.Core.List.{List, [], ◌∷◌}
use mathlib.Core.Option.{Option, none, some, some-injective}
use lib.ListN.{length, get_or, drop, get_elem?, drop_of_length-le}
use lib.Seq.{drop-cons, drop-drop}
use lib.Dec.{ltb, leb, eqb}
use borrow.Author.Tests.{lt-ltb, le-ltb, le-leb, lt-leb, ne_eqb, ltb-true, ltb-false, leb-true, leb-false, eqb-false}
use Rattle.model.specs.Number as N
use Rattle.model.specs.Number.{groups, number}
use Rattle.model.specs.Syntax.{Site}
use Rattle.model.specs.Reader.{Parsed, parsed, fails, Reader, onward, pure, refuse, read_number, one_of, read_count, read_name, too_deep}
use Rattle.model.specs.Reader.{stmt_kinds, expr_kinds, guard_kinds, operators}
use Rattle.model.specs.declared.kinds.StmtKind.{StmtKind}
use Rattle.model.specs.declared.kinds.StmtKind.TheVariants.{Skip}
use Rattle.model.specs.declared.kinds.ExprKind.{ExprKind}
use Rattle.model.specs.declared.kinds.ExprKind.TheVariants.{Binary}
use Rattle.model.specs.declared.kinds.GuardKind.{GuardKind}
use Rattle.model.specs.declared.kinds.GuardKind.TheVariants.{Skip as SkipGuard}
use Rattle.model.specs.declared.kinds.Operator.{Operator}
use Rattle.model.specs.declared.kinds.Operator.TheVariants.{Plus as PLUS}
use Rattle.numbers.specs.Kinds.{stmt_kind, expr_kind, guard_kind, operator_of}
use Rattle.model.proofs.Tables.Readers.{number-sized}
use Rattle.model.proofs.Quiet.Setting.{get_elem-inside as inside}
use Rattle.model.proofs.Cases.{by_bool, by-option, never}
use Rattle.std.specs.Prelude.{Option as Maybe, Some, None, Result, Ok, Err}
use Rattle.std.specs.Option.{option_and_then}
use Rattle.model.specs.declared.Reason.{Reason}
use Rattle.model.specs.declared.Reason.TheVariants.{BadNumber, OutOfRange, TooDeep, BadName}
use Rattle.numbers.specs.declared.Misread.{Misread}
use Rattle.numbers.specs.Items.{misread, groups_at, grouped, number_at, between_at, name_at, deep_at}
use Rattle.numbers.specs.declared.Number.{Number}

-- a table's elements are bytes
abbrev pub Bytes : List ℕ → Type 0
Bytes s = (i : ℕ) → get_or s i 0 < 256

-- a number and the place after it
abbrev pub to : (value next : ℕ) → Number
to v n = record { value = v; next = n }

-- a number as the reader answers it where it has at most k bytes and is below 2 ^ 32
abbrev capped : (k at : ℕ) → Option N.Number → Maybe Number
capped k at none = None
capped k at (some n) = cond (leb n.size k && ltb n.value (2 ^ 32)) (Some (to n.value (at + n.size))) None

-- one group behind another
grouped-is : (b : ℕ) (m : N.Number) (k at : ℕ) → b < 256 → 128 ≤ b → m.value ≢ 0
    → option_and_then (grouped b) (capped k (at + 1) (some m))
    ≡ capped (suc k) at (some (record { value = b - 128 + 128 * m.value; size = suc m.size }))
grouped-is b m k at hb lb nz =
    by_bool (leb m.size k)
    (λ e.
    let fits : leb (suc m.size) (suc k) ≡ true = le-leb (suc m.size) (suc k) (omega (arith, leb-true m.size k e)) in
    by_bool (ltb m.value (2 ^ 25))
    (λ f.
    let small : m.value < 2 ^ 25 = ltb-true _ _ f in
    let here : at + 1 + m.size ≡ at + suc m.size = omega arith in
    rw (
      e,
      lt-ltb m.value (2 ^ 32) (omega arith),
      ne_eqb m.value 0 nz,
      f,
      fits,
      lt-ltb (b - 128 + 128 * m.value) (2 ^ 32)
          (omega arith),
      here,
    ))
    (λ f.
    let large : 2 ^ 25 ≤ m.value = ltb-false _ _ f in
    rw (e, fits, le-ltb (b - 128 + 128 * m.value) (2 ^ 32) (omega arith)) (too_large (ltb m.value (2 ^ 32)) f)))
    (λ e. rw (e, lt-leb (suc m.size) (suc k) (omega (arith, leb-false m.size k e))))
  where
    too_large : (t : Bool) → ltb m.value (2 ^ 25) ≡ false
        → option_and_then (grouped b) (cond t (Some (to m.value (at + 1 + m.size))) None) ≡ None
    too_large true f = rw (ne_eqb m.value 0 nz, f)
    too_large false f = refl

-- the shortest form has its highest group above 0
record Shaped (n : N.Number) : Type 0 where
  positive : 1 ≤ n.size
  high : (n.size ≡ 1) ⊎ (128 ^ n.size ≤ 128 * n.value)

shaped : (bytes : List ℕ) (n : N.Number) → groups bytes ≡ some n → Shaped n
unfolding groups
shaped [] n e = never (cc)
shaped (b ∷ bytes) n e =
    by_bool (ltb b 128)
    (λ f. only (some-injective _ n (rw f at e)))
    (λ f. by-option (groups bytes)
    (λ z. never (cc (rw (f, z) at e)))
    (λ m z. by_bool (eqb m.value 0)
    (λ v. never (cc (rw (f, z, v) at e)))
    (λ v. more m (shaped bytes m z) (eqb-false _ _ v) (some-injective _ n (rw (f, z, v) at e)))))
  where
    only : record { value = b; size = 1 } ≡ n → Shaped n
    only q = let size_is : 1 ≡ n.size = ap (λ (t : N.Number). t.size) q in record { positive = omega arith; high = inl (sym size_is) }

    more : (m : N.Number) → Shaped m → (m.value ≡ 0 → ⊥) → record { value = b - 128 + 128 * m.value; size = suc m.size } ≡ n → Shaped n
    more m h nz q =
        let size_is : suc m.size ≡ n.size = ap (λ (t : N.Number). t.size) q in
        let value-is : b - 128 + 128 * m.value ≡ n.value = ap (λ (t : N.Number). t.value) q in
        let grows : 128 ^ suc m.size ≤ 128 * n.value =
        ⊎_elim (λ (a : m.size ≡ 1). rw a (omega arith)) (λ (a : 128 ^ m.size ≤ 128 * m.value). omega (arith, pow-suc 128 m.size))
        h.high in
        record { positive = omega arith; high = inr (rw (← size_is) grows) }

-- more than five bytes hold no value below 2 ^ 32
five : (n : N.Number) → Shaped n → n.value < 2 ^ 32 → n.size ≤ 5
five n h small = by (dec_le n.size 5)
  where
    by : Dec (n.size ≤ 5) → n.size ≤ 5
    by (yes l) = l
    by (no l) =
        let six : 128 ^ 6 ≤ 128 ^ n.size = pow-le-pow_right {n = 128} (omega arith) {i = 6} {j = n.size} (omega arith) in
        absurd (⊎_elim (λ (a : n.size ≡ 1). omega arith) (λ (a : 128 ^ n.size ≤ 128 * n.value). omega arith) h.high)

groups-capped : (k : ℕ) (s : List ℕ) (at : ℕ) → Bytes s → groups_at k s at ≡ capped k at (groups (drop at s))
unfolding groups_at groups
groups-capped zero s at b =
    by-option (groups (drop at s)) (λ e. rw e) (λ n e. rw (e, lt-leb n.size 0 (shaped (drop at s) n e).positive))
groups-capped (suc k) s at b =
    by_bool (leb (length s) at)
    (λ e. rw (e, drop_of_length-le s (leb-true (length s) at e)))
    (λ e. rw (e, drop-cons s at 0 (leb-false (length s) at e)) (one (rw (add-one at) at (groups-capped k s (at + 1) b))))
  where
    zeroed : (t : Bool) (m : N.Number) → eqb m.value 0 ≡ true
        → option_and_then (grouped (get_or s at 0)) (cond t (Some (to m.value (suc at + m.size))) None) ≡ None
    zeroed true m v = rw v
    zeroed false m v = refl

    one : groups_at k s (suc at) ≡ capped k (suc at) (groups (drop (suc at) s))
        → cond (ltb (get_or s at 0) 128) (Some (to (get_or s at 0) (at + 1)))
        (option_and_then (grouped (get_or s at 0)) (groups_at k s (at + 1)))
        ≡ capped (suc k) at (groups (get_or s at 0 ∷ drop (suc at) s))
    one ih = by_bool (ltb (get_or s at 0) 128)
        (λ f. rw (f, le-leb 1 (suc k) (omega arith), lt-ltb (get_or s at 0) (2 ^ 32) (omega (arith, b at))))
        (λ f. by-option (groups (drop (suc at) s))
        (λ z. rw (f, add-one at, ih, z))
        (λ m z. by_bool (eqb m.value 0)
        (λ v. rw (f, add-one at, ih, z, v) (zeroed (leb m.size k && ltb m.value (2 ^ 32)) m v))
        (λ v. rw (f, add-one at, ih, z, v)
        (rw (add-one at) at (grouped-is (get_or s at 0) m k at (b at) (ltb-false _ _ f) (eqb-false _ _ v))))))

abbrev answer : (at : ℕ) → Option N.Number → Maybe Number
answer at none = None
answer at (some n) = Some (to n.value (at + n.size))

-- the number at a place
number_same : (s : List ℕ) (at : ℕ) → Bytes s → groups_at 5 s at ≡ answer at (number (drop at s))
unfolding number
number_same s at b = groups-capped 5 s at b ∙ by-option (groups (drop at s)) (λ e. rw e) (λ n e. rw e (cut n (shaped (drop at s) n e)))
  where
    cut : (n : N.Number) → Shaped n
        → cond (leb n.size 5 && ltb n.value (2 ^ 32)) (Some (to n.value (at + n.size))) None
        ≡ answer at (cond (ltb n.value (2 ^ 32)) (some n) none)
    cut n h = by_bool (ltb n.value (2 ^ 32))
        (λ e. rw (e, le-leb n.size 5 (five n h (ltb-true _ _ e))))
        (λ e. rw (e, and-false (leb n.size 5)))

-- a part read by the model and its answer here: from the place after it on the bytes are those of the table, and the answer is related to
-- what was read; a refusal is the same refusal
pub data Same {A X : Type 0} (s : List ℕ) (R : A → ℕ → Result X Misread → Type 0) : Result X Misread → Parsed A → Type 0 where
  gives : (a : A) (n : ℕ) (x : Result X Misread) → R a n x → Same s R x (parsed a n (drop n s))
  turns : (why : Reason) (p : ℕ) → Same s R (Err (misread why p)) (fails why p)

-- one part, then another
pub onwards : {A B X Y : Type 0} {s : List ℕ} {R : A → ℕ → Result X Misread → Type 0} {Q : B → ℕ → Result Y Misread → Type 0}
    {x : Result X Misread} {r : Parsed A} (c : Result X Misread → Result Y Misread) (k : A → Reader B) → Same s R x r
    → ((a : A) (n : ℕ) (y : Result X Misread) → R a n y → x ≡ y → Same s Q (c y) (k a n (drop n s)))
    → ((e : Misread) → c (Err e) ≡ Err e) → Same s Q (c x) (onward r k)
onwards c k (gives a n x h) f e = f a n x h refl
onwards c k (turns why p) f e = rw (e (misread why p)) (turns why p)

pub outside_of : {A : Type 0} (l : List A) (i : ℕ) → get_elem? l i ≡ none → length l ≤ i
outside_of [] i e = omega arith
outside_of (x ∷ l) zero e = never (cc)
outside_of (x ∷ l) (suc i) e = omega (arith, outside_of l i e)

-- the number at a place of the table, and the place after it
pub record NumberAt (s : List ℕ) (at v n : ℕ) : Type 0 where
  pub number : groups_at 5 s at ≡ Some (to v n)
  pub ahead : at < n

-- an item that stands for one of the things listed
pub record Listed {A : Type 0} (s : List ℕ) (at : ℕ) (things : List A) (a : A) (n : ℕ) (i : Result Number Misread) : Type 0 where
  pub value : ℕ
  pub found : i ≡ Ok (to value n)
  pub listed : get_elem? things value ≡ some a
  pub there : NumberAt s at value n

-- a number from lo to hi
pub record Counted (s : List ℕ) (at lo hi : ℕ) (v n : ℕ) (i : Result Number Misread) : Type 0 where
  pub found : i ≡ Ok (to v n)
  pub least : lo ≤ v
  pub most : v ≤ hi
  pub there : NumberAt s at v n

number-there : (s : List ℕ) (at : ℕ) (n : N.Number) → Bytes s → number (drop at s) ≡ some n → NumberAt s at n.value (at + n.size)
number-there s at n b e =
    record { number = number_same s at b ∙ ap (answer at) e; ahead = omega (arith, (number-sized (drop at s) n e).0) }

pub count_same : (lo hi : ℕ) (s : List ℕ) (at : ℕ) → Bytes s
    → Same s (Counted s at lo hi) (between_at lo hi s at) (read_count lo hi at (drop at s))
unfolding between_at number_at read_count read_number
count_same lo hi s at b =
    by-option (number (drop at s)) (λ e. rw (number_same s at b, e) (turns BadNumber at))
    (λ n e. rw (number_same s at b, e, drop-drop n.size at s) (one n (number-there s at n b e)))
  where
    one : (n : N.Number) → NumberAt s at n.value (at + n.size) → Same s (Counted s at lo hi)
        (cond (ltb n.value lo || ltb hi n.value) (Err (misread OutOfRange at)) (Ok (to n.value (at + n.size))))
        (cond {A = Reader ℕ} (leb lo n.value && leb n.value hi) (pure n.value) (refuse OutOfRange at) (at + n.size)
        (drop (at + n.size) s))
    one n t =
        by_bool (ltb n.value lo)
        (λ e. rw (e, lt-leb lo n.value (ltb-true _ _ e)) (turns OutOfRange at))
        (λ e. by_bool (ltb hi n.value)
        (λ f. rw (e, f, le-leb lo n.value (ltb-false _ _ e), lt-leb n.value hi (ltb-true _ _ f)) (turns OutOfRange at))
        (λ f. rw (e, f, le-leb lo n.value (ltb-false _ _ e), le-leb n.value hi (ltb-false _ _ f))
        (gives n.value (at + n.size) _ (record { found = refl; least = ltb-false _ _ e; most = ltb-false _ _ f; there = t }))))

pub one_same : {A : Type 0} (things : List A) (hi : ℕ) (s : List ℕ) (at : ℕ) → Bytes s → length things ≡ suc hi
    → Same s (Listed s at things) (between_at 0 hi s at) (one_of things at (drop at s))
unfolding between_at number_at one_of read_number
one_same things hi s at b l =
    by-option (number (drop at s))
    (λ e. rw (number_same s at b, e) (turns BadNumber at))
    (λ n e. by-option (get_elem? things n.value)
    (λ f. rw (
      number_same s at b,
      e,
      drop-drop n.size at s,
      f,
      le-ltb n.value 0 (omega arith),
      lt-ltb hi n.value (omega (arith, l, outside_of things n.value f)),
    ) (turns OutOfRange at))
    (λ a f. rw (
      number_same s at b,
      e,
      drop-drop n.size at s,
      f,
      le-ltb n.value 0 (omega arith),
      le-ltb hi n.value (omega (arith, l, inside things n.value f)),
    )
    (gives a (at + n.size) _ (record { value = n.value; found = refl; listed = f; there = number-there s at n b e }))))

-- a name that may stand there: those from `from` up to `to` may not
pub name-same : (fits : Site → Bool) (names : List Site) (from up_to : ℕ) (s : List ℕ) (at : ℕ) → Bytes s
    → ((i : ℕ) (a : Site) → get_elem? names i ≡ some a → fits a ≡ (ltb i from || leb up_to i))
    → Same s (Listed s at names) (name_at (length names) from up_to s at) (read_name fits names at (drop at s))
unfolding name_at number_at read_name read_number
name-same fits names from up_to s at b ways =
    by-option (number (drop at s))
    (λ e. rw (number_same s at b, e) (turns BadNumber at))
    (λ n e. by-option (get_elem? names n.value)
    (λ f. rw (number_same s at b, e, drop-drop n.size at s, f, le-leb (length names) n.value (outside_of names n.value f))
    (turns BadName at))
    (λ a f. rw (
      number_same s at b,
      e,
      drop-drop n.size at s,
      f,
      lt-leb (length names) n.value (inside names n.value f),
      ways
          n.value a f,
    )
    (one n a f (number-there s at n b e))))
  where
    one : (n : N.Number) (a : Site) → get_elem? names n.value ≡ some a → NumberAt s at n.value (at + n.size)
        → Same s (Listed s at names)
        (cond (leb from n.value && ltb n.value up_to) (Err (misread BadName at)) (Ok (to n.value (at + n.size))))
        (cond {A = Reader Site} (ltb n.value from || leb up_to n.value) (pure a) (refuse BadName at) (at + n.size) (drop (at + n.size) s))
    one n a f t =
        by_bool (ltb n.value from)
        (λ e. rw (e, lt-leb from n.value (ltb-true _ _ e))
        (gives a (at + n.size) _ (record { value = n.value; found = refl; listed = f; there = t })))
        (λ e. by_bool (ltb n.value up_to)
        (λ g. rw (e, le-leb from n.value (ltb-false _ _ e), g, lt-leb up_to n.value (ltb-true _ _ g)) (turns BadName at))
        (λ g. rw (e, le-leb from n.value (ltb-false _ _ e), g, le-leb up_to n.value (ltb-false _ _ g))
        (gives a (at + n.size) _ (record { value = n.value; found = refl; listed = f; there = t }))))

pub deep-same : {A X : Type 0} (R : A → ℕ → Result X Misread → Type 0) (s : List ℕ) (at : ℕ) → Bytes s
    → Same s R (Err (deep_at s at)) (too_deep at (drop at s))
unfolding deep_at number_at too_deep read_number
deep-same R s at b =
    by-option (number (drop at s)) (λ f. rw (number_same s at b, f) (turns BadNumber at))
    (λ n f. rw (number_same s at b, f) (turns TooDeep at))

-- a constant is any number
pub word_same : (s : List ℕ) (at : ℕ) → Bytes s
    → Same s (Counted s at 0 4294967295) (between_at 0 4294967295 s at) (read_number at (drop at s))
unfolding between_at number_at read_number
word_same s at b =
    by-option (number (drop at s))
    (λ e. rw (number_same s at b, e) (turns BadNumber at))
    (λ n e. let small : n.value < 2 ^ 32 = (number-sized (drop at s) n e).2 in
    rw (
      number_same s at b,
      e,
      drop-drop n.size at s,
      le-ltb n.value 0 (omega arith),
      le-ltb 4294967295 n.value
          (omega (arith, small)),
    )
    (gives n.value (at + n.size) _
    (record { found = refl; least = omega arith; most = omega (arith, small); there = number-there s at n b e })))

-- what a list has at a place, where a thing is there
listed_at : {A : Type 0} {a : A} (d : A) (l : List A) (v : ℕ) → get_elem? l v ≡ some a → get_or l v d ≡ a
listed_at d [] v e = never (cc)
listed_at {a = a} d (x ∷ l) zero e = some-injective x a e
listed_at d (x ∷ l) (suc v) e = listed_at d l v e

-- a number that stands for a kind or an operator
pub stmt-kind-is : {k : StmtKind} (v : ℕ) → get_elem? stmt_kinds v ≡ some k → stmt_kind v ≡ k
unfolding stmt_kind
stmt-kind-is v e = listed_at Skip stmt_kinds v e

pub expr-kind-is : {k : ExprKind} (v : ℕ) → get_elem? expr_kinds v ≡ some k → expr_kind v ≡ k
unfolding expr_kind
expr-kind-is v e = listed_at Binary expr_kinds v e

pub guard-kind-is : {k : GuardKind} (v : ℕ) → get_elem? guard_kinds v ≡ some k → guard_kind v ≡ k
unfolding guard_kind
guard-kind-is v e = listed_at SkipGuard guard_kinds v e

pub operator-is : {op : Operator} (v : ℕ) → get_elem? operators v ≡ some op → operator_of v ≡ op
unfolding operator_of
operator-is v e = listed_at PLUS operators v e

-- the same part, with another answer made of it
pub mapped : {A X Y : Type 0} {s : List ℕ} {R : A → ℕ → Result X Misread → Type 0} {Q : A → ℕ → Result Y Misread → Type 0}
    {x : Result X Misread} {r : Parsed A} (c : Result X Misread → Result Y Misread) → Same s R x r
    → ((a : A) (n : ℕ) (y : Result X Misread) → R a n y → Q a n (c y)) → ((e : Misread) → c (Err e) ≡ Err e) → Same s Q (c x) r
mapped c (gives a n x k) f e = gives a n (c x) (f a n x k)
mapped c (turns why p) f e = rw (e (misread why p)) (turns why p)
