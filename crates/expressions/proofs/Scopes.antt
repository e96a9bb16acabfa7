-- The words of names in their array, when a scope is entered and when it is left. Assumes nothing.
use Prim.Native.Nat.{ℕ, zero, suc, ◌+◌, ◌-◌, ◌*◌, ◌<◌, ◌≤◌}
use native.Mathlib.Omega.{arith}
use native.Mathlib.Nat.{mod-eq_of_lt}
use native.Mathlib.Decide.{dec_lt}
use borrow.Author.Tests.{le-leb}
use mathlib.Core.Path.{◌≡◌, refl, sym, ◌∙◌}
use mathlib.Core.List.{List, [], ◌∷◌, ◌++◌}
use lib.ListN.{length, length-append, length-set, get_or, set, get_or-append}
use lib.Seq.{sets, length-sets, get_or-set_same, get_or-set_other, get_or-append-add}
use Rattle.model.specs.Limits.{name_limit}
use Rattle.model.specs.Word.{low}
use Rattle.numbers.specs.declared.kinds.Declared.{Declared}
use Rattle.numbers.specs.declared.kinds.Declared.TheVariants.{Variables, Channels}
use Rattle.expressions.specs.declared.words.Scope.{Scope}
use Rattle.expressions.specs.Names.{Names, words_from, declaring, entered, most_names, fill_into, declare_into, Shown, Scoped}

-- what stands before a run of numbers that was stored, in it, and behind it
sets-before : (xs l : List ℕ) (i k : ℕ) → k < i → get_or (sets l i xs) k 0 ≡ get_or l k 0
sets-before [] l i k h = refl
sets-before (x ∷ xs) l i k h = sets-before xs (set l i x) (suc i) k (omega arith) ∙ get_or-set_other l i k x 0 (omega arith)

sets-inside : (xs l : List ℕ) (i j : ℕ) → j < length xs → i + length xs ≤ length l → get_or (sets l i xs) (i + j) 0 ≡ get_or xs j 0
sets-inside [] l i j h m = absurd (omega arith)
sets-inside (x ∷ xs) l i zero h m =
    let e : i + 0 ≡ i = omega arith in
    rw e (sets-before xs (set l i x) (suc i) i (omega arith) ∙ get_or-set_same l i x 0 (omega arith))
sets-inside (x ∷ xs) l i (suc j) h m =
    let e : i + suc j ≡ suc i + j = omega arith in
    rw e (sets-inside xs (set l i x) (suc i) j (omega arith) (omega (arith, length-set l i x)))

sets_behind : (xs l : List ℕ) (i k : ℕ) → i + length xs ≤ k → get_or (sets l i xs) k 0 ≡ get_or l k 0
sets_behind [] l i k h = refl
sets_behind (x ∷ xs) l i k h = sets_behind xs (set l i x) (suc i) k (omega arith) ∙ get_or-set_other l i k x 0 (omega arith)

pub words_long : (n w : ℕ) → length (words_from n w) ≡ n
unfolding words_from
words_long zero w = refl
words_long (suc n) w = rw (words_long n (low (w + 1)))

module _ {first count : ℕ} {ws vs : List ℕ} where
  -- names where others are stored behind them, and before them; and names with those stored next to them
  shown-before : (i : ℕ) (xs : List ℕ) → first + count ≤ i → Shown first count ws vs → Shown first count (sets ws i xs) vs
  shown-before i xs l h = record {
    counted = h.counted;
    few = h.few;
    each = λ k m. sets-before xs ws i (first + k) (omega arith) ∙ h.each k m;
  }

  shown-behind : (i : ℕ) (xs : List ℕ) → i + length xs ≤ first → Shown first count ws vs → Shown first count (sets ws i xs) vs
  shown-behind i xs l h = record {
    counted = h.counted;
    few = h.few;
    each = λ k m. sets_behind xs ws i (first + k) (omega arith) ∙ h.each k m;
  }

  shown-more : (xs : List ℕ) → count + length xs ≤ most_names → first + count + length xs ≤ length ws → Shown first count ws vs
      → Shown first (count + length xs) (sets ws (first + count) xs) (vs ++ xs)
  shown-more xs l m h = record {
    counted = length-append vs xs ∙ rw h.counted;
    few = l;
    each = λ k t.
        elim (dec_lt k count) [
          | yes u ↦
              sets-before xs ws (first + count) (first + k) (omega arith) ∙ h.each k u
              ∙ sym (get_or-append vs xs 0 k (omega (arith, h.counted)))
          | no u ↦
              let here : first + count + (k - count) ≡ first + k = omega arith in
              let there : length vs + (k - count) ≡ k = omega (arith, h.counted) in
              rw here at (sets-inside xs ws (first + count) (k - count) (omega arith) m)
              ∙ sym (rw there at (get_or-append-add vs xs (k - count) 0))
        ];
  }

  -- the names in front of others
  shown-fewer : (n : ℕ) (xs : List ℕ) → length vs ≡ count → Shown first (count + n) ws (vs ++ xs) → Shown first count ws vs
  shown-fewer n xs e h = record {
    counted = e;
    few = omega (arith, h.few);
    each = λ k l. h.each k (omega arith) ∙ get_or-append vs xs 0 k (omega arith);
  }

-- the names of a declaration behind those in scope, once their words are stored
pub enters : (x : Declared) (n w d : ℕ) (sc : Scope) (ws : List ℕ) (ns : Names) → n ≤ name_limit → Scoped (d + 1) sc ws ns
    → Scoped d (entered x n sc) (declare_into x n w sc ws) (declaring x n w ns)
unfolding fill_into
enters Variables n w d sc ws ns l h =
    let xs = words_from n w in
    let e = words_long n w in
    let few : low (sc.variables + n) ≡ sc.variables + n = mod-eq_of_lt (omega (arith, h.variables)) in
    rw (few, le-leb (sc.variables + n) most_names (omega (arith, h.variables))) (record {
      shows = record {
        variables =
            rw e at (shown-more xs (omega (arith, e, h.variables)) (omega (arith, e, h.variables, h.long)) h.shows.variables);
        channels = shown-behind (0 + sc.variables) xs (omega (arith, e, h.variables)) h.shows.channels;
      };
      variables = omega (arith, h.variables);
      channels = omega (arith, h.channels);
      long = length-sets ws (0 + sc.variables) xs ∙ h.long;
    })
enters Channels n w d sc ws ns l h =
    let xs = words_from n w in
    let e = words_long n w in
    let few : low (sc.channels + n) ≡ sc.channels + n = mod-eq_of_lt (omega (arith, h.channels)) in
    rw (few, le-leb (sc.channels + n) most_names (omega (arith, h.channels))) (record {
      shows = record {
        variables = shown-before (most_names + sc.channels) xs (omega (arith, h.variables)) h.shows.variables;
        channels =
            rw e at (shown-more xs (omega (arith, e, h.channels)) (omega (arith, e, h.channels, h.long)) h.shows.channels);
      };
      variables = omega (arith, h.variables);
      channels = omega (arith, h.channels);
      long = length-sets ws (most_names + sc.channels) xs ∙ h.long;
    })

-- the names of the outer scope, when a declaration's statement is done: they stand where they stood
pub leaves : (x : Declared) (n w d : ℕ) (sc : Scope) (ws : List ℕ) (ns : Names) → n ≤ name_limit
    → sc.variables + name_limit * (d + 1) ≤ most_names → sc.channels + name_limit * (d + 1) ≤ most_names
    → length ns.variables ≡ sc.variables → length ns.channels ≡ sc.channels
    → Scoped d (entered x n sc) ws (declaring x n w ns) → Scoped (d + 1) sc ws ns
leaves Variables n w d sc ws ns l v c ev ec h =
    let few : low (sc.variables + n) ≡ sc.variables + n = mod-eq_of_lt (omega arith) in
    record {
      shows = record {
        variables = shown-fewer n (words_from n w) ev (rw few at h.shows.variables);
        channels = h.shows.channels;
      };
      variables = v;
      channels = c;
      long = h.long;
    }
leaves Channels n w d sc ws ns l v c ev ec h =
    let few : low (sc.channels + n) ≡ sc.channels + n = mod-eq_of_lt (omega arith) in
    record {
      shows = record {
        variables = h.shows.variables;
        channels = shown-fewer n (words_from n w) ec (rw few at h.shows.channels);
      };
      variables = v;
      channels = c;
      long = h.long;
    }
