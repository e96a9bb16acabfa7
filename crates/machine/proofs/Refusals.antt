-- What a start comes to, by the facts that its tests tell, in their order.
use Prim.Native.Nat.{ℕ, ◌+◌, ◌-◌, ◌<◌, ◌≤◌}
use native.Mathlib.Omega.{arith}
use mathlib.Core.Path.{◌≡◌, refl, ◌∙◌}
use mathlib.Core.Bool.{Bool, true, false, cond, ◌&&◌}
use mathlib.Core.List.{List, [], ◌++◌}
use borrow.Author.Tests.{le-leb, lt-leb, leb-true}
use lib.ListN.{length, drop, replicate}
use lib.Dec.{leb}
use Rattle.model.specs.Limits.{word_limit, code_limit, channel_limit, slice_limit}
use Rattle.model.specs.Word.{not_process}
use Rattle.model.specs.Answers.{StartAnswer}
use Rattle.std.specs.Prelude.{Err, Ok}
use Rattle.model.specs.declared.StartRefusal.TheVariants.{BadSlice, BadCount, TooLarge, Short}
use Rattle.model.specs.Run.{After, unchanged, fresh, blank, cleared, start}

-- one of two flags is false
pub one-false : (x y : Bool) → (x ≡ true → y ≡ true → ⊥) → x && y ≡ false
one-false false y h = refl
one-false true false h = refl
one-false true true h = absurd (h refl refl)

-- one of two tests fails
not-both : (a b c d : ℕ) → (a ≤ b → c ≤ d → ⊥) → leb a b && leb c d ≡ false
not-both a b c d h = one-false (leb a b) (leb c d) λ p q. h (leb-true a b p) (leb-true c d q)

module _ (code memory : List ℕ) (w i o q : ℕ) where
  -- 15
  pub bad-slice : (1 ≤ q → q ≤ slice_limit → ⊥) → start code memory w i o q ≡ unchanged (Err BadSlice) blank memory
  unfolding start
  bad-slice h = rw (not-both 1 q q slice_limit h)

  module _ (q₁ : 1 ≤ q) (q₂ : q ≤ slice_limit) where
    -- 3
    pub bad-count : (i ≤ channel_limit → o ≤ channel_limit → ⊥) → start code memory w i o q ≡ unchanged (Err BadCount) blank memory
    unfolding start
    bad-count h = simp (le-leb 1 q q₁, le-leb q slice_limit q₂, not-both i channel_limit o channel_limit h)

    module _ (i₈ : i ≤ channel_limit) (o₈ : o ≤ channel_limit) where
      -- 10
      pub too_large : (w + i + o ≤ word_limit → length code ≤ code_limit → ⊥)
          → start code memory w i o q ≡ unchanged (Err TooLarge) blank memory
      unfolding start
      too_large h =
          let n = not-both (w + i + o) word_limit (length code) code_limit h in
          simp (le-leb 1 q q₁, le-leb q slice_limit q₂, le-leb i channel_limit i₈, le-leb o channel_limit o₈, n)

      module _ (words : w + i + o ≤ word_limit) (bytes : length code ≤ code_limit) where
        abbrev begun : After StartAnswer
        begun =
            record {
              answer = Ok tt;
              machine = fresh (record { code = length code; base = w; inputs = i; outputs = o; slice = q });
              memory = replicate w 0 ++ replicate (w + i + o - w) not_process ++ drop (w + i + o) memory;
              talk = [];
            }

        -- only the lent memory is left to be tested
        by-memory : start code memory w i o q
            ≡ cond (leb (w + i + o) (length memory)) begun (unchanged (Err (Short (w + i + o))) blank memory)
        unfolding start cleared
        by-memory =
            let n : w + i + o - w ≡ i + o = omega arith in
            let t = le-leb (w + i + o) word_limit words in
            simp (
              le-leb 1 q q₁,
              le-leb q slice_limit q₂,
              le-leb i channel_limit i₈,
              le-leb o channel_limit o₈,
              t,
              le-leb (length code) code_limit bytes,
              n,
            )

        -- 11
        pub short : length memory < w + i + o → start code memory w i o q ≡ unchanged (Err (Short (w + i + o))) blank memory
        short h = by-memory ∙ rw (lt-leb (w + i + o) (length memory) h)

        pub starts : w + i + o ≤ length memory → start code memory w i o q ≡ begun
        starts h = by-memory ∙ rw (le-leb (w + i + o) (length memory) h)
