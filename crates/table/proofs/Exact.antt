-- Sets that a usage is marked in from nothing are that usage, word for word.
use Prim.Native.Nat.{ℕ, zero, suc, ◌+◌, ◌-◌, ◌*◌, ◌<◌}
use native.Mathlib.Omega.{arith}
use native.Mathlib.Decide.{dec_le}
use mathlib.Core.Path.{◌≡◌, refl, sym, ◌∙◌}
use mathlib.Core.List.{List, ◌++◌}
use lib.ListN.{length, get_or, drop, length-append, get_or-append}
use lib.Seq.{ext_get_or, get_or-append-add, drop-drop}
use Rattle.model.specs.Syntax.{Site}
use Rattle.model.specs.Reader.{Scope}
use Rattle.model.specs.Usage.{Usage, is_in}
use Rattle.table.specs.Uses.{no_names}
use Rattle.table.specs.Sets.{word_of, set_of, usage_sets}
use Rattle.table.proofs.Marks.{Field, changed, used-there, inputs-of, outputs-of, word_in, Marked, own-word, base}

set-length : (n : ℕ) (names xs : List Site) → length (set_of n names xs) ≡ n
unfolding set_of
set-length zero names xs = refl
set-length (suc n) names xs = rw (set-length n (drop 64 names) xs) refl

set_word : (n : ℕ) (names xs : List Site) (i : ℕ) → i < n
    → get_or (set_of n names xs) i 0 ≡ word_of 64 (λ x. is_in x xs) (drop (64 * i) names)
unfolding set_of
set_word zero names xs i h = absurd (omega arith)
set_word (suc n) names xs zero h = refl
set_word (suc n) names xs (suc i) h =
    let place : 64 + 64 * i ≡ 64 * suc i = omega arith in
    set_word n (drop 64 names) xs i (omega (arith, h)) ∙ rw (drop-drop (64 * i) 64 names, place) refl

-- two lists of words, one behind the other
pair-word : (a b : List ℕ) (i : ℕ) → length a ≡ 16 → i < 16 → get_or (a ++ b) i 0 ≡ get_or a i 0
pair-word a b i e h = get_or-append a b 0 i (omega (arith, e, h))

behind-word : (a b : List ℕ) (i : ℕ) → length a ≡ 16 → get_or (a ++ b) (16 + i) 0 ≡ get_or b i 0
behind-word a b i e = rw (← e) (get_or-append-add a b i 0)

-- each word of the four sets
sets_word : (sc : Scope) (u : Usage) (f : Field) (i : ℕ) → i < 16 → get_or (usage_sets sc u) (base f + i) 0 ≡ word_in sc u f i
unfolding usage_sets
sets_word sc u f i h = by f
  where
    A : List ℕ
    A = set_of 16 sc.variables u.changes

    B : List ℕ
    B = set_of 16 sc.variables u.uses

    C : List ℕ
    C = set_of 16 sc.channels u.inputs

    D : List ℕ
    D = set_of 16 sc.channels u.outputs

    a : length A ≡ 16
    a = set-length 16 sc.variables u.changes

    b : length B ≡ 16
    b = set-length 16 sc.variables u.uses

    c : length C ≡ 16
    c = set-length 16 sc.channels u.inputs

    by : (f : Field) → get_or (A ++ (B ++ (C ++ D))) (base f + i) 0 ≡ word_in sc u f i
    by changed =
        let e : 0 + i ≡ i = omega arith in
        rw (e, pair-word A (B ++ (C ++ D)) i a h) (set_word 16 sc.variables u.changes i h)
    by used-there = rw (behind-word A (B ++ (C ++ D)) i a, pair-word B (C ++ D) i b h) (set_word 16 sc.variables u.uses i h)
    by inputs-of =
        let e : 32 + i ≡ 16 + (16 + i) = omega arith in
        rw (e, behind-word A (B ++ (C ++ D)) (16 + i) a, behind-word B (C ++ D) i b, pair-word C D i c h)
        (set_word 16 sc.channels u.inputs i h)
    by outputs-of =
        let e : 48 + i ≡ 16 + (16 + (16 + i)) = omega arith in
        rw (e, behind-word A (B ++ (C ++ D)) (16 + (16 + i)) a, behind-word B (C ++ D) (16 + i) b, behind-word C D i c)
        (set_word 16 sc.channels u.outputs i h)

sets-length : (sc : Scope) (u : Usage) → length (usage_sets sc u) ≡ 64
unfolding usage_sets
sets-length sc u =
    let A = set_of 16 sc.variables u.changes in
    let B = set_of 16 sc.variables u.uses in
    let C = set_of 16 sc.channels u.inputs in
    let D = set_of 16 sc.channels u.outputs in
    rw (
      length-append A (B ++ (C ++ D)),
      length-append B (C ++ D),
      length-append C D,
      set-length 16 sc.variables u.changes,
      set-length 16 sc.variables u.uses,
      set-length 16 sc.channels u.inputs,
      set-length 16 sc.channels u.outputs,
    ) refl

-- a word's number by its set
by-set : {R : Type 0} (k : ℕ) → k < 64 → ((f : Field) (i : ℕ) → i < 16 → base f + i ≡ k → R) → R
by-set k h g =
    elim (dec_le 16 k) [
      | no l ↦ g changed k (omega arith) (omega arith)
      | yes l ↦ elim (dec_le 32 k) [
        | no m ↦ g used-there (k - 16) (omega arith) (omega arith)
        | yes m ↦ elim (dec_le 48 k) [
          | no n ↦ g inputs-of (k - 32) (omega arith) (omega arith)
          | yes n ↦ g outputs-of (k - 48) (omega arith) (omega arith)
        ]
      ]
    ]

pub exact : {sc : Scope} {u : Usage} {m : List ℕ} → Marked sc no_names u m → m ≡ usage_sets sc u
exact {sc} {u} {m} a =
    ext_get_or 0 m (usage_sets sc u) (a.long ∙ sym (sets-length sc u))
    (λ k h. by-set k (omega (arith, h, a.long)) (λ f i l e.
    rw (← e) (own-word f i l a ∙ sym (sets_word sc u f i l))))
