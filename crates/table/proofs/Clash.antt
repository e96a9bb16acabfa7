-- The sets of the branches of a PAR, against the clashes of the model.
use Prim.Native.Nat.{ℕ, zero, suc, ◌+◌, ◌*◌, ◌/◌, ◌%◌, ◌≤◌, ◌<◌}
use native.Mathlib.Omega.{arith}
use native.Mathlib.Decide.{dec_le}
use mathlib.Core.Path.{◌≡◌, refl, sym, ap, ◌∙◌}
use mathlib.Core.Logic.{◌⊎◌, inl, inr, ⊎_elim}
use mathlib.Core.Bool.{Bool, true, false, ◌&&◌, ◌||◌, or-true, or_assoc, and-eq-true_iff}
use mathlib.Core.List.{List, [], ◌∷◌, ◌++◌}
use lib.ListN.{length, drop}
use lib.Dec.{ltb}
use lib.Bits.{bit_and, bit_or, or_add_and, and_le_l, and_le_r}
use borrow.Author.Tests.{lt-ltb, le-ltb, ltb-true, ltb-false}
use Rattle.model.proofs.Cases.{by_bool, never}
use Rattle.model.proofs.Tables.Sites.{same_refl, same-eq}
use Rattle.model.proofs.Quiet.Setting.{get_elem-inside as inside}
use Rattle.model.specs.Syntax.{Site, Stmts, no_stmt, stmt}
use Rattle.model.specs.Reader.{Scope}
use Rattle.model.specs.Usage.{Usage, nothing, ◌⊕◌, usage, same, is_in, share, clash, clashes_later, any_clash}
use Rattle.table.specs.Uses.{no_names, met_at, met_below, clashing}
use Rattle.table.specs.Sets.{word_of}
use Rattle.table.proofs.Words.{word_and, word-has, word_some}
use Rattle.table.proofs.Marks.{changed, used-there, inputs-of, outputs-of, Marked, own-word, is_in-append, InScope, or_cases, drop_at}

-- two tests that hold together are one
together : (a b : Bool) → (a ≡ true → b ≡ true) → (b ≡ true → a ≡ true) → a ≡ b
together true b f g = sym (f refl)
together false true f g = g refl
together false false f g = refl

-- a name that both lists have
share-has : (xs ys : List Site) → share xs ys ≡ true → (x : Site) × (is_in x xs ≡ true) × (is_in x ys ≡ true)
unfolding share is_in
share-has [] ys e = never (cc)
share-has (x ∷ xs) ys e =
    by_bool (is_in x ys)
    (λ h. (x, rw (same_refl x) refl, h))
    (λ h. let t = share-has xs ys (rw h at e) in (t.0, rw t.1 (or-true (same t.0 x)), t.2))

share-of : (xs ys : List Site) (x : Site) → is_in x xs ≡ true → is_in x ys ≡ true → share xs ys ≡ true
unfolding share is_in
share-of [] ys x e h = never (cc)
share-of (y ∷ xs) ys x e h =
    by_bool (same x y)
    (λ s. let one : y ≡ x = sym (same-eq x y s) in rw (one, h) refl)
    (λ s. rw (share-of xs ys x (rw s at e) h) (or-true (is_in y ys)))

-- something is in a union if it is in one of the two
pub in-union : (a b : ℕ) → 0 < bit_or a b → (0 < a) ⊎ (0 < b)
in-union a b h = elim (dec_le 1 a) [
  | yes l ↦ inl l
  | no l ↦ inr (omega (arith, or_add_and a b))
]

pub left_in_lem : (a b : ℕ) → 0 < a → 0 < bit_or a b
left_in_lem a b h = omega (arith, or_add_and a b, and_le_r a b)

pub right-in : (a b : ℕ) → 0 < b → 0 < bit_or a b
right-in a b h = omega (arith, or_add_and a b, and_le_l a b)

-- what is found below word k was there or is in one of the words
pub met_has : (k x : ℕ) (b m : List ℕ) → 0 < met_below k x b m → (0 < x) ⊎ ((j : ℕ) × (j < k) × (0 < met_at j b m))
unfolding met_below
met_has zero x b m h = inl h
met_has (suc k) x b m h =
    ⊎_elim (λ g. ⊎_elim (λ i. inl i) (λ i. inr (k, omega arith, i)) (in-union x (met_at k b m) g))
    (λ r. inr (r.0, omega (arith, r.1), r.2)) (met_has k (bit_or x (met_at k b m)) b m h)

met-keeps : (k x : ℕ) (b m : List ℕ) → 0 < x → 0 < met_below k x b m
unfolding met_below
met-keeps zero x b m h = h
met-keeps (suc k) x b m h = met-keeps k (bit_or x (met_at k b m)) b m (left_in_lem x (met_at k b m) h)

pub met_of : (k x : ℕ) (b m : List ℕ) (j : ℕ) → j < k → 0 < met_at j b m → 0 < met_below k x b m
unfolding met_below
met_of zero x b m j l h = absurd (omega (arith, l))
met_of (suc k) x b m j l h = elim (dec_le k j) [
  | yes top ↦
      let e : j ≡ k = omega (arith, l, top) in
      met-keeps k (bit_or x (met_at k b m)) b m (right-in x (met_at k b m) (rw e at h))
  | no low ↦ met_of k (bit_or x (met_at k b m)) b m j (omega (arith, low)) h
]

-- what was found in the words before k, from the first on
abbrev pub met_before : (k : ℕ) (b m : List ℕ) → ℕ
met_before zero b m = 0
met_before (suc k) b m = bit_or (met_before k b m) (met_at k b m)

before-has : (k : ℕ) (b m : List ℕ) → 0 < met_before k b m → (j : ℕ) × (j < k) × (0 < met_at j b m)
before-has zero b m h = absurd (omega (arith, h))
before-has (suc k) b m h =
    ⊎_elim (λ g. let r = before-has k b m g in (r.0, omega (arith, r.1), r.2)) (λ g. (k, omega arith, g))
    (in-union (met_before k b m) (met_at k b m) h)

before_of : (k : ℕ) (b m : List ℕ) (j : ℕ) → j < k → 0 < met_at j b m → 0 < met_before k b m
before_of zero b m j l h = absurd (omega arith)
before_of (suc k) b m j l h =
    elim (dec_le k j) [
      | yes low ↦
          let e : j ≡ k = omega (arith, l, low) in right-in (met_before k b m) (met_at k b m) (rw e at h)
      | no low ↦ left_in_lem (met_before k b m) (met_at k b m) (before_of k b m j (omega (arith, low)) h)
    ]

-- some are found from the first word on where some are found from the last on
pub met-same : (b m : List ℕ) → ltb 0 (met_before 16 b m) ≡ ltb 0 (met_below 16 0 b m)
met-same b m =
    by_bool (ltb 0 (met_below 16 0 b m))
    (λ e. ⊎_elim (λ g. absurd (omega (arith, g)))
    (λ r. rw e (lt-ltb 0 (met_before 16 b m) (before_of 16 b m r.0 r.1 r.2)))
    (met_has 16 0 b m (ltb-true 0 (met_below 16 0 b m) e)))
    (λ e. rw e (le-ltb 0 (met_before 16 b m) (none_before (ltb-false 0 (met_below 16 0 b m) e))))
  where
    none_before : met_below 16 0 b m ≤ 0 → met_before 16 b m ≤ 0
    none_before h =
        elim (dec_le 1 (met_before 16 b m)) [
          | yes g ↦ let r = before-has 16 b m g in absurd (omega (arith, h, met_of 16 0 b m r.0 r.1 r.2))
          | no g ↦ omega (arith, g)
        ]

-- the names of one word that two lists have
abbrev in_both : (names xs ys : List Site) → ℕ → ℕ
in_both names xs ys i = bit_and (word_of 64 (λ x. is_in x xs) (drop (64 * i) names)) (word_of 64 (λ x. is_in x ys) (drop (64 * i) names))

-- a name that both have is in a word of both, and the other way round
both-share : (names xs ys : List Site) (i : ℕ) → 0 < in_both names xs ys i → share xs ys ≡ true
both-share names xs ys i h =
    let here = drop (64 * i) names in
    let r = word-has 64 (λ x. is_in x xs && is_in x ys) here (rw (word_and 64 (λ x. is_in x xs) (λ x. is_in x ys) here) at h) in
    let t = (and-eq-true_iff (is_in r.1 xs) (is_in r.1 ys)).0 r.3 in
    share-of xs ys r.1 t.0 t.1

share-both : (names xs ys : List Site) → length names ≤ 1024 → ((x : Site) → is_in x xs ≡ true → is_in x ys ≡ true → InScope names x)
    → share xs ys ≡ true → (i : ℕ) × (i < 16) × (0 < in_both names xs ys i)
share-both names xs ys few scope e =
    let t = share-has xs ys e in
    let k = scope t.0 t.1 t.2 in
    let v = k.0 in
    let low : v < 1024 = omega (arith, few, inside names v k.1) in
    let at : 64 * (v / 64) + v % 64 ≡ v = omega arith in (
      v / 64,
      omega (arith, low),
      rw (word_and 64 (λ x. is_in x xs) (λ x. is_in x ys) (drop (64 * (v / 64)) names))
          (word_some 64 (λ x. is_in x xs && is_in x ys) (drop (64 * (v / 64)) names) (v % 64) t.0 (omega arith)
          (drop_at (64 * (v / 64)) (v % 64) names ∙ rw at k.1) (rw (t.1, t.2) refl)),
    )

-- one word of what the check looks for, by the usages
met-word : (sc : Scope) (u v : Usage) (b m : List ℕ) (k : ℕ) → k < 16 → Marked sc no_names u b → Marked sc no_names v m
    → met_at k b m
    ≡ bit_or
    (bit_or
    (bit_or (in_both sc.variables u.changes v.uses k) (in_both sc.variables v.changes u.uses k))
    (in_both sc.channels u.inputs v.inputs k))
    (in_both sc.channels u.outputs v.outputs k)
unfolding met_at
met-word sc u v b m k l p q =
    let e : 0 + k ≡ k = omega arith in
    rw (
      rw e at (own-word changed k l p),
      rw e at (own-word changed k l q),
      own-word used-there k l p,
      own-word used-there k l q,
      own-word inputs-of k l p,
      own-word inputs-of k l q,
      own-word outputs-of k l p,
      own-word outputs-of k l q,
    ) refl

-- the check sees what the model sees, if the names that two branches share are in scope
pub clashing-is : (sc : Scope) (u v : Usage) (b m : List ℕ) → Marked sc no_names u b → Marked sc no_names v m
    → length sc.variables ≤ 1024 → length sc.channels ≤ 1024
    → ((x : Site) → is_in x u.changes ≡ true → is_in x v.uses ≡ true → InScope sc.variables x)
    → ((x : Site) → is_in x v.changes ≡ true → is_in x u.uses ≡ true → InScope sc.variables x)
    → ((x : Site) → is_in x u.inputs ≡ true → is_in x v.inputs ≡ true → InScope sc.channels x)
    → ((x : Site) → is_in x u.outputs ≡ true → is_in x v.outputs ≡ true → InScope sc.channels x)
    → clashing b m ≡ clash u v
unfolding clashing clash
clashing-is sc u v b m p q few-vs few-cs first second third fourth =
    together (ltb 0 (met_below 16 0 b m)) (one || two || three || last)
    (λ e. ⊎_elim (λ h. absurd (omega (arith, h))) (λ r. found r.0 (rw (met-word sc u v b m r.0 r.1 p q) at r.2))
    (met_has 16 0 b m (ltb-true 0 (met_below 16 0 b m) e)))
    (λ e. or_cases (one || two || three) last e
    (λ e. or_cases (one || two) three e
    (λ e. or_cases one two e
    (λ h. let r = share-both vs u.changes v.uses few-vs first h in
    meets r.0 r.1 (in_three r.0 (in_two r.0 (left_in_lem (A r.0) (B r.0) r.2))))
    (λ h. let r = share-both vs v.changes u.uses few-vs second h in
    meets r.0 r.1 (in_three r.0 (in_two r.0 (right-in (A r.0) (B r.0) r.2)))))
    (λ h. let r = share-both cs u.inputs v.inputs few-cs third h in
    meets r.0 r.1 (in_three r.0 (right-in (bit_or (A r.0) (B r.0)) (C r.0) r.2))))
    (λ h. let r = share-both cs u.outputs v.outputs few-cs fourth h in
    meets r.0 r.1 (right-in (bit_or (bit_or (A r.0) (B r.0)) (C r.0)) (D r.0) r.2)))
  where
    vs : List Site
    vs = sc.variables

    cs : List Site
    cs = sc.channels

    one : Bool
    one = share u.changes v.uses

    two : Bool
    two = share v.changes u.uses

    three : Bool
    three = share u.inputs v.inputs

    last : Bool
    last = share u.outputs v.outputs

    A : ℕ → ℕ
    A k = in_both sc.variables u.changes v.uses k

    B : ℕ → ℕ
    B k = in_both sc.variables v.changes u.uses k

    C : ℕ → ℕ
    C k = in_both sc.channels u.inputs v.inputs k

    D : ℕ → ℕ
    D k = in_both sc.channels u.outputs v.outputs k

    in_two : (k : ℕ) → 0 < bit_or (A k) (B k) → 0 < bit_or (bit_or (A k) (B k)) (C k)
    in_two k h = left_in_lem (bit_or (A k) (B k)) (C k) h

    in_three : (k : ℕ) → 0 < bit_or (bit_or (A k) (B k)) (C k) → 0 < bit_or (bit_or (bit_or (A k) (B k)) (C k)) (D k)
    in_three k h = left_in_lem (bit_or (bit_or (A k) (B k)) (C k)) (D k) h

    meets : (k : ℕ) → k < 16 → 0 < bit_or (bit_or (bit_or (A k) (B k)) (C k)) (D k) → ltb 0 (met_below 16 0 b m) ≡ true
    meets k l h = lt-ltb 0 (met_below 16 0 b m) (met_of 16 0 b m k l (rw (met-word sc u v b m k l p q) h))

    found : (k : ℕ) → 0 < bit_or (bit_or (bit_or (A k) (B k)) (C k)) (D k) → (one || two || three || last) ≡ true
    found k h =
        ⊎_elim
        (λ h. ⊎_elim
        (λ h. ⊎_elim
        (λ h. rw (both-share vs u.changes v.uses k h) refl)
        (λ h. rw (both-share vs v.changes u.uses k h, or-true one) refl)
        (in-union (A k) (B k) h))
        (λ h. rw (both-share cs u.inputs v.inputs k h, or-true (one || two)) refl)
        (in-union (bit_or (A k) (B k)) (C k) h))
        (λ h. rw (both-share cs u.outputs v.outputs k h) (or-true (one || two || three)))
        (in-union (bit_or (bit_or (A k) (B k)) (C k)) (D k) h)

-- four tests of one thing, before four of another
four : (a b c d e f g h : Bool) → ((a || b || c || d) || (e || f || g || h)) ≡ ((a || e) || (b || f) || (c || g) || (d || h))
four true b c d e f g h = refl
four false true c d e f g h = rw (or-true e) refl
four false false true d e f g h = rw (or-true (e || f)) refl
four false false false true e f g h = sym (or-true (e || f || g))
four false false false false e f g h = refl

share-left : (xs zs ys : List Site) → share (xs ++ zs) ys ≡ (share xs ys || share zs ys)
unfolding share
share-left [] zs ys = refl
share-left (x ∷ xs) zs ys = rw (share-left xs zs ys) (sym (or_assoc (is_in x ys) (share xs ys) (share zs ys)))

-- two tests of one thing, before two of another
two : (a b c d : Bool) → ((a || b) || (c || d)) ≡ ((a || c) || (b || d))
two true b c d = refl
two false true c d = sym (or-true c)
two false false c d = refl

share-right : (xs ys zs : List Site) → share xs (ys ++ zs) ≡ (share xs ys || share xs zs)
unfolding share
share-right [] ys zs = refl
share-right (x ∷ xs) ys zs =
    rw (share-right xs ys zs, is_in-append x ys zs) (two (is_in x ys) (is_in x zs) (share xs ys) (share xs zs))

clash-both : (u v w : Usage) → clash (u ⊕ v) w ≡ (clash u w || clash v w)
unfolding clash
clash-both u v w =
    rw (
      share-left u.changes v.changes w.uses,
      share-right w.changes u.uses v.uses,
      share-left u.inputs v.inputs w.inputs,
      share-left u.outputs v.outputs w.outputs,
    )
    (sym (four
    (share u.changes w.uses) (share w.changes u.uses) (share u.inputs w.inputs) (share u.outputs w.outputs)
    (share v.changes w.uses) (share w.changes v.uses) (share v.inputs w.inputs) (share v.outputs w.outputs)))

-- a branch clashes with one before it, where u is what those before use
unfoldable pub clashes_before : Usage → Stmts → Bool
clashes_before u no_stmt = false
clashes_before u (stmt s ss) = clash u (usage s) || clashes_before (u ⊕ usage s) ss

later-both : (u v : Usage) (ss : Stmts) → clashes_later (u ⊕ v) ss ≡ (clashes_later u ss || clashes_later v ss)
unfolding clashes_later
later-both u v no_stmt = refl
later-both u v (stmt s ss) =
    rw (clash-both u v (usage s), later-both u v ss)
    (two (clash u (usage s)) (clash v (usage s)) (clashes_later u ss) (clashes_later v ss))

-- the branches before are taken together here, and one by one in the model
before-later : (u : Usage) (ss : Stmts) → clashes_before u ss ≡ (clashes_later u ss || any_clash ss)
unfolding clashes_before clashes_later any_clash
before-later u no_stmt = refl
before-later u (stmt s ss) =
    rw (before-later (u ⊕ usage s) ss, later-both u (usage s) ss)
    (ap (λ (t : Bool). clash u (usage s) || t) (or_assoc (clashes_later u ss) (clashes_later (usage s) ss) (any_clash ss))
    ∙ sym (or_assoc (clash u (usage s)) (clashes_later u ss) (clashes_later (usage s) ss || any_clash ss)))

share-none : (xs : List Site) → share xs [] ≡ false
unfolding share is_in
share-none [] = refl
share-none (x ∷ xs) = share-none xs

later-nothing : (ss : Stmts) → clashes_later nothing ss ≡ false
unfolding clashes_later clash share
later-nothing no_stmt = refl
later-nothing (stmt s ss) = rw (share-none (usage s).changes, later-nothing ss) refl

pub before-any : (ss : Stmts) → clashes_before nothing ss ≡ any_clash ss
before-any ss = before-later nothing ss ∙ rw (later-nothing ss) refl
