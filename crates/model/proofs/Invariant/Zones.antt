-- Whose words are whose. Each process has a zone of words of its own and names in scope; the zones of two processes have no word in common,
-- no name in scope has its word in another's zone, and different names have different words.
use Prim.Native.Nat.{ℕ, zero, suc, ◌+◌, ◌-◌, ◌≤◌, ◌<◌}
use native.Mathlib.Omega.{arith}
use native.Mathlib.Decide.{ℕ_discrete}
use mathlib.Core.Path.{◌≡◌, refl, sym, ap, subst, ◌∙◌}
use mathlib.Core.Logic.{◌≢◌, ◌⊎◌, inl, inr, ⊎_elim}
use mathlib.Core.List.{List, [], ◌∷◌, Memᴰ}
use mathlib.Core.Option.{some}
use Rattle.model.specs.Syntax.{Site, Stmts}
use Rattle.model.specs.Counts.{need}
use Rattle.model.specs.Occam.{Process, Branches}
use Rattle.model.proofs.Cases.{never}
use Rattle.model.proofs.Quiet.Setting.{Setting}
use Rattle.model.proofs.Occam.Paths.{same-path}
use Rattle.model.proofs.Words.Parts.{Part, Apart, Inside, FineBranches, Beside}
use Rattle.model.proofs.Quiet.Continuations.{Scoped, scoped-up, Placed}
use Rattle.model.proofs.Invariant.Trees.{some_same, Label, alone, parted, Tree, t-leaf, t-par, Forest, f-none, f-live, f-over}
use Rattle.model.proofs.Invariant.Trees.{label_at, label_in}

-- the words from lo up to hi, and the names in scope
pub record Zone : Type 0 where
  pub lo : ℕ
  pub hi : ℕ
  pub vars : List Site
  pub chans : List Site

-- a process's own words: all of its part, or the two words of a PAR
abbrev pub zone_of : Label → Zone
zone_of (alone b i) = record { lo = b.bottom; hi = b.top; vars = i.vars; chans = i.chans }
zone_of (parted a vars chans w onward) = record { lo = w; hi = w + 2; vars = vars; chans = chans }

module _ (S : Setting) where
  -- a word is in a zone
  abbrev pub Within : ℕ → Zone → Type 0
  Within v z = (z.lo ≤ v) × (v < z.hi)

  -- two zones have nothing in common, and names that are in scope in both are the same
  pub record Distant (z y : Zone) : Type 0 where
    pub words : (v : ℕ) → Within v z → Within v y → ⊥
    pub vars-out : (x : Site) → Memᴰ x z.vars → Within (S.word x) y → ⊥
    pub chans-out : (c : Site) → Memᴰ c z.chans → Within (S.word c) y → ⊥
    pub vars-in : (x : Site) → Memᴰ x y.vars → Within (S.word x) z → ⊥
    pub chans-in : (c : Site) → Memᴰ c y.chans → Within (S.word c) z → ⊥
    pub vars-same : (x u : Site) → Memᴰ x z.vars → Memᴰ u y.vars → S.word x ≡ S.word u → x ≡ u
    pub chans-same : (c d : Site) → Memᴰ c z.chans → Memᴰ d y.chans → S.word c ≡ S.word d → c ≡ d
    pub cross : (x c : Site) → Memᴰ x z.vars → Memᴰ c y.chans → S.word x ≡ S.word c → ⊥
    pub crossed : (c x : Site) → Memᴰ c z.chans → Memᴰ x y.vars → S.word c ≡ S.word x → ⊥

  pub distant-sym : {z y : Zone} → Distant z y → Distant y z
  distant-sym d =
      record {
        words = λ v h k. d.words v k h;
        vars-out = d.vars-in;
        chans-out = d.chans-in;
        vars-in = d.vars-out;
        chans-in = d.chans-out;
        vars-same = λ x u h k e. sym (d.vars-same u x k h (sym e));
        chans-same = λ x u h k e. sym (d.chans-same u x k h (sym e));
        cross = λ x c h k e. d.crossed c x k h (sym e);
        crossed = λ c x h k e. d.cross x c k h (sym e);
      }

  -- a zone lies between two words, where these names are in scope: its names are among them, or have their words there too
  pub record Fits (vars chans : List Site) (lo hi : ℕ) (z : Zone) : Type 0 where
    pub above : lo ≤ z.lo
    pub below : z.hi ≤ hi
    pub vars-from : (x : Site) → Memᴰ x z.vars → Memᴰ x vars ⊎ ((lo ≤ S.word x) × (S.word x < hi))
    pub chans-from : (c : Site) → Memᴰ c z.chans → Memᴰ c chans ⊎ ((lo ≤ S.word c) × (S.word c < hi))

  -- two zones that lie apart, below the words of the names in scope around them
  module _ {vars chans : List Site} {w : ℕ} (h : Scoped S w vars chans) {lo hi lo' hi' : ℕ} (low : hi ≤ w) (low' : hi' ≤ w)
      (off : (hi ≤ lo') ⊎ (hi' ≤ lo)) where
    -- no word is in both
    two : (v : ℕ) → lo ≤ v → v < hi → lo' ≤ v → v < hi' → ⊥
    two v a b c d = ⊎_elim (λ (k : hi ≤ lo'). absurd (omega arith)) (λ (k : hi' ≤ lo). absurd (omega arith)) off

    -- a name whose word is in neither
    out : (l : List Site) → ((x : Site) → Memᴰ x l → w ≤ S.word x) → (x : Site)
        → Memᴰ x l ⊎ ((lo ≤ S.word x) × (S.word x < hi))
        → (v : ℕ) → S.word x ≡ v → lo' ≤ v → v < hi' → ⊥
    out l above x k v e a b =
        ⊎_elim (λ m. absurd (omega (arith, above x m))) (λ m. two v (omega (arith, m.0)) (omega (arith, m.1)) a b) k

    -- the same name
    same : (l : List Site) → ((x : Site) → Memᴰ x l → w ≤ S.word x)
        → ((x u : Site) → Memᴰ x l → Memᴰ u l → S.word x ≡ S.word u → x ≡ u)
        → (x u : Site) → Memᴰ x l ⊎ ((lo ≤ S.word x) × (S.word x < hi)) → Memᴰ u l ⊎ ((lo' ≤ S.word u) × (S.word u < hi'))
        → S.word x ≡ S.word u → x ≡ u
    same l above distinct x u k m e =
        ⊎_elim (λ a. ⊎_elim (λ b. distinct x u a b e) (λ b. absurd (omega (arith, above x a, b.1))) m)
        (λ a. ⊎_elim (λ b. absurd (omega (arith, above u b, a.1)))
        (λ b. absurd (two (S.word u) (omega (arith, a.0)) (omega (arith, a.1)) b.0 b.1)) m) k

    -- a variable and a channel
    differ : (l m : List Site) → ((x : Site) → Memᴰ x l → w ≤ S.word x) → ((x : Site) → Memᴰ x m → w ≤ S.word x)
        → ((x u : Site) → Memᴰ x l → Memᴰ u m → S.word x ≡ S.word u → ⊥)
        → (x u : Site) → Memᴰ x l ⊎ ((lo ≤ S.word x) × (S.word x < hi)) → Memᴰ u m ⊎ ((lo' ≤ S.word u) × (S.word u < hi'))
        → S.word x ≡ S.word u → ⊥
    differ l m above above' never-same x u k n e =
        ⊎_elim (λ a. ⊎_elim (λ b. never-same x u a b e) (λ b. absurd (omega (arith, above x a, b.1))) n)
        (λ a. ⊎_elim (λ b. absurd (omega (arith, above' u b, a.1)))
        (λ b. two (S.word u) (omega (arith, a.0)) (omega (arith, a.1)) b.0 b.1) n) k

  -- two zones that lie apart
  pub far : {vars chans : List Site} {w : ℕ} → Scoped S w vars chans → {lo hi lo' hi' : ℕ} → hi ≤ w → hi' ≤ w → (hi ≤ lo') ⊎ (hi' ≤ lo)
      → {z y : Zone} → Fits vars chans lo hi z → Fits vars chans lo' hi' y → Distant z y
  far {vars} {chans} h low low' off {z} {y} f g =
      let back = ⊎_elim (λ k. inr k) (λ k. inl k) off in
      record {
        words = λ v a b.
            two h low low' off v (omega (arith, a.0, f.above)) (omega (arith, a.1, f.below)) (omega (arith, b.0, g.above))
            (omega (arith, b.1, g.below));
        vars-out = λ x m a.
            out h low low' off vars h.vars-above x (f.vars-from x m) (S.word x) refl (omega (arith, a.0, g.above))
            (omega (arith, a.1, g.below));
        chans-out = λ x m a.
            out h low low' off chans h.chans-above x (f.chans-from x m) (S.word x) refl (omega (arith, a.0, g.above))
            (omega (arith, a.1, g.below));
        vars-in = λ x m a.
            out h low' low back vars h.vars-above x (g.vars-from x m) (S.word x) refl (omega (arith, a.0, f.above))
            (omega (arith, a.1, f.below));
        chans-in = λ x m a.
            out h low' low back chans h.chans-above x (g.chans-from x m) (S.word x) refl (omega (arith, a.0, f.above))
            (omega (arith, a.1, f.below));
        vars-same = λ x u a b e.
            same h low low' off vars h.vars-above h.vars-distinct x u (f.vars-from x a) (g.vars-from u b) e;
        chans-same = λ x u a b e.
            same h low low' off chans h.chans-above h.chans-distinct x u (f.chans-from x a) (g.chans-from u b) e;
        cross = λ x c a b e.
            differ h low low' off vars chans h.vars-above h.chans-above h.apart x c (f.vars-from x a) (g.chans-from c b) e;
        crossed = λ c x a b e.
            differ h low low' off chans vars h.chans-above h.vars-above
            (λ c x m n e. h.apart x c n m (sym e)) c x (f.chans-from c a)
            (g.vars-from x b) e;
      }

  -- the zone of a part
  abbrev pub Under : Part → Zone → Type 0
  Under a z = Fits a.vars a.chans a.bottom a.top z

  -- names that are placed above a word of a part
  placed-under : {a : Part} {w : ℕ} {vars chans : List Site} (lo hi : ℕ) → Placed S a w vars chans → a.bottom ≤ w
      → a.bottom ≤ lo → hi ≤ a.top
      → Under a (record { lo = lo; hi = hi; vars = vars; chans = chans })
  placed-under lo hi h low above below =
      record {
        above = above;
        below = below;
        vars-from = λ x m. ⊎_elim (λ k. inl k) (λ k. inr (omega (arith, h.scoped.vars-above x m), k)) (h.vars-origin x m);
        chans-from = λ x m. ⊎_elim (λ k. inl k) (λ k. inr (omega (arith, h.scoped.chans-above x m), k)) (h.chans-origin x m);
      }

  -- what lies in a branch lies in the PAR's part
  under_up : {a : Part} {w : ℕ} {vars chans : List Site} {b : Part} {z : Zone} → Placed S a w vars chans → a.bottom ≤ w → b.vars ≡ vars
      → b.chans ≡ chans → Inside b a → Under b z → Under a z
  under_up {a} {vars = vars} {chans = chans} {b = b} h low ev ec i u =
      record {
        above = omega (arith, u.above, i.above);
        below = omega (arith, u.below, i.below);
        vars-from = λ x m.
            ⊎_elim (λ k. vars-up x (subst (λ l. Memᴰ x l) ev k))
            (λ k. inr (omega (arith, k.0, i.above), omega (arith, k.1, i.below)))
            (u.vars-from x m);
        chans-from = λ x m.
            ⊎_elim (λ k. chans-up x (subst (λ l. Memᴰ x l) ec k))
            (λ k. inr (omega (arith, k.0, i.above), omega (arith, k.1, i.below))) (u.chans-from x m);
      }
    where
      vars-up : (x : Site) → Memᴰ x vars → Memᴰ x a.vars ⊎ ((a.bottom ≤ S.word x) × (S.word x < a.top))
      vars-up x m = ⊎_elim (λ k. inl k) (λ k. inr (omega (arith, h.scoped.vars-above x m), k)) (h.vars-origin x m)

      chans-up : (x : Site) → Memᴰ x chans → Memᴰ x a.chans ⊎ ((a.bottom ≤ S.word x) × (S.word x < a.top))
      chans-up x m = ⊎_elim (λ k. inl k) (λ k. inr (omega (arith, h.scoped.chans-above x m), k)) (h.chans-origin x m)

  -- every zone lies in the part of its tree
  mutual
    unfolding label_at label_in

    pub zone-under : {a : Part} {p : Process} (t : Tree S a p) (path : List ℕ) {l : Label} → label_at S t path ≡ some l
        → Under a (zone_of l)
    zone-under {a} (t-leaf q i h) [] e =
        subst (λ l. Under a (zone_of l)) (some_same e)
        (placed-under a.bottom a.top h.placed (omega (arith, h.placed.room)) (omega arith) (omega arith))
    zone-under (t-leaf q i h) (j ∷ path) e = never (cc)
    zone-under (t-par {a} {w} c f) [] e =
        subst (λ l. Under a (zone_of l)) (some_same e)
        (placed-under w (w + 2) c.placed (omega (arith, c.room)) (omega (arith, c.room)) c.placed.low)
    zone-under (t-par {a} c f) (j ∷ path) e = forest-under f a c.placed (omega (arith, c.room)) c.fine j path e

    forest-under : {vars chans : List Site} {w d : ℕ} {ss : Stmts} {bs : Branches} (f : Forest S vars chans w d ss bs) (a : Part)
        → Placed S a (w + 2) vars chans → a.bottom ≤ w + 2 → FineBranches S.word a vars chans w d ss
        → (i : ℕ) (path : List ℕ) {l : Label}
        → label_in S f i path ≡ some l → Under a (zone_of l)
    forest-under f-none a h k g i path e = never (cc)
    forest-under (f-live t f) a h k g zero path e = under_up h k refl refl g.0 (zone-under t path e)
    forest-under (f-live t f) a h k g (suc i) path e = forest-under f a h k g.3 i path e
    forest-under (f-over f) a h k g zero path e = never (cc)
    forest-under (f-over f) a h k g (suc i) path e = forest-under f a h k g.3 i path e

  -- a zone in a part that is apart from b, below w
  data Beyond (vars chans : List Site) (w : ℕ) (b : Part) (z : Zone) : Type 0 where
    beyond : (c : Part) → Apart b c → c.top ≤ w → Fits vars chans c.bottom c.top z → Beyond vars chans w b z

  -- a part that is beside the branches is apart from all in them
  forest-beyond : {vars chans : List Site} {w d : ℕ} {ss : Stmts} {bs : Branches} (f : Forest S vars chans w d ss bs) (b : Part)
      → Beside S.word b vars chans w d ss → (i : ℕ) (path : List ℕ) {l : Label} → label_in S f i path ≡ some l
      → Beyond vars chans w b (zone_of l)
  unfolding label_at label_in
  forest-beyond f-none b g i path e = never (cc)
  forest-beyond (f-live t f) b g zero path e = beyond _ g.0 (omega arith) (zone-under t path e)
  forest-beyond (f-live t f) b g (suc i) path e = forest-beyond f b g.1 i path e
  forest-beyond (f-over f) b g zero path e = never (cc)
  forest-beyond (f-over f) b g (suc i) path e = forest-beyond f b g.1 i path e

  -- a zone under one branch and one under another
  beyond-distant : {vars chans : List Site} {w : ℕ} (b : Part) {z y : Zone} → Scoped S w vars chans → b.top ≤ w
      → Fits vars chans b.bottom b.top z → Beyond vars chans w b y → Distant z y
  beyond-distant b h low f (beyond c a low' g) = far h low low' a.words f g

  -- a PAR's own zone and one of a process in it
  par-distant : (vars chans : List Site) (w : ℕ) {d : ℕ} {ss : Stmts} {bs : Branches}
      (f : Forest S vars chans w d ss bs) → Scoped S (w + 2) vars chans → (j : ℕ) (other : List ℕ) {m : Label}
      → label_in S f j other ≡ some m
      → Distant (record { lo = w; hi = w + 2; vars = vars; chans = chans }) (zone_of m)
  unfolding label_at label_in
  par-distant vars chans w f-none h j other e = never (cc)
  par-distant vars chans w (f-live {d} {s} t f) h zero other e =
      far h {lo = w} {hi = w + 2} {lo' = w - d - need s} {hi' = w - d} (omega arith) (omega arith) (inr (omega arith))
      (record { above = omega arith; below = omega arith; vars-from = λ x m. inl m; chans-from = λ x m. inl m }) (zone-under t other e)
  par-distant vars chans w (f-live t f) h (suc j) other e = par-distant vars chans w f h j other e
  par-distant vars chans w (f-over f) h zero other e = never (cc)
  par-distant vars chans w (f-over f) h (suc j) other e = par-distant vars chans w f h j other e

  -- zones in two branches of a PAR
  two-branches : {vars chans : List Site} {w d : ℕ} {ss : Stmts} {bs : Branches} (f : Forest S vars chans w d ss bs) (a : Part)
      → Scoped S w vars chans → FineBranches S.word a vars chans w d ss → (i j : ℕ) (path other : List ℕ) → i ≢ j → {l m : Label}
      → label_in S f i path ≡ some l → label_in S f j other ≡ some m → Distant (zone_of l) (zone_of m)
  unfolding label_at label_in
  two-branches f-none a h g i j path other n e k = never (cc)
  two-branches (f-live t f) a h g zero zero path other n e k = absurd (n refl)
  two-branches (f-live t f) a h g zero (suc j) path other n e k =
      beyond-distant _ h (omega arith) (zone-under t path e) (forest-beyond f _ g.2 j other k)
  two-branches (f-live t f) a h g (suc i) zero path other n e k =
      distant-sym (beyond-distant _ h (omega arith) (zone-under t other k) (forest-beyond f _ g.2 i path e))
  two-branches (f-live t f) a h g (suc i) (suc j) path other n e k =
      two-branches f a h g.3 i j path other (λ u. n (ap suc u)) e k
  two-branches (f-over f) a h g zero j path other n e k = never (cc)
  two-branches (f-over f) a h g (suc i) zero path other n e k = never (cc)
  two-branches (f-over f) a h g (suc i) (suc j) path other n e k =
      two-branches f a h g.3 i j path other (λ u. n (ap suc u)) e k

  mutual
    unfolding label_at label_in

    -- the zones of two processes are distant
    pub zones-distant : {a : Part} {p : Process} (t : Tree S a p) (path other : List ℕ) → path ≢ other → {l m : Label}
        → label_at S t path ≡ some l → label_at S t other ≡ some m → Distant (zone_of l) (zone_of m)
    zones-distant (t-leaf q i h) [] [] n e k = absurd (n refl)
    zones-distant (t-leaf q i h) [] (j ∷ other) n e k = never (cc)
    zones-distant (t-leaf q i h) (j ∷ path) other n e k = never (cc)
    zones-distant (t-par c f) [] [] n e k = absurd (n refl)
    zones-distant (t-par {vars} {chans} {w} c f) [] (j ∷ other) n {m = m} e k =
        subst (λ l. Distant (zone_of l) (zone_of m)) (some_same e) (par-distant vars chans w f c.placed.scoped j other k)
    zones-distant (t-par {vars} {chans} {w} c f) (j ∷ path) [] n {l = l} e k =
        subst (λ m. Distant (zone_of l) (zone_of m)) (some_same k)
        (distant-sym (par-distant vars chans w f c.placed.scoped j path e))
    zones-distant (t-par {a} {w} c f) (i ∷ path) (j ∷ other) n e k =
        elim (ℕ_discrete i j) [
          | yes z ↦ same_branch f i path other (λ u. n (ap (λ v. i ∷ v) u ∙ ap (λ v. v ∷ other) z)) e (ap (λ v. label_in S f v other) z ∙ k)
          | no z ↦ two-branches f a (scoped-up S w 2 c.placed.scoped) c.fine i j path other z e k
        ]

    same_branch : {vars chans : List Site} {w d : ℕ} {ss : Stmts} {bs : Branches} (f : Forest S vars chans w d ss bs) (i : ℕ)
        (path other : List ℕ) → path ≢ other → {l m : Label} → label_in S f i path ≡ some l → label_in S f i other ≡ some m
        → Distant (zone_of l) (zone_of m)
    same_branch f-none i path other n e k = never (cc)
    same_branch (f-live t f) zero path other n e k = zones-distant t path other n e k
    same_branch (f-live t f) (suc i) path other n e k = same_branch f i path other n e k
    same_branch (f-over f) zero path other n e k = never (cc)
    same_branch (f-over f) (suc i) path other n e k = same_branch f i path other n e k

  -- names in scope of one process have words of their own
  pub data Distinct (z : Zone) : Type 0 where
    distinct : (w : ℕ) → Scoped S w z.vars z.chans → Distinct z

  mutual
    unfolding label_at label_in

    zone-distinct : {a : Part} {p : Process} (t : Tree S a p) (path : List ℕ) {l : Label} → label_at S t path ≡ some l
        → Distinct (zone_of l)
    zone-distinct (t-leaf q i h) [] e = subst (λ l. Distinct (zone_of l)) (some_same e) (distinct i.w h.placed.scoped)
    zone-distinct (t-leaf q i h) (j ∷ path) e = never (cc)
    zone-distinct (t-par {w} c f) [] e = subst (λ l. Distinct (zone_of l)) (some_same e) (distinct (w + 2) c.placed.scoped)
    zone-distinct (t-par c f) (j ∷ path) e = branch-distinct f j path e

    branch-distinct : {vars chans : List Site} {w d : ℕ} {ss : Stmts} {bs : Branches} (f : Forest S vars chans w d ss bs) (i : ℕ)
        (path : List ℕ) {l : Label} → label_in S f i path ≡ some l → Distinct (zone_of l)
    branch-distinct f-none i path e = never (cc)
    branch-distinct (f-live t f) zero path e = zone-distinct t path e
    branch-distinct (f-live t f) (suc i) path e = branch-distinct f i path e
    branch-distinct (f-over f) zero path e = never (cc)
    branch-distinct (f-over f) (suc i) path e = branch-distinct f i path e

  -- any two names that are in scope, of whichever processes, have different words: variables and channels each among themselves, and
  -- variables and channels against each other
  pub record Differ (z y : Zone) : Type 0 where
    pub vars : (x u : Site) → Memᴰ x z.vars → Memᴰ u y.vars → S.word x ≡ S.word u → x ≡ u
    pub chans : (c d : Site) → Memᴰ c z.chans → Memᴰ d y.chans → S.word c ≡ S.word d → c ≡ d
    pub cross : (x c : Site) → Memᴰ x z.vars → Memᴰ c y.chans → S.word x ≡ S.word c → ⊥
    pub crossed : (c x : Site) → Memᴰ c z.chans → Memᴰ x y.vars → S.word c ≡ S.word x → ⊥

  pub names-differ : {a : Part} {p : Process} (t : Tree S a p) (path other : List ℕ) {l m : Label} → label_at S t path ≡ some l
      → label_at S t other ≡ some m → Differ (zone_of l) (zone_of m)
  names-differ t path other {l} {m} e f = ⊎_elim same-one two-of-them (same-path path other)
    where
      same-one : path ≡ other → Differ (zone_of l) (zone_of m)
      same-one p =
          subst (λ k. Differ (zone_of l) (zone_of k)) (some_same (sym e ∙ ap (label_at S t) p ∙ f))
          (elim (zone-distinct t path e) [
            | distinct w h ↦ record {
              vars = h.vars-distinct;
              chans = h.chans-distinct;
              cross = h.apart;
              crossed = λ c x a b q. h.apart x c b a (sym q);
            }
          ])

      two-of-them : path ≢ other → Differ (zone_of l) (zone_of m)
      two-of-them d =
          let far = zones-distant t path other d e f in
          record { vars = far.vars-same; chans = far.chans-same; cross = far.cross; crossed = far.crossed }
