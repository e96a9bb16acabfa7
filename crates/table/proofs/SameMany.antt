-- The parts of a statement, one after the other.
use Prim.Native.Nat.{ℕ, zero, suc, ◌≤◌, max}
use native.Mathlib.Omega.{arith}
use mathlib.Core.Path.{◌≡◌, refl, sym, ◌∙◌}
use mathlib.Core.List.{List}
use mathlib.Core.Option.{Option, none, some}
use lib.ListN.{drop}
use Rattle.model.specs.Reader.{Reader, pure, Scope, read_many}
use Rattle.model.specs.Usage.{Usage, nothing, ◌⊕◌, or_else}
use Rattle.table.specs.Stmts.{first_among, added, part_at, most_from, part_uses, most_use}
use Rattle.numbers.specs.declared.kinds.Head.{Head}
use Rattle.table.specs.declared.stmt.Names.{Names}
use Rattle.table.specs.declared.stmt.Part.{Part}
use Rattle.std.specs.Prelude.{Result, Ok, Err}
use Rattle.numbers.specs.declared.Misread.{Misread}
use Rattle.numbers.specs.Items.{with_read}
use Rattle.table.proofs.SameItems.{Same, gives, onwards}
use Rattle.table.proofs.Marks.{Uses, use-nothing, use-both}
use Rattle.table.specs.declared.stmt.Sum.{Sum}
use Rattle.table.proofs.SameSimple.{first, Within, wider, within_both, within-nothing}

pub first_among-none : (a : ℕ) → first_among a 0 ≡ a
first_among-none zero = refl
first_among-none (suc p) = refl

pub first_among-assoc : (a b c : ℕ) → first_among (first_among a b) c ≡ first_among a (first_among b c)
first_among-assoc zero b c = refl
first_among-assoc (suc p) b c = refl

pub first-or_else : (a b : Option ℕ) → first (or_else a b) ≡ first_among (first a) (first b)
first-or_else none b = refl
first-or_else (some p) b = refl

-- what is counted over the parts of a statement
pub record Counting (L : Type 0) : Type 0 where
  pub empty : L
  pub needs : L → ℕ
  pub lives : L → ℕ
  pub clashes : L → Option ℕ
  pub usages : L → Usage
  pub no-needs : needs empty ≡ 0
  pub no-lives : lives empty ≡ 0
  pub no-clashes : clashes empty ≡ none
  pub no-usages : usages empty ≡ nothing

-- one part, and what it adds to those behind it
pub record PartIs {L : Type 0} (K : Counting L) (sc : Scope) (place at : ℕ) (way : List ℕ → List ℕ) (add : L → L) (n : ℕ)
    (x : Result Part Misread)
    : Type 0 where
  pub words : ℕ
  pub processes : ℕ
  pub clash : ℕ
  pub use-of : Usage
  pub is : x ≡ Ok (record { next = n; words = words; processes = processes; clash = clash })
  pub ahead : at ≤ n
  pub needs : (l : L) → K.needs (add l) ≡ max words (K.needs l)
  pub lives : (l : L) → K.lives (add l) ≡ max processes (K.lives l)
  pub clashes : (l : L) → first (K.clashes (add l)) ≡ first_among clash (first (K.clashes l))
  pub usages : (l : L) → K.usages (add l) ≡ use-of ⊕ K.usages l
  pub uses : Uses sc use-of way
  pub within : Within sc place n use-of

-- so many parts, after some
pub record ManyIs {L : Type 0} (K : Counting L) (sc : Scope) (place : ℕ) (way : List ℕ → List ℕ) (t : Sum) (l : L) (n : ℕ)
    (y : Result Sum Misread)
    : Type 0 where
  pub total : Sum
  pub is : y ≡ Ok total
  pub next : total.next ≡ n
  pub ahead : t.next ≤ n
  pub most : total.most ≡ max t.most (K.needs l)
  pub live : total.live ≡ max t.live (K.lives l)
  pub clash : total.clash ≡ first_among t.clash (first (K.clashes l))
  pub uses : Uses sc (K.usages l) way
  pub within : Within sc place n (K.usages l)

pub many-same : {A L : Type 0} (K : Counting L) (more : A → L → L) (part : Reader A) (s : List ℕ) (d : ℕ) (w : Names) (sc : Scope)
    (inner : ℕ → Result Part Misread) (uses : ℕ → List ℕ → List ℕ) (i : ℕ) (head : Head) (place : ℕ) (t : Sum) → place ≤ t.next
    → ((at : ℕ) → place ≤ at
    → Same s (λ a n x. PartIs K sc place at (λ j. part_uses head d w uses s at j) (more a) n x) (part_at head d w inner s at)
    (part at (drop at s)))
    → Same s (ManyIs K sc place (λ j. most_use i head d w inner uses s t.next j) t) (most_from i head d w inner s t)
    (read_many K.empty more part i t.next (drop t.next s))
unfolding most_from most_use read_many
many-same K more part s d w sc inner uses zero head place t l parts =
    gives K.empty t.next (Ok t)
    (record {
      total = t;
      is = refl;
      next = refl;
      ahead = omega arith;
      most = rw K.no-needs (omega arith);
      live = rw K.no-lives (omega arith);
      clash = rw K.no-clashes (sym (first_among-none t.clash));
      uses = rw K.no-usages (use-nothing sc);
      within = rw K.no-usages (within-nothing sc place t.next);
    })
many-same K more part s d w sc inner uses (suc i) head place t l parts =
    onwards (λ x. with_read Err x (λ p. most_from i head d w inner s (added t p))) _ (parts t.next l)
    (λ a n y k q.
    let p : Part = record { next = n; words = k.words; processes = k.processes; clash = k.clash } in
    rw k.is (
    onwards (λ x. x) (λ l. pure (more a l))
    (many-same K more part s d w sc inner uses i head place (added t p) (omega (arith, l, k.ahead)) parts)
    (λ r m z h e. gives (more a r) m z
    (record {
      total = h.total;
      is = h.is;
      next = h.next;
      ahead = omega (arith, k.ahead, h.ahead);
      most = h.most ∙ rw (k.needs r) (omega arith);
      live = h.live ∙ rw (k.lives r) (omega arith);
      clash = h.clash ∙ rw (k.clashes r) (first_among-assoc t.clash k.clash (first (K.clashes r)));
      uses = rw (q ∙ k.is, k.usages r)
          (use-both {f = part_uses head d w uses s t.next} {g = most_use i head d w inner uses s n} k.uses h.uses);
      within = rw (k.usages r) (within_both (wider (omega arith) (omega (arith, h.ahead)) k.within) h.within);
    }))
    (λ e. refl)))
    (λ e. refl)
