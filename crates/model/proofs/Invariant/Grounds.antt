-- Where the words of a program stand: all in the machine's memory; the outside channels behind the workspace.
use Prim.Native.Nat.{ℕ, zero, suc, ◌+◌, ◌≤◌, ◌<◌}
use native.Mathlib.Omega.{arith}
use mathlib.Core.Path.{◌≡◌, refl, subst}
use mathlib.Core.Logic.{◌⊎◌, inl, inr, ⊎_elim}
use mathlib.Core.List.Memᴰ
use mathlib.Core.List.{List, [], ◌∷◌, Memᴰ}
use mathlib.Core.Option.{some}
use lib.ListN.{length}
use Rattle.model.specs.Limits.{word_limit}
use Rattle.model.specs.Syntax.{Site, input_of, output_of, Stmt, Stmts, stmt}
use Rattle.model.specs.Reader.{numbered}
use Rattle.model.specs.Counts.{need, sum_need}
use Rattle.model.specs.Layout.{base, word_of}
use Rattle.model.specs.Occam.{Process, Branches, State}
use Rattle.model.proofs.Cases.{never}
use Rattle.model.proofs.Quiet.Ways.{Mem}
use Rattle.model.proofs.Quiet.Setting.{Setting, whole}
use Rattle.model.proofs.Words.Parts.{Part, joins}
use Rattle.model.proofs.Words.FineParts.{outside_names}
use Rattle.model.proofs.Quiet.Arrivals.{Sound}
use Rattle.model.proofs.Invariant.Trees.{some_same, Label, alone, alone-part, alone-parted, Info, Tree, t-leaf, t-par, Forest}
use Rattle.model.proofs.Invariant.Trees.{f-none, f-live, f-over, label_at, label_in}
use Rattle.model.proofs.Invariant.Zones.{zone_of, zone-under}
use Rattle.model.proofs.Invariant.Kernel.{Loaded, S, root, size, LeafAt, NodeAt, Rest, node, part_small}

-- one of some numbered names
pub data Numbered (of : ℕ → Site) (n : ℕ) (x : Site) : Type 0 where
  numbered-one : (k : ℕ) → k < n → x ≡ of k → Numbered of n x

numbered-in : (of : ℕ → Site) (n : ℕ) (x : Site) → Memᴰ x (numbered of n) → Numbered of n x
unfolding numbered
numbered-in of zero x m = absurd (Memᴰ.not-nil m)
numbered-in of (suc n) x m =
    ⊎_elim (λ k. elim (numbered-in of n x k) [ numbered-one j h e ↦ numbered-one j (omega arith) e ])
    (λ k. numbered-one n (omega arith) (Memᴰ.eq_of_singleton k)) (Memᴰ.append_cases (numbered of n) m)

-- the first branch's need
need-first : (s : Stmt) (ss : Stmts) → sum_need (stmt s ss) ≡ need s + sum_need ss
unfolding sum_need
need-first s ss = refl

-- a part's end is not above the whole
module _ (S : Setting) where
  abbrev Low : ℕ → Part → Type 0
  Low n b = (d : ℕ) → b.ending ≡ joins d → b.top + d ≤ n

  distance-same : {d e : ℕ} → joins d ≡ joins e → d ≡ e
  distance-same e = cc

  mutual
    unfolding label_at label_in

    ending-low : {a : Part} {p : Process} (n : ℕ) → Low n a → a.top ≤ n → (t : Tree S a p) (path : List ℕ) {b : Part} {i : Info}
        → label_at S t path ≡ some (alone b i) → Low n b
    ending-low n h l (t-leaf q j k) [] e = subst (Low n) (alone-part (some_same e)) h
    ending-low n h l (t-leaf q j k) (m ∷ path) e = never (cc)
    ending-low n h l (t-par c f) [] e = never (alone-parted (some_same e))
    ending-low n h l (t-par {s} {ss} c f) (m ∷ path) e =
        endings-low n (omega (arith, c.placed.low)) f (omega (arith, c.room)) m path e

    endings-low : {vars chans : List Site} {w d : ℕ} {ss : Stmts} {bs : Branches} (n : ℕ) → w ≤ n → (f : Forest S vars chans w d ss bs)
        → d + sum_need ss ≤ w → (m : ℕ) (path : List ℕ) {b : Part} {i : Info} → label_in S f m path ≡ some (alone b i) → Low n b
    endings-low n l f-none k m path e = never (cc)
    endings-low {w} {d} n l (f-live {s} {ss} t f) k zero path e =
        ending-low n (λ d' q. let z = distance-same q in omega (arith, need-first s ss)) (omega arith) t path e
    endings-low {d} n l (f-live {s} {ss} t f) k (suc m) path e = endings-low n l f (omega (arith, need-first s ss)) m path e
    endings-low n l (f-over f) k zero path e = never (cc)
    endings-low {d} n l (f-over {s} {ss} f) k (suc m) path e = endings-low n l f (omega (arith, need-first s ss)) m path e

module _ (L : Loaded) where
  -- an outside channel's word
  pub data OutsideAt (c : Site) : Type 0 where
    an-input : (k : ℕ) → k < L.prog.inputs → c ≡ input_of k → (S L).word c ≡ base L.prog + k → OutsideAt c
    an-output : (k : ℕ) → k < L.prog.outputs → c ≡ output_of k → (S L).word c ≡ base L.prog + L.prog.inputs + k → OutsideAt c

  pub outside-at : (c : Site) → Memᴰ c (outside_names L.prog) → OutsideAt c
  unfolding word_of
  outside-at c m =
      ⊎_elim (λ m. elim (numbered-in input_of L.prog.inputs c m) [ numbered-one k h e ↦ an-input k h e (rw e) ])
      (λ m. elim (numbered-in output_of L.prog.outputs c m) [ numbered-one k h e ↦ an-output k h e (rw e) ])
      (Memᴰ.append_cases (numbered input_of L.prog.inputs) m)

  -- a channel in scope is an outside one, or stands in the workspace
  pub channel-at : {st : State} {t : Tree (S L) (root L) st.process} {path : List ℕ} {l : Label} → NodeAt L st t path l → (c : Site)
      → Memᴰ c (zone_of l).chans → OutsideAt c ⊎ ((S L).word c < base L.prog)
  channel-at {t = t} {path} n c m = ⊎_elim (λ k. inl (outside-at c k)) (λ k. inr k.1)
      ((zone-under (S L) t path n.label).chans-from c m)

  -- names are in the machine's memory
  pub var-in : {st : State} {t : Tree (S L) (root L) st.process} {path : List ℕ} {l : Label} → NodeAt L st t path l → (x : Site)
      → Memᴰ x (zone_of l).vars → (S L).word x < base L.prog
  var-in {t = t} {path} n x m = ⊎_elim (λ k. absurd (Memᴰ.not-nil k)) (λ k. k.1) ((zone-under (S L) t path n.label).vars-from x m)

  pub chan-in : {st : State} {t : Tree (S L) (root L) st.process} {path : List ℕ} {l : Label} → NodeAt L st t path l → (c : Site)
      → Memᴰ c (zone_of l).chans → (S L).word c < size L
  chan-in n c m =
      ⊎_elim (λ o. elim o [ an-input k h e w ↦ omega arith | an-output k h e w ↦ omega arith ]) (λ k. omega arith) (channel-at n c m)

  pub small_size : size L ≤ word_limit
  small_size = L.words_small

  -- the code is small
  pub code-end : whole (S L) ≡ length L.code
  code-end = L.realises.ends

  -- what is in scope of a process fits in words
  pub sound-at : {st : State} {μ : Mem} {t : Tree (S L) (root L) st.process} {Out : List ℕ → Type 0} {ws : List ℕ} {path : List ℕ}
      {q : Process} {b : Part} {i : Info} → Rest L st μ t Out ws → LeafAt L st t path q b i
      → Sound (S L) b st.store i.vars i.chans
  sound-at {t = t} {path} h at =
      record {
        bytes = omega (arith, code-end, L.code-small);
        high = omega (arith, part_small L at, small_size);
        joined = λ d e.
            omega (arith, ending-low (S L) (base L.prog) (λ d e. never (cc)) (omega arith) t path at.label d e, small_size);
        vars-word = λ x m. omega (arith, var-in (node L at) x m, small_size);
        chans-word = λ c m. omega (arith, chan-in (node L at) c m, small_size);
        values = λ x m. (h.vars (node L at) x m).1;
      }
