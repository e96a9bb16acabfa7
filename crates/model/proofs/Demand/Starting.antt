-- The start: a program whose code is in a machine, and the invariant that holds once the machine was started.
use Prim.Native.Nat.{ℕ, zero, suc, ◌+◌, ◌≤◌, ◌<◌}
use native.Mathlib.Omega.{arith}
use native.Mathlib.Nat.{zero-add}
use mathlib.Core.Path.{◌≡◌, refl, sym, ap, ◌∙◌, subst}
use mathlib.Core.Logic.{inl}
use mathlib.Core.Bool.{false}
use mathlib.Core.List.Memᴰ
use mathlib.Core.List.{List, [], ◌∷◌, ◌++◌, append_assoc, Memᴰ}
use mathlib.Core.Option.{none, some}
use lib.ListN.{length, get_or, replicate, drop, length-append, length-replicate, length-drop}
use Rattle.model.specs.Word.{not_process}
use Rattle.model.specs.Syntax.{Site, input_of, output_of}
use Rattle.model.specs.Layout.{base}
use Rattle.model.specs.Scheme.{scheme}
use Rattle.model.specs.Machine.{World, memory_size}
use Rattle.model.specs.Run.{world_of, fresh, cleared}
use Rattle.model.specs.Occam.{Process, begin, frames_of, look, State}
use Rattle.model.specs.Demand.{live_in}
use Rattle.model.proofs.Cases.{never}
use Rattle.model.proofs.Quiet.Ways.{Mem, upd, upd_same, upd_other, front_word}
use Rattle.model.proofs.Quiet.Stretches.{seg-whole}
use Rattle.model.proofs.Quiet.Setting.{whole}
use Rattle.model.proofs.Occam.Paths.{leaf-begin, look-nil, live-begin, is_alt, off-begin}
use Rattle.model.proofs.Words.Parts.{need-two, Part}
use Rattle.model.proofs.Quiet.Continuations.{Scoped, Cont, c-end, cont-placed}
use Rattle.model.proofs.Words.FineParts.{outside_names}
use Rattle.model.proofs.Quiet.Arrivals.{Comes, enters, arrives}
use Rattle.model.proofs.Invariant.Trees.{Label, alone, alone-parted, Info, Sits, Tree, t-leaf, label_at, bytes_left, some_same}
use Rattle.model.proofs.Invariant.Zones.{zone_of}
use Rattle.model.proofs.Invariant.Leaves.{Unmarked}
use Rattle.model.proofs.Effects.Queues.{empty, apart_none}
use Rattle.model.proofs.Invariant.Kernel.{Loaded, S, root, setup, size, LeafAt, Rest, Real, no-offer, node, Dozer, at-wait, in-alt}
use Rattle.model.proofs.Invariant.Grounds.{OutsideAt, an-input, an-output, outside-at, small_size, sound-at, chan-in}
use Rattle.model.proofs.Invariant.Running.{Only}
use Rattle.model.proofs.Invariant.Scheduling.{Settles, settle}
use Rattle.model.proofs.Quiet.Marks.{Own}
use Rattle.model.proofs.Steps.Meets.{not_own}
use Rattle.model.proofs.Effects.Timers.{ends}

-- words of the same value, and what is behind them
get_or-same : (n : ℕ) {x : ℕ} (l : List ℕ) (k : ℕ) → k < n → get_or (replicate n x ++ l) k 0 ≡ x
get_or-same zero l k h = absurd (omega arith)
get_or-same (suc n) l zero h = refl
get_or-same (suc n) l (suc k) h = get_or-same n l k (omega arith)

get_d_past : (n x : ℕ) (l : List ℕ) (k : ℕ) → get_or (replicate n x ++ l) (n + k) 0 ≡ get_or l k 0
get_d_past zero x l k = rw (zero-add k)
get_d_past (suc n) x l k = let e : suc n + k ≡ suc (n + k) = omega arith in rw e (get_d_past n x l k)

none-held : (k : ℕ) → get_or (replicate 8 false) k false ≡ false
none-held k = by-held 8 k
  where
    by-held : (n k : ℕ) → get_or (replicate n false) k false ≡ false
    by-held zero k = refl
    by-held (suc n) zero = refl
    by-held (suc n) (suc k) = by-held n k

module _ (L : Loaded) (memory : List ℕ) (room : size L ≤ length memory) where
  -- the machine after its start
  abbrev pub first : World
  first = world_of (fresh (setup L)) (cleared (setup L) memory)

  abbrev pub begun : State
  begun = record { process = begin L.prog.body []; store = λ x. 0; offers = λ k. none; clock = none }

  -- the outside channels have words of their own
  scoped : Scoped (S L) (base L.prog) [] (outside_names L.prog)
  scoped =
      record {
        vars-above = λ x m. absurd (Memᴰ.not-nil m);
        chans-above = λ x m. elim (outside-at L x m) [ an-input k h e w ↦ omega (arith, w) | an-output k h e w ↦ omega (arith, w) ];
        vars-distinct = λ x y m. absurd (Memᴰ.not-nil m);
        chans-distinct = λ x y m n e. differ (outside-at L x m) (outside-at L y n) e;
        apart = λ x y m. absurd (Memᴰ.not-nil m);
      }
    where
      differ : {x y : Site} → OutsideAt L x → OutsideAt L y → (S L).word x ≡ (S L).word y → x ≡ y
      differ (an-input k h e w) (an-input l i f v) same = let z : k ≡ l = omega (arith, w, v, same) in e ∙ ap input_of z ∙ sym f
      differ (an-input k h e w) (an-output l i f v) same = absurd (omega (arith, w, v, same))
      differ (an-output k h e w) (an-input l i f v) same = absurd (omega (arith, w, v, same))
      differ (an-output k h e w) (an-output l i f v) same = let z : k ≡ l = omega (arith, w, v, same) in e ∙ ap output_of z ∙ sym f

  abbrev info : Info
  info = record { vars = []; chans = outside_names L.prog; w = base L.prog; left = whole (S L) }

  -- the code's end
  last : Cont (S L) (root L) (whole (S L)) [] (outside_names L.prog) [] (length (S L).xs) (base L.prog)
  last = c-end refl (omega (arith, need-two L.prog.body)) scoped

  sits : Sits (S L) (root L) info
  sits =
      record {
        placed = cont-placed (S L) (root L) last;
        few = omega arith;
      }

  pub tree : Tree (S L) (root L) (begin L.prog.body [])
  tree = t-leaf (leaf-begin L.prog.body []) info sits

  leaf : LeafAt L begun tree [] (begin L.prog.body []) (root L) info
  unfolding label_at tree
  leaf = record { found = look-nil (begin L.prog.body []); leaf = leaf-begin L.prog.body []; label = refl }

  -- the words: outside channels hold NotProcess, the others 0
  abbrev words : Mem
  words a = get_or (cleared (setup L) memory) a 0

  -- nobody is in the timer queue
  abbrev μ : Mem
  μ = upd words front_word not_process

  inside-words : (v : ℕ) → v < size L → μ v ≡ words v
  inside-words v h = upd_other words front_word not_process v (λ e. absurd (omega (arith, small_size L)))

  words-empty : (c : Site) → Memᴰ c (outside_names L.prog) → words ((S L).word c) ≡ not_process
  unfolding cleared
  words-empty c m = elim (outside-at L c m) [
    | an-input k h e w ↦ in_row k (omega arith) w
    | an-output k h e w ↦ in_row (L.prog.inputs + k) (omega arith) (w ∙ omega arith)
  ]
    where
      in_row : (k : ℕ) → k < L.prog.inputs + L.prog.outputs → (S L).word c ≡ base L.prog + k → words ((S L).word c) ≡ not_process
      in_row k h w =
          let zeros : List ℕ = replicate (base L.prog) 0 in
          let row : List ℕ = replicate (L.prog.inputs + L.prog.outputs) not_process in
          let behind = drop (memory_size (setup L)) memory in
          ap words w ∙ ap (λ l. get_or l (base L.prog + k) 0) (append_assoc zeros row behind)
          ∙ get_d_past (base L.prog) 0 (row ++ behind) k
          ∙ get_or-same (L.prog.inputs + L.prog.outputs) behind k h

  outside-empty : (c : Site) → Memᴰ c (outside_names L.prog) → μ ((S L).word c) ≡ not_process
  outside-empty c m = inside-words ((S L).word c) (chan-in L (node L leaf) c m) ∙ words-empty c m

  real : Real L first begun μ []
  unfolding fresh cleared
  real =
      record {
        setup-kept = refl;
        no-fault = refl;
        room = simp (length-append, length-replicate, length-drop) (omega (arith, room));
        mirror = λ v h. sym (inside-words v h);
        queue = empty refl;
        eight = (refl, refl);
        offers = λ k h. no-offer (none-held k) refl;
        beyond = λ k h. refl;
        timed = record { clock-same = refl; clock-read = refl; clock-word = omega arith };
        front = sym (upd_same words front_word not_process);
      }

  -- at every path but the empty one nothing is
  only-whole : {other : List ℕ} {l : Label} → label_at (S L) tree other ≡ some l → (other ≡ []) × (alone (root L) info ≡ l)
  unfolding label_at tree
  only-whole {other = []} e = (refl, some_same e)
  only-whole {other = i ∷ other} e = never (cc)

  live-first : {other : List ℕ} {q : Process} {b : Part} {i : Info} → LeafAt L begun tree other q b i → (x : Site)
      → Memᴰ x (live_in (frames_of q)) → Memᴰ x []
  live-first h x m =
      let is : begin L.prog.body [] ≡ _ = some_same (sym (look-nil (begin L.prog.body []))
      ∙ ap (λ z. look z (begin L.prog.body [])) (sym (only-whole h.label).0) ∙ h.found) in
      live-begin L.prog.body [] [] (λ x m. m) x (subst (λ z. Memᴰ x (live_in (frames_of z))) (sym is) m)

  no-sleeper : {other : List ℕ} {q : Process} {b : Part} {i : Info} → LeafAt L begun tree other q b i → Dozer L (Only []) other q → ⊥
  no-sleeper h (at-wait n) = n (sym (only-whole h.label).0)
  no-sleeper h (in-alt x) =
      let is = some_same (sym (look-nil (begin L.prog.body []))
      ∙ ap (λ z. look z (begin L.prog.body [])) (sym (only-whole h.label).0) ∙ h.found) in
      never (cc (x, ap is_alt is, off-begin L.prog.body []))

  rest : Rest L begun μ tree (Only []) []
  rest =
      record {
        vars = λ n x m. absurd (Memᴰ.not-nil (subst (λ (l : Label). Memᴰ x (zone_of l).vars) (sym (only-whole n.label).1) m));
        chans = λ n c m. inl (outside-empty c (subst (λ (l : Label). Memᴰ c (zone_of l).chans) (sym (only-whole n.label).1) m));
        live = λ h x m. absurd (Memᴰ.not-nil (live-first h x m));
        leaf = λ h out. absurd (out (sym (only-whole h.label).0));
        par = λ e n. never (alone-parted (sym (only-whole n.label).1));
        sleepers = record {
          asleep = [];
          chain = ends (upd_same words front_word not_process);
          sorted = λ o. tt;
          once = tt;
          each = λ w m. absurd (Memᴰ.not-nil m);
          known = λ w m. absurd (Memᴰ.not-nil m);
          all = λ k a d f. absurd (no-sleeper k d);
        };
      }

  comes-first : Comes (S L) (root L) begun.store [] (outside_names L.prog) (whole (S L)) (begin L.prog.body []) 0 (base L.prog)
  unfolding scheme
  comes-first =
      let v = sound-at L rest leaf in
      let near : whole (S L) ≤ whole (S L) + L.off 0 = omega arith in
      let near-end : whole (S L) ≤ whole (S L) + whole (S L) = omega arith in
      enters (S L) (root L) begun.store L.prog.body (seg-whole (scheme L.prog)) L.fine last near v
      (arrives (S L) (root L) begun.store last near-end v)

  clean : Unmarked (S L) (root L) info begun μ
  clean c m o = not_own (root L) (omega (arith, small_size L)) (subst (Own (root L)) (outside-empty c m) o)

  pub settled : Settles L first begun (bytes_left (S L) tree) (whole (S L)) (whole (S L))
  unfolding fresh
  settled =
      let same : whole (S L) ≤ whole (S L) = omega arith in
      settle L real leaf rest (record { each = λ w m. absurd (Memᴰ.not-nil m); once = apart_none }) (whole (S L))
      (record { run = refl; operand = refl; place = sym L.realises.begins; work = refl; inside = omega arith })
      comes-first clean (omega arith) same
