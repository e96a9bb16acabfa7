-- What the invariant says at a moment: what is found in the machine is what the run leaves.
use Prim.Native.Nat.{ℕ, zero, suc, ◌<◌, ◌+◌, ◌^◌, ◌≤◌}
use native.Mathlib.Omega.{arith}
use mathlib.Core.Path.{◌≡◌, refl, sym, ap, ◌∙◌, subst}
use mathlib.Core.Bool.{true, false}
use mathlib.Core.List.{List, [], ◌∷◌, ◌++◌, append-nil, Memᴰ}
use mathlib.Core.Option.{some}
use lib.ListN.{length, get_or, get_or-append}
use borrow.Author.Tests.{eqb-true}
use Rattle.model.specs.Syntax.{Site, Stmt, Stmts, Guards, no_guard}
use Rattle.model.specs.Layout.{word_of}
use Rattle.model.specs.Machine.{World, time_word}
use Rattle.model.specs.Run.{ended, waits}
use Rattle.model.specs.Occam.{Frame, Process, before, at_input, at_alt, in_par, finished, Branches, frames_of, look, State, Communication}
use Rattle.model.specs.Occam.{Sender, process, outside, Step, begins, ends, chooses, communicates, receives, Stuck, to_read, has_read}
use Rattle.model.specs.Occam.{reading, stores, goes_on, at_wait, now}
use Rattle.model.specs.Word.{after}
use Rattle.model.specs.Demand.{live_in, Live, Agrees}
use Rattle.model.specs.History.{Moment}
use Rattle.model.specs.declared.Setup.{Setup}
use Rattle.std.specs.Prelude.{None}
use Rattle.model.proofs.Cases.{never, and_left, and_right}
use Rattle.model.proofs.Quiet.Ways.{Mem}
use Rattle.model.proofs.Quiet.Setting.{Setting}
use Rattle.model.proofs.Quiet.CodeParts.{inside}
use Rattle.model.proofs.Occam.Paths.{Leaf, l-before, l-input, l-alt, l-finished, leaf-par, Form, leaf, par, form, look_in, look-nil}
use Rattle.model.proofs.Occam.Paths.{look-append, l-to-read, l-has-read, l-wait, is_alt}
use Rattle.model.proofs.Words.Parts.{Part, the_end, joins}
use Rattle.model.proofs.Quiet.Marks.{AnyReady}
use Rattle.model.proofs.Quiet.Arrivals.{cont-live}
use Rattle.model.proofs.Invariant.Trees.{some_same, Label, alone, alone-part, alone-parted, Info, Tree, t-leaf, t-par, Forest}
use Rattle.model.proofs.Invariant.Trees.{f-none, f-live, f-over, label_at, label_in, label-alone, labelled, owner_of, owner}
use Rattle.model.proofs.Invariant.Zones.{zone_of}
use Rattle.model.proofs.Invariant.Leaves.{member, Held, h-input, h-wait, h-asleep}
use Rattle.model.proofs.Effects.OneWord.{cpu_of}
use Rattle.model.proofs.Invariant.Kernel.{Loaded, S, root, size, LeafAt, NodeAt, Rest, Real, node, Dozer, at-wait, in-alt}
use Rattle.model.proofs.Invariant.Grounds.{var-in}
use Rattle.model.proofs.Invariant.Running.{Nobody, Here, within, at-end, off_small, Now, now-goes, now-alt, Inv, runs, starts, idle}
use Rattle.model.proofs.Quiet.PathEnds.{way_end, point-in, alt-end, start-in}
use Rattle.model.proofs.Steps.Forks.{look_self}
use Rattle.model.proofs.Demand.Stuckness.{Active, stuck-unable, active-able, choice-ready, settled-active, comes-active}
use Rattle.model.proofs.Demand.Stuckness.{alt-goes-active, timely-timed}
use Rattle.model.proofs.Quiet.Timing.{Timely, Dozing, no-time, until, Guarding, Linked, each_all}
use Rattle.model.proofs.Quiet.Onwards.{ready-so, timed-fine}
use Rattle.model.proofs.Words.Times.{least-ahead}
use mathlib.Core.Logic.{⊎_elim}

-- a part that ends as a branch
data Joined (b : Part) : Type 0 where
  joined : (d : ℕ) → b.ending ≡ joins d → Joined b

module _ (S : Setting) where
  -- all parts in a branch end as branches
  mutual
    unfolding label_at label_in

    tree-joins : {a : Part} {p : Process} → Joined a → (t : Tree S a p) (path : List ℕ) {b : Part} {i : Info}
        → label_at S t path ≡ some (alone b i) → Joined b
    tree-joins h (t-leaf l j m) [] e = subst Joined (alone-part (some_same e)) h
    tree-joins h (t-leaf l j m) (n ∷ path) e = never (cc)
    tree-joins h (t-par c f) [] e = never (alone-parted (some_same e))
    tree-joins h (t-par c f) (n ∷ path) e = forest-joins f n path e

    forest-joins : {vars chans : List Site} {w d : ℕ} {ss : Stmts} {bs : Branches} (f : Forest S vars chans w d ss bs) (n : ℕ)
        (path : List ℕ) {b : Part} {i : Info} → label_in S f n path ≡ some (alone b i) → Joined b
    forest-joins f-none n path e = never (cc)
    forest-joins {d = d} (f-live t f) zero path e = tree-joins (joined d refl) t path e
    forest-joins (f-live t f) (suc n) path e = forest-joins f n path e
    forest-joins (f-over f) zero path e = never (cc)
    forest-joins (f-over f) (suc n) path e = forest-joins f n path e

  -- so a part that ends with the program runs as a whole
  end_whole : {a : Part} {p : Process} (t : Tree S a p) (path : List ℕ) {b : Part} {i : Info} → label_at S t path ≡ some (alone b i)
      → b.ending ≡ the_end → path ≡ []
  unfolding label_at
  end_whole t [] e z = refl
  end_whole (t-leaf l j m) (n ∷ path) e z = never (cc)
  end_whole (t-par c f) (n ∷ path) e z = elim (forest-joins f n path e) [ joined d y ↦ never (cc (z, y)) ]

module _ (L : Loaded) where
  -- live variables are in scope
  data Scoped (st : State) (t : Tree (S L) (root L) st.process) (x : Site) : Type 0 where
    scoped : {path : List ℕ} {l : Label} → NodeAt L st t path l → Memᴰ x (zone_of l).vars → Scoped st t x

  par-scoped : {st : State} (t : Tree (S L) (root L) st.process) (path : List ℕ) {bs : Branches} {k : List Frame} {a : Part} (x : Site)
      → Memᴰ x (live_in k) → (u : Tree (S L) a (in_par bs k)) → ((rest : List ℕ) → label_at (S L) t (path ++ rest) ≡ label_at (S L) u rest)
      → Scoped st t x
  unfolding label_at
  par-scoped t path x m (t-leaf l i h) e = absurd (leaf-par l refl)
  par-scoped t path {a = a} x m (t-par c f) e =
      scoped (record { label = ap (label_at (S L) t) (sym (append-nil path)) ∙ e [] }) (cont-live (S L) a c.after x m)

  live-scoped : {st : State} {μ : Mem} {t : Tree (S L) (root L) st.process} {Out : List ℕ → Type 0} {ws : List ℕ} → Rest L st μ t Out ws
      → (x : Site) → Live st.process x → Scoped st t x
  live-scoped {st} {t = t} rest x (path, q, e, m) = by (form q)
    where
      by : Form q → Scoped st t x
      by (leaf l) = elim (label-alone (S L) t path e l) [
        | labelled b i z ↦
            let at : LeafAt L st t path q b i = record { found = e; leaf = l; label = z } in scoped (node L at) (rest.live at x m)
      ]
      by (par bs k z) = elim (owner_of (S L) t path (e ∙ ap some z)) [
        | owner a u inner part labels ↦ par-scoped t path x (subst (λ y. Memᴰ x (live_in (frames_of y))) z m) u labels
      ]

  -- a live variable is found in its word
  found_word : {s : World} {st : State} {μ : Mem} {t : Tree (S L) (root L) st.process} {Out : List ℕ → Type 0} {ws vs : List ℕ}
      → Real L s st μ vs → Rest L st μ t Out ws → (more : List ℕ) (x : Site) → Live st.process x
      → st.store x ≡ get_or (s.memory ++ more) (word_of L.prog x) 0
  found_word {s} real rest more x l = elim (live-scoped rest x l) [
    | scoped n m ↦
        let small : (S L).word x < size L = omega (arith, var-in L n x m) in
        (rest.vars n x m).0 ∙ sym (real.mirror ((S L).word x) small)
        ∙ sym (get_or-append s.memory more 0 ((S L).word x) (omega (arith, small, real.room)))
  ]

  pub inv-variables : {s : World} {st : State} {n : ℕ} → Inv L s st n → (more : List ℕ) (x : Site) → Live st.process x
      → st.store x ≡ get_or (s.memory ++ more) (word_of L.prog x) 0
  inv-variables (runs real run at rest lined now) = found_word real rest
  inv-variables (starts B real run at rest lined now) = found_word real rest
  inv-variables (idle real run operand rest) = found_word real rest

  pub inv-no-fault : {s : World} {st : State} {n : ℕ} → Inv L s st n → s.machine.fault ≡ None
  inv-no-fault (runs real run at rest lined now) = real.no-fault
  inv-no-fault (starts B real run at rest lined now) = real.no-fault
  inv-no-fault (idle real run operand rest) = real.no-fault

  -- a machine that has ended stands at a process that has finished, and that is all
  module _ {s : World} {st : State} {μ : Mem} {ws : List ℕ} (real : Real L s st μ ws) (over : ended s.machine ≡ true) where
    code-place : (cpu_of s).place ≡ length L.code
    code-place = eqb-true _ _ (and_right (cpu_of s).running _ over) ∙ ap (λ (u : Setup). u.code) real.setup-kept

    here_end : {at operand : ℕ} → Here L at (cpu_of s).place operand → at ≡ length (S L).xs
    here_end {at} (within e h) = absurd (omega (arith, h.upto, code-place, off_small L (suc at) (inside (S L) e)))
    here_end (at-end e p) = e

    now-ended : {t : Tree (S L) (root L) st.process} {path : List ℕ} {q : Process} {b : Part} {i : Info} → LeafAt L st t path q b i
        → Now L s st μ b i q → st.process ≡ finished
    now-ended {t} {path} {b = b} at (now-goes h way settled clean soon) =
        let (z, e) = way_end (S L) (point-in (S L) b) (here_end h) way in
        let top : path ≡ [] = end_whole (S L) t path at.label e in
        look_self (ap (λ y. look y st.process) (sym top) ∙ at.found) ∙ z
    now-ended {b = b} at (now-alt h way soon) = absurd (alt-end (S L) b (here_end h) way)

  pub inv-ended : {s : World} {st : State} {n : ℕ} → Inv L s st n → ended s.machine ≡ true → st.process ≡ finished
  inv-ended (runs real run at rest lined now) e = now-ended real e at now
  inv-ended (starts B real run at rest lined now) e = absurd (way_end (S L) (start-in (S L)) (here_end real e now.here) now.way)
  inv-ended {s} (idle real run operand rest) e = never (cc (run, and_left (cpu_of s).running _ e))

  -- where no process has the processor and none is queued, none can go on
  module _ (ahead : (w t c : ℕ) → L.sleeps w t c → after c t ≡ false) (sure : L.times.sure) {st : State} {μ : Mem}
      {t : Tree (S L) (root L) st.process} (clock-word : now st < 2 ^ 32) (rest : Rest L st μ t Nobody []) where
    -- a process that waits
    data Waiting : Process → Type 0 where
      waiting : {path : List ℕ} {q : Process} {b : Part} {i : Info} → LeafAt L st t path q b i → Held (S L) L.times b i st μ false q
          → Waiting q

    all-wait : (path : List ℕ) {q : Process} → look path st.process ≡ some q → Leaf q → Waiting q
    unfolding member
    all-wait path e l = elim (label-alone (S L) t path e l) [
      | labelled b i z ↦
          let at : LeafAt L st t path _ b i = record { found = e; leaf = l; label = z } in waiting at (rest.leaf at (λ h. h))
    ]

    not-before : {p : Stmt} {k : List Frame} → Waiting (before p k) → ⊥
    not-before (waiting l h) = elim h [ ]

    not-finished : Waiting finished → ⊥
    not-finished (waiting l h) = elim h [ ]

    not-at-time : {x : Site} {k : List Frame} → Waiting (to_read x k) → ⊥
    not-at-time (waiting l h) = elim h [ ]

    not-stored : {x : Site} {v : ℕ} {k : List Frame} → Waiting (has_read x v k) → ⊥
    not-stored (waiting l h) = elim h [ ]

    -- the time of one in the timer queue is still to come
    not_yet : {path : List ℕ} {q : Process} {b : Part} {i : Info} → LeafAt L st t path q b i → b.bottom + 5 ≤ i.w → Dozer L Nobody path q
        → (is_alt q ≡ true → Linked μ i.w) → after (now st) (μ (time_word i.w)) ≡ false
    not_yet {i = i} l room d linked =
        ahead i.w (μ (time_word i.w)) (now st) (rest.sleepers.known i.w (rest.sleepers.all l room d linked)).1

    -- an ALT that waits has no guard whose time is past
    untimed : {path : List ℕ} {gs : Guards} {k : List Frame} {b : Part} {i : Info} → LeafAt L st t path (at_alt gs k) b i
        → b.bottom + 5 ≤ i.w → Guarding L.times st gs no_guard i.w → (u : ℕ) → Timely st.store u gs
        → Dozing L.times st gs μ i.w → after (now st) u ≡ true → ⊥
    untimed l room known u m (no-time z each) past = each_all st.store each u m
    untimed {i = i} l room known u m (until linked least) past =
        let (small, knows) = each_all st.store known u m in
        never (cc (
          past,
          least-ahead clock-word least.small small (L.guarded-near sure i.w least.tm (now st) least.knows)
              (L.guarded-near sure i.w u (now st) knows) (each_all st.store least.least u m sure)
              (ap (after (now st)) (sym least.is) ∙ not_yet l room (in-alt (timely-timed m)) (λ e. linked)),
        ))

    unready : {gs : Guards} {k : List Frame} → Waiting (at_alt gs k) → AnyReady st gs → ⊥
    unready {gs} (waiting {b = b} {i} l (h-wait c r e n m absent marks dozes known)) h =
        ⊎_elim absent
        (λ (u, m, past).
        let has-time = timely-timed m in
        let room = timed-fine (S L).word b i.vars i.chans (i.w + 1) gs c.fine.1 has-time in
        untimed l (omega (arith, room)) known u m (dozes has-time) past) (ready-so h)

    unsent : {c x : Site} {k : List Frame} → Waiting (at_input c x k) → Sender st c → ⊥
    unsent (waiting l (h-input w y m nobody)) = nobody

    unpast : {tm : ℕ} {k : List Frame} → Waiting (at_wait tm k) → after (now st) tm ≡ true → ⊥
    unpast (waiting l (h-asleep a)) past =
        never (cc (past, ap (after (now st)) (sym a.time-is) ∙ not_yet l a.space (at-wait (λ o. o)) (λ e. never (cc))))

    no_step : (cs : List Communication) (st' : State) → Step st cs st' → ⊥
    no_step cs st' (begins path e) = not-before (all-wait path e l-before)
    no_step cs st' (ends path n {bs} {k} e f) =
        let found = look-append path (n ∷ []) st.process e ∙ look_in n [] (in_par bs k) f ∙ look-nil finished in
        not-finished (all-wait (path ++ n ∷ []) found l-finished)
    no_step cs st' (chooses path e c) = unready (all-wait path e l-alt) (choice-ready c)
    no_step cs st' (goes_on path e past) = unpast (all-wait path e l-wait) past
    no_step cs st' (reading path e) = not-at-time (all-wait path e l-to-read)
    no_step cs st' (stores path e) = not-stored (all-wait path e l-has-read)
    no_step cs st' (communicates sender receiver e f) = unsent (all-wait receiver f l-input) (process sender e)
    no_step cs st' (receives path e o) = unsent (all-wait path e l-input) (outside o)

    idle-stuck : Stuck st
    idle-stuck =
        record { still = no_step; unfinished = λ e. not-finished (all-wait [] (look-nil st.process ∙ ap some e) l-finished) }

  -- the machine waits exactly where Occam cannot go on and has not ended
  pub inv-waits : {s : World} {st : State} {n : ℕ} → ((w t c : ℕ) → L.sleeps w t c → after c t ≡ false) → L.times.sure → Inv L s st n
      → waits s.machine ≡ true → Stuck st
  inv-waits ahead sure (runs real run at rest lined now) z = never (cc (run, z))
  inv-waits ahead sure (starts B real run at rest lined now) z = never (cc (run, z))
  inv-waits ahead sure (idle real run operand rest) z =
      idle-stuck ahead sure (omega (arith, real.timed.clock-read, real.timed.clock-word)) rest

  now-active : {s : World} {st : State} {μ : Mem} {b : Part} {i : Info} {q : Process} → L.times.sure → Now L s st μ b i q → Active st q
  now-active {q = q} sure (now-goes h way settled clean soon) = settled-active q settled
  now-active {b = b} sure (now-alt h way soon) = alt-goes-active (S L) b sure way

  pub inv-stuck : {s : World} {st : State} {n : ℕ} → L.times.sure → Inv L s st n → Stuck st → waits s.machine ≡ true
  inv-stuck sure (runs {path} real run at rest lined now) h =
      absurd (stuck-unable h (active-able path at.found (now-active sure now)))
  inv-stuck sure (starts {path} {b} B real run at rest lined now) h =
      absurd (stuck-unable h (active-able path at.found (comes-active (S L) b now.own)))
  inv-stuck sure (idle real run operand rest) h = rw run

  -- what is found in the machine is what the run leaves
  pub inv-agrees : {s : World} {st : State} {n : ℕ} (rest : List ℕ) (now : Moment) → now.machine ≡ s.machine
      → now.memory ≡ s.memory ++ rest → ((w t c : ℕ) → L.sleeps w t c → after c t ≡ false) → L.times.sure → Inv L s st n
      → Agrees L.prog now st
  inv-agrees rest now em er ahead sure inv =
      record {
        variables = λ x l. inv-variables inv rest x l ∙ ap (λ m. get_or m (word_of L.prog x) 0) (sym er);
        no-fault = rw em (inv-no-fault inv);
        ends = λ z. inv-ended inv (rw em at z);
        waits-stuck = λ z. inv-waits ahead sure inv (rw em at z);
        stuck-waits = λ z. rw em (inv-stuck sure inv z);
      }
