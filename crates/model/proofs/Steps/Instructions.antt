-- The last byte of an instruction: whichever instruction it is, what it does is a part of a run.
use Prim.Native.Nat.{ℕ, suc, ◌+◌, ◌-◌, ◌≤◌}
use native.Mathlib.Omega.{arith}
use mathlib.Core.Path.{◌≡◌, refl, sym, ◌∙◌, subst}
use mathlib.Core.Logic.{◌≢◌, inl}
use mathlib.Core.Bool.{true}
use mathlib.Core.List.{List, [], ◌∷◌, ◌++◌, Memᴰ}
use lib.ListN.{length}
use Rattle.model.specs.Syntax.{Site, Stmt, no_stmt, stmt, assign}
use Rattle.model.specs.Instruction.{Instruction, plain, distance}
use Rattle.model.specs.Instruction as I
use Rattle.model.specs.Code.{function_in, operand_in}
use Rattle.model.specs.Word.{low, less}
use Rattle.model.specs.Machine.{World, with_cpu, goto}
use Rattle.model.specs.declared.Cpu.{Cpu}
use Rattle.model.specs.Occam.{Process, State, now, eval, begins, stores, go}
use Rattle.model.proofs.Cases.{never}
use Rattle.model.proofs.Quiet.Ways.{Regs, regs_of, load, Mem, Way, arrived, through, quiet, loads, stores, reloads, jumps, falls}
use Rattle.model.proofs.Quiet.Setting.{At}
use Rattle.model.proofs.Quiet.CodeParts.{inside}
use Rattle.model.proofs.Words.Parts.{Part}
use Rattle.model.proofs.Quiet.Marks.{Point, pt-stop, pt-assign, pt-var, pt-chan, pt-taken, pt-none, pt-while, pt-in, pt-out}
use Rattle.model.proofs.Quiet.Marks.{pt-par-place, pt-par-count, pt-end, pt-alt, Spare, Settled, pt-read, pt-store, pt-wait-for}
use Rattle.model.proofs.Quiet.Arrivals.{Goes, Comes}
use Rattle.model.proofs.Quiet.Onwards.{AltGoes, alt-goes, Starts, Tied}
use Rattle.model.proofs.Invariant.Trees.{some_same, Info, Tree, bytes_left}
use Rattle.model.proofs.Invariant.Leaves.{Unmarked}
use Rattle.model.proofs.Effects.OneWord.{cpu_of, exec-cj-jumps}
use Rattle.model.proofs.Invariant.Kernel.{Loaded, S, root, LeafAt, Rest, Lined, Real, sits-at}
use Rattle.model.proofs.Invariant.Traces.{t-none}
use Rattle.model.proofs.Invariant.Running.{Only, StartsLeft, Later, Starting, Here, fresh, off_small, ToStart, starts, Did, came}
use Rattle.model.proofs.Invariant.Running.{Executes, executes, Acting}
use Rattle.model.proofs.Invariant.Moving.{relabelled, relabel}
use Rattle.model.proofs.Invariant.Reals.{real-cpu}
use Rattle.model.proofs.Quiet.PathEnds.{way-bound, start-in}
use Rattle.model.proofs.Invariant.Finish.{silent}
use Rattle.model.proofs.Steps.Quiets.{reached, Carries, carries-goes, carries-alt, pass-quiet, pass-loads, pass-stores, pass-reloads}
use Rattle.model.proofs.Steps.Quiets.{pass-falls, pass-jumps, calm-settled, calm-alt}
use Rattle.model.proofs.Steps.Basics.{before-silent, did-store, did-taken, did_none, did-while, did-stop}
use Rattle.model.proofs.Steps.Times.{did_read}
use Rattle.model.proofs.Steps.Tin.{did-tin}
use Rattle.model.proofs.Steps.In.{did-in}
use Rattle.model.proofs.Steps.Outword.{did-out}
use Rattle.model.proofs.Steps.Initialise.{did-var-store, did-chan-store}
use Rattle.model.proofs.Steps.AltPoints.{Told, same-does, alt-begins-at, alt-point}
use Rattle.model.proofs.Steps.ParStarts.{did-place, count-one, count-more}
use Rattle.model.proofs.Steps.Startp.{branch_differ, did-start}
use Rattle.model.proofs.Steps.Endp.{did-end}
use Rattle.model.proofs.Invariant.Writes.{Calm}

module _ (L : Loaded) {s : World} {st : State} {μ : Mem} {t : Tree (S L) (root L) st.process} {path : List ℕ} {b : Part} {i : Info}
    {ws : List ℕ} {x : Instruction} where
  -- a significant instruction
  point-acts : {at hi : ℕ} {q : Process} → At (S L) at x → Acting L s st μ t path q b i (Only path) ws at hi → Told L x s
      → Unmarked (S L) b i st μ
      → Point (S L) b st.store i.vars i.chans q hi μ at (regs_of (cpu_of s)) → Did L (Executes L x s) s st (bytes_left (S L) t)
  unfolding go
  point-acts here A told clean (pt-stop a c) = same-does L _ here a (did-stop L A clean c)
  point-acts here A told clean (pt-assign {x = y} {e} {k} {o} a w f v small c n) =
      same-does L _ here a
      (did-store L y (eval st.store e) k A o w f.0 v small c n clean (before-silent (assign y e) k) refl (A.rest.live A.leaf)
      (begins path A.leaf.found))
  point-acts here A told clean (pt-read a y w f c l n) = same-does L _ here a (did_read L A y w f c l n clean)
  point-acts here A told clean (pt-store {x = y} {v} {k} {o} a w f e small c n) =
      same-does L _ here a
      (did-store L y v k A o w f e small c n clean (λ d z f g. never (cc)) refl (A.rest.live A.leaf) (stores path A.leaf.found))
  point-acts here A told clean (pt-var {j = m'} op f l j e z m) =
      same-does L _ here (subst (λ n. At (S L) n (plain I.stl m')) (sym e) (op.inits _ j).1) (did-var-store L A clean op f l j e z m)
  point-acts here A told clean (pt-chan {j = m'} op f l j e z m) =
      same-does L _ here (subst (λ n. At (S L) n (plain I.stl m')) (sym e) (op.inits _ j).1) (did-chan-store L A clean op f l j e z m)
  point-acts here A told clean (pt-taken d a v fa e g f c n) = same-does L _ here a (did-taken L d A clean v e g f c n)
  point-acts here A told clean (pt-none a c fa e) = same-does L _ here a (did_none L A clean c e)
  point-acts here A told clean (pt-while a l fe v g f c n d m) = same-does L _ here a (did-while L A clean l v g f c n d m)
  point-acts here A told clean (pt-in a v c y f k n) = same-does L _ here a (did-in L A v c y f k n clean)
  point-acts here A told clean (pt-out a v small c f y k n) = same-does L _ here a (did-out L A v small c f y k n clean)
  point-acts here A told clean (pt-par-place a y z c v l) = same-does L _ here a (did-place L A clean y z c v l)
  point-acts here A told clean (pt-par-count {ss = no_stmt} a v c m) = same-does L _ here a (count-one L A clean c v m)
  point-acts here A told clean (pt-par-count {ss = stmt r rs} a v c m) = same-does L _ here a (count-more L A clean c v m)
  point-acts here A told clean (pt-end e a v w) = same-does L _ here a (did-end L A clean e v)
  point-acts here A told clean (pt-wait-for {e} a v small f c n) =
      same-does L _ here a
      (did-tin L A v small f c n clean
      (λ ahead.
      let k : s.machine.timer.clock ≡ now st = A.real.timed.clock-read in
      let known = told.waits (some_same (sym here ∙ a)) (rw (k, v) ahead) in
      subst (λ y. L.sleeps (cpu_of s).workspace y (now st)) v (subst (λ y. L.sleeps (cpu_of s).workspace (cpu_of s).a y) k known)))
  point-acts here A told clean (pt-alt c l) = alt-begins-at L A c here l clean

  -- on a path of some kind, where it is known what its significant instructions and its jumps do
  module _ {at hi : ℕ} {q : Process} (here : At (S L) at x) (A : Acting L s st μ t path q b i (Only path) ws at hi)
      {P : ℕ → Mem → ℕ → Regs → Type 0} {E : Type 0} {R : Site → Type 0} {Free C : ℕ → Type 0}
      (carry : Carries L A (Way (S L).xs (S L).off (S L).word P E st.store R Free C))
      (mine : (y : Site) → R y → Memᴰ y i.vars) (own : (v : ℕ) → Free v → Spare (S L) b i.vars i.chans v)
      (calm : (v : ℕ) → Free v → Calm L q i v)
      (point : P hi μ at (regs_of (cpu_of s)) → Did L (Executes L x s) s st (bytes_left (S L) t))
      (jump : (k hi' : ℕ) → At (S L) at (distance I.j k at) → k ≤ length (S L).xs → C (cpu_of s).workspace
      → hi' + L.off (suc at) ≤ hi + L.off k
      → ((ν : Mem) (r : Regs) → r.w ≡ (cpu_of s).workspace → Way (S L).xs (S L).off (S L).word P E st.store R Free C hi' ν k r)
      → Did L (Executes L x s) s st (bytes_left (S L) t)) where
    abbrev Path : ℕ → Mem → ℕ → Regs → Type 0
    Path = Way (S L).xs (S L).off (S L).word P E st.store R Free C

    acts : Path hi μ at (regs_of (cpu_of s)) → Did L (Executes L x s) s st (bytes_left (S L) t)
    acts (arrived p h) = point p
    acts (through e h f) = absurd (omega (arith, inside (S L) here))
    acts (quiet g a c v) = same-does L _ here a (pass-quiet L A Path carry g c v)
    acts (loads {o} y a e l v) = same-does L _ here a (pass-loads L A Path carry o y e (mine y l) v)
    acts (stores {o} v a e m w) = same-does L _ here a (pass-stores L A Path carry o v e (own v m) (calm v m) w)
    acts (reloads {o} v a e m w) = same-does L _ here a (pass-reloads L A Path carry o v e (own v m) w)
    acts (jumps a k c reach v) = jump _ _ a k c reach v
    acts (falls a k z f v) = same-does L _ here a (pass-falls L A Path carry k z f v)

  -- on the way to a significant instruction
  pub way-acts : {at hi : ℕ} {q : Process} → At (S L) at x → Acting L s st μ t path q b i (Only path) ws at hi → Told L x s → Settled q
      → Unmarked (S L) b i st μ
      → Goes (S L) b st.store i.vars i.chans q hi μ at (regs_of (cpu_of s)) → Did L (Executes L x s) s st (bytes_left (S L) t)
  way-acts here A told settled clean way =
      acts here A (carries-goes L A settled clean) (λ y l. l.0) (λ v m. m) (λ v m. calm-settled L A settled v)
      (point-acts here A told clean)
      (λ k hi a h c reach v. same-does L _ here a (pass-jumps L A h c reach v settled clean)) way

  -- in an ALT
  pub alt-acts : {at hi : ℕ} {q : Process} → At (S L) at x → Acting L s st μ t path q b i (Only path) ws at hi → Told L x s
      → AltGoes (S L) b L.times st i.vars i.chans q i.w hi μ at (regs_of (cpu_of s)) → Did L (Executes L x s) s st
      (bytes_left (S L) t)
  alt-acts {q = q} here A told (alt-goes w tied way) =
      acts here A (carries-alt L A w tied) (λ y l. l.0) (λ v m. m.0) (λ v m. calm-alt L A tied m)
      (λ p. alt-point L L.one_way A here told (subst (λ z. Tied q z i.w) (sym p.1) tied) p.0)
      (λ k hi a h c reach v. absurd c) way

-- the first branch of a PAR, on its way to start the next one
module _ (L : Loaded) {s : World} {st : State} {μ : Mem} {t : Tree (S L) (root L) st.process} {path : List ℕ}
    {q : Process} {b : Part} {i : Info}
    {ws : List ℕ} {hi : ℕ} (B : StartsLeft) (first-branch : path ≡ B.par ++ 0 ∷ []) (next_one : 1 ≤ B.next) (same_w : i.w ≡ B.w)
    (all-to-start : (k : ℕ) (r : Stmt) (d f : ℕ) → Later (stmt B.s B.ss) B.d B.b k r d f → ToStart L st μ t B k r d f)
    (own : Comes (S L) b st.store i.vars i.chans hi q B.first B.w) (inner : B.first ≤ length (S L).xs)
    (near : L.off B.first ≤ hi) (clean : Unmarked (S L) b i st μ) where
  -- with other registers, and one byte less left
  pub starts-on : {did : World → Type 0} (r : Cpu) (k : ℕ) → Real L s st μ ws → LeafAt L st t path q b i
      → Rest L st μ t (Starting path B) ws
      → Lined L st t (Starting path B) ws → did (with_cpu r s) → r.front ≡ (cpu_of s).front → r.back ≡ (cpu_of s).back
      → r.queued ≡ (cpu_of s).queued → r.running ≡ true → Here L k r.place r.operand → suc hi ≤ i.left + r.place → 1 ≤ i.left
      → Starts (S L) st.store B.s B.ss B.d B.b B.first B.w hi μ k (regs_of r) → Did L did s st (bytes_left (S L) t)
  starts-on r k real leaf₀ rest₀ lines₀ ran e₁ e₂ e₃ run here soon some_left way =
      let n = i.left - 1 in
      elim (relabel L leaf₀ (inl refl) i.w n (λ e. refl) (sits-at L leaf₀).placed (omega (arith, (sits-at L leaf₀).few)) rest₀ lines₀) [
        | relabelled u leaf rest lines e others ↦
            came (with_cpu r s) [] ran t-none (silent L s (with_cpu r s) refl)
            (starts B (real-cpu L r e₁ e₂ e₃ real) run leaf rest lines
            (record {
              hi = hi;
              at = k;
              first-branch = first-branch;
              next_one = next_one;
              same_w = same_w;
              here = here;
              way = way;
              all-to-start = λ m x d f h. carried others (all-to-start m x d f h);
              own = own;
              inner = inner;
              near = near;
              unmarked = clean;
              soon = omega (arith, soon, some_left);
            })) (inl (omega (arith, e, some_left)))
      ]
    where
      carried : {u : Tree (S L) (root L) st.process} {m d f : ℕ} {r : Stmt}
          → ((other : List ℕ) (r : Process) (c : Part) (j : Info) → path ≢ other → LeafAt L st t other r c j → LeafAt L st u other r c j)
          → ToStart L st μ t B m r d f → ToStart L st μ u B m r d f
      carried others y =
          record {
            leaf = others _ _ _ _ (λ z. branch_differ B.par (λ m. absurd (omega (arith, next_one, m))) (sym first-branch ∙ z)) y.leaf;
            comes = y.comes;
            inner = y.inner;
            room = y.room;
            unmarked = y.unmarked;
          }

  module _ {at : ℕ} (A : Acting L s st μ t path q b i (Starting path B) ws at hi) where
    starts-at : {x : Instruction} (r : Cpu) (k : ℕ) → Executes L x s (with_cpu r s) → r.front ≡ (cpu_of s).front → r.back ≡ (cpu_of s).back
        → r.queued ≡ (cpu_of s).queued → r.running ≡ true → r.operand ≡ 0 → r.place ≡ L.off k → k ≤ length (S L).xs
        → L.off (suc at) ≤ L.off k
        → Starts (S L) st.store B.s B.ss B.d B.b B.first B.w hi μ k (regs_of r)
        → Did L (Executes L x s) s st (bytes_left (S L) t)
    starts-at r k ran e₁ e₂ e₃ run operand place inside-k ahead way =
        let bound = way-bound (S L) (start-in (S L)) way in
        starts-on r k A.real A.leaf A.rest A.lined ran e₁ e₂ e₃ run (fresh L k r.place r.operand inside-k place operand)
        (omega (arith, A.left, place)) (omega (arith, A.left)) way

    pub starts-acts : {x : Instruction} → At (S L) at x
        → Starts (S L) st.store B.s B.ss B.d B.b B.first B.w hi μ at (regs_of (cpu_of s))
        → Did L (Executes L x s) s st (bytes_left (S L) t)
    unfolding function_in operand_in
    starts-acts here (arrived p h) =
        same-does L at here p.starts (did-start L B A p first-branch next_one same_w all-to-start own inner near clean)
    starts-acts here (through e h f) = absurd f
    starts-acts here (quiet g a q v) =
        let r = load (g (regs_of (cpu_of s))) (cpu_of s) in
        same-does L at here a
        (starts-at r (suc at) (executes (q s A.placed)) refl refl refl A.run A.operand A.placed A.inside (omega arith) v)
    starts-acts here (loads y a w l v) = absurd l
    starts-acts here (stores v a e m w) = absurd m
    starts-acts here (reloads v a e m w) = absurd m
    starts-acts here (jumps a t c reach v) = absurd c
    starts-acts here (falls {t = k} a h z f v) =
        let r = goto (low ((cpu_of s).place + less (L.off k) (L.off (suc at)))) (cpu_of s) in
        same-does L at here a
        (starts-at r k (executes (exec-cj-jumps _ s z)) refl refl refl A.run A.operand
        (rw A.placed
        (reached (L.off (suc at)) (L.off k) (omega (arith, off_small L (suc at) A.inside, L.code-small))
        (omega (arith, off_small L k h, L.code-small)))) h f v)
