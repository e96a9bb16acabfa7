-- Instructions that bring no step: loads and arithmetic, storing a value and loading it again, jumps, and J at the end of a slice.
use Prim.Native.Nat.{ℕ, suc, ◌+◌, ◌-◌, ◌≤◌, ◌<◌}
use native.Mathlib.Omega.{arith}
use native.Mathlib.Decide.{dec_lt}
use mathlib.Core.Path.{◌≡◌, refl, sym, ◌∙◌, subst}
use mathlib.Core.Logic.{inl}
use mathlib.Core.Bool.{true}
use mathlib.Core.List.{List, Memᴰ}
use lib.ListN.{length}
use Rattle.model.specs.Word.{low, less}
use Rattle.model.specs.Limits.{code_limit}
use Rattle.model.specs.Syntax.{Site}
use Rattle.model.specs.Instruction.{Instruction, plain, distance}
use Rattle.model.specs.Instruction as I
use Rattle.model.specs.Code.{function_in, operand_in}
use Rattle.model.specs.Machine.{World, with_cpu, goto, resume_word, push, pop}
use Rattle.model.specs.declared.Cpu.{Cpu}
use Rattle.model.specs.Occam.{Process, before, at_input, at_output, at_stop, at_alt, at_wait, to_read, has_read, in_par, finished, State}
use Rattle.model.proofs.Quiet.Ways.{upd_same, upd_other, upd, Regs, regs_of, load, Quiet, pushing, popping, Mem}
use Rattle.model.proofs.Cases.{never}
use Rattle.model.proofs.Occam.Paths.{is_alt}
use Rattle.model.proofs.Words.Parts.{Part}
use Rattle.model.proofs.Quiet.Continuations.{Placed}
use Rattle.model.proofs.Quiet.Marks.{Own, Spare, Settled, s-none}
use Rattle.model.proofs.Quiet.Arrivals.{Goes, comes}
use Rattle.model.proofs.Quiet.Onwards.{AltSpare, AltWay, alt-goes, Tied}
use Rattle.model.proofs.Invariant.Trees.{Info, Tree, bytes_left}
use Rattle.model.proofs.Invariant.Leaves.{Unmarked, Held, h-queued}
use Rattle.model.proofs.Effects.OneWord.{cpu_of, stored, exec-ldl, exec-stl, exec-cj-jumps, exec-j}
use Rattle.model.proofs.Effects.Queues.{join-queue}
use Rattle.model.proofs.Effects.Acts.{exec-j-over, test_place-in}
use Rattle.model.proofs.Invariant.Kernel.{Loaded, S, root, size, LeafAt, Rest, Real, node, part_small, sits-at}
use Rattle.model.proofs.Invariant.Writes.{write-own, left_out, Calm}
use Rattle.model.proofs.Invariant.Grounds.{var-in, small_size}
use Rattle.model.proofs.Invariant.Traces.{t-none}
use Rattle.model.proofs.Invariant.Running.{Only, Nobody, off_small, Did, Executes, executes, Acting}
use Rattle.model.proofs.Invariant.Moving.{relaid, relabelled, relabel, settled-off}
use Rattle.model.proofs.Invariant.Reals.{size_is, mirrored, real-cpu, real-stored, link-own}
use Rattle.model.proofs.Invariant.Scheduling.{lets_go, wakes}
use Rattle.model.proofs.Invariant.Finish.{goes_on_lem, alt-goes-on, then-lets-go, silent}
use Rattle.model.proofs.Quiet.PathEnds.{way-bound, point-in}

-- a distance leads from the byte after its user to the instruction that it reaches
pub reached : (a t : ℕ) → a ≤ code_limit → t ≤ code_limit → low (a + less t a) ≡ t
reached a t h k = omega arith

-- the workspace of an ALT with a time guard is the one that is known of it
pub tied-alt : (q : Process) {w v : ℕ} → is_alt q ≡ true → Tied q w v → w ≡ v
tied-alt (before s k) e t = never (cc)
tied-alt (at_input c x k) e t = never (cc)
tied-alt (at_output c v k) e t = never (cc)
tied-alt (at_stop k) e t = never (cc)
tied-alt (at_alt gs k) e t = t
tied-alt (at_wait u k) e t = never (cc)
tied-alt (to_read x k) e t = never (cc)
tied-alt (has_read x v k) e t = never (cc)
tied-alt (in_par bs k) e t = never (cc)
tied-alt finished e t = never (cc)

module _ (L : Loaded) {s : World} {st : State} {μ : Mem} {t : Tree (S L) (root L) st.process} {path : List ℕ} {q : Process} {b : Part}
    {i : Info} {ws : List ℕ} {at hi : ℕ} (A : Acting L s st μ t path q b i (Only path) ws at hi) where
  -- a word for a stored value is none of the time words of an ALT
  pub calm-settled : Settled q → (v : ℕ) → Calm L q i v
  calm-settled settled v e = never (cc (e, settled-off q settled))

  pub calm-alt : {w v : ℕ} → Tied q w i.w → AltSpare (S L) b L.times st i.vars i.chans w v → Calm L q i v
  calm-alt tied spare e =
      let same = tied-alt q e tied in
      let low = (sits-at L A.leaf).placed.low in
      let small = part_small L A.leaf in (
        (λ z. absurd (omega (arith, z, same, spare.1, low, small, small_size L))),
        (λ z. absurd (omega (arith, z, same, spare.1, low, small, small_size L))),
      )

  -- the byte that a distance from here reaches
  pub target : (k : ℕ) → k ≤ length (S L).xs → low ((cpu_of s).place + less (L.off k) (L.off (suc at))) ≡ L.off k
  target k h =
      rw A.placed
      (reached (L.off (suc at)) (L.off k) (omega (arith, off_small L (suc at) A.inside, L.code-small))
      (omega (arith, off_small L k h, L.code-small)))

  -- what a path of some kind needs to go on: the world after an instruction shows a memory in which no channel word is another
  abbrev pub Carries : (ℕ → Mem → ℕ → Regs → Type 0) → Type 0
  Carries G =
      (x : Instruction) (u : World) (ν : Mem) → Executes L x s u → u.talk ≡ s.talk → Real L u st ν ws → (cpu_of u).running ≡ true
      → (cpu_of u).operand ≡ 0 → Rest L st ν t (Only path) ws → (nx : ℕ) → (cpu_of u).place ≡ L.off nx → nx ≤ length (S L).xs
      → L.off (suc at) ≤ L.off nx → ((c : Site) → Memᴰ c i.chans → ν ((S L).word c) ≡ μ ((S L).word c))
      → G hi ν nx (regs_of (cpu_of u)) → Did L (Executes L x s) s st (bytes_left (S L) t)

  -- a path to the next significant instruction, and one inside an ALT
  pub carries-goes : Settled q → Unmarked (S L) b i st μ → Carries (Goes (S L) b st.store i.vars i.chans q)
  carries-goes settled clean x u ν ran talk real run operand rest nx place inner ahead same way =
      goes_on_lem L A u ran talk real run operand rest A.lined nx hi place inner (omega arith) way settled
      (λ c m o. clean c m (subst (Own b) (same c m) o))

  pub carries-alt : (w : ℕ) → Tied q w i.w → Carries (AltWay (S L) b L.times st i.vars i.chans q w)
  carries-alt w tied x u ν ran talk real run operand rest nx place inner ahead same way =
      alt-goes-on L A u ran talk real run operand rest A.lined nx hi place inner (omega arith) (alt-goes w tied way)

  module _ (G : ℕ → Mem → ℕ → Regs → Type 0) (carry : Carries G) where
    -- other registers
    moves-on : {x : Instruction} (r : Cpu) → r.front ≡ (cpu_of s).front → r.back ≡ (cpu_of s).back → r.queued ≡ (cpu_of s).queued
        → r.running ≡ true → r.operand ≡ 0 → Executes L x s (with_cpu r s) → (nx : ℕ) → r.place ≡ L.off nx → nx ≤ length (S L).xs
        → L.off (suc at) ≤ L.off nx → G hi μ nx (regs_of r) → Did L (Executes L x s) s st (bytes_left (S L) t)
    moves-on {x} r e₁ e₂ e₃ run operand ran nx place inner ahead way =
        carry x (with_cpu r s) μ ran refl (real-cpu L r e₁ e₂ e₃ A.real) run operand A.rest nx place inner ahead (λ c m. refl) way

    pub pass-quiet : {x : Instruction} (g : Regs → Regs) → Quiet (L.off (suc at)) (function_in x) (operand_in L.off x) g
        → G hi μ (suc at) (g (regs_of (cpu_of s))) → Did L (Executes L x s) s st (bytes_left (S L) t)
    pass-quiet g intact way =
        moves-on (load (g (regs_of (cpu_of s))) (cpu_of s)) refl refl refl A.run A.operand (executes (intact s A.placed)) (suc at)
        A.placed A.inside (omega arith) way

    -- LDL of a word that is known
    loads_word : (o v z : ℕ) → low ((cpu_of s).workspace + o) ≡ v → v < size L → μ v ≡ z
        → G hi μ (suc at) (pushing z (regs_of (cpu_of s))) → Did L (Executes L (plain I.ldl o) s) s st (bytes_left (S L) t)
    unfolding function_in operand_in
    loads_word o v z there inner known way =
        moves-on (push z (cpu_of s)) refl refl refl A.run A.operand
        (executes (exec-ldl o v s there (rw (size_is L A.real) inner) ∙ rw (mirrored L A.real v inner known)))
        (suc at) A.placed A.inside (omega arith) way

    -- LDL of a variable
    pub pass-loads : (o : ℕ) (y : Site) → low ((cpu_of s).workspace + o) ≡ (S L).word y → Memᴰ y i.vars
        → G hi μ (suc at) (pushing (st.store y) (regs_of (cpu_of s))) → Did L (Executes L (plain I.ldl o) s) s st (bytes_left (S L) t)
    pass-loads o y named mine way =
        loads_word o ((S L).word y) (st.store y) named (omega (arith, var-in L (node L A.leaf) y mine))
        (sym (A.rest.vars (node L A.leaf) y mine).0) way

    -- a stored value's word
    module _ (o v : ℕ) (there : low ((cpu_of s).workspace + o) ≡ v) (spare : Spare (S L) b i.vars i.chans v) where
      spare-in : v < size L
      spare-in = omega (arith, spare.below, part_small L A.leaf)

      -- LDL of it
      pub pass-reloads : G hi μ (suc at) (pushing (μ v) (regs_of (cpu_of s)))
          → Did L (Executes L (plain I.ldl o) s) s st (bytes_left (S L) t)
      pass-reloads way = loads_word o v (μ v) there spare-in refl way

      -- STL into it; it is none of the time words of an ALT
      pub pass-stores : Calm L q i v → G hi (upd μ v (cpu_of s).a) (suc at) (popping (regs_of (cpu_of s)))
          → Did L (Executes L (plain I.stl o) s) s st (bytes_left (S L) t)
      unfolding function_in operand_in
      pass-stores calm way =
          let z = (cpu_of s).a in
          let r = pop (cpu_of s) in
          carry (plain I.stl o) (with_cpu r (stored v z s)) (upd μ v z)
          (executes (exec-stl o v s there (rw (size_is L A.real) spare-in))) refl
          (real-cpu L r refl refl refl
          (real-stored L v z spare-in (link-own L A.lined A.leaf refl v spare.above spare.below) A.real))
          A.run A.operand
          (write-own L A.leaf A.rest v z spare.above spare.below
          (λ x m e. absurd (omega (arith, spare.no-var x m, e))) (λ c m e. absurd (omega (arith, spare.no-chan c m, e)))
          (left_out refl calm)) (suc at) A.placed A.inside (omega arith)
          (λ c m. upd_other μ v z ((S L).word c) (λ e. absurd (omega (arith, spare.no-chan c m, e)))) way

    -- CJ with a false condition, on the way
    pub pass-falls : {k : ℕ} → k ≤ length (S L).xs → (cpu_of s).a ≡ 0 → L.off (suc at) ≤ L.off k → G hi μ k (regs_of (cpu_of s))
        → Did L (Executes L (distance I.cj k at) s) s st (bytes_left (S L) t)
    unfolding function_in operand_in
    pass-falls {k} h z f way =
        moves-on (goto (low ((cpu_of s).place + less (L.off k) (L.off (suc at)))) (cpu_of s)) refl refl refl A.run A.operand
        (executes (exec-cj-jumps _ s z)) k (target k h) h f way

  -- J
  module _ {k hi' : ℕ} (h : k ≤ length (S L).xs) (placed : Placed (S L) b (cpu_of s).workspace i.vars i.chans)
      (reach : hi' + L.off (suc at) ≤ hi + L.off k)
      (way : (ν : Mem) (r : Regs) → r.w ≡ (cpu_of s).workspace → Goes (S L) b st.store i.vars i.chans q hi' ν k r)
      (settled : Settled q)
      (clean : Unmarked (S L) b i st μ) where
    abbrev w : ℕ
    w = (cpu_of s).workspace

    -- within the slice
    jumps-on : (cpu_of s).count < s.machine.setup.slice → Did L (Executes L (distance I.j k at) s) s st (bytes_left (S L) t)
    unfolding function_in operand_in
    jumps-on c =
        let r = goto (low ((cpu_of s).place + less (L.off k) (L.off (suc at)))) (cpu_of s) in
        goes_on_lem L A (with_cpu r s) (executes (exec-j _ s c)) refl (real-cpu L r refl refl refl A.real) A.run A.operand
        A.rest A.lined k hi'
        (target k h) h reach (way μ (regs_of (cpu_of s)) refl) settled clean

    high : b.top ≤ (S L).top
    high = part_small L A.leaf

    -- its resume word
    abbrev v : ℕ
    v = resume_word w

    v_low : b.bottom ≤ v
    v_low = omega (arith, placed.room, placed.low, high, small_size L)

    v_high : v < b.top
    v_high = omega (arith, placed.room, placed.low, high, small_size L)

    below : v < w
    below = omega (arith, placed.room, placed.low, high, small_size L)

    parked-rest : Rest L st (upd μ v (L.off k)) t (Only path) ws
    parked-rest =
        write-own L A.leaf A.rest v (L.off k) v_low v_high
        (λ x m e. absurd (omega (arith, placed.scoped.vars-above x m, below, e)))
        (λ x m e. absurd (omega (arith, placed.scoped.chans-above x m, below, e))) (left_out refl (calm-settled settled v))

    parked-real : Real L (stored v (L.off k) s) st (upd μ v (L.off k)) ws
    parked-real = real-stored L v (L.off k) (omega (arith, v_high, high)) (link-own L A.lined A.leaf refl v v_low v_high) A.real

    still-clean : Unmarked (S L) b i st (upd μ v (L.off k))
    still-clean c m o =
        clean c m (subst (Own b) (upd_other μ v (L.off k) ((S L).word c)
        (λ e. absurd (omega (arith, placed.scoped.chans-above c m, below, e)))) o)

    -- it is queued, to go on where the jump leads
    queued-as : {u : Tree (S L) (root L) st.process} → LeafAt L st u path q b (relaid w (i.left - 1) i) → 1 ≤ i.left
        → Held (S L) L.times b (relaid w (i.left - 1) i) st (upd μ v (L.off k)) true q
    queued-as leaf more =
        h-queued
        (comes s-none settled
        (record { vars-in = λ x m. m; chans-in = λ x m. m; live = A.rest.live A.leaf; placed = placed }) (λ ν r e. way ν r e))
        (record { place = upd_same μ v (L.off k); soon = omega (arith, A.left) }) h still-clean

    -- at the end of the slice
    yields : s.machine.setup.slice ≤ (cpu_of s).count → Did L (Executes L (distance I.j k at) s) s st (bytes_left (S L) t)
    unfolding function_in operand_in
    yields c =
        let far = way-bound (S L) (point-in (S L) b) (way μ (regs_of (cpu_of s)) refl) in
        let more : 1 ≤ i.left = omega (arith, A.left) in
        elim (relabel L A.leaf refl w (i.left - 1) (λ e. never (cc (e, settled-off q settled))) placed
        (omega (arith, (sits-at L A.leaf).few)) parked-rest A.lined) [
          | relabelled t' leaf rest lines e others ↦
              let woken = wakes L {Out' = Nobody} parked-real rest lines leaf refl (queued-as leaf more) (λ other d p. absurd (d p))
              (λ other p. absurd p) (λ p. p) in
              then-lets-go L t-none (inl (omega arith))
              (λ x f g. executes
              (exec-j-over _ (L.off k) w s c (target k h) refl (rw (size_is L A.real) (omega (arith, v_high, high)))
              ∙ rw (join-queue w (stored v (L.off k) s) A.run woken.enqueued, f)
              (test_place-in (L.off k) x (rw g (off_small L k h)))))
              (silent L s (stored v (L.off k) s) refl) (lets_go L A.operand woken.real woken.rest woken.lines)
        ]

    pub pass-jumps : Did L (Executes L (distance I.j k at) s) s st (bytes_left (S L) t)
    pass-jumps = by (dec_lt (cpu_of s).count s.machine.setup.slice)
      where
        by : Dec ((cpu_of s).count < s.machine.setup.slice) → Did L (Executes L (distance I.j k at) s) s st (bytes_left (S L) t)
        by (yes c) = jumps-on c
        by (no c) = yields (omega arith)
