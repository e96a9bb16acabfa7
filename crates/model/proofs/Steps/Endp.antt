-- ENDP: the last branch of a PAR goes on as the PAR, another leaves the processor.
use Prim.Native.Nat.{ℕ, ◌+◌, ◌-◌, ◌≤◌, ◌<◌}
use native.Mathlib.Omega.{arith}
use native.Mathlib.Decide.{ℕ_discrete}
use mathlib.Core.Path.{◌≡◌, refl, sym, ap, ◌∙◌, subst}
use mathlib.Core.Logic.{◌≢◌}
use mathlib.Core.List.{List, [], ◌∷◌, ◌++◌}
use mathlib.Core.Option.{some}
use Rattle.model.specs.Word.{low, less}
use Rattle.model.specs.Syntax.{Site, Stmt, Stmts}
use Rattle.model.specs.Counts.{sum_need}
use Rattle.model.specs.Instruction.{operation}
use Rattle.model.specs.Instruction as I
use Rattle.model.specs.Code.{function_in, operand_in}
use Rattle.model.specs.Machine.{World, with_cpu, work, goto}
use Rattle.model.specs.Occam.{Frame, finished, in_par, Branches, branch_at, end_branch, resume, look, put, State, Step, ends}
use Rattle.model.proofs.Cases.{never}
use Rattle.model.proofs.Quiet.Ways.{upd, Mem}
use Rattle.model.proofs.Quiet.Stretches.{seg-length}
use Rattle.model.proofs.Quiet.Setting.{Setting, whole}
use Rattle.model.proofs.Quiet.CodeParts.{rises-le}
use Rattle.model.proofs.Occam.Paths.{left, left_end, closed-last, closed-more}
use Rattle.model.proofs.Words.Parts.{need-two, Part, joins}
use Rattle.model.proofs.Quiet.Continuations.{cont-placed, cont-inside}
use Rattle.model.proofs.Quiet.Marks.{ParCode}
use Rattle.model.proofs.Quiet.Arrivals.{arrives}
use Rattle.model.proofs.Invariant.Trees.{distance_of, branch-part, parted, Info, Sits, Tree, Forest, f-none, f-live, f-over, label_at}
use Rattle.model.proofs.Invariant.Trees.{part_at, bytes_left}
use Rattle.model.proofs.Invariant.Zones.{zone-under}
use Rattle.model.proofs.Invariant.Leaves.{Unmarked}
use Rattle.model.proofs.Effects.OneWord.{cpu_of, stored}
use Rattle.model.proofs.Effects.Acts.{exec-endp-last, exec-endp-more}
use Rattle.model.proofs.Invariant.Kernel.{Loaded, S, root, size as memory, Real}
use Rattle.model.proofs.Invariant.Puts.{putting}
use Rattle.model.proofs.Invariant.Grounds.{small_size, sound-at}
use Rattle.model.proofs.Invariant.Running.{Only, Did, Executes, executes, Acting}
use Rattle.model.proofs.Invariant.Reals.{size_is, mirrored, real-state, real-cpu, real-stored}
use Rattle.model.proofs.Invariant.Scheduling.{settle, lets_go}
use Rattle.model.proofs.Invariant.Finish.{step-settles, step-lets-go, silent}
use Rattle.model.proofs.Steps.BranchEnds.{father, father-of, distance-in, par-node, last_leaf, last_rest, last-lined, last-clean}
use Rattle.model.proofs.Steps.BranchEnds.{more-rest, more-lined, link-off}

-- each branch needs words
few-left : {S : Setting} {vars chans : List Site} {w d : ℕ} {ss : Stmts} {bs : Branches}
    → Forest S vars chans w d ss bs → left bs ≤ sum_need ss
unfolding left sum_need
few-left f-none = omega arith
few-left (f-live {s} t f) = omega (arith, few-left f, need-two s)
few-left (f-over {s} f) = omega (arith, few-left f)

-- what joins a PAR is told by how far below it the branch is
same-distance : {m n : ℕ} → joins m ≡ joins n → m ≡ n
same-distance e = cc

module _ (L : Loaded) {s : World} {st : State} {μ : Mem} {t : Tree (S L) (root L) st.process} {path : List ℕ} {b : Part} {i : Info}
    {ws : List ℕ} {at hi : ℕ} (A : Acting L s st μ t path finished b i (Only path) ws at hi) (clean : Unmarked (S L) b i st μ) where
  module _ (ρ : List ℕ) (n : ℕ) {a : Part} {d : Stmt} {ds : Stmts} {vars chans : List Site} {k : List Frame} {up m w : ℕ} {bs : Branches}
      (c : ParCode (S L) a d ds vars chans k up m w) (is : path ≡ ρ ++ n ∷ []) (par : look ρ st.process ≡ some (in_par bs k))
      (branch : branch_at n bs ≡ some finished) (part : part_at (S L) t ρ ≡ some a)
      (label : label_at (S L) t ρ ≡ some (parted a vars chans w c.over)) (ea : (cpu_of s).a ≡ w) (top : w + 2 ≤ (S L).top)
      (few : left bs ≤ w) where
    words : (μ w ≡ L.off c.over) × (μ (w + 1) ≡ left bs)
    words = A.rest.par par (par-node L A.leaf ρ n c is par branch part label)

    second : low (w + 1) ≡ w + 1
    second = omega (arith, top, small_size L)

    in_memory : w + 1 < memory L
    in_memory = omega (arith, top)

    last_end : left bs ≡ 1 → Did L (Executes L (operation I.endp) s) s st (bytes_left (S L) t)
    unfolding function_in operand_in
    last_end one =
        let sits : Sits (S L) a (record { vars = vars; chans = chans; w = w; left = whole (S L) }) =
        record { placed = cont-placed (S L) a c.after; few = omega arith } in
        let u = with_cpu (goto (L.off c.over) (work w (cpu_of s))) s in
        let st₁ = putting ρ (resume k) st in
        let leaf = last_leaf L A.leaf ρ n c is par branch part label one (whole (S L)) sits in
        let rest = last_rest L A.leaf ρ n c is par branch part label one (whole (S L)) sits A.rest clean in
        let real : Real L u st₁ μ ws =
        real-state L (put ρ (resume k) st.process) st.store
        (real-cpu L (goto (L.off c.over) (work w (cpu_of s))) refl refl refl A.real) in
        let same : whole (S L) ≤ whole (S L) = omega arith in
        let ran : Executes L (operation I.endp) s u =
        executes
        (exec-endp-last w (w + 1) (L.off c.over) s ea second (rw (size_is L A.real) in_memory)
        (mirrored L A.real (w + 1) in_memory (words.1 ∙ one)) (rw (size_is L A.real) (omega (arith, in_memory)))
        (mirrored L A.real w (omega (arith, in_memory)) words.0)) in
        let over-in = cont-inside (S L) a c.after in
        let ahead : L.off m ≤ L.off c.over =
        rises-le (S L) m c.over (omega (arith, seg-length c.starts, seg-length c.branches)) over-in in
        step-settles L
        (subst (λ z. Step st [] (putting ρ z st)) (closed-last n bs k branch one) (ends ρ n par branch)) ran (silent L s u refl)
        (settle L real leaf rest (last-lined L A.leaf ρ n c is par branch part label one (whole (S L)) sits A.rest clean A.lined)
        (whole (S L))
        (record { run = A.run; operand = A.operand; place = refl; work = refl; inside = over-in })
        (arrives (S L) a st.store c.after (omega (arith, c.near, ahead)) (sound-at L rest leaf))
        (last-clean L A.leaf ρ n c is par branch part label one (whole (S L)) sits A.rest clean) (omega (arith, c.near, ahead)) same)

    more-end : left bs ≢ 1 → Did L (Executes L (operation I.endp) s) s st (bytes_left (S L) t)
    unfolding function_in operand_in
    more-end more =
        let fewer = left_end n bs branch in
        let count : less (left bs) 1 ≡ left (end_branch n bs) = omega (arith, fewer, few, top, small_size L) in
        let z = left (end_branch n bs) in
        let u = stored (w + 1) z s in
        let st₁ = putting ρ (in_par (end_branch n bs) k) st in
        let real : Real L u st₁ (upd μ (w + 1) z) ws =
        real-state L (put ρ (in_par (end_branch n bs) k) st.process) st.store
        (real-stored L (w + 1) z in_memory
        (link-off L A.leaf ρ n c is par branch part label more A.rest clean A.lined) A.real) in
        step-lets-go L (subst (λ z. Step st [] (putting ρ z st)) (closed-more n bs k branch more) (ends ρ n par branch))
        (λ x f g. executes
        (exec-endp-more w (w + 1) (left bs) s ea second (rw (size_is L A.real) in_memory)
        (mirrored L A.real (w + 1) in_memory words.1) more ∙ rw count f))
        (silent L s u refl)
        (lets_go L A.operand real (more-rest L A.leaf ρ n c is par branch part label more A.rest clean)
        (more-lined L A.leaf ρ n c is par branch part label more A.rest clean A.lined))

  pub did-end : {d : ℕ} → b.ending ≡ joins d → (cpu_of s).a ≡ b.top + d → Did L (Executes L (operation I.endp) s) s st (bytes_left (S L) t)
  did-end {d} e ea = elim (father-of (S L) t path A.leaf.label A.leaf.found e (λ n z. never (cc))) [
    | father ρ n {w} {bs} c f is par branch part label (branch-part r x same) ↦
        let far = distance_of n _ in
        let same-d : d ≡ 0 + far = same-distance (sym e ∙ ap (λ (y : Part). y.ending) same) in
        let same-top : b.top ≡ w - (0 + far) = ap (λ (y : Part). y.top) same in
        let at-w : (cpu_of s).a ≡ w = ea ∙ omega (arith, same-d, same-top, distance-in n _ x, c.room) in
        let top : w + 2 ≤ (S L).top = (zone-under (S L) t ρ label).below in
        let few : left bs ≤ w = omega (arith, few-left f, c.room) in
        by (ℕ_discrete (left bs) 1) (last_end ρ n c is par branch part label at-w top few)
        (more-end ρ n c is par branch part label at-w top few)
  ]
    where
      by : {n : ℕ} → Dec (n ≡ 1) → (n ≡ 1 → Did L (Executes L (operation I.endp) s) s st (bytes_left (S L) t))
          → (n ≢ 1 → Did L (Executes L (operation I.endp) s) s st (bytes_left (S L) t))
          → Did L (Executes L (operation I.endp) s) s st (bytes_left (S L) t)
      by (yes z) f g = f z
      by (no z) f g = g z
