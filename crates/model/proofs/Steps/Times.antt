-- TIME: at its LDTIMER a process reads the clock, and holds what it read until its STL.
use Prim.Native.Nat.{ℕ, suc, ◌+◌, ◌-◌, ◌^◌, ◌≤◌, ◌<◌}
use native.Mathlib.Omega.{arith}
use mathlib.Core.Path.{◌≡◌, refl, ap}
use mathlib.Core.Logic.{inl}
use mathlib.Core.List.{List, [], ◌∷◌, ◌++◌}
use Rattle.model.specs.Word.{low}
use Rattle.model.specs.Syntax.{Site}
use Rattle.model.specs.Instruction.{plain, operation, operation_of, operation_code, coded}
use Rattle.model.specs.Instruction as I
use Rattle.model.specs.Code.{function_in, operand_in}
use Rattle.model.specs.Machine.{World, reads as clocked, with_cpu, push}
use Rattle.model.specs.Execute.{execute, operate}
use Rattle.model.specs.Timer.{load_timer}
use Rattle.model.specs.Occam.{Frame, to_read, has_read, State, now, reads, reading, put}
use Rattle.model.specs.Demand.{step}
use Rattle.model.proofs.Cases.{never}
use Rattle.model.proofs.Quiet.Ways.{Mem, arrived}
use Rattle.model.proofs.Quiet.Setting.{whole, At}
use Rattle.model.proofs.Quiet.CodeParts.{up}
use Rattle.model.proofs.Occam.Paths.{l-has-read}
use Rattle.model.proofs.Words.Parts.{Part, Target}
use Rattle.model.proofs.Quiet.Continuations.{Cont, cont-bound}
use Rattle.model.proofs.Quiet.Marks.{pt-store}
use Rattle.model.proofs.Invariant.Trees.{Info, Tree, bytes_left, leaf-bytes, Sits}
use Rattle.model.proofs.Invariant.Leaves.{Unmarked}
use Rattle.model.proofs.Effects.OneWord.{cpu_of}
use Rattle.model.proofs.Invariant.Kernel.{Loaded, S, root, Rest, Real, node, sits-at}
use Rattle.model.proofs.Invariant.Puts.{putting, tree_then, moved, here-then, lined_then, rest_then}
use Rattle.model.proofs.Invariant.Traces.{t-none, t-step}
use Rattle.model.proofs.Invariant.Running.{Only, fresh, now-goes, runs, Did, came, Executes, executes, Acting}
use Rattle.model.proofs.Invariant.Moving.{relaid}
use Rattle.model.proofs.Invariant.Reals.{real-state, real-cpu, real-talk}

module _ (L : Loaded) {s : World} {st : State} {μ : Mem} {t : Tree (S L) (root L) st.process} {path : List ℕ} {x : Site} {k : List Frame}
    {b : Part} {i : Info} {ws : List ℕ} {at hi h o : ℕ} (A : Acting L s st μ t path (to_read x k) b i (Only path) ws at hi)
    (y : At (S L) (suc at) (plain I.stl o)) (named : low ((cpu_of s).workspace + o) ≡ (S L).word x) (target : Target b i.vars x)
    (c : Cont (S L) b h i.vars i.chans k (suc (suc at)) (cpu_of s).workspace) (up_to_lem : h ≤ hi) (near : h ≤ whole (S L) + L.off at)
    (clean : Unmarked (S L) b i st μ) where
  -- the clock's word
  abbrev v : ℕ
  v = s.machine.timer.clock

  abbrev said : World
  said = record { machine = s.machine; memory = s.memory; talk = s.talk ++ clocked v ∷ [] }

  abbrev u : World
  u = with_cpu (push v (cpu_of s)) said

  read : Executes L (operation I.ldtimer) s u
  unfolding execute operate operation_of operation_code coded function_in operand_in load_timer
  read = executes refl

  abbrev j : Info
  j = relaid i.w (i.left - 1) i

  abbrev st' : State
  st' = putting path (has_read x (now st) k) st

  few : j.left ≤ whole (S L)
  few = omega (arith, (sits-at L A.leaf).few)

  sits : Sits (S L) b j
  sits = record { placed = (sits-at L A.leaf).placed; few = few }

  real : Real L u st μ ws
  real = real-cpu L (push v (cpu_of s)) refl refl refl (real-talk L said.talk A.real)

  rest : Rest L st' μ (tree_then L A.leaf (has_read x (now st) k) l-has-read j sits) (Only path) ws
  rest =
      rest_then L A.leaf (has_read x (now st) k) l-has-read j sits A.rest refl (A.rest.vars (node L A.leaf))
      (A.rest.chans (node L A.leaf)) (A.rest.live A.leaf) (λ d m o. absurd (clean d m o))
      (λ d w f z other r n l a m g. never (cc)) (λ d w f z other r n l a m g h o. never (cc))
      (λ e. never (cc)) (λ e. never (cc))

  pub did_read : Did L (Executes L (operation I.ldtimer) s) s st (bytes_left (S L) t)
  did_read =
      let e : v ≡ now st = A.real.timed.clock-read in
      let leaf = A.leaf in
      let p = has_read x (now st) k in
      let small : now st < 2 ^ 32 = omega (arith, A.real.timed.clock-word, e) in
      let near_on : h ≤ whole (S L) + L.off (suc at) = omega (arith, (S L).rises at (suc at) (omega arith) A.inside) in
      let bound : L.off (suc (suc at)) ≤ hi = omega (arith, cont-bound (S L) b c) in
      let soon : hi ≤ j.left + (cpu_of u).place = omega (arith, A.left, A.placed, up (S L) y) in
      came u (step (reads (now st) ∷ []) st' ∷ []) read (t-step (reading path leaf.found) t-none)
      (ap (λ w. s.talk ++ clocked w ∷ []) e)
      (runs (real-state L (put path p st.process) st.store real) A.run (here-then L leaf p l-has-read j sits) rest
      (lined_then L leaf p l-has-read j sits refl A.lined)
      (now-goes (fresh L (suc at) (cpu_of u).place (cpu_of u).operand A.inside A.placed A.operand)
      (arrived (pt-store y named target e small c near_on) bound) tt clean soon))
      (inl (omega (arith, (moved L leaf p l-has-read j sits).bytes, leaf-bytes (S L) t path leaf.label, A.left, up (S L) y, bound)))
