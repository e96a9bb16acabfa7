-- STARTP: the first branch of a PAR starts the next one.
use Prim.Native.Nat.{ℕ, zero, suc, ◌+◌, ◌-◌, ◌≤◌, ◌<◌}
use native.Mathlib.Omega.{arith}
use mathlib.Core.Path.{◌≡◌, refl, sym, ap, ◌∙◌, subst}
use mathlib.Core.Logic.{◌≢◌, inl, inr}
use mathlib.Core.Bool.{true}
use mathlib.Core.List.{List, [], ◌∷◌, ◌++◌, Memᴰ}
use lib.ListN.{length}
use Rattle.model.specs.Syntax.{Stmt, Stmts, no_stmt, stmt}
use Rattle.model.specs.Counts.{need}
use Rattle.model.specs.Scheme.{how_many, size, code_starts}
use Rattle.model.specs.Instruction.{operation}
use Rattle.model.specs.Instruction as I
use Rattle.model.specs.Code.{function_in, operand_in}
use Rattle.model.specs.Machine.{World, resume_word}
use Rattle.model.specs.Occam.{Process, begin, State}
use Rattle.model.proofs.Quiet.Ways.{upd_same, upd_other, upd, regs_of, Mem}
use Rattle.model.proofs.Quiet.Stretches.{Seg, seg-length}
use Rattle.model.proofs.Quiet.CodeParts.{rises-le}
use Rattle.model.proofs.Occam.Paths.{apart-under, apart-differ, off-begin}
use Rattle.model.proofs.Occam.Paths as P
use Rattle.model.proofs.Cases.{never}
use Rattle.model.proofs.Words.Parts.{Part, joins, part_of}
use Rattle.model.proofs.Quiet.Continuations.{Placed}
use Rattle.model.proofs.Quiet.Marks.{Own, StartPoint}
use Rattle.model.proofs.Quiet.Arrivals.{Comes}
use Rattle.model.proofs.Quiet.Onwards.{start-path}
use Rattle.model.proofs.Invariant.Trees.{Info, new_info, Tree, bytes_left}
use Rattle.model.proofs.Invariant.Leaves.{Unmarked, Held, h-queued}
use Rattle.model.proofs.Invariant.Stays.{unmarked-stays}
use Rattle.model.proofs.Effects.OneWord.{cpu_of, stored}
use Rattle.model.proofs.Effects.Acts.{exec-startp}
use Rattle.model.proofs.Effects.Queues.{joined, join-queue}
use Rattle.model.proofs.Invariant.Kernel.{Loaded, S, root, LeafAt, Rest, Lined, Real, part_small, sits-at}
use Rattle.model.proofs.Invariant.Grounds.{small_size, sound-at}
use Rattle.model.proofs.Invariant.Traces.{t-none}
use Rattle.model.proofs.Invariant.Running.{Only, StartsLeft, Later, l-here, l-next, not-started, Starting, fresh, ToStart, starts}
use Rattle.model.proofs.Invariant.Running.{Did, came, Executes, executes, Acting}
use Rattle.model.proofs.Invariant.Moving.{relaid, relabelled, relabel}
use Rattle.model.proofs.Invariant.Reals.{size_is}
use Rattle.model.proofs.Invariant.Scheduling.{settles, settle, wakes, Woken, linked_to}
use Rattle.model.proofs.Invariant.Finish.{silent}
use Rattle.model.proofs.Steps.Meets.{rest_below, real-below, clean-below, chan-above}

-- there are so many branches
later-few : {ss : Stmts} {s r : Stmt} {d b k e f : ℕ} → Later (stmt s ss) d b k r e f → k ≤ how_many ss
unfolding how_many
later-few l-here = omega arith
later-few (l-next {ss = no_stmt} h) = elim h [ ]
later-few (l-next {ss = stmt x xs} h) = omega (arith, later-few h)

-- different branches are at different paths
pub branch_differ : (par : List ℕ) {m n : ℕ} → m ≢ n → par ++ m ∷ [] ≢ par ++ n ∷ []
branch_differ par d = apart-differ (apart-under par (P.here d))

module _ (L : Loaded) {s : World} {st : State} {μ : Mem} {t : Tree (S L) (root L) st.process} {path : List ℕ}
    {q : Process} {b : Part} {i : Info}
    {ws : List ℕ} {at hi : ℕ} (B : StartsLeft) (A : Acting L s st μ t path q b i (Starting path B) ws at hi)
    (point : StartPoint (S L) B.s B.ss B.d B.b B.first B.w at (regs_of (cpu_of s)))
    (first-branch : path ≡ B.par ++ 0 ∷ []) (next_one : 1 ≤ B.next) (same_w : i.w ≡ B.w)
    (all-to-start : (k : ℕ) (r : Stmt) (d f : ℕ) → Later (stmt B.s B.ss) B.d B.b k r d f → ToStart L st μ t B k r d f)
    (own : Comes (S L) b st.store i.vars i.chans hi q B.first B.w) (inner : B.first ≤ length (S L).xs)
    (near : L.off B.first ≤ hi) (clean : Unmarked (S L) b i st μ) where
  abbrev child : List ℕ
  child = B.par ++ (B.next + 0) ∷ []

  abbrev w : ℕ
  w = B.w - B.d

  abbrev part : Part
  part = part_of B.vars B.chans w (joins B.d) B.s

  abbrev info : Info
  info = new_info (S L) B.vars B.chans w

  next_start : ToStart L st μ t B 0 B.s B.d B.b
  next_start = all-to-start 0 B.s B.d B.b l-here

  out : Starting path B child
  out = inr (not-started 0 (omega arith) refl)

  placed : Placed (S L) part w B.vars B.chans
  placed = (sits-at L next_start.leaf).placed

  abbrev v : ℕ
  v = resume_word w

  low-v : part.bottom ≤ v
  low-v = omega (arith, placed.room, placed.low, part_small L next_start.leaf, small_size L)

  below-v : v < w
  below-v = omega (arith, placed.room, placed.low, part_small L next_start.leaf, small_size L)

  below-own : v < i.w
  below-own = omega (arith, below-v, same_w)

  abbrev s₁ : World
  s₁ = stored v (L.off B.b) s

  abbrev μ₁ : Mem
  μ₁ = upd μ v (L.off B.b)

  real₁ : Real L s₁ st μ₁ ws
  real₁ = real-below L next_start.leaf out placed v (L.off B.b) low-v below-v A.lined A.real

  rest₁ : Rest L st μ₁ t (Starting path B) ws
  rest₁ = rest_below L next_start.leaf out placed v (L.off B.b) low-v below-v
      (λ e. never (cc (e, off-begin B.s []))) A.rest

  -- channels that are in scope for the child keep their words
  clean-child : (c : Part) (j : Info) → j.chans ≡ B.chans → Unmarked (S L) c j st μ → Unmarked (S L) c j st μ₁
  clean-child c j same h a m o =
      h a m
      (subst (Own c) (upd_other μ v (L.off B.b) ((S L).word a) (chan-above L placed v below-v a (subst (λ z. Memᴰ a z) same m)))
      o)

  clean₁ : Unmarked (S L) b i st μ₁
  clean₁ = clean-below L i st st μ (sits-at L A.leaf).placed v (L.off B.b) below-own clean

  apart : path ≢ child
  apart e = branch_differ B.par (λ z. absurd (omega (arith, next_one, z))) (sym first-branch ∙ e)

  started-held : Held (S L) L.times part info st μ₁ true (begin B.s [])
  started-held =
      h-queued next_start.comes
      (record {
        place = upd_same μ v (L.off B.b);
        soon = omega (arith, rises-le (S L) (B.b + size B.s + 2) (length (S L).xs) next_start.inner (omega arith));
      })
      (omega (arith, next_start.inner)) (clean-child part info refl next_start.unmarked)

  -- one byte less is left to the first branch, and the child is queued
  module _ {u : Tree (S L) (root L) st.process} (leaf : LeafAt L st u path q b (relaid i.w (i.left - 1) i))
      (rest : Rest L st μ₁ u (Starting path B) ws) (lines : Lined L st u (Starting path B) ws)
      (bytes : bytes_left (S L) u + i.left ≡ bytes_left (S L) t + (i.left - 1))
      (others : (other : List ℕ) (r : Process) (c : Part) (j : Info) → path ≢ other → LeafAt L st t other r c j
      → LeafAt L st u other r c j) where
    child-leaf : LeafAt L st u child (begin B.s []) part info
    child-leaf = others child (begin B.s []) part info apart next_start.leaf

    abbrev s₂ : World
    s₂ = joined w ws s₁

    starts_is : {Out : List ℕ → Type 0} → Woken L s₁ st μ₁ u Out w ws → Executes L (operation I.startp) s s₂
    unfolding function_in operand_in
    starts_is woken =
        executes
        (exec-startp w (cpu_of s).b (L.off (suc at)) s point.child refl A.placed
        (rw (size_is L A.real) (omega (arith, below-v, placed.low, part_small L next_start.leaf)))
        ∙ rw (point.place, join-queue w s₁ A.run woken.enqueued))

    fewer-left : i.left - 1 + 1 ≡ i.left
    fewer-left = omega (arith, A.left, near, rises-le (S L) (suc at) B.first (omega (arith, seg-length point.rest)) inner)

    -- none is left to be started
    module _ (e : B.ss ≡ no_stmt) where
      only-left : (other : List ℕ) → child ≢ other → Starting path B other → Only path other
      unfolding how_many
      only-left other n (inl z) = z
      only-left other n (inr (not-started zero few z)) = absurd (n (sym z))
      only-left other n (inr (not-started (suc k) few z)) = absurd (omega (arith, ap how_many e))

      last-woken : Woken L s₁ st μ₁ u (Only path) w ws
      last-woken = wakes L real₁ rest lines child-leaf out started-held only-left (λ other z. inl z) apart

      last-started : Did L (Executes L (operation I.startp) s) s st (bytes_left (S L) t)
      unfolding code_starts
      last-started =
          let first-is : B.first ≡ suc at =
          seg-length
          (subst
          (λ z. Seg (S L).xs (suc at) (code_starts (S L).word (B.d + need B.s) (suc at) (B.b + size B.s + 2) z) B.first) e
          point.rest) ∙ omega arith in
          let n = i.left - 1 in
          let intact = last-woken.intact {skip = 0} leaf refl in
          let mine : Comes (S L) b st.store i.vars i.chans hi q B.first i.w =
          subst (λ z. Comes (S L) b st.store i.vars i.chans hi q B.first z) (sym same_w) own in
          elim (settle L last-woken.real leaf last-woken.rest last-woken.lines n
          (record {
            run = A.run;
            operand = A.operand;
            place = A.placed ∙ ap L.off (sym first-is);
            work = point.same_w ∙ sym same_w;
            inside = inner;
          }) mine
          (unmarked-stays (S L) b (relaid i.w n i) (omega (arith, part_small L leaf, (S L).top_small)) (sits-at L leaf) intact clean₁)
          (omega (arith, A.left, ap L.off first-is)) (sits-at L leaf).few) [
            | settles g ms inv z ↦
                came s₂ g (starts_is last-woken) ms (silent L s s₂ refl) inv (inl (omega (arith, bytes, fewer-left)))
          ]

    -- others are
    module _ (r : Stmt) (rs : Stmts) (e : B.ss ≡ stmt r rs) where
      abbrev C : StartsLeft
      C =
          record {
            par = B.par;
            next = B.next + 1;
            s = r;
            ss = rs;
            d = B.d + need B.s;
            b = B.b + size B.s + 2;
            first = B.first;
            w = B.w;
            vars = B.vars;
            chans = B.chans;
          }

      number : (k : ℕ) → B.next + suc k ≡ B.next + 1 + k
      number k = omega arith

      fewer : (other : List ℕ) → Starting path C other → Starting path B other
      unfolding how_many
      fewer other (inl z) = inl z
      fewer other (inr (not-started k few z)) =
          inr (not-started (suc k) (omega (arith, ap how_many e)) (z ∙ ap (λ n. B.par ++ n ∷ []) (sym (number k))))

      still : (other : List ℕ) → child ≢ other → Starting path B other → Starting path C other
      unfolding how_many
      still other n (inl z) = inl z
      still other n (inr (not-started zero few z)) = absurd (n (sym z))
      still other n (inr (not-started (suc k) few z)) =
          inr (not-started k (omega (arith, ap how_many e)) (z ∙ ap (λ n. B.par ++ n ∷ []) (number k)))

      not-child : Starting path C child → ⊥
      not-child (inl z) = apart z
      not-child (inr (not-started k few z)) = branch_differ B.par (λ y. absurd (omega (arith, y))) z

      next-woken : Woken L s₁ st μ₁ u (Starting path C) w ws
      next-woken = wakes L real₁ rest lines child-leaf out started-held still fewer not-child

      abbrev μ₂ : Mem
      μ₂ = linked_to L w ws μ₁

      still-clean : {other : List ℕ} {x : Process} {c : Part} {j : Info} → LeafAt L st u other x c j → Starting path C other
          → Unmarked (S L) c j st μ₁ → Unmarked (S L) c j st μ₂
      still-clean {c = c} {j} h o z =
          unmarked-stays (S L) c j (omega (arith, part_small L h, (S L).top_small)) (sits-at L h) (next-woken.intact {skip = 0} h o) z

      all-to-start₂ : (k : ℕ) (x : Stmt) (d f : ℕ) → Later (stmt r rs) C.d C.b k x d f → ToStart L st μ₂ u C k x d f
      all-to-start₂ k x d f h =
          let y = all-to-start (suc k) x d f (l-next (subst (λ z. Later z C.d C.b k x d f) (sym e) h)) in
          let leaf₂ = others (B.par ++ (B.next + suc k) ∷ []) (begin x []) (part_of B.vars B.chans (B.w - d) (joins d) x)
          (new_info (S L) B.vars B.chans (B.w - d))
          (λ z. branch_differ B.par (λ m. absurd (omega (arith, next_one, m))) (sym first-branch ∙ z)) y.leaf in
          let leaf₃ = subst (λ n. LeafAt L st u (B.par ++ n ∷ []) (begin x []) (part_of B.vars B.chans (B.w - d) (joins d) x)
          (new_info (S L) B.vars B.chans (B.w - d))) (number k) leaf₂ in
          let few : k ≤ how_many rs = later-few h in
          record {
            leaf = leaf₃;
            comes = y.comes;
            inner = y.inner;
            room = y.room;
            unmarked = still-clean leaf₃ (inr (not-started k few refl))
                (clean-child (part_of B.vars B.chans (B.w - d) (joins d) x)
                (new_info (S L) B.vars B.chans (B.w - d)) refl y.unmarked);
          }

      next-started : Did L (Executes L (operation I.startp) s) s st (bytes_left (S L) t)
      next-started =
          came s₂ [] (starts_is next-woken) t-none (silent L s s₂ refl)
          (starts C next-woken.real A.run leaf next-woken.rest next-woken.lines
          (record {
            hi = hi;
            at = suc at;
            first-branch = first-branch;
            next_one = omega arith;
            same_w = same_w;
            here = fresh L (suc at) (cpu_of s₂).place (cpu_of s₂).operand A.inside A.placed A.operand;
            way = start-path (S L) st.store r rs C.d C.b (sound-at L rest leaf).bytes
                (omega (arith, (sits-at L A.leaf).placed.low, part_small L A.leaf, small_size L, same_w))
                (subst (λ z. Seg (S L).xs (suc at) (code_starts (S L).word C.d (suc at) C.b z) B.first) e point.rest)
                (omega (arith, next_start.room)) next_start.inner inner near point.same_w;
            all-to-start = all-to-start₂;
            own = own;
            inner = inner;
            near = near;
            unmarked = still-clean leaf (inl refl) clean₁;
            soon = omega (arith, A.left, A.placed);
          })) (inl (omega (arith, bytes, fewer-left)))

  pub did-start : Did L (Executes L (operation I.startp) s) s st (bytes_left (S L) t)
  did-start =
      elim (relabel L A.leaf (inl refl) i.w (i.left - 1) (λ e. refl) (sits-at L A.leaf).placed
      (omega (arith, (sits-at L A.leaf).few)) rest₁ A.lined) [
        | relabelled u leaf rest lines bytes others ↦ by leaf rest lines bytes others B.ss refl
      ]
    where
      by : {u : Tree (S L) (root L) st.process} (leaf : LeafAt L st u path q b (relaid i.w (i.left - 1) i))
          (rest : Rest L st μ₁ u (Starting path B) ws) (lines : Lined L st u (Starting path B) ws)
          (bytes : bytes_left (S L) u + i.left ≡ bytes_left (S L) t + (i.left - 1))
          (others : (other : List ℕ) (r : Process) (c : Part) (j : Info) → path ≢ other → LeafAt L st t other r c j
          → LeafAt L st u other r c j)
          (ss : Stmts) → B.ss ≡ ss → Did L (Executes L (operation I.startp) s) s st (bytes_left (S L) t)
      by leaf rest lines bytes others no_stmt e = last-started leaf rest lines bytes others e
      by leaf rest lines bytes others (stmt r rs) e = next-started leaf rest lines bytes others r rs e
