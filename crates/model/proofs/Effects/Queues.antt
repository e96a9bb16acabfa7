-- The queue as a list of workspaces. The processes in it are chained by their link words, from the front to the back.
use Prim.Native.Nat.{ℕ, ◌≤◌, ◌<◌, ◌^◌}
use native.Mathlib.Omega.{arith}
use mathlib.Core.Path.{◌≡◌, refl, ap, ◌∙◌}
use mathlib.Core.Logic.{◌≢◌, ⊎_elim}
use mathlib.Core.Bool.{Bool, true, false}
use mathlib.Core.List.Memᴰ
use mathlib.Core.List.{List, [], ◌∷◌, ◌++◌, Memᴰ}
use lib.ListN.{length, set}
use lib.Seq.{get_or-set_same, get_or-set_other}
use Rattle.model.specs.Machine.{World, Result, done, with_cpu, with_memory, release, join, enqueue, running, queueing, resume_word}
use Rattle.model.specs.Machine.{link_word, name_of}
use Rattle.model.specs.declared.Cpu.{Cpu}
use Rattle.model.proofs.Quiet.Ways.{Mem}
use Rattle.model.proofs.Effects.OneWord.{cpu_of, size_of, mem_of, stored, enqueue-empty}
use Rattle.model.proofs.Effects.Acts.{taken, when_true, enqueue-behind-in, join-free-in, release-none, release-last, release-more}

-- from the front to the back each process links to the next; the back's link word holds anything
pub data Links (μ : Mem) : (front back : ℕ) → List ℕ → Type 0 where
  one : {f : ℕ} → Links μ f f (f ∷ [])
  more : {f g k : ℕ} {ws : List ℕ} → μ (link_word f) ≡ name_of g → Links μ g k ws → Links μ f k (f ∷ ws)

-- the workspaces that are queued, the front first. Registers and link words hold their names
pub data Queue (s : World) : List ℕ → Type 0 where
  empty : (cpu_of s).queued ≡ false → Queue s []
  some : {f k : ℕ} {ws : List ℕ} → (cpu_of s).queued ≡ true → (cpu_of s).front ≡ name_of f → (cpu_of s).back ≡ name_of k
      → Links (mem_of s) f k ws → Queue s ws

-- no two of the workspaces have the same link word; so no two are the same
pub data Apart : List ℕ → Type 0 where
  apart_none : Apart []
  apart : {w : ℕ} {ws : List ℕ} → ((v : ℕ) → Memᴰ v ws → link_word w ≢ link_word v) → Apart ws → Apart (w ∷ ws)

-- the link words are in the machine's memory
abbrev pub LinksIn : World → List ℕ → Type 0
LinksIn s ws = (v : ℕ) → Memᴰ v ws → link_word v < size_of s

-- the first of some workspaces, or w where there is none
abbrev pub first_among : (w : ℕ) → List ℕ → ℕ
first_among w [] = w
first_among w (v ∷ vs) = v

-- the last of w and the workspaces after it
abbrev pub last_of : (w : ℕ) → List ℕ → ℕ
last_of w [] = w
last_of w (v ∷ vs) = last_of v vs

-- whether there is a workspace
abbrev pub any_of : List ℕ → Bool
any_of [] = false
any_of (v ∷ vs) = true

-- what holds of some workspaces and of one more holds of all of them
pub each_snoc : {ws : List ℕ} (P : ℕ → Type 0) (w : ℕ) → ((v : ℕ) → Memᴰ v ws → P v) → P w
    → (v : ℕ) → Memᴰ v (ws ++ w ∷ []) → P v
each_snoc {ws} P w h p v m =
    ⊎_elim (λ l. h v l) (λ l. let e : v ≡ w = Memᴰ.eq_of_singleton l in rw (e) p) (Memᴰ.append_cases ws m)

-- different words have different link words
pub link-injective : (v w : ℕ) → v < 2 ^ 32 → w < 2 ^ 32 → link_word v ≡ link_word w → v ≡ w
link-injective v w h k e = omega arith

-- one more behind the others
pub apart_snoc : {ws : List ℕ} (w : ℕ) → ((v : ℕ) → Memᴰ v ws → link_word v ≢ link_word w) → Apart ws → Apart (ws ++ w ∷ [])
apart_snoc w d apart_none = apart (λ v m. absurd (Memᴰ.not-nil m)) apart_none
apart_snoc w d (apart {w = x} n a) =
    apart (each_snoc (λ v. link_word x ≢ link_word v) w n (d x (Memᴰ.head refl))) (apart_snoc w (λ v m. d v (Memᴰ.tail m)) a)

-- what is chained is not nothing; the front is the first, the back is the last
links-some : {μ : Mem} {f k : ℕ} → Links μ f k [] → ⊥
links-some l = elim l [ ]

links-front : {μ : Mem} {f k w : ℕ} {ws : List ℕ} → Links μ f k (w ∷ ws) → f ≡ w
links-front one = refl
links-front (more e l) = refl

links-back : {μ : Mem} {f k w : ℕ} {ws : List ℕ} → Links μ f k (w ∷ ws) → k ≡ last_of w ws
links-back one = refl
links-back {ws = []} (more e l) = absurd (links-some l)
links-back {ws = v ∷ vs} (more e l) = links-back l

links-ends : {μ : Mem} {f k w : ℕ} {ws : List ℕ} → Links μ f k (w ∷ ws) → Links μ w (last_of w ws) (w ∷ ws)
links-ends one = one
links-ends {ws = []} (more e l) = absurd (links-some l)
links-ends {ws = v ∷ vs} (more e l) = more (e ∙ ap name_of (links-front l)) (links-ends l)

links-next : {μ : Mem} {f k w v : ℕ} {vs : List ℕ} → Links μ f k (w ∷ v ∷ vs)
    → (μ (link_word w) ≡ name_of v) × Links μ v (last_of v vs) (v ∷ vs)
links-next (more e l) = (e ∙ ap name_of (links-front l), links-ends l)

links-last : {μ : Mem} {f k : ℕ} {ws : List ℕ} → Links μ f k ws → Memᴰ k ws
links-last one = Memᴰ.head refl
links-last (more e l) = Memᴰ.tail (links-last l)

-- a memory that agrees on the link words
pub links-stable : {μ ν : Mem} {f k : ℕ} {ws : List ℕ} → ((v : ℕ) → Memᴰ v ws → ν (link_word v) ≡ μ (link_word v))
    → Links μ f k ws → Links ν f k ws
links-stable h one = one
links-stable h (more {f} e l) = more (h f (Memᴰ.head refl) ∙ e) (links-stable (λ v m. h v (Memᴰ.tail m)) l)

-- one more behind the back, in a memory that is changed at the back's link word only
pub links-snoc : {μ ν : Mem} {f k : ℕ} {ws : List ℕ} (w : ℕ) → Apart ws → ν (link_word k) ≡ name_of w
    → ((a : ℕ) → a ≢ link_word k → ν a ≡ μ a) → Links μ f k ws → Links ν f w (ws ++ w ∷ [])
links-snoc w a n h one = more n one
links-snoc w (apart d a) n h (more {f} {k} e l) = more (h (link_word f) (d k (links-last l)) ∙ e) (links-snoc w a n h l)

-- a world with the same queue registers that agrees on the link words has the same queue
pub queue-same : {s : World} {ws : List ℕ} (t : World) → (cpu_of t).front ≡ (cpu_of s).front → (cpu_of t).back ≡ (cpu_of s).back
    → (cpu_of t).queued ≡ (cpu_of s).queued → ((v : ℕ) → Memᴰ v ws → mem_of t (link_word v) ≡ mem_of s (link_word v))
    → Queue s ws → Queue t ws
queue-same t f k q h (empty e) = empty (q ∙ e)
queue-same t f k q h (some e d b l) = some (q ∙ e) (f ∙ d) (k ∙ b) (links-stable h l)

-- other registers
pub queue-cpu : {ws : List ℕ} (r : Cpu) (s : World) → r.front ≡ (cpu_of s).front → r.back ≡ (cpu_of s).back → r.queued ≡ (cpu_of s).queued
    → Queue s ws → Queue (with_cpu r s) ws
queue-cpu r s f k q u = queue-same (with_cpu r s) f k q (λ v m. refl) u

-- another word than the link words
pub queue-stored : {ws : List ℕ} (a x : ℕ) (s : World) → ((v : ℕ) → Memᴰ v ws → link_word v ≢ a) → Queue s ws → Queue (stored a x s) ws
queue-stored a x s d u =
    queue-same (stored a x s) refl refl refl (λ v m. get_or-set_other s.memory a (link_word v) x 0 (d v m)) u

-- the memory in which w is linked behind the last of the workspaces
abbrev pub linked : (w : ℕ) → List ℕ → List ℕ → List ℕ
linked w [] l = l
linked w (v ∷ vs) l = set l (link_word (last_of v vs)) (name_of w)

-- w has joined the queue
abbrev pub joined : (w : ℕ) → List ℕ → World → World
joined w ws s = with_cpu (queueing (name_of (first_among w ws)) (name_of w) true (cpu_of s)) (with_memory (linked w ws s.memory) s)

-- the front, w, has got the processor, and the others stay
abbrev pub released : (w : ℕ) → List ℕ → World → World
released w ws s = taken w (mem_of s (resume_word w)) (first_among w ws) (last_of w ws) (any_of ws) s

-- the last is one of them
pub last-in : (w : ℕ) (ws : List ℕ) → Memᴰ (last_of w ws) (w ∷ ws)
last-in w [] = Memᴰ.head refl
last-in w (v ∷ vs) = Memᴰ.tail (last-in v vs)

-- joining the queue, whoever has the processor
pub enqueue-queue : {ws : List ℕ} (w : ℕ) (s : World) → LinksIn s ws → Queue s ws → enqueue (name_of w) (cpu_of s) s
    ≡ done tt (joined w ws s)
enqueue-queue w s h (empty q) = enqueue-empty (name_of w) s q
enqueue-queue {ws = []} w s h (some q f k l) = absurd (links-some l)
enqueue-queue {ws = v ∷ vs} w s h (some q f k l) =
    enqueue-behind-in w v (last_of v vs) s q (f ∙ ap name_of (links-front l)) (k ∙ ap name_of (links-back l)) (h _ (last-in v vs))

-- of a machine that runs
pub join-queue : {y : Result (Unit {0})} (w : ℕ) (s : World) → (cpu_of s).running ≡ true → enqueue (name_of w) (cpu_of s) s ≡ y
    → join (name_of w) s ≡ y
unfolding join
join-queue w s r e = when_true _ _ _ s r e

-- it is then the last
pub joined-queue : {ws : List ℕ} (w : ℕ) (s : World) → size_of s ≤ length s.memory → LinksIn s ws → Apart ws → Queue s ws
    → Queue (joined w ws s) (ws ++ w ∷ [])
joined-queue w s m h a (empty q) = some refl refl refl one
joined-queue {ws = []} w s m h a (some q f k l) = absurd (links-some l)
joined-queue {ws = v ∷ vs} w s m h a (some q f k l) =
    let b = link_word (last_of v vs) in
    some refl refl refl (links-snoc w a (get_or-set_same s.memory b (name_of w) 0 (omega (arith, h _ (last-in v vs))))
    (λ i d. get_or-set_other s.memory b i (name_of w) 0 d) (links-ends l))

-- a free processor takes the process that joins; then nobody is queued
pub join-queue-free : (w : ℕ) (s : World) → (cpu_of s).running ≡ false → resume_word w < size_of s
    → join (name_of w) s ≡ done tt (released w [] s)
join-queue-free w s r h = join-free-in w _ s r h refl

pub free-queue : (w : ℕ) (s : World) → Queue (released w [] s) []
free-queue w s = empty refl

-- with nobody queued no process runs
pub release-queue-none : (s : World) → Queue s [] → release s ≡ done tt (with_cpu (running false (cpu_of s)) s)
release-queue-none s (empty q) = release-none s q
release-queue-none s (some q f k l) = absurd (links-some l)

-- and the queue is as it was
pub idle-queue : {ws : List ℕ} (s : World) → Queue s ws → Queue (with_cpu (running false (cpu_of s)) s) ws
idle-queue s u = queue-cpu (running false (cpu_of s)) s refl refl refl u

-- the front gets the processor
pub release-queue : {ws : List ℕ} (w : ℕ) (s : World) → Apart (w ∷ ws) → LinksIn s (w ∷ ws) → resume_word w < size_of s → Queue s (w ∷ ws)
    → release s ≡ done tt (released w ws s)
release-queue {ws = []} w s a h r (some q f k l) =
    release-last w _ s q (f ∙ ap name_of (links-front l)) (k ∙ ap name_of (links-back l)) r refl
release-queue {ws = v ∷ vs} w s (apart d a) h r (some q f k l) =
    release-more w (last_of v vs) v _ s q (f ∙ ap name_of (links-front l)) (k ∙ ap name_of (links-back l))
    (λ e. d _ (last-in v vs) (ap link_word e))
    (h w (Memᴰ.head refl)) (links-next l).0 r refl

-- and the others stay queued
pub released-queue : {ws : List ℕ} (w : ℕ) (s : World) → Queue s (w ∷ ws) → Queue (released w ws s) ws
released-queue {ws = []} w s u = empty refl
released-queue {ws = v ∷ vs} w s (some q f k l) = some refl refl refl (links-next l).1
