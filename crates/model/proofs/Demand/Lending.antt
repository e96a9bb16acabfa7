-- What a call lends: the invariant looks at the machine's words only, and a byte at the code that the start had.
use Prim.Native.Nat.{ℕ, ◌*◌, ◌≤◌, ◌<◌}
use native.Mathlib.Omega.{arith}
use native.Mathlib.Nat.{le_trans, mul-le-mul_right}
use mathlib.Core.Path.{◌≡◌, refl, ◌∙◌}
use mathlib.Core.List.Memᴰ
use mathlib.Core.List.{List, ◌++◌, Memᴰ}
use lib.ListN.{length, get_or, get_or-append}
use lib.Dec.{ltb}
use borrow.Author.Tests.{ltb-true}
use Rattle.model.specs.Accept.{limit}
use Rattle.model.specs.Machine.{Talk, World, link_word}
use Rattle.model.specs.Run.{fetch, byte}
use Rattle.model.specs.History.{notes}
use Rattle.model.specs.Occam.{State}
use Rattle.model.specs.declared.Machine.{Machine}
use Rattle.model.proofs.Cases.{by_bool}
use Rattle.model.proofs.Quiet.Ways.{Mem}
use Rattle.model.proofs.Quiet.Setting.{whole}
use Rattle.model.proofs.Occam.Live.{leaves, most, leaves-most}
use Rattle.model.proofs.Quiet.Timing.{onto_same}
use Rattle.model.proofs.Invariant.Trees.{Tree, bytes_left, bytes-few}
use Rattle.model.proofs.Effects.OneWord.{cpu_of}
use Rattle.model.proofs.Effects.Queues.{Queue, empty, some, links-stable}
use Rattle.model.proofs.Invariant.Kernel.{Loaded, S, root, size, Real, sits-at}
use Rattle.model.proofs.Invariant.Running.{Inv, runs, starts, idle}
use Rattle.model.proofs.Invariant.Reals.{links-in, offer-world}
use Rattle.model.proofs.Outside.Bystanders.{SameRegs, now-stays, starts-stays, part-high}
use Rattle.model.proofs.Outside.Wakings.{intact-refl}

-- more code than the start had is never looked at
pub byte-lent : (code more : List ℕ) (s : World) → s.machine.setup.code ≡ length code → byte (code ++ more) s ≡ byte code s
unfolding byte fetch
byte-lent code more s e =
    by_bool (ltb (cpu_of s).place s.machine.setup.code)
    (λ h.
    let inner : (cpu_of s).place < length code = omega (arith, ltb-true (cpu_of s).place s.machine.setup.code h, e) in
    rw (h, get_or-append code more 0 (cpu_of s).place inner))
    (λ h. rw h)

-- nor what a byte of the start's code tells
pub notes-lent : (code more : List ℕ) (m : Machine) → m.cpu.place < length code → notes (code ++ more) m ≡ notes code m
unfolding notes
notes-lent code more m h = rw (get_or-append code more 0 m.cpu.place h)

module _ (L : Loaded) where
  tree-few : (st : State) (t : Tree (S L) (root L) st.process) → most st.process ≤ limit → bytes_left (S L) t ≤ limit * whole (S L)
  tree-few st t h =
      let a = bytes-few (S L) t in
      let b : leaves st.process ≤ limit = omega (arith, leaves-most st.process) in
      le_trans a (mul-le-mul_right (whole (S L)) b)

  -- a machine with other communications, over another memory with the same words
  abbrev pub over : World → List ℕ → List Talk → World
  over s l k = record { machine = s.machine; memory = l; talk = k }

  module _ {s : World} (l : List ℕ) (k : List Talk) (fits : size L ≤ length l)
      (same : (a : ℕ) → a < size L → get_or l a 0 ≡ get_or s.memory a 0) where
    real-lent : {st : State} {μ : Mem} {ws : List ℕ} → ((v : ℕ) → Memᴰ v ws → link_word v < size L) → Real L s st μ ws
        → Real L (over s l k) st μ ws
    real-lent {ws = ws} links r =
        record {
          setup-kept = r.setup-kept;
          no-fault = r.no-fault;
          room = fits;
          mirror = λ a h. same a h ∙ r.mirror a h;
          queue = by r.queue links;
          eight = r.eight;
          offers = λ n h. offer-world L refl refl (r.offers n h);
          beyond = r.beyond;
          timed = r.timed;
          front = r.front;
        }
      where
        by : {ws : List ℕ} → Queue s ws → ((v : ℕ) → Memᴰ v ws → link_word v < size L) → Queue (over s l k) ws
        by (empty e) links = empty e
        by (some e f k l) links = some e f k (links-stable (λ v m. same (link_word v) (links v m)) l)

    same_regs : SameRegs L (over s l k) s
    same_regs = record { run = refl; place = refl; operand = refl; regs = refl }

    pub inv-lent : {st : State} {n : ℕ} → Inv L s st n → Inv L (over s l k) st n
    inv-lent (runs real run leaf rest lines now) =
        runs (real-lent (links-in L lines) real) run leaf rest lines
        (now-stays L same_regs (part-high L leaf) (sits-at L leaf) (λ w. onto_same refl) (intact-refl L) now)
    inv-lent (starts B real run leaf rest lines now) =
        starts B (real-lent (links-in L lines) real) run leaf rest lines
        (starts-stays L same_regs leaf (λ path q b i k o. (k, intact-refl L)) now)
    inv-lent (idle real stop operand rest) = idle (real-lent (λ v m. absurd (Memᴰ.not-nil m)) real) stop operand rest

  -- no more bytes are left than all processes that may be live have
  pub inv-few : {s : World} {st : State} {n : ℕ} → Inv L s st n → most st.process ≤ limit → n ≤ limit * whole (S L)
  inv-few {st = st} (runs {t} real run leaf rest lines now) h = tree-few st t h
  inv-few {st = st} (starts {t} B real run leaf rest lines now) h = tree-few st t h
  inv-few {st = st} (idle {t} real stop operand rest) h = tree-few st t h

  -- the memory is long enough
  pub inv-room : {s : World} {st : State} {n : ℕ} → Inv L s st n → size L ≤ length s.memory
  inv-room (runs real run leaf rest lines now) = real.room
  inv-room (starts B real run leaf rest lines now) = real.room
  inv-room (idle real stop operand rest) = real.room
