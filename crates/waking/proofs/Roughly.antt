-- Laws of actions whose writes stand where they fault.
use Prim.Native.Nat.{ℕ}
use mathlib.Core.Path.{◌≡◌, refl, ap, sym, ◌∙◌}
use mathlib.Core.Bool.{Bool, true, false, cond}
use mathlib.Core.List.{List, []}
use lib.ListN.{length, get_or, set, length-set}
use lib.Dec.{ltb}
use Rattle.std.specs.Prelude.{◌++◌, Ok, Err}
use Rattle.std.proofs.lemmas.List.{append-nil}
use Rattle.model.specs.Machine.{◌>>◌, World, Act, done, faults, memory_size, queueing, poke, link_word, enqueue}
use Rattle.model.specs.declared.Cpu.{Cpu}
use Rattle.model.specs.declared.Setup.{Setup}
use Rattle.model.specs.declared.FaultKind.{FaultKind}
use Rattle.model.specs.declared.FaultKind.TheVariants.{Word}
use Rattle.model.proofs.Cases.{by_bool, never}
use Rattle.processor.specs.Seen.{Step, Peeked, Rest, whole, world, Does, looked, written}
use Rattle.processor.proofs.Laws.{set-whole, value-inside, fault-outside, enqueue-behind, enqueue-first}
use Rattle.processor.proofs.Looks.{any_rest}
use Rattle.waking.specs.Wakes.{Rough}

-- a word is written
pub written-long : {m : List ℕ} (l : List ℕ) (a v : ℕ) → m ≡ set l a v → length m ≡ length l
written-long l a v e = ap length e ∙ length-set l a v

module _ {u : Setup} (a v : ℕ) {l m : List ℕ} {p : Peeked} (h : memory_size u ≡ length l) where
  -- a word is written, then such an action
  pub rough-poke :
      {old : ℕ} {n : List ℕ} {s : Step} {act : Act (Unit {0})} {r : Cpu} → (p ≡ looked a l) × (m ≡ written p a v l) → p ≡ Ok old
      → Rough u act r m s n → Rough u (do poke a v; act) r l s n
  unfolding poke
  rough-poke {old} (e, w) g d =
      let b = value-inside (ltb a (length l)) (get_or l a 0) old (Word a) (sym e ∙ g) in
      let k : m ≡ set l a v = rw g at w in
      record {
        said = λ x. rw (h, b.0, set-whole l x.behind a v b.0, ← k) (d.said x);
        long = d.long ∙ written-long l a v k;
        runs = d.runs;
      }

  -- the word is outside
  pub rough-refused :
      {k : FaultKind} (act : Act (Unit {0})) (r : Cpu) → (p ≡ looked a l) × (m ≡ written p a v l) → p ≡ Err k
      → Rough u (do poke a v; act) r l (Err k) m
  unfolding poke
  rough-refused {k} act r (e, w) g =
      let b = fault-outside (ltb a (length l)) (get_or l a 0) (Word a) k (sym e ∙ g) in
      record { said = λ x. rw (h, b.0, b.1); long = ap length (rw g at w); runs = tt }

module _ {u : Setup} {r : Cpu} {l : List ℕ} where
  -- an action that comes to another
  pub rough-like :
      {act other : Act (Unit {0})} {m : List ℕ} {s : Step} → Rough u other r l s m
      → ((x : Rest) → act (world x u r l) ≡ other (world x u r l)) → Rough u act r l s m
  rough-like d e = record { said = λ x. e x ∙ d.said x; long = d.long; runs = d.runs }

  -- one that does nothing
  pub rough-ends : {act : Act (Unit {0})} → ((x : Rest) → act (world x u r l) ≡ done tt (world x u r l)) → Rough u act r l (Ok r) l
  rough-ends e = record { said = e; long = refl; runs = refl }

  -- one that only faults
  pub rough-faulty :
      {act : Act (Unit {0})} {k : FaultKind} → ((x : Rest) → act (world x u r l) ≡ faults k) → Rough u act r l (Err k) l
  rough-faulty e = record { said = e; long = refl; runs = tt }

-- registers and memory where two results are the same
same-cpu : (s t : World) → done (tt {0}) s ≡ done tt t → t.machine.cpu ≡ s.machine.cpu
same-cpu s t e = let k : s ≡ t = cc in ap (λ (w : World). w.machine.cpu) (sym k)

same_memory : (s t : World) → done (tt {0}) s ≡ done tt t → t.memory ≡ s.memory
same_memory s t e = let k : s ≡ t = cc in ap (λ (w : World). w.memory) (sym k)

module _ {u : Setup} (p : ℕ) (r : Cpu) (l : List ℕ) (h : memory_size u ≡ length l) where
  -- a process has joined the queue behind others
  behind :
      (a : ℕ) (q : Cpu) (m : List ℕ) (t : Bool) → ltb a (length l) ≡ t
      → let n = queueing r.front p true r in
      cond t (done tt (whole any_rest u n (set (l ++ []) a p))) (faults (Word a)) ≡ done (tt {0}) (world any_rest u q m)
      → (length m ≡ length l) × (q.running ≡ r.running)
  behind a q m true t e =
      let k = rw (append-nil l, append-nil m) at (same_memory _ _ e) in
      (written-long l a p k, ap (λ (c : Cpu). c.running) (same-cpu _ _ e))
  behind a q m false t e = never (cc)

  -- or as the only one
  joined :
      (q : Cpu) (m : List ℕ) → enqueue p r (world any_rest u r l) ≡ done tt (world any_rest u q m)
      → (length m ≡ length l) × (q.running ≡ r.running)
  unfolding poke
  joined q m e =
      by_bool r.queued
      (λ t. behind (link_word r.back) q m _ refl (rw h at (sym (enqueue-behind any_rest u r (l ++ []) p t) ∙ e)))
      (λ t.
      let k = sym (enqueue-first any_rest u r (l ++ []) p t) ∙ e in
      (ap length (rw (append-nil l, append-nil m) at (same_memory _ _ k)), ap (λ (c : Cpu). c.running) (same-cpu _ _ k)))

  pub rough-enqueue : {m : List ℕ} (s : Step) → Does u (enqueue p r) r l s m → Rough u (enqueue p r) r l s m
  rough-enqueue {m} (Ok q) d =
      let k = joined q m (d.said any_rest) in
      record { said = d.said; long = k.0; runs = k.1 }
  rough-enqueue (Err k) d = record { said = d.said; long = ap length d.keeps; runs = tt }
