-- Laws of actions of memory alone: whatever the stack holds they do the same, and the process stays where it is.
use Prim.Native.Nat.{ℕ, ◌≤◌, ◌<◌}
use mathlib.Core.Path.{◌≡◌, refl, ap, sym, ◌∙◌}
use mathlib.Core.Bool.{Bool, true, false, cond}
use mathlib.Core.List.{List, []}
use borrow.Author.Tests.{lt-ltb, ltb-true}
use lib.ListN.{get_or, set, length}
use Rattle.std.specs.Prelude.{◌++◌}
use lib.Dec.{ltb, eqb}
use Rattle.std.specs.Prelude.{Ok, Err, Option, Some, None, is_some}
use Rattle.model.specs.Word.{not_process}
use Rattle.model.specs.Machine.{World, Act, Result, done, faults, next, ◌>>=◌, ◌>>◌, return, with_cpu, with_memory, registers, name_of}
use Rattle.model.specs.Machine.{memory_size, stack, peek, poke, state_word, release, changing}
use Rattle.model.specs.Alternative.{set_ready, ready, select, none_selected, wait_alt}
use Rattle.model.specs.Run.{land, no_timer}
use Rattle.model.specs.declared.Cpu.{Cpu}
use Rattle.model.specs.declared.Setup.{Setup}
use Rattle.std.specs.Prelude.{None}
use Rattle.model.specs.declared.FaultKind.{FaultKind}
use Rattle.model.specs.declared.FaultKind.TheVariants.{Word}
use Rattle.processor.specs.Seen.{Step, Peeked, Rest, whole, world, Keeps, Does, Finds}
use Rattle.processor.specs.Pieces.{landing, poke2_tell}
use Rattle.processor.specs.Quiet.{quiet, offering, Takes, HeldAt, offered}
use Rattle.processor.proofs.Laws.{next-next, first-place}
use Rattle.processor.proofs.Talking.{lands, still-held}
use Rattle.alternative.specs.Guards.{choosing, selecting, disable_held, enable_inside, wait_ready}

-- what such an action comes to: a value and the memory after it, or a fault
pub data Outcome (A : Type 0) : Type 0 where
  gave : A → List ℕ → Outcome A
  failed : FaultKind → Outcome A

-- as the model's result
abbrev pub placed : {A : Type 0} → Rest → Setup → Cpu → Outcome A → Result A
placed x u r (gave n m) = done n (whole x u r m)
placed x u r (failed k) = faults k

-- an action that comes to the same whatever the stack holds, and keeps all registers
pub record Blind {A : Type 0} (u : Setup) (r : Cpu) (act : Act A) (l : List ℕ) : Type 0 where
  pub comes : Outcome A
  pub said : (x : Rest) (a b c : ℕ) → act (whole x u (stack a b c r) l) ≡ placed x u (stack a b c r) comes

-- a word inside the memory, or the fault
inside :
    {A : Type 0} (t : Bool) (x : Rest) (u : Setup) (r : Cpu) (n : A) (m : List ℕ) (k : FaultKind)
    → cond t (done n (whole x u r m)) (faults k) ≡ placed x u r (cond t (gave n m) (failed k))
inside true x u r n m k = refl
inside false x u r n m k = refl

module _ {u : Setup} {r : Cpu} where
  -- a value
  gives : {A : Type 0} (n : A) (l : List ℕ) → Blind u r (return n) l
  gives n l = record { comes = gave n l; said = λ x a b c. refl }

  -- a word is looked at
  peeks : (a : ℕ) (l : List ℕ) → Blind u r (peek a) l
  unfolding peek
  peeks a l =
      record {
        comes = cond (ltb a (memory_size u)) (gave (get_or l a 0) l) (failed (Word a));
        said = λ x d b c. inside (ltb a (memory_size u)) x u (stack d b c r) (get_or l a 0) l (Word a);
      }

  -- a word is written
  pub pokes : (a v : ℕ) (l : List ℕ) → Blind u r (poke a v) l
  unfolding poke
  pokes a v l =
      record {
        comes = cond (ltb a (memory_size u)) (gave tt (set l a v)) (failed (Word a));
        said = λ x d b c. inside (ltb a (memory_size u)) x u (stack d b c r) tt (set l a v) (Word a);
      }

  -- one action or another
  either : {A : Type 0} {f g : Act A} {l : List ℕ} (t : Bool) → Blind u r f l → Blind u r g l → Blind u r (cond t f g) l
  either true d e = d
  either false d e = e

  -- one after the other
  then :
      {A B : Type 0} {act : Act A} {l : List ℕ} (f : A → Act B) → Blind u r act l → ((n : A) (m : List ℕ) → Blind u r (f n) m)
      → Blind u r (do n ← act; f n) l
  then {A} {B} {act} {l} f d e = joined d.comes d.said
    where
      joined :
          (o : Outcome A) → ((x : Rest) (a b c : ℕ) → act (whole x u (stack a b c r) l) ≡ placed x u (stack a b c r) o)
          → Blind u r (do n ← act; f n) l
      joined (gave n m) h = record { comes = (e n m).comes; said = λ x a b c. rw (h x a b c) ((e n m).said x a b c) }
      joined (failed k) h = record { comes = failed k; said = λ x a b c. rw (h x a b c) }

  -- an action that computes to another
  alike :
      {A : Type 0} {act other : Act A} {l : List ℕ} → Blind u r other l
      → ((x : Rest) (a b c : ℕ) → act (whole x u (stack a b c r) l) ≡ other (whole x u (stack a b c r) l)) → Blind u r act l
  alike d e = record { comes = d.comes; said = λ x a b c. e x a b c ∙ d.said x a b c }

  -- a ready guard's branch
  pub selects : (b : ℕ) (l : List ℕ) → Blind u r (select b) l
  unfolding select
  selects b l =
      let w = r.workspace in
      alike
      (then (λ t. cond (eqb t none_selected) (do poke w b; return 1) (return 0)) (peeks w l)
      (λ t m. either (eqb t none_selected) (then {B = ℕ} (λ n. return 1) (pokes w b m) (λ n. gives 1)) (gives 0 m)))
      (λ x a b c. refl)

  -- the state becomes Ready
  pub readies : (l : List ℕ) → Blind u r set_ready l
  unfolding set_ready
  readies l = alike (pokes (state_word r.workspace) ready l) (λ x a b c. refl)

  -- ENBC with a true condition, where no offer is held
  pub enables : (c : ℕ) (l : List ℕ) → Blind u r (enable_inside c) l
  enables c l =
      let w = name_of r.workspace in
      alike
      (then (λ p. cond (eqb p not_process) (poke c w) (cond (eqb p w) (return tt) set_ready)) (peeks c l)
      (λ p m. either (eqb p not_process) (pokes c w m) (either (eqb p w) (gives tt m) (readies m))))
      (λ x a b c. refl)

  -- DISC with a held offer
  pub selects-held : (c b : ℕ) (l : List ℕ) → Blind u r (do t ← select b; poke c not_process; return t) l
  selects-held c b l =
      then (λ t. do poke c not_process; return t) (selects b l) (λ t m. then (λ n. return t) (pokes c not_process m) (λ n. gives t))

  -- DISC without, where the channel's word is p
  pub selects-inside :
      (c b p : ℕ) (l : List ℕ)
      → Blind u r (cond (eqb p not_process) (return 0) (cond (eqb p (name_of r.workspace)) (do poke c not_process; return 0) (select b))) l
  selects-inside c b p l =
      either (eqb p not_process) (gives 0 l)
      (either (eqb p (name_of r.workspace)) (then {B = ℕ} (λ n. return 0) (pokes c not_process l) (λ n. gives 0)) (selects b l))

module _ (x : Rest) (u : Setup) (r : Cpu) (l : List ℕ) (t : r.running ≡ true) (p : r.place ≤ u.code) where
  -- the process stays where it is
  pub stays : {act : Act (Unit {0})} → Blind u r act l → landing act (whole x u r l) ≡ act (whole x u r l)
  stays {act} d = rw (d.said x r.a r.b r.c) (go d.comes)
    where
      go : (o : Outcome (Unit {0})) → next (placed x u r o) (λ n. land) ≡ placed x u r o
      go (gave n m) = lands (whole x u r m) t p
      go (failed k) = refl

  -- the stack, at which the action does not look, may change before it
  pub moves :
      {act : Act (Unit {0})} (a b c : ℕ) (f : Cpu → Cpu) → f r ≡ stack a b c r → Blind u r act l
      → landing (do act; changing f) (whole x u r l) ≡ act (whole x u (stack a b c r) l)
  moves {act} a b c f e d = rw (d.said x r.a r.b r.c, d.said x a b c) (go d.comes)
    where
      go : (o : Outcome (Unit {0})) → next (next (placed x u r o) (λ n. changing f)) (λ n. land) ≡ placed x u (stack a b c r) o
      go (gave n m) = rw e (lands (whole x u (stack a b c r) m) t p)
      go (failed k) = refl

  -- so may B where A then says whether a branch was chosen
  pub chooses :
      {act : Act ℕ} (a : ℕ) (f : Cpu → ℕ) → Blind u r act l
      → landing (do n ← act; changing (λ q. stack n (f q) q.c q)) (whole x u r l)
      ≡ choosing act (whole x u (stack a (f r) r.c r) l)
  chooses {act} a f d = rw (d.said x r.a r.b r.c, d.said x a (f r) r.c) (go d.comes)
    where
      go :
          (o : Outcome ℕ)
          → next (next (placed x u r o) (λ n. changing (λ q. stack n (f q) q.c q))) (λ n. land)
          ≡ next (placed x u (stack a (f r) r.c r) o) (λ n. changing (λ q. stack n q.b q.c q))
      go (gave n m) = lands (whole x u (stack n (f r) r.c r) m) t p
      go (failed k) = refl

-- writing a word looks at no registers, and what comes after it may change them
poked :
    (t : Bool) (s : World) (q : Result (Unit {0})) (k : FaultKind) (g : Act (Unit {0})) → g s ≡ q
    → next (cond t (done (tt {0}) s) (faults k)) (λ n. g) ≡ cond t q (faults k)
poked true s q k g e = e
poked false s q k g e = refl

pub poke-changing :
    (s : World) (r : Cpu) (a v : ℕ) (g : Act (Unit {0}))
    → ((m : List ℕ) → g (with_memory m s) ≡ done tt (with_memory m (with_cpu r s))) → (do poke a v; g) s ≡ poke a v (with_cpu r s)
unfolding poke
poke-changing s r a v g e =
    let m = set s.memory a v in
    poked (ltb a (memory_size s.machine.setup)) (with_memory m s) (done tt (with_memory m (with_cpu r s))) (Word a) g (e m)

-- a word that is written before A says whether a branch was chosen may be written after that
later :
    (c v : ℕ) (q : Result ℕ)
    → next (next q (λ n. do poke c v; return n)) (λ n. changing (λ r. stack n r.b r.c r))
    ≡ next (next q (λ n. changing (λ r. stack n r.b r.c r))) (λ n. poke c v)
later c v (done n s) =
    next-next (poke c v s) (λ t. return n) (λ n. changing (λ r. stack n r.b r.c r))
    ∙ poke-changing s _ c v (changing (λ r. stack n r.b r.c r)) (λ m. refl)
later c v (faults k) = refl

pub poke-later : (c b : ℕ) (s : World) → disable_held c b s ≡ (do selecting b; poke c not_process) s
poke-later c b s = later c not_process (select b s)

-- a rest of the world
nothing : Rest
nothing = record { behind = []; timer = no_timer; offers = []; held = []; fault = None; talk = [] }

-- a word inside the memory is written without a fault
pub poke-inside :
    {u : Setup} (c v : ℕ) {r : Cpu} {l m : List ℕ} (before : List ℕ) (s : Step) → c < memory_size u → Does u (poke c v) r l s m
    → Keeps s before m
unfolding poke nothing
poke-inside c v before (Ok q) h d = tt
poke-inside {u} c v {r} {l} before (Err k) h d =
    let e : done tt (whole nothing u r (set (l ++ []) c v)) ≡ faults k = rw (lt-ltb _ _ h) at (d.said nothing) in
    cc

-- a word that was looked at is inside
found_inside : {A : Type 0} (t : Bool) (n m : A) (s q : World) (k : FaultKind) → cond t (done n s) (faults k) ≡ done m q → t ≡ true
found_inside true n m s q k e = refl
found_inside false n m s q k e = cc

pub peek-inside :
    (a : ℕ) (l : List ℕ) {v : ℕ} {p : Peeked} (u : Setup) (r : Cpu) → memory_size u ≡ length l → Finds (peek a) l p → p ≡ Ok v
    → a < length l
unfolding peek nothing
peek-inside a l {v = v} u r h d e =
    let s = world nothing u r l in
    rw (← h) (ltb-true _ _ (found_inside (ltb a (memory_size u)) (get_or (l ++ []) a 0) v s s (Word a) (rw e at (d u h nothing r))))

-- two words are written and the processor is free, with no process to tell
pub poke2-release : (a v b w : ℕ) (s : World) → landing (do poke a v; poke b w; release) s ≡ poke2_tell a v b w 0 0 s
poke2-release a v b w s = simp next-next (ap (λ (f : Act (Unit {0})). (do poke a v; poke b w; release; f) s) first-place)

-- ALTWT: no branch is chosen, and the rest of it
pub waits :
    (s : World)
    → landing wait_alt s ≡ (do r ← registers; poke r.workspace none_selected; wait_ready r.workspace r.place) s
unfolding wait_alt
waits s = next-next (poke s.machine.cpu.workspace none_selected s) _ _

-- whether an offer is held on a channel's word, by the number that was looked for
pub offered-at :
    (c : ℕ) (u : Setup) (b : List Bool) (k : Option ℕ) {s t : Bool} → HeldAt c u b k → s ≡ is_some k → s ≡ t → offered c u b ≡ t
offered-at c u b (Some k) h e g = h.0 ∙ sym e ∙ g
offered-at c u b None h e g = h ∙ sym e ∙ g

-- an action that sees which offers are held and comes to one that does not
pub sees :
    {u : Setup} {act other : Act (Unit {0})} {q r : Cpu} {l m : List ℕ} {s : Step} {b : List Bool} (o : List ℕ) → Does u other q l s m
    → ((x : Rest) → act (world (offering o b x) u r l) ≡ other (world (offering o b x) u q l)) → Takes u act r o b l s b m
sees {s = s} {b} o d e =
    record {
      said = λ x. ap quiet (e x ∙ d.said (offering o b x));
      keeps = d.keeps;
      keeps_held = still-held s b;
      long = refl;
    }
