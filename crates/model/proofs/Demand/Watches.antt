-- The condition on times: what it says of the processes that wait for the clock, and that it is closed under fronts of the history.
use Prim.Native.Nat.{ℕ, ◌-◌, ◌^◌, ◌<◌, ◌/◌}
use native.Mathlib.Omega.{arith}
use mathlib.Core.Path.{◌≡◌, refl, sym, ap, ◌∙◌, subst}
use mathlib.Core.Logic.{⊎_elim, ◌≢◌}
use mathlib.Core.Bool.{true, false, Bool, ◌&&◌, not}
use mathlib.Core.List.Memᴰ
use mathlib.Core.List.{List, [], ◌∷◌, ◌++◌, Memᴰ}
use mathlib.Core.Option.{Option, none, some}
use lib.Dec.{ltb, eqb}
use borrow.Author.Tests.{ltb-true, ne_eqb, eqb-true}
use Rattle.model.specs.Word.{less, signed, after}
use Rattle.model.specs.Demand.{near, Watch, noting, all_near, unpassed, keeps, passing}
use Rattle.model.specs.History.{Note, waits_for, notes, Moment, guards_for, passes, note_of}
use Rattle.model.specs.Machine.{World}
use Rattle.model.specs.Run.{ended, waits}
use Rattle.model.specs.Occam.{State, now}
use Rattle.model.proofs.Cases.{by_bool, and_left, and_right, never}
use Rattle.model.proofs.Words.Times.{Near}
use Rattle.model.proofs.Invariant.Kernel.{Loaded}
use Rattle.model.proofs.Invariant.Traces.{trace-clock}
use Rattle.model.proofs.Invariant.Running.{Inv, Did, came}
use Rattle.model.proofs.Invariant.Context.{sleeping, inv-context}
use Rattle.model.proofs.Invariant.Finish.{inv-timed}
use Rattle.model.proofs.Steps.OneByte.{Byte, byte-goes}
use Rattle.model.proofs.Quiet.Timing.{Times}
use lib.ListN.{get_or}
use Rattle.model.specs.Prefix.{gathered}
use Rattle.model.specs.Instruction.{function_code, operation_code, opr, altend, tin, enbt}
use Rattle.model.proofs.Effects.OneWord.{cpu_of}
use Rattle.model.proofs.Steps.Altend.{byte-ends}

-- a time that is near by its test
pub near-is : (t c : ℕ) → c < 2 ^ 32 → near t c ≡ true → Near c t
unfolding signed
near-is t c word e = by_bool (ltb (less t c) (2 ^ 31)) low high
  where
    low : ltb (less t c) (2 ^ 31) ≡ true → Near c t
    low z =
        let d = ltb-true (less t c) (2 ^ 30) (and_right true (ltb (less t c) (2 ^ 30)) (rw z at e)) in
        record { before = omega (arith, d, word); behind = omega (arith, d, word) }

    high : ltb (less t c) (2 ^ 31) ≡ false → Near c t
    high z =
        let m = 2 ^ 32 - 1 - less t c in
        let d = ltb-true m (2 ^ 30 - 1) (and_left (ltb m (2 ^ 30 - 1)) true (rw z at e)) in
        record { before = omega (arith, d, word); behind = omega (arith, d, word) }

-- a time and its process
abbrev pub watch : (w t : ℕ) → (guard : Bool) → Watch
watch w t g = record { workspace = w; time = t; guard = g }

pub near-in : (c : ℕ) (xs : List Watch) → c < 2 ^ 32 → all_near c xs ≡ true → (x : Watch) → Memᴰ x xs → Near c x.time
near-in c [] word e x m = absurd (Memᴰ.not-nil m)
near-in c (y ∷ xs) word e x m =
    ⊎_elim (λ z. subst (λ (y : Watch). Near c y.time) (sym z) (near-is y.time c word (and_left (near y.time c) (all_near c xs) e)))
    (λ n. near-in c xs word (and_right (near y.time c) (all_near c xs) e) x n) (Memᴰ.cases_cons m)

-- those that were there stay where no ALTEND is told, and those that are told come
pub noted-stays : (ns : List Note) (xs : List Watch) (x : Watch) → ((w : ℕ) → Memᴰ (passes w) ns → ⊥) → Memᴰ x xs
    → Memᴰ x (noting ns xs)
noted-stays [] xs x unended m = m
noted-stays (waits_for w t ∷ ns) xs x unended m =
    noted-stays ns (watch w t false ∷ xs) x (λ v n. unended v (Memᴰ.tail n)) (Memᴰ.tail m)
noted-stays (guards_for w t ∷ ns) xs x unended m =
    noted-stays ns (watch w t true ∷ xs) x (λ v n. unended v (Memᴰ.tail n)) (Memᴰ.tail m)
noted-stays (passes w ∷ ns) xs x unended m = absurd (unended w (Memᴰ.head refl))

-- the watch of a note
pub data Noted : Note → Watch → Type 0 where
  noted-wait : {w t : ℕ} → Noted (waits_for w t) (watch w t false)
  noted-guard : {w t : ℕ} → Noted (guards_for w t) (watch w t true)

pub noted-comes : (ns : List Note) (xs : List Watch) (n : Note) (x : Watch) → Noted n x → ((w : ℕ) → Memᴰ (passes w) ns → ⊥)
    → Memᴰ n ns → Memᴰ x (noting ns xs)
noted-comes [] xs n x is unended m = absurd (Memᴰ.not-nil m)
noted-comes (p ∷ ns) xs n x is unended m =
    ⊎_elim (λ e. by is e)
    (λ k. later p (noted-comes ns (first p) n x is (λ v q. unended v (Memᴰ.tail q)) k)) (Memᴰ.cases_cons m)
  where
    first : Note → List Watch
    first (waits_for v u) = watch v u false ∷ xs
    first (guards_for v u) = watch v u true ∷ xs
    first (passes v) = passing v xs

    later : (p : Note) → Memᴰ x (noting ns (first p)) → Memᴰ x (noting (p ∷ ns) xs)
    later (waits_for v u) m = m
    later (guards_for v u) m = m
    later (passes v) m = m

    by : {n : Note} {x : Watch} → Noted n x → n ≡ p → Memᴰ x (noting (p ∷ ns) xs)
    by (noted-wait {w} {t}) e =
        subst (λ q. Memᴰ (watch w t false) (noting (q ∷ ns) xs)) e
        (noted-stays ns (watch w t false ∷ xs) (watch w t false) (λ v q. unended v (Memᴰ.tail q)) (Memᴰ.head refl))
    by (noted-guard {w} {t}) e =
        subst (λ q. Memᴰ (watch w t true) (noting (q ∷ ns) xs)) e
        (noted-stays ns (watch w t true ∷ xs) (watch w t true) (λ v q. unended v (Memᴰ.tail q)) (Memᴰ.head refl))

-- those of other workspaces stay at an ALTEND
pub passing-in : (w : ℕ) (xs : List Watch) (x : Watch) → Memᴰ x xs → x.workspace ≢ w → Memᴰ x (passing w xs)
passing-in w [] x m d = absurd (Memᴰ.not-nil m)
passing-in w (y ∷ xs) x m d =
    ⊎_elim
    (λ z.
    let off : eqb y.workspace w ≡ false = ne_eqb y.workspace w (λ e. d (ap (λ (v : Watch). v.workspace) z ∙ e)) in
    rw (off, and_none y.guard) (Memᴰ.head z))
    (λ n.
    by_bool (y.guard && eqb y.workspace w) (λ f. rw f (passing-in w xs x n d)) (λ f. rw f (Memᴰ.tail (passing-in w xs x n d))))
    (Memᴰ.cases_cons m)
  where
    and_none : (b : Bool) → (b && false) ≡ false
    and_none true = refl
    and_none false = refl

-- those whose time is still to come stay, and so do guards
pub unpassed-in : (c : ℕ) (xs : List Watch) (x : Watch) → Memᴰ x xs → (not x.guard && after c x.time) ≡ false
    → Memᴰ x (unpassed c xs)
unpassed-in c [] x m e = absurd (Memᴰ.not-nil m)
unpassed-in c (y ∷ xs) x m e =
    ⊎_elim
    (λ z.
    let f : (not y.guard && after c y.time) ≡ false = ap (λ (v : Watch). not v.guard && after c v.time) (sym z) ∙ e in
    rw f (Memᴰ.head z))
    (λ n.
    by_bool (not y.guard && after c y.time) (λ f. rw f (unpassed-in c xs x n e))
    (λ f. rw f (Memᴰ.tail (unpassed-in c xs x n e))))
    (Memᴰ.cases_cons m)

-- one whose time is still to come, guard or not
pub ahead_in : (c : ℕ) (xs : List Watch) (w t : ℕ) (g : Bool) → Memᴰ (watch w t g) xs → after c t ≡ false
    → Memᴰ (watch w t g) (unpassed c xs)
ahead_in c xs w t g m e = unpassed-in c xs (watch w t g) m (by g)
  where
    by : (g : Bool) → (not g && after c t) ≡ false
    by true = refl
    by false = e

-- the times that are waited for after some moments
unfoldable pub watches_after : List Watch → List Moment → List Watch
watches_after xs [] = xs
watches_after xs (m ∷ ms) = watches_after (unpassed m.machine.timer.clock (noting m.notes xs)) ms

pub after-append : (xs : List Watch) (ms ls : List Moment) → watches_after xs (ms ++ ls) ≡ watches_after (watches_after xs ms) ls
unfolding watches_after
after-append xs [] ls = refl
after-append xs (m ∷ ms) ls = after-append (unpassed m.machine.timer.clock (noting m.notes xs)) ms ls

-- the condition on a history is that on its front, and on what follows from there on
pub keeps-front : (xs : List Watch) (ms ls : List Moment) → keeps xs (ms ++ ls) ≡ true → keeps xs ms ≡ true
unfolding keeps
keeps-front xs [] ls e = refl
keeps-front xs (m ∷ ms) ls e =
    let c = m.machine.timer.clock in
    let ys = noting m.notes xs in
    let rest = and_right (all_near c ys) (keeps (unpassed c ys) (ms ++ ls)) e in
    rw (and_left (all_near c ys) (keeps (unpassed c ys) (ms ++ ls)) e) (keeps-front (unpassed c ys) ms ls rest)

pub keeps-behind : (xs : List Watch) (ms ls : List Moment) → keeps xs (ms ++ ls) ≡ true → keeps (watches_after xs ms) ls ≡ true
unfolding keeps watches_after
keeps-behind xs [] ls e = e
keeps-behind xs (m ∷ ms) ls e =
    let c = m.machine.timer.clock in
    let ys = noting m.notes xs in
    keeps-behind (unpassed c ys) ms ls (and_right (all_near c ys) (keeps (unpassed c ys) (ms ++ ls)) e)

-- of one moment
pub keeps-near : (xs : List Watch) (m : Moment) (ms : List Moment) → keeps xs (m ∷ ms) ≡ true
    → all_near m.machine.timer.clock (noting m.notes xs) ≡ true
unfolding keeps
keeps-near xs m ms e =
    let c = m.machine.timer.clock in
    let ys = noting m.notes xs in
    and_left (all_near c ys) (keeps (unpassed c ys) ms) e

-- what is known of a process in the timer queue, by the times that are watched
pub record Watched (xs : List Watch) (w t clock : ℕ) : Type 0 where
  pub guard : Bool
  pub noted : Memᴰ (watch w t guard) xs
  pub near : Near clock t
  pub ahead : after clock t ≡ false

-- and of the time of a true guard
pub record Guards (xs : List Watch) (w t clock : ℕ) : Type 0 where
  pub noted : Memᴰ (watch w t true) xs
  pub near : Near clock t

abbrev pub watching : List Watch → Times
watching xs = record { guarded = Guards xs; sure = Unit {0} }

-- a program under the times that are watched
abbrev pub on : Loaded → List Watch → Loaded
on L xs = sleeping L (Watched xs) (watching xs) (λ o w t c k. k.near) (λ o w t c k. k.near)

-- one of which no time is known
abbrev pub no_times : Times
no_times = record { guarded = λ w t c. Unit {0}; sure = ⊥ }

abbrev pub timeless : Loaded → Loaded
timeless L = sleeping L (λ w t c. Unit {0}) no_times (λ o. absurd o) (λ o. absurd o)

-- what is known of times is forgotten
pub to-timeless : (L : Loaded) {xs : List Watch} {s : World} {st : State} {n : ℕ} → Inv (on L xs) s st n → Inv (timeless L) s st n
to-timeless L {xs} inv =
    inv-context
    (λ w. record { less = λ o. absurd o; on = λ u g. tt; past = λ u l g o. absurd o }) (λ w t k. tt) inv

module _ (L : Loaded) where
  -- a program under other watches that have all that is known
  widen : {xs : List Watch} (ys : List Watch) {s : World} {st : State} {n : ℕ}
      → ((w t : ℕ) (g : Bool) → Memᴰ (watch w t g) xs → (g ≡ false → after (now st) t ≡ false) → Memᴰ (watch w t g) ys)
      → Inv (on L xs) s st n → Inv (on L ys) s st n
  widen {xs} ys more inv =
      inv-context
      (λ w. record {
        less = λ o. o;
        on = λ u k. record { noted = more w u true k.noted (λ e. never (cc)); near = k.near };
        past = λ u l k o a. a;
      })
      (λ w t k. record { guard = k.guard; noted = more w t k.guard k.noted (λ e. k.ahead); near = k.near; ahead = k.ahead }) inv

  -- times that are past are watched no more
  pub inv-narrow : {xs : List Watch} {s : World} {st : State} {n : ℕ} → Inv (on L xs) s st n
      → Inv (on L (unpassed s.machine.timer.clock xs)) s st n
  inv-narrow {xs} {s} {st} inv =
      let c : s.machine.timer.clock ≡ now st = (inv-timed (on L xs) inv).clock-read in
      widen (unpassed s.machine.timer.clock xs)
      (λ w t g m ahead. unpassed-in s.machine.timer.clock xs (watch w t g) m (by c g t ahead)) inv
    where
      by : {c d : ℕ} → c ≡ d → (g : Bool) (t : ℕ) → (g ≡ false → after d t ≡ false) → (not g && after c t) ≡ false
      by e true t h = refl
      by e false t h = ap (λ z. after z t) e ∙ h refl

  -- a byte that tells of no ALTEND
  module _ {xs : List Watch} {s : World} {st : State} {n : ℕ} (unended : (w : ℕ) → Memᴰ (passes w) (notes L.code s.machine) → ⊥)
      (inv : Inv (on L xs) s st n) (no_end : ended s.machine ≡ false) (busy : waits s.machine ≡ false) where
    -- the clock stays during it, whatever times are waited for
    byte-clock : (t : World) × Byte L s t × (t.machine.timer.clock ≡ s.machine.timer.clock)
    byte-clock =
        elim (byte-goes (timeless L) (to-timeless L inv)
        (record {
          waits = λ w t m a. tt;
          guards = λ w t m. tt;
          dozes = λ w t g a. tt;
          sure = λ w m. absurd
              (unended w m);
        }) no_end busy) [
          | came t g d ms talk inv' fewer ↦ (
            t,
            d,
            (inv-timed (timeless L) inv').clock-read ∙ ap (λ (k : Option ℕ). elim k [ none ↦ 0 | some c ↦ c ]) (trace-clock ms)
                ∙ sym (inv-timed (on L xs) inv).clock-read,
          )
        ]

    byte-told : ((t : World) → Byte L s t → all_near t.machine.timer.clock (noting (notes L.code s.machine) xs) ≡ true)
        → Did (on L (noting (notes L.code s.machine) xs)) (Byte L s) s st n
    byte-told near =
        let ns = notes L.code s.machine in
        let ys = noting ns xs in
        let (u, d, same) = byte-clock in
        let c = s.machine.timer.clock in
        let all : all_near c ys ≡ true = subst (λ z. all_near z ys ≡ true) same (near u d) in
        let word : c < 2 ^ 32 = (inv-timed (on L xs) inv).clock-word in
        byte-goes (on L ys) (widen ys (λ w t g m ahead. noted-stays ns xs (watch w t g) unended m) inv)
        (record {
          waits = λ w t m ahead.
              let there = noted-comes ns xs (waits_for w t) (watch w t false) noted-wait unended m in
              record { guard = false; noted = there; near = near-in c ys word all (watch w t false) there; ahead = ahead };
          guards = λ w t m.
              let there = noted-comes ns xs (guards_for w t) (watch w t true) noted-guard unended m in
              record { noted = there; near = near-in c ys word all (watch w t true) there };
          dozes = λ w t k ahead. record { guard = true; noted = k.noted; near = k.near; ahead = ahead };
          sure = λ w m. tt;
        }) no_end busy

  -- the last byte of ALTEND
  abbrev is_end : World → Bool
  is_end s =
      let b = get_or L.code (cpu_of s).place 0 in
      eqb (b / 16) (function_code opr) && eqb (gathered (cpu_of s).operand b) (operation_code altend)

  end-tells : (s : World) → is_end s ≡ true → notes L.code s.machine ≡ passes (cpu_of s).workspace ∷ []
  unfolding notes operation_code
  end-tells s e =
      let b = get_or L.code (cpu_of s).place 0 in
      let f = and_left (eqb (b / 16) (function_code opr)) (eqb (gathered (cpu_of s).operand b) (operation_code altend)) e in
      let o = and_right (eqb (b / 16) (function_code opr)) (eqb (gathered (cpu_of s).operand b) (operation_code altend)) e in
      rw (f, eqb-true (gathered (cpu_of s).operand b) (operation_code altend) o)

  -- no other byte tells of it
  unended-so : (s : World) → is_end s ≡ false → (w : ℕ) → Memᴰ (passes w) (notes L.code s.machine) → ⊥
  unfolding notes
  unended-so s e w m = by_bool (eqb (b / 16) (function_code opr)) (λ f. at-operation f (rw f at e) (rw f at m)) (λ f. not_in (rw f at m))
    where
      b : ℕ
      b = get_or L.code (cpu_of s).place 0

      n : ℕ
      n = gathered (cpu_of s).operand b

      not_in : Memᴰ (passes w) [] → ⊥
      not_in m = Memᴰ.not-nil m

      not-that : {p : Note} → passes w ≢ p → Memᴰ (passes w) (p ∷ []) → ⊥
      not-that d m = ⊎_elim d (λ k. Memᴰ.not-nil k) (Memᴰ.cases_cons m)

      at-operation : eqb (b / 16) (function_code opr) ≡ true → eqb n (operation_code altend) ≡ false
          → Memᴰ (passes w) (note_of n (cpu_of s)) → ⊥
      at-operation f e m =
          by_bool (eqb n (operation_code tin)) (λ g. not-that (λ e. never (cc)) (rw g at m))
          (λ g.
          by_bool (eqb n (operation_code enbt))
          (λ h.
          by_bool (eqb (cpu_of s).a 0) (λ k. not_in (rw (g, h, k) at m)) (λ k. not-that (λ e. never (cc)) (rw (g, h, k) at m)))
          (λ h. not_in (rw (g, h, e) at m)))

  -- a byte, with what it tells of times
  pub byte-on : {xs : List Watch} {s : World} {st : State} {n : ℕ} → Inv (on L xs) s st n → ended s.machine ≡ false
      → waits s.machine ≡ false
      → ((t : World) → Byte L s t → all_near t.machine.timer.clock (noting (notes L.code s.machine) xs) ≡ true)
      → Did (on L (noting (notes L.code s.machine) xs)) (Byte L s) s st n
  byte-on {xs} {s} {st} {n} inv no_end busy near =
      by_bool (is_end s) (λ e. rw (end-tells s e) (ends e)) (λ e. byte-told (unended-so s e) inv no_end busy near)
    where
      w : ℕ
      w = (cpu_of s).workspace

      ys : List Watch
      ys = passing w xs

      ends : is_end s ≡ true → Did (on L ys) (Byte L s) s st n
      ends e =
          let b = get_or L.code (cpu_of s).place 0 in
          let f = and_left (eqb (b / 16) (function_code opr)) (eqb (gathered (cpu_of s).operand b) (operation_code altend)) e in
          let o = and_right (eqb (b / 16) (function_code opr)) (eqb (gathered (cpu_of s).operand b) (operation_code altend)) e in
          byte-ends (on L xs) (Watched ys) (watching ys) (λ o w t c k. k.near) (λ o w t c k. k.near) tt (eqb-true _ _ f)
          (eqb-true _ _ o) inv
          (record {
            onto = λ v d. record {
              less = λ o. o;
              on = λ u k. record { noted = passing-in w xs (watch v u true) k.noted d; near = k.near };
              past = λ u l k o a. a;
            };
            known = λ v t d k. record {
              guard = k.guard;
              noted = passing-in w xs (watch v t k.guard) k.noted d;
              near = k.near;
              ahead = k.ahead;
            };
          }) no_end busy
