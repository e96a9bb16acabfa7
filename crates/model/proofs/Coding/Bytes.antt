-- From bytes to instructions: in the middle of an instruction, the gathered operand and the bytes left decode to it. One lemma for
-- all functions and operands.
use Prim.Native.Nat.{ℕ, suc, ◌/◌, ◌^◌, ◌≤◌, ◌<◌, min}
use native.Mathlib.Omega.{arith}
use mathlib.Core.Path.{◌≡◌, refl, ap, ◌∙◌, sym}
use mathlib.Core.Bool.{Bool, true, false}
use mathlib.Core.List.{List, [], ◌∷◌}
use mathlib.Core.Option.{some, some-injective}
use lib.ListN.{length, get_or}
use lib.Seq.{slice, slice-cons, slice_empty, length-slice}
use lib.Dec.{eqb}
use native.Mathlib.Decide.{dec_lt}
use borrow.Author.Tests.{lt-ltb, le-leb, eqb-true}
use Rattle.model.specs.Word.{low}
use Rattle.model.specs.Limits.{slice_limit}
use Rattle.model.specs.Instruction.{Function, j, ldlp, ldc, ldl, cj, ajw, eqc, stl, opr, function_code, function_of, coded, pfix_code}
use Rattle.model.specs.Instruction.{nfix_code, Instruction}
use Rattle.model.specs.Prefix.{gathered, pfixed, nfixed, Decoded, decode}
use Rattle.model.specs.Code.{function_in, operand_in}
use Rattle.model.specs.Machine.{World, Result, done, with_cpu, goto, gathering, counting, next, test_place}
use Rattle.model.specs.Execute.{execute}
use Rattle.model.specs.Run.{fetch, act, land, byte}
use Rattle.model.specs.declared.Cpu.{Cpu}
use Rattle.model.proofs.Cases.{never}
use mathlib.Core.Logic.{◌≢◌}

-- an instruction's decoding
abbrev pub Reads : (off : ℕ → ℕ) → Instruction → ℕ → List ℕ → Type 0
Reads off x o bytes = decode o bytes ≡ some (record { function = function_code (function_in x); operand = operand_in off x; rest = [] })

-- a process stands at a place in the instruction i, with an operand gathered
pub record Standing (code : List ℕ) (off : ℕ → ℕ) (i : ℕ) (x : Instruction) (place operand : ℕ) : Type 0 where
  pub from : off i ≤ place
  pub upto : place < off (suc i)
  pub reads : Reads off x operand (slice place (off (suc i)) code)

pub function-found : (f : Function) → function_of (function_code f) ≡ some f
unfolding function_of function_code coded
function-found j = refl
function-found ldlp = refl
function-found ldc = refl
function-found ldl = refl
function-found cj = refl
function-found ajw = refl
function-found eqc = refl
function-found stl = refl
function-found opr = refl

-- the registers once a byte is fetched
abbrev pub advance : Cpu → Cpu
advance r = counting (min (suc r.count) slice_limit) (goto (low (suc r.place)) r)

-- a process that has the processor at a place of the code is there to stay
pub lands : (s : World) → s.machine.cpu.running ≡ true → s.machine.cpu.place ≤ s.machine.setup.code → land s ≡ done tt s
unfolding land test_place
lands s r h = rw (r, le-leb _ _ h)

-- the byte at the place completes an instruction
pub record Completes (code : List ℕ) (off : ℕ → ℕ) (x : Instruction) (s : World) : Type 0 where
  pub function : get_or code s.machine.cpu.place 0 / 16 ≡ function_code (function_in x)
  pub operand : gathered s.machine.cpu.operand (get_or code s.machine.cpu.place 0) ≡ operand_in off x

-- what one byte of an instruction does: a prefix gathers; the last byte executes
pub data Turn (code : List ℕ) (off : ℕ → ℕ) (i : ℕ) (x : Instruction) (s : World) : Type 0 where
  prefixed : (o : ℕ) → byte code s ≡ done tt (with_cpu (gathering o (advance s.machine.cpu)) s)
      → Standing code off i x (suc s.machine.cpu.place) o → get_or code s.machine.cpu.place 0 / 16 ≢ function_code opr
      → Turn code off i x s
  last : byte code s ≡ next (execute (function_in x) (operand_in off x) (with_cpu (gathering 0 (advance s.machine.cpu)) s)) (λ u. land)
      → suc s.machine.cpu.place ≡ off (suc i) → Completes code off x s → Turn code off i x s

pub next-land : {r : Result (Unit {0})} {t : World} → r ≡ done tt t → t.machine.cpu.running ≡ true
    → t.machine.cpu.place ≤ t.machine.setup.code
    → next r (λ u. land) ≡ done tt t
next-land {t} e r h = rw e (lands t r h)

-- the byte is there
fetched : (code : List ℕ) (s : World) → s.machine.cpu.place < s.machine.setup.code
    → byte code s ≡ next (act (get_or code s.machine.cpu.place 0) s) (λ u. land)
unfolding byte fetch
fetched code s h = rw (lt-ltb _ _ h)

module _ (s : World) (b : ℕ) where
  act-pfix : eqb (b / 16) pfix_code ≡ true
      → act b s ≡ done tt (with_cpu (gathering (pfixed (gathered s.machine.cpu.operand b)) (advance s.machine.cpu)) s)
  unfolding act
  act-pfix e = rw e

  act-nfix : eqb (b / 16) pfix_code ≡ false → eqb (b / 16) nfix_code ≡ true
      → act b s ≡ done tt (with_cpu (gathering (nfixed (gathered s.machine.cpu.operand b)) (advance s.machine.cpu)) s)
  unfolding act
  act-nfix e f = rw (e, f)

  act-last : (f : Function) → eqb (b / 16) pfix_code ≡ false → eqb (b / 16) nfix_code ≡ false → b / 16 ≡ function_code f
      → act b s ≡ execute f (gathered s.machine.cpu.operand b) (with_cpu (gathering 0 (advance s.machine.cpu)) s)
  unfolding act
  act-last f e g k = rw (e, g, k, function-found)

abbrev place_in : World → ℕ
place_in s = s.machine.cpu.place

module _ (code : List ℕ) (off : ℕ → ℕ) (i : ℕ) (x : Instruction) (s : World) (inside : off (suc i) ≤ length code)
    (small : length code < 2 ^ 31)
    (whole : s.machine.setup.code ≡ length code) (runs : s.machine.cpu.running ≡ true) (from : off i ≤ place_in s)
    (upto : place_in s < off (suc i)) where
  went_on : (o b : ℕ) → get_or code (place_in s) 0 ≡ b → b / 16 ≢ function_code opr
      → Reads off x o (slice (suc (place_in s)) (off (suc i)) code)
      → act b s ≡ done tt (with_cpu (gathering o (advance s.machine.cpu)) s) → Dec (suc (place_in s) < off (suc i)) → Turn code off i x s
  unfolding decode
  went_on o b eb still r e (yes h) =
      prefixed o
      (fetched code s (omega (arith, whole)) ∙ rw eb (next-land e runs (omega (arith, whole))))
      (record { from = omega arith; upto = h; reads = r }) (λ z. still (ap (λ y. y / 16) (sym eb) ∙ z))
  went_on o b eb still r e (no h) =
      let d : suc (place_in s) ≡ off (suc i) = omega arith in
      never (cc (r, ap (λ n. decode o (slice n (off (suc i)) code)) d, ap (decode o) (slice_empty (off (suc i)) code)))

  turn_by : (b : ℕ) → get_or code (place_in s) 0 ≡ b → (p q : Bool) → eqb (b / 16) pfix_code ≡ p → eqb (b / 16) nfix_code ≡ q
      → Reads off x s.machine.cpu.operand (b ∷ slice (suc (place_in s)) (off (suc i)) code) → Turn code off i x s
  unfolding decode function_code
  turn_by b eb true q ep eq r =
      went_on _ b eb (λ z. absurd (omega (arith, eqb-true (b / 16) pfix_code ep, z))) (rw ep at r) (act-pfix s b ep) (dec_lt _ _)
  turn_by b eb false true ep eq r =
      went_on _ b eb (λ z. absurd (omega (arith, eqb-true (b / 16) nfix_code eq, z))) (rw (ep, eq) at r) (act-nfix s b ep eq) (dec_lt _ _)
  turn_by b eb false false ep eq r =
      let e : Decoded = record {
        function = b / 16;
        operand = gathered s.machine.cpu.operand b;
        rest = slice (suc (place_in s))
            (off (suc i)) code;
      } in
      let d : Decoded = record { function = function_code (function_in x); operand = operand_in off x; rest = [] } in
      let same : e ≡ d = some-injective e d (rw (ep, eq) at r) in
      let empty : slice (suc (place_in s)) (off (suc i)) code ≡ [] = ap (λ t. t.rest) same in
      last
      (fetched code s (omega (arith, whole))
      ∙ rw (eb, act-last s b (function_in x) ep eq (ap (λ t. t.function) same), ap (λ t. t.operand) same) refl)
      (omega (arith, length-slice (suc (place_in s)) (off (suc i)) code inside, ap length empty))
      (record {
        function = ap (λ b. b / 16) eb ∙ ap (λ t. t.function) same;
        operand = ap (gathered s.machine.cpu.operand) eb ∙ ap (λ t. t.operand) same;
      })

  pub turn : Reads off x s.machine.cpu.operand (slice (place_in s) (off (suc i)) code) → Turn code off i x s
  turn r = turn_by (get_or code (place_in s) 0) refl _ _ refl refl (rw (slice-cons (place_in s) (off (suc i)) code 0 upto inside) at r)
