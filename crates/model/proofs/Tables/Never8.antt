-- No table is refused with 8 (specs/Registers.antt): no reason has that number.
use Prim.Native.Nat.{ℕ}
use mathlib.Core.Path.{◌≡◌, ap}
use mathlib.Core.List.{List}
use mathlib.Core.Option.{Option, none, some}
use Rattle.model.specs.Reader.{Read, program, refused as unread}
use Rattle.model.specs.Accept.{accept}
use Rattle.model.specs.Code.{Compilation, compiled, refused, compile}
use Rattle.model.specs.Answers.{Row, refusal, reason_number}
use Rattle.model.specs.Refusals.{read_refusal, compile_refusal}
use Rattle.model.specs.Registers.{NeverRefuses8}
use Rattle.model.specs.declared.Reason.{Reason}
use Rattle.model.specs.declared.Reason.TheVariants.{TableSize, BadNumber, OutOfRange, TooDeep, BadName, BytesBehind, Clash}
use Rattle.model.specs.declared.Reason.TheVariants.{TooManyProcesses, TooLarge, Short}
use Rattle.model.proofs.Cases.{never}

not-8 : (why : Reason) → reason_number why ≡ 8 → ◌≡◌ {A = ℕ} 0 1
not-8 TableSize e = cc
not-8 BadNumber e = cc
not-8 OutOfRange e = cc
not-8 TooDeep e = cc
not-8 BadName e = cc
not-8 BytesBehind e = cc
not-8 Clash e = cc
not-8 TooManyProcesses e = cc
not-8 TooLarge e = cc
not-8 Short e = cc

abbrev number_in : Option Row → ℕ
number_in none = 0
number_in (some r) = r.number

read-other : (r : Read) (l : List ℕ) → read_refusal r ≡ refusal 8 l → ⊥
read-other (program p) l e = never (cc)
read-other (unread why p) l e = never (not-8 why (ap number_in e))

compile-other : (c : Compilation) (l : List ℕ) → compile_refusal c ≡ refusal 8 l → ⊥
compile-other (compiled p code) l e = never (cc)
compile-other (refused why r) l e = never (not-8 why (ap number_in e))

pub never-refuses-8 : NeverRefuses8
never-refuses-8 table room l = (read-other (accept table) l, compile-other (compile table room) l)
