-- Compiled code, decoded, is the scheme's instruction list.
use Prim.Native.Nat.{ℕ}
use mathlib.Core.Path.{◌≡◌}
use mathlib.Core.List.{List}
use native.Mathlib.Omega.{arith}
use Rattle.model.specs.Syntax.{Program}
use Rattle.model.specs.Scheme.{scheme}
use Rattle.model.specs.Code.{place_of, Realises, compiled, compile}
use Rattle.model.proofs.Tables.Accepts.{accept-reads, compile-accepts}
use Rattle.model.proofs.Tables.Readers.{read-well}
use Rattle.model.proofs.Coding.Realise.{code-realises}

-- demand 2: each instruction of the scheme stands in the code from its place on, up to the code's end
pub compile-realises : (table : List ℕ) (room : ℕ) (p : Program) (code : List ℕ) → compile table room ≡ compiled p code
    → Realises code (scheme p) (place_of (scheme p))
compile-realises table room p code e =
    let (accepted, same, small, short, fits) = compile-accepts table room p code e in
    rw same (code-realises p (read-well table p (accept-reads table p accepted)).0 (omega (arith, small)) (rw same at short))
