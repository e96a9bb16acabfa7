-- What is coded for an instruction is the model's, and a byte is decoded in the code's order.
use Prim.Native.Nat.{ℕ, ◌*◌, ◌/◌}
use native.Mathlib.Omega.{arith}
use mathlib.Core.Path.{◌≡◌, refl}
use mathlib.Core.Bool.{Bool, true, false, cond, ◌||◌}
use mathlib.Core.List.{List, ◌∷◌}
use mathlib.Core.Option.{Option, some}
use lib.Dec.{eqb}
use Rattle.model.specs.Instruction.{Function, function_code, pfix_code, nfix_code}
use Rattle.model.specs.Prefix.{with_prefixes, gathered, pfixed, nfixed, Decoded, decode}
use Rattle.instruction.specs.Coded.{coded, is_prefix, moved_up}

-- the bytes of a function of the model
pub coded-is : (k : ℕ) (f : Function) (n : ℕ) → coded k (function_code f * 16) n ≡ with_prefixes k f n
unfolding coded with_prefixes
coded-is k f n =
    let e : function_code f * 16 / 16 * 16 ≡ function_code f * 16 = omega arith in
    rw e

-- `decode` unrolled once, with the tests in the code's order
pub decode-byte : (o b : ℕ) (more : List ℕ) → decode o (b ∷ more)
    ≡ cond (is_prefix (b / 16)) (decode (moved_up (gathered o b) (b / 16)) more)
    (some (record { function = b / 16; operand = gathered o b; rest = more }))
unfolding decode
decode-byte o b more = go (eqb (b / 16) pfix_code) (eqb (b / 16) nfix_code)
  where
    last : Option Decoded
    last = some (record { function = b / 16; operand = gathered o b; rest = more })

    go : (p q : Bool) → cond p (decode (pfixed (gathered o b)) more) (cond q (decode (nfixed (gathered o b)) more) last)
        ≡ cond (p || q) (decode (cond p (pfixed (gathered o b)) (nfixed (gathered o b))) more) last
    go true q = refl
    go false true = refl
    go false false = refl
