-- Laws of one byte.
use Prim.Native.Nat.{ℕ, ◌/◌, ◌<◌}
use native.Mathlib.Omega.{arith}
use mathlib.Core.Path.{◌≡◌, refl, ap, ◌∙◌}
use mathlib.Core.Bool.{Bool, true, false, cond, ◌||◌}
use mathlib.Core.List.{List}
use lib.Dec.{eqb}
use Rattle.std.specs.Prelude.{Ok}
use Rattle.model.specs.Instruction.{pfix_code, nfix_code}
use Rattle.model.specs.Prefix.{gathered}
use Rattle.model.specs.Machine.{World, Act, done, next, with_cpu, set_registers, gathering}
use Rattle.model.specs.Run.{act, land}
use Rattle.model.specs.declared.Cpu.{Cpu}
use Rattle.model.specs.declared.Setup.{Setup}
use Rattle.instruction.specs.Coded.{is_prefix, moved_up}
use Rattle.processor.specs.Seen.{Step, Rest, world}
use Rattle.processor.specs.Pieces.{landing}
use Rattle.processor.specs.Quiet.{quiet, offering, timing, Acts}
use Rattle.processor.proofs.Laws.{ends}
use Rattle.processor.proofs.Talking.{lands, takes_none, silent, untimed}
use Rattle.executor.specs.Steps.{executing, advanced_to}

-- an action that comes to another, with other registers
pub acts-as :
    {u : Setup} {act other : Act (Unit {0})} {q r : Cpu} {o : List ℕ} {b d : List Bool} {k f g : ℕ} {l m : List ℕ} {s : Step}
    → Acts u other q o b k f l s d g m
    → ((x : Rest) → act (world (offering o b (timing k f x)) u r l) ≡ other (world (offering o b (timing k f x)) u q l))
    → Acts u act r o b k f l s d g m
acts-as t e =
    record {
      said = λ x. ap quiet (e x) ∙ t.said x;
      keeps = t.keeps;
      keeps_held = t.keeps_held;
      keeps_front = t.keeps_front;
      long = t.long;
    }

module _ (x : Rest) (u : Setup) (r : Cpu) (l : List ℕ) (b : ℕ) where
  -- a prefix gathers
  pub prefix-acts :
      is_prefix (b / 16) ≡ true
      → act b (world x u r l) ≡ done tt (world x u (advanced_to (moved_up (gathered r.operand b) (b / 16)) r) l)
  unfolding act
  prefix-acts e = go (eqb (b / 16) pfix_code) (eqb (b / 16) nfix_code) _ _ (advanced_to r.operand r) _ _ e
    where
      go :
          (p n : Bool) (v w : ℕ) (q : Cpu) (other : Act (Unit {0})) (s : World) → p || n ≡ true
          → cond p (set_registers (gathering v q)) (cond n (set_registers (gathering w q)) other) s
          ≡ done tt (with_cpu (gathering (cond p v w) q) s)
      go true n v w q other s e = refl
      go false true v w q other s e = refl
      go false false v w q other s e = cc

  -- any other byte uses the operand and leaves 0
  pub other-acts :
      is_prefix (b / 16) ≡ false
      → act b (world x u r l) ≡ executing (b / 16) (gathered r.operand b) (world x u (advanced_to 0 r) l)
  unfolding act
  other-acts e = go (eqb (b / 16) pfix_code) (eqb (b / 16) nfix_code) _ _ _ e
    where
      go : (p n : Bool) (v w other : Act (Unit {0})) → p || n ≡ false
          → cond p v (cond n w other) (world x u (advanced_to r.operand r) l) ≡ other (world x u (advanced_to r.operand r) l)
      go true n v w other e = cc
      go false true v w other e = cc
      go false false v w other e = refl

-- a prefix, and the process goes on behind it
pub prefix-takes :
    {u : Setup} {r q : Cpu} {l : List ℕ} (o : List ℕ) (d : List Bool) (k f b : ℕ) → is_prefix (b / 16) ≡ true
    → q ≡ advanced_to (moved_up (gathered r.operand b) (b / 16)) r → r.running ≡ true → r.place < u.code
    → Acts u (landing (act b)) r o d k f l (Ok q) d f l
prefix-takes {u} {r} {q} {l} o d k f b e g t p =
    untimed k f
    (takes_none o d
    (silent
    (rw g
    (ends (λ x. ap (λ s. next s (λ n. land)) (prefix-acts x u r l b e) ∙ lands (world x u _ l) t (omega arith))))))
