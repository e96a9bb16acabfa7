-- The code of statements without statements inside as it is put into the list, by places of the table (01, "Workspace and code"; 02,
-- order 4).
use Rattle.std.specs.Prelude.{ℕ, List}
use Rattle.model.specs.Word.{minus}
use Rattle.numbers.specs.Items.{value_at}
use Rattle.expressions.specs.Emits.{Code, plain_into, operation_into}
use Rattle.expressions.specs.Names.{Names, local_of}
use Rattle.expressions.specs.Exprs.{Wrote, written, code_of, whole_into}
use Rattle.numbers.specs.declared.kinds.Simple.{Simple}
use Rattle.numbers.specs.declared.kinds.Simple.TheVariants.{Skip, Stop, Assign, Input, Output, Time, Wait}
use Rattle.instruction.specs.Codes.{AJW, IN, LDC, LDLP, LDTIMER, OUTWORD, REV, STL, STOPP, TIN}

-- 01, input: LDLP variable, LDLP channel, LDC 4, IN
unfoldable pub input_into : (channel variable : ℕ) → Code → Code
input_into ch x c = operation_into IN (plain_into LDC 4 (plain_into LDLP ch (plain_into LDLP x c)))

-- 01, output, behind the value: LDLP channel, REV, AJW -1, OUTWORD, AJW 1
unfoldable pub output_into : (channel : ℕ) → Code → Code
output_into ch c = plain_into AJW 1 (operation_into OUTWORD (plain_into AJW (minus 1) (operation_into REV (plain_into LDLP ch c))))

-- 01, assign: value, STL
unfoldable pub assign_into : (depth w : ℕ) → (vs plan s : List ℕ) → (at : ℕ) → Code → Wrote
assign_into d w vs p s at c =
    let x = value_at s at in
    let e = whole_into d w 0 vs p s x.next c in
    written e.next (plain_into STL (local_of vs x.value w) (code_of e))

-- an input: channel and variable of the table
unfoldable pub in_into : (w : ℕ) → Names → List ℕ → (at : ℕ) → Code → Wrote
in_into w ns s at c =
    let ch = value_at s at in
    let x = value_at s ch.next in
    written x.next (input_into (local_of ns.channels ch.value w) (local_of ns.variables x.value w) c)

-- an output: channel and value of the table
unfoldable pub out_into : (depth w : ℕ) → Names → (plan s : List ℕ) → (at : ℕ) → Code → Wrote
out_into d w ns p s at c =
    let ch = value_at s at in
    let e = whole_into d w 0 ns.variables p s ch.next c in
    written e.next (output_into (local_of ns.channels ch.value w) (code_of e))

-- 02, order 4, TIME: LDTIMER, STL
unfoldable pub time_into : (w : ℕ) → (vs s : List ℕ) → (at : ℕ) → Code → Wrote
time_into w vs s at c = let x = value_at s at in written x.next (plain_into STL (local_of vs x.value w) (operation_into LDTIMER c))

-- 02, order 4, WAIT: the time, TIN
unfoldable pub wait_into : (depth w : ℕ) → (vs plan s : List ℕ) → (at : ℕ) → Code → Wrote
wait_into d w vs p s at c = let e = whole_into d w 0 vs p s at c in written e.next (operation_into TIN (code_of e))

-- what follows the kind of a statement without statements inside: SKIP has no code. 01: STOP is STOPP
unfoldable pub simple_into : Simple → (depth w : ℕ) → Names → (plan s : List ℕ) → (at : ℕ) → Code → Wrote
simple_into Skip d w ns p s at c = written at c
simple_into Stop d w ns p s at c = written at (operation_into STOPP c)
simple_into Assign d w ns p s at c = assign_into d w ns.variables p s at c
simple_into Input d w ns p s at c = in_into w ns s at c
simple_into Output d w ns p s at c = out_into d w ns p s at c
simple_into Time d w ns p s at c = time_into w ns.variables s at c
simple_into Wait d w ns p s at c = wait_into d w ns.variables p s at c
