-- The proved examples: each holds by computation, and one by a sum, so this opens every definition that they go through.
use mathlib.Core.Path.{refl}
use native.Mathlib.Omega.{arith}
use Rattle.model.specs.Word as Word
use Rattle.model.specs.Number as Number
use Rattle.model.specs.Reader as Reader
use Rattle.model.specs.Usage as Usage
use Rattle.model.specs.Counts as Counts
use Rattle.model.specs.Accept as Accept
use Rattle.model.specs.Instruction as Instruction
use Rattle.model.specs.Prefix as Prefix
use Rattle.model.specs.Layout as Layout
use Rattle.model.specs.Scheme as Scheme
use Rattle.model.specs.Code as Code
use Rattle.model.specs.Machine as Machine
use Rattle.model.specs.Timer as Timer
use Rattle.model.specs.Execute as Execute
use Rattle.model.specs.Run as Run
use Rattle.model.specs.Outside as Outside
use Rattle.model.specs.Bench as Bench
use Rattle.model.specs.Occam as Occam
use Rattle.model.specs.Examples as Examples

pub examples : Examples.Examples
unfolding Word.signed Number.groups Number.number Reader.read_number Reader.one_of Reader.read_count Reader.read_name Reader.numbered
    Reader.too_deep Reader.expr_of Reader.read_expr Reader.read_many Reader.stmt_of Reader.read_stmt
    Reader.read_program Reader.read_table Usage.usage Usage.same Usage.is_in Usage.share Usage.clash Usage.clashes_later Usage.any_clash
    Usage.first_clash Counts.sides_need Counts.registers Counts.order_of Counts.sides_hold Counts.temporaries Counts.guard_words
    Counts.guard_asks
    Counts.processes Counts.need Accept.checks Accept.accept Instruction.function_code
    Instruction.operation_code Instruction.coded Instruction.function_of Instruction.operation_of Prefix.shifted Prefix.first_prefix
    Prefix.prefixes Prefix.with_prefixes Prefix.enough Prefix.fewest_from Prefix.fewest Prefix.decode Layout.layout Layout.workspace_of
    Layout.word_of Scheme.operator_code Scheme.initialise Scheme.sides_size Scheme.expr_size Scheme.wrap_size Scheme.whole_size
    Scheme.enable_size Scheme.disable_size Scheme.input_size Scheme.enable_code Scheme.disable_code Scheme.guard_input Scheme.sides_code
    Scheme.wrapped Scheme.size Scheme.expr_code Scheme.code Scheme.scheme
    Code.prefixes_of Code.bytes_in Code.place_of Code.function_in Code.operand_in Code.encode Code.code_of Code.fitting Code.compile
    Machine.name_of Machine.space_of Machine.peek Machine.poke Machine.test_place Machine.resume Machine.release Machine.join
    Execute.load_local Execute.store_local Execute.stop_process Execute.wait_at Execute.receive Execute.received Execute.output_word
    Timer.wake_from Timer.wake_sleepers Word.after Execute.operate Execute.execute
    Run.fetch Run.act Run.land Run.byte Run.waking Run.beginning Run.run_from Run.begun_run Run.run Run.fresh Run.cleared Run.start
    Outside.looking Outside.taking Outside.take
    Bench.digits
    Bench.hex Bench.takes Bench.rounds Bench.bench Occam.operate Occam.deny Occam.eval Bench.ascii
    Examples.in_seqs Examples.in_nots Examples.copies Examples.in_vars
examples =
    record {
      ldc-1876 = (refl, refl);
      ldc-31-below = (refl, refl);
      ajw-256-below = (refl, refl);
      ajw-257-below = (refl, refl);
      j-5-below = (refl, refl);
      plus = refl;
      bits = refl;
      words = λ p c d x e h. omega arith;
      no_code = refl;
      stop = refl;
      loop = refl;
      bench-case = refl;
      long-number = refl;
      depth-32 = refl;
      depth-33 = refl;
      depth-32-of-nots = refl;
      depth-33-of-nots = refl;
      bytes_after = refl;
      clash = refl;
      right-sum = refl;
      left-sum = refl;
      gt-below = refl;
      gt-below-run = refl;
      gt-across = refl;
      gt-across-run = refl;
      plus-run = refl;
      times = refl;
      times-run = refl;
      bits-run = refl;
      differing = refl;
      differing-run = refl;
      not-2 = λ σ. refl;
      not-2-run = refl;
      not-0 = λ σ. refl;
      not-0-run = refl;
      stored = refl;
      scopes = refl;
      needs = refl;
      live = refl;
      in_registers = refl;
      readings = refl;
      compilings = refl;
      wraps = λ word. refl;
      values = refl;
      limits = refl;
      begins = refl;
      below = refl;
      afters = refl;
      nears = refl;
      counting = refl;
      timed-needs = refl;
      timed-live = refl;
      timed-wraps = λ word. refl;
    }
