-- `compiler::compile_into` meets its contract. Assumes nothing.
use mathlib.Core.Path.{◌≡◌, refl, sym, ap, ◌∙◌}
use borrow.Author.Rules.{rules}
use Rattle.std.specs.Prelude.{Err}
use lib.ListN.{length-replicate}
use Rattle.assembler.specs.Entries.{blank}
use Rattle.assembler.specs.declared.entry.Entry.{Entry}
use Rattle.model.specs.Answers.{refused_compiling}
use Rattle.model.specs.Code.{compile}
use Rattle.model.proofs.Laws.Refused.{compile-refuses}
use Rattle.compiler.proofs.Compiled.{accepted-as, compile-refused, words_are, words-refused, list-refused, scheme-listed}
use Rattle.compiler.proofs.Compiled.{as-assembled, buffer-assembled}
use Rattle.compiler.proofs.compile_into.Goals as goal

pub returns-then-facts-gt-WORDS : goal.returns-then-facts-gt-WORDS
returns-then-facts-gt-WORDS c =
    let e = sym c.read.ensures.answer ∙ c.in_ok-facts.was in
    let q = accepted-as _ _ e in
    rw (words-refused _ _ _ q.0 q.1 e c.if-facts-gt-WORDS.true, c.at.ensures) record { answer = refl; buffer = refl; refusal = refl }

pub returns-then-count-gt-ENTRIES : goal.returns-then-count-gt-ENTRIES
returns-then-count-gt-ENTRIES c =
    let e = sym c.read.ensures.answer ∙ c.in_ok-facts.was in
    let q = accepted-as _ _ e in
    let few = rw (words_are _ 0 _ q.0 q.1 e) at c.if-facts-gt-WORDS.false in
    let n = (c.generate-count.ensures q.0 q.1 e few).0 in
    rw (list-refused _ _ _ q.0 q.1 e few (rw n at c.if-count-gt-ENTRIES.true), c.at-then-count-gt-ENTRIES.ensures)
    record { answer = refl; buffer = refl; refusal = refl }

pub returns : goal.returns
returns c =
    let e = sym c.read.ensures.answer ∙ c.in_ok-facts.was in
    let q = accepted-as _ _ e in
    let few = rw (words_are _ 0 _ q.0 q.1 e) at c.if-facts-gt-WORDS.false in
    let g = c.generate-count.ensures q.0 q.1 e few in
    let r = c.assemble.ensures _ (scheme-listed _ q.0 _ q.1 few (length-replicate {A = Entry} 16384 blank) g.0 g.1
    c.if-count-gt-ENTRIES.false) in
    let a = r.0 ∙ sym (as-assembled _ _ _ q.0 q.1 e few) in record {
      answer = a;
      buffer = r.1 ∙ sym (buffer-assembled _ _ _ q.0 q.1 e few c.args.out.now refl);
      refusal = ap refused_compiling a ∙ compile-refuses
          (compile _ _);
    }

pub returns-in_err-facts : goal.returns-in_err-facts
returns-in_err-facts c =
    let r : c.from_residual.result ≡ Err c.in_err-facts.field-0.0 = search rules in
    rw (compile-refused _ _ _ (sym c.read.ensures.answer ∙ c.in_err-facts.was), r) record { answer = refl; buffer = refl; refusal = refl }
