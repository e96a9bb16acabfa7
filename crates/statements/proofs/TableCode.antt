-- The scheme's list of every accepted table is put into the list.
use Prim.Native.Nat.{ℕ, ◌+◌, ◌-◌, ◌≤◌}
use native.Mathlib.Omega.{arith}
use native.Mathlib.Nat.{mod-eq_of_lt, zero-add}
use mathlib.Core.Path.{◌≡◌, refl, sym, ap, subst, ◌∙◌}
use mathlib.Core.Logic.{⊎_elim}
use mathlib.Core.List.{List, ◌++◌}
use mathlib.Core.Option.{some}
use lib.ListN.{length, length-append, length-replicate, replicate, get_elem?}
use lib.Seq.{sets}
use Rattle.assembler.specs.declared.entry.Entry.{Entry}
use Rattle.model.specs.Limits.{word_limit, table_limit, depth_limit}
use Rattle.model.specs.Word.{low}
use Rattle.model.specs.Syntax.{input_of, output_of, Program}
use Rattle.model.specs.Reader.{Read, parsed, numbered, read_program, program, refused, read_table}
use Rattle.model.specs.Counts.{processes}
use Rattle.model.specs.Accept.{accept, memory_words, answer_of}
use Rattle.model.specs.Layout.{layout, workspace_of, base, word_of}
use Rattle.model.specs.Scheme.{scheme}
use Rattle.model.specs.declared.Facts.{Facts}
use Rattle.std.specs.Prelude.{Ok}
use Rattle.model.proofs.Cases.{never}
use Rattle.model.proofs.Tables.WellFormed.{outermost}
use Rattle.model.proofs.Coding.Layouts.{program-laid}
use Rattle.model.proofs.Tables.Readers.{ReadWhole, read_whole}
use Rattle.model.proofs.Tables.Accepts.{accept-reads}
use Rattle.model.proofs.Coding.Sizes.{code-length}
use Rattle.model.proofs.Quiet.Setting.{get_elem-inside as inside}
use Rattle.table.proofs.SameItems.{Bytes}
use Rattle.table.proofs.SameSimple.{numbered-at, lookup-append, length-numbered}
use Rattle.assembler.specs.Entries.{entries_of}
use Rattle.plan.specs.Entries.{next_of}
use Rattle.plan.specs.Extents.{stmt_measured, table_plan, plan_of}
use Rattle.expressions.specs.Emits.{at}
use Rattle.expressions.specs.Names.{words_from, declaring}
use Rattle.expressions.specs.Exprs.{written}
use Rattle.expressions.proofs.Scopes.{words_long}
use Rattle.numbers.specs.declared.kinds.Declared.TheVariants.{Channels}
use Rattle.statements.specs.Kinds.{stmt_into}
use Rattle.statements.specs.Tables.{no_names, table_into}
use Rattle.statements.proofs.Spelled.{CountAt, StmtAt, Gives, parses, and_then, count, stmt-spelled}
use Rattle.statements.proofs.Fills.{filled, Room}
use Rattle.statements.proofs.ExprCode.{Named}
use Rattle.statements.proofs.Planned.{next-is, PlannedStmt}
use Rattle.statements.proofs.PlanOf.{plan-of}
use Rattle.statements.proofs.Declares.{from_is}
use Rattle.statements.proofs.StmtCode.{compiles-all}
use Rattle.statements.proofs.Bounds.{stmt-bound}

-- a program as its table spells it
record ProgramAt (s : List ℕ) (p : Program) (n : ℕ) : Type 0 where
  second : ℕ
  third : ℕ
  inputs : CountAt s 0 8 0 p.inputs second
  outputs : CountAt s 0 8 second p.outputs third
  body : StmtAt s 32 (outermost p) third p.body n

program-spelled : (s : List ℕ) → Bytes s → Gives s (ProgramAt s) (read_program 0 s)
unfolding read_program
program-spelled s b =
    and_then _ (count s b 0 8 0)
    (λ ins n h. and_then _ (count s b 0 8 n)
    (λ outs m g. and_then _ (stmt-spelled s b 32 _ m)
    (λ x q a. parses (record { inputs = ins; outputs = outs; body = x }) q
    (record { second = n; third = m; inputs = h; outputs = g; body = a }))))

-- what was read is as the table spells it
spelt : {s : List ℕ} {p : Program} {n : ℕ} {left : List ℕ} → Gives s (ProgramAt s) (parsed p n left) → ProgramAt s p n
spelt (parses p n h) = h

accepted-spelt : (s : List ℕ) (p : Program) → Bytes s → read_table s ≡ program p → ProgramAt s p (length s)
accepted-spelt s p b e = spelt (rw (read_whole s p e).reads at (program-spelled s b))

-- the outside channels, and their words
outside-named : (p : Program) → p.inputs ≤ 8 → p.outputs ≤ 8 → base p ≤ word_limit
    → Named (word_of p) 32 (outermost p).channels (words_from (p.inputs + p.outputs) (base p))
unfolding word_of
outside-named p hi ho hw =
    let ins = numbered input_of p.inputs in
    let outs = numbered output_of p.outputs in
    let many : length (ins ++ outs) ≡ p.inputs + p.outputs =
    length-append ins outs ∙ rw (length-numbered input_of p.inputs, length-numbered output_of p.outputs) refl in
    record {
      word-is = λ k x e.
          from_is (p.inputs + p.outputs) (base p) k (rw many at (inside (ins ++ outs) k e)) (omega arith)
          ∙ ⊎_elim
          (λ (g : get_elem? ins k ≡ some x). rw (numbered-at input_of p.inputs k x g).0)
          (λ (g : (length ins ≤ k) × (get_elem? outs (k - length ins) ≡ some x)).
          rw (numbered-at output_of p.outputs (k - length ins) x g.1).0
          (omega (arith, g.0, length-numbered input_of p.inputs)))
          (lookup-append ins outs k x e);
      long = words_long (p.inputs + p.outputs) (base p) ∙ sym many;
      deep = omega arith;
    }

-- a program's facts, as the reader answers them
abbrev pub facts_of : Program → Facts
facts_of p = record { words = memory_words p; inputs = p.inputs; outputs = p.outputs; processes = processes p.body }

pub facts-are : (r : Read) (f : Facts) (p : Program) → answer_of r ≡ Ok f → r ≡ program p → f ≡ facts_of p
facts-are (program q) f p e is = let same : q ≡ p = cc in let g : facts_of q ≡ f = cc in sym (rw same at g)
facts-are (refused n at) f p e is = never (cc)

-- an accepted program has at most 8 outside inputs and 8 outputs
pub outside-few : (s : List ℕ) (p : Program) → accept s ≡ program p → p.inputs + p.outputs ≤ 16
outside-few s p e = let w = (read_whole s p (accept-reads s p e)).well in omega (arith, w.0, w.1)

-- the indices of the list have room, however large the words of names are
scheme-room : (s : List ℕ) (p : Program) → ReadWhole s p → ProgramAt s p (length s) → Room 0 (scheme p)
unfolding scheme
scheme-room s p whole q =
    omega (arith, code-length (word_of p) (base p) 0 p.body, stmt-bound s q.body, whole.short)

-- the plan tells of the program's statement
plan-told : (s : List ℕ) (p : Program) → ReadWhole s p → (q : ProgramAt s p (length s)) → base p ≤ word_limit
    → PlannedStmt s (plan_of s) q.body
unfolding table_plan
plan-told s p whole q few =
    let place = ap (next_of s) (next-is s q.inputs.there) ∙ next-is s q.outputs.there in
    subst (λ i. PlannedStmt s (stmt_measured depth_limit s i (replicate table_limit 0)).plan q.body) (sym place)
    (plan-of s whole.short (replicate table_limit 0) q.body (omega arith) (length-replicate {A = ℕ} table_limit 0) few)

-- the statement's code
body-code : (s : List ℕ) (p : Program) → ReadWhole s p → (q : ProgramAt s p (length s)) → base p ≤ word_limit → (o : List Entry)
    → stmt_into 32 (base p) (declaring Channels (p.inputs + p.outputs) (base p) no_names) (plan_of s) s q.third (at 0 o)
    ≡ written (length s) (filled 0 (scheme p) o)
unfolding scheme word_of
body-code s p whole q few o =
    let workspace : ℕ → ℕ = λ x. workspace_of x (layout (base p) p.body) in
    (compiles-all (word_of p) workspace s (plan_of s) (λ x j. refl) 32
    ).compiles {ns = declaring Channels (p.inputs + p.outputs) (base p) no_names} (base p) 0 q.body
    (plan-told s p whole q few)
    (record {
      variables = record { word-is = λ k x e. never cc; long = refl; deep = omega arith };
      channels = outside-named p whole.well.0 whole.well.1 few;
    })
    (record {
      laid = program-laid 0 (length s) (base p) p.body whole.placed;
      low = few;
      few = few;
      room = scheme-room s p whole q;
    })
    o

-- the list of an accepted table is the scheme's
pub table-code : (s : List ℕ) (p : Program) → Bytes s → accept s ≡ program p → memory_words p ≤ word_limit → (o : List Entry)
    → table_into (plan_of s) s (facts_of p) o ≡ at (length (scheme p)) (sets o 0 (entries_of (scheme p)))
unfolding table_into
table-code s p b e few o =
    let read = accept-reads s p e in
    let whole = read_whole s p read in
    let q = accepted-spelt s p b read in
    let outside : low (p.inputs + p.outputs) ≡ p.inputs + p.outputs = mod-eq_of_lt (omega (arith, few)) in
    let w : memory_words p - (p.inputs + p.outputs) ≡ base p = omega arith in
    rw (
      outside,
      w,
      next-is s q.inputs.there,
      next-is s q.outputs.there,
      body-code s p whole q (omega (arith, few)) o,
      zero-add (length (scheme p)),
    )
    refl
