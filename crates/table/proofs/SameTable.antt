-- What the reader answers of a whole table is what the model's reader answers.
use Prim.Native.Nat.{ℕ, ◌+◌, ◌-◌, ◌≤◌, ◌<◌}
use native.Mathlib.Omega.{arith}
use mathlib.Core.Path.{◌≡◌, refl, sym, ◌∙◌}
use mathlib.Core.Logic.{◌⊎◌, inl, inr, ⊎_elim}
use mathlib.Core.Bool.{true, false, ◌&&◌, ◌||◌, and-false}
use mathlib.Core.List.{List, [], ◌∷◌, ◌++◌}
use mathlib.Core.Option.{some}
use lib.ListN.{length, drop, get_elem?, length-append, drop_of_length-le}
use lib.Seq.{drop-cons}
use lib.Dec.{ltb, leb, eqb}
use borrow.Author.Tests.{le-leb, lt-leb, le-ltb, lt-ltb, eq-eqb, ne_eqb, ltb-true, ltb-false, eqb-true, eqb-false}
use Rattle.model.proofs.Cases.{by_bool, by-option, by-parsed, never}
use Rattle.model.specs.Limits.{table_limit}
use Rattle.model.specs.Syntax.{Site, input_of, output_of, declared, Program}
use Rattle.model.specs.Reader.{Reader, onward}
use Rattle.model.specs.Reader.{Parsed, parsed, fails, Scope, numbered, can_input, can_output, read_program, read_table, Read, refused}
use Rattle.model.specs.Usage.{same, first_clash}
use Rattle.model.specs.Counts.{processes}
use Rattle.model.specs.Accept.{accept, answer_of, checks}
use Rattle.model.specs.declared.Facts.{Facts}
use Rattle.model.specs.Answers.{refused_for}
use Rattle.model.specs.declared.Reason.{Reason}
use Rattle.model.specs.declared.Reason.TheVariants.{TableSize, BadNumber, OutOfRange, TooDeep, BadName, BytesBehind, Clash}
use Rattle.model.specs.declared.Reason.TheVariants.{TooManyProcesses, TooLarge, Short}
use Rattle.numbers.specs.Items.{misread, refusal_of, between_at}
use Rattle.table.specs.Stmts.{Fits}
use Rattle.table.specs.Tables.{answered, finished, body_at, table_at}
use Rattle.table.specs.declared.stmt.Names.{Names}
use Rattle.table.specs.Scopes.{Fresh, Below, Scoped}
use Rattle.std.specs.Prelude.{Result, Err}
use Rattle.model.specs.declared.Refusal.{Refusal}
use Rattle.numbers.specs.declared.Misread.{Misread}
use Rattle.table.proofs.SameItems.{Bytes, Same, gives, turns, count_same}
use Rattle.table.proofs.SameSimple.{part_of, lookup-append, length-numbered, numbered-at}
use Rattle.table.proofs.SameStmt.{stmt-same}

-- an outside channel by its number: an input or an output
abbrev channels : (ins outs : ℕ) → List Site
channels ins outs = numbered input_of ins ++ numbered output_of outs

channel-is : (ins outs i : ℕ) (a : Site) → get_elem? (channels ins outs) i ≡ some a
    → ((a ≡ input_of i) × (i < ins)) ⊎ ((a ≡ output_of (i - ins)) × (ins ≤ i) × (i < ins + outs))
channel-is ins outs i a e =
    ⊎_elim
    (λ (h : get_elem? (numbered input_of ins) i ≡ some a). inl (numbered-at input_of ins i a h))
    (λ (h : (length (numbered input_of ins) ≤ i) × (get_elem? (numbered output_of outs) (i - length (numbered input_of ins)) ≡ some a)).
    let r = numbered-at output_of outs (i - length (numbered input_of ins)) a h.1 in
    let same_number : i - length (numbered input_of ins) ≡ i - ins = rw (length-numbered input_of ins) refl in
    inr (
      r.0 ∙ rw same_number refl,
      omega (arith, h.0, length-numbered input_of ins),
      omega
          (arith, h.0, r.1, length-numbered input_of ins),
    ))
    (lookup-append (numbered input_of ins) (numbered output_of outs) i a e)

channel-ways : (ins outs i : ℕ) (a : Site) → get_elem? (channels ins outs) i ≡ some a
    → (can_input a ≡ (ltb i ins || leb (ins + outs) i)) × (can_output a ≡ (ltb i 0 || leb ins i))
channel-ways ins outs i a e =
    ⊎_elim
    (λ (h : (a ≡ input_of i) × (i < ins)). rw (h.0, lt-ltb i ins h.1, le-ltb i 0 (omega arith), lt-leb ins i h.1) (refl, refl))
    (λ (h : (a ≡ output_of (i - ins)) × (ins ≤ i) × (i < ins + outs)).
    rw (h.0, le-ltb i ins h.1, lt-leb (ins + outs) i h.2, le-ltb i 0 (omega arith), le-leb ins i h.1) (refl, refl))
    (channel-is ins outs i a e)

channels-own : (ins outs : ℕ) → Fresh (channels ins outs) (channels ins outs)
unfolding same
channels-own ins outs k v y x ek ev =
    ⊎_elim
    (λ (h : (y ≡ input_of k) × (k < ins)). ⊎_elim
    (λ (g : (x ≡ input_of v) × (v < ins)). rw (h.0, g.0) refl)
    (λ (g : (x ≡ output_of (v - ins)) × (ins ≤ v) × (v < ins + outs)).
    rw (h.0, g.0) (sym (ne_eqb k v (λ e. omega (arith, e, h.1, g.1)))))
    (channel-is ins outs v x ev))
    (λ (h : (y ≡ output_of (k - ins)) × (ins ≤ k) × (k < ins + outs)). ⊎_elim
    (λ (g : (x ≡ input_of v) × (v < ins)). rw (h.0, g.0) (sym (ne_eqb k v (λ e. omega (arith, e, h.1, g.1)))))
    (λ (g : (x ≡ output_of (v - ins)) × (ins ≤ v) × (v < ins + outs)). rw (h.0, g.0) (
    by_bool (eqb k v)
    (λ q. rw (q, eqb-true k v q) (eq-eqb (v - ins) (v - ins) refl))
    (λ q. rw q (ne_eqb (k - ins) (v - ins) (λ e. eqb-false k v q (omega (arith, e, h.1, g.1)))))))
    (channel-is ins outs v x ev))
    (channel-is ins outs k y ek)

channels-below : (ins outs at : ℕ) → Below at (channels ins outs)
channels-below ins outs at k p j e =
    ⊎_elim
    (λ (h : (declared p j ≡ input_of k) × (k < ins)). let q = h.0 in never (cc))
    (λ (h : (declared p j ≡ output_of (k - ins)) × (ins ≤ k) × (k < ins + outs)). let q = h.0 in never (cc))
    (channel-is ins outs k (declared p j) e)

abbrev outermost : (ins outs : ℕ) → Scope
outermost ins outs = record { variables = []; channels = channels ins outs }

abbrev numbers : (ins outs : ℕ) → Names
numbers ins outs = record { variables = 0; channels = ins + outs; inputs = ins; outputs = outs }

outermost-scoped : (ins outs at : ℕ) → Scoped (numbers ins outs) (outermost ins outs) at
outermost-scoped ins outs at =
    record {
      variables = refl;
      channels = sym
          (length-append (numbered input_of ins) (numbered output_of outs)
          ∙ rw (length-numbered input_of ins, length-numbered output_of outs) refl);
      outer = omega arith;
      ins = λ i a e. (channel-ways ins outs i a e).0;
      outs = λ i a e. (channel-ways ins outs i a e).1;
      own-variables = λ k v y x ek ev. never (cc);
      own-channels = channels-own ins outs;
      before-variables = λ k p j e. never (cc);
      before-channels = channels-below ins outs at;
    }

-- a refusal's reason is known by its number
refusal-is : (why : Reason) (p : ℕ) → refusal_of (misread why p) ≡ refused_for why p
refusal-is TableSize p = refl
refusal-is BadNumber p = refl
refusal-is OutOfRange p = refl
refusal-is TooDeep p = refl
refusal-is BadName p = refl
refusal-is BytesBehind p = refl
refusal-is Clash p = refl
refusal-is TooManyProcesses p = refl
refusal-is TooLarge p = refl
refusal-is Short p = refl

-- a whole program and the place after it, or a refusal
data Ends (s : List ℕ) : Result Facts Refusal → Parsed Program → Type 0 where
  program : (p : Program) (n : ℕ) → Ends s (finished p.inputs p.outputs (length s) (part_of p.body n)) (parsed p n (drop n s))
  refusal : (why : Reason) (p : ℕ) → Ends s (Err (refused_for why p)) (fails why p)

-- a part, then the rest of the table
then_ends : {A X : Type 0} {s : List ℕ} {R : A → ℕ → Result X Misread → Type 0} {x : Result X Misread} {r : Parsed A}
    (f : X → Result Facts Refusal) (k : A → Reader Program) → Same s R x r
    → ((a : A) (n : ℕ) (y : Result X Misread) → R a n y → Ends s (answered y f) (k a n (drop n s)))
    → Ends s (answered x f) (onward r k)
then_ends f k (gives a n x h) g = g a n x h
then_ends f k (turns why p) g = rw (refusal-is why p) (refusal why p)

program-same : (s : List ℕ) → Bytes s
    → Ends s
    (answered (between_at 0 8 s 0) (λ ins. answered (between_at 0 8 s ins.next) (λ outs. body_at ins.value outs.value s outs.next)))
    (read_program 0 (drop 0 s))
unfolding body_at read_program
program-same s b =
    then_ends (λ ins. answered (between_at 0 8 s ins.next) (λ outs. body_at ins.value outs.value s outs.next)) _ (count_same 0 8 s 0 b)
    (λ ins n y k. rw k.found (
    then_ends (λ outs. body_at ins outs.value s outs.next) _ (count_same 0 8 s n b)
    (λ outs m z j. rw j.found (
    let fits : Fits (numbers ins outs) 32 = (omega arith, omega arith, omega (arith, k.most, j.most), k.most, j.most) in
    then_ends (λ p. finished ins outs (length s) p) _
    (stmt-same 32 s b (numbers ins outs) (outermost ins outs) m (outermost-scoped ins outs m) fits)
    (λ st e u r. rw r.is (program (record { inputs = ins; outputs = outs; body = st }) e))))))

-- refusals 7 and 9, lowest first
checks-same : (p : Program) (n len : ℕ) → len ≤ n
    → finished p.inputs p.outputs len (part_of p.body n) ≡ answer_of (checks p)
unfolding finished checks
checks-same p n len l =
    rw (le-ltb n len l) (
    by-option (first_clash p.body)
    (λ e. by_bool (leb (processes p.body) 64) (λ g. rw (e, g) refl) (λ g. rw (e, g) refl))
    (λ q e. rw e refl))

-- what a reading is answered with: 6 at a byte behind the program, else the other tests
abbrev ended : Parsed Program → Read
ended (parsed p n []) = checks p
ended (parsed p n (b ∷ bytes)) = refused BytesBehind n
ended (fails why p) = refused why p

ended_same : (s : List ℕ) (x : Result Facts Refusal) (r : Parsed Program) → Ends s x r → x ≡ answer_of (ended r)
unfolding finished
ended_same s x r (refusal why p) = refl
ended_same s x r (program p n) =
    by_bool (ltb n (length s))
    (λ e. rw (e, drop-cons s n 0 (ltb-true n (length s) e)) refl)
    (λ e. let low : length s ≤ n = ltb-false n (length s) e in rw (drop_of_length-le s low) (checks-same p n (length s) low))

accept-is : (s : List ℕ) → (leb 1 (length s) && leb (length s) table_limit) ≡ true → accept s ≡ ended (read_program 0 s)
unfolding accept read_table
accept-is s e =
    by-parsed (read_program 0 s) (λ k p f. rw (e, f) refl) (λ p n f. rw (e, f) refl) (λ p n b l f. rw (e, f) refl)

refused-length : (s : List ℕ) → (leb 1 (length s) && leb (length s) table_limit) ≡ false → accept s ≡ refused TableSize 0
unfolding accept read_table
refused-length s e = rw e refl

pub table_same : (s : List ℕ) → Bytes s → table_at s ≡ answer_of (accept s)
unfolding table_at
table_same s b =
    by_bool (eqb (length s) 0)
    (λ e. let short : (leb 1 (length s) && leb (length s) table_limit) ≡ false = rw (eqb-true (length s) 0 e) refl in
    rw (e, refused-length s short) refl)
    (λ e. by_bool (ltb table_limit (length s))
    (λ f. let long : (leb 1 (length s) && leb (length s) table_limit) ≡ false =
    rw (lt-leb (length s) table_limit (ltb-true table_limit (length s) f)) (and-false (leb 1 (length s))) in
    rw (e, f, refused-length s long) refl)
    (λ f. let least : 1 ≤ length s = one-least (length s) (eqb-false (length s) 0 e) in
    let fine : (leb 1 (length s) && leb (length s) table_limit) ≡ true =
    rw (le-leb 1 (length s) least, le-leb (length s) table_limit (ltb-false table_limit (length s) f)) refl in
    rw (e, f, accept-is s fine) (ended_same s _ (read_program 0 s) (program-same s b))))
  where
    one-least : (n : ℕ) → (n ≡ 0 → ⊥) → 1 ≤ n
    one-least n h = omega (arith, h)
