-- What compiling a table gives, by what the reader answers and what the list of the table comes to.
use Prim.Native.Nat.{ℕ, ◌≤◌, ◌<◌}
use native.Mathlib.Omega.{arith}
use native.Mathlib.Nat.{zero-add}
use mathlib.Core.Path.{◌≡◌, refl, sym, ap, ◌∙◌}
use mathlib.Core.List.{List}
use lib.ListN.{length, take}
use lib.Seq.{sets, sets-eq, take_at, take-length}
use lib.Dec.{leb}
use borrow.Author.Tests.{le-leb, lt-leb, leb-true}
use Rattle.model.specs.Limits.{word_limit, code_limit}
use Rattle.model.specs.Syntax.{Program}
use Rattle.model.specs.Reader.{Read, program, refused as unread}
use Rattle.model.specs.Accept.{accept, memory_words, answer_of}
use Rattle.model.specs.Scheme.{scheme}
use Rattle.model.specs.Code.{Compilation, bytes_in, place_of, code_of, encode, compiled, refused, fitting, compile, compiled_answer}
use Rattle.model.specs.Code.{buffer_after, given_back, number_of, returned_of}
use Rattle.model.specs.declared.Facts.{Facts}
use Rattle.std.specs.Prelude.{Ok, Err}
use Rattle.model.specs.Answers.{reason_number}
use Rattle.model.specs.declared.Refusal.{Refusal}
use Rattle.model.specs.declared.Reason.TheVariants.{TooLarge}
use Rattle.model.proofs.Tables.Accepts.{accept-reads, compile-accepts}
use Rattle.model.proofs.Tables.Readers.{read-well}
use Rattle.model.proofs.Coding.Fits.{scheme-fits}
use Rattle.model.proofs.Coding.Realise.{encode-length}
use Rattle.model.proofs.Cases.{by_bool, never}
use Rattle.assembler.specs.Entries.{entries_of}
use Rattle.assembler.specs.Listed.{Listed}
use Rattle.assembler.specs.declared.entry.Entry.{Entry}
use Rattle.assembler.proofs.Assembled.{bytes-least}
use Rattle.statements.proofs.Fills.{entries-length}
use Rattle.statements.proofs.TableCode.{facts-are}
use Rattle.compiler.specs.Codes.{assembled, bytes_into}

-- what the reader's answer says of the table
pub accepted-as : (r : Read) (f : Facts) → answer_of r ≡ Ok f → (p : Program) × (r ≡ program p)
accepted-as (program p) f e = (p, refl)
accepted-as (unread n at) f e = never (cc)

refused_as : (r : Read) (z : Refusal) → answer_of r ≡ Err z → r ≡ unread z.reason z.returned
refused_as (program q) z e = never (cc)
refused_as (unread k at) z e = let a : record { reason = k; returned = at } ≡ z = cc in rw (← a)

-- the scheme's list, where it is not too long
pub scheme-listed : (s : List ℕ) (p : Program) (o : List Entry) {n : ℕ} {l : List Entry} → accept s ≡ program p
    → memory_words p ≤ word_limit → length o ≡ code_limit → n ≡ length (scheme p) → l ≡ sets o 0 (entries_of (scheme p)) → n ≤ code_limit
    → Listed (scheme p) (length (take n l)) (take n l)
scheme-listed s p o {n} {l} e few long counted is short =
    let xs = entries_of (scheme p) in
    let same = entries-length (scheme p) in
    let front : take n l ≡ xs =
    rw counted (ap (take (length (scheme p))) (is ∙ sets-eq xs o 0 (omega arith)) ∙ take_at xs _ (length (scheme p)) same) in
    record {
      counted = ap length front ∙ same;
      short = omega arith;
      fit = scheme-fits p (read-well s p (accept-reads s p e)).0 (omega (arith, few));
      entries = ap (take (length (scheme p))) front ∙ rw same at (take-length xs);
    }

module _ (s : List ℕ) (room : ℕ) where
  pub compile-refused : (z : Refusal) → answer_of (accept s) ≡ Err z → compile s room ≡ refused z.reason z.returned
  unfolding compile
  compile-refused z e = rw (refused_as (accept s) z e)

  module _ (f : Facts) (p : Program) (is : accept s ≡ program p) (answer : answer_of (accept s) ≡ Ok f) where
    as-fitting : compile s room ≡ fitting room p (code_of p)
    unfolding compile
    as-fitting = rw is

    pub words_are : f.words ≡ memory_words p
    words_are = ap (λ (x : Facts). x.words) (facts-are (accept s) f p answer is)

    code-long : length (code_of p) ≡ bytes_in (scheme p)
    unfolding code_of
    code-long = encode-length (place_of (scheme p)) (scheme p)

    -- over 4,096 words, or a list of more than 16,384 instructions: 10
    pub words-refused : word_limit < f.words → compile s room ≡ refused TooLarge 0
    unfolding fitting
    words-refused l = as-fitting ∙ rw (lt-leb (memory_words p) word_limit (rw words_are at l))

    pub list-refused : memory_words p ≤ word_limit → code_limit < length (scheme p) → compile s room ≡ refused TooLarge 0
    unfolding fitting
    list-refused h l =
        as-fitting
        ∙ rw (
          le-leb (memory_words p) word_limit h,
          lt-leb (length (code_of p)) code_limit (omega (arith, bytes-least (scheme p), code-long)),
        )

    -- else what the bytes of the list come to
    pub as-assembled : memory_words p ≤ word_limit → compiled_answer (compile s room) ≡ assembled room (scheme p)
    unfolding fitting
    as-assembled h =
        ap compiled_answer as-fitting
        ∙ rw (le-leb (memory_words p) word_limit h, code-long)
        (by_bool (leb (bytes_in (scheme p)) code_limit)
        (λ a. by_bool (leb (bytes_in (scheme p)) room) (λ b. rw (a, b, code-long) refl) (λ b. rw (a, b) refl))
        (λ a. rw a refl))

    pub buffer-assembled : memory_words p ≤ word_limit → (o : List ℕ) → length o ≡ room
        → buffer_after (compile s room) o ≡ bytes_into room (scheme p) o
    unfolding fitting code_of
    buffer-assembled h o long =
        let c = encode (place_of (scheme p)) (scheme p) in
        ap (λ x. buffer_after x o) as-fitting
        ∙ rw (le-leb (memory_words p) word_limit h, code-long)
        (by_bool (leb (bytes_in (scheme p)) code_limit)
        (λ a. by_bool (leb (bytes_in (scheme p)) room)
        (λ b. rw (a, b) (sym (sets-eq c o 0 (omega (arith, code-long, leb-true (bytes_in (scheme p)) room b)) ∙ rw (zero-add
        (length c)) refl)))
        (λ b. rw (a, b) refl))
        (λ a. rw a refl))

-- the answer is the code's length: what was compiled
coded-as : (x : Compilation) (n : ℕ) → compiled_answer x ≡ Ok n
    → (p : Program) × (code : List ℕ) × (x ≡ compiled p code) × (length code ≡ n)
coded-as (compiled p code) n e = (p, code, refl, cc)
coded-as (refused k r) n e = never (cc)

-- then the front of the buffer is the code
pub front_fits : (s : List ℕ) (room n : ℕ) → compiled_answer (compile s room) ≡ Ok n → n ≤ room
front_fits s room n e =
    let q = coded-as (compile s room) n e in
    omega (arith, (compile-accepts s room q.0 q.1 q.2).4, q.3)

pub front-given : (x : Compilation) (n : ℕ) (o : List ℕ) → compiled_answer x ≡ Ok n
    → (take n (buffer_after x o) ≡ given_back x o) × (0 ≡ number_of x) × (n ≡ returned_of x)
front-given (compiled p code) n o e =
    let q : length code ≡ n = cc in
    (take_at code _ n q, refl, sym q)
front-given (refused k r) n o e = never (cc)

-- on a refusal the buffer is as it was
pub refusal-given : (x : Compilation) (z : Refusal) (o : List ℕ) → compiled_answer x ≡ Err z
    → (buffer_after x o ≡ given_back x o) × (reason_number z.reason ≡ number_of x) × (z.returned ≡ returned_of x)
refusal-given (compiled p code) z o e = never (cc)
refusal-given (refused k q) z o e = let a : record { reason = k; returned = q } ≡ z = cc in rw (← a) (refl, refl, refl)
