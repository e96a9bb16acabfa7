-- The model's code of VAR and CHAN is put into the list.
use Prim.Native.Nat.{ℕ, zero, suc, ◌+◌, ◌-◌, ◌^◌, ◌≤◌, ◌<◌}
use native.Mathlib.Omega.{arith}
use native.Mathlib.Nat.{mod-eq_of_lt}
use mathlib.Core.Path.{◌≡◌, refl, sym, ap, ◌∙◌}
use mathlib.Core.Logic.{⊎_elim}
use mathlib.Core.List.{List, [], ◌∷◌, ◌++◌, append_assoc}
use mathlib.Core.Option.{some}
use lib.ListN.{length, length-append, get_or, get_elem?, get_or-append}
use lib.Seq.{sets, get_or-append-add}
use Rattle.assembler.specs.declared.entry.Entry.{Entry}
use Rattle.model.specs.Limits.{word_limit}
use Rattle.model.specs.Word.{low, minus}
use Rattle.model.specs.Syntax.{Site, declared, Stmt, VAR, CHAN}
use Rattle.model.specs.Reader as M
use Rattle.model.specs.Reader.{names, with_variables, with_channels}
use Rattle.model.specs.Counts.{need}
use Rattle.model.specs.Instruction.{Instruction, plain, operation, ldc, ajw, stl, mint, function_code, operation_code}
use Rattle.model.specs.Scheme.{initialise, code}
use Rattle.model.proofs.Tables.WellFormed.{Laid}
use Rattle.model.proofs.Quiet.Setting.{get_elem-inside as inside}
use Rattle.model.proofs.Coding.Sizes.{initialise-length}
use Rattle.table.proofs.SameSimple.{numbered-at, lookup-append, length-numbered}
use Rattle.assembler.specs.Entries.{entries_of}
use Rattle.expressions.specs.Emits.{Code, at, plain_into, operation_into}
use Rattle.expressions.specs.Names.{Names, words_from}
use Rattle.expressions.specs.Exprs.{written, code_of}
use Rattle.expressions.proofs.Scopes.{words_long}
use Rattle.model.specs.declared.kinds.StmtKind.TheVariants.{Var, Chan}
use Rattle.numbers.specs.Kinds.{stmt_kind, count_in}
use Rattle.numbers.specs.declared.kinds.Declared.{Declared}
use Rattle.numbers.specs.declared.kinds.Declared.TheVariants.{Variables, Channels}
use Rattle.instruction.specs.Codes.{AJW}
use Rattle.statements.specs.Stmts.{first_into, initial_into, declaration_into}
use Rattle.statements.specs.Kinds.{stmt_into, inside_into}
use Rattle.statements.proofs.Spelled.{KindAt, CountAt, StmtAt}
use Rattle.statements.proofs.Planned.{PlannedStmt}
use Rattle.statements.proofs.Fills.{filled, fill-then, Room, room-left, room-right, emits, emits-fills, emits-at}
use Rattle.statements.proofs.ExprCode.{Named}
use Rattle.statements.proofs.Compiles.{Scoped, inner-names, Placed, Written, Compiles}

-- so many words from w on
pub from_is : (n w j : ℕ) → j < n → w + n < 2 ^ 32 → get_or (words_from n w) j 0 ≡ w + j
unfolding words_from
from_is zero w j l r = absurd (omega arith)
from_is (suc n) w zero l r = omega arith
from_is (suc n) w (suc j) l r =
    let next : low (w + 1) ≡ w + 1 = mod-eq_of_lt (omega arith) in
    rw next (from_is n (w + 1) j (omega arith) (omega arith) ∙ omega arith)

-- the names of a declaration, whose body runs at w, behind those in scope
pub named_more : {word : Site → ℕ} {d : ℕ} {sites : List Site} {ws : List ℕ} (p n w : ℕ) → Named word (suc d) sites ws
    → ((j : ℕ) → word (declared p j) ≡ w + j) → w + n < 2 ^ 32 → Named word d (sites ++ names p n) (ws ++ words_from n w)
named_more {word} {d} {sites} {ws} p n w h at_p fits = record {
  word-is = λ k x e.
      ⊎_elim
      (λ (g : get_elem? sites k ≡ some x).
      get_or-append ws (words_from n w) 0 k (omega (arith, inside sites k g, h.long)) ∙ h.word-is k x g)
      (λ (g : (length sites ≤ k) × (get_elem? (names p n) (k - length sites) ≡ some x)).
      let q = numbered-at (declared p) n (k - length sites) x g.1 in
      let here : length ws + (k - length sites) ≡ k = omega (arith, g.0, h.long) in
      rw here at (get_or-append-add ws (words_from n w) (k - length sites) 0)
      ∙ from_is n w (k - length sites) q.1 fits
      ∙ sym (rw q.0 (at_p (k - length sites))))
      (lookup-append sites (names p n) k x e);
  long = length-append ws (words_from n w)
      ∙ rw (h.long, words_long n w) (sym (length-append sites (names p n) ∙ rw (length-numbered (declared p) n) refl));
  deep = omega (arith, h.deep);
}

-- fewer words are initialised in fewer instructions
initial-fewer : (first : Instruction) (j t : ℕ) → j ≤ t → length (initialise first j) ≤ length (initialise first t)
initial-fewer first j t l = omega (arith, initialise-length first j, initialise-length first t)

initial-fills : (what : Declared) (first : Instruction) → ((c : Code) → first_into what c ≡ emits (first ∷ []) c)
    → (left j t h : ℕ) (xs : List Instruction) (o : List Entry) → left + j ≡ t → t < 2 ^ 32 → Room h (xs ++ initialise first t)
    → initial_into left what j (filled h (xs ++ initialise first j) o) ≡ filled h (xs ++ initialise first t) o
unfolding initial_into initialise function_code
initial-fills what first is zero j t h xs o e l m = let q : j ≡ t = omega arith in rw q
initial-fills what first is (suc left) j t h xs o e l m =
    let next : low (j + 1) ≡ suc j = mod-eq_of_lt (omega arith) ∙ omega arith in
    let I = initialise first j in
    let more = xs ++ I ++ first ∷ [] in
    let all : more ++ plain stl j ∷ [] ≡ xs ++ initialise first (suc j) = simp append_assoc in
    let room : Room h (more ++ plain stl j ∷ []) =
    rw all (omega (
      arith,
      m,
      length-append xs (initialise first t),
      length-append xs (initialise first (suc j)),
      initial-fewer first (suc j) t (omega arith),
    )) in
    rw (
      next,
      is,
      emits-fills (first ∷ []) h (xs ++ I) o (room-left h more (plain stl j ∷ []) room),
      emits-fills (plain stl j ∷ []) h more o room,
      all,
    )
    (initial-fills what first is left (suc j) t h xs o (omega arith) l m)

module _ (word : Site → ℕ) (workspace : ℕ → ℕ) (s plan : List ℕ)
    (declared-is : (p j : ℕ) → word (declared p j) ≡ workspace p + j) where
  -- what VAR and CHAN have in common: AJW -n, the words, body, AJW n
  abbrev declaration : (first : Instruction) (n : ℕ) → List Instruction → List Instruction
  declaration first n body = plain ajw (minus n) ∷ initialise first n ++ body ++ plain ajw n ∷ []

  module _ {d : ℕ} {sc : M.Scope} {ns : Names} (w j : ℕ) (inner : Compiles word workspace s plan d) where
    declaration-code : (what : Declared) (first : Instruction) → ((c : Code) → first_into what c ≡ emits (first ∷ []) c)
        → {m q : ℕ} {b : Stmt} (n : ℕ) → n ≤ 32 → (a : StmtAt s d sc m b q) → PlannedStmt s plan a → Scoped word d sc ns
        → Laid workspace (w - n) b → w ≤ word_limit
        → n + need b ≤ word_limit → let X = declaration first n (code word (w - n) (j + 1 + (n + n)) b) in
        Room j X → (o : List Entry)
        → let r = stmt_into d (w - n) ns plan s m (initial_into n what 0 (plain_into AJW (minus n) (at j o))) in
        written r.next (plain_into AJW n (code_of r)) ≡ written q (filled j X o)
    unfolding function_code initialise
    declaration-code what first is {q = q} {b = b} n l a told scope laid fits few room o =
        let F = plain ajw (minus n) ∷ [] in
        let I = initialise first n in
        let B = code word (w - n) (j + 1 + (n + n)) b in
        let head = room-left j (F ++ I ++ B) (plain ajw n ∷ []) room in
        let begin = room-left j (F ++ I) B head in
        let index : j + length (F ++ I) ≡ j + 1 + (n + n) = omega (arith, initialise-length first n) in
        let behind : filled (j + 1 + (n + n)) B (sets o j (entries_of (F ++ I))) ≡ filled j (F ++ I ++ B) o =
        rw index at (fill-then j (F ++ I) B o) in
        rw (
          emits-at F j o (room-left j F I begin),
          initial-fills what first is n 0 n j F o (omega arith) (omega arith) begin,
          index,
          inner.compiles (w - n) (j + 1 + (n + n)) a told scope
              (record { laid = laid; low = omega arith; few = omega arith; room = rw index at (room-right j (F ++ I) B head) })
              (sets o j (entries_of (F ++ I))),
          behind,
        )
        (ap (written q) (emits-fills (plain ajw n ∷ []) j (F ++ I ++ B) o room))

  module _ {d : ℕ} {sc : M.Scope} {ns : Names} (w j : ℕ) (scope : Scoped word (suc d) sc ns)
      (inner : Compiles word workspace s plan d) where
    pub var-code : {i n m q k : ℕ} {b : Stmt} → KindAt s stmt_kind i Var n → CountAt s 1 32 n k m
        → (a : StmtAt s d (with_variables i k sc) m b q) → PlannedStmt s plan a
        → Placed word workspace s plan w j (VAR i k b) → Written word workspace s plan (suc d) ns w j i q (VAR i k b)
    unfolding stmt_into inside_into declaration_into count_in code first_into function_code operation_code operation_into need
    var-code {i} {k = k} t c a told p o =
        rw (t.value, t.is, c.there.value, c.fits)
        (declaration-code w j inner Variables (plain ldc 0) (λ c. refl) k c.most a told
        (record {
          variables = named_more i k (w - k) scope.variables (λ y. declared-is i y ∙ ap (λ x. x + y) p.laid.0)
              (omega (arith, p.low, c.most));
          channels = inner-names scope.channels;
        })
        p.laid.1 p.low p.few p.room o)

    pub chan-code : {i n m q k : ℕ} {b : Stmt} → KindAt s stmt_kind i Chan n → CountAt s 1 32 n k m
        → (a : StmtAt s d (with_channels i k sc) m b q) → PlannedStmt s plan a
        → Placed word workspace s plan w j (CHAN i k b) → Written word workspace s plan (suc d) ns w j i q (CHAN i k b)
    unfolding stmt_into inside_into declaration_into count_in code first_into function_code operation_code operation_into need
    chan-code {i} {k = k} t c a told p o =
        rw (t.value, t.is, c.there.value, c.fits)
        (declaration-code w j inner Channels (operation mint) (λ c. refl) k c.most a told
        (record {
          variables = inner-names scope.variables;
          channels = named_more i k (w - k) scope.channels (λ y. declared-is i y ∙ ap (λ x. x + y) p.laid.0)
              (omega (arith, p.low, c.most));
        })
        p.laid.1 p.low p.few p.room o)
