-- The code of statements as it is put into the list, by places of the table (01, "Workspace and code").
use Rattle.std.specs.Prelude.{ℕ, zero, suc, ◌+◌, ◌-◌, ◌*◌, cond, List, ◌≡◌, get_or, set, replicate, eqb}
use Rattle.model.specs.Limits.{name_limit, part_limit}
use Rattle.model.specs.Word.{low, minus}
use Rattle.assembler.specs.declared.entry.Entry.{Entry}
use Rattle.plan.specs.Extents.{extent_in}
use Rattle.expressions.specs.Emits.{Code, at, plain_into, distance_into, operation_into}
use Rattle.expressions.specs.Names.{Names, Scoped, declaring}
use Rattle.expressions.specs.Exprs.{Wrote, written, code_of, whole_into}
use Rattle.expressions.specs.declared.words.Scope.{Scope}
use Rattle.numbers.specs.Kinds.{by_declared, count_in}
use Rattle.numbers.specs.declared.kinds.Count.TheVariants.{UpTo}
use Rattle.numbers.specs.declared.kinds.Declared.{Declared}
use Rattle.statements.specs.declared.stmt.Fork.{Fork}
use Rattle.instruction.specs.Codes.{AJW, CJ, ENDP, J, LDC, LDLP, LDPI, MINT, STARTP, STL, STOPP}

-- what is made whatever words the names in scope have: what f gives for them; and the array shows them afterwards
abbrev pub Makes : {A : Type 0} → (depth : ℕ) → Scope → (before after : List ℕ) → (Names → A) → A → Type 0
Makes d sc ws after f a = (ns : Names) → Scoped d sc ws ns → (a ≡ f ns) × Scoped d sc after ns

-- the scope of a statement that runs n words below
abbrev pub under : ℕ → Scope → Scope
under n sc = record { depth = sc.depth; w = sc.w - n; variables = sc.variables; channels = sc.channels }

-- a generator of the statements inside: at a workspace, with names, from a place on
abbrev pub Inner : Type 0
Inner = (w : ℕ) → Names → ℕ → Code → Wrote

-- what a declared word starts as. 01: VAR LDC 0, CHAN the same with MINT
unfoldable pub first_into : Declared → Code → Code
first_into x c = by_declared x (plain_into LDC 0 c) (operation_into MINT c)

-- so many words from the j-th on. 01: then STL j
unfoldable pub initial_into : (left : ℕ) → Declared → (j : ℕ) → Code → Code
initial_into zero x j c = c
initial_into (suc n) x j c = initial_into n x (low (j + 1)) (plain_into STL j (first_into x c))

-- 01, VAR and CHAN: AJW -n, the words, body, AJW n
unfoldable pub declaration_into : Declared → Inner → (w : ℕ) → Names → List ℕ → (at : ℕ) → Code → Wrote
declaration_into x inner w ns s at c =
    let n = count_in (UpTo name_limit) s at in
    let v = w - n.value in
    let b = inner v (declaring x n.value v ns) n.next (initial_into n.value x 0 (plain_into AJW (minus n.value) c)) in
    written b.next (plain_into AJW n.value (code_of b))

-- SEQ: so many parts
unfoldable pub seq_into : (left : ℕ) → (ℕ → Code → Wrote) → (at : ℕ) → Code → Wrote
seq_into zero inner at c = written at c
seq_into (suc i) inner at c = let p = inner at c in seq_into i inner p.next (code_of p)

-- condition, CJ next, statement, and an index left for a J, behind which is the next
unfoldable pub pair_into : (depth w : ℕ) → List ℕ → (ℕ → Code → Wrote) → (plan s : List ℕ) → (at : ℕ) → Code → Wrote
pair_into d w vs inner p s i c =
    let t = whole_into d w 0 vs p s i c in
    let b = inner t.next (at (low (t.here + 1)) t.list) in
    let cj = distance_into CJ (low (b.here + 1)) t.here (at t.here b.list) in
    record { next = b.next; here = b.here; list = cj.list }

-- parts that end with a J: the place and the index after them, the list, and the indices left for the Js
pub record Open : Type 0 where
  pub next : ℕ
  pub here : ℕ
  pub list : List Entry
  pub ends : List ℕ

-- the same from a place of the table, the code so far, and these indices
abbrev pub opened : (next : ℕ) → Code → (ends : List ℕ) → Open
opened n c e = record { next = n; here = c.here; list = c.list; ends = e }

-- no index left yet
abbrev pub no_ends : List ℕ
no_ends = replicate part_limit 0

-- the Js at so many of these indices, from the last to the first, to the end
unfoldable pub close_into : (left : ℕ) → (ends : List ℕ) → (over : ℕ) → List Entry → List Entry
close_into zero e o l = l
close_into (suc n) e o l = let h = get_or e n 0 in close_into n e o (distance_into J o h (at h l)).list

-- so many pairs from the k-th on
unfoldable pub pairs_into : (left k depth w : ℕ) → List ℕ → (ℕ → Code → Wrote) → (plan s ends : List ℕ) → (at : ℕ) → Code → Open
pairs_into zero k d w vs inner p s e i c = opened i c e
pairs_into (suc n) k d w vs inner p s e i c =
    let b = pair_into d w vs inner p s i c in
    pairs_into n (suc k) d w vs inner p s (set e k b.here) b.next (at (low (b.here + 1)) b.list)

-- 01, IF, per pair: condition, CJ next, statement, J end; the last pair too. 02, order 1: STOPP after the last pair, before the end
unfoldable pub if_into : (count depth w : ℕ) → List ℕ → (ℕ → Code → Wrote) → (plan s : List ℕ) → (at : ℕ) → Code → Wrote
if_into n d w vs inner p s i c =
    let r = pairs_into n 0 d w vs inner p s no_ends i c in
    let z = operation_into STOPP (at r.here r.list) in
    record { next = r.next; here = z.here; list = close_into n r.ends z.here z.list }

-- 01, WHILE: condition, CJ end, body, J start
unfoldable pub while_into : (depth w : ℕ) → List ℕ → (ℕ → Code → Wrote) → (plan s : List ℕ) → (at : ℕ) → Code → Wrote
while_into d w vs inner p s i c =
    let b = pair_into d w vs inner p s i c in
    written b.next (distance_into J c.here b.here (code_of b))

-- 01, for each branch from the second: LDC start, LDLP -d, STARTP
unfoldable pub start_into : (d start : ℕ) → Code → Code
start_into d start c = operation_into STARTP (plain_into LDLP (minus d) (distance_into LDC start (low (c.here + 2)) c))

-- a branch d words below. 01: its code, LDLP d, ENDP
unfoldable pub branch_into : (d : ℕ) → Inner → (w : ℕ) → Names → (at : ℕ) → Code → Wrote
branch_into d inner w ns i c =
    let b = inner (w - d) ns i c in
    written b.next (operation_into ENDP (plain_into LDLP d (code_of b)))

-- so many branches from the second on, each with its start
unfoldable pub branches_into : (left : ℕ) → Inner → (w : ℕ) → Names → (plan : List ℕ) → (at d start : ℕ) → Code → Wrote
branches_into zero inner w ns p i d start c = written i c
branches_into (suc n) inner w ns p i d start c =
    let st = start_into d c.here (at start c.list) in
    let b = branch_into d inner w ns i (at c.here st.list) in
    branches_into n inner w ns p b.next (low (d + (extent_in p i).need)) st.here (code_of b)

-- what a PAR begins with, and the list
pub record Forked : Type 0 where
  pub fork : Fork
  pub list : List Entry

-- the same from what a function answers, and the list
abbrev pub forked : Fork → List Entry → Forked
forked f l = record { fork = f; list = l }

-- 01: AJW -2; LDC end, which is left for later, LDPI, STL 0; LDC count, STL 1
unfoldable pub fork_into : (count : ℕ) → Code → Forked
fork_into n c =
    let a = plain_into AJW (minus 2) c in
    let user = low (a.here + 1) in
    let h = plain_into STL 1 (plain_into LDC n (plain_into STL 0 (operation_into LDPI (at user a.list)))) in
    forked (record { gap = a.here; user = user; starts = h.here }) h.list

-- 01, PAR with branches: AJW -2; LDC end, LDPI, STL 0; LDC count, STL 1; the starts; the branches; AJW 2. PAR of none: no code.
-- A start has three instructions
unfoldable pub par_into : (count : ℕ) → Inner → (w : ℕ) → Names → (plan : List ℕ) → (at : ℕ) → Code → Wrote
par_into n inner w ns p i c =
    let f = fork_into n c in
    let k = f.fork in
    let one = branch_into 0 inner (w - 2) ns i (at (low (k.starts + low (3 * (n - 1)))) f.list) in
    let r = branches_into (n - 1) inner (w - 2) ns p one.next (extent_in p i).need k.starts (code_of one) in
    let l = distance_into LDC r.here k.user (at k.gap r.list) in
    cond (eqb n 0) (written i c) (written r.next (plain_into AJW 2 (at r.here l.list)))
