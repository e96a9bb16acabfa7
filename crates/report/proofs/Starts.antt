-- The text that is opened for a table is the bench program's.
use Prim.Native.Nat.{ℕ, ◌+◌, ◌-◌, ◌≤◌, ◌<◌}
use native.Mathlib.Omega.{arith}
use mathlib.Core.Path.{◌≡◌, refl, sym, ◌∙◌}
use mathlib.Core.List.{List, ◌++◌, append_assoc}
use lib.ListN.{length, take, drop, replicate, length-append, length-replicate, take-append-drop}
use lib.Seq.{take_at, length-take-le}
use borrow.Author.Tests.{lt-ltb, le-ltb}
use Rattle.model.specs.Limits.{code_limit, word_limit, channel_limit}
use Rattle.model.specs.Reader.{program}
use Rattle.model.specs.Accept.{accept, memory_words, answer_of}
use Rattle.model.specs.Layout.{base}
use Rattle.model.specs.Code.{Compilation, compiled, refused, compile, compiled_answer, buffer_after}
use Rattle.model.specs.Run.{start}
use Rattle.model.specs.Bench.{bench_slice, bench}
use Rattle.model.specs.declared.Facts.{Facts}
use Rattle.std.specs.Prelude.{Ok, Err}
use Rattle.model.specs.Answers.{refused_for}
use Rattle.model.specs.declared.Refusal.{Refusal}
use Rattle.model.specs.declared.Reason.TheVariants.{Short}
use Rattle.model.proofs.Cases.{never}
use Rattle.model.proofs.Tables.Accepts.{accept-reads, compile-accepts}
use Rattle.model.proofs.Tables.Readers.{read-well}
use Rattle.machine.proofs.Refusals.{starts}
use Rattle.report.specs.Texts.{text_from, text_of}
use Rattle.report.specs.Opens.{refusing, loaded, Begins, filled, opened_by, open_of, Opens}
use Rattle.report.specs.declared.stage.Report.{Report}
use Rattle.report.proofs.Coming.{past}

module _ (code : List ℕ) (w i o : ℕ) (i₈ : i ≤ channel_limit) (o₈ : o ≤ channel_limit)
    (words : w + i + o ≤ word_limit) (bytes : length code ≤ code_limit) where
  -- a start over exactly the words needed leaves nothing of what they held
  start-same :
      (l k : List ℕ) → length l ≡ w + i + o → length k ≡ w + i + o → start code l w i o bench_slice ≡ start code k w i o bench_slice
  start-same l k e f =
      starts code l w i o bench_slice (omega arith) (omega arith) i₈ o₈ words bytes (omega arith)
      ∙ rw (past l (w + i + o) (omega arith), ← past k (w + i + o) (omega arith))
      (sym (starts code k w i o bench_slice (omega arith) (omega arith) i₈ o₈ words bytes (omega arith)))

  start-long : (l : List ℕ) → length l ≡ w + i + o → length (start code l w i o bench_slice).memory ≡ w + i + o
  start-long l e =
      rw (starts code l w i o bench_slice (omega arith) (omega arith) i₈ o₈ words bytes (omega arith), past l (w + i + o) (omega arith))
      (simp (length-append, length-replicate) (omega arith))

-- the compiler's code is in front of the buffer
front-code : (bytes code : List ℕ) (c : List ℕ) → take (length bytes) ((bytes ++ code) ++ c) ≡ bytes
front-code bytes code c = rw append_assoc (take_at bytes (code ++ c) (length bytes) refl)

module _ (table code l : List ℕ) (h : code_limit ≤ length code) (k : word_limit ≤ length l) where
  opened :
      (x : Compilation) → compile table code_limit ≡ x
      → let o = open_of table code l in text_of o.code o.report o.memory ≡ bench table
  unfolding open_of bench text_from
  opened (refused n r) e = rw (le-ltb _ _ h, le-ltb _ _ k, e)
  opened (compiled p bytes) e =
      let a = compile-accepts table code_limit p bytes e in
      let well = (read-well table p (accept-reads table p a.0)).0 in
      let n = memory_words p in
      let t : length (take n l) ≡ n = length-take-le n l (omega (arith, a.2)) in
      let b : n - p.inputs - p.outputs ≡ base p = omega arith in
      let s = start bytes (take n l) (base p) p.inputs p.outputs bench_slice in
      let q = start-same bytes (base p) p.inputs p.outputs well.0 well.1 a.2 a.3 (take n l) (replicate n 0) t
      (length-replicate n 0) in
      let g = start-long bytes (base p) p.inputs p.outputs well.0 well.1 a.2 a.3 (take n l) t in
      rw (
        le-ltb _ _ h,
        le-ltb _ _ k,
        e,
        b,
        front-code bytes (drop (length bytes) (take code_limit code)) (drop code_limit code),
        take_at s.memory (drop n l) n g,
        q,
      )

  -- what was opened tells the bench program's text
  pub told : {r : Report} {c m : List ℕ} → Opens (open_of table code l) r c m → text_of c r m ≡ bench table
  told o = rw (o.report, o.code, o.memory) (opened (compile table code_limit) refl)

-- an accepted table that was compiled fits the memory
pub facts-fit :
    (table : List ℕ) (f : Facts) {n : ℕ} (x : Compilation) → compile table code_limit ≡ x → compiled_answer x ≡ Ok n
    → answer_of (accept table) ≡ Ok f → (f.inputs + f.outputs ≤ f.words) × (f.words ≤ word_limit)
facts-fit table f (refused k r) e c q = never (cc)
facts-fit table f (compiled p bytes) e c q =
    let a = compile-accepts table code_limit p bytes e in
    let z = rw a.0 at q in
    let w : memory_words p ≡ f.words = cc in
    let i : p.inputs ≡ f.inputs = cc in
    let o : p.outputs ≡ f.outputs = cc in
    (omega arith, omega (arith, a.2))

module _ (table code l : List ℕ) (h : code_limit ≤ length code) (k : word_limit ≤ length l) where
  open-goes : open_of table code l ≡ opened_by (compile table code_limit) code l
  unfolding open_of
  open-goes = rw (le-ltb _ _ h, le-ltb _ _ k)

  coded :
      {c : List ℕ} {n : ℕ} {r : Report} {m : List ℕ} (x : Compilation) → compile table code_limit ≡ x → compiled_answer x ≡ Ok n
      → c ≡ filled x code → Begins (loaded (accept table) (take n c) l) r m
      → Opens (opened_by x code l) r c m
  coded (refused j r) e q d b = never (cc)
  coded {c} {n} {r} {m} (compiled p bytes) e q d b =
      let a = compile-accepts table code_limit p bytes e in
      let z : length bytes ≡ n = cc in
      let t : take n c ≡ bytes = rw (d, ← z) (front-code bytes (drop (length bytes) (take code_limit code)) (drop code_limit code)) in
      let g : Begins (loaded (program p) bytes l) r m = rw (a.0, t) at b in
      record { report = g.report; code = d; memory = g.memory }

  not-coded :
      {c : List ℕ} {e : Refusal} (x : Compilation) → compiled_answer x ≡ Err e → c ≡ filled x code
      → Opens (opened_by x code l) (refusing e) c l
  not-coded (compiled j bytes) q d = never (cc)
  not-coded {e = e} (refused j r) q d =
      let a : refused_for j r ≡ e = cc in
      record { report = rw (← a); code = d ∙ take-append-drop code_limit code; memory = refl }

  -- a compiled table is started
  pub opens-coded :
      {c : List ℕ} {n : ℕ} {r : Report} {m : List ℕ} → compiled_answer (compile table code_limit) ≡ Ok n
      → c ≡ filled (compile table code_limit) code → Begins (loaded (accept table) (take n c) l) r m
      → Opens (open_of table code l) r c m
  opens-coded q d b = rw open-goes (coded (compile table code_limit) refl q d b)

  -- or refused
  pub opens-refused :
      {c : List ℕ} {e : Refusal} → compiled_answer (compile table code_limit) ≡ Err e
      → c ≡ filled (compile table code_limit) code → Opens (open_of table code l) (refusing e) c l
  opens-refused q d = rw open-goes (not-coded (compile table code_limit) q d)

-- the code buffer is too short
pub open-short : (table code l : List ℕ) → length code < code_limit
    → Opens (open_of table code l) (refusing (refused_for Short code_limit)) code l
unfolding open_of
open-short table code l h = rw (lt-ltb _ _ h) (record { report = refl; code = refl; memory = refl })

-- the memory is too short
pub open-small :
    (table code l : List ℕ) → code_limit ≤ length code → length l < word_limit
    → Opens (open_of table code l) (refusing (refused_for Short word_limit)) code l
unfolding open_of
open-small table code l h k = rw (le-ltb _ _ h, lt-ltb _ _ k) (record { report = refl; code = refl; memory = refl })

-- the code is inside its buffer
pub size_fits :
    {n : ℕ} {c : List ℕ} (l k : List ℕ) (x : Compilation) → compiled_answer x ≡ Ok n → c ≡ buffer_after x l ++ k → n ≤ length c
size_fits l k (refused j r) q d = never (cc)
size_fits {n} l k (compiled p bytes) q d =
    let z : length bytes ≡ n = cc in
    rw d (simp length-append (omega arith))
