-- VAR and CHAN.
use Prim.Native.Nat.{ℕ, suc, ◌+◌, ◌-◌, ◌≤◌, ◌<◌}
use native.Mathlib.Omega.{arith}
use mathlib.Core.Path.{◌≡◌, refl, sym, ◌∙◌}
use mathlib.Core.Logic.{◌⊎◌, inl, inr, ⊎_elim}
use mathlib.Core.Bool.{◌||◌, or-true}
use mathlib.Core.List.{List, ◌++◌}
use mathlib.Core.Option.{some}
use lib.ListN.{length, drop, get_elem?, length-append}
use lib.Dec.{ltb, leb}
use borrow.Author.Tests.{le-leb}
use Rattle.model.specs.Syntax.{Site, declared}
use Rattle.model.specs.Syntax as M
use Rattle.model.specs.Reader.{onward, pure, Scope, names, with_variables, with_channels, read_count, can_input, can_output, read_stmt}
use Rattle.model.specs.Reader.{Inner}
use Rattle.model.specs.Reader.{stmt_of}
use Rattle.model.specs.declared.kinds.StmtKind.TheVariants.{Var, Chan}
use Rattle.numbers.specs.declared.kinds.Declared.{Declared}
use Rattle.numbers.specs.declared.kinds.Declared.TheVariants.{Variables, Channels}
use Rattle.model.specs.Usage.{Usage, usage, first_clash}
use Rattle.model.specs.Counts.{processes, need}
use Rattle.table.specs.Stmts.{Fits, stmt_at, stmt_uses, declaring, more_names}
use Rattle.table.specs.Uses.{leave_at}
use Rattle.table.specs.Exprs.{kept}
use Rattle.table.specs.declared.stmt.Names.{Names}
use Rattle.table.specs.Scopes.{Scoped}
use Rattle.std.specs.Prelude.{Ok, Err}
use Rattle.table.proofs.SameItems.{Bytes, Same, gives, onwards, count_same}
use Rattle.table.proofs.Marks.{Field, changed, used-there, inputs-of, outputs-of, names_of, Marked, Clean, InScope, Adds}
use Rattle.table.proofs.Marks.{adds-variables, adds-channels, clean-added, left}
use Rattle.numbers.specs.Items.{between_at, with_read}
use Rattle.table.proofs.SameSimple.{part_of, DeclaredIn, Within, RestIs, StmtIs, own-more, below_more, below-later, lookup-append}
use Rattle.table.proofs.SameSimple.{numbered-at, length-numbered, declared-wider}

-- the statements inside, one level down
abbrev pub InnerIs : List ℕ → ℕ → Type 0
InnerIs s d = (w : Names) (sc : Scope) (i : ℕ) → Scoped w sc i → Fits w d → Same s (StmtIs s d w sc i) (stmt_at d w s i)
    (read_stmt d sc i (drop i s))

-- the sets behind a declaration: its own names leave them
abbrev pub declared_way : Declared → (d : ℕ) → Names → List ℕ → (at : ℕ) → List ℕ → List ℕ
declared_way what d w s at l =
    with_read (kept l) (between_at 1 32 s at) (λ c.
    leave_at what w.variables w.channels (stmt_uses d (more_names what c.value w) s c.next l))

variables-in : (w : Names) (sc : Scope) (place c m : ℕ) → Scoped w sc place → place < m
    → Scoped (more_names Variables c w) (with_variables place c sc) m
variables-in w sc place c m h l =
    record {
      variables = rw h.variables (sym (length-append sc.variables (names place c) ∙ rw (length-numbered (declared place) c) refl));
      channels = h.channels;
      outer = h.outer;
      ins = h.ins;
      outs = h.outs;
      own-variables = own-more sc.variables place c h.before-variables h.own-variables;
      own-channels = h.own-channels;
      before-variables = below_more sc.variables place c m h.before-variables l;
      before-channels = below-later sc.channels place m (omega (arith, l)) h.before-channels;
    }

channel-ways : (w : Names) (sc : Scope) (place c i : ℕ) (a : Site) → Scoped w sc place → get_elem? (sc.channels ++ names place c) i ≡ some a
    → (can_input a ≡ (ltb i w.inputs || leb (w.inputs + w.outputs) i)) × (can_output a ≡ (ltb i 0 || leb w.inputs i))
channel-ways w sc place c i a h e =
    ⊎_elim (λ (g : get_elem? sc.channels i ≡ some a). (h.ins i a g, h.outs i a g))
    (λ (g : (length sc.channels ≤ i) × (get_elem? (names place c) (i - length sc.channels) ≡ some a)).
    let high : w.inputs + w.outputs ≤ i = omega (arith, h.outer, h.channels, g.0) in
    rw (
      (numbered-at (declared place) c (i - length sc.channels) a g.1).0,
      le-leb (w.inputs + w.outputs) i high,
      le-leb w.inputs i
          (omega (arith, high)),
      or-true (ltb i w.inputs),
      or-true (ltb i 0),
    ) (refl, refl))
    (lookup-append sc.channels (names place c) i a e)

channels-in : (w : Names) (sc : Scope) (place c m : ℕ) → Scoped w sc place → place < m
    → Scoped (more_names Channels c w) (with_channels place c sc) m
channels-in w sc place c m h l =
    record {
      variables = h.variables;
      channels = rw h.channels (sym (length-append sc.channels (names place c) ∙ rw (length-numbered (declared place) c) refl));
      outer = omega (arith, h.outer);
      ins = λ i a e. (channel-ways w sc place c i a h e).0;
      outs = λ i a e. (channel-ways w sc place c i a h e).1;
      own-variables = h.own-variables;
      own-channels = own-more sc.channels place c h.before-channels h.own-channels;
      before-variables = below-later sc.variables place m (omega (arith, l)) h.before-variables;
      before-channels = below_more sc.channels place c m h.before-channels l;
    }

-- names of the scope outside, or of the declaration
within_new : (names1 : List Site) (place c k n : ℕ) (x : Site) → place < n → get_elem? (names1 ++ names place c) k ≡ some x
    → InScope names1 x ⊎ DeclaredIn place n x
within_new names1 place c k n x l e =
    ⊎_elim (λ (h : get_elem? names1 k ≡ some x). inl (k, h))
    (λ (h : (length names1 ≤ k) × (get_elem? (names place c) (k - length names1) ≡ some x)).
    let new = numbered-at (declared place) c (k - length names1) x h.1 in inr (rw new.0 (omega arith, l)))
    (lookup-append names1 (names place c) k x e)

-- what a declaration asks of the scope that it makes
record Declares (s : List ℕ) (d : ℕ) (w : Names) (sc : Scope) (place : ℕ) (what : Declared) (more : ℕ → Scope)
    (of : ℕ → M.Stmt → M.Stmt) : Type 0 where
  scoped : (c m : ℕ) → place < m → Scoped (more_names what c w) (more c) m
  fits : (c : ℕ) → c ≤ 32 → Fits (more_names what c w) d
  clean : (c : ℕ) (l : List ℕ) → c ≤ 32 → Clean sc l → Clean (more c) l
  leaves : (c : ℕ) (l m : List ℕ) (u : Usage) → c ≤ 32 → Clean sc l → Marked (more c) l u m
      → Marked sc l u (leave_at what w.variables w.channels m)
  within : (c m n : ℕ) (u : Usage) → place < m → m ≤ n → Within (more c) m n u → Within sc place n u
  counts : (c n : ℕ) (st : M.Stmt) → declaring c (part_of st n) ≡ part_of (of c st) n
  same-usage : (c : ℕ) (st : M.Stmt) → usage (of c st) ≡ usage st

declare-same : (s : List ℕ) (d : ℕ) (w : Names) (sc : Scope) (place : ℕ) (what : Declared) (more : ℕ → Scope)
    (of : ℕ → M.Stmt → M.Stmt) (at : ℕ)
    → Bytes s
    → place < at → InnerIs s d → Declares s d w sc place what more of
    → Same s (RestIs sc place at (declared_way what d w s at))
    (with_read Err (between_at 1 32 s at) (λ c.
    with_read Err (stmt_at d (more_names what c.value w) s c.next) (λ p. Ok (declaring c.value p))))
    (onward (read_count 1 32 at (drop at s)) (λ c. λ i bytes. onward (read_stmt d (more c) i bytes) (λ st. pure (of c st))))
declare-same s d w sc place what more of at b l inner h =
    onwards (λ x. with_read Err x (λ c.
    with_read Err (stmt_at d (more_names what c.value w) s c.next) (λ p. Ok (declaring c.value p)))) _ (count_same 1 32 s at b)
    (λ c m y k q. rw k.found (
    onwards (λ x. with_read Err x (λ p. Ok (declaring c p))) (λ st. pure (of c st))
    (inner (more_names what c w) (more c) m (h.scoped c m (omega (arith, l, k.there.ahead))) (h.fits c k.most))
    (λ st n z r p. rw (r.is, h.counts c n st) (gives (of c st) n (Ok (part_of (of c st) n))
    (record {
      is = refl;
      ahead = omega (arith, k.there.ahead, r.ahead);
      uses = λ j z.
          rw (q ∙ k.found, h.same-usage c st)
          (h.leaves c j (stmt_uses d (more_names what c w) s m j) (usage st) k.most z (r.uses j (h.clean c j k.most z)));
      within = rw (h.same-usage c st)
          (h.within c m n (usage st) (omega (arith, l, k.there.ahead)) (omega (arith, r.ahead)) r.within);
    })))
    (λ e. refl)))
    (λ e. refl)

within-variables : (sc : Scope) (place c m n : ℕ) (u : Usage) → place < m → m ≤ n → Within (with_variables place c sc) m n u
    → Within sc place n u
within-variables sc place c m n u l k w = record { each_in = λ f x e. one f x (w.each_in f x e) }
  where
    one : (f : Field) (x : Site) → InScope (names_of f (with_variables place c sc)) x ⊎ DeclaredIn m n x
        → InScope (names_of f sc) x ⊎ DeclaredIn place n x
    one changed x (inl i) = within_new sc.variables place c i.0 n x (omega (arith, l, k)) i.1
    one used-there x (inl i) = within_new sc.variables place c i.0 n x (omega (arith, l, k)) i.1
    one inputs-of x (inl i) = inl i
    one outputs-of x (inl i) = inl i
    one f x (inr i) = inr (declared-wider x m n place n (omega (arith, l)) (omega arith) i)

within-channels : (sc : Scope) (place c m n : ℕ) (u : Usage) → place < m → m ≤ n → Within (with_channels place c sc) m n u
    → Within sc place n u
within-channels sc place c m n u l k w = record { each_in = λ f x e. one f x (w.each_in f x e) }
  where
    one : (f : Field) (x : Site) → InScope (names_of f (with_channels place c sc)) x ⊎ DeclaredIn m n x
        → InScope (names_of f sc) x ⊎ DeclaredIn place n x
    one changed x (inl i) = inl i
    one used-there x (inl i) = inl i
    one inputs-of x (inl i) = within_new sc.channels place c i.0 n x (omega (arith, l, k)) i.1
    one outputs-of x (inl i) = within_new sc.channels place c i.0 n x (omega (arith, l, k)) i.1
    one f x (inr i) = inr (declared-wider x m n place n (omega (arith, l)) (omega arith) i)

pub variables-same : (s : List ℕ) (d : ℕ) (w : Names) (sc : Scope) (place at : ℕ) (inner : Inner) → Bytes s → place < at → Scoped w sc place
    → Fits w (suc d) → InnerIs s d → inner.stmt ≡ read_stmt d
    → Same s (RestIs sc place at (declared_way Variables d w s at))
    (with_read Err (between_at 1 32 s at) (λ c.
    with_read Err (stmt_at d (more_names Variables c.value w) s c.next) (λ p. Ok (declaring c.value p))))
    (stmt_of place sc inner Var at (drop at s))
unfolding stmt_of leave_at need processes first_clash usage
variables-same s d w sc place at inner b l h f i e =
    rw e (
    declare-same s d w sc place Variables (λ c. with_variables place c sc) (λ c st. M.VAR place c st) at b l i
    (record {
      scoped = λ c m k. variables-in w sc place c m h k;
      fits = λ c k. (omega (arith, f.0), omega (arith, f.1, k), omega (arith, f.2), f.3, f.4);
      clean = λ c j k z. clean-added (adds c k) z;
      leaves = λ c j m u k z r. rw h.variables (left changed used-there (adds c k) (omega (arith, h.variables, f.1)) z r);
      within = λ c m n u k j r. within-variables sc place c m n u k j r;
      counts = λ c n st. refl;
      same-usage = λ c st. refl;
    }))
  where
    adds : (c : ℕ) → c ≤ 32 → Adds changed used-there sc (with_variables place c sc) (names place c)
    adds c k = adds-variables sc place c (rw (length-numbered (declared place) c) k)

pub channels-same : (s : List ℕ) (d : ℕ) (w : Names) (sc : Scope) (place at : ℕ) (inner : Inner) → Bytes s → place < at → Scoped w sc place
    → Fits w (suc d) → InnerIs s d → inner.stmt ≡ read_stmt d
    → Same s (RestIs sc place at (declared_way Channels d w s at))
    (with_read Err (between_at 1 32 s at) (λ c.
    with_read Err (stmt_at d (more_names Channels c.value w) s c.next) (λ p. Ok (declaring c.value p))))
    (stmt_of place sc inner Chan at (drop at s))
unfolding stmt_of leave_at need processes first_clash usage
channels-same s d w sc place at inner b l h f i e =
    rw e (
    declare-same s d w sc place Channels (λ c. with_channels place c sc) (λ c st. M.CHAN place c st) at b l i
    (record {
      scoped = λ c m k. channels-in w sc place c m h k;
      fits = λ c k. (omega (arith, f.0), omega (arith, f.1), omega (arith, f.2, k), f.3, f.4);
      clean = λ c j k z. clean-added (adds c k) z;
      leaves = λ c j m u k z r. rw h.channels (left inputs-of outputs-of (adds c k) (omega (arith, h.channels, f.2)) z r);
      within = λ c m n u k j r. within-channels sc place c m n u k j r;
      counts = λ c n st. refl;
      same-usage = λ c st. refl;
    }))
  where
    adds : (c : ℕ) → c ≤ 32 → Adds inputs-of outputs-of sc (with_channels place c sc) (names place c)
    adds c k = adds-channels sc place c (rw (length-numbered (declared place) c) k)
