-- Laws of going along the timer queue while sleepers are woken.
use Prim.Native.Nat.{ℕ, zero, suc, ◌+◌, ◌-◌, ◌^◌, ◌<◌, ◌≤◌}
use native.Mathlib.Omega.{arith}
use mathlib.Core.Path.{◌≡◌, refl, sym, ap, ◌∙◌}
use mathlib.Core.Bool.{Bool, true, false, cond}
use mathlib.Core.List.{List, [], ◌∷◌}
use borrow.Author.Tests.{ltb-true, eq-eqb, ne_eqb, le-leb, lt-leb, eqb-true, eqb-false}
use lib.ListN.{length, get_or, set, replicate, length-replicate, length-set}
use lib.Seq.{get_or-set_same, get_or-set_other}
use lib.Dec.{ltb, eqb}
use Rattle.std.specs.Prelude.{Ok, Err}
use Rattle.std.proofs.Math.ListN.{get_or-append}
use Rattle.model.specs.Word.{after, not_process}
use Rattle.model.specs.Limits.{word_limit}
use Rattle.model.specs.Machine.{World, Act, done, faults, next, ◌>>=◌, ◌>>◌, return, fault, memory_size, peek, space_of, time_link_word}
use Rattle.model.specs.Machine.{time_word}
use Rattle.model.specs.Timer.{was_at, wake_one, within_limit, wake_from}
use Rattle.model.specs.declared.Cpu.{Cpu}
use Rattle.model.specs.declared.Setup.{Setup}
use Rattle.model.specs.declared.FaultKind.{FaultKind}
use Rattle.model.specs.declared.FaultKind.TheVariants.{Word}
use Rattle.model.proofs.Cases.{by_bool}
use Rattle.processor.specs.Seen.{Rest, world}
use Rattle.waking.specs.Wakes.{Due, due_by, due_in, WakesOne, WakesAll}
use Rattle.waking.specs.declared.wake.Awake.{Awake}
use Rattle.waking.proofs.Waking.{one_inside}

-- an action where a time has come, and one where it has not
abbrev by_due : Due → (yes no : Act ℕ) → Act ℕ
by_due (Ok b) f g = cond b f g
by_due (Err k) f g = fault k

asked :
    (c : ℕ) (t : Bool) (v n : ℕ) (k : FaultKind) (f g : Act ℕ) (s : World) → (t ≡ true → v ≡ n)
    → next (cond t (done v s) (faults k)) (λ w. cond (after c w) f g) ≡ by_due (due_by c (cond t (Ok n) (Err k))) f g s
asked c true v n k f g s e = rw (e refl)
asked c false v n k f g s e = refl

-- a process is woken, and waking goes on with the next
abbrev waked : (c front p n : ℕ) (seen : List ℕ) → Act ℕ
waked c front p n seen = do
  within_limit front
  q ← wake_one c p
  wake_from n c front (p ∷ seen) q

module _ (c front p n : ℕ) (seen : List ℕ) (u : Setup) (x : Rest) (r : Cpu) (l : List ℕ) (h : memory_size u ≡ length l) where
  -- at the queue's end
  along-end : p ≡ not_process → wake_from (suc n) c front seen p (world x u r l) ≡ done p (world x u r l)
  unfolding wake_from
  along-end e = rw (eq-eqb p not_process e)

  module _ (e : p ≡ not_process → ⊥) where
    -- the queue comes back on itself
    along-again : was_at p seen ≡ true → wake_from (suc n) c front seen p (world x u r l) ≡ faults (Word front)
    unfolding wake_from space_of
    along-again f = rw (ne_eqb p not_process e, f)

    -- the process's time is asked for
    along-due :
        was_at p seen ≡ false
        → wake_from (suc n) c front seen p (world x u r l) ≡ by_due (due_in l c p) (waked c front p n seen) (return p) (world x u r l)
    unfolding wake_from space_of peek
    along-due f =
        let a = time_word p in
        rw (ne_eqb p not_process e, f, h)
        (asked c (ltb a (length l)) _ (get_or l a 0) (Word a) _ _ _ (λ t. get_or-append l x.behind 0 a (ltb-true a (length l) t)))

-- how far the walk has come: so many processes were passed, those that were seen are marked by their links, and waking goes on at p
pub record Walks (c front : ℕ) (start : Cpu) (l₀ : List ℕ) (marks : List Bool) (passed p : ℕ) (r : Cpu) (l : List ℕ) : Type 0 where
  pub seen : List ℕ
  pub marked : (q : ℕ) → q < 2 ^ 32 → was_at q seen ≡ get_or marks (time_link_word q) false
  pub onward : (u : Setup) → memory_size u ≡ length l₀ → (x : Rest)
      → wake_from (suc (length l₀)) c front [] front (world x u start l₀)
      ≡ wake_from (suc (length l₀) - passed) c front seen p (world x u r l)
  pub words : length l ≡ length l₀
  pub runs : r.running ≡ start.running
  pub long : length marks ≡ 4096
  pub word : p < 2 ^ 32
  pub few : passed ≤ suc (length l₀)

-- nothing is marked
pub unmarked : (n k : ℕ) → get_or (replicate n false) k false ≡ false
unmarked zero k = refl
unmarked (suc n) zero = refl
unmarked (suc n) (suc k) = unmarked n k

-- a walk begins
pub walks-start : (c front : ℕ) (r : Cpu) (l : List ℕ) → front < 2 ^ 32 → Walks c front r l (replicate 4096 false) 0 front r l
unfolding was_at
walks-start c front r l h =
    let n : suc (length l) - 0 ≡ suc (length l) = omega arith in
    record {
      seen = [];
      marked = λ q k. sym (unmarked 4096 (time_link_word q));
      onward = λ u g x. rw n;
      words = refl;
      runs = refl;
      long = length-replicate 4096 false;
      word = h;
      few = omega arith;
    }

-- links of two processes are two words
links-differ : (p q : ℕ) → p < 2 ^ 32 → q < 2 ^ 32 → (q ≡ p → ⊥) → time_link_word q ≡ time_link_word p → ⊥
links-differ p q h k n e = n (omega arith)

-- one more is seen, and its link is marked
marks-more :
    (p q : ℕ) (seen : List ℕ) (marks : List Bool) → p < 2 ^ 32 → q < 2 ^ 32 → time_link_word p < length marks
    → was_at q seen ≡ get_or marks (time_link_word q) false
    → was_at q (p ∷ seen) ≡ get_or (set marks (time_link_word p) true) (time_link_word q) false
unfolding was_at
marks-more p q seen marks h k i e =
    by_bool (eqb q p)
    (λ t. rw (t, eqb-true q p t) (sym (get_or-set_same marks (time_link_word p) true false i)))
    (λ t.
    let n = links-differ p q h k (eqb-false q p t) in
    rw (t, get_or-set_other marks (time_link_word p) (time_link_word q) true false n) e)

module _ {c front : ℕ} {start : Cpu} {l₀ : List ℕ} {marks : List Bool} {passed p : ℕ} {r : Cpu} {l : List ℕ}
    (w : Walks c front start l₀ marks passed p r l) where
  -- more were passed than there are words
  pub walks-spent : length l₀ < passed → WakesAll c front start l₀ (Err (Word front)) l
  unfolding wake_from space_of
  walks-spent g =
      let n : suc (length l₀) - passed ≡ 0 = omega arith in
      record { said = λ u h x. w.onward u h x ∙ rw n; long = w.words; runs = tt }

  module _ (g : passed ≤ length l₀) where
    -- waking goes on with fuel
    fueled : (u : Setup) → memory_size u ≡ length l₀ → (x : Rest)
        → wake_from (suc (length l₀)) c front [] front (world x u start l₀)
        ≡ wake_from (suc (length l₀ - passed)) c front w.seen p (world x u r l)
    fueled u h x = let n : suc (length l₀) - passed ≡ suc (length l₀ - passed) = omega arith in rw n at (w.onward u h x)

    -- at the queue's end
    pub walks-end : p ≡ not_process → WakesAll c front start l₀ (Ok (record { cpu = r; front = p })) l
    walks-end e =
        record { said = λ u h x. fueled u h x ∙ along-end c front p _ w.seen u x r l (h ∙ sym w.words) e; long = w.words; runs = w.runs }

    module _ (e : p ≡ not_process → ⊥) {t : Bool} (m : t ≡ get_or marks (time_link_word p) false) where
      was : was_at p w.seen ≡ t
      was = w.marked p w.word ∙ sym m

      -- at a process that was seen
      pub walks-again : t ≡ true → WakesAll c front start l₀ (Err (Word front)) l
      walks-again b =
          record {
            said = λ u h x. fueled u h x ∙ along-again c front p _ w.seen u x r l (h ∙ sym w.words) e (was ∙ b);
            long = w.words;
            runs = tt;
          }

      module _ (b : t ≡ false) {d : Due} (f : d ≡ due_in l c p) where
        -- its time is asked for
        due : {n : Due} → d ≡ n → (u : Setup) → memory_size u ≡ length l₀ → (x : Rest)
            → wake_from (suc (length l₀)) c front [] front (world x u start l₀)
            ≡ by_due n (waked c front p (length l₀ - passed) w.seen) (return p) (world x u r l)
        due k u h x =
            fueled u h x ∙ along-due c front p _ w.seen u x r l (h ∙ sym w.words) e (was ∙ b)
            ∙ ap (λ n. by_due n (waked c front p (length l₀ - passed) w.seen) (return p) (world x u r l)) (sym f ∙ k)

        -- it has not come
        pub walks-no : d ≡ Ok false → WakesAll c front start l₀ (Ok (record { cpu = r; front = p })) l
        walks-no k = record { said = due k; long = w.words; runs = w.runs }

        -- it is outside memory
        pub walks-undue : {k : FaultKind} → d ≡ Err k → WakesAll c front start l₀ (Err k) l
        walks-undue k = record { said = due k; long = w.words; runs = tt }

        module _ (y : d ≡ Ok true) where
          -- it has come, in a machine of more words than a start gives
          pub walks-wide : word_limit < length l₀ → WakesAll c front start l₀ (Err (Word front)) l
          unfolding space_of
          walks-wide i =
              record { said = λ u h x. due y u h x ∙ rw (h, lt-leb (length l₀) word_limit i); long = w.words; runs = tt }

          module _ (i : length l₀ ≤ word_limit) where
            one : (u : Setup) → memory_size u ≡ length l₀ → (x : Rest)
                → wake_from (suc (length l₀)) c front [] front (world x u start l₀)
                ≡ next (wake_one c p (world x u r l)) (λ q. wake_from (length l₀ - passed) c front (p ∷ w.seen) q)
            one u h x = due y u h x ∙ rw (h, le-leb (length l₀) word_limit i)

            -- waking it faults
            pub walks-fault : {k : FaultKind} {o : List ℕ} → WakesOne c p r l (Err k) o → WakesAll c front start l₀ (Err k) o
            walks-fault v =
                record { said = λ u h x. one u h x ∙ rw (v.said u (h ∙ sym w.words) x); long = v.long ∙ w.words; runs = tt }

            -- it is woken, and the walk goes on
            pub walks-on :
                {a : Awake} {o : List ℕ} → a.front < 2 ^ 32 → WakesOne c p r l (Ok a) o
                → Walks c front start l₀ (set marks (time_link_word p) true) (passed + 1) a.front a.cpu o
            walks-on {a} fits v =
                let n : suc (length l₀) - (passed + 1) ≡ length l₀ - passed = omega arith in
                let j : time_link_word p < length marks = omega (arith, one_inside v, w.words, w.long) in
                record {
                  seen = p ∷ w.seen;
                  marked = λ q k. marks-more p q w.seen marks w.word k j (w.marked q k);
                  onward = λ u h x. one u h x ∙ rw (v.said u (h ∙ sym w.words) x, n);
                  words = v.long ∙ w.words;
                  runs = v.runs ∙ w.runs;
                  long = length-set marks (time_link_word p) true ∙ w.long;
                  word = fits;
                  few = omega arith;
                }
