-- What a run's beginning does to a timer queue whose words are in memory: its front wakes, or waits on.
use Prim.Native.Nat.{ℕ, suc, ◌≤◌, ◌<◌}
use mathlib.Core.Path.{◌≡◌, refl}
use mathlib.Core.Logic.{◌≢◌}
use mathlib.Core.Bool.{true, false}
use mathlib.Core.List.{List, ◌∷◌}
use lib.ListN.{get_or}
use borrow.Author.Tests.{eq-eqb, ne_eqb, le-leb}
use Rattle.model.specs.Word.{after, not_process}
use Rattle.model.specs.Limits.{word_limit}
use Rattle.model.specs.Machine.{World, done, with_timer, enqueue, state_word, time_link_word, time_word, name_of}
use Rattle.model.specs.Alternative.{waiting, ready}
use Rattle.model.specs.Timer.{time_set, was_at, wake_one, wake_from}
use Rattle.model.proofs.Quiet.Names.{name_back}
use Rattle.model.proofs.Effects.OneWord.{cpu_of, size_of, stored, peek-in, poke-in}

-- a world with another front of the timer queue
abbrev pub fronted : (front : ℕ) → World → World
fronted f s =
    let t = s.machine.timer in
    with_timer (record { clock = t.clock; given = t.given; front = f }) s

-- the words of a process that wakes: its time is the clock, and it is Ready
abbrev pub timed_at : (clock w : ℕ) → World → World
timed_at c w s = stored (time_word w) c (stored (time_link_word w) time_set s)

abbrev pub roused : (clock w : ℕ) → World → World
roused c w s = stored (state_word w) ready (timed_at c w s)

-- one that waits wakes and joins the queue; what was behind it is given
pub wake_one-in : (c w q : ℕ) (s u : World) → time_link_word w < size_of s → time_word w < size_of s → state_word w < size_of s
    → get_or s.memory (time_link_word w) 0 ≡ q → get_or (timed_at c w s).memory (state_word w) 0 ≡ waiting
    → enqueue (name_of w) (cpu_of s) (roused c w s) ≡ done tt u → wake_one c (name_of w) s ≡ done q u
unfolding wake_one
wake_one-in c w q s u link time state e f joins =
    rw (
      name_back w,
      peek-in (time_link_word w) s link,
      poke-in (time_link_word w) time_set s link,
      poke-in (time_word w) c (stored (time_link_word w) time_set s) time,
      peek-in (state_word w) (timed_at c w s) state,
      f,
      eq-eqb waiting waiting refl,
      poke-in (state_word w) ready (timed_at c w s) state,
      joins,
      e,
    )

-- one that was woken before, or is at work, does not
pub wake_one-awake : (c w q z : ℕ) (s : World) → time_link_word w < size_of s → time_word w < size_of s → state_word w < size_of s
    → get_or s.memory (time_link_word w) 0 ≡ q → get_or (timed_at c w s).memory (state_word w) 0 ≡ z → z ≢ waiting
    → wake_one c (name_of w) s ≡ done q (timed_at c w s)
unfolding wake_one
wake_one-awake c w q z s link time state e f off =
    rw (
      name_back w,
      peek-in (time_link_word w) s link,
      poke-in (time_link_word w) time_set s link,
      poke-in (time_word w) c (stored (time_link_word w) time_set s) time,
      peek-in (state_word w) (timed_at c w s) state,
      f,
      ne_eqb z waiting off,
      e,
    )

module _ (n c front : ℕ) (seen : List ℕ) {p : ℕ} where
  -- the queue's end
  pub wake_from-ends : (s : World) → p ≡ not_process → wake_from (suc n) c front seen p s ≡ done p s
  unfolding wake_from
  wake_from-ends s e = rw (eq-eqb p not_process e)

  module _ (w tm : ℕ) (s : World) (at : p ≡ name_of w) (given : name_of w ≢ not_process) (new : was_at (name_of w) seen ≡ false)
      (time : time_word w < size_of s) (is : get_or s.memory (time_word w) 0 ≡ tm) where
    -- one whose time is still to come waits on, as all behind it
    pub wake_from-stops : after c tm ≡ false → wake_from (suc n) c front seen p s ≡ done p s
    unfolding wake_from
    wake_from-stops e = rw (at, ne_eqb (name_of w) not_process given, new, name_back w, peek-in (time_word w) s time, is, e)

    -- one whose time has come wakes
    pub wake_from-wakes : {q : ℕ} {u : World} → after c tm ≡ true → size_of s ≤ word_limit → wake_one c (name_of w) s ≡ done q u
        → wake_from (suc n) c front seen p s ≡ wake_from n c front (name_of w ∷ seen) q u
    unfolding wake_from
    wake_from-wakes e small woken =
        rw (
          at,
          ne_eqb (name_of w) not_process given,
          new,
          name_back w,
          peek-in (time_word w) s time,
          is,
          e,
          le-leb (size_of s) word_limit small,
          woken,
        )
