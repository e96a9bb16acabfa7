-- What instructions do to a world with any queue, in which the words that they touch are in memory.
use Prim.Native.Nat.{ℕ, ◌+◌, ◌-◌, ◌<◌, ◌≤◌}
use native.Mathlib.Omega.{arith}
use mathlib.Core.Path.{◌≡◌, refl, sym, ap, ◌∙◌}
use mathlib.Core.Logic.{◌≢◌}
use mathlib.Core.Bool.{Bool, true, false, cond}
use lib.ListN.{get_or, set}
use lib.Seq.{get_or-set_other}
use borrow.Author.Tests.{le-ltb, le-leb, eq-eqb, ne_eqb}
use Rattle.model.specs.Word.{low, less, not_process}
use Rattle.model.specs.Instruction.{opr, operation_code, operation_of, coded}
use Rattle.model.specs.Instruction as I
use Rattle.model.specs.Machine.{World, Result, done, Act, ◌>>◌, with_cpu, with_offers, communicate, name_of, space_of, peek, poke, resume}
use Rattle.model.specs.Machine.{take_front, release, enqueue, join, test_place, stack, goto, work, running, counting, queueing}
use Rattle.model.specs.Machine.{resume_word, link_word, state_word, is_held}
use Rattle.model.specs.Alternative.{is_alt_state, waiting, ready, enabling, none_selected, notify, begin_alt, set_ready, enable_ready}
use Rattle.model.specs.Alternative.{enable_channel, enable_skip, wait_alt, select, disable_ready, disable_channel, disable_skip, end_alt}
use Rattle.model.specs.Execute.{execute, operate, wait_at, receive, received, input_word, input_message, deliver, output_word, jump}
use Rattle.model.specs.Execute.{start_process, end_process, stop_process}
use Rattle.model.proofs.Quiet.Names.{name_back, name-injective}
use Rattle.model.proofs.Effects.OneWord.{cpu_of, size_of, stored, peek-in, poke-in, resume-in}

-- a test that is true, or false, decides between two actions
pub when_true : {A : Type 0} {y : Result A} (t : Bool) (f g : Act A) (s : World) → t ≡ true → f s ≡ y → cond t f g s ≡ y
when_true t f g s e d = rw (e) d

pub when_false : {A : Type 0} {y : Result A} (t : Bool) (f g : Act A) (s : World) → t ≡ false → g s ≡ y → cond t f g s ≡ y
when_false t f g s e d = rw (e) d

-- reading and writing a word at an address that is given by an equation
pub peek-at : {a b v : ℕ} (s : World) → a ≡ b → b < size_of s → get_or s.memory b 0 ≡ v → peek a s ≡ done v s
peek-at {b} s e h d = rw (e, peek-in b s h, d)

pub poke-at : {a b v u : ℕ} (s : World) → a ≡ b → v ≡ u → b < size_of s → poke a v s ≡ done tt (stored b u s)
poke-at {b} {u} s e d h = rw (e, d) (poke-in b u s h)

-- the process w has got the processor and goes on at p; the queue is from f to k
abbrev pub taken : (w p f k : ℕ) (queued : Bool) → World → World
taken w p f k q s = with_cpu (running true (counting 0 (goto p (work w (queueing (name_of f) (name_of k) q (cpu_of s)))))) s

-- a process gets the processor
pub resume-at : {n w p : ℕ} (s : World) → n ≡ name_of w → resume_word w < size_of s → get_or s.memory (resume_word w) 0 ≡ p
    → resume n s ≡ done tt (with_cpu (running true (counting 0 (goto p (work w (cpu_of s))))) s)
resume-at {w} s d h e = rw (d) (resume-in w s h ∙ rw (e))

-- joining behind those that are queued
pub enqueue-behind-in : (w f k : ℕ) (s : World) → (cpu_of s).queued ≡ true → (cpu_of s).front ≡ name_of f → (cpu_of s).back ≡ name_of k
    → link_word k < size_of s
    → enqueue (name_of w) (cpu_of s) s ≡ done tt (with_cpu (queueing (name_of f) (name_of w) true (cpu_of s))
    (stored (link_word k) (name_of w) s))
enqueue-behind-in w f k s q d e h =
    let at : link_word (space_of (cpu_of s).back) ≡ link_word k = ap (λ n. link_word (space_of n)) e ∙ ap link_word (name_back k) in
    when_true _ _ _ s q (rw (poke-at {v = name_of w} s at refl h, d))

-- a free processor takes the process that joins
pub join_free : (p : ℕ) (s : World) → (cpu_of s).running ≡ false → join p s ≡ resume p (with_cpu (queueing p p false (cpu_of s)) s)
unfolding join
join_free p s r = when_false _ _ _ s r refl

pub join-free-in : (w p : ℕ) (s : World) → (cpu_of s).running ≡ false → resume_word w < size_of s → get_or s.memory (resume_word w) 0 ≡ p
    → join (name_of w) s ≡ done tt (taken w p w w false s)
join-free-in w p s r h e = join_free (name_of w) s r ∙ resume-at (with_cpu (queueing (name_of w) (name_of w) false (cpu_of s)) s) refl h e

-- the processor is free and nobody is queued
pub release-none : (s : World) → (cpu_of s).queued ≡ false → release s ≡ done tt (with_cpu (running false (cpu_of s)) s)
unfolding release
release-none s q = when_false _ _ _ s q refl

-- the only process that is queued gets the processor
pub release-last : (w p : ℕ) (s : World) → (cpu_of s).queued ≡ true → (cpu_of s).front ≡ name_of w → (cpu_of s).back ≡ name_of w
    → resume_word w < size_of s → get_or s.memory (resume_word w) 0 ≡ p
    → release s ≡ done tt (taken w p w w false s)
unfolding release take_front
release-last w p s q f k h e =
    let q' = queueing (name_of w) (name_of w) false (cpu_of s) in
    rw (q, f, k, eq-eqb (name_of w) (name_of w) refl, resume-at {n = name_of w} (with_cpu q' s) refl h e)

-- the front gets the processor, and the one that it links to is the front
pub release-more : (w k g p : ℕ) (s : World) → (cpu_of s).queued ≡ true → (cpu_of s).front ≡ name_of w → (cpu_of s).back ≡ name_of k → w ≢ k
    → link_word w < size_of s → get_or s.memory (link_word w) 0 ≡ name_of g → resume_word w < size_of s
    → get_or s.memory (resume_word w) 0 ≡ p
    → release s ≡ done tt (taken w p g k true s)
unfolding release take_front
release-more w k g p s q f b n l m h e =
    when_true _ _ _ s q (
    rw (
      ne_eqb (cpu_of s).front (cpu_of s).back (λ d. n (name-injective w k (sym f ∙ d ∙ b))),
      peek-at s (ap (λ i. link_word (space_of i)) f ∙ ap link_word (name_back w)) l m,
      resume-at (with_cpu (queueing (name_of g) (cpu_of s).back true (cpu_of s)) s) f h e,
      b,
    )
    )

-- STARTP: the new process joins
pub exec-startp : (x d p : ℕ) (s : World) → (cpu_of s).a ≡ x → (cpu_of s).b ≡ d → (cpu_of s).place ≡ p → resume_word x < size_of s
    → execute opr (operation_code I.startp) s ≡ join (name_of x) (stored (resume_word x) (low (p + d)) s)
unfolding execute operate operation_of operation_code coded start_process
exec-startp x d p s ea eb ep h =
    let e : low ((cpu_of s).place + (cpu_of s).b) ≡ low (p + d) = rw (ep, eb) in
    rw (poke-at s (ap resume_word ea) e h) (ap (λ i. join (name_of i) (stored (resume_word x) (low (p + d)) s)) ea)

-- ENDP of the last branch: it goes on as the PAR
pub exec-endp-last : (x k p : ℕ) (s : World) → (cpu_of s).a ≡ x → low (x + 1) ≡ k → k < size_of s → get_or s.memory k 0 ≡ 1
    → x < size_of s → get_or s.memory x 0 ≡ p
    → execute opr (operation_code I.endp) s ≡ done tt (with_cpu (goto p (work x (cpu_of s))) s)
unfolding execute operate operation_of operation_code coded end_process
exec-endp-last x k p s ea ek hk en hx ep = rw (peek-at s (ap (λ i. low (i + 1)) ea ∙ ek) hk en, peek-at s ea hx ep, ea)

-- ENDP of another branch
pub exec-endp-more : (x k n : ℕ) (s : World) → (cpu_of s).a ≡ x → low (x + 1) ≡ k → k < size_of s → get_or s.memory k 0 ≡ n → n ≢ 1
    → execute opr (operation_code I.endp) s ≡ release (stored k (less n 1) s)
unfolding execute operate operation_of operation_code coded end_process
exec-endp-more x k n s ea ek hk en d =
    let e : low ((cpu_of s).a + 1) ≡ k = ap (λ i. low (i + 1)) ea ∙ ek in
    rw (peek-at s e hk en, ne_eqb n _ d, poke-at {v = less n 1} s e refl hk)

-- STOPP, with any queue
pub exec-stopp-general : (w p : ℕ) (s : World) → (cpu_of s).workspace ≡ w → (cpu_of s).place ≡ p → resume_word w < size_of s
    → execute opr (operation_code I.stopp) s ≡ release (stored (resume_word w) p s)
unfolding execute operate operation_of operation_code coded stop_process
exec-stopp-general w p s ew ep h = rw (poke-at s (ap resume_word ew) ep h)

-- J at the slice's end, with any queue: the process joins the back, the front is taken, and the place where it goes on is tested
pub exec-j-over : (n t w : ℕ) (s : World) → s.machine.setup.slice ≤ (cpu_of s).count → low ((cpu_of s).place + n) ≡ t
    → (cpu_of s).workspace ≡ w → resume_word w < size_of s
    → execute I.j n s ≡ ◌>>◌ (join (name_of w)) (◌>>◌ release (test_place t)) (stored (resume_word w) t s)
unfolding execute jump
exec-j-over n t w s h e ew hr = rw (le-ltb _ _ h, poke-at s (ap resume_word ew) e hr, e, ew)

-- a place in the code passes the test
pub test_place-in : (t : ℕ) (s : World) → t ≤ s.machine.setup.code → test_place t s ≡ done tt s
unfolding test_place
test_place-in t s h = rw (le-leb _ _ h)

-- a process with the workspace w and the place p waits at the channel word c, with the message place m
abbrev pub parked : (c w p m : ℕ) → World → World
parked c w p m s = stored (state_word w) m (stored (resume_word w) p (stored c (name_of w) s))

pub wait_at-in : {b n : ℕ} (c w p m : ℕ) (s : World) → (cpu_of s).workspace ≡ w → (cpu_of s).place ≡ p → b ≡ c → n ≡ m
    → c < size_of s → resume_word w < size_of s → state_word w < size_of s
    → wait_at b n s ≡ done tt (parked c w p m s)
unfolding wait_at
wait_at-in c w p m s ew ep eb en hc hr ht =
    rw (
      poke-at s eb (ap name_of ew) hc,
      poke-at (stored c (name_of w) s) (ap resume_word ew) ep hr,
      poke-at (stored (resume_word w) p (stored c (name_of w) s)) (ap state_word ew) en ht,
    )

-- a held offer is held no more
abbrev pub dropped : (c : ℕ) → World → World
dropped c s = with_offers s.machine.offers (set s.machine.held (c - s.machine.setup.base) false) s

-- IN takes a held offer
pub exec-in-held : (c m v : ℕ) (s : World) → (cpu_of s).a ≡ 4 → (cpu_of s).b ≡ c → (cpu_of s).c ≡ m
    → is_held c s.machine ≡ true → get_or s.machine.offers (c - s.machine.setup.base) 0 ≡ v → m < size_of s
    → execute opr (operation_code I.«in») s ≡ communicate c v (stored m v (dropped c s))
unfolding execute operate operation_of operation_code coded input_message input_word
exec-in-held c m v s ea eb ec h ev hm =
    rw (
      eq-eqb _ _ ea,
      ap (λ i. is_held i s.machine) eb ∙ h,
      ap (λ i. get_or s.machine.offers (i - s.machine.setup.base) 0) eb ∙ ev,
      poke-at {v = v} (dropped (cpu_of s).b s) ec refl hm,
      eb,
    )

-- IN waits at an empty channel
pub exec-in-wait : (c m w p : ℕ) (s : World) → (cpu_of s).a ≡ 4 → (cpu_of s).b ≡ c → (cpu_of s).c ≡ m
    → (cpu_of s).workspace ≡ w → (cpu_of s).place ≡ p → is_held c s.machine ≡ false → c < size_of s → get_or s.memory c 0 ≡ not_process
    → resume_word w < size_of s → state_word w < size_of s
    → execute opr (operation_code I.«in») s ≡ release (parked c w p m s)
unfolding execute operate operation_of operation_code coded input_message input_word
exec-in-wait c m w p s ea eb ec ew ep h hc n hr ht =
    rw (
      eq-eqb _ _ ea,
      ap (λ i. is_held i s.machine) eb ∙ h,
      peek-at s eb hc n,
      wait_at-in c w p m s ew ep eb ec hc hr ht,
    )

-- IN takes the value of a sender, which is woken
pub exec-in-sender : (c m x y v : ℕ) (s : World) → (cpu_of s).a ≡ 4 → (cpu_of s).b ≡ c → (cpu_of s).c ≡ m
    → is_held c s.machine ≡ false → c < size_of s → get_or s.memory c 0 ≡ name_of x → name_of x ≢ not_process
    → state_word x < size_of s → get_or s.memory (state_word x) 0 ≡ y → y < size_of s → get_or s.memory y 0 ≡ v → m < size_of s
    → execute opr (operation_code I.«in») s ≡ ◌>>◌ (join (name_of x)) (communicate c v) (stored c not_process (stored m v s))
unfolding execute operate operation_of operation_code coded input_message input_word receive received
exec-in-sender c m x y v s ea eb ec h hc ex n hx ey hy ev hm =
    rw (
      eq-eqb _ _ ea,
      ap (λ i. is_held i s.machine) eb ∙ h,
      peek-at s eb hc ex,
      ne_eqb (name_of x) _ n,
      peek-at s (ap state_word (name_back x)) hx ey,
      peek-at {a = y} s refl hy ev,
      poke-at {v = v} s ec refl hm,
      poke-at {v = not_process} (stored m v s) eb refl hc,
      eb,
    )

-- OUTWORD waits at an empty channel, with its value in W + 0
pub exec-out-wait : (c v w p : ℕ) (s : World) → (cpu_of s).a ≡ v → (cpu_of s).b ≡ c → (cpu_of s).workspace ≡ w → (cpu_of s).place ≡ p
    → w < size_of s → c < size_of s → c ≢ w → get_or s.memory c 0 ≡ not_process → resume_word w < size_of s → state_word w < size_of s
    → execute opr (operation_code I.outword) s ≡ release (parked c w p w (stored w v s))
unfolding execute operate operation_of operation_code coded output_word
exec-out-wait c v w p s ea eb ew ep hw hc d n hr ht =
    rw (
      poke-at s ew ea hw,
      peek-at (stored w v s) eb hc (get_or-set_other s.memory w c v 0 d ∙ n),
      wait_at-in c w p w (stored w v s) ew ep eb ew hc hr ht,
    )

-- OUTWORD to a channel that an ALT enabled waits, and tells the ALT
pub exec-out-alt : (c v w p x t : ℕ) (s : World) → (cpu_of s).a ≡ v → (cpu_of s).b ≡ c → (cpu_of s).workspace ≡ w → (cpu_of s).place ≡ p
    → w < size_of s → c < size_of s → c ≢ w → get_or s.memory c 0 ≡ name_of x → name_of x ≢ not_process
    → state_word x < size_of s → state_word x ≢ w → get_or s.memory (state_word x) 0 ≡ t → is_alt_state t ≡ true
    → resume_word w < size_of s → state_word w < size_of s
    → execute opr (operation_code I.outword) s ≡ ◌>>◌ (notify (name_of x) t) release (parked c w p w (stored w v s))
unfolding execute operate operation_of operation_code coded output_word
exec-out-alt c v w p x t s ea eb ew ep hw hc d ex n hx dx et h hr ht =
    rw (
      poke-at s ew ea hw,
      peek-at (stored w v s) eb hc (get_or-set_other s.memory w c v 0 d ∙ ex),
      ne_eqb (name_of x) _ n,
      peek-at (stored w v s) (ap state_word (name_back x)) hx (get_or-set_other s.memory w (state_word x) v 0 dx ∙ et),
      h,
      wait_at-in c w p w (stored w v s) ew ep eb ew hc hr ht,
    )

-- OUTWORD to a process that waits in IN at the message place t
pub exec-out-receiver : (c v w x t : ℕ) (s : World) → (cpu_of s).a ≡ v → (cpu_of s).b ≡ c → (cpu_of s).workspace ≡ w
    → w < size_of s → c < size_of s → c ≢ w → get_or s.memory c 0 ≡ name_of x → name_of x ≢ not_process
    → state_word x < size_of s → state_word x ≢ w → get_or s.memory (state_word x) 0 ≡ t → is_alt_state t ≡ false → t < size_of s
    → execute opr (operation_code I.outword) s ≡ ◌>>◌ (join (name_of x)) (communicate c v)
    (stored c not_process (stored t v (stored w v s)))
unfolding execute operate operation_of operation_code coded output_word deliver received
exec-out-receiver c v w x t s ea eb ew hw hc d ex n hx dx et h ht =
    rw (
      poke-at s ew ea hw,
      peek-at (stored w v s) eb hc (get_or-set_other s.memory w c v 0 d ∙ ex),
      ne_eqb (name_of x) _ n,
      peek-at (stored w v s) (ap state_word (name_back x)) hx (get_or-set_other s.memory w (state_word x) v 0 dx ∙ et),
      h,
      poke-at {a = t} (stored w v s) refl ea ht,
      poke-at {v = not_process} (stored t v (stored w v s)) eb refl hc,
      ea,
      eb,
    )

-- an ALT that is told becomes Ready; one that is Waiting is woken
pub notify-waiting : (x : ℕ) (s : World) → state_word x < size_of s
    → notify (name_of x) waiting s ≡ join (name_of x) (stored (state_word x) ready s)
unfolding notify
notify-waiting x s h = rw (name_back x, poke-in (state_word x) ready s h)

pub notify-other : (x t : ℕ) (s : World) → state_word x < size_of s → t ≢ waiting
    → notify (name_of x) t s ≡ done tt (stored (state_word x) ready s)
unfolding notify
notify-other x t s h n = rw (name_back x, poke-in (state_word x) ready s h, ne_eqb t _ n)

-- the words below W are others than W + 0
pub state-apart : (w : ℕ) → state_word w ≢ w
state-apart w e = omega arith

-- ALT
pub exec-alt : (w : ℕ) (s : World) → (cpu_of s).workspace ≡ w → state_word w < size_of s
    → execute opr (operation_code I.alt) s ≡ done tt (stored (state_word w) enabling s)
unfolding execute operate operation_of operation_code coded begin_alt
exec-alt w s ew h = rw (poke-at {v = enabling} s (ap state_word ew) refl h)

-- the state becomes Ready
pub set_ready-in : (w : ℕ) (s : World) → (cpu_of s).workspace ≡ w → state_word w < size_of s
    → set_ready s ≡ done tt (stored (state_word w) ready s)
unfolding set_ready
set_ready-in w s ew h = rw (poke-at {v = ready} s (ap state_word ew) refl h)

-- the stack after ENBC
abbrev pub enabled : World → World
enabled s = with_cpu (stack (cpu_of s).a (cpu_of s).c (cpu_of s).c (cpu_of s)) s

-- ENBC with a false condition
pub exec-enbc-off : (s : World) → (cpu_of s).a ≡ 0 → execute opr (operation_code I.enbc) s ≡ done tt (enabled s)
unfolding execute operate operation_of operation_code coded enable_channel
exec-enbc-off s ea = rw (eq-eqb _ _ ea)

-- ENBC of a channel with a held offer
pub exec-enbc-held : (c w : ℕ) (s : World) → (cpu_of s).a ≢ 0 → (cpu_of s).b ≡ c → (cpu_of s).workspace ≡ w → is_held c s.machine ≡ true
    → state_word w < size_of s
    → execute opr (operation_code I.enbc) s ≡ done tt (enabled (stored (state_word w) ready s))
unfolding execute operate operation_of operation_code coded enable_channel enable_ready
exec-enbc-held c w s na eb ew h ht = rw (ne_eqb _ _ na, ap (λ i. is_held i s.machine) eb ∙ h, set_ready-in w s ew ht)

-- ENBC of an empty channel marks it
pub exec-enbc-empty : (c w : ℕ) (s : World) → (cpu_of s).a ≢ 0 → (cpu_of s).b ≡ c → (cpu_of s).workspace ≡ w → is_held c s.machine ≡ false
    → c < size_of s → get_or s.memory c 0 ≡ not_process
    → execute opr (operation_code I.enbc) s ≡ done tt (enabled (stored c (name_of w) s))
unfolding execute operate operation_of operation_code coded enable_channel enable_ready
exec-enbc-empty c w s na eb ew h hc n =
    rw (ne_eqb _ _ na, ap (λ i. is_held i s.machine) eb ∙ h, peek-at s eb hc n, poke-at s eb (ap name_of ew) hc)

-- ENBC of a channel that this ALT marked before
pub exec-enbc-marked : (c w : ℕ) (s : World) → (cpu_of s).a ≢ 0 → (cpu_of s).b ≡ c → (cpu_of s).workspace ≡ w → is_held c s.machine ≡ false
    → c < size_of s → get_or s.memory c 0 ≡ name_of w → name_of w ≢ not_process
    → execute opr (operation_code I.enbc) s ≡ done tt (enabled s)
unfolding execute operate operation_of operation_code coded enable_channel enable_ready
exec-enbc-marked c w s na eb ew h hc e n =
    rw (
      ne_eqb _ _ na,
      ap (λ i. is_held i s.machine) eb ∙ h,
      peek-at s eb hc e,
      ne_eqb (name_of w) _ n,
      eq-eqb (name_of w) (name_of (cpu_of s).workspace) (ap name_of (sym ew)),
    )

-- ENBC of a channel at which a sender waits
pub exec-enbc-sender : (c w x : ℕ) (s : World) → (cpu_of s).a ≢ 0 → (cpu_of s).b ≡ c → (cpu_of s).workspace ≡ w
    → is_held c s.machine ≡ false → c < size_of s → get_or s.memory c 0 ≡ x → x ≢ not_process → x ≢ name_of w → state_word w < size_of s
    → execute opr (operation_code I.enbc) s ≡ done tt (enabled (stored (state_word w) ready s))
unfolding execute operate operation_of operation_code coded enable_channel enable_ready
exec-enbc-sender c w x s na eb ew h hc e n d ht =
    rw (
      ne_eqb _ _ na,
      ap (λ i. is_held i s.machine) eb ∙ h,
      peek-at s eb hc e,
      ne_eqb x _ n,
      ne_eqb x (name_of (cpu_of s).workspace) (λ q. d (q ∙ ap name_of ew)),
      set_ready-in w s ew ht,
    )

-- ENBS
pub exec-enbs-off : (s : World) → (cpu_of s).a ≡ 0 → execute opr (operation_code I.enbs) s ≡ done tt s
unfolding execute operate operation_of operation_code coded enable_skip
exec-enbs-off s ea = rw (eq-eqb _ _ ea)

pub exec-enbs : (w : ℕ) (s : World) → (cpu_of s).a ≢ 0 → (cpu_of s).workspace ≡ w → state_word w < size_of s
    → execute opr (operation_code I.enbs) s ≡ done tt (stored (state_word w) ready s)
unfolding execute operate operation_of operation_code coded enable_skip
exec-enbs w s na ew ht = rw (ne_eqb _ _ na, set_ready-in w s ew ht)

-- ALTWT of an ALT that is Ready goes on
pub exec-altwt-ready : (w : ℕ) (s : World) → (cpu_of s).workspace ≡ w → w < size_of s → state_word w < size_of s
    → get_or s.memory (state_word w) 0 ≡ ready
    → execute opr (operation_code I.altwt) s ≡ done tt (stored w none_selected s)
unfolding execute operate operation_of operation_code coded wait_alt
exec-altwt-ready w s ew hw ht e =
    let other = get_or-set_other s.memory w (state_word w) none_selected 0 (state-apart w) in
    rw (poke-at {v = none_selected} s ew refl hw, peek-at (stored w none_selected s) (ap state_word ew) ht (other ∙ e))

-- ALTWT of another waits
pub exec-altwt-wait : (w p t : ℕ) (s : World) → (cpu_of s).workspace ≡ w → (cpu_of s).place ≡ p → w < size_of s → state_word w < size_of s
    → get_or s.memory (state_word w) 0 ≡ t → t ≢ ready → resume_word w < size_of s
    → execute opr (operation_code I.altwt) s ≡ release (stored (resume_word w) p (stored (state_word w) waiting (stored w none_selected s)))
unfolding execute operate operation_of operation_code coded wait_alt
exec-altwt-wait w p t s ew ep hw ht e n hr =
    let other = get_or-set_other s.memory w (state_word w) none_selected 0 (state-apart w) in
    rw (
      poke-at {v = none_selected} s ew refl hw,
      peek-at (stored w none_selected s) (ap state_word ew) ht (other ∙ e),
      ne_eqb t _ n,
      poke-at {v = waiting} (stored w none_selected s) (ap state_word ew) refl ht,
      poke-at (stored (state_word w) waiting (stored w none_selected s)) (ap resume_word ew) ep hr,
    )

-- a ready guard is chosen if none is yet
pub select-first : {b : ℕ} (d w : ℕ) (s : World) → b ≡ d → (cpu_of s).workspace ≡ w → w < size_of s → get_or s.memory w 0 ≡ none_selected
    → select b s ≡ done 1 (stored w d s)
unfolding select
select-first d w s eb ew hw e = rw (peek-at s ew hw e, poke-at s ew eb hw)

pub select-later : (b w t : ℕ) (s : World) → (cpu_of s).workspace ≡ w → w < size_of s → get_or s.memory w 0 ≡ t → t ≢ none_selected
    → select b s ≡ done 0 s
unfolding select
select-later b w t s ew hw e n = rw (peek-at s ew hw e, ne_eqb t _ n)

-- the stack after DISC: t says whether the branch was chosen
abbrev pub disabled : (t : ℕ) → World → World
disabled t s = with_cpu (stack t (cpu_of s).b (cpu_of s).c (cpu_of s)) s

-- DISC with a false condition
pub exec-disc-off : (s : World) → (cpu_of s).b ≡ 0 → execute opr (operation_code I.disc) s ≡ done tt (disabled 0 s)
unfolding execute operate operation_of operation_code coded disable_channel
exec-disc-off s eb = rw (eq-eqb _ _ eb)

-- DISC of a channel with a held offer: the branch is chosen, or one was before
pub exec-disc-held-first : (c d w : ℕ) (s : World) → (cpu_of s).a ≡ d → (cpu_of s).b ≢ 0 → (cpu_of s).c ≡ c → (cpu_of s).workspace ≡ w
    → is_held c s.machine ≡ true → c < size_of s → w < size_of s → get_or s.memory w 0 ≡ none_selected
    → execute opr (operation_code I.disc) s ≡ done tt (disabled 1 (stored c not_process (stored w d s)))
unfolding execute operate operation_of operation_code coded disable_channel disable_ready
exec-disc-held-first c d w s ea nb ec ew h hc hw e =
    rw (
      ne_eqb _ _ nb,
      peek-at s ec hc refl,
      ap (λ i. is_held i s.machine) ec ∙ h,
      select-first d w s ea ew hw e,
      poke-at {v = not_process} (stored w d s) ec refl hc,
    )

pub exec-disc-held-later : (c w t : ℕ) (s : World) → (cpu_of s).b ≢ 0 → (cpu_of s).c ≡ c → (cpu_of s).workspace ≡ w
    → is_held c s.machine ≡ true → c < size_of s → w < size_of s → get_or s.memory w 0 ≡ t → t ≢ none_selected
    → execute opr (operation_code I.disc) s ≡ done tt (disabled 0 (stored c not_process s))
unfolding execute operate operation_of operation_code coded disable_channel disable_ready
exec-disc-held-later c w t s nb ec ew h hc hw e n =
    rw (
      ne_eqb _ _ nb,
      peek-at s ec hc refl,
      ap (λ i. is_held i s.machine) ec ∙ h,
      select-later (cpu_of s).a w t s ew hw e n,
      poke-at {v = not_process} s ec refl hc,
    )

-- DISC of an empty channel
pub exec-disc-empty : (c : ℕ) (s : World) → (cpu_of s).b ≢ 0 → (cpu_of s).c ≡ c → is_held c s.machine ≡ false
    → c < size_of s → get_or s.memory c 0 ≡ not_process
    → execute opr (operation_code I.disc) s ≡ done tt (disabled 0 s)
unfolding execute operate operation_of operation_code coded disable_channel disable_ready
exec-disc-empty c s nb ec h hc e = rw (ne_eqb _ _ nb, peek-at s ec hc e, ap (λ i. is_held i s.machine) ec ∙ h)

-- DISC of a channel with the ALT's own mark, which goes
pub exec-disc-marked : (c w : ℕ) (s : World) → (cpu_of s).b ≢ 0 → (cpu_of s).c ≡ c → (cpu_of s).workspace ≡ w → is_held c s.machine ≡ false
    → c < size_of s → get_or s.memory c 0 ≡ name_of w → name_of w ≢ not_process
    → execute opr (operation_code I.disc) s ≡ done tt (disabled 0 (stored c not_process s))
unfolding execute operate operation_of operation_code coded disable_channel disable_ready
exec-disc-marked c w s nb ec ew h hc e n =
    rw (
      ne_eqb _ _ nb,
      peek-at s ec hc e,
      ap (λ i. is_held i s.machine) ec ∙ h,
      ne_eqb (name_of w) _ n,
      eq-eqb (name_of w) (name_of (cpu_of s).workspace) (ap name_of (sym ew)),
      poke-at {v = not_process} s ec refl hc,
    )

-- DISC of a channel at which a sender waits: the branch is chosen, or one was before
pub exec-disc-sender-first : (c d w x : ℕ) (s : World) → (cpu_of s).a ≡ d → (cpu_of s).b ≢ 0 → (cpu_of s).c ≡ c → (cpu_of s).workspace ≡ w
    → is_held c s.machine ≡ false → c < size_of s → get_or s.memory c 0 ≡ x → x ≢ not_process → x ≢ name_of w
    → w < size_of s → get_or s.memory w 0 ≡ none_selected
    → execute opr (operation_code I.disc) s ≡ done tt (disabled 1 (stored w d s))
unfolding execute operate operation_of operation_code coded disable_channel disable_ready
exec-disc-sender-first c d w x s ea nb ec ew h hc e n nw hw et =
    rw (
      ne_eqb _ _ nb,
      peek-at s ec hc e,
      ap (λ i. is_held i s.machine) ec ∙ h,
      ne_eqb x _ n,
      ne_eqb x (name_of (cpu_of s).workspace) (λ q. nw (q ∙ ap name_of ew)),
      select-first d w s ea ew hw et,
    )

pub exec-disc-sender-later : (c w x t : ℕ) (s : World) → (cpu_of s).b ≢ 0 → (cpu_of s).c ≡ c → (cpu_of s).workspace ≡ w
    → is_held c s.machine ≡ false → c < size_of s → get_or s.memory c 0 ≡ x → x ≢ not_process → x ≢ name_of w
    → w < size_of s → get_or s.memory w 0 ≡ t → t ≢ none_selected
    → execute opr (operation_code I.disc) s ≡ done tt (disabled 0 s)
unfolding execute operate operation_of operation_code coded disable_channel disable_ready
exec-disc-sender-later c w x t s nb ec ew h hc e n nw hw et nt =
    rw (
      ne_eqb _ _ nb,
      peek-at s ec hc e,
      ap (λ i. is_held i s.machine) ec ∙ h,
      ne_eqb x _ n,
      ne_eqb x (name_of (cpu_of s).workspace) (λ q. nw (q ∙ ap name_of ew)),
      select-later (cpu_of s).a w t s ew hw et nt,
    )

-- the stack after DISS: t says whether the branch was chosen
abbrev pub unskipped : (t : ℕ) → World → World
unskipped t s = with_cpu (stack t (cpu_of s).c (cpu_of s).c (cpu_of s)) s

-- DISS with a false condition
pub exec-diss-off : (s : World) → (cpu_of s).b ≡ 0 → execute opr (operation_code I.diss) s ≡ done tt (unskipped 0 s)
unfolding execute operate operation_of operation_code coded disable_skip
exec-diss-off s eb = rw (eq-eqb _ _ eb)

-- DISS with a true one: the branch is chosen, or one was before
pub exec-diss-first : (d w : ℕ) (s : World) → (cpu_of s).a ≡ d → (cpu_of s).b ≢ 0 → (cpu_of s).workspace ≡ w
    → w < size_of s → get_or s.memory w 0 ≡ none_selected
    → execute opr (operation_code I.diss) s ≡ done tt (unskipped 1 (stored w d s))
unfolding execute operate operation_of operation_code coded disable_skip
exec-diss-first d w s ea nb ew hw e = rw (ne_eqb _ _ nb, select-first d w s ea ew hw e)

pub exec-diss-later : (w t : ℕ) (s : World) → (cpu_of s).b ≢ 0 → (cpu_of s).workspace ≡ w → w < size_of s → get_or s.memory w 0 ≡ t
    → t ≢ none_selected
    → execute opr (operation_code I.diss) s ≡ done tt (unskipped 0 s)
unfolding execute operate operation_of operation_code coded disable_skip
exec-diss-later w t s nb ew hw e n = rw (ne_eqb _ _ nb, select-later (cpu_of s).a w t s ew hw e n)

-- ALTEND goes to the chosen branch
pub exec-altend : (w p d : ℕ) (s : World) → (cpu_of s).workspace ≡ w → (cpu_of s).place ≡ p → w < size_of s → get_or s.memory w 0 ≡ d
    → execute opr (operation_code I.altend) s ≡ done tt (with_cpu (goto (low (p + d)) (cpu_of s)) s)
unfolding execute operate operation_of operation_code coded end_alt
exec-altend w p d s ew ep hw e = rw (peek-at s ew hw e, ep)
