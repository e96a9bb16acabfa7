-- Laws of instructions by their codes.
use Prim.Native.Nat.{ℕ, ◌≤◌}
use mathlib.Core.Path.{◌≡◌, refl, ap, sym, ◌∙◌}
use mathlib.Core.Bool.{Bool, true, false}
use mir.Val.{bool_byte}
use Rattle.model.specs.Word.{truth}
use mathlib.Core.List.{List, [], ◌∷◌}
use mathlib.Core.Option.{none}
use borrow.Author.Tests.{ne_eqb}
use Rattle.std.specs.Prelude.{Ok, Err}
use Rattle.model.specs.Instruction.{Function, j, ldlp, ldc, ldl, cj, ajw, eqc, stl, opr, Operation, rev, endp, diff, «in», prod, gt, startp}
use Rattle.model.specs.Instruction.{outword, stopp, ldpi, disc, diss, xor, mint, alt, altwt, altend, and, enbc, enbs, or, sum, ldtimer}
use Rattle.model.specs.Instruction.{tin, dist, enbt, talt, taltwt, function_code}
use Rattle.model.specs.Instruction.{function_of, operation_code, operation_of, operations, coded}
use Rattle.model.specs.Machine.{Act, fault, push, reduce, changing}
use Rattle.model.specs.Timer.{load_timer}
use Rattle.model.specs.Execute.{operate, execute}
use Rattle.model.specs.declared.Cpu.{Cpu}
use Rattle.model.specs.declared.Setup.{Setup}
use Rattle.model.specs.declared.FaultKind.{FaultKind}
use Rattle.model.specs.declared.FaultKind.TheVariants.{Operation as BadOperation}
use Rattle.processor.specs.Seen.{Step, world, Does}
use Rattle.processor.specs.Pieces.{landing}
use Rattle.processor.specs.Quiet.{quiet, Times, Acts}
use Rattle.processor.proofs.Laws.{ends}
use Rattle.processor.proofs.Talking.{lands, takes_none, silent, untimed, unoffered}
use Rattle.executor.specs.Steps.{executing, Other, on_registers, on_processes, on_alts, on_timers}

-- a truth as a word, as the language has it and as the model has it
pub flag : (b : Bool) → bool_byte b ≡ truth b
flag true = refl
flag false = refl

-- an operation by its code
pub operates : (o : Operation) {n : ℕ} → n ≡ operation_code o → execute opr n ≡ operate o
unfolding execute operation_of operation_code coded
operates o e = ap (execute opr) e ∙ known o
  where
    known : (o : Operation) → execute opr (operation_code o) ≡ operate o
    known rev = refl
    known endp = refl
    known diff = refl
    known «in» = refl
    known prod = refl
    known gt = refl
    known startp = refl
    known outword = refl
    known stopp = refl
    known ldpi = refl
    known disc = refl
    known diss = refl
    known xor = refl
    known mint = refl
    known alt = refl
    known altwt = refl
    known altend = refl
    known and = refl
    known enbc = refl
    known enbs = refl
    known or = refl
    known sum = refl
    known ldtimer = refl
    known tin = refl
    known dist = refl
    known enbt = refl
    known talt = refl
    known taltwt = refl

-- a direct function by its code
pub executes : (f : Function) (n : ℕ) {k : ℕ} → k ≡ function_code f → executing k n ≡ execute f n
unfolding function_of function_code coded
executes f n e = ap (λ k. executing k n) e ∙ known f
  where
    known : (f : Function) → executing (function_code f) n ≡ execute f n
    known j = refl
    known ldlp = refl
    known ldc = refl
    known ldl = refl
    known cj = refl
    known ajw = refl
    known eqc = refl
    known stl = refl
    known opr = refl

-- none of a list has a number for its code
abbrev pub Uncoded : {A : Type 0} → (A → ℕ) → ℕ → List A → Type 0
Uncoded code n [] = Unit {0}
Uncoded code n (a ∷ l) = (n ≡ code a → ⊥) × Uncoded code n l

-- a number that is no code
pub uncoded : {A : Type 0} (code : A → ℕ) (n : ℕ) (l : List A) → Uncoded code n l → coded code n l ≡ none
unfolding coded
uncoded code n [] h = refl
uncoded code n (a ∷ l) h = rw (ne_eqb (code a) n (λ e. h.0 (sym e)), coded) (uncoded code n l h.1)

module _ {u : Setup} {act : Act (Unit {0})} {r q : Cpu} {l : List ℕ} (f : Cpu → Cpu) (e : act ≡ changing f) (g : q ≡ f r)
    (t : (f r).running ≡ true) (p : (f r).place ≤ u.code) where
  -- the registers alone are changed, and the process goes on behind the instruction
  pub settles : Does u (landing act) r l (Ok q) l
  settles = rw (e, g) (ends (λ x. lands (world x u (f r) l) t p))

  -- no offer is taken, and the timer queue stays
  pub settled : (o : List ℕ) (b : List Bool) (k c : ℕ) → Acts u (landing act) r o b k c l (Ok q) b c l
  settled o b k c = untimed k c (takes_none o b (silent settles))

-- two values give one
pub reduces :
    {u : Setup} {act : Act (Unit {0})} {r q : Cpu} {l : List ℕ} {v : ℕ} (g : ℕ → ℕ → ℕ) → act ≡ changing (λ r. reduce (g r.b r.a) r)
    → q ≡ reduce v r → v ≡ g r.b r.a → r.running ≡ true → r.place ≤ u.code → (o : List ℕ) (b : List Bool) (k f : ℕ)
    → Acts u (landing act) r o b k f l (Ok q) b f l
reduces {r} g e h k = settled (λ r. reduce (g r.b r.a) r) e (h ∙ ap (λ v. reduce v r) k)

-- LDTIMER, whose reading is heard
pub loads :
    {u : Setup} {r q : Cpu} {l : List ℕ} (o : List ℕ) (b : List Bool) (k f : ℕ) → r.running ≡ true → r.place ≤ u.code → q ≡ push k r
    → Acts u (landing load_timer) r o b k f l (Ok q) b f l
unfolding load_timer
loads o b k f t p e =
    rw e (record { said = λ x. ap quiet (lands _ t p); keeps = tt; keeps_held = tt; keeps_front = tt; long = refl })

-- an action that comes to another and takes no offer
pub done-as :
    {u : Setup} {act other : Act (Unit {0})} {r : Cpu} {l m : List ℕ} {s : Step} (o : List ℕ) (b : List Bool) (k f : ℕ) → act ≡ other
    → Does u (landing other) r l s m → Acts u (landing act) r o b k f l s b f m
done-as o b k f e d = rw e (untimed k f (takes_none o b (silent d)))

-- one on the timer queue
pub timed-as :
    {u : Setup} {act other : Act (Unit {0})} {r : Cpu} {k f g : ℕ} {l m : List ℕ} {s : Step} (o : List ℕ) (b : List Bool) → act ≡ other
    → Times u (landing other) r k f l s g m → Acts u (landing act) r o b k f l s b g m
timed-as o b e t = rw e (unoffered o b t)

-- a fault before anything is done
pub faulted :
    {u : Setup} {act : Act (Unit {0})} {r : Cpu} {l : List ℕ} {j : FaultKind} (o : List ℕ) (b : List Bool) (k f : ℕ) → act ≡ fault j
    → Acts u (landing act) r o b k f l (Err j) b f l
faulted o b k f e = rw e (record { said = λ x. refl; keeps = refl; keeps_held = refl; keeps_front = refl; long = refl })

-- a number that is no operation's
pub unused : (n : ℕ) → Other on_registers n → Other on_processes n → Other on_alts n → Other on_timers n
    → execute opr n ≡ fault (BadOperation n)
unfolding execute operation_of operation_code
unused n ((((((((((x, a), b), c), d), e), f), g), h), i), k) (((((y, l), m), o), p), q) (((((((z, r), s), t), u), v), w), α)
    ((((((ω, β), γ), δ), ε), ζ), η) =
    let timers : Uncoded operation_code n (ldtimer ∷ tin ∷ dist ∷ enbt ∷ talt ∷ taltwt ∷ []) = (β, (γ, (δ, (ε, (ζ, (η, tt)))))) in
    let no = uncoded operation_code n operations
    (a, (l, (b, (m, (c, (d, (o, (p, (q, (e, (r, (s, (f, (g, (t, (u, (v, (h, (w, (α, (i, (k, timers)))))))))))))))))))))) in
    rw no
