-- `machine::taking::take_machine` meets its contract. Assumes nothing.
use native.Mathlib.Omega.{arith}
use mathlib.Core.Path.{refl}
use Rattle.machine.proofs.Takes.{take-nowhere, take_none}
use Rattle.machine.proofs.taking.take_machine.Goals as goal

pub returns-then-setup-k : goal.returns-then-setup-k
returns-then-setup-k c behind =
    rw (take-nowhere c.args.machine c.args.memory.now behind c.args.k c.requires.0 c.requires.1 c.if-setup-k.true)
    (record { answer = c.same.ensures.0; machine = c.same.ensures.1; memory = refl })

pub returns-then-p : goal.returns-then-p
returns-then-p c behind =
    rw (take_none c.args.machine c.args.memory.now behind c.args.k c.requires.0 c.requires.1 (omega (arith, c.if-setup-k.false))
    refl c.if-p.true)
    (record { answer = c.same-then-p.ensures.0; machine = c.same-then-p.ensures.1; memory = refl })
