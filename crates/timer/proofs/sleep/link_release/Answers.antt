-- `timer::sleep::link_release` meets its contract. Assumes nothing.
use mathlib.Core.Path.{◌∙◌}
use Rattle.model.specs.Machine.{name_of, space_of}
use Rattle.processor.specs.Quiet.{timing}
use Rattle.timer.proofs.Sleeping.{unseen, alike, ended, fault-on, front-later, behind-shape}
use Rattle.processor.proofs.Laws.{fault-passed}
use Rattle.timer.proofs.sleep.link_release.Goals as goal

pub returns-in_default : goal.returns-in_default
unfolding name_of
returns-in_default c u h g k =
    ended
    (λ x.
    rw (c.in_default.is, ← c.time_link_word-a.ensures)
    (front-later u x _ _ k _ _ _ _ _ ∙ (c.poke_release.ensures u h g).said (timing k _ x) ∙ rw c.in_ok-r.was))

pub returns-in_err-r : goal.returns-in_err-r
unfolding name_of
returns-in_err-r c u h g k =
    rw (fault-passed c.from_residual.result c.from_residual.ensures.1)
    (fault-on (unseen k _ (c.poke_release.ensures u h g)) c.in_err-r.was
    (λ x e.
    rw (c.in_default.is, ← c.time_link_word-a.ensures)
    (front-later u x _ _ k _ _ _ _ _ ∙ (c.poke_release.ensures u h g).said (timing k _ x) ∙ rw c.in_err-r.was)))

pub returns : goal.returns
unfolding name_of space_of
returns c u h g k =
    alike (unseen k _ (c.poke2_tell.ensures u h g))
    (λ x. rw (c.in-Some.is, ← c.time_link_word-a.ensures, ← c.time_link_word-b.ensures) (behind-shape _ _ _ _ _))
