-- `word::after` meets its contract. Assumes nothing.
use Rattle.std.proofs.Common.{◌≡◌, ℕ, suc, ◌-◌, ◌^◌, Bool, true, false, cond, pos, negsuc, refl, ltb}
use Rattle.std.proofs.Math.Facts.{to_z-of_z}
use lib.Signed.{lt_z}
use mir.Val.{sel}
use Rattle.model.specs.Word.{signed, after}
use Rattle.word.proofs.after.Goals as goal

-- a word read signed is above 0 in the language where it is in the model
reads : (b : Bool) (n j k : ℕ) → lt_z (pos 0) (sel b (pos n) (negsuc j)) ≡ lt_z (pos 0) (cond b (pos n) (negsuc k))
reads true n j k = refl
reads false n j k = refl

pub returns : goal.returns
unfolding after signed
returns c =
    let d = c.less.result in
    rw (← c.less.ensures, to_z-of_z (record { sfits = c.cast_signed.type_inv }), c.cast_signed.ensures)
    (reads (ltb d (2 ^ 31)) d (2 ^ 32 - suc d) (2 ^ 32 - 1 - d))
