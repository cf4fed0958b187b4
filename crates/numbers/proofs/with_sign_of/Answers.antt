-- `numbers::with_sign_of` meets its contract. A size below 2^63 fits 64 bits with either sign.
use mathlib.Core.Path.{sym, ap, subst, ◌∙◌}
use lib.Signed.{lt_z}
use mir.Facts.{to_z_pos, to_z-of_z}
use mir.Val.{SFits, to_z, of_z}
use Rattle.numbers.proofs.Signs.{minus_fits, minus_size, came, negative_is}
use Rattle.std.proofs.Common.{◌≡◌, w64, ℤ, pos}
use Rattle.numbers.specs.Rounding.{negative, with_sign}
use Rattle.numbers.proofs.with_sign_of.Goals as goal

-- the test says whether z is below zero
sign : (z : ℤ) → SFits w64 z → negative z ≡ lt_z (to_z w64 (of_z w64 z)) (pos 0)
sign z fits = sym (ap (λ (q : ℤ). lt_z q (pos 0)) (to_z-of_z fits) ∙ negative_is z)

pub returns-then-z-lt0 : goal.returns-then-z-lt0
unfolding with_sign
returns-then-z-lt0 c =
    rw (sign c.args.z c.ranges.z, c.if-z-lt0.true)
    (came w64 _ (subst (SFits w64) (sym (minus_size w64 c.args.n c.requires)) (minus_fits w64 c.args.n c.requires)).sfits (minus_size w64 c.args.n c.requires))

pub returns-else-z-lt0 : goal.returns-else-z-lt0
unfolding with_sign
returns-else-z-lt0 c = rw (sign c.args.z c.ranges.z, c.if-z-lt0.false) (to_z_pos w64 c.requires)
