use mathlib.Core.Path.{refl}
use native.Mathlib.Omega.{arith}
use Rattle.tails.proofs.Ranked.{moving_start, moving_next, moving_here, moving_first}
use Rattle.tails.proofs.worst.insert.Goals as goal

pub loop-p-init : goal.loop-p-init
loop-p-init c = moving_start _ _ _ (omega (arith, c.requires.size, c.requires.place))

pub returns-then-one-other : goal.returns-then-one-other
returns-then-one-other c =
    moving_here _ _ _ (omega (arith, c.requires.size, c.requires.place)) _ _ c.loop-p.invariant _ refl
    c.loop-p-test.true (omega (arith, c.if-one-other.true))

pub loop-p-preserved : goal.loop-p-preserved
loop-p-preserved c =
    moving_next _ _ _ (omega (arith, c.requires.size, c.requires.place)) _ _ c.loop-p.invariant
    c.loop-p-test.true (omega (arith, c.if-one-other.false))

pub returns : goal.returns
returns c =
    moving_first _ _ _ (omega (arith, c.requires.size, c.requires.place)) _ _ c.loop-p.invariant _ refl
    (omega (arith, c.loop-p-test.false))
