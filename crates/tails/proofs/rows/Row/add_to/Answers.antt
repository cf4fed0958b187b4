use native.Mathlib.Nat.{le_refl}
use Rattle.numbers.proofs.Buffers.{fill_none}
use Rattle.tails.proofs.Sums.{add_small, add_next}
use Rattle.tails.proofs.rows.Row.add_to.Goals as goal

pub loop-s-init : goal.loop-s-init
loop-s-init g c = fill_none _ _ _ (le_refl _)

pub add-sum-requires : goal.add-sum-requires
add-sum-requires g c = (
  rw c.of.ensures (add_small _ _ c.requires.small _ _ c.loop-s.invariant c.loop-s-test.true),
  c.pnl_at.ensures.small,
)

pub loop-s-preserved : goal.loop-s-preserved
loop-s-preserved g c =
    add_next _ _ c.requires.small _ _ c.loop-s.invariant c.loop-s-test.true _ _ _
    c.of.ensures c.pnl_at.ensures.value c.struct_told-1.given.0.1 c.add-sum.ensures
