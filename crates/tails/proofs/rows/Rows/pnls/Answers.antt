use native.Mathlib.Omega.{arith}
use mathlib.Core.Path.{◌∙◌, sym}
use Rattle.tails.proofs.Sums.{summed_none, summed_small, summed_next, summed_end}
use Rattle.tails.proofs.rows.Rows.pnls.Goals as goal

pub loop-v-init : goal.loop-v-init
loop-v-init g c = rw (c.fill.ensures.after (λ y is. is), c.requires) (summed_none _ _ _ _ c.args.self.now.are)

pub add_to-requires : goal.add_to-requires
add_to-requires g c = record {
  small = summed_small _ _ _ _ c.args.self.now.are _ _ c.loop-v.invariant;
  size = c.loop-v.invariant.size ∙ sym c.row.ensures.size;
}

pub loop-v-preserved : goal.loop-v-preserved
loop-v-preserved g c =
    let added = rw (c.row.ensures.same_book, c.row.ensures.own_number, c.row.ensures.own_exposure) at c.add_to.ensures in
    summed_next _ _ _ _ c.args.self.now.are _ _ c.loop-v.invariant _ c.loop-v-test.true added

pub returns : goal.returns
returns g c = summed_end _ _ _ _ c.args.self.now.are _ _ c.loop-v.invariant _ c.requires (omega (arith, c.loop-v-test.false))
