use Rattle.tails.proofs.Sums.{alone_none, alone_fits, alone_next}
use Rattle.tails.proofs.rows.Rows.undiversified.Goals as goal

pub loop-v-init : goal.loop-v-init
loop-v-init g c = rw c.of-sum.ensures (alone_none _ _ _ _ _ _ c.args.self.now.are c.requires)

pub add-sum-requires : goal.add-sum-requires
add-sum-requires g c =
    let own = rw (c.row.ensures.same_book, c.row.ensures.own_number, c.row.ensures.own_exposure, c.row.ensures.size) at c.tail.ensures in
    alone_fits _ _ _ _ _ _ c.args.self.now.are c.requires _ _ c.loop-v.invariant c.loop-v-test.true _ own

pub loop-v-preserved : goal.loop-v-preserved
loop-v-preserved g c =
    let own = rw (c.row.ensures.same_book, c.row.ensures.own_number, c.row.ensures.own_exposure, c.row.ensures.size) at c.tail.ensures in
    rw c.add-sum.ensures
    (alone_next _ _ _ _ _ _ c.args.self.now.are c.requires _ _ c.loop-v.invariant c.loop-v-test.true _ own)
