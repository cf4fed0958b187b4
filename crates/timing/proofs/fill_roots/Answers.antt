use Rattle.numbers.proofs.Buffers.{fill_none, fill_next}
use Rattle.numbers.proofs.Roots.{root_only}
use Rattle.timing.proofs.fill_roots.Goals as goal

pub loop-i-init : goal.loop-i-init
loop-i-init c = fill_none _ _ _ c.requires

pub loop-i-preserved : goal.loop-i-preserved
loop-i-preserved c = let loop = c.loop-i in
    fill_next _ _ _ c.requires loop.i loop.out loop.invariant c.root_of.result c.loop-i-test.true
    (root_only _ c.root_of.result c.root_of.ensures)
