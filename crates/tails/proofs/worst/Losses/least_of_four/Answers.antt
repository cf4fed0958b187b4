use mathlib.Core.Path.{subst}
use native.Mathlib.Omega.{arith}
use lib.ListN.{get_or, length}
use Rattle.std.proofs.Common.{◌≡◌, ◌/◌}
use Rattle.tails.proofs.Lanes.{AreMaxima, maxima_none, maxima_next, maxima_least}
use Rattle.tails.proofs.worst.Losses.least_of_four.Goals as goal

pub loop-sixteen-init : goal.loop-sixteen-init
loop-sixteen-init c = maxima_none _ _

pub loop-sixteen-preserved : goal.loop-sixteen-preserved
loop-sixteen-preserved c =
    maxima_next _ _ _ _ _ _ _ c.loop-sixteen.invariant _ _ _ _
    c.max-a.ensures c.max-b.ensures c.max-c.ensures c.max-d.ensures

pub returns : goal.returns
returns c =
    let all : c.loop-sixteen.sixteen ≡ length c.args.self.now.all.now / 16 = omega (arith, c.loop-sixteen.auto.sixteen-end, c.loop-sixteen-test.false) in
    maxima_least _ _ _ _ _ _ _
    (subst (λ n. AreMaxima (λ s. get_or c.args.self.now.all.now s 0) n c.args.j c.loop-sixteen.a c.loop-sixteen.b c.loop-sixteen.c c.loop-sixteen.d) all c.loop-sixteen.invariant)
    _ _ _ c.min.ensures c.min-2.ensures c.min-3.ensures
