use mathlib.Core.Path.{ap, ◌∙◌}
use native.Mathlib.Omega.{arith}
use lib.ListN.{length, get_or}
use Rattle.std.proofs.Common.{◌≡◌, ◌+◌, ◌*◌, ◌/◌}
use Rattle.tails.specs.InnerContracts.{least_maximum}
use Rattle.tails.proofs.Lanes.{least_start, least_next}
use Rattle.tails.proofs.worst.Losses.least_maximum.Goals as goal

pub loop-four-init : goal.loop-four-init
loop-four-init c = least_start _ _

pub loop-four-preserved : goal.loop-four-preserved
loop-four-preserved c =
    let next : 4 * c.loop-four.four + 4 ≡ 4 * (c.loop-four.four + 1) = omega arith in
    least_next _ _ _ _ _ _ c.loop-four.invariant c.least_of_four.ensures c.min-least.ensures
    ∙ ap (λ j. least_maximum (λ s. get_or c.args.self.now.all.now s 0) (length c.args.self.now.all.now / 16) j) next

-- It stands here so that lanes left out are refused for themselves where `least_of_four` is not proved either
-- (must-fail/ranking_and_ties.edit).
pub returns : goal.returns
returns c =
    let all : 4 * c.loop-four.four ≡ 16 = omega (arith, c.loop-four-test.false, c.loop-four.auto.four-end) in
    c.loop-four.invariant ∙ ap (λ j. least_maximum (λ s. get_or c.args.self.now.all.now s 0) (length c.args.self.now.all.now / 16) j) all
