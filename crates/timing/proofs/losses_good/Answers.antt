-- `timing::losses_good` meets its contract.
use Rattle.std.proofs.Common.{rules, ◌≤◌, ◌<◌}
use Rattle.std.proofs.lemmas.Iterator.{cases_from_all, YieldsList-from_slice}
use borrow.Author.Tests.{tests}
use Rattle.timing.proofs.Taking.{all_good}
use Rattle.timing.proofs.losses_good.Goals as goal

pub returns : goal.returns
returns c =
    all_good c.args.losses.now c.all.result
    (cases_from_all _ _ _ (λ x. x ≤ 100000000000000000) (λ x. 100000000000000000 < x) c.all.ensures.ran (YieldsList-from_slice c.args.losses.now cc)
    (λ x q k. search (rules, tests))
    (λ x q k. search (rules, tests)))
