-- `scenarios::calm::calm_bound` meets its contract. The root is at most 100.
use mathlib.Core.Path.{ap}
use native.Mathlib.Omega.{arith}
use Rattle.numbers.specs.Root.{root}
use Rattle.numbers.proofs.Roots.{root_only, root_bound}
use Rattle.std.proofs.Common.{◌≡◌, ◌-◌, ◌*◌, ℕ}
use Rattle.scenarios.specs.InnerContracts.{calm_bound}
use Rattle.scenarios.proofs.calm.calm_bound.Goals as goal

pub returns : goal.returns
unfolding calm_bound
returns c =
    let root_is : c.root_of.result ≡ root (10 * (1000 - c.args.factor)) =
    rw (← c.from.ensures) (root_only _ _ c.root_of.ensures) in
    (ap (λ (x : ℕ). 10000 * x) root_is, omega (arith, root_is, root_bound (10 * (1000 - c.args.factor)) 100 (omega arith)))
