-- `numbers::nearest_down` meets its contract. The rest is more than half of d exactly where d less the rest is below the rest.
use native.Mathlib.Omega.{arith}
use mathlib.Core.Path.{sym}
use Rattle.numbers.proofs.Rounding.{nearest_down_up, nearest_down_stays}
use Rattle.numbers.proofs.nearest_down.Goals as goal

pub returns-then-d-rest : goal.returns-then-d-rest
returns-then-d-rest c = sym (nearest_down_up c.args.n c.args.d c.requires (omega arith))

pub returns-else-d-rest : goal.returns-else-d-rest
returns-else-d-rest c = sym (nearest_down_stays c.args.n c.args.d c.requires (omega arith))
