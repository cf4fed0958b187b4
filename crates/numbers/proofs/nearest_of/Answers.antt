-- `numbers::nearest_of` meets its contract. The rest is half of d or more exactly where d less the rest is at most the rest.
use native.Mathlib.Omega.{arith}
use mathlib.Core.Path.{sym}
use Rattle.numbers.proofs.Rounding.{nearest_up, nearest_stays}
use Rattle.numbers.proofs.nearest_of.Goals as goal

pub returns-then-d-rest : goal.returns-then-d-rest
returns-then-d-rest c = sym (nearest_up c.args.n c.args.d c.requires (omega arith))

pub returns-else-d-rest : goal.returns-else-d-rest
returns-else-d-rest c = sym (nearest_stays c.args.n c.args.d c.requires (omega arith))
