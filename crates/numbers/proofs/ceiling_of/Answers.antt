-- `numbers::ceiling_of` meets its contract.
use mathlib.Core.Path.{◌∙◌}
use Rattle.numbers.proofs.Rounding.{ceiling_steps}
use Rattle.numbers.proofs.ceiling_of.Goals as goal

pub returns : goal.returns
returns c = c.div_ceil.ensures ∙ ceiling_steps c.args.n c.args.d c.requires
