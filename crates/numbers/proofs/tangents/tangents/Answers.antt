-- `numbers::tangents::tangents` meets its contract. The table is computed here: each entry is a piece's tangent.
use mathlib.Core.Path.{refl}
use Rattle.numbers.specs.Rounding.{ceiling}
use Rattle.numbers.proofs.CloseGuess.{table_held}
use Rattle.numbers.proofs.tangents.tangents.Goals as goal

pub returns : goal.returns
unfolding ceiling
returns c = table_held 192 64 _ refl
