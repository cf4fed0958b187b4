-- `timing::needed` meets its contract.
use mathlib.Core.Path.{ap, ◌∙◌}
use Rattle.std.proofs.Common.{ℕ, ◌*◌}
use Rattle.scenarios.specs.Buffer.{returns_size}
use Rattle.scenarios.proofs.Sound.{book_sections}
use Rattle.timing.proofs.needed.Goals as goal

pub of-requires : goal.of-requires
of-requires c = book_sections _ c.requires

pub returns : goal.returns
returns c = ap (λ (n : ℕ). 2 * n) c.kind_size.ensures.value ∙ ap returns_size c.of.ensures
