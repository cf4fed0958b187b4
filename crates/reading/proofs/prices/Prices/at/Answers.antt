-- `reading::prices::Prices::at` meets its contract. It stands here so that a wrong field is refused for itself where another one's is wrong too
-- (must-fail/fields_one_byte_off.edit, must-fail/fields_other_width.edit).
use Rattle.std.proofs.Common.{rules}
use Rattle.reading.proofs.prices.Prices.at.Goals as goal

pub returns : goal.returns
returns c = search rules
