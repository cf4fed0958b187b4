-- `reading::parameters::Parameters::history` meets its contract. It stands here so that a wrong field is refused for itself where another one's is wrong too
-- (must-fail/fields_one_byte_off.edit, must-fail/fields_other_width.edit).
use Rattle.std.proofs.Common.{rules}
use Rattle.reading.proofs.parameters.Parameters.history.Goals as goal

pub returns-clause-value : goal.returns-clause-value
returns-clause-value c = search rules
