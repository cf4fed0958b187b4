-- `reading::parameters::Parameters::tail_count` meets its contract. Both fields are the definition's.
use Rattle.reading.specs.Parameters.{tail_count}
use Rattle.reading.proofs.parameters.Parameters.tail_count.Goals as goal

pub returns : goal.returns
unfolding tail_count
returns c = cc
