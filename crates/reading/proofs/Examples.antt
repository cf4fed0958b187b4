-- The checked examples of k hold, by computation.
-- Assumes nothing.
use mathlib.Core.Path.{refl}
use Rattle.numbers.specs.Little.{u16_at}
use Rattle.numbers.specs.Rounding.{nearest_down}
use Rattle.reading.specs.Parameters.{tail_count_by, tail_count, check_parameters}
use Rattle.reading.specs.Examples.{TailExamples}

-- every example of k
pub tail_examples : TailExamples
unfolding tail_count_by tail_count check_parameters nearest_down u16_at
tail_examples = record { half = refl; above = refl; least = refl; most = refl; over = refl; refused = refl }
