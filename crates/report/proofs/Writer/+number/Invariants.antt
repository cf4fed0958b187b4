-- `report::Writer::number` calls itself: the measure is the number.
use Rattle.report.proofs.Writer.+number.Given as goal

abbrev pub decreases-number : goal.decreases-number
decreases-number l = l.n
