-- `report::Writer::last` meets its contract: the field, the line feed.
use Rattle.report.proofs.Writing.{wrote_both}
use Rattle.report.proofs.Writer.last.Goals as goal

pub returns : goal.returns
returns c = wrote_both c.field.ensures c.byte.ensures
