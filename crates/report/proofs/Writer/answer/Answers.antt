-- `report::Writer::answer` meets its contract: either case of the answer has its lines.
use Rattle.report.specs.Text.{lines_of}
use Rattle.report.proofs.Writer.answer.Goals as goal

pub margin-requires : goal.margin-requires
margin-requires c = rw c.in-Ok.is at c.requires

pub refused-requires : goal.refused-requires
unfolding lines_of
refused-requires c = let asks = rw c.in-Err.is at c.requires in rw (c.number.ensures, c.item.ensures) asks.1

pub returns-in-Ok : goal.returns-in-Ok
returns-in-Ok c = rw c.in-Ok.is c.margin.ensures

pub returns-in-Err : goal.returns-in-Err
unfolding lines_of
returns-in-Err c = rw c.in-Err.is (rw (← c.number.ensures, ← c.item.ensures) c.refused.ensures)
