-- `report::Writer::line` meets its contract: the word, the last field.
use Rattle.report.proofs.Pieces.{line_one}
use Rattle.report.proofs.Writing.{room_is, room_next, wrote_is, wrote_both}
use Rattle.report.proofs.Writer.line.Goals as goal

pub last-requires : goal.last-requires
last-requires c = room_next c.text.ensures _ (room_is (line_one c.args.word.now c.args.n) c.requires)

pub returns : goal.returns
returns c = wrote_is (line_one c.args.word.now c.args.n) (wrote_both c.text.ensures c.last.ensures)
