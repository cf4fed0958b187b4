-- `report::Writer::refused` meets its contract: the word, a field, the last field.
use Rattle.report.specs.Text.{refused_word}
use Rattle.report.proofs.Pieces.{line_two}
use Rattle.report.proofs.Writing.{room_is, room_first, room_next, wrote_is, wrote_both}
use Rattle.report.proofs.Writer.refused.Goals as goal

pub field-requires : goal.field-requires
field-requires c =
    let room = room_is (line_two refused_word c.args.number c.args.item) c.requires in
    room_first _ _ (room_next c.text.ensures _ room)

pub last-requires : goal.last-requires
last-requires c =
    let room = room_is (line_two refused_word c.args.number c.args.item) c.requires in
    room_next c.field.ensures _ (room_next c.text.ensures _ room)

pub returns : goal.returns
returns c =
    wrote_is (line_two refused_word c.args.number c.args.item)
    (wrote_both c.text.ensures (wrote_both c.field.ensures c.last.ensures))
