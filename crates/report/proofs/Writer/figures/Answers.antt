-- `report::Writer::figures` meets its contract: one figure after another.
use Rattle.report.proofs.Pieces.{fields_charge}
use Rattle.report.proofs.Writing.{room_is, room_first, room_next, wrote_is, wrote_both}
use Rattle.report.proofs.Writer.figures.Goals as goal

pub field-requires : goal.field-requires
field-requires c =
    let room = room_is (fields_charge c.args.charge) c.requires in
    room_first _ _ room

pub field-requires-2 : goal.field-requires-2
field-requires-2 c =
    let room = room_is (fields_charge c.args.charge) c.requires in
    room_first _ _ (room_next c.field.ensures _ room)

pub field-requires-3 : goal.field-requires-3
field-requires-3 c =
    let room = room_is (fields_charge c.args.charge) c.requires in
    room_first _ _ (room_next c.field-2.ensures _ (room_next c.field.ensures _ room))

pub field-requires-4 : goal.field-requires-4
field-requires-4 c =
    let room = room_is (fields_charge c.args.charge) c.requires in
    room_next c.field-3.ensures _ (room_next c.field-2.ensures _ (room_next c.field.ensures _ room))

pub returns : goal.returns
returns c =
    wrote_is (fields_charge c.args.charge)
    (wrote_both c.field.ensures (wrote_both c.field-2.ensures (wrote_both c.field-3.ensures c.field-4.ensures)))
