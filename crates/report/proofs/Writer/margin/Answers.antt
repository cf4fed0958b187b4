-- `report::Writer::margin` meets its contract: one line after another.
use Rattle.report.proofs.Pieces.{lines_margin}
use Rattle.report.proofs.Writing.{room_is, room_first, room_next, wrote_is, wrote_both}
use Rattle.report.proofs.Writer.margin.Goals as goal

pub line-requires : goal.line-requires
line-requires c =
    let room = room_is (lines_margin c.args.f c.args.list.now) c.requires.1 in
    room_first _ _ room

pub charge-requires : goal.charge-requires
charge-requires c =
    let room = room_is (lines_margin c.args.f c.args.list.now) c.requires.1 in
    room_first _ _ (room_next c.line.ensures _ room)

pub charge-requires-2 : goal.charge-requires-2
charge-requires-2 c =
    let room = room_is (lines_margin c.args.f c.args.list.now) c.requires.1 in
    room_first _ _ (room_next c.charge.ensures _ (room_next c.line.ensures _ room))

pub line-requires-2 : goal.line-requires-2
line-requires-2 c =
    let room = room_is (lines_margin c.args.f c.args.list.now) c.requires.1 in
    room_next c.charge-2.ensures _ (room_next c.charge.ensures _ (room_next c.line.ensures _ room))

pub returns : goal.returns
returns c =
    wrote_is (lines_margin c.args.f c.args.list.now)
    (wrote_both c.line.ensures (wrote_both c.charge.ensures (wrote_both c.charge-2.ensures c.line-2.ensures)))
