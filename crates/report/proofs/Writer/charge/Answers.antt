-- `report::Writer::charge` meets its contract: the word, the figures, the listed scenarios, the line feed.
use Rattle.report.proofs.Pieces.{line_charge}
use Rattle.report.proofs.Writing.{room_is, room_first, room_next, wrote_is, wrote_both}
use Rattle.report.proofs.Writer.charge.Goals as goal

pub figures-requires : goal.figures-requires
figures-requires c =
    let room = room_is (line_charge c.args.word.now c.args.charge c.args.list.now) c.requires in
    room_first _ _ (room_next c.text.ensures _ room)

pub scenarios-requires : goal.scenarios-requires
scenarios-requires c =
    let room = room_is (line_charge c.args.word.now c.args.charge c.args.list.now) c.requires in
    room_first _ _ (room_next c.figures.ensures _ (room_next c.text.ensures _ room))

pub byte-requires : goal.byte-requires
byte-requires c =
    let room = room_is (line_charge c.args.word.now c.args.charge c.args.list.now) c.requires in
    room_next c.scenarios.ensures _ (room_next c.figures.ensures _ (room_next c.text.ensures _ room))

pub returns : goal.returns
returns c =
    wrote_is (line_charge c.args.word.now c.args.charge c.args.list.now)
    (wrote_both c.text.ensures (wrote_both c.figures.ensures (wrote_both c.scenarios.ensures c.byte.ensures)))
