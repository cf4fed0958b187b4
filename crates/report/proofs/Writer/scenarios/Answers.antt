-- `report::Writer::scenarios` meets its contract.
use native.Mathlib.Numerals.{add-one}
use native.Mathlib.Omega.{arith}
use Rattle.report.specs.Text.{fields}
use Rattle.report.proofs.Pieces.{fields_at, fields_from, fields_next}
use Rattle.report.proofs.Writing.{room_is, room_first, room_next, wrote_none, wrote_is, wrote_both}
use Rattle.report.proofs.Writer.scenarios.Goals as goal

pub loop-scenario-init : goal.loop-scenario-init
unfolding fields
loop-scenario-init c =
    wrote_none _ (omega (arith, c.requires.room))

pub field-requires : goal.field-requires
field-requires c =
    let list = c.args.list.now in
    let i = c.loop-scenario.scenario-index in
    let rest = room_next c.loop-scenario.invariant _ (room_is (fields_at list i) c.requires) in
    rw c.from.ensures (room_first _ _ (room_is (fields_from list i c.loop-scenario-test.true) rest))

pub loop-scenario-preserved : goal.loop-scenario-preserved
loop-scenario-preserved c =
    let wrote = rw c.from.ensures at c.field.ensures in
    rw add-one
    (wrote_is (fields_next c.args.list.now c.loop-scenario.scenario-index c.loop-scenario-test.true)
    (wrote_both c.loop-scenario.invariant wrote))
