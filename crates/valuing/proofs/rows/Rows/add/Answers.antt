-- `valuing::rows::Rows::add` meets its contract. Each row is its flow's, so that its share is added; the floors and the sums stay in range.
use mathlib.Core.Path.{sym, ◌∙◌}
use native.Mathlib.Nat.{mul-le-mul, le_trans}
use native.Mathlib.Omega.{arith}
use lib.ListN.{get_or, take, length-take}
use mir.Facts.{to_z-of_z}
use Rattle.numbers.proofs.Signs.{came}
use Rattle.valuing.specs.declared.rows.Row.{Row}
use Rattle.valuing.specs.InnerContracts.{curve_in, days_left, RowIs}
use Rattle.valuing.specs.Split.{flow_count, floor_at, share}
use Rattle.valuing.proofs.Adding.{worth_small, row_low, row_item, row_near, next_floor, floors_ready, share_small, parts_start, held_room, parts_next, parts_end}
use Rattle.valuing.proofs.Split.{floor_none}
use Rattle.std.proofs.Common.{◌≡◌, ◌+◌, ◌<◌, nat_abs, w64, to_z, of_z}
use Rattle.valuing.proofs.rows.Rows.add.Goals as goal
use Rattle.valuing.proofs.rows.Rows.add.Goals.{After-from, After-quotient-next, After-share_of-share}

-- what a list of rows reads past its end
abbrev none_row : Row
none_row = record { worth = 0; days = 0; left = 0; upper = 0 }

-- the row in hand is its flow's
here : (c : After-from) → c.loop-row.row-index < flow_count c.args.self.now.stretch.now
here c = row_low _ _ c.args.self.now.filled c.flow_count.ensures c.loop-row.row-index c.loop-row-test.true

row : (c : After-from)
    → RowIs (curve_in c.args.self.now.curve) c.args.self.now.stretch.now c.loop-row.row-index (get_or (take c.flow_count.result c.args.self.now.rows.now) c.loop-row.row-index none_row)
row c = row_item _ _ c.args.self.now.filled c.flow_count.ensures c.loop-row.row-index c.loop-row-test.true none_row

-- the floor at its end
next : (c : After-quotient-next)
    → c.quotient-next.result ≡ floor_at (curve_in c.args.self.now.curve) c.args.self.now.stretch.now (nat_abs (to_z w64 (of_z w64 c.args.value))) (c.loop-row.row-index + 1)
next c = next_floor _ _ _ _ (row (search)) c.unsigned_abs-size.ensures.value c.from.ensures c.args.self.now.total_is c.quotient-next.ensures

-- its share
own : (c : After-share_of-share)
    → to_z w64 (of_z w64 c.share_of-share.result) ≡ share (curve_in c.args.self.now.curve) c.args.self.now.stretch.now (to_z w64 (of_z w64 c.args.value)) c.loop-row.row-index
own c =
    came w64 _ c.share_of-share.type_inv (c.share_of-share.ensures.share _ _ c.loop-row.row-index c.loop-row.invariant.given (next (search)))

pub loop-row-init : goal.loop-row-init
loop-row-init c = record { given = sym (floor_none _ _ _); parts = parts_start _ _ _ _ c.requires.fits }

pub overflow_mul-size : goal.overflow_mul-size
overflow_mul-size c =
    record {
      fits = omega (
        arith,
        mul-le-mul {n₁ = c.unsigned_abs-size.result} {m₁ = c.from.result} {n₂ = 20000000000} {m₂ = 20000000} (rw (c.unsigned_abs-size.ensures.value, to_z-of_z {w = w64} c.ranges.value) c.requires.small)
            (rw (c.from.ensures ∙ (row c).worth_is) (worth_small _ _ c.args.self.now.valued c.loop-row.row-index (here c))),
      );
    }

pub share_of-share-requires : goal.share_of-share-requires
share_of-share-requires c =
    let ready = floors_ready _ _ _ _ (row (search)) c.unsigned_abs-size.ensures.value c.from.ensures c.args.self.now.total_is c.quotient-next.ensures
    _ c.loop-row.invariant.given (here (search)) (rw (to_z-of_z {w = w64} c.ranges.value) c.requires.small) in
    record { rises = ready.0; small = ready.1 }

pub invariant_of-place : goal.invariant_of-place
unfolding days_left
invariant_of-place c =
    let near = row_near _ _ c.args.self.now.filled c.flow_count.ensures c.loop-row.row-index c.loop-row-test.true none_row c.args.self.now.valued.sound_flows c.from-in-loop-row.ensures in
    record { is_vertex = near.is_vertex; above = near.above; past = near.past; left_is = rw c.from-in-loop-row.ensures (row (search)).left_is }

pub add_share-requires-clause-small : goal.add_share-requires-clause-small
add_share-requires-clause-small c = rw (own (search)) (le_trans (share_small _ _ _ _ (here (search))) (rw (to_z-of_z {w = w64} c.ranges.value) c.requires.small))

pub add_share-requires-clause-room : goal.add_share-requires-clause-room
add_share-requires-clause-room c =
    held_room _ _ _ _ _ _ c.loop-row.invariant.parts c.args.self.now.valued
    (omega (arith, c.loop-row.auto.row-index-end, length-take c.flow_count.result c.args.self.now.rows.now, c.flow_count.ensures))
    (rw (to_z-of_z {w = w64} c.ranges.value) c.requires.room)

pub loop-row-preserved : goal.loop-row-preserved
loop-row-preserved c =
    record {
      given = next (search);
      parts = parts_next _ _ _ _ c.loop-row.row-index _ c.loop-row.invariant.parts _ _ _ _ (c.from-in-loop-row.ensures ∙ (row (search)).upper_is) (row (search)).days_are (own (search)) c.add_share.ensures;
    }

pub returns : goal.returns
returns c = rw (← to_z-of_z {w = w64} c.ranges.value) (parts_end _ _ _ _ _ _ c.loop-row.invariant.parts
    (omega (arith, c.loop-row.auto.row-index-end, c.loop-row-test.false, length-take c.flow_count.result c.args.self.now.rows.now, c.flow_count.ensures, c.args.self.now.filled.fits)))
