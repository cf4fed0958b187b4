-- `valuing::curves::Place::add_share` meets its contract. The rest goes to the vertex at or past the days, and the lower part, where there is one, to the vertex below it.
use mathlib.Core.Path.{ap}
use Rattle.valuing.proofs.Adding.{lower_is, rest_fits, rest_small, lower_small, lower_vertex, rest_stored, mapped_one, mapped_two, below_held}
use Rattle.valuing.proofs.Checks.{held_near}
use Rattle.std.proofs.Common.{w64, to_z}
use Rattle.valuing.proofs.curves.Place.add_share.Goals as goal

pub overflow_sub-share : goal.overflow_sub-share
overflow_sub-share c = rest_fits _ _ _ _ c.ranges.share c.requires.small (held_near c.args.self.now) c.lower_part-lower.type_inv c.lower_part-lower.ensures

pub add_at-requires-clause-small : goal.add_at-requires-clause-small
add_at-requires-clause-small c = rest_small _ _ _ _ c.ranges.share c.requires.small (held_near c.args.self.now) c.lower_part-lower.type_inv c.lower_part-lower.ensures

pub overflow_sub-self : goal.overflow_sub-self
overflow_sub-self c = lower_vertex _ _ _ _ c.ranges.share c.requires.small (held_near c.args.self.now) c.lower_part-lower.type_inv c.lower_part-lower.ensures c.if-lower-ne0.true

pub add_at-requires-then-lower-ne0-clause-held : goal.add_at-requires-then-lower-ne0-clause-held
add_at-requires-then-lower-ne0-clause-held c =
    below_held _ _ _ _ _ (held_near c.args.self.now)
    (lower_is _ _ _ _ c.ranges.share c.requires.small (held_near c.args.self.now) c.lower_part-lower.type_inv c.lower_part-lower.ensures) _ _ c.requires.fits
    (rest_stored _ _ _ _ c.ranges.share c.requires.small (held_near c.args.self.now) c.lower_part-lower.type_inv c.lower_part-lower.ensures _ _ c.add_at.ensures)
    (lower_vertex _ _ _ _ c.ranges.share c.requires.small (held_near c.args.self.now) c.lower_part-lower.type_inv c.lower_part-lower.ensures c.if-lower-ne0.true)
    c.requires.room

pub add_at-requires-then-lower-ne0-clause-small : goal.add_at-requires-then-lower-ne0-clause-small
add_at-requires-then-lower-ne0-clause-small c =
    lower_small _ _ _ _ c.ranges.share c.requires.small (held_near c.args.self.now) c.lower_part-lower.type_inv c.lower_part-lower.ensures

pub returns-then-lower-ne0 : goal.returns-then-lower-ne0
returns-then-lower-ne0 c =
    mapped_two _ _ _ _ _ (held_near c.args.self.now)
    (lower_is _ _ _ _ c.ranges.share c.requires.small (held_near c.args.self.now) c.lower_part-lower.type_inv c.lower_part-lower.ensures) _ _ c.requires.fits
    (rest_stored _ _ _ _ c.ranges.share c.requires.small (held_near c.args.self.now) c.lower_part-lower.type_inv c.lower_part-lower.ensures _ _ c.add_at.ensures) _
    (lower_vertex _ _ _ _ c.ranges.share c.requires.small (held_near c.args.self.now) c.lower_part-lower.type_inv c.lower_part-lower.ensures c.if-lower-ne0.true)
    c.add_at-then-lower-ne0.ensures

pub returns-else-lower-ne0 : goal.returns-else-lower-ne0
returns-else-lower-ne0 c =
    mapped_one _ _ _ _ _ (held_near c.args.self.now)
    (lower_is _ _ _ _ c.ranges.share c.requires.small (held_near c.args.self.now) c.lower_part-lower.type_inv c.lower_part-lower.ensures) _ _ c.requires.fits
    (rest_stored _ _ _ _ c.ranges.share c.requires.small (held_near c.args.self.now) c.lower_part-lower.type_inv c.lower_part-lower.ensures _ _ c.add_at.ensures)
    (ap (to_z w64) c.if-lower-ne0.false)
