use mathlib.Core.Path.{ap, sym, ◌∙◌}
use native.Mathlib.Omega.{arith}
use Rattle.numbers.proofs.Buffers.{stored_none, stored_next}
use Rattle.valuing.proofs.Adding.{rows_all, sum_whole, sum_next_is, sum_small}
use Rattle.valuing.proofs.Checks.{walk, walk_next, worth_is}
use Rattle.valuing.proofs.Pricing.{worth_none}
use Rattle.std.proofs.Common.{rules, ◌≡◌, ◌<◌}
use Rattle.valuing.specs.Curves.{upper}
use Rattle.valuing.specs.InnerContracts.{curve_in}
use Rattle.valuing.specs.Split.{flow_count, worth_of, worth}
use Rattle.valuing.proofs.rows.fill_rows.Goals as goal

pub loop-j-init : goal.loop-j-init
loop-j-init c = record { reached = search rules; totals = sym (worth_none _ _); rows = stored_none _ _ }

pub place-place-requires-clause-low : goal.place-place-requires-clause-low
place-place-requires-clause-low c = walk _ _ c.requires.valued.sound_flows _ (omega arith) c.at-flow.ensures.days c.loop-j.invariant.reached

pub overflow_add-sum : goal.overflow_add-sum
overflow_add-sum c =
    let low : c.loop-j.j < flow_count c.args.stretch.now = omega arith in
    let own : c.worth-sum.result ≡ worth (curve_in c.args.curve.now) c.args.stretch.now c.loop-j.j =
    worth_is _ _ c.requires.valued.sound_flows _ low c.at-flow.ensures.days c.place-place.ensures.upper c.at-flow.ensures.amount (c.worth-sum.ensures ∙ ap (worth_of c.at-flow.result.amount) c.place-place.ensures.priced) in
    record { fits = omega (arith, sum_small _ _ c.requires.valued c.loop-j.j low _ _ c.loop-j.invariant.totals own) }

pub loop-j-preserved : goal.loop-j-preserved
loop-j-preserved c =
    let low : c.loop-j.j < flow_count c.args.stretch.now = omega arith in
    let own : c.worth-sum.result ≡ worth (curve_in c.args.curve.now) c.args.stretch.now c.loop-j.j =
    worth_is _ _ c.requires.valued.sound_flows _ low c.at-flow.ensures.days c.place-place.ensures.upper c.at-flow.ensures.amount (c.worth-sum.ensures ∙ ap (worth_of c.at-flow.result.amount) c.place-place.ensures.priced) in
    record {
      reached = walk_next _ _ c.requires.valued.sound_flows _ low c.at-flow.ensures.days c.place-place.ensures.upper;
      totals = sum_next_is _ _ c.requires.valued c.loop-j.j low _ _ c.loop-j.invariant.totals own;
      rows = stored_next _ _ _ _ c.loop-j.invariant.rows _ (omega (arith, c.requires.fits))
          (record {
            worth_is = sum_next_is _ _ c.requires.valued c.loop-j.j low _ _ c.loop-j.invariant.totals own;
            days_are = c.at-flow.ensures.days;
            upper_is = c.place-place.ensures.upper ∙ ap (upper c.args.curve.now.vertices.now c.args.curve.now.index) c.at-flow.ensures.days;
            left_is = c.place-place.ensures.left;
          });
    }

pub returns : goal.returns
returns c =
    let end : c.loop-j.j ≡ flow_count c.args.stretch.now = omega arith in
    record { total = sum_whole _ _ _ _ end c.loop-j.invariant.totals; filled = rows_all _ _ _ _ _ c.loop-j.invariant.rows end c.requires.fits }
