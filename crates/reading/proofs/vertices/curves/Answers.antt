use mathlib.Core.Path.{ap, ◌∙◌}
use native.Mathlib.Omega.{arith}
use Rattle.reading.proofs.Checks.{seen_below, seen_none, seen_next}
use Rattle.std.proofs.Common.{◌≡◌, ◌<◌, ◌*◌, ℕ}
use Rattle.numbers.specs.Buffers.{table}
use Rattle.reading.specs.Vertices.{vertex_curve, has_curve}
use Rattle.reading.proofs.vertices.curves.Goals as goal

pub loop-v-init : goal.loop-v-init
loop-v-init c = seen_none _

pub loop-v-preserved : goal.loop-v-preserved
loop-v-preserved c =
    let curve : c.from-curve.result ≡ vertex_curve c.args.vertices.now c.loop-v.v = c.from-curve.ensures ∙ c.at.ensures.curve in
    let low : vertex_curve c.args.vertices.now c.loop-v.v < 256 = omega (arith, c.type_inv.vertices (4 * c.loop-v.v)) in
    rw (c.loop-v.invariant, curve) (seen_next _ _ low)

pub returns : goal.returns
unfolding has_curve
returns c = let end : c.loop-v.v ≡ c.vertex_count-v-end.result = omega arith in
    c.loop-v.invariant
    ∙ ap (λ (a : ℕ). table (seen_below c.args.vertices.now a) 256 0) (end ∙ c.vertex_count-v-end.ensures)
