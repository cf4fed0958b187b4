use mathlib.Core.Path.{sym, ap, ◌∙◌}
use native.Mathlib.Nat.{zero-mul, add-mul}
use native.Mathlib.Omega.{arith}
use Rattle.numbers.proofs.Buffers.{halves, halves_none}
use Rattle.reading.specs.InnerContracts.{market_in}
use Rattle.reading.specs.Parameters.{lookback}
use Rattle.reading.specs.Vertices.{vertex_count}
use Rattle.scenarios.specs.Buffer.{returns_entry}
use Rattle.scenarios.proofs.Vertices.{vertex_series, vertex_filled, all_filled}
use Rattle.std.proofs.Common.{◌≡◌, ◌+◌, ◌*◌, ◌<◌, ◌≤◌, pos, length, ℕ, ap₂}
use Rattle.scenarios.proofs.scenario.fill.Goals as goal

pub loop-v-init : goal.loop-v-init
loop-v-init c =
    let fits : 2 * c.kind_size-half.result ≤ length c.args.out.now = rw c.kind_size-half.ensures.value c.requires.room in
    rw (zero-mul c.from-lp.result) (sym (halves_none _ _ _ _ fits))

pub put-requires-clause-good : goal.put-requires-clause-good
put-requires-clause-good c =
    let low : c.loop-v.v < vertex_count c.args.m.now.market.vertices.now = omega (arith, c.vertex_count-v-end.ensures, c.loop-v-test.true) in
    vertex_series _ c.args.m.now.sound _ low _ _ c.of.ensures.parameters c.of.ensures.path ∙ c.requires.passed.series _ low

pub loop-v-preserved : goal.loop-v-preserved
loop-v-preserved c =
    let low : c.loop-v.v < vertex_count c.args.m.now.market.vertices.now = omega (arith, c.vertex_count-v-end.ensures, c.loop-v-test.true) in
    let is-lookback : c.from-lp.result ≡ lookback c.args.m.now.market.parameters.now = c.from-lp.ensures ∙ (c.lookback.ensures ∙ ap lookback c.parameters.ensures) in
    let next : c.loop-v.v * c.from-lp.result + lookback c.of.result.parameters.bytes.now ≡ (c.loop-v.v + 1) * c.from-lp.result =
    omega (arith, add-mul c.loop-v.v 1 c.from-lp.result, ap lookback c.of.ensures.parameters, is-lookback) in
    vertex_filled _ c.args.m.now.sound _ low _ _ c.of.ensures.parameters c.of.ensures.path _ _ _ _ _
    c.kind_size-half.ensures.value (ap (λ (n : ℕ). c.loop-v.v * n) is-lookback) c.requires.room c.loop-v.invariant c.put.ensures
    ∙ ap (λ (at : ℕ). halves (returns_entry (market_in c.args.m.now.market)) (pos 0) c.kind_size-half.result at c.args.out.now) next

pub returns : goal.returns
returns c =
    let is-lookback : c.from-lp.result ≡ lookback c.args.m.now.market.parameters.now = c.from-lp.ensures ∙ (c.lookback.ensures ∙ ap lookback c.parameters.ensures) in
    let end : c.loop-v.v ≡ vertex_count c.args.m.now.market.vertices.now = omega (arith, c.vertex_count-v-end.ensures, c.loop-v.auto.v-end, c.loop-v-test.false) in
    all_filled _ _ _ _ _ c.kind_size-half.ensures.value (ap₂ ◌*◌ end is-lookback ∙ sym c.kind_size-half.ensures.value) c.requires.room c.loop-v.invariant
