use mathlib.Core.Path.{sym, ◌∙◌}
use native.Mathlib.Omega.{arith}
use Rattle.numbers.proofs.Items.{every_none, every_next, every_bad}
use Rattle.std.proofs.Common.{◌≡◌, ◌+◌}
use Rattle.reading.specs.Parameters.{smoothing}
use Rattle.reading.specs.Prices.{price_entry}
use Rattle.scenarios.specs.Returns.{return_count}
use Rattle.scenarios.specs.InnerContracts.{calm_bound, calm_move, is_calm}
use Rattle.scenarios.proofs.history.History.is_calm.Goals as goal

pub loop-j-init : goal.loop-j-init
loop-j-init c = every_none _

pub returns-then-not-calm_move : goal.returns-then-not-calm_move
unfolding is_calm
returns-then-not-calm_move c =
    let bound : c.calm_bound-bound.result ≡ calm_bound (smoothing c.args.self.now.parameters.bytes.now) =
    rw (← c.smoothing.ensures) c.calm_bound-bound.ensures.0 in
    let is : c.calm_move.result ≡ calm_move c.calm_bound-bound.result (price_entry c.args.self.now.path.now c.loop-j.j) (price_entry c.args.self.now.path.now (c.loop-j.j + c.from-hp.result)) =
    rw (← c.price_entry.ensures, ← c.price_entry-in-loop-j.ensures) c.calm_move.ensures in
    rw (← bound, ← c.holding_period.ensures, ← c.from-hp.ensures, ← c.count-j-end.ensures)
    (sym (every_bad (λ i. calm_move c.calm_bound-bound.result (price_entry c.args.self.now.path.now i)
    (price_entry c.args.self.now.path.now (i + c.from-hp.result))) _ c.loop-j.j c.loop-j-test.true
    (sym is ∙ c.if-not-calm_move.true)))

pub loop-j-preserved : goal.loop-j-preserved
loop-j-preserved c =
    let is : c.calm_move.result ≡ calm_move c.calm_bound-bound.result (price_entry c.args.self.now.path.now c.loop-j.j) (price_entry c.args.self.now.path.now (c.loop-j.j + c.from-hp.result)) =
    rw (← c.price_entry.ensures, ← c.price_entry-in-loop-j.ensures) c.calm_move.ensures in
    every_next (λ i. calm_move c.calm_bound-bound.result (price_entry c.args.self.now.path.now i)
    (price_entry c.args.self.now.path.now (i + c.from-hp.result))) c.loop-j.j c.loop-j.invariant
    (sym is ∙ c.if-not-calm_move.false)

pub returns : goal.returns
unfolding is_calm
returns c =
    let bound : c.calm_bound-bound.result ≡ calm_bound (smoothing c.args.self.now.parameters.bytes.now) =
    rw (← c.smoothing.ensures) c.calm_bound-bound.ensures.0 in
    let end : c.loop-j.j ≡ return_count c.args.self.now.parameters.bytes.now =
    omega (arith, c.count-j-end.ensures, c.loop-j.auto.j-end, c.loop-j-test.false) in
    rw (← bound, ← c.holding_period.ensures, ← c.from-hp.ensures, ← end) (sym c.loop-j.invariant)
