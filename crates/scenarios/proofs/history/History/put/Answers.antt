-- `scenarios::history::History::put` meets its contract. Every return is stored, since the series is good; then its scenarios go to their two places.
use mathlib.Core.Path.{ap, ◌∙◌}
use native.Mathlib.Omega.{arith}
use lib.ListN.{take, drop}
use Rattle.numbers.specs.Buffers.{placed}
use Rattle.numbers.proofs.Buffers.{placed-length}
use Rattle.reading.specs.Parameters.{lookback}
use Rattle.scenarios.specs.InnerContracts.{returns_on}
use Rattle.scenarios.specs.Scaled.{unscaled_from, scaled_from}
use Rattle.scenarios.proofs.StoredReturns.{stored_good, stored_held, unscaled_placed, scaled_placed}
use Rattle.std.proofs.Common.{◌≡◌, true, is_ok, ◌+◌, ◌-◌, ◌≤◌, length, ◌++◌}
use Rattle.scenarios.proofs.history.History.put.Goals as goal

pub put_scaled-requires-clause-held : goal.put_scaled-requires-clause-held
put_scaled-requires-clause-held c = stored_held _ _ _ _ _ _ _ c.walk.ensures (stored_good _ _ _ _ _ _ _ c.walk.ensures c.requires.good)

pub returns : goal.returns
returns c =
    let all : is_ok c.walk.result ≡ true = stored_good _ _ _ _ _ _ _ c.walk.ensures c.requires.good in
    let first : take c.args.at c.args.out.now ++ (c.put_unscaled.new.out ++ drop (length c.args.out.now - c.args.at) (drop c.args.at c.args.out.now)) ≡ placed (unscaled_from c.args.self.now.parameters.bytes.now (returns_on c.args.self.now.parameters.bytes.now c.args.self.now.path.now)) c.args.at (lookback c.args.self.now.parameters.bytes.now) c.args.out.now =
    unscaled_placed _ _ _ _ _ _ _ c.walk.ensures all _ _ _ (omega (arith, c.requires.row, c.requires.room)) c.put_unscaled.ensures in
    let room : c.args.half + c.args.at + lookback c.args.self.now.parameters.bytes.now ≤ length (take c.args.at c.args.out.now ++ (c.put_unscaled.new.out ++ drop (length c.args.out.now - c.args.at) (drop c.args.at c.args.out.now))) =
    rw (first, placed-length (unscaled_from c.args.self.now.parameters.bytes.now (returns_on c.args.self.now.parameters.bytes.now c.args.self.now.path.now)) c.args.at (lookback c.args.self.now.parameters.bytes.now) c.args.out.now (omega (arith, c.requires.row, c.requires.room)))
    (omega (arith, c.requires.row, c.requires.room)) in
    scaled_placed _ _ _ _ _ _ _ c.walk.ensures all _ _ _ _ room c.requires.good c.put_scaled.ensures
    ∙ ap (placed (scaled_from c.args.self.now.parameters.bytes.now (returns_on c.args.self.now.parameters.bytes.now c.args.self.now.path.now))
    (c.args.half + c.args.at) (lookback c.args.self.now.parameters.bytes.now)) first
