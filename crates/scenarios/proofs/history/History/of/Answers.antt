-- `scenarios::history::History::of` meets its contract. In a market that passed, the part of the prices is the vertex's.
use Rattle.scenarios.specs.InnerContracts.{path_of}
use Rattle.scenarios.proofs.Paths.{path_sound}
use Rattle.std.proofs.Common.{◌≡◌}
use Rattle.reading.specs.Parameters.{history}
use Rattle.scenarios.proofs.history.History.of.Goals as goal

pub invariant_of-result : goal.invariant_of-result
unfolding path_of
invariant_of-result c =
    let path : c.part.result.now ≡ path_of c.args.m.now.market.prices.now (history c.args.m.now.market.parameters.now) c.args.v =
    rw (← c.parameters-parameters.ensures, ← c.history-n.ensures.value) c.part.ensures.has in
    record { sound = rw (c.parameters-parameters.ensures, path) (path_sound _ c.args.m.now.sound _ c.requires) }

pub returns-clause-path : goal.returns-clause-path
unfolding path_of
returns-clause-path c = rw (← c.parameters-parameters.ensures, ← c.history-n.ensures.value) c.part.ensures.has
