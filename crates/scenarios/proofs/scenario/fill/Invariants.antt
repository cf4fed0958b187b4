-- `scenarios::scenario::fill` meets its contract. The loop's invariant: the rows of the first v vertices are filled, in both halves.
use Prim.Native.Nat.{◌*◌}
use mathlib.Core.Path.{◌≡◌}
use lib.IntN.{pos}
use Rattle.numbers.proofs.Buffers.{halves}
use Rattle.reading.specs.InnerContracts.{market_in}
use Rattle.scenarios.specs.Buffer.{returns_entry}
use Rattle.scenarios.proofs.scenario.fill.Given as goal

abbrev pub invariant-loop-v : goal.invariant-loop-v
invariant-loop-v l = l.out ≡ halves (returns_entry (market_in l.m.market)) (pos 0) l.half (l.v * l.lp) l.initial.out
