-- `scenarios::returns` meets its contract. A book that passed keeps its returns' ranges.
use Rattle.std.proofs.Common.{ap}
use Rattle.scenarios.specs.Buffer.{returns_size}
use Rattle.scenarios.proofs.Sound.{book_sections, simulated}
use Rattle.scenarios.proofs.returns.Goals as goal

pub of-requires : goal.of-requires
of-requires c = book_sections _ c.requires.0

pub fill-requires : goal.fill-requires
fill-requires c = record { passed = rw c.of.ensures (simulated _ c.requires.0); room = rw (ap returns_size c.of.ensures) c.requires.1 }
