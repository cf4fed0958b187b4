-- `reading::bonds::flows_of` meets its contract. The part that is taken is the one that the two fields name.
use Rattle.reading.specs.InnerContracts.{flows_start}
use Rattle.reading.specs.Stretch.{flows_of}
use Rattle.reading.proofs.bonds.flows_of.Goals as goal

pub returns : goal.returns
unfolding flows_of flows_start
returns c = record {
  has = rw (← c.at-own.ensures.first_flow, ← c.at-own.ensures.flow_count) c.part.ensures.has;
  lies = rw (← c.at-own.ensures.first_flow, ← c.at-own.ensures.flow_count) c.part.ensures.lies;
}
