-- `reading::bonds::flow_total` meets its contract. The last bond's flows end the total.
use Rattle.reading.proofs.Checks.{total_ends}
use Rattle.reading.proofs.bonds.flow_total.Goals as goal

pub returns-clause-value : goal.returns-clause-value
returns-clause-value c =
    rw (c.from.ensures, c.from-2.ensures, c.at-last.ensures.first_flow, c.at-last.ensures.flow_count, c.bond_count.ensures) (total_ends _ c.requires)
