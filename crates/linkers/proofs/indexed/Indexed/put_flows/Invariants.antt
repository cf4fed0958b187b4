-- `linkers::indexed::Indexed::put_flows` meets its contract. The loop's invariant: r dates are past.
use Rattle.linkers.specs.InnerContracts.{linker_of}
use Rattle.linkers.proofs.Passing.{PassedTo}
use Rattle.linkers.proofs.indexed.Indexed.put_flows.Given as goal

abbrev pub invariant-loop-r : goal.invariant-loop-r
invariant-loop-r l = PassedTo (linker_of l.self) l.fn.evaluation l.self.prices.now l.count l.dates l.initial.records l.r l.written l.base l.records
