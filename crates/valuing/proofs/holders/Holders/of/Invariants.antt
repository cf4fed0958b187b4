-- `valuing::holders::Holders::of` meets its contract. The loop's invariant: the positions from p on are found.
use Rattle.valuing.proofs.Chains.{ChainTo}
use Rattle.valuing.proofs.holders.Holders.of.Given as goal

abbrev pub invariant-loop-p : goal.invariant-loop-p
invariant-loop-p l = ChainTo l.positions l.p l.initial.first l.initial.next l.first l.next
