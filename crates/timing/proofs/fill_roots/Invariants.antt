-- `timing::fill_roots` meets its contract. The loop's invariant: the first i entries are filled.
use lib.ListN.{length}
use Rattle.numbers.proofs.Buffers.{FilledTo}
use Rattle.timing.specs.InnerContracts.{root_of}
use Rattle.timing.proofs.fill_roots.Given as goal

abbrev pub invariant-loop-i : goal.invariant-loop-i
invariant-loop-i l = FilledTo (root_of l.values) (length l.values) l.initial.out l.i l.out
