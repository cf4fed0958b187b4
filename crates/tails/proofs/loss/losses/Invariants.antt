-- `tails::loss::losses` meets its contract. The loop's invariant: the first s losses are stored.
use lib.IntN.{pos}
use lib.ListN.{get_or}
use Rattle.tails.specs.Losses.{loss}
use Rattle.tails.specs.InnerContracts.{mode_number}
use Rattle.numbers.proofs.Buffers.{FilledTo}
use Rattle.tails.proofs.loss.losses.Given as goal

abbrev pub invariant-loop-s : goal.invariant-loop-s
invariant-loop-s l = FilledTo (λ i. loss (mode_number l.fn.mode) (get_or l.pnls i (pos 0))) l.s-end l.initial.out l.s l.out
