-- `cases::worst::Header::tail_of` meets its contract: numbers that were read in their bound are what the tails layer asks for, and
-- its tail is that of the case.
use mathlib.Core.Path.{ap}
use lib.IntN.{ℤ, pos}
use Rattle.tails.specs.InnerContracts.{mode_number}
use Rattle.tails.specs.Losses.{loss}
use Rattle.cases.proofs.Bounds.{losses_rankable, pnls_read, same_tail}
use Rattle.cases.proofs.worst.Header.tail_of.Goals as goal

pub tail_of-requires : goal.tail_of-requires
tail_of-requires c = losses_rankable _ _ _ _ c.in_ok-losses-in-Losses.ensures.some c.args.self.tail_in c.args.self.few

pub pnl_tail-requires : goal.pnl_tail-requires
pnl_tail-requires c = record { small = pnls_read _ _ _ c.in_ok-pnls-in-Pnls.ensures.some c.args.self.few; tail_in = c.args.self.tail_in }

pub returns-in_ok-losses-in-Losses-clause-some : goal.returns-in_ok-losses-in-Losses-clause-some
returns-in_ok-losses-in-Losses-clause-some c =
    let read = c.in_ok-losses-in-Losses.ensures.some in
    rw c.in-Losses.is (same_tail _ _ _ _ _ _ _ read.count (λ i low. read.are i 0 low) c.tail_of.ensures)

pub returns-in_ok-pnls-in-Pnls-clause-some : goal.returns-in_ok-pnls-in-Pnls-clause-some
returns-in_ok-pnls-in-Pnls-clause-some c =
    let read = c.in_ok-pnls-in-Pnls.ensures.some in
    rw c.in-Pnls.is
    (same_tail _ _ _ _ _ _ _ read.count
    (λ i low. ap (λ (z : ℤ). loss (mode_number c.in-Pnls.mode) z) (read.are i (pos 0) low)) c.pnl_tail.ensures)
