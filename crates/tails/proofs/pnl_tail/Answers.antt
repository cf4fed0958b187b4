-- `tails::pnl_tail` meets its contract.
use native.Mathlib.Omega.{arith}
use Rattle.tails.proofs.Losses.{loss_size}
use Rattle.tails.proofs.Results.{stored_rankable, stored_tail}
use Rattle.std.proofs.Common.{pos, get_or}
use Rattle.tails.specs.InnerContracts.{mode_number}
use Rattle.tails.proofs.pnl_tail.Goals as goal

pub tail_of-requires : goal.tail_of-requires
tail_of-requires c =
    stored_rankable _ _ _ _ c.requires.small.size_in c.losses.ensures _
    c.requires.tail_in c.requires.small.size_in
    (λ s low. omega (
      arith,
      loss_size (mode_number c.args.mode)
          (get_or c.args.pnls.now s (pos 0)),
      c.requires.small.pnl_in s low,
    ))

pub returns : goal.returns
returns c = stored_tail _ _ _ _ c.requires.small.size_in c.losses.ensures _ _ _ c.tail_of.ensures
