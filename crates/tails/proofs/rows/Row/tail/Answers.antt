-- `tails::rows::Row::tail` meets its contract.
use mathlib.Core.Path.{◌∙◌}
use Rattle.tails.specs.InnerContracts.{mode_number}
use Rattle.tails.proofs.Sums.{alone_bound}
use Rattle.tails.proofs.Results.{stored_rankable, stored_tail}
use Rattle.tails.proofs.rows.Row.tail.Goals as goal

pub tail_of-worst-requires : goal.tail_of-worst-requires
tail_of-worst-requires g c =
    stored_rankable _ _ _ _ c.args.self.now.are.size_in c.losses.ensures _ c.requires c.args.self.now.are.size_in
    (λ s low. alone_bound _ _ c.args.self.now.are _ c.args.self.now.exposure_in (mode_number c.args.mode) s low)

pub returns : goal.returns
returns g c = c.of.ensures ∙ (stored_tail _ _ _ _ c.args.self.now.are.size_in c.losses.ensures _ _ _ c.tail_of-worst.ensures).total
