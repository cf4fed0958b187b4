-- `tails::rows::Rows::row` meets its contract.
use mathlib.Core.Path.{refl}
use Rattle.tails.proofs.Sums.{own_row, own_in}
use Rattle.tails.proofs.rows.Rows.row.Goals as goal

pub invariant_of-result : goal.invariant_of-result
invariant_of-result g c = record {
  are = own_row _ _ _ _ c.args.self.now.are _ _ refl c.requires;
  exposure_in = own_in _ _ _ _ c.args.self.now.are _ _ refl c.requires;
}
