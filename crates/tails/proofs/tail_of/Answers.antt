-- `tails::tail_of` meets its contract.
use mathlib.Core.Path.{◌∙◌}
use Rattle.tails.proofs.Results.{kept_total, kept_fits, kept_numbers}
use Rattle.tails.proofs.tail_of.Goals as goal

pub sum_of-requires : goal.sum_of-requires
sum_of-requires c = kept_fits _ _ _ _ _ c.worst_of-worst.ensures c.requires.tail_in.1 c.requires.loss_in

pub list_of-requires : goal.list_of-requires
list_of-requires c = kept_numbers _ _ _ _ _ c.worst_of-worst.ensures c.requires.size_in

pub returns : goal.returns
returns c = record {
  total = c.sum_of.ensures ∙ kept_total _ _ _ _ _ c.worst_of-worst.ensures;
  listed = c.list_of.ensures ∙ c.worst_of-worst.ensures.listed;
}
