-- `tails::put_list` meets its contract.
use Rattle.tails.proofs.Results.{copied}
use Rattle.tails.proofs.put_list.Goals as goal

pub returns : goal.returns
returns c = copied _ _ _ _ c.copy_from_slice.ensures.after
