-- `tails::worst::worst_of` meets its contract: the least of the lanes' maxima is a floor that sixteen losses reach, or 0.
use mathlib.Core.Path.{refl, ap, ◌∙◌}
use lib.ListN.{drop}
use Rattle.tails.specs.Ranking.{tail_list}
use Rattle.tails.proofs.Lanes.{lanes_list}
use Rattle.std.proofs.Common.{◌≡◌, map, ◌-◌, length, take, get_or, ℕ, ◌%◌, List}
use Rattle.tails.specs.InnerContracts.{padded, ranked_from}
use Rattle.tails.proofs.worst.worst_of.Goals as goal

pub returns : goal.returns
returns c =
    let listed : take c.args.k (ranked_from (λ s. get_or c.args.losses.now s 0) c.least_maximum-floor.result (length c.args.losses.now)) ≡ tail_list (λ s. get_or c.args.losses.now s 0) (length c.args.losses.now) c.args.k =
    lanes_list c.args.losses.now
    (take (length c.args.losses.now - length c.args.losses.now % 16)
    (drop (length c.args.losses.now % 16) c.args.losses.now)) refl _ _
    c.requires.tail_in.1 c.least_maximum-floor.ensures in
    record {
      listed = c.worst_from.ensures.listed ∙ ap (padded 16) listed;
      kept = c.worst_from.ensures.kept
          ∙ ap (λ (s : List ℕ). padded 16 (map (λ i. get_or c.args.losses.now i 0) s)) listed;
    }
