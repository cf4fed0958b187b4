-- `timing::tails_of` meets its contract.
use mathlib.Core.Path.{sym, ◌∙◌}
use Rattle.tails.specs.InnerContracts.{Rankable}
use Rattle.timing.proofs.Taking.{rank_taken}
use Rattle.std.proofs.Common.{◌≡◌, ◌≤◌, length, true}
use Rattle.timing.specs.InnerContracts.{rankable}
use mathlib.Core.Path.{◌∙◌}
use native.Mathlib.Omega.{arith}
use lib.Seq.{length-take-le}
use Rattle.std.proofs.Common.{rules}
use Rattle.timing.proofs.Lists.{put_first}
use Rattle.timing.proofs.tails_of.Goals as goal

pub tail_of-tail-requires : goal.tail_of-tail-requires
tail_of-tail-requires c =
    let taken : rankable c.args.losses.now c.args.k (length c.args.list.now) ≡ true =
    sym c.can_rank.ensures ∙ c.if-not-can_rank.false in
    let good : Rankable c.args.losses.now c.args.k × (c.args.k ≤ length c.args.list.now) =
    rank_taken _ _ _ taken in
    good.0

pub returns-clause-list_after : goal.returns-clause-list_after
returns-clause-list_after c =
    let taken : rankable c.args.losses.now c.args.k (length c.args.list.now) ≡ true =
    sym c.can_rank.ensures ∙ c.if-not-can_rank.false in
    let good : Rankable c.args.losses.now c.args.k × (c.args.k ≤ length c.args.list.now) =
    rank_taken _ _ _ taken in
    (c.put_list.ensures
    ∙ put_first _ 16 _ _ _ c.tail_of-tail.ensures.listed (sym (length-take-le _ c.tail_of-tail.result.list (omega (arith, good.0.tail_in.1)))))
    ∙ simp taken

-- These stand here so that a wrong answer is refused for itself where `can_rank` is not proved either
-- (must-fail/calls_of_the_benchmarks.edit, must-fail/calls_that_refuse.edit).
pub returns-then-not-can_rank-clause-value : goal.returns-then-not-can_rank-clause-value
returns-then-not-can_rank-clause-value c = search rules

pub returns-clause-value : goal.returns-clause-value
returns-clause-value c = search rules
