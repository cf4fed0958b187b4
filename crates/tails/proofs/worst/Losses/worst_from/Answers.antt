use native.Mathlib.Omega.{arith}
use mathlib.Core.Path.{refl, ◌∙◌}
use Rattle.std.proofs.Common.{◌-◌, ◌≡◌}
use Rattle.tails.proofs.Keeping.{keeping_bound, passing_start, passing_next}
use Rattle.tails.proofs.Ranked.{kept_next}
use Rattle.tails.proofs.worst.Losses.worst_from.Goals as goal

pub loop-i-init : goal.loop-i-init
loop-i-init c = (refl, passing_start _ _ _ c.requires.0 c.requires.1 c.next_from-i.ensures)

pub bound-requires : goal.bound-requires
bound-requires c =
    let same : c.keep.new.self.k ≡ c.args.k = c.keep.ensures.k_stays ∙ c.loop-i.invariant.0 in
    let counted = rw c.loop-i.invariant.0 at c.keep.ensures.counted in
    let kept = kept_next c.requires c.loop-i.invariant.1.kept (c.loop-i.invariant.1.next c.loop-i-test.true) _ _ counted c.keep.ensures.put in
    rw same
    (keeping_bound _ _ _ c.requires.0 c.requires.1 kept 100000000000000000
    (c.args.k - 1) (λ s low. c.args.self.now.loss_in s (omega (arith, low, c.loop-i-test.true))))

pub loop-i-preserved : goal.loop-i-preserved
loop-i-preserved c =
    let same : c.keep.new.self.k ≡ c.args.k = c.keep.ensures.k_stays ∙ c.loop-i.invariant.0 in
    let counted = rw c.loop-i.invariant.0 at c.keep.ensures.counted in
    let kept = kept_next c.requires c.loop-i.invariant.1.kept (c.loop-i.invariant.1.next c.loop-i-test.true) _ _ counted c.keep.ensures.put in
    let bound = rw same at c.bound.ensures in
    (same, passing_next _ _ _ c.requires.0 c.requires.1 kept (rw (← bound) c.next_from-i-in-loop-i.ensures))
