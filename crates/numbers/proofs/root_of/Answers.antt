-- `numbers::root_of` meets its contract. What the improvement and the comparison leave is the root.
use mathlib.Core.Path.{sym, ◌∙◌, subst}
use native.Mathlib.Omega.{arith}
use Rattle.std.proofs.Common.{ℕ}
use Rattle.numbers.specs.Root.{IsRoot}
use Rattle.numbers.proofs.Roots.{root_is}
use Rattle.numbers.proofs.Improvements.{settled_after_one}
use Rattle.numbers.proofs.root_of.Goals as goal

pub returns-else-n-eq0 : goal.returns-else-n-eq0
returns-else-n-eq0 c =
    let n : ℕ = c.args.n in
    subst (λ (r : ℕ). IsRoot n r) (sym (c.improved_root.ensures ∙ (settled_after_one n (omega (arith, c.if-n-eq0.false)) c.ranges.n.fits).left)) (root_is n)
