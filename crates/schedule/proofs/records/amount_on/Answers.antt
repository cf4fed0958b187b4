-- `schedule::records::amount_on` meets its contract.
use mathlib.Core.Path.{sym, ap, ◌∙◌}
use native.Mathlib.Nat.{add-zero}
use Rattle.schedule.proofs.Counting.{principal_last, principal_before}
use Rattle.std.proofs.Common.{◌+◌, ℕ}
use Rattle.schedule.specs.Terms.{principal}
use Rattle.schedule.proofs.records.amount_on.Goals as goal

pub returns-then-j-eq0 : goal.returns-then-j-eq0
returns-then-j-eq0 c = ap (λ (o : ℕ). c.args.coupon + o) (sym (ap principal c.if-j-eq0.true ∙ principal_last))

pub returns-else-j-eq0 : goal.returns-else-j-eq0
returns-else-j-eq0 c = sym (ap (λ (o : ℕ). c.args.coupon + o) (principal_before c.args.j c.if-j-eq0.false) ∙ add-zero c.args.coupon)
