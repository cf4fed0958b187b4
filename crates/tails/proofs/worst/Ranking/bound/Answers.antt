-- `tails::worst::Ranking::bound` meets its contract.
use borrow.Author.Tests.{lt-ltb, le-ltb}
use mathlib.Core.Path.{ap, sym}
use Rattle.std.proofs.Common.{◌+◌, ◌-◌, ℕ}
use Rattle.tails.specs.InnerContracts.{next_bound}
use Rattle.tails.proofs.Ranked.{loss_at}
use Rattle.tails.proofs.worst.Ranking.bound.Goals as goal

pub returns-then-self : goal.returns-then-self
unfolding next_bound
returns-then-self c = simp (lt-ltb _ _ c.if-self.true)

pub returns : goal.returns
unfolding next_bound
returns c = rw (le-ltb _ _ c.if-self.false) (ap (λ (x : ℕ). x + 1) (sym (loss_at c.args.self.now.worst (c.args.self.now.k - 1))))
