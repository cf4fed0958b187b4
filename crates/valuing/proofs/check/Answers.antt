-- `valuing::check` meets its contract. Each place passed before the next is tested, so at each return the definition comes to the same place.
use mathlib.Core.Path.{sym, ap, ◌∙◌}
use Rattle.numbers.specs.Findings.{Passed}
use Rattle.numbers.proofs.Findings.{passed_on}
use Rattle.reading.specs.Book.{Market, market_of, positions_of}
use Rattle.std.proofs.Common.{◌≡◌}
use Rattle.valuing.specs.Check.{check_bond_flows, check_valued}
use Rattle.valuing.proofs.check.Goals as goal

pub returns-in_err-check : goal.returns-in_err-check
unfolding check_valued
returns-in_err-check c = passed_on _ _ c.from_residual.ensures.1 ∙ simp (sym c.in_err-check.ensures)

pub returns-in_err-check_bond_flows : goal.returns-in_err-check_bond_flows
unfolding check_valued
returns-in_err-check_bond_flows c =
    passed_on _ _ c.from_residual-in_err-check_bond_flows.ensures.1
    ∙ simp (sym c.in_ok-check.ensures, sym c.of-m.ensures, sym c.in_err-check_bond_flows.ensures)

pub returns : goal.returns
unfolding check_valued positions_of
returns c =
    let passed : Passed ≡ check_bond_flows (market_of c.args.book.now) = rw (← c.of-m.ensures) c.in_ok-check_bond_flows.ensures in
    simp (sym c.in_ok-check.ensures, sym passed)
    (rw (← ap (λ (m : Market). m.bonds) c.of-m.ensures, ← c.of.ensures.has) c.check_positions.ensures)
