-- `reading::parameters::check_parameters` meets its contract. The form gives the length, the ranges the confidence; at each return the tests that led there say which finding the definition gives.
use mathlib.Core.Path.{sym}
use borrow.Author.Tests.{le-leb, lt-leb}
use Rattle.reading.specs.Parameters.{check_parameters}
use Rattle.reading.proofs.parameters.check_parameters.Goals as goal

pub returns-then-not-form : goal.returns-then-not-form
unfolding check_parameters
returns-then-not-form c = simp (sym c.form.ensures, c.if-not-form.true)

pub returns-then-not-in_ranges : goal.returns-then-not-in_ranges
unfolding check_parameters
returns-then-not-in_ranges c = simp (sym c.form.ensures, c.if-not-form.false, sym c.in_ranges.ensures, c.if-not-in_ranges.true)

pub returns-then-tail_count-gt16 : goal.returns-then-tail_count-gt16
unfolding check_parameters
returns-then-tail_count-gt16 c =
    simp (
      sym c.form.ensures,
      c.if-not-form.false,
      sym c.in_ranges.ensures,
      c.if-not-in_ranges.false,
      sym c.tail_count.ensures,
      lt-leb _ _ c.if-tail_count-gt16.true,
    )

pub returns : goal.returns
unfolding check_parameters
returns c =
    simp (
      sym c.form.ensures,
      c.if-not-form.false,
      sym c.in_ranges.ensures,
      c.if-not-in_ranges.false,
      sym c.tail_count.ensures,
      le-leb _ _ c.if-tail_count-gt16.false,
    )
