-- What a bond of the code keeps, as a fact of its terms and its date.
-- Assumes nothing.
use mathlib.Core.Bool.{true}
use mathlib.Core.Path.{◌≡◌}
use borrow.Author.Tests.{le-leb}
use Rattle.schedule.specs.declared.coupons.Frequency.TheVariants.{Yearly, HalfYearly}
use Rattle.schedule.specs.declared.dates.Bond.{Bond}
use Rattle.schedule.specs.Check.{in_form}
use Rattle.schedule.specs.InnerContracts.{coupons_a_year, terms_of, Dated}

pub in_form_of : (b : Bond) → in_form (terms_of b) ≡ true
in_form_of b = elim b.frequency as (λ f. in_form (record (terms_of b) { frequency = coupons_a_year f }) ≡ true) [ Yearly ↦ le-leb b.rate 1000000 b.rated | HalfYearly ↦ le-leb b.rate 1000000 b.rated ]

pub dated_of : (b : Bond) → Dated (terms_of b) b.date
dated_of b = record { formed = in_form_of b; matures = b.matures; known = b.known; before = b.before }
