-- The examples hold, by computation.
-- Assumes nothing.
use mathlib.Core.Path.{refl}
use Rattle.numbers.specs.Items.{largest, every, sum_of}
use Rattle.numbers.specs.Rounding.{nearest}
use Rattle.numbers.specs.Little.{byte_of}
use Rattle.numbers.specs.Buffers.{table, filled}
use Rattle.calendar.specs.Months.{leap, days_in, first_day}
use Rattle.calendar.specs.Dates.{in_calendar, month_number, day_number, day_in}
use Rattle.schedule.specs.Terms.{coupon_day, due_after, coupon, principal}
use Rattle.schedule.specs.Flows.{falling, flow_dates, record_byte, flow_byte}
use Rattle.schedule.specs.Check.{check_dates, check_form}
use Rattle.linkers.specs.Numbers.{index_number, coupon_number}
use Rattle.linkers.specs.Coefficients.{largest_before, base, over, multiplied}
use Rattle.linkers.specs.Check.{check_linker_dates, check_prices, check_months, check_coupons, check_linker}
use Rattle.linkers.specs.Drawn.{outcome_to, buffer_after}
use Rattle.linkers.specs.Examples.{near_printed, LinkerExamples}

pub linker_examples : LinkerExamples
unfolding largest every sum_of nearest byte_of table filled leap days_in first_day in_calendar month_number day_number day_in coupon_day due_after coupon principal falling flow_dates record_byte flow_byte check_dates check_form index_number coupon_number largest_before base over multiplied check_linker_dates check_prices check_months check_coupons check_linker outcome_to buffer_after near_printed
linker_examples =
    record {
      april_2014 = refl;
      october_2014 = refl;
      first_coefficient = refl;
      numbers = refl;
      april_2019 = refl;
      coefficients = refl;
      other = refl;
      days = refl;
      amounts = refl;
      fits = refl;
      short = refl;
      before_issue = refl;
      days_before_issue = refl;
      half = refl;
      left_out = refl;
      left = refl;
      counted = refl;
      no_such_day = refl;
      issued_late = refl;
      frequency = refl;
      no_price = refl;
      high_price = refl;
      first_month = refl;
      from_april = refl;
      last_month = refl;
      to_may = refl;
      highest = refl;
      too_high = refl;
      paid_high = refl;
    }
