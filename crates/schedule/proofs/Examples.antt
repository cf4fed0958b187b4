-- The examples hold, by computation.
-- Assumes nothing.
use mathlib.Core.Path.{refl}
use Rattle.numbers.specs.Items.{sum_of}
use Rattle.numbers.specs.Rounding.{nearest}
use Rattle.numbers.specs.Little.{byte_of}
use Rattle.numbers.specs.Buffers.{table, filled}
use Rattle.calendar.specs.Months.{leap, days_in, first_day}
use Rattle.calendar.specs.Dates.{in_calendar, month_number, day_number, day_in}
use Rattle.schedule.specs.Terms.{coupon_day, due_after, coupon, principal}
use Rattle.schedule.specs.Flows.{falling, flow_dates, record_byte, flow_byte}
use Rattle.schedule.specs.Check.{check_dates, check_form}
use Rattle.schedule.specs.Drawn.{check_terms, outcome_to, buffer_after}
use Rattle.schedule.specs.Examples.{FlowExamples}

pub flow_examples : FlowExamples
unfolding sum_of nearest byte_of table filled leap days_in first_day in_calendar month_number day_number day_in coupon_day due_after coupon principal falling flow_dates record_byte flow_byte check_dates check_form check_terms outcome_to buffer_after
flow_examples =
    record {
      august_days = refl;
      august_amounts = refl;
      august_fits = refl;
      august_short = refl;
      august_before = refl;
      august_on = refl;
      leap_days = refl;
      leap_amounts = refl;
      half_up = refl;
      one_flow = refl;
      first_month = refl;
      most = refl;
      one_more = refl;
      no_such_day = refl;
      not_after = refl;
      frequency = refl;
      rate = refl;
    }
