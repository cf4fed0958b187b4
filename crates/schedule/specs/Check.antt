-- What is turned away: refusals 25 to 27, in this order, with item 0.
use Rattle.std.specs.Prelude.{ℕ, ◌*◌, Bool, ◌&&◌, ◌||◌, eqb, leb, ltb, if◌then◌else◌}
use Rattle.calendar.specs.declared.Date.{Date}
use Rattle.schedule.specs.declared.Terms.{Terms}
use Rattle.numbers.specs.Findings.{Finding, Passed, Refused}
use Rattle.calendar.specs.Dates.{in_calendar, day_number}

-- "25 a date outside the calendar; 26 maturity not after evaluation"
unfoldable pub check_dates : Date → Date → Finding
check_dates evaluation maturity =
    if in_calendar evaluation && in_calendar maturity
    then (if ltb (day_number evaluation) (day_number maturity) then Passed else Refused 26 0)
    else Refused 25 0

-- "frequency 1 or 2", and a rate of at most 1,000,000
abbrev pub in_form : Terms → Bool
in_form t = (eqb t.frequency 1 || eqb t.frequency 2) && leb t.rate 1000000

-- "27 frequency, a rate above 1,000,000, more than 120 flows or a short buffer": of terms that have so many flows, and a buffer of
-- so many bytes
unfoldable pub check_form : Terms → ℕ → ℕ → Finding
check_form t flows room = if in_form t && (leb flows 120 && leb (8 * flows) room) then Passed else Refused 27 0
