-- Contracts between functions: the part of a date that names its month. No definition or statement of another file here needs it.
use Rattle.std.specs.Prelude.{Bool, ◌&&◌}
use Rattle.calendar.specs.declared.Date.{Date}
use Rattle.numbers.specs.Conditions.{within}

-- the month is one of the 1,200
abbrev pub in_months : Date → Bool
in_months d = within 2000 2099 d.year && within 1 12 d.month
