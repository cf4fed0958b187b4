-- Refusals 25 and 26, and 27 for frequency and rate: what the code's two checks of dates come to.
-- Assumes nothing.
use Rattle.std.specs.Prelude.{Result, Ok, Err, if◌then◌else◌}
use Prim.Native.Nat.{ℕ, ◌<◌}
use mathlib.Core.Bool.{true, false}
use mathlib.Core.Path.{◌≡◌, refl, ap, ◌∙◌}
use Rattle.calendar.specs.declared.Date.{Date}
use Rattle.calendar.specs.Dates.{in_calendar, day_number}
use Rattle.numbers.specs.declared.error.Refusal.{Refusal}
use Rattle.numbers.specs.Findings.{Finding, Passed, Refused}
use Rattle.numbers.specs.Items.{and_then}
use Rattle.numbers.proofs.Items.{both_passed}
use Rattle.reading.proofs.Forms.{passed_then}
use Rattle.schedule.specs.declared.dates.Bond.{Bond}
use Rattle.schedule.specs.Check.{check_dates, in_form}
use Rattle.schedule.specs.InnerContracts.{terms_of, Seen}
use Rattle.schedule.proofs.Bonds.{dated_of}
use Rattle.schedule.proofs.Drawing.{dates_passed, dates_pass}
use Rattle.linkers.specs.declared.Linker.{Linker}
use Rattle.linkers.specs.Check.{check_linker_dates}
use Rattle.linkers.specs.InnerContracts.{check_issued, Issued}

module _ (l : Linker) (evaluation : Date) where
  -- 25 of issue
  pub issue_refused : in_calendar l.issue ≡ false → check_issued l evaluation ≡ Refused 25 0
  unfolding check_linker_dates
  issue_refused f = rw f refl

  -- a refusal of the other two
  pub others_refused : in_calendar l.issue ≡ true → (number item : ℕ) → check_dates evaluation l.terms.maturity ≡ Refused number item
      → check_issued l evaluation ≡ Refused number item
  unfolding check_linker_dates
  others_refused known number item e = rw (known, e) refl

  -- where these pass, issue and maturity decide
  dates_left : in_calendar l.issue ≡ true → check_dates evaluation l.terms.maturity ≡ Passed
      → check_linker_dates l evaluation ≡ check_dates l.issue l.terms.maturity
  unfolding check_linker_dates
  dates_left known passed = rw (known, passed) refl

  pub issued_as : in_calendar l.issue ≡ true → check_dates evaluation l.terms.maturity ≡ Passed → (r : Result Bond Refusal)
      → Seen l.terms l.issue r → Issued l evaluation r
  issued_as known passed (Ok b) seen = (
    dates_left known passed ∙ rw (← seen.0, ← seen.1) (dates_pass (terms_of b) b.date (dated_of b)),
    seen.0,
    seen.1,
  )
  issued_as known passed (Err e) seen =
      ap (λ (v : Finding). and_then v (if in_form l.terms then Passed else Refused 27 0)) (dates_left known passed) ∙ seen

  -- ---- what a pass says

  pub linker_dates_passed : check_linker_dates l evaluation ≡ Passed
      → (in_calendar evaluation ≡ true) × (in_calendar l.issue ≡ true) × (in_calendar l.terms.maturity ≡ true)
      × (day_number evaluation < day_number l.terms.maturity) × (day_number l.issue < day_number l.terms.maturity)
  unfolding check_linker_dates
  linker_dates_passed e =
      let first = passed_then (in_calendar l.issue) _ 25 0 e in
      let both = both_passed (check_dates evaluation l.terms.maturity) (check_dates l.issue l.terms.maturity) first.1 in
      let other = dates_passed evaluation l.terms.maturity both.0 in
      (other.0, first.0, other.1, other.2, (dates_passed l.issue l.terms.maturity both.1).2)
