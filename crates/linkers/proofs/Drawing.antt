-- The ends of a call: each refusal, and the flows.
-- Assumes nothing.
use Rattle.std.specs.Prelude.{Ok, Err}
use Prim.Native.Nat.{ℕ, ◌*◌, ◌≤◌, max}
use mathlib.Core.Bool.{true, false, ◌&&◌, ◌||◌}
use mathlib.Core.List.{List, ◌++◌}
use mathlib.Core.Path.{◌≡◌, refl, sym, ap, ◌∙◌}
use lib.Dec.{leb, ltb}
use lib.ListN.{length, take, drop}
use Rattle.calendar.specs.declared.Date.{Date}
use Rattle.calendar.specs.Dates.{day_number}
use Rattle.numbers.specs.declared.error.Refusal.{Refusal as Reason}
use Rattle.numbers.specs.Findings.{Finding, Passed, Refused, number_of, item_of}
use Rattle.numbers.specs.Items.{and_then}
use Rattle.numbers.proofs.Items.{refused_not_passed}
use Rattle.numbers.proofs.Buffers.{filled_none, filled_copied}
use Rattle.schedule.specs.declared.Terms.{Terms}
use Rattle.schedule.specs.declared.dates.Bond.{Bond}
use Rattle.schedule.specs.Terms.{due_after}
use Rattle.schedule.specs.Flows.{flow_dates, flow_byte}
use Rattle.schedule.specs.Check.{in_form, check_form}
use Rattle.schedule.specs.Drawn.{days_to, amount_of, dates_of}
use Rattle.schedule.specs.InnerContracts.{terms_of, countdown}
use Rattle.schedule.proofs.Bonds.{dated_of, in_form_of}
use Rattle.schedule.proofs.FlowDates.{countdown_of}
use Rattle.schedule.proofs.Drawing.{still_refused, flows_refused, flows_pass}
use Rattle.linkers.specs.declared.Linker.{Linker}
use Rattle.linkers.specs.Coefficients.{indexed_amount}
use Rattle.linkers.specs.Check.{check_linker_dates, dates_before_indexing, check_prices, check_months, check_coupons, check_linker}
use Rattle.linkers.specs.Drawn.{indexed_dates, outcome_to, flows_in, buffer_after, Drawn}
use Rattle.linkers.specs.declared.indexed.Indexed.{Indexed}
use Rattle.linkers.specs.InnerContracts.{linker_with, linker_of, check_issued, check_index}
use Rattle.linkers.proofs.Months.{months_pass}

-- ---- what the code has stands for what it was handed

-- the bond that is issued is the one of the terms
linker_is : (b : Bond) (l : Linker) → terms_of b ≡ l.terms → b.date ≡ l.issue → linker_with b l.btp_italia ≡ l
linker_is b l terms date = rw (terms, date) refl

-- the flows before indexing, counted by the bond seen from the later date
dates_counted : (l : Linker) (evaluation : Date) (seen issued : Bond) (count : ℕ)
    → (terms_of seen ≡ terms_of issued) × (day_number seen.date ≡ max (day_number evaluation) (day_number issued.date))
    → terms_of issued ≡ l.terms → issued.date ≡ l.issue → dates_of (terms_of seen) seen.date ≡ countdown count
    → dates_before_indexing l evaluation ≡ countdown count
dates_counted l evaluation seen issued count same terms date is =
    let own : terms_of seen ≡ l.terms = same.0 ∙ terms in
    let after : day_number seen.date ≡ max (day_number evaluation) (day_number l.issue) =
    same.1 ∙ ap (λ (x : Date). max (day_number evaluation) (day_number x)) date in
    ap (λ (a : ℕ). flow_dates (due_after l.terms a) (amount_of l.terms)) (sym after)
    ∙ (ap (λ (t : Terms). flow_dates (due_after t (day_number seen.date)) (amount_of t)) (sym own) ∙ is)

-- ---- findings in a row

-- a refusal of the first of two stays one where more follows
still_before : (v w rest : Finding) (number item : ℕ) → and_then v w ≡ Refused number item → and_then v (and_then w rest) ≡ Refused number item
still_before (Refused n i) w rest number item e = e
still_before Passed (Refused n i) rest number item e = e
still_before Passed Passed rest number item e = absurd (refused_not_passed (sym e))

module _ (l : Linker) (evaluation : Date) (prices : List ℕ) where
  -- ---- refusals

  pub refusal_drawn : (old : List ℕ) (refusal : Reason) → check_linker l evaluation prices (length old) ≡ Refused (number_of refusal) (item_of refusal)
      → Drawn l evaluation prices old (Err refusal) old
  unfolding outcome_to buffer_after
  refusal_drawn old refusal e =
      record {
        answered = rw e refl;
        left = rw e (sym (filled_none (flow_byte (days_to l.terms evaluation) (indexed_amount l prices) (indexed_dates l evaluation prices)) old));
      }

  -- 25 and 26, and 27 for frequency and rate
  pub issued_refused : (room number item : ℕ) → check_issued l evaluation ≡ Refused number item → check_linker l evaluation prices room ≡ Refused number item
  unfolding check_linker check_form
  issued_refused room number item e =
      still_before (check_linker_dates l evaluation) _ _ number item
      (still_refused (check_linker_dates l evaluation) (in_form l.terms)
      (leb (length (dates_before_indexing l evaluation)) 120 && leb (8 * length (dates_before_indexing l evaluation)) room) number item e)

  module _ (passed : check_linker_dates l evaluation ≡ Passed) (room count : ℕ) (is : dates_before_indexing l evaluation ≡ countdown count) where
    -- 27: too many flows before indexing, or a short buffer
    room_refused : ltb 120 count || ltb room (8 * count) ≡ true → check_linker l evaluation prices room ≡ Refused 27 0
    unfolding check_linker
    room_refused which = rw (passed, countdown_of count (dates_before_indexing l evaluation) is, flows_refused l.terms count room which) refl

    module _ (formed : in_form l.terms ≡ true) (enough : ltb 120 count || ltb room (8 * count) ≡ false) where
      form_passed : check_form l.terms (length (dates_before_indexing l evaluation)) room ≡ Passed
      form_passed = rw (countdown_of count (dates_before_indexing l evaluation) is) (flows_pass l.terms count room formed enough)

      -- 28 and 29
      index_refused : (number item : ℕ) → check_index l prices ≡ Refused number item → check_linker l evaluation prices room ≡ Refused number item
      unfolding check_linker
      index_refused number item e =
          rw (passed, form_passed) (still_before (check_prices prices) (check_months l prices) (check_coupons l evaluation prices) number item e)

      module _ (priced : check_prices prices ≡ Passed) (lent : check_months l prices ≡ Passed) where
        -- 30
        coupons_refused : check_coupons l evaluation prices ≡ Refused 30 0 → check_linker l evaluation prices room ≡ Refused 30 0
        unfolding check_linker
        coupons_refused e = rw (passed, form_passed, priced, lent, e) refl

        linker_passed : check_coupons l evaluation prices ≡ Passed → check_linker l evaluation prices room ≡ Passed
        unfolding check_linker
        linker_passed e = rw (passed, form_passed, priced, lent, e) refl

  -- ---- the flows

  -- what is put into bytes that stand apart, and what is copied of them
  flows_copied : (n : ℕ) (apart put old : List ℕ) → put ≡ flows_in l evaluation prices n apart
      → take (8 * n) put ++ drop (8 * n) old ≡ flows_in l evaluation prices n old
  flows_copied n apart put old is =
      ap (λ (p : List ℕ). take (8 * n) p ++ drop (8 * n) old) is
      ∙ filled_copied (flow_byte (days_to l.terms evaluation) (indexed_amount l prices) (indexed_dates l evaluation prices)) (8 * n) apart old

  flows_drawn : (old new : List ℕ) (n : ℕ) → check_linker l evaluation prices (length old) ≡ Passed
      → n ≡ length (indexed_dates l evaluation prices) → new ≡ flows_in l evaluation prices n old → Drawn l evaluation prices old (Ok n) new
  unfolding outcome_to buffer_after
  flows_drawn old new n passed is put = record { answered = rw (passed, is) refl; left = put ∙ rw (passed, is) refl }

-- ---- by the bond that is issued, the one seen from the later date, which counts the flows before indexing, and the one with prices

module _ (l : Linker) (evaluation : Date) (prices : List ℕ) (issued seen : Bond)
    (known : (check_linker_dates l evaluation ≡ Passed) × (terms_of issued ≡ l.terms) × (issued.date ≡ l.issue))
    (same : (terms_of seen ≡ terms_of issued) × (day_number seen.date ≡ max (day_number evaluation) (day_number issued.date)))
    (room count : ℕ) (counted : dates_of (terms_of seen) seen.date ≡ countdown count) where
  is : dates_before_indexing l evaluation ≡ countdown count
  is = dates_counted l evaluation seen issued count same known.1 known.2 counted

  pub count_refused : ltb 120 count || ltb room (8 * count) ≡ true → check_linker l evaluation prices room ≡ Refused 27 0
  count_refused which = room_refused l evaluation prices known.0 room count is which

  module _ (enough : ltb 120 count || ltb room (8 * count) ≡ false) where
    formed : in_form l.terms ≡ true
    formed = rw (← known.1) (in_form_of issued)

    pub bond_refused : (number item : ℕ) → check_index (linker_with issued l.btp_italia) prices ≡ Refused number item
        → check_linker l evaluation prices room ≡ Refused number item
    bond_refused number item e =
        index_refused l evaluation prices known.0 room count is formed enough number item (rw (linker_is issued l known.1 known.2) at e)

    module _ (x : Indexed) (has : (linker_of x ≡ linker_with issued l.btp_italia) × (x.prices.now ≡ prices)) where
      own : linker_of x ≡ l
      own = has.0 ∙ linker_is issued l known.1 known.2

      priced : check_prices prices ≡ Passed
      priced = rw (← has.1) x.sound

      lent : check_months l prices ≡ Passed
      lent = rw (← own, ← has.1) (months_pass (linker_of x) (dated_of x.issued) x.prices.now x.first x.last)

      pub coupon_refused : check_coupons (linker_of x) evaluation x.prices.now ≡ Refused 30 0 → check_linker l evaluation prices room ≡ Refused 30 0
      coupon_refused e = coupons_refused l evaluation prices known.0 room count is formed enough priced lent (rw (← own, ← has.1) e)

      pub all_drawn : (n : ℕ) (apart put old new : List ℕ) → length old ≡ room
          → (check_coupons (linker_of x) evaluation x.prices.now ≡ Passed) × (n ≡ length (indexed_dates (linker_of x) evaluation x.prices.now))
          × (n ≤ count) × (put ≡ flows_in (linker_of x) evaluation x.prices.now n apart)
          → new ≡ take (8 * n) put ++ drop (8 * n) old → Drawn l evaluation prices old (Ok n) new
      all_drawn n apart put old new size w e =
          flows_drawn l evaluation prices old new n
          (rw size (linker_passed l evaluation prices known.0 room count is formed enough priced lent (rw (← own, ← has.1) w.0)))
          (rw (← own, ← has.1) w.1)
          (e ∙ flows_copied l evaluation prices n apart put old (rw (← own, ← has.1) w.3))
