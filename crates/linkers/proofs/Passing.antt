-- The pass over an inflation bond's dates, from the oldest on: what its loop keeps, and what it comes to.
-- Assumes nothing.
use Rattle.std.specs.Prelude.{MatchBool, if◌then◌else◌}
use Prim.Native.Nat.{ℕ, suc, ◌+◌, ◌-◌, ◌*◌, ◌≤◌, ◌<◌, min, max}
use mathlib.Core.Bool.{Bool, true, false, not, ◌&&◌, ◌||◌}
use mathlib.Core.List.{List}
use mathlib.Core.Path.{◌≡◌, refl, sym, ap, ◌∙◌}
use native.Mathlib.Numerals.{add-one}
use native.Mathlib.Omega.{arith}
use borrow.Author.Tests.{ltb-true, ltb-false, lt-ltb, le-ltb, le-leb, lt-leb, leb-true, leb-false, eqb-true, eqb-false}
use lib.Dec.{leb, ltb, eqb}
use lib.ListN.{length}
use Rattle.calendar.specs.declared.Date.{Date}
use Rattle.calendar.specs.Dates.{month_number, day_number, day_in}
use Rattle.calendar.specs.Months.{month_days}
use Rattle.numbers.specs.Conditions.{In}
use Rattle.numbers.specs.Findings.{Passed, Refused}
use Rattle.numbers.specs.Buffers.{placed}
use Rattle.numbers.proofs.Items.{by_test, both, every_all, every_bad, and_false}
use Rattle.numbers.proofs.Buffers.{filled_none, filled-length}
use Rattle.schedule.specs.Terms.{months_apart, coupon_month, coupon, coupon_day, principal}
use Rattle.schedule.specs.Flows.{record_byte, flow_dates, flow_byte}
use Rattle.schedule.specs.Drawn.{days_to, amount_of}
use Rattle.schedule.specs.InnerContracts.{Dated, DueBelow}
use Rattle.schedule.proofs.CouponDates.{due_parts, due_is, due_near}
use Rattle.schedule.proofs.FlowDates.{falling_fewer, flows_count, flows_only}
use Rattle.schedule.proofs.FlowBytes.{record_next}
use Rattle.schedule.proofs.Fallen.{FallenTo, fallen_none, fallen_takes, fallen_skips, fallen_all}
use Rattle.linkers.specs.declared.Linker.{Linker}
use Rattle.linkers.specs.Numbers.{index_number, issue_number, coupon_number, bears_coupon}
use Rattle.linkers.specs.Coefficients.{base, over, multiplied, indexed_coupon, indexed_amount}
use Rattle.linkers.specs.Check.{due_on, dates_before_indexing, check_coupons}
use Rattle.linkers.specs.Drawn.{indexed_dates, flows_in}
use Rattle.linkers.specs.InnerContracts.{CountedBefore, DatesOver}
use Rattle.linkers.proofs.Months.{bearing_month}
use Rattle.linkers.proofs.Coefficients.{nothing_multiplied, base_other, base_oldest, base_next}

-- ---- dates

-- date j has a flow after indexing
abbrev pub has_flow : Linker → Date → List ℕ → ℕ → Bool
has_flow l evaluation prices j = due_on l evaluation j && ltb 0 (indexed_amount l prices j)

-- its coupon is no reason for 30
abbrev pub coupon_fits : Linker → Date → List ℕ → ℕ → Bool
coupon_fits l evaluation prices j = not (due_on l evaluation j) || leb (indexed_coupon l prices j) 10000000

module _ (l : Linker) (d : Dated l.terms l.issue) (evaluation : Date) where
  -- a date after both evaluation and issue bears a coupon
  pub due_bears : (j : ℕ) → due_on l evaluation j ≡ true → bears_coupon l j ≡ true
  due_bears j due =
      let w = due_parts l.terms (max (day_number evaluation) (day_number l.issue)) j due in
      due_is l.terms (day_number l.issue) j w.0 ∙ lt-ltb (day_number l.issue) (coupon_day l.terms j) (omega (arith, w.1))

  -- and lies after evaluation
  pub due_later : (j : ℕ) → due_on l evaluation j ≡ true → day_number evaluation < coupon_day l.terms j
  due_later j due = omega (arith, (due_parts l.terms (max (day_number evaluation) (day_number l.issue)) j due).1)

  module _ (prices : List ℕ) where
    -- without a flow before indexing there is none after
    pub nothing_indexed : (j : ℕ) → amount_of l.terms j ≡ 0 → (indexed_coupon l prices j ≡ 0) × (indexed_amount l prices j ≡ 0)
    nothing_indexed j none =
        let coupons : coupon l.terms ≡ 0 = omega (arith, none) in
        let indexed : indexed_coupon l prices j ≡ 0 = rw coupons (nothing_multiplied (over (coupon_number l prices j) (base l prices j))) in
        (indexed, omega (arith, indexed, none))

    -- so that there are no more flows after than before
    pub indexed_fewer : length (indexed_dates l evaluation prices) ≤ length (dates_before_indexing l evaluation)
    unfolding flow_dates
    indexed_fewer =
        falling_fewer (has_flow l evaluation prices) (λ j. due_on l evaluation j && ltb 0 (amount_of l.terms j))
        (λ j t.
        let w = both (due_on l evaluation j) (ltb 0 (indexed_amount l prices j)) t in
        by_test (ltb 0 (amount_of l.terms j))
        (λ some. rw (w.0, some) refl)
        (λ none.
        absurd (omega (arith, ltb-true 0 (indexed_amount l prices j) w.1, (nothing_indexed j (omega (arith, ltb-false 0 (amount_of l.terms j) none))).1))))
        1200

    module _ (count room : ℕ) (known : CountedBefore l evaluation count room) where
      -- the dates of the flows before indexing are due
      pub counted_on : (j : ℕ) → j < count → due_on l evaluation j ≡ true
      counted_on j low =
          (both (due_on l evaluation j) (ltb 0 (amount_of l.terms j)) (flows_count (due_on l evaluation) (amount_of l.terms) count known.dates j low)).0

      -- any other that is due pays nothing
      uncounted : (j : ℕ) → count ≤ j → due_on l evaluation j ≡ true → amount_of l.terms j ≡ 0
      uncounted j high due =
          by_test (ltb 0 (amount_of l.terms j))
          (λ t.
          let near = due_near l.terms (max (day_number evaluation) (day_number l.issue)) j d.formed d.matures due in
          absurd (omega (arith, high, flows_only (due_on l evaluation) (amount_of l.terms) count known.dates j near (rw (due, t) refl))))
          (λ f. omega (arith, ltb-false 0 (amount_of l.terms j) f))

      pub uncounted_coupon : (j : ℕ) → count ≤ j → due_on l evaluation j ≡ true → indexed_coupon l prices j ≡ 0
      uncounted_coupon j high due = (nothing_indexed j (uncounted j high due)).0

      pub uncounted_flow : (j : ℕ) → count ≤ j → due_on l evaluation j && ltb 0 (indexed_amount l prices j) ≡ false
      uncounted_flow j high =
          by_test (due_on l evaluation j)
          (λ due. rw (le-ltb 0 (indexed_amount l prices j) (omega (arith, (nothing_indexed j (uncounted j high due)).1))) (and_false (due_on l evaluation j)))
          (λ f. rw f refl)

-- ---- the dates of the pass

-- those below a place: all with flows before indexing are among them, and each bears a coupon. The oldest's number is divided by the issue's
pub record Pass (l : Linker) (evaluation : Date) (prices : List ℕ) (count dates : ℕ) : Type 0 where
  pub more : count ≤ dates
  pub near : dates ≤ 1200
  pub bearing : (j : ℕ) → j < dates → bears_coupon l j ≡ true
  pub oldest : (j : ℕ) → suc j ≡ dates → base l prices j ≡ issue_number l prices

module _ (l : Linker) (d : Dated l.terms l.issue) (evaluation : Date) (prices : List ℕ) (count room : ℕ) (known : CountedBefore l evaluation count room) where
  -- of a BTP Italia all that bear a coupon
  pass_all_dates : (dates : ℕ) → DueBelow l.terms (day_number l.issue) dates → Pass l evaluation prices count dates
  pass_all_dates dates below =
      record {
        more =
            by_test (leb count dates)
            (λ t. leb-true count dates t)
            (λ f.
            let some = leb-false count dates f in
            let bears = due_bears l d evaluation dates (counted_on l d evaluation prices count room known dates some) in
            absurd (omega (arith, ltb-true dates dates (sym (below.due dates) ∙ bears))));
        near = omega (arith, below.most);
        bearing = λ j low. below.due j ∙ lt-ltb j dates low;
        oldest = λ j last. base_oldest l prices d.formed d.matures j (λ i past. below.due i ∙ le-ltb i dates (omega arith));
      }

  -- of others those with flows
  pass_unpaid_dates : l.btp_italia ≡ false → Pass l evaluation prices count count
  pass_unpaid_dates other =
      record {
        more = omega arith;
        near = omega (arith, known.most);
        bearing = λ j low. due_bears l d evaluation j (counted_on l d evaluation prices count room known j low);
        oldest = λ j last. base_other l prices d.formed d.matures other j;
      }

  pub pass_dates : (dates : ℕ) → DatesOver l count dates → Pass l evaluation prices count dates
  pass_dates dates over = by_kind l.btp_italia refl over
    where
      by_kind : (italia : Bool) → l.btp_italia ≡ italia → MatchBool italia (DueBelow l.terms (day_number l.issue) dates) (dates ≡ count)
          → Pass l evaluation prices count dates
      by_kind true t below = pass_all_dates dates below
      by_kind false f same = rw same (pass_unpaid_dates f)

-- ---- what the loop keeps: r of the dates are past, and so many flows are put; the next number is divided by `by`

pub record PassedTo (l : Linker) (evaluation : Date) (prices : List ℕ) (count dates : ℕ) (old : List ℕ) (r written by : ℕ) (held : List ℕ) : Type 0 where
  pub pass : Pass l evaluation prices count dates
  pub bound : r ≤ dates
  pub by_in : In 10 100000000 by
  pub by_is : (j : ℕ) → suc j + r ≡ dates → by ≡ base l prices j
  pub fit : (j : ℕ) → dates ≤ j + r → due_on l evaluation j ≡ true → indexed_coupon l prices j ≤ 10000000
  pub few : written + min count (dates - r) ≤ count
  pub fallen : FallenTo (has_flow l evaluation prices) 1200 written (dates - r)
  pub is : held ≡ flows_in l evaluation prices written old

module _ (l : Linker) (d : Dated l.terms l.issue) (evaluation : Date) (prices : List ℕ) (count dates : ℕ) (old : List ℕ)
    (known : CountedBefore l evaluation count (length old)) where
  -- none is past
  pub passed_none : Pass l evaluation prices count dates → (by : ℕ) → (by ≡ issue_number l prices) × In 10 100000000 by → PassedTo l evaluation prices count dates old 0 0 by old
  unfolding flow_dates
  passed_none pass by first =
      record {
        pass = pass;
        bound = omega arith;
        by_in = first.1;
        by_is = λ j last. first.0 ∙ sym (pass.oldest j (omega (arith, last)));
        fit = λ j high due. omega (arith, uncounted_coupon l d evaluation prices count (length old) known j (omega (arith, high, pass.more)) due);
        few = omega (arith, pass.more);
        fallen =
            (let all : dates - 0 ≡ dates = omega arith in
            rw all
            (fallen_none (has_flow l evaluation prices) 1200 dates pass.near
            (λ j high. uncounted_flow l d evaluation prices count (length old) known j (omega (arith, high, pass.more)))));
        is = sym (filled_none (flow_byte (days_to l.terms evaluation) (indexed_amount l prices) (indexed_dates l evaluation prices)) old);
      }

  module _ (r written by : ℕ) (held : List ℕ) (so : PassedTo l evaluation prices count dates old r written by held) where
    -- the buffer's length stays
    pub passed-length : length held ≡ length old
    passed-length =
        ap length so.is
        ∙ filled-length (flow_byte (days_to l.terms evaluation) (indexed_amount l prices) (indexed_dates l evaluation prices)) (8 * written) old
        (omega (arith, so.few, known.fits))

    -- date j is the next
    module _ (j : ℕ) (next : suc j + r ≡ dates) where
      -- there is room for its flow
      pub passed_room : j < count → 8 * written + 8 ≤ length held
      passed_room low = omega (arith, passed-length, so.few, known.fits, next)

      module _ (number : ℕ) (own : number ≡ coupon_number l prices j) where
        -- its coupon, indexed
        own_coupon : multiplied (coupon l.terms) (over number by) ≡ indexed_coupon l prices j
        own_coupon = rw (own, so.by_is j next) refl

        -- what the one after it is divided by
        next_by : (by' : ℕ) → by' ≡ (if l.btp_italia then max by number else by) → (i : ℕ) → suc i ≡ j → by' ≡ base l prices i
        next_by by' e i after =
            let here : by ≡ base l prices (suc i) = so.by_is j next ∙ ap (base l prices) (sym after) in
            let mine : number ≡ coupon_number l prices (suc i) = own ∙ ap (coupon_number l prices) (sym after) in
            e ∙ (rw (here, mine) (sym (base_next l prices d.formed d.matures i (so.pass.bearing (suc i) (omega (arith, next, after))))))

        next_in : (by' : ℕ) → by' ≡ (if l.btp_italia then max by number else by) → In 10 100000000 number → In 10 100000000 by'
        next_in by' e bound =
            by_test l.btp_italia
            (λ t. let is : by' ≡ max by number = e ∙ ap (λ (b : Bool). if b then max by number else by) t in (omega (arith, is, so.by_in.0), omega (arith, is, so.by_in.1, bound.1)))
            (λ f. let is : by' ≡ by = e ∙ ap (λ (b : Bool). if b then max by number else by) f in rw is so.by_in)

        module _ (by' : ℕ) (e : by' ≡ (if l.btp_italia then max by number else by)) (bound : In 10 100000000 number) where
          -- with these flows it is past
          past : (written' : ℕ) (held' : List ℕ) → (due_on l evaluation j ≡ true → indexed_coupon l prices j ≤ 10000000)
              → written' + min count j ≤ count → FallenTo (has_flow l evaluation prices) 1200 written' j
              → held' ≡ flows_in l evaluation prices written' old → PassedTo l evaluation prices count dates old (r + 1) written' by' held'
          past written' held' mine few fallen is =
              let left : dates - (r + 1) ≡ j = omega (arith, next) in
              record {
                pass = so.pass;
                bound = omega (arith, next);
                by_in = next_in by' e bound;
                by_is = λ i after. next_by by' e i (omega (arith, next, after));
                fit =
                    λ i high due. by_test (eqb i j)
                    (λ same. let here = eqb-true i j same in rw here (mine (rw here at due)))
                    (λ other. so.fit i (omega (arith, next, high, eqb-false i j other)) due);
                few = rw left few;
                fallen = rw left fallen;
                is = is;
              }

          left_before : FallenTo (has_flow l evaluation prices) 1200 written (suc j)
          left_before = let left : suc j ≡ dates - r = omega (arith, next) in rw left so.fallen

          -- it has no flow, since it is paid, or its coupon is 0 and it is not the last
          pub passed_over : count ≤ j → PassedTo l evaluation prices count dates old (r + 1) written by' held
          passed_over high =
              past written held
              (λ due. omega (arith, uncounted_coupon l d evaluation prices count (length old) known j high due))
              (omega (arith, so.few, next, high))
              (fallen_skips (has_flow l evaluation prices) 1200 written j left_before (uncounted_flow l d evaluation prices count (length old) known j high))
              so.is

          module _ (low : j < count) (indexed : ℕ) (multiply : (indexed ≡ multiplied (coupon l.terms) (over number by)) × (indexed ≤ 10000000)) (amount : ℕ) (pays : amount ≡ indexed + principal j) where
            own_amount : amount ≡ indexed_amount l prices j
            own_amount = omega (arith, pays, multiply.0, own_coupon)

            own_limit : indexed_coupon l prices j ≤ 10000000
            own_limit = omega (arith, multiply.0, multiply.1, own_coupon)

            -- its flow is put, or it pays nothing
            put_one : (days : ℕ) (held' : List ℕ) → days ≡ days_to l.terms evaluation j → 0 < amount
                → held' ≡ placed (record_byte days amount) (8 * written) 8 held → PassedTo l evaluation prices count dates old (r + 1) (written + 1) by' held'
            unfolding flow_dates
            put_one days held' on some put =
                let holds : due_on l evaluation j && ltb 0 (indexed_amount l prices j) ≡ true =
                rw (counted_on l d evaluation prices count (length old) known j low) (lt-ltb 0 (indexed_amount l prices j) (omega (arith, own_amount, some))) in
                let w = fallen_takes (has_flow l evaluation prices) 1200 written j left_before holds in
                past (written + 1) held' (λ due. own_limit) (omega (arith, so.few, next, low))
                (rw (add-one written) w.1)
                (record_next (days_to l.terms evaluation) (indexed_amount l prices) (indexed_dates l evaluation prices) written days amount old held held' so.is
                (omega (arith, so.few, known.fits, next, low)) put (rw w.0 on) (rw w.0 own_amount))

            put_nothing : amount ≡ 0 → PassedTo l evaluation prices count dates old (r + 1) written by' held
            put_nothing none =
                past written held (λ due. own_limit) (omega (arith, so.few, next, low))
                (fallen_skips (has_flow l evaluation prices) 1200 written j left_before
                (rw (le-ltb 0 (indexed_amount l prices j) (omega (arith, own_amount, none))) (and_false (due_on l evaluation j))))
                so.is

            pub passed_put : (days : ℕ) → days ≡ days_to l.terms evaluation j → (written' : ℕ) → written' ≡ (if ltb 0 amount then written + 1 else written)
                → (held' : List ℕ) → held' ≡ (if ltb 0 amount then placed (record_byte days amount) (8 * written) 8 held else held)
                → PassedTo l evaluation prices count dates old (r + 1) written' by' held'
            passed_put days on written' w held' h =
                by_test (ltb 0 amount)
                (λ t. rw (w, t) (put_one days held' on (ltb-true 0 amount t) (h ∙ rw t refl)))
                (λ f. rw (w, h, f) (put_nothing (omega (arith, ltb-false 0 amount f))))

        -- ---- the ends

        -- 30
        pub passed_refused : j < count → 10000000 < multiplied (coupon l.terms) (over number by) → check_coupons l evaluation prices ≡ Refused 30 0
        unfolding check_coupons
        passed_refused low high =
            rw
            (every_bad (coupon_fits l evaluation prices) 1200 j (omega (arith, low, known.most))
            (rw (counted_on l d evaluation prices count (length old) known j low, lt-leb (indexed_coupon l prices j) 10000000 (omega (arith, own_coupon, high))) refl))
            refl

    -- all are past
    pub passed_all : dates ≤ r → (check_coupons l evaluation prices ≡ Passed) × (written ≡ length (indexed_dates l evaluation prices)) × (written ≤ count) × (held ≡ flows_in l evaluation prices written old)
    unfolding check_coupons flow_dates
    passed_all high =
        let left : 0 ≡ dates - r = omega (arith, high) in (
          rw
              (every_all (coupon_fits l evaluation prices) 1200
              (λ i low. by_test (due_on l evaluation i)
              (λ t. rw (t, le-leb (indexed_coupon l prices i) 10000000 (so.fit i (omega (arith, high)) t)) refl)
              (λ f. rw f refl)))
              refl,
          fallen_all (has_flow l evaluation prices) 1200 written (rw left so.fallen),
          omega (arith, so.few),
          so.is,
        )

-- ---- one date of the pass, with what was read of the terms as plain numbers

module _ (l : Linker) (d : Dated l.terms l.issue) (evaluation : Date) (prices : List ℕ) (count dates : ℕ) (pass : Pass l evaluation prices count dates)
    (last apart : ℕ) (a : last ≡ month_number l.terms.maturity) (b : apart ≡ months_apart l.terms) (j : ℕ) (low : j < dates) where
  pub back_fits : j * apart ≤ last
  back_fits = rw (a, b) (due_parts l.terms (day_number l.issue) j (pass.bearing j low)).0

  module _ (month : ℕ) (m : month ≡ last - j * apart) where
    month_is : month ≡ coupon_month l.terms j
    month_is = m ∙ rw (a, b) refl

    -- it needs no month but those that are lent
    pub month_held : 3 ≤ month_number l.issue → In 3 (month_number l.terms.maturity) month
    month_held early =
        let w = bearing_month l d j (pass.bearing j low) in
        (omega (arith, month_is, w.0, early), omega (arith, month_is, w.1))

    module _ (day : ℕ) (e : day ≡ l.terms.maturity.day) where
      -- its index number
      pub number_is : (number : ℕ) → number ≡ index_number prices month (min day (month_days month)) → number ≡ coupon_number l prices j
      unfolding coupon_number
      number_is number is = is ∙ rw (e, month_is) refl

      module _ (x : ℕ) (is : x ≡ day_in month day) where
        day_is : x ≡ coupon_day l.terms j
        unfolding coupon_day
        day_is = is ∙ rw (month_is, e) refl

        -- days from evaluation
        module _ (from : ℕ) (f : from ≡ day_number evaluation) where
          pub after_evaluation : due_on l evaluation j ≡ true → from ≤ x
          after_evaluation due = omega (arith, day_is, f, due_later l d evaluation j due)

          pub days_are : x - from ≡ days_to l.terms evaluation j
          days_are = rw (day_is, f) refl
