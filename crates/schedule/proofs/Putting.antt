-- The pass that puts the flows: what its loop keeps and cites, with what was read of the terms as plain numbers.
-- Assumes nothing.
use Prim.Native.Nat.{ℕ, ◌+◌, ◌-◌, ◌*◌, ◌≤◌, ◌<◌}
use mathlib.Core.List.{List}
use mathlib.Core.Path.{◌≡◌, refl, sym, ap, ◌∙◌}
use native.Mathlib.Omega.{arith}
use lib.ListN.{length, get_or}
use Rattle.calendar.specs.declared.Date.{Date}
use Rattle.calendar.specs.Dates.{month_number, day_number, day_in}
use Rattle.numbers.specs.Buffers.{placed}
use Rattle.numbers.proofs.Buffers.{filled_none, filled-length}
use Rattle.schedule.specs.declared.Terms.{Terms}
use Rattle.schedule.specs.Terms.{months_apart, coupon_day, coupon, principal}
use Rattle.schedule.specs.Flows.{record_byte, flow_byte, records_in}
use Rattle.schedule.specs.Drawn.{days_to, amount_of, dates_of}
use Rattle.schedule.specs.InnerContracts.{countdown, Counted}
use Rattle.schedule.proofs.CouponDates.{due_parts}
use Rattle.schedule.proofs.FlowDates.{countdown_at}
use Rattle.schedule.proofs.Counting.{counted_due}
use Rattle.schedule.proofs.FlowBytes.{record_next}

-- days and amount of date j, of months, days and a coupon that were read before
abbrev pub days_by : ℕ → ℕ → ℕ → ℕ → ℕ → ℕ
days_by last apart day from j = day_in (last - j * apart) day - from

abbrev pub paid : ℕ → ℕ → ℕ
paid share j = share + principal j

-- r of the flows are put
pub record PutTo (count last apart day from share : ℕ) (old : List ℕ) (r : ℕ) (held : List ℕ) : Type 0 where
  pub bound : r ≤ count
  pub is : held ≡ records_in (days_by last apart day from) (paid share) (countdown count) r old

module _ (count last apart day from share : ℕ) (old : List ℕ) where
  -- none yet
  pub put_none : PutTo count last apart day from share old 0 old
  put_none = record { bound = omega arith; is = sym (filled_none (flow_byte (days_by last apart day from) (paid share) (countdown count)) old) }

  module _ (r : ℕ) (held : List ℕ) (so : PutTo count last apart day from share old r held) (fits : 8 * count ≤ length old) where
    -- the buffer's length stays
    pub put-length : length held ≡ length old
    put-length =
        ap length so.is
        ∙ filled-length (flow_byte (days_by last apart day from) (paid share) (countdown count)) (8 * r) old (omega (arith, so.bound))

    -- one more
    pub put_next : (x y : ℕ) (new : List ℕ) → r < count → x ≡ days_by last apart day from (count - 1 - r) → y ≡ paid share (count - 1 - r)
        → new ≡ placed (record_byte x y) (8 * r) 8 held → PutTo count last apart day from share old (r + 1) new
    put_next x y new low on pays put =
        let place : get_or (countdown count) r 0 ≡ count - 1 - r = countdown_at count r low in
        record {
          bound = omega arith;
          is =
              record_next (days_by last apart day from) (paid share) (countdown count) r x y old held new so.is (omega arith) put
              (rw place on) (rw place pays);
        }

module _ (t : Terms) (evaluation : Date) (count room : ℕ) (known : Counted t evaluation count room)
    (last apart from : ℕ) (l : last ≡ month_number t.maturity) (a : apart ≡ months_apart t) (f : from ≡ day_number evaluation) where
  module _ (j : ℕ) (low : j < count) where
    -- date j's month
    pub back_fits : j * apart ≤ last
    back_fits = rw (a, l) (due_parts t (day_number evaluation) j (counted_due t evaluation count room known j low)).0

    -- it lies after evaluation
    pub after_evaluation : (x : ℕ) → x ≡ day_in (last - j * apart) t.maturity.day → from ≤ x
    unfolding coupon_day
    after_evaluation x is =
        let day : x ≡ coupon_day t j = is ∙ rw (l, a) refl in
        omega (arith, (due_parts t (day_number evaluation) j (counted_due t evaluation count room known j low)).1)

  -- all are put
  pub put_all : (share : ℕ) → share ≡ coupon t → (day : ℕ) → day ≡ t.maturity.day → (old : List ℕ) (r : ℕ) (held : List ℕ)
      → PutTo count last apart day from share old r held → count ≤ r
      → held ≡ records_in (days_to t evaluation) (amount_of t) (dates_of t evaluation) count old
  unfolding coupon_day
  put_all share s day y old r held so high =
      let end : r ≡ count = omega (arith, so.bound) in
      so.is ∙ rw (l, a, f, s, y, end, known.dates) refl
