-- Demand 3 and W2 are about something: each premise is met by books, buffers and choices in general, and each sentence says something
-- of these.
-- Assumes nothing.
use mathlib.Core.List.{[], ◌++◌}
use mathlib.Core.Path.{refl, sym, ◌∙◌}
use native.Mathlib.Omega.{arith}
use Rattle.reading.specs.Book.{market_of, positions_of}
use Rattle.reading.specs.Parameters.{tail_count}
use Rattle.reading.specs.Vertices.{vertex_count}
use Rattle.valuing.proofs.Order.{empty_passed, put_together}
use Rattle.margin.specs.Premises.{RunsMet, OrderMet, MultipleMet, NoTradesMet, Premises}
use Rattle.margin.specs.Rebuilt.{with_positions}
use Rattle.margin.specs.Run.{list_in}
use Rattle.margin.proofs.Lending.{none_short}
use Rattle.margin.proofs.Demands.{passed_accepted, accepted_passed, demand3}
use Rattle.margin.proofs.Rebuilt.{division_books, reordering_book, passing_positions, rebuilt_accepted}
use Rattle.margin.proofs.CutAndRepeated.{repeated_multiple}
use Rattle.scenarios.specs.Buffer.{kind_size}
use Rattle.margin.proofs.Runs.{accepted_came}
use Rattle.margin.proofs.Instances.{equal_met, apart}

-- ---- runs

runs_met : RunsMet
runs_met =
    record {
      accepted = passed_accepted;
      came = accepted_came;
      enough = λ book e r l exposures-fit returns-fit list_fits.
          let m = market_of book in
          sym (none_short m e r l (vertex_count m.vertices) refl exposures-fit (kind_size m) refl returns-fit (tail_count m.parameters) refl list_fits);
      chosen = λ n s different below. record { count = refl; different = different; below = below };
      largest = λ book exposures returns list f a s c.
          let list' = list_in (market_of book) (positions_of book) list in
          let came = accepted_came book exposures returns list f a in
          ((demand3.tail.unscaled_tail book f list' came).largest s c, (demand3.tail.scaled_tail book f list' came).largest s c);
      listed = λ book exposures returns list f a.
          let list' = list_in (market_of book) (positions_of book) list in
          let came = accepted_came book exposures returns list f a in
          let one = demand3.tail.unscaled_tail book f list' came in
          let other = demand3.tail.scaled_tail book f list' came in
          (one.different, other.different, one.totals, other.totals);
      add_ons = λ book b f a. (demand3.add_on.unscaled_add_on book b f a, demand3.add_on.scaled_add_on book b f a);
    }

-- ---- orders and divisions

order_met : OrderMet
order_met =
    record {
      swapped = λ s one other t whole-s whole-one whole-other r.
          omega (
            arith,
            put_together s (one ++ (other ++ t)) whole-s r,
            put_together one (other ++ t) whole-one r,
            put_together other t whole-other r,
            put_together s (other ++ (one ++ t)) whole-s r,
            put_together other (one ++ t) whole-other r,
            put_together one t whole-one r,
          );
      further = λ s t u first second r. first r ∙ second r;
      parted = λ s one other whole same r. same r ∙ put_together one other whole r;
      reordered = λ book b f a positions same whole. reordering_book book (accepted_passed book b a) positions same whole;
      divided = λ book b f a one other d whole-one whole-other. division_books book (accepted_passed book b a) one other d whole-one whole-other;
      reordered_accepted = λ book b c f a positions same whole enough.
          demand3.order book (with_positions book positions) b c f a (reordering_book book (accepted_passed book b a) positions same whole) enough;
      divided_accepted = λ book b c d f a one other parts whole-one whole-other enough-one enough_other.
          demand3.division book (with_positions book one) (with_positions book other) b c d f a
          (division_books book (accepted_passed book b a) one other parts whole-one whole-other) enough-one enough_other;
    }

-- ---- multiples

multiple_met : MultipleMet
multiple_met =
    record {
      repeatedly = λ book b f a n few small. repeated_multiple book b f a n few small;
      times = λ book other b c f g n a a' same exposures. demand3.multiple book other b c f g n a a' same exposures;
    }

-- ---- no trades

no_trades_met : NoTradesMet
no_trades_met =
    record {
      emptied = λ book b f a.
          let none = empty_passed (market_of book).bonds in
          (rebuilt_accepted book b f a [] none, passing_positions book b f a [] none);
      apart = apart;
      apart_accepted = λ book b c d f a enough-own enough-none.
          demand3.division book book (with_positions book []) b c d f a (apart book b f a) enough-own enough-none;
    }

-- all of them
pub premises : Premises
premises = record { runs = runs_met; equals = equal_met; orders = order_met; multiples = multiple_met; no_trades = no_trades_met }
