-- Demand 3, proved whole: of the answer to every book and every lent buffer, sentence by sentence.
-- Assumes nothing.
use Prim.Native.Nat.{ℕ, ◌≤◌}
use mathlib.Core.List.{List}
use mathlib.Core.Path.{◌≡◌, refl, sym, ◌∙◌}
use lib.IntN.{ℤ}
use lib.ListN.{length}
use Rattle.margin.specs.declared.Figures.{Figures}
use Rattle.numbers.specs.Findings.{Passed}
use Rattle.reading.specs.Book.{Market, market_of, positions_of}
use Rattle.reading.specs.Parameters.{lookback, decorrelation, tail_count}
use Rattle.valuing.specs.Positions.{check_positions}
use Rattle.valuing.proofs.Order.{divided_other, divided_passed, reordered_passed}
use Rattle.scenarios.specs.Check.{check_book}
use Rattle.scenarios.specs.Scaled.{unscaled, scaled}
use Rattle.tails.specs.InnerContracts.{Exposed}
use Rattle.tails.proofs.Books.{book_exposed, list_fits}
use Rattle.margin.specs.Check.{Lent, lent, check_run}
use Rattle.margin.specs.Demands.{Accepted, AllElseEqual, Whole, Enough, CameTo, TailDemand, NeverNegative, AddOnDemand, OrderDemand, DivisionDemand, MultipleDemand, Demand3}
use Rattle.margin.specs.Figures.{charge_of, charge_by, figures_by, figures_of}
use Rattle.margin.specs.Run.{values_of, list_in}
use Rattle.margin.proofs.Outcomes.{values_only, outcome_values, passed_outcome}
use Rattle.margin.proofs.OneMarket.{list_reaches, unscaled_entries, scaled_entries, tail_below, figures_reordered, euros_divided, figures_times}
use Rattle.margin.proofs.AllElseEqual.{places, buffers_passed, buffers_pass, market_of_passed, market_of_whole, other_passed}

-- ---- acceptance

module _ (book : List ℕ) (b : Lent) where
  -- an accepted book passed 1 to 24, and its figures are those of its market and positions
  pub accepted_parts : (f : Figures) → Accepted book b f → (check_run book b ≡ Passed) × (f ≡ figures_of (market_of book) (positions_of book))
  accepted_parts f a =
      let h = outcome_values book b (values_of f) a in
      (h.0, values_only f (figures_of (market_of book) (positions_of book)) (sym h.1))

  -- a book that passes 1 to 24 is accepted with them
  pub passed_accepted : check_run book b ≡ Passed → Accepted book b (figures_of (market_of book) (positions_of book))
  passed_accepted e = passed_outcome book b e

  module _ {f : Figures} (a : Accepted book b f) where
    -- an accepted book passed 1 to 21
    pub accepted_passed : check_book book ≡ Passed
    accepted_passed = (buffers_passed book b (accepted_parts f a).0).0

    -- its returns and exposures lie in their ranges
    pub accepted_exposed : Exposed (market_of book) (positions_of book)
    accepted_exposed = book_exposed book accepted_passed

-- ---- what a run leaves

module _ (book : List ℕ) (f : Figures) (list' : List ℕ) (c : CameTo book f list') where
  abbrev lengths : Lent
  lengths = lent (length c.exposures) (length c.returns) (length c.list)

  -- the book is accepted
  pub ran_accepted : Accepted book lengths f
  ran_accepted = sym c.ran.answered

  -- the list buffer holds both lists
  pub ran_list : list' ≡ list_in (market_of book) (positions_of book) c.list
  ran_list = c.ran.left.listed ∙ rw (accepted_parts book lengths f ran_accepted).0

  -- the figures are those of its market and positions
  pub ran_figures : f ≡ figures_of (market_of book) (positions_of book)
  ran_figures = (accepted_parts book lengths f ran_accepted).1

  -- k is at most LP
  pub ran_fits : tail_count (market_of book).parameters ≤ lookback (market_of book).parameters
  ran_fits = list_fits (accepted_exposed book lengths ran_accepted)

-- ---- the sentences

-- "For every accepted book, unscaled and scaled, the reported tail sum is the largest total of losses over all choices of k different
-- scenarios. The k listed scenarios are all different and their losses total exactly it."
pub tail_demand : TailDemand
unfolding figures_by charge_of
tail_demand =
    record {
      unscaled_tail = λ book f list' c.
          let fits = ran_fits book f list' c in
          rw (ran_list book f list' c, ran_figures book f list' c, unscaled_entries (market_of book) (positions_of book) fits c.list)
          (list_reaches (market_of book) (positions_of book) fits (unscaled (market_of book)));
      scaled_tail = λ book f list' c.
          let fits = ran_fits book f list' c in
          rw (ran_list book f list' c, ran_figures book f list' c, scaled_entries (market_of book) (positions_of book) fits c.list)
          (list_reaches (market_of book) (positions_of book) fits (scaled (market_of book)));
    }

-- neither factor of the add-on is negative, by returns r of one kind
never_negative : (m : Market) (positions : List ℕ) → Exposed m positions → (r : ℕ → ℕ → ℤ)
    → NeverNegative (decorrelation m.parameters) (charge_by m r positions)
unfolding charge_of
never_negative m positions exposed r =
    record { percent = exposed.scenarios.market.parameters.ranges.decorrelation_in; difference = tail_below m r positions; rounded = refl }

-- "The add-on is never negative."
pub add_on_demand : AddOnDemand
unfolding figures_by
add_on_demand =
    record {
      unscaled_add_on = λ book b f a.
          rw (accepted_parts book b f a).1
          (never_negative (market_of book) (positions_of book) (accepted_exposed book b a) (unscaled (market_of book)));
      scaled_add_on = λ book b f a.
          rw (accepted_parts book b f a).1
          (never_negative (market_of book) (positions_of book) (accepted_exposed book b a) (scaled (market_of book)));
    }

-- an accepted book, and another that is whole, with all but positions equal
module _ (book other : List ℕ) (b c : Lent) {f : Figures} (a : Accepted book b f) (same : AllElseEqual book other) (whole : Whole other) where
  -- positions that pass, and enough lent: it is accepted, with the figures of its positions in the book's market
  pub other_accepted : check_positions (market_of book).bonds (positions_of other) ≡ Passed → Enough other c
      → Accepted other c (figures_of (market_of book) (positions_of other))
  other_accepted positions enough =
      rw (← market_of_whole book other (accepted_passed book b a) same whole)
      (passed_accepted other c (buffers_pass other c (other_passed book other (accepted_passed book b a) same whole positions) enough))

-- "For every order of an accepted book's positions, all else equal, the reordered book is accepted and its margin is the same."
pub order_demand : OrderDemand
order_demand book other b c f a o enough =
    rw ((accepted_parts book b f a).1, figures_reordered (market_of book) (positions_of book) (positions_of other) o.records)
    (other_accepted book other b c a o.equal o.whole
    (reordered_passed (market_of book).bonds (positions_of book) (positions_of other) o.records (places book (accepted_passed book b a)).positions
    o.whole.records)
    enough)

-- "For every division of those positions into two non-empty books, all else equal, both are accepted and the margin of the whole is
-- at most the sum of the two margins." Since W2 one of the two may be empty
pub division_demand : DivisionDemand
division_demand book one other b c d f a o enough-one enough_other =
    let m = market_of book in
    let s = positions_of book in
    let passed = (places book (accepted_passed book b a)).positions in
    record {
      first = figures_of m (positions_of one);
      second = figures_of m (positions_of other);
      first_accepted =
          other_accepted book one b c a o.equal_one o.whole_one
          (divided_passed m.bonds s (positions_of one) (positions_of other) o.records passed o.whole_one.records)
          enough-one;
      second_accepted =
          other_accepted book other b d a o.equal_other o.whole_other
          (divided_passed m.bonds s (positions_of other) (positions_of one)
          (divided_other s (positions_of one) (positions_of other) o.records) passed o.whole_other.records)
          enough_other;
      at_most = rw (accepted_parts book b f a).1 (euros_divided m s (positions_of one) (positions_of other) o.records);
    }

-- "For every two accepted books with all but positions equal, and every n that is 0 or a positive whole number: where each exposure
-- of one is n times the other's on the same vertex, its tail sum and undiversified sum are n times the other's, unscaled and scaled."
pub multiple_demand : MultipleDemand
multiple_demand book other b c f g n a a' same times =
    let market = market_of_passed book other (accepted_passed book b a) same (accepted_passed other c a') in
    rw ((accepted_parts book b f a).1, (accepted_parts other c g a').1, market)
    (figures_times (market_of book) n (positions_of book) (positions_of other) (rw market at times))

-- demand 3
pub demand3 : Demand3
demand3 =
    record { tail = tail_demand; add_on = add_on_demand; order = order_demand; division = division_demand; multiple = multiple_demand }
