-- The desk with no trades: no exposures, so no losses, no T, U, D and M, and lists by rising number. It follows from laws that hold of
-- every book: those of multiples, by 0, and of the ranking of equal losses.
-- Assumes nothing.
use Prim.Native.Nat.{ℕ, ◌*◌, ◌≤◌, max}
use mathlib.Core.List.{[], ◌∷◌}
use mathlib.Core.Path.{◌≡◌, refl, sym, ap, ◌∙◌, ap₂}
use native.Mathlib.Omega.{arith}
use lib.IntN.{ℤ, pos, ◌*ℤ◌, zero-*ℤ}
use lib.ListN.{length}
use Rattle.numbers.specs.Findings.{Finding, Passed, Refused}
use Rattle.numbers.specs.Items.{and_then}
use Rattle.numbers.proofs.Buffers.{filled_same}
use Rattle.numbers.proofs.Rounding.{ceiling-le}
use Rattle.reading.specs.Book.{Market, market_of}
use Rattle.reading.specs.Check.{check_sections}
use Rattle.reading.specs.Parameters.{lookback, tail_mode, decorrelation, tail_count}
use Rattle.reading.specs.Vertices.{vertex_count}
use Rattle.reading.proofs.Sound.{tail_some}
use Rattle.valuing.specs.Check.{check_bond_flows, check_valued}
use Rattle.valuing.specs.Mapping.{exposure}
use Rattle.valuing.proofs.Order.{empty_passed, exposure_none}
use Rattle.scenarios.specs.Check.{check_returns, check_book}
use Rattle.scenarios.specs.Scaled.{unscaled, scaled}
use Rattle.tails.specs.Losses.{pnl, loss}
use Rattle.tails.proofs.Books.{list_fits}
use Rattle.tails.proofs.Losses.{loss_none, pnl_times, pnl_same}
use Rattle.tails.proofs.Tails.{list_rising}
use Rattle.margin.specs.Check.{lent, check_buffers, check_run}
use Rattle.margin.specs.Figures.{loss_in, list_of, charge_of, charge_by, euros_of, figures_by, figures_of}
use Rattle.margin.specs.NoTrades.{first_scenarios, NoCharge, NoTrades}
use Rattle.margin.specs.Run.{values_of}
use Rattle.margin.proofs.Addons.{add_on_within}
use Rattle.margin.proofs.OneMarket.{charge_times}
use Rattle.margin.proofs.Demands.{accepted_parts, accepted_exposed}

-- ---- the check

-- four checks in a row, the second of them followed by one that passes
in_a_row : (a b c d : Finding) → and_then (and_then (and_then a (and_then b Passed)) c) d ≡ and_then a (and_then b (and_then c d))
in_a_row Passed Passed c d = refl
in_a_row Passed (Refused number item) c d = refl
in_a_row (Refused number item) b c d = refl

-- ---- no euros

-- where both M are 0 there are no euros
no_euros : (k one other : ℕ) → 1 ≤ k → one ≡ 0 → other ≡ 0 → euros_of k one other ≡ 0
unfolding euros_of
no_euros k one other some first second =
    omega (arith, ceiling-le (max one other) (k * 1000000) 0 (omega arith) (omega (arith, ap₂ max first second)))

-- ---- no positions in a market

module _ (m : Market) where
  -- each exposure is none of itself
  none_times : (v : ℕ) → exposure m [] v ≡ pos 0 *ℤ exposure m [] v
  none_times v = exposure_none m v ∙ sym (zero-*ℤ (exposure m [] v))

  -- by returns r of one kind
  module _ (r : ℕ → ℕ → ℤ) where
    -- no scenario loses
    nothing_lost : (s : ℕ) → loss_in m r [] s ≡ 0
    nothing_lost s =
        let n = vertex_count m.vertices in
        let x = exposure m [] in
        ap (loss (tail_mode m.parameters))
        (pnl_same n x (λ v. pos 0 *ℤ x v) r r s (λ v low. none_times v) (λ v low. refl) ∙ (pnl_times n 0 x r s ∙ zero-*ℤ (pnl n x r s)))
        ∙ loss_none (tail_mode m.parameters)

    -- the list is by rising number
    pub nothing_listed : tail_count m.parameters ≤ lookback m.parameters → list_of m r [] ≡ first_scenarios (tail_count m.parameters)
    nothing_listed fits =
        list_rising (loss_in m r []) (lookback m.parameters) (tail_count m.parameters) fits (λ i j low below. nothing_lost i ∙ sym (nothing_lost j))

    -- T, U, D and M are 0
    nothing_charged : NoCharge (charge_by m r [])
    unfolding charge_of
    nothing_charged =
        let times = charge_times m r 0 [] [] (λ v low. none_times v) in
        let small = add_on_within (decorrelation m.parameters) (charge_by m r []).tail (charge_by m r []).undiversified in
        record {
          tail = omega (arith, times.tails);
          undiversified = omega (arith, times.undiversifieds);
          addon = omega (arith, times.undiversifieds, small);
          total = omega (arith, times.tails, times.undiversifieds, small);
        }

  -- nor are there euros
  nothing_due : (figures_of m []).euros ≡ 0
  unfolding figures_by
  nothing_due = no_euros (tail_count m.parameters) _ _ (tail_some m.parameters) (nothing_charged (unscaled m)).total (nothing_charged (scaled m)).total

  -- all values but k are 0
  pub nothing_valued : values_of (figures_of m []) ≡ tail_count m.parameters ∷ 0 ∷ 0 ∷ 0 ∷ 0 ∷ 0 ∷ 0 ∷ 0 ∷ 0 ∷ 0 ∷ []
  unfolding figures_by
  nothing_valued =
      let one = nothing_charged (unscaled m) in
      let other = nothing_charged (scaled m) in
      rw (
        nothing_due,
        one.tail,
        one.undiversified,
        one.addon,
        one.total,
        other.tail,
        other.undiversified,
        other.addon,
        other.total,
      )

-- ---- the statement

pub no_trades_lem : NoTrades
unfolding check_valued check_book check_run figures_by
no_trades_lem =
    record {
      refusals = λ book b none.
          let m = market_of book in
          rw (none, empty_passed m.bonds) (in_a_row (check_sections book) (check_bond_flows m) (check_returns m) (check_buffers m b));
      runs = λ book exposures returns list f exposures' returns' list' none ran.
          let m = market_of book in
          let b = lent (length exposures) (length returns) (length list) in
          let parts = accepted_parts book b f (sym ran.answered) in
          let fits = list_fits (accepted_exposed book b (sym ran.answered)) in
          rw (parts.1, none)
          (record {
            exposed =
                ran.left.exposed ∙ rw (parts.0, none) (filled_same (exposure m []) (λ v. pos 0) (vertex_count m.vertices) exposures (λ v low. exposure_none m v));
            unscaled_charge = nothing_charged m (unscaled m);
            scaled_charge = nothing_charged m (scaled m);
            euros = nothing_due m;
            listed = ran.left.listed ∙ rw (parts.0, none, nothing_listed m (unscaled m) fits, nothing_listed m (scaled m) fits);
          });
    }
