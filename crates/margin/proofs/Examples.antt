-- The starred examples hold, by computation. So the printed book is accepted without its position; its figures are then those of any
-- book without positions.
-- Assumes nothing.
use Prim.Native.Nat.{ℕ, zero, suc, ◌≤◌, ◌<◌}
use mathlib.Core.List.{List, [], ◌∷◌}
use mathlib.Core.Path.{◌≡◌, refl, sym, ap, ◌∙◌}
use native.Mathlib.Nat.{zero-add}
use native.Mathlib.Omega.{arith}
use borrow.Author.Tests.{le-leb}
use lib.IntN.{ℤ, pos}
use lib.ListN.{get_or}
use Rattle.margin.specs.declared.Charge.{Charge}
use Rattle.numbers.specs.Findings.{Passed}
use Rattle.numbers.specs.Buffers.{part_of, table}
use Rattle.numbers.specs.Items.{sum_of}
use Rattle.numbers.specs.Little.{u16_at, u32_at, byte_of}
use Rattle.numbers.specs.Rounding.{nearest_down, ceiling, negative}
use Rattle.numbers.proofs.Buffers.{table_at}
use Rattle.reading.specs.Book.{Market, market_of, positions_of, section_of, check_directory}
use Rattle.reading.specs.Parameters.{tail_count_by, tail_count}
use Rattle.reading.proofs.Examples.{tail_examples}
use Rattle.valuing.specs.Examples.{printed_book}
use Rattle.valuing.specs.Mapping.{exposure}
use Rattle.valuing.proofs.Examples.{valuing_examples, printed_exposures_lem}
use Rattle.valuing.proofs.Order.{empty_passed}
use Rattle.scenarios.specs.Check.{check_book}
use Rattle.scenarios.specs.Scaled.{unscaled, scaled}
use Rattle.scenarios.proofs.Examples.{return_example, printed_returns_lem}
use Rattle.tails.specs.Losses.{pnl, loss}
use Rattle.tails.specs.Ranking.{inserted, ranked, tail_list, total_over, tail_sum}
use Rattle.tails.specs.Undiversified.{pnl_tail, undiversified}
use Rattle.tails.proofs.Losses.{pnl_same}
use Rattle.tails.proofs.PnlTails.{tail_exposures_same, undiversified_exposures_same}
use Rattle.tails.proofs.Tails.{list_same}
use Rattle.margin.specs.Check.{lent, check_buffers}
use Rattle.margin.specs.Examples.{printed_values, StarredExamples, emptied_book, EmptiedFigures}
use Rattle.margin.specs.Figures.{loss_in, list_of, add_on, charge_of, charge_by, euros_of, figures_by, figures_of}
use Rattle.margin.specs.Rebuilt.{u32_bytes, with_positions}
use Rattle.margin.specs.Run.{Values, values_of, list_in}
use Rattle.margin.proofs.Outcomes.{passed_outcome}
use Rattle.margin.proofs.AllElseEqual.{places, places_pass, buffers_pass}
use Rattle.margin.proofs.NoTrades.{nothing_listed, nothing_valued}

abbrev printed : Market
printed = market_of printed_book

abbrev held : List ℕ
held = positions_of printed_book

-- the two exposures
abbrev exposures : ℕ → ℤ
exposures v = get_or (pos 44171 ∷ pos 955829 ∷ []) v (pos 0)

exposed : (v : ℕ) → v < 2 → exposure printed held v ≡ exposures v
exposed zero low = printed_exposures_lem.first
exposed (suc zero) low = printed_exposures_lem.second
exposed (suc (suc v)) low = absurd (omega arith)

-- two rows of four returns, of one kind
module _ (r : ℕ → ℕ → ℤ) (one other : List ℤ) (first : table (r 0) 4 0 ≡ one) (second : table (r 1) 4 0 ≡ other) where
  abbrev rows : ℕ → ℕ → ℤ
  rows v s = get_or (get_or (one ∷ other ∷ []) v []) s (pos 0)

  returned : (v s : ℕ) → v < 2 → s < 4 → r v s ≡ rows v s
  returned zero s low small = sym (ap (λ (l : List ℤ). get_or l s (pos 0)) (sym first) ∙ (table_at (r 0) 4 0 s (pos 0) small ∙ ap (r 0) (zero-add s)))
  returned (suc zero) s low small = sym (ap (λ (l : List ℤ). get_or l s (pos 0)) (sym second) ∙ (table_at (r 1) 4 0 s (pos 0) small ∙ ap (r 1) (zero-add s)))
  returned (suc (suc v)) s low small = absurd (omega arith)

  -- T, U, D and M by them
  charge_is_lem : charge_by printed r held ≡ charge_of 80 (pnl_tail 1 2 exposures rows 4 1) (undiversified 1 2 exposures rows 4 1)
  unfolding part_of u16_at u32_at nearest_down section_of market_of tail_count_by tail_count
  charge_is_lem =
      rw (
        tail_exposures_same 1 2 4 1 (exposure printed held) exposures r rows exposed returned,
        undiversified_exposures_same 1 2 4 1 (exposure printed held) exposures r rows exposed returned,
      )

  -- and the list
  list_is_lem : list_of printed r held ≡ tail_list (λ s. loss 1 (pnl 2 exposures rows s)) 4 1
  unfolding part_of u16_at u32_at nearest_down section_of market_of tail_count_by tail_count
  list_is_lem =
      list_same (loss_in printed r held) (λ s. loss 1 (pnl 2 exposures rows s)) 4 1
      (λ s small. ap (loss 1) (pnl_same 2 (exposure printed held) exposures r rows s exposed (λ v low. returned v s low small)))

-- ---- the printed book

-- the returns of each kind
abbrev unscaled_rows : ℕ → ℕ → ℤ
unscaled_rows = rows (unscaled printed) _ _ printed_returns_lem.first_unscaled printed_returns_lem.second_unscaled

abbrev scaled_rows : ℕ → ℕ → ℤ
scaled_rows = rows (scaled printed) _ _ printed_returns_lem.first_scaled printed_returns_lem.second_scaled

abbrev charge_from : (ℕ → ℕ → ℤ) → Charge
charge_from r = charge_of 80 (pnl_tail 1 2 exposures r 4 1) (undiversified 1 2 exposures r 4 1)

computed : values_of (figures_by 1 (charge_from unscaled_rows) (charge_from scaled_rows)) ≡ printed_values
unfolding sum_of ceiling negative pnl loss inserted ranked tail_list total_over tail_sum add_on charge_of euros_of figures_by
computed = refl

printed_values_lem : values_of (figures_of printed held) ≡ printed_values
unfolding part_of u16_at u32_at nearest_down section_of market_of tail_count_by tail_count
printed_values_lem =
    ap (λ (a : Charge). values_of (figures_by 1 a (charge_by printed (scaled printed) held))) (charge_is_lem (unscaled printed) _ _ printed_returns_lem.first_unscaled printed_returns_lem.second_unscaled)
    ∙ (ap (λ (a : Charge). values_of (figures_by 1 (charge_from unscaled_rows) a)) (charge_is_lem (scaled printed) _ _ printed_returns_lem.first_scaled printed_returns_lem.second_scaled) ∙ computed)

listed : (tail_list (λ s. loss 1 (pnl 2 exposures unscaled_rows s)) 4 1 ≡ 0 ∷ []) × (tail_list (λ s. loss 1 (pnl 2 exposures scaled_rows s)) 4 1 ≡ 0 ∷ [])
unfolding sum_of negative pnl loss inserted ranked tail_list
listed = (refl, refl)

printed_lists : (a b : ℕ) (old : List ℕ) → list_in printed held (a ∷ b ∷ old) ≡ 0 ∷ 0 ∷ old
unfolding part_of u16_at u32_at nearest_down section_of market_of tail_count_by tail_count
printed_lists a b old =
    rw (
      list_is_lem (unscaled printed) _ _ printed_returns_lem.first_unscaled printed_returns_lem.second_unscaled,
      list_is_lem (scaled printed) _ _ printed_returns_lem.first_scaled printed_returns_lem.second_scaled,
      listed.0,
      listed.1,
    )
    refl

printed_enough : (e r l : ℕ) → 2 ≤ e → 16 ≤ r → 2 ≤ l → check_buffers printed (lent e r l) ≡ Passed
unfolding part_of u16_at u32_at nearest_down section_of market_of tail_count_by tail_count check_buffers
printed_enough e r l exposures-fit returns-fit list_fits = rw (le-leb 2 e exposures-fit, le-leb 16 r returns-fit, le-leb 2 l list_fits)

-- every starred example
pub starred_examples : StarredExamples
starred_examples =
    record {
      tails = tail_examples;
      returns = return_example;
      values = valuing_examples;
      printed_exposures = printed_exposures_lem;
      printed_returns = printed_returns_lem;
      printed = record {
        values = λ e r l exposures-fit returns-fit list_fits.
            passed_outcome printed_book (lent e r l) (buffers_pass printed_book (lent e r l) printed_returns_lem.passed (printed_enough e r l exposures-fit returns-fit list_fits))
            ∙ ap Values printed_values_lem;
        lists = printed_lists;
      };
    }

-- ---- the printed book without its position

emptied_market : market_of emptied_book ≡ printed
unfolding part_of table u16_at u32_at byte_of section_of market_of u32_bytes with_positions
emptied_market = refl

emptied_positions : positions_of emptied_book ≡ []
unfolding part_of table u16_at u32_at byte_of section_of positions_of u32_bytes with_positions
emptied_positions = refl

emptied_directory : check_directory emptied_book ≡ Passed
unfolding table u16_at u32_at byte_of check_directory u32_bytes with_positions
emptied_directory = refl

emptied_passed : check_book emptied_book ≡ Passed
emptied_passed =
    let p = places printed_book printed_returns_lem.passed in
    places_pass emptied_book
    (record {
      directory = emptied_directory;
      market = rw emptied_market p.market;
      flows = rw emptied_market p.flows;
      positions = rw (emptied_market, emptied_positions) (empty_passed printed.bonds);
      returns = rw emptied_market p.returns;
    })

emptied_lists : (a b : ℕ) (old : List ℕ) → list_in printed [] (a ∷ b ∷ old) ≡ 0 ∷ 0 ∷ old
unfolding table part_of u16_at u32_at nearest_down section_of market_of tail_count_by tail_count
emptied_lists a b old = rw (nothing_listed printed (unscaled printed) (omega arith), nothing_listed printed (scaled printed) (omega arith)) refl

emptied_values : values_of (figures_of printed []) ≡ 1 ∷ 0 ∷ 0 ∷ 0 ∷ 0 ∷ 0 ∷ 0 ∷ 0 ∷ 0 ∷ 0 ∷ []
unfolding part_of u16_at u32_at nearest_down section_of market_of tail_count_by tail_count
emptied_values = nothing_valued printed

-- it is accepted
pub emptied_figures : EmptiedFigures
emptied_figures =
    record {
      empty = emptied_positions;
      values = λ e r l exposures-fit returns-fit list_fits.
          passed_outcome emptied_book (lent e r l)
          (buffers_pass emptied_book (lent e r l) emptied_passed (rw emptied_market (printed_enough e r l exposures-fit returns-fit list_fits)))
          ∙ ap Values (rw (emptied_market, emptied_positions) emptied_values);
      lists = λ a b old. rw (emptied_market, emptied_positions) (emptied_lists a b old);
    }
