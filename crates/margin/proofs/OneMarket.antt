-- The figures of positions in one market: T with its list, T and U, and what order, division and multiples make of them.
-- Assumes nothing.
use Prim.Native.Nat.{ℕ, ◌+◌, ◌*◌, ◌≤◌, ◌<◌}
use mathlib.Core.List.{List}
use mathlib.Core.Path.{◌≡◌, refl, ap, ◌∙◌}
use lib.IntN.{ℤ, pos, ◌+ℤ◌, ◌*ℤ◌}
use lib.ListN.{take, drop}
use lib.Seq.{take_at, drop_at}
use Rattle.reading.specs.Book.{Market}
use Rattle.reading.specs.Parameters.{lookback, tail_mode, decorrelation, tail_count}
use Rattle.reading.specs.Vertices.{vertex_count}
use Rattle.reading.proofs.Sound.{tail_some}
use Rattle.valuing.specs.Mapping.{exposure}
use Rattle.valuing.specs.Order.{Reordered, Divided}
use Rattle.valuing.proofs.Order.{divided_exposure, reordered_exposure}
use Rattle.scenarios.specs.Scaled.{unscaled, scaled}
use Rattle.tails.specs.Undiversified.{pnl_tail, undiversified}
use Rattle.tails.proofs.PnlTails.{tail_of_sum, tail_of_multiple, tail_at_most_undiversified, undiversified_of_sum, undiversified_of_multiple, tail_exposures_same, undiversified_exposures_same}
use Rattle.tails.proofs.Tails.{list_choice, list_totals, tail_largest}
use Rattle.margin.specs.Demands.{LargestTotal, Times, BothTimes}
use Rattle.margin.specs.Figures.{loss_in, tail_sum_of, list_of, undiversified_of, charge_of, charge_by, figures_by, figures_of}
use Rattle.margin.specs.Run.{list_in}
use Rattle.margin.proofs.Addons.{total_of_parts, euros_of_parts}

-- ---- T and its list

-- in a market whose k is at most LP
module _ (m : Market) (positions : List ℕ) (fits : tail_count m.parameters ≤ lookback m.parameters) where
  -- T by returns r is the largest total, and the list reaches it
  pub list_reaches : (r : ℕ → ℕ → ℤ)
      → LargestTotal (loss_in m r positions) (lookback m.parameters) (tail_count m.parameters) (tail_sum_of m r positions) (list_of m r positions)
  list_reaches r =
      let lp = lookback m.parameters in
      let k = tail_count m.parameters in
      record {
        largest = tail_largest (loss_in m r positions) lp k;
        different = list_choice (loss_in m r positions) lp k fits;
        totals = list_totals (loss_in m r positions) lp k;
      }

  -- the list buffer's first k entries are the unscaled list
  pub unscaled_entries : (old : List ℕ) → take (tail_count m.parameters) (list_in m positions old) ≡ list_of m (unscaled m) positions
  unscaled_entries old = take_at (list_of m (unscaled m) positions) _ _ (list_reaches (unscaled m)).different.count

  -- its next k entries are the scaled list
  pub scaled_entries : (old : List ℕ)
      → take (tail_count m.parameters) (drop (tail_count m.parameters) (list_in m positions old)) ≡ list_of m (scaled m) positions
  scaled_entries old =
      ap (take (tail_count m.parameters)) (drop_at (list_of m (unscaled m) positions) _ _ (list_reaches (unscaled m)).different.count)
      ∙ take_at (list_of m (scaled m) positions) _ _ (list_reaches (scaled m)).different.count

-- ---- amounts of exposures at n vertices, as T and U are

pub record Amount (n : ℕ) (of : (ℕ → ℤ) → ℕ) : Type 0 where
  -- exposures that agree there have the same
  pub agrees : (x y : ℕ → ℤ) → ((v : ℕ) → v < n → x v ≡ y v) → of x ≡ of y
  -- added ones at most the sum
  pub adds : (x y : ℕ → ℤ) → of (λ v. x v +ℤ y v) ≤ of x + of y
  -- and multiples the multiple
  pub multiplies : (c : ℕ) (x : ℕ → ℤ) → of (λ v. pos c *ℤ x v) ≡ c * of x

module _ (m : Market) (of : (ℕ → ℤ) → ℕ) (amount : Amount (vertex_count m.vertices) of) where
  -- reordered positions have the same
  pub amount_reordered : (s t : List ℕ) → Reordered s t → of (exposure m s) ≡ of (exposure m t)
  amount_reordered s t same = amount.agrees (exposure m s) (exposure m t) (λ v low. reordered_exposure m s t same v)

  -- divided positions have at most the sum of the parts'
  pub amount_divided : (s one other : List ℕ) → Divided s one other → of (exposure m s) ≤ of (exposure m one) + of (exposure m other)
  amount_divided s one other d =
      rw (amount.agrees (exposure m s) (λ v. exposure m one v +ℤ exposure m other v) (λ v low. divided_exposure m s one other d v))
      (amount.adds (exposure m one) (exposure m other))

  -- positions t whose exposures are n times those of s have n times theirs
  pub amount_times : (n : ℕ) (s t : List ℕ) → ((v : ℕ) → v < vertex_count m.vertices → exposure m t v ≡ pos n *ℤ exposure m s v)
      → of (exposure m t) ≡ n * of (exposure m s)
  amount_times n s t same = amount.agrees (exposure m t) (λ v. pos n *ℤ exposure m s v) same ∙ amount.multiplies n (exposure m s)

-- ---- T and U by returns of one kind

module _ (m : Market) (r : ℕ → ℕ → ℤ) where
  -- T of any exposures
  abbrev tail_for : (ℕ → ℤ) → ℕ
  tail_for x = pnl_tail (tail_mode m.parameters) (vertex_count m.vertices) x r (lookback m.parameters) (tail_count m.parameters)

  -- U of any exposures
  abbrev undiversified_for : (ℕ → ℤ) → ℕ
  undiversified_for x = undiversified (tail_mode m.parameters) (vertex_count m.vertices) x r (lookback m.parameters) (tail_count m.parameters)

  -- both are such amounts
  amounts : Amount (vertex_count m.vertices) tail_for × Amount (vertex_count m.vertices) undiversified_for
  amounts =
      let mode = tail_mode m.parameters in
      let n = vertex_count m.vertices in
      let lp = lookback m.parameters in
      let k = tail_count m.parameters in (
        record {
          agrees = λ x y same. tail_exposures_same mode n lp k x y r r same (λ v s low small. refl);
          adds = tail_of_sum mode n r lp k;
          multiplies = tail_of_multiple mode n r lp k;
        },
        record {
          agrees = λ x y same. undiversified_exposures_same mode n lp k x y r r same (λ v s low small. refl);
          adds = undiversified_of_sum mode n r lp k;
          multiplies = undiversified_of_multiple mode n r lp k;
        },
      )

  -- T ≤ U
  pub tail_below : (positions : List ℕ) → tail_sum_of m r positions ≤ undiversified_of m r positions
  tail_below positions =
      tail_at_most_undiversified (tail_mode m.parameters) (vertex_count m.vertices) r (lookback m.parameters) (tail_count m.parameters) (exposure m positions)

  -- reordered positions have the same T, U, D and M
  pub charge_reordered : (s t : List ℕ) → Reordered s t → charge_by m r s ≡ charge_by m r t
  charge_reordered s t same =
      rw (amount_reordered m tail_for amounts.0 s t same, amount_reordered m undiversified_for amounts.1 s t same)

  -- M of divided positions is at most the sum of the parts'
  pub total_divided : (s one other : List ℕ) → Divided s one other → (charge_by m r s).total ≤ (charge_by m r one).total + (charge_by m r other).total
  unfolding charge_of
  total_divided s one other d =
      total_of_parts (decorrelation m.parameters) (tail_sum_of m r s) (undiversified_of m r s)
      (tail_sum_of m r one) (undiversified_of m r one) (tail_sum_of m r other) (undiversified_of m r other)
      (amount_divided m tail_for amounts.0 s one other d) (amount_divided m undiversified_for amounts.1 s one other d)
      (tail_below one) (tail_below other)

  -- positions t whose exposures are n times those of s have n times their T and U
  pub charge_times : (n : ℕ) (s t : List ℕ) → ((v : ℕ) → v < vertex_count m.vertices → exposure m t v ≡ pos n *ℤ exposure m s v)
      → Times n (charge_by m r s) (charge_by m r t)
  unfolding charge_of
  charge_times n s t same =
      record {
        tails = amount_times m tail_for amounts.0 n s t same;
        undiversifieds = amount_times m undiversified_for amounts.1 n s t same;
      }

-- ---- the figures

module _ (m : Market) where
  -- reordered positions have the same figures
  pub figures_reordered : (s t : List ℕ) → Reordered s t → figures_of m s ≡ figures_of m t
  figures_reordered s t same = rw (charge_reordered m (unscaled m) s t same, charge_reordered m (scaled m) s t same)

  -- the margin of divided positions is at most the sum of the parts'
  pub euros_divided : (s one other : List ℕ) → Divided s one other → (figures_of m s).euros ≤ (figures_of m one).euros + (figures_of m other).euros
  unfolding figures_by
  euros_divided s one other d =
      euros_of_parts (tail_count m.parameters)
      (charge_by m (unscaled m) s).total (charge_by m (scaled m) s).total
      (charge_by m (unscaled m) one).total (charge_by m (scaled m) one).total
      (charge_by m (unscaled m) other).total (charge_by m (scaled m) other).total
      (tail_some m.parameters)
      (total_divided m (unscaled m) s one other d)
      (total_divided m (scaled m) s one other d)

  -- n times the exposures, n times T and U of either kind
  pub figures_times : (n : ℕ) (s t : List ℕ) → ((v : ℕ) → v < vertex_count m.vertices → exposure m t v ≡ pos n *ℤ exposure m s v)
      → BothTimes n (figures_of m s) (figures_of m t)
  unfolding figures_by
  figures_times n s t same =
      record { unscaled_times = charge_times m (unscaled m) n s t same; scaled_times = charge_times m (scaled m) n s t same }
