-- The figures: T, U, D and M by each kind of returns, and the margin in euros.
use Rattle.std.specs.Prelude.{ℕ, ◌+◌, ◌-◌, ◌*◌, max, List, ℤ}
use Rattle.margin.specs.declared.Figures.{Figures}
use Rattle.margin.specs.declared.Charge.{Charge}
use Rattle.numbers.specs.Rounding.{ceiling}
use Rattle.reading.specs.Book.{Market}
use Rattle.reading.specs.Parameters.{lookback, tail_mode, decorrelation, tail_count}
use Rattle.reading.specs.Vertices.{vertex_count}
use Rattle.valuing.specs.Mapping.{exposure}
use Rattle.scenarios.specs.Scaled.{unscaled, scaled}
use Rattle.tails.specs.Losses.{pnl, loss}
use Rattle.tails.specs.Ranking.{tail_list}
use Rattle.tails.specs.Undiversified.{pnl_tail, undiversified}

-- "losses go by the returns of the kind in hand": what these positions lose in scenario s by returns r, of one kind
abbrev pub loss_in : Market → (ℕ → ℕ → ℤ) → List ℕ → ℕ → ℕ
loss_in m r positions s = loss (tail_mode m.parameters) (pnl (vertex_count m.vertices) (exposure m positions) r s)

-- "T = total of the k largest losses"
abbrev pub tail_sum_of : Market → (ℕ → ℕ → ℤ) → List ℕ → ℕ
tail_sum_of m r positions =
    pnl_tail (tail_mode m.parameters) (vertex_count m.vertices) (exposure m positions) r (lookback m.parameters) (tail_count m.parameters)

-- "its list is the first k of all scenarios set by falling loss, then rising number"
abbrev pub list_of : Market → (ℕ → ℕ → ℤ) → List ℕ → List ℕ
list_of m r positions = tail_list (loss_in m r positions) (lookback m.parameters) (tail_count m.parameters)

-- "U = the sum, over vertices, of the T that each exposure alone would have."
abbrev pub undiversified_of : Market → (ℕ → ℕ → ℤ) → List ℕ → ℕ
undiversified_of m r positions =
    undiversified (tail_mode m.parameters) (vertex_count m.vertices) (exposure m positions) r (lookback m.parameters) (tail_count m.parameters)

-- "Add-on D = (100 − p) × (U − T) / 100, rounded up." T is never above U (`Demands`), so that U − T is the difference
unfoldable pub add_on : ℕ → ℕ → ℕ → ℕ
add_on p t u = ceiling ((100 - p) * (u - t)) 100

-- "M = T + D.": T, U, D and M
unfoldable pub charge_of : ℕ → ℕ → ℕ → Charge
charge_of p t u = record { tail = t; undiversified = u; addon = add_on p t u; total = t + add_on p t u }

-- "All four are computed unscaled and scaled.": those of these positions by returns r, of one kind
abbrev pub charge_by : Market → (ℕ → ℕ → ℤ) → List ℕ → Charge
charge_by m r positions = charge_of (decorrelation m.parameters) (tail_sum_of m r positions) (undiversified_of m r positions)

-- "Margin in euros = the larger M / (k × 1,000,000), rounded up"
unfoldable pub euros_of : ℕ → ℕ → ℕ → ℕ
euros_of k one other = ceiling (max one other) (k * 1000000)

-- "the result holds k, then T, U, D and M unscaled and scaled, and the margin in euros"
unfoldable pub figures_by : ℕ → Charge → Charge → Figures
figures_by k one other = record { k = k; unscaled = one; scaled = other; euros = euros_of k one.total other.total }

-- the figures of these positions
abbrev pub figures_of : Market → List ℕ → Figures
figures_of m positions = figures_by (tail_count m.parameters) (charge_by m (unscaled m) positions) (charge_by m (scaled m) positions)
