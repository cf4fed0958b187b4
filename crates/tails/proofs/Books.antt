-- What a book that passed 1 to 21 gives the passes over P&Ls and losses: its exposures and each kind's returns, in their ranges, and
-- k is at most LP.
-- Assumes nothing.
use Prim.Native.Nat.{ℕ, ◌+◌, ◌-◌, ◌*◌, ◌/◌, ◌%◌, ◌≤◌, ◌<◌}
use mathlib.Core.List.{List}
use mathlib.Core.Path.{◌≡◌, ap, ◌∙◌}
use native.Mathlib.Nat.{div-add-mod', div-lt_iff_lt-mul, mod-lt, mul-le-mul_left}
use native.Mathlib.Omega.{arith}
use lib.IntN.{ℤ, pos, nat_abs}
use lib.ListN.{length, get_or}
use Rattle.numbers.specs.Findings.{Passed}
use Rattle.numbers.specs.Buffers.{filled}
use Rattle.numbers.proofs.Items.{sum_same}
use Rattle.numbers.proofs.Rounding.{nearest_down_is}
use Rattle.reading.specs.Book.{Market, market_of, positions_of}
use Rattle.reading.specs.Parameters.{lookback, confidence, tail_count_by, tail_count}
use Rattle.reading.specs.InnerContracts.{SoundParameters}
use Rattle.reading.specs.Vertices.{vertex_count}
use Rattle.valuing.specs.Mapping.{exposure}
use Rattle.valuing.proofs.Mapping.{exposures_bound}
use Rattle.valuing.proofs.Sound.{valued}
use Rattle.scenarios.specs.Buffer.{kind_size, returns_size, returns_entry}
use Rattle.scenarios.specs.Check.{check_book}
use Rattle.scenarios.specs.Scaled.{unscaled, scaled}
use Rattle.scenarios.proofs.Entries.{row_room, unscaled_held, scaled_held}
use Rattle.scenarios.proofs.Sound.{returns_passed, simulated}
use Rattle.tails.specs.InnerContracts.{Exposed, RowsOf}

-- a book that passed 1 to 21 has both
pub book_exposed : (book : List ℕ) → check_book book ≡ Passed → Exposed (market_of book) (positions_of book)
book_exposed book e = record {
  scenarios = simulated book e;
  exposures_in = exposures_bound (market_of book) (positions_of book) (valued book (returns_passed book e).0);
}

-- parameters that passed 3 to 5 have a k of at most LP
tail_within : (p : List ℕ) → SoundParameters p → tail_count p ≤ lookback p
unfolding tail_count tail_count_by
tail_within p sound =
    let n = lookback p * (10000 - confidence p) in
    let most : 10000 - confidence p ≤ 10000 = omega arith in
    omega (arith, nearest_down_is n 10000 (omega arith), mul-le-mul_left (lookback p) most, sound.ranges.lookback_in.0)

module _ {m : Market} {positions : List ℕ} (exposed : Exposed m positions) where
  -- k is at most LP, so that the list is a choice of k (`list_choice`)
  pub list_fits : tail_count m.parameters ≤ lookback m.parameters
  list_fits = tail_within m.parameters exposed.scenarios.market.parameters

  -- ---- returns of either kind

  -- by vertex and scenario, in their range
  module _ (r : ℕ → ℕ → ℤ) (small : (v s : ℕ) → v < vertex_count m.vertices → s < lookback m.parameters → nat_abs (r v s) ≤ 1000000) where
    -- lists of all exposures and of all vertices' returns
    rows_of : (xs rs : List ℤ) → length xs ≡ vertex_count m.vertices
        → ((v : ℕ) → v < vertex_count m.vertices → get_or xs v (pos 0) ≡ exposure m positions v)
        → kind_size m ≤ length rs
        → ((v s : ℕ) → v < vertex_count m.vertices → s < lookback m.parameters → get_or rs (v * lookback m.parameters + s) (pos 0) ≡ r v s)
        → RowsOf r xs rs (lookback m.parameters)
    rows_of xs rs size same-x fits same-r =
        record {
          vertices_in = omega (arith, size, exposed.scenarios.market.vertices.form.count.1);
          scenarios_in = exposed.scenarios.market.parameters.ranges.lookback_in.1;
          size = rw size fits;
          exposures_in =
              rw (size, sum_same ◌+◌ 0 (λ v. nat_abs (get_or xs v (pos 0))) (λ v. nat_abs (exposure m positions v)) (vertex_count m.vertices) (λ v low. ap nat_abs (same-x v low)))
              exposed.exposures_in;
          return_in = λ i below. entry_small i (rw size at below);
          are = λ v s low small. same-r v s (rw size at low) small;
        }
      where
        entry_small : (i : ℕ) → i < kind_size m → nat_abs (get_or rs i (pos 0)) ≤ 1000000
        entry_small i below =
            let lp = lookback m.parameters in
            let some : 0 < lp = omega (arith, exposed.scenarios.market.parameters.ranges.lookback_in.0) in
            let row : i / lp < vertex_count m.vertices = (div-lt_iff_lt-mul some).1 below in
            rw (← div-add-mod' i lp, same-r (i / lp) (i % lp) row (mod-lt i some)) (small (i / lp) (i % lp) row (mod-lt i some))

  -- ---- rows of all vertices, as the buffers hold them

  module _ (xs rs : List ℤ) (size : length xs ≡ vertex_count m.vertices)
      (same : (v : ℕ) → v < vertex_count m.vertices → get_or xs v (pos 0) ≡ exposure m positions v)
      (old out : List ℤ) (is : out ≡ filled (returns_entry m) (returns_size m) old) (fits : kind_size m ≤ length rs) where
    -- the unscaled returns, the buffer's first entries
    pub unscaled_rows_lem : ((i : ℕ) → i < kind_size m → get_or rs i (pos 0) ≡ get_or out i (pos 0)) → RowsOf (unscaled m) xs rs (lookback m.parameters)
    unscaled_rows_lem held =
        rows_of (unscaled m) exposed.scenarios.unscaled_in xs rs size same fits
        (λ v s low small. held (v * lookback m.parameters + s) (omega (arith, row_room m v low)) ∙ unscaled_held m v low s small old out is)

    -- the scaled returns, the entries after those
    pub scaled_rows_lem : ((i : ℕ) → i < kind_size m → get_or rs i (pos 0) ≡ get_or out (kind_size m + i) (pos 0)) → RowsOf (scaled m) xs rs (lookback m.parameters)
    scaled_rows_lem held =
        rows_of (scaled m) exposed.scenarios.scaled_in xs rs size same fits
        (λ v s low small. held (v * lookback m.parameters + s) (omega (arith, row_room m v low)) ∙ scaled_held m v low s small old out is)
