-- What the passes over the vertices want: a vertex's own prices decide its code, and fill its rows of the buffer.
-- Assumes nothing.
use Prim.Native.Nat.{ℕ, ◌+◌, ◌*◌, ◌≤◌, ◌<◌}
use mathlib.Core.List.{List}
use mathlib.Core.Path.{◌≡◌, refl, sym, ◌∙◌}
use native.Mathlib.Nat.{mul-le-mul}
use native.Mathlib.Omega.{arith}
use lib.IntN.{ℤ, pos}
use lib.ListN.{length}
use Rattle.numbers.specs.Buffers.{filled, placed}
use Rattle.numbers.proofs.Buffers.{halves, halves_more, halves_all}
use Rattle.reading.specs.Book.{Market}
use Rattle.reading.specs.Parameters.{lookback, holding_period, history}
use Rattle.reading.specs.Prices.{price_entry}
use Rattle.reading.specs.InnerContracts.{Sound}
use Rattle.reading.specs.Vertices.{vertex_count}
use Rattle.scenarios.specs.Buffer.{kind_size, returns_size, returns_entry}
use Rattle.scenarios.specs.Check.{series_good}
use Rattle.scenarios.specs.InnerContracts.{path_of}
use Rattle.scenarios.specs.Returns.{return_from, return_at}
use Rattle.scenarios.specs.Scaled.{unscaled_from, scaled_from}
use Rattle.scenarios.proofs.Entries.{row_room, unscaled_entry, scaled_entry_lem}
use Rattle.scenarios.proofs.Paths.{path_returns}
use Rattle.scenarios.proofs.EqualReturns.{unscaled_same, scaled_same, series_same}

-- a kind has at most 64 · 1,024 entries
pub kind_small : (m : Market) → Sound m → kind_size m ≤ 65536
kind_small m sound = mul-le-mul {n₁ = vertex_count m.vertices} {m₁ = lookback m.parameters} {n₂ = 64} {m₂ = 1024} sound.vertices.form.count.1 sound.parameters.ranges.lookback_in.1

module _ (m : Market) (sound : Sound m) (v : ℕ) (low : v < vertex_count m.vertices) (p path : List ℕ) (is_p : p ≡ m.parameters) (is_path : path ≡ path_of m.prices (history m.parameters) v) where
  abbrev own : ℕ → ℤ
  own = return_from (price_entry (path_of m.prices (history m.parameters) v)) (holding_period m.parameters)

  -- its own prices decide
  pub vertex_series : series_good p (return_from (price_entry path) (holding_period p)) ≡ series_good m.parameters (return_at m v)
  vertex_series = rw (is_p, is_path) (series_same m.parameters own (return_at m v) (path_returns m sound v low))

  -- its scenarios, put into their two places, are its entries
  pub vertex_filled : (old held new : List ℤ) (half at : ℕ) → half ≡ kind_size m → at ≡ v * lookback m.parameters → returns_size m ≤ length old → held ≡ halves (returns_entry m) (pos 0) half at old
      → new ≡ placed (scaled_from p (return_from (price_entry path) (holding_period p))) (half + at) (lookback p) (placed (unscaled_from p (return_from (price_entry path) (holding_period p))) at (lookback p) held)
      → new ≡ halves (returns_entry m) (pos 0) half (at + lookback p) old
  vertex_filled old held new half at is_half is_at room is =
      rw (is_p, is_path)
      (halves_more (returns_entry m) (pos 0) half old (omega (arith, room, is_half)) at (lookback m.parameters) held (unscaled_from m.parameters own) (scaled_from m.parameters own) is
      (omega (arith, is_half, is_at, row_room m v low))
      (λ s small. rw is_at (unscaled_same m.parameters own (return_at m v) (path_returns m sound v low) s small ∙ sym (unscaled_entry m v low s small)))
      (λ s small. rw (is_half, is_at) (scaled_same m.parameters own (return_at m v) (path_returns m sound v low) s small ∙ sym (scaled_entry_lem m v low s small)))
      (placed (unscaled_from m.parameters own) at (lookback m.parameters) held)
      new
      refl)

-- all vertices' rows are filled
pub all_filled : (m : Market) (old held : List ℤ) (half at : ℕ) → half ≡ kind_size m → at ≡ half → returns_size m ≤ length old → held ≡ halves (returns_entry m) (pos 0) half at old → held ≡ filled (returns_entry m) (returns_size m) old
all_filled m old held half at is_half end room is = is ∙ rw (end, is_half) (halves_all (returns_entry m) (pos 0) (kind_size m) old room)
