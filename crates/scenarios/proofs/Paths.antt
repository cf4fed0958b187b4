-- A vertex's own prices, as a part of the prices' section.
-- Assumes nothing.
use Prim.Native.Nat.{ℕ, ◌+◌, ◌*◌, ◌≤◌, ◌<◌}
use mathlib.Core.List.{List}
use mathlib.Core.Path.{◌≡◌, ap, ap₂, ◌∙◌}
use native.Mathlib.Omega.{arith}
use lib.ListN.{length, get_or}
use Rattle.numbers.proofs.Buffers.{part_length, part_at}
use Rattle.numbers.proofs.Little.{u32_alike}
use Rattle.reading.specs.Book.{Market}
use Rattle.reading.specs.Parameters.{holding_period, history}
use Rattle.reading.specs.Prices.{price_entry, price_at}
use Rattle.numbers.specs.Conditions.{In}
use Rattle.reading.specs.InnerContracts.{Sound}
use Rattle.reading.specs.Vertices.{vertex_count}
use Rattle.reading.proofs.Checks.{entries_fit}
use Rattle.scenarios.specs.InnerContracts.{path_of, SoundHistory}
use Rattle.scenarios.specs.Returns.{return_of, return_from, return_at, return_count}

module _ (prices : List ℕ) (n v : ℕ) (fits : 4 * (v * n + n) ≤ length prices) where
  -- its bytes
  pub path_length : length (path_of prices n v) ≡ 4 * n
  unfolding path_of
  path_length = part_length prices (4 * (v * n)) (4 * n) (omega arith)

  -- its entries are the vertex's prices
  pub path_entry : (j : ℕ) → j < n → price_entry (path_of prices n v) j ≡ price_at prices n v j
  unfolding path_of
  path_entry j low =
      u32_alike (path_of prices n v) (4 * j) prices (4 * (v * n + j))
      (λ i small.
      let at : 4 * (v * n) + (4 * j + i) ≡ 4 * (v * n + j) + i = omega arith in
      part_at prices (4 * (v * n)) (4 * n) (omega arith) (4 * j + i) 0 (omega arith) ∙ ap (λ (a : ℕ). get_or prices a 0) at)

module _ (m : Market) (sound : Sound m) (v : ℕ) (low : v < vertex_count m.vertices) where
  -- it lies within the section
  pub path_within : 4 * (v * history m.parameters + history m.parameters) ≤ length m.prices
  path_within = omega (arith, sound.prices.size, entries_fit v (vertex_count m.vertices) (history m.parameters) low)

  -- its returns are the vertex's
  pub path_returns : (j : ℕ) → j < return_count m.parameters
      → return_from (price_entry (path_of m.prices (history m.parameters) v)) (holding_period m.parameters) j ≡ return_at m v j
  unfolding return_from
  path_returns j small =
      let n = history m.parameters in
      ap₂ return_of (path_entry m.prices n v path_within j (omega arith)) (path_entry m.prices n v path_within (j + holding_period m.parameters) (omega arith))

  -- it is as long as the parameters say, with every price in its range
  pub path_sound : SoundHistory m.parameters (path_of m.prices (history m.parameters) v)
  path_sound =
      let n = history m.parameters in
      record {
        parameters = sound.parameters;
        size = path_length m.prices n v path_within;
        price_in = λ j small. rw (path_entry m.prices n v path_within j small) (sound.prices.price_in v j low small);
      }

module _ (p path : List ℕ) (sound : SoundHistory p path) where
  -- 1 to 1,279 returns
  pub count_in_lem : In 1 1279 (return_count p)
  count_in_lem = (omega (arith, sound.parameters.ranges.lookback_in), omega (arith, sound.parameters.ranges.lookback_in, sound.parameters.ranges.warm_up_in))
