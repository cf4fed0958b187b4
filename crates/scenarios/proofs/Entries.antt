-- The returns buffer by vertex and scenario.
-- Assumes nothing.
use Prim.Native.Nat.{ℕ, ◌+◌, ◌-◌, ◌*◌, ◌/◌, ◌%◌, ◌≤◌, ◌<◌}
use mathlib.Core.List.{List}
use mathlib.Core.Path.{◌≡◌, ap, ◌∙◌}
use native.Mathlib.Nat.{mul_comm, mul-add, div-add-mod}
use native.Mathlib.Omega.{arith}
use borrow.Author.Tests.{lt-ltb, le-ltb}
use lib.IntN.{ℤ, pos}
use lib.ListN.{get_or}
use Rattle.numbers.specs.Buffers.{filled}
use Rattle.numbers.proofs.Buffers.{filled_read}
use Rattle.numbers.proofs.Rounding.{quotient_is}
use Rattle.reading.specs.Book.{Market}
use Rattle.reading.specs.Parameters.{lookback}
use Rattle.reading.specs.Vertices.{vertex_count}
use Rattle.reading.proofs.Checks.{entries_fit}
use Rattle.scenarios.specs.Buffer.{kind_size, returns_size, returns_entry}
use Rattle.scenarios.specs.Scaled.{unscaled, scaled}

row_of : (v n s : ℕ) → s < n → (v * n + s) / n ≡ v
row_of v n s low = quotient_is (v * n + s) n v (omega (arith, mul_comm v n)) (omega (arith, mul_comm v n, mul-add n v 1))

place_of : (v n s : ℕ) → s < n → (v * n + s) % n ≡ s
place_of v n s low = omega (arith, div-add-mod (v * n + s) n, ap (λ (a : ℕ). n * a) (row_of v n s low), mul_comm v n)

module _ (m : Market) (v : ℕ) (low : v < vertex_count m.vertices) where
  -- a vertex's scenarios lie within their kind
  pub row_room : v * lookback m.parameters + lookback m.parameters ≤ kind_size m
  row_room = entries_fit v (vertex_count m.vertices) (lookback m.parameters) low

  module _ (s : ℕ) (small : s < lookback m.parameters) where
    -- the entry of an unscaled scenario
    pub unscaled_entry : returns_entry m (v * lookback m.parameters + s) ≡ unscaled m v s
    unfolding returns_entry
    unscaled_entry =
        let n = lookback m.parameters in
        rw (lt-ltb (v * n + s) (kind_size m) (omega (arith, row_room)), row_of v n s small, place_of v n s small)

    -- the entry of a scaled scenario
    pub scaled_entry_lem : returns_entry m (kind_size m + v * lookback m.parameters + s) ≡ scaled m v s
    unfolding returns_entry
    scaled_entry_lem =
        let n = lookback m.parameters in
        let back : kind_size m + v * n + s - kind_size m ≡ v * n + s = omega arith in
        rw (le-ltb (kind_size m + v * n + s) (kind_size m) (omega arith), back, row_of v n s small, place_of v n s small)

    module _ (old out : List ℤ) (is : out ≡ filled (returns_entry m) (returns_size m) old) where
      -- an unscaled scenario, read from the buffer
      pub unscaled_held : get_or out (v * lookback m.parameters + s) (pos 0) ≡ unscaled m v s
      unscaled_held = filled_read (returns_entry m) (returns_size m) old out (v * lookback m.parameters + s) (pos 0) is (omega (arith, row_room)) ∙ unscaled_entry

      -- a scaled scenario, read from the buffer
      pub scaled_held : get_or out (kind_size m + (v * lookback m.parameters + s)) (pos 0) ≡ scaled m v s
      scaled_held =
          let at : kind_size m + (v * lookback m.parameters + s) ≡ kind_size m + v * lookback m.parameters + s = omega arith in
          filled_read (returns_entry m) (returns_size m) old out (kind_size m + (v * lookback m.parameters + s)) (pos 0) is (omega (arith, row_room))
          ∙ (ap (returns_entry m) at ∙ scaled_entry_lem)
