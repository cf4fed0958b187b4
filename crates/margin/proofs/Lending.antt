-- The check of the lent buffers: what each refusal and a pass say.
-- Assumes nothing.
use Rattle.std.specs.Prelude.{if◌then◌else◌}
use Prim.Native.Nat.{ℕ, ◌*◌, ◌≤◌, ◌<◌}
use mathlib.Core.Path.{◌≡◌}
use native.Mathlib.Omega.{arith}
use borrow.Author.Tests.{leb-true, le-leb, lt-leb}
use lib.Dec.{leb}
use Rattle.numbers.specs.Findings.{Passed, Refused}
use Rattle.reading.specs.Book.{Market}
use Rattle.reading.specs.Parameters.{tail_count}
use Rattle.reading.specs.Vertices.{vertex_count}
use Rattle.reading.proofs.Forms.{passed_then}
use Rattle.scenarios.specs.Buffer.{kind_size, returns_size}
use Rattle.margin.specs.Check.{Lent, lent, check_buffers}

-- by the counts as they were read
module _ (m : Market) (e r l n : ℕ) (n_is : n ≡ vertex_count m.vertices) where
  -- the exposures are short
  pub short_exposures : e < n → Refused 22 0 ≡ check_buffers m (lent e r l)
  unfolding check_buffers
  short_exposures low = simp (lt-leb (vertex_count m.vertices) e (omega (arith, n_is)))

  module _ (room : n ≤ e) (half : ℕ) (half_is : half ≡ kind_size m) where
    -- the returns are
    pub short_returns : r < 2 * half → Refused 23 0 ≡ check_buffers m (lent e r l)
    unfolding check_buffers
    short_returns low =
        let less : r < returns_size m = rw (← half_is) low in
        simp (le-leb (vertex_count m.vertices) e (omega (arith, n_is)), lt-leb (returns_size m) r less)

    module _ (room₂ : 2 * half ≤ r) (k : ℕ) (k_is : k ≡ tail_count m.parameters) where
      fits : returns_size m ≤ r
      fits = rw (← half_is) room₂

      -- the list is
      pub short_list : l < 2 * k → Refused 24 0 ≡ check_buffers m (lent e r l)
      unfolding check_buffers
      short_list low =
          simp (le-leb (vertex_count m.vertices) e (omega (arith, n_is)), le-leb (returns_size m) r fits, lt-leb (2 * tail_count m.parameters) l (omega (arith, k_is)))

      -- none is
      pub none_short : 2 * k ≤ l → Passed ≡ check_buffers m (lent e r l)
      unfolding check_buffers
      none_short room₃ =
          simp (le-leb (vertex_count m.vertices) e (omega (arith, n_is)), le-leb (returns_size m) r fits, le-leb (2 * tail_count m.parameters) l (omega (arith, k_is)))

-- buffers that are long enough
pub record Fitting (m : Market) (b : Lent) : Type 0 where
  pub exposures : vertex_count m.vertices ≤ b.exposures
  pub returns : returns_size m ≤ b.returns
  pub list : 2 * tail_count m.parameters ≤ b.list

-- what a pass of 22 to 24 says
pub fitting : (m : Market) (b : Lent) → check_buffers m b ≡ Passed → Fitting m b
unfolding check_buffers
fitting m b e =
    let first = passed_then (leb (vertex_count m.vertices) b.exposures) (if leb (returns_size m) b.returns then (if leb (2 * tail_count m.parameters) b.list then Passed else Refused 24 0) else Refused 23 0) 22 0 e in
    let second = passed_then (leb (returns_size m) b.returns) (if leb (2 * tail_count m.parameters) b.list then Passed else Refused 24 0) 23 0 first.1 in
    let third = passed_then (leb (2 * tail_count m.parameters) b.list) Passed 24 0 second.1 in
    record {
      exposures = leb-true (vertex_count m.vertices) b.exposures first.0;
      returns = leb-true (returns_size m) b.returns second.0;
      list = leb-true (2 * tail_count m.parameters) b.list third.0;
    }
