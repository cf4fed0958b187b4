-- Contracts between functions: what the passes of the code ask for and leave, and what a book that passed keeps, as plain facts.
-- No definition or statement of another file here needs it.
use Rattle.std.specs.Prelude.{ℕ, ◌+◌, ◌-◌, ◌*◌, ◌≤◌, ◌<◌, ◌≡◌, Bool, true, ◌&&◌, List, leb, eqb, ℤ, pos, nat_abs, length, get_or, if◌then◌else◌}
use Rattle.numbers.specs.Conditions.{In}
use Rattle.numbers.specs.Buffers.{part_of, filled}
use Rattle.numbers.specs.Items.{every}
use Rattle.numbers.specs.Root.{root}
use Rattle.reading.specs.Parameters.{holding_period, smoothing, history, lookback}
use Rattle.reading.specs.Prices.{price_entry}
use Rattle.reading.specs.InnerContracts.{SoundParameters, Sound}
use Rattle.reading.specs.Book.{Market}
use Rattle.reading.specs.Vertices.{vertex_count}
use Rattle.scenarios.specs.Returns.{return_from, return_count, in_range, return_at}
use Rattle.scenarios.specs.Scaled.{scaled_of, unscaled, scaled}
use Rattle.scenarios.specs.Volatility.{own_variance, next_variance, variance}
use Rattle.scenarios.specs.Check.{series_good}

-- ---- a vertex's prices

-- the prices of vertex v, `n` of them, as bytes
unfoldable pub path_of : List ℕ → ℕ → ℕ → List ℕ
path_of prices n v = part_of prices (4 * (v * n)) (4 * n)

-- the returns of a vertex's own prices
abbrev pub returns_on : List ℕ → List ℕ → ℕ → ℤ
returns_on p path = return_from (price_entry path) (holding_period p)

-- a vertex's own prices, as many as the parameters say, in their range
pub record SoundHistory (p path : List ℕ) : Type 0 where
  pub parameters : SoundParameters p
  pub size : length path ≡ 4 * history p
  pub price_in : (j : ℕ) → j < history p → In 1 2000000 (price_entry path j)

-- ---- a calm vertex

-- a vertex is calm where no return's size, in millionths, is above 10,000 times the root of what a return's own square weighs
-- in its variance
unfoldable pub calm_bound : ℕ → ℕ
calm_bound factor = 10000 * root (10 * (1000 - factor))

-- a price within bound millionths of an earlier one
abbrev pub calm_move : ℕ → ℕ → ℕ → Bool
calm_move bound earlier later = leb (later * 1000000) (earlier * (1000000 + bound)) && leb (earlier * (1000000 - bound)) (later * 1000000)

-- each of n prices is, of the price hp entries before it
unfoldable pub is_calm : ℕ → (ℕ → ℕ) → ℕ → ℕ → Bool
is_calm bound prices hp n = every (λ j. calm_move bound (prices j) (prices (j + hp))) n

-- ---- its returns and variances

-- the variance of return j from the variance before it; the first return has none before it
abbrev pub step_variance : ℕ → ℕ → ℕ → ℤ → ℕ
step_variance factor j before z = if eqb j 0 then own_variance z else next_variance factor before z

-- what a pass over n returns leaves in a buffer: whether each f 0 .. f (n − 1) lies in its range, and where it does, these
pub record Filled (good : Bool) (f : ℕ → ℤ) (n : ℕ) (out₀ out : List ℤ) : Type 0 where
  pub whether : good ≡ every (λ s. in_range (f s)) n
  pub are : good ≡ true → out ≡ filled f n out₀

-- the same of n returns and their variances, in two buffers
pub record Stored (good : Bool) (factor : ℕ) (r : ℕ → ℤ) (n : ℕ) (returns₀ returns : List ℤ) (variances₀ variances : List ℕ) : Type 0 where
  pub returns_are : Filled good r n returns₀ returns
  pub variances_are : good ≡ true → variances ≡ filled (variance factor r) n variances₀

-- all returns of a vertex, in their range, with their variances
pub record Held (p : List ℕ) (returns : List ℤ) (variances : List ℕ) : Type 0 where
  pub return_in : (j : ℕ) → j < return_count p → nat_abs (get_or returns j (pos 0)) ≤ 1000000
  pub variance_is : (j : ℕ) → j < return_count p → get_or variances j 0 ≡ variance (smoothing p) (λ i. get_or returns i (pos 0)) j

-- ---- its scaled scenarios

-- what entry s of a vertex's returns and of their variances comes to, scaled
abbrev pub scaled_entry : List ℤ → List ℕ → ℕ → ℕ → ℤ
scaled_entry returns variances newest s = scaled_of (get_or returns s (pos 0)) newest (root (get_or variances s 0))

-- returns and variances in their ranges, and room for as many entries
pub record Scalable (returns : List ℤ) (variances : List ℕ) (newest : ℕ) (out : List ℤ) : Type 0 where
  pub size_in : length returns ≤ 1280
  pub variances_size : length variances ≡ length returns
  pub out_size : length returns ≤ length out
  pub return_in : (s : ℕ) → s < length returns → nat_abs (get_or returns s (pos 0)) ≤ 1000000
  pub variance_in : (s : ℕ) → s < length returns → get_or variances s 0 ≤ 10000000000000000
  pub newest_in : newest ≤ 100000000

-- ---- a book that passed

-- 3 to 13, and 21
pub record Simulated (m : Market) : Type 0 where
  pub market : Sound m
  pub series : (v : ℕ) → v < vertex_count m.vertices → series_good m.parameters (return_at m v) ≡ true
  pub return_in : (v j : ℕ) → v < vertex_count m.vertices → j < return_count m.parameters → nat_abs (return_at m v j) ≤ 1000000
  pub unscaled_in : (v s : ℕ) → v < vertex_count m.vertices → s < lookback m.parameters → nat_abs (unscaled m v s) ≤ 1000000
  pub scaled_in : (v s : ℕ) → v < vertex_count m.vertices → s < lookback m.parameters → nat_abs (scaled m v s) ≤ 1000000
