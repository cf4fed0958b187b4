-- A test of a range.
use Rattle.std.specs.Prelude.{Bool, ◌&&◌, ℕ, ◌≤◌, leb}

-- x lies in low..high, both ends included
abbrev pub within : ℕ → ℕ → ℕ → Bool
within low high x = leb low x && leb x high

-- low ≤ x ≤ high
abbrev pub In : ℕ → ℕ → ℕ → Type 0
In low high x = (low ≤ x) × (x ≤ high)
