-- The add-on, M and the margin in euros over plain numbers: they are no larger for a whole than for two parts together, and M lies
-- between T and U.
-- Assumes nothing.
use Prim.Native.Nat.{ℕ, ◌+◌, ◌-◌, ◌*◌, ◌≤◌, max}
use native.Mathlib.Nat.{mul-add, mul-le-mul_left, mul-le-mul_right, le_trans}
use native.Mathlib.Omega.{arith}
use Rattle.numbers.specs.Rounding.{ceiling}
use Rattle.numbers.proofs.Rounding.{ceiling-le, ceiling_mono, ceiling-add}
use Rattle.margin.specs.Figures.{add_on, euros_of}

-- ---- the add-on

-- D is at most U − T
pub add_on_within : (p t u : ℕ) → add_on p t u ≤ u - t
unfolding add_on
add_on_within p t u =
    let percent : 100 - p ≤ 100 = omega arith in
    ceiling-le ((100 - p) * (u - t)) 100 (u - t) (omega arith) (omega (arith, mul-le-mul_right (u - t) percent))

-- M is at most U where T is
pub total_within : (p t u : ℕ) → t ≤ u → t + add_on p t u ≤ u
total_within p t u le = omega (arith, add_on_within p t u)

-- a whole whose T and U are at most the sums of two parts': t₁, u₁ and t₂, u₂
module _ (p t u t₁ u₁ t₂ u₂ : ℕ) (tails : t ≤ t₁ + t₂) (undiversifieds : u ≤ u₁ + u₂) (le₁ : t₁ ≤ u₁) (le₂ : t₂ ≤ u₂) where
  -- D is at most the parts' D and what T falls short of the parts' T
  pub add_on_of_parts : add_on p t u ≤ t₁ + t₂ - t + (add_on p t₁ u₁ + add_on p t₂ u₂)
  unfolding add_on
  add_on_of_parts =
      let q = 100 - p in
      let s = t₁ + t₂ - t in
      let d₁ = u₁ - t₁ in
      let d₂ = u₂ - t₂ in
      let percent : q ≤ 100 = omega arith in
      let apart : u - t ≤ s + (d₁ + d₂) = omega arith in
      let short : ceiling (q * s) 100 ≤ s = ceiling-le (q * s) 100 s (omega arith) (omega (arith, mul-le-mul_right s percent)) in
      let all : q * (u - t) ≤ q * s + (q * d₁ + q * d₂) = omega (arith, mul-le-mul_left q apart, mul-add q s (d₁ + d₂), mul-add q d₁ d₂) in
      omega (
        arith,
        ceiling_mono (q * (u - t)) (q * s + (q * d₁ + q * d₂)) 100 (omega arith) all,
        ceiling-add (q * s) (q * d₁ + q * d₂) 100 (omega arith),
        ceiling-add (q * d₁) (q * d₂) 100 (omega arith),
      )

  -- M is at most the sum of the parts' M
  pub total_of_parts : t + add_on p t u ≤ t₁ + add_on p t₁ u₁ + (t₂ + add_on p t₂ u₂)
  total_of_parts = omega (arith, add_on_of_parts)

-- ---- the margin in euros

-- the larger of two sums is at most the sum of the larger ones
pub max_of_sums : (a b c d : ℕ) → max (a + b) (c + d) ≤ max a c + max b d
max_of_sums a b c d = omega arith

-- the margin of a whole whose M of each kind are at most the sums of two parts' is at most the sum of theirs
pub euros_of_parts : (k one other one₁ other₁ one₂ other₂ : ℕ) → 1 ≤ k → one ≤ one₁ + one₂ → other ≤ other₁ + other₂
    → euros_of k one other ≤ euros_of k one₁ other₁ + euros_of k one₂ other₂
unfolding euros_of
euros_of_parts k one other one₁ other₁ one₂ other₂ some le le' =
    let larger : max one other ≤ max one₁ other₁ + max one₂ other₂ = omega (arith, max_of_sums one₁ one₂ other₁ other₂) in
    le_trans
    (ceiling_mono (max one other) (max one₁ other₁ + max one₂ other₂) (k * 1000000) (omega arith) larger)
    (ceiling-add (max one₁ other₁) (max one₂ other₂) (k * 1000000) (omega arith))
