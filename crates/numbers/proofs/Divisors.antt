-- Laws of a quotient by a prepared divisor d: i is the largest number below p, divided by d, and q is n · i / p. It is n / d, or one less.
-- Assumes nothing.
use Prim.Native.Nat.{ℕ, ◌+◌, ◌-◌, ◌*◌, ◌/◌, ◌≤◌, ◌<◌}
use mathlib.Core.Path.{◌≡◌, sym, ap, ◌∙◌}
use native.Mathlib.Omega.{arith}
use native.Mathlib.Nat.{mul-add, add-mul, mul_assoc, mul_comm, mul-div-le, lt-mul-div-succ, mul-le-mul_left, mul-le-mul_right, le_of_mul-le-mul_left, lt_of_mul-lt-mul_left}
use Rattle.numbers.proofs.Rounding.{quotient_is}

module _ (p n d : ℕ) (below : n < p) (some : 1 ≤ d) where
  abbrev pub inverse : ℕ
  inverse = (p - 1) / d

  abbrev pub near : ℕ
  near = n * inverse / p

  product : n * inverse * d ≡ n * (d * inverse)
  product = mul_assoc n inverse d ∙ ap (λ (x : ℕ). n * x) (mul_comm inverse d)

  -- not too large
  pub near_low : near * d ≤ n
  near_low =
      le_of_mul-le-mul_left {k = p}
      (omega (
        arith,
        mul_assoc p near d,
        mul-le-mul_right d (mul-div-le (n * inverse) p),
        product,
        mul-le-mul_left n (mul-div-le (p - 1) d),
        mul-le-mul_left n (let h : p - 1 ≤ p = omega arith in h),
        mul_comm n p,
      ))
      (omega arith)

  -- and at most one too small
  near_high : n < (near + 2) * d
  near_high =
      lt_of_mul-lt-mul_left p
      (omega (
        arith,
        mul-le-mul_left n (let h : p ≤ d * (inverse + 1) = omega (arith, lt-mul-div-succ (p - 1) some) in h),
        mul_comm n p,
        mul-add d inverse 1,
        mul-add n (d * inverse) d,
        product,
        mul-le-mul_right d (let h : n * inverse + 1 ≤ p * (near + 1) = omega (arith, lt-mul-div-succ (n * inverse) (let h : 0 < p = omega arith in h)) in h),
        add-mul (n * inverse) 1 d,
        mul-le-mul_right d (let h : n + 1 ≤ p = omega (arith, below) in h),
        add-mul n 1 d,
        mul_assoc p (near + 1) d,
        add-mul (near + 1) 1 d,
        mul-add p ((near + 1) * d) d,
      ))

  -- the rest is below the divisor: that is the quotient
  pub near_exact : n - near * d < d → near ≡ n / d
  near_exact low =
      sym (quotient_is n d near (omega (arith, near_low, mul_comm near d)) (omega (arith, near_low, mul_comm near d, mul-add d near 1)))

  -- else one more is
  pub near_less : d ≤ n - near * d → near + 1 ≡ n / d
  near_less high =
      sym
      (quotient_is n d (near + 1) (omega (arith, near_low, mul_comm near d, mul-add d near 1))
      (omega (arith, near_high, mul_comm (near + 1 + 1) d, add-mul (near + 1) 1 d, add-mul near 2 d, mul-add d (near + 1) 1, mul_comm (near + 2) d)))
