-- Rounding of n / d to a whole number, and signed numbers by sign and size.
use Rattle.std.specs.Prelude.{ℕ, ◌+◌, ◌-◌, ◌*◌, ◌/◌, Bool, true, false, eqb, ℤ, pos, negsuc, neg_ℤ, nat_abs}

-- "Nearest" means nearest whole number, halves away from zero: here of numbers that are not negative
unfoldable pub nearest : ℕ → ℕ → ℕ
nearest n d = (2 * n + d) / (2 * d)

-- nearest whole number, halves DOWN
unfoldable pub nearest_down : ℕ → ℕ → ℕ
nearest_down n d = (2 * n + (d - 1)) / (2 * d)

-- n / d rounded up
unfoldable pub ceiling : ℕ → ℕ → ℕ
ceiling n d = (n + (d - 1)) / d

-- below zero
unfoldable pub negative : ℤ → Bool
negative (pos n) = false
negative (negsuc n) = true

-- the same signed number
unfoldable pub equal_z : ℤ → ℤ → Bool
equal_z (pos a) (pos b) = eqb a b
equal_z (pos a) (negsuc b) = false
equal_z (negsuc a) (pos b) = false
equal_z (negsuc a) (negsuc b) = eqb a b

-- the size n, negated where the sign says so
unfoldable pub with_sign : Bool → ℕ → ℤ
with_sign true n = neg_ℤ (pos n)
with_sign false n = pos n

-- nearest of a signed number, halves away from zero: rounded on its size, the sign put back
unfoldable pub nearest_z : ℤ → ℕ → ℤ
nearest_z z d = with_sign (negative z) (nearest (nat_abs z) d)
