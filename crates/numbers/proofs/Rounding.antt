-- Laws of rounding n / d to a whole number: down, nearest with halves up, nearest with halves down, and up.
-- Assumes nothing.
use Prim.Native.Nat.{ℕ, zero, suc, ◌+◌, ◌-◌, ◌*◌, ◌/◌, ◌%◌, ◌≤◌, ◌<◌}
use mathlib.Core.Path.{◌≡◌, refl, sym, ap}
use native.Mathlib.Omega.{arith}
use native.Mathlib.Nat.{add-zero, mul-add, add-mul, mul_assoc, mul_comm, mul_right_comm, mul-div-le, lt-mul-div-succ, lt_of_mul-lt-mul_left, div-add-mod, div-add-mod', div-eq_of_lt-le, div-eq_of_lt, mod-lt, le-mul_of_pos_right, mul-add-div_right, div-zero, le-div_iff_mul-le, div-mul-le_self, div-le_of_le-mul, mul-le-mul_left, le_trans}
use Rattle.std.specs.Int.{div_ceil}
use Rattle.std.specs.Prelude.{min}
use Rattle.std.proofs.Math.Nat.{min-zero, min-eq_left}
use Rattle.numbers.specs.Rounding.{nearest, nearest_down, ceiling}

-- q is m / d where d·q ≤ m < d·(q + 1)
pub quotient_is : (m d q : ℕ) → d * q ≤ m → m < d * (q + 1) → m / d ≡ q
quotient_is m d q low high = div-eq_of_lt-le d (rw (mul_comm q d) low) (rw (mul_comm (q + 1) d) high)

-- a quotient with a rest is below the number, so that one more is at most the number
pub quotient_below : (n d : ℕ) → 0 < d → 0 < n % d → n / d < n
quotient_below n d pos rest = omega (arith, div-add-mod' n d, le-mul_of_pos_right (n / d) pos)

-- a larger number has no smaller floor
pub floor_mono : (a b d : ℕ) → a ≤ b → a / d ≤ b / d
floor_mono a b zero h = omega (arith, div-zero a)
floor_mono a b (suc d) h = (le-div_iff_mul-le {k = suc d} (omega arith)).1 (le_trans (div-mul-le_self a (suc d)) h)

-- x · w / d is at most x where w is at most d
pub floor_weighted : (x w d : ℕ) → w ≤ d → x * w / d ≤ x
floor_weighted x w d h = div-le_of_le-mul d (rw (mul_comm d x) (mul-le-mul_left x h))

-- ---- nearest, halves up

-- q = nearest n d satisfies 2·d·q ≤ 2·n + d < 2·d·(q + 1)
pub nearest_is : (n d : ℕ) → 0 < d → (2 * d * nearest n d ≤ 2 * n + d) × (2 * n + d < 2 * d * (nearest n d + 1))
unfolding nearest
nearest_is n d pos = (mul-div-le (2 * n + d) (2 * d), lt-mul-div-succ (2 * n + d) (omega arith))

-- any q with these bounds is nearest n d
pub nearest_only : (n d q : ℕ) → 2 * d * q ≤ 2 * n + d → 2 * n + d < 2 * d * (q + 1) → nearest n d ≡ q
unfolding nearest
nearest_only n d q low high = quotient_is (2 * n + d) (2 * d) q low high

-- the rest is half of d or more: one up
pub nearest_up : (n d : ℕ) → 0 < d → d ≤ 2 * (n % d) → nearest n d ≡ n / d + 1
nearest_up n d pos half =
    nearest_only n d (n / d + 1)
    (omega (arith, div-add-mod n d, mul_assoc 2 d (n / d + 1), mul-add d (n / d) 1))
    (omega (arith, div-add-mod n d, mod-lt n pos, mul_assoc 2 d (n / d + 1 + 1), mul-add d (n / d + 1) 1, mul-add d (n / d) 1))

-- the rest is less than half of d: the quotient stays
pub nearest_stays : (n d : ℕ) → 0 < d → 2 * (n % d) < d → nearest n d ≡ n / d
nearest_stays n d pos half =
    nearest_only n d (n / d)
    (omega (arith, div-add-mod n d, mul_assoc 2 d (n / d)))
    (omega (arith, div-add-mod n d, mul_assoc 2 d (n / d + 1), mul-add d (n / d) 1))

-- m is at least n / d: it is at least the nearest whole number
pub nearest-le : (n d m : ℕ) → 0 < d → n ≤ m * d → nearest n d ≤ m
nearest-le n d m pos h =
    let below : 2 * d * nearest n d < 2 * d * (m + 1) =
    omega (arith, nearest_is n d pos, mul_assoc 2 d (m + 1), mul-add d m 1, mul_comm m d) in
    let q : nearest n d < m + 1 = lt_of_mul-lt-mul_left (2 * d) below in
    omega arith

-- a larger number has no smaller nearest
pub nearest_mono : (a b d : ℕ) → 0 < d → a ≤ b → nearest a d ≤ nearest b d
nearest_mono a b d pos h =
    let below : 2 * d * nearest a d < 2 * d * (nearest b d + 1) =
    omega (arith, nearest_is a d pos, nearest_is b d pos) in
    let q : nearest a d < nearest b d + 1 = lt_of_mul-lt-mul_left (2 * d) below in
    omega arith

-- an exact multiple is its own nearest
pub nearest_exact : (m d : ℕ) → 0 < d → nearest (m * d) d ≡ m
nearest_exact m d pos =
    nearest_only (m * d) d m
    (omega (arith, mul_assoc 2 d m, mul_comm m d))
    (omega (arith, mul_assoc 2 d (m + 1), mul-add d m 1, mul_comm m d))

-- nearest of 0
pub nearest_zero : (d : ℕ) → nearest 0 d ≡ 0
unfolding nearest
nearest_zero zero = refl
nearest_zero (suc d) = div-eq_of_lt (omega arith)

-- nearest is at most n
pub nearest_below : (n d : ℕ) → 0 < d → nearest n d ≤ n
nearest_below n d pos = nearest-le n d n pos (le-mul_of_pos_right n pos)

-- ---- nearest, halves down

-- q = nearest_down n d satisfies 2·d·q ≤ 2·n + (d − 1) < 2·d·(q + 1)
pub nearest_down_is : (n d : ℕ) → 0 < d → (2 * d * nearest_down n d ≤ 2 * n + (d - 1)) × (2 * n + (d - 1) < 2 * d * (nearest_down n d + 1))
unfolding nearest_down
nearest_down_is n d pos = (mul-div-le (2 * n + (d - 1)) (2 * d), lt-mul-div-succ (2 * n + (d - 1)) (omega arith))

-- any q with these bounds is nearest_down n d
pub nearest_down_only : (n d q : ℕ) → 2 * d * q ≤ 2 * n + (d - 1) → 2 * n + (d - 1) < 2 * d * (q + 1) → nearest_down n d ≡ q
unfolding nearest_down
nearest_down_only n d q low high = quotient_is (2 * n + (d - 1)) (2 * d) q low high

-- the rest is more than half of d: one up
pub nearest_down_up : (n d : ℕ) → 0 < d → d < 2 * (n % d) → nearest_down n d ≡ n / d + 1
nearest_down_up n d pos half =
    nearest_down_only n d (n / d + 1)
    (omega (arith, div-add-mod n d, mul_assoc 2 d (n / d + 1), mul-add d (n / d) 1))
    (omega (arith, div-add-mod n d, mod-lt n pos, mul_assoc 2 d (n / d + 1 + 1), mul-add d (n / d + 1) 1, mul-add d (n / d) 1))

-- the rest is half of d or less: the quotient stays
pub nearest_down_stays : (n d : ℕ) → 0 < d → 2 * (n % d) ≤ d → nearest_down n d ≡ n / d
nearest_down_stays n d pos half =
    nearest_down_only n d (n / d)
    (omega (arith, div-add-mod n d, mul_assoc 2 d (n / d)))
    (omega (arith, div-add-mod n d, mul_assoc 2 d (n / d + 1), mul-add d (n / d) 1))

-- ---- rounding up

-- q = ceiling n d satisfies d·q ≤ n + (d − 1) < d·(q + 1)
pub ceiling_is : (n d : ℕ) → 0 < d → (d * ceiling n d ≤ n + (d - 1)) × (n + (d - 1) < d * (ceiling n d + 1))
unfolding ceiling
ceiling_is n d pos = (mul-div-le (n + (d - 1)) d, lt-mul-div-succ (n + (d - 1)) pos)

-- any q with these bounds is ceiling n d
pub ceiling_only : (n d q : ℕ) → d * q ≤ n + (d - 1) → n + (d - 1) < d * (q + 1) → ceiling n d ≡ q
unfolding ceiling
ceiling_only n d q low high = quotient_is (n + (d - 1)) d q low high

-- there is a rest: one up
pub ceiling_up : (n d : ℕ) → 0 < d → 0 < n % d → ceiling n d ≡ n / d + 1
ceiling_up n d pos rest =
    ceiling_only n d (n / d + 1)
    (omega (arith, div-add-mod n d, mul-add d (n / d) 1))
    (omega (arith, div-add-mod n d, mod-lt n pos, mul-add d (n / d + 1) 1, mul-add d (n / d) 1))

-- there is no rest: the quotient stays
pub ceiling_stays : (n d : ℕ) → 0 < d → n % d ≡ 0 → ceiling n d ≡ n / d
ceiling_stays n d pos none =
    ceiling_only n d (n / d)
    (omega (arith, div-add-mod n d))
    (omega (arith, div-add-mod n d, mul-add d (n / d) 1))

-- it is the quotient, and one up where there is a rest
pub ceiling_steps : (n d : ℕ) → 0 < d → div_ceil n d ≡ ceiling n d
ceiling_steps n d pos = steps (n % d) refl
  where
    steps : (r : ℕ) → r ≡ n % d → n / d + min 1 r ≡ ceiling n d
    steps zero is = rw (min-zero 1, add-zero (n / d)) (sym (ceiling_stays n d pos (sym is)))
    steps (suc r) is = rw (min-eq_left {n = 1} {m = suc r} (omega arith)) (sym (ceiling_up n d pos (omega (arith, is))))

-- n is covered by as many d as its ceiling says
pub ceiling_covers : (n d : ℕ) → 0 < d → n ≤ ceiling n d * d
ceiling_covers n d pos =
    omega (arith, ceiling_is n d pos, mul-add d (ceiling n d) 1, mul_comm d (ceiling n d))

-- the ceiling is the least number that covers: q covers n, so the ceiling is at most q
pub ceiling-le : (n d q : ℕ) → 0 < d → n ≤ q * d → ceiling n d ≤ q
ceiling-le n d q pos h =
    let below : d * ceiling n d < d * (q + 1) =
    omega (arith, ceiling_is n d pos, mul-add d q 1, mul_comm q d) in
    let z : ceiling n d < q + 1 = lt_of_mul-lt-mul_left d below in
    omega arith

-- a larger number has no smaller ceiling
pub ceiling_mono : (a b d : ℕ) → 0 < d → a ≤ b → ceiling a d ≤ ceiling b d
ceiling_mono a b d pos h = ceiling-le a d (ceiling b d) pos (omega (arith, ceiling_covers b d pos))

-- the ceiling of a sum is at most the ceilings' sum
pub ceiling-add : (a b d : ℕ) → 0 < d → ceiling (a + b) d ≤ ceiling a d + ceiling b d
ceiling-add a b d pos =
    ceiling-le (a + b) d (ceiling a d + ceiling b d) pos
    (omega (arith, ceiling_covers a d pos, ceiling_covers b d pos, add-mul (ceiling a d) (ceiling b d) d))

-- ---- products that do not fit

-- x·p + u divided by m, from x / m and x % m, so that no product is larger than it must be
pub wide_div : (x p u m : ℕ) → 0 < m → (x * p + u) / m ≡ x / m * p + (x % m * p + u) / m
wide_div x p u m pos =
    let whole : x * p + u ≡ x / m * p * m + (x % m * p + u) =
    omega
    (arith, ap (λ (z : ℕ). z * p) (div-add-mod' x m), add-mul (x / m * m) (x % m) p, mul_right_comm (x / m) m p) in
    rw whole (mul-add-div_right pos (x / m * p) (x % m * p + u))
