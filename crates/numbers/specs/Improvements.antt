-- Document 02, W3: the whole root by improvements of a guess.
use Rattle.std.specs.Prelude.{ℕ, zero, suc, ◌+◌, ◌-◌, ◌*◌, ◌/◌, ◌^◌, ◌≤◌, ◌≡◌, List, ltb, if◌then◌else◌}
use Rattle.std.specs.Int.Count.{count_leading_zeros}
use Rattle.numbers.specs.Buffers.{table}
use Rattle.numbers.specs.Root.{root}
use Rattle.numbers.specs.Rounding.{ceiling}

-- "start each from a guess by the variance's count of leading zeros": of its 64 bits, in pairs
abbrev pub zero_pairs : ℕ → ℕ
zero_pairs n = count_leading_zeros 64 n / 2

-- they give a power of two p: p² ≤ n < 4·p², for n of 64 bits but 0
unfoldable pub scale : ℕ → ℕ
scale n = 2 ^ (31 - zero_pairs n)

-- and how many whole 64ths of p² are in n: its piece, 64 to 255 for such n
unfoldable pub piece : ℕ → ℕ
piece n = 64 * n / (scale n * scale n)

-- where p is 1: the middle of piece i, (2·i + 1) / 128, times 2^48
abbrev pub middle : ℕ → ℕ
middle i = (2 * i + 1) * 2 ^ 41

-- its root times 2^24, rounded down
unfoldable pub middle_root : ℕ → ℕ
middle_root i = root (middle i)

-- and the reciprocal of that root times 2^24, rounded up
unfoldable pub reciprocal : ℕ → ℕ
reciprocal i = ceiling (2 ^ 48) (middle_root i)

-- the two of each of the 192 pieces
abbrev pub tangent : ℕ → ℕ × ℕ
tangent i = (middle_root i, reciprocal i)

abbrev pub tangents : List (ℕ × ℕ)
tangents = table tangent 192 64

-- the guess: the tangent of the root at the middle of n's piece, which is the mean of c and n / c where c is the root of the middle. With
-- nothing rounded down it would lie above n's root by less than a 50,000th. 0 and 1 are their own guesses
unfoldable pub guess : ℕ → ℕ
guess n = (middle_root (piece n) * scale n + reciprocal (piece n) * (n / scale n)) / 2 ^ 25

-- "and improve it from there": an improvement "of one division" is the mean of x and n / x, rounded down
abbrev pub improvement : ℕ → ℕ → ℕ
improvement n x = (x + n / x) / 2

-- j improvements, from x on
unfoldable pub improvements : ℕ → ℕ → ℕ → ℕ
improvements n zero x = x
improvements n (suc j) x = improvement n (improvements n j x)

-- at most so many improvements of n's guess reach the whole root, exactly
pub record ReachedWithin (most n : ℕ) : Type 0 where
  pub times : ℕ
  pub few : times ≤ most
  pub reaches : improvements n times (guess n) ≡ root n

-- "at most eight improvements, of one division each, reach it for every variance up to 10^16"
abbrev pub EightImprovements : Type 0
EightImprovements = (n : ℕ) → n ≤ 10000000000000000 → ReachedWithin 8 n

-- two do, and one does not: not of 2^44 − 1
pub record LeastImprovements : Type 0 where
  pub two : (n : ℕ) → n ≤ 10000000000000000 → ReachedWithin 2 n
  pub not_one : ReachedWithin 1 17592186044415 → ⊥

-- ---- a comparison in place of the last improvement

-- what a comparison takes off x: 1 where its square is past n, else 0
abbrev pub compared : ℕ → ℕ → ℕ
compared n x = if ltb n (x * x) then 1 else 0

-- what it leaves of j improvements of n's guess
abbrev pub settled_after : ℕ → ℕ → ℕ
settled_after j n = improvements n j (guess n) - compared n (improvements n j (guess n))

-- that is the root; and where the comparison takes 1 off, j + 1 improvements come to the root, and else j do
pub record Settled (j n : ℕ) : Type 0 where
  pub left : settled_after j n ≡ root n
  pub improved : improvements n (j + compared n (improvements n j (guess n))) (guess n) ≡ root n
