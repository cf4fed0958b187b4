-- Laws of squares and of the whole square root.
-- Assumes nothing.
use Prim.Native.Nat.{ℕ, ◌+◌, ◌-◌, ◌*◌, ◌^◌, ◌≤◌, ◌<◌}
use mathlib.Core.Bool.{Bool}
use mathlib.Core.Path.{◌≡◌}
use native.Mathlib.Nat.{mul-add, add-mul, mul_comm, mul-le-mul, le-mul_of_pos_right}
use native.Mathlib.Omega.{arith}
use borrow.Author.Tests.{le-leb, leb-true, ltb-true, ltb-false}
use lib.Dec.{leb, ltb}
use Rattle.numbers.specs.Items.{last_where}
use Rattle.numbers.specs.Root.{IsRoot, root}
use Rattle.numbers.proofs.Items.{by_test}
use Rattle.numbers.proofs.Where.{last_holds}

-- ---- squares

-- the square of the difference d is what the two squares have more than twice the product
pub squares_apart : (a d : ℕ) → a * a + (a + d) * (a + d) ≡ 2 * (a * (a + d)) + d * d
squares_apart a d = omega (arith, mul-add (a + d) a d, add-mul a d a, add-mul a d d, mul-add a a d, mul_comm d a)

squares_by : (a d b : ℕ) → b ≡ a + d → 2 * (a * b) ≤ a * a + b * b
squares_by a d b is = rw is (omega (arith, squares_apart a d))

-- twice a product is at most the two squares
pub squares : (a b : ℕ) → 2 * (a * b) ≤ a * a + b * b
squares a b =
    by_test (ltb a b)
    (λ t. squares_by a (b - a) b (omega (arith, ltb-true a b t)))
    (λ f. omega (arith, squares_by b (a - b) a (omega (arith, ltb-false a b f)), mul_comm a b))

-- the smaller number's square is smaller
square_less : (a b : ℕ) → a < b → a * a < b * b
square_less a b h =
    let more : a + 1 ≤ b = omega arith in
    omega (arith, mul-le-mul more more, mul-add (a + 1) a 1, add-mul a 1 a)

-- the smaller square is the smaller number's
pub square_lt : (a b : ℕ) → a * a < b * b → a < b
square_lt a b h =
    by_test (ltb a b) (λ t. ltb-true a b t) (λ f. omega (arith, mul-le-mul (ltb-false a b f) (ltb-false a b f)))

-- the square is at most the other: so is the number
pub square_le : (a b : ℕ) → a * a ≤ b * b → a ≤ b
square_le a b h =
    by_test (ltb b a) (λ t. absurd (omega (arith, h, square_less b a (ltb-true b a t)))) (λ f. ltb-false b a f)

-- ---- the root

-- the root's square is at most n, and the next number's is past n
pub root_is : (n : ℕ) → IsRoot n (root n)
unfolding root
root_is n =
    let test : ℕ → Bool = λ r. leb (r * r) n in
    let r : ℕ = last_where test (n + 1) in
    let w = last_holds test (n + 1) 0 (omega arith) (le-leb 0 n (omega arith)) in
    record {
      low = leb-true (r * r) n w.0;
      high =
          by_test (ltb n ((r + 1) * (r + 1)))
          (λ t. ltb-true n ((r + 1) * (r + 1)) t)
          (λ f.
          let under : (r + 1) * (r + 1) ≤ n = ltb-false n ((r + 1) * (r + 1)) f in
          let item : r + 1 < n + 1 = omega (arith, le-mul_of_pos_right {m = r + 1} (r + 1) (omega arith)) in
          omega (arith, (last_holds test (n + 1) (r + 1) item (le-leb ((r + 1) * (r + 1)) n under)).2));
    }

-- a number whose square is at most n is at most the root
pub root_least : (n x : ℕ) → x * x ≤ n → x ≤ root n
root_least n x h = omega (arith, square_lt x (root n + 1) (omega (arith, (root_is n).high)))

-- a number whose square is at least n is at least the root
pub root_bound : (n x : ℕ) → n ≤ x * x → root n ≤ x
root_bound n x h =
    by_test (ltb x (root n))
    (λ t.
    let more : x + 1 ≤ root n = omega (arith, ltb-true x (root n) t) in
    omega (arith, (root_is n).low, mul-le-mul more more, mul-add (x + 1) x 1, add-mul x 1 x))
    (λ f. ltb-false x (root n) f)

-- there is one root
pub root_only : (n r : ℕ) → IsRoot n r → r ≡ root n
root_only n r is =
    omega (arith, root_least n r is.low, square_lt (root n) (r + 1) (omega (arith, (root_is n).low, is.high)))

-- the root of a number of 64 bits has 32
pub root_fits : (n : ℕ) → n < 2 ^ 64 → root n < 2 ^ 32
root_fits n fits = square_lt (root n) (2 ^ 32) (omega (arith, (root_is n).low))

-- a root of at most 10^8
pub root_short : (n : ℕ) → n ≤ 10000000000000000 → root n ≤ 100000000
root_short n most = root_bound n 100000000 (omega (arith, most))

-- ---- the root or one more

-- x is the root of n or one more
pub record AtRoot (n x : ℕ) : Type 0 where
  pub low : root n ≤ x
  pub high : x ≤ root n + 1

-- its square is past n: the root is one less
pub settle_less : (n x : ℕ) → AtRoot n x → n < x * x → x - 1 ≡ root n
settle_less n x at less =
    let past : root n < x = square_lt (root n) x (omega (arith, (root_is n).low)) in
    omega (arith, at.high)

-- its square is not past n: it is the root
pub settle_here : (n x : ℕ) → AtRoot n x → x * x ≤ n → x ≡ root n
settle_here n x at low = omega (arith, root_least n x low, at.low)
