-- Laws of the improvements by which a root is found (document 02, W3).
-- Assumes nothing.
use Prim.Native.Nat.{ℕ, zero, suc, ◌+◌, ◌-◌, ◌*◌, ◌/◌, ◌^◌, ◌≤◌, ◌<◌}
use mathlib.Core.Path.{◌≡◌, sym, ap, ◌∙◌, subst}
use native.Mathlib.Nat.{mul-add, add-mul, mul_assoc, mul_comm, mul-mul-mul_comm, mul-sub, mul-le-mul, mul-le-mul_left, mul-le-mul_right, le_of_mul-le-mul_left, mul-div-le, le-div_iff_mul-le, mul_left_comm, div-lt_iff_lt-mul, add-zero, sub-zero}
use native.Mathlib.Omega.{arith}
use borrow.Author.Tests.{ltb-true, ltb-false}
use native.Mathlib.Numerals.{add-one}
use lib.Count.{count_leading_zeros}
use lib.Dec.{ltb}
use Rattle.numbers.specs.Root.{IsRoot, root}
use Rattle.numbers.specs.Rounding.{ceiling}
use Rattle.numbers.specs.Improvements.{scale, piece, middle, middle_root, reciprocal, guess, improvement, improvements, ReachedWithin, EightImprovements, LeastImprovements, compared, Settled}
use Rattle.numbers.proofs.Items.{by_test}
use Rattle.numbers.proofs.Roots.{AtRoot, squares, squares_apart, square_lt, root_is, root_least, root_only, root_fits, settle_less, settle_here}
use Rattle.numbers.proofs.CloseGuess.{Close, close_guess, guess_own}

-- ---- one improvement

-- an improvement is no less than the root
improvement_low : (n r x : ℕ) → 0 < x → r * r ≤ n → r ≤ improvement n x
improvement_low n r x pos h =
    let times : (2 * r - x) * x ≤ n =
    omega (arith, squares r x, mul_comm (2 * r - x) x, mul-sub x (2 * r) x, mul_left_comm x 2 r, mul_comm x r) in
    let share : 2 * r - x ≤ n / x = (le-div_iff_mul-le pos).1 times in
    omega arith

-- x times twice its improvement is at most x² + n
improvement_high : (n x : ℕ) → 2 * (x * improvement n x) ≤ x * x + n
improvement_high n x =
    let twice : 2 * improvement n x ≤ x + n / x = omega arith in
    omega
    (arith, mul-le-mul_left x twice, mul-add x x (n / x), mul_left_comm x 2 (improvement n x), mul-div-le n x)

-- one more than the root is improved to the root, exactly
one_more_improved : (n x : ℕ) → x ≡ root n + 1 → improvement n x ≡ root n
one_more_improved n x is =
    let pos : 0 < x = omega arith in
    let under : n < x * x = rw is (root_is n).high in
    let share : n / x < x = (div-lt_iff_lt-mul pos).1 under in
    omega (arith, improvement_low n (root n) x pos (root_is n).low)

-- x is no less than the root r, and past r + 1 by at most an a-th of it
record Near (r a x : ℕ) : Type 0 where
  low : r ≤ x
  high : a * x ≤ (a + 1) * (r + 1)

-- what is at most r + 1 is not past it
near_under : (r b y : ℕ) → y ≤ r + 1 → b * y ≤ (b + 1) * (r + 1)
near_under r b y h = omega (arith, mul-le-mul_left b h, add-mul b 1 (r + 1))

-- e past s after an improvement of x, past s by d: 2·x·e is at most d², so that e is at most a (2·a²)-th of s where d is at most an a-th
past_close : (s a x d e : ℕ) → 0 < s → a * d ≤ s → s ≤ x → 2 * (x * e) ≤ d * d → 2 * (a * a) * e ≤ s
past_close s a x d e pos part low less =
    let scaled : a * a * (2 * (x * e)) ≤ a * a * (d * d) = mul-le-mul_left (a * a) less in
    let under : (2 * (a * a) * e) * s ≤ (2 * (a * a) * e) * x = mul-le-mul_left (2 * (a * a) * e) low in
    let right : (2 * (a * a) * e) * x ≡ a * a * (2 * (x * e)) = simp (mul_assoc, mul_comm, mul_left_comm) in
    let times : s * (2 * (a * a) * e) ≤ s * s =
    omega (arith, mul-mul-mul_comm a d a d, mul-le-mul part part, mul_comm s (2 * (a * a) * e)) in
    le_of_mul-le-mul_left times pos

-- an improvement y of x, that is d above s, is past s by e: 2·x·e is at most d²
over_close : (s x y d e : ℕ) → x ≡ s + d → y ≡ s + e → 2 * (x * y) < x * x + s * s → 2 * (x * e) ≤ d * d
over_close s x y d e far high bound =
    let xx : x * x ≡ s * s + 2 * (s * d) + d * d = ap (λ (g : ℕ). g * g) far ∙ omega (arith, squares_apart s d, mul-add s s d) in
    let xs : x * s ≡ s * s + s * d = ap (λ (g : ℕ). g * s) far ∙ omega (arith, add-mul s d s, mul_comm d s) in
    let xy : x * y ≡ x * s + x * e = ap (λ (g : ℕ). x * g) high ∙ mul-add x s e in
    omega arith

-- an improvement y of x, that is at most 2 below x + d and no less than half of it, is not past x + d
under_close : (x d y : ℕ) → d ≤ 2 → d ≤ x → 2 * (x * y) < x * x + (x + d) * (x + d) → y ≤ x + d
under_close x d y few half bound =
    by_test (ltb (x + d) y)
    (λ t.
    let wide : x * (x + d + 1) ≤ x * y = mul-le-mul_left x (omega (arith, ltb-true (x + d) y t)) in
    absurd (omega (arith, bound, wide, mul-add x (x + d) 1, mul-add x x d, mul-add (x + d) x d, add-mul x d x, add-mul x d d, mul_comm d x, mul-le-mul_right d few)))
    (λ f. ltb-false (x + d) y f)

-- an improvement of what is close is near: twice the square of a takes the place of a
close_next : (n r a x : ℕ) → IsRoot n r → Close r a x → Near r (2 * (a * a)) (improvement n x)
close_next n r a x is close =
    let s : ℕ = r + 1 in
    let y : ℕ = improvement n x in
    let b : ℕ = 2 * (a * a) in
    let bound : 2 * (x * y) < x * x + s * s = omega (arith, improvement_high n x, is.high) in
    record {
      low = improvement_low n r x (omega (arith, close.half)) is.low;
      high =
          by_test (ltb x s)
          (λ t.
          let d : ℕ = s - x in
          let whole : s ≡ x + d = omega (arith, ltb-true x s t) in
          let here : 2 * (x * y) < x * x + (x + d) * (x + d) = subst (λ (g : ℕ). 2 * (x * y) < x * x + g * g) whole bound in
          near_under r b y
          (omega (arith, under_close x d y (omega (arith, close.low)) (omega (arith, close.half)) here)))
          (λ f.
          by_test (ltb s y)
          (λ t.
          let d : ℕ = x - s in
          let e : ℕ = y - s in
          let far : x ≡ s + d = omega (arith, ltb-false x s f) in
          let more : y ≡ s + e = omega (arith, ltb-true s y t) in
          let part : a * d ≤ s = omega (arith, close.high, ap (λ (g : ℕ). a * g) far, mul-add a s d, add-mul a 1 s) in
          let past : b * e ≤ s = past_close s a x d e (omega arith) part (ltb-false x s f) (over_close s x y d e far more bound) in
          omega (arith, past, ap (λ (g : ℕ). b * g) more, mul-add b s e, add-mul b 1 s))
          (λ g. near_under r b y (ltb-false s y g)));
    }

-- past r + 1 by less than one: it is the root or one more
near_done : (n a x : ℕ) → root n + 1 < a → Near (root n) a x → AtRoot n x
near_done n a x small near =
    let s : ℕ = root n + 1 in
    record {
      low = near.low;
      high =
          by_test (ltb s x)
          (λ t.
          let past : a * (s + 1) ≤ a * x = mul-le-mul_left a (omega (arith, ltb-true s x t)) in
          absurd (omega (arith, near.high, past, mul-add a s 1, add-mul a 1 s)))
          (λ f. ltb-false s x f);
    }

-- what is close can be improved, in 64 bits
close_good : (n a x : ℕ) → n < 2 ^ 64 → 1 ≤ a → Close (root n) a x → (0 < x) × (x + n / x < 2 ^ 64)
close_good n a x fits some close =
    let r : ℕ = root n in
    let pos : 0 < x = omega (arith, close.half) in
    let times : a * x ≤ a * (2 * (r + 1)) =
    omega (arith, close.high, mul-le-mul_right {m = a + 1} {n = 2 * a} (r + 1) (omega arith), mul_assoc 2 a (r + 1), mul_left_comm a 2 (r + 1)) in
    let small : x ≤ 2 * (r + 1) = le_of_mul-le-mul_left times some in
    let square : (x + 2) * (x + 2) ≡ x * x + 4 * x + 4 = omega (arith, mul-add (x + 2) x 2, add-mul x 2 x) in
    let share : n / x < x + 9 =
    (div-lt_iff_lt-mul pos).1
    (omega (arith, (root_is n).high, mul-le-mul {n₁ = r + 1} {m₁ = r + 1} {n₂ = x + 2} {m₂ = x + 2} (omega (arith, close.low)) (omega (arith, close.low)), add-mul x 9 x)) in
    (pos, omega (arith, root_fits n fits))

-- ---- from the guess to the root

module _ (n : ℕ) (some : 0 < n) (fits : n < 2 ^ 64) where
  -- the guess can be improved, in 64 bits
  pub improvable : (0 < guess n) × (guess n + n / guess n < 2 ^ 64)
  improvable = close_good n 50000 (guess n) fits (omega arith) (close_guess n some fits)

  -- one improvement comes to the root or one more
  one_improvement : AtRoot n (improvement n (guess n))
  one_improvement =
      near_done n 5000000000 (improvement n (guess n)) (omega (arith, root_fits n fits))
      (close_next n (root n) 50000 (guess n) (root_is n) (close_guess n some fits))

  -- which is above 0, and at most 2^32
  pub improved_fits : (0 < improvement n (guess n)) × (improvement n (guess n) ≤ 2 ^ 32)
  improved_fits =
      let at = one_improvement in
      (omega (arith, at.low, root_least n 1 (omega arith)), omega (arith, at.high, root_fits n fits))

-- ---- the comparison at the end

-- the improvement of the root or one more, where its square is past n, is the root
one_more_reached : (n x : ℕ) → AtRoot n x → n < x * x → improvement n x ≡ root n
one_more_reached n x at past =
    let pos : 0 < x = square_lt 0 x (omega arith) in
    one_more_improved n x (omega (arith, settle_less n x at past))

-- so a comparison after j improvements that come to the root or one more stands in for one
settles : (j n : ℕ) → AtRoot n (improvements n j (guess n)) → Settled j n
unfolding improvements
settles j n at =
    let x : ℕ = improvements n j (guess n) in
    by_test (ltb n (x * x))
    (λ t.
    let past : n < x * x = ltb-true n (x * x) t in
    record {
      left = rw t (settle_less n x at past);
      improved = rw (t, add-one j) (one_more_reached n x at past);
    })
    (λ f.
    let is : x ≡ root n = settle_here n x at (ltb-false n (x * x) f) in
    record {
      left = rw (f, sub-zero x) is;
      improved = rw (f, add-zero j) is;
    })

-- one improvement and a comparison come to the root, for any n of 64 bits but 0
pub settled_after_one : (n : ℕ) → 0 < n → n < 2 ^ 64 → Settled 1 n
unfolding improvements
settled_after_one n some fits = settles 1 n (one_improvement n some fits)

-- ---- W3

-- two improvements of the guess, or more, reach the root for every n up to 10^16: none for 0, else one, or two where the comparison
-- would take 1 off
few_reach : (most n : ℕ) → 2 ≤ most → n ≤ 10000000000000000 → ReachedWithin most n
unfolding improvements
few_reach most zero enough short =
    record { times = 0; few = omega arith; reaches = guess_own 0 (omega arith) ∙ root_only 0 0 (record { low = omega arith; high = omega arith }) }
few_reach most (suc m) enough short =
    let n : ℕ = suc m in
    let x : ℕ = improvements n 1 (guess n) in
    let one : compared n x ≤ 1 = by_test (ltb n (x * x)) (λ t. rw t (omega arith)) (λ f. rw f (omega arith)) in
    record {
      times = 1 + compared n x;
      few = omega arith;
      reaches = (settled_after_one n (omega arith) (omega (arith, short))).improved;
    }

-- "at most eight improvements, of one division each, reach it for every variance up to 10^16"
pub eight_improvements : EightImprovements
eight_improvements n short = few_reach 8 n (omega arith) short

-- the root of 2^44 − 1, and that of its piece's middle
root_4194303 : 4194303 ≡ root 17592186044415
root_4194303 = root_only 17592186044415 4194303 (record { low = omega arith; high = omega arith })

last_middle : root (middle 255) ≡ 33521647
last_middle = sym (root_only (middle 255) 33521647 (record { low = omega arith; high = omega arith }))

-- its guess is 4194305, and the first improvement 4194304
not_one_lem : (j : ℕ) → j ≤ 1 → improvements 17592186044415 j (guess 17592186044415) ≡ root 17592186044415 → ⊥
unfolding improvements guess scale piece middle_root reciprocal ceiling count_leading_zeros
not_one_lem zero few = rw (last_middle, ← root_4194303) (λ is. omega (arith, is))
not_one_lem (suc zero) few = rw (last_middle, ← root_4194303) (λ is. omega (arith, is))
not_one_lem (suc (suc j)) few = absurd (omega arith)

-- the least number of improvements is two
pub least_improvements : LeastImprovements
least_improvements =
    record {
      two = λ n short. few_reach _ n (omega arith) short;
      not_one = λ one. not_one_lem one.times (omega (arith, one.few)) one.reaches;
    }
