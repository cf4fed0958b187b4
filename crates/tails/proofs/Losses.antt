-- Laws of losses and of P&Ls: sums, multiples, sizes, and a list of exposures.
-- Assumes nothing.
use Rattle.std.proofs.Common.{rules}
use Rattle.std.specs.Int.{int_min}
use Rattle.std.specs.Prelude.{if◌then◌else◌}
use Prim.Native.Nat.{ℕ, zero, suc, ◌+◌, ◌*◌, ◌≤◌, ◌<◌}
use mathlib.Core.Bool.{true, false, not, ◌&&◌}
use mathlib.Core.List.{List}
use mathlib.Core.Path.{◌≡◌, refl, sym, ◌∙◌}
use native.Mathlib.Nat.{mul-zero, mul_comm, mul-le-mul_left}
use native.Mathlib.Omega.{arith}
use borrow.Author.Tests.{not-true, not-false}
use lib.Dec.{eqb}
use lib.IntN.{ℤ, pos, negsuc, neg_ℤ, nat_abs, ◌+ℤ◌, ◌*ℤ◌}
use lib.ListN.{length, get_or}
use Rattle.numbers.specs.Items.{sum_of, total, total_z}
use Rattle.numbers.specs.Rounding.{negative}
use Rattle.numbers.proofs.Items.{by_test, both, integers, sum_none, sum_next, sum_same, sum_both, total-le, total_times, total_size, total_factor}
use Rattle.numbers.proofs.Signs.{nat_abs-add, nat_abs_mul, sub_cases, add_mulℤ, mul_assocℤ}
use Rattle.tails.specs.Losses.{pnl, loss}
use Rattle.tails.specs.InnerContracts.{listed_pnl}

-- ---- losses

-- the loss in a single tail
abbrev single : ℤ → ℕ
single z = if negative z then nat_abs z else 0

-- of a sum, at most the sum
single_add : (a b : ℤ) → single (a +ℤ b) ≤ single a + single b
unfolding negative
single_add (pos a) (pos b) = omega arith
single_add (pos a) (negsuc b) = sub_cases (λ (z : ℤ). single z ≤ 0 + suc b) a (suc b) (λ d e. omega (arith, e)) (λ d e. omega arith)
single_add (negsuc a) (pos b) = sub_cases (λ (z : ℤ). single z ≤ suc a + 0) b (suc a) (λ d e. omega (arith, e)) (λ d e. omega arith)
single_add (negsuc a) (negsuc b) = omega arith

-- a size below zero is all lost
single_size : (n : ℕ) → single (neg_ℤ (pos n)) ≡ n
unfolding negative
single_size zero = refl
single_size (suc n) = refl

-- of a multiple, the multiple
single_times : (n : ℕ) (z : ℤ) → single (pos n *ℤ z) ≡ n * single z
unfolding negative
single_times n (pos a) = sym (mul-zero n)
single_times n (negsuc a) = single_size (n * suc a)

-- a single tail's loss is the size of the P&L or of 0, whichever is less
pub loss_single : (z : ℤ) → nat_abs (int_min z (pos 0)) ≡ loss 0 z
unfolding loss negative
loss_single (pos n) = search rules
loss_single (negsuc n) = search rules

-- a double tail's is the P&L's size
pub loss_double : (z : ℤ) → nat_abs z ≡ loss 1 z
unfolding loss
loss_double z = refl

-- by any number the loss is that of its mode
pub loss_by_number : (number : ℕ) (z : ℤ) → loss (if eqb number 0 then 0 else 1) z ≡ loss number z
unfolding loss
loss_by_number number z = by_test (eqb number 0) (λ t. simp t) (λ f. simp f)

module _ (mode : ℕ) where
  -- a single tail
  in_single : (z : ℤ) → eqb mode 0 ≡ true → loss mode z ≡ single z
  unfolding loss
  in_single z t = rw t

  -- a double tail
  in_double : (z : ℤ) → eqb mode 0 ≡ false → loss mode z ≡ nat_abs z
  unfolding loss
  in_double z f = rw f

  -- in a single tail a P&L that is not below zero is no loss
  pub loss_gain : (z : ℤ) → eqb mode 0 && not (negative z) ≡ true → loss mode z ≡ 0
  loss_gain z gain =
      let w = both (eqb mode 0) (not (negative z)) gain in
      in_single z w.0 ∙ rw (not-true (negative z) w.1)

  -- any other P&L is a loss of its size
  pub loss_other : (z : ℤ) → eqb mode 0 && not (negative z) ≡ false → loss mode z ≡ nat_abs z
  loss_other z other =
      by_test (eqb mode 0)
      (λ t. let down : negative z ≡ true = not-false (negative z) (rw t at other) in in_single z t ∙ rw down)
      (λ f. in_double z f)

  -- no P&L, no loss
  pub loss_none : loss mode (pos 0) ≡ 0
  unfolding negative
  loss_none = by_test (eqb mode 0) (in_single (pos 0)) (in_double (pos 0))

  -- a loss is at most the P&L's size
  pub loss_size : (z : ℤ) → loss mode z ≤ nat_abs z
  loss_size z =
      by_test (eqb mode 0 && not (negative z))
      (λ t. rw (loss_gain z t) (omega arith))
      (λ f. rw (loss_other z f) (omega arith))

  -- the loss of a sum is at most the sum of the losses
  pub loss-add : (a b : ℤ) → loss mode (a +ℤ b) ≤ loss mode a + loss mode b
  loss-add a b =
      by_test (eqb mode 0)
      (λ t. rw (in_single (a +ℤ b) t, in_single a t, in_single b t) (single_add a b))
      (λ f. rw (in_double (a +ℤ b) f, in_double a f, in_double b f) (nat_abs-add a b))

  -- the loss of a multiple is the multiple of the loss
  pub loss_times : (n : ℕ) (z : ℤ) → loss mode (pos n *ℤ z) ≡ n * loss mode z
  loss_times n z =
      by_test (eqb mode 0)
      (λ t. rw (in_single (pos n *ℤ z) t, in_single z t) (single_times n z))
      (λ f. rw (in_double (pos n *ℤ z) f, in_double z f) (nat_abs_mul (pos n) z))

  -- the loss of a total is at most the total of the losses
  pub loss_several : (z : ℕ → ℤ) (n : ℕ) → loss mode (total_z z n) ≤ total (λ v. loss mode (z v)) n
  unfolding sum_of
  loss_several z zero = omega (arith, loss_none)
  loss_several z (suc n) = omega (arith, loss-add (total_z z n) (z n), loss_several z n)

  -- the loss of a P&L is at most the total of the losses that each vertex alone would have
  pub pnl_losses : (n : ℕ) (x : ℕ → ℤ) (r : ℕ → ℕ → ℤ) (s : ℕ) → loss mode (pnl n x r s) ≤ total (λ v. loss mode (x v *ℤ r v s)) n
  unfolding pnl
  pnl_losses n x r s = loss_several (λ v. x v *ℤ r v s) n

-- ---- P&Ls

-- no vertex
pub pnl_none : (x : ℕ → ℤ) (r : ℕ → ℕ → ℤ) (s : ℕ) → pnl 0 x r s ≡ pos 0
unfolding pnl
pnl_none x r s = sum_none ◌+ℤ◌ (pos 0) (λ v. x v *ℤ r v s)

-- one vertex more
pub pnl_next : (n : ℕ) (x : ℕ → ℤ) (r : ℕ → ℕ → ℤ) (s : ℕ) → pnl (n + 1) x r s ≡ pnl n x r s +ℤ x n *ℤ r n s
unfolding pnl
pnl_next n x r s = sum_next ◌+ℤ◌ (pos 0) (λ v. x v *ℤ r v s) n

-- exposures that add up have P&Ls that add up
pub pnl-add : (n : ℕ) (x y : ℕ → ℤ) (r : ℕ → ℕ → ℤ) (s : ℕ) → pnl n (λ v. x v +ℤ y v) r s ≡ pnl n x r s +ℤ pnl n y r s
unfolding pnl
pnl-add n x y r s =
    sum_same ◌+ℤ◌ (pos 0) (λ v. (x v +ℤ y v) *ℤ r v s) (λ v. x v *ℤ r v s +ℤ y v *ℤ r v s) n (λ v low. add_mulℤ (x v) (y v) (r v s))
    ∙ sum_both ◌+ℤ◌ (pos 0) integers (λ v. x v *ℤ r v s) (λ v. y v *ℤ r v s) n

-- a multiple of each exposure has the multiple of the P&L
pub pnl_times : (n c : ℕ) (x : ℕ → ℤ) (r : ℕ → ℕ → ℤ) (s : ℕ) → pnl n (λ v. pos c *ℤ x v) r s ≡ pos c *ℤ pnl n x r s
unfolding pnl
pnl_times n c x r s =
    sum_same ◌+ℤ◌ (pos 0) (λ v. pos c *ℤ x v *ℤ r v s) (λ v. pos c *ℤ (x v *ℤ r v s)) n (λ v low. mul_assocℤ (pos c) (x v) (r v s))
    ∙ total_factor (pos c) (λ v. x v *ℤ r v s) n

-- a P&L's size is at most the total of the exposures' sizes, times a bound of the returns' sizes
pub pnl_size : (n b : ℕ) (x : ℕ → ℤ) (r : ℕ → ℕ → ℤ) (s : ℕ) → ((v : ℕ) → v < n → nat_abs (r v s) ≤ b) → nat_abs (pnl n x r s) ≤ total (λ v. nat_abs (x v)) n * b
unfolding pnl
pnl_size n b x r s small =
    omega (
      arith,
      total_size (λ v. x v *ℤ r v s) n,
      total-le (λ v. nat_abs (x v *ℤ r v s)) (λ v. b * nat_abs (x v)) n
          (λ v low. rw (nat_abs_mul (x v) (r v s), mul_comm b (nat_abs (x v))) (mul-le-mul_left (nat_abs (x v)) (small v low))),
      total_times (λ v. nat_abs (x v)) b n,
      mul_comm b (total (λ v. nat_abs (x v)) n),
    )

-- exposures and returns that agree at the vertices have the same P&L
pub pnl_same : (n : ℕ) (x y : ℕ → ℤ) (r q : ℕ → ℕ → ℤ) (s : ℕ) → ((v : ℕ) → v < n → x v ≡ y v) → ((v : ℕ) → v < n → r v s ≡ q v s) → pnl n x r s ≡ pnl n y q s
unfolding pnl
pnl_same n x y r q s same-x same-r =
    sum_same ◌+ℤ◌ (pos 0) (λ v. x v *ℤ r v s) (λ v. y v *ℤ q v s) n (λ v low. rw (same-x v low, same-r v low))

-- a list that holds the exposures
pub listed_pnl_lem : (n s : ℕ) (xs : List ℤ) (x : ℕ → ℤ) (r : ℕ → ℕ → ℤ) → length xs ≡ n → ((v : ℕ) → v < n → get_or xs v (pos 0) ≡ x v)
    → listed_pnl xs r s ≡ pnl n x r s
listed_pnl_lem n s xs x r size same = rw size (pnl_same n (λ v. get_or xs v (pos 0)) x r r s same (λ v low. refl))
