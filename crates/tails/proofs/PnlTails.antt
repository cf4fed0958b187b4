-- Tails of P&Ls, plain and weighted: exposures that are added, multiplied or agree, the tails that each vertex alone has, sizes and
-- averages.
-- Assumes nothing.
use Prim.Native.Nat.{ℕ, zero, suc, ◌+◌, ◌*◌, ◌≤◌, ◌<◌}
use mathlib.Core.List.{List}
use mathlib.Core.Path.{◌≡◌, ap, ◌∙◌}
use native.Mathlib.Nat.{le_trans, mul_assoc, mul_comm, mul-le-mul_left}
use native.Mathlib.Omega.{arith}
use lib.IntN.{ℤ, pos, nat_abs, ◌+ℤ◌, ◌*ℤ◌}
use Rattle.numbers.specs.Items.{sum_of, total, total_z}
use Rattle.numbers.proofs.Items.{naturals, sum_same, sum_both, total-le, total_times}
use Rattle.numbers.proofs.Signs.{nat_abs_mul, add_mulℤ, mul_assocℤ}
use Rattle.tails.specs.Losses.{pnl, loss}
use Rattle.tails.specs.Ranking.{tail_list, tail_sum, NeverRising}
use Rattle.tails.specs.Undiversified.{pnl_tail, undiversified, weighted_tail, weighted_undiversified}
use Rattle.tails.proofs.Losses.{loss_size, loss-add, loss_times, pnl_losses, pnl-add, pnl_times, pnl_same}
use Rattle.tails.proofs.Measures.{Measure, measure_same, measure_monotone, measure_subadditive, measure_times, measure_several}
use Rattle.tails.proofs.Tails.{plain, tail_bound, tail_averages}
use Rattle.tails.proofs.Weights.{weighted}

-- ---- by any measure

module _ {lp k : ℕ} {over : (ℕ → ℕ) → List ℕ → ℕ} (m : Measure lp k over) (mode : ℕ) where
  -- the tail of P&Ls by scenario
  abbrev pub tail_by : (ℕ → ℤ) → ℕ
  tail_by z = over (λ s. loss mode (z s)) (tail_list (λ s. loss mode (z s)) lp k)

  -- the tail of n vertices' exposures x by returns r
  abbrev pub joint_by : ℕ → (ℕ → ℤ) → (ℕ → ℕ → ℤ) → ℕ
  joint_by n x r = tail_by (λ s. pnl n x r s)

  -- the total of the tails that each vertex alone has
  abbrev pub alone_by : ℕ → (ℕ → ℤ) → (ℕ → ℕ → ℤ) → ℕ
  alone_by n x r = total (λ v. tail_by (λ s. x v *ℤ r v s)) n

  -- P&Ls that agree
  pub same_by : (z w : ℕ → ℤ) → ((s : ℕ) → s < lp → z s ≡ w s) → tail_by z ≡ tail_by w
  same_by z w same = measure_same m (λ s. loss mode (z s)) (λ s. loss mode (w s)) (λ s low. ap (loss mode) (same s low))

  -- P&Ls that are added
  pub sum_by : (z w : ℕ → ℤ) → tail_by (λ s. z s +ℤ w s) ≤ tail_by z + tail_by w
  sum_by z w =
      le_trans
      (measure_monotone m (λ s. loss mode (z s +ℤ w s)) (λ s. loss mode (z s) + loss mode (w s)) (λ s low. loss-add mode (z s) (w s)))
      (measure_subadditive m (λ s. loss mode (z s)) (λ s. loss mode (w s)))

  -- P&Ls that are multiplied
  pub multiple_by : (c : ℕ) (z : ℕ → ℤ) → tail_by (λ s. pos c *ℤ z s) ≡ c * tail_by z
  multiple_by c z =
      measure_same m (λ s. loss mode (pos c *ℤ z s)) (λ s. c * loss mode (z s)) (λ s low. loss_times mode c (z s))
      ∙ measure_times m c (λ s. loss mode (z s))

  -- exposures that are added
  pub joint_sum : (n : ℕ) (x y : ℕ → ℤ) (r : ℕ → ℕ → ℤ) → joint_by n (λ v. x v +ℤ y v) r ≤ joint_by n x r + joint_by n y r
  joint_sum n x y r =
      rw (same_by (λ s. pnl n (λ v. x v +ℤ y v) r s) (λ s. pnl n x r s +ℤ pnl n y r s) (λ s low. pnl-add n x y r s))
      (sum_by (λ s. pnl n x r s) (λ s. pnl n y r s))

  -- exposures that are multiplied
  pub joint_multiple : (n c : ℕ) (x : ℕ → ℤ) (r : ℕ → ℕ → ℤ) → joint_by n (λ v. pos c *ℤ x v) r ≡ c * joint_by n x r
  joint_multiple n c x r =
      same_by (λ s. pnl n (λ v. pos c *ℤ x v) r s) (λ s. pos c *ℤ pnl n x r s) (λ s low. pnl_times n c x r s)
      ∙ multiple_by c (λ s. pnl n x r s)

  -- several exposures that are added, `count` of them
  pub joint_several : (n count : ℕ) (x : ℕ → ℕ → ℤ) (r : ℕ → ℕ → ℤ)
      → joint_by n (λ v. total_z (λ c. x c v) count) r ≤ total (λ c. joint_by n (x c) r) count
  unfolding sum_of
  joint_several n zero x r = omega (arith, joint_multiple n 0 (λ v. pos 0) r)
  joint_several n (suc count) x r =
      omega (arith, joint_sum n (λ v. total_z (λ c. x c v) count) (x count) r, joint_several n count x r)

  -- together no more than alone
  pub joint_alone : (n : ℕ) (x : ℕ → ℤ) (r : ℕ → ℕ → ℤ) → joint_by n x r ≤ alone_by n x r
  joint_alone n x r =
      le_trans
      (measure_monotone m (λ s. loss mode (pnl n x r s)) (λ s. total (λ v. loss mode (x v *ℤ r v s)) n) (λ s low. pnl_losses mode n x r s))
      (measure_several m (λ v s. loss mode (x v *ℤ r v s)) n)

  -- exposures that are added, each vertex alone
  pub alone_sum : (n : ℕ) (x y : ℕ → ℤ) (r : ℕ → ℕ → ℤ) → alone_by n (λ v. x v +ℤ y v) r ≤ alone_by n x r + alone_by n y r
  alone_sum n x y r =
      rw (← sum_both ◌+◌ 0 naturals (λ v. tail_by (λ s. x v *ℤ r v s)) (λ v. tail_by (λ s. y v *ℤ r v s)) n)
      (total-le (λ v. tail_by (λ s. (x v +ℤ y v) *ℤ r v s)) (λ v. tail_by (λ s. x v *ℤ r v s) + tail_by (λ s. y v *ℤ r v s)) n
      (λ v low.
      rw (same_by (λ s. (x v +ℤ y v) *ℤ r v s) (λ s. x v *ℤ r v s +ℤ y v *ℤ r v s) (λ s small. add_mulℤ (x v) (y v) (r v s)))
      (sum_by (λ s. x v *ℤ r v s) (λ s. y v *ℤ r v s))))

  -- exposures that are multiplied, each vertex alone
  pub alone_multiple : (n c : ℕ) (x : ℕ → ℤ) (r : ℕ → ℕ → ℤ) → alone_by n (λ v. pos c *ℤ x v) r ≡ c * alone_by n x r
  alone_multiple n c x r =
      sum_same ◌+◌ 0 (λ v. tail_by (λ s. pos c *ℤ x v *ℤ r v s)) (λ v. c * tail_by (λ s. x v *ℤ r v s)) n
      (λ v low.
      same_by (λ s. pos c *ℤ x v *ℤ r v s) (λ s. pos c *ℤ (x v *ℤ r v s)) (λ s small. mul_assocℤ (pos c) (x v) (r v s))
      ∙ multiple_by c (λ s. x v *ℤ r v s))
      ∙ total_times (λ v. tail_by (λ s. x v *ℤ r v s)) c n

  module _ (n : ℕ) (x y : ℕ → ℤ) (r q : ℕ → ℕ → ℤ) (exposures : (v : ℕ) → v < n → x v ≡ y v)
      (returns : (v s : ℕ) → v < n → s < lp → r v s ≡ q v s) where
    -- exposures and returns that agree
    pub joint_same : joint_by n x r ≡ joint_by n y q
    joint_same =
        same_by (λ s. pnl n x r s) (λ s. pnl n y q s)
        (λ s small. pnl_same n x y r q s exposures (λ v low. returns v s low small))

    -- the same, each vertex alone
    pub alone_same : alone_by n x r ≡ alone_by n y q
    alone_same =
        sum_same ◌+◌ 0 (λ v. tail_by (λ s. x v *ℤ r v s)) (λ v. tail_by (λ s. y v *ℤ q v s)) n
        (λ v low. same_by (λ s. x v *ℤ r v s) (λ s. y v *ℤ q v s) (λ s small. rw (exposures v low, returns v s low small)))

-- ---- plain tails

module _ (mode n : ℕ) (r : ℕ → ℕ → ℤ) (lp k : ℕ) where
  -- T of added exposures is at most the sum of theirs
  pub tail_of_sum : (x y : ℕ → ℤ) → pnl_tail mode n (λ v. x v +ℤ y v) r lp k ≤ pnl_tail mode n x r lp k + pnl_tail mode n y r lp k
  unfolding tail_sum
  tail_of_sum x y = joint_sum (plain lp k) mode n x y r

  -- T of c times the exposures is c times theirs
  pub tail_of_multiple : (c : ℕ) (x : ℕ → ℤ) → pnl_tail mode n (λ v. pos c *ℤ x v) r lp k ≡ c * pnl_tail mode n x r lp k
  unfolding tail_sum
  tail_of_multiple c x = joint_multiple (plain lp k) mode n c x r

  -- T of several added exposures is at most the total of theirs
  pub tail_of_several : (count : ℕ) (x : ℕ → ℕ → ℤ)
      → pnl_tail mode n (λ v. total_z (λ c. x c v) count) r lp k ≤ total (λ c. pnl_tail mode n (x c) r lp k) count
  unfolding tail_sum
  tail_of_several count x = joint_several (plain lp k) mode n count x r

  -- T ≤ U: the add-on is never negative
  pub tail_at_most_undiversified : (x : ℕ → ℤ) → pnl_tail mode n x r lp k ≤ undiversified mode n x r lp k
  unfolding tail_sum
  tail_at_most_undiversified x = joint_alone (plain lp k) mode n x r

  -- U of added exposures is at most the sum of theirs
  pub undiversified_of_sum : (x y : ℕ → ℤ) → undiversified mode n (λ v. x v +ℤ y v) r lp k ≤ undiversified mode n x r lp k + undiversified mode n y r lp k
  unfolding tail_sum
  undiversified_of_sum x y = alone_sum (plain lp k) mode n x y r

  -- U of c times the exposures is c times theirs
  pub undiversified_of_multiple : (c : ℕ) (x : ℕ → ℤ) → undiversified mode n (λ v. pos c *ℤ x v) r lp k ≡ c * undiversified mode n x r lp k
  unfolding tail_sum
  undiversified_of_multiple c x = alone_multiple (plain lp k) mode n c x r

  -- exposures whose sizes total at most e, and returns of at most b in size
  module _ (x : ℕ → ℤ) (e b : ℕ) (exposures : total (λ v. nat_abs (x v)) n ≤ e)
      (returns : (v s : ℕ) → v < n → s < lp → nat_abs (r v s) ≤ b) where
    -- U is at most k × e × b
    pub undiversified_size : undiversified mode n x r lp k ≤ k * (e * b)
    undiversified_size =
        let each : (v : ℕ) → v < n → tail_sum (λ s. loss mode (x v *ℤ r v s)) lp k ≤ k * b * nat_abs (x v) =
        λ v low.
        omega (
          arith,
          tail_bound (λ s. loss mode (x v *ℤ r v s)) (b * nat_abs (x v)) lp k
              (λ s small. omega (
                arith,
                loss_size mode (x v *ℤ r v s),
                nat_abs_mul (x v) (r v s),
                mul-le-mul_left (nat_abs (x v)) (returns v s low small),
                mul_comm (nat_abs (x v)) b,
              )),
          mul_assoc k b (nat_abs (x v)),
        ) in
        omega (
          arith,
          total-le (λ v. tail_sum (λ s. loss mode (x v *ℤ r v s)) lp k) (λ v. k * b * nat_abs (x v)) n each,
          total_times (λ v. nat_abs (x v)) (k * b) n,
          mul-le-mul_left (k * b) exposures,
          mul_assoc k b e,
          ap (λ (j : ℕ). k * j) (mul_comm b e),
        )

    -- and so is T
    pub tail_size : pnl_tail mode n x r lp k ≤ k * (e * b)
    tail_size = le_trans (tail_at_most_undiversified x) undiversified_size

-- the average of U does not rise with the list's length. That of T is `tail_averages`, at the P&Ls' losses
pub undiversified_averages : (mode n : ℕ) (x : ℕ → ℤ) (r : ℕ → ℕ → ℤ) (lp j k : ℕ) → j ≤ k
    → j * undiversified mode n x r lp k ≤ k * undiversified mode n x r lp j
undiversified_averages mode n x r lp j k le =
    let alone : ℕ → ℕ → ℕ = λ m v. tail_sum (λ s. loss mode (x v *ℤ r v s)) lp m in
    rw (← total_times (alone k) j n, ← total_times (alone j) k n)
    (total-le (λ v. j * alone k v) (λ v. k * alone j v) n (λ v low. tail_averages (λ s. loss mode (x v *ℤ r v s)) lp j k le))

-- exposures that agree at the vertices, and returns that agree there in every scenario
module _ (mode n lp k : ℕ) (x y : ℕ → ℤ) (r q : ℕ → ℕ → ℤ) (exposures : (v : ℕ) → v < n → x v ≡ y v)
    (returns : (v s : ℕ) → v < n → s < lp → r v s ≡ q v s) where
  -- have the same T
  pub tail_exposures_same : pnl_tail mode n x r lp k ≡ pnl_tail mode n y q lp k
  unfolding tail_sum
  tail_exposures_same = joint_same (plain lp k) mode n x y r q exposures returns

  -- and the same U
  pub undiversified_exposures_same : undiversified mode n x r lp k ≡ undiversified mode n y q lp k
  unfolding tail_sum
  undiversified_exposures_same = alone_same (plain lp k) mode n x y r q exposures returns

-- ---- weighted tails

-- by weights that never rise
module _ (ws : List ℕ) (falls : NeverRising ws) (mode n : ℕ) (r : ℕ → ℕ → ℤ) (lp : ℕ) where
  -- T of added exposures
  pub weighted_of_sum : (x y : ℕ → ℤ)
      → weighted_tail ws mode n (λ v. x v +ℤ y v) r lp ≤ weighted_tail ws mode n x r lp + weighted_tail ws mode n y r lp
  weighted_of_sum x y = joint_sum (weighted ws falls lp) mode n x y r

  -- T of c times the exposures
  pub weighted_of_multiple : (c : ℕ) (x : ℕ → ℤ) → weighted_tail ws mode n (λ v. pos c *ℤ x v) r lp ≡ c * weighted_tail ws mode n x r lp
  weighted_of_multiple c x = joint_multiple (weighted ws falls lp) mode n c x r

  -- T of several added exposures
  pub weighted_of_several : (count : ℕ) (x : ℕ → ℕ → ℤ)
      → weighted_tail ws mode n (λ v. total_z (λ c. x c v) count) r lp ≤ total (λ c. weighted_tail ws mode n (x c) r lp) count
  weighted_of_several count x = joint_several (weighted ws falls lp) mode n count x r

  -- T ≤ U
  pub weighted_at_most_undiversified : (x : ℕ → ℤ) → weighted_tail ws mode n x r lp ≤ weighted_undiversified ws mode n x r lp
  weighted_at_most_undiversified x = joint_alone (weighted ws falls lp) mode n x r

  -- U of added exposures
  pub weighted_undiversified_of_sum : (x y : ℕ → ℤ)
      → weighted_undiversified ws mode n (λ v. x v +ℤ y v) r lp ≤ weighted_undiversified ws mode n x r lp + weighted_undiversified ws mode n y r lp
  weighted_undiversified_of_sum x y = alone_sum (weighted ws falls lp) mode n x y r

  -- U of c times the exposures
  pub weighted_undiversified_of_multiple : (c : ℕ) (x : ℕ → ℤ) → weighted_undiversified ws mode n (λ v. pos c *ℤ x v) r lp ≡ c * weighted_undiversified ws mode n x r lp
  weighted_undiversified_of_multiple c x = alone_multiple (weighted ws falls lp) mode n c x r

-- by weights that never rise, exposures that agree at the vertices, and returns that agree there in every scenario
module _ (ws : List ℕ) (falls : NeverRising ws) (mode n lp : ℕ) (x y : ℕ → ℤ) (r q : ℕ → ℕ → ℤ)
    (exposures : (v : ℕ) → v < n → x v ≡ y v) (returns : (v s : ℕ) → v < n → s < lp → r v s ≡ q v s) where
  -- have the same T
  pub weighted_exposures_same : weighted_tail ws mode n x r lp ≡ weighted_tail ws mode n y q lp
  weighted_exposures_same = joint_same (weighted ws falls lp) mode n x y r q exposures returns

  -- and the same U
  pub weighted_undiversified_exposures_same : weighted_undiversified ws mode n x r lp ≡ weighted_undiversified ws mode n y q lp
  weighted_undiversified_exposures_same = alone_same (weighted ws falls lp) mode n x y r q exposures returns
