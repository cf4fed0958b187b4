-- Laws of the split of a value over a bond's flows: the shares total the value.
-- Assumes nothing.
use Prim.Native.Nat.{ℕ, ◌+◌, ◌≤◌}
use mathlib.Core.List.{List}
use mathlib.Core.Path.{◌≡◌, ap, ◌∙◌}
use native.Mathlib.Nat.{mul-zero, zero-div, mul-le-mul_left, mul-div_cancel}
use native.Mathlib.Omega.{arith}
use lib.IntN.{ℤ, nat_abs}
use Rattle.numbers.specs.Items.{total, total_z}
use Rattle.numbers.specs.Rounding.{negative, with_sign}
use Rattle.numbers.proofs.Items.{sum_same, total_steps, signed_total}
use Rattle.numbers.proofs.Rounding.{floor_mono, floor_weighted}
use Rattle.numbers.proofs.Signs.{sign_size, nat_abs_with_sign}
use Rattle.valuing.specs.Curves.{Curve}
use Rattle.valuing.specs.Split.{flow_count, worth_before, bond_worth, floor_at, share_size, share}
use Rattle.valuing.proofs.Pricing.{worth_none, worth_rises}

module _ (curve : Curve) (stretch : List ℕ) where
  module _ (size : ℕ) where
    -- before the first flow nothing is given
    pub floor_none : floor_at curve stretch size 0 ≡ 0
    unfolding floor_at
    floor_none = rw (worth_none curve stretch, mul-zero size) (zero-div (bond_worth curve stretch))

    -- what flows are given never falls with one flow more
    pub floor_rises : (j : ℕ) → floor_at curve stretch size j ≤ floor_at curve stretch size (j + 1)
    unfolding floor_at
    floor_rises j = floor_mono _ _ (bond_worth curve stretch) (mul-le-mul_left size (worth_rises curve stretch j (j + 1) (omega arith)))

    -- all flows together are given the whole size
    pub floor_whole : 1 ≤ bond_worth curve stretch → floor_at curve stretch size (flow_count stretch) ≡ size
    unfolding floor_at bond_worth
    floor_whole some = mul-div_cancel size some

    -- the first flows are given at most the size
    pub floor_within : (j : ℕ) → j ≤ flow_count stretch → floor_at curve stretch size j ≤ size
    unfolding floor_at bond_worth
    floor_within j h = floor_weighted size (worth_before curve stretch j) (bond_worth curve stretch) (worth_rises curve stretch j (flow_count stretch) h)

    -- the first j shares
    pub shares_upto : (j : ℕ) → total (share_size curve stretch size) j ≡ floor_at curve stretch size j
    unfolding share_size
    shares_upto j =
        total_steps (floor_at curve stretch size) j (λ i low. floor_rises i) floor_none

    -- the shares' sizes total the size
    pub share_sizes_total : 1 ≤ bond_worth curve stretch → total (share_size curve stretch size) (flow_count stretch) ≡ size
    share_sizes_total some = shares_upto (flow_count stretch) ∙ floor_whole some

  -- the sizes of the first j shares of a value
  pub share_sizes_upto : (value : ℤ) (j : ℕ) → total (λ i. nat_abs (share curve stretch value i)) j ≡ floor_at curve stretch (nat_abs value) j
  unfolding share
  share_sizes_upto value j =
      sum_same ◌+◌ 0 _ _ j (λ i low. nat_abs_with_sign (negative value) (share_size curve stretch (nat_abs value) i))
      ∙ shares_upto (nat_abs value) j

  -- "The shares total the value."
  pub shares_total : 1 ≤ bond_worth curve stretch → (value : ℤ) → total_z (share curve stretch value) (flow_count stretch) ≡ value
  unfolding share
  shares_total some value =
      signed_total (negative value) (share_size curve stretch (nat_abs value)) (flow_count stretch)
      ∙ ap (with_sign (negative value)) (share_sizes_total (nat_abs value) some)
      ∙ sign_size value
