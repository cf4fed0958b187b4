-- The passes over a vertex's returns and over its scaled scenarios.
-- Assumes nothing.
use Prim.Native.Nat.{ℕ, ◌+◌, ◌-◌, ◌≤◌, ◌<◌, ◌^◌}
use mathlib.Core.Bool.{true, false}
use mathlib.Core.List.{List}
use mathlib.Core.Path.{◌≡◌, sym, ap, ap₂, ◌∙◌}
use native.Mathlib.Omega.{arith}
use borrow.Author.Tests.{leb-true}
use lib.IntN.{ℤ, pos, nat_abs}
use lib.ListN.{length, set, get_or}
use lib.Signed.{mag}
use mir.Facts.{to_z-of_z}
use mir.Syntax.{w32, w64}
use mir.Val.{to_z, of_z}
use Rattle.numbers.specs.Root.{IsRoot}
use Rattle.numbers.proofs.Roots.{root_only}
use Rattle.numbers.proofs.Signs.{came, size_fits}
use Rattle.numbers.specs.Buffers.{filled}
use Rattle.numbers.specs.Items.{every}
use Rattle.numbers.proofs.Buffers.{filled_none, filled_next}
use Rattle.numbers.proofs.Items.{every_none, every_next, every_bad, true_not_false}
use Rattle.scenarios.specs.InnerContracts.{Stored, Filled, step_variance, scaled_entry}
use Rattle.scenarios.specs.Returns.{in_range}
use Rattle.scenarios.specs.Scaled.{scaled_of}
use Rattle.scenarios.specs.Volatility.{variance}
use Rattle.scenarios.proofs.Series.{variance_next}

-- ---- what the code's numbers are

-- a scaled return that was computed from a return and a variance, as they are held
pub scaled_came : (returns : List ℤ) (variances : List ℕ) (newest s : ℕ) {r : ℤ} {own : ℕ} (x : ℤ) → nat_abs (get_or returns s (pos 0)) ≤ 1000000 → mag r < 2 ^ 63
    → r ≡ to_z w32 (of_z w32 (get_or returns s (pos 0))) → IsRoot (get_or variances s 0) own → x ≡ scaled_of (to_z w64 (of_z w64 r)) newest own
    → x ≡ scaled_entry returns variances newest s
scaled_came returns variances newest s {r} {own} x small r_fits is-r is-own is =
    let held : r ≡ get_or returns s (pos 0) = is-r ∙ to_z-of_z {w = w32} (size_fits w32 (get_or returns s (pos 0)) (omega (arith, small))) in
    is ∙ ap₂ (λ (z : ℤ) (v : ℕ). scaled_of z newest v) (came w64 r r_fits held) (root_only (get_or variances s 0) own is-own)

-- a number in range is held by 32 bits
pub range_held : (z : ℤ) {x : ℤ} → x ≡ z → in_range z ≡ true → to_z w32 (of_z w32 x) ≡ z
range_held z is good =
    let small : nat_abs z ≤ 1000000 = leb-true (nat_abs z) 1000000 good in
    rw is (to_z-of_z {w = w32} (size_fits w32 z (omega (arith, small))))

-- ---- the passes

module _ (f : ℕ → ℤ) (out₀ : List ℤ) where
  -- the first s values of f lie in their range and are stored
  pub record Filling (s : ℕ) (out : List ℤ) : Type 0 where
    pub good : every (λ i. in_range (f i)) s ≡ true
    pub are : out ≡ filled f s out₀

  -- nothing is stored
  pub filling_none : Filling 0 out₀
  filling_none = record { good = every_none (λ i. in_range (f i)); are = sym (filled_none f out₀) }

  module _ (s : ℕ) (out : List ℤ) (filling : Filling s out) where
    -- one more
    pub filling_next : (x : ℤ) → s < length out₀ → in_range (f s) ≡ true → x ≡ f s → Filling (s + 1) (set out s x)
    filling_next x low good is =
        record { good = every_next (λ i. in_range (f i)) s filling.good good; are = filled_next f s out₀ out x filling.are low is }

    -- a value is out of its range
    pub filling_bad : (n : ℕ) → s < n → in_range (f s) ≡ false → Filled false f n out₀ out
    filling_bad n low bad = record { whether = sym (every_bad (λ i. in_range (f i)) n s low bad); are = λ yes. absurd (true_not_false (sym yes)) }

module _ (factor : ℕ) (r : ℕ → ℤ) (returns₀ : List ℤ) (variances₀ : List ℕ) where
  -- the first j returns lie in their range, they and their variances are stored, and `newest` is the last of these
  pub record Walked (j : ℕ) (returns : List ℤ) (variances : List ℕ) (newest : ℕ) : Type 0 where
    pub returns_are : Filling r returns₀ j returns
    pub variances_are : variances ≡ filled (variance factor r) j variances₀
    pub newest_is : 0 < j → newest ≡ variance factor r (j - 1)
    pub newest_in : newest ≤ 10000000000000000

  -- nothing is stored
  pub walked_none : Walked 0 returns₀ variances₀ 0
  walked_none =
      record { returns_are = filling_none r returns₀; variances_are = sym (filled_none (variance factor r) variances₀); newest_is = λ some. omega (arith, some); newest_in = omega arith }

  module _ (j : ℕ) (returns : List ℤ) (variances : List ℕ) (newest : ℕ) (walked : Walked j returns variances newest) where
    -- one return more
    pub walked_next : (x : ℤ) (y : ℕ) → j < length returns₀ → j < length variances₀ → in_range (r j) ≡ true → x ≡ r j → y ≡ step_variance factor j newest (r j) → y ≤ 10000000000000000
        → Walked (j + 1) (set returns j x) (set variances j y) y
    walked_next x y a b good is own small =
        let next : y ≡ variance factor r j = own ∙ variance_next factor r j newest walked.newest_is in
        let same : j + 1 - 1 ≡ j = omega arith in
        record {
          returns_are = filling_next r returns₀ j returns walked.returns_are x a good is;
          variances_are = filled_next (variance factor r) j variances₀ variances y walked.variances_are b next;
          newest_is = λ some. next ∙ ap (variance factor r) (sym same);
          newest_in = small;
        }

    -- a return is out of its range
    pub walked_bad : (n : ℕ) → j < n → in_range (r j) ≡ false → Stored false factor r n returns₀ returns variances₀ variances
    walked_bad n low bad = record { returns_are = filling_bad r returns₀ j returns walked.returns_are n low bad; variances_are = λ yes. absurd (true_not_false (sym yes)) }
