-- What the library's `contains` says of a range with both ends, as `within` says it.
-- Assumes nothing.
use Rattle.std.specs.Prelude.{Some}
use Rattle.std.specs.declared.ops.RangeInclusive.{RangeInclusive}
use Rattle.std.specs.Range.{range_inclusive_contains, range_inclusive_start, range_inclusive_end, range_inclusive_exhausted}
use Rattle.std.specs.Ordering.{is_le, nat_cmp}
use Prim.Native.Nat.{ℕ}
use mathlib.Core.Path.{◌≡◌, refl, ◌∙◌}
use mathlib.Core.Bool.{Bool, false}
use lib.Dec.{leb, ltb, eqb}
use native.Mathlib.Omega.{arith}
use borrow.Author.Tests.{le-leb, lt-leb, ltb-true, ltb-false, eqb-true, eqb-false}
use Rattle.numbers.specs.Conditions.{within}
use Rattle.numbers.proofs.Items.{by_test}

-- numbers compare as their test says
pub le_compared : (a b : ℕ) → is_le (nat_cmp a b) ≡ leb a b
le_compared a b =
    by_test (ltb a b)
    (λ less. simp (less, le-leb a b (omega (arith, ltb-true a b less))))
    (λ no. by_test (eqb a b)
    (λ same. simp (no, same, le-leb a b (omega (arith, eqb-true a b same))))
    (λ other. simp (no, other, lt-leb a b (omega (arith, ltb-false a b no, eqb-false a b other)))))

-- a range that nothing was taken from has what lies within its ends
pub contained : (s : RangeInclusive ℕ) (low high x : ℕ) (held : Bool)
    → range_inclusive_start s ≡ low → range_inclusive_end s ≡ high → range_inclusive_exhausted s ≡ false
    → held ≡ range_inclusive_contains (λ a b. Some (nat_cmp a b)) s x → held ≡ within low high x
contained s low high x held start end fresh is = is ∙ rw (start, end, fresh) (rw (le_compared low x, le_compared x high) refl)
