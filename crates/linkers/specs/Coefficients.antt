-- Coefficients, in hundred-thousandths, and the coupons that are multiplied by them.
use Rattle.std.specs.Prelude.{ℕ, ◌*◌, max, ◌&&◌, List, ltb, if◌then◌else◌}
use Rattle.linkers.specs.declared.Linker.{Linker}
use Rattle.numbers.specs.Rounding.{nearest}
use Rattle.numbers.specs.Items.{largest}
use Rattle.schedule.specs.Terms.{coupon, amount_on}
use Rattle.linkers.specs.Numbers.{issue_number, coupon_number, bears_coupon}

-- "the largest earlier coupon (paid ones too) or issue number": an earlier coupon lies further before maturity, itself not among them.
-- Date i lies i months back at least, and there are 1,200 months
unfoldable pub largest_before : Linker → List ℕ → ℕ → ℕ
largest_before l prices j =
    max (issue_number l prices) (largest (λ i. if ltb j i && bears_coupon l i then coupon_number l prices i else 0) 1200)

-- "by the largest earlier coupon (paid ones too) or issue number for BTP Italia, by the issue's number for others"
unfoldable pub base : Linker → List ℕ → ℕ → ℕ
base l prices j = if l.btp_italia then largest_before l prices j else issue_number l prices

-- "The coefficient divides this by .., nearest at five decimals": an index number, by another
unfoldable pub over : ℕ → ℕ → ℕ
over number by = nearest (100000 * number) by

-- date j's
abbrev pub coefficient : Linker → List ℕ → ℕ → ℕ
coefficient l prices j = over (coupon_number l prices j) (base l prices j)

-- "The coupons of W1 are multiplied by them, nearest": one of W1's, by a coefficient
unfoldable pub multiplied : ℕ → ℕ → ℕ
multiplied coupon by = nearest (coupon * by) 100000

-- date j's
abbrev pub indexed_coupon : Linker → List ℕ → ℕ → ℕ
indexed_coupon l prices j = multiplied (coupon l.terms) (coefficient l prices j)

-- "The principal is not indexed": what is paid on date j
abbrev pub indexed_amount : Linker → List ℕ → ℕ → ℕ
indexed_amount l prices = amount_on (indexed_coupon l prices)
