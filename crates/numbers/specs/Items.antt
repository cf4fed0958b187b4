-- Findings in a row, the first item that fails, tests over all items, the largest of items, sums over items. An item is its index, from 0.
use Rattle.std.specs.Prelude.{ℕ, zero, suc, ◌+◌, max, Bool, true, false, ◌&&◌, ◌||◌, eqb, ℤ, pos, ◌+ℤ◌, if◌then◌else◌}
use Rattle.numbers.specs.Findings.{Finding, Passed, Refused}

-- the second check, where the first passed; else the first one's refusal
abbrev pub and_then : Finding → Finding → Finding
and_then Passed v = v
and_then (Refused number item) v = Refused number item

-- `code` gives 0 for a good item and else its refusal's number. Of the n items from i on, the first that fails is refused
unfoldable pub first_failing : (ℕ → ℕ) → ℕ → ℕ → Finding
first_failing code zero i = Passed
first_failing code (suc n) i = if eqb (code i) 0 then first_failing code n (suc i) else Refused (code i) i

-- the test holds of each of the items 0 to n − 1
unfoldable pub every : (ℕ → Bool) → ℕ → Bool
every test zero = true
every test (suc n) = every test n && test n

-- the test holds of one of the items 0 to n − 1
unfoldable pub some : (ℕ → Bool) → ℕ → Bool
some test zero = false
some test (suc n) = some test n || test n

-- of the n items from i on, the first that the test holds of; the one past them where it holds of none
unfoldable pub first_where : (ℕ → Bool) → ℕ → ℕ → ℕ
first_where test zero i = i
first_where test (suc n) i = if test i then i else first_where test n (suc i)

-- of the items 0 to n − 1, the last that the test holds of; 0 where it holds of none
unfoldable pub last_where : (ℕ → Bool) → ℕ → ℕ
last_where test zero = 0
last_where test (suc n) = if test n then n else last_where test n

-- the largest of f 0 .. f (n − 1), 0 where there is none
unfoldable pub largest : (ℕ → ℕ) → ℕ → ℕ
largest f zero = 0
largest f (suc n) = max (largest f n) (f n)

-- the sum over the items 0 to n − 1 by an operation, from its unit
unfoldable pub sum_of : {A : Type 0} → (A → A → A) → A → (ℕ → A) → ℕ → A
sum_of op none f zero = none
sum_of op none f (suc n) = op (sum_of op none f n) (f n)

-- the total of whole numbers that are not negative
abbrev pub total : (ℕ → ℕ) → ℕ → ℕ
total f n = sum_of ◌+◌ 0 f n

-- the total of signed numbers
abbrev pub total_z : (ℕ → ℤ) → ℕ → ℤ
total_z f n = sum_of ◌+ℤ◌ (pos 0) f n

-- how often a is among f 0 .. f (n − 1), by a test of equality
unfoldable pub how_often : {A : Type 0} → (A → A → Bool) → A → (ℕ → A) → ℕ → ℕ
how_often same a f n = total (λ i. if same a (f i) then 1 else 0) n
