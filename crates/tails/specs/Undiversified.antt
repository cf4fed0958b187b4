-- T and U of exposures, plain and weighted: of n vertices' exposures x by returns r, by vertex and scenario, over LP scenarios.
use Rattle.std.specs.Prelude.{ℕ, List, ℤ, ◌*ℤ◌, length}
use Rattle.numbers.specs.Items.{total}
use Rattle.tails.specs.Losses.{pnl, loss}
use Rattle.tails.specs.Ranking.{tail_list, tail_sum, weighted_over}

-- "T = total of the k largest losses": of the P&Ls'
abbrev pub pnl_tail : ℕ → ℕ → (ℕ → ℤ) → (ℕ → ℕ → ℤ) → ℕ → ℕ → ℕ
pnl_tail mode n x r lp k = tail_sum (λ s. loss mode (pnl n x r s)) lp k

-- "U = the sum, over vertices, of the T that each exposure alone would have."
abbrev pub undiversified : ℕ → ℕ → (ℕ → ℤ) → (ℕ → ℕ → ℤ) → ℕ → ℕ → ℕ
undiversified mode n x r lp k = total (λ v. tail_sum (λ s. loss mode (x v *ℤ r v s)) lp k) n

-- ---- by weights, one for each listed scenario, given in the list's order

-- T: the weighted total of the listed scenarios' losses
abbrev pub weighted_tail : List ℕ → ℕ → ℕ → (ℕ → ℤ) → (ℕ → ℕ → ℤ) → ℕ → ℕ
weighted_tail ws mode n x r lp = weighted_over (λ s. loss mode (pnl n x r s)) ws (tail_list (λ s. loss mode (pnl n x r s)) lp (length ws))

-- U: the sum, over vertices, of the weighted T that each exposure alone would have
abbrev pub weighted_undiversified : List ℕ → ℕ → ℕ → (ℕ → ℤ) → (ℕ → ℕ → ℤ) → ℕ → ℕ
weighted_undiversified ws mode n x r lp =
    total (λ v. weighted_over (λ s. loss mode (x v *ℤ r v s)) ws (tail_list (λ s. loss mode (x v *ℤ r v s)) lp (length ws))) n
