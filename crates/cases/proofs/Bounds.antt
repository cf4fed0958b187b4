-- Numbers that were read meet what the tails layer asks for, and what it makes of them is of the case.
-- Assumes nothing.
use Prim.Native.Nat.{ℕ, ◌≤◌, ◌<◌}
use mathlib.Core.List.{List}
use mathlib.Core.Path.{◌≡◌, ap, ◌∙◌}
use native.Mathlib.Omega.{arith}
use borrow.Author.Tests.{leb-true}
use lib.IntN.{ℤ, pos, nat_abs}
use lib.ListN.{get_or}
use Rattle.numbers.specs.Conditions.{In}
use Rattle.numbers.proofs.Items.{every_each}
use Rattle.tails.specs.Ranking.{tail_list, tail_sum}
use Rattle.tails.specs.InnerContracts.{padded, IsTail, Pnls, Rankable}
use Rattle.tails.proofs.Tails.{list_same, tail_same}
use Rattle.cases.specs.InnerContracts.{Numbers, good_number}

-- losses
pub losses_rankable : (f : ℕ → ℕ) (k m : ℕ) (losses : List ℕ) → Numbers (λ x. x) f m losses → In 1 16 k → m ≤ 1024 → Rankable losses k
losses_rankable f k m losses read tail_in few =
    record {
      tail_in = tail_in;
      size_in = omega (arith, read.count, few);
      loss_in = λ s low. small s (omega (arith, read.count, low));
    }
  where
    small : (s : ℕ) → s < m → get_or losses s 0 ≤ 100000000000000000
    small s low = rw (read.are s 0 low) (leb-true (f s) 100000000000000000 (every_each (good_number (λ x. x) f) m read.good s low))

-- P&Ls
pub pnls_read : (f : ℕ → ℤ) (m : ℕ) (pnls : List ℤ) → Numbers nat_abs f m pnls → m ≤ 1024 → Pnls pnls
pnls_read f m pnls read short =
    record {
      size_in = omega (arith, read.count, short);
      pnl_in = λ s low. small s (omega (arith, read.count, low));
    }
  where
    small : (s : ℕ) → s < m → nat_abs (get_or pnls s (pos 0)) ≤ 100000000000000000
    small s low = rw (read.are s (pos 0) low) (leb-true (nat_abs (f s)) 100000000000000000 (every_each (good_number nat_abs f) m read.good s low))

-- the tail of numbers that were read is that of the case's
pub same_tail : (f g : ℕ → ℕ) (n m k sum : ℕ) (list : List ℕ) → n ≡ m → ((i : ℕ) → i < m → f i ≡ g i)
    → IsTail f n k sum list → IsTail g m k sum list
same_tail f g n m k sum list count same tail =
    record {
      total = tail.total ∙ (ap (λ (j : ℕ). tail_sum f j k) count ∙ tail_same f g m k same);
      listed = tail.listed ∙ ap (padded 16) (ap (λ (j : ℕ). tail_list f j k) count ∙ list_same f g m k same);
    }
