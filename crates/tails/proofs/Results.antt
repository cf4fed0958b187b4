-- What the functions that hand out a tail cite: the kept losses' total, and losses that were stored in a buffer first.
-- Assumes nothing.
use Prim.Native.Nat.{ℕ, ◌+◌, ◌-◌, ◌≤◌, ◌<◌}
use mathlib.Core.List.{List, [], ◌∷◌, ◌++◌, map}
use mathlib.Core.Path.{◌≡◌, refl, sym, ap, ◌∙◌}
use native.Mathlib.Nat.{zero-add}
use native.Mathlib.Omega.{arith}
use borrow.Author.Tests.{ltb-true, ltb-false}
use lib.Dec.{ltb}
use lib.ListN.{length, take, drop, get_or, replicate, drop_of_length-le, get_or-eq_default}
use Rattle.std.proofs.lemmas.List.{append-nil}
use lib.Seq.{get_or-take, length-take-le, ext_get_or}
use Rattle.std.specs.List.{sum}
use Rattle.std.proofs.lemmas.List.Folds.{sum_by-replicate}
use Rattle.std.proofs.lemmas.List.Sums.{sum_by-append}
use Rattle.numbers.specs.Buffers.{table, filled, placed}
use Rattle.numbers.proofs.Buffers.{table-length, table_at, filled-length, filled_read, placed_copied}
use Rattle.numbers.proofs.Items.{by_test}
use Rattle.numbers.specs.Conditions.{In}
use Rattle.tails.specs.Ranking.{tail_list, total_over, tail_sum}
use Rattle.tails.specs.InnerContracts.{padded, IsTail, IsWorst, Rankable}
use Rattle.tails.proofs.Choices.{list_chosen}
use Rattle.tails.proofs.Padded.{padded_read}
use Rattle.tails.proofs.Tails.{list_totals, list_same, tail_same, tail_bound}

-- ---- the kept losses

-- the losses of a list, added up
sum_over : (f : ℕ → ℕ) (s : List ℕ) → sum (map f s) ≡ total_over f s
unfolding total_over
sum_over f [] = refl
sum_over f (a ∷ s) = omega (arith, sum_by-append (λ (x : ℕ). x) (f a ∷ []) (map f s), sum_over f s)

-- zeros add nothing
padded_sum : (size : ℕ) (s : List ℕ) → sum (padded size s) ≡ sum s
unfolding padded
padded_sum size s =
    omega (arith, sum_by-append (λ (x : ℕ). x) s (replicate (size - length s) 0), sum_by-replicate (λ (x : ℕ). x) (size - length s) 0)

module _ (f : ℕ → ℕ) (n k : ℕ) (losses list : List ℕ) (worst : IsWorst f n k losses list) where
  -- their total is the tail sum
  pub kept_total : sum losses ≡ tail_sum f n k
  kept_total = ap sum worst.kept ∙ (padded_sum 16 (map f (tail_list f n k)) ∙ (sum_over f (tail_list f n k) ∙ list_totals f n k))

  -- which 64 bits hold
  pub kept_fits : k ≤ 16 → ((s : ℕ) → s < n → f s ≤ 100000000000000000) → sum losses < 18446744073709551616
  kept_fits most bound = omega (arith, kept_total, tail_bound f 100000000000000000 n k bound)

-- ---- the kept scenarios' numbers, which 16 bits hold

pub kept_numbers : (f : ℕ → ℕ) (n k : ℕ) (losses list : List ℕ) → IsWorst f n k losses list → n ≤ 1024 → (j : ℕ) → get_or list j 0 < 65536
kept_numbers f n k losses list worst few j =
    let read : get_or list j 0 ≡ get_or (tail_list f n k) j 0 = ap (λ (l : List ℕ). get_or l j 0) worst.listed ∙ padded_read 16 (tail_list f n k) j in
    by_test (ltb j (length (tail_list f n k)))
    (λ t. omega (arith, read, (list_chosen f n k).below j (ltb-true j (length (tail_list f n k)) t)))
    (λ t. omega (arith, read, get_or-eq_default (tail_list f n k) 0 (ltb-false j (length (tail_list f n k)) t)))

-- ---- a list copied to a buffer

-- its entries one by one
pub table_list : (l : List ℕ) → table (λ j. get_or l j 0) (length l) 0 ≡ l
table_list l =
    ext_get_or 0 (table (λ j. get_or l j 0) (length l) 0) l (table-length (λ j. get_or l j 0) (length l) 0)
    (λ i low. table_at (λ j. get_or l j 0) (length l) 0 i 0 (omega (arith, table-length (λ j. get_or l j 0) (length l) 0)) ∙ ap (λ (j : ℕ). get_or l j 0) (zero-add i))

-- into a buffer of its size
pub copied_whole : (l old : List ℕ) → length old ≡ length l → filled (λ j. get_or l j 0) (length l) old ≡ l
unfolding filled
copied_whole l old size =
    let none : drop (length l) old ≡ [] = drop_of_length-le old (omega (arith, size)) in
    rw (table_list l, none) (append-nil l)

-- from a place on
pub copied : (at : ℕ) (l out new : List ℕ) → new ≡ l
    → take at out ++ (new ++ drop (at + length l - at) (drop at out)) ≡ placed (λ j. get_or l j 0) at (length l) out
copied at l out new is = placed_copied (λ j. get_or l j 0) at (length l) out new (is ∙ sym (table_list l))

-- ---- losses stored in a buffer

module _ (g : ℕ → ℕ) (n : ℕ) (old buffer : List ℕ) (fits : n ≤ length old) (is : buffer ≡ filled g n old) where
  stored_size : length (take n buffer) ≡ n
  stored_size = length-take-le n buffer (omega (arith, ap length is, filled-length g n old fits))

  stored_at : (s : ℕ) → s < n → get_or (take n buffer) s 0 ≡ g s
  stored_at s low = get_or-take n buffer s 0 low ∙ filled_read g n old buffer s 0 is low

  -- they can be ranked
  pub stored_rankable : (k : ℕ) → In 1 16 k → n ≤ 1024 → ((s : ℕ) → s < n → g s ≤ 100000000000000000) → Rankable (take n buffer) k
  stored_rankable k tail_in size bound = record {
    tail_in = tail_in;
    size_in = omega (arith, stored_size);
    loss_in = λ s low. let less : s < n = omega (arith, stored_size) in rw (stored_at s less) (bound s less);
  }

  -- and their tail is that of the losses
  pub stored_tail : (k sum : ℕ) (list : List ℕ) → IsTail (λ s. get_or (take n buffer) s 0) (length (take n buffer)) k sum list → IsTail g n k sum list
  stored_tail k sum list tail = record {
    total = tail.total ∙ (ap (λ (m : ℕ). tail_sum (λ s. get_or (take n buffer) s 0) m k) stored_size ∙ tail_same (λ s. get_or (take n buffer) s 0) g n k stored_at);
    listed = tail.listed ∙ ap (padded 16) (ap (λ (m : ℕ). tail_list (λ s. get_or (take n buffer) s 0) m k) stored_size ∙ list_same (λ s. get_or (take n buffer) s 0) g n k stored_at);
  }
