-- A tail's list in a lent buffer.
-- Assumes nothing.
use Prim.Native.Nat.{ℕ}
use mathlib.Core.List.{List}
use mathlib.Core.Path.{◌≡◌, ap, ◌∙◌}
use lib.ListN.{length, take, get_or}
use lib.Seq.{get_or-take}
use Rattle.numbers.specs.Buffers.{filled, placed}
use Rattle.numbers.proofs.Buffers.{filled_same}
use Rattle.tails.specs.InnerContracts.{padded}
use Rattle.tails.proofs.Padded.{padded_read}

-- the first k of a padded list, put at a buffer's start
pub put_first : (k size : ℕ) (s found old : List ℕ) → found ≡ padded size s → k ≡ length (take k found)
    → placed (λ j. get_or (take k found) j 0) 0 (length (take k found)) old ≡ filled (λ j. get_or s j 0) k old
unfolding placed
put_first k size s found old is count =
    rw (← count)
    (filled_same (λ j. get_or (take k found) j 0) (λ j. get_or s j 0) k old (λ j low. get_or-take k found j 0 low ∙ (ap (λ (l : List ℕ). get_or l j 0) is ∙ padded_read size s j)))
