-- What is taken meets what the layers below ask for.
-- Assumes nothing.
use Prim.Native.Nat.{ℕ, ◌≤◌, ◌<◌}
use mathlib.Core.Bool.{Bool, true, false, ◌&&◌}
use mathlib.Core.List.{List}
use mathlib.Core.Path.{◌≡◌, sym}
use native.Mathlib.Omega.{arith}
use borrow.Author.Tests.{leb-true, le-leb, lt-leb}
use lib.Dec.{leb}
use lib.ListN.{length}
use Rattle.std.specs.Bool.{MatchBool}
use Rattle.std.specs.List.{AllWithin, HoldsAt}
use Rattle.numbers.specs.Findings.{Passed}
use Rattle.numbers.specs.Conditions.{within}
use Rattle.numbers.specs.Items.{every}
use Rattle.numbers.proofs.Items.{both, every_each, every_all, every_bad, in_range_lem}
use Rattle.reading.specs.Book.{market_of}
use Rattle.reading.specs.Stretch.{passes}
use Rattle.reading.proofs.Stretches.{passes_passed}
use Rattle.scenarios.specs.Buffer.{returns_size}
use Rattle.scenarios.specs.Check.{check_book}
use Rattle.tails.specs.InnerContracts.{Rankable}
use Rattle.timing.specs.InnerContracts.{fillable, good_loss, rankable}

-- a book that can be filled passed, and its returns fit
pub fill_taken : (book : List ℕ) (entries : ℕ) → fillable book entries ≡ true
    → (check_book book ≡ Passed) × (returns_size (market_of book) ≤ entries)
fill_taken book entries holds =
    let parts = both (passes (check_book book)) (leb (returns_size (market_of book)) entries) holds in
    (passes_passed (check_book book) parts.0, leb-true (returns_size (market_of book)) entries parts.1)

-- what a pass over all losses finds, by the definition
pub all_good : (losses : List ℕ) (good : Bool)
    → MatchBool good (AllWithin (λ x. x ≤ 100000000000000000) losses 0 (length losses))
    ((k : ℕ) × (k < length losses) × HoldsAt (λ x. 100000000000000000 < x) losses k)
    → good ≡ every (good_loss losses) (length losses)
all_good losses true each = sym (every_all (good_loss losses) (length losses) (λ j low. le-leb _ _ (each j 0 (omega arith) low)))
all_good losses false (k, low, large) = sym (every_bad (good_loss losses) (length losses) k low (lt-leb _ _ (large 0)))

-- losses of which a tail can be taken
pub rank_taken : (losses : List ℕ) (k entries : ℕ) → rankable losses k entries ≡ true → Rankable losses k × (k ≤ entries)
rank_taken losses k entries holds =
    let first = both (within 1 16 k) (leb (length losses) 1024 && (leb k entries && every (good_loss losses) (length losses))) holds in
    let second = both (leb (length losses) 1024) (leb k entries && every (good_loss losses) (length losses)) first.1 in
    let third = both (leb k entries) (every (good_loss losses) (length losses)) second.1 in (
      record {
        tail_in = in_range_lem 1 16 k first.0;
        size_in = leb-true (length losses) 1024 second.0;
        loss_in = λ s low. leb-true _ _ (every_each (good_loss losses) (length losses) third.1 s low);
      },
      leb-true k entries third.0,
    )
