-- Contracts between functions: the benchmarks' calls, what each takes, and what came of it.
use Rattle.std.specs.Prelude.{ℕ, Bool, ◌&&◌, List, leb, length, get_or, if◌then◌else◌}
use Rattle.numbers.specs.Conditions.{within}
use Rattle.numbers.specs.Items.{every}
use Rattle.numbers.specs.Root.{root}
use Rattle.reading.specs.Book.{market_of}
use Rattle.reading.specs.Stretch.{passes}
use Rattle.scenarios.specs.Buffer.{returns_size}
use Rattle.scenarios.specs.Check.{check_book}

-- 1 for yes, 0 for no
abbrev pub one_or_zero : Bool → ℕ
one_or_zero b = if b then 1 else 0

-- the whole root of value i
abbrev pub root_of : List ℕ → ℕ → ℕ
root_of values i = root (get_or values i 0)

-- a book that 1 to 21 let pass, and at least as many entries as its returns need
abbrev pub fillable : List ℕ → ℕ → Bool
fillable book entries = passes (check_book book) && leb (returns_size (market_of book)) entries

-- a loss of at most 10^17
abbrev pub good_loss : List ℕ → ℕ → Bool
good_loss losses s = leb (get_or losses s 0) 100000000000000000

-- losses, k and a list with so many entries of which a tail can be taken: k is 1 to 16, at most 1,024 losses, each at most
-- 10^17, and at least k entries
abbrev pub rankable : List ℕ → ℕ → ℕ → Bool
rankable losses k entries =
    within 1 16 k && (leb (length losses) 1024 && (leb k entries && every (good_loss losses) (length losses)))
