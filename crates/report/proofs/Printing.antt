-- What a run on the program's buffers gives the printing.
-- Assumes nothing.
use Prim.Native.Nat.{ℕ, ◌≤◌, ◌<◌}
use mathlib.Core.List.{List}
use mathlib.Core.Path.{◌≡◌, ap, ◌∙◌}
use native.Mathlib.Omega.{arith}
use borrow.Author.Tests.{le-ltb, lt-ltb}
use lib.IntN.{ℤ, pos}
use lib.ListN.{length, replicate, length-replicate}
use Rattle.margin.specs.Check.{lent}
use Rattle.margin.specs.Run.{outcome_of, outcome_to, Ran}
use Rattle.std.specs.Prelude.{Result}
use Rattle.margin.specs.declared.Figures.{Figures}
use Rattle.numbers.specs.declared.error.Refusal.{Refusal}
use Rattle.report.specs.InnerContracts.{Printable, listed_by}
use Rattle.report.specs.Printed.{program_lent, list_after, printed}
use Rattle.report.specs.Text.{lines_of, too_long}
use Rattle.report.proofs.Buffers.{listed_most}

-- a run with the program's buffers, all zeros
module _ (book : List ℕ) (answer : Result Figures Refusal) (x r : List ℤ) (list : List ℕ)
    (ran : Ran book (replicate 64 (pos 0)) (replicate 16384 (pos 0)) (replicate 32 0) answer x r list) where
  lends : lent (length (replicate 64 (pos 0))) (length (replicate 16384 (pos 0))) 32 ≡ program_lent
  lends = rw (length-replicate 64 (pos 0), length-replicate 16384 (pos 0))

  -- its outcome
  answered : outcome_of answer ≡ outcome_to book program_lent
  answered = ran.answered ∙ ap (outcome_to book) lends

  -- its list
  listed : list ≡ list_after book
  unfolding list_after
  listed = rw (← lends) ran.left.listed

  -- it can be printed
  pub run_printable : (out : List ℕ) → length list ≡ 32 → 512 ≤ length out → Printable (outcome_of answer) list out
  run_printable out size room =
      let few = ap listed_by answered in
      record { few = omega (arith, few, listed_most book program_lent); listed = omega (arith, few, size, listed_most book program_lent); room = room }

  -- and what is printed
  pub run_printed : length book ≤ 32768 → lines_of (outcome_of answer) list ≡ printed book
  unfolding printed
  run_printed short = rw (le-ltb 32768 (length book) short, answered, listed)

-- a book that is too long
pub long_printed : (book : List ℕ) → 32768 < length book → printed book ≡ too_long
unfolding printed
long_printed book long = rw (lt-ltb 32768 (length book) long)
