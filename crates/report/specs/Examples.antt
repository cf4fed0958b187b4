-- The checked example's lines, and a refusal's; and what the program prints for the printed book.
use Rattle.std.specs.Prelude.{ℕ, List, [], ◌∷◌, ◌++◌, ◌≡◌}
use Rattle.margin.specs.Examples.{printed_values}
use Rattle.margin.specs.Run.{Values, Refusal}
use Rattle.valuing.specs.Examples.{printed_book}
use Rattle.report.specs.Printed.{printed}
use Rattle.report.specs.Text.{lines_of}

-- "tail 1"
abbrev pub example_tail : List ℕ
example_tail = 116 ∷ 97 ∷ 105 ∷ 108 ∷ 32 ∷ 49 ∷ 10 ∷ []

-- "unscaled 27791450000 29558290000 353368000 28144818000 0"
abbrev pub example_unscaled : List ℕ
example_unscaled =
    117 ∷ 110 ∷ 115 ∷ 99 ∷ 97 ∷ 108 ∷ 101 ∷ 100
    ∷ 32 ∷ 50 ∷ 55 ∷ 55 ∷ 57 ∷ 49 ∷ 52 ∷ 53 ∷ 48 ∷ 48 ∷ 48 ∷ 48
    ∷ 32 ∷ 50 ∷ 57 ∷ 53 ∷ 53 ∷ 56 ∷ 50 ∷ 57 ∷ 48 ∷ 48 ∷ 48 ∷ 48
    ∷ 32 ∷ 51 ∷ 53 ∷ 51 ∷ 51 ∷ 54 ∷ 56 ∷ 48 ∷ 48 ∷ 48
    ∷ 32 ∷ 50 ∷ 56 ∷ 49 ∷ 52 ∷ 52 ∷ 56 ∷ 49 ∷ 56 ∷ 48 ∷ 48 ∷ 48
    ∷ 32 ∷ 48 ∷ 10 ∷ []

-- "scaled 26729614530 28469510220 347979138 27077593668 0"
abbrev pub example_scaled : List ℕ
example_scaled =
    115 ∷ 99 ∷ 97 ∷ 108 ∷ 101 ∷ 100
    ∷ 32 ∷ 50 ∷ 54 ∷ 55 ∷ 50 ∷ 57 ∷ 54 ∷ 49 ∷ 52 ∷ 53 ∷ 51 ∷ 48
    ∷ 32 ∷ 50 ∷ 56 ∷ 52 ∷ 54 ∷ 57 ∷ 53 ∷ 49 ∷ 48 ∷ 50 ∷ 50 ∷ 48
    ∷ 32 ∷ 51 ∷ 52 ∷ 55 ∷ 57 ∷ 55 ∷ 57 ∷ 49 ∷ 51 ∷ 56
    ∷ 32 ∷ 50 ∷ 55 ∷ 48 ∷ 55 ∷ 55 ∷ 53 ∷ 57 ∷ 51 ∷ 54 ∷ 54 ∷ 56
    ∷ 32 ∷ 48 ∷ 10 ∷ []

-- "margin 28145"
abbrev pub example_margin : List ℕ
example_margin = 109 ∷ 97 ∷ 114 ∷ 103 ∷ 105 ∷ 110 ∷ 32 ∷ 50 ∷ 56 ∷ 49 ∷ 52 ∷ 53 ∷ 10 ∷ []

-- "refused 5 0"
abbrev pub example_refused : List ℕ
example_refused = 114 ∷ 101 ∷ 102 ∷ 117 ∷ 115 ∷ 101 ∷ 100 ∷ 32 ∷ 53 ∷ 32 ∷ 48 ∷ 10 ∷ []

-- the lines of the printed book, and of a refusal
pub record LineExamples : Type 0 where
  pub margin : lines_of (Values printed_values) (0 ∷ 0 ∷ []) ≡ example_tail ++ example_unscaled ++ example_scaled ++ example_margin
  pub refused : lines_of (Refusal 5 0) [] ≡ example_refused
  pub program : printed printed_book ≡ example_tail ++ example_unscaled ++ example_scaled ++ example_margin
