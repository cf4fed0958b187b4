-- The checked examples of k, in one statement.
use Rattle.std.specs.Prelude.{ℕ, ◌≡◌, List, [], ◌∷◌}
use Rattle.numbers.specs.Findings.{Refused}
use Rattle.reading.specs.Parameters.{tail_count_by, check_parameters}

-- parameters with LP 1,000, hp 1, sw 0, confidence 9,834, smoothing factor 940, double, p 80
abbrev pub too_many : List ℕ
too_many = 232 ∷ 3 ∷ 1 ∷ 0 ∷ 106 ∷ 38 ∷ 172 ∷ 3 ∷ 1 ∷ 80 ∷ 0 ∷ 0 ∷ 0 ∷ 0 ∷ 0 ∷ 0 ∷ []

-- "k: LP 250 at 9,900 (2.5) 2; 251 gives 3; 40 (0.4) gives 1; 1,000 at 9,835 (16.5) 16; at 9,834 (16.6) 17, so refused 5."
pub record TailExamples : Type 0 where
  pub half : tail_count_by 250 9900 ≡ 2
  pub above : tail_count_by 251 9900 ≡ 3
  pub least : tail_count_by 40 9900 ≡ 1
  pub most : tail_count_by 1000 9835 ≡ 16
  pub over : tail_count_by 1000 9834 ≡ 17
  pub refused : check_parameters too_many ≡ Refused 5 0
