-- The checked example of a return and the printed book's scenarios hold, by computation. A root is never searched for: its two
-- bounds pick it out.
-- Assumes nothing.
use Prim.Native.Nat.{ℕ, zero, suc, ◌+◌, ◌-◌, ◌<◌}
use mathlib.Core.Bool.{true}
use mathlib.Core.List.{List, [], ◌∷◌}
use mathlib.Core.Path.{◌≡◌, refl, sym, ap, ◌∙◌, ap₂}
use native.Mathlib.Nat.{zero-add}
use native.Mathlib.Omega.{arith}
use lib.IntN.{ℤ, pos, negsuc}
use lib.ListN.{get_or}
use Rattle.numbers.specs.Buffers.{part_of, table}
use Rattle.numbers.specs.Items.{and_then, every}
use Rattle.numbers.specs.Little.{u16_at, u32_at}
use Rattle.numbers.specs.Root.{IsRoot, root}
use Rattle.numbers.specs.Rounding.{nearest, negative, with_sign, nearest_z}
use Rattle.numbers.specs.Findings.{Finding, Passed}
use Rattle.numbers.proofs.Buffers.{table_at}
use Rattle.numbers.proofs.Roots.{root_only}
use Rattle.reading.specs.Book.{Market, section_of, market_of}
use Rattle.reading.specs.Parameters.{warm_up, smoothing}
use Rattle.valuing.specs.Examples.{printed_book}
use Rattle.valuing.proofs.Examples.{printed_exposures_lem}
use Rattle.scenarios.specs.Check.{returns_in, scaled_in, series_good, check_returns, check_book}
use Rattle.scenarios.specs.Examples.{ReturnExample, PrintedReturns}
use Rattle.scenarios.specs.Returns.{return_of, return_from, return_at, return_count, in_range}
use Rattle.scenarios.specs.Scaled.{scaled_of, newest_volatility, unscaled_from, scaled_from, unscaled, scaled}
use Rattle.scenarios.specs.Volatility.{next_variance, variance, volatility}
use Rattle.scenarios.proofs.Series.{ranges_same}
use Rattle.scenarios.proofs.Sound.{series_pass}

-- the return
pub return_example : ReturnExample
unfolding nearest negative with_sign nearest_z return_of
return_example = record { lower = refl }

-- ---- what is computed of a series, past the roots

-- a scaled scenario by two variances and their roots
scaled_is : (p : List ℕ) (r : ℕ → ℤ) (s : ℕ) {last n newest own : ℕ}
    → variance (smoothing p) r (return_count p - 1) ≡ last → IsRoot last newest → variance (smoothing p) r (warm_up p + s) ≡ n → IsRoot n own
    → scaled_from p r s ≡ scaled_of (unscaled_from p r s) newest own
unfolding scaled_from newest_volatility volatility
scaled_is p r s {last} {n} {newest} {own} last_is newest-is is own_is =
    ap₂ (scaled_of (unscaled_from p r s)) (ap root last_is ∙ sym (root_only last newest newest-is)) (ap root is ∙ sym (root_only n own own_is))

four : (f : ℕ → ℤ) {a b c d : ℤ} → f 0 ≡ a → f 1 ≡ b → f 2 ≡ c → f 3 ≡ d → table f 4 0 ≡ a ∷ b ∷ c ∷ d ∷ []
unfolding table
four f a b c d = rw (a, b, c, d) refl

-- the entries lie in their range where those of their table do
table_in : (f : ℕ → ℤ) (n : ℕ) (l : List ℤ) → table f n 0 ≡ l → every (λ j. in_range (get_or l j (pos 0))) n ≡ true → every (λ j. in_range (f j)) n ≡ true
table_in f n l is good =
    ranges_same f n (λ j. get_or l j (pos 0)) (λ j low. sym (ap (λ (a : List ℤ). get_or a j (pos 0)) (sym is) ∙ (table_at f n 0 j (pos 0) low ∙ ap f (zero-add j)))) ∙ good

series_good_lem : (p : List ℕ) (r : ℕ → ℤ) → returns_in p r ≡ true → scaled_in p r ≡ true → series_good p r ≡ true
unfolding series_good
series_good_lem p r a b = rw (a, b) refl

-- ---- the printed book

abbrev printed : Market
printed = market_of printed_book

first_scaled_lem : table (scaled printed 0) 4 0 ≡ negsuc 19694 ∷ pos 19695 ∷ negsuc 19694 ∷ pos 0 ∷ []
unfolding part_of u16_at u32_at nearest negative with_sign nearest_z section_of market_of return_of return_from next_variance variance unscaled_from scaled_of
first_scaled_lem =
    let newest : IsRoot 3760000000000 1939071 = record { low = omega arith; high = omega arith } in
    let own : IsRoot 4000000000000 2000000 = record { low = omega arith; high = omega arith } in
    let scenario : (s : ℕ) → variance 940 (return_at printed 0) (0 + s) ≡ 4000000000000 → scaled printed 0 s ≡ scaled_of (unscaled printed 0 s) 1939071 2000000 =
    λ s is. scaled_is printed.parameters (return_at printed 0) s refl newest is own in
    four (scaled printed 0) (scenario 0 refl) (scenario 1 refl) (scenario 2 refl) (scaled_is printed.parameters (return_at printed 0) 3 refl newest refl newest)

second_scaled_lem : table (scaled printed 1) 4 0 ≡ pos 28875 ∷ pos 0 ∷ negsuc 19694 ∷ pos 0 ∷ []
unfolding part_of u16_at u32_at nearest negative with_sign nearest_z section_of market_of return_of return_from next_variance variance unscaled_from scaled_of
second_scaled_lem =
    let newest : IsRoot 7700856000000 2775041 = record { low = omega arith; high = omega arith } in
    let scenario : (s n own : ℕ) → variance 940 (return_at printed 1) (0 + s) ≡ n → IsRoot n own → scaled printed 1 s ≡ scaled_of (unscaled printed 1 s) 2775041 own =
    λ s n own is root_is. scaled_is printed.parameters (return_at printed 1) s refl newest is root_is in
    four (scaled printed 1)
    (scenario 0 9000000000000 3000000 refl (record { low = omega arith; high = omega arith }))
    (scenario 1 8460000000000 2908607 refl (record { low = omega arith; high = omega arith }))
    (scenario 2 8192400000000 2862236 refl (record { low = omega arith; high = omega arith }))
    (scenario 3 7700856000000 2775041 refl newest)

printed_good : (v : ℕ) → v < 2 → series_good printed.parameters (return_at printed v) ≡ true
unfolding every part_of u16_at u32_at nearest negative with_sign nearest_z section_of market_of return_of return_from
printed_good zero low = series_good_lem printed.parameters (return_at printed 0) refl (table_in (scaled printed 0) 4 _ first_scaled_lem refl)
printed_good (suc zero) low = series_good_lem printed.parameters (return_at printed 1) refl (table_in (scaled printed 1) 4 _ second_scaled_lem refl)
printed_good (suc (suc v)) low = absurd (omega arith)

printed_passed : check_book printed_book ≡ Passed
unfolding check_book part_of u16_at u32_at section_of market_of
printed_passed = ap (λ (d : Finding). and_then d (check_returns printed)) printed_exposures_lem.passed ∙ series_pass printed printed_good

-- the printed book
pub printed_returns_lem : PrintedReturns
unfolding table part_of u16_at u32_at nearest negative with_sign nearest_z section_of market_of return_of return_from unscaled_from
printed_returns_lem = record { passed = printed_passed; first_unscaled = refl; second_unscaled = refl; first_scaled = first_scaled_lem; second_scaled = second_scaled_lem }
