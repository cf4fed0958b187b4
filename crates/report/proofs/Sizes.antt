-- How long the lines of an answer are: 512 bytes have room for any with a k of at most 16.
-- Assumes nothing.
use Prim.Native.Nat.{ℕ, suc, ◌+◌, ◌*◌, ◌≤◌, min}
use mathlib.Core.List.{List, [], ◌∷◌, ◌++◌}
use mathlib.Core.Path.{◌≡◌, ap}
use native.Mathlib.Omega.{arith}
use lib.ListN.{length, take, drop, length-append, length-take, length-drop}
use lib.Seq.{get_or-take, get_or-drop}
use Rattle.std.specs.Prelude.{Result, Ok, Err}
use Rattle.margin.specs.declared.Figures.{Figures}
use Rattle.numbers.specs.declared.error.Refusal.{Refusal}
use Rattle.numbers.specs.Findings.{number_of, item_of}
use Rattle.margin.specs.declared.Charge.{Charge}
use Rattle.margin.specs.Run.{outcome_of}
use Rattle.report.specs.InnerContracts.{Small, charge_figures, charge_line, listed_by}
use Rattle.report.specs.Text.{field, fields, feed, line, tail_word, unscaled_word, scaled_word, margin_word, refused_word, lines_of}
use Rattle.report.proofs.Digits.{decimal_twenty, decimal_five}
use Rattle.report.proofs.Pieces.{fields-append}

-- ---- fields

-- of any numbers, 21 bytes each
fields_long : (s : List ℕ) → length (fields s) ≤ 21 * length s
unfolding fields
fields_long [] = omega arith
fields_long (n ∷ s) = omega (arith, length-append (field n) (fields s), decimal_twenty n, fields_long s)

-- of numbers that a u16 holds, 6 bytes each
fields_short : (s : List ℕ) → Small s → length (fields s) ≤ 6 * length s
unfolding fields
fields_short [] small = omega arith
fields_short (n ∷ s) small =
    omega (
      arith,
      length-append (field n) (fields s),
      decimal_five n (omega (arith, small 0 (omega arith))),
      fields_short s (λ i low. small (suc i) (omega arith)),
    )

-- ---- lines

line-length : (word numbers : List ℕ) → length (line word numbers) ≡ length word + length (fields numbers) + 1
line-length word numbers = omega (arith, length-append word (fields numbers ++ feed), length-append (fields numbers) feed)

-- a kind's line of at most sixteen scenarios
charge_length : (word : List ℕ) (charge : Charge) (listed : List ℕ) → length listed ≤ 16 → Small listed → length (charge_line word charge listed) ≤ length word + 181
charge_length word charge listed few small =
    omega (
      arith,
      line-length word (charge_figures charge ++ listed),
      ap length (fields-append (charge_figures charge) listed),
      length-append (fields (charge_figures charge)) (fields listed),
      fields_long (charge_figures charge),
      fields_short listed small,
    )

-- 512 bytes have room for the line of a refusal by any number and item
pub refused_fits : (number item : ℕ) → length (line refused_word (number ∷ item ∷ [])) ≤ 512
refused_fits number item = omega (arith, line-length refused_word (number ∷ item ∷ []), fields_long (number ∷ item ∷ []))

-- ---- an answer

module _ (list : List ℕ) (small : Small list) where
  -- k entries from some place on
  small_part : (at k : ℕ) → Small (take k (drop at list))
  small_part at k i low =
      let size : length (take k (drop at list)) ≡ min k (length (drop at list)) = length-take k (drop at list) in
      rw (get_or-take k (drop at list) i 0 (omega (arith, size)), get_or-drop at list i 0)
      (small (at + i) (omega (arith, size, length-drop at list)))

  few_part : (at k : ℕ) → k ≤ 16 → length (take k (drop at list)) ≤ 16
  few_part at k most = omega (arith, length-take k (drop at list))

  -- 512 bytes have room for the lines of any answer with a k of at most 16
  pub lines_fit : (answer : Result Figures Refusal) → listed_by (outcome_of answer) ≤ 16 → length (lines_of (outcome_of answer) list) ≤ 512
  unfolding lines_of
  lines_fit (Ok f) most =
      let k = f.k in
      let first = line tail_word (k ∷ []) in
      let second = charge_line unscaled_word f.unscaled (take k list) in
      let third = charge_line scaled_word f.scaled (take k (drop k list)) in
      let fourth = line margin_word (f.euros ∷ []) in
      omega (
        arith,
        length-append first (second ++ (third ++ fourth)),
        length-append second (third ++ fourth),
        length-append third fourth,
        line-length tail_word (k ∷ []),
        fields_long (k ∷ []),
        charge_length unscaled_word f.unscaled (take k list) (few_part 0 k most) (small_part 0 k),
        charge_length scaled_word f.scaled (take k (drop k list)) (few_part k k most) (small_part k k),
        line-length margin_word (f.euros ∷ []),
        fields_long (f.euros ∷ []),
      )
  lines_fit (Err refusal) most = refused_fits (number_of refusal) (item_of refusal)
