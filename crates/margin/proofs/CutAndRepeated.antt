-- Divisions, reorderings and multiples that accepted books have: the first positions and the rest, the rest before the first, and the
-- same positions several times over.
-- Assumes nothing.
use Prim.Native.Nat.{ℕ, zero, suc, ◌+◌, ◌-◌, ◌*◌, ◌%◌, ◌≤◌}
use mathlib.Core.Bool.{true}
use mathlib.Core.List.{List, [], ◌++◌}
use mathlib.Core.Path.{◌≡◌, refl, sym, ap, ◌∙◌, subst}
use native.Mathlib.Nat.{suc-mul}
use native.Mathlib.Omega.{arith}
use borrow.Author.Tests.{eqb-true, eq-eqb}
use lib.IntN.{ℤ, pos, nat_abs, ◌+ℤ◌, ◌*ℤ◌, +ℤ_comm, zero-*ℤ, suc_ℤ-*ℤ}
use lib.ListN.{length, take, drop, length-append, length-take, length-drop, take-append-drop}
use Rattle.margin.specs.declared.Figures.{Figures}
use Rattle.numbers.specs.Findings.{Passed}
use Rattle.numbers.proofs.Items.{naturals, sum_none}
use Rattle.reading.specs.Book.{Market, market_of, positions_of}
use Rattle.reading.proofs.Forms.{whole_records}
use Rattle.valuing.specs.Mapping.{exposure}
use Rattle.valuing.specs.Order.{whole_positions, Reordered, Divided}
use Rattle.valuing.specs.Positions.{position_count, position_at, value, value_total, position_code, check_positions}
use Rattle.valuing.proofs.Order.{divided_by, divided_other, divided_sizes, exposure_none, put_together, count_together, together_exposure}
use Rattle.valuing.proofs.Sound.{codes, sizes, accepted, accepted_passed}
use Rattle.margin.specs.Check.{Lent}
use Rattle.margin.specs.Demands.{Accepted, BothAccepted, Reordering, Division, BothTimes}
use Rattle.margin.specs.Figures.{figures_of}
use Rattle.margin.specs.Premises.{HasTimes}
use Rattle.margin.specs.Rebuilt.{with_positions, repeated}
use Rattle.margin.proofs.Demands.{accepted_passed as passed, division_demand}
use Rattle.margin.proofs.Rebuilt.{division_books, enough_other, reordering_book, rebuilt_accepted, rebuilt_multiple, rebuilt_times}
use Rattle.margin.proofs.AllElseEqual.{places}

-- whole records put together are whole
together_whole : (s t : List ℕ) → whole_positions s ≡ true → whole_positions t ≡ true → whole_positions (s ++ t) ≡ true
together_whole s t one other =
    eq-eqb (length (s ++ t) % 12) 0 (omega (arith, length-append s t, eqb-true (length s % 12) 0 one, eqb-true (length t % 12) 0 other))

-- ---- the first n positions and the rest

-- of whole records, and n at most as many
module _ (s : List ℕ) (whole : whole_positions s ≡ true) (n : ℕ) (low : n ≤ position_count s) where
  size : length s ≡ 12 * position_count s
  size = whole_records (length s) 12 (eqb-true (length s % 12) 0 whole)

  first_size : length (take (12 * n) s) ≡ 12 * n
  first_size = omega (arith, length-take (12 * n) s, size)

  rest_size : length (drop (12 * n) s) ≡ 12 * (position_count s - n)
  rest_size = omega (arith, length-drop (12 * n) s, size)

  -- the first are whole
  pub first_whole : whole_positions (take (12 * n) s) ≡ true
  first_whole = eq-eqb (length (take (12 * n) s) % 12) 0 (omega (arith, first_size))

  -- and so are the rest
  pub rest_whole : whole_positions (drop (12 * n) s) ≡ true
  rest_whole = eq-eqb (length (drop (12 * n) s) % 12) 0 (omega (arith, rest_size))

  -- they are a division
  pub first_and_rest : Divided s (take (12 * n) s) (drop (12 * n) s)
  first_and_rest =
      subst (λ (l : List ℕ). Divided l (take (12 * n) s) (drop (12 * n) s)) (take-append-drop (12 * n) s)
      (put_together (take (12 * n) s) (drop (12 * n) s) first_whole)

  -- the rest before the first is a reordering
  pub rest_and_first : Reordered s (drop (12 * n) s ++ take (12 * n) s)
  rest_and_first r =
      divided_other s (take (12 * n) s) (drop (12 * n) s) first_and_rest r
      ∙ sym (put_together (drop (12 * n) s) (take (12 * n) s) rest_whole r)

-- ---- positions n times over

-- no positions, no sizes
sizes_none : (bonds : List ℕ) → sizes bonds [] ≡ 0
unfolding value_total
sizes_none bonds = sum_none ◌+◌ 0 (λ p. nat_abs (value bonds (position_at [] p)))

-- whole records
module _ (s : List ℕ) (whole : whole_positions s ≡ true) where
  -- n times as many
  pub repeated_count : (n : ℕ) → position_count (repeated n s) ≡ n * position_count s
  unfolding repeated
  repeated_count zero = omega arith
  repeated_count (suc n) = omega (arith, count_together s (repeated n s) whole, repeated_count n, suc-mul n (position_count s))

  -- whole as well
  pub repeated_whole : (n : ℕ) → whole_positions (repeated n s) ≡ true
  unfolding repeated
  repeated_whole zero = refl
  repeated_whole (suc n) = together_whole s (repeated n s) whole (repeated_whole n)

  -- n times the exposures
  pub repeated_exposure : (m : Market) (v n : ℕ) → exposure m (repeated n s) v ≡ pos n *ℤ exposure m s v
  unfolding repeated
  repeated_exposure m v zero = exposure_none m v ∙ sym (zero-*ℤ (exposure m s v))
  repeated_exposure m v (suc n) =
      together_exposure s (repeated n s) whole m v
      ∙ (ap (λ (z : ℤ). exposure m s v +ℤ z) (repeated_exposure m v n)
      ∙ (+ℤ_comm (exposure m s v) (pos n *ℤ exposure m s v) ∙ sym (suc_ℤ-*ℤ (pos n) (exposure m s v))))

  -- n times the sizes of their values
  pub repeated_sizes : (bonds : List ℕ) (n : ℕ) → sizes bonds (repeated n s) ≡ n * sizes bonds s
  unfolding repeated
  repeated_sizes bonds zero = omega (arith, sizes_none bonds)
  repeated_sizes bonds (suc n) =
      omega (arith, divided_sizes bonds (s ++ repeated n s) s (repeated n s) (put_together s (repeated n s) whole), repeated_sizes bonds n, suc-mul n (sizes bonds s))

  -- every record is as good
  repeated_codes : (bonds : List ℕ) → codes bonds s ≡ 0 → (n : ℕ) → codes bonds (repeated n s) ≡ 0
  unfolding repeated
  repeated_codes bonds good zero = sum_none ◌+◌ 0 (λ p. position_code bonds (position_at [] p))
  repeated_codes bonds good (suc n) =
      omega (
        arith,
        divided_by ◌+◌ 0 naturals (position_code bonds) (s ++ repeated n s) s (repeated n s) (put_together s (repeated n s) whole),
        repeated_codes bonds good n,
      )

  -- positions that pass do so n times over, where they are not too many and their values not too large
  pub repeated_passed : (bonds : List ℕ) (n : ℕ) → check_positions bonds s ≡ Passed → n * position_count s ≤ 4096
      → n * sizes bonds s ≤ 100000000000 → check_positions bonds (repeated n s) ≡ Passed
  repeated_passed bonds n e few small =
      let a = accepted bonds s e in
      accepted_passed bonds (repeated n s)
      (record {
        whole = repeated_whole n;
        count = (omega arith, omega (arith, repeated_count n));
        good = repeated_codes bonds a.good n;
        small = omega (arith, repeated_sizes bonds n);
      })

-- ---- of an accepted book

module _ (book : List ℕ) (b : Lent) (f : Figures) (a : Accepted book b f) where
  checked : check_positions (market_of book).bonds (positions_of book) ≡ Passed
  checked = (places book (passed book b a)).positions

  whole_book : whole_positions (positions_of book) ≡ true
  whole_book = (accepted (market_of book).bonds (positions_of book) checked).whole

  -- both parts of a division are accepted, and the margin is at most the sum of theirs
  pub parts_accepted : (one other : List ℕ) → Divided (positions_of book) one other → whole_positions one ≡ true → whole_positions other ≡ true
      → BothAccepted (with_positions book one) (with_positions book other) b b f.euros
  parts_accepted one other d whole-one whole-other =
      let o = division_books book (passed book b a) one other d whole-one whole-other in
      division_demand book (with_positions book one) (with_positions book other) b b b f a o
      (enough_other book b f a (with_positions book one) o.equal_one o.whole_one)
      (enough_other book b f a (with_positions book other) o.equal_other o.whole_other)

  -- they can be divided into two books: the first n, and the rest
  pub cut_division : (n : ℕ) → n ≤ position_count (positions_of book)
      → Division book (with_positions book (take (12 * n) (positions_of book))) (with_positions book (drop (12 * n) (positions_of book)))
  cut_division n low =
      let s = positions_of book in
      division_books book (passed book b a) (take (12 * n) s) (drop (12 * n) s)
      (first_and_rest s whole_book n low) (first_whole s whole_book n low) (rest_whole s whole_book n low)

  -- any can be reordered: the rest before the first n
  pub cut_reordering : (n : ℕ) → n ≤ position_count (positions_of book)
      → Reordering book (with_positions book (drop (12 * n) (positions_of book) ++ take (12 * n) (positions_of book)))
  cut_reordering n low =
      let s = positions_of book in
      reordering_book book (passed book b a) (drop (12 * n) s ++ take (12 * n) s)
      (rest_and_first s whole_book n low)
      (together_whole (drop (12 * n) s) (take (12 * n) s) (rest_whole s whole_book n low) (first_whole s whole_book n low))

  -- its positions n times over, where they are not too many and their values not too large
  module _ (n : ℕ) (few : n * position_count (positions_of book) ≤ 4096)
      (small : n * sizes (market_of book).bonds (positions_of book) ≤ 100000000000) where
    -- are accepted
    pub repeated_accepted : Accepted (with_positions book (repeated n (positions_of book))) b (figures_of (market_of book) (repeated n (positions_of book)))
    repeated_accepted =
        rebuilt_accepted book b f a (repeated n (positions_of book))
        (repeated_passed (positions_of book) whole_book (market_of book).bonds n checked few small)

    -- have n times its exposures
    pub repeated_multiple : HasTimes n book (with_positions book (repeated n (positions_of book))) b
    repeated_multiple =
        rebuilt_multiple book b f a (repeated n (positions_of book))
        (repeated_passed (positions_of book) whole_book (market_of book).bonds n checked few small) n
        (λ v low. repeated_exposure (positions_of book) whole_book (market_of book) v n)

    -- and n times its T and U
    pub repeated_times : BothTimes n f (figures_of (market_of book) (repeated n (positions_of book)))
    repeated_times =
        rebuilt_times book b f a (repeated n (positions_of book))
        (repeated_passed (positions_of book) whole_book (market_of book).bonds n checked few small) n
        (λ v low. repeated_exposure (positions_of book) whole_book (market_of book) v n)
