-- The sections of a book whose directory passed: each lies in the book where its pair says, and they tile it.
-- Assumes nothing.
use Prim.Native.Nat.{ℕ, zero, suc, ◌+◌, ◌≤◌, ◌<◌}
use mathlib.Core.Path.{◌≡◌, sym, ap, ◌∙◌}
use mathlib.Core.Bool.{true, ◌&&◌}
use mathlib.Core.List.{List}
use mathlib.Core.Logic.{⊎_elim}
use lib.Dec.{ltb, eqb}
use lib.ListN.{length, take, drop, get_or}
use native.Mathlib.Nat.{eq-or-lt_of_le}
use native.Mathlib.Omega.{arith}
use borrow.Author.Tests.{ltb-false, le-ltb, le-leb, eqb-true, eq-eqb}
use Rattle.numbers.specs.Findings.{Passed}
use Rattle.numbers.specs.Buffers.{part_of}
use Rattle.numbers.specs.InnerContracts.{part_start}
use Rattle.numbers.proofs.Items.{both, by_test, refused_not_passed}
use Rattle.numbers.proofs.Buffers.{part_is, part_starts, part_length, part_at, part_part}
use Rattle.reading.specs.Book.{section_offset, section_length, section_end, joined, tiled, check_directory, section_of}
use Rattle.reading.specs.InnerContracts.{section_start}
use Rattle.reading.proofs.Forms.{passed_then}

-- ---- the directory

-- the seven equations of the directory, and its length
pub record Tiled (book : List ℕ) : Type 0 where
  pub long : 48 ≤ length book
  pub first : section_offset book 0 ≡ 48
  pub second : section_offset book 1 ≡ section_end book 0
  pub third : section_offset book 2 ≡ section_end book 1
  pub fourth : section_offset book 3 ≡ section_end book 2
  pub fifth : section_offset book 4 ≡ section_end book 3
  pub sixth : section_offset book 5 ≡ section_end book 4
  pub last : section_end book 5 ≡ length book

-- section n of a book: where it lies and what it holds
pub record Section (book : List ℕ) (n : ℕ) : Type 0 where
  pub low : 48 ≤ section_offset book n
  pub high : section_end book n ≤ length book
  pub bytes : section_of book n ≡ take (section_length book n) (drop (section_offset book n) book)
  pub size : length (section_of book n) ≡ section_length book n
  pub start : section_start book n ≡ section_offset book n
  pub entry : (i : ℕ) → i < section_length book n → get_or (section_of book n) i 0 ≡ get_or book (section_offset book n + i) 0
  -- a part of the section is a part of the book
  pub part : (from count : ℕ) → from + count ≤ section_length book n
      → part_of book (section_offset book n + from) count ≡ part_of (section_of book n) from count

module _ (book : List ℕ) where
  -- the directory's test holds: its equations do
  pub joins : 48 ≤ length book → tiled book ≡ true → Tiled book
  joins long t =
      let end = eqb (section_end book 5) (length book) in
      let h0 = both (eqb (section_offset book 0) 48) (joined book 0 1 && (joined book 1 2 && (joined book 2 3 && (joined book 3 4 && (joined book 4 5 && end))))) t in
      let h1 = both (joined book 0 1) (joined book 1 2 && (joined book 2 3 && (joined book 3 4 && (joined book 4 5 && end)))) h0.1 in
      let h2 = both (joined book 1 2) (joined book 2 3 && (joined book 3 4 && (joined book 4 5 && end))) h1.1 in
      let h3 = both (joined book 2 3) (joined book 3 4 && (joined book 4 5 && end)) h2.1 in
      let h4 = both (joined book 3 4) (joined book 4 5 && end) h3.1 in
      let h5 = both (joined book 4 5) end h4.1 in
      record {
        long = long;
        first = eqb-true (section_offset book 0) 48 h0.0;
        second = eqb-true (section_offset book 1) (section_end book 0) h1.0;
        third = eqb-true (section_offset book 2) (section_end book 1) h2.0;
        fourth = eqb-true (section_offset book 3) (section_end book 2) h3.0;
        fifth = eqb-true (section_offset book 4) (section_end book 3) h4.0;
        sixth = eqb-true (section_offset book 5) (section_end book 4) h5.0;
        last = eqb-true (section_end book 5) (length book) h5.1;
      }

  -- the directory passed: 48 bytes, and the sections tile the rest of the book
  pub directory_tiled : check_directory book ≡ Passed → Tiled book
  unfolding check_directory
  directory_tiled e =
      by_test (ltb (length book) 48)
      (λ short. absurd (refused_not_passed (rw short at e)))
      (λ long. joins (ltb-false (length book) 48 long) (passed_then (tiled book) Passed 2 0 (rw long at e)).0)

  -- a tiled book's directory passes
  pub tiled_passed : Tiled book → check_directory book ≡ Passed
  unfolding check_directory
  tiled_passed t =
      rw (
        le-ltb (length book) 48 t.long,
        eq-eqb (section_offset book 0) 48 t.first,
        eq-eqb (section_offset book 1) (section_end book 0) t.second,
        eq-eqb (section_offset book 2) (section_end book 1) t.third,
        eq-eqb (section_offset book 3) (section_end book 2) t.fourth,
        eq-eqb (section_offset book 4) (section_end book 3) t.fifth,
        eq-eqb (section_offset book 5) (section_end book 4) t.sixth,
        eq-eqb (section_end book 5) (length book) t.last,
      )

  -- in a tiled book each section but the positions lies between the directory and them
  pub section_before : Tiled book → (n : ℕ) → n ≤ 4 → (48 ≤ section_offset book n) × (section_end book n ≤ section_offset book 5)
  section_before t zero h = omega arith
  section_before t (suc zero) h = omega arith
  section_before t (suc (suc zero)) h = omega arith
  section_before t (suc (suc (suc zero))) h = omega arith
  section_before t (suc (suc (suc (suc zero)))) h = omega arith
  section_before t (suc (suc (suc (suc (suc n))))) h = absurd (let z : 5 + n ≤ 4 = omega arith in omega arith)

  -- and each lies between the directory and the end
  pub section_lies : Tiled book → (n : ℕ) → n < 6 → (48 ≤ section_offset book n) × (section_end book n ≤ length book)
  section_lies t n six =
      let most : n ≤ 5 = omega arith in
      ⊎_elim
      (λ (last : n ≡ 5). rw last (omega arith))
      (λ (less : n < 5). let before = section_before t n (omega arith) in (before.0, omega (arith, before.1)))
      (eq-or-lt_of_le most)

  -- in a book of 48 bytes or more a section is the part that its pair names
  pub section_part : 48 ≤ length book → (n : ℕ) → section_of book n ≡ part_of book (section_offset book n) (section_length book n)
  unfolding section_of
  section_part long n = rw (le-leb 48 (length book) long)

  -- and begins where that part does
  pub section_starts : 48 ≤ length book → (n : ℕ) → section_start book n ≡ part_start book (section_offset book n) (section_length book n)
  unfolding section_start
  section_starts long n = rw (le-leb 48 (length book) long)

  -- the directory passed: each section lies where its pair says, and holds those bytes of the book
  pub directory_section : check_directory book ≡ Passed → (n : ℕ) → n < 6 → Section book n
  directory_section e n six =
      let t = directory_tiled e in
      let lies = section_lies t n six in
      let is = section_part t.long n in
      let at = section_offset book n in
      let size = section_length book n in
      let fits : at + size ≤ length book = lies.1 in
      record {
        low = lies.0;
        high = lies.1;
        bytes = is ∙ part_is book at size fits;
        size = ap length is ∙ part_length book at size fits;
        start = section_starts t.long n ∙ part_starts book at size fits;
        entry = λ i low. ap (λ (s : List ℕ). get_or s i 0) is ∙ part_at book at size fits i 0 low;
        part = λ from count inner. part_part book at size from count 0 fits inner ∙ sym (ap (λ (s : List ℕ). part_of s from count) is);
      }
