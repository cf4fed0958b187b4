-- A book rebuilt from other positions: it holds them, and all else is equal. So every division and every reordering of an accepted
-- book's positions is one of books.
-- Assumes nothing.
use Prim.Native.Nat.{ℕ, zero, suc, ◌+◌, ◌-◌, ◌%◌, ◌≤◌, ◌<◌}
use mathlib.Core.Bool.{true}
use mathlib.Core.List.{List, [], ◌++◌}
use mathlib.Core.Path.{◌≡◌, refl, sym, ap, ◌∙◌, subst}
use native.Mathlib.Nat.{zero-add}
use native.Mathlib.Omega.{arith}
use borrow.Author.Tests.{eqb-true, ltb-true, ltb-false}
use lib.Dec.{ltb}
use lib.IntN.{pos, ◌*ℤ◌}
use lib.ListN.{length, take, drop, get_or, length-append, length-take, length-drop, get_or-append, get_or-eq_default}
use lib.Seq.{take-length, drop_at, get_or-take, get_or-drop, get_or-append-add}
use Rattle.margin.specs.declared.Figures.{Figures}
use Rattle.numbers.specs.Findings.{Passed}
use Rattle.numbers.specs.Buffers.{part_of, table}
use Rattle.numbers.specs.Little.{u8_at, u32_at, byte_of}
use Rattle.numbers.proofs.Buffers.{part_is}
use Rattle.numbers.proofs.Items.{by_test}
use Rattle.numbers.proofs.Little.{u32_alike, u32_held}
use Rattle.reading.specs.Book.{market_of, positions_of, section_offset, section_length, section_end, positions_section}
use Rattle.reading.specs.Vertices.{vertex_count}
use Rattle.reading.proofs.Forms.{whole_records}
use Rattle.reading.proofs.Sections.{Tiled, directory_tiled, section_part}
use Rattle.valuing.specs.Mapping.{exposure}
use Rattle.valuing.specs.Order.{whole_positions, Reordered, Divided}
use Rattle.valuing.specs.Positions.{position_count, check_positions}
use Rattle.valuing.proofs.Order.{divided_positions, reordered_divided}
use Rattle.valuing.proofs.Sound.{accepted}
use Rattle.scenarios.specs.Check.{check_book}
use Rattle.margin.specs.Check.{Lent}
use Rattle.margin.specs.Demands.{Accepted, AllElseEqual, Whole, Reordering, Division, Enough, BothTimes}
use Rattle.margin.specs.Figures.{figures_of}
use Rattle.margin.specs.Premises.{HasTimes}
use Rattle.margin.specs.Rebuilt.{u32_bytes, with_positions}
use Rattle.margin.proofs.Demands.{accepted_parts, passed_accepted, accepted_passed, other_accepted, order_demand, multiple_demand}
use Rattle.margin.proofs.AllElseEqual.{places, buffers_passed, offset_same, market_of_whole}

-- ---- a number in four bytes

-- the four bytes hold the number
pub u32_bytes_lem : (n : ℕ) → n < 4294967296 → u32_at (u32_bytes n) 0 ≡ n
unfolding table u32_bytes
u32_bytes_lem n small = u32_held (u32_bytes n) 0 n small (each n)
  where
    each : (n i : ℕ) → i < 4 → u8_at (u32_bytes n) (0 + i) ≡ byte_of n i
    each n zero low = refl
    each n (suc zero) low = refl
    each n (suc (suc zero)) low = refl
    each n (suc (suc (suc zero))) low = refl
    each n (suc (suc (suc (suc i)))) low = absurd (omega arith)

-- ---- the rebuilt book

-- of a book that is tiled
module _ (book positions : List ℕ) (t : Tiled book) where
  -- what stands before the sixth length
  abbrev pairs : List ℕ
  pairs = take 44 book

  -- what stands before the sections
  abbrev directory : List ℕ
  directory = pairs ++ u32_bytes (length positions)

  -- what stands before the positions
  abbrev rest : List ℕ
  rest = directory ++ take (section_offset book positions_section - 48) (drop 48 book)

  pairs_size : length pairs ≡ 44
  pairs_size = omega (arith, length-take 44 book, t.long)

  directory_size : length directory ≡ 48
  unfolding table u32_bytes
  directory_size = omega (arith, length-append pairs (u32_bytes (length positions)), pairs_size)

  rest_size : length rest ≡ section_offset book positions_section
  rest_size =
      let middle = take (section_offset book positions_section - 48) (drop 48 book) in
      omega (arith, length-append directory middle, directory_size, length-take (section_offset book positions_section - 48) (drop 48 book), length-drop 48 book)

  -- its size
  pub rebuilt_size : length (with_positions book positions) ≡ section_offset book positions_section + length positions
  unfolding with_positions
  rebuilt_size = omega (arith, length-append rest positions, rest_size)

  -- all but positions is equal
  pub rebuilt_equal : AllElseEqual book (with_positions book positions)
  unfolding with_positions
  rebuilt_equal = record {
    pairs = λ i low.
        get_or-append rest positions 0 i (omega (arith, rest_size))
        ∙ (get_or-append directory (take (section_offset book positions_section - 48) (drop 48 book)) 0 i (omega (arith, directory_size))
        ∙ (get_or-append pairs (u32_bytes (length positions)) 0 i (omega (arith, pairs_size)) ∙ get_or-take 44 book i 0 low));
    sections = λ i low high.
        let far : i ≡ length directory + (i - 48) = omega (arith, directory_size) in
        let back : 48 + (i - 48) ≡ i = omega arith in
        get_or-append rest positions 0 i (omega (arith, rest_size))
        ∙ (ap (λ (j : ℕ). get_or rest j 0) far
        ∙ (get_or-append-add directory (take (section_offset book positions_section - 48) (drop 48 book)) (i - 48) 0
        ∙ (get_or-take (section_offset book positions_section - 48) (drop 48 book) (i - 48) 0 (omega arith)
        ∙ (get_or-drop 48 book (i - 48) 0 ∙ ap (λ (j : ℕ). get_or book j 0) back))));
  }

  -- the positions start where the book's do
  pub rebuilt_offset : section_offset (with_positions book positions) positions_section ≡ section_offset book positions_section
  rebuilt_offset = offset_same book (with_positions book positions) rebuilt_equal 5 (omega arith)

  -- positions in fewer than 2^32 bytes
  module _ (short : length positions < 4294967296) where
    -- the sixth length is theirs
    pub rebuilt_length : section_length (with_positions book positions) positions_section ≡ length positions
    unfolding with_positions
    rebuilt_length =
        u32_alike (with_positions book positions) 44 (u32_bytes (length positions)) 0
        (λ i low.
        let far : 44 + i ≡ length pairs + i = omega (arith, pairs_size) in
        get_or-append rest positions 0 (44 + i) (omega (arith, rest_size))
        ∙ (get_or-append directory (take (section_offset book positions_section - 48) (drop 48 book)) 0 (44 + i) (omega (arith, directory_size))
        ∙ (ap (λ (j : ℕ). get_or directory j 0) far
        ∙ (get_or-append-add pairs (u32_bytes (length positions)) i 0
        ∙ ap (λ (j : ℕ). get_or (u32_bytes (length positions)) j 0) (sym (zero-add i))))))
        ∙ u32_bytes_lem (length positions) short

    -- the sixth section ends at the end
    pub rebuilt_ends : section_end (with_positions book positions) positions_section ≡ length (with_positions book positions)
    rebuilt_ends = omega (arith, rebuilt_offset, rebuilt_length, rebuilt_size)

    -- the positions are these
    pub rebuilt_positions : positions_of (with_positions book positions) ≡ positions
    unfolding positions_of with_positions
    rebuilt_positions =
        let book' = with_positions book positions in
        let start = section_offset book positions_section in
        let size = length positions in
        section_part book' (omega (arith, rebuilt_size)) 5
        ∙ (ap (λ (a : ℕ). part_of book' a (section_length book' positions_section)) rebuilt_offset
        ∙ (ap (λ (n : ℕ). part_of book' start n) rebuilt_length
        ∙ (part_is book' start size (omega (arith, rebuilt_size))
        ∙ (ap (take size) (drop_at rest positions start rest_size) ∙ take-length positions))))

    -- it is whole, where they are
    pub rebuilt_whole : whole_positions positions ≡ true → Whole (with_positions book positions)
    rebuilt_whole whole = record { ends = rebuilt_ends; records = rw rebuilt_positions whole }

-- ---- bytes

-- every entry is a byte
abbrev pub Bytes : List ℕ → Type 0
Bytes s = (i : ℕ) → u8_at s i < 256

-- what is put together of bytes is bytes
bytes_append : (s t : List ℕ) → Bytes s → Bytes t → Bytes (s ++ t)
bytes_append s t first second i =
    by_test (ltb i (length s))
    (λ low. rw (get_or-append s t 0 i (ltb-true i (length s) low)) (first i))
    (λ high.
    let past : length s ≤ i = ltb-false i (length s) high in
    let far : i ≡ length s + (i - length s) = omega arith in
    rw (ap (λ (j : ℕ). get_or (s ++ t) j 0) far, get_or-append-add s t (i - length s) 0) (second (i - length s)))

-- the first ones of bytes are bytes
bytes_take : (n : ℕ) (s : List ℕ) → Bytes s → Bytes (take n s)
bytes_take n s all i =
    by_test (ltb i n)
    (λ low. rw (get_or-take n s i 0 (ltb-true i n low)) (all i))
    (λ high.
    let past : length (take n s) ≤ i = omega (arith, length-take n s, ltb-false i n high) in
    rw (get_or-eq_default (take n s) 0 past) (omega arith))

-- so are the later ones
bytes_drop : (n : ℕ) (s : List ℕ) → Bytes s → Bytes (drop n s)
bytes_drop n s all i = rw (get_or-drop n s i 0) (all (n + i))

-- a number's four bytes are bytes
bytes_u32 : (n : ℕ) → Bytes (u32_bytes n)
unfolding table byte_of u32_bytes
bytes_u32 n zero = omega arith
bytes_u32 n (suc zero) = omega arith
bytes_u32 n (suc (suc zero)) = omega arith
bytes_u32 n (suc (suc (suc zero))) = omega arith
bytes_u32 n (suc (suc (suc (suc i)))) = omega arith

-- a book of bytes, rebuilt from bytes, is one of bytes
pub rebuilt_bytes : (book positions : List ℕ) → Bytes book → Bytes positions → Bytes (with_positions book positions)
unfolding with_positions
rebuilt_bytes book positions all these =
    let start = section_offset book positions_section in
    bytes_append (take 44 book ++ u32_bytes (length positions) ++ take (start - 48) (drop 48 book)) positions
    (bytes_append (take 44 book ++ u32_bytes (length positions)) (take (start - 48) (drop 48 book))
    (bytes_append (take 44 book) (u32_bytes (length positions)) (bytes_take 44 book all) (bytes_u32 (length positions)))
    (bytes_take (start - 48) (drop 48 book) (bytes_drop 48 book all)))
    these

-- ---- divisions and reorderings

-- at most 4,096 whole records take fewer than 2^32 bytes
few_bytes : (s : List ℕ) → whole_positions s ≡ true → position_count s ≤ 4096 → length s < 4294967296
few_bytes s whole few = omega (arith, whole_records (length s) 12 (eqb-true (length s % 12) 0 whole))

-- of a book that passed 1 to 21
module _ (book : List ℕ) (e : check_book book ≡ Passed) where
  tiled_book : Tiled book
  tiled_book = directory_tiled book (places book e).directory

  few_positions : position_count (positions_of book) ≤ 4096
  few_positions = (accepted (market_of book).bonds (positions_of book) (places book e).positions).count.1

  -- a division of its positions is one into two books
  pub division_books : (one other : List ℕ) → Divided (positions_of book) one other → whole_positions one ≡ true → whole_positions other ≡ true
      → Division book (with_positions book one) (with_positions book other)
  division_books one other d whole-one whole-other =
      let count = divided_positions (positions_of book) one other d in
      let short-one = few_bytes one whole-one (omega (arith, few_positions)) in
      let short-other = few_bytes other whole-other (omega (arith, few_positions)) in
      let is_one = rebuilt_positions book one tiled_book short-one in
      let is-other = rebuilt_positions book other tiled_book short-other in
      record {
        equal_one = rebuilt_equal book one tiled_book;
        equal_other = rebuilt_equal book other tiled_book;
        whole_one = rebuilt_whole book one tiled_book short-one whole-one;
        whole_other = rebuilt_whole book other tiled_book short-other whole-other;
        records = rw (is_one, is-other) d;
      }

  -- a reordering of its positions is a reordered book
  pub reordering_book : (others : List ℕ) → Reordered (positions_of book) others → whole_positions others ≡ true
      → Reordering book (with_positions book others)
  reordering_book others same whole =
      let count = divided_positions (positions_of book) others [] (reordered_divided (positions_of book) others same) in
      let short = few_bytes others whole (omega (arith, few_positions)) in
      record {
        equal = rebuilt_equal book others tiled_book;
        whole = rebuilt_whole book others tiled_book short whole;
        records = rw (rebuilt_positions book others tiled_book short) same;
      }

-- ---- of an accepted book, with the buffers that were lent with it

module _ (book : List ℕ) (b : Lent) (f : Figures) (a : Accepted book b f) where
  -- they are enough for another that is whole and has all but positions equal
  pub enough_other : (other : List ℕ) → AllElseEqual book other → Whole other → Enough other b
  enough_other other same whole =
      rw (market_of_whole book other (accepted_passed book b a) same whole) (buffers_passed book b (accepted_parts book b f a).0).1

  -- a reordering is accepted with the same figures
  pub reordered_accepted_lem : (others : List ℕ) → Reordered (positions_of book) others → whole_positions others ≡ true
      → Accepted (with_positions book others) b f
  reordered_accepted_lem others same whole =
      let o = reordering_book book (accepted_passed book b a) others same whole in
      order_demand book (with_positions book others) b b f a o (enough_other (with_positions book others) o.equal o.whole)

  -- positions that pass with this market
  module _ (positions : List ℕ) (e : check_positions (market_of book).bonds positions ≡ Passed) where
    -- the rebuilt book has all but positions equal
    pub passing_equal : AllElseEqual book (with_positions book positions)
    passing_equal = rebuilt_equal book positions (tiled_book book (accepted_passed book b a))

    passing_short : length positions < 4294967296
    passing_short = let good = accepted (market_of book).bonds positions e in few_bytes positions good.whole good.count.1

    -- it is whole
    pub passing_whole : Whole (with_positions book positions)
    passing_whole =
        rebuilt_whole book positions (tiled_book book (accepted_passed book b a)) passing_short (accepted (market_of book).bonds positions e).whole

    -- it holds these positions
    pub passing_positions : positions_of (with_positions book positions) ≡ positions
    passing_positions = rebuilt_positions book positions (tiled_book book (accepted_passed book b a)) passing_short

    -- it is accepted, with their figures
    pub rebuilt_accepted : Accepted (with_positions book positions) b (figures_of (market_of book) positions)
    rebuilt_accepted =
        subst (λ (l : List ℕ). Accepted (with_positions book positions) b (figures_of (market_of book) l)) passing_positions
        (other_accepted book (with_positions book positions) b b a passing_equal passing_whole (rw passing_positions e)
        (enough_other (with_positions book positions) passing_equal passing_whole))

    -- n times the book's exposures
    module _ (n : ℕ) (times : (v : ℕ) → v < vertex_count (market_of book).vertices → exposure (market_of book) positions v ≡ pos n *ℤ exposure (market_of book) (positions_of book) v) where
      -- the rebuilt book has them
      pub rebuilt_multiple : HasTimes n book (with_positions book positions) b
      rebuilt_multiple =
          record {
            accepted =
                passed_accepted (with_positions book positions) b
                (accepted_parts (with_positions book positions) b (figures_of (market_of book) positions) rebuilt_accepted).0;
            equal = passing_equal;
            times = rw (market_of_whole book (with_positions book positions) (accepted_passed book b a) passing_equal passing_whole, passing_positions) times;
          }

      -- and n times its T and U
      pub rebuilt_times : BothTimes n f (figures_of (market_of book) positions)
      rebuilt_times =
          multiple_demand book (with_positions book positions) b b f (figures_of (market_of book) positions) n a rebuilt_accepted passing_equal
          rebuilt_multiple.times
