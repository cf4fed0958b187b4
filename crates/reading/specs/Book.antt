-- The book: its six sections, and the check of its directory (1, 2).
-- A definition takes the bytes of the section that it reads, or the market where it reads several; only what cuts the
-- book up takes the book.
use Rattle.std.specs.Prelude.{ℕ, ◌+◌, ◌*◌, Bool, ◌&&◌, List, [], leb, ltb, eqb, length, if◌then◌else◌}
use Rattle.numbers.specs.Findings.{Finding, Passed, Refused}
use Rattle.numbers.specs.Little.{u32_at}
use Rattle.numbers.specs.Buffers.{part_of}

-- "A book opens with six pairs, offset then length in bytes (u32 each, 48 bytes): parameters, vertices, prices, bonds,
-- flows, positions.": the sections in the order of their pairs
abbrev pub parameters_section : ℕ
parameters_section = 0

abbrev pub vertices_section : ℕ
vertices_section = 1

abbrev pub prices_section : ℕ
prices_section = 2

abbrev pub bonds_section : ℕ
bonds_section = 3

abbrev pub flows_section : ℕ
flows_section = 4

abbrev pub positions_section : ℕ
positions_section = 5

-- where section i begins, and how many bytes it has
abbrev pub section_offset : List ℕ → ℕ → ℕ
section_offset book i = u32_at book (8 * i)

abbrev pub section_length : List ℕ → ℕ → ℕ
section_length book i = u32_at book (8 * i + 4)

-- where section i ends; both numbers are below 2^32, their sum is no u32 and never wraps
abbrev pub section_end : List ℕ → ℕ → ℕ
section_end book i = section_offset book i + section_length book i

-- section i starts where the section before it ended
abbrev pub joined : List ℕ → ℕ → ℕ → Bool
joined book before i = eqb (section_offset book i) (section_end book before)

-- "Pairs are sorted by offset: the first section starts at 48, each next where the last ended, the sixth ends at the
-- book's end."
abbrev pub tiled : List ℕ → Bool
tiled book =
    eqb (section_offset book parameters_section) 48
    && (joined book parameters_section vertices_section
    && (joined book vertices_section prices_section
    && (joined book prices_section bonds_section
    && (joined book bonds_section flows_section
    && (joined book flows_section positions_section
    && eqb (section_end book positions_section) (length book))))))

-- "Directory: 1 under 48 bytes; 2 pairs not as above"
unfoldable pub check_directory : List ℕ → Finding
check_directory book = if ltb (length book) 48 then Refused 1 0 else (if tiled book then Passed else Refused 2 0)

-- the bytes of section i; none where its own pair does not fit the book, or the book has under 48 bytes
unfoldable pub section_of : List ℕ → ℕ → List ℕ
section_of book i = if leb 48 (length book) then part_of book (section_offset book i) (section_length book i) else []

-- all of a book but the directory and the positions ("all but positions")
pub record Market : Type 0 where
  pub parameters : List ℕ
  pub vertices : List ℕ
  pub prices : List ℕ
  pub bonds : List ℕ
  pub flows : List ℕ

-- a market by its sections
abbrev pub market : List ℕ → List ℕ → List ℕ → List ℕ → List ℕ → Market
market parameters vertices prices bonds flows = record { parameters = parameters; vertices = vertices; prices = prices; bonds = bonds; flows = flows }

-- the market of a book
unfoldable pub market_of : List ℕ → Market
market_of book =
    market (section_of book parameters_section) (section_of book vertices_section) (section_of book prices_section) (section_of book bonds_section) (section_of book flows_section)

-- the positions' bytes
unfoldable pub positions_of : List ℕ → List ℕ
positions_of book = section_of book positions_section
