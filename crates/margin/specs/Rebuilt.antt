-- A book with other positions and all else equal, and positions n times over.
use Rattle.std.specs.Prelude.{ℕ, zero, suc, ◌-◌, List, [], ◌++◌, length, take, drop}
use Rattle.numbers.specs.Buffers.{table}
use Rattle.numbers.specs.Little.{byte_of}
use Rattle.reading.specs.Book.{section_offset, positions_section}

-- "Little-endian throughout": a number below 2^32 in four bytes
unfoldable pub u32_bytes : ℕ → List ℕ
u32_bytes n = table (byte_of n) 4 0

-- the book's pairs up to the sixth offset, the length of these positions, the book's sections before the positions, and these positions
unfoldable pub with_positions : List ℕ → List ℕ → List ℕ
with_positions book positions =
    take 44 book ++ u32_bytes (length positions) ++ take (section_offset book positions_section - 48) (drop 48 book) ++ positions

-- these positions n times over
unfoldable pub repeated : ℕ → List ℕ → List ℕ
repeated zero positions = []
repeated (suc n) positions = positions ++ repeated n positions
