-- A bond's flows as a stretch of the book.
use Rattle.std.specs.Prelude.{ℕ, ◌+◌, ◌*◌, Bool, true, false, ◌&&◌, List, [], ltb, if◌then◌else◌}
use Rattle.numbers.specs.Findings.{Finding, Passed, Refused}
use Rattle.numbers.specs.Buffers.{part_of}
use Rattle.reading.specs.Book.{section_of, section_offset, bonds_section, flows_section}
use Rattle.reading.specs.Bonds.{bond_count, first_flow, flow_count_of}
use Rattle.reading.specs.Check.{check_sections}

-- a finding is a pass
abbrev pub passes : Finding → Bool
passes Passed = true
passes (Refused number item) = false

-- the bytes of bond i's flows in the flows' section
unfoldable pub flows_of : List ℕ → List ℕ → ℕ → List ℕ
flows_of bonds flows i = part_of flows (first_flow bonds i * 8) (flow_count_of bonds i * 8)

-- "Bytes refused by 1 to 13, or a bond index they lack, get an empty stretch."
unfoldable pub has_stretch : List ℕ → ℕ → Bool
has_stretch book i = passes (check_sections book) && ltb i (bond_count (section_of book bonds_section))

-- "A bond's flows are handed out as that very stretch of the book.": where it begins in the book
unfoldable pub stretch_start : List ℕ → ℕ → ℕ
stretch_start book i = if has_stretch book i then section_offset book flows_section + first_flow (section_of book bonds_section) i * 8 else 0

-- its bytes
unfoldable pub stretch_of : List ℕ → ℕ → List ℕ
stretch_of book i = if has_stretch book i then part_of book (stretch_start book i) (flow_count_of (section_of book bonds_section) i * 8) else []
