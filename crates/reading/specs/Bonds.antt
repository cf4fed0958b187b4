-- The bonds and their check (10, 11, 12).
use Rattle.std.specs.Prelude.{ℕ, ◌+◌, ◌*◌, ◌/◌, ◌%◌, Bool, ◌&&◌, List, eqb, length, if◌then◌else◌}
use Rattle.numbers.specs.Findings.{Finding, Refused}
use Rattle.numbers.specs.Conditions.{within}
use Rattle.numbers.specs.Little.{u8_at, u32_at}
use Rattle.numbers.specs.Items.{first_failing, total}
use Rattle.reading.specs.Vertices.{has_curve}

-- "Bonds, 1..1,024 of 16 bytes: curve u8, three zero bytes, dirty price u32 in millionths of nominal (1..2,000,000),
-- first flow u32, number of flows u32 (1..120)."
abbrev pub bond_count : List ℕ → ℕ
bond_count bonds = length bonds / 16

abbrev pub bond_curve : List ℕ → ℕ → ℕ
bond_curve bonds i = u8_at bonds (16 * i)

-- "three zero bytes"
abbrev pub bond_zero : List ℕ → ℕ → Bool
bond_zero bonds i = eqb (u8_at bonds (16 * i + 1)) 0 && (eqb (u8_at bonds (16 * i + 2)) 0 && eqb (u8_at bonds (16 * i + 3)) 0)

abbrev pub dirty_price : List ℕ → ℕ → ℕ
dirty_price bonds i = u32_at bonds (16 * i + 4)

abbrev pub first_flow : List ℕ → ℕ → ℕ
first_flow bonds i = u32_at bonds (16 * i + 8)

abbrev pub flow_count_of : List ℕ → ℕ → ℕ
flow_count_of bonds i = u32_at bonds (16 * i + 12)

-- "The first bond's first flow is 0, each next starts where the last ended.": the flows of all bonds before bond i
unfoldable pub flows_before : List ℕ → ℕ → ℕ
flows_before bonds i = total (flow_count_of bonds) i

-- the flows of all bonds
unfoldable pub flow_total : List ℕ → ℕ
flow_total bonds = flows_before bonds (bond_count bonds)

-- "10 length or count": a whole number of records, 1 to 1,024
abbrev pub bonds_form : List ℕ → Bool
bonds_form bonds = eqb (length bonds % 16) 0 && within 1 1024 (bond_count bonds)

-- "zero bytes, or price"
abbrev pub bond_terms : List ℕ → ℕ → Bool
bond_terms bonds i = bond_zero bonds i && within 1 2000000 (dirty_price bonds i)

-- "first flow or number"
abbrev pub bond_counts : List ℕ → ℕ → Bool
bond_counts bonds i = eqb (first_flow bonds i) (flows_before bonds i) && within 1 120 (flow_count_of bonds i)

-- "11 no such curve, zero bytes, or price; 12 first flow or number": "lowest number first on one item". `known`: some
-- vertex has the bond's curve
unfoldable pub bond_code_for : Bool → List ℕ → ℕ → ℕ
bond_code_for known bonds i = if known && bond_terms bonds i then (if bond_counts bonds i then 0 else 12) else 11

-- a bond of a market with these vertices
unfoldable pub bond_code : List ℕ → List ℕ → ℕ → ℕ
bond_code vertices bonds i = bond_code_for (has_curve vertices (bond_curve bonds i)) bonds i

-- "Bonds: 10 length or count; 11 ..; 12 .."
unfoldable pub check_bonds : List ℕ → List ℕ → Finding
check_bonds vertices bonds = if bonds_form bonds then first_failing (bond_code vertices bonds) (bond_count bonds) 0 else Refused 10 0
