-- The positions, their values, and their check (17 to 20).
use Rattle.std.specs.Prelude.{ℕ, ◌+◌, ◌*◌, ◌/◌, ◌%◌, Bool, ◌&&◌, List, leb, ltb, eqb, ℤ, pos, nat_abs, ◌*ℤ◌, length, if◌then◌else◌}
use Rattle.numbers.specs.Findings.{Finding, Passed, Refused}
use Rattle.numbers.specs.Conditions.{within}
use Rattle.numbers.specs.Little.{u32_at, i64_at}
use Rattle.numbers.specs.Rounding.{nearest_z}
use Rattle.numbers.specs.Items.{and_then, first_failing, total}
use Rattle.reading.specs.Bonds.{bond_count, dirty_price}

-- "Positions, 1..4,096 of 12 bytes: bond u32, nominal i64 in euros, negative for short". W2: "An empty positions section shall mean a
-- book of zero exposures"
pub record Position : Type 0 where
  pub bond : ℕ
  pub nominal : ℤ

abbrev pub position : ℕ → ℤ → Position
position bond nominal = record { bond = bond; nominal = nominal }

abbrev pub position_count : List ℕ → ℕ
position_count positions = length positions / 12

abbrev pub position_bond : List ℕ → ℕ → ℕ
position_bond positions p = u32_at positions (12 * p)

abbrev pub position_nominal : List ℕ → ℕ → ℤ
position_nominal positions p = i64_at positions (12 * p + 4)

unfoldable pub position_at : List ℕ → ℕ → Position
position_at positions p = position (position_bond positions p) (position_nominal positions p)

-- "Value = nearest of nominal × dirty price / 1,000,000.", with halves away from zero
unfoldable pub value_of : ℤ → ℕ → ℤ
value_of nominal price = nearest_z (nominal *ℤ pos price) 1000000

unfoldable pub value : List ℕ → Position → ℤ
value bonds r = value_of r.nominal (dirty_price bonds r.bond)

-- "The sizes of all values total at most 100,000,000,000.": their total, of the first n positions
unfoldable pub value_total : List ℕ → List ℕ → ℕ → ℕ
value_total bonds positions n = total (λ p. nat_abs (value bonds (position_at positions p))) n

-- "17 length or count": W2: "Number 17 keeps length and the upper count": a whole number of records, 0 to 4,096
abbrev pub positions_form : List ℕ → Bool
positions_form positions = eqb (length positions % 12) 0 && within 0 4096 (position_count positions)

-- "18 no such bond; 19 nominal": "size at most 10,000,000,000; zero is allowed"
unfoldable pub position_code : List ℕ → Position → ℕ
position_code bonds r = if ltb r.bond (bond_count bonds) then (if leb (nat_abs r.nominal) 10000000000 then 0 else 19) else 18

-- "20 total of values": "20 follows all positions"
unfoldable pub total_finding : ℕ → Finding
total_finding sizes = if leb sizes 100000000000 then Passed else Refused 20 0

-- "Positions: 17 length or count; 18 no such bond; 19 nominal; 20 total of values"
unfoldable pub check_positions : List ℕ → List ℕ → Finding
check_positions bonds positions =
    if positions_form positions
    then and_then
    (first_failing (λ p. position_code bonds (position_at positions p)) (position_count positions) 0)
    (total_finding (value_total bonds positions (position_count positions)))
    else Refused 17 0
