-- The flows' fields and the check of their length (13).
use Rattle.std.specs.Prelude.{ℕ, ◌+◌, ◌*◌, List, eqb, length, if◌then◌else◌}
use Rattle.numbers.specs.Findings.{Finding, Passed, Refused}
use Rattle.numbers.specs.Little.{u16_at, u32_at}

-- "Flows, 8 bytes: days u16, zero u16, amount u32 in millionths of nominal." Record j of a bond's stretch.
abbrev pub flow_days : List ℕ → ℕ → ℕ
flow_days stretch j = u16_at stretch (8 * j)

abbrev pub flow_zero : List ℕ → ℕ → ℕ
flow_zero stretch j = u16_at stretch (8 * j + 2)

abbrev pub flow_amount : List ℕ → ℕ → ℕ
flow_amount stretch j = u32_at stretch (8 * j + 4)

-- "Flows: 13 length not 8 × total"
unfoldable pub check_flows : List ℕ → ℕ → Finding
check_flows flows total = if eqb (length flows) (8 * total) then Passed else Refused 13 0
