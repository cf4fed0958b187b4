-- The parameters, k, and their check (3, 4, 5).
use Rattle.std.specs.Prelude.{ℕ, ◌+◌, ◌-◌, ◌*◌, max, Bool, ◌&&◌, List, leb, eqb, length, if◌then◌else◌}
use Rattle.numbers.specs.Findings.{Finding, Passed, Refused}
use Rattle.numbers.specs.Conditions.{within}
use Rattle.numbers.specs.Little.{u8_at, u16_at}
use Rattle.numbers.specs.Rounding.{nearest_down}

-- "Parameters, 16 bytes: lookback LP u16 (1..1,024), holding period hp u8 (1..10), warm-up sw u8 (0..255), confidence
-- u16 in hundredths of a percent (5,000..9,999), smoothing factor u16 in thousandths (1..999), tail u8 (0 single, 1
-- double), decorrelation parameter p u8 in percent (0..100), six zero bytes."
abbrev pub lookback : List ℕ → ℕ
lookback parameters = u16_at parameters 0

abbrev pub holding_period : List ℕ → ℕ
holding_period parameters = u8_at parameters 2

abbrev pub warm_up : List ℕ → ℕ
warm_up parameters = u8_at parameters 3

abbrev pub confidence : List ℕ → ℕ
confidence parameters = u16_at parameters 4

abbrev pub smoothing : List ℕ → ℕ
smoothing parameters = u16_at parameters 6

-- 0 single, 1 double
abbrev pub tail_mode : List ℕ → ℕ
tail_mode parameters = u8_at parameters 8

abbrev pub decorrelation : List ℕ → ℕ
decorrelation parameters = u8_at parameters 9

-- "six zero bytes"
abbrev pub parameters_zero : List ℕ → Bool
parameters_zero p = eqb (u8_at p 10) 0 && (eqb (u8_at p 11) 0 && (eqb (u8_at p 12) 0 && (eqb (u8_at p 13) 0 && (eqb (u8_at p 14) 0 && eqb (u8_at p 15) 0))))

-- "3 length or a zero byte"
abbrev pub parameters_form : List ℕ → Bool
parameters_form p = eqb (length p) 16 && parameters_zero p

-- "4 a range": each range as the parameters' sentence has it
abbrev pub parameters_ranges : List ℕ → Bool
parameters_ranges p =
    within 1 1024 (lookback p)
    && (within 1 10 (holding_period p) && (leb (warm_up p) 255 && (within 5000 9999 (confidence p) && (within 1 999 (smoothing p) && (leb (tail_mode p) 1 && leb (decorrelation p) 100)))))

-- "Prices, LP + hp + sw u32 for each vertex": how many
abbrev pub history : List ℕ → ℕ
history p = lookback p + holding_period p + warm_up p

-- "k = nearest of LP × (10,000 − confidence) / 10,000, halves DOWN, at least 1"
unfoldable pub tail_count_by : ℕ → ℕ → ℕ
tail_count_by lookback confidence = max 1 (nearest_down (lookback * (10000 - confidence)) 10000)

-- the k of these parameters
unfoldable pub tail_count : List ℕ → ℕ
tail_count p = tail_count_by (lookback p) (confidence p)

-- "Parameters: 3 length or a zero byte; 4 a range; 5 k above 16"
unfoldable pub check_parameters : List ℕ → Finding
check_parameters p =
    if parameters_form p then (if parameters_ranges p then (if leb (tail_count p) 16 then Passed else Refused 5 0) else Refused 4 0) else Refused 3 0
