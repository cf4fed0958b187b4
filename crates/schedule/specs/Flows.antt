-- The flows of dates and amounts, and their bytes.
use Rattle.std.specs.Prelude.{ℕ, zero, suc, ◌-◌, ◌*◌, ◌/◌, ◌%◌, Bool, ◌&&◌, List, [], ◌∷◌, ltb, get_or, if◌then◌else◌}
use Rattle.numbers.specs.Little.{byte_of}
use Rattle.numbers.specs.Buffers.{filled}

-- the numbers below n that a test holds of, from the highest down
unfoldable pub falling : (ℕ → Bool) → ℕ → List ℕ
falling test zero = []
falling test (suc n) = if test n then n ∷ falling test n else falling test n

-- "a zero coupon is left out .. The flows written are exactly the dates with an amount above 0, each once, in rising order": the
-- dates by their places, the one furthest before maturity first. Date j lies j months back at least, and there are 1,200 months
unfoldable pub flow_dates : (ℕ → Bool) → (ℕ → ℕ) → List ℕ
flow_dates due amount = falling (λ j. due j && ltb 0 (amount j)) 1200

-- "the book's flow records" ("Flows, 8 bytes: days u16, zero u16, amount u32"; "Little-endian throughout"): byte i of one
unfoldable pub record_byte : ℕ → ℕ → ℕ → ℕ
record_byte days amount i = if ltb i 2 then byte_of days i else (if ltb i 4 then 0 else byte_of amount (i - 4))

-- byte i of the records of these dates, where date j is `days j` days away and pays `amount j`
unfoldable pub flow_byte : (ℕ → ℕ) → (ℕ → ℕ) → List ℕ → ℕ → ℕ
flow_byte days amount dates i = record_byte (days (get_or dates (i / 8) 0)) (amount (get_or dates (i / 8) 0)) (i % 8)

-- a lent buffer that held `old`, with the records of the first n of these dates; later bytes keep their contents
abbrev pub records_in : (ℕ → ℕ) → (ℕ → ℕ) → List ℕ → ℕ → List ℕ → List ℕ
records_in days amount dates n old = filled (flow_byte days amount dates) (8 * n) old
