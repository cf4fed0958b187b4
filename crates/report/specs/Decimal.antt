-- A number in decimal digits, as bytes.
use Rattle.std.specs.Prelude.{ℕ, zero, suc, ◌+◌, ◌-◌, ◌*◌, ◌/◌, ◌%◌, ◌≤◌, ◌<◌, List, [], ◌∷◌, ◌++◌, ◌≡◌, ltb, length, get_or, if◌then◌else◌}
use Rattle.numbers.specs.Conditions.{In}

-- the byte of a digit: "0" is 48, "9" is 57
abbrev pub digit_byte : ℕ → ℕ
digit_byte n = 48 + n

-- n in at most `most` digits, the last one last
unfoldable pub digits : ℕ → ℕ → List ℕ
digits zero n = []
digits (suc most) n = if ltb n 10 then digit_byte n ∷ [] else digits most (n / 10) ++ (digit_byte (n % 10) ∷ [])

-- n in decimal digits; twenty are enough for every u64
unfoldable pub decimal : ℕ → List ℕ
decimal n = digits 20 n

-- ---- what that means (`decimal_is`)

-- the number that digits are read as, after those of v
unfoldable pub read_after : ℕ → List ℕ → ℕ
read_after v [] = v
read_after v (b ∷ s) = read_after (10 * v + (b - 48)) s

-- a number's text: it reads as the number, every byte is a digit, and no zero stands in front of other digits
pub record IsDecimal (n : ℕ) (text : List ℕ) : Type 0 where
  pub reads : read_after 0 text ≡ n
  pub digit : (i : ℕ) → i < length text → In 48 57 (get_or text i 0)
  pub front : 1 < length text → 48 < get_or text 0 0
  pub some : 1 ≤ length text
