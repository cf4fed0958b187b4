-- Numbers in a string of bytes, little-endian ("Little-endian throughout"): the least significant byte stands first.
-- A byte past the end reads 0, so that each is total; the code reads only what lies within.
use Rattle.std.specs.Prelude.{ℕ, ◌+◌, ◌-◌, ◌*◌, ◌/◌, ◌%◌, ◌^◌, List, ltb, ℤ, pos, negsuc, get_or, if◌then◌else◌}

abbrev pub u8_at : List ℕ → ℕ → ℕ
u8_at s at = get_or s at 0

unfoldable pub u16_at : List ℕ → ℕ → ℕ
u16_at s at = u8_at s at + u8_at s (at + 1) * 256

unfoldable pub u32_at : List ℕ → ℕ → ℕ
u32_at s at = u16_at s at + u16_at s (at + 2) * 65536

unfoldable pub u64_at : List ℕ → ℕ → ℕ
u64_at s at = u32_at s at + u32_at s (at + 4) * 4294967296

-- a number of 64 bits read as two's complement: n below 2^63 is n, any other n − 2^64
unfoldable pub twos_complement : ℕ → ℤ
twos_complement n = if ltb n (2 ^ 63) then pos n else negsuc (2 ^ 64 - 1 - n)

unfoldable pub i64_at : List ℕ → ℕ → ℤ
i64_at s at = twos_complement (u64_at s at)

-- byte i of a number, the least significant being byte 0
unfoldable pub byte_of : ℕ → ℕ → ℕ
byte_of n i = n / 256 ^ i % 256
