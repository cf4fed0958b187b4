-- Laws of numbers in bytes: where the bytes are the same, so are the numbers; a number's bytes hold it.
-- Assumes nothing.
use Prim.Native.Nat.{ℕ, ◌+◌, ◌*◌, ◌/◌, ◌%◌, ◌^◌, ◌≤◌, ◌<◌}
use mathlib.Core.Path.{◌≡◌, refl, sym, ap, ◌∙◌}
use mathlib.Core.List.{List, ◌++◌}
use lib.ListN.{length, get_or, get_or-append}
use lib.Seq.{get_or-append-add}
use native.Mathlib.Omega.{arith}
use native.Mathlib.Nat.{add-zero, add_assoc, div-one, div-div-eq-div-mul}
use lib.Pow.{pow-add}
use Rattle.std.specs.Int.{w64, to_le_bytes}
use Rattle.numbers.specs.Buffers.{table}
use Rattle.numbers.specs.Little.{u8_at, u16_at, u32_at, u64_at, i64_at, byte_of}

-- the n bytes of s from a on are those of t from b on
abbrev pub Alike : List ℕ → ℕ → List ℕ → ℕ → ℕ → Type 0
Alike s a t b n = (i : ℕ) → i < n → u8_at s (a + i) ≡ u8_at t (b + i)

module _ (s : List ℕ) (a : ℕ) (t : List ℕ) (b : ℕ) where
  -- of q + n bytes, the last n
  pub later : (q n : ℕ) → Alike s a t b (q + n) → Alike s (a + q) t (b + q) n
  later q n e i low = ap (u8_at s) (add_assoc a q i) ∙ (e (q + i) (omega arith) ∙ ap (u8_at t) (sym (add_assoc b q i)))

  -- the same two bytes: the same number
  pub u16_alike : Alike s a t b 2 → u16_at s a ≡ u16_at t b
  unfolding u16_at
  u16_alike e =
      let first : u8_at s a ≡ u8_at t b = ap (u8_at s) (sym (add-zero a)) ∙ (e 0 (omega arith) ∙ ap (u8_at t) (add-zero b)) in
      rw (first, e 1 (omega arith))

-- the same four bytes: the same number
pub u32_alike : (s : List ℕ) (a : ℕ) (t : List ℕ) (b : ℕ) → Alike s a t b 4 → u32_at s a ≡ u32_at t b
unfolding u32_at
u32_alike s a t b e =
    rw (u16_alike s a t b (λ i low. e i (omega arith)), u16_alike s (a + 2) t (b + 2) (later s a t b 2 2 e))

-- the same eight bytes: the same signed number
pub i64_alike : (s : List ℕ) (a : ℕ) (t : List ℕ) (b : ℕ) → Alike s a t b 8 → i64_at s a ≡ i64_at t b
unfolding u64_at i64_at
i64_alike s a t b e =
    rw (u32_alike s a t b (λ i low. e i (omega arith)), u32_alike s (a + 4) t (b + 4) (later s a t b 4 4 e))

-- ---- two strings of bytes put together

module _ (s t : List ℕ) where
  -- the first one's bytes
  pub alike_first : (a n : ℕ) → a + n ≤ length s → Alike (s ++ t) a s a n
  alike_first a n fits i low = get_or-append s t 0 (a + i) (omega arith)

  -- the other's
  pub alike_after : (a n : ℕ) → Alike (s ++ t) (length s + a) t a n
  alike_after a n i low = ap (λ (q : ℕ). get_or (s ++ t) q 0) (add_assoc (length s) a i) ∙ get_or-append-add s t (a + i) 0

-- ---- a number's bytes

-- the bytes of n from the k-th on are those of n / 256^k
pub bytes_later : (n k i : ℕ) → byte_of (n / 256 ^ k) i ≡ byte_of n (k + i)
unfolding byte_of
bytes_later n k i = rw (div-div-eq-div-mul n (256 ^ k) (256 ^ i), pow-add 256 k i) refl

-- the machine's bytes of n, the low one first, are its eight bytes
pub bytes_from : (n : ℕ) → to_le_bytes w64 n ≡ table (byte_of n) 8 0
unfolding byte_of table
bytes_from n = rw (div-one n) refl

-- two bytes hold the low sixteen bits
pub u16_held : (s : List ℕ) (at n : ℕ) → ((i : ℕ) → i < 2 → u8_at s (at + i) ≡ byte_of n i) → u16_at s at ≡ n % 65536
unfolding u16_at byte_of
u16_held s at n held =
    let first : u8_at s at ≡ n % 256 = ap (u8_at s) (sym (add-zero at)) ∙ (held 0 (omega arith) ∙ rw (div-one n) refl) in
    let second : u8_at s (at + 1) ≡ n / 256 % 256 = held 1 (omega arith) in
    rw (first, second) (low_bits n (n / 256) (n / 65536) (omega arith) (omega arith))
  where
    low_bits : (n q p : ℕ) → q ≡ n / 256 → p ≡ n / 65536 → n % 256 + q % 256 * 256 ≡ n % 65536
    low_bits n q p is so = omega (arith, div-div-eq-div-mul n 256 256)

-- four bytes hold a number of 32 bits
pub u32_held : (s : List ℕ) (at n : ℕ) → n < 4294967296 → ((i : ℕ) → i < 4 → u8_at s (at + i) ≡ byte_of n i) → u32_at s at ≡ n
unfolding u32_at
u32_held s at n low held =
    let lower : u16_at s at ≡ n % 65536 = u16_held s at n (λ i few. held i (omega arith)) in
    let upper : u16_at s (at + 2) ≡ n / 65536 % 65536 =
    u16_held s (at + 2) (n / 65536) (λ i few. ap (u8_at s) (add_assoc at 2 i) ∙ (held (2 + i) (omega arith) ∙ sym (bytes_later n 2 i))) in
    rw (lower, upper) (omega arith)
