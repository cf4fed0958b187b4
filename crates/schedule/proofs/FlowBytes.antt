-- Laws of flow records: their bytes in a buffer, put one after the other, and what is read back of them.
-- Assumes nothing.
use Prim.Native.Nat.{ℕ, ◌+◌, ◌-◌, ◌*◌, ◌/◌, ◌%◌, ◌^◌, ◌≤◌, ◌<◌}
use mathlib.Core.List.{List}
use mathlib.Core.Path.{◌≡◌, refl, sym, ap, ◌∙◌}
use native.Mathlib.Nat.{add_assoc, zero-div}
use native.Mathlib.Omega.{arith}
use borrow.Author.Tests.{lt-ltb, le-ltb}
use lib.ListN.{length, get_or}
use Rattle.numbers.specs.Little.{u8_at, byte_of}
use Rattle.numbers.specs.Buffers.{filled, placed}
use Rattle.numbers.proofs.Buffers.{placed_both, filled_on, filled_below}
use Rattle.numbers.proofs.Little.{u16_held, u32_held}
use Rattle.reading.specs.Flows.{flow_days, flow_zero, flow_amount}
use Rattle.schedule.specs.Flows.{record_byte, flow_byte, records_in}

-- ---- one record

module _ (days amount : ℕ) where
  -- its first two bytes are days
  pub record_days : (i : ℕ) → i < 2 → record_byte days amount i ≡ byte_of days i
  unfolding record_byte
  record_days i low = rw (lt-ltb i 2 low) refl

  -- then two zeros
  pub record_zero : (i : ℕ) → i < 2 → record_byte days amount (2 + i) ≡ byte_of 0 i
  unfolding record_byte byte_of
  record_zero i low = rw (le-ltb (2 + i) 2 (omega arith), lt-ltb (2 + i) 4 (omega arith), zero-div (256 ^ i)) refl

  -- then the amount
  pub record_amount : (i : ℕ) → record_byte days amount (4 + i) ≡ byte_of amount i
  unfolding record_byte
  record_amount i =
      let here : 4 + i - 4 ≡ i = omega arith in
      rw (le-ltb (4 + i) 2 (omega arith), le-ltb (4 + i) 4 (omega arith)) (ap (byte_of amount) here)

  -- three fields, put one after the other
  pub record_placed : (at : ℕ) (old first second third : List ℕ) → at + 8 ≤ length old → first ≡ placed (byte_of days) at 2 old
      → second ≡ placed (byte_of 0) (at + 2) 2 first → third ≡ placed (byte_of amount) (at + 4) 4 second → third ≡ placed (record_byte days amount) at 8 old
  record_placed at old first second third fits one two three =
      let half : second ≡ placed (record_byte days amount) at 4 old =
      two
      ∙ (ap (placed (byte_of 0) (at + 2) 2) one
      ∙ placed_both (byte_of days) (byte_of 0) (record_byte days amount) at 2 2 old 0 (omega arith) (λ i low. sym (record_days i low))
      (λ i low. sym (record_zero i low)))
      in
      three
      ∙ (ap (placed (byte_of amount) (at + 4) 4) half
      ∙ placed_both (record_byte days amount) (byte_of amount) (record_byte days amount) at 4 4 old 0 fits (λ i low. refl) (λ i low. sym (record_amount i)))

-- ---- records in a row

module _ (days amount : ℕ → ℕ) (dates : List ℕ) where
  -- byte i of record r
  pub flow_byte_lem : (r i : ℕ) → i < 8 → flow_byte days amount dates (8 * r + i) ≡ record_byte (days (get_or dates r 0)) (amount (get_or dates r 0)) i
  unfolding flow_byte
  flow_byte_lem r i low =
      let whole : (8 * r + i) / 8 ≡ r = omega arith in
      let rest : (8 * r + i) % 8 ≡ i = omega arith in
      rw (whole, rest) refl

  -- r records are put, and the next right after them
  pub record_next : (r x y : ℕ) (old held new : List ℕ) → held ≡ records_in days amount dates r old → 8 * r + 8 ≤ length old
      → new ≡ placed (record_byte x y) (8 * r) 8 held → x ≡ days (get_or dates r 0) → y ≡ amount (get_or dates r 0)
      → new ≡ records_in days amount dates (r + 1) old
  record_next r x y old held new is fits put on pays =
      let next : 8 * r + 8 ≡ 8 * (r + 1) = omega arith in
      put
      ∙ (ap (placed (record_byte x y) (8 * r) 8) is
      ∙ (filled_on (flow_byte days amount dates) (record_byte x y) (8 * r) 8 old 0 fits
      (λ i low. rw (on, pays) (sym (flow_byte_lem r i low)))
      ∙ ap (λ (n : ℕ). filled (flow_byte days amount dates) n old) next))

  -- ---- what is read back

  module _ (n : ℕ) (old : List ℕ) (r : ℕ) (low : r < n) where
    read : (i : ℕ) → i < 8 → u8_at (records_in days amount dates n old) (8 * r + i) ≡ record_byte (days (get_or dates r 0)) (amount (get_or dates r 0)) i
    read i few = filled_below (flow_byte days amount dates) (8 * n) old (8 * r + i) 0 (omega arith) ∙ flow_byte_lem r i few

    pub read_days : days (get_or dates r 0) < 65536 → flow_days (records_in days amount dates n old) r ≡ days (get_or dates r 0)
    read_days small =
        u16_held (records_in days amount dates n old) (8 * r) (days (get_or dates r 0))
        (λ i few. read i (omega arith) ∙ record_days (days (get_or dates r 0)) (amount (get_or dates r 0)) i few)
        ∙ omega arith

    pub read_zero : flow_zero (records_in days amount dates n old) r ≡ 0
    read_zero =
        u16_held (records_in days amount dates n old) (8 * r + 2) 0
        (λ i few. ap (u8_at (records_in days amount dates n old)) (add_assoc (8 * r) 2 i)
        ∙ (read (2 + i) (omega arith) ∙ record_zero (days (get_or dates r 0)) (amount (get_or dates r 0)) i few))
        ∙ refl

    pub read_amount : amount (get_or dates r 0) < 4294967296 → flow_amount (records_in days amount dates n old) r ≡ amount (get_or dates r 0)
    read_amount small =
        u32_held (records_in days amount dates n old) (8 * r + 4) (amount (get_or dates r 0)) small
        (λ i few. ap (u8_at (records_in days amount dates n old)) (add_assoc (8 * r) 4 i)
        ∙ (read (4 + i) (omega arith) ∙ record_amount (days (get_or dates r 0)) (amount (get_or dates r 0)) i))
