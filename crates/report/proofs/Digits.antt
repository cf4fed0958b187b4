-- Laws of decimal digits: what they are, and how many.
-- Assumes nothing.
use Prim.Native.Nat.{ℕ, zero, suc, ◌+◌, ◌-◌, ◌*◌, ◌/◌, ◌%◌, ◌^◌, ◌≤◌, ◌<◌}
use mathlib.Core.List.{List, [], ◌∷◌, ◌++◌}
use mathlib.Core.Path.{◌≡◌, refl, sym, ap, ◌∙◌}
use native.Mathlib.Nat.{pow-zero, pow-suc}
use native.Mathlib.Omega.{arith}
use borrow.Author.Tests.{lt-ltb, le-ltb, ltb-true, ltb-false}
use lib.Dec.{ltb}
use lib.ListN.{length, get_or, length-append}
use Rattle.numbers.proofs.Items.{by_test}
use Rattle.numbers.specs.Conditions.{In}
use Rattle.report.specs.Decimal.{digit_byte, digits, decimal, read_after, IsDecimal}

-- ---- one digit, and one more

module _ (most n : ℕ) where
  digits_one : n < 10 → digits (suc most) n ≡ digit_byte n ∷ []
  unfolding digits
  digits_one low = rw (lt-ltb n 10 low)

  digits_more : 10 ≤ n → digits (suc most) n ≡ digits most (n / 10) ++ (digit_byte (n % 10) ∷ [])
  unfolding digits
  digits_more high = rw (le-ltb n 10 high)

-- a number of one digit more than `most`: its tenth has `most`
tenth : (most n : ℕ) → n < 10 ^ suc most → n / 10 < 10 ^ most
tenth most n low = omega (arith, low, pow-suc 10 most)

-- a digit to spare changes nothing
digits_spare : (most n : ℕ) → n < 10 ^ suc most → digits (suc (suc most)) n ≡ digits (suc most) n
digits_spare zero n low = let small : n < 10 = omega (arith, low, pow-suc 10 0, pow-zero 10) in digits_one 1 n small ∙ sym (digits_one 0 n small)
digits_spare (suc most) n low =
    by_test (ltb n 10)
    (λ t. let small : n < 10 = ltb-true n 10 t in digits_one (suc (suc most)) n small ∙ sym (digits_one (suc most) n small))
    (λ f.
    let large : 10 ≤ n = ltb-false n 10 f in
    digits_more (suc (suc most)) n large
    ∙ (ap (λ (s : List ℕ). s ++ (digit_byte (n % 10) ∷ [])) (digits_spare most (n / 10) (tenth (suc most) n low))
    ∙ sym (digits_more (suc most) n large)))

-- the last digit's byte b
module _ (n b : ℕ) where
  -- a number below 10 is one digit
  pub decimal_one : n < 10 → b ≡ digit_byte n → decimal n ≡ b ∷ []
  unfolding decimal
  decimal_one low is = digits_one 19 n low ∙ ap (λ (x : ℕ). x ∷ []) (sym is)

  -- any other has the digits of its tenth, and one more
  pub decimal_more : 10 ≤ n → n < 100000000000000000000 → b ≡ digit_byte (n % 10) → decimal n ≡ decimal (n / 10) ++ (b ∷ [])
  unfolding decimal
  decimal_more high low is =
      digits_more 19 n high
      ∙ rw (is) (ap (λ (s : List ℕ). s ++ (digit_byte (n % 10) ∷ [])) (sym (digits_spare 18 (n / 10) (tenth 19 n low))))

-- ---- how many

-- at most `most`
digits_most : (most n : ℕ) → length (digits most n) ≤ most
unfolding digits
digits_most zero n = omega arith
digits_most (suc most) n =
    by_test (ltb n 10)
    (λ t. rw t (omega arith))
    (λ f. rw f (omega (arith, digits_most most (n / 10), length-append (digits most (n / 10)) (digit_byte (n % 10) ∷ []))))

-- as many as a power of ten above n says
digits_few : (most d n : ℕ) → n < 10 ^ suc d → length (digits most n) ≤ suc d
digits_few zero d n low = omega (arith, digits_most 0 n)
digits_few (suc most) zero n low = let small : n < 10 = omega (arith, low, pow-suc 10 0, pow-zero 10) in rw (digits_one most n small) (omega arith)
digits_few (suc most) (suc d) n low =
    by_test (ltb n 10)
    (λ t. rw (digits_one most n (ltb-true n 10 t)) (omega arith))
    (λ f.
    rw (digits_more most n (ltb-false n 10 f), length-append (digits most (n / 10)) (digit_byte (n % 10) ∷ []))
    (omega (arith, digits_few most d (n / 10) (tenth (suc d) n low))))

module _ (n : ℕ) where
  -- any text has at most twenty
  pub decimal_twenty : length (decimal n) ≤ 20
  unfolding decimal
  decimal_twenty = digits_most 20 n

  -- a number below 10^5, as every u16 is, at most five
  pub decimal_five : n < 100000 → length (decimal n) ≤ 5
  unfolding decimal
  decimal_five low = digits_few 20 4 n low

-- ---- that they are the number's

-- read with one digit more
read_more : (v : ℕ) (s : List ℕ) (b : ℕ) → read_after v (s ++ (b ∷ [])) ≡ 10 * read_after v s + (b - 48)
unfolding read_after
read_more v [] b = refl
read_more v (a ∷ s) b = read_more (10 * v + (a - 48)) s b

-- the digits are read back
digits_read : (most n : ℕ) → n < 10 ^ most → read_after 0 (digits most n) ≡ n
unfolding read_after digits
digits_read zero n low = omega (arith, low, pow-zero 10)
digits_read (suc most) n low =
    by_test (ltb n 10)
    (λ t. rw t (omega arith))
    (λ f. rw (f, read_more 0 (digits most (n / 10)) (digit_byte (n % 10))) (omega (arith, digits_read most (n / 10) (tenth most n low))))

-- the first byte of a text, with more behind it
first_kept : (s t : List ℕ) → 48 < get_or s 0 0 → 48 < get_or (s ++ t) 0 0
first_kept [] t high = absurd (omega arith)
first_kept (a ∷ s) t high = high

-- no zero stands in front
digits_front : (most n : ℕ) → 1 ≤ n → n < 10 ^ most → 48 < get_or (digits most n) 0 0
unfolding digits
digits_front zero n some low = absurd (omega (arith, low, pow-zero 10))
digits_front (suc most) n some low =
    by_test (ltb n 10)
    (λ t. rw t (omega arith))
    (λ f. rw f (first_kept (digits most (n / 10)) (digit_byte (n % 10) ∷ [])
    (digits_front most (n / 10) (omega (arith, ltb-false n 10 f)) (tenth most n low))))

-- a byte of a text, or the one behind it
each_more : (P : ℕ → Type 0) (s : List ℕ) (b : ℕ) → ((i : ℕ) → i < length s → P (get_or s i 0)) → P b
    → (i : ℕ) → i < length (s ++ (b ∷ [])) → P (get_or (s ++ (b ∷ [])) i 0)
each_more P [] b each last zero low = last
each_more P [] b each last (suc i) low = absurd (omega arith)
each_more P (a ∷ s) b each last zero low = each 0 (omega arith)
each_more P (a ∷ s) b each last (suc i) low = each_more P s b (λ j less. each (suc j) (omega arith)) last i (omega arith)

-- every byte is a digit
digits_each : (most n i : ℕ) → i < length (digits most n) → In 48 57 (get_or (digits most n) i 0)
unfolding digits
digits_each zero n i = λ low. absurd (omega arith)
digits_each (suc most) n i =
    by_test (ltb n 10)
    (λ t. rw t (each_more (In 48 57) [] (digit_byte n) (λ j low. absurd (omega arith)) (omega (arith, ltb-true n 10 t)) i))
    (λ f. rw f (each_more (In 48 57) (digits most (n / 10)) (digit_byte (n % 10)) (digits_each most (n / 10)) (omega arith) i))

-- there is one
digits_some : (most n : ℕ) → 1 ≤ length (digits (suc most) n)
unfolding digits
digits_some most n =
    by_test (ltb n 10)
    (λ t. rw t (omega arith))
    (λ f. rw (f, length-append (digits most (n / 10)) (digit_byte (n % 10) ∷ [])) (omega arith))

-- a number below 10^20: its text is its own
pub decimal_is : (n : ℕ) → n < 100000000000000000000 → IsDecimal n (decimal n)
unfolding decimal
decimal_is n low =
    record {
      reads = digits_read 20 n low;
      digit = digits_each 20 n;
      front = λ long.
          by_test (ltb n 10)
          (λ t. let one : length (digits 20 n) ≡ 1 = ap length (digits_one 19 n (ltb-true n 10 t)) in absurd (omega arith))
          (λ f. digits_front 20 n (omega (arith, ltb-false n 10 f)) low);
      some = digits_some 19 n;
    }
