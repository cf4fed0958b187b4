-- Laws of signed numbers: sizes, ranges of a width, sign and size, the product, nearest of a signed number, equality.
-- Assumes nothing.
use Rattle.std.specs.Prelude.{if◌then◌else◌}
use Prim.Native.Nat.{ℕ, zero, suc, ◌+◌, ◌-◌, ◌*◌, ◌^◌, ◌≤◌, ◌<◌, zero-le}
use mathlib.Core.Bool.{Bool, true, false, not, cond}
use mathlib.Core.Path.{◌≡◌, refl, sym, ap, ◌∙◌, subst}
use native.Mathlib.Nat.{le_refl, le-suc, lt_of_le_of_lt, not-suc-le-zero}
use native.Mathlib.Numerals.{add-one}
use native.Mathlib.Omega.{arith}
use borrow.Author.Tests.{le-ltb, ltb-true, eqb-true, eq-eqb}
use lib.Dec.{T, ltb, ltb→lt, nltb→le}
use lib.IntN.{ℤ, pos, negsuc, suc_ℤ, pred_ℤ, neg_ℤ, nat_abs, sub_ℕ, ◌+ℤ◌, ◌-ℤ◌, ◌*ℤ◌, neg_ℤ-neg_ℤ, neg_ℤ-+ℤ, +ℤ_assoc, +ℤ_comm, +ℤ_idl, suc_ℤ-+ℤ, pred_ℤ-+ℤ, suc_ℤ-*ℤ, pred_ℤ-*ℤ, zero-*ℤ, *ℤ_comm}
use lib.Signed.{mag, non_neg, lt_z}
use mir.Facts.{to_z-of_z, to_z_pos}
use mir.Syntax.{Width, w64}
use mir.Val.{hbits, SFits, to_z, of_z, sel}
use Rattle.numbers.specs.Little.{twos_complement}
use Rattle.numbers.specs.Rounding.{nearest, negative, equal_z, with_sign, nearest_z}
use Rattle.numbers.proofs.Rounding.{nearest_zero, nearest_below}

-- ---- sizes

-- |−z| = |z|
pub nat_abs-neg : (z : ℤ) → nat_abs (neg_ℤ z) ≡ nat_abs z
nat_abs-neg (pos zero) = refl
nat_abs-neg (pos (suc n)) = refl
nat_abs-neg (negsuc n) = refl

by_test : (t : Bool) (x y : ℤ) (P : ℤ → Type 0) → (T t → P x) → (T (not t) → P y) → P (cond t x y)
by_test true x y P f g = f tt
by_test false x y P f g = g tt

-- a − b of two sizes is negative by l + 1, where b is l + 1 more than a, or it is the l that a is more than b
pub sub_cases : (P : ℤ → Type 0) (a b : ℕ) → ((l : ℕ) → b ≡ a + suc l → P (negsuc l)) → ((l : ℕ) → a ≡ b + l → P (pos l)) → P (sub_ℕ a b)
sub_cases P a b below above =
    by_test (ltb a b) (negsuc (b - suc a)) (pos (a - b)) P
    (λ t. let lt : a < b = ltb→lt a b t in below (b - suc a) (omega arith))
    (λ t. let le : b ≤ a = nltb→le a b t in above (a - b) (omega arith))

-- |a + b| ≤ |a| + |b|
pub nat_abs-add : (a b : ℤ) → nat_abs (a +ℤ b) ≤ nat_abs a + nat_abs b
nat_abs-add (pos a) (pos b) = le_refl (a + b)
nat_abs-add (pos a) (negsuc b) =
    sub_cases (λ (z : ℤ). nat_abs z ≤ a + suc b) a (suc b) (λ l e. omega arith) (λ l e. omega arith)
nat_abs-add (negsuc a) (pos b) =
    sub_cases (λ (z : ℤ). nat_abs z ≤ suc a + b) b (suc a) (λ l e. omega arith) (λ l e. omega arith)
nat_abs-add (negsuc a) (negsuc b) = omega arith

-- |a − b| of two sizes
pub nat_abs-sub : (a b : ℕ) → nat_abs (pos a -ℤ pos b) ≡ (a - b) + (b - a)
nat_abs-sub a zero = omega arith
nat_abs-sub a (suc b) = sub_cases (λ (z : ℤ). nat_abs z ≡ (a - suc b) + (suc b - a)) a (suc b) (λ l e. omega (arith, e)) (λ l e. omega (arith, e))

-- |a · b| = |a| · |b|
pub nat_abs_mul : (a b : ℤ) → nat_abs (a *ℤ b) ≡ nat_abs a * nat_abs b
nat_abs_mul (pos a) (pos b) = refl
nat_abs_mul (pos a) (negsuc b) = nat_abs-neg (pos (a * suc b))
nat_abs_mul (negsuc a) (pos b) = nat_abs-neg (pos (suc a * b))
nat_abs_mul (negsuc a) (negsuc b) = refl

-- ---- ranges of a width

-- what a range bounds is at most the size
pub mag_le : (z : ℤ) → mag z ≤ nat_abs z
mag_le (pos n) = le_refl n
mag_le (negsuc n) = le-suc n

-- a size below half the width's power is in the range
pub size_fits : (w : Width) (z : ℤ) → nat_abs z < 2 ^ hbits w → SFits w z
size_fits w z h = record { sfits = lt_of_le_of_lt (mag_le z) h }

-- a number in the range comes back from its bits as whatever it equals
pub came : (w : Width) {y : ℤ} (z : ℤ) → mag z < 2 ^ hbits w → z ≡ y → to_z w (of_z w z) ≡ y
came w z fits is = to_z-of_z (record { sfits = fits }) ∙ is

-- ---- sign and size

-- a number is its size with its sign
pub sign_size : (z : ℤ) → with_sign (negative z) (nat_abs z) ≡ z
unfolding negative with_sign
sign_size (pos n) = refl
sign_size (negsuc n) = refl

-- the size of a size with a sign
pub nat_abs_with_sign : (s : Bool) (n : ℕ) → nat_abs (with_sign s n) ≡ n
unfolding with_sign
nat_abs_with_sign true n = nat_abs-neg (pos n)
nat_abs_with_sign false n = refl

-- no size has no sign
pub with_sign-zero : (s : Bool) → with_sign s 0 ≡ pos 0
unfolding with_sign
with_sign-zero true = refl
with_sign-zero false = refl

-- the sizes' sum with one sign
pub with_sign-add : (s : Bool) (a b : ℕ) → with_sign s (a + b) ≡ with_sign s a +ℤ with_sign s b
unfolding with_sign
with_sign-add true a b = neg_ℤ-+ℤ (pos a) (pos b)
with_sign-add false a b = refl

-- below zero is what the test says
pub negative_is : (z : ℤ) → lt_z z (pos 0) ≡ negative z
unfolding negative
negative_is (pos n) = le-ltb n 0 zero-le
negative_is (negsuc n) = refl

-- ---- the product

-- what holds of 0, and with a number of the next and of the one before, holds of every number
pub by_steps : (P : ℤ → Type 0) → P (pos zero) → ((l : ℤ) → P l → P (suc_ℤ l)) → ((l : ℤ) → P l → P (pred_ℤ l)) → (z : ℤ) → P z
by_steps P none up down (pos zero) = none
by_steps P none up down (pos (suc n)) = up (pos n) (by_steps P none up down (pos n))
by_steps P none up down (negsuc zero) = down (pos zero) none
by_steps P none up down (negsuc (suc n)) = down (negsuc n) (by_steps P none up down (negsuc n))

-- (−a) · b = −(a · b)
pub neg_mul : (a b : ℤ) → neg_ℤ a *ℤ b ≡ neg_ℤ (a *ℤ b)
neg_mul (pos zero) b = zero-*ℤ b ∙ sym (ap neg_ℤ (zero-*ℤ b))
neg_mul (pos (suc a)) (pos b) = refl
neg_mul (pos (suc a)) (negsuc b) = sym (neg_ℤ-neg_ℤ (pos (suc a * suc b)))
neg_mul (negsuc a) (pos b) = sym (neg_ℤ-neg_ℤ (pos (suc a * b)))
neg_mul (negsuc a) (negsuc b) = refl

swap_last : (x y z : ℤ) → x +ℤ y +ℤ z ≡ x +ℤ z +ℤ y
swap_last x y z = +ℤ_assoc x y z ∙ ap (λ (l : ℤ). x +ℤ l) (+ℤ_comm y z) ∙ sym (+ℤ_assoc x z y)

mul_add_up : (a b c : ℤ) → (a +ℤ b) *ℤ c ≡ a *ℤ c +ℤ b *ℤ c → (suc_ℤ a +ℤ b) *ℤ c ≡ suc_ℤ a *ℤ c +ℤ b *ℤ c
mul_add_up a b c e =
    ap (λ (l : ℤ). l *ℤ c) (suc_ℤ-+ℤ a b)
    ∙ suc_ℤ-*ℤ (a +ℤ b) c
    ∙ ap (λ (l : ℤ). l +ℤ c) e
    ∙ swap_last (a *ℤ c) (b *ℤ c) c
    ∙ ap (λ (l : ℤ). l +ℤ b *ℤ c) (sym (suc_ℤ-*ℤ a c))

mul_add_down : (a b c : ℤ) → (a +ℤ b) *ℤ c ≡ a *ℤ c +ℤ b *ℤ c → (pred_ℤ a +ℤ b) *ℤ c ≡ pred_ℤ a *ℤ c +ℤ b *ℤ c
mul_add_down a b c e =
    ap (λ (l : ℤ). l *ℤ c) (pred_ℤ-+ℤ a b)
    ∙ pred_ℤ-*ℤ (a +ℤ b) c
    ∙ ap (λ (l : ℤ). l -ℤ c) e
    ∙ swap_last (a *ℤ c) (b *ℤ c) (neg_ℤ c)
    ∙ ap (λ (l : ℤ). l +ℤ b *ℤ c) (sym (pred_ℤ-*ℤ a c))

-- (a + b) · c = a · c + b · c
pub add_mulℤ : (a b c : ℤ) → (a +ℤ b) *ℤ c ≡ a *ℤ c +ℤ b *ℤ c
add_mulℤ a b c =
    by_steps (λ (l : ℤ). (l +ℤ b) *ℤ c ≡ l *ℤ c +ℤ b *ℤ c)
    (ap (λ (l : ℤ). l *ℤ c) (+ℤ_idl b) ∙ sym (ap (λ (l : ℤ). l +ℤ b *ℤ c) (zero-*ℤ c) ∙ +ℤ_idl (b *ℤ c)))
    (λ l e. mul_add_up l b c e)
    (λ l e. mul_add_down l b c e)
    a

-- a · (b + c) = a · b + a · c
pub mul_addℤ : (a b c : ℤ) → a *ℤ (b +ℤ c) ≡ a *ℤ b +ℤ a *ℤ c
mul_addℤ a b c = *ℤ_comm a (b +ℤ c) ∙ add_mulℤ b c a ∙ ap (λ (l : ℤ). l +ℤ c *ℤ a) (*ℤ_comm b a) ∙ ap (λ (l : ℤ). a *ℤ b +ℤ l) (*ℤ_comm c a)

mul_assoc_up : (a b c : ℤ) → a *ℤ b *ℤ c ≡ a *ℤ (b *ℤ c) → suc_ℤ a *ℤ b *ℤ c ≡ suc_ℤ a *ℤ (b *ℤ c)
mul_assoc_up a b c e =
    ap (λ (l : ℤ). l *ℤ c) (suc_ℤ-*ℤ a b)
    ∙ add_mulℤ (a *ℤ b) b c
    ∙ ap (λ (l : ℤ). l +ℤ b *ℤ c) e
    ∙ sym (suc_ℤ-*ℤ a (b *ℤ c))

mul_assoc_down : (a b c : ℤ) → a *ℤ b *ℤ c ≡ a *ℤ (b *ℤ c) → pred_ℤ a *ℤ b *ℤ c ≡ pred_ℤ a *ℤ (b *ℤ c)
mul_assoc_down a b c e =
    ap (λ (l : ℤ). l *ℤ c) (pred_ℤ-*ℤ a b)
    ∙ add_mulℤ (a *ℤ b) (neg_ℤ b) c
    ∙ ap (λ (l : ℤ). l +ℤ neg_ℤ b *ℤ c) e
    ∙ ap (λ (l : ℤ). a *ℤ (b *ℤ c) +ℤ l) (neg_mul b c)
    ∙ sym (pred_ℤ-*ℤ a (b *ℤ c))

-- (a · b) · c = a · (b · c)
pub mul_assocℤ : (a b c : ℤ) → a *ℤ b *ℤ c ≡ a *ℤ (b *ℤ c)
mul_assocℤ a b c =
    by_steps (λ (l : ℤ). l *ℤ b *ℤ c ≡ l *ℤ (b *ℤ c))
    (ap (λ (l : ℤ). l *ℤ c) (zero-*ℤ b) ∙ zero-*ℤ c ∙ sym (zero-*ℤ (b *ℤ c)))
    (λ l e. mul_assoc_up l b c e)
    (λ l e. mul_assoc_down l b c e)
    a

-- ---- nearest of a signed number

-- it is rounded on its size
pub nat_abs_nearest : (z : ℤ) (d : ℕ) → nat_abs (nearest_z z d) ≡ nearest (nat_abs z) d
unfolding nearest_z
nat_abs_nearest z d = nat_abs_with_sign (negative z) (nearest (nat_abs z) d)

-- rounding and negating in either order
pub nearest-neg : (z : ℤ) (d : ℕ) → nearest_z (neg_ℤ z) d ≡ neg_ℤ (nearest_z z d)
unfolding nearest_z negative with_sign
nearest-neg (pos zero) d = ap pos (nearest_zero d) ∙ sym (ap (λ (n : ℕ). neg_ℤ (pos n)) (nearest_zero d))
nearest-neg (pos (suc n)) d = refl
nearest-neg (negsuc n) d = sym (neg_ℤ-neg_ℤ (pos (nearest (suc n) d)))

-- ---- two's complement

same_choice : (t : Bool) (x : ℤ) (a b : ℕ) → a ≡ b → (if t then x else negsuc a) ≡ sel t x (negsuc b)
same_choice true x a b e = refl
same_choice false x a b e = ap negsuc e

-- 64 bits read as two's complement are the number that the machine reads in them
pub twos_complement_is : (n : ℕ) → twos_complement n ≡ to_z w64 n
unfolding twos_complement
twos_complement_is n =
    same_choice (ltb n (2 ^ 63)) (pos n) (2 ^ 64 - 1 - n) (2 ^ 64 - suc n) (omega arith)

-- ---- what the code computes

-- −1 − z of a number below zero is not below zero
pub turned : (z : ℤ) → lt_z z (pos 0) ≡ true → negsuc 0 -ℤ z ≡ pos (mag z)
turned (pos n) t = absurd (not-suc-le-zero (ltb-true n 0 t))
turned (negsuc n) t =
    sub_cases (λ (z : ℤ). z ≡ pos n) (suc n) 1 (λ l e. absurd (not-suc-le-zero {n = n} (omega arith))) (λ l e. ap pos (omega arith))

-- and one less than its size
pub turned_size : (z : ℤ) → lt_z z (pos 0) ≡ true → mag z + 1 ≡ nat_abs z
turned_size (pos n) t = absurd (not-suc-le-zero (ltb-true n 0 t))
turned_size (negsuc n) t = add-one n

-- a number that is not below zero
pub not_below : (z : ℤ) → lt_z z (pos 0) ≡ false → T (non_neg z)
not_below (pos n) t = tt
not_below (negsuc n) t = subst T t tt

-- 0 − n, of a size that fits
pub minus_size : (w : Width) (n : ℕ) → n < 2 ^ hbits w → pos 0 -ℤ to_z w n ≡ neg_ℤ (pos n)
minus_size w n h = ap (λ (l : ℤ). pos 0 -ℤ l) (to_z_pos w h) ∙ +ℤ_idl (neg_ℤ (pos n))

-- fits where the size does
pub minus_fits : (w : Width) (n : ℕ) → n < 2 ^ hbits w → SFits w (neg_ℤ (pos n))
minus_fits w n h = size_fits w (neg_ℤ (pos n)) (subst (λ (l : ℕ). l < 2 ^ hbits w) (sym (nat_abs-neg (pos n))) h)

-- a rounded size is below what the size is below
pub rounded_fits : {m q b : ℕ} (z : ℤ) (d : ℕ) → 0 < d → nat_abs z < b → m ≡ nat_abs z → q ≡ nearest m d → q < b
rounded_fits {m} z d some h size rounded = omega (arith, nearest_below m d some)

-- the rounded size with the sign is the rounded number
pub rounded_is : {s : Bool} {m q : ℕ} {r : ℤ} (z : ℤ) (d : ℕ) → s ≡ negative z → m ≡ nat_abs z → q ≡ nearest m d → r ≡ with_sign s q → r ≡ nearest_z z d
unfolding nearest_z
rounded_is z d sign size rounded whole = cc

-- ---- the test of equality

-- equal by the test: the same number
pub equal_is : (a b : ℤ) → equal_z a b ≡ true → a ≡ b
unfolding equal_z
equal_is (pos a) (pos b) t = ap pos (eqb-true a b t)
equal_is (pos a) (negsuc b) t = absurd (subst T (sym t) tt)
equal_is (negsuc a) (pos b) t = absurd (subst T (sym t) tt)
equal_is (negsuc a) (negsuc b) t = ap negsuc (eqb-true a b t)

-- a number is equal to itself by the test
pub equal_same : (a : ℤ) → equal_z a a ≡ true
unfolding equal_z
equal_same (pos a) = eq-eqb a a refl
equal_same (negsuc a) = eq-eqb a a refl
