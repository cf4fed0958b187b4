-- Laws of the guess of a root: the power of two, the pieces, their tangents and the table of these, and how close the guess is (document
-- 02, W3).
-- Assumes nothing.
use Prim.Native.Nat.{ℕ, zero, suc, ◌+◌, ◌-◌, ◌*◌, ◌/◌, ◌%◌, ◌^◌, ◌≤◌, ◌<◌}
use mathlib.Core.Bool.{Bool, true, false, ◌&&◌}
use mathlib.Core.List.{List, [], ◌∷◌}
use mathlib.Core.Path.{◌≡◌, refl, sym, ap, ◌∙◌}
use native.Mathlib.Nat.{mul-add, add-mul, mul_assoc, mul_comm, mul-mul-mul_comm, mul-le-mul, mul-le-mul_left, mul-le-mul_right, le_of_mul-le-mul_left, mul-div-le, le-div_iff_mul-le, mul_left_comm, mul-pos, two-mul, mod-eq_of_lt, div-lt_iff_lt-mul, pow-suc}
use native.Mathlib.Omega.{arith}
use borrow.Author.Tests.{leb-true, ltb-true, ltb-false, eqb-true}
use lib.Count.{count_leading_zeros, leading_top, leading_length, leading_unique}
use lib.Dec.{leb, ltb, eqb}
use lib.ListN.{get_or}
use lib.Pow.{pow-add, pow_mono, pow_pos}
use Rattle.numbers.specs.Buffers.{table}
use Rattle.numbers.specs.Root.{IsRoot, root}
use Rattle.numbers.specs.Rounding.{ceiling}
use Rattle.numbers.specs.Improvements.{zero_pairs, scale, piece, middle, middle_root, reciprocal, tangent, tangents, guess}
use Rattle.numbers.proofs.Buffers.{table_at}
use Rattle.numbers.proofs.Items.{by_test, both, true_not_false}
use Rattle.numbers.proofs.Rounding.{ceiling_is, ceiling-le, quotient_is}
use Rattle.numbers.proofs.Roots.{squares, squares_apart, square_lt, square_le, root_is, root_least, root_only}

-- ---- what is close

-- x is no less than r - 1 and than half of r + 1, and past r + 1 by at most an a-th of it
pub record Close (r a x : ℕ) : Type 0 where
  pub low : r ≤ x + 1
  pub half : r + 1 ≤ 2 * x
  pub high : a * x ≤ (a + 1) * (r + 1)

-- ---- the power of two and the piece

-- p is a power of two whose square is at most n, and n less than four times it
record Scaled (n p : ℕ) : Type 0 where
  some : 0 < p
  low : p * p ≤ n
  high : n < 4 * (p * p)
  small : p ≤ 2 ^ 31

-- the power of two from the count of leading zeros
scaled : (n : ℕ) → 0 < n → n < 2 ^ 64 → Scaled n (scale n)
unfolding scale
scaled n pos fits =
    let t = leading_top 64 n pos fits in
    let j : ℕ = t.0 in
    let g : ℕ = 31 - zero_pairs n in
    let zeros : count_leading_zeros 64 n + suc j ≡ 64 = t.1 in
    let square : 2 ^ (2 * g) ≡ 2 ^ g * 2 ^ g = ap (λ (m : ℕ). 2 ^ m) (two-mul g) ∙ pow-add 2 g g in
    record {
      some = pow_pos g;
      low = omega (arith, square, t.2, pow_mono {i = 2 * g} {j = j} (omega arith));
      high =
          omega
          (arith, square, t.3, pow_mono {i = suc j} {j = suc (suc (2 * g))} (omega arith), pow-suc 2 (suc (2 * g)), pow-suc 2 (2 * g));
      small = pow_mono {i = g} {j = 31} (omega arith);
    }

-- n lies in its piece: from i 64ths of p² up to one more
pub record Within (n p i : ℕ) : Type 0 where
  pub least : 64 ≤ i
  pub most : i ≤ 255
  pub low : i * (p * p) ≤ 64 * n
  pub high : 64 * n < (i + 1) * (p * p)

pub within_piece : (n : ℕ) → 0 < n → n < 2 ^ 64 → Within n (scale n) (piece n)
unfolding piece
within_piece n pos fits =
    let s = scaled n pos fits in
    let p : ℕ = scale n in
    let wide : 0 < p * p = mul-pos s.some s.some in
    record {
      least = (le-div_iff_mul-le wide).1 (mul-le-mul_left 64 s.low);
      most = omega (arith, (div-lt_iff_lt-mul {k = p * p} {x = 64 * n} {y = 256} wide).1 (omega (arith, s.high)));
      low = (le-div_iff_mul-le {k = p * p} {x = 64 * n / (p * p)} {y = 64 * n} wide).0 (omega arith);
      high = (div-lt_iff_lt-mul {k = p * p} {x = 64 * n} {y = 64 * n / (p * p) + 1} wide).0 (omega arith);
    }

-- ---- the tangent of a piece

-- a is the root of the middle of piece i, b its reciprocal, both times 2^24
record Tangent (i a b : ℕ) : Type 0 where
  is : IsRoot (middle i) a
  least : 2 ^ 24 ≤ a
  most : a < 2 ^ 25
  product : 2 ^ 48 ≤ a * b
  close : a * b < 2 ^ 48 + a
  small : b ≤ 2 ^ 24

tangent_of : (i : ℕ) → 64 ≤ i → i ≤ 255 → Tangent i (middle_root i) (reciprocal i)
unfolding middle_root reciprocal
tangent_of i from to =
    let a : ℕ = root (middle i) in
    let b : ℕ = ceiling (2 ^ 48) a in
    let is = root_is (middle i) in
    let least : 2 ^ 24 ≤ a = root_least (middle i) (2 ^ 24) (omega arith) in
    let pos : 0 < a = omega arith in
    let c = ceiling_is (2 ^ 48) a pos in
    record {
      is = is;
      least = least;
      most = square_lt a (2 ^ 25) (omega (arith, is.low));
      product = omega (arith, c.1, mul-add a b 1);
      close = omega (arith, c.0);
      small = ceiling-le (2 ^ 48) a (2 ^ 24) pos (mul-le-mul_left (2 ^ 24) least);
    }

module _ (i a b : ℕ) (to : i ≤ 255) (t : Tangent i a b) where
  -- a is past i 64ths of b by at most a 120th of 2^24, and i + 1 of them are past a by no more
  tangent_above : 960 * a ≤ 15 * (b * i) + 8 * 2 ^ 24
  tangent_above =
      let pos : 0 < a = omega (arith, t.least) in
      le_of_mul-le-mul_left
      (omega (
        arith,
        t.is.low,
        t.least,
        mul_left_comm a 960 a,
        mul-add a (15 * (b * i)) (8 * 2 ^ 24),
        mul_left_comm a 15 (b * i),
        mul_assoc a b i,
        mul-le-mul_right i t.product,
      ))
      pos

  tangent_below : 15 * (b * (i + 1)) ≤ 960 * a + 8 * 2 ^ 24
  tangent_below =
      let pos : 0 < a = omega (arith, t.least) in
      let near : a * b ≤ 2 ^ 48 + a = omega (arith, t.close) in
      let reach : a * (i + 1) ≤ a * 256 = mul-le-mul_left a (omega arith) in
      le_of_mul-le-mul_left
      (omega (
        arith,
        t.is.high,
        t.least,
        t.most,
        mul-add (a + 1) a 1,
        add-mul a 1 a,
        mul_left_comm a 15 (b * (i + 1)),
        mul_assoc a b (i + 1),
        mul-le-mul_right (i + 1) near,
        add-mul (2 ^ 48) a (i + 1),
        reach,
        mul-add a (960 * a) (8 * 2 ^ 24),
        mul_left_comm a 960 a,
      ))
      pos

-- ---- the guess is close

-- the square of a sum of two that are apart by at most a 120th of w
sum_by : (u d w : ℕ) → 120 * d ≤ w → 14400 * ((u + (u + d)) * (u + (u + d))) ≤ 57600 * (u * (u + d)) + w * w
sum_by u d w near =
    omega (
      arith,
      squares_apart u d,
      mul-add (u + (u + d)) u (u + d),
      add-mul u (u + d) u,
      add-mul u (u + d) (u + d),
      mul_comm (u + d) u,
      mul-mul-mul_comm 120 d 120 d,
      mul-le-mul near near,
    )

sum_square : (u v w : ℕ) → 120 * u ≤ 120 * v + w → 120 * v ≤ 120 * u + w → 14400 * ((u + v) * (u + v)) ≤ 57600 * (u * v) + w * w
sum_square u v w below above =
    by_test (ltb u v)
    (λ t.
    let is : v ≡ u + (v - u) = omega (arith, ltb-true u v t) in
    rw is (sum_by u (v - u) w (omega arith)))
    (λ f.
    let is : u ≡ v + (u - v) = omega (arith, ltb-false u v f) in
    rw is (omega (arith, sum_by v (u - v) w (omega arith))))

-- the square of a sum is at least four times the product
sum_least : (u v : ℕ) → 4 * (u * v) ≤ (u + v) * (u + v)
sum_least u v = omega (arith, squares u v, mul-add (u + v) u v, add-mul u v u, add-mul u v v, mul_comm v u)

-- 2^25·p times the tangent at n: a·p² + b·n
module _ (n p i a b : ℕ) (c : Scaled n p) (h : Within n p i) (t : Tangent i a b) where
  abbrev line : ℕ
  line = a * (p * p) + b * n

  -- its two terms' product
  terms : (a * (p * p)) * (b * n) ≡ a * b * (p * p * n)
  terms = mul-mul-mul_comm a (p * p) b n

  -- it is at least 2^25·r·p for a number r whose square is at most n
  line_low : (r : ℕ) → r * r ≤ n → 2 ^ 25 * (r * p) ≤ line
  line_low r under =
      square_le (2 ^ 25 * (r * p)) line
      (omega (
        arith,
        sum_least (a * (p * p)) (b * n),
        terms,
        mul-le-mul_right (p * p * n) t.product,
        mul-le-mul_left (p * p) under,
        mul-mul-mul_comm (2 ^ 25) (r * p) (2 ^ 25) (r * p),
        mul-mul-mul_comm r p r p,
        mul_comm (r * r) (p * p),
      ))

  -- its terms are apart by at most a 120th of 2^24·p²
  terms_above : 120 * (a * (p * p)) ≤ 120 * (b * n) + 2 ^ 24 * (p * p)
  terms_above =
      let scaled : (960 * a) * (p * p) ≤ (15 * (b * i) + 8 * 2 ^ 24) * (p * p) = mul-le-mul_right (p * p) (tangent_above i a b h.most t) in
      omega (
        arith,
        scaled,
        mul_assoc 960 a (p * p),
        add-mul (15 * (b * i)) (8 * 2 ^ 24) (p * p),
        mul_assoc 15 (b * i) (p * p),
        mul_assoc b i (p * p),
        mul-le-mul_left b h.low,
        mul_left_comm b 64 n,
      )

  terms_below : 120 * (b * n) ≤ 120 * (a * (p * p)) + 2 ^ 24 * (p * p)
  terms_below =
      let scaled : (15 * (b * (i + 1))) * (p * p) ≤ (960 * a + 8 * 2 ^ 24) * (p * p) = mul-le-mul_right (p * p) (tangent_below i a b h.most t) in
      let high : b * (64 * n) ≤ b * ((i + 1) * (p * p)) = mul-le-mul_left b (omega (arith, h.high)) in
      omega (
        arith,
        scaled,
        high,
        mul_assoc 15 (b * (i + 1)) (p * p),
        mul_assoc b (i + 1) (p * p),
        add-mul (960 * a) (8 * 2 ^ 24) (p * p),
        mul_assoc 960 a (p * p),
        mul_left_comm b 64 n,
      )

  -- so it is past 2^25·s·p by at most a 50,000th of it, for a number s whose square is past n
  line_high : (s : ℕ) → n < s * s → 50000 * line ≤ 50001 * (2 ^ 25 * (p * s))
  line_high s past =
      let near : a * b ≤ 2 ^ 48 + 2 ^ 25 = omega (arith, t.close, t.most) in
      let q : ℕ = p * p * n in
      let wide : p * p * (p * p) ≤ q = mul-le-mul_left (p * p) c.low in
      let most : q ≤ p * p * (s * s) = mul-le-mul_left (p * p) (omega (arith, past)) in
      square_le (50000 * line) (50001 * (2 ^ 25 * (p * s)))
      (omega (
        arith,
        sum_square (a * (p * p)) (b * n) (2 ^ 24 * (p * p)) terms_above terms_below,
        terms,
        mul-le-mul_right q near,
        wide,
        most,
        mul-mul-mul_comm (2 ^ 24) (p * p) (2 ^ 24) (p * p),
        mul-mul-mul_comm 50000 line 50000 line,
        mul-mul-mul_comm 50001 (2 ^ 25 * (p * s)) 50001 (2 ^ 25 * (p * s)),
        mul-mul-mul_comm (2 ^ 25) (p * s) (2 ^ 25) (p * s),
        mul-mul-mul_comm p s p s,
      ))

  -- the guess: n / p is rounded down, and then a 2^25th of the sum
  abbrev mean : ℕ
  mean = (a * p + b * (n / p)) / 2 ^ 25

  -- it is no more than the line says, and less by no more than one and a half
  mean_low : 2 ^ 25 * (p * mean) ≤ line
  mean_low =
      omega (
        arith,
        mul-le-mul_left p (mul-div-le (a * p + b * (n / p)) (2 ^ 25)),
        mul_left_comm p (2 ^ 25) mean,
        mul-add p (a * p) (b * (n / p)),
        mul_left_comm p a p,
        mul_left_comm p b (n / p),
        mul-le-mul_left b (mul-div-le n p),
      )

  mean_high : line ≤ 2 ^ 25 * (p * mean) + (2 ^ 25 + 2 ^ 24) * p
  mean_high =
      let over : p * (a * p + b * (n / p)) ≤ p * (2 ^ 25 * mean + 2 ^ 25) = mul-le-mul_left p (omega arith) in
      let rest : n ≤ p * (n / p) + p = omega (arith, (div-lt_iff_lt-mul {k = p} {x = n} {y = n / p + 1} c.some).0 (omega arith), add-mul (n / p) 1 p, mul_comm (n / p) p) in
      omega (
        arith,
        over,
        mul-add p (2 ^ 25 * mean) (2 ^ 25),
        mul_left_comm p (2 ^ 25) mean,
        mul-add p (a * p) (b * (n / p)),
        mul_left_comm p a p,
        mul_left_comm p b (n / p),
        mul-le-mul_left b rest,
        mul-add b (p * (n / p)) p,
        mul-le-mul_right p t.small,
      )

  -- and no less than p, as n / p is not
  mean_some : p ≤ mean
  mean_some =
      let share : p ≤ n / p = (le-div_iff_mul-le c.some).1 c.low in
      let both : 2 ^ 25 ≤ a + b = square_le (2 ^ 25) (a + b) (omega (arith, sum_least a b, t.product)) in
      (le-div_iff_mul-le {k = 2 ^ 25} {x = p} {y = a * p + b * (n / p)} (omega arith)).1
      (omega (arith, mul-le-mul_left b share, mul-le-mul_right p both, add-mul a b p, mul_comm p (2 ^ 25)))

  -- so it is close to the root
  mean_close : Close (root n) 50000 mean
  mean_close =
      let r : ℕ = root n in
      let is = root_is n in
      let below : r < 2 * p = square_lt r (2 * p) (omega (arith, is.low, c.high, mul-mul-mul_comm 2 p 2 p)) in
      let under : p * (2 ^ 25 * r) ≤ p * (2 ^ 25 * mean + (2 ^ 25 + 2 ^ 24)) =
      omega (
        arith,
        line_low r is.low,
        mean_high,
        mul_comm r p,
        mul_left_comm p (2 ^ 25) r,
        mul-add p (2 ^ 25 * mean) (2 ^ 25 + 2 ^ 24),
        mul_left_comm p (2 ^ 25) mean,
        mul_comm p (2 ^ 25 + 2 ^ 24),
      ) in
      let over : p * (50000 * mean) ≤ p * (50001 * (r + 1)) =
      omega (arith, line_high (r + 1) is.high, mean_low, mul_left_comm p 50000 mean, mul_left_comm p 50001 (r + 1)) in
      record {
        low = omega (arith, le_of_mul-le-mul_left under c.some);
        half = omega (arith, mean_some);
        high = le_of_mul-le-mul_left over c.some;
      }

-- the guess is close to the root
pub close_guess : (n : ℕ) → 0 < n → n < 2 ^ 64 → Close (root n) 50000 (guess n)
unfolding guess
close_guess n pos fits =
    let h = within_piece n pos fits in
    mean_close n (scale n) (piece n) (middle_root (piece n)) (reciprocal (piece n)) (scaled n pos fits) h (tangent_of (piece n) h.least h.most)

-- its terms and their sum fit 64 bits
pub guess_fits : (n : ℕ) → 0 < n → n < 2 ^ 64
    → (middle_root (piece n) * scale n < 2 ^ 64) × (reciprocal (piece n) * (n / scale n) < 2 ^ 64)
    × (middle_root (piece n) * scale n + reciprocal (piece n) * (n / scale n) < 2 ^ 64)
guess_fits n pos fits =
    let c = scaled n pos fits in
    let h = within_piece n pos fits in
    let t = tangent_of (piece n) h.least h.most in
    let p : ℕ = scale n in
    let q : ℕ = n / p in
    let share : q < 4 * p = (div-lt_iff_lt-mul c.some).1 (omega (arith, c.high, mul_assoc 4 p p)) in
    let left : middle_root (piece n) * p ≤ 2 ^ 25 * p = mul-le-mul_right p (omega (arith, t.most)) in
    let right : reciprocal (piece n) * q ≤ 2 ^ 24 * q = mul-le-mul_right q t.small in
    (omega (arith, c.small), omega (arith, c.small), omega (arith, c.small))

-- 0 and 1 are their own guesses, by the roots of their pieces' middles
root_of_0 : root (middle 0) ≡ 1482910
root_of_0 = sym (root_only (middle 0) 1482910 (record { low = omega arith; high = omega arith }))

root_of_1 : root (middle 64) ≡ 16842624
root_of_1 = sym (root_only (middle 64) 16842624 (record { low = omega arith; high = omega arith }))

pub guess_own : (n : ℕ) → n < 2 → guess n ≡ n
unfolding guess scale piece middle_root reciprocal ceiling count_leading_zeros
guess_own zero small = rw root_of_0 refl
guess_own (suc zero) small = rw root_of_1 refl
guess_own (suc (suc n)) small = absurd (omega arith)

-- ---- the table

-- an entry of the table for piece i: a is the root of the middle, b its reciprocal
abbrev entry_held : ℕ → ℕ → ℕ → Bool
entry_held i a b = leb (a * a) (middle i) && (ltb (middle i) ((a + 1) * (a + 1)) && eqb (ceiling (2 ^ 48) a) b)

-- the entries of n pieces from i on
abbrev pub held : ℕ → ℕ → List (ℕ × ℕ) → Bool
held zero i [] = true
held zero i (e ∷ es) = false
held (suc n) i [] = false
held (suc n) i (e ∷ es) = entry_held i e.0 e.1 && held n (suc i) es

entry_is : (i : ℕ) (e : ℕ × ℕ) → entry_held i e.0 e.1 ≡ true → e ≡ tangent i
unfolding middle_root reciprocal
entry_is i (a, b) t =
    let n : ℕ = middle i in
    let w = both (leb (a * a) n) (ltb n ((a + 1) * (a + 1)) && eqb (ceiling (2 ^ 48) a) b) t in
    let v = both (ltb n ((a + 1) * (a + 1))) (eqb (ceiling (2 ^ 48) a) b) w.1 in
    let is : a ≡ root n = root_only n a (record { low = leb-true (a * a) n w.0; high = ltb-true n ((a + 1) * (a + 1)) v.0 }) in
    rw (← eqb-true (ceiling (2 ^ 48) a) b v.1, ← is) refl

-- a table that is so held is that of the tangents
pub table_held : (n i : ℕ) (es : List (ℕ × ℕ)) → held n i es ≡ true → es ≡ table tangent n i
unfolding table
table_held zero i [] t = refl
table_held zero i (e ∷ es) t = absurd (true_not_false (sym t))
table_held (suc n) i [] t = absurd (true_not_false (sym t))
table_held (suc n) i (e ∷ es) t =
    let w = both (entry_held i e.0 e.1) (held n (suc i) es) t in
    ap (λ (x : ℕ × ℕ). x ∷ es) (entry_is i e w.0) ∙ ap (λ (xs : List (ℕ × ℕ)). tangent i ∷ xs) (table_held n (suc i) es w.1)

-- ---- what the code counts, shifts and reads

-- half of n has one leading zero more
pub half_zeros : (n : ℕ) → 0 < n → n < 2 ^ 64 → count_leading_zeros 64 (n / 2) ≡ count_leading_zeros 64 n + 1
unfolding count_leading_zeros
half_zeros zero pos fits = absurd (omega arith)
half_zeros (suc n) pos fits =
    let h : ℕ = suc n / 2 in
    let s = leading_length 63 h (omega arith) in
    sym (leading_unique 64 h (count_leading_zeros 63 h + 1) s.0 (omega (arith, s.1)) s.2 s.3)

module _ (n : ℕ) (pos : 0 < n) (fits : n < 2 ^ 64) where
  -- n without its pairs of leading zeros: its first eight bits are the piece
  pub piece_shifted : n * 2 ^ (2 * zero_pairs n) % 2 ^ 64 / 2 ^ 56 ≡ piece n
  unfolding scale
  piece_shifted =
      let t = leading_top 64 n pos fits in
      let c = scaled n pos fits in
      let h = within_piece n pos fits in
      let k : ℕ = 2 * zero_pairs n in
      let g : ℕ = 31 - zero_pairs n in
      let i : ℕ = piece n in
      let m : ℕ = n * 2 ^ k in
      let whole : 2 ^ k * (2 ^ g * 2 ^ g) ≡ 2 ^ 62 =
      ap (λ (x : ℕ). 2 ^ k * x) (sym (pow-add 2 g g)) ∙ (sym (pow-add 2 k (g + g)) ∙ ap (λ (x : ℕ). 2 ^ x) {x = k + (g + g)} {y = 62} (omega (arith, t.1))) in
      let low : 2 ^ k * (i * (2 ^ g * 2 ^ g)) ≤ 2 ^ k * (64 * n) = mul-le-mul_left (2 ^ k) h.low in
      let high : 2 ^ k * (64 * n + 1) ≤ 2 ^ k * ((i + 1) * (2 ^ g * 2 ^ g)) = mul-le-mul_left (2 ^ k) (omega (arith, h.high)) in
      let some : 0 < 2 ^ k = pow_pos k in
      let under : m < 2 ^ 64 =
      omega (arith, high, some, whole, h.most, mul-add (2 ^ k) (64 * n) 1, mul_left_comm (2 ^ k) 64 n, mul_comm (2 ^ k) n, mul_left_comm (2 ^ k) (i + 1) (2 ^ g * 2 ^ g), ap (λ (x : ℕ). (i + 1) * x) whole) in
      ap (λ (x : ℕ). x / 2 ^ 56) (mod-eq_of_lt under)
      ∙ quotient_is m (2 ^ 56) i
      (omega (arith, low, mul_left_comm (2 ^ k) i (2 ^ g * 2 ^ g), ap (λ (x : ℕ). i * x) whole, mul_left_comm (2 ^ k) 64 n, mul_comm (2 ^ k) n))
      (omega (arith, high, some, mul-add (2 ^ k) (64 * n) 1, mul_left_comm (2 ^ k) (i + 1) (2 ^ g * 2 ^ g), ap (λ (x : ℕ). (i + 1) * x) whole, mul_left_comm (2 ^ k) 64 n, mul_comm (2 ^ k) n))

  -- which has its entry of the table
  pub piece_entry : (entries : List (ℕ × ℕ)) (z : ℕ) (d : ℕ × ℕ) → entries ≡ tangents → z ≡ zero_pairs n
      → get_or entries (n * 2 ^ (2 * z) % 2 ^ 64 / 2 ^ 56 - 64) d ≡ tangent (piece n)
  piece_entry entries z d is so =
      let h = within_piece n pos fits in
      rw (is, so, piece_shifted)
      (table_at tangent 192 64 (piece n - 64) d (omega (arith, h.least, h.most)) ∙ ap tangent {y = piece n} (omega (arith, h.least)))

  -- the middle's root, shifted, is p times it
  pub root_shifted : middle_root (piece n) * 2 ^ (31 - zero_pairs n) % 2 ^ 64 ≡ middle_root (piece n) * scale n
  unfolding scale
  root_shifted = mod-eq_of_lt (guess_fits n pos fits).0
