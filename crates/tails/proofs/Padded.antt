-- Laws of a list with zeros behind it, and of one entry put among the first.
-- Assumes nothing.
use Prim.Native.Nat.{ℕ, zero, suc, ◌+◌, ◌-◌, ◌≤◌, ◌<◌}
use mathlib.Core.List.{List, [], ◌∷◌, ◌++◌, map}
use mathlib.Core.Logic.{⊎_elim}
use mathlib.Core.Path.{◌≡◌, refl, sym, ap, ◌∙◌, subst}
use native.Mathlib.Nat.{not-suc-le-zero, eq-or-lt_of_le}
use native.Mathlib.Omega.{arith}
use borrow.Author.Tests.{ltb-true, ltb-false}
use lib.Dec.{ltb}
use lib.ListN.{length, take, drop, get_or, replicate, length-append, length-replicate, get_or-append, get_or-eq_default}
use lib.Seq.{take_all, take-append-le, drop-append-add, drop_at, length-take-le}
use Rattle.numbers.proofs.Items.{by_test}
use Rattle.tails.specs.InnerContracts.{padded, put}
use Rattle.tails.proofs.Floors.{get_d_past}

-- ---- zeros behind a list

module _ (size : ℕ) (s : List ℕ) where
  pub padded-length : length s ≤ size → length (padded size s) ≡ size
  unfolding padded
  padded-length fits = length-append s (replicate (size - length s) 0) ∙ (ap (λ (n : ℕ). length s + n) (length-replicate (size - length s) 0) ∙ omega arith)

  -- an entry of the list
  pub padded_at : (q : ℕ) → q < length s → get_or (padded size s) q 0 ≡ get_or s q 0
  unfolding padded
  padded_at q low = get_or-append s (replicate (size - length s) 0) 0 q low

pub padded_past : (size : ℕ) (s : List ℕ) (q : ℕ) → length s ≤ q → get_or (padded size s) q 0 ≡ 0
unfolding padded
padded_past size s q past = get_d_past s (replicate (size - length s) 0) q past ∙ zeros (size - length s) (q - length s)
  where
    zeros : (n q : ℕ) → get_or {A = ℕ} (replicate n 0) q 0 ≡ 0
    zeros zero q = refl
    zeros (suc n) zero = refl
    zeros (suc n) (suc q) = zeros n q

-- an entry, wherever it stands
pub padded_read : (size : ℕ) (s : List ℕ) (q : ℕ) → get_or (padded size s) q 0 ≡ get_or s q 0
padded_read size s q =
    by_test (ltb q (length s))
    (λ t. padded_at size s q (ltb-true q (length s) t))
    (λ t. let past : length s ≤ q = ltb-false q (length s) t in padded_past size s q past ∙ sym (get_or-eq_default s 0 past))

drop_one : (n : ℕ) → drop 1 (replicate {A = ℕ} n 0) ≡ replicate (n - 1) 0
drop_one zero = refl
drop_one (suc n) = let less : n ≡ suc n - 1 = omega arith in ap (λ (a : ℕ). replicate a 0) less

-- one entry in front
padded_cons : (size a : ℕ) (s : List ℕ) → padded (suc size) (a ∷ s) ≡ a ∷ padded size s
unfolding padded
padded_cons size a s =
    let less : suc size - suc (length s) ≡ size - length s = omega arith in
    ap (λ (n : ℕ). a ∷ (s ++ replicate n 0)) less

-- what stands past the list and perhaps its last entry
padded_rest : (size at : ℕ) (s : List ℕ) → at ≤ length s → length s ≤ suc at → drop (suc at) (padded size s) ≡ replicate (size - suc at) 0
unfolding padded
padded_rest size at s room near =
    ⊎_elim
    (λ (whole : length s ≡ suc at). drop_at s (replicate (size - length s) 0) (suc at) whole ∙ ap (λ (n : ℕ). replicate (size - n) 0) whole)
    (λ (less : length s < suc at).
    let one : length s + 1 ≡ suc at = omega arith in
    let left : size - length s - 1 ≡ size - suc at = omega arith in
    subst (λ (n : ℕ). drop n (s ++ replicate (size - length s) 0) ≡ replicate (size - suc at) 0) one
    (drop-append-add s (replicate (size - length s) 0) 1 ∙ (drop_one (size - length s) ∙ ap (λ (n : ℕ). replicate n 0) left)))
    (eq-or-lt_of_le near)

-- an entry put in front
put_front : (size at x : ℕ) (s : List ℕ) → at ≤ length s → length s ≤ suc at → x ∷ (take at (padded size s) ++ drop (suc at) (padded size s)) ≡ padded size (x ∷ take at s)
unfolding padded
put_front size at x s room near =
    let front : take at (s ++ replicate (size - length s) 0) ≡ take at s = take-append-le at s (replicate (size - length s) 0) room in
    let rest : drop (suc at) (s ++ replicate (size - length s) 0) ≡ replicate (size - suc at) 0 = padded_rest size at s room near in
    let count : length (take at s) ≡ at = length-take-le at s room in
    rw (front, rest, count)

-- an entry put among the first
pub put_padded : (size p at x : ℕ) (s : List ℕ) → p ≤ at → at ≤ length s → length s ≤ suc at → suc at ≤ size
    → put p at x (padded size s) ≡ padded size (take (suc at) (take p s ++ (x ∷ drop p s)))
unfolding put
put_padded size zero at x s low room near fits = put_front size at x s room near
put_padded size (suc p) zero x s low room near fits = absurd (not-suc-le-zero low)
put_padded size (suc p) (suc at) x [] low room near fits = absurd (not-suc-le-zero room)
put_padded zero (suc p) (suc at) x (a ∷ s) low room near fits = absurd (not-suc-le-zero fits)
put_padded (suc size) (suc p) (suc at) x (a ∷ s) low room near fits =
    rw (padded_cons size a s)
    (ap (λ (l : List ℕ). a ∷ l) (put_padded size p at x s (omega arith) (omega arith) (omega arith) (omega arith))
    ∙ sym (padded_cons size a (take (suc at) (take p s ++ (x ∷ drop p s)))))

-- ---- one entry more

pub map_take : (f : ℕ → ℕ) (n : ℕ) (s : List ℕ) → map f (take n s) ≡ take n (map f s)
map_take f zero s = refl
map_take f (suc n) [] = refl
map_take f (suc n) (a ∷ s) = ap (λ (l : List ℕ). f a ∷ l) (map_take f n s)

pub map_put : (f : ℕ → ℕ) (p i : ℕ) (s : List ℕ) → map f (take p s ++ (i ∷ drop p s)) ≡ take p (map f s) ++ (f i ∷ drop p (map f s))
map_put f zero i s = refl
map_put f (suc p) i [] = refl
map_put f (suc p) i (a ∷ s) = ap (λ (l : List ℕ). f a ∷ l) (map_put f p i s)

pub get_d_map : (f : ℕ → ℕ) (s : List ℕ) (q : ℕ) → q < length s → get_or (map f s) q 0 ≡ f (get_or s q 0)
get_d_map f [] q low = absurd (not-suc-le-zero low)
get_d_map f (a ∷ s) zero low = refl
get_d_map f (a ∷ s) (suc q) low = get_d_map f s q (omega arith)

pub one_longer : (p i : ℕ) (s : List ℕ) → length (take p s ++ (i ∷ drop p s)) ≡ suc (length s)
one_longer zero i s = refl
one_longer (suc p) i [] = refl
one_longer (suc p) i (a ∷ s) = ap suc (one_longer p i s)

-- the same entries, up to one place or another, where the list ends before both
pub take_both : (a b : ℕ) (s : List ℕ) → length s ≤ a → length s ≤ b → take a s ≡ take b s
take_both a b s one two = take_all a s one ∙ sym (take_all b s two)
