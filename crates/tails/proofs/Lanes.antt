-- Laws of the lanes' maxima: what a pass over four lanes leaves, and why the least of all is a floor that the list reaches.
-- Assumes nothing.
use Prim.Native.Nat.{ℕ, zero, suc, ◌+◌, ◌-◌, ◌*◌, ◌/◌, ◌%◌, ◌≤◌, ◌<◌, min, max}
use mathlib.Core.List.{List}
use mathlib.Core.Path.{◌≡◌, refl, sym, ap, ◌∙◌}
use mathlib.Core.Logic.{⊎_elim}
use native.Mathlib.Nat.{not-suc-le-zero, eq-or-lt_of_le, le_of_suc-le-suc}
use native.Mathlib.Numerals.{add-one}
use native.Mathlib.Omega.{arith}
use borrow.Author.Tests.{le-leb, leb-false, lt-leb, eqb-true, eqb-false}
use lib.Dec.{eqb, leb}
use lib.ListN.{length, take, drop, get_or, length-take, length-drop}
use lib.Seq.{get_or-take, get_or-drop}
use Rattle.numbers.specs.Items.{sum_of, total}
use Rattle.numbers.proofs.Items.{by_test, naturals, total-le, total_grows, total_split, zero_total, sum_same, sum_both}
use Rattle.tails.specs.InnerContracts.{ranked_from, lane_maximum, least_of_four, least_maximum}
use Rattle.tails.specs.Ranking.{tail_list}
use Rattle.tails.proofs.Floors.{reaches, from_count, from_list, from_zero}

-- ---- the lanes

-- the larger of two reaches a floor only where one of them does
reaches_max : (floor x y : ℕ) → reaches floor (max x y) ≤ reaches floor x + reaches floor y
reaches_max floor x y =
    by_test (leb floor x)
    (λ t. rw t (omega (arith, reaches_one floor (max x y))))
    (λ t. by_test (leb floor y)
    (λ u. rw u (omega (arith, reaches_one floor (max x y))))
    (λ u. rw (lt-leb floor (max x y) (omega (arith, leb-false floor x t, leb-false floor y u))) (omega arith)))
  where
    reaches_one : (floor x : ℕ) → reaches floor x ≤ 1
    reaches_one floor x = by_test (leb floor x) (λ t. rw t (omega arith)) (λ t. rw t (omega arith))

module _ (f : ℕ → ℕ) where
  lane_none : (j : ℕ) → lane_maximum f 0 j ≡ 0
  unfolding lane_maximum
  lane_none j = refl

  lane_suc : (sixteens j : ℕ) → lane_maximum f (suc sixteens) j ≡ max (lane_maximum f sixteens j) (f (16 * sixteens + j))
  unfolding lane_maximum
  lane_suc sixteens j = refl

  -- one loss more of a lane, at place q of the losses
  lane_next : (sixteens j q a x : ℕ) → q ≡ 16 * sixteens + j → a ≡ lane_maximum f sixteens j → x ≡ max a (f q) → x ≡ lane_maximum f (sixteens + 1) j
  lane_next sixteens j q a x at before larger =
      let more : suc sixteens ≡ sixteens + 1 = omega arith in
      larger ∙ (rw (before, at) (sym (lane_suc sixteens j)) ∙ ap (λ (n : ℕ). lane_maximum f n j) more)

  -- losses that agree have the same lanes
  lane_same : (g : ℕ → ℕ) (n sixteens j : ℕ) → ((s : ℕ) → s < n → f s ≡ g s) → 16 * sixteens ≤ n → j < 16 → lane_maximum f sixteens j ≡ lane_maximum g sixteens j
  unfolding lane_maximum
  lane_same g n zero j same fits low = refl
  lane_same g n (suc sixteens) j same fits low =
      rw (lane_same g n sixteens j same (omega arith) low, same (16 * sixteens + j) (omega arith)) refl

  -- at least as many losses reach a floor above 0 as lanes do
  lanes_reach : (floor sixteens : ℕ) → 0 < floor → total (λ j. reaches floor (lane_maximum f sixteens j)) 16 ≤ total (λ i. reaches floor (f i)) (16 * sixteens)
  lanes_reach floor zero some = omega (arith, zero_total (λ j. reaches floor (lane_maximum f 0 j)) 16 (λ j low. rw (lane_none j, lt-leb floor 0 some)))
  lanes_reach floor (suc sixteens) some =
      let whole : 16 * suc sixteens ≡ 16 * sixteens + 16 = omega arith in
      omega (
        arith,
        lanes_reach floor sixteens some,
        ap (total (λ i. reaches floor (f i))) whole,
        total_split (λ i. reaches floor (f i)) (16 * sixteens) 16,
        total-le (λ j. reaches floor (lane_maximum f (suc sixteens) j)) (λ j. reaches floor (lane_maximum f sixteens j) + reaches floor (f (16 * sixteens + j))) 16
            (λ j low. rw (lane_suc sixteens j) (reaches_max floor (lane_maximum f sixteens j) (f (16 * sixteens + j)))),
        sum_both ◌+◌ 0 naturals (λ j. reaches floor (lane_maximum f sixteens j)) (λ j. reaches floor (f (16 * sixteens + j))) 16,
      )

-- ---- the least of the maxima

module _ (f : ℕ → ℕ) (sixteens : ℕ) where
  least_none : least_maximum f sixteens 0 ≡ 18446744073709551615
  unfolding least_maximum
  least_none = refl

  least-suc : (j : ℕ) → least_maximum f sixteens (j + 1) ≡ min (least_maximum f sixteens j) (lane_maximum f sixteens j)
  unfolding least_maximum
  least-suc j = rw (add-one j)

  -- every lane reaches it
  least_reached : (n j : ℕ) → j < n → least_maximum f sixteens n ≤ lane_maximum f sixteens j
  unfolding least_maximum
  least_reached zero j low = absurd (not-suc-le-zero low)
  least_reached (suc n) j low =
      ⊎_elim
      (λ (same : j ≡ n). omega (arith, ap (lane_maximum f sixteens) same))
      (λ (past : j < n). omega (arith, least_reached n j past))
      (eq-or-lt_of_le (le_of_suc-le-suc low))

-- losses that agree have the same least one
least_same : (f g : ℕ → ℕ) (m sixteens n : ℕ) → ((s : ℕ) → s < m → f s ≡ g s) → 16 * sixteens ≤ m → n ≤ 16 → least_maximum f sixteens n ≡ least_maximum g sixteens n
unfolding least_maximum
least_same f g m sixteens zero same fits few = refl
least_same f g m sixteens (suc n) same fits few =
    rw (least_same f g m sixteens n same fits (omega arith), lane_same f g m sixteens n same fits (omega arith)) refl

-- the least of the maxima of the lanes that begin at loss `start` is a floor that sixteen losses reach, or 0: those that reach it
-- hold the list
module _ (f : ℕ → ℕ) (n k start sixteens : ℕ) (fits : start + 16 * sixteens ≤ n) (most : k ≤ 16) where
  lane_enough : (floor : ℕ) → 0 < floor → floor ≡ least_maximum (λ i. f (start + i)) sixteens 16 → k ≤ length (ranked_from f floor n)
  unfolding sum_of
  lane_enough floor above is =
      let ones : total (λ j. 1) 16 ≡ 16 = refl in
      let all : total (λ j. reaches floor (lane_maximum (λ i. f (start + i)) sixteens j)) 16 ≡ total (λ j. 1) 16 =
      sum_same ◌+◌ 0 (λ j. reaches floor (lane_maximum (λ i. f (start + i)) sixteens j)) (λ j. 1) 16
      (λ j low. rw (le-leb floor (lane_maximum (λ i. f (start + i)) sixteens j) (omega (arith, is, least_reached (λ i. f (start + i)) sixteens 16 j low)))) in
      omega (
        arith,
        all,
        ones,
        lanes_reach (λ i. f (start + i)) floor sixteens above,
        total_split (λ i. reaches floor (f i)) start (16 * sixteens),
        total_grows (λ i. reaches floor (f i)) (start + 16 * sixteens) n fits,
        from_count f floor n,
      )

  pub lane_list : (floor : ℕ) → floor ≡ least_maximum (λ i. f (start + i)) sixteens 16 → take k (ranked_from f floor n) ≡ tail_list f n k
  unfolding tail_list
  lane_list floor is =
      by_test (eqb floor 0)
      (λ t. let zeroth : floor ≡ 0 = eqb-true floor 0 t in rw (zeroth, from_zero f n))
      (λ t. sym (from_list f floor n k (lane_enough floor (above floor (eqb-false floor 0 t)) is)))
    where
      above : (x : ℕ) → (x ≡ 0 → ⊥) → 0 < x
      above zero h = absurd (h refl)
      above (suc x) h = omega arith

-- ---- four lanes at a time

-- the maxima of lanes j to j + 3
pub record AreMaxima (f : ℕ → ℕ) (sixteens j a b c d : ℕ) : Type 0 where
  pub first : a ≡ lane_maximum f sixteens j
  pub second : b ≡ lane_maximum f sixteens (j + 1)
  pub third : c ≡ lane_maximum f sixteens (j + 2)
  pub fourth : d ≡ lane_maximum f sixteens (j + 3)

module _ (f : ℕ → ℕ) (j : ℕ) where
  pub maxima_none : AreMaxima f 0 j 0 0 0 0
  maxima_none = record { first = sym (lane_none f j); second = sym (lane_none f (j + 1)); third = sym (lane_none f (j + 2)); fourth = sym (lane_none f (j + 3)) }

  module _ (sixteens a b c d : ℕ) (are : AreMaxima f sixteens j a b c d) where
    -- four losses more
    pub maxima_next : (a' b' c' d' : ℕ) → a' ≡ max a (f (16 * sixteens + j)) → b' ≡ max b (f (16 * sixteens + j + 1))
        → c' ≡ max c (f (16 * sixteens + j + 2)) → d' ≡ max d (f (16 * sixteens + j + 3)) → AreMaxima f (sixteens + 1) j a' b' c' d'
    maxima_next a' b' c' d' one two three four = record {
      first = lane_next f sixteens j (16 * sixteens + j) a a' (omega arith) are.first one;
      second = lane_next f sixteens (j + 1) (16 * sixteens + j + 1) b b' (omega arith) are.second two;
      third = lane_next f sixteens (j + 2) (16 * sixteens + j + 2) c c' (omega arith) are.third three;
      fourth = lane_next f sixteens (j + 3) (16 * sixteens + j + 3) d d' (omega arith) are.fourth four;
    }

    -- the least of the four
    pub maxima_least : (x y z : ℕ) → x ≡ min a b → y ≡ min c d → z ≡ min x y → z ≡ least_of_four f sixteens j
    maxima_least x y z one two three = omega (arith, are.first, are.second, are.third, are.fourth)

min_assoc : (a b c : ℕ) → min (min a b) c ≡ min a (min b c)
min_assoc a b c = omega arith

-- four numbers more, two by two or one by one
least_four : (m a b c d : ℕ) → min m (min (min a b) (min c d)) ≡ min (min (min (min m a) b) c) d
least_four m a b c d =
    sym (min_assoc m (min a b) (min c d))
    ∙ (sym (min_assoc (min m (min a b)) c d) ∙ ap (λ (x : ℕ). min (min x c) d) (sym (min_assoc m a b)))

module _ (f : ℕ → ℕ) (sixteens : ℕ) where
  pub least_start : 18446744073709551615 ≡ least_maximum f sixteens 0
  least_start = sym (least_none f sixteens)

  -- four lanes more
  pub least_next : (j least x y : ℕ) → least ≡ least_maximum f sixteens j → x ≡ least_of_four f sixteens j → y ≡ min least x
      → y ≡ least_maximum f sixteens (j + 4)
  least_next j least x y so four smaller = smaller ∙ (rw (so, four) joined ∙ sym (next (j + 3) (j + 4) (omega arith) ∙ third))
    where
      next : (i q : ℕ) → i + 1 ≡ q → least_maximum f sixteens q ≡ min (least_maximum f sixteens i) (lane_maximum f sixteens i)
      next i q at = ap (least_maximum f sixteens) (sym at) ∙ least-suc f sixteens i

      first : least_maximum f sixteens (j + 1) ≡ min (least_maximum f sixteens j) (lane_maximum f sixteens j)
      first = least-suc f sixteens j

      second : least_maximum f sixteens (j + 2) ≡ min (min (least_maximum f sixteens j) (lane_maximum f sixteens j)) (lane_maximum f sixteens (j + 1))
      second = next (j + 1) (j + 2) (omega arith) ∙ ap (λ (m : ℕ). min m (lane_maximum f sixteens (j + 1))) first

      third : min (least_maximum f sixteens (j + 3)) (lane_maximum f sixteens (j + 3))
          ≡ min (min (min (min (least_maximum f sixteens j) (lane_maximum f sixteens j)) (lane_maximum f sixteens (j + 1))) (lane_maximum f sixteens (j + 2))) (lane_maximum f sixteens (j + 3))
      third = ap (λ (m : ℕ). min m (lane_maximum f sixteens (j + 3))) (next (j + 2) (j + 3) (omega arith) ∙ ap (λ (m : ℕ). min m (lane_maximum f sixteens (j + 2))) second)

      joined : min (least_maximum f sixteens j) (least_of_four f sixteens j)
          ≡ min (min (min (min (least_maximum f sixteens j) (lane_maximum f sixteens j)) (lane_maximum f sixteens (j + 1))) (lane_maximum f sixteens (j + 2))) (lane_maximum f sixteens (j + 3))
      joined = least_four (least_maximum f sixteens j) (lane_maximum f sixteens j) (lane_maximum f sixteens (j + 1)) (lane_maximum f sixteens (j + 2)) (lane_maximum f sixteens (j + 3))

-- ---- the floor of the pass

-- the lanes of the last whole sixteens of losses, which are lent as `&losses[start..]`
module _ (losses part : List ℕ) (lent : part ≡ take (length losses - length losses % 16) (drop (length losses % 16) losses)) where
  part_size_lem : length part ≡ length losses - length losses % 16
  part_size_lem = ap length lent ∙ (length-take (length losses - length losses % 16) (drop (length losses % 16) losses) ∙ (let size = length-drop (length losses % 16) losses in omega (arith, size)))

  part_at : (s : ℕ) → s < length part → get_or part s 0 ≡ get_or losses (length losses % 16 + s) 0
  part_at s low =
      ap (λ (l : List ℕ). get_or l s 0) lent
      ∙ (get_or-take (length losses - length losses % 16) (drop (length losses % 16) losses) s 0 (omega (arith, part_size_lem)) ∙ get_or-drop (length losses % 16) losses s 0)

  -- the losses that reach the least of their maxima hold the list
  pub lanes_list : (k floor : ℕ) → k ≤ 16 → floor ≡ least_maximum (λ s. get_or part s 0) (length part / 16) 16
      → take k (ranked_from (λ s. get_or losses s 0) floor (length losses)) ≡ tail_list (λ s. get_or losses s 0) (length losses) k
  lanes_list k floor most is =
      lane_list (λ s. get_or losses s 0) (length losses) k (length losses % 16) (length part / 16) (omega (arith, part_size_lem)) most floor
      (is ∙ least_same (λ s. get_or part s 0) (λ s. get_or losses (length losses % 16 + s) 0) (length part) (length part / 16) 16 part_at (omega arith) (omega arith))
