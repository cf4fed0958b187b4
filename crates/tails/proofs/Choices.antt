-- Choices of scenarios: the first ones of a choice, a choice without the newest scenario, and the list, which is one.
-- Assumes nothing.
use Rattle.std.specs.Prelude.{if◌then◌else◌}
use Prim.Native.Nat.{ℕ, suc, ◌+◌, ◌<◌, min}
use mathlib.Core.List.{List, [], ◌∷◌}
use mathlib.Core.Logic.{◌⊎◌, inl, inr, ⊎_elim}
use mathlib.Core.Path.{◌≡◌, refl, sym, ap, ◌∙◌}
use native.Mathlib.Omega.{arith}
use borrow.Author.Tests.{eqb-true, eqb-false}
use lib.Dec.{eqb}
use lib.ListN.{length, take, get_or, length-take}
use lib.Seq.{get_or-take}
use Rattle.numbers.proofs.Items.{by_test}
use Rattle.tails.specs.Ranking.{ranked, tail_list, total_over, Choice}
use Rattle.tails.proofs.Ranking.{Each, Pairs, each_none, each_cons, each_first, each_rest, pairs_cons, pairs_first, pairs_rest, ranked-length, ranked_below, ranked_different}

-- the first ones of a choice are a choice
pub choice_take : {n j : ℕ} {s : List ℕ} (k : ℕ) → Choice n j s → Choice n (min k j) (take k s)
choice_take {n} {j} {s} k c =
    record {
      count = length-take k s ∙ ap (min k) c.count;
      different = λ p q less low same.
          let within = inside q low in
          c.different p q less within.1
          (sym (get_or-take k s p 0 (omega (arith, within.0))) ∙ (same ∙ get_or-take k s q 0 within.0));
      below = λ p low. let within = inside p low in rw (get_or-take k s p 0 within.0) (c.below p within.1);
    }
  where
    inside : (p : ℕ) → p < length (take k s) → (p < k) × (p < length s)
    inside p low = omega (arith, length-take k s)

-- ---- without the newest scenario

-- the scenarios of a list without the first i among them
pub others : ℕ → List ℕ → List ℕ
others i [] = []
others i (j ∷ s) = if eqb j i then s else j ∷ others i s

module _ (i : ℕ) where
  others_cases : (P : List ℕ → Type 0) (j : ℕ) (s : List ℕ) → (j ≡ i → P s) → ((j ≡ i → ⊥) → P (j ∷ others i s)) → P (others i (j ∷ s))
  unfolding others
  others_cases P j s is other = by_test (eqb j i) (λ t. rw t (is (eqb-true j i t))) (λ t. rw t (other (eqb-false j i t)))

  others_none : others i [] ≡ []
  unfolding others
  others_none = refl

  others_each : (P : ℕ → Type 0) (s : List ℕ) → Each P s → Each P (others i s)
  others_each P [] each = rw others_none each
  others_each P (j ∷ s) each =
      others_cases (Each P) j s
      (λ is. each_rest P j s each)
      (λ other. each_cons P j (others i s) (each_first P j s each) (others_each P s (each_rest P j s each)))

  others_pairs : (R : ℕ → ℕ → Type 0) (s : List ℕ) → Pairs R s → Pairs R (others i s)
  others_pairs R [] pairs = rw others_none pairs
  others_pairs R (j ∷ s) pairs =
      others_cases (Pairs R) j s
      (λ is. pairs_rest R j s pairs)
      (λ other. pairs_cons R j (others i s) (others_each (R j) s (pairs_first R j s pairs)) (others_pairs R s (pairs_rest R j s pairs)))

  -- different scenarios below i + 1 are below i without i
  others_below : (s : List ℕ) → Pairs (λ j h. j ≡ h → ⊥) s → Each (λ j. j < suc i) s → Each (λ j. j < i) (others i s)
  others_below [] different below = rw others_none (each_none (λ j. j < i))
  others_below (j ∷ s) different below =
      others_cases (Each (λ h. h < i)) j s
      (λ is p low.
      let apart : j ≡ get_or s p 0 → ⊥ = pairs_first (λ j h. j ≡ h → ⊥) j s different p low in
      let under : get_or s p 0 < suc i = each_rest (λ h. h < suc i) j s below p low in
      omega arith)
      (λ other. each_cons (λ h. h < i) j (others i s)
      (let under : j < suc i = each_first (λ h. h < suc i) j s below in omega arith)
      (others_below s (pairs_rest (λ j h. j ≡ h → ⊥) j s different) (each_rest (λ h. h < suc i) j s below)))

  -- a choice below i + 1 is without i a choice below i
  pub others_choice : {k : ℕ} (s : List ℕ) → Choice (suc i) k s → Choice i (length (others i s)) (others i s)
  others_choice s c =
      record {
        count = refl;
        different = others_pairs (λ j h. j ≡ h → ⊥) s c.different;
        below = others_below s c.different c.below;
      }

  -- a list stays as it is without i, or it has i and the others
  pub others_split : (s : List ℕ)
      → (others i s ≡ s) ⊎ ((length s ≡ suc (length (others i s))) × ((f : ℕ → ℕ) → total_over f s ≡ f i + total_over f (others i s)))
  unfolding total_over
  others_split [] = inl others_none
  others_split (j ∷ s) =
      others_cases
      (λ l. (l ≡ j ∷ s) ⊎ ((suc (length s) ≡ suc (length l)) × ((f : ℕ → ℕ) → total_over f (j ∷ s) ≡ f i + total_over f l)))
      j s
      (λ is. inr (refl, λ f. ap (λ (a : ℕ). f a + total_over f s) is))
      (λ other. ⊎_elim
      (λ same. inl (ap (λ (l : List ℕ). j ∷ l) same))
      (λ has. inr (ap suc has.0, λ f. omega (arith, has.1 f)))
      (others_split s))

-- ---- the list

module _ (f : ℕ → ℕ) (n : ℕ) where
  -- the whole ranking is a choice of all scenarios
  ranked_choice : Choice n n (ranked f n)
  ranked_choice =
      record {
        count = ranked-length f n;
        different = λ p q less low. ranked_different f n p q less (rw (ranked-length f n) at low);
        below = λ p low. ranked_below f n p (rw (ranked-length f n) at low);
      }

  -- the list is a choice of k, or of all where there are fewer
  pub list_chosen : (k : ℕ) → Choice n (min k n) (tail_list f n k)
  unfolding tail_list
  list_chosen k = choice_take k ranked_choice
