-- A pass that reads numbers, tests each and stores it.
-- Assumes nothing.
use Prim.Native.Nat.{ℕ, ◌+◌, ◌≤◌, ◌<◌}
use mathlib.Core.Bool.{true, false}
use mathlib.Core.List.{List}
use mathlib.Core.Path.{◌≡◌, ◌∙◌}
use native.Mathlib.Omega.{arith}
use borrow.Author.Tests.{le-leb, lt-leb, eqb-true, eqb-false}
use lib.Dec.{eqb}
use lib.ListN.{length, set, get_or, take}
use lib.Seq.{get_or-take, length-take-le, get_or-set_same, get_or-set_other}
use Rattle.numbers.specs.Items.{every}
use Rattle.numbers.proofs.Items.{by_test, every_none, every_next, every_bad}
use Rattle.cases.specs.InnerContracts.{Numbers, good_number}

module _ {A : Type 0} (size : A → ℕ) (f : ℕ → A) where
  -- the first i numbers are in their bound, and they are stored
  pub record Reading (i : ℕ) (held : List A) : Type 0 where
    pub good : every (good_number size f) i ≡ true
    pub are : (j : ℕ) (d : A) → j < i → get_or held j d ≡ f j

  -- nothing is stored
  pub reading_none : (held : List A) → Reading 0 held
  reading_none held = record { good = every_none (good_number size f); are = λ j d low. absurd (omega arith) }

  module _ (i : ℕ) (x : A) (is : x ≡ f i) where
    -- one more
    pub reading_next : (held : List A) → Reading i held → i < length held → size x ≤ 100000000000000000 → Reading (i + 1) (set held i x)
    reading_next held reading low small =
        record {
          good = every_next (good_number size f) i reading.good (rw (← is) (le-leb (size x) 100000000000000000 small));
          are = λ j d below. by_place j d below;
        }
      where
        by_place : (j : ℕ) (d : A) → j < i + 1 → get_or (set held i x) j d ≡ f j
        by_place j d below =
            by_test (eqb j i)
            (λ t. rw (eqb-true j i t) (get_or-set_same held i x d low ∙ is))
            (λ f. get_or-set_other held i j x d (eqb-false j i f) ∙ reading.are j d (omega (arith, eqb-false j i f)))

    -- it is out of its bound
    pub reading_bad : (n : ℕ) → i < n → 100000000000000000 < size x → every (good_number size f) n ≡ false
    reading_bad n low large = every_bad (good_number size f) n i low (rw (← is) (lt-leb (size x) 100000000000000000 large))

  -- all are stored
  pub reading_end : (n : ℕ) (held : List A) → Reading n held → n ≤ length held → Numbers size f n (take n held)
  reading_end n held reading fits =
      record {
        count = length-take-le n held fits;
        are = λ j d low. get_or-take n held j d low ∙ reading.are j d low;
        good = reading.good;
      }
