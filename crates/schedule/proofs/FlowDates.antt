-- Laws of the dates with a flow: which numbers a test holds of, from the highest down.
-- Assumes nothing.
use Prim.Native.Nat.{ℕ, zero, suc, ◌+◌, ◌-◌, ◌≤◌, ◌<◌}
use mathlib.Core.Bool.{Bool, true, false, ◌&&◌}
use mathlib.Core.List.{List, [], ◌∷◌}
use mathlib.Core.Path.{◌≡◌, refl, sym, ap, ◌∙◌}
use native.Mathlib.Nat.{le_of_suc-le-suc, not-suc-le-zero, lt-suc_self}
use native.Mathlib.Omega.{arith}
use borrow.Author.Tests.{ltb-true, ltb-false}
use lib.Dec.{ltb}
use lib.ListN.{length, get_or}
use Rattle.numbers.proofs.Items.{by_test}
use Rattle.schedule.specs.Flows.{falling, flow_dates}
use Rattle.schedule.specs.InnerContracts.{countdown}

module _ (test : ℕ → Bool) where
  -- ---- one number more

  pub falling_takes : (n : ℕ) → test n ≡ true → falling test (suc n) ≡ n ∷ falling test n
  unfolding falling
  falling_takes n t = rw t refl

  pub falling_skips : (n : ℕ) → test n ≡ false → falling test (suc n) ≡ falling test n
  unfolding falling
  falling_skips n f = rw f refl

  pub falling_none : falling test 0 ≡ []
  unfolding falling
  falling_none = refl

  -- ---- what the list has

  -- the numbers of a list are below n, and the test holds of each
  Holds : ℕ → List ℕ → Type 0
  Holds n xs = (r : ℕ) → r < length xs → (test (get_or xs r 0) ≡ true) × (get_or xs r 0 < n)

  holds_nothing : (n : ℕ) → Holds n []
  unfolding Holds
  holds_nothing n r low = absurd (not-suc-le-zero low)

  holds_more : (n : ℕ) (xs : List ℕ) → Holds n xs → test n ≡ true → Holds (suc n) (n ∷ xs)
  unfolding Holds
  holds_more n xs h t zero low = (t, lt-suc_self n)
  holds_more n xs h t (suc r) low = let w = h r (le_of_suc-le-suc low) in (w.0, omega (arith, w.1))

  holds_on : (n : ℕ) (xs : List ℕ) → Holds n xs → Holds (suc n) xs
  unfolding Holds
  holds_on n xs h r low = let w = h r low in (w.0, omega (arith, w.1))

  all_hold : (n : ℕ) → Holds n (falling test n)
  all_hold zero = rw falling_none (holds_nothing 0)
  all_hold (suc n) =
      by_test (test n)
      (λ t. rw (falling_takes n t) (holds_more n (falling test n) (all_hold n) t))
      (λ f. rw (falling_skips n f) (holds_on n (falling test n) (all_hold n)))

  -- the test holds of each number of the list
  pub falling_holds : (n r : ℕ) → r < length (falling test n) → (test (get_or (falling test n) r 0) ≡ true) × (get_or (falling test n) r 0 < n)
  unfolding Holds
  falling_holds n = all_hold n

  -- the numbers of a list fall
  Falls : List ℕ → Type 0
  Falls xs = (r s : ℕ) → r < s → s < length xs → get_or xs s 0 < get_or xs r 0

  falls_nothing : Falls []
  unfolding Falls
  falls_nothing r s low high = absurd (not-suc-le-zero high)

  falls_more : (n : ℕ) (xs : List ℕ) → Holds n xs → Falls xs → Falls (n ∷ xs)
  unfolding Falls Holds
  falls_more n xs h f r zero low high = absurd (not-suc-le-zero low)
  falls_more n xs h f zero (suc s) low high = (h s (le_of_suc-le-suc high)).1
  falls_more n xs h f (suc r) (suc s) low high = f r s (le_of_suc-le-suc low) (le_of_suc-le-suc high)

  all_fall : (n : ℕ) → Falls (falling test n)
  all_fall zero = rw falling_none falls_nothing
  all_fall (suc n) =
      by_test (test n)
      (λ t. rw (falling_takes n t) (falls_more n (falling test n) (all_hold n) (all_fall n)))
      (λ f. rw (falling_skips n f) (all_fall n))

  -- they fall
  pub falling_falls : (n r s : ℕ) → r < s → s < length (falling test n) → get_or (falling test n) s 0 < get_or (falling test n) r 0
  unfolding Falls
  falling_falls n = all_fall n

  -- a list has the number j
  Has : ℕ → List ℕ → Type 0
  Has j xs = (r : ℕ) × (r < length xs) × (get_or xs r 0 ≡ j)

  has_more : (j n : ℕ) (xs : List ℕ) → Has j xs → Has j (n ∷ xs)
  unfolding Has
  has_more j n xs h = (suc h.0, omega (arith, h.1), h.2)

  has_first : (j n : ℕ) (xs : List ℕ) → n ≡ j → Has j (n ∷ xs)
  unfolding Has
  has_first j n xs is = (0, omega arith, is)

  all_has : (n j : ℕ) → j < n → test j ≡ true → Has j (falling test n)
  all_has zero j low t = absurd (not-suc-le-zero low)
  all_has (suc n) j low t =
      by_test (ltb j n)
      (λ below. by_test (test n)
      (λ u. rw (falling_takes n u) (has_more j n (falling test n) (all_has n j (ltb-true j n below) t)))
      (λ u. rw (falling_skips n u) (all_has n j (ltb-true j n below) t)))
      (λ past.
      let last : n ≡ j = omega (arith, ltb-false j n past) in
      rw (falling_takes n (ap test last ∙ t)) (has_first j n (falling test n) last))

  -- it has each number below n that the test holds of
  pub falling_has : (n j : ℕ) → j < n → test j ≡ true → (r : ℕ) × (r < length (falling test n)) × (get_or (falling test n) r 0 ≡ j)
  unfolding Has
  falling_has n j low t = all_has n j low t

  -- ---- where the test holds of the numbers below n alone

  falling_all : (n : ℕ) → ((j : ℕ) → j < n → test j ≡ true) → falling test n ≡ countdown n
  unfolding countdown
  falling_all zero all = falling_none
  falling_all (suc n) all =
      falling_takes n (all n (lt-suc_self n)) ∙ ap (λ (xs : List ℕ). n ∷ xs) (falling_all n (λ j low. all j (omega arith)))

  pub falling_above : (n more : ℕ) → ((j : ℕ) → n ≤ j → test j ≡ false) → falling test (n + more) ≡ falling test n
  falling_above n zero none = ap (falling test) (omega arith)
  falling_above n (suc more) none =
      let next : n + suc more ≡ suc (n + more) = omega arith in
      ap (falling test) next ∙ (falling_skips (n + more) (none (n + more) (omega arith)) ∙ falling_above n more none)

  pub falling_below : (n most : ℕ) → n ≤ most → ((j : ℕ) → j < n → test j ≡ true) → ((j : ℕ) → n ≤ j → test j ≡ false) → falling test most ≡ countdown n
  falling_below n most low all none =
      let whole : most ≡ n + (most - n) = omega arith in
      ap (falling test) whole ∙ (falling_above n (most - n) none ∙ falling_all n all)

-- a test that holds of more numbers has a list that is no shorter
pub falling_fewer : (some more : ℕ → Bool) → ((j : ℕ) → some j ≡ true → more j ≡ true) → (n : ℕ) → length (falling some n) ≤ length (falling more n)
falling_fewer some more all zero = rw (falling_none some, falling_none more) (omega arith)
falling_fewer some more all (suc n) =
    by_test (some n)
    (λ t. rw (falling_takes some n t, falling_takes more n (all n t)) (omega (arith, falling_fewer some more all n)))
    (λ f. rw (falling_skips some n f) (by_test (more n)
    (λ t. rw (falling_takes more n t) (omega (arith, falling_fewer some more all n)))
    (λ g. rw (falling_skips more n g) (falling_fewer some more all n))))

-- ---- counting down

countdown-length : (n : ℕ) → length (countdown n) ≡ n
unfolding countdown
countdown-length zero = refl
countdown-length (suc n) = ap suc (countdown-length n)

pub countdown_of : (n : ℕ) (xs : List ℕ) → xs ≡ countdown n → length xs ≡ n
countdown_of n xs is = ap length is ∙ countdown-length n

pub countdown_at : (n r : ℕ) → r < n → get_or (countdown n) r 0 ≡ n - 1 - r
unfolding countdown
countdown_at zero r low = absurd (not-suc-le-zero low)
countdown_at (suc n) zero low = omega arith
countdown_at (suc n) (suc r) low = countdown_at n r (le_of_suc-le-suc low) ∙ omega arith

-- ---- the dates with a flow

module _ (due : ℕ → Bool) (amount : ℕ → ℕ) where
  -- each is due and pays something
  pub flow_date : (r : ℕ) → r < length (flow_dates due amount)
      → (due (get_or (flow_dates due amount) r 0) && ltb 0 (amount (get_or (flow_dates due amount) r 0)) ≡ true) × (get_or (flow_dates due amount) r 0 < 1200)
  unfolding flow_dates
  flow_date = falling_holds (λ j. due j && ltb 0 (amount j)) 1200

  -- an earlier flow is the flow of a date further before maturity
  pub flow_order : (r s : ℕ) → r < s → s < length (flow_dates due amount) → get_or (flow_dates due amount) s 0 < get_or (flow_dates due amount) r 0
  unfolding flow_dates
  flow_order = falling_falls (λ j. due j && ltb 0 (amount j)) 1200

  -- a date that is due and pays something has its flow
  pub flow_of : (j : ℕ) → j < 1200 → due j && ltb 0 (amount j) ≡ true
      → (r : ℕ) × (r < length (flow_dates due amount)) × (get_or (flow_dates due amount) r 0 ≡ j)
  unfolding flow_dates
  flow_of = falling_has (λ j. due j && ltb 0 (amount j)) 1200

  -- the flows of the dates of the places below n
  pub flows_below : (n : ℕ) → n ≤ 1200 → ((j : ℕ) → j < n → due j && ltb 0 (amount j) ≡ true)
      → ((j : ℕ) → n ≤ j → due j && ltb 0 (amount j) ≡ false) → flow_dates due amount ≡ countdown n
  unfolding flow_dates
  flows_below n low = falling_below (λ j. due j && ltb 0 (amount j)) n 1200 low

  -- where they are those of the places below n: each of these is due and pays something, and no other
  pub flows_count : (n : ℕ) → flow_dates due amount ≡ countdown n → (j : ℕ) → j < n → due j && ltb 0 (amount j) ≡ true
  flows_count n is j low =
      let place : get_or (flow_dates due amount) (n - 1 - j) 0 ≡ j = rw is (countdown_at n (n - 1 - j) (omega arith) ∙ omega arith) in
      rw (place) at (flow_date (n - 1 - j) (omega (arith, countdown_of n (flow_dates due amount) is))).0

  pub flows_only : (n : ℕ) → flow_dates due amount ≡ countdown n → (j : ℕ) → j < 1200 → due j && ltb 0 (amount j) ≡ true → j < n
  flows_only n is j near t =
      let w = flow_of j near t in
      let low : w.0 < n = omega (arith, w.1, countdown_of n (flow_dates due amount) is) in
      let place : n - 1 - w.0 ≡ j = sym (countdown_at n w.0 low) ∙ (rw is at w.2) in
      omega (arith, place)
