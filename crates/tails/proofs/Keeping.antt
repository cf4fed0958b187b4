-- Laws of the pass that keeps the k worst: what is kept so far, and what one scenario more makes of it.
-- Assumes nothing.
use Prim.Native.Nat.{ℕ, zero, suc, ◌+◌, ◌-◌, ◌≤◌, ◌<◌, min}
use mathlib.Core.List.{List, ◌∷◌, ◌++◌, map}
use mathlib.Core.Logic.{⊎_elim}
use mathlib.Core.Path.{◌≡◌, sym, ap, ◌∙◌, subst}
use native.Mathlib.Nat.{eq-or-lt_of_le, le_of_suc-le-suc}
use native.Mathlib.Numerals.{add-one}
use native.Mathlib.Omega.{arith}
use borrow.Author.Tests.{lt-ltb, le-ltb, ltb-true, ltb-false, le-leb, leb-true, leb-false}
use lib.Dec.{ltb, leb}
use lib.ListN.{length, take, drop, get_or, replicate, length-take, length-map}
use lib.Seq.{take-append-le, take-nil, take-take, get_or-take}
use Rattle.numbers.proofs.Items.{by_test}
use Rattle.tails.specs.Ranking.{inserted}
use Rattle.tails.specs.InnerContracts.{padded, slot, put, ranked_from, next_bound, NextFrom}
use Rattle.tails.proofs.Ranking.{Each, Falling, inserted_at, take_inserted}
use Rattle.tails.proofs.Floors.{from_each, from_below, from_falling, from_skip}
use Rattle.tails.proofs.Insertion.{slot-le, slot_before, slot_after}
use Rattle.tails.proofs.Padded.{padded_at, padded_past, put_padded, map_take, map_put, get_d_map, one_longer, take_both}

-- ---- what is kept

-- after scenarios 0 to i − 1: the k worst of those that reach the floor, m of them
pub record Keeping (f : ℕ → ℕ) (k floor i : ℕ) (losses list : List ℕ) (m : ℕ) : Type 0 where
  pub list_is : list ≡ padded 16 (take k (ranked_from f floor i))
  pub losses_are : losses ≡ padded 16 (map f (take k (ranked_from f floor i)))
  pub count : m ≡ length (take k (ranked_from f floor i))

-- the pass stands at scenario i of n: at the next that is kept, or past the last
pub record Passing (f : ℕ → ℕ) (k floor n i : ℕ) (losses list : List ℕ) (m : ℕ) : Type 0 where
  pub to : i ≤ n
  pub kept : Keeping f k floor i losses list m
  pub next : i < n → next_bound losses m k floor ≤ f i

module _ (f : ℕ → ℕ) (k floor : ℕ) (some : 0 < k) (most : k ≤ 16) where
  -- nothing is kept yet
  keeping_start : Keeping f k floor 0 (replicate 16 0) (replicate 16 0) 0
  unfolding ranked_from padded
  keeping_start = record {
    list_is = ap (λ (l : List ℕ). padded 16 l) (sym (take-nil k));
    losses_are = ap (λ (l : List ℕ). padded 16 (map f l)) (sym (take-nil k));
    count = ap length (sym (take-nil k));
  }

  module _ {i m : ℕ} {losses list : List ℕ} (r : Keeping f k floor i losses list m) where
    abbrev bound : ℕ
    bound = next_bound losses m k floor

    pub keeping_few : m ≤ k
    keeping_few = omega (arith, r.count, length-take k (ranked_from f floor i))

    short : length (take k (ranked_from f floor i)) ≤ min k (length (ranked_from f floor i))
    short = omega (arith, length-take k (ranked_from f floor i))

    front : (q : ℕ) → q < length (take k (ranked_from f floor i)) → get_or (take k (ranked_from f floor i)) q 0 ≡ get_or (ranked_from f floor i) q 0
    front q low = get_or-take k (ranked_from f floor i) q 0 (omega (arith, short))

    front_each : (P : ℕ → Type 0) → Each P (ranked_from f floor i) → Each P (take k (ranked_from f floor i))
    front_each P each q low = subst P (sym (front q low)) (each q (omega (arith, short)))

    front_falling : Falling f (take k (ranked_from f floor i))
    front_falling p q le low = rw (front p (omega arith), front q low) (from_falling f floor i p q le (omega (arith, short)))

    -- a kept loss
    keeping_at : (q : ℕ) → q < m → get_or losses q 0 ≡ f (get_or (take k (ranked_from f floor i)) q 0)
    keeping_at q low =
        let within : q < length (take k (ranked_from f floor i)) = omega (arith, r.count) in
        ap (λ (l : List ℕ). get_or l q 0) r.losses_are
        ∙ (padded_at 16 (map f (take k (ranked_from f floor i))) q (omega (arith, length-map (take k (ranked_from f floor i)) f))
        ∙ get_d_map f (take k (ranked_from f floor i)) q within)

    -- past the kept ones there are zeros
    keeping_past : (q : ℕ) → m ≤ q → get_or losses q 0 ≡ 0
    keeping_past q past =
        ap (λ (l : List ℕ). get_or l q 0) r.losses_are
        ∙ padded_past 16 (map f (take k (ranked_from f floor i))) q (omega (arith, r.count, length-map (take k (ranked_from f floor i)) f))

    -- the least loss that is kept next: the floor, while less than k are kept
    bound_few : m < k → bound ≡ floor
    unfolding next_bound
    bound_few less = rw (lt-ltb m k less)

    -- then one more than the smallest kept
    bound_all : k ≤ m → bound ≡ f (get_or (take k (ranked_from f floor i)) (k - 1) 0) + 1
    unfolding next_bound
    bound_all all =
        rw (le-ltb m k all) (ap (λ (x : ℕ). x + 1) (keeping_at (k - 1) (omega arith)))

    next_inserted : floor ≤ f i → take k (ranked_from f floor (suc i)) ≡ take k (inserted f i (take k (ranked_from f floor i)))
    unfolding ranked_from
    next_inserted reach = rw (le-leb floor (f i) reach) (take_inserted f i k (ranked_from f floor i))

    -- where one more is inserted
    placed_at : (p : ℕ) → p ≤ length (take k (ranked_from f floor i)) → (0 < p → f i ≤ f (get_or (take k (ranked_from f floor i)) (p - 1) 0))
        → ((q : ℕ) → p ≤ q → q < length (take k (ranked_from f floor i)) → f (get_or (take k (ranked_from f floor i)) q 0) < f i)
        → inserted f i (take k (ranked_from f floor i)) ≡ take p (take k (ranked_from f floor i)) ++ (i ∷ drop p (take k (ranked_from f floor i)))
    placed_at p = inserted_at f i (take k (ranked_from f floor i)) p (front_each (λ j. j < i) (from_below f floor i)) front_falling

    -- a loss that is not kept leaves all as it is
    skipped : f i < bound → take k (ranked_from f floor (suc i)) ≡ take k (ranked_from f floor i)
    skipped less = by_test (leb floor (f i)) (λ t. past (leb-true floor (f i) t)) (λ t. none (leb-false floor (f i) t))
      where
        none : f i < floor → take k (ranked_from f floor (suc i)) ≡ take k (ranked_from f floor i)
        none low = ap (take k) (from_skip f floor i low)

        past : floor ≤ f i → take k (ranked_from f floor (suc i)) ≡ take k (ranked_from f floor i)
        past reach =
            let all : m ≡ k = by_test (ltb m k)
            (λ t. absurd (omega (arith, bound_few (ltb-true m k t))))
            (λ t. omega (arith, ltb-false m k t, keeping_few)) in
            let size : length (take k (ranked_from f floor i)) ≡ k = sym r.count ∙ all in
            let smallest = bound_all (omega arith) in
            next_inserted reach
            ∙ (ap (take k) (placed_at k (omega arith) (λ above. omega arith) (λ q from low. absurd (omega arith)))
            ∙ (take-append-le k (take k (take k (ranked_from f floor i))) (i ∷ drop k (take k (ranked_from f floor i))) (omega (arith, length-take k (take k (ranked_from f floor i))))
            ∙ (take-take k k (take k (ranked_from f floor i)) (omega arith) ∙ take-take k k (ranked_from f floor i) (omega arith))))

    -- scenario i is not kept
    keeping_skip : f i < bound → Keeping f k floor (i + 1) losses list m
    keeping_skip less =
        subst (λ (n : ℕ). Keeping f k floor n losses list m) (sym (add-one i))
        record {
          list_is = r.list_is ∙ ap (padded 16) (sym (skipped less));
          losses_are = r.losses_are ∙ ap (λ (s : List ℕ). padded 16 (map f s)) (sym (skipped less));
          count = r.count ∙ ap length (sym (skipped less));
        }

    -- what bounds the losses so far bounds each kept one
    pub keeping_bound : (b q : ℕ) → ((s : ℕ) → s < i → f s ≤ b) → get_or losses q 0 ≤ b
    keeping_bound b q each =
        by_test (ltb q m)
        (λ t.
        let low : q < m = ltb-true q m t in
        let inside : get_or (take k (ranked_from f floor i)) q 0 < i = front_each (λ j. j < i) (from_below f floor i) q (omega (arith, r.count)) in
        rw (keeping_at q low) (each (get_or (take k (ranked_from f floor i)) q 0) inside))
        (λ t. rw (keeping_past q (ltb-false q m t)) (omega arith))

    -- a loss that is kept reaches the floor
    reaches_floor : bound ≤ f i → floor ≤ f i
    reaches_floor kept =
        by_test (ltb m k)
        (λ t. omega (arith, bound_few (ltb-true m k t)))
        (λ t.
        let all : k ≤ m = ltb-false m k t in
        let last : floor ≤ f (get_or (take k (ranked_from f floor i)) (k - 1) 0) = front_each (λ j. floor ≤ f j) (from_each f floor i) (k - 1) (omega (arith, r.count)) in
        omega (arith, bound_all all))

    -- the place that the insertion finds
    module _ (kept : bound ≤ f i) (at p : ℕ) (last : at ≡ min (m + 1) k - 1) (here : p ≡ slot losses at (f i)) where
      within : p ≤ at
      within = omega (arith, slot-le losses (f i) at)

      here_placed : inserted f i (take k (ranked_from f floor i)) ≡ take p (take k (ranked_from f floor i)) ++ (i ∷ drop p (take k (ranked_from f floor i)))
      here_placed =
          placed_at p (omega (arith, within, keeping_few, r.count))
          (λ above. subst (λ (x : ℕ). f i ≤ x) (keeping_at (p - 1) (omega (arith, within, keeping_few))) (before above))
          (λ q from low. by_test (ltb q at)
          (λ t. subst (λ (x : ℕ). x < f i) (keeping_at q (omega (arith, r.count))) (slot_after losses (f i) at q (omega arith) (ltb-true q at t)))
          (λ t.
          let past : at ≤ q = ltb-false q at t in
          let final : q ≡ k - 1 = omega (arith, keeping_few, r.count) in
          rw final (omega (arith, bound_all (omega (arith, keeping_few, r.count))))))
        where
          before : 0 < p → f i ≤ get_or losses (p - 1) 0
          before = rw here (slot_before losses (f i) at)

      next_kept : take k (ranked_from f floor (suc i)) ≡ take (suc at) (take p (take k (ranked_from f floor i)) ++ (i ∷ drop p (take k (ranked_from f floor i))))
      next_kept = next_inserted (reaches_floor kept) ∙ (ap (take k) here_placed ∙ by_test (ltb m k) (λ t. all_fit (ltb-true m k t)) (λ t. full (ltb-false m k t)))
        where
          longer : List ℕ
          longer = take p (take k (ranked_from f floor i)) ++ (i ∷ drop p (take k (ranked_from f floor i)))

          all_fit : m < k → take k longer ≡ take (suc at) longer
          all_fit less =
              take_both k (suc at) longer
              (omega (arith, one_longer p i (take k (ranked_from f floor i)), r.count))
              (omega (arith, one_longer p i (take k (ranked_from f floor i)), r.count))

          full : k ≤ m → take k longer ≡ take (suc at) longer
          full all = let whole : k ≡ suc at = omega (arith, keeping_few) in ap (λ (n : ℕ). take n longer) whole

      -- the kept ones with scenario i among them
      pub keeping_next : {losses' list' : List ℕ} → losses' ≡ put p at (f i) losses → list' ≡ put p at i list
          → Keeping f k floor (i + 1) losses' list' (min (m + 1) k)
      keeping_next {losses'} {list'} one two =
          subst (λ (n : ℕ). Keeping f k floor n losses' list' (min (m + 1) k)) (sym (add-one i))
          record {
            list_is = two ∙ (ap (put p at i) r.list_is ∙ (put_padded 16 p at i kept_now within room near fits ∙ ap (padded 16) (sym next_kept)));
            losses_are =
                one
                ∙ (ap (put p at (f i)) r.losses_are
                ∙ (put_padded 16 p at (f i) (map f kept_now) within (omega (arith, room, length-map kept_now f)) (omega (arith, near, length-map kept_now f)) fits
                ∙ ap (padded 16) (ap (take (suc at)) (sym (map_put f p i kept_now)) ∙ (sym (map_take f (suc at) (take p kept_now ++ (i ∷ drop p kept_now))) ∙ ap (map f) (sym next_kept)))));
            count =
                let size : min (m + 1) k ≡ min (suc at) (suc (length kept_now)) = omega (arith, r.count, keeping_few) in
                size ∙ (ap (min (suc at)) (sym (one_longer p i kept_now)) ∙ (sym (length-take (suc at) (take p kept_now ++ (i ∷ drop p kept_now))) ∙ ap length (sym next_kept)));
          }
        where
          kept_now : List ℕ
          kept_now = take k (ranked_from f floor i)

          room : at ≤ length kept_now
          room = omega (arith, r.count, keeping_few)

          near : length kept_now ≤ suc at
          near = omega (arith, r.count, keeping_few)

          fits : suc at ≤ 16
          fits = omega arith

  -- none is kept from scenario i up to scenario j
  keeping_skips : {i m : ℕ} {losses list : List ℕ} → Keeping f k floor i losses list m → (j : ℕ) → i ≤ j
      → ((s : ℕ) → i ≤ s → s < j → f s < next_bound losses m k floor) → Keeping f k floor j losses list m
  keeping_skips {i} {m} {losses} {list} r zero le less = let same : i ≡ 0 = omega arith in subst (λ (n : ℕ). Keeping f k floor n losses list m) same r
  keeping_skips {i} {m} {losses} {list} r (suc j) le less =
      ⊎_elim
      (λ (same : i ≡ suc j). subst (λ (n : ℕ). Keeping f k floor n losses list m) same r)
      (λ (past : i < suc j).
      subst (λ (n : ℕ). Keeping f k floor n losses list m) (add-one j)
      (keeping_skip (keeping_skips r j (le_of_suc-le-suc past) (λ s from low. less s from (omega arith))) (less j (le_of_suc-le-suc past) (omega arith))))
      (eq-or-lt_of_le le)

  -- the search for the next has led there
  pub passing_next : {n i j m : ℕ} {losses list : List ℕ} → Keeping f k floor i losses list m → NextFrom f n i (next_bound losses m k floor) j → Passing f k floor n j losses list m
  passing_next {n} {i} {j} r found = record { to = found.before.to; kept = keeping_skips r j found.before.from found.before.skipped; next = found.kept }

  -- nothing is kept yet, and the search for the first has led to scenario j
  pub passing_start : {n j : ℕ} → NextFrom f n 0 floor j → Passing f k floor n j (replicate 16 0) (replicate 16 0) 0
  unfolding next_bound
  passing_start {n} {j} found =
      let first : floor ≡ next_bound (replicate 16 0) 0 k floor = rw (lt-ltb 0 k some) in
      passing_next keeping_start (subst (λ (b : ℕ). NextFrom f n 0 b j) first found)
