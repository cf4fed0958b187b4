-- What the insertion of a scenario and the ranking keep: length, entries, order, the first ones.
-- Assumes nothing.
use Prim.Native.Nat.{ℕ, zero, suc, ◌-◌, ◌≤◌, ◌<◌, suc-le-suc}
use mathlib.Core.Bool.{true, false, ◌&&◌}
use mathlib.Core.List.{List, [], ◌∷◌, ◌++◌}
use mathlib.Core.Logic.{⊎_elim}
use mathlib.Core.Path.{◌≡◌, refl, sym, ap, ◌∙◌, subst}
use native.Mathlib.Nat.{le_refl, le-suc, le_of_suc-le-suc, not-suc-le-zero, zero-lt-suc, eq-or-lt_of_le, zero-add}
use native.Mathlib.Omega.{arith}
use borrow.Author.Tests.{lt-ltb, ltb-true, ltb-false, eq-eqb, eqb-true}
use lib.Dec.{eqb, ltb}
use lib.ListN.{length, take, drop, get_or}
use lib.Seq.{take-length, take-take, drop-length}
use Rattle.numbers.specs.Buffers.{table}
use Rattle.numbers.proofs.Buffers.{table_more}
use Rattle.numbers.proofs.Items.{by_test, both, either, neither}
use Rattle.tails.specs.Ranking.{ahead, inserted, ranked}

-- ---- entries of a list

-- P holds of each entry
abbrev pub Each : (ℕ → Type 0) → List ℕ → Type 0
Each P s = (p : ℕ) → p < length s → P (get_or s p 0)

-- R holds of each entry and each later one
abbrev pub Pairs : (ℕ → ℕ → Type 0) → List ℕ → Type 0
Pairs R s = (p q : ℕ) → p < q → q < length s → R (get_or s p 0) (get_or s q 0)

-- i is an entry
abbrev Has : ℕ → List ℕ → Type 0
Has i s = (p : ℕ) × (p < length s) × (get_or s p 0 ≡ i)

module _ (P : ℕ → Type 0) where
  -- of no entries
  pub each_none : Each P []
  each_none p low = absurd (not-suc-le-zero low)

  -- of one more in front
  pub each_cons : (i : ℕ) (s : List ℕ) → P i → Each P s → Each P (i ∷ s)
  each_cons i s first rest zero low = first
  each_cons i s first rest (suc p) low = rest p (le_of_suc-le-suc low)

  -- of the first
  pub each_first : (i : ℕ) (s : List ℕ) → Each P (i ∷ s) → P i
  each_first i s each = each 0 (zero-lt-suc (length s))

  -- of the rest
  pub each_rest : (i : ℕ) (s : List ℕ) → Each P (i ∷ s) → Each P s
  each_rest i s each p low = each (suc p) (suc-le-suc low)

module _ (R : ℕ → ℕ → Type 0) where
  -- of no entries
  pairs_none : Pairs R []
  pairs_none p q less low = absurd (not-suc-le-zero low)

  -- of one more in front
  pub pairs_cons : (i : ℕ) (s : List ℕ) → Each (R i) s → Pairs R s → Pairs R (i ∷ s)
  pairs_cons i s first rest p zero less low = absurd (not-suc-le-zero less)
  pairs_cons i s first rest zero (suc q) less low = first q (le_of_suc-le-suc low)
  pairs_cons i s first rest (suc p) (suc q) less low = rest p q (le_of_suc-le-suc less) (le_of_suc-le-suc low)

  -- of the first and each later one
  pub pairs_first : (i : ℕ) (s : List ℕ) → Pairs R (i ∷ s) → Each (R i) s
  pairs_first i s pairs q low = pairs 0 (suc q) (zero-lt-suc q) (suc-le-suc low)

  -- of the rest
  pub pairs_rest : (i : ℕ) (s : List ℕ) → Pairs R (i ∷ s) → Pairs R s
  pairs_rest i s pairs p q less low = pairs (suc p) (suc q) (suc-le-suc less) (suc-le-suc low)

has_first : (i : ℕ) (s : List ℕ) → Has i (i ∷ s)
has_first i s = (0, zero-lt-suc (length s), refl)

has_rest : (i j : ℕ) (s : List ℕ) → Has i s → Has i (j ∷ s)
has_rest i j s h = (suc h.0, suc-le-suc h.1, h.2)

-- ---- which of two scenarios stands ahead

-- i stands ahead of j
abbrev Leads : (ℕ → ℕ) → ℕ → ℕ → Type 0
Leads f i j = ahead f i j ≡ true

module _ (f : ℕ → ℕ) where
  -- one that stands ahead has no smaller loss, and where the losses are equal the smaller number
  pub ahead_parts : (i j : ℕ) → ahead f i j ≡ true → (f j ≤ f i) × (f i ≤ f j → i < j)
  ahead_parts i j t =
      ⊎_elim
      (λ larger. let h : f j < f i = ltb-true (f j) (f i) larger in (omega arith, λ le. absurd (omega arith)))
      (λ equal.
      let h = both (eqb (f i) (f j)) (ltb i j) equal in
      (omega (arith, eqb-true (f i) (f j) h.0), λ le. ltb-true i j h.1))
      (either (ltb (f j) (f i)) (eqb (f i) (f j) && ltb i j) t)

  -- and such a one stands ahead
  pub parts_ahead : (i j : ℕ) → f j ≤ f i → (f i ≤ f j → i < j) → ahead f i j ≡ true
  parts_ahead i j le less =
      by_test (ltb (f j) (f i))
      (λ t. rw t)
      (λ t.
      let back : f i ≤ f j = ltb-false (f j) (f i) t in
      rw (t, eq-eqb (f i) (f j) (omega arith)) (lt-ltb i j (less back)))

  -- one that does not stand ahead has no larger loss
  pub not_ahead : (i j : ℕ) → ahead f i j ≡ false → f i ≤ f j
  not_ahead i j t = ltb-false (f j) (f i) (neither (ltb (f j) (f i)) (eqb (f i) (f j) && ltb i j) t).0

  -- a later scenario that does not stand ahead stands behind
  behind : (i j : ℕ) → ahead f i j ≡ false → j < i → ahead f j i ≡ true
  behind i j t low = parts_ahead j i (not_ahead i j t) (λ le. low)

  ahead_trans : (i j h : ℕ) → ahead f i j ≡ true → ahead f j h ≡ true → ahead f i h ≡ true
  ahead_trans i j h one two =
      let a = ahead_parts i j one in
      let b = ahead_parts j h two in
      parts_ahead i h (omega arith) (λ le. omega (arith, a.1 (omega arith), b.1 (omega arith)))

-- ---- one scenario inserted

-- the two cases of an insertion: right here, or further on
pub inserted_cases : (P : List ℕ → Type 0) (f : ℕ → ℕ) (i j : ℕ) (s : List ℕ)
    → (ahead f i j ≡ true → P (i ∷ j ∷ s)) → (ahead f i j ≡ false → P (j ∷ inserted f i s)) → P (inserted f i (j ∷ s))
unfolding inserted
inserted_cases P f i j s here on = by_test (ahead f i j) (λ t. rw t (here t)) (λ t. rw t (on t))

module _ (f : ℕ → ℕ) (i : ℕ) where
  -- into no ranking
  pub inserted_none : inserted f i [] ≡ i ∷ []
  unfolding inserted
  inserted_none = refl

  -- one entry more
  pub inserted-length : (s : List ℕ) → length (inserted f i s) ≡ suc (length s)
  inserted-length [] = ap length inserted_none
  inserted-length (j ∷ s) = inserted_cases (λ l. length l ≡ suc (suc (length s))) f i j s (λ t. refl) (λ t. ap suc (inserted-length s))

  -- what holds of i and of each entry holds of each entry after
  pub inserted_each : (P : ℕ → Type 0) (s : List ℕ) → P i → Each P s → Each P (inserted f i s)
  inserted_each P [] new old = rw inserted_none (each_cons P i [] new old)
  inserted_each P (j ∷ s) new old =
      inserted_cases (Each P) f i j s
      (λ t. each_cons P i (j ∷ s) new old)
      (λ t. each_cons P j (inserted f i s) (each_first P j s old) (inserted_each P s new (each_rest P j s old)))

  -- a ranking keeps its order, where i is later than all of it
  inserted_pairs : (s : List ℕ) → Each (λ j. j < i) s → Pairs (Leads f) s → Pairs (Leads f) (inserted f i s)
  inserted_pairs [] later pairs = rw inserted_none (pairs_cons (Leads f) i [] (each_none (Leads f i)) pairs)
  inserted_pairs (j ∷ s) later pairs =
      let first : Each (Leads f j) s = pairs_first (Leads f) j s pairs in
      inserted_cases (Pairs (Leads f)) f i j s
      (λ t. pairs_cons (Leads f) i (j ∷ s) (each_cons (Leads f i) j s t (λ p low. ahead_trans f i j (get_or s p 0) t (first p low))) pairs)
      (λ t. pairs_cons (Leads f) j (inserted f i s)
      (inserted_each (Leads f j) s (behind f i j t (each_first (λ h. h < i) j s later)) first)
      (inserted_pairs s (each_rest (λ h. h < i) j s later) (pairs_rest (Leads f) j s pairs)))

  -- i is in it
  inserted_new : (s : List ℕ) → Has i (inserted f i s)
  inserted_new [] = rw inserted_none (has_first i [])
  inserted_new (j ∷ s) =
      inserted_cases (Has i) f i j s (λ t. has_first i (j ∷ s)) (λ t. has_rest i j (inserted f i s) (inserted_new s))

  -- and so are the entries before
  inserted_old : (s : List ℕ) → Each (λ j. Has j (inserted f i s)) s
  inserted_old [] = each_none (λ j. Has j (inserted f i []))
  inserted_old (j ∷ s) =
      inserted_cases (λ l. Each (λ h. Has h l) (j ∷ s)) f i j s
      (λ t p low. has_rest (get_or (j ∷ s) p 0) i (j ∷ s) (p, low, refl))
      (λ t. each_cons (λ h. Has h (j ∷ inserted f i s)) j s (has_first j (inserted f i s))
      (λ p low. has_rest (get_or s p 0) j (inserted f i s) (inserted_old s p low)))

  -- the first k after are made by the first k before
  pub take_inserted : (k : ℕ) (s : List ℕ) → take k (inserted f i s) ≡ take k (inserted f i (take k s))
  unfolding inserted
  take_inserted zero s = refl
  take_inserted (suc k) [] = refl
  take_inserted (suc k) (j ∷ s) =
      by_test (ahead f i j)
      (λ t. rw t (ap (λ (l : List ℕ). i ∷ l) (sym (take-take k (suc k) (j ∷ s) (le-suc k)))))
      (λ t. rw t (ap (λ (l : List ℕ). j ∷ l) (take_inserted k s)))

-- the losses fall, or stay equal, from each entry to each later one
abbrev pub Falling : (ℕ → ℕ) → List ℕ → Type 0
Falling f s = (p q : ℕ) → p ≤ q → q < length s → f (get_or s q 0) ≤ f (get_or s p 0)

module _ (f : ℕ → ℕ) where
  -- those of the rest
  pub falling_rest : (i : ℕ) (s : List ℕ) → Falling f (i ∷ s) → Falling f s
  falling_rest i s falling p q le low = falling (suc p) (suc q) (suc-le-suc le) (suc-le-suc low)

  -- scenario i, later than all of a list whose losses fall, goes to the place p that has no smaller loss before it and only
  -- smaller ones from it on
  pub inserted_at : (i : ℕ) (s : List ℕ) (p : ℕ) → Each (λ j. j < i) s → Falling f s → p ≤ length s
      → (0 < p → f i ≤ f (get_or s (p - 1) 0)) → ((q : ℕ) → p ≤ q → q < length s → f (get_or s q 0) < f i)
      → inserted f i s ≡ take p s ++ (i ∷ drop p s)
  inserted_at i [] zero later falling le before after = inserted_none f i
  inserted_at i [] (suc p) later falling le before after = absurd (not-suc-le-zero le)
  inserted_at i (j ∷ s) zero later falling le before after =
      inserted_cases (λ l. l ≡ i ∷ j ∷ s) f i j s
      (λ t. refl)
      (λ t. absurd (let h : f j < f i = after 0 (le_refl 0) (zero-lt-suc (length s)) in omega (arith, not_ahead f i j t)))
  inserted_at i (j ∷ s) (suc p) later falling le before after =
      let back : suc p - 1 ≡ p = omega arith in
      let held : f i ≤ f (get_or (j ∷ s) p 0) = subst (λ (m : ℕ). f i ≤ f (get_or (j ∷ s) m 0)) back (before (zero-lt-suc p)) in
      let first : f (get_or (j ∷ s) p 0) ≤ f j = falling 0 p (omega arith) le in
      inserted_cases (λ l. l ≡ j ∷ (take p s ++ (i ∷ drop p s))) f i j s
      (λ t. absurd (omega (arith, (ahead_parts f i j t).1 (omega arith), each_first (λ h. h < i) j s later)))
      (λ t. ap (λ (l : List ℕ). j ∷ l)
      (inserted_at i s p (each_rest (λ h. h < i) j s later) (falling_rest j s falling) (le_of_suc-le-suc le)
      (λ some. let whole : p ≡ suc (p - 1) = omega arith in subst (λ (m : ℕ). f i ≤ f (get_or (j ∷ s) m 0)) whole held)
      (λ q from low. after (suc q) (suc-le-suc from) (suc-le-suc low))))

-- ---- the ranking

module _ (f : ℕ → ℕ) where
  -- as many as are ranked
  pub ranked-length : (n : ℕ) → length (ranked f n) ≡ n
  unfolding ranked
  ranked-length zero = refl
  ranked-length (suc n) = inserted-length f n (ranked f n) ∙ ap suc (ranked-length n)

  -- what holds of each scenario holds of each entry
  ranked_each : (P : ℕ → Type 0) (n : ℕ) → ((i : ℕ) → i < n → P i) → Each P (ranked f n)
  unfolding ranked
  ranked_each P zero all = each_none P
  ranked_each P (suc n) all =
      inserted_each f n P (ranked f n) (all n (le_refl (suc n))) (ranked_each P n (λ i low. all i (omega arith)))

  ranked_those : (n : ℕ) → Each (λ i. i < n) (ranked f n)
  ranked_those n = ranked_each (λ i. i < n) n (λ i low. low)

  -- only scenarios below n stand in it
  pub ranked_below : (n p : ℕ) → p < n → get_or (ranked f n) p 0 < n
  ranked_below n p low = ranked_those n p (rw (ranked-length n) low)

  ranked_all : (n i : ℕ) → i < n → Has i (ranked f n)
  unfolding ranked
  ranked_all zero i low = absurd (not-suc-le-zero low)
  ranked_all (suc n) i low =
      ⊎_elim
      (λ (last : i ≡ n). rw last (inserted_new f n (ranked f n)))
      (λ (less : i < n).
      let h = ranked_all n i less in
      subst (λ (j : ℕ). Has j (inserted f n (ranked f n))) h.2 (inserted_old f n (ranked f n) h.0 h.1))
      (eq-or-lt_of_le (le_of_suc-le-suc low))

  -- every scenario stands in it
  pub ranked_has : (n i : ℕ) → i < n → (p : ℕ) × (p < n) × (get_or (ranked f n) p 0 ≡ i)
  ranked_has n i low = let h = ranked_all n i low in (h.0, rw (ranked-length n) at h.1, h.2)

  ranked_pairs : (n : ℕ) → Pairs (Leads f) (ranked f n)
  unfolding ranked
  ranked_pairs zero = pairs_none (Leads f)
  ranked_pairs (suc n) = inserted_pairs f n (ranked f n) (ranked_those n) (ranked_pairs n)

  -- each stands ahead of each later one
  pub ranked_order : (n p q : ℕ) → p < q → q < n → ahead f (get_or (ranked f n) p 0) (get_or (ranked f n) q 0) ≡ true
  ranked_order n p q less low = ranked_pairs n p q less (rw (ranked-length n) low)

  -- no scenario stands in it twice
  pub ranked_different : (n p q : ℕ) → p < q → q < n → get_or (ranked f n) p 0 ≡ get_or (ranked f n) q 0 → ⊥
  ranked_different n p q less low same =
      let parts = ahead_parts f (get_or (ranked f n) p 0) (get_or (ranked f n) q 0) (ranked_order n p q less low) in
      let own : f (get_or (ranked f n) p 0) ≤ f (get_or (ranked f n) q 0) = rw same (le_refl (f (get_or (ranked f n) q 0))) in
      omega (arith, parts.1 own)

  -- its losses fall
  pub ranked_falling : (n : ℕ) → Falling f (ranked f n)
  ranked_falling n p q le low =
      ⊎_elim
      (λ (same : p ≡ q). rw same (le_refl (f (get_or (ranked f n) q 0))))
      (λ (less : p < q). (ahead_parts f (get_or (ranked f n) p 0) (get_or (ranked f n) q 0) (ranked_pairs n p q less low)).0)
      (eq-or-lt_of_le le)

  -- equal losses rank by rising number: 0 to n − 1
  pub ranked_rising : (n : ℕ) → ((i j : ℕ) → i < n → j < n → f i ≡ f j) → ranked f n ≡ table (λ i. i) n 0
  unfolding ranked table
  ranked_rising zero equal = refl
  ranked_rising (suc n) equal =
      let s = ranked f n in
      inserted_at f n s (length s) (ranked_those n) (ranked_falling n) (le_refl (length s))
      (λ some. let low : length s - 1 < length s = omega arith in
      let less : get_or s (length s - 1) 0 < n = ranked_those n (length s - 1) low in
      omega (arith, equal n (get_or s (length s - 1) 0) (le_refl (suc n)) (omega arith)))
      (λ q from low. absurd (omega arith))
      ∙ (rw (take-length s, drop-length s)
      (ap (λ (l : List ℕ). l ++ (n ∷ [])) (ranked_rising n (λ i j low below. equal i j (omega arith) (omega arith)))
      ∙ (ap (λ (m : ℕ). table (λ i. i) n 0 ++ (m ∷ [])) (sym (zero-add n)) ∙ sym (table_more (λ i. i) n 0))))

module _ (f g : ℕ → ℕ) where
  inserted_same : (i : ℕ) (s : List ℕ) → f i ≡ g i → Each (λ j. f j ≡ g j) s → inserted f i s ≡ inserted g i s
  unfolding inserted
  inserted_same i [] here same = refl
  inserted_same i (j ∷ s) here same =
      rw (here, each_first (λ h. f h ≡ g h) j s same, inserted_same i s here (each_rest (λ h. f h ≡ g h) j s same))

  -- losses that agree on the scenarios have the same ranking
  pub ranked_same : (n : ℕ) → ((i : ℕ) → i < n → f i ≡ g i) → ranked f n ≡ ranked g n
  unfolding ranked
  ranked_same zero same = refl
  ranked_same (suc n) same =
      inserted_same n (ranked f n) (same n (le_refl (suc n))) (ranked_each f (λ j. f j ≡ g j) n (λ i low. same i (omega arith)))
      ∙ ap (inserted g n) (ranked_same n (λ i low. same i (omega arith)))
