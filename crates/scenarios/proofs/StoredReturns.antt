-- A vertex's returns and variances as they are held in two buffers: its scenarios, and whether they lie in their range.
-- Assumes nothing.
use Prim.Native.Nat.{ℕ, ◌+◌, ◌-◌, ◌≤◌, ◌<◌}
use mathlib.Core.Bool.{Bool, true, false}
use mathlib.Core.List.{List, ◌++◌}
use mathlib.Core.Path.{◌≡◌, refl, sym, ap, ◌∙◌, subst}
use native.Mathlib.Omega.{arith}
use lib.IntN.{ℤ, pos}
use lib.ListN.{length, get_or, take, drop}
use lib.Seq.{ext_get_or}
use native.Mathlib.Nat.{zero-add}
use Rattle.numbers.specs.Buffers.{table, filled, placed}
use Rattle.numbers.specs.Root.{root}
use Rattle.numbers.proofs.Buffers.{table-length, table_at, cut_length, cut_at, filled_same, filled_read, rest_placed}
use Rattle.numbers.proofs.Roots.{root_short}
use Rattle.reading.specs.Parameters.{lookback, warm_up, smoothing}
use Rattle.reading.specs.InnerContracts.{SoundParameters}
use Rattle.scenarios.specs.Check.{returns_in, series_good}
use Rattle.scenarios.specs.InnerContracts.{Stored, Filled, Held, Scalable, scaled_entry}
use Rattle.scenarios.specs.Returns.{return_count}
use Rattle.scenarios.specs.Scaled.{newest_volatility, unscaled_from, scaled_from}
use Rattle.scenarios.specs.Volatility.{variance, volatility}
use Rattle.scenarios.proofs.EqualReturns.{unscaled_same, scaled_same}
use Rattle.scenarios.proofs.Series.{ranges_each, ranges_all, ranges_same, variance_short, variance_same}
use Rattle.scenarios.proofs.Sound.{series_return}

-- ---- the unscaled scenarios

-- the last LP returns, put at the start of a buffer, are the unscaled scenarios
pub unscaled_filled : (p : List ℕ) (returns out new : List ℤ) (a lp : ℕ) → a ≡ warm_up p → lp ≡ lookback p → a + lp ≤ length returns → new ≡ take (a + lp - a) (drop a returns)
    → new ++ drop lp out ≡ filled (unscaled_from p (λ j. get_or returns j (pos 0))) (lookback p) out
unfolding unscaled_from filled
unscaled_filled p returns out new a lp first count fits is =
    let f : ℕ → ℤ = λ s. get_or returns (warm_up p + s) (pos 0) in
    let all : new ≡ table f lp 0 =
    is ∙ ext_get_or (pos 0) (take (a + lp - a) (drop a returns)) (table f lp 0) (cut_length returns a lp fits ∙ sym (table-length f lp 0))
    (λ s low.
    let small : s < lp = omega (arith, low, cut_length returns a lp fits) in
    cut_at returns a lp fits s (pos 0) small ∙ (ap (λ (n : ℕ). get_or returns (n + s) (pos 0)) first ∙ sym (table_at f lp 0 s (pos 0) small ∙ ap f (zero-add s)))) in
    rw (all, count) refl

-- ---- the scaled scenarios

-- functions that agree below n leave the same
pub filled_agree : (good : Bool) (f g : ℕ → ℤ) (n : ℕ) (old new : List ℤ) → ((s : ℕ) → s < n → f s ≡ g s) → Filled good f n old new → Filled good g n old new
filled_agree good f g n old new same is =
    record {
      whether = is.whether ∙ ranges_same f n g same;
      are = λ yes. is.are yes ∙ filled_same f g n old same;
    }

module _ (p : List ℕ) (sound : SoundParameters p) (returns : List ℤ) (variances : List ℕ) (held : Held p returns variances) (newest : ℕ) (newest_is : newest ≡ root (get_or variances (return_count p - 1) 0)) where
  -- every variance lies in its range
  pub held_variance : (j : ℕ) → j < return_count p → get_or variances j 0 ≤ 10000000000000000
  held_variance j low =
      rw (held.variance_is j low)
      (variance_short (smoothing p) (λ i. get_or returns i (pos 0)) sound.ranges.smoothing_in.1 j (λ i le. held.return_in i (omega (arith, low, le))))

  -- the newest volatility is the series'
  pub held_newest : newest ≡ newest_volatility p (λ i. get_or returns i (pos 0))
  unfolding newest_volatility volatility
  held_newest = newest_is ∙ ap root (held.variance_is (return_count p - 1) (omega (arith, sound.ranges.lookback_in.0)))

  module _ (a lp : ℕ) (first : a ≡ warm_up p) (count : lp ≡ lookback p) (returns_fit : return_count p ≤ length returns) (variances_fit : return_count p ≤ length variances) where
    within : (n : ℕ) → return_count p ≤ n → a + lp ≤ n
    within n le = omega (arith, first, count, le)

    below : (s : ℕ) → s < lp → a + s < return_count p
    below s low = omega (arith, first, count, low)

    -- what the scaled scenarios are computed from
    pub held_scalable : (out : List ℤ) → lookback p ≤ length out → Scalable (take (a + lp - a) (drop a returns)) (take (a + lp - a) (drop a variances)) newest out
    held_scalable out room =
        let size = cut_length returns a lp (within (length returns) returns_fit) in
        let size₂ = cut_length variances a lp (within (length variances) variances_fit) in
        record {
          size_in = omega (arith, size, count, sound.ranges.lookback_in.1);
          variances_size = size₂ ∙ sym size;
          out_size = omega (arith, size, count, room);
          return_in = λ s low. rw (cut_at returns a lp (within (length returns) returns_fit) s (pos 0) (omega (arith, low, size))) (held.return_in (a + s) (below s (omega (arith, low, size))));
          variance_in = λ s low. rw (cut_at variances a lp (within (length variances) variances_fit) s 0 (omega (arith, low, size))) (held_variance (a + s) (below s (omega (arith, low, size))));
          newest_in = rw newest_is (root_short _ (held_variance (return_count p - 1) (omega (arith, sound.ranges.lookback_in.0))));
        }

    scaled_is : (s : ℕ) → s < lp → scaled_entry (take (a + lp - a) (drop a returns)) (take (a + lp - a) (drop a variances)) newest s ≡ scaled_from p (λ i. get_or returns i (pos 0)) s
    unfolding scaled_from unscaled_from volatility
    scaled_is s low =
        rw (
          cut_at returns a lp (within (length returns) returns_fit) s (pos 0) low,
          cut_at variances a lp (within (length variances) variances_fit) s 0 low,
          held.variance_is (a + s) (below s low),
          held_newest,
          first,
        )
        refl

    -- and what they then are
    pub held_filled : (good : Bool) (old new : List ℤ)
        → Filled good (scaled_entry (take (a + lp - a) (drop a returns)) (take (a + lp - a) (drop a variances)) newest) (length (take (a + lp - a) (drop a returns))) old new
        → Filled good (scaled_from p (λ i. get_or returns i (pos 0))) (lookback p) old new
    held_filled good old new is =
        let size = cut_length returns a lp (within (length returns) returns_fit) in
        let there : Filled good (scaled_entry (take (a + lp - a) (drop a returns)) (take (a + lp - a) (drop a variances)) newest) lp old new =
        subst (λ (x : ℕ). Filled good (scaled_entry (take (a + lp - a) (drop a returns)) (take (a + lp - a) (drop a variances)) newest) x old new) size is in
        rw (← count) (filled_agree good _ _ lp old new scaled_is there)

-- ---- after the pass over the returns

module _ (p : List ℕ) (r : ℕ → ℤ) (good : Bool) (returns₀ returns : List ℤ) (variances₀ variances : List ℕ) (is : Stored good (smoothing p) r (return_count p) returns₀ returns variances₀ variances) where
  -- a return is out of its range
  pub stored_bad : good ≡ false → false ≡ series_good p r
  unfolding series_good
  stored_bad bad = rw (← is.returns_are.whether, bad) refl

  -- every return of a good series is stored
  pub stored_good : series_good p r ≡ true → good ≡ true
  stored_good all = is.returns_are.whether ∙ ranges_all r (return_count p) (series_return p r all)

  module _ (yes : good ≡ true) where
    stored_all : returns_in p r ≡ true
    stored_all = sym is.returns_are.whether ∙ yes

    -- what is held is the series
    pub stored_return : (j : ℕ) → j < return_count p → get_or returns j (pos 0) ≡ r j
    stored_return j low = filled_read r (return_count p) returns₀ returns j (pos 0) (is.returns_are.are yes) low

    stored_variance : (j : ℕ) → j < return_count p → get_or variances j 0 ≡ variance (smoothing p) r j
    stored_variance j low = filled_read (variance (smoothing p) r) (return_count p) variances₀ variances j 0 (is.variances_are yes) low

    -- and what the scenarios are computed from
    pub stored_held : Held p returns variances
    stored_held =
        record {
          return_in = λ j low. rw (stored_return j low) (ranges_each r (return_count p) stored_all j low);
          variance_is = λ j low. stored_variance j low ∙ variance_same (smoothing p) r (λ i. get_or returns i (pos 0)) j (λ i le. sym (stored_return i (omega (arith, low, le))));
        }

    -- then the scaled scenarios, which are the series'
    scaled_agree : (all : Bool) (old new : List ℤ) → Filled all (scaled_from p (λ i. get_or returns i (pos 0))) (lookback p) old new → Filled all (scaled_from p r) (lookback p) old new
    scaled_agree all old new = filled_agree all (scaled_from p (λ i. get_or returns i (pos 0))) (scaled_from p r) (lookback p) old new (scaled_same p (λ i. get_or returns i (pos 0)) r stored_return)

    -- decide
    pub stored_scaled : (all : Bool) (old new : List ℤ) → Filled all (scaled_from p (λ i. get_or returns i (pos 0))) (lookback p) old new → all ≡ series_good p r
    unfolding series_good
    stored_scaled all old new filling = rw stored_all (scaled_agree all old new filling).whether

    -- the unscaled scenarios, put into the rest of a buffer
    pub unscaled_placed : (old new : List ℤ) (at : ℕ) → at + lookback p ≤ length old → new ≡ filled (unscaled_from p (λ i. get_or returns i (pos 0))) (lookback p) (take (length old - at) (drop at old))
        → take at old ++ (new ++ drop (length old - at) (drop at old)) ≡ placed (unscaled_from p r) at (lookback p) old
    unscaled_placed old new at fits are =
        rest_placed old at (lookback p) fits (unscaled_from p r) new
        (are ∙ filled_same (unscaled_from p (λ i. get_or returns i (pos 0))) (unscaled_from p r) (lookback p) (take (length old - at) (drop at old)) (unscaled_same p (λ i. get_or returns i (pos 0)) r stored_return))

    -- the scaled scenarios of a good series
    pub scaled_placed : (all : Bool) (old new : List ℤ) (at : ℕ) → at + lookback p ≤ length old → series_good p r ≡ true
        → Filled all (scaled_from p (λ i. get_or returns i (pos 0))) (lookback p) (take (length old - at) (drop at old)) new
        → take at old ++ (new ++ drop (length old - at) (drop at old)) ≡ placed (scaled_from p r) at (lookback p) old
    scaled_placed all old new at fits series filling =
        rest_placed old at (lookback p) fits (scaled_from p r) new ((scaled_agree all (take (length old - at) (drop at old)) new filling).are (stored_scaled all (take (length old - at) (drop at old)) new filling ∙ series))
