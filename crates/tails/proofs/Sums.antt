-- What the passes that sum P&Ls, take losses and add U up cite: numbers that fit, a vertex's row of either kind, sums vertex by
-- vertex.
-- Assumes nothing.
use Prim.Native.Nat.{ℕ, ◌+◌, ◌-◌, ◌*◌, ◌^◌, ◌≤◌, ◌<◌}
use mathlib.Core.List.{List}
use mathlib.Core.Path.{◌≡◌, sym, ap, ◌∙◌}
use native.Mathlib.Nat.{mul-le-mul, le_refl, le_trans}
use native.Mathlib.Omega.{arith}
use lib.IntN.{ℤ, pos, nat_abs, ◌+ℤ◌, ◌*ℤ◌}
use lib.ListN.{length, take, drop, get_or, set, replicate, length-replicate, get_or-replicate, get_or-eq_default}
use lib.Signed.{mag}
use mir.Facts.{to_z-of_z}
use mir.Syntax.{w64}
use mir.Val.{to_z, of_z}
use Rattle.numbers.specs.Buffers.{filled}
use Rattle.numbers.specs.Conditions.{In}
use Rattle.numbers.specs.Items.{total}
use Rattle.numbers.proofs.Buffers.{cut_length, cut_at, filled-length, filled_above, filled_is, filled_read, FilledTo, fill_next}
use Rattle.numbers.proofs.Items.{sum_none, sum_next, total_grows, total_item}
use Rattle.numbers.proofs.Signs.{nat_abs_mul, came, size_fits}
use Rattle.reading.proofs.Checks.{entries_fit}
use Rattle.tails.specs.Losses.{loss}
use Rattle.tails.specs.InnerContracts.{listed_pnl, listed_undiversified, vertex_tail, ExposureIn, ReturnIn, PnlIn, Pnls, RowOf, RowsOf, listed_up_to}
use Rattle.tails.proofs.Losses.{loss_size, pnl_none, pnl_next, pnl_size}
use Rattle.tails.proofs.PnlTails.{undiversified_size}

-- ---- numbers that fit

-- a number as 64 bits hold it
abbrev pub in64 : ℤ → ℤ
in64 z = to_z w64 (of_z w64 z)

-- sizes up to a P&L's are held as they are
pub same64 : (z : ℤ) → nat_abs z ≤ 100000000000000000 → in64 z ≡ z
same64 z small = to_z-of_z (size_fits w64 z (omega arith))

-- a vertex's exposure and its return
module _ (x r : ℤ) (exposure_in : ExposureIn x) (return_in : ReturnIn r) where
  -- their product is at most a P&L's size
  pub product_small : nat_abs (x *ℤ r) ≤ 100000000000000000
  product_small = rw (nat_abs_mul x r) (mul-le-mul exposure_in.most return_in.most)

-- an exposure is held as it is
pub exposure_same : (x : ℤ) → ExposureIn x → in64 x ≡ x
exposure_same x small = same64 x (omega (arith, small.most))

-- and lies in its range
pub exposure_in_lem : (x : ℤ) → ExposureIn x → ExposureIn (in64 x)
exposure_in_lem x small = rw (exposure_same x small) small

-- ---- one vertex's row

-- the loss that a vertex alone has
abbrev pub alone : ℕ → ℤ → (ℕ → ℤ) → ℕ → ℕ
alone mode x r s = loss mode (x *ℤ r s)

module _ (r : ℕ → ℤ) (returns : List ℤ) (row : RowOf r returns) where
  -- a return lies in its range
  pub row_small : (s : ℕ) → s < length returns → ReturnIn (r s)
  row_small s low = record { most = rw (← row.are s low) (row.return_in s low) }

  module _ (x : ℤ) (exposure_in : ExposureIn x) where
    -- what the vertex loses alone is at most a P&L's size
    pub alone_bound : (mode s : ℕ) → s < length returns → alone mode x r s ≤ 100000000000000000
    alone_bound mode s low = omega (arith, loss_size mode (x *ℤ r s), product_small x (r s) exposure_in (row_small s low))

-- ---- one vertex's P&L added to the sums

module _ (own : ℕ → ℤ) (old : List ℤ) (small : Pnls old) (s : ℕ) (now : List ℤ)
    (so : FilledTo (λ q. get_or old q (pos 0) +ℤ own q) (length old) old s now) (low : s < length old) where
  sum_same : in64 (get_or now s (pos 0)) ≡ get_or old s (pos 0)
  sum_same =
      let kept : get_or now s (pos 0) ≡ get_or old s (pos 0) =
      ap (λ (l : List ℤ). get_or l s (pos 0)) so.is ∙ filled_above (λ q. get_or old q (pos 0) +ℤ own q) s old s (pos 0) (omega arith) in
      rw kept (same64 (get_or old s (pos 0)) (small.pnl_in s low))

  -- the next sum is a P&L's size
  pub add_small : PnlIn (in64 (get_or now s (pos 0)))
  add_small = record { most = rw sum_same (small.pnl_in s low) }

  -- it is stored with its term
  pub add_next : (one term z : ℤ) → one ≡ in64 (get_or now s (pos 0)) → term ≡ own s → mag z < 2 ^ 63 → z ≡ one +ℤ term
      → FilledTo (λ q. get_or old q (pos 0) +ℤ own q) (length old) old (s + 1) (set now s (in64 z))
  add_next one term z one_is term_is fits is =
      fill_next (λ q. get_or old q (pos 0) +ℤ own q) (length old) old (le_refl (length old)) s now so (in64 z) low
      (came w64 z fits (is ∙ rw (one_is, term_is, sum_same)))

-- ---- one vertex's returns among all vertices

-- the LP returns from entry `at` on, as they are cut out
abbrev pub row_at : List ℤ → ℕ → ℕ → List ℤ
row_at returns at lp = take (at + lp - at) (drop at returns)

module _ (r : ℕ → ℕ → ℤ) (exposures returns : List ℤ) (lp : ℕ) (rows : RowsOf r exposures returns lp) where
  -- each return is small
  pub rows_small : (u s : ℕ) → u < length exposures → s < lp → nat_abs (r u s) ≤ 1000000
  rows_small u s below small =
      rw (← rows.are u s below small) (rows.return_in (u * lp + s) (omega (arith, entries_fit u (length exposures) lp below)))

  module _ (v at : ℕ) (place : at ≡ v * lp) (low : v < length exposures) where
    rows_end : at + lp ≤ length exposures * lp
    rows_end = omega (arith, place, entries_fit v (length exposures) lp low)

    -- vertex v's returns lie within
    pub rows_within : at + lp ≤ length returns
    rows_within = omega (arith, rows_end, rows.size)

    -- LP of them
    pub own_size : length (row_at returns at lp) ≡ lp
    own_size = cut_length returns at lp rows_within

    own_at : (s : ℕ) → s < lp → get_or (row_at returns at lp) s (pos 0) ≡ r v s
    own_at s small =
        cut_at returns at lp rows_within s (pos 0) small
        ∙ (ap (λ (a : ℕ). get_or returns (a + s) (pos 0)) place ∙ rows.are v s low small)

    -- and they are its row
    pub own_row : RowOf (r v) (row_at returns at lp)
    own_row =
        record {
          size_in = omega (arith, own_size, rows.scenarios_in);
          return_in = λ s small. let less : s < lp = omega (arith, own_size) in rw (own_at s less) (rows_small v s low less);
          are = λ s small. own_at s (omega (arith, own_size));
        }

    own_small : ExposureIn (get_or exposures v (pos 0))
    own_small = record { most = omega (arith, total_item (λ u. nat_abs (get_or exposures u (pos 0))) v (length exposures) low, rows.exposures_in) }

    -- and lies in its range
    pub own_in : ExposureIn (in64 (get_or exposures v (pos 0)))
    own_in = exposure_in_lem (get_or exposures v (pos 0)) own_small

-- ---- sums vertex by vertex

-- a pass has summed the first v vertices' terms
pub record SummedTo (r : ℕ → ℕ → ℤ) (exposures : List ℤ) (lp v : ℕ) (now : List ℤ) : Type 0 where
  pub bound : v ≤ length exposures
  pub size : length now ≡ lp
  pub are : (s : ℕ) → s < lp → get_or now s (pos 0) ≡ listed_up_to exposures r v s

module _ (r : ℕ → ℕ → ℤ) (exposures returns : List ℤ) (lp : ℕ) (rows : RowsOf r exposures returns lp) where
  -- no vertex yet
  pub summed_none : SummedTo r exposures lp 0 (replicate lp (pos 0))
  summed_none = record {
    bound = omega arith;
    size = length-replicate lp (pos 0);
    are = λ s low. get_or-replicate lp s (pos 0) (pos 0) low ∙ sym (pnl_none (λ u. get_or exposures u (pos 0)) r s);
  }

  module _ (v : ℕ) (now : List ℤ) (so : SummedTo r exposures lp v now) where
    -- every vertex
    pub summed_end : (old : List ℤ) → length old ≡ lp → length exposures ≤ v → now ≡ filled (listed_pnl exposures r) (length old) old
    summed_end old size high =
        let end : v ≡ length exposures = omega (arith, so.bound) in
        filled_is (listed_pnl exposures r) (length old) old now (pos 0) (le_refl (length old)) (so.size ∙ sym size)
        (λ s low. so.are s (omega (arith, size)) ∙ ap (λ (n : ℕ). listed_up_to exposures r n s) end)
        (λ s past. get_or-eq_default now (pos 0) (omega (arith, so.size, size)) ∙ sym (get_or-eq_default old (pos 0) past))

    -- the sums are P&Ls
    pub summed_small : Pnls now
    summed_small = record {
      size_in = omega (arith, so.size, rows.scenarios_in);
      pnl_in = λ s low.
          let within : s < lp = omega (arith, so.size) in
          rw (so.are s within)
          (omega (
            arith,
            pnl_size v 1000000 (λ u. get_or exposures u (pos 0)) r s (λ u below. rows_small r exposures returns lp rows u s (omega (arith, so.bound)) within),
            total_grows (λ u. nat_abs (get_or exposures u (pos 0))) v (length exposures) so.bound,
            rows.exposures_in,
          ));
    }

    -- one vertex more
    pub summed_next : (new : List ℤ) → v < length exposures
        → new ≡ filled (λ s. get_or now s (pos 0) +ℤ get_or exposures v (pos 0) *ℤ r v s) (length now) now → SummedTo r exposures lp (v + 1) new
    summed_next new low is = record {
      bound = omega arith;
      size = ap length is ∙ (filled-length (λ s. get_or now s (pos 0) +ℤ get_or exposures v (pos 0) *ℤ r v s) (length now) now (le_refl (length now)) ∙ so.size);
      are = λ s within.
          filled_read (λ q. get_or now q (pos 0) +ℤ get_or exposures v (pos 0) *ℤ r v q) (length now) now new s (pos 0) is (omega (arith, so.size))
          ∙ (ap (λ (z : ℤ). z +ℤ get_or exposures v (pos 0) *ℤ r v s) (so.are s within) ∙ sym (pnl_next v (λ u. get_or exposures u (pos 0)) r s));
    }

-- ---- U vertex by vertex

-- the T that listed vertex v alone has
abbrev pub alone_at : ℕ → List ℤ → (ℕ → ℕ → ℤ) → ℕ → ℕ → ℕ → ℕ
alone_at mode x r lp k v = vertex_tail mode (get_or x v (pos 0)) (r v) lp k

-- a pass has added the first v of them
pub record AddedTo (mode : ℕ) (x : List ℤ) (r : ℕ → ℕ → ℤ) (lp k v sum : ℕ) : Type 0 where
  pub bound : v ≤ length x
  pub is : sum ≡ total (alone_at mode x r lp k) v

-- the first v vertices' U fits 64 bits by far
alone_small : (mode : ℕ) (x : List ℤ) (r : ℕ → ℕ → ℤ) (returns : List ℤ) (lp k v : ℕ) → RowsOf r x returns lp → In 1 16 k → v ≤ length x
    → total (alone_at mode x r lp k) v ≤ 1600000000000000000
alone_small mode x r returns lp k v rows k_in within =
    omega (
      arith,
      undiversified_size mode v r lp k (λ u. get_or x u (pos 0)) 100000000000 1000000
          (le_trans (total_grows (λ u. nat_abs (get_or x u (pos 0))) v (length x) within) rows.exposures_in)
          (λ u s below small. rows_small r x returns lp rows u s (omega arith) small),
      k_in.1,
    )

module _ (mode : ℕ) (r : ℕ → ℕ → ℤ) (x returns : List ℤ) (lp k : ℕ) (rows : RowsOf r x returns lp) (k_in : In 1 16 k) where
  -- none yet
  pub alone_none : AddedTo mode x r lp k 0 0
  alone_none = record { bound = omega arith; is = sym (sum_none ◌+◌ 0 (alone_at mode x r lp k)) }

  module _ (v sum : ℕ) (so : AddedTo mode x r lp k v sum) where
    -- all of them
    pub alone_end : length x ≤ v → sum ≡ listed_undiversified mode x r lp k
    alone_end high = let end : v ≡ length x = omega (arith, so.bound) in so.is ∙ ap (total (alone_at mode x r lp k)) end

    -- vertex v's tail
    module _ (low : v < length x) (t : ℕ) (is : t ≡ alone_at mode x r lp k v) where
      sum_is : sum + t ≡ total (alone_at mode x r lp k) (v + 1)
      sum_is = rw (so.is, is) (sym (sum_next ◌+◌ 0 (alone_at mode x r lp k) v))

      -- it can be added
      pub alone_fits : sum + t ≤ 1600000000000000000
      alone_fits = rw sum_is (alone_small mode x r returns lp k (v + 1) rows k_in (omega arith))

      -- it is: one vertex more
      pub alone_next : AddedTo mode x r lp k (v + 1) (sum + t)
      alone_next = record { bound = omega arith; is = sum_is }
