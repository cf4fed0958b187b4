-- What the functions of one kind cite: its P&Ls, its tail and its list, and that T is at most U.
-- Assumes nothing.
use Prim.Native.Nat.{ℕ, ◌-◌, ◌≤◌, ◌<◌}
use mathlib.Core.List.{List, ◌++◌}
use mathlib.Core.Path.{◌≡◌, subst, ap, ◌∙◌}
use native.Mathlib.Nat.{le_refl}
use native.Mathlib.Omega.{arith}
use lib.IntN.{ℤ, pos}
use lib.ListN.{length, take, get_or, replicate, length-append, get_or-append}
use lib.Seq.{take_all, take-append-le, length-take-le, get_or-take}
use Rattle.margin.specs.declared.Charge.{Charge}
use Rattle.numbers.specs.Buffers.{filled, placed}
use Rattle.numbers.proofs.Buffers.{filled-length, filled_read}
use Rattle.reading.specs.Parameters.{lookback, tail_mode, decorrelation, tail_count}
use Rattle.tails.specs.InnerContracts.{Pnls, RowsOf, listed_pnl, listed_undiversified, padded, IsTail}
use Rattle.tails.specs.Losses.{loss}
use Rattle.tails.specs.Ranking.{tail_list}
use Rattle.tails.proofs.Losses.{pnl_size}
use Rattle.tails.proofs.Padded.{padded-length}
use Rattle.tails.proofs.PnlTails.{tail_at_most_undiversified}
use Rattle.tails.proofs.Sums.{rows_small}
use Rattle.tails.proofs.Tails.{list_choice, list_same, tail_same}
use Rattle.margin.specs.Figures.{charge_of}
use Rattle.margin.specs.InnerContracts.{listed_loss, pnl_loss, Asked, Ready, Summed, Charged, ChargeDone}

-- ---- sixteen numbers of which the first k are the list

module _ (f : ℕ → ℕ) (n k t : ℕ) (l : List ℕ) (enough : k ≤ n) (most : k ≤ 16) (is : IsTail f n k t l) where
  count : length (tail_list f n k) ≡ k
  count = (list_choice f n k enough).count

  -- there are sixteen
  pub listed_sixteen : length l ≡ 16
  listed_sixteen = ap length is.listed ∙ padded-length 16 (tail_list f n k) (omega (arith, count))

  -- the first k
  pub listed_first : take k l ≡ tail_list f n k
  unfolding padded
  listed_first =
      ap (take k) is.listed
      ∙ (take-append-le k (tail_list f n k) (replicate (16 - length (tail_list f n k)) 0) (omega (arith, count))
      ∙ take_all k (tail_list f n k) (omega (arith, count)))

-- ---- the tail of P&Ls, with the parameters as they were read

module _ {p : List ℕ} {pnls : List ℤ} {mode k u at : ℕ} {list : List ℕ} (asked : Asked p mode k) (summed : Summed p pnls u at list)
    (t : ℕ) (l : List ℕ) (is : IsTail (λ s. loss mode (get_or pnls s (pos 0))) (length pnls) k t l) where
  whole : IsTail (pnl_loss p pnls) (lookback p) (tail_count p) t l
  whole =
      subst (λ (a : ℕ). IsTail (λ s. loss a (get_or pnls s (pos 0))) (lookback p) (tail_count p) t l) asked.mode_is
      (subst (λ (j : ℕ). IsTail (λ s. loss mode (get_or pnls s (pos 0))) (lookback p) j t l) asked.k_is
      (subst (λ (n : ℕ). IsTail (λ s. loss mode (get_or pnls s (pos 0))) n k t l) summed.size is))

  -- k numbers can be taken of it
  pub kind_first : k ≤ length l
  kind_first = omega (arith, asked.k_is, asked.parameters.tail_in.1, listed_sixteen _ _ _ _ _ asked.enough asked.parameters.tail_in.1 whole)

  kind_listed : take k l ≡ tail_list (pnl_loss p pnls) (lookback p) (tail_count p)
  kind_listed = ap (λ (j : ℕ). take j l) asked.k_is ∙ listed_first _ _ _ _ _ asked.enough asked.parameters.tail_in.1 whole

  kind_count : length (take k l) ≡ tail_count p
  kind_count = length-take-le k l kind_first ∙ asked.k_is

  -- the figures and the list
  pub kind_charged : (d : ℕ) (charge : Charge) (list' : List ℕ) → d ≡ decorrelation p → charge ≡ charge_of d t u
      → list' ≡ placed (λ j. get_or (take k l) j 0) at (length (take k l)) list → Charged (pnl_loss p pnls) p u at list charge list'
  kind_charged d charge list' d_is charge_is list_is =
      record {
        figures = charge_is ∙ (ap (λ (a : ℕ). charge_of a t u) d_is ∙ ap (λ (a : ℕ). charge_of (decorrelation p) a u) whole.total);
        listed = list_is
            ∙ (ap (λ (n : ℕ). placed (λ j. get_or (take k l) j 0) at n list) kind_count
            ∙ ap (λ (s : List ℕ). placed (λ j. get_or s j 0) at (tail_count p) list) kind_listed);
      }

-- ---- the P&Ls of exposures and of one kind's returns, in the first LP entries of a local buffer

module _ {r : ℕ → ℕ → ℤ} {p : List ℕ} {x returns : List ℤ} {lp at mode k : ℕ} {list : List ℕ} (rows : RowsOf r x returns lp) (asked : Asked p mode k) (ready : Ready p lp at list) where
  module _ (old : List ℤ) (room : 1024 ≤ length old) where
    -- LP entries of it
    pub scratch_size : length (take lp old) ≡ lp
    scratch_size = length-take-le lp old (omega (arith, rows.scenarios_in))

    module _ (pnls rest : List ℤ) (is : pnls ≡ filled (listed_pnl x r) (length (take lp old)) (take lp old)) where
      filled_size : length pnls ≡ lp
      filled_size = ap length is ∙ (filled-length (listed_pnl x r) (length (take lp old)) (take lp old) (le_refl (length (take lp old))) ∙ scratch_size)

      -- they can be cut out again
      pub scratch_fits : lp ≤ length (pnls ++ rest)
      scratch_fits = omega (arith, length-append pnls rest, filled_size)

      pub scratch_cut : length (take lp (pnls ++ rest)) ≡ lp
      scratch_cut = length-take-le lp (pnls ++ rest) scratch_fits

      cut_is : (s : ℕ) → s < lookback p → get_or (take lp (pnls ++ rest)) s (pos 0) ≡ listed_pnl x r s
      cut_is s low =
          let below : s < lp = omega (arith, ready.scenarios) in
          get_or-take lp (pnls ++ rest) s (pos 0) below
          ∙ (get_or-append pnls rest (pos 0) s (omega (arith, filled_size))
          ∙ filled_read (listed_pnl x r) (length (take lp old)) (take lp old) pnls s (pos 0) is (omega (arith, scratch_size)))

      cut_small : Pnls (take lp (pnls ++ rest))
      cut_small = record {
        size_in = omega (arith, scratch_cut, ready.scenarios, asked.parameters.ranges.lookback_in.1);
        pnl_in = λ s low.
            let below : s < lookback p = omega (arith, scratch_cut, ready.scenarios) in
            rw (cut_is s below)
            (omega (
              arith,
              pnl_size (length x) 1000000 (λ v. get_or x v (pos 0)) r s (λ v under. rows_small r x returns lp rows v s under (omega (arith, scratch_cut))),
              rows.exposures_in,
            ));
      }

      same : (s : ℕ) → s < lookback p → pnl_loss p (take lp (pnls ++ rest)) s ≡ listed_loss (tail_mode p) x r s
      same s low = ap (loss (tail_mode p)) (cut_is s low)

      -- U, with the parameters as they were read
      module _ (u : ℕ) (u_is : u ≡ listed_undiversified mode x r lp k) where
        alone : u ≡ listed_undiversified (tail_mode p) x r (lookback p) (tail_count p)
        alone = rw (← asked.mode_is, ← asked.k_is, ← ready.scenarios) u_is

        -- T is at most U
        pub scratch_summed : Summed p (take lp (pnls ++ rest)) u at list
        scratch_summed =
            record {
              size = scratch_cut ∙ ready.scenarios;
              small = cut_small;
              within = rw (tail_same (pnl_loss p (take lp (pnls ++ rest))) (listed_loss (tail_mode p) x r) (lookback p) (tail_count p) same, alone)
                  (tail_at_most_undiversified (tail_mode p) (length x) r (lookback p) (tail_count p) (λ v. get_or x v (pos 0)));
              at_in = ready.at_in;
              room = ready.room;
            }

        -- the figures and the list of the exposures
        pub scratch_done : (charge : Charge) (list' : List ℕ) → Charged (pnl_loss p (take lp (pnls ++ rest))) p u at list charge list' → ChargeDone r p x at list charge list'
        scratch_done charge list' done =
            record {
              figures = done.figures
                  ∙ rw (tail_same (pnl_loss p (take lp (pnls ++ rest))) (listed_loss (tail_mode p) x r) (lookback p) (tail_count p) same, alone);
              listed = done.listed
                  ∙ rw (list_same (pnl_loss p (take lp (pnls ++ rest))) (listed_loss (tail_mode p) x r) (lookback p) (tail_count p) same);
            }
