-- What the functions of the whole book cite: the figures and lists of both kinds, from exposures and returns as the buffers hold
-- them.
-- Assumes nothing.
use Prim.Native.Nat.{ℕ, ◌+◌, ◌-◌, ◌*◌, ◌≤◌, ◌<◌}
use mathlib.Core.List.{List, ◌++◌}
use mathlib.Core.Path.{◌≡◌, refl, sym, ap, ◌∙◌, subst}
use native.Mathlib.Omega.{arith}
use lib.IntN.{ℤ, pos}
use lib.ListN.{length, take, drop, get_or, length-drop}
use lib.Seq.{take-append_seam, drop-append_seam, length-take-le, get_or-take, get_or-drop, drop-drop}
use Rattle.margin.specs.declared.Charge.{Charge}
use Rattle.numbers.specs.Buffers.{table, filled, placed}
use Rattle.numbers.proofs.Buffers.{filled-length, filled_read, placed-length}
use Rattle.reading.specs.Book.{Market, market_of, positions_of}
use Rattle.reading.specs.Parameters.{lookback, tail_mode, tail_count}
use Rattle.numbers.specs.Conditions.{In}
use Rattle.reading.specs.InnerContracts.{SoundParameters}
use Rattle.reading.specs.Vertices.{vertex_count}
use Rattle.valuing.specs.Mapping.{exposure}
use Rattle.scenarios.specs.Buffer.{kind_size, returns_size, returns_entry}
use Rattle.scenarios.specs.Scaled.{unscaled, scaled}
use Rattle.scenarios.proofs.Vertices.{kind_small}
use Rattle.tails.specs.InnerContracts.{Exposed, RowsOf, listed_undiversified}
use Rattle.tails.specs.Losses.{loss}
use Rattle.tails.specs.Ranking.{tail_list}
use Rattle.tails.specs.Undiversified.{undiversified}
use Rattle.tails.proofs.Books.{book_exposed, list_fits, unscaled_rows_lem, scaled_rows_lem}
use Rattle.tails.proofs.Losses.{listed_pnl_lem}
use Rattle.tails.proofs.Results.{table_list as whole_list}
use Rattle.tails.proofs.PnlTails.{undiversified_exposures_same}
use Rattle.tails.proofs.Tails.{list_choice, list_same, tail_same}
use Rattle.margin.specs.Figures.{loss_in, list_of, undiversified_of, charge_by, figures_by, figures_of, euros_of}
use Rattle.margin.specs.InnerContracts.{listed_loss, Ready, ChargeDone, Computed}
use Rattle.margin.specs.Run.{list_in}

-- ---- a list that holds the exposures

module _ (m : Market) (positions : List ℕ) (r : ℕ → ℕ → ℤ) (xs : List ℤ) (size : length xs ≡ vertex_count m.vertices)
    (same : (v : ℕ) → v < vertex_count m.vertices → get_or xs v (pos 0) ≡ exposure m positions v)
    (at : ℕ) (old : List ℕ) (charge : Charge) (new : List ℕ) (is : ChargeDone r m.parameters xs at old charge new) where
  losses : (s : ℕ) → s < lookback m.parameters → listed_loss (tail_mode m.parameters) xs r s ≡ loss_in m r positions s
  losses s low = ap (loss (tail_mode m.parameters)) (listed_pnl_lem (vertex_count m.vertices) s xs (exposure m positions) r size same)

  alone : listed_undiversified (tail_mode m.parameters) xs r (lookback m.parameters) (tail_count m.parameters) ≡ undiversified_of m r positions
  alone =
      ap (λ (n : ℕ). undiversified (tail_mode m.parameters) n (λ v. get_or xs v (pos 0)) r (lookback m.parameters) (tail_count m.parameters)) size
      ∙ undiversified_exposures_same (tail_mode m.parameters) (vertex_count m.vertices) (lookback m.parameters) (tail_count m.parameters)
      (λ v. get_or xs v (pos 0)) (exposure m positions) r r same (λ v s low small. refl)

  -- its T, U, D and M are the positions'
  pub same_charge : charge ≡ charge_by m r positions
  same_charge =
      is.figures
      ∙ rw (tail_same (listed_loss (tail_mode m.parameters) xs r) (loss_in m r positions) (lookback m.parameters) (tail_count m.parameters) losses, alone)

  -- and so is its list
  pub same_list : new ≡ placed (λ j. get_or (list_of m r positions) j 0) at (tail_count m.parameters) old
  same_list =
      is.listed
      ∙ ap (λ (l : List ℕ). placed (λ j. get_or l j 0) at (tail_count m.parameters) old)
      (list_same (listed_loss (tail_mode m.parameters) xs r) (loss_in m r positions) (lookback m.parameters) (tail_count m.parameters) losses)

-- ---- two lists, one after the other

table_list : (l : List ℕ) (k : ℕ) → length l ≡ k → table (λ j. get_or l j 0) k 0 ≡ l
table_list l k size = ap (λ (n : ℕ). table (λ j. get_or l j 0) n 0) (sym size) ∙ whole_list l

first_list : (k : ℕ) (l old : List ℕ) → length l ≡ k → placed (λ j. get_or l j 0) 0 k old ≡ l ++ drop k old
unfolding placed filled
first_list k l old size = ap (λ (s : List ℕ). s ++ drop k old) (table_list l k size)

-- put at the start and behind that
pub two_lists : (k : ℕ) (l q old : List ℕ) → length l ≡ k → length q ≡ k
    → placed (λ j. get_or q j 0) k k (placed (λ j. get_or l j 0) 0 k old) ≡ l ++ (q ++ drop (2 * k) old)
unfolding placed filled
two_lists k l q old size_l size_q =
    let held : List ℕ = l ++ drop k old in
    let before : take k held ≡ l = ap (λ (n : ℕ). take n held) (sym size_l) ∙ take-append_seam l (drop k old) in
    let after : drop k held ≡ drop k old = ap (λ (n : ℕ). drop n held) (sym size_l) ∙ drop-append_seam l (drop k old) in
    let twice : k + k ≡ 2 * k = omega arith in
    ap (λ (s : List ℕ). take k s ++ (table (λ j. get_or q j 0) k 0 ++ drop k (drop k s))) (first_list k l old size_l)
    ∙ (ap (λ (s : List ℕ). s ++ (table (λ j. get_or q j 0) k 0 ++ drop k (drop k held))) before
    ∙ (ap (λ (s : List ℕ). l ++ (s ++ drop k (drop k held))) (table_list q k size_q)
    ∙ (ap (λ (s : List ℕ). l ++ (q ++ drop k s)) after
    ∙ ap (λ (s : List ℕ). l ++ (q ++ s)) (drop-drop k k old ∙ ap (λ (n : ℕ). drop n old) twice))))

-- ---- the whole book, with its counts as they were read

module _ {book : List ℕ} {exposures returns : List ℤ} {list : List ℕ} (done : Computed book exposures returns list)
    (p : List ℕ) (p_is : p ≡ (market_of book).parameters) where
  abbrev m : Market
  m = market_of book

  abbrev positions : List ℕ
  positions = positions_of book

  exposed : Exposed m positions
  exposed = book_exposed book done.passed

  -- the parameters passed
  pub whole_parameters : SoundParameters p
  whole_parameters = rw p_is exposed.scenarios.market.parameters

  -- k is at most LP
  pub whole_enough : tail_count p ≤ lookback p
  whole_enough = rw p_is (list_fits exposed)

  -- k is in its range
  pub whole_tail : (k : ℕ) → k ≡ tail_count p → In 1 16 k
  whole_tail k is = rw is whole_parameters.tail_in

  module _ (n lp half : ℕ) (n_is : n ≡ vertex_count (market_of book).vertices) (lp_is : lp ≡ lookback p) (half_is : half ≡ kind_size (market_of book)) where
    -- a kind's returns are few
    pub whole_half : half ≤ 65536
    whole_half = rw half_is (kind_small m exposed.scenarios.market)

    exposures_size : length exposures ≡ length done.exposures_before
    exposures_size = ap length done.exposed ∙ filled-length (exposure m positions) (vertex_count m.vertices) done.exposures_before done.exposures_fit

    returns_size_lem : length returns ≡ length done.returns_before
    returns_size_lem = ap length done.returned ∙ filled-length (returns_entry m) (returns_size m) done.returns_before done.returns_fit

    -- the exposures and both kinds' returns are there
    pub whole_exposures : n ≤ length exposures
    whole_exposures = omega (arith, exposures_size, done.exposures_fit, n_is)

    pub whole_returns : 2 * half ≤ length returns
    whole_returns = omega (arith, returns_size_lem, done.returns_fit, half_is)

    -- the exposures, the unscaled and the scaled returns, as they are cut out
    abbrev xs : List ℤ
    xs = take n exposures

    abbrev firsts : List ℤ
    firsts = take half returns

    abbrev seconds : List ℤ
    seconds = take (length returns - half) (drop half returns)

    xs_size : length xs ≡ vertex_count m.vertices
    xs_size = length-take-le n exposures whole_exposures ∙ n_is

    xs_at : (v : ℕ) → v < vertex_count m.vertices → get_or xs v (pos 0) ≡ exposure m positions v
    xs_at v low =
        get_or-take n exposures v (pos 0) (omega (arith, n_is))
        ∙ filled_read (exposure m positions) (vertex_count m.vertices) done.exposures_before exposures v (pos 0) done.exposed low

    pub whole_firsts : length firsts ≡ half
    whole_firsts = length-take-le half returns (omega (arith, whole_returns))

    firsts_at : (i : ℕ) → i < kind_size m → get_or firsts i (pos 0) ≡ get_or returns i (pos 0)
    firsts_at i low = get_or-take half returns i (pos 0) (omega (arith, half_is))

    seconds_size : length seconds ≡ length returns - half
    seconds_size = length-take-le (length returns - half) (drop half returns) (omega (arith, length-drop half returns))

    seconds_at : (i : ℕ) → i < kind_size m → get_or seconds i (pos 0) ≡ get_or returns (kind_size m + i) (pos 0)
    seconds_at i low =
        get_or-take (length returns - half) (drop half returns) i (pos 0) (omega (arith, half_is, whole_returns))
        ∙ (get_or-drop half returns i (pos 0) ∙ ap (λ (j : ℕ). get_or returns (j + i) (pos 0)) half_is)

    -- the parameters as they were read are the market's
    own : (r : ℕ → ℕ → ℤ) (at : ℕ) (old : List ℕ) (charge : Charge) (new : List ℕ) → ChargeDone r p xs at old charge new → ChargeDone r m.parameters xs at old charge new
    own r at old charge new is = rw (← p_is) is

    -- the rows of either kind
    pub unscaled_rows : RowsOf (unscaled m) xs firsts lp
    unscaled_rows =
        subst (λ (a : ℕ). RowsOf (unscaled m) xs firsts a) (sym (lp_is ∙ ap lookback p_is))
        (unscaled_rows_lem exposed xs firsts xs_size xs_at done.returns_before returns done.returned (omega (arith, whole_firsts, half_is)) firsts_at)

    pub scaled_rows : RowsOf (scaled m) xs seconds lp
    scaled_rows =
        subst (λ (a : ℕ). RowsOf (scaled m) xs seconds a) (sym (lp_is ∙ ap lookback p_is))
        (scaled_rows_lem exposed xs seconds xs_size xs_at done.returns_before returns done.returned (omega (arith, seconds_size, whole_returns, half_is)) seconds_at)

    -- a kind can be computed where there is room for its list
    ready_at : (at : ℕ) (l : List ℕ) → at ≤ 16 → at + tail_count p ≤ length l → Ready p lp at l
    ready_at at l at_in room = record {
      scenarios = lp_is;
      at_in = at_in;
      room = room;
    }

    -- the unscaled kind can be computed
    pub whole_unscaled : Ready p lp 0 list
    whole_unscaled = ready_at 0 list (omega arith) (rw p_is (omega (arith, done.room)))

    module _ (k : ℕ) (k_is : k ≡ tail_count p) (one : Charge) (list₁ : List ℕ) (is₁ : ChargeDone (unscaled m) p xs 0 list one list₁) where
      first_size : length list₁ ≡ length list
      first_size =
          ap length is₁.listed
          ∙ placed-length (λ j. get_or (tail_list (listed_loss (tail_mode p) xs (unscaled m)) (lookback p) (tail_count p)) j 0) 0 (tail_count p) list whole_unscaled.room

      -- and then the scaled kind
      pub whole_scaled : Ready p lp k list₁
      whole_scaled = ready_at k list₁ (rw (k_is, p_is) exposed.scenarios.market.parameters.tail_in.1) (rw (k_is, p_is) (omega (arith, done.room, first_size)))

      module _ (other : Charge) (list₂ : List ℕ) (is₂ : ChargeDone (scaled m) p xs k list₁ other list₂) where
        one_is : one ≡ charge_by m (unscaled m) positions
        one_is = same_charge m positions (unscaled m) xs xs_size xs_at 0 list one list₁ (own (unscaled m) 0 list one list₁ is₁)

        other_is : other ≡ charge_by m (scaled m) positions
        other_is = same_charge m positions (scaled m) xs xs_size xs_at k list₁ other list₂ (own (scaled m) k list₁ other list₂ is₂)

        -- the figures are the positions'
        pub whole_figures : (euros : ℕ) → euros ≡ euros_of k one.total other.total
            → record { k = k; unscaled = one; scaled = other; euros = euros } ≡ figures_of m positions
        unfolding figures_by
        whole_figures euros is = rw (is, k_is, p_is, one_is, other_is)

        -- and so are the lists
        pub whole_lists : list₂ ≡ list_in m positions list
        whole_lists =
            same_list m positions (scaled m) xs xs_size xs_at k list₁ other list₂ (own (scaled m) k list₁ other list₂ is₂)
            ∙ (ap (λ (l : List ℕ). placed (λ i. get_or (list_of m (scaled m) positions) i 0) k (tail_count m.parameters) l)
            (same_list m positions (unscaled m) xs xs_size xs_at 0 list one list₁ (own (unscaled m) 0 list one list₁ is₁))
            ∙ (ap (λ (j : ℕ). placed (λ i. get_or (list_of m (scaled m) positions) i 0) j (tail_count m.parameters) (placed (λ i. get_or (list_of m (unscaled m) positions) i 0) 0 (tail_count m.parameters) list)) (k_is ∙ ap tail_count p_is)
            ∙ two_lists (tail_count m.parameters) (list_of m (unscaled m) positions) (list_of m (scaled m) positions) list (counted (unscaled m)) (counted (scaled m))))
          where
            counted : (r : ℕ → ℕ → ℤ) → length (list_of m r positions) ≡ tail_count m.parameters
            counted r = (list_choice (loss_in m r positions) (lookback m.parameters) (tail_count m.parameters) (list_fits exposed)).count
