-- Contracts between functions: what the passes of the code ask for and what they leave. No definition or statement of another
-- file here needs it.
use Rattle.std.specs.Prelude.{ℕ, ◌+◌, ◌*◌, ◌≤◌, List, ◌≡◌, ℤ, pos, length, get_or}
use Rattle.numbers.specs.Buffers.{placed}
use Rattle.numbers.specs.Findings.{Passed}
use Rattle.reading.specs.Book.{Market, market_of, positions_of}
use Rattle.reading.specs.Parameters.{lookback, tail_mode, decorrelation, tail_count}
use Rattle.reading.specs.InnerContracts.{SoundParameters}
use Rattle.reading.specs.Vertices.{vertex_count}
use Rattle.scenarios.specs.Buffer.{returns_size}
use Rattle.scenarios.specs.Check.{check_book}
use Rattle.tails.specs.InnerContracts.{Pnls, listed_pnl, listed_undiversified}
use Rattle.tails.specs.Losses.{loss}
use Rattle.tails.specs.Ranking.{tail_sum, tail_list}
use Rattle.margin.specs.declared.Figures.{Figures}
use Rattle.margin.specs.declared.Charge.{Charge}
use Rattle.margin.specs.Figures.{charge_of, figures_of}
use Rattle.margin.specs.Run.{exposures_in, returns_in, list_in}

-- the losses of a list of exposures, by returns of one kind
abbrev pub listed_loss : ℕ → List ℤ → (ℕ → ℕ → ℤ) → ℕ → ℕ
listed_loss mode x r s = loss mode (listed_pnl x r s)

-- the losses of P&Ls, by these parameters
abbrev pub pnl_loss : List ℕ → List ℤ → ℕ → ℕ
pnl_loss p pnls s = loss (tail_mode p) (get_or pnls s (pos 0))

-- parameters that passed, the mode and the k that they ask for, and k at most LP
pub record Asked (p : List ℕ) (mode k : ℕ) : Type 0 where
  pub parameters : SoundParameters p
  pub enough : tail_count p ≤ lookback p
  pub mode_is : mode ≡ tail_mode p
  pub k_is : k ≡ tail_count p

-- LP scenarios, and room for the list from entry `at` on
pub record Ready (p : List ℕ) (lp at : ℕ) (list : List ℕ) : Type 0 where
  pub scenarios : lp ≡ lookback p
  pub at_in : at ≤ 16
  pub room : at + tail_count p ≤ length list

-- the scenarios' P&Ls and a U that their T does not exceed
pub record Summed (p : List ℕ) (pnls : List ℤ) (undiversified at : ℕ) (list : List ℕ) : Type 0 where
  pub size : length pnls ≡ lookback p
  pub small : Pnls pnls
  pub within : tail_sum (pnl_loss p pnls) (lookback p) (tail_count p) ≤ undiversified
  pub at_in : at ≤ 16
  pub room : at + tail_count p ≤ length list

-- T, U, D and M of these losses and this U, and the list in the buffer
pub record Charged (losses : ℕ → ℕ) (p : List ℕ) (undiversified at : ℕ) (list : List ℕ) (charge : Charge) (list' : List ℕ) : Type 0 where
  pub figures : charge ≡ charge_of (decorrelation p) (tail_sum losses (lookback p) (tail_count p)) undiversified
  pub listed : list' ≡ placed (λ j. get_or (tail_list losses (lookback p) (tail_count p)) j 0) at (tail_count p) list

-- those of a list of exposures by returns of one kind
abbrev pub ChargeDone : (ℕ → ℕ → ℤ) → List ℕ → List ℤ → ℕ → List ℕ → Charge → List ℕ → Type 0
ChargeDone r p x at list charge list' =
    Charged (listed_loss (tail_mode p) x r) p (listed_undiversified (tail_mode p) x r (lookback p) (tail_count p)) at list charge list'

-- a book that passed 1 to 21, its exposures and returns in buffers that held something before, and room for its list
pub record Computed (book : List ℕ) (exposures returns : List ℤ) (list : List ℕ) : Type 0 where
  pub passed : check_book book ≡ Passed
  pub exposures_before : List ℤ
  pub returns_before : List ℤ
  pub exposures_fit : vertex_count (market_of book).vertices ≤ length exposures_before
  pub returns_fit : returns_size (market_of book) ≤ length returns_before
  pub exposed : exposures ≡ exposures_in (market_of book) (positions_of book) exposures_before
  pub returned : returns ≡ returns_in (market_of book) returns_before
  pub room : 2 * tail_count (market_of book).parameters ≤ length list

-- all figures of a book that passed, and its three buffers
pub record Done (m : Market) (positions : List ℕ) (exposures returns : List ℤ) (list : List ℕ) (f : Figures) (exposures' returns' : List ℤ) (list' : List ℕ) : Type 0 where
  pub figures : f ≡ figures_of m positions
  pub exposed : exposures' ≡ exposures_in m positions exposures
  pub returned : returns' ≡ returns_in m returns
  pub listed : list' ≡ list_in m positions list
