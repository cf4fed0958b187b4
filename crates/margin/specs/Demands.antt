-- Demand 3, over the bytes of books: what holds of every accepted book, unscaled and scaled.
use Rattle.std.specs.Prelude.{ℕ, ◌+◌, ◌*◌, ◌≤◌, ◌<◌, true, List, ◌≡◌, ℤ, pos, ◌*ℤ◌, length, take, drop, Ok}
use Rattle.margin.specs.declared.Figures.{Figures}
use Rattle.margin.specs.declared.Charge.{Charge}
use Rattle.numbers.specs.Findings.{Passed}
use Rattle.numbers.specs.Little.{u8_at}
use Rattle.reading.specs.Book.{market_of, positions_of, section_offset, section_end, positions_section}
use Rattle.reading.specs.Parameters.{lookback, decorrelation}
use Rattle.reading.specs.Vertices.{vertex_count}
use Rattle.valuing.specs.Mapping.{exposure}
use Rattle.valuing.specs.Order.{whole_positions, Reordered, Divided}
use Rattle.scenarios.specs.Scaled.{unscaled, scaled}
use Rattle.tails.specs.Ranking.{total_over, Choice}
use Rattle.margin.specs.Check.{Lent, check_buffers}
use Rattle.margin.specs.Figures.{loss_in, add_on}
use Rattle.margin.specs.Run.{outcome_of, outcome_to, Ran}

-- ---- 01's terms

-- "A book is accepted where the unit comes to a margin": with these buffers it comes to these figures
abbrev pub Accepted : List ℕ → Lent → Figures → Type 0
Accepted book b f = outcome_to book b ≡ outcome_of (Ok f)

-- "All else, or all but positions, is equal where two books differ at most in the positions and the sixth pair's length.": the
-- pairs up to the sixth offset, and all bytes from the first section to the positions
pub record AllElseEqual (book other : List ℕ) : Type 0 where
  pub pairs : (i : ℕ) → i < 44 → u8_at other i ≡ u8_at book i
  pub sections : (i : ℕ) → 48 ≤ i → i < section_offset book positions_section → u8_at other i ≡ u8_at book i

-- its sixth section ends at its end, and has whole records: what its own positions and sixth length must be to be a book
pub record Whole (book : List ℕ) : Type 0 where
  pub ends : section_end book positions_section ≡ length book
  pub records : whole_positions (positions_of book) ≡ true

-- "A reordered book has the same position records, each as often"
pub record Reordering (book other : List ℕ) : Type 0 where
  pub equal : AllElseEqual book other
  pub whole : Whole other
  pub records : Reordered (positions_of book) (positions_of other)

-- "a division puts each record into exactly one of its two books, in any order there". W2: "A division into two books may from then on
-- leave one empty."
pub record Division (book one other : List ℕ) : Type 0 where
  pub equal_one : AllElseEqual book one
  pub equal_other : AllElseEqual book other
  pub whole_one : Whole one
  pub whole_other : Whole other
  -- either may have no positions
  pub records : Divided (positions_of book) (positions_of one) (positions_of other)

-- "buffers that meet none of 22 to 24"
abbrev pub Enough : List ℕ → Lent → Type 0
Enough book b = check_buffers (market_of book) b ≡ Passed

-- each exposure of the other book is n times the book's on the same vertex
abbrev pub ExposuresTimes : ℕ → List ℕ → List ℕ → Type 0
ExposuresTimes n book other = (v : ℕ) → v < vertex_count (market_of book).vertices
    → exposure (market_of other) (positions_of other) v ≡ pos n *ℤ exposure (market_of book) (positions_of book) v

-- ---- the sentences

-- no choice totals more than the sum, and the listed scenarios are a choice that totals it
pub record LargestTotal (losses : ℕ → ℕ) (lp k sum : ℕ) (listed : List ℕ) : Type 0 where
  pub largest : (s : List ℕ) → Choice lp k s → total_over losses s ≤ sum
  pub different : Choice lp k listed
  pub totals : total_over losses listed ≡ sum

-- a run that came to a margin with these figures, and left this in the scenario list's buffer
pub record CameTo (book : List ℕ) (f : Figures) (list' : List ℕ) : Type 0 where
  -- what the buffers held
  pub exposures : List ℤ
  pub returns : List ℤ
  pub list : List ℕ
  -- and hold after the run
  pub exposures' : List ℤ
  pub returns' : List ℤ
  pub ran : Ran book exposures returns list (Ok f) exposures' returns' list'

-- "For every accepted book, unscaled and scaled, the reported tail sum is the largest total of losses over all choices of k different
-- scenarios. The k listed scenarios are all different and their losses total exactly it.": "losses go by the returns of the kind in
-- hand, and the listed scenarios are that kind's k entries in the scenario list"
pub record TailDemand : Type 0 where
  pub unscaled_tail : (book : List ℕ) (f : Figures) (list' : List ℕ) → CameTo book f list'
      → LargestTotal (loss_in (market_of book) (unscaled (market_of book)) (positions_of book)) (lookback (market_of book).parameters) f.k f.unscaled.tail
      (take f.k list')
  pub scaled_tail : (book : List ℕ) (f : Figures) (list' : List ℕ) → CameTo book f list'
      → LargestTotal (loss_in (market_of book) (scaled (market_of book)) (positions_of book)) (lookback (market_of book).parameters) f.k f.scaled.tail
      (take f.k (drop f.k list'))

-- neither factor of (100 − p) × (U − T) is negative, and the add-on is that / 100, rounded up
pub record NeverNegative (p : ℕ) (charge : Charge) : Type 0 where
  pub percent : p ≤ 100
  pub difference : charge.tail ≤ charge.undiversified
  pub rounded : charge.addon ≡ add_on p charge.tail charge.undiversified

-- "The add-on is never negative."
pub record AddOnDemand : Type 0 where
  pub unscaled_add_on : (book : List ℕ) (b : Lent) (f : Figures) → Accepted book b f → NeverNegative (decorrelation (market_of book).parameters) f.unscaled
  pub scaled_add_on : (book : List ℕ) (b : Lent) (f : Figures) → Accepted book b f → NeverNegative (decorrelation (market_of book).parameters) f.scaled

-- "For every order of an accepted book's positions, all else equal, the reordered book is accepted and its margin is the same.":
-- accepted with the same figures, all of them
abbrev pub OrderDemand : Type 0
OrderDemand = (book other : List ℕ) (b c : Lent) (f : Figures) → Accepted book b f → Reordering book other → Enough other c → Accepted other c f

-- both are accepted, and these euros are at most the sum of theirs
pub record BothAccepted (one other : List ℕ) (c d : Lent) (euros : ℕ) : Type 0 where
  pub first : Figures
  pub second : Figures
  pub first_accepted : Accepted one c first
  pub second_accepted : Accepted other d second
  pub at_most : euros ≤ first.euros + second.euros

-- "For every division of those positions into two non-empty books, all else equal, both are accepted and the margin of the whole is
-- at most the sum of the two margins." Since W2 one of the two may be empty
abbrev pub DivisionDemand : Type 0
DivisionDemand = (book one other : List ℕ) (b c d : Lent) (f : Figures) → Accepted book b f → Division book one other → Enough one c → Enough other d
    → BothAccepted one other c d f.euros

-- T and U are n times the first ones, of one kind and of both
pub record Times (n : ℕ) (charge other : Charge) : Type 0 where
  pub tails : other.tail ≡ n * charge.tail
  pub undiversifieds : other.undiversified ≡ n * charge.undiversified

pub record BothTimes (n : ℕ) (f g : Figures) : Type 0 where
  pub unscaled_times : Times n f.unscaled g.unscaled
  pub scaled_times : Times n f.scaled g.scaled

-- "For every two accepted books with all but positions equal, and every n that is 0 or a positive whole number: where each exposure
-- of one is n times the other's on the same vertex, its tail sum and undiversified sum are n times the other's, unscaled and scaled."
abbrev pub MultipleDemand : Type 0
MultipleDemand = (book other : List ℕ) (b c : Lent) (f g : Figures) (n : ℕ) → Accepted book b f → Accepted other c g → AllElseEqual book other
    → ExposuresTimes n book other → BothTimes n f g

-- demand 3, whole
pub record Demand3 : Type 0 where
  pub tail : TailDemand
  pub add_on : AddOnDemand
  pub order : OrderDemand
  pub division : DivisionDemand
  pub multiple : MultipleDemand
