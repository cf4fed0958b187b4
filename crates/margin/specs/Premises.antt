-- That demand 3 and W2 are about something: what meets each premise, for books, buffers and choices in general, and what each sentence
-- says of that. A premise or a sentence that asked for more would not give these.
use Rattle.std.specs.Prelude.{ℕ, ◌-◌, ◌*◌, ◌≤◌, ◌<◌, true, List, [], ◌++◌, ◌≡◌, ℤ, pos, ◌*ℤ◌, length, take, drop, get_or}
use Rattle.margin.specs.declared.Figures.{Figures}
use Rattle.numbers.specs.Findings.{Passed}
use Rattle.reading.specs.Book.{market_of, positions_of, section_offset, positions_section}
use Rattle.reading.specs.Parameters.{lookback, decorrelation, tail_count}
use Rattle.reading.specs.Vertices.{vertex_count}
use Rattle.valuing.specs.Mapping.{exposure}
use Rattle.valuing.specs.Order.{whole_positions, Reordered, Divided}
use Rattle.valuing.specs.Positions.{position_count, value_total}
use Rattle.scenarios.specs.Buffer.{returns_size}
use Rattle.scenarios.specs.Scaled.{unscaled, scaled}
use Rattle.tails.specs.Ranking.{total_over, Choice}
use Rattle.margin.specs.Check.{Lent, lent, check_run}
use Rattle.margin.specs.Demands.{Accepted, AllElseEqual, Whole, Reordering, Division, Enough, ExposuresTimes, CameTo, NeverNegative, BothAccepted, BothTimes}
use Rattle.margin.specs.Figures.{loss_in, figures_of}
use Rattle.margin.specs.NoTrades.{NoPositions}
use Rattle.margin.specs.Rebuilt.{with_positions, repeated}
use Rattle.margin.specs.Run.{list_in}

-- the losses of a book's scenarios by each kind of returns
abbrev pub unscaled_losses : List ℕ → ℕ → ℕ
unscaled_losses book = loss_in (market_of book) (unscaled (market_of book)) (positions_of book)

abbrev pub scaled_losses : List ℕ → ℕ → ℕ
scaled_losses book = loss_in (market_of book) (scaled (market_of book)) (positions_of book)

-- acceptance and runs
pub record RunsMet : Type 0 where
  -- a book and buffers that meet none of 1 to 24
  pub accepted : (book : List ℕ) (b : Lent) → check_run book b ≡ Passed → Accepted book b (figures_of (market_of book) (positions_of book))
  -- every run of an accepted book, whatever its buffers held
  pub came : (book : List ℕ) (exposures returns : List ℤ) (list : List ℕ) (f : Figures)
      → Accepted book (lent (length exposures) (length returns) (length list)) f → CameTo book f (list_in (market_of book) (positions_of book) list)
  -- buffers that are long enough
  pub enough : (book : List ℕ) (exposures returns list : ℕ) → vertex_count (market_of book).vertices ≤ exposures → returns_size (market_of book) ≤ returns
      → 2 * tail_count (market_of book).parameters ≤ list → Enough book (lent exposures returns list)
  -- any numbers below n, no two equal
  pub chosen : (n : ℕ) (s : List ℕ) → ((p q : ℕ) → p < q → q < length s → get_or s p 0 ≡ get_or s q 0 → ⊥) → ((p : ℕ) → p < length s → get_or s p 0 < n)
      → Choice n (length s) s
  -- whatever the buffers of an accepted book held: k different scenarios total at most T
  pub largest : (book : List ℕ) (exposures returns : List ℤ) (list : List ℕ) (f : Figures)
      → Accepted book (lent (length exposures) (length returns) (length list)) f → (s : List ℕ) → Choice (lookback (market_of book).parameters) f.k s
      → (total_over (unscaled_losses book) s ≤ f.unscaled.tail) × (total_over (scaled_losses book) s ≤ f.scaled.tail)
  -- and the listed ones are such, and total T
  pub listed : (book : List ℕ) (exposures returns : List ℤ) (list : List ℕ) (f : Figures)
      → Accepted book (lent (length exposures) (length returns) (length list)) f
      → let lp = lookback (market_of book).parameters in
      let first = take f.k (list_in (market_of book) (positions_of book) list) in
      let second = take f.k (drop f.k (list_in (market_of book) (positions_of book) list)) in
      Choice lp f.k first × Choice lp f.k second
      × (total_over (unscaled_losses book) first ≡ f.unscaled.tail) × (total_over (scaled_losses book) second ≡ f.scaled.tail)
  -- no add-on of an accepted book is negative
  pub add_ons : (book : List ℕ) (b : Lent) (f : Figures) → Accepted book b f
      → NeverNegative (decorrelation (market_of book).parameters) f.unscaled × NeverNegative (decorrelation (market_of book).parameters) f.scaled

-- two books, all else equal
pub record EqualMet : Type 0 where
  -- the same bytes up to the sixth length, and from the first section to the positions
  pub equal : (book other : List ℕ) → take 44 other ≡ take 44 book
      → take (section_offset book positions_section - 48) (drop 48 other) ≡ take (section_offset book positions_section - 48) (drop 48 book) → AllElseEqual book other
  -- every accepted book
  pub whole : (book : List ℕ) (b : Lent) (f : Figures) → Accepted book b f → Whole book

-- orders and divisions of positions
pub record OrderMet : Type 0 where
  -- neighbouring records swapped, wherever they stand: every order comes of that
  pub swapped : (s one other t : List ℕ) → whole_positions s ≡ true → whole_positions one ≡ true → whole_positions other ≡ true
      → Reordered (s ++ (one ++ (other ++ t))) (s ++ (other ++ (one ++ t)))
  -- one order after another
  pub further : (s t u : List ℕ) → Reordered s t → Reordered t u → Reordered s u
  -- the first records of any order, and the rest
  pub parted : (s one other : List ℕ) → whole_positions one ≡ true → Reordered s (one ++ other) → Divided s one other
  -- every order of an accepted book's positions is a reordered book
  pub reordered : (book : List ℕ) (b : Lent) (f : Figures) → Accepted book b f → (positions : List ℕ) → Reordered (positions_of book) positions
      → whole_positions positions ≡ true → Reordering book (with_positions book positions)
  -- which is accepted with the same figures
  pub reordered_accepted : (book : List ℕ) (b c : Lent) (f : Figures) → Accepted book b f → (positions : List ℕ) → Reordered (positions_of book) positions
      → whole_positions positions ≡ true → Enough (with_positions book positions) c → Accepted (with_positions book positions) c f
  -- every division of them is one into two books
  pub divided : (book : List ℕ) (b : Lent) (f : Figures) → Accepted book b f → (one other : List ℕ) → Divided (positions_of book) one other
      → whole_positions one ≡ true → whole_positions other ≡ true → Division book (with_positions book one) (with_positions book other)
  -- which are both accepted, and whose margins are no less together
  pub divided_accepted : (book : List ℕ) (b c d : Lent) (f : Figures) → Accepted book b f → (one other : List ℕ) → Divided (positions_of book) one other
      → whole_positions one ≡ true → whole_positions other ≡ true → Enough (with_positions book one) c → Enough (with_positions book other) d
      → BothAccepted (with_positions book one) (with_positions book other) c d f.euros

-- an accepted book with all but positions equal and n times the exposures
pub record HasTimes (n : ℕ) (book other : List ℕ) (b : Lent) : Type 0 where
  pub accepted : Accepted other b (figures_of (market_of other) (positions_of other))
  pub equal : AllElseEqual book other
  pub times : ExposuresTimes n book other

-- multiples of exposures
pub record MultipleMet : Type 0 where
  -- the positions n times over, none for 0, where they are not too many and their values not too large
  pub repeatedly : (book : List ℕ) (b : Lent) (f : Figures) → Accepted book b f → (n : ℕ) → n * position_count (positions_of book) ≤ 4096
      → n * value_total (market_of book).bonds (positions_of book) (position_count (positions_of book)) ≤ 100000000000
      → HasTimes n book (with_positions book (repeated n (positions_of book))) b
  -- every n, however the exposures come to it: n times T and U
  pub times : (book other : List ℕ) (b c : Lent) (f g : Figures) (n : ℕ) → Accepted book b f → Accepted other c g → AllElseEqual book other
      → ((v : ℕ) → v < vertex_count (market_of book).vertices
      → exposure (market_of other) (positions_of other) v ≡ pos n *ℤ exposure (market_of book) (positions_of book) v)
      → BothTimes n f g

-- no trades: W2
pub record NoTradesMet : Type 0 where
  -- every accepted book, without its positions
  pub emptied : (book : List ℕ) (b : Lent) (f : Figures) → Accepted book b f
      → Accepted (with_positions book []) b (figures_of (market_of book) []) × NoPositions (with_positions book [])
  -- "A division into two books may from then on leave one empty.": every accepted book, divided into itself and an empty one
  pub apart : (book : List ℕ) (b : Lent) (f : Figures) → Accepted book b f → Division book book (with_positions book [])
  -- which are both accepted, and whose margins are no less together
  pub apart_accepted : (book : List ℕ) (b c d : Lent) (f : Figures) → Accepted book b f → Enough book c → Enough (with_positions book []) d
      → BothAccepted book (with_positions book []) c d f.euros

-- all of them
pub record Premises : Type 0 where
  pub runs : RunsMet
  pub equals : EqualMet
  pub orders : OrderMet
  pub multiples : MultipleMet
  pub no_trades : NoTradesMet
