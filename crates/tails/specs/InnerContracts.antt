-- Contracts between functions: what the functions ask for and what they hand out, and what the passes of the code leave. No
-- definition or statement of another file here needs it.
use Rattle.std.specs.Prelude.{ℕ, ◌+◌, ◌*◌, zero, suc, ◌-◌, ◌≤◌, ◌<◌, min, max, List, [], ◌∷◌, ◌++◌, map, ltb, leb, ℤ, pos, nat_abs, ◌*ℤ◌, length, get_or, take, replicate, drop, Bool, ◌&&◌, ◌≡◌, if◌then◌else◌}
use Rattle.numbers.specs.Conditions.{In}
use Rattle.numbers.specs.Items.{total}
use Rattle.reading.specs.Book.{Market, market_of}
use Rattle.reading.specs.Vertices.{vertex_count}
use Rattle.valuing.specs.Mapping.{exposure}
use Rattle.scenarios.specs.InnerContracts.{Simulated}
use Rattle.tails.specs.declared.loss.Mode.{Mode}
use Rattle.tails.specs.declared.loss.Mode.TheVariants.{Single, Double}
use Rattle.tails.specs.declared.worst.Ranked.{Ranked}
use Rattle.tails.specs.Losses.{pnl, loss}
use Rattle.tails.specs.Ranking.{inserted, tail_list, tail_sum}
use Rattle.tails.specs.Undiversified.{undiversified}

-- ---- figures of a list of exposures

-- the P&L of the first v vertices of a list of exposures in scenario s, by returns of one kind
abbrev pub listed_up_to : List ℤ → (ℕ → ℕ → ℤ) → ℕ → ℕ → ℤ
listed_up_to x r v s = pnl v (λ u. get_or x u (pos 0)) r s

-- and of all of them
abbrev pub listed_pnl : List ℤ → (ℕ → ℕ → ℤ) → ℕ → ℤ
listed_pnl x r s = listed_up_to x r (length x) s

-- the T that a vertex alone has, by its exposure and its returns of one kind
abbrev pub vertex_tail : ℕ → ℤ → (ℕ → ℤ) → ℕ → ℕ → ℕ
vertex_tail mode x r lp k = tail_sum (λ s. loss mode (x *ℤ r s)) lp k

-- U of such a list
abbrev pub listed_undiversified : ℕ → List ℤ → (ℕ → ℕ → ℤ) → ℕ → ℕ → ℕ
listed_undiversified mode x r lp k = undiversified mode (length x) (λ v. get_or x v (pos 0)) r lp k

-- ---- a tail's mode

-- "tail u8 (0 single, 1 double)": the number that a book has for it
abbrev pub mode_number : Mode → ℕ
mode_number Single = 0
mode_number Double = 1

-- ---- results

-- a list, and zeros up to `size` entries
unfoldable pub padded : ℕ → List ℕ → List ℕ
padded size s = s ++ replicate (size - length s) 0

-- a tail: T, and sixteen numbers of which the first k are the list
pub record IsTail (f : ℕ → ℕ) (n k sum : ℕ) (list : List ℕ) : Type 0 where
  pub total : sum ≡ tail_sum f n k
  pub listed : list ≡ padded 16 (tail_list f n k)

-- the listed scenarios and their losses, sixteen of each of which the first k count
pub record IsWorst (f : ℕ → ℕ) (n k : ℕ) (losses list : List ℕ) : Type 0 where
  pub listed : list ≡ padded 16 (tail_list f n k)
  pub kept : losses ≡ padded 16 (map f (tail_list f n k))

-- scenario i is not in the list
abbrev pub Absent : ℕ → List ℕ → Type 0
Absent i s = (p : ℕ) → p < length s → get_or s p 0 ≡ i → ⊥

-- ---- what the functions ask of their callers: a book that passed meets all of it

-- losses of at most 1,024 scenarios, each at most 10^17, and k in 1..16. The kept losses then total at most 1.6 × 10^18; weights
-- that total 64 would make it 6.4 × 10^18 at most, which 64 bits hold too.
pub record Rankable (losses : List ℕ) (k : ℕ) : Type 0 where
  pub tail_in : In 1 16 k
  pub size_in : length losses ≤ 1024
  pub loss_in : (s : ℕ) → s < length losses → get_or losses s 0 ≤ 100000000000000000

-- P&Ls of at most 1,024 scenarios, each at most 10^17 in size
pub record Pnls (pnls : List ℤ) : Type 0 where
  pub size_in : length pnls ≤ 1024
  pub pnl_in : (s : ℕ) → s < length pnls → nat_abs (get_or pnls s (pos 0)) ≤ 100000000000000000

-- the largest size of a vertex's exposure, of its return, and of a P&L: products and sums of these fit 64 bits
pub record ExposureIn (x : ℤ) : Type 0 where
  pub most : nat_abs x ≤ 100000000000

pub record ReturnIn (r : ℤ) : Type 0 where
  pub most : nat_abs r ≤ 1000000

pub record PnlIn (z : ℤ) : Type 0 where
  pub most : nat_abs z ≤ 100000000000000000

-- a vertex's returns: those of one kind, one a scenario
pub record RowOf (r : ℕ → ℤ) (returns : List ℤ) : Type 0 where
  pub size_in : length returns ≤ 1024
  pub return_in : (s : ℕ) → s < length returns → nat_abs (get_or returns s (pos 0)) ≤ 1000000
  pub are : (s : ℕ) → s < length returns → get_or returns s (pos 0) ≡ r s

-- they are vertex v's returns of a kind in the market of a book
abbrev pub KindRow : (Market → ℕ → ℕ → ℤ) → List ℕ → ℕ → List ℤ → Type 0
KindRow kind book v returns = RowOf (kind (market_of book) v) returns

-- the exposures of all vertices, and a row of returns for each, LP a row: those of one kind
pub record RowsOf (r : ℕ → ℕ → ℤ) (exposures returns : List ℤ) (lp : ℕ) : Type 0 where
  pub vertices_in : length exposures ≤ 64
  pub scenarios_in : lp ≤ 1024
  pub size : length exposures * lp ≤ length returns
  pub exposures_in : total (λ v. nat_abs (get_or exposures v (pos 0))) (length exposures) ≤ 100000000000
  pub return_in : (i : ℕ) → i < length exposures * lp → nat_abs (get_or returns i (pos 0)) ≤ 1000000
  pub are : (v s : ℕ) → v < length exposures → s < lp → get_or returns (v * lp + s) (pos 0) ≡ r v s

-- they are the returns of a kind in the market of a book
abbrev pub KindRows : (Market → ℕ → ℕ → ℤ) → List ℕ → List ℤ → List ℤ → ℕ → Type 0
KindRows kind book exposures returns lp = RowsOf (kind (market_of book)) exposures returns lp

-- ---- a book that passed

-- a market whose returns lie in their range, and positions whose exposures' sizes total at most 100,000,000,000
pub record Exposed (m : Market) (positions : List ℕ) : Type 0 where
  pub scenarios : Simulated m
  pub exposures_in : total (λ v. nat_abs (exposure m positions v)) (vertex_count m.vertices) ≤ 100000000000

-- ---- one scenario more

-- going back from entry p, the place after the last entry that is not less than x
unfoldable pub slot : List ℕ → ℕ → ℕ → ℕ
slot s zero x = zero
slot s (suc p) x = if ltb (get_or s p 0) x then slot s p x else suc p

-- x in place p, the entries from there on one place further, the one at `at` dropped
unfoldable pub put : ℕ → ℕ → ℕ → List ℕ → List ℕ
put zero at x s = x ∷ (take at s ++ drop (suc at) s)
put (suc p) zero x s = s
put (suc p) (suc at) x [] = []
put (suc p) (suc at) x (a ∷ s) = a ∷ put p at x s

-- the losses of kept scenarios
abbrev pub losses_of : List Ranked → List ℕ
losses_of worst = map (λ r. r.loss) worst

-- and their numbers
abbrev pub scenarios_of : List Ranked → List ℕ
scenarios_of worst = map (λ r. r.scenario) worst

-- scenario i with its loss x put in its place, going back from `at`: those behind it have moved one place back
pub record Inserted (at x i : ℕ) (worst worst' : List Ranked) : Type 0 where
  pub losses_are : losses_of worst' ≡ put (slot (losses_of worst) at x) at x (losses_of worst)
  pub scenarios_are : scenarios_of worst' ≡ put (slot (losses_of worst) at x) at i (scenarios_of worst)

-- ---- only losses that a floor does not exclude

-- the ranking of those scenarios whose loss is at least the floor
unfoldable pub ranked_from : (ℕ → ℕ) → ℕ → ℕ → List ℕ
ranked_from f floor zero = []
ranked_from f floor (suc n) = if leb floor (f n) then inserted f n (ranked_from f floor n) else ranked_from f floor n

-- the least loss that is kept next, where m of k are kept: the floor, then one more than the smallest kept
unfoldable pub next_bound : List ℕ → ℕ → ℕ → ℕ → ℕ
next_bound losses m k floor = if ltb m k then floor else get_or losses (k - 1) 0 + 1

-- every loss from scenario i on, up to s, is below the bound
pub record Skipping (f : ℕ → ℕ) (n i bound s : ℕ) : Type 0 where
  pub from : i ≤ s
  pub to : s ≤ n
  pub skipped : (q : ℕ) → i ≤ q → q < s → f q < bound

-- the losses of scenario s and of the three after it are below the bound
abbrev pub four_below : (ℕ → ℕ) → ℕ → ℕ → Bool
four_below f bound s = (ltb (f s) bound && ltb (f (s + 1)) bound) && (ltb (f (s + 2)) bound && ltb (f (s + 3)) bound)

-- r is the first of the scenarios from i on whose loss is at least the bound, or n where there is none
pub record NextFrom (f : ℕ → ℕ) (n i bound r : ℕ) : Type 0 where
  pub before : Skipping f n i bound r
  pub kept : r < n → bound ≤ f r

-- the largest of the losses j, j + 16, j + 32, .. of the first sixteens, so many: lane j's
unfoldable pub lane_maximum : (ℕ → ℕ) → ℕ → ℕ → ℕ
lane_maximum f zero j = 0
lane_maximum f (suc sixteens) j = max (lane_maximum f sixteens j) (f (16 * sixteens + j))

-- the least of those of lanes j to j + 3
abbrev pub least_of_four : (ℕ → ℕ) → ℕ → ℕ → ℕ
least_of_four f sixteens j = min (min (lane_maximum f sixteens j) (lane_maximum f sixteens (j + 1))) (min (lane_maximum f sixteens (j + 2)) (lane_maximum f sixteens (j + 3)))

-- the least of those of the first n lanes; of none, the largest u64
unfoldable pub least_maximum : (ℕ → ℕ) → ℕ → ℕ → ℕ
least_maximum f sixteens zero = 18446744073709551615
least_maximum f sixteens (suc j) = min (least_maximum f sixteens j) (lane_maximum f sixteens j)
