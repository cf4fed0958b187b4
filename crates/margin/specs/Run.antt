-- What the unit comes to for a book and lent buffers, and what each buffer then holds.
use Rattle.std.specs.Prelude.{ℕ, ◌*◌, List, [], ◌∷◌, ◌++◌, ◌≡◌, ℤ, length, drop, Result, Ok, Err}
use Rattle.numbers.specs.declared.error.Refusal.{Refusal as Reason}
use Rattle.margin.specs.declared.Figures.{Figures}
use Rattle.numbers.specs.Findings.{Finding, Passed, Refused, number_of, item_of}
use Rattle.numbers.specs.Buffers.{filled}
use Rattle.reading.specs.Book.{Market, market_of, positions_of}
use Rattle.reading.specs.Parameters.{tail_count}
use Rattle.reading.specs.Vertices.{vertex_count}
use Rattle.valuing.specs.Mapping.{exposure}
use Rattle.scenarios.specs.Buffer.{returns_size, returns_entry}
use Rattle.scenarios.specs.Scaled.{unscaled, scaled}
use Rattle.margin.specs.Check.{Lent, lent, check_run}
use Rattle.margin.specs.Figures.{list_of, figures_of}

-- ---- what the unit comes to

-- a margin, with the values that the result holds, or a refusal's "number and item index"
pub data Outcome : Type 0 where
  Values : List ℕ → Outcome
  Refusal : ℕ → ℕ → Outcome

-- "the result holds k, then T, U, D and M unscaled and scaled, and the margin in euros"
abbrev pub values_of : Figures → List ℕ
values_of f =
    f.k
    ∷ f.unscaled.tail ∷ f.unscaled.undiversified ∷ f.unscaled.addon ∷ f.unscaled.total
    ∷ f.scaled.tail ∷ f.scaled.undiversified ∷ f.scaled.addon ∷ f.scaled.total
    ∷ f.euros ∷ []

-- "Where an answer is an enum, a definition gives this paper's number and values for each of the enum's cases.": of the entry's
-- answer, the figures or a `numbers::Refusal`
abbrev pub outcome_of : Result Figures Reason → Outcome
outcome_of (Ok f) = Values (values_of f)
outcome_of (Err reason) = Refusal (number_of reason) (item_of reason)

-- "A book is accepted where the unit comes to a margin": these values where the check passes, else its refusal
abbrev pub outcome_for : Finding → List ℕ → Outcome
outcome_for Passed values = Values values
outcome_for (Refused number item) values = Refusal number item

-- what the unit comes to, for a book and the buffers lent with it
unfoldable pub outcome_to : List ℕ → Lent → Outcome
outcome_to book b = outcome_for (check_run book b) (values_of (figures_of (market_of book) (positions_of book)))

-- ---- the buffers of an accepted book

-- "exposures, one i64 a vertex .. Later entries keep their contents."
abbrev pub exposures_in : Market → List ℕ → List ℤ → List ℤ
exposures_in m positions old = filled (exposure m positions) (vertex_count m.vertices) old

-- "returns, 2 × vertices × LP i32, all unscaled by vertex then scenario, then scaled likewise"
abbrev pub returns_in : Market → List ℤ → List ℤ
returns_in m old = filled (returns_entry m) (returns_size m) old

-- "scenario list, 2k u16, unscaled first"
abbrev pub list_in : Market → List ℕ → List ℕ → List ℕ
list_in m positions old =
    list_of m (unscaled m) positions ++ (list_of m (scaled m) positions ++ drop (2 * tail_count m.parameters) old)

-- "A refusal gives number and item index .. and no buffer changes.": what a buffer holds that held `old`
abbrev pub afterwards : {A : Type 0} → Finding → List A → List A → List A
afterwards Passed new old = new
afterwards (Refused number item) new old = old

-- what each buffer holds after a run, for every book and every buffer
pub record BuffersAfter (book : List ℕ) (exposures returns : List ℤ) (list : List ℕ) (exposures' returns' : List ℤ) (list' : List ℕ) : Type 0 where
  pub exposed :
      exposures' ≡ afterwards (check_run book (lent (length exposures) (length returns) (length list))) (exposures_in (market_of book) (positions_of book) exposures) exposures
  pub returned : returns' ≡ afterwards (check_run book (lent (length exposures) (length returns) (length list))) (returns_in (market_of book) returns) returns
  pub listed :
      list' ≡ afterwards (check_run book (lent (length exposures) (length returns) (length list))) (list_in (market_of book) (positions_of book) list) list

-- ---- demands 1 and 2: the answer and the three buffers, for every book and every buffer

pub record Ran (book : List ℕ) (exposures returns : List ℤ) (list : List ℕ) (answer : Result Figures Reason) (exposures' returns' : List ℤ) (list' : List ℕ) : Type 0 where
  pub answered : outcome_of answer ≡ outcome_to book (lent (length exposures) (length returns) (length list))
  pub left : BuffersAfter book exposures returns list exposures' returns' list'
