-- The check of the lent buffers (22 to 24), and refusals 1 to 24 of a book and the buffers lent with it.
use Rattle.std.specs.Prelude.{ℕ, ◌*◌, List, leb, if◌then◌else◌}
use Rattle.numbers.specs.Findings.{Finding, Passed, Refused}
use Rattle.numbers.specs.Items.{and_then}
use Rattle.reading.specs.Book.{Market, market_of}
use Rattle.reading.specs.Parameters.{tail_count}
use Rattle.reading.specs.Vertices.{vertex_count}
use Rattle.scenarios.specs.Buffer.{returns_size}
use Rattle.scenarios.specs.Check.{check_book}

-- how many entries the lent buffers have
pub record Lent : Type 0 where
  pub exposures : ℕ
  pub returns : ℕ
  pub list : ℕ

abbrev pub lent : ℕ → ℕ → ℕ → Lent
lent exposures returns list = record { exposures = exposures; returns = returns; list = list }

-- "Buffers: 22 exposures short; 23 returns short; 24 list short": "exposures, one i64 a vertex; returns, 2 × vertices × LP i32 ..;
-- scenario list, 2k u16"
unfoldable pub check_buffers : Market → Lent → Finding
check_buffers m b =
    if leb (vertex_count m.vertices) b.exposures
    then (if leb (returns_size m) b.returns then (if leb (2 * tail_count m.parameters) b.list then Passed else Refused 24 0) else Refused 23 0)
    else Refused 22 0

-- "Places are checked downwards.": 1 to 21, then the buffers
unfoldable pub check_run : List ℕ → Lent → Finding
check_run book b = and_then (check_book book) (check_buffers (market_of book) b)
