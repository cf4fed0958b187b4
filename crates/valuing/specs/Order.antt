-- Reordered and divided lists of positions, by how often each record stands in them.
use Rattle.std.specs.Prelude.{ℕ, ◌+◌, ◌%◌, ◌≡◌, Bool, ◌&&◌, List, eqb, length}
use Rattle.numbers.specs.Rounding.{equal_z}
use Rattle.numbers.specs.Items.{how_often}
use Rattle.valuing.specs.Positions.{Position, position_count, position_at}

-- the same record
unfoldable pub same_position : Position → Position → Bool
same_position r s = eqb r.bond s.bond && equal_z r.nominal s.nominal

-- how often a record stands among the positions
unfoldable pub stands_often : Position → List ℕ → ℕ
stands_often r positions = how_often same_position r (position_at positions) (position_count positions)

-- a section of whole records
abbrev pub whole_positions : List ℕ → Bool
whole_positions positions = eqb (length positions % 12) 0

-- "the same position records, each as often"
abbrev pub Reordered : List ℕ → List ℕ → Type 0
Reordered positions others = (r : Position) → stands_often r positions ≡ stands_often r others

-- "a division puts each record into exactly one of its two books, in any order there"
abbrev pub Divided : List ℕ → List ℕ → List ℕ → Type 0
Divided positions one other = (r : Position) → stands_often r positions ≡ stands_often r one + stands_often r other
