-- The vertices and their check (6, 7).
use Rattle.std.specs.Prelude.{ℕ, ◌+◌, ◌-◌, ◌*◌, ◌/◌, ◌%◌, Bool, ◌&&◌, ◌||◌, List, leb, ltb, eqb, length, if◌then◌else◌}
use Rattle.numbers.specs.Findings.{Finding, Refused}
use Rattle.numbers.specs.Conditions.{within}
use Rattle.numbers.specs.Little.{u8_at, u16_at}
use Rattle.numbers.specs.Items.{first_failing, some}

-- "Vertices (curve points), 1..64 of 4 bytes: curve u8 (0..7), zero u8, days u16 (1..20,000); strictly rising by curve,
-- then days."
abbrev pub vertex_count : List ℕ → ℕ
vertex_count vertices = length vertices / 4

abbrev pub vertex_curve : List ℕ → ℕ → ℕ
vertex_curve vertices v = u8_at vertices (4 * v)

abbrev pub vertex_zero : List ℕ → ℕ → ℕ
vertex_zero vertices v = u8_at vertices (4 * v + 1)

abbrev pub vertex_days : List ℕ → ℕ → ℕ
vertex_days vertices v = u16_at vertices (4 * v + 2)

-- "6 length or count": a whole number of records, 1 to 64
abbrev pub vertices_form : List ℕ → Bool
vertices_form vertices = eqb (length vertices % 4) 0 && within 1 64 (vertex_count vertices)

-- "7 a field"
abbrev pub vertex_fields : List ℕ → ℕ → Bool
vertex_fields vertices v = leb (vertex_curve vertices v) 7 && (eqb (vertex_zero vertices v) 0 && within 1 20000 (vertex_days vertices v))

-- "strictly rising by curve, then days": vertex w lies past vertex v
abbrev pub rises : List ℕ → ℕ → ℕ → Bool
rises vertices v w =
    ltb (vertex_curve vertices v) (vertex_curve vertices w)
    || (eqb (vertex_curve vertices v) (vertex_curve vertices w) && ltb (vertex_days vertices v) (vertex_days vertices w))

-- "Where order fails, the item is the later vertex": the first has none before it
abbrev pub vertex_order : List ℕ → ℕ → Bool
vertex_order vertices v = eqb v 0 || rises vertices (v - 1) v

-- "7 a field, or order": fields and order of a vertex are one item
unfoldable pub vertex_code : List ℕ → ℕ → ℕ
vertex_code vertices v = if vertex_fields vertices v && vertex_order vertices v then 0 else 7

-- "Vertices: 6 length or count; 7 a field, or order"
unfoldable pub check_vertices : List ℕ → Finding
check_vertices vertices = if vertices_form vertices then first_failing (vertex_code vertices) (vertex_count vertices) 0 else Refused 6 0

-- for 11's "no such curve": some vertex has it
unfoldable pub has_curve : List ℕ → ℕ → Bool
has_curve vertices curve = some (λ v. eqb (vertex_curve vertices v) curve) (vertex_count vertices)
