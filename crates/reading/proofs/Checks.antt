-- What the checks of the sections cite, loop by loop: the flows counted so far, k raised to 1, prices vertex by vertex, the curves that are
-- seen, and the code of a bond and of a vertex's prices.
-- Assumes nothing.
use Rattle.std.specs.Prelude.{if◌then◌else◌}
use Prim.Native.Nat.{ℕ, suc, ◌+◌, ◌-◌, ◌*◌, ◌≤◌, ◌<◌}
use mathlib.Core.Path.{◌≡◌, refl, sym, ap, subst, ◌∙◌}
use mathlib.Core.List.{List}
use mathlib.Core.Bool.{Bool, true, false, ◌&&◌}
use lib.Dec.{eqb}
use lib.ListN.{set, replicate, get_or}
use native.Mathlib.Omega.{arith}
use native.Mathlib.Nat.{mul-le-mul_right, suc-mul, zero-add}
use native.Mathlib.Numerals.{add-one}
use borrow.Author.Tests.{eq-eqb, ne_eqb}
use Rattle.numbers.specs.Conditions.{within}
use Rattle.numbers.specs.Items.{some, every}
use Rattle.numbers.specs.Buffers.{table}
use Rattle.numbers.proofs.Items.{sum_none, sum_next, or_true, or_false}
use Rattle.numbers.proofs.Buffers.{table-set, table_const, table_at}
use Rattle.reading.specs.declared.bonds.Bond.{Bond}
use Rattle.reading.specs.declared.vertices.Vertex.{Vertex}
use Rattle.reading.specs.Vertices.{vertex_curve, vertex_zero, vertex_days, vertex_order, vertex_code, has_curve}
use Rattle.reading.specs.Prices.{price_entry, price_code}
use Rattle.reading.specs.Bonds.{bond_count, bond_curve, bond_code_for, bond_code, first_flow, flow_count_of, bond_zero, dirty_price, flows_before, flow_total}
use Rattle.numbers.specs.Findings.{judged}
use Rattle.reading.specs.InnerContracts.{EndsTotal, before, code_held, ranges_held}

-- no bond, no flows
pub flows_none : (bonds : List ℕ) → 0 ≡ flows_before bonds 0
unfolding flows_before
flows_none bonds = sym (sum_none ◌+◌ 0 (flow_count_of bonds))

-- the flows of one bond more
pub flows_next : (bonds : List ℕ) (i : ℕ) → flows_before bonds (i + 1) ≡ flows_before bonds i + flow_count_of bonds i
unfolding flows_before
flows_next bonds i = sum_next ◌+◌ 0 (flow_count_of bonds) i

-- the last bond's flows end the total
pub total_ends : (bonds : List ℕ) → EndsTotal bonds → first_flow bonds (bond_count bonds - 1) + flow_count_of bonds (bond_count bonds - 1) ≡ flow_total bonds
unfolding flow_total
total_ends bonds e =
    let n : bond_count bonds - 1 + 1 ≡ bond_count bonds = omega (arith, e.some) in
    ap (λ (a : ℕ). a + flow_count_of bonds (bond_count bonds - 1)) e.start
    ∙ (sym (flows_next bonds (bond_count bonds - 1)) ∙ ap (flows_before bonds) n)

-- the n entries of item v lie within those of m items
pub entries_fit : (v m n : ℕ) → v < m → v * n + n ≤ m * n
entries_fit v m n low = omega (arith, suc-mul v n, mul-le-mul_right n low)

-- one of the first v vertices has the curve
abbrev pub seen_below : List ℕ → ℕ → ℕ → Bool
seen_below vertices v curve = some (λ w. eqb (vertex_curve vertices w) curve) v

-- no vertex is seen yet
pub seen_none : (vertices : List ℕ) → replicate 256 false ≡ table (seen_below vertices 0) 256 0
unfolding some
seen_none vertices = sym (table_const false 256 0)

-- one vertex more is seen
pub seen_next : (vertices : List ℕ) (v : ℕ) → vertex_curve vertices v < 256
    → set (table (seen_below vertices v) 256 0) (vertex_curve vertices v) true ≡ table (seen_below vertices (v + 1)) 256 0
unfolding some
seen_next vertices v low =
    rw (add-one v)
    (table-set (seen_below vertices v) (seen_below vertices (suc v)) 256 (vertex_curve vertices v) true low
    (rw (eq-eqb (vertex_curve vertices v) (vertex_curve vertices v) refl) (or_true (seen_below vertices v (vertex_curve vertices v))))
    (λ j other. rw (ne_eqb (vertex_curve vertices v) j (λ e. other (sym e))) (sym (or_false (seen_below vertices v j)))))

-- with the table of curves at hand, the code is that of the definition
pub known_code : (vertices bonds : List ℕ) (seen : List Bool) (curve i : ℕ) → seen ≡ table (has_curve vertices) 256 0 → curve ≡ bond_curve bonds i → curve < 256
    → bond_code_for (get_or seen curve false) bonds i ≡ bond_code vertices bonds i
unfolding bond_code
known_code vertices bonds seen curve i made same low =
    let known : get_or seen curve false ≡ has_curve vertices (bond_curve bonds i) =
    rw made (table_at (has_curve vertices) 256 0 curve false low ∙ (ap (has_curve vertices) (zero-add curve) ∙ ap (has_curve vertices) same)) in
    ap (λ (a : Bool). bond_code_for a bonds i) known

-- what the test of a vertex's prices from its first entry on makes of its code
pub price_code_lem : (prices : List ℕ) (n v from : ℕ) (good : Bool) → from ≡ v * n
    → every (λ j. within 1 2000000 (price_entry prices (from + j))) n ≡ good → price_code prices n v ≡ (if good then 0 else 9)
unfolding price_code
price_code_lem prices n v from good at test =
    rw (subst (λ (a : ℕ). every (λ j. within 1 2000000 (price_entry prices (a + j))) n ≡ good) at test)

-- a first vertex has none before it
pub ordered_first : (vertices : List ℕ) (v : ℕ) → v ≡ 0 → eqb v 0 ≡ vertex_order vertices v
ordered_first vertices v first = simp (eq-eqb v 0 first)

-- a later vertex is in order where the one before, as it is read, lies before it
pub ordered_next : (vertices : List ℕ) (v : ℕ) (one own : Vertex) → (v ≡ 0 → ⊥)
    → one.curve ≡ vertex_curve vertices (v - 1) → one.days ≡ vertex_days vertices (v - 1) → own.curve ≡ vertex_curve vertices v → own.days ≡ vertex_days vertices v
    → before one own ≡ vertex_order vertices v
ordered_next vertices v one own later curve days own_curve own_days = simp (ne_eqb v 0 later) (rw (curve, days, own_curve, own_days) refl)

-- what both tests make of a vertex that is read
pub vertex_judged : (vertices : List ℕ) (v : ℕ) (own : Vertex) (ordered good : Bool)
    → own.curve ≡ vertex_curve vertices v → own.zero ≡ vertex_zero vertices v → own.days ≡ vertex_days vertices v
    → ordered ≡ vertex_order vertices v → ranges_held own && ordered ≡ good
    → judged (if good then 0 else 7) v ≡ judged (vertex_code vertices v) v
unfolding vertex_code
vertex_judged vertices v own ordered good curve zero days order test =
    ap (λ (b : Bool). judged (if b then 0 else 7) v) (sym test ∙ rw (curve, zero, days, order) refl)

-- with the table of curves at hand, the code of a bond that is read is that of the definition
pub bond_judged : (vertices bonds : List ℕ) (seen : List Bool) (own : Bond) (curve start i : ℕ) → seen ≡ table (has_curve vertices) 256 0 → curve ≡ own.curve
    → own.curve < 256 → own.curve ≡ bond_curve bonds i → own.zero ≡ bond_zero bonds i → own.dirty_price ≡ dirty_price bonds i
    → own.first_flow ≡ first_flow bonds i → own.flow_count ≡ flow_count_of bonds i → start ≡ flows_before bonds i
    → code_held (get_or seen curve false) start own ≡ bond_code vertices bonds i
unfolding bond_code_for
bond_judged vertices bonds seen own curve start i made at low own_curve zero price first count before_it =
    rw (zero, price, first, count, before_it) (known_code vertices bonds seen curve i made (at ∙ own_curve) (rw at low))
