-- What this layer refuses is small: numbers up to 20, and items below 4,096.
-- Assumes nothing.
use Rattle.std.specs.Prelude.{if◌then◌else◌}
use Prim.Native.Nat.{ℕ, ◌≤◌}
use mathlib.Core.List.{List}
use mathlib.Core.Path.{refl}
use native.Mathlib.Omega.{arith}
use lib.Dec.{leb, ltb, eqb}
use lib.IntN.{nat_abs}
use Rattle.numbers.specs.Findings.{Passed}
use Rattle.numbers.specs.Items.{and_then, first_failing}
use Rattle.numbers.proofs.Refusals.{Small, small_passed, small_then, small_else, small_failing, small_more, code_if}
use Rattle.reading.specs.Book.{Market, market_of, positions_of}
use Rattle.reading.specs.Bonds.{bond_count}
use Rattle.reading.specs.Check.{check_sections}
use Rattle.reading.specs.Vertices.{vertex_days}
use Rattle.reading.proofs.Forms.{records}
use Rattle.reading.proofs.Refusals.{sections_small}
use Rattle.reading.proofs.Sound.{sound}
use Rattle.valuing.specs.Check.{days_good, amounts_good, flows_code, check_bond_flows, check_valued}
use Rattle.valuing.specs.Curves.{Curve, curve_of, last_of}
use Rattle.valuing.specs.Positions.{Position, position_count, position_at, value_total, positions_form, position_code, total_finding, check_positions}
use Rattle.valuing.specs.Split.{bond_flows, bond_worth}

flows_code_lem : (curve : Curve) (stretch : List ℕ) → flows_code curve stretch ≤ 20
unfolding flows_code
flows_code_lem curve stretch =
    let worth : ℕ = if eqb (bond_worth curve stretch) 0 then 16 else 0 in
    code_if (days_good stretch (vertex_days curve.vertices (last_of curve.vertices curve.index))) (if amounts_good stretch then worth else 15) 14
    (code_if (amounts_good stretch) worth 15 (code_if (eqb (bond_worth curve stretch) 0) 16 0 (omega arith) (omega arith)) (omega arith)) (omega arith)

-- 14 to 16, of at most 4,096 bonds
pub bond_flows_small : (m : Market) → bond_count m.bonds ≤ 4096 → Small 20 (check_bond_flows m)
unfolding check_bond_flows
bond_flows_small m few =
    small_failing (λ i. flows_code (curve_of m i) (bond_flows m i)) (bond_count m.bonds) few (λ i. flows_code_lem (curve_of m i) (bond_flows m i))

position_code_lem : (bonds : List ℕ) (r : Position) → position_code bonds r ≤ 20
unfolding position_code
position_code_lem bonds r =
    let size = leb (nat_abs r.nominal) 10000000000 in
    code_if (ltb r.bond (bond_count bonds)) (if size then 0 else 19) 18 (code_if size 0 19 (omega arith) (omega arith)) (omega arith)

-- 17 to 20: at most 4,096 positions
pub positions_small : (bonds positions : List ℕ) → Small 20 (check_positions bonds positions)
unfolding check_positions total_finding
positions_small bonds positions =
    let items = first_failing (λ p. position_code bonds (position_at positions p)) (position_count positions) 0 in
    let sizes = value_total bonds positions (position_count positions) in
    small_else (positions_form positions) (and_then items (total_finding sizes)) 17 refl
    (λ form. small_then items (total_finding sizes)
    (small_failing (λ p. position_code bonds (position_at positions p)) (position_count positions) (records positions 12 0 4096 form).count.1
    (λ p. position_code_lem bonds (position_at positions p)))
    (λ passed. small_else (leb sizes 100000000000) Passed 20 refl (λ few. small_passed)))

-- 1 to 20: the flows' items are bonds that passed
pub valued_small : (book : List ℕ) → Small 20 (check_valued book)
unfolding check_valued
valued_small book =
    small_then (check_sections book) _ (small_more 20 (omega arith) (sections_small book))
    (λ passed. small_then (check_bond_flows (market_of book)) _
    (bond_flows_small (market_of book) (omega (arith, (sound book passed).bonds.form.count.1)))
    (λ good. positions_small (market_of book).bonds (positions_of book)))
