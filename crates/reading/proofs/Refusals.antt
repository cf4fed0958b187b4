-- What this layer refuses is small: numbers up to 13, and items below 4,096.
-- Assumes nothing.
use Rattle.std.specs.Prelude.{if◌then◌else◌}
use Prim.Native.Nat.{ℕ, ◌*◌, ◌≤◌}
use mathlib.Core.Bool.{◌&&◌}
use mathlib.Core.List.{List}
use mathlib.Core.Path.{refl}
use native.Mathlib.Omega.{arith}
use lib.Dec.{leb, ltb, eqb}
use lib.ListN.{length}
use Rattle.numbers.specs.Findings.{Passed, Refused}
use Rattle.numbers.specs.Conditions.{within}
use Rattle.numbers.specs.Items.{first_failing, every}
use Rattle.numbers.proofs.Refusals.{Small, small_passed, small_refused, small_then, small_if, small_else, small_failing, code_if}
use Rattle.reading.specs.Book.{Market, market_of, tiled, check_directory}
use Rattle.reading.specs.Parameters.{history, tail_count, parameters_form, parameters_ranges, check_parameters}
use Rattle.reading.specs.Vertices.{vertex_count, vertices_form, vertex_fields, vertex_order, vertex_code, check_vertices, has_curve}
use Rattle.reading.specs.Prices.{price_at, price_code, check_prices}
use Rattle.reading.specs.Bonds.{bond_count, bond_curve, flow_total, bonds_form, bond_terms, bond_counts, bond_code_for, bond_code, check_bonds}
use Rattle.reading.specs.Flows.{check_flows}
use Rattle.reading.specs.Check.{check_market, check_sections}
use Rattle.reading.proofs.Forms.{vertices_records, bonds_records}
use Rattle.reading.proofs.Sound.{vertices_sound}

-- 1 and 2
pub directory_small : (book : List ℕ) → Small 13 (check_directory book)
unfolding check_directory
directory_small book =
    small_if (ltb (length book) 48) (Refused 1 0) (if tiled book then Passed else Refused 2 0)
    (λ short. small_refused 1 0 (omega arith, omega arith) (omega arith))
    (small_else (tiled book) Passed 2 refl (λ t. small_passed))

-- 3 to 5
pub parameters_small : (p : List ℕ) → Small 13 (check_parameters p)
unfolding check_parameters
parameters_small p =
    small_else (parameters_form p) _ 3 refl
    (λ form. small_else (parameters_ranges p) _ 4 refl (λ ranges. small_else (leb (tail_count p) 16) Passed 5 refl (λ tail. small_passed)))

-- 6 and 7: at most 64 vertices
pub vertices_small : (vertices : List ℕ) → Small 13 (check_vertices vertices)
unfolding check_vertices vertex_code
vertices_small vertices =
    small_else (vertices_form vertices) (first_failing (vertex_code vertices) (vertex_count vertices) 0) 6 refl
    (λ form. small_failing (vertex_code vertices) (vertex_count vertices) (omega (arith, (vertices_records vertices form).count.1))
    (λ v. code_if (vertex_fields vertices v && vertex_order vertices v) 0 7 (omega arith) (omega arith)))

-- 8 and 9, of at most 4,096 vertices
pub prices_small : (prices : List ℕ) (vertices n : ℕ) → vertices ≤ 4096 → Small 13 (check_prices prices vertices n)
unfolding check_prices price_code
prices_small prices vertices n few =
    small_else (eqb (length prices) (4 * (vertices * n))) (first_failing (price_code prices n) vertices 0) 8 refl
    (λ size. small_failing (price_code prices n) vertices few
    (λ v. code_if (every (λ j. within 1 2000000 (price_at prices n v j)) n) 0 9 (omega arith) (omega arith)))

-- 10 to 12: at most 1,024 bonds
pub bonds_small : (vertices bonds : List ℕ) → Small 13 (check_bonds vertices bonds)
unfolding check_bonds bond_code bond_code_for
bonds_small vertices bonds =
    small_else (bonds_form bonds) (first_failing (bond_code vertices bonds) (bond_count bonds) 0) 10 refl
    (λ form. small_failing (bond_code vertices bonds) (bond_count bonds) (omega (arith, (bonds_records bonds form).count.1))
    (λ i. code_if (has_curve vertices (bond_curve bonds i) && bond_terms bonds i) (if bond_counts bonds i then 0 else 12) 11
    (code_if (bond_counts bonds i) 0 12 (omega arith) (omega arith)) (omega arith)))

-- 13
pub flows_small : (flows : List ℕ) (count : ℕ) → Small 13 (check_flows flows count)
unfolding check_flows
flows_small flows count = small_else (eqb (length flows) (8 * count)) Passed 13 refl (λ size. small_passed)

-- 3 to 13: the prices' items are vertices that passed
pub market_small : (m : Market) → Small 13 (check_market m)
unfolding check_market
market_small m =
    small_then (check_parameters m.parameters) _ (parameters_small m.parameters)
    (λ parameters. small_then (check_vertices m.vertices) _ (vertices_small m.vertices)
    (λ vertices. small_then (check_prices m.prices (vertex_count m.vertices) (history m.parameters)) _
    (prices_small m.prices (vertex_count m.vertices) (history m.parameters) (omega (arith, (vertices_sound m.vertices vertices).form.count.1)))
    (λ prices. small_then (check_bonds m.vertices m.bonds) _ (bonds_small m.vertices m.bonds)
    (λ bonds. flows_small m.flows (flow_total m.bonds)))))

-- 1 to 13
pub sections_small : (book : List ℕ) → Small 13 (check_sections book)
unfolding check_sections
sections_small book =
    small_then (check_directory book) (check_market (market_of book)) (directory_small book) (λ directory. market_small (market_of book))
