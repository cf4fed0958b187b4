-- What a form, a range or a passed check says as plain facts: lengths, counts, the last bond's flows.
-- Assumes nothing.
use Rattle.std.specs.Prelude.{if◌then◌else◌}
use Prim.Native.Nat.{ℕ, suc, ◌-◌, ◌*◌, ◌/◌, ◌%◌, ◌≤◌, ◌<◌}
use mathlib.Core.Path.{◌≡◌, refl}
use mathlib.Core.Bool.{Bool, true, false, ◌&&◌}
use mathlib.Core.List.{List}
use lib.Dec.{leb, eqb}
use lib.ListN.{length}
use native.Mathlib.Omega.{arith}
use native.Mathlib.Nat.{div-add-mod}
use borrow.Author.Tests.{leb-true, eqb-true}
use Rattle.numbers.specs.Findings.{Finding, Passed, Refused}
use Rattle.numbers.specs.Conditions.{within}
use Rattle.numbers.specs.Items.{first_failing}
use Rattle.numbers.proofs.Items.{in_range_lem, both, each, refused_not_passed}
use Rattle.reading.specs.Parameters.{lookback, holding_period, warm_up, confidence, smoothing, tail_mode, decorrelation, parameters_zero, parameters_form, parameters_ranges}
use Rattle.reading.specs.Vertices.{vertices_form, has_curve}
use Rattle.reading.specs.Bonds.{bond_count, first_flow, flow_count_of, flows_before, bond_curve, bonds_form, bond_terms, bond_counts, bond_code_for, bond_code, check_bonds}
use Rattle.reading.specs.InnerContracts.{EndsTotal, Records, ParameterRanges}

-- ---- tests

-- the number is a whole number of records of r
pub whole_records : (n r : ℕ) → n % r ≡ 0 → n ≡ r * (n / r)
whole_records n r e = omega (arith, div-add-mod n r)

-- a test decides between a finding and a refusal: it passed, so the test holds and the finding passed
pub passed_then : (b : Bool) (v : Finding) (number item : ℕ) → (if b then v else Refused number item) ≡ Passed → (b ≡ true) × (v ≡ Passed)
passed_then true v number item e = (refl, e)
passed_then false v number item e = absurd (refused_not_passed e)

-- a test decides between a code and a refusal's number: the code is 0, so the test holds and the code was 0
pub good_then : (b : Bool) (code number : ℕ) → (if b then code else suc number) ≡ 0 → (b ≡ true) × (code ≡ 0)
good_then true code number e = (refl, e)
good_then false code number e = absurd (let z : suc number ≡ 0 = e in omega arith)

-- ---- forms and ranges

-- the parameters' form: 16 bytes
pub parameters-length : (p : List ℕ) → parameters_form p ≡ true → length p ≡ 16
parameters-length p t = eqb-true (length p) 16 (both (eqb (length p) 16) (parameters_zero p) t).0

-- the test of the ranges holds: each range does
pub parameter_ranges : (p : List ℕ) → parameters_ranges p ≡ true → ParameterRanges p
parameter_ranges p t =
    let t6 = leb (tail_mode p) 1 && leb (decorrelation p) 100 in
    let t5 = within 1 999 (smoothing p) && t6 in
    let t4 = within 5000 9999 (confidence p) && t5 in
    let t3 = leb (warm_up p) 255 && t4 in
    let t2 = within 1 10 (holding_period p) && t3 in
    let h1 = both (within 1 1024 (lookback p)) t2 t in
    let h2 = both (within 1 10 (holding_period p)) t3 h1.1 in
    let h3 = both (leb (warm_up p) 255) t4 h2.1 in
    let h4 = both (within 5000 9999 (confidence p)) t5 h3.1 in
    let h5 = both (within 1 999 (smoothing p)) t6 h4.1 in
    let h6 = both (leb (tail_mode p) 1) (leb (decorrelation p) 100) h5.1 in
    record {
      lookback_in = in_range_lem 1 1024 (lookback p) h1.0;
      holding_period_in = in_range_lem 1 10 (holding_period p) h2.0;
      warm_up_in = leb-true (warm_up p) 255 h3.0;
      confidence_in = in_range_lem 5000 9999 (confidence p) h4.0;
      smoothing_in = in_range_lem 1 999 (smoothing p) h5.0;
      tail_mode_in = leb-true (tail_mode p) 1 h6.0;
      decorrelation_in = leb-true (decorrelation p) 100 h6.1;
    }

-- the confidence is below 10,000
pub confidence_small : (p : List ℕ) → parameters_ranges p ≡ true → confidence p ≤ 9999
confidence_small p t = (parameter_ranges p t).confidence_in.1

-- the test of a section's form holds: so many whole records
pub records : (s : List ℕ) (r low high : ℕ) → eqb (length s % r) 0 && within low high (length s / r) ≡ true → Records s r low high
records s r low high t =
    let h = both (eqb (length s % r) 0) (within low high (length s / r)) t in
    let e : length s ≡ r * (length s / r) = whole_records (length s) r (eqb-true (length s % r) 0 h.0) in
    record { whole = e; count = in_range_lem low high (length s / r) h.1 }

-- the vertices' form: 1 to 64 records of 4 bytes
pub vertices_records : (v : List ℕ) → vertices_form v ≡ true → Records v 4 1 64
vertices_records v t = records v 4 1 64 t

-- the bonds' form: 1 to 1,024 records of 16 bytes
pub bonds_records : (b : List ℕ) → bonds_form b ≡ true → Records b 16 1 1024
bonds_records b t = records b 16 1 1024 t

-- every bond lies within the section
pub bonds_fit : (b : List ℕ) → bonds_form b ≡ true → 16 * bond_count b ≤ length b
bonds_fit b t = omega (arith, (bonds_records b t).whole)

-- at least one bond
pub bonds_some : (b : List ℕ) → bonds_form b ≡ true → 1 ≤ bond_count b
bonds_some b t = (bonds_records b t).count.0

-- at most 1,024 bonds
pub bonds_few : (b : List ℕ) → bonds_form b ≡ true → bond_count b ≤ 1024
bonds_few b t = (bonds_records b t).count.1

-- ---- the bonds' check

-- the bonds passed: their form holds, and so do the tests of each bond
pub bonds_passed : (v b : List ℕ) → check_bonds v b ≡ Passed
    → (bonds_form b ≡ true) × ((i : ℕ) → i < bond_count b → (has_curve v (bond_curve b i) ≡ true) × (bond_terms b i ≡ true) × (bond_counts b i ≡ true))
unfolding check_bonds bond_code bond_code_for
bonds_passed v b e =
    let h = passed_then (bonds_form b) (first_failing (bond_code v b) (bond_count b) 0) 10 0 e in (
      h.0,
      λ i low.
          let outer =
          good_then (has_curve v (bond_curve b i) && bond_terms b i) (if bond_counts b i then 0 else 12) 10
          (each (bond_code v b) (bond_count b) 0 h.1 i (omega arith) (omega arith)) in
          let terms = both (has_curve v (bond_curve b i)) (bond_terms b i) outer.0 in
          (terms.0, terms.1, (good_then (bond_counts b i) 0 11 outer.1).0),
    )

-- the bonds passed: each bond's first flow is where the last bond's ended
pub first_flow_lem : (v b : List ℕ) → check_bonds v b ≡ Passed → (i : ℕ) → i < bond_count b → first_flow b i ≡ flows_before b i
first_flow_lem v b e i low =
    eqb-true (first_flow b i) (flows_before b i)
    (both (eqb (first_flow b i) (flows_before b i)) (within 1 120 (flow_count_of b i)) ((bonds_passed v b e).1 i low).2).0

-- the bonds passed: the last bond's flows end the total
pub ends_total : (v b : List ℕ) → check_bonds v b ≡ Passed → EndsTotal b
ends_total v b e =
    let some : 1 ≤ bond_count b = bonds_some b (bonds_passed v b e).0 in
    record { some = some; start = first_flow_lem v b e (bond_count b - 1) (omega arith) }
