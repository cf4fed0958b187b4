-- The checked examples of value, share and price, and the printed book's exposures hold, by computation.
-- Assumes nothing.
use mathlib.Core.Path.{refl}
use Rattle.numbers.specs.Buffers.{part_of}
use Rattle.numbers.specs.Items.{first_failing, every, some, first_where, last_where, sum_of}
use Rattle.numbers.specs.Little.{u16_at, u32_at, u64_at, twos_complement, i64_at}
use Rattle.numbers.specs.Rounding.{nearest, nearest_down, negative, with_sign, nearest_z}
use Rattle.reading.specs.Bonds.{flows_before, flow_total, bond_code_for, bond_code, check_bonds}
use Rattle.reading.specs.Book.{check_directory, section_of, market_of, positions_of}
use Rattle.reading.specs.Check.{check_market, check_sections}
use Rattle.reading.specs.Flows.{check_flows}
use Rattle.reading.specs.Parameters.{tail_count_by, tail_count, check_parameters}
use Rattle.reading.specs.Prices.{price_code, check_prices}
use Rattle.reading.specs.Stretch.{flows_of}
use Rattle.reading.specs.Vertices.{vertex_code, check_vertices, has_curve}
use Rattle.valuing.specs.Check.{days_good, amounts_good, flows_code, check_bond_flows, check_valued}
use Rattle.valuing.specs.Curves.{curve_of, upper, last_of, line, price_from, price_for}
use Rattle.valuing.specs.Examples.{ValuingExamples, PrintedExposures}
use Rattle.valuing.specs.Mapping.{lower_size, part_size, mapped, mapped_value, position_exposure, exposure_up_to, exposure}
use Rattle.valuing.specs.Positions.{position_at, value_of, value, value_total, position_code, total_finding, check_positions}
use Rattle.valuing.specs.Split.{bond_flows, worth_of, worth, worth_before, bond_worth, floor_at, share_size, share}

-- value, share and price
pub valuing_examples : ValuingExamples
unfolding first_where u16_at u32_at nearest negative with_sign nearest_z upper line price_from price_for lower_size part_size mapped value_of
valuing_examples = record { value = refl; lower = refl; rest = refl; lower_short = refl; rest_short = refl; price = refl }

-- the printed book
pub printed_exposures_lem : PrintedExposures
unfolding part_of first_failing every some first_where last_where sum_of u16_at u32_at u64_at twos_complement i64_at nearest nearest_down negative
    with_sign nearest_z flows_before flow_total bond_code_for bond_code check_bonds check_directory section_of market_of positions_of check_market
    check_sections check_flows tail_count_by tail_count check_parameters price_code check_prices flows_of vertex_code check_vertices has_curve days_good amounts_good
    flows_code check_bond_flows check_valued curve_of upper last_of price_from price_for lower_size part_size mapped mapped_value position_exposure
    exposure_up_to exposure position_at value_of value value_total position_code total_finding check_positions bond_flows worth_of worth worth_before
    bond_worth floor_at share_size share
printed_exposures_lem = record { passed = refl; first = refl; second = refl }
