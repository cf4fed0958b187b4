-- A flow's worth, a bond's total worth, and the split of a value over a bond's flows.
use Rattle.std.specs.Prelude.{ℕ, ◌+◌, ◌-◌, ◌*◌, ◌/◌, List, ℤ, nat_abs, length}
use Rattle.numbers.specs.Items.{total}
use Rattle.numbers.specs.Rounding.{negative, with_sign}
use Rattle.reading.specs.Book.{Market}
use Rattle.reading.specs.Flows.{flow_days, flow_amount}
use Rattle.reading.specs.Stretch.{flows_of}
use Rattle.valuing.specs.Curves.{Curve, price_for}

-- the bytes of bond i's flows
unfoldable pub bond_flows : Market → ℕ → List ℕ
bond_flows m i = flows_of m.bonds m.flows i

-- how many flows they hold
abbrev pub flow_count : List ℕ → ℕ
flow_count stretch = length stretch / 8

-- "A flow's worth = floor of amount × price / 1,000,000."
unfoldable pub worth_of : ℕ → ℕ → ℕ
worth_of amount price = amount * price / 1000000

-- of flow j, the price being the one for its days on the bond's curve
unfoldable pub worth : Curve → List ℕ → ℕ → ℕ
worth curve stretch j = worth_of (flow_amount stretch j) (price_for curve (flow_days stretch j))

-- "let A be the worth of all flows before it and B be A plus its own worth": A of flow j, which is B of the flow before
unfoldable pub worth_before : Curve → List ℕ → ℕ → ℕ
worth_before curve stretch j = total (worth curve stretch) j

-- "S is the bond's total worth."
unfoldable pub bond_worth : Curve → List ℕ → ℕ
bond_worth curve stretch = worth_before curve stretch (flow_count stretch)

-- "the floor of (size of value × A / S)", A being flow j's: the one with B is the next flow's
unfoldable pub floor_at : Curve → List ℕ → ℕ → ℕ → ℕ
floor_at curve stretch size j = size * worth_before curve stretch j / bond_worth curve stretch

-- "it gets the floor of (size of value × B / S) less the floor of (size of value × A / S)", on sizes
unfoldable pub share_size : Curve → List ℕ → ℕ → ℕ → ℕ
share_size curve stretch size j = floor_at curve stretch size (j + 1) - floor_at curve stretch size j

-- "with the value's sign": flow j's share of a value
unfoldable pub share : Curve → List ℕ → ℤ → ℕ → ℤ
share curve stretch value j = with_sign (negative value) (share_size curve stretch (nat_abs value) j)
