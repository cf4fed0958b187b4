-- What a check finds: nothing to refuse, or the refusal's number and item; and what the code's answer to a check says.
use Rattle.std.specs.Prelude.{ℕ, List, ◌++◌, Result, Ok, Err, codes, decimal, eqb, if◌then◌else◌}
use Rattle.numbers.specs.declared.error.Refusal.{Refusal}
use Rattle.numbers.specs.declared.error.Refusal.TheVariants.{ShortBook, Directory, ParameterBytes, ParameterRange, TailCount, VertexCount, Vertex, PriceCount, Price, BondCount, Bond, BondFlows, FlowCount, FlowDays, FlowAmounts, Worthless, PositionCount, PositionBond, Nominal, TotalValue, Return, ExposureBuffer, ReturnBuffer, ListBuffer, OutsideCalendar, MaturityNotAfter, BondTerms, IndexPrice, IndexMonth, IndexedCoupon}

-- "A refusal gives number and item index"
pub data Finding : Type 0 where
  Passed : Finding
  Refused : ℕ → ℕ → Finding

-- "Where an answer is an enum, a definition gives this paper's number and values for each of the enum's cases.": the number of
-- each `numbers::Refusal`
abbrev pub number_of : Refusal → ℕ
number_of ShortBook = 1
number_of Directory = 2
number_of ParameterBytes = 3
number_of ParameterRange = 4
number_of TailCount = 5
number_of VertexCount = 6
number_of (Vertex v) = 7
number_of PriceCount = 8
number_of (Price v) = 9
number_of BondCount = 10
number_of (Bond i) = 11
number_of (BondFlows i) = 12
number_of FlowCount = 13
number_of (FlowDays i) = 14
number_of (FlowAmounts i) = 15
number_of (Worthless i) = 16
number_of PositionCount = 17
number_of (PositionBond p) = 18
number_of (Nominal p) = 19
number_of TotalValue = 20
number_of (Return v) = 21
number_of ExposureBuffer = 22
number_of ReturnBuffer = 23
number_of ListBuffer = 24
number_of OutsideCalendar = 25
number_of MaturityNotAfter = 26
number_of BondTerms = 27
number_of IndexPrice = 28
number_of IndexMonth = 29
number_of IndexedCoupon = 30

-- "item index (vertex for 7, 9, 21; bond for 11, 12, 14 to 16; position for 18, 19; else 0)"
abbrev pub item_of : Refusal → ℕ
item_of ShortBook = 0
item_of Directory = 0
item_of ParameterBytes = 0
item_of ParameterRange = 0
item_of TailCount = 0
item_of VertexCount = 0
item_of (Vertex v) = v
item_of PriceCount = 0
item_of (Price v) = v
item_of BondCount = 0
item_of (Bond i) = i
item_of (BondFlows i) = i
item_of FlowCount = 0
item_of (FlowDays i) = i
item_of (FlowAmounts i) = i
item_of (Worthless i) = i
item_of PositionCount = 0
item_of (PositionBond p) = p
item_of (Nominal p) = p
item_of TotalValue = 0
item_of (Return v) = v
item_of ExposureBuffer = 0
item_of ReturnBuffer = 0
item_of ListBuffer = 0
item_of OutsideCalendar = 0
item_of MaturityNotAfter = 0
item_of BondTerms = 0
item_of IndexPrice = 0
item_of IndexMonth = 0
item_of IndexedCoupon = 0

-- "Otherwise it prints the word refused, the number and the item": a refusal as it is printed
abbrev pub refusal_text : Refusal → List ℕ
refusal_text r = codes "refused " ++ (decimal (number_of r) ++ (codes " " ++ decimal (item_of r)))

-- what the code's answer to a check says
abbrev pub found : Result Unit Refusal → Finding
found (Ok good) = Passed
found (Err refusal) = Refused (number_of refusal) (item_of refusal)

-- the finding of one item by its code: 0 for a good one, else the number of its refusal
abbrev pub judged : ℕ → ℕ → Finding
judged code i = if eqb code 0 then Passed else Refused code i
