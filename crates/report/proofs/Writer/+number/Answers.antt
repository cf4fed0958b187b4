-- `report::Writer::number` meets its contract. The digits are those of its tenth, and one more.
use Prim.Native.Nat.{◌%◌}
use mathlib.Core.Path.{refl}
use native.Mathlib.Omega.{arith}
use Rattle.report.specs.Decimal.{digit_byte}
use Rattle.report.proofs.Digits.{decimal_one, decimal_more}
use Rattle.report.proofs.Writing.{room_is, room_first, room_next, wrote_is, wrote_both}
use Rattle.report.proofs.Writer.+number.Goals as goal

-- a number below 10
pub byte-requires : goal.byte-requires
byte-requires t c =
    room_is (decimal_one _ c.digit.result c.if-n-lt10.true c.digit.ensures) c.requires

pub returns-then-n-lt10 : goal.returns-then-n-lt10
returns-then-n-lt10 t c = wrote_is (decimal_one _ c.digit.result c.if-n-lt10.true c.digit.ensures) c.byte.ensures

-- any other
pub number-requires : goal.number-requires
number-requires t c =
    let more = decimal_more c.args.n (digit_byte (c.args.n % 10)) c.if-n-lt10.false (omega (arith, c.ranges.n.fits)) refl in
    (omega (arith, c.decreases, c.if-n-lt10.false), room_first _ _ (room_is more c.requires))

pub byte-requires-2 : goal.byte-requires-2
byte-requires-2 t c =
    let more = decimal_more c.args.n c.digit-2.result c.if-n-lt10.false (omega (arith, c.ranges.n.fits)) c.digit-2.ensures in
    room_next c.number.ensures _ (room_is more c.requires)

pub returns : goal.returns
returns t c =
    let more = decimal_more c.args.n c.digit-2.result c.if-n-lt10.false (omega (arith, c.ranges.n.fits)) c.digit-2.ensures in
    wrote_is more (wrote_both c.number.ensures c.byte-2.ensures)
