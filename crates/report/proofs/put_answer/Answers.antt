-- `report::put_answer` meets its contract: 512 bytes have room for the lines of any answer.
use native.Mathlib.Omega.{arith}
use Rattle.report.proofs.Sizes.{lines_fit}
use Rattle.report.proofs.put_answer.Goals as goal

pub answer-requires : goal.answer-requires
answer-requires c =
    let asks = c.requires in
    (asks.listed, record { room = omega (arith, asks.room, lines_fit c.args.list.now (λ i low. (c.type_inv.list i).fits) c.args.answer asks.few) })
