-- `cases::worst::read` meets its contract.
use Prim.Native.Nat.{◌*◌}
use native.Mathlib.Omega.{arith}
use Rattle.cases.proofs.ReadPasses.{reading_none, reading_next, reading_bad}
use Rattle.cases.proofs.worst.read.Goals as goal

pub loop-i-init : goal.loop-i-init
loop-i-init g c = reading_none _ _ _

pub returns-then-size-gt-MOST-clause-none : goal.returns-then-size-gt-MOST-clause-none
returns-then-size-gt-MOST-clause-none g c = λ _ _.
    reading_bad g.T.Number.magnitude (λ i. g.T.Number.stored c.args.s.now (8 * i)) c.loop-i.i c.stored_at-x.result c.stored_at-x.ensures
    c.args.m c.loop-i-test.true (omega arith)

pub loop-i-preserved : goal.loop-i-preserved
loop-i-preserved g c =
    reading_next g.T.Number.magnitude (λ i. g.T.Number.stored c.args.s.now (8 * i)) c.loop-i.i c.stored_at-x.result c.stored_at-x.ensures
    c.loop-i.out c.loop-i.invariant (omega arith) (omega arith)
