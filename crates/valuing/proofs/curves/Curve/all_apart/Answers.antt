-- `valuing::curves::Curve::all_apart` meets its contract. Each vertex's is stored.
use native.Mathlib.Omega.{arith}
use Rattle.numbers.proofs.Buffers.{stored_none, stored_next}
use Rattle.valuing.proofs.Apart.{apart_all}
use Rattle.valuing.proofs.curves.Curve.all_apart.Goals as goal

pub loop-v-init : goal.loop-v-init
loop-v-init c = stored_none _ _

pub loop-v-preserved : goal.loop-v-preserved
loop-v-preserved c = stored_next _ _ _ _ c.loop-v.invariant _ (omega (arith, c.loop-v-test.true, c.vertex_count-v-end.ensures, c.requires.form.count.1)) c.days_apart.ensures

pub returns : goal.returns
returns c = apart_all _ _ _ _ c.loop-v.invariant (omega (arith, c.loop-v-test.false, c.vertex_count-v-end.ensures)) c.requires.form.count.1
