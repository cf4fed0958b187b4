-- `valuing::holders::Holders::of` meets its contract. A position that is found stands before those that follow it.
use Prim.Native.Nat.{◌-◌, ◌<◌}
use native.Mathlib.Omega.{arith}
use lib.ListN.{length}
use Rattle.valuing.specs.Positions.{position_count}
use Rattle.valuing.proofs.Chains.{chain_none, chain_next, first_all, next_all}
use Rattle.valuing.proofs.holders.Holders.of.Goals as goal

pub loop-p-init : goal.loop-p-init
loop-p-init c = rw c.position_count-p.ensures (chain_none _ _ _ c.requires.none)

pub loop-p-preserved : goal.loop-p-preserved
loop-p-preserved c =
    let low : c.loop-p.p - 1 < position_count c.args.positions.now = omega (arith, c.loop-p-test.true, c.loop-p.auto.p, c.position_count-p.ensures) in
    let known : c.at-bond.result.bond < length c.args.first.now = rw c.at-bond.ensures.bond (c.requires.known (c.loop-p.p - 1) low) in
    chain_next _ _ _ (c.loop-p.p - 1) _ _ c.loop-p.invariant (omega (arith, c.loop-p-test.true)) low c.requires.fits c.at-bond.ensures.bond known

pub invariant_of-result : goal.invariant_of-result
invariant_of-result c =
    record {
      firsts = λ i low. first_all _ _ _ _ _ _ c.loop-p.invariant c.loop-p-test.false i (rw (← c.loop-p.auto.first) low);
      nexts = next_all _ _ _ _ _ _ c.loop-p.invariant c.loop-p-test.false;
      every = rw c.loop-p.auto.next c.requires.fits;
    }
