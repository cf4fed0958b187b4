-- `margin::amounts::charge_of` meets its contract.
use native.Mathlib.Omega.{arith}
use Rattle.margin.proofs.Addons.{total_within}
use Rattle.margin.specs.Figures.{charge_of}
use Rattle.margin.proofs.amounts.charge_of.Goals as goal

pub overflow_add-total : goal.overflow_add-total
overflow_add-total c = record {
  fits = omega (
    arith,
    c.ranges.undiversified.fits,
    c.add_on-addon.ensures,
    total_within c.args.p c.args.tail c.args.undiversified c.requires.within,
  );
}

pub returns : goal.returns
unfolding charge_of
returns c = rw c.add_on-addon.ensures
