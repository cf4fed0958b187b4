-- `numbers::zero_pairs` meets its contract.
use native.Mathlib.Omega.{arith}
use Rattle.numbers.proofs.CloseGuess.{half_zeros}
use Rattle.numbers.proofs.zero_pairs.Goals as goal

pub overflow_sub-result : goal.overflow_sub-result
overflow_sub-result c = omega (arith, half_zeros c.args.n c.requires c.ranges.n.fits)

pub returns : goal.returns
returns c = omega (arith, half_zeros c.args.n c.requires c.ranges.n.fits)
