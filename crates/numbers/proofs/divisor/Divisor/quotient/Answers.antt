-- `numbers::divisor::Divisor::quotient` meets its contract. What is left over by the product tells the quotient from one less.
use native.Mathlib.Omega.{arith}
use Rattle.numbers.proofs.Divisors.{near_low, near_exact, near_less}
use Rattle.numbers.proofs.divisor.Divisor.quotient.Goals as goal

pub overflow_sub-rest : goal.overflow_sub-rest
overflow_sub-rest c =
    rw (c.upper_half-near.ensures, c.args.self.inverse_is, c.from-by.ensures)
    (near_low 18446744073709551616 c.args.n c.args.self.by c.ranges.n.fits c.args.self.some)

pub overflow_mul-rest : goal.overflow_mul-rest
overflow_mul-rest c = record { fits = omega (arith, c.ranges.n.fits, overflow_sub-rest c) }

pub returns-then-rest-by : goal.returns-then-rest-by
returns-then-rest-by c =
    rw (c.upper_half-near.ensures, c.args.self.inverse_is)
    (near_exact 18446744073709551616 c.args.n c.args.self.by c.ranges.n.fits c.args.self.some
    (rw (← c.args.self.inverse_is, ← c.upper_half-near.ensures, ← c.from-by.ensures) c.if-rest-by.true))

pub returns-else-rest-by : goal.returns-else-rest-by
returns-else-rest-by c =
    rw (c.upper_half-near.ensures, c.args.self.inverse_is)
    (near_less 18446744073709551616 c.args.n c.args.self.by c.ranges.n.fits c.args.self.some
    (rw (← c.args.self.inverse_is, ← c.upper_half-near.ensures, ← c.from-by.ensures) c.if-rest-by.false))
