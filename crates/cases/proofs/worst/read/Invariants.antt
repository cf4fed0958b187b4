-- The loop's invariant: the first i numbers are in their bound and stored.
use Prim.Native.Nat.{◌*◌}
use Rattle.cases.proofs.ReadPasses.{Reading}
use Rattle.cases.proofs.worst.read.Given as goal

abbrev pub invariant-loop-i : goal.invariant-loop-i
invariant-loop-i g l = Reading g.T.Number.magnitude (λ i. g.T.Number.stored l.s (8 * i)) l.i l.out
