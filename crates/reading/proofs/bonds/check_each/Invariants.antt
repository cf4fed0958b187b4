-- `reading::bonds::check_each` meets its contract. The loop's invariant: what is left from bond i on decides the whole, and `start` counts the flows of the bonds before i.
use Prim.Native.Nat.{◌*◌, ◌≤◌}
use mathlib.Core.Path.{◌≡◌}
use Rattle.numbers.proofs.Items.{Reached}
use Rattle.reading.specs.Bonds.{bond_code, flows_before}
use Rattle.reading.proofs.bonds.check_each.Given as goal

abbrev pub invariant-loop-i : goal.invariant-loop-i
invariant-loop-i l = record {
  reached : Reached (bond_code l.vertices l.bonds) l.n l.i;
  counted : l.start ≡ flows_before l.bonds l.i;
  few : l.start ≤ 4294967296 * l.i;
}
