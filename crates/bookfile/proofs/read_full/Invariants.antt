-- `read_full` ends, since each read leaves less to fill.
use Rattle.std.proofs.Common.{length, ◌-◌, ◌≤◌}
use Rattle.bookfile.proofs.read_full.Given as goal

abbrev pub invariant-loop-n : goal.invariant-loop-n
invariant-loop-n g l = l.n ≤ length l.buf

abbrev pub decreases-loop-n : goal.decreases-loop-n
decreases-loop-n g l = length l.initial.buf - l.n
