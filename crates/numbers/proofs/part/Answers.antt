-- `numbers::part` meets its contract. The two tests are those of `fits_in_lem`; each way out lends the part that they leave.
use mathlib.Core.Path.{ap}
use native.Mathlib.Nat.{add-sub_cancel_left, zero-add}
use borrow.Author.Tests.{le-leb, lt-leb}
use lib.ListN.{take, drop}
use Rattle.std.proofs.Common.{ℕ}
use Rattle.numbers.specs.InnerContracts.{part_start}
use Rattle.numbers.specs.Buffers.{part_of}
use Rattle.numbers.proofs.part.Goals as goal

pub returns-then-len-s : goal.returns-then-len-s
unfolding part_of part_start
returns-then-len-s c = let a = c.args in
    record {
      has =
          simp (le-leb _ _ c.if-start-s.true, le-leb _ _ c.if-len-s.true)
          (ap (λ (q : ℕ). take q (drop a.start a.s.now)) (add-sub_cancel_left a.start a.len));
      lies = simp (le-leb _ _ c.if-start-s.true, le-leb _ _ c.if-len-s.true);
    }

pub returns-else-len-s : goal.returns-else-len-s
unfolding part_of part_start
returns-else-len-s c = record {
  has = simp (le-leb _ _ c.if-start-s.true, lt-leb _ _ c.if-len-s.false);
  lies = simp (le-leb _ _ c.if-start-s.true, lt-leb _ _ c.if-len-s.false, zero-add);
}

pub returns-else-start-s : goal.returns-else-start-s
unfolding part_of part_start
returns-else-start-s c = record {
  has = simp (lt-leb _ _ c.if-start-s.false);
  lies = simp (lt-leb _ _ c.if-start-s.false, zero-add);
}
