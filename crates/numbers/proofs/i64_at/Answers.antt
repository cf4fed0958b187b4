-- `numbers::i64_at` meets its contract. The machine reads the eight bytes' number as two's complement.
use mathlib.Core.Path.{sym, ap, ◌∙◌}
use Rattle.numbers.proofs.Signs.{twos_complement_is, came}
use Rattle.std.proofs.Common.{w64}
use Rattle.numbers.specs.Little.{i64_at, twos_complement}
use Rattle.numbers.proofs.i64_at.Goals as goal

pub returns : goal.returns
unfolding i64_at
returns c =
    came w64 c.cast_signed.result c.cast_signed.type_inv
    (c.cast_signed.ensures ∙ (sym (twos_complement_is c.u64_at.result) ∙ ap twos_complement c.u64_at.ensures))
