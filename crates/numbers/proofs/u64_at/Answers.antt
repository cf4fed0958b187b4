use Rattle.std.proofs.Common.{rules}
use Rattle.numbers.specs.Little.{u64_at, u32_at, u16_at}
use Rattle.numbers.proofs.u64_at.Goals as goal

pub returns : goal.returns
unfolding u64_at u32_at u16_at
returns c = search rules
