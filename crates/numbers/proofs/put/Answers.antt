-- `numbers::put` meets its contract. What is copied is the first N of the number's eight bytes.
use mathlib.Core.Path.{ap, ◌∙◌}
use lib.ListN.{take}
use Rattle.numbers.proofs.Buffers.{table-take, placed_copied}
use Rattle.numbers.proofs.Little.{bytes_from}
use Rattle.std.proofs.Common.{ℕ, List}
use Rattle.numbers.specs.Little.{byte_of}
use Rattle.numbers.proofs.put.Goals as goal

pub returns : goal.returns
returns g c =
    placed_copied (byte_of c.args.n) c.args.at g.row.N c.args.out.now _
    (c.copy_from_slice.ensures.after
    ∙ (ap (λ (l : List ℕ). take g.row.N l) (c.to_le_bytes.ensures ∙ bytes_from c.args.n) ∙ table-take (byte_of c.args.n) g.row.N 8 0 c.requires.width))
