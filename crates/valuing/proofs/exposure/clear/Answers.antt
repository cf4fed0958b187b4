-- `valuing::exposure::clear` meets its contract. The part that is lent is filled, and what follows is kept.
use Rattle.numbers.specs.Buffers.{filled}
use Rattle.numbers.proofs.Buffers.{table_const}
use Rattle.std.proofs.Common.{pos}
use Rattle.std.proofs.lemmas.List.{length-take-le}
use Rattle.valuing.proofs.exposure.clear.Goals as goal

pub returns : goal.returns
unfolding filled
returns c = rw (c.fill.ensures.after (λ y e. e), length-take-le c.args.n c.args.out.now c.requires, table_const (pos 0) c.args.n 0)
