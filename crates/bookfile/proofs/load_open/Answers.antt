-- A book leaves a byte of the buffer over. It stands here so that a wrong bound is refused for itself where `missing` is not proved
-- either (must-fail/no_book_taken_for_one.edit).
use Rattle.std.proofs.Common.{rules}
use Rattle.bookfile.proofs.load_open.Goals as goal

pub returns : goal.returns
returns c = search rules
