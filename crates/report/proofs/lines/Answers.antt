-- `report::lines` meets its contract: `toolong`, or the lines of the answer that a run comes to.
use mathlib.Core.Path.{refl}
use Rattle.report.proofs.Writing.{wrote_is, printed_is, printed_of}
use Rattle.report.proofs.Printing.{run_printable, run_printed, long_printed}
use Rattle.std.proofs.Common.{rules}
use Rattle.report.proofs.lines.Goals as goal

pub returns-then-book-gt32768 : goal.returns-then-book-gt32768
returns-then-book-gt32768 c = printed_of refl (wrote_is (long_printed c.args.book.now c.if-book-gt32768.true) c.text.ensures)

pub put_answer-requires : goal.put_answer-requires
put_answer-requires c = run_printable c.args.book.now _ _ _ _ c.run-answer.ensures c.args.out.now (search rules) (search rules)

pub returns : goal.returns
returns c = printed_is (run_printed c.args.book.now _ _ _ _ c.run-answer.ensures c.if-book-gt32768.false) c.put_answer.ensures
