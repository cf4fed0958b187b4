-- `margin::fill_all` meets its contract.
use Rattle.scenarios.proofs.Sound.{returns_passed}
use Rattle.margin.proofs.Lending.{Fitting, fitting}
use Rattle.margin.proofs.AllElseEqual.{buffers_passed}
use Rattle.std.proofs.Common.{◌≡◌, length}
use Rattle.numbers.specs.Findings.{Passed}
use Rattle.reading.specs.Book.{market_of}
use Rattle.scenarios.specs.Check.{check_book}
use Rattle.margin.specs.Check.{lent}
use Rattle.margin.proofs.fill_all.Goals as goal
use Rattle.margin.proofs.fill_all.Goals.{Start}

-- the book passed
passed : (c : Start) → check_book c.args.book.now ≡ Passed
passed c = (buffers_passed _ _ c.requires).0

-- and each buffer has its room
room : (c : Start) → Fitting (market_of c.args.book.now) (lent (length c.args.exposures.now) (length c.args.returns.now) (length c.args.list.now))
room c = fitting _ _ (buffers_passed _ _ c.requires).1

pub exposures-requires : goal.exposures-requires
exposures-requires c = record { passed = (returns_passed _ (passed (search))).0; fits = (room (search)).exposures }

pub returns-requires : goal.returns-requires
returns-requires c = (passed (search), (room (search)).returns)

pub figures_from-requires : goal.figures_from-requires
figures_from-requires c =
    let here : Start = search in
    record {
      passed = passed here;
      exposures_before = c.args.exposures.now;
      returns_before = c.args.returns.now;
      exposures_fit = (room here).exposures;
      returns_fit = (room here).returns;
      exposed = c.exposures.ensures;
      returned = c.returns.ensures;
      room = (room here).list;
    }
