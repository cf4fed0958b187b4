-- `reading::parameters::Parameters::in_ranges` meets its contract: range by range.
use mathlib.Core.Path.{refl}
use Rattle.numbers.proofs.Ranges.{contained}
use Rattle.reading.proofs.parameters.Parameters.in_ranges.Goals as goal

pub returns : goal.returns
returns c =
    let lp = contained _ _ _ _ _ c.new.ensures.start c.new.ensures.end c.new.ensures.exhausted c.contains.ensures.value in
    let hp = contained _ _ _ _ _ c.new-2.ensures.start c.new-2.ensures.end c.new-2.ensures.exhausted c.contains-2.ensures.value in
    let confident = contained _ _ _ _ _ c.new-3.ensures.start c.new-3.ensures.end c.new-3.ensures.exhausted c.contains-3.ensures.value in
    let smooth = contained _ _ _ _ _ c.new-4.ensures.start c.new-4.ensures.end c.new-4.ensures.exhausted c.contains-4.ensures.value in
    rw (lp, hp, confident, smooth, c.lookback.ensures, c.holding_period.ensures, c.warm_up.ensures, c.confidence.ensures, c.smoothing.ensures, c.tail_mode.ensures, c.decorrelation.ensures) refl
