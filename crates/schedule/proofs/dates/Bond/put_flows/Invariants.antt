-- `schedule::dates::Bond::put_flows` meets its contract. The loop's invariant: the first r flows are put.
use Rattle.schedule.proofs.Putting.{PutTo}
use Rattle.schedule.proofs.dates.Bond.put_flows.Given as goal

abbrev pub invariant-loop-r : goal.invariant-loop-r
invariant-loop-r l = PutTo l.count l.last.number l.apart l.day l.from l.coupon l.initial.out l.r l.out
