-- `linkers::flows` meets its contract: the refusals in their order, or the flows.
use mathlib.Core.Path.{refl, ap}
use lib.ListN.{drop}
use Rattle.std.proofs.lemmas.Result.{err_from_is_err_and}
use Rattle.std.proofs.Common.{◌*◌, ℕ, List, ◌++◌}
use Rattle.linkers.proofs.Dates.{linker_dates_passed}
use Rattle.linkers.proofs.Drawing.{refusal_drawn, issued_refused, count_refused, bond_refused, coupon_refused, all_drawn}
use Rattle.linkers.proofs.flows.Goals as goal

pub returns-in_err-issued : goal.returns-in_err-issued
returns-in_err-issued c =
    let p = err_from_is_err_and c.from_residual.result c.from_residual.ensures.1 in
    rw (p.1, p.2) (refusal_drawn c.args.linker c.args.evaluation c.args.prices.now _ _ (issued_refused _ _ _ _ _ _ c.in_err-issued.ensures))

pub seen_later-requires-clause-known : goal.seen_later-requires-clause-known
seen_later-requires-clause-known c = (linker_dates_passed c.args.linker c.args.evaluation c.in_ok-issued.ensures.0).0

pub seen_later-requires-clause-before : goal.seen_later-requires-clause-before
seen_later-requires-clause-before c =
    let before = (linker_dates_passed c.args.linker c.args.evaluation c.in_ok-issued.ensures.0).3 in
    rw (← c.in_ok-issued.ensures.1) at before

pub returns-then-count-out : goal.returns-then-count-out
returns-then-count-out c =
    refusal_drawn _ _ _ _ _
    (count_refused c.args.linker c.args.evaluation c.args.prices.now c.in_ok-issued.issued c.seen_later.result c.in_ok-issued.ensures c.seen_later.ensures _ _ c.flow_count-count.ensures.0 c.if-count-out.true)

pub returns-in_err-bond : goal.returns-in_err-bond
returns-in_err-bond c =
    let p = err_from_is_err_and c.from_residual-in_err-bond.result c.from_residual-in_err-bond.ensures.1 in
    rw (p.1, p.2)
    (refusal_drawn _ _ _ _ _
    (bond_refused c.args.linker c.args.evaluation c.args.prices.now c.in_ok-issued.issued c.seen_later.result c.in_ok-issued.ensures c.seen_later.ensures _ _ c.flow_count-count.ensures.0 c.if-count-out.false _ _ c.in_err-bond.ensures))

pub put_flows-requires-clause-known : goal.put_flows-requires-clause-known
put_flows-requires-clause-known c = (linker_dates_passed c.args.linker c.args.evaluation c.in_ok-issued.ensures.0).0

pub returns-in_err-written : goal.returns-in_err-written
returns-in_err-written c =
    let p = err_from_is_err_and c.from_residual-in_err-written.result c.from_residual-in_err-written.ensures.1 in
    rw (p.1, p.2, c.in_err-written.ensures.0)
    (refusal_drawn _ _ _ _ _
    (coupon_refused c.args.linker c.args.evaluation c.args.prices.now c.in_ok-issued.issued c.seen_later.result c.in_ok-issued.ensures c.seen_later.ensures _ _ c.flow_count-count.ensures.0 c.if-count-out.false
    c.in_ok-bond.bond c.in_ok-bond.ensures c.in_err-written.ensures.1))

pub returns : goal.returns
returns c =
    all_drawn c.args.linker c.args.evaluation c.args.prices.now c.in_ok-issued.issued c.seen_later.result c.in_ok-issued.ensures c.seen_later.ensures _ _ c.flow_count-count.ensures.0 c.if-count-out.false
    c.in_ok-bond.bond c.in_ok-bond.ensures _ _ _ c.args.out.now _ refl
    c.in_ok-written.ensures (ap (λ (l : List ℕ). l ++ drop (8 * c.in_ok-written.written) c.args.out.now) c.copy_from_slice.ensures.after)
