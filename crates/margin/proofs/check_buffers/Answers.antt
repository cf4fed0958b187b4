-- `margin::check_buffers` meets its contract.
use mathlib.Core.Path.{ap, ◌∙◌}
use Rattle.reading.specs.InnerContracts.{market_in}
use Rattle.reading.specs.Parameters.{tail_count}
use Rattle.margin.proofs.Lending.{short_exposures, short_returns, short_list, none_short}
use Rattle.margin.proofs.check_buffers.Goals as goal

pub returns-then-buffers-vertex_count : goal.returns-then-buffers-vertex_count
returns-then-buffers-vertex_count c =
    short_exposures (market_in c.args.m.now.market) _ _ _ _ c.vertex_count.ensures c.if-buffers-vertex_count.true

pub returns-then-buffers-kind_size : goal.returns-then-buffers-kind_size
returns-then-buffers-kind_size c =
    short_returns (market_in c.args.m.now.market) _ _ _ _ c.vertex_count.ensures c.if-buffers-vertex_count.false _
    c.kind_size.ensures.value c.if-buffers-kind_size.true

pub returns-then-buffers-tail_count : goal.returns-then-buffers-tail_count
returns-then-buffers-tail_count c =
    short_list (market_in c.args.m.now.market) _ _ _ _ c.vertex_count.ensures c.if-buffers-vertex_count.false _
    c.kind_size.ensures.value c.if-buffers-kind_size.false _
    (c.tail_count.ensures ∙ ap tail_count c.parameters.ensures) c.if-buffers-tail_count.true

pub returns : goal.returns
returns c =
    none_short (market_in c.args.m.now.market) _ _ _ _ c.vertex_count.ensures c.if-buffers-vertex_count.false _
    c.kind_size.ensures.value c.if-buffers-kind_size.false _
    (c.tail_count.ensures ∙ ap tail_count c.parameters.ensures) c.if-buffers-tail_count.false
