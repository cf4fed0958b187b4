-- `margin::figures_from` meets its contract.
use mathlib.Core.Path.{sym, ap, ◌∙◌}
use native.Mathlib.Omega.{arith}
use lib.Seq.{length-take-le}
use Rattle.std.proofs.Common.{rules}
use Rattle.reading.proofs.Markets.{same_parameters, same_vertices}
use Rattle.scenarios.specs.Buffer.{kind_size}
use Rattle.scenarios.proofs.Sound.{book_sections}
use Rattle.margin.proofs.BothKinds.{whole_parameters, whole_enough, whole_tail, whole_half, whole_exposures, whole_returns, whole_firsts, unscaled_rows, scaled_rows, whole_unscaled, whole_scaled, whole_figures, whole_lists}
use Rattle.margin.proofs.figures_from.Goals as goal

pub of-m-requires : goal.of-m-requires
of-m-requires c = book_sections _ c.requires.passed

pub of-measure-requires : goal.of-measure-requires
of-measure-requires c = record {
  sound = whole_parameters c.requires _ (c.parameters-parameters.ensures ∙ same_parameters c.of-m.ensures);
  enough = whole_enough c.requires _ (c.parameters-parameters.ensures ∙ same_parameters c.of-m.ensures);
}

pub slice_bounds-x-end : goal.slice_bounds-x-end
slice_bounds-x-end c =
    sym (length-take-le _ _ (whole_exposures c.requires _ (c.parameters-parameters.ensures ∙ same_parameters c.of-m.ensures) _ _ _
    (same_vertices c.vertex_count-n.ensures c.of-m.ensures) (c.from-lp.ensures ∙ c.lookback.ensures) (c.kind_size-half.ensures.value ∙ ap kind_size c.of-m.ensures)))

pub slice_bounds-of-end : goal.slice_bounds-of-end
slice_bounds-of-end c =
    sym (whole_firsts c.requires _ (c.parameters-parameters.ensures ∙ same_parameters c.of-m.ensures) _ _ _
    (same_vertices c.vertex_count-n.ensures c.of-m.ensures) (c.from-lp.ensures ∙ c.lookback.ensures) (c.kind_size-half.ensures.value ∙ ap kind_size c.of-m.ensures))

pub of-plain-requires : goal.of-plain-requires
of-plain-requires c =
    unscaled_rows c.requires _ (c.parameters-parameters.ensures ∙ same_parameters c.of-m.ensures) _ _ _
    (same_vertices c.vertex_count-n.ensures c.of-m.ensures) (c.from-lp.ensures ∙ c.lookback.ensures) (c.kind_size-half.ensures.value ∙ ap kind_size c.of-m.ensures)

pub charge-one-requires : goal.charge-one-requires
charge-one-requires c =
    rw (c.of-measure.ensures, c.of-plain.ensures.same_lp)
    (whole_unscaled c.requires _ (c.parameters-parameters.ensures ∙ same_parameters c.of-m.ensures) _ _ _
    (same_vertices c.vertex_count-n.ensures c.of-m.ensures) (c.from-lp.ensures ∙ c.lookback.ensures) (c.kind_size-half.ensures.value ∙ ap kind_size c.of-m.ensures))

pub slice_bounds-of-count : goal.slice_bounds-of-count
slice_bounds-of-count c =
    omega (
      arith,
      whole_returns c.requires _ (c.parameters-parameters.ensures ∙ same_parameters c.of-m.ensures) _ _ _
          (same_vertices c.vertex_count-n.ensures c.of-m.ensures) (c.from-lp.ensures ∙ c.lookback.ensures) (c.kind_size-half.ensures.value ∙ ap kind_size c.of-m.ensures),
    )

pub slice_bounds-of-start : goal.slice_bounds-of-start
slice_bounds-of-start c =
    let h = whole_returns c.requires _ (c.parameters-parameters.ensures ∙ same_parameters c.of-m.ensures) _ _ _
    (same_vertices c.vertex_count-n.ensures c.of-m.ensures) (c.from-lp.ensures ∙ c.lookback.ensures) (c.kind_size-half.ensures.value ∙ ap kind_size c.of-m.ensures) in
    let g = whole_half c.requires _ (c.parameters-parameters.ensures ∙ same_parameters c.of-m.ensures) _ _ _
    (same_vertices c.vertex_count-n.ensures c.of-m.ensures) (c.from-lp.ensures ∙ c.lookback.ensures) (c.kind_size-half.ensures.value ∙ ap kind_size c.of-m.ensures) in
    search rules

pub of-by_volatility-requires : goal.of-by_volatility-requires
of-by_volatility-requires c =
    scaled_rows c.requires _ (c.parameters-parameters.ensures ∙ same_parameters c.of-m.ensures) _ _ _
    (same_vertices c.vertex_count-n.ensures c.of-m.ensures) (c.from-lp.ensures ∙ c.lookback.ensures) (c.kind_size-half.ensures.value ∙ ap kind_size c.of-m.ensures)

pub charge-other-requires : goal.charge-other-requires
charge-other-requires c =
    let first = rw (c.of-plain.ensures.same_book, c.of-plain.ensures.same_exposures, c.of-measure.ensures) at c.charge-one.ensures in
    let k_is = rw c.of-measure.ensures at c.of-measure.result.asked.k_is in
    rw (c.of-measure.ensures, c.of-by_volatility.ensures.same_lp)
    (whole_scaled c.requires _ (c.parameters-parameters.ensures ∙ same_parameters c.of-m.ensures) _ _ _
    (same_vertices c.vertex_count-n.ensures c.of-m.ensures) (c.from-lp.ensures ∙ c.lookback.ensures) (c.kind_size-half.ensures.value ∙ ap kind_size c.of-m.ensures) _ k_is _ _ first)

pub euros_of-euros-requires : goal.euros_of-euros-requires
euros_of-euros-requires c =
    let k_is = rw c.of-measure.ensures at c.of-measure.result.asked.k_is in
    whole_tail c.requires _ (c.parameters-parameters.ensures ∙ same_parameters c.of-m.ensures) _ k_is

pub returns : goal.returns
returns c =
    let first = rw (c.of-plain.ensures.same_book, c.of-plain.ensures.same_exposures, c.of-measure.ensures) at c.charge-one.ensures in
    let second = rw (c.of-by_volatility.ensures.same_book, c.of-by_volatility.ensures.same_exposures, c.of-measure.ensures) at c.charge-other.ensures in
    let k_is = rw c.of-measure.ensures at c.of-measure.result.asked.k_is in
    record {
      figures = whole_figures c.requires _ (c.parameters-parameters.ensures ∙ same_parameters c.of-m.ensures) _ _ _
          (same_vertices c.vertex_count-n.ensures c.of-m.ensures) (c.from-lp.ensures ∙ c.lookback.ensures) (c.kind_size-half.ensures.value ∙ ap kind_size c.of-m.ensures) _ k_is _ _ first _ _ second _ c.euros_of-euros.ensures;
      listed = whole_lists c.requires _ (c.parameters-parameters.ensures ∙ same_parameters c.of-m.ensures) _ _ _
          (same_vertices c.vertex_count-n.ensures c.of-m.ensures) (c.from-lp.ensures ∙ c.lookback.ensures) (c.kind_size-half.ensures.value ∙ ap kind_size c.of-m.ensures) _ k_is _ _ first _ _ second;
    }

pub offset_bounds-returns-half : goal.offset_bounds-returns-half
offset_bounds-returns-half c = record {
  fits = omega (
    arith,
    whole_half c.requires _ (c.parameters-parameters.ensures ∙ same_parameters c.of-m.ensures) _ _ _
        (same_vertices c.vertex_count-n.ensures c.of-m.ensures) (c.from-lp.ensures ∙ c.lookback.ensures) (c.kind_size-half.ensures.value ∙ ap kind_size c.of-m.ensures),
  );
}
