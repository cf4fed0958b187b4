-- `reading::vertices::check_vertex` meets its contract. Both tests are the definition's.
use mathlib.Core.Path.{◌≡◌, sym, ap, ◌∙◌}
use mathlib.Core.Bool.{Bool, true, false, ◌&&◌}
use Rattle.reading.specs.Vertices.{vertex_order}
use Rattle.reading.proofs.Checks.{ordered_first, ordered_next, vertex_judged}
use Rattle.reading.proofs.vertices.check_vertex.Goals.{then-v-eq0, else-v-eq0}
use Rattle.reading.proofs.vertices.check_vertex.Goals as goal

pub returns-then-in_ranges-ordered : goal.returns-then-in_ranges-ordered
returns-then-in_ranges-ordered c =
    let ordered : c.if-v-eq0.ordered ≡ vertex_order c.args.vertices.now c.args.v = elim c.if-v-eq0.branch [
      | then-v-eq0 w ↦ w.ordered-is ∙ ordered_first c.args.vertices.now c.args.v w.if-v-eq0.true
      | else-v-eq0 w ↦ w.ordered-is ∙ (w.is_before-ordered.ensures ∙ ordered_next c.args.vertices.now c.args.v w.at.result c.at-own.result w.if-v-eq0.false w.at.ensures.curve w.at.ensures.days c.at-own.ensures.curve c.at-own.ensures.days)
    ] in
    vertex_judged c.args.vertices.now c.args.v c.at-own.result c.if-v-eq0.ordered true c.at-own.ensures.curve c.at-own.ensures.zero c.at-own.ensures.days ordered (ap (λ (b : Bool). b && c.if-v-eq0.ordered) (sym c.in_ranges.ensures) ∙ c.if-in_ranges-ordered.true)

pub returns-else-in_ranges-ordered : goal.returns-else-in_ranges-ordered
returns-else-in_ranges-ordered c =
    let ordered : c.if-v-eq0.ordered ≡ vertex_order c.args.vertices.now c.args.v = elim c.if-v-eq0.branch [
      | then-v-eq0 w ↦ w.ordered-is ∙ ordered_first c.args.vertices.now c.args.v w.if-v-eq0.true
      | else-v-eq0 w ↦ w.ordered-is ∙ (w.is_before-ordered.ensures ∙ ordered_next c.args.vertices.now c.args.v w.at.result c.at-own.result w.if-v-eq0.false w.at.ensures.curve w.at.ensures.days c.at-own.ensures.curve c.at-own.ensures.days)
    ] in
    vertex_judged c.args.vertices.now c.args.v c.at-own.result c.if-v-eq0.ordered false c.at-own.ensures.curve c.at-own.ensures.zero c.at-own.ensures.days ordered (ap (λ (b : Bool). b && c.if-v-eq0.ordered) (sym c.in_ranges.ensures) ∙ c.if-in_ranges-ordered.false)
