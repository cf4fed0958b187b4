-- `cases::exposures::print_book` is safe: a book that passed has at most 64 vertices, the entries of the lent buffer.
use Rattle.std.proofs.Common.{refl, sym}
use lib.Seq.{length-take-le}
use Rattle.cases.proofs.ExposuresRoom.{few_vertices, entries_fit}
use Rattle.cases.proofs.exposures.print_book.Goals as goal

pub exposures-requires : goal.exposures-requires
exposures-requires g c = record { passed = sym c.in_default.ensures; fits = few_vertices _ (sym c.in_default.ensures) }

pub slice_bounds-out-end : goal.slice_bounds-out-end
slice_bounds-out-end g c =
    rw c.vertex_count-n.ensures (entries_fit _ (sym c.in_default.ensures) _ _ _ refl c.exposures.ensures _ c.of.ensures.has)

pub slice_bounds-print_line-end-2 : goal.slice_bounds-print_line-end-2
slice_bounds-print_line-end-2 g c =
    let fits = entries_fit _ (sym c.in_default.ensures) _ _ _ refl c.exposures.ensures _ c.of.ensures.has in
    sym (length-take-le _ _ (rw c.vertex_count-n.ensures fits))
