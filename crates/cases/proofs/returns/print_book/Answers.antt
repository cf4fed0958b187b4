-- `cases::returns::print_book` is safe: both kinds of the returns of a book that passed fit the lent buffer.
use Rattle.std.proofs.Common.{◌*◌, refl, sym, arith}
use mathlib.Core.Path.{ap, ◌∙◌}
use lib.Seq.{length-take-le}
use Rattle.scenarios.specs.Buffer.{kind_size}
use Rattle.scenarios.proofs.Sound.{book_sections}
use Rattle.cases.proofs.ReturnsRoom.{room, entries_fit}
use Rattle.cases.proofs.returns.print_book.Goals as goal

pub of-requires : goal.of-requires
of-requires g c = book_sections _ (sym c.in_default.ensures)

pub returns-requires : goal.returns-requires
returns-requires g c = ((sym c.in_default.ensures), (room _ (sym c.in_default.ensures) c.requires).entries)

pub overflow_mul-out : goal.overflow_mul-out
overflow_mul-out g c = record { fits = omega (arith, (c.kind_size-n.ensures.value ∙ ap kind_size c.of.ensures), (room _ (sym c.in_default.ensures) c.requires).entries) }

pub slice_bounds-out-end : goal.slice_bounds-out-end
slice_bounds-out-end g c =
    let r = room _ (sym c.in_default.ensures) c.requires in
    entries_fit _ r _ (c.kind_size-n.ensures.value ∙ ap kind_size c.of.ensures) _ _ _ refl c.returns.ensures

pub slice_bounds-split_at-end : goal.slice_bounds-split_at-end
slice_bounds-split_at-end g c =
    let r = room _ (sym c.in_default.ensures) c.requires in
    sym (length-take-le _ _ (entries_fit _ r _ (c.kind_size-n.ensures.value ∙ ap kind_size c.of.ensures) _ _ _ refl c.returns.ensures))

pub split_at-requires : goal.split_at-requires
split_at-requires g c =
    let r = room _ (sym c.in_default.ensures) c.requires in
    omega (
      arith,
      length-take-le (2 * c.kind_size-n.result) c.returns.new.out (entries_fit _ r _ (c.kind_size-n.ensures.value ∙ ap kind_size c.of.ensures) _ _ _ refl c.returns.ensures),
    )
