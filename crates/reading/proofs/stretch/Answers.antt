-- `reading::stretch` meets its contract. The bond's part of the flows' section is its stretch of the book; a refused book and a bond that it lacks have none.
use mathlib.Core.Path.{sym, ◌∙◌}
use native.Mathlib.Nat.{zero-add}
use Rattle.reading.proofs.Stretches.{passes_passed, none_refused, none_lacking, stretch_none, stretch_start_none, handed}
use Rattle.reading.proofs.stretch.Goals as goal

pub returns-then-not-passes : goal.returns-then-not-passes
returns-then-not-passes c =
    let none = none_refused c.args.book.now c.args.i (sym c.passes.ensures ∙ c.if-not-passes.true) in
    record { has = sym (stretch_none _ _ none); lies = rw (stretch_start_none _ _ none) (simp zero-add) }

pub returns-then-bond_count-i : goal.returns-then-bond_count-i
returns-then-bond_count-i c = let none = none_lacking c.args.book.now c.args.i
    (rw (← c.of-bonds.ensures.has, ← c.bond_count.ensures) c.if-bond_count-i.true) in
    record { has = sym (stretch_none _ _ none); lies = rw (stretch_start_none _ _ none) (simp zero-add) }

pub returns : goal.returns
returns c =
    handed _ _ _ _ _ (passes_passed _ (sym c.passes.ensures ∙ c.if-not-passes.false))
    (rw (← c.of-bonds.ensures.has, ← c.bond_count.ensures) c.if-bond_count-i.false)
    c.of-bonds.ensures.has c.of.ensures c.flows_of.ensures
