-- What a call that draws flows comes to fits the code that the C boundary hands out.
-- Assumes nothing.
use Rattle.std.specs.Prelude.{Result}
use Prim.Native.Nat.{ℕ}
use mathlib.Core.List.{List}
use mathlib.Core.Path.{sym, subst}
use native.Mathlib.Omega.{arith}
use lib.ListN.{length}
use Rattle.calendar.specs.declared.Date.{Date}
use Rattle.schedule.specs.declared.Terms.{Terms}
use Rattle.linkers.specs.declared.Linker.{Linker}
use Rattle.numbers.specs.declared.error.Refusal.{Refusal as Reason}
use Rattle.schedule.specs.Drawn.{Outcome, Count, Refusal, outcome_of, Drawn}
use Rattle.schedule.specs.Exactly.{Ranged as PlainRanged}
use Rattle.schedule.proofs.Exactly.{outcomes_ranged as plain_ranged}
use Rattle.linkers.specs.Drawn.{Drawn as IndexedDrawn}
use Rattle.linkers.specs.Exactly.{Ranged}
use Rattle.linkers.proofs.Exactly.{outcomes_ranged}

-- what a bond's terms come to is among what an inflation bond's do
wider : (o : Outcome) → PlainRanged o → Ranged o
wider (Count count) w = w
wider (Refusal number item) w = ((w.0.0, omega (arith, w.0.1)), w.1)

pub flows_ranged : {t : Terms} {evaluation : Date} {old : List ℕ} {answer : Result ℕ Reason} {new : List ℕ} → Drawn t evaluation old answer new
    → Ranged (outcome_of answer)
flows_ranged {t} {evaluation} {old} {answer} d =
    wider (outcome_of answer) (subst PlainRanged (sym d.answered) (plain_ranged t evaluation (length old)))

pub linkers_ranged : {l : Linker} {evaluation : Date} {prices old : List ℕ} {answer : Result ℕ Reason} {new : List ℕ}
    → IndexedDrawn l evaluation prices old answer new → Ranged (outcome_of answer)
linkers_ranged {l} {evaluation} {prices} {old} d = subst Ranged (sym d.answered) (outcomes_ranged l evaluation prices (length old))
