use native.Mathlib.Nat.{le_refl}
use native.Mathlib.Omega.{arith}
use mathlib.Core.Path.{sym, ap, ◌∙◌}
use lib.ListN.{length, get_or, length-map, replicate}
use Rattle.std.proofs.Common.{◌≡◌, ℕ}
use Rattle.numbers.specs.Buffers.{filled}
use Rattle.numbers.proofs.Buffers.{fill_none, fill_next, fill_end}
use Rattle.tails.specs.declared.worst.Ranked.{Ranked}
use Rattle.tails.specs.InnerContracts.{scenarios_of}
use Rattle.tails.proofs.Ranked.{scenario_at}
use Rattle.tails.proofs.Results.{copied_whole}
use Rattle.tails.proofs.list_of.Goals as goal

pub loop-j-init : goal.loop-j-init
loop-j-init c = fill_none _ _ _ (le_refl _)

pub overflow_cast-list : goal.overflow_cast-list
overflow_cast-list c = record { fits = omega (arith, scenario_at c.args.worst.now c.loop-j.j, c.requires c.loop-j.j) }

pub loop-j-preserved : goal.loop-j-preserved
loop-j-preserved c =
    fill_next _ _ _ (le_refl _) _ _ c.loop-j.invariant _ c.loop-j-test.true
    (sym (scenario_at c.args.worst.now c.loop-j.j))

pub returns : goal.returns
returns c =
    let sixteen : length (scenarios_of c.args.worst.now) ≡ 16 = length-map c.args.worst.now (λ (one : Ranked). one.scenario) ∙ c.told-worst in
    fill_end _ _ _ (le_refl _) _ _ c.loop-j.invariant c.loop-j-test.false
    ∙ (ap (λ (n : ℕ). filled (λ j. get_or (scenarios_of c.args.worst.now) j 0) n (replicate 16 0)) (sym sixteen)
    ∙ copied_whole (scenarios_of c.args.worst.now) (replicate 16 0) (omega (arith, sixteen)))
