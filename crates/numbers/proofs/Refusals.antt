-- Findings whose refusals are small: a number up to a bound, and an item below 4,096. Each layer says so of its own check.
-- Assumes nothing.
use Rattle.std.specs.Prelude.{if◌then◌else◌}
use Prim.Native.Nat.{ℕ, ◌≤◌, ◌<◌}
use mathlib.Core.Bool.{Bool, true, false}
use mathlib.Core.Path.{◌≡◌, refl, sym}
use native.Mathlib.Omega.{arith}
use Rattle.numbers.specs.Findings.{Finding, Passed, Refused}
use Rattle.numbers.specs.Conditions.{within, In}
use Rattle.numbers.specs.Items.{and_then, first_failing}
use Rattle.numbers.proofs.Items.{in_range_lem, refused_not_passed, which_failed}

-- where the finding is a refusal: a number from 1 to `top`, and an item below 4,096
abbrev pub Small : ℕ → Finding → Type 0
Small top v = (number item : ℕ) → v ≡ Refused number item → In 1 top number × (item < 4096)

module _ {top : ℕ} where
  pub small_passed : Small top Passed
  small_passed number item e = absurd (refused_not_passed (sym e))

  pub small_refused : (number item : ℕ) → In 1 top number → item < 4096 → Small top (Refused number item)
  small_refused number item known few number' item' e =
      let same : number ≡ number' = cc in
      let here : item ≡ item' = cc in
      ((omega (arith, known.0), omega (arith, known.1)), omega arith)

  -- two checks in a row: the second where the first passed
  pub small_then : (a b : Finding) → Small top a → (a ≡ Passed → Small top b) → Small top (and_then a b)
  small_then Passed b first second = second refl
  small_then (Refused number item) b first second = first

  -- a test decides between two findings: the first where it holds
  pub small_if : (t : Bool) (a b : Finding) → (t ≡ true → Small top a) → Small top b → Small top (if t then a else b)
  small_if true a b first second = first refl
  small_if false a b first second = second

  -- a test decides between a finding and a refusal of the whole place, whose item is 0
  pub small_else : (t : Bool) (a : Finding) (number : ℕ) → within 1 top number ≡ true → (t ≡ true → Small top a) → Small top (if t then a else Refused number 0)
  small_else t a number known first = small_if t a (Refused number 0) first (small_refused number 0 (in_range_lem 1 top number known) (omega arith))

  -- the first failing one of at most 4,096 items whose codes are at most `top`
  pub small_failing : (code : ℕ → ℕ) (n : ℕ) → n ≤ 4096 → ((i : ℕ) → code i ≤ top) → Small top (first_failing code n 0)
  small_failing code n few known number item e =
      let w = which_failed code n 0 e in
      ((omega (arith, w.3), omega (arith, w.2, known item)), omega (arith, w.1))

  -- a test decides between two codes
  pub code_if : (t : Bool) (a b : ℕ) → a ≤ top → b ≤ top → (if t then a else b) ≤ top
  code_if true a b first second = first
  code_if false a b first second = second

  -- a larger number is no smaller bound
  pub small_more : {v : Finding} (more : ℕ) → top ≤ more → Small top v → Small more v
  small_more more le small number item e = let w = small number item e in ((w.0.0, omega (arith, w.0.1)), w.1)
