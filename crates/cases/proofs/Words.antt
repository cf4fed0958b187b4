-- An argument that is none of the five words.
-- Assumes nothing.
use Prim.Native.Nat.{ℕ}
use mathlib.Core.Bool.{Bool, true, false}
use mathlib.Core.List.{List}
use mathlib.Core.Path.{◌≡◌, sym, ◌∙◌}
use Rattle.numbers.proofs.Items.{true_not_false}
use Rattle.cases.specs.declared.Layer.{Layer}
use Rattle.cases.specs.declared.Layer.TheVariants.{Inspect, Exposures, Returns, Worst, Unit}
use Rattle.cases.specs.InnerContracts.{word_of}

-- what a comparison that failed says
pub differs : {text word : List ℕ} {r : Bool} → (text ≡ word → r ≡ true) → r ≡ false → text ≡ word → ⊥
differs same left e = true_not_false (sym (same e) ∙ left)

-- no layer's word, since it is none of the five
pub no_word : {text : List ℕ} → (text ≡ word_of Inspect → ⊥) → (text ≡ word_of Exposures → ⊥) → (text ≡ word_of Returns → ⊥)
    → (text ≡ word_of Worst → ⊥) → (text ≡ word_of Unit → ⊥) → (layer : Layer) → text ≡ word_of layer → ⊥
no_word a b c d e Inspect = a
no_word a b c d e Exposures = b
no_word a b c d e Returns = c
no_word a b c d e Worst = d
no_word a b c d e Unit = e
