-- Laws of lines: the pieces that they are written in.
-- Assumes nothing.
use Prim.Native.Nat.{ℕ, suc, ◌+◌, ◌-◌, ◌<◌}
use mathlib.Core.List.{List, [], ◌∷◌, ◌++◌, append_assoc, append-nil}
use mathlib.Core.Path.{◌≡◌, refl, sym, ap, ◌∙◌}
use native.Mathlib.Omega.{arith}
use lib.ListN.{length, take, drop, get_or, take-append-drop}
use lib.Seq.{take-suc, drop-cons}
use Rattle.std.specs.Prelude.{Ok}
use Rattle.margin.specs.declared.Figures.{Figures}
use Rattle.margin.specs.declared.Charge.{Charge}
use Rattle.margin.specs.Run.{outcome_of}
use Rattle.report.specs.InnerContracts.{charge_figures, charge_line}
use Rattle.report.specs.Text.{field, fields, feed, line, tail_word, unscaled_word, scaled_word, margin_word, lines_of}

-- ---- fields

-- one
pub fields_one : (n : ℕ) → fields (n ∷ []) ≡ field n
unfolding fields
fields_one n = append-nil (field n)

-- one before others
pub fields_cons : (n : ℕ) (s : List ℕ) → fields (n ∷ s) ≡ field n ++ fields s
unfolding fields
fields_cons n s = refl

-- those of two lists
pub fields-append : (s t : List ℕ) → fields (s ++ t) ≡ fields s ++ fields t
unfolding fields
fields-append [] t = refl
fields-append (n ∷ s) t = ap (λ (l : List ℕ). field n ++ l) (fields-append s t) ∙ sym (append_assoc (field n) (fields s) (fields t))

-- those of T, U, D and M
pub fields_charge : (charge : Charge) → fields (charge_figures charge) ≡ field charge.tail ++ (field charge.undiversified ++ (field charge.addon ++ field charge.total))
unfolding fields
fields_charge charge =
    ap (λ (l : List ℕ). field charge.tail ++ (field charge.undiversified ++ (field charge.addon ++ l))) (fields_one charge.total)

module _ (list : List ℕ) (i : ℕ) where
  -- those before entry i, and those from it on
  pub fields_at : fields list ≡ fields (take i list) ++ fields (drop i list)
  fields_at = ap fields (sym (take-append-drop i list)) ∙ fields-append (take i list) (drop i list)

  -- entry i, and those past it
  pub fields_from : i < length list → fields (drop i list) ≡ field (get_or list i 0) ++ fields (drop (suc i) list)
  fields_from low = ap fields (drop-cons list i 0 low) ∙ fields_cons (get_or list i 0) (drop (suc i) list)

  -- those before entry i, and entry i
  pub fields_next : i < length list → fields (take (suc i) list) ≡ fields (take i list) ++ field (get_or list i 0)
  fields_next low =
      ap fields (take-suc list i 0 low)
      ∙ (fields-append (take i list) (get_or list i 0 ∷ [])
      ∙ ap (λ (l : List ℕ). fields (take i list) ++ l) (fields_one (get_or list i 0)))

-- ---- lines

module _ (word : List ℕ) where
  -- a word and a number
  pub line_one : (n : ℕ) → line word (n ∷ []) ≡ word ++ (field n ++ feed)
  line_one n = rw (fields_one n)

  -- a word and two numbers
  pub line_two : (n i : ℕ) → line word (n ∷ i ∷ []) ≡ word ++ (field n ++ (field i ++ feed))
  line_two n i = rw (fields_cons n (i ∷ []), fields_one i, append_assoc (field n) (field i) feed)

  -- a kind's line
  pub line_charge : (charge : Charge) (listed : List ℕ) → charge_line word charge listed ≡ word ++ (fields (charge_figures charge) ++ (fields listed ++ feed))
  line_charge charge listed =
      rw (fields-append (charge_figures charge) listed, append_assoc (fields (charge_figures charge)) (fields listed) feed)

-- ---- the lines of a margin, as the code cuts the list

module _ (f : Figures) where
  abbrev pub tail_line : List ℕ
  tail_line = line tail_word (f.k ∷ [])

  abbrev pub unscaled_line : List ℕ → List ℕ
  unscaled_line list = charge_line unscaled_word f.unscaled (take f.k list)

  abbrev pub scaled_line : List ℕ → List ℕ
  scaled_line list = charge_line scaled_word f.scaled (take (f.k + f.k - f.k) (drop f.k list))

  abbrev pub margin_line : List ℕ
  margin_line = line margin_word (f.euros ∷ [])

  pub lines_margin : (list : List ℕ) → lines_of (outcome_of (Ok f)) list ≡ tail_line ++ (unscaled_line list ++ (scaled_line list ++ margin_line))
  unfolding lines_of
  lines_margin list = let same : f.k + f.k - f.k ≡ f.k = omega arith in rw same
