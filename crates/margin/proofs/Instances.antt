-- What meets premises of demand 3, one law each: a book equal to another in all but positions, and a book divided into itself and an
-- empty one.
-- Assumes nothing.
use Prim.Native.Nat.{ℕ, ◌+◌, ◌-◌, ◌<◌}
use mathlib.Core.List.{List, []}
use mathlib.Core.Path.{◌≡◌, refl, sym, ap, ◌∙◌}
use native.Mathlib.Omega.{arith}
use lib.ListN.{drop, get_or}
use lib.Seq.{get_or-take, get_or-drop}
use Rattle.margin.specs.declared.Figures.{Figures}
use Rattle.reading.specs.Book.{market_of, positions_of, section_offset, positions_section}
use Rattle.reading.proofs.Sections.{directory_tiled}
use Rattle.valuing.proofs.Order.{empty_passed, reordered_divided}
use Rattle.valuing.proofs.Sound.{accepted}
use Rattle.margin.specs.Check.{Lent}
use Rattle.margin.specs.Demands.{Accepted, Division}
use Rattle.margin.specs.Premises.{EqualMet}
use Rattle.margin.specs.Rebuilt.{with_positions}
use Rattle.margin.proofs.Demands.{accepted_passed}
use Rattle.margin.proofs.AllElseEqual.{places}
use Rattle.margin.proofs.Rebuilt.{passing_equal, passing_whole, passing_positions}

-- all but positions equal, byte by byte; and an accepted book is whole
pub equal_met : EqualMet
equal_met =
    record {
      equal = λ book other pairs sections.
          record {
            pairs = λ i low. sym (get_or-take 44 other i 0 low) ∙ (ap (λ (l : List ℕ). get_or l i 0) pairs ∙ get_or-take 44 book i 0 low);
            sections = λ i low high.
                let n = section_offset book positions_section - 48 in
                let back : 48 + (i - 48) ≡ i = omega arith in
                let less : i - 48 < n = omega arith in
                ap (λ (j : ℕ). get_or other j 0) (sym back)
                ∙ (sym (get_or-take n (drop 48 other) (i - 48) 0 less ∙ get_or-drop 48 other (i - 48) 0)
                ∙ (ap (λ (l : List ℕ). get_or l (i - 48) 0) sections
                ∙ (get_or-take n (drop 48 book) (i - 48) 0 less
                ∙ (get_or-drop 48 book (i - 48) 0 ∙ ap (λ (j : ℕ). get_or book j 0) back))));
          };
      whole = λ book b f a.
          let p = places book (accepted_passed book b a) in
          record { ends = (directory_tiled book p.directory).last; records = (accepted (market_of book).bonds (positions_of book) p.positions).whole };
    }

-- every accepted book is divided into itself and an empty one
pub apart : (book : List ℕ) (b : Lent) (f : Figures) → Accepted book b f → Division book book (with_positions book [])
apart book b f a =
    let s = positions_of book in
    let none = empty_passed (market_of book).bonds in
    record {
      equal_one = equal_met.equal book book refl refl;
      equal_other = passing_equal book b f a [] none;
      whole_one = equal_met.whole book b f a;
      whole_other = passing_whole book b f a [] none;
      records = rw (passing_positions book b f a [] none) (reordered_divided s s (λ r. refl));
    }
