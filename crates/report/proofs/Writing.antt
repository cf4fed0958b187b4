-- Laws of text that is written behind what was: one piece after another.
-- Assumes nothing.
use Prim.Native.Nat.{ℕ, ◌+◌, ◌≤◌}
use mathlib.Core.List.{List, [], ◌++◌, append_assoc}
use mathlib.Core.Path.{◌≡◌, refl, sym, ap, ◌∙◌}
use native.Mathlib.Omega.{arith}
use lib.ListN.{length, take, drop, length-append, take-append-drop}
use lib.Seq.{length-take-le, take_at, drop-drop, drop-append-add}
use Rattle.report.specs.declared.Writer.{Writer}
use Rattle.report.specs.InnerContracts.{Room, Wrote}
use Rattle.report.specs.Printed.{Printed}

-- no byte
pub wrote_none : (writer : Writer) → writer.at ≤ length writer.out.now → Wrote [] writer writer
wrote_none writer fits =
    record { same = refl; ends = omega arith; holds = sym (take-append-drop writer.at writer.out.now); size = refl; fits = fits }

-- the same text
pub wrote_is : {text other : List ℕ} {old new : Writer} → text ≡ other → Wrote other old new → Wrote text old new
wrote_is is wrote = rw is wrote

-- room for the same text, and for the first of two
pub room_is : {text other : List ℕ} {writer : Writer} → text ≡ other → Room text writer → Room other writer
room_is is fits = rw (← is) fits

pub room_first : (one other : List ℕ) {writer : Writer} → Room (one ++ other) writer → Room one writer
room_first one other fits = record { room = omega (arith, fits.room, length-append one other) }

-- one text and then another
module _ {one : List ℕ} {old mid : Writer} (first : Wrote one old mid) where
  -- where there was room for both, there still is for the other
  pub room_next : (other : List ℕ) → Room (one ++ other) old → Room other mid
  room_next other both = record { room = omega (arith, both.room, length-append one other, first.ends, first.size) }

  front : length (take old.at old.out.now ++ one) ≡ mid.at
  front =
      length-append (take old.at old.out.now) one
      ∙ omega (arith, length-take-le old.at old.out.now (omega (arith, first.ends, first.size, first.fits)), first.ends)

  split : mid.out.now ≡ take old.at old.out.now ++ one ++ drop mid.at old.out.now
  split = first.holds ∙ sym (append_assoc (take old.at old.out.now) one (drop mid.at old.out.now))

  -- what stands before the other
  head : take mid.at mid.out.now ≡ take old.at old.out.now ++ one
  head = ap (take mid.at) split ∙ take_at (take old.at old.out.now ++ one) (drop mid.at old.out.now) mid.at front

  -- what stands past it
  rest : (n : ℕ) → drop (mid.at + n) mid.out.now ≡ drop (mid.at + n) old.out.now
  rest n =
      ap (λ (a : ℕ). drop (a + n) mid.out.now) (sym front)
      ∙ (ap (drop (length (take old.at old.out.now ++ one) + n)) split
      ∙ (drop-append-add (take old.at old.out.now ++ one) (drop mid.at old.out.now) n ∙ drop-drop n mid.at old.out.now))

  pub wrote_both : {other : List ℕ} {new : Writer} → Wrote other mid new → Wrote (one ++ other) old new
  wrote_both {other} {new} second =
      record {
        same = second.same ∙ first.same;
        ends = omega (arith, first.ends, second.ends, length-append one other);
        holds =
            second.holds
            ∙ rw (head, second.ends, rest (length other))
            (append_assoc (take old.at old.out.now) one (other ++ drop (mid.at + length other) old.out.now)
            ∙ ap (λ (s : List ℕ). take old.at old.out.now ++ s) (sym (append_assoc one other (drop (mid.at + length other) old.out.now))));
        size = second.size ∙ first.size;
        fits = second.fits;
      }

-- text at the start
pub printed_of : {text : List ℕ} {old new : Writer} → old.at ≡ 0 → Wrote text old new → Printed text old.out.now new.at new.out.now
printed_of {text} {old} {new} start w =
    let ends : new.at ≡ length text = omega (arith, w.ends) in record { ends = ends; holds = rw (← ends) (w.holds ∙ rw start refl) }

-- the same text
pub printed_is : {text other old : List ℕ} {end : ℕ} {new : List ℕ} → text ≡ other → Printed text old end new → Printed other old end new
printed_is is wrote = rw (← is) wrote

-- the text lies within the buffer
pub printed_within : {text old : List ℕ} {end : ℕ} {new : List ℕ} → Printed text old end new → end ≤ length new
printed_within {text} {old} wrote = omega (arith, wrote.ends, ap length wrote.holds, length-append text (drop (length text) old))
