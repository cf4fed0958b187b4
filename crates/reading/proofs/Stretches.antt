-- A bond's stretch of the book: it fits, it is the bond's part of the flows' section, and it is empty where there is none.
-- Assumes nothing.
use Rattle.std.specs.Prelude.{Result, Ok, Err, is_err}
use Prim.Native.Nat.{ℕ, ◌+◌, ◌*◌, ◌≤◌, ◌<◌}
use mathlib.Core.Path.{◌≡◌, refl, sym, ap, ◌∙◌}
use mathlib.Core.Bool.{true, false}
use mathlib.Core.List.{List, []}
use lib.ListN.{length}
use native.Mathlib.Omega.{arith}
use borrow.Author.Tests.{lt-ltb, le-ltb}
use denote.Ref.{Bor}
use Rattle.numbers.specs.declared.error.Refusal.{Refusal}
use Rattle.numbers.specs.Findings.{Finding, Passed, Refused, found}
use Rattle.numbers.specs.Buffers.{part_of, PartOf}
use Rattle.numbers.proofs.Items.{true_not_false, and_false}
use Rattle.reading.specs.Book.{section_offset, section_of, market_of, bonds_section, flows_section}
use Rattle.reading.specs.InnerContracts.{section_start, Sound, flows_start}
use Rattle.reading.specs.Bonds.{bond_count, first_flow, flow_count_of}
use Rattle.reading.specs.Check.{check_sections}
use Rattle.reading.specs.Stretch.{passes, flows_of, has_stretch, stretch_start, stretch_of}
use Rattle.numbers.proofs.Buffers.{part_starts, part_length, part_through}
use Rattle.reading.proofs.Sections.{Section, directory_section}
use Rattle.reading.proofs.Sound.{book_passed, sound}

-- ---- passing as a test

-- a finding that passes the test is a pass
pub passes_passed : (v : Finding) → passes v ≡ true → v ≡ Passed
passes_passed Passed t = refl
passes_passed (Refused number item) t = absurd (true_not_false (sym t))

-- what a check's answer says is a pass where the answer is no error
pub ok_passes : (r : Result Unit Refusal) → is_err r ≡ false → passes (found r) ≡ true
ok_passes (Ok good) is = refl
ok_passes (Err refusal) is = absurd (true_not_false is)

pub err_passes : (r : Result Unit Refusal) → is_err r ≡ true → passes (found r) ≡ false
err_passes (Ok good) is = absurd (true_not_false (sym is))
err_passes (Err refusal) is = refl

-- ---- which bonds have a stretch

-- a bond of a book that passed 1 to 13 has a stretch
pub has_stretch_lem : (book : List ℕ) (i : ℕ) → check_sections book ≡ Passed → i < bond_count (section_of book bonds_section) → has_stretch book i ≡ true
unfolding has_stretch
has_stretch_lem book i e low = simp (e, lt-ltb i (bond_count (section_of book bonds_section)) low)

-- a refused book has none
pub none_refused : (book : List ℕ) (i : ℕ) → passes (check_sections book) ≡ false → has_stretch book i ≡ false
unfolding has_stretch
none_refused book i refused = simp refused

-- a bond that a book lacks has none
pub none_lacking : (book : List ℕ) (i : ℕ) → bond_count (section_of book bonds_section) ≤ i → has_stretch book i ≡ false
unfolding has_stretch
none_lacking book i past = simp (le-ltb i (bond_count (section_of book bonds_section)) past) (and_false (passes (check_sections book)))

-- there is no stretch: it has no bytes
pub stretch_none : (book : List ℕ) (i : ℕ) → has_stretch book i ≡ false → stretch_of book i ≡ []
unfolding stretch_of
stretch_none book i none = rw none

-- and begins at 0
pub stretch_start_none : (book : List ℕ) (i : ℕ) → has_stretch book i ≡ false → stretch_start book i ≡ 0
unfolding stretch_start
stretch_start_none book i none = rw none

-- there is one: where it begins
pub stretch_start_some : (book : List ℕ) (i : ℕ) → has_stretch book i ≡ true
    → stretch_start book i ≡ section_offset book flows_section + first_flow (section_of book bonds_section) i * 8
unfolding stretch_start
stretch_start_some book i some = rw some

-- and its bytes
pub stretch_some : (book : List ℕ) (i : ℕ) → has_stretch book i ≡ true
    → stretch_of book i ≡ part_of book (stretch_start book i) (flow_count_of (section_of book bonds_section) i * 8)
unfolding stretch_of
stretch_some book i some = rw some

-- ---- a bond's stretch

-- bond i's stretch of the book
pub record Stretch (book : List ℕ) (i : ℕ) : Type 0 where
  pub fits : stretch_start book i + flow_count_of (section_of book bonds_section) i * 8 ≤ length book
  pub bytes : stretch_of book i ≡ flows_of (section_of book bonds_section) (section_of book flows_section) i
  pub start : stretch_start book i ≡ flows_start (section_of book bonds_section) (section_of book flows_section) i + section_start book flows_section
  pub size : length (stretch_of book i) ≡ flow_count_of (section_of book bonds_section) i * 8
  -- it fits the flows' section too
  pub inner : first_flow (section_of book bonds_section) i * 8 + flow_count_of (section_of book bonds_section) i * 8 ≤ length (section_of book flows_section)

-- bond i's flows lie in the flows' section
pub flows_fit : (book : List ℕ) (i : ℕ) → Sound (market_of book) → i < bond_count (section_of book bonds_section)
    → first_flow (section_of book bonds_section) i * 8 + flow_count_of (section_of book bonds_section) i * 8 ≤ length (section_of book flows_section)
unfolding market_of
flows_fit book i s low = omega (arith, (s.bonds.bond i low).last, s.flows_size)

-- a book that passed 1 to 13 holds each bond's stretch
pub stretch : (book : List ℕ) (i : ℕ) → check_sections book ≡ Passed → i < bond_count (section_of book bonds_section) → Stretch book i
unfolding flows_of flows_start
stretch book i e low =
    let some = has_stretch_lem book i e low in
    let section : Section book 4 = directory_section book (book_passed book e).0 4 (omega arith) in
    let first = first_flow (section_of book bonds_section) i * 8 in
    let count = flow_count_of (section_of book bonds_section) i * 8 in
    let at : stretch_start book i ≡ section_offset book flows_section + first = stretch_start_some book i some in
    let inner : first + count ≤ length (section_of book flows_section) = flows_fit book i (sound book e) low in
    let fits : stretch_start book i + count ≤ length book = omega (arith, section.size, section.high) in
    record {
      fits = fits;
      bytes =
          stretch_some book i some
          ∙ (ap (λ (a : ℕ). part_of book a count) at ∙ section.part first count (omega (arith, section.size)));
      start = omega (arith, at, part_starts (section_of book flows_section) first count inner, section.start);
      size = ap length (stretch_some book i some) ∙ part_length book (stretch_start book i) count fits;
      inner = inner;
    }

-- ---- the slice that is handed out

-- bond i's part of the flows' section is its stretch of the book
pub handed : (book flows r : Bor (List ℕ)) (bonds : List ℕ) (i : ℕ) → check_sections book.now ≡ Passed → i < bond_count (section_of book.now 3)
    → bonds ≡ section_of book.now 3 → PartOf book flows (section_start book.now 4) (section_of book.now 4)
    → PartOf flows r (flows_start bonds flows.now i) (flows_of bonds flows.now i)
    → PartOf book r (stretch_start book.now i) (stretch_of book.now i)
handed book flows r bonds i e low same outer inner =
    let s : Stretch book.now i = stretch book.now i e low in
    rw (s.start, s.bytes, ← same, ← outer.has) (part_through book flows r (section_start book.now 4) _ _ _ outer inner)
