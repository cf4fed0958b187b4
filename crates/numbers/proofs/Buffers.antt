-- Laws of parts of a slice and of filled buffers, over any element.
-- Assumes nothing.
use Rattle.std.specs.Prelude.{if◌then◌else◌}
use Prim.Native.Nat.{ℕ, zero, suc, ◌+◌, ◌-◌, ◌*◌, ◌≤◌, ◌<◌}
use mathlib.Core.Bool.{Bool, true, false, ◌&&◌, ◌||◌}
use mathlib.Core.List.{List, [], ◌∷◌, ◌++◌, append-nil}
use mathlib.Core.Logic.{◌≢◌, ◌⊎◌, inl, inr, ⊎_elim}
use mathlib.Core.Path.{◌≡◌, refl, sym, ap, ◌∙◌, subst}
use native.Mathlib.Nat.{add-zero, zero-add, add_assoc, le_refl, not-suc-le-zero}
use native.Mathlib.Numerals.{add-one}
use native.Mathlib.Omega.{arith}
use borrow.Author.Tests.{le-leb, lt-ltb, leb-true, ltb-true, ltb-false, eqb-true, eqb-false}
use lib.Dec.{eqb, leb, ltb}
use lib.IntN.{ℤ, pos, ◌+ℤ◌, +ℤ_assoc, +ℤ_idr}
use lib.ListN.{length, take, drop, get_or, set, replicate, take-append-drop, length-append, length-set, length-take, length-drop, get_or-append}
use lib.Seq.{take-length, take-append_seam, drop-length, get_or-take, get_or-drop, get_or-append-add, drop-cons, set_at, drop_at, append_snoc, get_or-set_same, get_or-set_other, ext_get_or}
use denote.Ref.{Bor}
use Rattle.numbers.specs.Buffers.{fits_in, part_of, PartOf, table, filled, placed}
use Rattle.numbers.specs.InnerContracts.{part_start, added}
use Rattle.numbers.proofs.Items.{by_test, both, either, neither, or_true, true_not_false}

-- ---- parts

-- the test says what lies within
pub fits_in_lem : (n start size : ℕ) → start + size ≤ n → fits_in n start size ≡ true
fits_in_lem n start size h = rw (le-leb start n (omega arith)) (le-leb size (n - start) (omega arith))

module _ {A : Type 0} (s : List A) (start size : ℕ) where
  -- a part that lies within, in the list's own terms
  pub part_is : start + size ≤ length s → part_of s start size ≡ take size (drop start s)
  unfolding part_of
  part_is h = rw (fits_in_lem (length s) start size h)

  -- it begins where it was asked for
  pub part_starts : start + size ≤ length s → part_start s start size ≡ start
  unfolding part_start
  part_starts h = rw (fits_in_lem (length s) start size h)

  -- it has the whole size
  pub part_length : start + size ≤ length s → length (part_of s start size) ≡ size
  part_length h = ap length (part_is h) ∙ simp (length-take, length-drop) (omega arith)

  -- its entries are the list's
  pub part_at : start + size ≤ length s → (i : ℕ) (d : A) → i < size → get_or (part_of s start size) i d ≡ get_or s (start + i) d
  part_at h i d below = ap (λ (l : List A). get_or l i d) (part_is h) ∙ rw (get_or-take, get_or-drop)

-- a part of a part is a part of the whole; d is any entry
pub part_part : {A : Type 0} (s : List A) (start size from count : ℕ) (d : A) → start + size ≤ length s → from + count ≤ size
    → part_of s (start + from) count ≡ part_of (part_of s start size) from count
part_part {A} s start size from count d fits inner =
    let long : length (part_of s start size) ≡ size = part_length s start size fits in
    let whole : start + from + count ≤ length s = omega arith in
    let within : from + count ≤ length (part_of s start size) = omega arith in
    let n : length (part_of s (start + from) count) ≡ count = part_length s (start + from) count whole in
    ext_get_or d (part_of s (start + from) count) (part_of (part_of s start size) from count)
    (n ∙ sym (part_length (part_of s start size) from count within))
    (λ i low.
    let small : i < count = omega arith in
    part_at s (start + from) count whole i d small
    ∙ (ap (λ (o : ℕ). get_or s o d) (add_assoc start from i)
    ∙ (sym (part_at s start size fits (from + i) d (omega arith))
    ∙ sym (part_at (part_of s start size) from count within i d small))))

-- parts of two lists that lie within both and agree there are equal
pub part_same : {A : Type 0} (d : A) (s t : List A) (start size : ℕ) → start + size ≤ length s → start + size ≤ length t
    → ((i : ℕ) → start ≤ i → i < start + size → get_or s i d ≡ get_or t i d) → part_of s start size ≡ part_of t start size
part_same d s t start size fits-s fits-t same =
    ext_get_or d (part_of s start size) (part_of t start size)
    (part_length s start size fits-s ∙ sym (part_length t start size fits-t))
    (λ i low.
    let small : i < size = omega (arith, part_length s start size fits-s) in
    part_at s start size fits-s i d small
    ∙ (same (start + i) (omega arith) (omega arith) ∙ sym (part_at t start size fits-t i d small)))

-- a part of a part of a slice lies in the slice
pub part_through : (s r t : Bor (List ℕ)) (a b : ℕ) (x y : List ℕ) → PartOf s r a x → PartOf r t b y → PartOf s t (b + a) y
part_through s r t a b x y outer inner =
    record {
      has = inner.has;
      lies =
          inner.lies
          ∙ (ap (λ (q : ℕ × ℕ). (q.0, b + q.1)) outer.lies
          ∙ ap (λ (n : ℕ). (s.ref_ptr.0, n)) (sym (add_assoc b a s.ref_ptr.1)));
    }

-- the o entries from a on, as `s[a..a + o]` cuts them
module _ {A : Type 0} (s : List A) (a o : ℕ) (fits : a + o ≤ length s) where
  -- as many as are asked for
  pub cut_length : length (take (a + o - a) (drop a s)) ≡ o
  cut_length = length-take (a + o - a) (drop a s) ∙ (let size = length-drop a s in omega (arith, size))

  -- its entries are the slice's
  pub cut_at : (i : ℕ) (d : A) → i < o → get_or (take (a + o - a) (drop a s)) i d ≡ get_or s (a + i) d
  cut_at i d low = get_or-take (a + o - a) (drop a s) i d (omega arith) ∙ get_or-drop a s i d

-- ---- tables

-- a table's length
pub table-length : {A : Type 0} (f : ℕ → A) (n i : ℕ) → length (table f n i) ≡ n
unfolding table
table-length f zero i = refl
table-length f (suc n) i = ap suc (table-length f n (suc i))

-- a table's entries
pub table_at : {A : Type 0} (f : ℕ → A) (n i j : ℕ) (d : A) → j < n → get_or (table f n i) j d ≡ f (i + j)
unfolding table
table_at f zero i j d h = absurd (omega arith)
table_at f (suc n) i zero d h = ap f (sym (add-zero i))
table_at f (suc n) i (suc j) d h =
    let less : j < n = omega arith in
    let one : suc i + j ≡ i + suc j = omega arith in
    table_at f n (suc i) j d less ∙ ap f one

-- tables of functions that agree where they are read are equal
pub table_same : {A : Type 0} (f g : ℕ → A) (n i : ℕ) → ((j : ℕ) → i ≤ j → j < i + n → f j ≡ g j) → table f n i ≡ table g n i
unfolding table
table_same f g zero i same = refl
table_same {A} f g (suc n) i same =
    rw (same i (le_refl i) (omega arith))
    (ap (λ (l : List A). g i ∷ l) (table_same f g n (suc i) (λ j low high. same j (omega arith) (omega arith))))

-- a table of one value
pub table_const : {A : Type 0} (a : A) (n i : ℕ) → table (λ j. a) n i ≡ replicate n a
unfolding table
table_const a zero i = refl
table_const {A} a (suc n) i = ap (λ (l : List A). a ∷ l) (table_const a n (suc i))

-- a table after one store is the table of a function that differs there alone
pub table-set : {A : Type 0} (f g : ℕ → A) (n o : ℕ) (y : A) → o < n → g o ≡ y → ((j : ℕ) → j ≢ o → f j ≡ g j) → set (table f n 0) o y ≡ table g n 0
table-set {A} f g n o y low here other =
    ext_get_or y (set (table f n 0) o y) (table g n 0)
    (length-set (table f n 0) o y ∙ (table-length f n 0 ∙ sym (table-length g n 0)))
    (λ j below. at j (simp (length-set, table-length) at below))
  where
    read : (h : ℕ → A) (j : ℕ) → j < n → get_or (table h n 0) j y ≡ h j
    read h j below = table_at h n 0 j y below ∙ ap h (zero-add j)

    at : (j : ℕ) → j < n → get_or (set (table f n 0) o y) j y ≡ get_or (table g n 0) j y
    at j below =
        by_test (eqb j o)
        (λ t.
        let same : j ≡ o = eqb-true j o t in
        rw same (get_or-set_same (table f n 0) o y y (rw (table-length f n 0) low) ∙ (sym here ∙ sym (read g o low))))
        (λ t.
        let apart : j ≢ o = eqb-false j o t in
        get_or-set_other (table f n 0) o j y y apart ∙ (read f j below ∙ (other j apart ∙ sym (read g j below))))

-- a table in two parts
pub table-add : {A : Type 0} (f : ℕ → A) (n m i : ℕ) → table f (n + m) i ≡ table f n i ++ table f m (i + n)
unfolding table
table-add f zero m i = rw (zero-add, add-zero)
table-add f (suc n) m i =
    let one : suc n + m ≡ suc (n + m) = omega arith in
    let next : i + suc n ≡ suc i + n = omega arith in
    rw (one, next) (ap (λ l. f i ∷ l) (table-add f n m (suc i)))

-- the first entries of a table
pub table-take : {A : Type 0} (f : ℕ → A) (n m i : ℕ) → n ≤ m → take n (table f m i) ≡ table f n i
unfolding table
table-take f zero m i h = refl
table-take f (suc n) zero i h = absurd (omega arith)
table-take {A} f (suc n) (suc m) i h = ap (λ (l : List A). f i ∷ l) (table-take f n m (suc i) (omega arith))

-- a table with one entry more
pub table_more : {A : Type 0} (f : ℕ → A) (n i : ℕ) → table f (suc n) i ≡ table f n i ++ (f (i + n) ∷ [])
unfolding table
table_more f n i = ap (λ (o : ℕ). table f o i) (sym (add-one n)) ∙ table-add f n 1 i

-- a table of a function read further on
pub table_shift : {A : Type 0} (f : ℕ → A) (at n i : ℕ) → table (λ j. f (at + j)) n i ≡ table f n (at + i)
unfolding table
table_shift f at zero i = refl
table_shift f at (suc n) i =
    let next : at + suc i ≡ suc (at + i) = omega arith in
    ap (λ l. f (at + i) ∷ l) (table_shift f at n (suc i) ∙ ap (table f n) next)

-- ---- filled buffers

-- nothing is filled
pub filled_none : {A : Type 0} (f : ℕ → A) (old : List A) → filled f 0 old ≡ old
unfolding filled table
filled_none f old = refl

-- one more
pub filled_more : {A : Type 0} (f : ℕ → A) (n : ℕ) (old : List A) → n < length old → filled f (suc n) old ≡ set (filled f n old) n (f n)
unfolding filled
filled_more f n old h =
    rw (table_more f n 0, zero-add n, append_snoc (table f n 0) (f n) (drop (suc n) old))
    (rw (drop-cons old n (f n) h)
    (sym (set_at (table f n 0) (get_or old n (f n)) (drop (suc n) old) (f n) n (table-length f n 0))))

-- a pass has filled j entries and stores the next
pub filled_next : {A : Type 0} (f : ℕ → A) (j : ℕ) (old held : List A) (x : A) → held ≡ filled f j old → j < length old → x ≡ f j → set held j x ≡ filled f (j + 1) old
filled_next f j old held x is low here = rw (is, here, add-one j) (sym (filled_more f j old low))

-- a filled buffer keeps its length
pub filled-length : {A : Type 0} (f : ℕ → A) (n : ℕ) (old : List A) → n ≤ length old → length (filled f n old) ≡ length old
unfolding filled
filled-length f n old h = simp (length-append, table-length, length-drop) (omega arith)

-- its filled entries
pub filled_below : {A : Type 0} (f : ℕ → A) (n : ℕ) (old : List A) (j : ℕ) (d : A) → j < n → get_or (filled f n old) j d ≡ f j
unfolding filled
filled_below f n old j d h =
    let within : j < length (table f n 0) = omega (arith, table-length f n 0) in
    get_or-append (table f n 0) (drop n old) d j within ∙ table_at f n 0 j d h ∙ ap f (zero-add j)

-- an entry read back from a buffer that was filled
pub filled_read : {A : Type 0} (f : ℕ → A) (n : ℕ) (old held : List A) (j : ℕ) (d : A) → held ≡ filled f n old → j < n → get_or held j d ≡ f j
filled_read f n old held j d is h = rw is (filled_below f n old j d h)

-- its other entries are as they were
pub filled_above : {A : Type 0} (f : ℕ → A) (n : ℕ) (old : List A) (j : ℕ) (d : A) → n ≤ j → get_or (filled f n old) j d ≡ get_or old j d
unfolding filled
filled_above {A} f n old j d h =
    let far : j ≡ length (table f n 0) + (j - n) = omega (arith, table-length f n 0) in
    let back : n + (j - n) ≡ j = omega arith in
    ap (λ (o : ℕ). get_or (table f n 0 ++ drop n old) o d) far
    ∙ get_or-append-add (table f n 0) (drop n old) (j - n) d
    ∙ get_or-drop n old (j - n) d
    ∙ ap (λ (o : ℕ). get_or old o d) back

-- functions that agree on what is filled fill alike
pub filled_same : {A : Type 0} (f g : ℕ → A) (n : ℕ) (old : List A) → ((j : ℕ) → j < n → f j ≡ g j) → filled f n old ≡ filled g n old
unfolding filled
filled_same f g n old same = rw (table_same f g n 0 (λ j low high. same j (omega arith)))

-- a buffer with these entries is the filled one
pub filled_is : {A : Type 0} (f : ℕ → A) (n : ℕ) (old new : List A) (d : A) → n ≤ length old → length new ≡ length old
    → ((j : ℕ) → j < n → get_or new j d ≡ f j) → ((j : ℕ) → n ≤ j → get_or new j d ≡ get_or old j d) → new ≡ filled f n old
filled_is f n old new d fits size low high =
    ext_get_or d new (filled f n old) (size ∙ sym (filled-length f n old fits))
    (λ j below. by_test (ltb j n)
    (λ t. low j (ltb-true j n t) ∙ sym (filled_below f n old j d (ltb-true j n t)))
    (λ t. high j (ltb-false j n t) ∙ sym (filled_above f n old j d (ltb-false j n t))))

-- what is filled over is gone
pub filled_again : {A : Type 0} (f g : ℕ → A) (n : ℕ) (old : List A) → filled g n (filled f n old) ≡ filled g n old
unfolding filled
filled_again f g n old = rw (drop_at (table f n 0) (drop n old) n (table-length f n 0))

-- what was filled apart and is then copied to the front
pub filled_copied : {A : Type 0} (f : ℕ → A) (n : ℕ) (apart old : List A) → take n (filled f n apart) ++ drop n old ≡ filled f n old
unfolding filled
filled_copied {A} f n apart old =
    let front : take n (table f n 0 ++ drop n apart) ≡ table f n 0 =
    ap (λ (m : ℕ). take m (table f n 0 ++ drop n apart)) (sym (table-length f n 0)) ∙ take-append_seam (table f n 0) (drop n apart) in
    ap (λ (l : List A). l ++ drop n old) front

-- ---- a buffer filled entry by entry

-- a pass has filled the first s of n entries
pub record FilledTo {A : Type 0} (f : ℕ → A) (n : ℕ) (old : List A) (s : ℕ) (now : List A) : Type 0 where
  pub bound : s ≤ n
  pub is : now ≡ filled f s old

module _ {A : Type 0} (f : ℕ → A) (n : ℕ) (old : List A) (fits : n ≤ length old) where
  -- none yet
  pub fill_none : FilledTo f n old 0 old
  fill_none = record { bound = omega arith; is = sym (filled_none f old) }

  module _ (s : ℕ) (now : List A) (so : FilledTo f n old s now) where
    -- the length stays
    pub fill_length : length now ≡ length old
    fill_length = ap length so.is ∙ filled-length f s old (omega arith)

    -- the next entry is stored
    pub fill_next : (x : A) → s < n → x ≡ f s → FilledTo f n old (s + 1) (set now s x)
    fill_next x low here = record { bound = omega arith; is = filled_next f s old now x so.is (omega arith) here }

    -- all are
    pub fill_end : n ≤ s → now ≡ filled f n old
    fill_end high = let end : s ≡ n = omega arith in so.is ∙ ap (λ (o : ℕ). filled f o old) end

-- ---- a buffer stored entry by entry, of which each has a property

-- a pass has stored the first j entries
pub record StoredTo {A : Type 0} (P : ℕ → A → Type 0) (j : ℕ) (old now : List A) : Type 0 where
  pub size : length now ≡ length old
  pub each : (i : ℕ) → i < j → (d : A) → P i (get_or now i d)

module _ {A : Type 0} (P : ℕ → A → Type 0) (old : List A) where
  -- none yet
  pub stored_none : StoredTo P 0 old old
  stored_none = record { size = refl; each = λ i low d. absurd (not-suc-le-zero low) }

  -- the next entry is stored
  pub stored_next : (j : ℕ) (now : List A) → StoredTo P j old now → (x : A) → j < length old → P j x → StoredTo P (j + 1) old (set now j x)
  stored_next j now so x low has =
      record {
        size = length-set now j x ∙ so.size;
        each = λ i below d.
            by_test (eqb i j)
            (λ t.
            let same : i ≡ j = eqb-true i j t in
            rw same (subst (P j) (sym (get_or-set_same now j x d (omega (arith, so.size)))) has))
            (λ f.
            let apart : i ≢ j = eqb-false i j f in
            subst (P i) (sym (get_or-set_other now j i x d apart)) (so.each i (omega (arith, apart)) d));
      }

-- ---- buffers filled from a place on

module _ {A : Type 0} (f : ℕ → A) (at n : ℕ) (old : List A) (fits : at + n ≤ length old) where
  front : length (take at old) ≡ at
  front = length-take at old ∙ omega arith

  -- the length stays
  pub placed-length : length (placed f at n old) ≡ length old
  unfolding placed
  placed-length =
      let back : length (drop at old) ≡ length old - at = length-drop at old in
      simp (length-append, filled-length f n (drop at old) (omega arith)) (omega (arith, front))

  -- an entry before the place is as it was
  pub placed_before : (i : ℕ) (d : A) → i < at → get_or (placed f at n old) i d ≡ get_or old i d
  unfolding placed
  placed_before i d low =
      get_or-append (take at old) (filled f n (drop at old)) d i (omega (arith, front)) ∙ get_or-take at old i d low

  placed_on : (i : ℕ) (d : A) → at ≤ i → get_or (placed f at n old) i d ≡ get_or (filled f n (drop at old)) (i - at) d
  unfolding placed
  placed_on i d low =
      let far : i ≡ length (take at old) + (i - at) = omega (arith, front) in
      ap (λ (o : ℕ). get_or (take at old ++ filled f n (drop at old)) o d) far
      ∙ get_or-append-add (take at old) (filled f n (drop at old)) (i - at) d

  -- an entry that is filled
  pub placed_within : (i : ℕ) (d : A) → at ≤ i → i < at + n → get_or (placed f at n old) i d ≡ f (i - at)
  placed_within i d low high = placed_on i d low ∙ filled_below f n (drop at old) (i - at) d (omega arith)

  -- an entry past those is as it was
  pub placed_after : (i : ℕ) (d : A) → at + n ≤ i → get_or (placed f at n old) i d ≡ get_or old i d
  placed_after i d high =
      let back : at + (i - at) ≡ i = omega arith in
      placed_on i d (omega arith)
      ∙ (filled_above f n (drop at old) (i - at) d (omega arith)
      ∙ (get_or-drop at old (i - at) d ∙ ap (λ (o : ℕ). get_or old o d) back))

  -- a buffer with these entries is the one filled there
  pub placed_is : (new : List A) (d : A) → length new ≡ length old → ((i : ℕ) → i < at → get_or new i d ≡ get_or old i d)
      → ((i : ℕ) → i < n → get_or new (at + i) d ≡ f i) → ((i : ℕ) → at + n ≤ i → get_or new i d ≡ get_or old i d) → new ≡ placed f at n old
  placed_is new d size before within after =
      ext_get_or d new (placed f at n old) (size ∙ sym placed-length)
      (λ i below. by_test (ltb i at)
      (λ t. before i (ltb-true i at t) ∙ sym (placed_before i d (ltb-true i at t)))
      (λ t. by_test (ltb i (at + n))
      (λ u.
      let here : at + (i - at) ≡ i = omega (arith, ltb-false i at t) in
      ap (λ (o : ℕ). get_or new o d) (sym here)
      ∙ (within (i - at) (omega (arith, ltb-false i at t, ltb-true i (at + n) u))
      ∙ sym (placed_within i d (ltb-false i at t) (ltb-true i (at + n) u))))
      (λ u. after i (ltb-false i (at + n) u) ∙ sym (placed_after i d (ltb-false i (at + n) u)))))

-- nothing is filled
pub placed_none : {A : Type 0} (f : ℕ → A) (at : ℕ) (old : List A) → placed f at 0 old ≡ old
unfolding placed
placed_none f at old = rw (filled_none f (drop at old)) (take-append-drop at old)

-- filled from the start on
pub placed_first : {A : Type 0} (f : ℕ → A) (n : ℕ) (old : List A) → placed f 0 n old ≡ filled f n old
unfolding placed
placed_first f n old = refl

-- a table is copied to `old[at..at + n]`
pub placed_copied : {A : Type 0} (f : ℕ → A) (at n : ℕ) (old new : List A) → new ≡ table f n 0 → take at old ++ (new ++ drop (at + n - at) (drop at old)) ≡ placed f at n old
unfolding placed filled
placed_copied f at n old new is =
    let count : at + n - at ≡ n = omega arith in
    rw (is, count) refl

-- n entries, and m more right after them
pub placed_both : {A : Type 0} (f g h : ℕ → A) (at n m : ℕ) (old : List A) (d : A) → at + (n + m) ≤ length old → ((i : ℕ) → i < n → f i ≡ h i)
    → ((i : ℕ) → i < m → g i ≡ h (n + i)) → placed g (at + n) m (placed f at n old) ≡ placed h at (n + m) old
placed_both {A} f g h at n m old d fits first second =
    let kept : length (placed f at n old) ≡ length old = placed-length f at n old (omega arith) in
    let room : at + n + m ≤ length (placed f at n old) = omega arith in
    placed_is h at (n + m) old fits (placed g (at + n) m (placed f at n old)) d
    (placed-length g (at + n) m (placed f at n old) room ∙ kept)
    (λ i low. placed_before g (at + n) m (placed f at n old) room i d (omega arith) ∙ placed_before f at n old (omega arith) i d low)
    (λ i low. by_test (ltb i n)
    (λ t.
    let below : i < n = ltb-true i n t in
    let here : at + i - at ≡ i = omega arith in
    placed_before g (at + n) m (placed f at n old) room (at + i) d (omega arith)
    ∙ (placed_within f at n old (omega arith) (at + i) d (omega arith) (omega arith) ∙ (ap f here ∙ first i below)))
    (λ t.
    let past : n ≤ i = ltb-false i n t in
    let here : at + i - (at + n) ≡ i - n = omega arith in
    let back : n + (i - n) ≡ i = omega arith in
    placed_within g (at + n) m (placed f at n old) room (at + i) d (omega arith) (omega arith)
    ∙ (ap g here ∙ (second (i - n) (omega arith) ∙ ap h back))))
    (λ i high. placed_after g (at + n) m (placed f at n old) room i d (omega arith) ∙ placed_after f at n old (omega arith) i d (omega arith))

-- the first n entries are filled, and m more right after them
pub filled_on : {A : Type 0} (f g : ℕ → A) (n m : ℕ) (old : List A) (d : A) → n + m ≤ length old → ((i : ℕ) → i < m → g i ≡ f (n + i))
    → placed g n m (filled f n old) ≡ filled f (n + m) old
filled_on {A} f g n m old d fits same =
    let from : 0 + n ≡ n = zero-add n in
    ap (λ (held : List A). placed g n m held) (sym (placed_first f n old))
    ∙ (ap (λ (o : ℕ). placed g o m (placed f 0 n old)) (sym from)
    ∙ (placed_both f g f 0 n m old d (omega arith) (λ i low. refl) same ∙ placed_first f (n + m) old))

-- a store is one entry
pub placed_one : {A : Type 0} (o : ℕ) (held : List A) (x : A) → o < length held → set held o x ≡ placed (λ i. x) o 1 held
placed_one o held x low =
    placed_is (λ i. x) o 1 held (omega arith) (set held o x) x (length-set held o x)
    (λ i below. get_or-set_other held o i x x (omega (arith, below)))
    (λ i first.
    let here : o + i ≡ o = omega arith in
    ap (λ (q : ℕ). get_or (set held o x) q x) here ∙ get_or-set_same held o x x low)
    (λ i past. get_or-set_other held o i x x (omega (arith, past)))

-- n entries are filled, and the next is stored
pub placed_next : {A : Type 0} (f : ℕ → A) (at n o : ℕ) (old held : List A) (x : A) → held ≡ placed f at n old → o ≡ at + n → at + n < length old → x ≡ f n
    → set held o x ≡ placed f at (n + 1) old
placed_next f at n o old held x is there low here =
    let room : at + n < length (placed f at n old) = omega (arith, placed-length f at n old (omega arith)) in
    rw (is, there, here)
    (placed_one (at + n) (placed f at n old) (f n) room
    ∙ placed_both f (λ i. f n) f at n 1 old (f n) (omega arith) (λ i below. refl) (λ i below. let same : n ≡ n + i = omega arith in ap f same))

-- the rest of a buffer from `at` on, lent as `&mut old[at..]`, with room for n entries
module _ {A : Type 0} (old : List A) (at n : ℕ) (fits : at + n ≤ length old) where
  rest_is : take (length old - at) (drop at old) ≡ drop at old
  rest_is = ap (λ (o : ℕ). take o (drop at old)) (sym (length-drop at old)) ∙ take-length (drop at old)

  -- they fit what is lent
  pub rest_room : n ≤ length (take (length old - at) (drop at old))
  rest_room = rw (rest_is, length-drop at old) (omega (arith, fits))

  -- filled there, they are placed in the buffer
  pub rest_placed : (f : ℕ → A) (new : List A) → new ≡ filled f n (take (length old - at) (drop at old)) → take at old ++ (new ++ drop (length old - at) (drop at old)) ≡ placed f at n old
  unfolding placed
  rest_placed f new is =
      let none : drop (length old - at) (drop at old) ≡ [] = ap (λ (o : ℕ). drop o (drop at old)) (sym (length-drop at old)) ∙ drop-length (drop at old) in
      rw (none, append-nil new, is, rest_is) refl

-- ---- buffers of two halves

-- entry i is one of the first `done` entries of one of the two halves, of `half` entries each
unfoldable pub reached_in : ℕ → ℕ → ℕ → Bool
reached_in half done i = ltb i done || (leb half i && ltb i (half + done))

-- a buffer of two halves, of whose entries i the first `done` of each half are g i and the others keep their contents; d is any entry
unfoldable pub halves : {A : Type 0} → (ℕ → A) → A → ℕ → ℕ → List A → List A
halves g d half done old = filled (λ i. if reached_in half done i then g i else get_or old i d) (2 * half) old

module _ (half done i : ℕ) where
  -- an entry of the first half
  pub reached_first : i < done → reached_in half done i ≡ true
  unfolding reached_in
  reached_first low = rw (lt-ltb i done low)

  -- an entry of the second half
  pub reached_second : half ≤ i → i < half + done → reached_in half done i ≡ true
  unfolding reached_in
  reached_second low high = rw (le-leb half i low, lt-ltb i (half + done) high) (or_true (ltb i done))

  -- an entry that is reached is one of either
  pub reached_which : reached_in half done i ≡ true → (i < done) ⊎ ((half ≤ i) × (i < half + done))
  unfolding reached_in
  reached_which e =
      ⊎_elim
      (λ (t : ltb i done ≡ true). inl (ltb-true i done t))
      (λ (t : leb half i && ltb i (half + done) ≡ true).
      let w = both (leb half i) (ltb i (half + done)) t in
      inr (leb-true half i w.0, ltb-true i (half + done) w.1))
      (either (ltb i done) (leb half i && ltb i (half + done)) e)

  -- an entry that is not: one of neither
  pub not_reached : reached_in half done i ≡ false → (done ≤ i) × (half ≤ i → half + done ≤ i)
  unfolding reached_in
  not_reached e =
      let w = neither (ltb i done) (leb half i && ltb i (half + done)) e in (
        ltb-false i done w.0,
        λ low. by_test (ltb i (half + done))
            (λ t. absurd (true_not_false (sym (rw (le-leb half i low) t) ∙ w.1)))
            (λ f. ltb-false i (half + done) f),
      )

  -- an entry that neither has
  pub reached_none : done ≤ i → (half ≤ i → half + done ≤ i) → reached_in half done i ≡ false
  reached_none low high =
      by_test (reached_in half done i)
      (λ t. absurd
      (⊎_elim
      (λ (h : i < done). omega arith)
      (λ (h : (half ≤ i) × (i < half + done)). omega (arith, high h.0, h.1))
      (reached_which t)))
      (λ f. f)

module _ {A : Type 0} (g : ℕ → A) (d : A) (half : ℕ) (old : List A) (fits : 2 * half ≤ length old) where
  -- the length stays
  pub halves_length : (done : ℕ) → length (halves g d half done old) ≡ length old
  unfolding halves
  halves_length done = filled-length (λ i. if reached_in half done i then g i else get_or old i d) (2 * half) old fits

  -- an entry that is reached
  pub halves_reached : (done i : ℕ) → i < 2 * half → reached_in half done i ≡ true → get_or (halves g d half done old) i d ≡ g i
  unfolding halves
  halves_reached done i low got =
      filled_below (λ j. if reached_in half done j then g j else get_or old j d) (2 * half) old i d low ∙ rw got

  -- an entry that is not
  pub halves_kept : (done i : ℕ) → reached_in half done i ≡ false → get_or (halves g d half done old) i d ≡ get_or old i d
  unfolding halves
  halves_kept done i left =
      by_test (ltb i (2 * half))
      (λ t. filled_below (λ j. if reached_in half done j then g j else get_or old j d) (2 * half) old i d (ltb-true i (2 * half) t) ∙ rw left)
      (λ f. filled_above (λ j. if reached_in half done j then g j else get_or old j d) (2 * half) old i d (ltb-false i (2 * half) f))

  -- a buffer with these entries is the one of two halves
  pub halves_is : (done : ℕ) (new : List A) → done ≤ half → length new ≡ length old
      → ((i : ℕ) → reached_in half done i ≡ true → get_or new i d ≡ g i)
      → ((i : ℕ) → reached_in half done i ≡ false → get_or new i d ≡ get_or old i d)
      → new ≡ halves g d half done old
  unfolding halves
  halves_is done new small size got left =
      filled_is (λ i. if reached_in half done i then g i else get_or old i d) (2 * half) old new d fits size
      (λ i low. by_test (reached_in half done i) (λ t. rw t (got i t)) (λ f. rw f (left i f)))
      (λ i high. left i (reached_none half done i (omega arith) (λ h. omega arith)))

  -- nothing is reached
  pub halves_none : halves g d half 0 old ≡ old
  halves_none =
      sym
      (halves_is 0 old (omega arith) refl
      (λ i t. absurd (true_not_false (sym t ∙ reached_none half 0 i (omega arith) (λ h. omega arith))))
      (λ i f. refl))

  -- all is reached
  pub halves_all : halves g d half half old ≡ filled g (2 * half) old
  unfolding halves
  halves_all =
      filled_same (λ i. if reached_in half half i then g i else get_or old i d) g (2 * half) old
      (λ i low. by_test (ltb i half)
      (λ t. rw (reached_first half half i (ltb-true i half t)))
      (λ f. rw (reached_second half half i (ltb-false i half f) (omega arith))))

  module _ (done o : ℕ) (held : List A) (f₁ f₂ : ℕ → A) (is : held ≡ halves g d half done old) (room : done + o ≤ half)
      (low : (s : ℕ) → s < o → f₁ s ≡ g (done + s)) (high : (s : ℕ) → s < o → f₂ s ≡ g (half + done + s)) where
    size₀ : length held ≡ length old
    size₀ = ap length is ∙ halves_length done

    fits₁ : done + o ≤ length held
    fits₁ = omega (arith, size₀, fits, room)

    size₁ : length (placed f₁ done o held) ≡ length old
    size₁ = placed-length f₁ done o held fits₁ ∙ size₀

    fits₂ : half + done + o ≤ length (placed f₁ done o held)
    fits₂ = omega (arith, size₁, fits, room)

    held_at : (i : ℕ) → get_or held i d ≡ get_or (halves g d half done old) i d
    held_at i = ap (λ (l : List A). get_or l i d) is

    more_reached : (i : ℕ) → reached_in half (done + o) i ≡ true → get_or (placed f₂ (half + done) o (placed f₁ done o held)) i d ≡ g i
    more_reached i got =
        ⊎_elim
        (λ (h : i < done + o).
        placed_before f₂ (half + done) o (placed f₁ done o held) fits₂ i d (omega arith)
        ∙ by_test (ltb i done)
        (λ t.
        let less : i < done = ltb-true i done t in
        placed_before f₁ done o held fits₁ i d less
        ∙ (held_at i ∙ halves_reached done i (omega arith) (reached_first half done i less)))
        (λ f.
        let past : done ≤ i = ltb-false i done f in
        let back : done + (i - done) ≡ i = omega arith in
        placed_within f₁ done o held fits₁ i d past h ∙ (low (i - done) (omega arith) ∙ ap g back)))
        (λ (h : (half ≤ i) × (i < half + (done + o))).
        by_test (ltb i (half + done))
        (λ t.
        let less : i < half + done = ltb-true i (half + done) t in
        placed_before f₂ (half + done) o (placed f₁ done o held) fits₂ i d less
        ∙ (placed_after f₁ done o held fits₁ i d (omega arith)
        ∙ (held_at i ∙ halves_reached done i (omega arith) (reached_second half done i h.0 less))))
        (λ f.
        let past : half + done ≤ i = ltb-false i (half + done) f in
        let back : half + done + (i - (half + done)) ≡ i = omega arith in
        placed_within f₂ (half + done) o (placed f₁ done o held) fits₂ i d past (omega arith)
        ∙ (high (i - (half + done)) (omega arith) ∙ ap g back)))
        (reached_which half (done + o) i got)

    more_kept : (i : ℕ) → reached_in half (done + o) i ≡ false → get_or (placed f₂ (half + done) o (placed f₁ done o held)) i d ≡ get_or old i d
    more_kept i left =
        let w = not_reached half (done + o) i left in
        by_test (ltb i (half + done))
        (λ t. placed_before f₂ (half + done) o (placed f₁ done o held) fits₂ i d (ltb-true i (half + done) t))
        (λ f.
        let past : half + done ≤ i = ltb-false i (half + done) f in
        placed_after f₂ (half + done) o (placed f₁ done o held) fits₂ i d (omega (arith, w.1 (omega arith))))
        ∙ (placed_after f₁ done o held fits₁ i d w.0
        ∙ (held_at i
        ∙ halves_kept done i (reached_none half done i (omega (arith, w.0)) (λ h. omega (arith, w.1 h)))))

    -- o entries more of each half, by functions that agree with g there
    pub halves_more : (first both : List A) → first ≡ placed f₁ done o held → both ≡ placed f₂ (half + done) o first → both ≡ halves g d half (done + o) old
    halves_more first both one two =
        two
        ∙ (ap (placed f₂ (half + done) o) one
        ∙ halves_is (done + o) (placed f₂ (half + done) o (placed f₁ done o held)) room
        (placed-length f₂ (half + done) o (placed f₁ done o held) fits₂ ∙ size₁)
        more_reached
        more_kept)

-- ---- buffers that are added to

-- added to what is filled
pub added_filled : (f g : ℕ → ℤ) (n : ℕ) (old : List ℤ) → added g n (filled f n old) ≡ filled (λ v. f v +ℤ g v) n old
unfolding added
added_filled f g n old =
    filled_same (λ v. get_or (filled f n old) v (pos 0) +ℤ g v) (λ v. f v +ℤ g v) n (filled f n old)
    (λ v low. ap (λ (z : ℤ). z +ℤ g v) (filled_below f n old v (pos 0) low))
    ∙ filled_again f (λ v. f v +ℤ g v) n old

-- added twice
pub added_added : (f g : ℕ → ℤ) (n : ℕ) (old : List ℤ) → added g n (added f n old) ≡ added (λ v. f v +ℤ g v) n old
unfolding added
added_added f g n old =
    added_filled (λ v. get_or old v (pos 0) +ℤ f v) g n old
    ∙ filled_same (λ v. get_or old v (pos 0) +ℤ f v +ℤ g v) (λ v. get_or old v (pos 0) +ℤ (f v +ℤ g v)) n old (λ v low. +ℤ_assoc (get_or old v (pos 0)) (f v) (g v))

-- functions that agree on what is added add alike
pub added_same : (f g : ℕ → ℤ) (n : ℕ) (old : List ℤ) → ((v : ℕ) → v < n → f v ≡ g v) → added f n old ≡ added g n old
unfolding added
added_same f g n old same = filled_same (λ v. get_or old v (pos 0) +ℤ f v) (λ v. get_or old v (pos 0) +ℤ g v) n old (λ v low. ap (λ (z : ℤ). get_or old v (pos 0) +ℤ z) (same v low))

-- nothing is added
pub added_none : (n : ℕ) (old : List ℤ) → n ≤ length old → old ≡ added (λ v. pos 0) n old
unfolding added
added_none n old fits =
    filled_is (λ v. get_or old v (pos 0) +ℤ pos 0) n old old (pos 0) fits refl (λ v low. sym (+ℤ_idr (get_or old v (pos 0)))) (λ v high. refl)

-- an entry that is added to
pub added_at : (f : ℕ → ℤ) (n : ℕ) (old : List ℤ) (v : ℕ) → v < n → get_or (added f n old) v (pos 0) ≡ get_or old v (pos 0) +ℤ f v
unfolding added
added_at f n old v low = filled_below (λ i. get_or old i (pos 0) +ℤ f i) n old v (pos 0) low

-- one entry is added to
pub added-set : (u n : ℕ) (old : List ℤ) (x : ℤ) → u < n → n ≤ length old → set old u (get_or old u (pos 0) +ℤ x) ≡ added (λ v. if eqb v u then x else pos 0) n old
unfolding added
added-set u n old x low fits =
    filled_is (λ v. get_or old v (pos 0) +ℤ (if eqb v u then x else pos 0)) n old (set old u (get_or old u (pos 0) +ℤ x)) (pos 0) fits
    (length-set old u (get_or old u (pos 0) +ℤ x))
    (λ v below. by_test (eqb v u)
    (λ t.
    let same : v ≡ u = eqb-true v u t in
    rw t (rw same (get_or-set_same old u (get_or old u (pos 0) +ℤ x) (pos 0) (omega arith))))
    (λ f. rw f (get_or-set_other old u v (get_or old u (pos 0) +ℤ x) (pos 0) (eqb-false v u f) ∙ sym (+ℤ_idr (get_or old v (pos 0))))))
    (λ v above. get_or-set_other old u v (get_or old u (pos 0) +ℤ x) (pos 0) (λ e. omega (arith, e)))
