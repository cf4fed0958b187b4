-- Parts of a slice and filled buffers, over any element.
use Rattle.std.specs.Prelude.{ℕ, zero, suc, ◌+◌, ◌-◌, ◌≡◌, Bool, ◌&&◌, List, [], ◌∷◌, ◌++◌, leb, length, take, drop, if◌then◌else◌}
use Rattle.std.specs.Borrow.{Bor}

-- size entries from start on lie within n entries
abbrev pub fits_in : ℕ → ℕ → ℕ → Bool
fits_in n start size = leb start n && leb size (n - start)

-- the size entries from start on, or none where they run past the end
unfoldable pub part_of : {A : Type 0} → List A → ℕ → ℕ → List A
part_of s start size = if fits_in (length s) start size then take size (drop start s) else []

-- the slice r is the part of the slice s that begins `start` bytes into it and has these bytes: the very place, no copy
pub record PartOf (s r : Bor (List ℕ)) (start : ℕ) (bytes : List ℕ) : Type 0 where
  pub has : r.now ≡ bytes
  pub lies : r.ref_ptr ≡ (s.ref_ptr.0, start + s.ref_ptr.1)

-- f 0, f 1, .. f (n − 1), from i on
unfoldable pub table : {A : Type 0} → (ℕ → A) → ℕ → ℕ → List A
table f zero i = []
table f (suc n) i = f i ∷ table f n (suc i)

-- a buffer whose first n entries are f 0 .. f (n − 1) and whose later entries keep their contents
unfoldable pub filled : {A : Type 0} → (ℕ → A) → ℕ → List A → List A
filled f n old = table f n 0 ++ drop n old

-- a buffer whose n entries from `at` on are f 0 .. f (n − 1) and whose other entries keep their contents
unfoldable pub placed : {A : Type 0} → (ℕ → A) → ℕ → ℕ → List A → List A
placed f at n old = take at old ++ filled f n (drop at old)
