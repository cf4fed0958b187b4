-- Contracts between functions: where a part begins, and buffers that are added to. No definition or statement of another file here
-- needs it.
use Rattle.std.specs.Prelude.{ℕ, List, ℤ, pos, ◌+ℤ◌, get_or, length, if◌then◌else◌}
use Rattle.numbers.specs.Buffers.{filled, fits_in}

-- ---- parts of a slice

-- where the part `part_of` begins: at start, or at 0 where it is empty for want of room
unfoldable pub part_start : {A : Type 0} → List A → ℕ → ℕ → ℕ
part_start s start size = if fits_in (length s) start size then start else 0

-- ---- buffers that are added to

-- a buffer to whose first n entries f 0 .. f (n − 1) are added and whose later entries keep their contents
unfoldable pub added : (ℕ → ℤ) → ℕ → List ℤ → List ℤ
added f n old = filled (λ v. get_or old v (pos 0) +ℤ f v) n old
