-- Laws of a vertex and days before it: how far before it they lie, and how far it lies past the vertex below, give what that one gets of a
-- share, and the price.
-- Assumes nothing.
use Prim.Native.Nat.{ℕ, ◌+◌, ◌-◌, ◌*◌, ◌/◌, ◌≤◌, ◌<◌}
use mathlib.Core.Bool.{true, false, not}
use mathlib.Core.List.{List}
use mathlib.Core.Logic.{⊎_elim}
use mathlib.Core.Path.{◌≡◌, sym, ◌∙◌}
use native.Mathlib.Nat.{mul-zero, zero-div}
use native.Mathlib.Omega.{arith}
use borrow.Author.Tests.{ltb-false, eqb-true, eqb-false}
use lib.Dec.{eqb, ltb}
use lib.ListN.{length}
use Rattle.std.proofs.lemmas.Bool.{not-false}
use Rattle.numbers.specs.declared.divisor.Divisor.{Divisor}
use Rattle.numbers.proofs.Buffers.{StoredTo}
use Rattle.numbers.proofs.Items.{by_test, and_false, neither, true_not_false}
use Rattle.reading.specs.InnerContracts.{SoundVertices}
use Rattle.reading.specs.Vertices.{vertex_count, vertex_curve, vertex_days}
use Rattle.valuing.specs.Curves.{newest, is_first, line, price_from}
use Rattle.valuing.specs.InnerContracts.{days_left, days_apart, Apart, Neighbours}
use Rattle.valuing.specs.Mapping.{lower_size}
use Rattle.valuing.proofs.Pricing.{price_on, price_first, price_between}

module _ (vertices : List ℕ) (u : ℕ) where
  -- a first vertex
  pub left_first : (d : ℕ) → is_first vertices u ≡ true → 0 ≡ days_left vertices u d
  unfolding days_left
  left_first d first = rw first

  pub apart_first : is_first vertices u ≡ true → 1 ≡ days_apart vertices u
  unfolding days_apart
  apart_first first = rw first

  -- a vertex with one below it
  pub left_later : (d : ℕ) → is_first vertices u ≡ false → vertex_days vertices u - d ≡ days_left vertices u d
  unfolding days_left
  left_later d later = rw later

  pub apart_later : is_first vertices u ≡ false → vertex_days vertices u - vertex_days vertices (u - 1) ≡ days_apart vertices u
  unfolding days_apart
  apart_later later = rw later

module _ (vertices : List ℕ) (u d : ℕ) where
  -- something is left: the vertex is no first one
  some_left : (days_left vertices u d ≡ 0 → ⊥) → is_first vertices u ≡ false
  some_left some =
      by_test (is_first vertices u)
      (λ first. absurd (some (sym (left_first vertices u d first))))
      (λ later. later)

  pub left_upper : (days_left vertices u d ≡ 0 → ⊥) → 1 ≤ u
  left_upper some =
      by_test (eqb u 0)
      (λ t. absurd (true_not_false (let h : is_first vertices u ≡ true = rw t in sym h ∙ some_left some)))
      (λ f. omega (arith, eqb-false u 0 f))

  module _ (near : Neighbours vertices u d) where
    -- no more is left than lies between the two
    pub left_within : days_left vertices u d ≤ days_apart vertices u
    left_within =
        by_test (is_first vertices u)
        (λ first. omega (arith, left_first vertices u d first, apart_first vertices u first))
        (λ later. omega (arith, left_later vertices u d later, apart_later vertices u later, near.past later))

    nothing : (size : ℕ) → days_left vertices u d ≡ 0 → size * days_left vertices u d / days_apart vertices u ≡ 0
    nothing size none = rw (none, mul-zero size) (zero-div (days_apart vertices u))

    -- what the vertex below gets of a share
    pub lower_by_left : (size : ℕ) → size * days_left vertices u d / days_apart vertices u ≡ lower_size vertices u d size
    unfolding lower_size
    lower_by_left size =
        by_test (is_first vertices u)
        (λ first. nothing size (sym (left_first vertices u d first)) ∙ simp (first, and_false (ltb d (vertex_days vertices u))))
        (λ later. by_test (ltb d (vertex_days vertices u))
        (λ t. rw (← left_later vertices u d later, ← apart_later vertices u later) (simp (t, later)))
        (λ f. nothing size (omega (arith, left_later vertices u d later, ltb-false d (vertex_days vertices u) f)) ∙ simp f))

    module _ (prices : List ℕ) (history : ℕ) where
      -- nothing is left: the price is the vertex's own
      pub price_alone : days_left vertices u d ≡ 0 → newest prices history u ≡ price_from vertices prices history u d
      price_alone none =
          by_test (eqb d (vertex_days vertices u))
          (λ t. price_on vertices prices history u d (eqb-true d (vertex_days vertices u) t))
          (λ f.
          let off : d ≡ vertex_days vertices u → ⊥ = eqb-false d (vertex_days vertices u) f in
          by_test (is_first vertices u)
          (λ first. price_first vertices prices history u d off first)
          (λ later. absurd (off (omega (arith, near.above, left_later vertices u d later, none)))))

      -- something is left: it lies on the line
      pub price_by_left : {x y : ℕ} → (days_left vertices u d ≡ 0 → ⊥) → x ≡ newest prices history (u - 1) → y ≡ newest prices history u
          → (x * days_left vertices u d + y * (days_apart vertices u - days_left vertices u d)) / days_apart vertices u ≡ price_from vertices prices history u d
      unfolding line
      price_by_left {x} {y} some first second =
          let later = some_left some in
          let left : vertex_days vertices u - d ≡ days_left vertices u d = left_later vertices u d later in
          let apart : vertex_days vertices u - vertex_days vertices (u - 1) ≡ days_apart vertices u = apart_later vertices u later in
          let rest : days_apart vertices u - days_left vertices u d ≡ d - vertex_days vertices (u - 1) =
          omega (arith, left, apart, near.above, near.past later) in
          rw (first, second, rest, ← left, ← apart)
          (price_between vertices prices history u d (λ e. some (omega (arith, e, left))) later)

-- ---- a vertex after the one below it

-- a vertex with one below it lies past that
pub later_past : (vertices : List ℕ) → SoundVertices vertices → (v : ℕ) → v < vertex_count vertices → is_first vertices v ≡ false → vertex_days vertices (v - 1) < vertex_days vertices v
later_past vertices sound v low later =
    let h = neither (eqb v 0) (not (eqb (vertex_curve vertices (v - 1)) (vertex_curve vertices v))) later in
    let some : 1 ≤ v = omega (arith, eqb-false v 0 h.0) in
    let same : vertex_curve vertices (v - 1) ≡ vertex_curve vertices v = eqb-true _ _ (not-false (eqb (vertex_curve vertices (v - 1)) (vertex_curve vertices v)) h.1) in
    ⊎_elim
    (λ (less : vertex_curve vertices (v - 1) < vertex_curve vertices v). absurd (let h : 1 ≤ 0 = omega (arith, less, same) in omega (arith, h)))
    (λ (both : (vertex_curve vertices (v - 1) ≡ vertex_curve vertices v) × (vertex_days vertices (v - 1) < vertex_days vertices v)). both.1)
    (sound.order (v - 1) v (omega (arith, some)) low)

-- divisor d is by how far vertex v lies past the one below it
abbrev pub IsApart : List ℕ → ℕ → Divisor → Type 0
IsApart vertices v d = d.by ≡ days_apart vertices v

-- all vertices' are stored
pub apart_all : (vertices : List ℕ) (v : ℕ) (old now : List Divisor) → StoredTo (IsApart vertices) v old now → vertex_count vertices ≤ v → vertex_count vertices ≤ length old → Apart vertices now
apart_all vertices v old now so end fits = record { fits = omega (arith, so.size, fits); days = λ u low none. so.each u (omega (arith, low, end)) none }
