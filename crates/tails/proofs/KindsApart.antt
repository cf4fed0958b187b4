-- The two kinds are apart: what one kind's functions ask for, the other's do not give.
-- Assumes nothing.
use Prim.Native.Nat.{ℕ, ◌≤◌}
use mathlib.Core.List.{List}
use mathlib.Core.Path.{◌≡◌, refl, sym, ap, ◌∙◌}
use native.Mathlib.Omega.{arith}
use lib.IntN.{ℤ, pos, nat_abs}
use lib.ListN.{length, get_or}
use Rattle.numbers.specs.Buffers.{table}
use Rattle.reading.specs.Book.{market_of}
use Rattle.valuing.specs.Examples.{printed_book}
use Rattle.scenarios.specs.Scaled.{unscaled, scaled}
use Rattle.scenarios.proofs.Examples.{printed_returns_lem}
use Rattle.tails.specs.InnerContracts.{KindRow}

-- the first of four numbers
first : (f : ℕ → ℤ) → get_or (table f 4 0) 0 (pos 0) ≡ f 0
unfolding table
first f = refl

-- in the printed book no row of vertex 0 is of both kinds: its first return is −20,000 unscaled and −19,695 scaled
pub kinds_apart : (row : List ℤ) → 1 ≤ length row → KindRow unscaled printed_book 0 row → KindRow scaled printed_book 0 row → ⊥
kinds_apart row some one other =
    let m = market_of printed_book in
    let plain : nat_abs (get_or row 0 (pos 0)) ≡ 20000 =
    ap nat_abs (one.are 0 (omega arith) ∙ (sym (first (unscaled m 0)) ∙ ap (λ (l : List ℤ). get_or l 0 (pos 0)) printed_returns_lem.first_unscaled)) in
    let by-volatility : nat_abs (get_or row 0 (pos 0)) ≡ 19695 =
    ap nat_abs (other.are 0 (omega arith) ∙ (sym (first (scaled m 0)) ∙ ap (λ (l : List ℤ). get_or l 0 (pos 0)) printed_returns_lem.first_scaled)) in
    omega (arith, plain, by-volatility)
