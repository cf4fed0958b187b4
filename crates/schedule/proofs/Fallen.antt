-- A pass over the numbers that a test holds of, from the highest down: which of them are past.
-- Assumes nothing.
use Prim.Native.Nat.{ℕ, zero, suc, ◌+◌, ◌-◌, ◌≤◌, ◌<◌}
use mathlib.Core.Bool.{Bool, true, false}
use mathlib.Core.List.{List, [], ◌∷◌}
use mathlib.Core.Path.{◌≡◌, ap, ◌∙◌}
use native.Mathlib.Omega.{arith}
use lib.ListN.{length, get_or, drop}
use Rattle.schedule.specs.Flows.{falling}
use Rattle.schedule.proofs.FlowDates.{falling_takes, falling_skips, falling_none, falling_above}

-- the first of what is left of a list after w entries is entry w
drop_head : (xs : List ℕ) (w x : ℕ) (rest : List ℕ) → drop w xs ≡ x ∷ rest → (get_or xs w 0 ≡ x) × (w < length xs) × (drop (suc w) xs ≡ rest)
drop_head [] zero x rest e = absurd (let z : ◌≡◌ {A = ℕ} 0 1 = cc in omega arith)
drop_head [] (suc w) x rest e = absurd (let z : ◌≡◌ {A = ℕ} 0 1 = cc in omega arith)
drop_head (y ∷ ys) zero x rest e = (cc, omega arith, cc)
drop_head (y ∷ ys) (suc w) x rest e = let h = drop_head ys w x rest e in (h.0, omega (arith, h.1), h.2)

-- nothing is left of it
drop_nothing : (xs : List ℕ) (w : ℕ) → drop w xs ≡ [] → length xs ≤ w
drop_nothing [] w e = omega arith
drop_nothing (y ∷ ys) zero e = absurd (let z : ◌≡◌ {A = ℕ} 0 1 = cc in omega arith)
drop_nothing (y ∷ ys) (suc w) e = omega (arith, drop_nothing ys w e)

-- of the numbers below `most`, so many are past: all but those below m
pub record FallenTo (test : ℕ → Bool) (most past m : ℕ) : Type 0 where
  pub rest : drop past (falling test most) ≡ falling test m
  pub few : past ≤ length (falling test most)

module _ (test : ℕ → Bool) (most : ℕ) where
  -- none yet, where the test holds of none from m on
  pub fallen_none : (m : ℕ) → m ≤ most → ((j : ℕ) → m ≤ j → test j ≡ false) → FallenTo test most 0 m
  fallen_none m low none =
      let whole : most ≡ m + (most - m) = omega arith in
      record { rest = ap (falling test) whole ∙ falling_above test m (most - m) none; few = omega arith }

  module _ (past m : ℕ) (so : FallenTo test most past (suc m)) where
    -- the next number is m
    pub fallen_takes : test m ≡ true → (get_or (falling test most) past 0 ≡ m) × FallenTo test most (suc past) m
    fallen_takes t =
        let h = drop_head (falling test most) past m (falling test m) (so.rest ∙ falling_takes test m t) in
        (h.0, record { rest = h.2; few = h.1 })

    pub fallen_skips : test m ≡ false → FallenTo test most past m
    fallen_skips f = record { rest = so.rest ∙ falling_skips test m f; few = so.few }

  -- all are past
  pub fallen_all : (past : ℕ) → FallenTo test most past 0 → past ≡ length (falling test most)
  fallen_all past so = omega (arith, so.few, drop_nothing (falling test most) past (so.rest ∙ falling_none test))
