-- Laws of the kept scenarios: one more put among them, by the laws of its loss and of its number.
-- Assumes nothing.
use Prim.Native.Nat.{ℕ, ◌+◌, ◌-◌, ◌≤◌, ◌<◌, min}
use mathlib.Core.List.{List}
use mathlib.Core.Path.{◌≡◌, refl, sym, ap, subst}
use native.Mathlib.Omega.{arith}
use lib.ListN.{length, get_or, set, length-map, get_or-map}
use Rattle.std.proofs.lemmas.List.{map-set}
use Rattle.numbers.specs.Conditions.{In}
use Rattle.tails.specs.declared.worst.Ranked.{Ranked}
use Rattle.tails.specs.InnerContracts.{next_bound, losses_of, scenarios_of, Inserted}
use Rattle.tails.proofs.Keeping.{Keeping, keeping_next}
use Rattle.tails.proofs.Insertion.{Inserting, inserting_start, inserting_next, inserting_here, inserting_first}

-- what stands past the kept ones
abbrev pub none : Ranked
none = record { loss = 0; scenario = 0 }

-- an entry's loss
pub loss_at : (worst : List Ranked) (q : ℕ) → get_or (losses_of worst) q 0 ≡ (get_or worst q none).loss
loss_at worst q = get_or-map (λ (one : Ranked). one.loss) worst q none

pub scenario_at : (worst : List Ranked) (q : ℕ) → get_or (scenarios_of worst) q 0 ≡ (get_or worst q none).scenario
scenario_at worst q = get_or-map (λ (one : Ranked). one.scenario) worst q none

losses_set : (worst : List Ranked) (p : ℕ) (one : Ranked) → losses_of (set worst p one) ≡ set (losses_of worst) p one.loss
losses_set worst p one = map-set (λ (r : Ranked). r.loss) worst p one

scenarios_set : (worst : List Ranked) (p : ℕ) (one : Ranked) → scenarios_of (set worst p one) ≡ set (scenarios_of worst) p one.scenario
scenarios_set worst p one = map-set (λ (r : Ranked). r.scenario) worst p one

module _ (before : List Ranked) (at x : ℕ) (low : at < length before) where
  fits : at < length (losses_of before)
  fits = rw (length-map before (λ (r : Ranked). r.loss)) low

  room : at < length (scenarios_of before)
  room = rw (length-map before (λ (r : Ranked). r.scenario)) low

  -- nothing has moved
  pub moving_start : Inserting (losses_of before) (scenarios_of before) at x at (losses_of before) (scenarios_of before)
  moving_start = inserting_start (losses_of before) (scenarios_of before) at x fits room

  module _ (p : ℕ) (worst : List Ranked) (so : Inserting (losses_of before) (scenarios_of before) at x p (losses_of worst) (scenarios_of worst)) where
    -- the entry before is less: it moves
    pub moving_next : 0 < p → (get_or worst (p - 1) none).loss < x
        → Inserting (losses_of before) (scenarios_of before) at x (p - 1)
        (losses_of (set worst (p - 1 + 1) (get_or worst (p - 1) none))) (scenarios_of (set worst (p - 1 + 1) (get_or worst (p - 1) none)))
    moving_next some less =
        let whole : p - 1 + 1 ≡ p = omega arith in
        rw (whole, losses_set worst p (get_or worst (p - 1) none), scenarios_set worst p (get_or worst (p - 1) none), ← loss_at worst (p - 1), ← scenario_at worst (p - 1))
        (inserting_next (losses_of before) (scenarios_of before) at x fits room so some (rw (loss_at worst (p - 1)) less))

    module _ (one : Ranked) (loss_is : one.loss ≡ x) where
      -- it is not less: here the scenario stands
      pub moving_here : 0 < p → x ≤ (get_or worst (p - 1) none).loss → Inserted at x one.scenario before (set worst (p - 1 + 1) one)
      moving_here some more =
          let whole : p - 1 + 1 ≡ p = omega arith in
          let placed = inserting_here (losses_of before) (scenarios_of before) at x fits room so one.scenario some (rw (loss_at worst (p - 1)) more) in
          record {
            losses_are = rw (whole, losses_set worst p one, loss_is) placed.0;
            scenarios_are = rw (whole, scenarios_set worst p one) placed.1;
          }

      -- there is none before: it stands first
      pub moving_first : p ≤ 0 → Inserted at x one.scenario before (set worst 0 one)
      moving_first end =
          let placed = inserting_first (losses_of before) (scenarios_of before) at x fits room so one.scenario end in
          record {
            losses_are = rw (losses_set worst 0 one, loss_is) placed.0;
            scenarios_are = rw (scenarios_set worst 0 one) placed.1;
          }

-- ---- what is kept

-- the kept ones with scenario i among them
pub kept_next : {f : ℕ → ℕ} {k floor i m : ℕ} {worst : List Ranked} → In 1 16 k → Keeping f k floor i (losses_of worst) (scenarios_of worst) m
    → next_bound (losses_of worst) m k floor ≤ f i → (count : ℕ) (worst' : List Ranked) → count ≡ min (m + 1) k → Inserted (count - 1) (f i) i worst worst'
    → Keeping f k floor (i + 1) (losses_of worst') (scenarios_of worst') count
kept_next {f} {k} {floor} {i} {m} {worst} k_in kept reach count worst' is new =
    subst (λ (n : ℕ). Keeping f k floor (i + 1) (losses_of worst') (scenarios_of worst') n) (sym is)
    (keeping_next f k floor k_in.0 k_in.1 kept reach (count - 1) _ (ap (λ (n : ℕ). n - 1) is) refl new.losses_are new.scenarios_are)
