-- The definition of what a check's answer says loses nothing of it.
-- Assumes nothing.
use Rattle.std.specs.Prelude.{Result, Ok, Err, IsErrAnd, eqb, if◌then◌else◌}
use Prim.Native.Nat.{ℕ}
use mathlib.Core.Path.{◌≡◌, refl, sym, ap, ◌∙◌}
use native.Mathlib.Omega.{arith}
use Rattle.numbers.specs.declared.error.Refusal.{Refusal}
use Rattle.numbers.specs.declared.error.Refusal.TheVariants.{ShortBook, Directory, ParameterBytes, ParameterRange, TailCount, VertexCount, Vertex, PriceCount, Price, BondCount, Bond, BondFlows, FlowCount, FlowDays, FlowAmounts, Worthless, PositionCount, PositionBond, Nominal, TotalValue, Return, ExposureBuffer, ReturnBuffer, ListBuffer, OutsideCalendar, MaturityNotAfter, BondTerms, IndexPrice, IndexMonth, IndexedCoupon}
use Rattle.numbers.specs.Findings.{Refused, number_of, item_of, found}

-- the refusal of a number and an item; of a number that none has, the last
numbered : ℕ → ℕ → Refusal
numbered number item =
    (if eqb number 1 then ShortBook else
    (if eqb number 2 then Directory else
    (if eqb number 3 then ParameterBytes else
    (if eqb number 4 then ParameterRange else
    (if eqb number 5 then TailCount else
    (if eqb number 6 then VertexCount else
    (if eqb number 7 then Vertex item else
    (if eqb number 8 then PriceCount else
    (if eqb number 9 then Price item else
    (if eqb number 10 then BondCount else
    (if eqb number 11 then Bond item else
    (if eqb number 12 then BondFlows item else
    (if eqb number 13 then FlowCount else
    (if eqb number 14 then FlowDays item else
    (if eqb number 15 then FlowAmounts item else
    (if eqb number 16 then Worthless item else
    (if eqb number 17 then PositionCount else
    (if eqb number 18 then PositionBond item else
    (if eqb number 19 then Nominal item else
    (if eqb number 20 then TotalValue else
    (if eqb number 21 then Return item else
    (if eqb number 22 then ExposureBuffer else
    (if eqb number 23 then ReturnBuffer else
    (if eqb number 24 then ListBuffer else
    (if eqb number 25 then OutsideCalendar else
    (if eqb number 26 then MaturityNotAfter else
    (if eqb number 27 then BondTerms else
    (if eqb number 28 then IndexPrice else
    (if eqb number 29 then IndexMonth else
    IndexedCoupon)))))))))))))))))))))))))))))

-- its number and item tell a refusal
numbered_lem : (r : Refusal) → numbered (number_of r) (item_of r) ≡ r
unfolding numbered
numbered_lem ShortBook = refl
numbered_lem Directory = refl
numbered_lem ParameterBytes = refl
numbered_lem ParameterRange = refl
numbered_lem TailCount = refl
numbered_lem VertexCount = refl
numbered_lem (Vertex item) = refl
numbered_lem PriceCount = refl
numbered_lem (Price item) = refl
numbered_lem BondCount = refl
numbered_lem (Bond item) = refl
numbered_lem (BondFlows item) = refl
numbered_lem FlowCount = refl
numbered_lem (FlowDays item) = refl
numbered_lem (FlowAmounts item) = refl
numbered_lem (Worthless item) = refl
numbered_lem PositionCount = refl
numbered_lem (PositionBond item) = refl
numbered_lem (Nominal item) = refl
numbered_lem TotalValue = refl
numbered_lem (Return item) = refl
numbered_lem ExposureBuffer = refl
numbered_lem ReturnBuffer = refl
numbered_lem ListBuffer = refl
numbered_lem OutsideCalendar = refl
numbered_lem MaturityNotAfter = refl
numbered_lem BondTerms = refl
numbered_lem IndexPrice = refl
numbered_lem IndexMonth = refl
numbered_lem IndexedCoupon = refl

-- two refusals with the same number and item are the same
pub refusal_only : (a b : Refusal) → number_of a ≡ number_of b → item_of a ≡ item_of b → a ≡ b
refusal_only a b number item =
    sym (numbered_lem a) ∙ (ap (λ (n : ℕ). numbered n (item_of a)) number ∙ (ap (λ (i : ℕ). numbered (number_of b) i) item ∙ numbered_lem b))

-- two answers that say the same are the same
pub found_only : (a b : Result Unit Refusal) → found a ≡ found b → a ≡ b
found_only (Ok one) (Ok other) e = refl
found_only (Ok good) (Err b) e = absurd (let z : ◌≡◌ {A = ℕ} 0 1 = cc in omega arith)
found_only (Err a) (Ok good) e = absurd (let z : ◌≡◌ {A = ℕ} 0 1 = cc in omega arith)
found_only (Err a) (Err b) e =
    let number : number_of a ≡ number_of b = cc in
    let item : item_of a ≡ item_of b = cc in
    ap (λ (r : Refusal). Err r) (refusal_only a b number item)

-- an answer that passes a refusal on says the same
pub passed_on : (r : Result Unit Refusal) (e : Refusal) → IsErrAnd r (λ y. y ≡ e) → found r ≡ Refused (number_of e) (item_of e)
passed_on (Ok good) e is = absurd is
passed_on (Err y) e is = ap (λ (x : Refusal). Refused (number_of x) (item_of x)) is
