-- The ranking of scenarios by their losses, the list, the tail sum, and choices of scenarios. A scenario is its number, and
-- the losses are a function of it.
use Rattle.std.specs.Prelude.{ℕ, zero, suc, ◌+◌, ◌*◌, ◌≤◌, ◌<◌, Bool, ◌&&◌, ◌||◌, List, [], ◌∷◌, ◌≡◌, eqb, ltb, length, take, get_or, if◌then◌else◌}

-- "by falling loss, then rising number": scenario i stands ahead of scenario j
abbrev pub ahead : (ℕ → ℕ) → ℕ → ℕ → Bool
ahead f i j = ltb (f j) (f i) || (eqb (f i) (f j) && ltb i j)

-- scenario i, put right before the first of a ranking that it stands ahead of
unfoldable pub inserted : (ℕ → ℕ) → ℕ → List ℕ → List ℕ
inserted f i [] = i ∷ []
inserted f i (j ∷ s) = if ahead f i j then i ∷ j ∷ s else j ∷ inserted f i s

-- "all scenarios set by falling loss, then rising number": 0 to n − 1
unfoldable pub ranked : (ℕ → ℕ) → ℕ → List ℕ
ranked f zero = []
ranked f (suc n) = inserted f n (ranked f n)

-- "its list is the first k of all scenarios"
unfoldable pub tail_list : (ℕ → ℕ) → ℕ → ℕ → List ℕ
tail_list f n k = take k (ranked f n)

-- the total of losses over a list of scenarios
unfoldable pub total_over : (ℕ → ℕ) → List ℕ → ℕ
total_over f [] = 0
total_over f (i ∷ s) = f i + total_over f s

-- "T = total of the k largest losses": those of the list
unfoldable pub tail_sum : (ℕ → ℕ) → ℕ → ℕ → ℕ
tail_sum f n k = total_over f (tail_list f n k)

-- ---- choices

-- "A choice takes k different numbers from 0 to LP − 1": k of them, no two equal, all below n
pub record Choice (n k : ℕ) (s : List ℕ) : Type 0 where
  pub count : length s ≡ k
  pub different : (p q : ℕ) → p < q → q < length s → get_or s p 0 ≡ get_or s q 0 → ⊥
  pub below : (p : ℕ) → p < length s → get_or s p 0 < n

-- ---- weights

-- the weights, given to the scenarios of a list in its order: the weighted total of their losses
unfoldable pub weighted_over : (ℕ → ℕ) → List ℕ → List ℕ → ℕ
weighted_over f [] s = 0
weighted_over f (w ∷ ws) [] = 0
weighted_over f (w ∷ ws) (i ∷ s) = w * f i + weighted_over f ws s

-- no weight is larger than the one before it
abbrev pub NeverRising : List ℕ → Type 0
NeverRising ws = (p : ℕ) → suc p < length ws → get_or ws (suc p) 0 ≤ get_or ws p 0
