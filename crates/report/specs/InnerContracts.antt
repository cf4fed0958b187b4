-- Contracts between functions: what the functions that write text into a lent buffer ask for and leave. No definition or
-- statement of another file here needs it.
use Rattle.std.specs.Prelude.{ℕ, ◌+◌, ◌*◌, ◌≤◌, ◌<◌, List, [], ◌∷◌, ◌++◌, ◌≡◌, length, take, drop, get_or}
use Rattle.margin.specs.declared.Charge.{Charge}
use Rattle.margin.specs.Run.{Outcome, Values, Refusal}
use Rattle.report.specs.declared.Writer.{Writer}
use Rattle.report.specs.Text.{line}

-- the text fits behind what is written
pub record Room (text : List ℕ) (writer : Writer) : Type 0 where
  pub room : writer.at + length text ≤ length writer.out.now

-- the text is written behind what was, into the same buffer, and all else is as it was
pub record Wrote (text : List ℕ) (old new : Writer) : Type 0 where
  pub same : new.out.ghost_name ≡ old.out.ghost_name
  pub ends : new.at ≡ old.at + length text
  pub holds : new.out.now ≡ take old.at old.out.now ++ (text ++ drop new.at old.out.now)
  pub size : length new.out.now ≡ length old.out.now
  pub fits : new.at ≤ length new.out.now

-- every entry is one that a u16 holds
abbrev pub Small : List ℕ → Type 0
Small s = (i : ℕ) → i < length s → get_or s i 0 < 65536

-- T, U, D and M of a kind of returns
abbrev pub charge_figures : Charge → List ℕ
charge_figures charge = charge.tail ∷ charge.undiversified ∷ charge.addon ∷ charge.total ∷ []

-- its line: the word, the figures and the listed scenarios
abbrev pub charge_line : List ℕ → Charge → List ℕ → List ℕ
charge_line word charge listed = line word (charge_figures charge ++ listed)

-- how many scenarios an outcome lists by each kind of returns
abbrev pub listed_by : Outcome → ℕ
listed_by (Values values) = get_or values 0 0
listed_by (Refusal number item) = 0

-- what an outcome's lines ask: at most sixteen scenarios by each kind, all of them in the list, and 512 bytes
pub record Printable (outcome : Outcome) (list out : List ℕ) : Type 0 where
  pub few : listed_by outcome ≤ 16
  pub listed : 2 * listed_by outcome ≤ length list
  pub room : 512 ≤ length out
