-- Contracts between functions of the test program: what its arguments say, and what it reads from a case.
use Rattle.std.specs.Prelude.{ℕ, ◌*◌, nat_abs, Option, Some, None, ◌≤◌, ◌<◌, List, [], ◌∷◌, ◌≡◌, Bool, true, ◌&&◌, leb, length, get_or}
use Rattle.numbers.specs.Items.{every}
use Rattle.numbers.specs.Little.{u64_at, i64_at}
use Rattle.tails.specs.Losses.{loss}
use Rattle.tails.specs.InnerContracts.{mode_number}
use Rattle.cases.specs.declared.worst.Form.{Form}
use Rattle.cases.specs.declared.worst.Form.TheVariants.{Losses, Pnls}
use Rattle.cases.specs.declared.Layer.{Layer}
use Rattle.cases.specs.declared.Layer.TheVariants.{Inspect, Exposures, Returns, Worst, Unit}

-- ---- what an argument says, and how long a file may be

-- the word of a layer, as bytes
abbrev pub word_of : Layer → List ℕ
word_of Inspect = 105 ∷ 110 ∷ 115 ∷ 112 ∷ 101 ∷ 99 ∷ 116 ∷ []
word_of Exposures = 101 ∷ 120 ∷ 112 ∷ 111 ∷ 115 ∷ 117 ∷ 114 ∷ 101 ∷ 115 ∷ []
word_of Returns = 114 ∷ 101 ∷ 116 ∷ 117 ∷ 114 ∷ 110 ∷ 115 ∷ []
word_of Worst = 119 ∷ 111 ∷ 114 ∷ 115 ∷ 116 ∷ []
word_of Unit = 117 ∷ 110 ∷ 105 ∷ 116 ∷ []

-- an argument is a layer's word, or it is no word
abbrev pub Says : List ℕ → Option Layer → Type 0
Says text (Some layer) = text ≡ word_of layer
Says text None = (layer : Layer) → text ≡ word_of layer → ⊥

-- the layer of what follows an argument: a word's own, and a name leaves it as it was
abbrev pub next_layer : Option Layer → Layer → Layer
next_layer (Some next) layer = next
next_layer None layer = layer

-- the most bytes that a file may have
abbrev pub longest_of : Layer → ℕ
longest_of Inspect = 65535
longest_of Exposures = 65535
longest_of Returns = 32768
longest_of Worst = 32768
longest_of Unit = 32768

-- ---- a case of the tails layer

-- the form and the mode are in their bounds
abbrev pub form_test : ℕ → ℕ → Bool
form_test form mode = leb form 1 && leb mode 1

-- so are the counts too
abbrev pub header_test : ℕ → ℕ → ℕ → ℕ → Bool
header_test form mode k m = form_test form mode && ((leb 1 k && leb k 16) && (leb k m && leb m 1024))

-- what a form and a mode stand for
abbrev pub IsForm : ℕ → ℕ → Form → Type 0
IsForm form mode Losses = (form ≡ 0) × (mode ≤ 1)
IsForm form mode (Pnls double) = (form ≡ 1) × (mode ≡ mode_number double)

-- number i is at most 10^17 in size
abbrev pub good_number : {A : Type 0} → (A → ℕ) → (ℕ → A) → ℕ → Bool
good_number size f i = leb (size (f i)) 100000000000000000

-- n numbers that were read, each at most 10^17 in size
pub record Numbers {A : Type 0} (size : A → ℕ) (f : ℕ → A) (n : ℕ) (xs : List A) : Type 0 where
  pub count : length xs ≡ n
  pub are : (i : ℕ) (d : A) → i < n → get_or xs i d ≡ f i
  pub good : every (good_number size f) n ≡ true

-- number i of a case is in its bound
abbrev pub good_in : Form → List ℕ → ℕ → Bool
good_in Losses s = good_number (λ x. x) (λ i. u64_at s (8 * i))
good_in (Pnls mode) s = good_number nat_abs (λ i. i64_at s (8 * i))

-- the loss of scenario i of a case
abbrev pub loss_in : Form → List ℕ → ℕ → ℕ
loss_in Losses s i = u64_at s (8 * i)
loss_in (Pnls mode) s i = loss (mode_number mode) (i64_at s (8 * i))
