-- The printed lines, as bytes.
use Rattle.std.specs.Prelude.{ℕ, List, [], ◌∷◌, ◌++◌, take, drop, get_or}
use Rattle.margin.specs.Run.{Outcome, Values, Refusal}
use Rattle.report.specs.Decimal.{decimal}

-- ---- lines

-- "One space stands between fields": a space, and the number
abbrev pub field : ℕ → List ℕ
field n = 32 ∷ decimal n

-- the fields of several numbers
unfoldable pub fields : List ℕ → List ℕ
fields [] = []
fields (n ∷ s) = field n ++ fields s

-- "and a line feed ends each line."
abbrev pub feed : List ℕ
feed = 10 ∷ []

-- a line of a word and numbers
abbrev pub line : List ℕ → List ℕ → List ℕ
line word numbers = word ++ (fields numbers ++ feed)

-- "tail"
abbrev pub tail_word : List ℕ
tail_word = 116 ∷ 97 ∷ 105 ∷ 108 ∷ []

-- "unscaled"
abbrev pub unscaled_word : List ℕ
unscaled_word = 117 ∷ 110 ∷ 115 ∷ 99 ∷ 97 ∷ 108 ∷ 101 ∷ 100 ∷ []

-- "scaled"
abbrev pub scaled_word : List ℕ
scaled_word = 115 ∷ 99 ∷ 97 ∷ 108 ∷ 101 ∷ 100 ∷ []

-- "margin"
abbrev pub margin_word : List ℕ
margin_word = 109 ∷ 97 ∷ 114 ∷ 103 ∷ 105 ∷ 110 ∷ []

-- "refused"
abbrev pub refused_word : List ℕ
refused_word = 114 ∷ 101 ∷ 102 ∷ 117 ∷ 115 ∷ 101 ∷ 100 ∷ []

-- ---- an outcome's lines

-- "Fields: k; T, U, D, M, then the listed scenarios; euros." and "Otherwise it prints the word refused, the number and the
-- item": of an outcome with its scenario list, "2k u16, unscaled first". The values are "k, then T, U, D and M unscaled and
-- scaled, and the margin in euros"
unfoldable pub lines_of : Outcome → List ℕ → List ℕ
lines_of (Values values) list =
    let k = get_or values 0 0 in
    line tail_word (take 1 values)
    ++ (line unscaled_word (take 4 (drop 1 values) ++ take k list)
    ++ (line scaled_word (take 4 (drop 5 values) ++ take k (drop k list))
    ++ line margin_word (drop 9 values)))
lines_of (Refusal number item) list = line refused_word (number ∷ item ∷ [])

-- "above 32,768 bytes, `toolong`"
abbrev pub too_long : List ℕ
too_long = 116 ∷ 111 ∷ 111 ∷ 108 ∷ 111 ∷ 110 ∷ 103 ∷ 10 ∷ []
