-- Text as lines of words.
use Rattle.std.specs.Prelude.{ℕ, suc, List, [], ◌∷◌, ◌++◌, codes}
use Rattle.std.specs.List.{flat_map, join_by}

abbrev pub Word : Type 0
Word = List ℕ

-- the words of a line
abbrev pub Words : Type 0
Words = List Word

-- each word with a blank before it
abbrev pub spaced : Words → List ℕ
spaced = flat_map (λ word. codes " " ++ word)

-- the words parted by blanks
abbrev pub joined : Words → List ℕ
joined = join_by (λ word. word) (codes " ")

-- a line with its end
abbrev pub line_text : Words → List ℕ
line_text words = joined words ++ codes "\n"

abbrev pub text_of : List Words → List ℕ
text_of = flat_map line_text

-- the lines of all items, each with its number, which rises from the first one's
abbrev pub lines_of_each : {A : Type 0} → (ℕ → A → List Words) → ℕ → List A → List Words
lines_of_each lines_of n [] = []
lines_of_each lines_of n (x ∷ xs) = lines_of n x ++ lines_of_each lines_of (suc n) xs
