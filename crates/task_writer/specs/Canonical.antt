-- What makes a text canonical, apart from the program that it is of.
use Rattle.std.specs.List.{list_all, flat_map, join_with_byte}
use Rattle.std.specs.Prelude.{◌≡◌, ◌≢◌, ℕ, ◌<◌, ◌^◌, Bool, not, ◌&&◌, nat_eq, List, [], ◌∷◌, ◌++◌, IsTrue, codes, decimal}
use Rattle.task_syntax.specs.Names.{is_between}
use Rattle.task_text.specs.Scan.{begins_with_digit, first_of}
use Rattle.task_text.specs.Text.{Word}

-- the bytes of words: no blank, no line end, and no number sign, which begins a comment
abbrev pub is_plain : ℕ → Bool
is_plain byte = is_between 33 126 byte && not (nat_eq byte 35)

-- the word is not empty, is all of plain bytes, and is not `regular`; a number has no leading zero
pub record IsTidy (word : Word) : Type 0 where
  pub begun : word ≢ []
  pub plain : IsTrue (list_all is_plain word)
  pub needed : word ≢ codes "regular"
  pub number : IsTrue (begins_with_digit word) → (n : ℕ) × (n < 2 ^ 64) × (word ≡ decimal n)

abbrev pub AllTidy : List Word → Type 0
AllTidy [] = Unit {0}
AllTidy (word ∷ words) = IsTidy word × AllTidy words

abbrev pub EachTidy : List (List Word) → Type 0
EachTidy [] = Unit {0}
EachTidy (line ∷ lines) = (line ≢ []) × AllTidy line × EachTidy lines

abbrev pub Opens : Word → List Word → Type 0
Opens word line = first_of line ≡ word

-- R holds of each line and the next
abbrev pub EachNext : (List Word → List Word → Type 0) → List (List Word) → Type 0
EachNext R [] = Unit {0}
EachNext R (line ∷ []) = Unit {0}
EachNext R (line ∷ next ∷ lines) = R line next × EachNext R (next ∷ lines)

-- Each line is words parted by one space, with a line feed at its end. A `var` line stands right behind the line of its
-- kind, so that there is one at most, and behind a root there are only roots. It is asked of a text that is read as a
-- program: the grammar says the rest, as the header, the order in a line, and that no list is opened in vain.
pub record IsCanonical (text : List ℕ) : Type 0 where
  pub lines : List (List Word)
  pub parted : text ≡ flat_map (λ line. join_with_byte 32 line ++ 10 ∷ []) lines
  pub tidy : EachTidy lines
  pub one_var : EachNext (λ line next. Opens (codes "var") next → Opens (codes "kind") line) lines
  pub roots_last : EachNext (λ line next. Opens (codes "root") line → Opens (codes "root") next) lines
