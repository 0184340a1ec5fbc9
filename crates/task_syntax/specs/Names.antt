-- Which lists of bytes are names.
use Rattle.std.specs.Prelude.{ℕ, Bool, false, not, ◌||◌, ◌&&◌, nat_le, nat_eq, List, [], ◌∷◌, length, IsTrue, codes}
use Rattle.std.specs.List.{list_any, list_all}
use Rattle.std.specs.Cmp.Lexicographic.{pointwise}

-- two lists of bytes are the same
abbrev pub same_bytes : List ℕ → List ℕ → Bool
same_bytes = pointwise nat_eq

abbrev pub is_between : ℕ → ℕ → ℕ → Bool
is_between low high byte = nat_le low byte && nat_le byte high

-- A to Z and a to z
abbrev pub is_letter : ℕ → Bool
is_letter byte = is_between 65 90 byte || is_between 97 122 byte

-- 0 to 9
abbrev pub is_digit : ℕ → Bool
is_digit byte = is_between 48 57 byte

-- a letter, a digit or the low line
abbrev pub is_name_byte : ℕ → Bool
is_name_byte byte = is_letter byte || is_digit byte || nat_eq byte 95

-- the words of the language that are no names: the first words of its lines, and the words inside them
abbrev pub reserved_words : List (List ℕ)
reserved_words =
    codes "ktask" ∷ codes "kind" ∷ codes "var" ∷ codes "state" ∷ codes "end" ∷ codes "root" ∷ codes "label" ∷
    codes "set" ∷ codes "add" ∷ codes "sub" ∷ codes "mul" ∷ codes "div" ∷ codes "rem" ∷ codes "if" ∷ codes "goto" ∷
    codes "cell" ∷ codes "rows" ∷ codes "spawn" ∷ codes "all" ∷ codes "copy" ∷ codes "drop" ∷ codes "get" ∷
    codes "again" ∷ codes "done" ∷ codes "holds" ∷ codes "settled" ∷ codes "behind" ∷ codes "high" ∷
    codes "regular" ∷ codes "low" ∷ codes "retry" ∷ codes "else" ∷ []

abbrev pub is_reserved : List ℕ → Bool
is_reserved word = list_any (same_bytes word) reserved_words

-- the first byte is a letter
abbrev pub begins_with_letter : List ℕ → Bool
begins_with_letter [] = false
begins_with_letter (byte ∷ bytes) = is_letter byte

-- a letter and then letters, digits and low lines, at most 24 bytes, and not reserved
abbrev pub is_name : List ℕ → Bool
is_name word = begins_with_letter word && list_all is_name_byte word && nat_le (length word) 24 && not (is_reserved word)

abbrev pub IsName : List ℕ → Type 0
IsName word = IsTrue (is_name word)
