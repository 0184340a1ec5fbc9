-- The parts of lines.
use Rattle.task_lines.proofs.Vocabulary.{◌≡◌, ◌+◌, Bool, true, false, not, ◌&&◌, ◌||◌, List, [], ◌∷◌, ◌++◌, length, IsTrue, refl, ◌∙◌, ap, arith, list_any, length-append, list_any-append, Variable, Word, is_number, begins_with_digit, is_variable, variable_of, is_new}

not_either : (a b : Bool) → not (a || b) ≡ (not a && not b)
not_either true b = refl
not_either false b = refl

-- a variable is new where it is in neither part of a list
pub new_in_both : (before found : List Variable) (word : Word) → is_new (before ++ found) word ≡ (is_new before word && is_new found word)
new_in_both before found word =
    ap not (list_any-append (is_variable (variable_of word).sort (variable_of word).name) before found)
    ∙ not_either (has before) (has found) where
      has : List Variable → Bool
      has taken = list_any (is_variable (variable_of word).sort (variable_of word).name) taken

pub count_in_both : (before found : List Variable) → length (before ++ found) ≡ length before + length found
count_in_both before found = length-append before found

-- a number begins with a digit
pub begins_number : (word : Word) → is_number word ≡ true → begins_with_digit word ≡ true
begins_number [] h = h
begins_number (byte ∷ bytes) h = grind arith

pub left_of : (a b : Bool) → IsTrue (a || b) → b ≡ false → IsTrue a
left_of true b h e = h
left_of false true h e = cc
left_of false false h e = h
