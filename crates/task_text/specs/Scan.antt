-- The words of a row as they are read, from left to right, and what every line is read by.
use Rattle.std.specs.Prelude.{◌≡◌, ℕ, ◌+◌, ◌^◌, Bool, true, false, not, ◌||◌, ◌&&◌, if◌then◌else◌, ◌==◌, nat_lt, List, [], ◌∷◌, ◌++◌, length, drop, Result, Ok, Err, refl}
use Rattle.std.specs.List.{list_any, list_all}
use Rattle.std.specs.Str.Parse.{digits_value}
use Rattle.std.specs.Coded.{Coded, code_by, coded×, coded_ℕ, coded_list}
use Rattle.task_syntax.specs.Names.{same_bytes, is_between, is_digit, is_name}
use Rattle.task_text.specs.declared.fault.Cause.{Cause}
use Rattle.task_text.specs.declared.fault.Cause.TheVariants.{NotText, UnknownWord, BadName, BadNumber, TooMany, WordsLeft}
use Rattle.task_text.specs.declared.fault.Fault.{Fault}
use Rattle.task_text.specs.declared.fault.TextError.{TextError}
use Rattle.task_text.specs.Fault.{fault_at}
use Rattle.task_text.specs.Text.{Word, Row}

-- ---- words

-- no word: what stands behind the last word of a row
abbrev pub is_missing : Word → Bool
is_missing [] = true
is_missing (byte ∷ bytes) = false

abbrev pub is_present : Word → Bool
is_present word = not (is_missing word)

-- the bytes that may stand outside comments
abbrev pub is_text : Word → Bool
is_text word = list_all (is_between 33 126) word

abbrev pub begins_with_digit : Word → Bool
begins_with_digit [] = false
begins_with_digit (byte ∷ bytes) = is_digit byte

-- 1 to 20 digits with a 64-bit value
abbrev pub is_number : Word → Bool
is_number word = is_between 1 20 (length word) && list_all is_digit word && nat_lt (digits_value 10 word) (2 ^ 64)

-- `@` and a name
abbrev pub is_future : Word → Bool
is_future [] = false
is_future (byte ∷ bytes) = byte == 64 && is_name bytes

-- not a word that begins like a number and is none
abbrev pub is_no_bad_number : Word → Bool
is_no_bad_number word = if begins_with_digit word then is_number word else true

-- a word that stands where a number or a number variable may; one that begins with a digit may still be no number
abbrev pub is_operand : Word → Bool
is_operand word = begins_with_digit word || is_name word

-- the word is one of the names
abbrev pub is_among : List (List ℕ) → Word → Bool
is_among names word = list_any (same_bytes word) names

-- ---- the place in a row

pub record Scan : Type 0 where
  -- the number of the line, the number of the next word, and the words from that one on
  pub line : ℕ
  pub word : ℕ
  pub left : List Word

abbrev pub scan_code : Coded Scan
scan_code = code_by (ℕ × (ℕ × List Word)) (coded× coded_ℕ (coded× coded_ℕ (coded_list (coded_list coded_ℕ))))
    (λ s. (s.line, (s.word, s.left))) (λ p. record { line = p.0; word = p.1.0; left = p.1.1 }) (λ _. refl)

-- before the first word of a row
abbrev pub start_of : Row → Scan
start_of row = record { line = row.line; word = 1; left = row.words }

abbrev pub first_of : List Word → Word
first_of [] = []
first_of (word ∷ words) = word

-- the next word, or the empty word behind the last
unfoldable pub seen : Scan → Word
seen s = first_of s.left

-- the number of the word behind the next word; where no word is left, the number stays
abbrev pub number_behind : ℕ → List Word → ℕ
number_behind number [] = number
number_behind number (word ∷ words) = number + 1

-- behind the next word
unfoldable pub moved : Scan → Scan
moved s = record { line = s.line; word = number_behind s.word s.left; left = drop 1 s.left }

unfoldable pub fault_here : Cause → Scan → Fault
fault_here cause s = fault_at cause s.line s.word

-- ---- parsers

abbrev pub Outcome : Type 0 → Type 0
Outcome A = Result (A × Scan) Fault

abbrev pub Parser : Type 0 → Type 0
Parser A = Scan → Outcome A

abbrev pub and_then : {A B : Type 0} → Outcome A → (A → Parser B) → Outcome B
and_then (Ok p) f = f p.0 p.1
and_then (Err fault) f = Err fault

infixl 10 ◌>>=◌
abbrev pub ◌>>=◌ : {A B : Type 0} → Parser A → (A → Parser B) → Parser B
p >>= f = λ s. and_then (p s) f

infixl 10 ◌>>◌
abbrev pub ◌>>◌ : {A B : Type 0} → Parser A → Parser B → Parser B
p >> q = p >>= (λ _. q)

abbrev pub pure : {A : Type 0} → A → Parser A
pure a = λ s. Ok (a, s)

infixr 11 ◌<$>◌
abbrev pub ◌<$>◌ : {A B : Type 0} → (A → B) → Parser A → Parser B
f <$> p = p >>= (λ a. pure (f a))

-- the next word, which stays
abbrev pub peek : Parser Word
peek = λ s. Ok (seen s, s)

-- the next word, which is taken
abbrev pub take_word : Parser Word
take_word = λ s. Ok (seen s, moved s)

-- the next word is at fault
abbrev pub refuse : {A : Type 0} → Cause → Parser A
refuse cause = λ s. Err (fault_here cause s)

-- the next word passes the test, or is at fault
unfoldable pub need : (Word → Bool) → Cause → Parser (Unit {0})
need test cause = λ s. if test (seen s) then Ok (tt, s) else Err (fault_here cause s)

-- a test of a word, and the cause where the word does not pass
abbrev pub Test : Type 0
Test = (Word → Bool) × Cause

-- the next word passes the tests, one after the other, and is taken
abbrev pub tested : {A : Type 0} → List Test → (Word → A) → Parser A
tested [] f = f <$> take_word
tested (test ∷ tests) f = need test.0 test.1 >> tested tests f

-- what comes next is not past its limit
abbrev pub within : ℕ → ℕ → Test
within count limit = (λ word. nat_lt count limit, TooMany)

-- what is read next is not past its limit
unfoldable pub room : ℕ → ℕ → Parser (Unit {0})
room count limit = λ s. if nat_lt count limit then Ok (tt, s) else Err (fault_here TooMany s)

-- ---- single words

abbrev pub this_word : Word → List Test
this_word word = (same_bytes word, UnknownWord) ∷ []

abbrev pub a_name : List Test
a_name = (is_name, BadName) ∷ []

-- a name that is none of those taken
abbrev pub new_name : Cause → List (List ℕ) → List Test
new_name cause taken = (is_name, BadName) ∷ (λ word. not (is_among taken word), cause) ∷ []

abbrev pub a_future : List Test
a_future = (is_future, BadName) ∷ []

-- this very word
unfoldable pub fixed : Word → Parser (Unit {0})
fixed word = tested (this_word word) (λ _. tt)

unfoldable pub read_name : Parser (List ℕ)
read_name = tested a_name (λ word. word)

-- a name that is none of those given
unfoldable pub read_new_name : Cause → List (List ℕ) → Parser (List ℕ)
read_new_name cause taken = tested (new_name cause taken) (λ word. word)

unfoldable pub read_number : Parser ℕ
read_number = tested ((is_number, BadNumber) ∷ []) (digits_value 10)

-- the name of a future, without its `@`
unfoldable pub read_future : Parser (List ℕ)
read_future = tested a_future (drop 1)

-- the word, if it comes next
unfoldable pub eat : Word → Parser Bool
eat word = λ s. if same_bytes word (seen s) then Ok (true, moved s) else Ok (false, s)

-- ---- lists

-- an item for each of the words, as long as they pass the test; each is read knowing those before it
unfoldable pub each_along : {A : Type 0} → List Word → (Word → Bool) → (List A → Parser A) → List A → Parser (List A)
each_along [] test item found = pure found
each_along (word ∷ words) test item found =
    if test word then (item found >>= (λ a. each_along words test item (found ++ a ∷ []))) else pure found

-- the items of the longest front of words that pass the test, behind those that were found before
abbrev pub each : {A : Type 0} → (Word → Bool) → (List A → Parser A) → List A → Parser (List A)
each test item found = λ s. each_along s.left test item found s

-- one item, and those that follow
abbrev pub one_or_more : {A : Type 0} → (Word → Bool) → (List A → Parser A) → Parser (List A)
one_or_more test item = item [] >>= (λ a. each test item (a ∷ []))

-- ---- whole rows

-- each byte of the row may stand in a word
unfoldable pub check_words : ℕ → ℕ → List Word → Result (Unit {0}) Fault
check_words line at [] = Ok tt
check_words line at (word ∷ words) = if is_text word then check_words line (at + 1) words else Err (fault_at NotText line at)

abbrev pub check_text : Row → Result (Unit {0}) Fault
check_text row = check_words row.line 1 row.words

-- nothing stands behind what was read
abbrev pub ended : {A : Type 0} → A → Parser A
ended a = need is_missing WordsLeft >> pure a

abbrev pub without_scan : {A : Type 0} → Outcome A → Result A Fault
without_scan (Ok p) = Ok p.0
without_scan (Err fault) = Err fault

-- the whole row, and nothing more
unfoldable pub whole : {A : Type 0} → Parser A → Row → Result A Fault
whole p row = without_scan ((p >>= ended) (start_of row))

-- ---- what a function that reads ensures

-- the parser's outcome
abbrev pub Scans : {A : Type 0} → Outcome A → Result A Fault → Scan → Type 0
Scans outcome (Ok a) new = outcome ≡ Ok (a, new)
Scans outcome (Err fault) new = outcome ≡ Err fault

-- the same, unless memory fails
abbrev pub Reads : {A : Type 0} → Outcome A → Result A TextError → Scan → Type 0
Reads outcome (Ok a) new = outcome ≡ Ok (a, new)
Reads outcome (Err (TextError.Fault fault)) new = outcome ≡ Err fault
Reads outcome (Err TextError.Memory) new = Unit {0}
