-- How the parts of lines are read.
use Rattle.std.specs.Prelude.{ℕ, Bool, true, false, not, ◌||◌, if◌then◌else◌, List, [], ◌∷◌, length, drop, Option, Some, None, codes}
use Rattle.std.specs.Str.Parse.{digits_value}
use Rattle.task_lines.specs.declared.item.RootTerm.{RootTerm}
use Rattle.task_lines.specs.declared.step.Passed.{Passed}
use Rattle.task_lines.specs.declared.step.Term.{Term}
use Rattle.task_lines.specs.declared.step.Term.TheVariants.{Literal, Variable as TermVariable}
use Rattle.task_syntax.specs.Names.{same_bytes, is_name}
use Rattle.task_syntax.specs.declared.instr.Relation.{Relation}
use Rattle.task_syntax.specs.declared.program.Variable.{Variable}
use Rattle.task_syntax.specs.declared.value.Priority.{Priority}
use Rattle.task_syntax.specs.declared.value.Priority.TheVariants.{Regular}
use Rattle.task_text.specs.Scan.{is_missing, is_present, begins_with_digit, is_future, is_operand, is_no_bad_number, is_among, Parser, ◌>>=◌, ◌>>◌, ◌<$>◌, pure, peek, take_word, refuse, Test, tested, within, fixed, read_future, eat, one_or_more}
use Rattle.task_text.specs.Text.{Word}
use Rattle.task_text.specs.declared.fault.Cause.TheVariants.{NoHeader, UnknownWord, BadName, BadNumber, TwiceNamed}
use Rattle.task_syntax.specs.declared.program.Sort.TheVariants as sort
use Rattle.task_lines.specs.Scope.{has_variable}
use Rattle.task_lines.specs.Keyword.{relation_of, priority_of}

-- ---- parts

-- what an operand stands for: the number that it writes, or the number variable of that name
abbrev pub term_of : Word → Term
term_of word = if begins_with_digit word then Literal (digits_value 10 word) else TermVariable word

abbrev pub an_operand : List Test
an_operand = (is_no_bad_number, BadNumber) ∷ (is_operand, BadName) ∷ []

unfoldable pub read_term : Parser Term
read_term = tested an_operand term_of

-- the word stands for a variable: a name for a number, and a name behind `@` for a future
abbrev pub is_variable_word : Word → Bool
is_variable_word word = is_name word || is_future word

abbrev pub variable_of : Word → Variable
variable_of word =
    if is_future word then record { name = drop 1 word; sort = sort.Future } else record { name = word; sort = sort.Number }

abbrev pub is_new : List Variable → Word → Bool
is_new taken word = not (has_variable taken (variable_of word).sort (variable_of word).name)

-- a variable that is none of those of its kind so far, which may be `limit` in number
abbrev pub a_variable : ℕ → List Variable → List Test
a_variable limit taken = (is_variable_word, BadName) ∷ (is_new taken, TwiceNamed) ∷ within (length taken) limit ∷ []

unfoldable pub read_variable : ℕ → List Variable → Parser Variable
read_variable limit taken = tested (a_variable limit taken) variable_of

-- a future that is none of those before it in its list
abbrev pub other_future : List (List ℕ) → List Test
other_future taken = (is_future, BadName) ∷ (λ word. not (is_among taken (drop 1 word)), TwiceNamed) ∷ []

unfoldable pub read_other_future : List (List ℕ) → Parser (List ℕ)
read_other_future taken = tested (other_future taken) (drop 1)

-- the predecessor, where one is named
unfoldable pub read_behind : Parser (Option (List ℕ))
read_behind = do
  found ← eat (codes "behind")
  if found then Some <$> read_future else pure None

abbrev pub priority_by : Option Priority → Parser Priority
priority_by None = pure Regular
priority_by (Some priority) = take_word >> pure priority

-- the priority, which is regular where none is written
unfoldable pub read_priority : Parser Priority
read_priority = do
  word ← peek
  priority_by (priority_of word)

abbrev pub last_priority_by : Option Priority → Parser Priority
last_priority_by None = refuse UnknownWord
last_priority_by (Some priority) = take_word >> pure priority

-- the same, where nothing else may stand before the end of the line
unfoldable pub read_last_priority : Parser Priority
read_last_priority = do
  word ← peek
  if is_missing word then pure Regular else last_priority_by (priority_of word)

-- whether the line ends in `retry`
unfoldable pub read_retry : Parser Bool
read_retry = do
  word ← peek
  if is_missing word then pure false else fixed (codes "retry") >> pure true

abbrev pub relation_by : Option Relation → Parser Relation
relation_by None = refuse UnknownWord
relation_by (Some relation) = take_word >> pure relation

unfoldable pub read_relation : Parser Relation
read_relation = do
  word ← peek
  relation_by (relation_of word)

-- ---- lists

abbrev pub is_argument : Word → Bool
is_argument word = is_operand word || is_future word

abbrev pub passed_of : Word → Passed
passed_of word = if is_future word then Passed.Future (drop 1 word) else Passed.Number (term_of word)

-- what is passed behind so many, of at most 16
abbrev pub an_argument : ℕ → List Test
an_argument count = (is_no_bad_number, BadNumber) ∷ within count 16 ∷ []

unfoldable pub read_argument : List Passed → Parser Passed
read_argument found = tested (an_argument (length found)) passed_of

-- a member of an aggregate behind so many, of at most 8
abbrev pub a_member : ℕ → List Test
a_member count = (is_future, BadName) ∷ within count 8 ∷ []

unfoldable pub read_member : List (List ℕ) → Parser (List ℕ)
read_member found = tested (a_member (length found)) (drop 1)

abbrev pub is_root_argument : Word → Bool
is_root_argument word = begins_with_digit word || is_future word

abbrev pub root_term_of : Word → RootTerm
root_term_of word = if is_future word then RootTerm.Root (drop 1 word) else RootTerm.Number (digits_value 10 word)

unfoldable pub read_root_argument : List RootTerm → Parser RootTerm
read_root_argument found = tested (an_argument (length found)) root_term_of

-- the futures behind `holds`, where it is written
unfoldable pub read_holds : Parser (List (List ℕ))
read_holds = do
  found ← eat (codes "holds")
  if found then one_or_more is_future read_other_future else pure []

-- the futures behind `settled`, where the line does not end before it
unfoldable pub read_settled : Parser (List (List ℕ))
read_settled = do
  word ← peek
  if is_missing word then pure [] else fixed (codes "settled") >> one_or_more is_present read_other_future

-- ---- the header

abbrev pub header_word : Word → List Test
header_word word = (same_bytes word, NoHeader) ∷ []

-- `ktask 1`
unfoldable pub header_line : Parser (Unit {0})
header_line = tested (header_word (codes "ktask")) (λ _. tt {0}) >> tested (header_word (codes "1")) (λ _. tt {0})
