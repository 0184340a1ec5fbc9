-- The language as a table: what is asked of each word of a line, and the cause where it is not so.
use Rattle.std.specs.Prelude.{ℕ, Bool, false, if◌then◌else◌, Option, Some, None, is_some, List, [], ◌∷◌, ◌++◌, map, length, drop, codes}
use Rattle.task_lines.specs.Keyword.{opening, relation_of, priority_of}
use Rattle.task_lines.specs.Line.{variable_of, an_operand, a_variable, other_future, is_argument, an_argument, a_member, is_root_argument, header_word}
use Rattle.task_lines.specs.Table.{Part, GotoWord, AName, ANewName, ATarget, ATerm, ARelation, AFuture, KindVariables, MoreVariables, Arguments, RootArguments, Members, HeldFutures, SettledFutures, Predecessor, APriority, LastPriority, ARetry, names_of, parts_of, counted}
use Rattle.task_lines.specs.declared.keyword.Keyword.{Keyword}
use Rattle.task_lines.specs.declared.scope.Scope.{Scope}
use Rattle.task_syntax.specs.Names.{same_bytes}
use Rattle.task_text.specs.Scan.{is_missing, is_present, is_future, Test, within, this_word, a_name, new_name, a_future}
use Rattle.task_text.specs.Text.{Word}
use Rattle.task_text.specs.declared.fault.Cause.{Cause}
use Rattle.task_text.specs.declared.fault.Cause.TheVariants.{UnknownWord, TwiceNamed, BackLabel, WordsLeft}

-- ---- what may be asked

-- what is asked of the words of a line from one of them on
pub data Asked : Type 0 where
  -- no further word
  End : Asked
  -- a word that passes the tests, and then what follows
  One : List Test → Asked → Asked
  -- as many words as pass a test, where each is asked what depends on those of the list before it; and then what follows
  Many : (Word → Bool) → (List Word → List Test) → List Word → Asked → Asked
  -- what depends on the word itself
  By : (Word → Asked) → Asked

-- the cause of the first test that the word does not pass
abbrev pub failed_by : List Test → Word → Option Cause
failed_by [] word = None
failed_by (test ∷ tests) word = if test.0 word then failed_by tests word else Some test.1

-- why the word may not stand here; a missing word is the empty word
abbrev pub cause_of : Asked → Word → Option Cause
cause_of End word = if is_missing word then None else Some WordsLeft
cause_of (One tests next) word = failed_by tests word
cause_of (Many test tests found next) word = if test word then failed_by (tests found) word else cause_of next word
cause_of (By asked) word = cause_of (asked word) word

-- what is asked behind the word
abbrev pub behind_word : Asked → Word → Asked
behind_word End word = End
behind_word (One tests next) word = next
behind_word (Many test tests found next) word =
    if test word then Many test tests (found ++ word ∷ []) next else behind_word next word
behind_word (By asked) word = behind_word (asked word) word

-- what is asked behind the words
abbrev pub behind_words : Asked → List Word → Asked
behind_words asked [] = asked
behind_words asked (word ∷ words) = behind_words (behind_word asked word) words

-- ---- words

abbrev pub is_relation : Word → Bool
is_relation word = is_some (relation_of word)

abbrev pub is_priority : Word → Bool
is_priority word = is_some (priority_of word)

-- a first word, which opens one of at most so many lines where they are counted
abbrev pub opens : Option (ℕ × ℕ) → List Test
opens None = (is_present, UnknownWord) ∷ []
opens (Some count) = (is_present, UnknownWord) ∷ within count.0 count.1 ∷ []

-- a future that does not stand in the list before
abbrev pub another_future : List Word → List Test
another_future found = other_future (map (drop 1) found)

-- ---- parts of lines

abbrev pub at_least_one : (Word → Bool) → (List Word → List Test) → Asked → Asked
at_least_one test tests next = By (λ word. One (tests []) (Many test tests (word ∷ []) next))

-- the one where the next word passes the test, else the other
abbrev pub where_word : (Word → Bool) → Asked → Asked → Asked
where_word test one other = By (λ word. if test word then one else other)

abbrev pub behind_part : Asked → Asked
behind_part next = where_word (same_bytes (codes "behind")) (One (this_word (codes "behind")) (One a_future next)) next

abbrev pub priority_part : Asked → Asked
priority_part next = where_word is_priority (One ((is_priority, UnknownWord) ∷ []) next) next

abbrev pub last_priority_part : Asked → Asked
last_priority_part next = where_word is_missing next (One ((is_priority, UnknownWord) ∷ []) next)

abbrev pub retry_part : Asked → Asked
retry_part next = where_word is_missing next (One (this_word (codes "retry")) next)

abbrev pub holds_part : Asked → Asked
holds_part next =
    where_word (same_bytes (codes "holds")) (One (this_word (codes "holds")) (at_least_one is_future another_future next)) next

abbrev pub settled_part : Asked → Asked
settled_part next =
    where_word is_missing next (One (this_word (codes "settled")) (at_least_one is_present another_future next))

-- ---- lines

abbrev pub header_asked : Asked
header_asked = One (header_word (codes "ktask")) (One (header_word (codes "1")) End)

-- what is asked of a part of a line, and then of what follows
abbrev pub part_asked : Scope → Part → Asked → Asked
part_asked s GotoWord next = One (this_word (codes "goto")) next
part_asked s AName next = One a_name next
part_asked s (ANewName named) next = One (new_name TwiceNamed (names_of s named)) next
part_asked s ATarget next = One (new_name BackLabel s.labels) next
part_asked s ATerm next = One an_operand next
part_asked s ARelation next = One ((is_relation, UnknownWord) ∷ []) next
part_asked s AFuture next = One a_future next
part_asked s KindVariables next = Many is_present (λ found. a_variable 16 (map variable_of found)) [] next
part_asked s MoreVariables next = at_least_one is_present (λ found. a_variable 255 (s.variables ++ map variable_of found)) next
part_asked s Arguments next = Many is_argument (λ found. an_argument (length found)) [] next
part_asked s RootArguments next = Many is_root_argument (λ found. an_argument (length found)) [] next
part_asked s Members next = at_least_one is_future (λ found. a_member (length found)) next
part_asked s HeldFutures next = holds_part next
part_asked s SettledFutures next = settled_part next
part_asked s Predecessor next = behind_part next
part_asked s APriority next = priority_part next
part_asked s LastPriority next = last_priority_part next
part_asked s ARetry next = retry_part next

abbrev pub parts_asked : Scope → List Part → Asked → Asked
parts_asked s [] next = next
parts_asked s (part ∷ parts) next = part_asked s part (parts_asked s parts next)

-- the line that a keyword opens
abbrev pub keyword_asked : Scope → Keyword → Asked
keyword_asked s keyword = One (opens (counted s keyword)) (parts_asked s (parts_of keyword) End)

abbrev pub opened_by : Scope → Option Keyword → Asked
opened_by scope None = One ((λ word. false, UnknownWord) ∷ []) End
opened_by scope (Some keyword) = keyword_asked scope keyword

-- what is asked of a line that stands behind those that made the scope
abbrev pub line_asked : Scope → Asked
line_asked scope = By (λ word. opened_by scope (opening scope.place word))
