-- The words of a line as they are written: the shortest that spell it.
use Rattle.std.specs.Prelude.{ℕ, List, [], ◌∷◌, ◌++◌, map, codes, decimal}
use Rattle.task_lines.specs.Spelling.{future_word, operation_word, relation_word, behind_words, retry_words}
use Rattle.task_lines.specs.declared.item.RootTerm.{RootTerm}
use Rattle.task_lines.specs.declared.item.What.{What}
use Rattle.task_lines.specs.declared.step.Passed.{Passed}
use Rattle.task_lines.specs.declared.step.Step.{Step}
use Rattle.task_lines.specs.declared.step.Term.{Term}
use Rattle.task_syntax.specs.declared.program.Variable.{Variable}
use Rattle.task_syntax.specs.declared.value.Priority.{Priority}
use Rattle.task_syntax.specs.declared.value.Priority.TheVariants.{High, Regular, Low}
use Rattle.task_text.specs.Text.{Word}
use Rattle.task_syntax.specs.declared.program.Sort.TheVariants as sort
use Rattle.task_lines.specs.declared.step.Step.TheVariants.{Set, Math, If, Goto, Label, Cell, Rows, Spawn, All, Copy, Drop, Get, Again, Done}

abbrev pub term_word : Term → Word
term_word (Term.Literal n) = decimal n
term_word (Term.Variable name) = name

abbrev pub passed_word : Passed → Word
passed_word (Passed.Number t) = term_word t
passed_word (Passed.Future name) = future_word name

abbrev pub root_term_word : RootTerm → Word
root_term_word (RootTerm.Number n) = decimal n
root_term_word (RootTerm.Root name) = future_word name

abbrev pub variable_word : Variable → Word
variable_word variable = elim variable.sort [ sort.Number ↦ variable.name | sort.Future ↦ future_word variable.name ]

-- a fixed word and the futures behind it, or nothing where there are none
abbrev pub futures_words : Word → List (List ℕ) → List Word
futures_words opening [] = []
futures_words opening (name ∷ names) = opening ∷ map future_word (name ∷ names)

-- nothing where the priority is regular
abbrev pub priority_words : Priority → List Word
priority_words High = codes "high" ∷ []
priority_words Regular = []
priority_words Low = codes "low" ∷ []

abbrev pub step_words : Step → List Word
step_words (Set to value) = codes "set" ∷ to ∷ term_word value ∷ []
step_words (Math operation to left right) = operation_word operation ∷ to ∷ term_word left ∷ term_word right ∷ []
step_words (If relation left right target) = codes "if" ∷ term_word left ∷ relation_word relation ∷ term_word right ∷ codes "goto" ∷ target ∷ []
step_words (Goto target) = codes "goto" ∷ target ∷ []
step_words (Label name) = codes "label" ∷ name ∷ []
step_words (Cell to column row) = codes "cell" ∷ to ∷ column ∷ term_word row ∷ []
step_words (Rows to column) = codes "rows" ∷ to ∷ column ∷ []
step_words (Spawn to kind arguments behind priority retry) =
    codes "spawn" ∷ future_word to ∷ kind ∷ (map passed_word arguments ++ (behind_words behind ++ (priority_words priority ++ retry_words retry)))
step_words (All to members priority retry) =
    codes "all" ∷ future_word to ∷ (map future_word members ++ (priority_words priority ++ retry_words retry))
step_words (Copy to source) = codes "copy" ∷ future_word to ∷ future_word source ∷ []
step_words (Drop future) = codes "drop" ∷ future_word future ∷ []
step_words (Get to future) = codes "get" ∷ to ∷ future_word future ∷ []
step_words (Again target behind priority) = codes "again" ∷ target ∷ (behind_words behind ++ priority_words priority)
step_words (Done value) = codes "done" ∷ term_word value ∷ []

abbrev pub line_words : What → List Word
line_words (What.Kind name arguments) = codes "kind" ∷ name ∷ map variable_word arguments
line_words (What.Var variables) = codes "var" ∷ map variable_word variables
line_words (What.State name holds settled) =
    codes "state" ∷ name ∷ (futures_words (codes "holds") holds ++ futures_words (codes "settled") settled)
line_words (What.Step step) = step_words step
line_words What.End = codes "end" ∷ []
line_words (What.Root name kind arguments behind priority) =
    codes "root" ∷ name ∷ kind ∷ (map root_term_word arguments ++ (behind_words behind ++ priority_words priority))
