-- The first unknown name of a list.
use Rattle.std.specs.Prelude.{ℕ, ◌+◌, Bool, true, List, Option, Some, None, Result, Ok, Err}
use Rattle.task_lines.specs.Scope.{has_variable}
use Rattle.task_lines.specs.declared.item.RootTerm.{RootTerm}
use Rattle.task_lines.specs.declared.step.Passed.{Passed}
use Rattle.task_lines.specs.declared.step.Term.{Term}
use Rattle.task_reader.specs.declared.unknown.WordPlace.{WordPlace}
use Rattle.task_syntax.specs.declared.program.Sort.TheVariants.{Number, Future}
use Rattle.task_syntax.specs.declared.program.Variable.{Variable}
use Rattle.task_text.specs.Fault.{fault_at}
use Rattle.task_text.specs.Scan.{is_among}
use Rattle.task_text.specs.declared.fault.Cause.TheVariants.{UnknownName}
use Rattle.task_text.specs.declared.fault.Fault.{Fault}

abbrev pub is_known_term : List Variable → Term → Bool
is_known_term variables (Term.Literal n) = true
is_known_term variables (Term.Variable name) = has_variable variables Number name

abbrev pub is_known_passed : List Variable → Passed → Bool
is_known_passed variables (Passed.Number t) = is_known_term variables t
is_known_passed variables (Passed.Future name) = has_variable variables Future name

abbrev pub is_known_root_term : List (List ℕ) → RootTerm → Bool
is_known_root_term roots (RootTerm.Number n) = true
is_known_root_term roots (RootTerm.Root name) = is_among roots name

-- behind so many words
abbrev pub behind : ℕ → WordPlace → WordPlace
behind count at = record at { word = at.word + count }

-- what stands at a place of a list is unknown, where the list begins at a word
abbrev pub unknown_at : ℕ → ℕ → Option ℕ → Result (Unit {0}) Fault
unknown_at line word None = Ok tt
unknown_at line word (Some at) = Err (fault_at UnknownName line (word + at))
