-- What the lines so far have given, and what a further line makes of it.
use Rattle.std.specs.List.{list_any}
use Rattle.std.specs.Prelude.{ℕ, ◌+◌, Bool, true, false, ◌&&◌, List, [], ◌∷◌, ◌++◌}
use Rattle.task_lines.specs.declared.item.What.{What}
use Rattle.task_lines.specs.declared.scope.Place.{Place}
use Rattle.task_lines.specs.declared.scope.Place.TheVariants.{Outside, Head, Code, Jumped, Ended}
use Rattle.task_lines.specs.declared.scope.Scope.{Scope}
use Rattle.task_lines.specs.declared.step.Step.{Step}
use Rattle.task_lines.specs.declared.step.Step.TheVariants.{Goto, Label, Again, Done}
use Rattle.task_syntax.specs.Names.{same_bytes}
use Rattle.task_syntax.specs.declared.program.Sort.{Sort}
use Rattle.task_syntax.specs.declared.program.Sort.TheVariants.{Number, Future}
use Rattle.task_syntax.specs.declared.program.Variable.{Variable}

-- before the first line behind the header
abbrev pub first_scope : Scope
first_scope = record { place = Outside; kinds = []; roots = []; variables = []; states = []; labels = []; steps = 0 }

-- where the line behind an instruction stands
abbrev pub place_behind : Step → Place
place_behind (Goto target) = Jumped
place_behind (Again target behind priority) = Ended
place_behind (Done value) = Ended
place_behind _ = Code

abbrev pub labels_behind : Step → List (List ℕ) → List (List ℕ)
labels_behind (Label name) labels = labels ++ name ∷ []
labels_behind _ labels = labels

-- the scope behind a line
abbrev pub after : Scope → What → Scope
after s (What.Kind name arguments) =
    record s { place = Head; kinds = s.kinds ++ name ∷ []; variables = arguments; states = []; labels = []; steps = 0 }
after s (What.Var variables) = record s { variables = s.variables ++ variables }
after s (What.State name holds settled) = record s { place = Code; states = s.states ++ name ∷ []; labels = []; steps = 0 }
after s (What.Step step) = record s { place = place_behind step; labels = labels_behind step s.labels; steps = s.steps + 1 }
after s What.End = record s { place = Outside }
after s (What.Root name kind arguments behind priority) = record s { roots = s.roots ++ name ∷ [] }

abbrev pub same_sort : Sort → Sort → Bool
same_sort Number Number = true
same_sort Future Future = true
same_sort _ _ = false

-- the variable of this sort and name: a number and a future may have one name
abbrev pub is_variable : Sort → List ℕ → Variable → Bool
is_variable sort name variable = same_sort sort variable.sort && same_bytes name variable.name

abbrev pub has_variable : List Variable → Sort → List ℕ → Bool
has_variable variables sort name = list_any (is_variable sort name) variables
