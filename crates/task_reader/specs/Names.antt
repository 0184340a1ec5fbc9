-- Unknown names: the first name, in the order of lines and words, that is given nowhere.
use Rattle.std.specs.Prelude.{ℕ, ◌+◌, Bool, true, if◌then◌else◌, List, [], ◌∷◌, ◌++◌, Result, Ok, Err}
use Rattle.task_lines.specs.Scope.{has_variable, after}
use Rattle.task_lines.specs.declared.item.Item.{Item}
use Rattle.task_lines.specs.declared.item.What.{What}
use Rattle.task_lines.specs.declared.scope.Scope.{Scope}
use Rattle.task_lines.specs.declared.step.Step.{Step}
use Rattle.task_lines.specs.declared.step.Step.TheVariants.{Label}
use Rattle.task_syntax.specs.declared.program.Sort.TheVariants.{Number, Future}
use Rattle.task_syntax.specs.declared.program.Variable.{Variable}
use Rattle.task_text.specs.Fault.{fault_at, ◌>>◌}
use Rattle.task_text.specs.Scan.{is_among}
use Rattle.task_text.specs.declared.fault.Cause.TheVariants.{UnknownName}
use Rattle.task_text.specs.declared.fault.Fault.{Fault}
use Rattle.task_reader.specs.Uses.{Use, Plain, UsesNumber, UsesFuture, UsesKind, UsesState, UsesLabel, UsesRoot, line_uses}

-- ---- the names that the items give

-- the names of all kinds
abbrev pub kind_names : List Item → List (List ℕ)
kind_names [] = []
kind_names (item ∷ items) = elim item.what [ What.Kind name arguments ↦ name ∷ kind_names items | _ ↦ kind_names items ]

-- the names of the states that follow in a kind
abbrev pub state_names : List Item → List (List ℕ)
state_names [] = []
state_names (item ∷ items) =
    elim item.what [ What.State name holds settled ↦ name ∷ state_names items | What.End ↦ [] | _ ↦ state_names items ]

abbrev pub step_label : Step → List (List ℕ)
step_label (Label name) = name ∷ []
step_label _ = []

-- the names of the labels that follow in a state
abbrev pub label_names : List Item → List (List ℕ)
label_names [] = []
label_names (item ∷ items) = elim item.what [ What.Step step ↦ step_label step ++ label_names items | _ ↦ [] ]

-- the names that a line may use: those of kinds, of its kind's variables and states, of the labels ahead in its state,
-- and of the roots before it
pub record Known : Type 0 where
  pub kinds : List (List ℕ)
  pub variables : List Variable
  pub states : List (List ℕ)
  pub labels : List (List ℕ)
  pub roots : List (List ℕ)

-- what is known at a line before others, where the kinds have these names
abbrev pub known_among : List (List ℕ) → Scope → List Item → Known
known_among kinds s ahead = record {
  kinds = kinds;
  variables = s.variables;
  states = s.states ++ state_names ahead;
  labels = label_names ahead;
  roots = s.roots;
}

-- what is known at a line of these items, behind which others follow
abbrev pub known_at : List Item → Scope → List Item → Known
known_at all = known_among (kind_names all)

-- ---- the names that a line uses

-- the name is given
abbrev pub is_given : Known → Use → Bool
is_given k Plain = true
is_given k (UsesNumber name) = has_variable k.variables Number name
is_given k (UsesFuture name) = has_variable k.variables Future name
is_given k (UsesKind name) = is_among k.kinds name
is_given k (UsesState name) = is_among k.states name
is_given k (UsesLabel name) = is_among k.labels name
is_given k (UsesRoot name) = is_among k.roots name

-- the name that stands at a word of the line is known
abbrev pub known : ℕ → ℕ → Bool → Result (Unit {0}) Fault
known line word is_known = if is_known then Ok tt else Err (fault_at UnknownName line word)

-- each name is known, where the first stands at a word
unfoldable pub uses_known : Known → ℕ → ℕ → List Use → Result (Unit {0}) Fault
uses_known k line word [] = Ok tt
uses_known k line word (first ∷ uses) = known line word (is_given k first) >> uses_known k line (word + 1) uses

-- the names that a line uses, from its first word on
abbrev pub line_known : Known → ℕ → What → Result (Unit {0}) Fault
line_known k line what = uses_known k line 1 (line_uses what)

-- the names that the items use, in their order, where `all` are those of the whole text
unfoldable pub names_known : List Item → Scope → List Item → Result (Unit {0}) Fault
names_known all s [] = Ok tt
names_known all s (item ∷ items) =
    line_known (known_at all s items) item.line item.what >> names_known all (after s item.what) items
