-- The names that a line uses, word by word.
use Rattle.std.specs.Prelude.{◌≡◌, ℕ, List, [], ◌∷◌, ◌++◌, map, Option, Some, None}
use Rattle.task_lines.specs.Grammar.{future_word}
use Rattle.task_lines.specs.declared.item.RootTerm.{RootTerm}
use Rattle.task_lines.specs.declared.item.What.{What}
use Rattle.task_lines.specs.declared.step.Passed.{Passed}
use Rattle.task_lines.specs.declared.step.Step.{Step}
use Rattle.task_lines.specs.declared.step.Step.TheVariants.{Set, Math, If, Goto, Label, Cell, Rows, Spawn, All, Copy, Drop, Get, Again, Done}
use Rattle.task_lines.specs.declared.step.Term.{Term}
use Rattle.task_text.specs.Text.{Word}

-- what a word of a line names that must be given elsewhere; a plain word names nothing of that sort
pub data Use : Type 0 where
  Plain : Use
  UsesNumber : List ℕ → Use
  UsesFuture : List ℕ → Use
  UsesKind : List ℕ → Use
  UsesState : List ℕ → Use
  UsesLabel : List ℕ → Use
  UsesRoot : List ℕ → Use

-- the word spells the name that it uses
abbrev pub SpellsUse : Word → Use → Type 0
SpellsUse word Plain = Unit {0}
SpellsUse word (UsesNumber name) = word ≡ name
SpellsUse word (UsesFuture name) = word ≡ future_word name
SpellsUse word (UsesKind name) = word ≡ name
SpellsUse word (UsesState name) = word ≡ name
SpellsUse word (UsesLabel name) = word ≡ name
SpellsUse word (UsesRoot name) = word ≡ future_word name

abbrev pub term_use : Term → Use
term_use (Term.Literal n) = Plain
term_use (Term.Variable name) = UsesNumber name

abbrev pub passed_use : Passed → Use
passed_use (Passed.Number t) = term_use t
passed_use (Passed.Future name) = UsesFuture name

abbrev pub root_term_use : RootTerm → Use
root_term_use (RootTerm.Number n) = Plain
root_term_use (RootTerm.Root name) = UsesRoot name

-- the word `behind` and the predecessor, where one is named
abbrev pub behind_uses : (List ℕ → Use) → Option (List ℕ) → List Use
behind_uses use_of None = []
behind_uses use_of (Some name) = Plain ∷ use_of name ∷ []

-- a fixed word and the futures behind it, or nothing where there are none
abbrev pub futures_uses : List (List ℕ) → List Use
futures_uses [] = []
futures_uses (name ∷ names) = Plain ∷ map UsesFuture (name ∷ names)

-- what a spawn passes, and its predecessor
abbrev pub passed_uses : List Passed → Option (List ℕ) → List Use
passed_uses arguments behind = map passed_use arguments ++ behind_uses UsesFuture behind

-- what a root passes, and its predecessor
abbrev pub root_passed_uses : List RootTerm → Option (List ℕ) → List Use
root_passed_uses arguments behind = map root_term_use arguments ++ behind_uses UsesRoot behind

-- the words of a root
abbrev pub root_uses : List ℕ → List RootTerm → Option (List ℕ) → List Use
root_uses kind arguments behind = Plain ∷ Plain ∷ UsesKind kind ∷ root_passed_uses arguments behind

-- the words of a state
abbrev pub state_uses : List (List ℕ) → List (List ℕ) → List Use
state_uses holds settled = Plain ∷ Plain ∷ (futures_uses holds ++ futures_uses settled)

-- the words of an instruction, up to its last name
abbrev pub step_uses : Step → List Use
step_uses (Set to value) = Plain ∷ UsesNumber to ∷ term_use value ∷ []
step_uses (Math operation to left right) = Plain ∷ UsesNumber to ∷ term_use left ∷ term_use right ∷ []
step_uses (If relation left right target) = Plain ∷ term_use left ∷ Plain ∷ term_use right ∷ Plain ∷ UsesLabel target ∷ []
step_uses (Goto target) = Plain ∷ UsesLabel target ∷ []
step_uses (Label name) = []
step_uses (Cell to column row) = Plain ∷ UsesNumber to ∷ Plain ∷ term_use row ∷ []
step_uses (Rows to column) = Plain ∷ UsesNumber to ∷ []
step_uses (Spawn to kind arguments behind priority retry) =
    Plain ∷ UsesFuture to ∷ UsesKind kind ∷ passed_uses arguments behind
step_uses (All to members priority retry) = Plain ∷ UsesFuture to ∷ map UsesFuture members
step_uses (Copy to source) = Plain ∷ UsesFuture to ∷ UsesFuture source ∷ []
step_uses (Drop future) = Plain ∷ UsesFuture future ∷ []
step_uses (Get to future) = Plain ∷ UsesNumber to ∷ UsesFuture future ∷ []
step_uses (Again target behind priority) = Plain ∷ UsesState target ∷ behind_uses UsesFuture behind
step_uses (Done value) = Plain ∷ term_use value ∷ []

-- the words of a line, up to its last name
abbrev pub line_uses : What → List Use
line_uses (What.Kind name arguments) = []
line_uses (What.Var variables) = []
line_uses (What.State name holds settled) = state_uses holds settled
line_uses (What.Step step) = step_uses step
line_uses What.End = []
line_uses (What.Root name kind arguments behind priority) = root_uses kind arguments behind
