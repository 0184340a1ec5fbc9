-- Lists so short that the positions in them, and the numbers of the words that they take, fit their types.
use Rattle.std.specs.Prelude.{ℕ, ◌+◌, ◌^◌, ◌<◌, ◌≤◌, List, [], ◌∷◌, ◌++◌, length}
use Rattle.task_lines.specs.declared.item.Item.{Item}
use Rattle.task_lines.specs.declared.item.What.{What}
use Rattle.task_lines.specs.declared.step.Step.{Step}
use Rattle.task_lines.specs.declared.step.Step.TheVariants.{Spawn, All}
use Rattle.task_reader.specs.declared.positions.Positions.{Positions}
use Rattle.task_reader.specs.Names.{kind_names, state_names}
use Rattle.task_reader.specs.Program.{variables_from}

-- the names of all roots
abbrev pub root_names : List Item → List (List ℕ)
root_names [] = []
root_names (item ∷ items) = elim item.what [ What.Root name kind arguments behind priority ↦ name ∷ root_names items | _ ↦ root_names items ]

-- how many instructions follow in a state
abbrev pub steps_ahead : List Item → ℕ
steps_ahead [] = 0
steps_ahead (item ∷ items) = elim item.what [ What.Step step ↦ steps_ahead items + 1 | _ ↦ 0 ]

-- what the instruction lists is short
abbrev pub IsShortStep : Step → Type 0
IsShortStep (Spawn to kind arguments behind priority retry) = length arguments ≤ 16
IsShortStep (All to members priority retry) = length members ≤ 8
IsShortStep _ = Unit {0}

-- what the line lists is short, and what the items behind it give to its kind or state
abbrev pub IsShort : What → List Item → Type 0
IsShort (What.Kind name arguments) items =
    (length arguments ≤ 16) × (length (arguments ++ variables_from items) ≤ 255) × (length (state_names items) ≤ 32)
IsShort (What.Var variables) items = Unit {0}
IsShort (What.State name holds settled) items = (steps_ahead items ≤ 64) × (length holds + length settled < 2 ^ 31)
IsShort (What.Step step) items = IsShortStep step
IsShort What.End items = Unit {0}
IsShort (What.Root name kind arguments behind priority) items = length arguments ≤ 16

-- so it is for each line
abbrev pub EachIsShort : List Item → Type 0
EachIsShort [] = Unit {0}
EachIsShort (item ∷ items) = IsShort item.what items × EachIsShort items

-- the lists of a kind are short
pub record AreShort (p : Positions) : Type 0 where
  pub kinds : length p.kinds ≤ 64
  pub variables : length p.variables ≤ 255
  pub states : length p.states ≤ 32

-- the items of a text keep the limits
pub record Fit (items : List Item) : Type 0 where
  pub kinds : length (kind_names items) ≤ 64
  pub roots : length (root_names items) ≤ 16
  pub each : EachIsShort items
