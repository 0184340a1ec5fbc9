-- What one item adds to the lists of a program.
use Rattle.std.specs.Prelude.{ℕ, List, [], ◌∷◌}
use Rattle.task_lines.specs.declared.item.Item.{Item}
use Rattle.task_reader.specs.declared.positions.Positions.{Positions}
use Rattle.task_syntax.specs.declared.program.Kind.{Kind}
use Rattle.task_syntax.specs.declared.program.Root.{Root}
use Rattle.task_syntax.specs.declared.program.State.{State}
use Rattle.task_lines.specs.declared.item.What.TheVariants as what
use Rattle.task_reader.specs.Program.{state_of, kind_of, root_of}

abbrev pub kind_name_at : Item → List (List ℕ)
kind_name_at item = elim item.what [ what.Kind name arguments ↦ name ∷ [] | _ ↦ [] ]

abbrev pub state_name_at : Item → List (List ℕ)
state_name_at item = elim item.what [ what.State name holds settled ↦ name ∷ [] | _ ↦ [] ]

abbrev pub root_name_at : Item → List (List ℕ)
root_name_at item = elim item.what [ what.Root name kind arguments behind priority ↦ name ∷ [] | _ ↦ [] ]

-- where the items behind it follow
abbrev pub state_at : Positions → Item → List Item → List State
state_at p item ahead = elim item.what [ what.State name holds settled ↦ state_of p item.line name holds settled ahead ∷ [] | _ ↦ [] ]

abbrev pub kind_at : List (List ℕ) → Item → List Item → List Kind
kind_at kinds item ahead = elim item.what [ what.Kind name arguments ↦ kind_of kinds item.line name arguments ahead ∷ [] | _ ↦ [] ]

abbrev pub root_at : List (List ℕ) → List (List ℕ) → Item → List Root
root_at kinds earlier item =
    elim item.what [ what.Root name kind arguments behind priority ↦ root_of kinds earlier item.line name kind arguments behind priority ∷ [] | _ ↦ [] ]
