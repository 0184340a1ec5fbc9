-- What an item gives to the kind or state that it stands in.
use Rattle.std.specs.Prelude.{ℕ, Bool, true, false, not, List}
use Rattle.task_lines.specs.declared.item.Item.{Item}
use Rattle.task_syntax.specs.Names.{same_bytes}
use Rattle.task_lines.specs.declared.item.What.TheVariants as what
use Rattle.task_reader.specs.Program.{is_label}

abbrev pub is_step : Item → Bool
is_step item = elim item.what [ what.Step step ↦ true | _ ↦ false ]

abbrev pub is_inside : Item → Bool
is_inside item = elim item.what [ what.End ↦ false | _ ↦ true ]

-- the label of this name
abbrev pub labels : List ℕ → Item → Bool
labels name item = elim item.what [ what.Step step ↦ is_label name step | _ ↦ false ]

-- an instruction that is not the label of this name
abbrev pub passes_by : List ℕ → Item → Bool
passes_by name item = elim item.what [ what.Step step ↦ not (is_label name step) | _ ↦ false ]

-- a state of this name
abbrev pub begins : List ℕ → Item → Bool
begins name item = elim item.what [ what.State other holds settled ↦ same_bytes name other | _ ↦ false ]
