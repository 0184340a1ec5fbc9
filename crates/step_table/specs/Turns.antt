-- What a pass keeps in words of its own of the turn of asking for roots.
use Rattle.std.specs.Prelude.{List, [], ◌∷◌, map, take, Option, Some, None}
use Rattle.table_core.specs.Holdings.{RootSays}
use Rattle.table_core.specs.Holdings as says
use Rattle.step_table.specs.declared.turn.NamedRoot.{NamedRoot}
use Rattle.step_table.specs.declared.turn.NamedRoot.TheVariants as named
use Rattle.step_table.specs.declared.turn.Turn.{Turn}

abbrev pub says_of : NamedRoot → RootSays
says_of (named.Record unit) = says.Record unit
says_of named.Null = says.Null
says_of named.Limit = says.Limit
says_of (named.Skipped root) = says.Skipped root

abbrev pub said : Option NamedRoot → Option RootSays
said None = None
said (Some name) = Some (says_of name)

-- what is said of the roots that are asked for
abbrev pub taken : Turn → List RootSays
taken t = map says_of (take t.asked t.named)

-- the turn that a pass keeps, as views have it
abbrev pub turn_of : Option Turn → List (List RootSays)
turn_of None = []
turn_of (Some t) = taken t ∷ []
