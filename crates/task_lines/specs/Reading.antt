-- The items of a text, line by line, with every fault but an unknown name.
use Rattle.std.specs.Prelude.{ℕ, Bool, true, false, if◌then◌else◌, List, [], ◌∷◌, length, Result, Ok, Err}
use Rattle.task_lines.specs.declared.item.Item.{Item}
use Rattle.task_lines.specs.declared.item.What.{What}
use Rattle.task_lines.specs.declared.scope.Place.{Place}
use Rattle.task_lines.specs.declared.scope.Place.TheVariants.{Outside, Head, Code, Jumped}
use Rattle.task_lines.specs.declared.scope.Scope.{Scope}
use Rattle.task_text.specs.Fault.{fault_at}
use Rattle.task_text.specs.Scan.{check_text, whole}
use Rattle.task_text.specs.Text.{Row, lines_of, without_mark, rows_of}
use Rattle.task_text.specs.declared.fault.Cause.TheVariants.{NoHeader, NoEnd}
use Rattle.task_text.specs.declared.fault.Fault.{Fault}
use Rattle.task_text.specs.Fault.{◌>>=◌, ◌>>◌}
use Rattle.task_lines.specs.Scope.{first_scope, after}
use Rattle.task_lines.specs.Line.{header_line}
use Rattle.task_lines.specs.Table.{read_line}

-- a state that has begun ends before it may
abbrev pub is_open_state : Place → Bool
is_open_state Code = true
is_open_state Jumped = true
is_open_state _ = false

-- the line ends a state behind a line that is neither `done` nor `again`, or a kind without states
abbrev pub is_cut_short : Place → What → Bool
is_cut_short place (What.State name holds settled) = is_open_state place
is_cut_short Head What.End = true
is_cut_short place What.End = is_open_state place
is_cut_short place _ = false

-- the line of a row, whose faults stand in this order: bytes that are no text, what the words say, an end too soon
unfoldable pub line_of : Scope → Row → Result What Fault
line_of scope row = do
  check_text row
  what ← whole (read_line scope) row
  if is_cut_short scope.place what then Err (fault_at NoEnd row.line 0) else Ok what

-- the items of the rows of a text that has `last` lines
unfoldable pub items_from : ℕ → Scope → List Row → Result (List Item) Fault
items_from last scope [] = elim scope.place [ Outside ↦ Ok [] | _ ↦ Err (fault_at NoEnd last 0) ]
items_from last scope (row ∷ rows) = do
  what ← line_of scope row
  items ← items_from last (after scope what) rows
  Ok (record { line = row.line; what = what } ∷ items)

-- the rows behind the header
unfoldable pub rows_behind_header : List Row → Result (List Row) Fault
rows_behind_header [] = Err (fault_at NoHeader 1 0)
rows_behind_header (row ∷ rows) = do
  check_text row
  whole header_line row
  Ok rows

unfoldable pub items_of : List ℕ → Result (List Item) Fault
items_of text = do
  rows ← rows_behind_header (rows_of text)
  items_from (length (lines_of (without_mark text))) first_scope rows
