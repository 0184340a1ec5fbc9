-- A program whose lines have the numbers of its canonical text.
use Rattle.std.specs.List.{flat_map}
use Rattle.std.specs.Prelude.{ℕ, ◌+◌, List, [], ◌∷◌, length, drop}
use Rattle.task_syntax.specs.declared.instr.Line.{Line}
use Rattle.task_syntax.specs.declared.program.Kind.{Kind}
use Rattle.task_syntax.specs.declared.program.Program.{Program}
use Rattle.task_syntax.specs.declared.program.Root.{Root}
use Rattle.task_syntax.specs.declared.program.State.{State}
use Rattle.task_writer.specs.Lines.{kind_names, state_lines, var_lines, kind_lines}

-- instructions whose first stands on the line `at`; so with the others below
unfoldable pub numbered_code : ℕ → List Line → List Line
numbered_code at [] = []
numbered_code at (l ∷ more) = record l { line = at } ∷ numbered_code (at + 1) more

abbrev pub numbered_state : ℕ → State → State
numbered_state at state = record state { line = at; code = numbered_code (at + 1) state.code }

-- each state behind the lines of those before it
unfoldable pub numbered_states : (State → ℕ) → ℕ → List State → List State
numbered_states size at [] = []
numbered_states size at (state ∷ more) = numbered_state at state ∷ numbered_states size (at + size state) more

-- the states stand behind the line of the kind and that of its variables
unfoldable pub numbered_kind : List (List ℕ) → ℕ → Kind → Kind
numbered_kind kinds at kind = record kind {
  line = at;
  states = numbered_states (λ state. length (state_lines kinds kind state)) (at + 1 + length (var_lines (drop kind.arguments kind.variables))) kind.states;
}

-- each kind behind the lines of those before it
unfoldable pub numbered_kinds : List (List ℕ) → ℕ → List Kind → List Kind
numbered_kinds kinds at [] = []
numbered_kinds kinds at (kind ∷ more) = numbered_kind kinds at kind ∷ numbered_kinds kinds (at + length (kind_lines kinds kind)) more

unfoldable pub numbered_roots : ℕ → List Root → List Root
numbered_roots at [] = []
numbered_roots at (root ∷ more) = record root { line = at } ∷ numbered_roots (at + 1) more

-- the header is line 1
unfoldable pub renumbered : Program → Program
renumbered p = record {
  kinds = numbered_kinds (kind_names p.kinds) 2 p.kinds;
  roots = numbered_roots (2 + length (flat_map (kind_lines (kind_names p.kinds)) p.kinds)) p.roots;
}
