-- Programs that differ in the numbers of their lines alone.
use Rattle.std.specs.Prelude.{◌≡◌, map}
use Rattle.task_syntax.specs.declared.instr.Line.{Line}
use Rattle.task_syntax.specs.declared.program.Kind.{Kind}
use Rattle.task_syntax.specs.declared.program.Program.{Program}
use Rattle.task_syntax.specs.declared.program.Root.{Root}
use Rattle.task_syntax.specs.declared.program.State.{State}

-- with 0 in place of each line number
abbrev pub unnumbered_line : Line → Line
unnumbered_line line = record line { line = 0 }

abbrev pub unnumbered_state : State → State
unnumbered_state state = record state { line = 0; code = map unnumbered_line state.code }

abbrev pub unnumbered_kind : Kind → Kind
unnumbered_kind kind = record kind { line = 0; states = map unnumbered_state kind.states }

abbrev pub unnumbered_root : Root → Root
unnumbered_root root = record root { line = 0 }

abbrev pub unnumbered : Program → Program
unnumbered p = record { kinds = map unnumbered_kind p.kinds; roots = map unnumbered_root p.roots }

abbrev pub AreSameButLines : Program → Program → Type 0
AreSameButLines p q = unnumbered p ≡ unnumbered q
