-- Where the words of the variables of each kind stand, told once for a program.
use Rattle.std.specs.Prelude.{◌≡◌, ℕ, List, map}
use Rattle.task_syntax.specs.declared.program.Variable.{Variable}
use Rattle.task_syntax.specs.declared.program.Kind.{Kind}
use Rattle.task_syntax.specs.declared.program.Program.{Program}
use Rattle.frame_code.specs.Words.{number_count}
use Rattle.frame_code.specs.Line.{places_from}

-- how many of the variables are numbers; and by position the place of the word of a number, of a future that of the next number
pub record LayoutOf : Type 0 where
  pub numbers : ℕ
  pub places : List ℕ

abbrev pub layout_of : List Variable → LayoutOf
layout_of vs = record { numbers = number_count vs; places = places_from 1 vs }

-- these are the layouts of the kinds of a program, in their order
abbrev pub AreLayouts : Program → List LayoutOf → Type 0
AreLayouts p layouts = layouts ≡ map (λ (kind : Kind). layout_of kind.variables) p.kinds
