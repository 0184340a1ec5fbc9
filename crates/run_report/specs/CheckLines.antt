-- The lines that tell the kinds of a program.
use Rattle.std.specs.Prelude.{ℕ, ◌+◌, List, [], ◌∷◌, ◌++◌, codes, decimal, length}
use Rattle.task_syntax.specs.declared.program.Kind.{Kind}
use Rattle.task_syntax.specs.declared.program.Program.{Program}
use Rattle.record_core.specs.EndSound.{kind_class}
use Rattle.run_report.specs.Lines.{Word, Words, lines_of_each}

-- `kind NAME class D words W`
abbrev pub kind_words : Word → ℕ → ℕ → Words
kind_words name class words = codes "kind" ∷ name ∷ codes "class" ∷ decimal class ∷ codes "words" ∷ decimal words ∷ []

abbrev pub kind_lines_of : Program → ℕ → Kind → List Words
kind_lines_of p at kind = kind_words kind.name (kind_class p at) (1 + length kind.variables) ∷ []

abbrev pub kind_lines : Program → List Words
kind_lines p = lines_of_each (kind_lines_of p) 0 p.kinds

-- `kinds K roots R`
abbrev pub total_words : Program → Words
total_words p = codes "kinds" ∷ decimal (length p.kinds) ∷ codes "roots" ∷ decimal (length p.roots) ∷ []

-- a line for each kind, and one of all
abbrev pub check_lines : Program → List Words
check_lines p = kind_lines p ++ total_words p ∷ []
