-- The fixed words of the language, and which may open a line where.
use Rattle.std.specs.Prelude.{Bool, true, false, if◌then◌else◌, List, [], ◌∷◌, map, Option, Some, None, codes}
use Rattle.task_lines.specs.declared.keyword.Keyword.{Keyword}
use Rattle.task_lines.specs.declared.keyword.Keyword.TheVariants.{Kind, Var, State, End, Root, Add, Sub, Mul, Div, Rem}
use Rattle.task_lines.specs.declared.scope.Place.{Place}
use Rattle.task_lines.specs.declared.scope.Place.TheVariants.{Outside, Head, Code}
use Rattle.task_syntax.specs.Names.{same_bytes}
use Rattle.task_syntax.specs.declared.instr.Relation.{Relation}
use Rattle.task_syntax.specs.declared.instr.Relation.TheVariants.{Less, AtMost, Equal, Differs}
use Rattle.task_syntax.specs.declared.value.Priority.{Priority}
use Rattle.task_syntax.specs.declared.value.Priority.TheVariants.{High, Regular, Low}
use Rattle.task_text.specs.Text.{Word}
use Rattle.task_lines.specs.declared.keyword.Keyword.TheVariants.{Label, Set, If, Goto, Cell, Rows, Spawn, All, Copy, Drop, Get, Again, Done}
use Rattle.task_lines.specs.Spelling.{relation_word, priority_word}

-- what stands beside a word in a table
abbrev pub looked_up : {A : Type 0} → List (Word × A) → Word → Option A
looked_up [] word = None
looked_up (entry ∷ entries) word = if same_bytes entry.0 word then Some entry.1 else looked_up entries word

-- a table of what is written by a word
abbrev pub written_by : {A : Type 0} → (A → Word) → List A → List (Word × A)
written_by word_for things = map (λ thing. (word_for thing, thing)) things

-- the word that opens a line
abbrev pub keyword_word : Keyword → Word
keyword_word Kind = codes "kind"
keyword_word Var = codes "var"
keyword_word State = codes "state"
keyword_word End = codes "end"
keyword_word Root = codes "root"
keyword_word Label = codes "label"
keyword_word Set = codes "set"
keyword_word Add = codes "add"
keyword_word Sub = codes "sub"
keyword_word Mul = codes "mul"
keyword_word Div = codes "div"
keyword_word Rem = codes "rem"
keyword_word If = codes "if"
keyword_word Goto = codes "goto"
keyword_word Cell = codes "cell"
keyword_word Rows = codes "rows"
keyword_word Spawn = codes "spawn"
keyword_word All = codes "all"
keyword_word Copy = codes "copy"
keyword_word Drop = codes "drop"
keyword_word Get = codes "get"
keyword_word Again = codes "again"
keyword_word Done = codes "done"

abbrev pub keywords : List Keyword
keywords =
    Kind ∷ Var ∷ State ∷ End ∷ Root ∷ Label ∷ Set ∷ Add ∷ Sub ∷ Mul ∷ Div ∷ Rem ∷ If ∷ Goto ∷ Cell ∷ Rows ∷ Spawn ∷ All ∷ Copy ∷ Drop ∷ Get ∷ Again ∷ Done ∷ []

abbrev pub keyword_of : Word → Option Keyword
keyword_of = looked_up (written_by keyword_word keywords)

abbrev pub relation_of : Word → Option Relation
relation_of = looked_up (written_by relation_word (Less ∷ AtMost ∷ Equal ∷ Differs ∷ []))

abbrev pub priority_of : Word → Option Priority
priority_of = looked_up (written_by priority_word (High ∷ Regular ∷ Low ∷ []))

-- whether a line with this first word may stand at a place
abbrev pub may_open : Place → Keyword → Bool
may_open Outside Kind = true
may_open Outside Root = true
may_open Outside _ = false
may_open Head Var = true
may_open Head State = true
may_open Head End = true
may_open Head _ = false
may_open Code Kind = false
may_open Code Var = false
may_open Code Root = false
may_open Code _ = true
may_open _ Label = true
may_open _ State = true
may_open _ End = true
may_open _ _ = false

-- the keyword that opens a line at a place, if the word does so
abbrev pub allowed : Place → Option Keyword → Option Keyword
allowed place None = None
allowed place (Some keyword) = if may_open place keyword then Some keyword else None

abbrev pub opening : Place → Word → Option Keyword
opening place word = allowed place (keyword_of word)
