-- Which words spell the parts of a line, apart from how they are read.
use Rattle.std.specs.Prelude.{◌≡◌, ℕ, ◌⊎◌, Bool, true, false, List, [], ◌∷◌, Option, Some, None, IsTrue, IfSome, codes}
use Rattle.std.specs.Str.Parse.{digits_value}
use Rattle.task_lines.specs.declared.item.RootTerm.{RootTerm}
use Rattle.task_lines.specs.declared.step.Passed.{Passed}
use Rattle.task_lines.specs.declared.step.Term.{Term}
use Rattle.task_syntax.specs.Names.{IsName}
use Rattle.task_syntax.specs.declared.instr.MathOp.{MathOp}
use Rattle.task_syntax.specs.declared.instr.Relation.{Relation}
use Rattle.task_syntax.specs.declared.instr.Relation.TheVariants.{Less, AtMost, Equal, Differs}
use Rattle.task_syntax.specs.declared.program.Variable.{Variable}
use Rattle.task_syntax.specs.declared.value.Priority.{Priority}
use Rattle.task_syntax.specs.declared.value.Priority.TheVariants.{High, Regular, Low}
use Rattle.task_text.specs.Scan.{is_number}
use Rattle.task_text.specs.Text.{Word}
use Rattle.task_syntax.specs.declared.program.Sort.TheVariants as sort

-- ---- single words

-- a future is written with `@` in front of its name
abbrev pub future_word : List ℕ → Word
future_word name = 64 ∷ name

abbrev pub SpellsName : Word → List ℕ → Type 0
SpellsName word name = (word ≡ name) × IsName name

abbrev pub SpellsFuture : Word → List ℕ → Type 0
SpellsFuture word name = (word ≡ future_word name) × IsName name

abbrev pub SpellsNumber : Word → ℕ → Type 0
SpellsNumber word n = IsTrue (is_number word) × (digits_value 10 word ≡ n)

abbrev pub SpellsTerm : Word → Term → Type 0
SpellsTerm word (Term.Literal n) = SpellsNumber word n
SpellsTerm word (Term.Variable name) = SpellsName word name

abbrev pub SpellsPassed : Word → Passed → Type 0
SpellsPassed word (Passed.Number t) = SpellsTerm word t
SpellsPassed word (Passed.Future name) = SpellsFuture word name

abbrev pub SpellsRootTerm : Word → RootTerm → Type 0
SpellsRootTerm word (RootTerm.Number n) = SpellsNumber word n
SpellsRootTerm word (RootTerm.Root name) = SpellsFuture word name

abbrev pub SpellsVariable : Word → Variable → Type 0
SpellsVariable word variable = elim variable.sort [ sort.Number ↦ SpellsName word variable.name | sort.Future ↦ SpellsFuture word variable.name ]

abbrev pub operation_word : MathOp → Word
operation_word MathOp.Add = codes "add"
operation_word MathOp.Sub = codes "sub"
operation_word MathOp.Mul = codes "mul"
operation_word MathOp.Div = codes "div"
operation_word MathOp.Rem = codes "rem"

abbrev pub relation_word : Relation → Word
relation_word Less = codes "<"
relation_word AtMost = codes "<="
relation_word Equal = codes "=="
relation_word Differs = codes "!="

abbrev pub priority_word : Priority → Word
priority_word High = codes "high"
priority_word Regular = codes "regular"
priority_word Low = codes "low"

-- ---- several words

-- a word for each item
abbrev pub EachSpells : {A : Type 0} → (Word → A → Type 0) → List Word → List A → Type 0
EachSpells R [] [] = Unit {0}
EachSpells R (word ∷ words) (a ∷ more) = R word a × EachSpells R words more
EachSpells R _ _ = ⊥

-- nothing where the list is empty, else the fixed word and the futures
abbrev pub SpellsFutures : Word → List Word → List (List ℕ) → Type 0
SpellsFutures opening words [] = words ≡ []
SpellsFutures opening words (name ∷ names) = (ws : List Word) × (words ≡ opening ∷ ws) × EachSpells SpellsFuture ws (name ∷ names)

abbrev pub behind_words : Option (List ℕ) → List Word
behind_words None = []
behind_words (Some name) = codes "behind" ∷ future_word name ∷ []

abbrev pub SpellsBehind : List Word → Option (List ℕ) → Type 0
SpellsBehind words behind = (words ≡ behind_words behind) × IfSome behind IsName

-- the word of the priority, which may be missing where it is regular
abbrev pub SpellsPriority : List Word → Priority → Type 0
SpellsPriority words priority = (words ≡ priority_word priority ∷ []) ⊎ ((words ≡ []) × (priority ≡ Regular))

abbrev pub retry_words : Bool → List Word
retry_words true = codes "retry" ∷ []
retry_words false = []
