-- The language as a table: what stands behind the first word of each line. How a line is read, which words spell it, and
-- what it may name are all said of the parts of this table.
use Rattle.std.specs.Prelude.{◌≢◌, ℕ, ◌≤◌, Bool, List, [], ◌∷◌, ◌++◌, length, Option, Some, None, codes}
use Rattle.task_lines.specs.declared.item.RootTerm.{RootTerm}
use Rattle.task_lines.specs.declared.item.What.{What}
use Rattle.task_lines.specs.declared.keyword.Keyword.{Keyword}
use Rattle.task_lines.specs.declared.scope.Scope.{Scope}
use Rattle.task_lines.specs.declared.step.Passed.{Passed}
use Rattle.task_lines.specs.declared.step.Step.TheVariants.{Set, Math, If, Goto, Label, Cell, Rows, Spawn, All, Copy, Drop, Get, Again, Done}
use Rattle.task_lines.specs.declared.step.Term.{Term}
use Rattle.task_syntax.specs.Names.{IsName}
use Rattle.task_syntax.specs.Places.{AllDiffer}
use Rattle.task_syntax.specs.declared.instr.MathOp.{MathOp}
use Rattle.task_syntax.specs.declared.instr.Relation.{Relation}
use Rattle.task_syntax.specs.declared.program.Variable.{Variable}
use Rattle.task_syntax.specs.declared.value.Priority.{Priority}
use Rattle.task_text.specs.Scan.{is_present, is_future, Parser, ◌>>=◌, ◌>>◌, pure, peek, take_word, refuse, room, fixed, read_name, read_new_name, read_future, each, one_or_more}
use Rattle.task_text.specs.Text.{Word}
use Rattle.task_text.specs.declared.fault.Cause.TheVariants.{UnknownWord, TwiceNamed, BackLabel}
use Rattle.task_lines.specs.Keyword.{keyword_word, opening}
use Rattle.task_lines.specs.Line.{read_term, read_variable, read_behind, read_priority, read_last_priority, read_retry, read_relation, is_argument, read_argument, read_member, is_root_argument, read_root_argument, read_holds, read_settled}
use Rattle.task_lines.specs.Spelling.{future_word, SpellsTerm, SpellsPassed, SpellsRootTerm, SpellsFuture, SpellsVariable, operation_word, relation_word, EachSpells, SpellsFutures, SpellsBehind, SpellsPriority, retry_words}

-- ---- the parts of lines

-- whose names a new name must differ from
pub data Named : Type 0 where
  OfKinds : Named
  OfRoots : Named
  OfStates : Named
  OfLabels : Named

-- what may stand in a line
pub data Part : Type 0 where
  GotoWord : Part
  AName : Part
  -- a name that is not given yet
  ANewName : Named → Part
  -- the name of a label that does not stand earlier
  ATarget : Part
  ATerm : Part
  ARelation : Part
  AFuture : Part
  KindVariables : Part
  MoreVariables : Part
  Arguments : Part
  RootArguments : Part
  Members : Part
  HeldFutures : Part
  SettledFutures : Part
  Predecessor : Part
  APriority : Part
  -- a priority, behind which nothing stands
  LastPriority : Part
  ARetry : Part

-- what a part stands for
abbrev pub Of : Part → Type 0
Of GotoWord = Unit {0}
Of AName = List ℕ
Of (ANewName named) = List ℕ
Of ATarget = List ℕ
Of ATerm = Term
Of ARelation = Relation
Of AFuture = List ℕ
Of KindVariables = List Variable
Of MoreVariables = List Variable
Of Arguments = List Passed
Of RootArguments = List RootTerm
Of Members = List (List ℕ)
Of HeldFutures = List (List ℕ)
Of SettledFutures = List (List ℕ)
Of Predecessor = Option (List ℕ)
Of APriority = Priority
Of LastPriority = Priority
Of ARetry = Bool

abbrev pub Values : List Part → Type 0
Values [] = Unit {0}
Values (part ∷ parts) = Of part × Values parts

-- ---- how parts are read

abbrev pub names_of : Scope → Named → List (List ℕ)
names_of s OfKinds = s.kinds
names_of s OfRoots = s.roots
names_of s OfStates = s.states
names_of s OfLabels = s.labels

abbrev pub read_part : Scope → (part : Part) → Parser (Of part)
read_part s GotoWord = fixed (codes "goto")
read_part s AName = read_name
read_part s (ANewName named) = read_new_name TwiceNamed (names_of s named)
read_part s ATarget = read_new_name BackLabel s.labels
read_part s ATerm = read_term
read_part s ARelation = read_relation
read_part s AFuture = read_future
read_part s KindVariables = each is_present (read_variable 16) []
read_part s MoreVariables = one_or_more is_present (λ found. read_variable 255 (s.variables ++ found))
read_part s Arguments = each is_argument read_argument []
read_part s RootArguments = each is_root_argument read_root_argument []
read_part s Members = one_or_more is_future read_member
read_part s HeldFutures = read_holds
read_part s SettledFutures = read_settled
read_part s Predecessor = read_behind
read_part s APriority = read_priority
read_part s LastPriority = read_last_priority
read_part s ARetry = read_retry

-- the parts from left to right, and what is made of them
abbrev pub read_parts : {A : Type 0} → Scope → (parts : List Part) → (Values parts → A) → Parser A
read_parts s [] make = pure (make tt)
read_parts s (part ∷ parts) make = read_part s part >>= (λ v. read_parts s parts (λ vs. make (v, vs)))

-- ---- which words spell parts

-- how a part may be spelled; where there is a choice, by which word or words
abbrev pub Choice : (part : Part) → Of part → Type 0
Choice GotoWord v = Unit {0}
Choice AName name = IsName name
Choice (ANewName named) name = IsName name
Choice ATarget name = IsName name
Choice ATerm term = (word : Word) × SpellsTerm word term
Choice ARelation relation = Unit {0}
Choice AFuture name = IsName name
Choice KindVariables variables = (words : List Word) × EachSpells SpellsVariable words variables
Choice MoreVariables variables = (words : List Word) × (variables ≢ []) × EachSpells SpellsVariable words variables
Choice Arguments arguments = (words : List Word) × EachSpells SpellsPassed words arguments
Choice RootArguments arguments = (words : List Word) × EachSpells SpellsRootTerm words arguments
Choice Members members = (words : List Word) × (members ≢ []) × EachSpells SpellsFuture words members
Choice HeldFutures names = (words : List Word) × SpellsFutures (codes "holds") words names
Choice SettledFutures names = (words : List Word) × SpellsFutures (codes "settled") words names
Choice Predecessor behind = (words : List Word) × SpellsBehind words behind
Choice APriority priority = (words : List Word) × SpellsPriority words priority
Choice LastPriority priority = (words : List Word) × SpellsPriority words priority
Choice ARetry retry = Unit {0}

abbrev pub Choices : (parts : List Part) → Values parts → Type 0
Choices [] vs = Unit {0}
Choices (part ∷ parts) vs = Choice part vs.0 × Choices parts vs.1

abbrev pub part_words : (part : Part) (v : Of part) → Choice part v → List Word
part_words GotoWord v c = codes "goto" ∷ []
part_words AName name c = name ∷ []
part_words (ANewName named) name c = name ∷ []
part_words ATarget name c = name ∷ []
part_words ATerm term c = c.0 ∷ []
part_words ARelation relation c = relation_word relation ∷ []
part_words AFuture name c = future_word name ∷ []
part_words KindVariables variables c = c.0
part_words MoreVariables variables c = c.0
part_words Arguments arguments c = c.0
part_words RootArguments arguments c = c.0
part_words Members members c = c.0
part_words HeldFutures names c = c.0
part_words SettledFutures names c = c.0
part_words Predecessor behind c = c.0
part_words APriority priority c = c.0
part_words LastPriority priority c = c.0
part_words ARetry retry c = retry_words retry

-- the words of the parts, and then others
abbrev pub words_of : (parts : List Part) (vs : Values parts) → Choices parts vs → List Word → List Word
words_of [] vs c rest = rest
words_of (part ∷ parts) vs c rest = part_words part vs.0 c.0 ++ words_of parts vs.1 c.1 rest

-- ---- what parts may name

-- the name is none of those given
abbrev pub IsNew : List ℕ → List (List ℕ) → Type 0
IsNew name [] = Unit {0}
IsNew name (taken ∷ more) = (name ≢ taken) × IsNew name more

-- names are new where they must be, and lists are short
abbrev pub Keeps : Scope → (part : Part) → Of part → Type 0
Keeps s (ANewName named) name = IsNew name (names_of s named)
Keeps s ATarget name = IsNew name s.labels
Keeps s KindVariables variables = AllDiffer variables × (length variables ≤ 16)
Keeps s MoreVariables variables = AllDiffer (s.variables ++ variables) × (length (s.variables ++ variables) ≤ 255)
Keeps s Arguments arguments = length arguments ≤ 16
Keeps s RootArguments arguments = length arguments ≤ 16
Keeps s Members members = length members ≤ 8
Keeps s HeldFutures names = AllDiffer names
Keeps s SettledFutures names = AllDiffer names
Keeps s part v = Unit {0}

abbrev pub KeepAll : Scope → (parts : List Part) → Values parts → Type 0
KeepAll s [] vs = Unit {0}
KeepAll s (part ∷ parts) vs = Keeps s part vs.0 × KeepAll s parts vs.1

-- ---- the table

-- what stands behind the first word
abbrev pub parts_of : Keyword → List Part
parts_of Keyword.Kind = ANewName OfKinds ∷ KindVariables ∷ []
parts_of Keyword.Var = MoreVariables ∷ []
parts_of Keyword.State = ANewName OfStates ∷ HeldFutures ∷ SettledFutures ∷ []
parts_of Keyword.End = []
parts_of Keyword.Root = ANewName OfRoots ∷ AName ∷ RootArguments ∷ Predecessor ∷ LastPriority ∷ []
parts_of Keyword.Label = ANewName OfLabels ∷ []
parts_of Keyword.Set = AName ∷ ATerm ∷ []
parts_of Keyword.Add = AName ∷ ATerm ∷ ATerm ∷ []
parts_of Keyword.Sub = AName ∷ ATerm ∷ ATerm ∷ []
parts_of Keyword.Mul = AName ∷ ATerm ∷ ATerm ∷ []
parts_of Keyword.Div = AName ∷ ATerm ∷ ATerm ∷ []
parts_of Keyword.Rem = AName ∷ ATerm ∷ ATerm ∷ []
parts_of Keyword.If = ATerm ∷ ARelation ∷ ATerm ∷ GotoWord ∷ ATarget ∷ []
parts_of Keyword.Goto = ATarget ∷ []
parts_of Keyword.Cell = AName ∷ AName ∷ ATerm ∷ []
parts_of Keyword.Rows = AName ∷ AName ∷ []
parts_of Keyword.Spawn = AFuture ∷ AName ∷ Arguments ∷ Predecessor ∷ APriority ∷ ARetry ∷ []
parts_of Keyword.All = AFuture ∷ Members ∷ APriority ∷ ARetry ∷ []
parts_of Keyword.Copy = AFuture ∷ AFuture ∷ []
parts_of Keyword.Drop = AFuture ∷ []
parts_of Keyword.Get = AName ∷ AFuture ∷ []
parts_of Keyword.Again = AName ∷ Predecessor ∷ LastPriority ∷ []
parts_of Keyword.Done = ATerm ∷ []

-- the line that the parts make
abbrev pub line_of_parts : (keyword : Keyword) → Values (parts_of keyword) → What
line_of_parts Keyword.Kind v = What.Kind v.0 v.1.0
line_of_parts Keyword.Var v = What.Var v.0
line_of_parts Keyword.State v = What.State v.0 v.1.0 v.1.1.0
line_of_parts Keyword.End v = What.End
line_of_parts Keyword.Root v = What.Root v.0 v.1.0 v.1.1.0 v.1.1.1.0 v.1.1.1.1.0
line_of_parts Keyword.Label v = What.Step (Label v.0)
line_of_parts Keyword.Set v = What.Step (Set v.0 v.1.0)
line_of_parts Keyword.Add v = What.Step (Math MathOp.Add v.0 v.1.0 v.1.1.0)
line_of_parts Keyword.Sub v = What.Step (Math MathOp.Sub v.0 v.1.0 v.1.1.0)
line_of_parts Keyword.Mul v = What.Step (Math MathOp.Mul v.0 v.1.0 v.1.1.0)
line_of_parts Keyword.Div v = What.Step (Math MathOp.Div v.0 v.1.0 v.1.1.0)
line_of_parts Keyword.Rem v = What.Step (Math MathOp.Rem v.0 v.1.0 v.1.1.0)
line_of_parts Keyword.If v = What.Step (If v.1.0 v.0 v.1.1.0 v.1.1.1.1.0)
line_of_parts Keyword.Goto v = What.Step (Goto v.0)
line_of_parts Keyword.Cell v = What.Step (Cell v.0 v.1.0 v.1.1.0)
line_of_parts Keyword.Rows v = What.Step (Rows v.0 v.1.0)
line_of_parts Keyword.Spawn v = What.Step (Spawn v.0 v.1.0 v.1.1.0 v.1.1.1.0 v.1.1.1.1.0 v.1.1.1.1.1.0)
line_of_parts Keyword.All v = What.Step (All v.0 v.1.0 v.1.1.0 v.1.1.1.0)
line_of_parts Keyword.Copy v = What.Step (Copy v.0 v.1.0)
line_of_parts Keyword.Drop v = What.Step (Drop v.0)
line_of_parts Keyword.Get v = What.Step (Get v.0 v.1.0)
line_of_parts Keyword.Again v = What.Step (Again v.0 v.1.0 v.1.1.0)
line_of_parts Keyword.Done v = What.Step (Done v.0)

-- a line as its first word and its parts
pub record Entry : Type 0 where
  pub word : Word
  pub parts : List Part
  pub values : Values parts

abbrev pub entry_by : (keyword : Keyword) → Values (parts_of keyword) → Entry
entry_by keyword values = record { word = keyword_word keyword; parts = parts_of keyword; values = values }

abbrev pub entry : What → Entry
entry (What.Kind name arguments) = entry_by Keyword.Kind (name, (arguments, tt))
entry (What.Var variables) = entry_by Keyword.Var (variables, tt)
entry (What.State name holds settled) = entry_by Keyword.State (name, (holds, (settled, tt)))
entry (What.Step (Label name)) = entry_by Keyword.Label (name, tt)
entry (What.Step (Set to value)) = entry_by Keyword.Set (to, (value, tt))
entry (What.Step (Math operation to left right)) =
    record { word = operation_word operation; parts = parts_of Keyword.Add; values = (to, (left, (right, tt))) }
entry (What.Step (If relation left right target)) = entry_by Keyword.If (left, (relation, (right, (tt, (target, tt)))))
entry (What.Step (Goto target)) = entry_by Keyword.Goto (target, tt)
entry (What.Step (Cell to column row)) = entry_by Keyword.Cell (to, (column, (row, tt)))
entry (What.Step (Rows to column)) = entry_by Keyword.Rows (to, (column, tt))
entry (What.Step (Spawn to kind arguments behind priority retry)) =
    entry_by Keyword.Spawn (to, (kind, (arguments, (behind, (priority, (retry, tt))))))
entry (What.Step (All to members priority retry)) = entry_by Keyword.All (to, (members, (priority, (retry, tt))))
entry (What.Step (Copy to source)) = entry_by Keyword.Copy (to, (source, tt))
entry (What.Step (Drop future)) = entry_by Keyword.Drop (future, tt)
entry (What.Step (Get to future)) = entry_by Keyword.Get (to, (future, tt))
entry (What.Step (Again target behind priority)) = entry_by Keyword.Again (target, (behind, (priority, tt)))
entry (What.Step (Done value)) = entry_by Keyword.Done (value, tt)
entry What.End = entry_by Keyword.End tt
entry (What.Root name kind arguments behind priority) =
    entry_by Keyword.Root (name, (kind, (arguments, (behind, (priority, tt)))))

-- ---- how lines are read

-- how many lines of this kind there are where one stands, and how many there may be
abbrev pub counted : Scope → Keyword → Option (ℕ × ℕ)
counted s Keyword.Kind = Some (length s.kinds, 64)
counted s Keyword.Var = None
counted s Keyword.State = Some (length s.states, 32)
counted s Keyword.End = None
counted s Keyword.Root = Some (length s.roots, 16)
counted s _ = Some (s.steps, 64)

-- the first word of a line, of which there may be no more than the limit, and what follows
abbrev pub begun : {A : Type 0} → Option (ℕ × ℕ) → Parser A → Parser A
begun None read = take_word >> read
begun (Some count) read = room count.0 count.1 >> (take_word >> read)

-- the line that a first word opens
unfoldable pub keyword_line : Scope → Keyword → Parser What
keyword_line s keyword = begun (counted s keyword) (read_parts s (parts_of keyword) (line_of_parts keyword))

-- the word of an operation, a number variable and two operands
unfoldable pub operation_line : Scope → MathOp → Parser What
operation_line s operation =
    begun (Some (s.steps, 64)) (read_parts s (AName ∷ ATerm ∷ ATerm ∷ []) (λ v. What.Step (Math operation v.0 v.1.0 v.1.1.0)))

abbrev pub operation_keyword : MathOp → Keyword
operation_keyword MathOp.Add = Keyword.Add
operation_keyword MathOp.Sub = Keyword.Sub
operation_keyword MathOp.Mul = Keyword.Mul
operation_keyword MathOp.Div = Keyword.Div
operation_keyword MathOp.Rem = Keyword.Rem

abbrev pub line_by : Scope → Option Keyword → Parser What
line_by s None = refuse UnknownWord
line_by s (Some keyword) = keyword_line s keyword

unfoldable pub read_line : Scope → Parser What
read_line s = do
  word ← peek
  line_by s (opening s.place word)
