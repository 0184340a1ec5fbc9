-- Which fault a text has first, said by its rows, their words and the table of the language.
use Rattle.std.specs.Prelude.{◌≡◌, ◌≢◌, ℕ, ◌+◌, ◌<◌, ◌≤◌, ◌⊎◌, Bool, false, true, Option, Some, None, unwrap_or, Result, Ok, Err, List, [], ◌∷◌, ◌++◌, length, take, slice_get, codes}
use Rattle.task_lines.specs.Grammar.{Spells, MayStand, RowsSpell}
use Rattle.task_lines.specs.Scope.{first_scope, after}
use Rattle.task_lines.specs.declared.item.Item.{Item}
use Rattle.task_lines.specs.declared.item.What.{What}
use Rattle.task_lines.specs.declared.scope.Place.{Place}
use Rattle.task_lines.specs.declared.scope.Place.TheVariants.{Outside, Head, Ended}
use Rattle.task_lines.specs.declared.scope.Scope.{Scope}
use Rattle.task_reader.specs.declared.error.ReadError.{ReadError}
use Rattle.task_syntax.specs.declared.program.Program.{Program}
use Rattle.task_text.specs.Fault.{fault_at, number_of}
use Rattle.task_text.specs.Scan.{is_text}
use Rattle.task_text.specs.Text.{Word, Row, lines_of, without_mark, rows_of}
use Rattle.task_text.specs.declared.fault.Cause.{Cause}
use Rattle.task_text.specs.declared.fault.Cause.TheVariants.{NotText, NoHeader, UnknownName, NoEnd}
use Rattle.task_text.specs.declared.fault.Fault.{Fault}
use Rattle.task_reader.specs.Uses.{Use, SpellsUse, line_uses}
use Rattle.task_reader.specs.Names.{is_given, known_at}
use Rattle.task_reader.specs.Asked.{Asked, cause_of, behind_words, header_asked, line_asked}

-- ---- in a row

-- the word at a place, counted from 0; behind the last word it is the empty word
abbrev pub word_at : List Word → ℕ → Word
word_at words place = unwrap_or (slice_get words place) []

-- why the word at a place may not stand behind those before it
abbrev pub cause_at : Asked → List Word → ℕ → Option Cause
cause_at asked words place = cause_of (behind_words asked (take place words)) (word_at words place)

-- the word at a place, or the one that is missing there, is the first that may not stand
pub record IsRefusedAt (asked : Asked) (words : List Word) (place : ℕ) (cause : Cause) : Type 0 where
  pub within : place ≤ length words
  pub here : cause_at asked words place ≡ Some cause
  pub none_before : (earlier : ℕ) → earlier < place → cause_at asked words earlier ≡ None

-- each word may stand, and none is missing
abbrev pub AreAsAsked : Asked → List Word → Type 0
AreAsAsked asked words = (place : ℕ) → place ≤ length words → cause_at asked words place ≡ None

-- what stands at a place is the first that fails the test
pub record FailsFirst {A : Type 0} (test : A → Bool) (xs : List A) (place : ℕ) : Type 0 where
  pub found : A
  pub stands : slice_get xs place ≡ Some found
  pub here : test found ≡ false
  pub none_before : (earlier : ℕ) (other : A) → earlier < place → slice_get xs earlier ≡ Some other → test other ≡ true

-- the word at a place is the first with a byte that may stand in comments alone
abbrev pub IsNoTextAt : List Word → ℕ → Type 0
IsNoTextAt words place = FailsFirst is_text words place

abbrev pub AreText : List Word → Type 0
AreText words = (place : ℕ) (word : Word) → slice_get words place ≡ Some word → is_text word ≡ true

-- the first fault of a row: bytes that are no text before all else, and then the first word that may not stand
abbrev pub RowFault : Asked → Row → Fault → Type 0
RowFault asked row fault =
    (fault.line ≡ row.line) × (place : ℕ) × (fault.word ≡ place + 1)
    × (((fault.cause ≡ NotText) × IsNoTextAt row.words place) ⊎ (AreText row.words × IsRefusedAt asked row.words place fault.cause))

-- a state ends behind a line that is neither `done` nor `again`, or a kind ends without a state: so it is at this place
-- where the line begins with this word
abbrev pub EndsTooSoon : Place → Word → Type 0
EndsTooSoon place word =
    ((word ≡ codes "state") × (place ≢ Head) × (place ≢ Ended)) ⊎ ((word ≡ codes "end") × (place ≢ Ended))

-- ---- in a text

-- the rows spell lines that may stand one behind the other, and the last of them leaves a scope
abbrev pub LeadTo : Scope → List Row → Scope → Type 0
LeadTo s [] end = s ≡ end
LeadTo s (row ∷ rows) end = (w : What) × Spells row.words w × MayStand s w × LeadTo (after s w) rows end

-- behind the header, rows that spell lines which may stand; then a row and others
pub record StandsBehind (rows : List Row) (scope : Scope) (row : Row) : Type 0 where
  pub header : Row
  pub before : List Row
  pub others : List Row
  pub parts : rows ≡ header ∷ (before ++ row ∷ others)
  pub header_is : header.words ≡ codes "ktask" ∷ codes "1" ∷ []
  pub lines : LeadTo first_scope before scope

-- the first fault of a text that is no name without a line that gives it
pub data LineFault (text : List ℕ) (fault : Fault) : Type 0 where
  -- there is no word in the text
  no_row : rows_of text ≡ [] → fault ≡ fault_at NoHeader 1 0 → LineFault text fault
  -- the first row is no header
  in_header : (header : Row) (rows : List Row) → rows_of text ≡ header ∷ rows → RowFault header_asked header fault → LineFault text fault
  -- a row is no line that may stand behind those before it
  in_row : (scope : Scope) (row : Row) → StandsBehind (rows_of text) scope row → RowFault (line_asked scope) row fault → LineFault text fault
  -- its words are a line, which ends a state or a kind too soon
  too_soon : (scope : Scope) (row : Row) → StandsBehind (rows_of text) scope row → fault ≡ fault_at NoEnd row.line 0 → AreText row.words
      → AreAsAsked (line_asked scope) row.words → EndsTooSoon scope.place (word_at row.words 0) → LineFault text fault
  -- the last row leaves a kind open
  left_open : (header : Row) (rows : List Row) (scope : Scope) → rows_of text ≡ header ∷ rows → header.words ≡ codes "ktask" ∷ codes "1" ∷ []
      → LeadTo first_scope rows scope → scope.place ≢ Outside → fault ≡ fault_at NoEnd (length (lines_of (without_mark text))) 0 → LineFault text fault

-- ---- names that no line gives

-- the scope behind lines
abbrev pub scope_behind : Scope → List Item → Scope
scope_behind s [] = s
scope_behind s (item ∷ items) = scope_behind (after s item.what) items

-- at a place of the line, what it uses there
abbrev pub UsesAt : Item → ℕ → Use → Type 0
UsesAt item place used = slice_get (line_uses item.what) place ≡ Some used

-- whether the name that a line uses is given
abbrev pub is_given_among : List Item → List Item → List Item → Use → Bool
is_given_among items before ahead used = is_given (known_at items (scope_behind first_scope before) ahead) used

-- the rows spell these lines; the word at a place of one of them spells a name that is not given, while each name is given
-- that a line before it uses, or this line at an earlier place
pub record IsFirstUnknown (text : List ℕ) (fault : Fault) : Type 0 where
  pub cause : fault.cause ≡ UnknownName
  pub items : List Item
  pub spelled : RowsSpell (rows_of text) items
  pub before : List Item
  pub item : Item
  pub ahead : List Item
  pub among : items ≡ before ++ item ∷ ahead
  pub row : Row
  pub row_is : slice_get (rows_of text) (length before + 1) ≡ Some row
  pub line : fault.line ≡ row.line
  pub place : ℕ
  pub word_number : fault.word ≡ place + 1
  pub word : Word
  pub word_is : slice_get row.words place ≡ Some word
  pub used : Use
  pub uses : UsesAt item place used
  pub spells : SpellsUse word used
  pub unknown : is_given_among items before ahead used ≡ false
  pub none_earlier : (earlier : ℕ) (other : Use) → earlier < place → UsesAt item earlier other → is_given_among items before ahead other ≡ true
  pub none_before : (first : List Item) (line : Item) (rest : List Item) → items ≡ first ++ line ∷ rest → length first < length before
      → (place : ℕ) (other : Use) → UsesAt line place other → is_given_among items first rest other ≡ true

-- ---- the first fault

-- an unknown name is at fault only where nothing else is
abbrev pub IsFirstFault : List ℕ → Fault → Type 0
IsFirstFault text fault = LineFault text fault ⊎ IsFirstUnknown text fault

-- a fault that is told is the first
abbrev pub TellsFirst : List ℕ → Result Program ReadError → Type 0
TellsFirst text (Ok p) = Unit {0}
TellsFirst text (Err (ReadError.Fault cause line word)) =
    (fault : Fault) × IsFirstFault text fault × (cause ≡ number_of fault.cause) × (line ≡ fault.line) × (word ≡ fault.word)
TellsFirst text (Err ReadError.Memory) = Unit {0}

-- the fault is told, unless memory fails
abbrev pub Tells : Fault → Result Program ReadError → Type 0
Tells fault (Ok p) = ⊥
Tells fault (Err (ReadError.Fault cause line word)) = (cause ≡ number_of fault.cause) × (line ≡ fault.line) × (word ≡ fault.word)
Tells fault (Err ReadError.Memory) = Unit {0}
