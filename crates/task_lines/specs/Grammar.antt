-- The language, apart from how it is read: which words spell which line, and which lines may follow one another.
use Rattle.std.specs.Prelude.{◌≡◌, ◌<◌, ◌≤◌, List, [], ◌∷◌, ◌++◌, length, codes}
use Rattle.task_lines.specs.declared.item.Item.{Item}
use Rattle.task_lines.specs.declared.item.What.{What}
use Rattle.task_lines.specs.declared.scope.Place.{Place}
use Rattle.task_lines.specs.declared.scope.Place.TheVariants.{Outside, Head, Code, Jumped, Ended}
use Rattle.task_lines.specs.declared.scope.Scope.{Scope}
use Rattle.task_lines.specs.declared.step.Step.{Step}
use Rattle.task_lines.specs.declared.step.Step.TheVariants.{If, Goto, Label, Spawn, All}
use Rattle.task_syntax.specs.Places.{AllDiffer}
use Rattle.task_text.specs.Text.{Word, Row}
use Rattle.task_lines.specs.Scope.{first_scope, after}
use Rattle.task_lines.specs.Table.{Choices, words_of, Entry, entry}
pub use Rattle.task_lines.specs.Spelling.{future_word, SpellsName, SpellsFuture, SpellsNumber, SpellsTerm, SpellsPassed, SpellsRootTerm, SpellsVariable, operation_word, relation_word, priority_word, EachSpells, SpellsFutures, behind_words, SpellsBehind, SpellsPriority, retry_words}
pub use Rattle.task_lines.specs.Table.{IsNew}

-- the first word of an entry, and words that spell its parts
abbrev pub SpellsEntry : List Word → Entry → Type 0
SpellsEntry words e = (c : Choices e.parts e.values) × (words ≡ e.word ∷ words_of e.parts e.values c [])

-- the words spell the line
abbrev pub Spells : List Word → What → Type 0
Spells words line = SpellsEntry words (entry line)

-- ---- where lines may stand

-- a state may begin or end here: no state has begun, or it has come to its end
abbrev pub MayBegin : Place → Type 0
MayBegin Head = Unit {0}
MayBegin Ended = Unit {0}
MayBegin _ = ⊥

abbrev pub IsInState : Place → Type 0
IsInState Code = Unit {0}
IsInState Jumped = Unit {0}
IsInState Ended = Unit {0}
IsInState _ = ⊥

-- where an instruction may stand: a label anywhere in a state, the others where they can be reached from above
abbrev pub MayFollow : Place → Step → Type 0
MayFollow place (Label name) = IsInState place
MayFollow place _ = place ≡ Code

-- what an instruction may name: a label is new, a jump goes to none that stands earlier, and lists are short
abbrev pub MayName : Scope → Step → Type 0
MayName s (Label name) = IsNew name s.labels
MayName s (If relation left right target) = IsNew target s.labels
MayName s (Goto target) = IsNew target s.labels
MayName s (Spawn to kind arguments behind priority retry) = length arguments ≤ 16
MayName s (All to members priority retry) = length members ≤ 8
MayName s _ = Unit {0}

-- the line may stand behind those that made the scope
abbrev pub MayStand : Scope → What → Type 0
MayStand s (What.Kind name arguments) =
    (s.place ≡ Outside) × (length s.kinds < 64) × IsNew name s.kinds × AllDiffer arguments × (length arguments ≤ 16)
MayStand s (What.Var variables) =
    (s.place ≡ Head) × AllDiffer (s.variables ++ variables) × (length (s.variables ++ variables) ≤ 255)
MayStand s (What.State name holds settled) =
    MayBegin s.place × (length s.states < 32) × IsNew name s.states × AllDiffer holds × AllDiffer settled
MayStand s (What.Step step) = MayFollow s.place step × (s.steps < 64) × MayName s step
MayStand s What.End = s.place ≡ Ended
MayStand s (What.Root name kind arguments behind priority) =
    (s.place ≡ Outside) × (length s.roots < 16) × IsNew name s.roots × (length arguments ≤ 16)

-- some words spell the line
abbrev pub CanBeSpelled : What → Type 0
CanBeSpelled what = (words : List Word) × Spells words what

-- the rows spell the items, each of which may stand behind those before it
abbrev pub RowsSpellFrom : Scope → List Row → List Item → Type 0
RowsSpellFrom s [] [] = s.place ≡ Outside
RowsSpellFrom s (row ∷ rows) (item ∷ items) =
    (item.line ≡ row.line) × Spells row.words item.what × MayStand s item.what × RowsSpellFrom (after s item.what) rows items
RowsSpellFrom s _ _ = ⊥

-- the header stands first
abbrev pub RowsSpell : List Row → List Item → Type 0
RowsSpell [] items = ⊥
RowsSpell (row ∷ rows) items = (row.words ≡ codes "ktask" ∷ codes "1" ∷ []) × RowsSpellFrom first_scope rows items
