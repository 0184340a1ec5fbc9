-- What the calls promise of the units that a frame names.
use Rattle.std.specs.Prelude.{◌≡◌, ℕ, ◌+◌, ◌<◌, cond, nat_eq, Some, List, [], ◌∷◌, length, map, slice_get, slice_index}
use Rattle.std.specs.Option.{option_to_list}
use Rattle.task_syntax.specs.Places.{Each}
use Rattle.task_syntax.specs.declared.program.Sort.TheVariants.{Future}
use Rattle.task_syntax.specs.declared.program.Program.{Program}
use Rattle.task_meaning.specs.Frame.{kept, enter}
use Rattle.frame_code.specs.Words.{BodyOf, OfKind, OfMembers, unit_named, body_of}
use Rattle.frame_code.specs.Frames.{IsFrame}
use Rattle.frame_code.specs.Names.{present, names_of}
use Rattle.frame_code.specs.Setting.{HasSort, unit_of, unit_in}

-- the words are an aggregate's frame that has a member at this position
abbrev pub HasMember : List ℕ → ℕ → Type 0
HasMember words position = (p : Program) × (members : List ℕ) × (next : ℕ) × IsFrame p words
    × (body_of p words ≡ OfMembers members next) × (position < length members)

-- the member at this position has this unit
abbrev pub IsMember : List ℕ → ℕ → ℕ → Type 0
IsMember words position unit = (p : Program) (members : List ℕ) (next : ℕ) → body_of p words ≡ OfMembers members next
    → slice_get members position ≡ Some unit

-- the units that these variables name, in order
abbrev pub units_of : BodyOf ℕ → List ℕ → List ℕ
units_of body variables = present (map (unit_of body) variables)

-- each of these is a future variable of the frame
abbrev pub AreFutures : Program → List ℕ → List ℕ → Type 0
AreFutures p words variables = Each variables (λ x. HasSort p Future x words)

-- the variable of the frame names a unit
abbrev pub NamesUnit : Program → List ℕ → ℕ → Type 0
NamesUnit p words x = (unit : ℕ) × (unit_in p words x ≡ Some unit)

-- the first line of the state, with the futures that it holds; of an aggregate the next member
abbrev pub entered_held : Program → ℕ → BodyOf ℕ → BodyOf ℕ
entered_held p target (OfKind q) = OfKind (enter p q target)
entered_held p target (OfMembers members next) = OfMembers members (next + 1)

-- the same line, with these futures alone
abbrev pub kept_in : List ℕ → BodyOf ℕ → BodyOf ℕ
kept_in held (OfKind q) = OfKind (record q { futures = kept held q.futures })
kept_in held (OfMembers members next) = OfMembers members next

-- how often a unit stands in a list
abbrev pub times : ℕ → List ℕ → ℕ
times unit [] = 0
times unit (x ∷ xs) = cond (nat_eq x unit) 1 0 + times unit xs

-- each unit stands as often in the two lists together as in the third
abbrev pub AreParts : List ℕ → List ℕ → List ℕ → Type 0
AreParts given_up left whole = (unit : ℕ) → times unit given_up + times unit left ≡ times unit whole

-- each of these units is among the others
abbrev pub AreAmong : List ℕ → List ℕ → Type 0
AreAmong units names = Each units (λ unit. (at : ℕ) × (slice_get names at ≡ Some unit))

-- the same of the words of a frame
abbrev pub named_in : Program → List ℕ → List ℕ
named_in p words = names_of (body_of p words)

abbrev pub IsEnteredHeld : Program → ℕ → List ℕ → List ℕ → Type 0
IsEnteredHeld p target old new = body_of p new ≡ entered_held p target (body_of p old)

abbrev pub IsKeptIn : Program → List ℕ → List ℕ → List ℕ → Type 0
IsKeptIn p held old new = body_of p new ≡ kept_in held (body_of p old)

-- each unit that was named is still named or was given up, as often as it was
abbrev pub GivesUp : Program → List ℕ → List ℕ → List ℕ → Type 0
GivesUp p old given_up new = AreParts given_up (named_in p new) (named_in p old)

-- the unit that the word at a place names, if any
abbrev pub unit_at : List ℕ → ℕ → List ℕ
unit_at words place = option_to_list (unit_named (slice_index words place))
