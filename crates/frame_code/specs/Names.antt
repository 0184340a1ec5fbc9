-- Which tasks a frame names, and a frame under other names of its tasks.
use Rattle.std.specs.Prelude.{◌≡◌, ℕ, ◌<◌, Option, Some, List, ◌++◌, length}
use Rattle.std.specs.List.{filter_map}
use Rattle.std.specs.Option.{option_to_list}
use Rattle.task_syntax.specs.declared.program.Program.{Program}
use Rattle.task_meaning.specs.Meant.{future_at}
use Rattle.task_meaning.specs.Frame.{FrameOf, frame_with, set_future}
use Rattle.frame_code.specs.Words.{BodyOf, OfKind, OfMembers, body_at}

-- the options that have something
abbrev pub present : {A : Type 0} → List (Option A) → List A
present options = filter_map (λ option. option) options

-- the tasks that a body names: by its futures, or as members
abbrev pub names_of : {A : Type 0} → BodyOf A → List A
names_of (OfKind q) = present q.futures
names_of (OfMembers members next) = members

-- the units that the words of a frame name
abbrev pub named : Program → (ℕ → ℕ) → List ℕ
named p words = names_of (body_at p words)

-- a body under other names of its tasks; a member without a name is left out
abbrev pub body_with : {A B : Type 0} → (A → Option B) → BodyOf A → BodyOf B
body_with name (OfKind q) = OfKind (frame_with name q)
body_with name (OfMembers members next) = OfMembers (filter_map name members) next

-- the body that words say, with the task of each unit in its place
abbrev pub decode : Program → (ℕ → ℕ) → (ℕ → ℕ) → BodyOf ℕ
decode p words tasks = body_with (λ unit. Some (tasks unit)) (body_at p words)

-- one future put into a variable takes the place of the old one among the names, and the others stay
abbrev pub OneNameChanges : Type 0
OneNameChanges = (q : FrameOf ℕ) (x : ℕ) (future : Option ℕ) → x < length q.futures → (before : List ℕ) × (after : List ℕ)
    × (names_of (OfKind q) ≡ before ++ option_to_list (future_at q.futures x) ++ after)
    × (names_of (OfKind (set_future q x future)) ≡ before ++ option_to_list future ++ after)
