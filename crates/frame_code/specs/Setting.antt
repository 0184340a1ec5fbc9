-- A frame with a variable set, and the first frame of a task without arguments.
use Rattle.std.specs.Prelude.{◌≡◌, ℕ, Option, Some, None, List, [], slice_get, slice_set}
use Rattle.std.specs.Option.{option_map}
use Rattle.task_syntax.specs.declared.program.Sort.{Sort}
use Rattle.task_syntax.specs.declared.program.Variable.{Variable}
use Rattle.task_syntax.specs.declared.program.Program.{Program}
use Rattle.task_meaning.specs.Meant.{future_at}
use Rattle.task_meaning.specs.Frame.{CallOf}
use Rattle.frame_code.specs.Words.{BodyOf, OfKind, OfMembers, variables_at, body_of}

-- the frame has a variable of this sort at the position
abbrev pub BodyHasSort : Program → Sort → ℕ → BodyOf ℕ → Type 0
BodyHasSort p s x (OfKind q) = option_map (λ (v : Variable). v.sort) (slice_get (variables_at p q.kind) x) ≡ Some s
BodyHasSort p s x (OfMembers members next) = ⊥

abbrev pub with_number : ℕ → ℕ → BodyOf ℕ → BodyOf ℕ
with_number x n (OfKind q) = OfKind (record q { numbers = slice_set q.numbers x n })
with_number x n (OfMembers members next) = OfMembers members next

abbrev pub with_future : ℕ → Option ℕ → BodyOf ℕ → BodyOf ℕ
with_future x future (OfKind q) = OfKind (record q { futures = slice_set q.futures x future })
with_future x future (OfMembers members next) = OfMembers members next

-- the unit that a variable of the frame names
abbrev pub unit_of : BodyOf ℕ → ℕ → Option ℕ
unit_of (OfKind q) x = future_at q.futures x
unit_of (OfMembers members next) x = None

-- a call that passes nothing
abbrev pub bare_call : ℕ → CallOf ℕ
bare_call kind = record { kind = kind; numbers = []; futures = [] }

-- the same of the words of a frame
abbrev pub HasSort : Program → Sort → ℕ → List ℕ → Type 0
HasSort p s x words = BodyHasSort p s x (body_of p words)

abbrev pub unit_in : Program → List ℕ → ℕ → Option ℕ
unit_in p words x = unit_of (body_of p words) x

abbrev pub IsSetNumber : Program → ℕ → ℕ → List ℕ → List ℕ → Type 0
IsSetNumber p x n old new = body_of p new ≡ with_number x n (body_of p old)

abbrev pub IsSetFuture : Program → ℕ → Option ℕ → List ℕ → List ℕ → Type 0
IsSetFuture p x future old new = body_of p new ≡ with_future x future (body_of p old)
