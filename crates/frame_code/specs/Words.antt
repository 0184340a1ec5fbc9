-- What the words of a frame say. After the control word a task's frame has a word for each number variable, in order, and
-- then one for each future variable, in order; an aggregate's has a word for each member. Here `words` gives the word at a
-- place, counted from 0: of a list it is `slice_index`.
use Rattle.std.specs.Prelude.{ℕ, zero, suc, ◌+◌, cond, Option, Some, None, List, [], ◌∷◌, slice_get, slice_index}
use Rattle.std.specs.List.{filter_map}
use Rattle.task_syntax.specs.declared.program.Sort.{Sort}
use Rattle.task_syntax.specs.declared.program.Sort.TheVariants.{Number, Future}
use Rattle.task_syntax.specs.declared.program.Variable.{Variable}
use Rattle.task_syntax.specs.declared.program.Kind.{Kind}
use Rattle.task_syntax.specs.declared.program.Program.{Program}
use Rattle.task_meaning.specs.Frame.{FrameOf}
use Rattle.frame_code.specs.Control.{control_kind, control_state, control_at, is_aggregate}

-- what a task goes on from: a frame of its kind, or the members of an aggregate with the position of the next one
pub data BodyOf (A : Type 0) : Type 0 where
  OfKind : FrameOf A → BodyOf A
  OfMembers : List A → ℕ → BodyOf A

abbrev pub variable_list : Option Kind → List Variable
variable_list None = []
variable_list (Some kind) = kind.variables

-- the variables of a kind
abbrev pub variables_at : Program → ℕ → List Variable
variables_at p kind = variable_list (slice_get p.kinds kind)

abbrev pub one_if_number : Sort → ℕ
one_if_number Number = 1
one_if_number Future = 0

abbrev pub one_if_future : Sort → ℕ
one_if_future Number = 0
one_if_future Future = 1

-- how many of the variables are numbers
abbrev pub number_count : List Variable → ℕ
number_count [] = 0
number_count (v ∷ vs) = one_if_number v.sort + number_count vs

-- and how many are futures
abbrev pub future_count : List Variable → ℕ
future_count [] = 0
future_count (v ∷ vs) = one_if_future v.sort + future_count vs

abbrev pub number_if : Sort → ℕ → ℕ
number_if Number word = word
number_if Future word = 0

-- the number of each variable, where the word of the next number is at this place; a future has the number 0
abbrev pub numbers_from : (ℕ → ℕ) → ℕ → List Variable → List ℕ
numbers_from words place [] = []
numbers_from words place (v ∷ vs) = number_if v.sort (words place) ∷ numbers_from words (place + one_if_number v.sort) vs

-- a future word is 0 where no task is named, else 1 more than the unit of the task's record
abbrev pub unit_named : ℕ → Option ℕ
unit_named zero = None
unit_named (suc unit) = Some unit

abbrev pub future_if : Sort → ℕ → Option ℕ
future_if Number word = None
future_if Future word = unit_named word

-- the unit that each variable names, where the word of the next future is at this place; a number names none
abbrev pub futures_from : (ℕ → ℕ) → ℕ → List Variable → List (Option ℕ)
futures_from words place [] = []
futures_from words place (v ∷ vs) = future_if v.sort (words place) ∷ futures_from words (place + one_if_future v.sort) vs

-- the frame of a task with these variables, its futures named by units
abbrev pub kind_frame : List Variable → (ℕ → ℕ) → FrameOf ℕ
kind_frame vs words = record {
  kind = control_kind (words 0);
  state = control_state (words 0);
  at = control_at (words 0);
  numbers = numbers_from words 1 vs;
  futures = futures_from words (1 + number_count vs) vs;
}

abbrev pub frame_at : Program → (ℕ → ℕ) → FrameOf ℕ
frame_at p words = kind_frame (variables_at p (control_kind (words 0))) words

-- so many words from a place on
abbrev pub words_from : (ℕ → ℕ) → ℕ → ℕ → List ℕ
words_from words place zero = []
words_from words place (suc n) = words place ∷ words_from words (place + 1) n

-- the units of the members of an aggregate
abbrev pub members_at : (ℕ → ℕ) → List ℕ
members_at words = filter_map unit_named (words_from words 1 (control_state (words 0)))

-- the body that the words say, its futures and members named by units
abbrev pub body_at : Program → (ℕ → ℕ) → BodyOf ℕ
body_at p words = cond (is_aggregate (words 0)) (OfMembers (members_at words) (control_at (words 0))) (OfKind (frame_at p words))

abbrev pub body_of : Program → List ℕ → BodyOf ℕ
body_of p words = body_at p (slice_index words)
