-- The words that say a body. Read together with `body_of` they tell where each variable stands.
use Rattle.std.specs.Prelude.{◌≡◌, ℕ, suc, ◌+◌, Option, List, [], ◌∷◌, ◌++◌, length, map, take}
use Rattle.task_syntax.specs.Form.{IsWellFormed}
use Rattle.task_syntax.specs.declared.program.Sort.{Sort}
use Rattle.task_syntax.specs.declared.program.Sort.TheVariants.{Number, Future}
use Rattle.task_syntax.specs.declared.program.Variable.{Variable}
use Rattle.task_syntax.specs.declared.program.Program.{Program}
use Rattle.task_meaning.specs.Frame.{FrameOf}
use Rattle.kt_words.specs.HeadWords.{link_code}
use Rattle.frame_code.specs.Control.{aggregate_code, control_word}
use Rattle.frame_code.specs.Words.{BodyOf, OfKind, OfMembers, number_count, future_count, variables_at, body_of}
use Rattle.frame_code.specs.Frames.{IsFrame}

-- where the word of a number variable stands: after those of the numbers before it
abbrev pub number_place : List Variable → ℕ → ℕ
number_place vs x = 1 + number_count (take x vs)

-- where the word of a future variable stands: after all numbers, and after those of the futures before it
abbrev pub future_place : List Variable → ℕ → ℕ
future_place vs x = 1 + number_count vs + future_count (take x vs)

abbrev pub number_word : Sort → ℕ → List ℕ
number_word Number n = n ∷ []
number_word Future n = []

-- what the number variables have, in order
abbrev pub number_words : List Variable → List ℕ → List ℕ
number_words (v ∷ vs) (n ∷ ns) = number_word v.sort n ++ number_words vs ns
number_words _ _ = []

abbrev pub future_word : Sort → Option ℕ → List ℕ
future_word Number future = []
future_word Future future = link_code future ∷ []

-- what the future variables name, in order: a link is 0 to nothing, else the unit plus 1
abbrev pub future_words : List Variable → List (Option ℕ) → List ℕ
future_words (v ∷ vs) (f ∷ fs) = future_word v.sort f ++ future_words vs fs
future_words _ _ = []

-- the words of a frame: the control word, the numbers, the futures
abbrev pub frame_words : List Variable → FrameOf ℕ → List ℕ
frame_words vs q = control_word q.kind q.state q.at ∷ number_words vs q.numbers ++ future_words vs q.futures

-- the words of an aggregate: the control word, the members
abbrev pub members_words : List ℕ → ℕ → List ℕ
members_words members next = control_word aggregate_code (length members) next ∷ map suc members

abbrev pub words_of_body : Program → BodyOf ℕ → List ℕ
words_of_body p (OfKind q) = frame_words (variables_at p q.kind) q
words_of_body p (OfMembers members next) = members_words members next

-- the words of a frame of the program are those of the body that they say
abbrev pub WordsAreTheirBody : Type 0
WordsAreTheirBody = (p : Program) (words : List ℕ) → IsWellFormed p → IsFrame p words → words_of_body p (body_of p words) ≡ words
