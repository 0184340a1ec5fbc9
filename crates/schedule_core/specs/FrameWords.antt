-- What the calls need and leave that write and read the words of a frame.
use Rattle.std.specs.Prelude.{◌≡◌, ℕ, ◌<◌, Some, List, length, slice_index}
use Rattle.task_syntax.specs.declared.program.Program.{Program}
use Rattle.frame_code.specs.Frames.{frame_length}
use Rattle.kt_words.specs.declared.plan.Plan.{Plan}
use Rattle.table_core.specs.Addresses.{frame}
use Rattle.table_core.specs.Own.{known_in}
use Rattle.table_core.specs.declared.view.View.{View}
use Rattle.schedule_rule.specs.Frames.{IsFormed, front}
use Rattle.step_table.specs.RecordHands.{MayFill, OwnAt}
use Rattle.step_table.specs.declared.record_tokens.OwnWord.TheVariants as own_word
use Rattle.schedule_core.specs.References.{Grows}

-- so many words of the frame of the record at the unit may be written
abbrev pub MayWrite : Plan → ℕ → ℕ → View → Type 0
MayWrite g unit n v = (j : ℕ) → j < n → MayFill g unit (own_word.Frame j) v

-- the first words of the frame are known to be these
abbrev pub KnowsFrame : ℕ → List ℕ → View → Type 0
KnowsFrame unit words v = (j : ℕ) → j < length words → known_in (frame unit j) v.known ≡ Some (slice_index words j)

-- the words are known, and nothing has changed but what is known
pub record WritesFrame (unit : ℕ) (words : List ℕ) (old new : View) : Type 0 where
  pub known : KnowsFrame unit words new
  pub seen : Grows old.seen new.seen
  pub view_is : new ≡ record old { known = new.known; seen = new.seen }

-- nothing has changed but what was seen
pub record OnlySees (old new : View) : Type 0 where
  pub seen : Grows old.seen new.seen
  pub view_is : new ≡ record old { seen = new.seen }

-- The words begin with a frame of the program, and those of that frame are known to stand in the record at the unit.
pub record KnowsFront (g : Plan) (p : Program) (unit : ℕ) (words : List ℕ) (v : View) : Type 0 where
  pub formed : IsFormed p (slice_index words)
  pub inside : (j : ℕ) → j < frame_length p (slice_index words 0) → OwnAt g unit (own_word.Frame j)
  pub known : (j : ℕ) → j < frame_length p (slice_index words 0) → known_in (frame unit j) v.known ≡ Some (slice_index words j)

-- whatever words are known to stand there, these are the frame that they begin with
abbrev pub IsFrontOf : Plan → Program → ℕ → View → List ℕ → Type 0
IsFrontOf g p unit v items = (words : List ℕ) → KnowsFront g p unit words v → items ≡ front p (slice_index words)
