-- That the words of a block begin with a frame that says what they say.
use Rattle.std.specs.Prelude.{◌≡◌, ℕ, List, slice_index}
use Rattle.task_syntax.specs.declared.program.Program.{Program}
use Rattle.frame_code.specs.Frames.{IsFrame}
use Rattle.frame_code.specs.Words.{body_at, body_of}
use Rattle.schedule_rule.specs.Frames.{front}

-- the first words, as many as the frame is long, say the same body
abbrev pub FrontsSayTheirBody : Type 0
FrontsSayTheirBody = (p : Program) (words : ℕ → ℕ) → body_of p (front p words) ≡ body_at p words

-- the words of a frame begin with all of them
abbrev pub FramesAreTheirFront : Type 0
FramesAreTheirFront = (p : Program) (words : List ℕ) → IsFrame p words → front p (slice_index words) ≡ words
