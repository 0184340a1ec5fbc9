-- The state of a run on one thread. A task is named by the number of its first activation, and a future is that number.
use Rattle.std.specs.Prelude.{ℕ, List, [], ◌∷◌, ◌++◌, Option, Some, None}
use Rattle.task_syntax.specs.declared.value.Value.{Value}
use Rattle.task_syntax.specs.declared.value.Priority.{Priority}
use Rattle.task_syntax.specs.declared.value.Priority.TheVariants.{High, Regular, Low}
use Rattle.task_meaning.specs.Worths.{Accepted}
use Rattle.kt_words.specs.declared.super_word.SuperWord.{SuperWord}
use Rattle.pool_core.specs.Blocks.{BlockState}
use Rattle.frame_code.specs.Words.{BodyOf}
use Rattle.record_core.specs.Journal.{JournalState}
use Rattle.record_core.specs.declared.rows.CutTag.{CutTag}

-- where a task stands: its futures are numbers of tasks
abbrev pub Body : Type 0
Body = BodyOf ℕ

-- how a task ended: it gave a value, or it was cut
pub data Outcome : Type 0 where
  Gave : Value → Outcome
  WasCut : CutTag → Outcome

-- What became of a root: it has this task; it was refused when it was asked for; or it was never asked for, because it
-- names this earlier root, which has no task and was cut so.
pub data RootWord : Type 0 where
  Named : ℕ → RootWord
  Refused : CutTag → RootWord
  Skipped : ℕ → CutTag → RootWord

-- a superblock: the class of the block that was placed there last, 0 before the first, and how many were placed there
pub record Super : Type 0 where
  pub class : ℕ
  pub ever : ℕ

-- what is kept of the first null answer: the class that was asked for, and the words of all superblocks at that moment
pub record Evidence : Type 0 where
  pub class : ℕ
  pub words : List SuperWord

-- the activations that may start, a queue for each priority, first in first out
pub record Queues : Type 0 where
  pub high : List ℕ
  pub regular : List ℕ
  pub low : List ℕ

-- The lists `calls` to `blocks` are by number, as the journal's are. A respawn has a number, but no outcome, waiters,
-- body or block of its own. A task has a body until it ends, and an outcome from then on. The waiters of a task are the
-- activations that stand behind it, the one that joined last in front.
pub record Run : Type 0 where
  pub journal : JournalState
  pub calls : List Accepted
  pub priorities : List Priority
  pub outcomes : List (Option Outcome)
  pub waiters : List (List ℕ)
  pub bodies : List (Option Body)
  pub blocks : List (Option BlockState)
  pub roots : List RootWord
  pub ready : Queues
  pub running : Option ℕ
  pub supers : List Super
  pub nulls : ℕ
  pub evidence : Option Evidence

-- the activation is the last one in the queue of its priority
abbrev pub queued : Priority → ℕ → Queues → Queues
queued High n q = record q { high = q.high ++ n ∷ [] }
queued Regular n q = record q { regular = q.regular ++ n ∷ [] }
queued Low n q = record q { low = q.low ++ n ∷ [] }

-- the first activation of the highest queue that has one, and the queues without it
abbrev pub first_queued : List ℕ → List ℕ → List ℕ → Option (ℕ × Queues)
first_queued (n ∷ high) regular low = Some (n, record { high = high; regular = regular; low = low })
first_queued [] (n ∷ regular) low = Some (n, record { high = []; regular = regular; low = low })
first_queued [] [] (n ∷ low) = Some (n, record { high = []; regular = []; low = low })
first_queued [] [] [] = None

abbrev pub next_queued : Queues → Option (ℕ × Queues)
next_queued q = first_queued q.high q.regular q.low

abbrev pub no_queues : Queues
no_queues = record { high = []; regular = []; low = [] }
