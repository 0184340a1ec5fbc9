-- The entries of records, and the state words that these have while they are ready.
use Rattle.std.specs.Prelude.{ℕ, ◌^◌, ◌<◌, false, zero, suc}
use Rattle.kt_words.specs.declared.state_word.StateWord.{StateWord}
use Rattle.kt_words.specs.declared.plan.Plan.{Plan}
use Rattle.task_syntax.specs.declared.value.Priority.{Priority}
use Rattle.task_syntax.specs.declared.value.Priority.TheVariants.{High, Regular, Low}
use Rattle.ready_queues.specs.declared.entry.Entry.{Entry}
use Rattle.table_core.specs.Addresses.{units_of}
use Rattle.step_table.specs.PlacingSteps.{word_placed}

-- the priority with this code
abbrev pub priority_at : ℕ → Priority
priority_at zero = High
priority_at (suc zero) = Regular
priority_at (suc (suc n)) = Low

-- the entry of a record whose state word says this
abbrev pub entry_of : ℕ → StateWord → Entry
entry_of unit word = record { unit = unit; number = word.number; priority = priority_at word.priority }

-- the word of a record that is ready as the entry says
abbrev pub word_of : Entry → StateWord
word_of entry = word_placed false entry.number entry.priority

-- the table has the unit, and the number fits into a word
abbrev pub FitsEntry : Plan → Entry → Type 0
FitsEntry g entry = (entry.unit < units_of g) × (entry.number < 2 ^ 24)
