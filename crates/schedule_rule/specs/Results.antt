-- What a done record says of how its task ended.
use Rattle.std.specs.Prelude.{◌≡◌, ℕ, ◌<◌, List}
use Rattle.kt_words.specs.declared.plan.Plan.{Plan}
use Rattle.kt_words.specs.declared.tag.Tag.{Tag}
use Rattle.kt_words.specs.declared.tag.Tag.TheVariants as tag
use Rattle.kt_words.specs.StateWords.{phase_of, tag_of, tag_code}
use Rattle.task_syntax.specs.declared.value.Trap.{Trap}
use Rattle.task_syntax.specs.declared.value.Trap.TheVariants as trap
use Rattle.task_syntax.specs.declared.value.Value.{Value}
use Rattle.task_syntax.specs.declared.value.Value.TheVariants.{Number, Trapped}
use Rattle.table_core.specs.Addresses.{units_of}
use Rattle.table_core.specs.Asking.{Refusal, IsNull, IsLimit}
use Rattle.table_core.specs.Story.{Outcome, Gave, WasCut, End}
use Rattle.schedule_rule.specs.Calls.{Ended}

-- the tag of a value
abbrev pub tag_of_trap : Trap → Tag
tag_of_trap trap.Overflow = tag.Overflow
tag_of_trap trap.Divide = tag.Divide
tag_of_trap trap.NoRow = tag.NoRow

abbrev pub tag_of_value : Value → Tag
tag_of_value (Number n) = tag.Number
tag_of_value (Trapped t) = tag_of_trap t

abbrev pub tag_of_refusal : Refusal → Tag
tag_of_refusal IsNull = tag.Null
tag_of_refusal IsLimit = tag.Limit

-- the tag of an outcome; a cut has that of the refusal to which the causes lead
abbrev pub tag_for : Outcome → Tag
tag_for (Gave value) = tag_of_value value
tag_for (WasCut cut told) = tag_of_refusal told

-- the word says the result; only a number has one
abbrev pub IsResult : ℕ → Outcome → Type 0
IsResult word (Gave (Number n)) = word ≡ n
IsResult word (Gave (Trapped t)) = Unit {0}
IsResult word (WasCut cut told) = Unit {0}

-- this state word and this result word say the outcome
abbrev pub SaysOutcome : ℕ → ℕ → Outcome → Type 0
SaysOutcome word result outcome = (tag_of word ≡ tag_code (tag_for outcome)) × IsResult result outcome

-- the words of a done record say how its task ended
abbrev pub ResultsSound : Plan → List End → (ℕ → ℕ) → (ℕ → ℕ) → (ℕ → ℕ) → Type 0
ResultsSound g ends states tasks results = (u : ℕ) → u < units_of g → phase_of (states u) ≡ 5
    → (outcome : Outcome) × Ended ends (tasks u) outcome × SaysOutcome (states u) (results u) outcome
