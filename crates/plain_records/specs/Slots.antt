-- What a record is kept as.
use Rattle.std.specs.Prelude.{ℕ, zero, suc, Option, Some, None}
use Rattle.task_syntax.specs.declared.value.Value.TheVariants as value
use Rattle.task_syntax.specs.declared.value.Trap.TheVariants as trap
use Rattle.record_core.specs.declared.rows.CutTag.{CutTag}
use Rattle.record_core.specs.declared.rows.CutTag.TheVariants as cut_tag
use Rattle.plain_state.specs.declared.record.Outcome.{Outcome}
use Rattle.plain_state.specs.declared.record.Outcome.TheVariants.{Gave, WasCut}
use Rattle.plain_records.specs.declared.slot.Ended.{Ended}
use Rattle.plain_records.specs.declared.slot.Ended.TheVariants as ended
use Rattle.plain_records.specs.declared.slot.Cut.{Cut}
use Rattle.plain_records.specs.declared.slot.Cut.TheVariants as cut

-- how a task ended, where it may have given this number
abbrev pub outcome_told : Ended → ℕ → Option Outcome
outcome_told ended.UnderWay n = None
outcome_told ended.Number n = Some (Gave (value.Number n))
outcome_told ended.Overflow n = Some (Gave (value.Trapped trap.Overflow))
outcome_told ended.Divide n = Some (Gave (value.Trapped trap.Divide))
outcome_told ended.NoRow n = Some (Gave (value.Trapped trap.NoRow))
outcome_told ended.Null n = Some (WasCut cut_tag.Null)
outcome_told ended.Limit n = Some (WasCut cut_tag.Limit)

-- the number that a task gave, or 0
abbrev pub number_given : Outcome → ℕ
number_given (Gave (value.Number n)) = n
number_given (Gave (value.Trapped t)) = 0
number_given (WasCut tag) = 0

abbrev pub cut_told : Cut → Option CutTag
cut_told cut.Not = None
cut_told cut.Null = Some cut_tag.Null
cut_told cut.Limit = Some cut_tag.Limit

-- a unit is kept as 1 more, and none as 0
abbrev pub code_told : ℕ → Option ℕ
code_told zero = None
code_told (suc unit) = Some unit
