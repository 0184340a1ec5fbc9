-- How a task ends, by the value that says so.
use Rattle.record_core.specs.declared.rows.CutTag.{CutTag}
use Rattle.record_core.specs.declared.rows.CutTag.TheVariants as cut
use Rattle.table_core.specs.Asking.{Refusal, IsNull, IsLimit, Null, Limit, By}
use Rattle.table_core.specs.Story.{Outcome, Gave, WasCut}
use Rattle.step_table.specs.declared.ending.Ending.{Ending}
use Rattle.step_table.specs.declared.ending.Ending.TheVariants as ending

abbrev pub refusal_of : CutTag → Refusal
refusal_of cut.Null = IsNull
refusal_of cut.Limit = IsLimit

abbrev pub outcome_of : Ending → Outcome
outcome_of (ending.Gave value) = Gave value
outcome_of ending.Null = WasCut Null IsNull
outcome_of ending.Limit = WasCut Limit IsLimit
outcome_of (ending.Behind task tag) = WasCut (By task) (refusal_of tag)
