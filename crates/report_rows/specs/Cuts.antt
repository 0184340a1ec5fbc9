-- Causes that name tasks.
use Rattle.std.specs.Prelude.{List}
use Rattle.record_core.specs.Numbers.{HasTask}
use Rattle.record_core.specs.declared.rows.ActivationRow.{ActivationRow}
use Rattle.record_core.specs.declared.rows.Cause.{Cause}
use Rattle.record_core.specs.declared.rows.Cause.TheVariants.{Clear, Null, Limit, By}

-- what a cause names is a task
abbrev pub IsCutByTask : List ActivationRow → Cause → Type 0
IsCutByTask rows Clear = Unit {0}
IsCutByTask rows Null = Unit {0}
IsCutByTask rows Limit = Unit {0}
IsCutByTask rows (By u) = HasTask rows u
