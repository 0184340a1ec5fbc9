-- What the naming of a root needs.
use Rattle.std.specs.Prelude.{◌<◌, ◌≤◌, List, length}
use Rattle.record_core.specs.Counting.{times}
use Rattle.table_core.specs.Addresses.{units_of}
use Rattle.table_core.specs.Holdings.{RootSays, Record, Null, Limit, Skipped}
use Rattle.table_core.specs.Roots.{FirstMissing}
use Rattle.table_core.specs.declared.setup.Setup.{Setup}
use Rattle.table_core.specs.declared.view.View.{View}

-- a record needs a reference to it; a root that is skipped names another, the first of its roots without a record
abbrev pub MayName : Setup → List RootSays → View → RootSays → Type 0
MayName g asked v (Record u) = (u < units_of g.plan) × (1 ≤ times u v.futures)
MayName g asked v Null = Unit {0}
MayName g asked v Limit = Unit {0}
MayName g asked v (Skipped j) = FirstMissing g.checked asked (length asked) j
