-- What joining a list answers.
use Rattle.std.specs.Prelude.{◌≡◌, ℕ}
use Rattle.table_core.specs.declared.view.View.{View}
use Rattle.step_table.specs.declared.record_tokens.Linkable.{Linkable}
use Rattle.wait_lists.specs.declared.joined.Joined.{Joined}
use Rattle.wait_lists.specs.declared.joined.Joined.TheVariants as joined
use Rattle.wait_lists.specs.Joining.{Waits, SawClosed}

abbrev pub Joins : ℕ → Linkable → View → Joined → View → Type 0
Joins u waiter old joined.Waits new = Waits u waiter.unit old new
Joins u waiter old (joined.Closed back) new = (back ≡ waiter) × SawClosed u waiter.unit old new
