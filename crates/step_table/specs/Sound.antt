-- What each step tells of its pass beside what it does: what the rule says of one view.
use Rattle.table_core.specs.declared.setup.Setup.{Setup}
use Rattle.table_core.specs.declared.view.View.{View}
use Rattle.schedule_rule.specs.SoundViews.{SoundView}

-- the view before the step is sound, and that after it
pub record AreSound (g : Setup) (old new : View) : Type 0 where
  pub before : SoundView g old
  pub after : SoundView g new
