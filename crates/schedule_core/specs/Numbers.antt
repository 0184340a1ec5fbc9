-- What the drawing of a number for a new record leaves.
use Rattle.std.specs.Prelude.{◌≡◌, ℕ, ◌+◌, Option, Some, None, ◌∷◌}
use Rattle.record_core.specs.Counting.{dropped}
use Rattle.task_meaning.specs.Worths.{Accepted}
use Rattle.table_core.specs.Asking.{Asker, OfTask, IsLimit}
use Rattle.table_core.specs.Pool.{superblock_of}
use Rattle.table_core.specs.RecordViews.{is_made_at}
use Rattle.table_core.specs.Views.{place}
use Rattle.table_core.specs.declared.setup.Setup.{Setup}
use Rattle.table_core.specs.declared.view.View.{View}
use Rattle.schedule_rule.specs.DrawViews.{drew_for_run}
use Rattle.schedule_rule.specs.SoundViews.{SoundView}
use Rattle.step_table.specs.DrawSteps.{DrewNumber}
use Rattle.step_table.specs.declared.record_tokens.Made.{Made}
use Rattle.schedule_core.specs.Begins.{SawLimit}
use Rattle.schedule_core.specs.References.{Grows}

-- the made record is a block again, which was given back
pub record GivesBack (g : Setup) (made : Made) (old new : View) : Type 0 where
  pub seen : Grows old.seen new.seen
  pub view_is : new ≡ record old {
    made = dropped (is_made_at made.unit) old.made;
    settles = place (superblock_of g.plan made.unit) made.class ∷ old.settles;
    cleared = old.cleared + 1;
    known = new.known;
    seen = new.seen;
  }

-- the limit is met, and the asker is answered so; the made record's block was given back
pub record GaveBack (g : Setup) (made : Made) (asker : Asker) (old new : View) : Type 0 where
  pub saw : SawLimit g.plan.limit old new
  pub view_is : new ≡ record old {
    made = dropped (is_made_at made.unit) old.made;
    answers = record { asker = asker; refusal = IsLimit } ∷ old.answers;
    settles = place (superblock_of g.plan made.unit) made.class ∷ old.settles;
    cleared = old.cleared + 1;
    may_draw = 0;
    known = new.known;
    seen = new.seen;
  }

-- the number, for the made record, which comes back; or none
abbrev pub Numbers : Setup → Made → Asker → (ℕ → View) → View → Option (Made × ℕ) → View → Type 0
Numbers g made asker won old (Some t) new = (t.0 ≡ made) × DrewNumber g.plan.limit t.1 old new (won t.1) × SoundView g new
Numbers g made asker won old None new = GaveBack g made asker old new

abbrev pub NumbersForRun : Setup → Made → (by task : ℕ) → Accepted → View → Option (Made × ℕ) → View → Type 0
NumbersForRun g made by task call old told new = Numbers g made (OfTask task) (λ n. drew_for_run made.unit by task call n old) old told new
