-- What a run keeps of its journal: it is one that calls make under their conditions, with the limit of the plan.
use Rattle.std.specs.Prelude.{◌≡◌, ℕ}
use Rattle.record_core.specs.Journal.{JournalState, IsJournal}
use Rattle.run_model.specs.State.{Run}

pub record Journaled (limit : ℕ) (j : JournalState) : Type 0 where
  pub journal : IsJournal j
  pub of_plan : j.limit ≡ limit

abbrev pub JournalStands : ℕ → Run → Type 0
JournalStands limit r = Journaled limit r.journal
