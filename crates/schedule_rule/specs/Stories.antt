-- How the story goes on: nothing that has happened is changed.
use Rattle.std.specs.Prelude.{◌≡◌, List, ◌++◌}
use Rattle.table_core.specs.Story.{Story}

-- the list begins with the other one
abbrev pub GoesOn : {A : Type 0} → List A → List A → Type 0
GoesOn {A} l longer = (more : List A) × (longer ≡ l ++ more)

-- calls, stamps and ends of the story are those of the one before, and what came after them
pub record Grows (s after : Story) : Type 0 where
  pub calls : GoesOn s.calls after.calls
  pub order : GoesOn s.order after.order
  pub ends : GoesOn s.ends after.ends
