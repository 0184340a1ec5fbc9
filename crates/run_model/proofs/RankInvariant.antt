-- What a run keeps of who names whom: no tasks wait for one another in a circle.
use Rattle.std.specs.Prelude.{◌≡◌, ℕ, ◌<◌, ◌⊎◌, Option, Some, List}
use Rattle.record_core.specs.Numbers.{found}
use Rattle.record_core.specs.declared.rows.ActivationRow.{ActivationRow}
use Rattle.run_model.specs.State.{Body, Run}
use Rattle.run_model.proofs.NumbersInvariant.{IsLiveAt, BodyNames}

-- task t, which is unfinished, names u, or its live number is behind u
abbrev pub Names : List ActivationRow → Option ℕ → List (Option Body) → ℕ → ℕ → Type 0
Names rows running bodies t u = (body : Body) × (found bodies t ≡ Some body)
    × (BodyNames body u ⊎ ((n : ℕ) × (row : ActivationRow) × IsLiveAt rows running t n row × (row.after ≡ Some u)))

-- what is named has a lower rank
pub record Ranked (rows : List ActivationRow) (running : Option ℕ) (bodies : List (Option Body)) : Type 0 where
  pub rank : ℕ → ℕ
  pub falls : (t u : ℕ) → Names rows running bodies t u → rank u < rank t

abbrev pub RankStands : Run → Type 0
RankStands r = Ranked r.journal.rows r.running r.bodies
