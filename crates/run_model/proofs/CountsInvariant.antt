-- What a run keeps of counts, for a program whose counts the meaning has, within the limit, in a pool that suffices: what
-- was accepted, and what is still counted from the frames under way and the roots to come, are together what it counts.
use Rattle.std.specs.Prelude.{◌≡◌, ◌≢◌, ℕ, ◌+◌, Option, Some, None, List, length}
use Rattle.task_syntax.specs.Places.{Each}
use Rattle.task_syntax.specs.declared.program.Program.{Program}
use Rattle.task_syntax.specs.declared.columns.Columns.{Columns}
use Rattle.task_meaning.specs.Meant.{Counts}
use Rattle.task_meaning.specs.FrameCounts.{RestCounts}
use Rattle.task_meaning.specs.Leads.{no_counts}
use Rattle.task_meaning.specs.RootCounts.{RootsLeft}
use Rattle.task_meaning.specs.Worths.{Accepted}
use Rattle.frame_code.specs.Words.{OfKind, OfMembers}
use Rattle.record_core.specs.Sums.{total}
use Rattle.record_core.specs.Numbers.{by_number, found}
use Rattle.record_core.specs.Journal.{task_count}
use Rattle.record_core.specs.declared.rows.ActivationRow.{ActivationRow}
use Rattle.record_core.specs.declared.rows.CutTag.{CutTag}
use Rattle.run_model.specs.State.{Body, Outcome, WasCut, RootWord, Named, Refused, Skipped, Run}
use Rattle.run_model.proofs.NumbersInvariant.{IsLiveAt}

abbrev pub tasks_left : List Counts → ℕ
tasks_left left = total (λ (k : Counts). k.tasks) left

abbrev pub activations_left : List Counts → ℕ
activations_left left = total (λ (k : Counts). k.activations) left

abbrev pub IsNamed : RootWord → Type 0
IsNamed (Named t) = Unit {0}
IsNamed (Refused tag) = ⊥
IsNamed (Skipped at tag) = ⊥

module _ (p : Program) (c : Columns) (rows : List ActivationRow) (running : Option ℕ) (calls : List Accepted) where
  -- So much is still counted from where a task stands: from its frame at its live number, or the activations behind the next
  -- members of an aggregate; from what has no body nothing.
  abbrev pub BodyCounts : ℕ → Option Body → Counts → Type 0
  BodyCounts t None k = k ≡ no_counts
  BodyCounts t (Some (OfKind q)) k = (n : ℕ) × (row : ActivationRow) × IsLiveAt rows running t n row × RestCounts p c calls row.after q k
  BodyCounts t (Some (OfMembers members next)) k = (k.tasks ≡ 0) × (k.activations + next ≡ length members)

  -- the same of each number
  abbrev pub BodiesCount : List (Option Body) → List Counts → Type 0
  BodiesCount bodies left = (t : ℕ) (k : Counts) → by_number left t ≡ Some k → BodyCounts t (found bodies t) k

-- what was accepted, what `left` has by number, and what the roots to come count make up the whole
pub record AddUp (rows : List ActivationRow) (left : List Counts) (roots_left : Counts) (all : Counts) : Type 0 where
  pub tasks : task_count rows + tasks_left left + roots_left.tasks ≡ all.tasks
  pub activations : length rows + activations_left left + roots_left.activations ≡ all.activations

pub record Counted (p : Program) (c : Columns) (all : Counts) (rows : List ActivationRow) (running : Option ℕ) (calls : List Accepted) (bodies : List (Option Body))
    (outcomes : List (Option Outcome)) (roots : List RootWord) (nulls : ℕ) : Type 0 where
  pub left : List Counts
  pub roots_left : Counts
  pub beside : length left ≡ length rows
  pub bodies_count : BodiesCount p c rows running calls bodies left
  pub to_come : RootsLeft p c (length roots) roots_left
  pub add_up : AddUp rows left roots_left all
  pub uncut : (t : ℕ) (tag : CutTag) → found outcomes t ≢ Some (WasCut tag)
  pub no_null : nulls ≡ 0
  pub named : Each roots IsNamed

abbrev pub CountsStand : Program → Columns → Run → Counts → Type 0
CountsStand p c r all = Counted p c all r.journal.rows r.running r.calls r.bodies r.outcomes r.roots r.nulls
