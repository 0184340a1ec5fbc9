-- What a run keeps of further numbers and refusals: each was asked for, and an aggregate has a number for each member that it
-- has come to.
use Rattle.std.specs.Prelude.{◌≡◌, ℕ, Option, Some, IsSome, List, length, slice_get}
use Rattle.task_syntax.specs.declared.program.Program.{Program}
use Rattle.task_meaning.specs.Worths.{Accepted, OfAll, Respawn}
use Rattle.frame_code.specs.Words.{OfMembers}
use Rattle.record_core.specs.Numbers.{by_number, found}
use Rattle.record_core.specs.Journal.{JournalState, finish_of, cause_of}
use Rattle.record_core.specs.EndCalls.{AskedForBlock, AskedForNumber, IsAskedAgain, numbers_of}
use Rattle.record_core.specs.declared.rows.Cause.TheVariants as cause
use Rattle.run_model.specs.State.{Body, Run}

pub record Asked (p : Program) (j : JournalState) (calls : List Accepted) (bodies : List (Option Body)) : Type 0 where
  pub again : (before t : ℕ) (after : Option ℕ) → slice_get calls before ≡ Some (Respawn t after) → IsAskedAgain p j.rows calls before t after
  pub null : (t : ℕ) → cause_of j.tasks t ≡ cause.Null → AskedForBlock p calls t
  pub limit : (t : ℕ) → cause_of j.tasks t ≡ cause.Limit → AskedForNumber p j.rows calls t
  pub under_way : (t next : ℕ) (members : List ℕ) → found bodies t ≡ Some (OfMembers members next) → numbers_of t j.rows ≡ next
  pub gathered : (t : ℕ) (members : List ℕ) → by_number calls t ≡ Some (OfAll members) → IsSome (finish_of j.tasks t) → cause_of j.tasks t ≡ cause.Clear → numbers_of t j.rows ≡ length members

abbrev pub AskedStands : Program → Run → Type 0
AskedStands p r = Asked p r.journal r.calls r.bodies
