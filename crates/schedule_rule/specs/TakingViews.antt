-- What a take does to a view: a record that is ready becomes a run of the hand.
use Rattle.std.specs.Prelude.{◌≡◌, ℕ, ◌+◌, ◌*◌, ◌<◌, ◌≤◌, List, [], ◌∷◌, ◌++◌, length, false, Some, None, slice_index}
use Rattle.kt_words.specs.Capacity.{block_units}
use Rattle.kt_words.specs.StateWords.{phase_of, number_of, IsStateWord}
use Rattle.task_syntax.specs.declared.program.Program.{Program}
use Rattle.task_meaning.specs.Worths.{Accepted, OfCall, OfAll, Respawn}
use Rattle.frame_code.specs.Frames.{frame_length}
use Rattle.frame_code.specs.Names.{named}
use Rattle.frame_code.specs.Ways.{BodyHasWay}
use Rattle.frame_code.specs.Words.{BodyOf, OfKind, OfMembers, body_at}
use Rattle.table_core.specs.Addresses.{Addr, state, arena, units_of}
use Rattle.table_core.specs.Holdings.{Run}
use Rattle.table_core.specs.Lists.{Each}
use Rattle.table_core.specs.Pool.{IsBlock}
use Rattle.table_core.specs.Story.{Fact, IsAccepted}
use Rattle.table_core.specs.Views.{saw}
use Rattle.table_core.specs.declared.setup.Setup.{Setup}
use Rattle.table_core.specs.declared.view.View.{View}
use Rattle.schedule_rule.specs.Calls.{task_in, Suits}
use Rattle.schedule_rule.specs.Frames.{HoldsNames, IsFormed, BagSound}
use Rattle.schedule_rule.specs.LifeViews.{knowing, MayStart}
use Rattle.schedule_rule.specs.Parts.{bags, seen}

-- these words of the arena are known, from its word k on
abbrev pub with_words : ℕ → List ℕ → List (Addr × ℕ) → List (Addr × ℕ)
with_words k [] known = known
with_words k (w ∷ ws) known = (arena k, w) ∷ with_words (k + 1) ws known

-- a record that was taken just now, with the words of its block
abbrev pub new_run : ℕ → ℕ → ℕ → ℕ → List ℕ → Run
new_run u c number task ws = record {
  unit = u;
  class = c;
  number = number;
  task = task;
  starting = false;
  started = false;
  asked = false;
  ending = false;
  finished = false;
  unplaced = 0;
  nulls = 0;
  cause = None;
  words = ws;
}

-- The words are those that stand in the record's block. No step has read them, but they are the pass's own from now on, so they
-- count as known. What the frame names are references of the pass, and the call of the number is a fact.
abbrev pub took : Program → ℕ → ℕ → ℕ → List ℕ → Accepted → View → View
took p u c number ws call v = record v {
  runs = new_run u c number (task_in (Some call) number) ws ∷ v.runs;
  taken = number ∷ v.taken;
  futures = named p (slice_index ws) ++ v.futures;
  known = with_words (8 * u) ws v.known;
  facts = IsAccepted number call ∷ v.facts;
}

-- The frame is one of the call's: of its kind, or of as many members, of which the second comes next. A further activation has the
-- frame that its task was left with.
abbrev pub IsOfCall : Accepted → BodyOf ℕ → Type 0
IsOfCall (OfCall call waits) (OfKind q) = q.kind ≡ call.kind
IsOfCall (OfCall call waits) (OfMembers units next) = ⊥
IsOfCall (OfAll members) (OfKind q) = ⊥
IsOfCall (OfAll members) (OfMembers units next) = (length units ≡ length members) × (next ≡ 1)
IsOfCall (Respawn task waits) body = Unit {0}

-- what is told of the words of a frame that was taken: they are those of the record's block, and the frame lies in it
pub record IsTakenFrame (g : Setup) (unit class : ℕ) (call : Accepted) (ws : List ℕ) : Type 0 where
  pub block : IsBlock g.plan unit class
  pub long : length ws ≡ 8 * block_units class
  pub formed : IsFormed g.checked (slice_index ws)
  pub fits : frame_length g.checked (slice_index ws 0) ≤ 8 * block_units class
  pub way : BodyHasWay g.checked (body_at g.checked (slice_index ws))
  -- each future that is held there names a unit
  pub names : HoldsNames g.checked (body_at g.checked (slice_index ws))
  -- it names few units, all of the table
  pub few : length (named g.checked (slice_index ws)) ≤ 63
  pub near : Each (λ x. x < units_of g.plan) (named g.checked (slice_index ws))
  pub suits : Suits g.checked call
  pub is_of : IsOfCall call (body_at g.checked (slice_index ws))

-- the words of a take: one that says ready, and one that says running, of the same number
pub record IsTaking (ready running : ℕ) : Type 0 where
  pub was : phase_of ready ≡ 3
  pub is : phase_of running ≡ 4
  pub number : number_of running ≡ number_of ready
  pub shape : IsStateWord running

-- What a take of the record at u tells: it is a run of the hand, and its activation may start. Before, the pass had references for
-- all that its running frames held: so it has one more for each that the new frame names.
abbrev pub Taken : Setup → ℕ → ℕ → View → View → Type 0
Taken g u ready old new = (c : ℕ) × (ws : List ℕ) × (call : Accepted) × (more : List Fact) × IsTakenFrame g u c call ws × BagSound g.checked (seen bags old)
    × (new ≡ knowing more (saw (state u) ready (took g.checked u c (number_of ready) ws call old))) × MayStart new (number_of ready)

-- What the exchange from the word `ready` tells: where that was found, the record was taken; else nothing has changed.
abbrev pub Takes : Setup → ℕ → ℕ → View → ℕ → View → Type 0
Takes g u ready old found new = (found ≡ ready → Taken g u ready old new) × (¬ (found ≡ ready) → new ≡ saw (state u) found old) × IsStateWord found
