-- What the making of the first root's record needs and leaves.
use Rattle.std.specs.Prelude.{◌≡◌, ◌≢◌, ℕ, ◌<◌, None, [], ◌∷◌, true}
use Rattle.record_core.specs.Counting.{Has}
use Rattle.table_core.specs.Addresses.{units_of}
use Rattle.table_core.specs.Holdings.{Run, SawTask}
use Rattle.step_table.specs.declared.record_tokens.Started.{Started}
use Rattle.step_table.specs.RecordHands.{RunAt}
use Rattle.table_core.specs.Asking.{OfRoot}
use Rattle.table_core.specs.Pool.{IsBlock}
use Rattle.table_core.specs.Story.{IsAccepted}
use Rattle.table_core.specs.declared.setup.Setup.{Setup}
use Rattle.table_core.specs.declared.view.View.{View}
use Rattle.schedule_rule.specs.DrawViews.{drawn_for, with_number}
use Rattle.schedule_rule.specs.Frames.{BagSound}
use Rattle.step_table.specs.DrawSteps.{IsNewNumber}
use Rattle.table_records.specs.Plain.{IsPlain, call_behind}
use Rattle.table_records.specs.Stages.{made_of, with_first_words}

-- the pass has the turn, and no root was asked for
pub record MayBegin (g : Setup) (v : View) : Type 0 where
  pub plain : IsPlain g.checked
  pub some_roots : 0 < g.plan.roots
  pub has_turn : v.turn ≡ [] ∷ []
  pub undrawn : v.root_task ≡ 0

-- a number was drawn for the record at the unit, by the first root
pub record RootNumbers (limit u : ℕ) (old : View) (n : ℕ) (new : View) : Type 0 where
  pub is_new : IsNewNumber limit n old
  pub view_is : new ≡ record old {
    made = with_number u n old.made;
    root_task = n;
    drawn = drawn_for n u (OfRoot 0) ∷ old.drawn;
    no_task = n ∷ old.no_task;
    no_after = n ∷ old.no_after;
    calls = (n, call_behind None) ∷ old.calls;
    facts = IsAccepted n (call_behind None) ∷ old.facts;
    may_draw = 0;
    seen = new.seen;
  }

-- the record of the first root was made, of which only the number is to be placed
pub record RootDrafts (g : Setup) (u : ℕ) (old : View) (n : ℕ) (new : View) : Type 0 where
  pub is_block : IsBlock g.plan u 0
  pub is_new : IsNewNumber g.plan.limit n old
  pub view_is : new ≡ record old {
    looks = new.looks;
    wins = new.wins;
    made = made_of u n true ∷ old.made;
    root_task = n;
    drawn = drawn_for n u (OfRoot 0) ∷ old.drawn;
    calls = (n, call_behind None) ∷ old.calls;
    facts = IsAccepted n (call_behind None) ∷ old.facts;
    known = with_first_words u n old.known;
    may_draw = 0;
    seen = new.seen;
  }
  pub bag : BagSound g.checked (record { futures = old.futures; runs = old.runs })

-- The task of the first root was made and runs: the pass has the run beside those of before, and one reference to its record. Nobody
-- named the root, and the number of the run is the one that was drawn for it.
pub record RootRuns (g : Setup) (started : Started) (old new : View) : Type 0 where
  pub near : started.unit < units_of g.plan
  pub some : started.number ≢ 0
  pub run : Run
  pub at : RunAt g.plan started.unit new run
  pub number_is : run.number ≡ started.number
  pub placed : run.unplaced ≡ 0
  pub runs_are : new.runs ≡ run ∷ old.runs
  pub futures_are : new.futures ≡ started.unit ∷ old.futures
  pub done_is : new.done ≡ old.done
  pub turn_is : new.turn ≡ old.turn
  pub its_task : new.root_task ≡ started.number
  pub sees : Has (SawTask started.unit started.number) new.sights
