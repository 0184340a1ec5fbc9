-- What the stages of making a record need and leave.
use Rattle.std.specs.Prelude.{◌≡◌, ◌≢◌, ℕ, ◌≤◌, Bool, true, false, Option, IfSome, List, ◌∷◌}
use Rattle.record_core.specs.Counting.{Has, times, dropped}
use Rattle.kt_words.specs.declared.plan.Plan.{Plan}
use Rattle.table_core.specs.Addresses.{Addr, task, refs, head, frame}
use Rattle.table_core.specs.Asking.{OfTask}
use Rattle.table_core.specs.Holdings.{Made}
use Rattle.table_core.specs.Own.{runs_at}
use Rattle.table_core.specs.Pool.{IsBlock}
use Rattle.table_core.specs.RecordViews.{is_at}
use Rattle.table_core.specs.Story.{IsAccepted}
use Rattle.table_core.specs.declared.setup.Setup.{Setup}
use Rattle.table_core.specs.declared.view.View.{View}
use Rattle.schedule_rule.specs.DrawViews.{asking, drawn_for, with_number, KnowsTask}
use Rattle.schedule_rule.specs.LifeViews.{counted_in}
use Rattle.schedule_rule.specs.Frames.{BagSound}
use Rattle.step_table.specs.DrawSteps.{IsNewNumber}
use Rattle.step_table.specs.RecordHands.{MadeAt}
use Rattle.table_records.specs.Plain.{call_behind}

-- a made record in a block of class 0, with this number, counted in or not
abbrev pub made_of : ℕ → ℕ → Bool → Made
made_of u n live = record { unit = u; class = 0; number = n; live = live }

-- a record is made in a fresh block, and has no number yet
pub record Begins (g : Plan) (u : ℕ) (old new : View) : Type 0 where
  pub is_block : IsBlock g u 0
  pub view_is : new ≡ record old { looks = new.looks; wins = new.wins; made = made_of u 0 false ∷ old.made; seen = new.seen }

-- it may be given a number behind the task, which is known, or behind none
pub record MayNumber (g : Plan) (u : ℕ) (behind : Option ℕ) (v : View) : Type 0 where
  pub at : MadeAt g u v (made_of u 0 false)
  pub knows : IfSome behind (KnowsTask v)

-- a number was drawn for it, by an act of the run of the task
pub record Numbers (limit u by task : ℕ) (behind : Option ℕ) (old : View) (n : ℕ) (new : View) : Type 0 where
  pub is_new : IsNewNumber limit n old
  pub view_is : new ≡ record old {
    made = with_number u n old.made;
    runs = asking by old.runs;
    drawn = drawn_for n u (OfTask task) ∷ old.drawn;
    no_task = n ∷ old.no_task;
    no_after = n ∷ old.no_after;
    calls = (n, call_behind behind) ∷ old.calls;
    facts = IsAccepted n (call_behind behind) ∷ old.facts;
    may_draw = 0;
    seen = new.seen;
  }

-- its words and rows may be written
pub record MayWrite (g : Plan) (u n : ℕ) (behind : Option ℕ) (v : View) : Type 0 where
  pub some : n ≢ 0
  pub within : n ≤ g.limit
  pub at : MadeAt g u v (made_of u n false)
  pub knows : Has (IsAccepted n (call_behind behind)) v.facts
  pub lacks_task : 1 ≤ times n v.no_task
  pub lacks_after : 1 ≤ times n v.no_after

-- what is known of its words then
abbrev pub with_first_words : ℕ → ℕ → List (Addr × ℕ) → List (Addr × ℕ)
with_first_words u n known = (frame u 0, 0) ∷ (head u, 0) ∷ (refs u, 2) ∷ (task u, n) ∷ known

-- they are written, and the record is counted in
pub record Writes (u n : ℕ) (old new : View) : Type 0 where
  pub view_is : new ≡ record (counted_in u old) {
    no_task = dropped (is_at n) old.no_task;
    no_after = dropped (is_at n) old.no_after;
    known = with_first_words u n old.known;
    seen = new.seen;
  }

-- a record was made, of which only the number is to be placed
pub record Drafts (g : Setup) (by task u : ℕ) (behind : Option ℕ) (old : View) (n : ℕ) (new : View) : Type 0 where
  pub is_block : IsBlock g.plan u 0
  pub is_new : IsNewNumber g.plan.limit n old
  pub view_is : new ≡ record old {
    looks = new.looks;
    wins = new.wins;
    made = made_of u n true ∷ old.made;
    runs = asking by old.runs;
    drawn = drawn_for n u (OfTask task) ∷ old.drawn;
    calls = (n, call_behind behind) ∷ old.calls;
    facts = IsAccepted n (call_behind behind) ∷ old.facts;
    known = with_first_words u n old.known;
    may_draw = 0;
    seen = new.seen;
  }
  pub bag : BagSound g.checked (record { futures = old.futures; runs = old.runs })
  pub elsewhere : runs_at u old.runs ≡ 0
