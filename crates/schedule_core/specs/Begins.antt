-- What the first part of a spawn leaves: a block is asked for, and leave to draw a number.
use Rattle.std.specs.Prelude.{◌≡◌, ℕ, ◌+◌, ◌≤◌, true, Option, Some, None, List, ◌∷◌, ◌++◌}
use Rattle.record_core.specs.Counting.{Has}
use Rattle.table_core.specs.Addresses.{Addr, sum}
use Rattle.table_core.specs.Asking.{Asker, Answer, IsLimit}
use Rattle.table_core.specs.Holdings.{Run}
use Rattle.table_core.specs.Pool.{IsBlock, superblock_of}
use Rattle.table_core.specs.RecordViews.{new_made}
use Rattle.table_core.specs.Views.{place, block as new_block}
use Rattle.table_core.specs.WaitViews.{is_run_at}
use Rattle.table_core.specs.declared.setup.Setup.{Setup}
use Rattle.table_core.specs.declared.view.View.{View}
use Rattle.schedule_rule.specs.DrawViews.{changed}
use Rattle.schedule_rule.specs.LifeViews.{with_words}
use Rattle.schedule_rule.specs.SoundViews.{SoundView}
use Rattle.memory_pool.specs.Answers.{Gives}
use Rattle.memory_pool.specs.Searches.{SeesMore}
use Rattle.step_table.specs.DrawSteps.{Asking, Move, MaySeeDrawn}
use Rattle.step_table.specs.Passes.{block_of}
use Rattle.step_table.specs.declared.tokens.Block.{Block}
use Rattle.step_table.specs.declared.record_tokens.Made.{Made}
use Rattle.schedule_core.specs.References.{Grows}

-- the runs of the hand, of which one may have moved on
abbrev pub runs_moved : Option Move → List Run → List Run
runs_moved None runs = runs
runs_moved (Some move) runs = changed (is_run_at move.unit) (with_words move.words) runs

-- the answers of the hand, with one more where the limit was told to someone
abbrev pub answers_told : Option Asker → List Answer → List Answer
answers_told None answers = answers
answers_told (Some asker) answers = record { asker = asker; refusal = IsLimit } ∷ answers

-- a step of the call found as many numbers drawn as there may be, or more
abbrev pub SawLimit : ℕ → View → View → Type 0
SawLimit limit old new = (steps : List (Addr × ℕ)) × (found : ℕ) × (new.seen ≡ steps ++ old.seen) × Has (sum 0, found) steps × (limit ≤ found)

-- a record is made in a new block of the class, and the pass may draw a number
pub record HasBegun (g : Setup) (class : ℕ) (asking : Asking) (old : View) (made : Made) (new : View) : Type 0 where
  pub is_block : IsBlock g.plan made.unit class
  pub class_is : made.class ≡ class
  pub seen : Grows old.seen new.seen
  pub looks : Grows old.looks new.looks
  pub sound : SoundView g new
  pub view_is : new ≡ record old {
    made = new_made (new_block made.unit class true) ∷ old.made;
    runs = runs_moved asking.move old.runs;
    wins = place (superblock_of g.plan made.unit) class ∷ old.wins;
    may_draw = 1;
    seen = new.seen;
    looks = new.looks;
  }

-- The limit is met, and the asker is answered so: a block was won and given back, and all else is as it was.
pub record MetLimit (g : Setup) (class : ℕ) (asking : Asking) (old new : View) : Type 0 where
  pub saw : SawLimit g.plan.limit old new
  pub looks : Grows old.looks new.looks
  pub sights : Grows old.sights new.sights
  pub facts : Grows old.facts new.facts
  pub superblock : ℕ
  pub view_is : new ≡ record old {
    runs = runs_moved asking.move old.runs;
    answers = answers_told asking.asker old.answers;
    wins = place superblock class ∷ old.wins;
    settles = place superblock class ∷ old.settles;
    cleared = old.cleared + 1;
    may_draw = new.may_draw;
    known = new.known;
    sights = new.sights;
    facts = new.facts;
    seen = new.seen;
    looks = new.looks;
  }

-- The block was just allocated, in a call that began with some view, where leave to draw might be asked for.
pub record MayMakeIn (g : Setup) (block : Block) (asking : Asking) (v : View) : Type 0 where
  pub base : View
  pub gives : Gives g.plan block.class base (block_of block) v
  pub later : SeesMore base v
  pub may : MaySeeDrawn g asking base

-- a record is made in the block, or it is given back, whatever that view was
abbrev pub MakesIn : Setup → Block → Asking → View → Option Made → View → Type 0
MakesIn g block asking v (Some made) new = (base : View) → Gives g.plan block.class base (block_of block) v → SeesMore base v → HasBegun g block.class asking base made new
MakesIn g block asking v None new = (base : View) → Gives g.plan block.class base (block_of block) v → SeesMore base v → MetLimit g block.class asking base new
