-- What the steps on the counts of living records and on the word of spills need, and what they tell.
use Rattle.std.specs.Prelude.{◌≡◌, ◌≢◌, ℕ, true, false}
use Rattle.kt_words.specs.declared.plan.Plan.{Plan}
use Rattle.table_core.specs.Addresses.{sum}
use Rattle.table_core.specs.Holdings.{Made, Done}
use Rattle.table_core.specs.Views.{saw}
use Rattle.table_core.specs.declared.view.View.{View}
use Rattle.schedule_rule.specs.DrawViews.{saw_live}
use Rattle.schedule_rule.specs.LifeViews.{counted_in, counted_out}
use Rattle.step_table.specs.declared.pass.Pass.{Pass}
use Rattle.step_table.specs.Passes.{view}
use Rattle.step_table.specs.RecordHands.{MadeAt, DoneAt}

-- a made record with a number, which is not counted in
pub record MayCountIn (g : Plan) (unit : ℕ) (v : View) : Type 0 where
  pub made : Made
  pub at : MadeAt g unit v made
  pub numbered : made.number ≢ 0
  pub uncounted : made.live ≡ false

-- a done record whose list is closed, and which is not counted out
pub record MayCountOut (g : Plan) (unit : ℕ) (v : View) : Type 0 where
  pub done : Done
  pub at : DoneAt g unit v done
  pub closed : done.closed ≡ true
  pub counted : done.out ≡ false

pub record CountsIn (unit : ℕ) (old new : Pass) : Type 0 where
  pub found : ℕ
  pub view_is : view new ≡ saw (sum 1) found (counted_in unit (view old))

pub record CountsOut (unit : ℕ) (old new : Pass) : Type 0 where
  pub found : ℕ
  pub view_is : view new ≡ saw (sum 1) found (counted_out unit (view old))

-- So many records live. A pass that knows that all roots were asked for, and sees that none does, knows that none will.
abbrev pub SeesLive : ℕ → Pass → ℕ → Pass → Type 0
SeesLive roots old living new = view new ≡ saw (sum 1) living (saw_live roots living (view old))

-- it is told that a queue was full; nothing else has changed
pub record Spills (old new : Pass) : Type 0 where
  pub found : ℕ
  pub view_is : view new ≡ saw (sum 4) found (view old)

-- whether that was told was seen, and nothing else has changed
abbrev pub SeesSpill : Pass → ℕ → Pass → Type 0
SeesSpill old found new = view new ≡ saw (sum 4) found (view old)
