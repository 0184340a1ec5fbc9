-- What the contracts of steps read of a table, of a pass and of what it holds.
use Rattle.std.specs.Prelude.{◌≡◌, ℕ, ◌<◌, ◌≤◌, ◌⊎◌, List}
use Rattle.record_core.specs.Counting.{Has}
use Rattle.kt_words.specs.declared.plan.Plan.{Plan}
use Rattle.kt_words.specs.declared.super_word.SuperWord.{SuperWord}
use Rattle.task_syntax.specs.declared.program.Program.{Program}
use Rattle.task_syntax.specs.declared.columns.Columns.{Columns}
use Rattle.table_core.specs.Holdings.{Place, Block as BlockOf}
use Rattle.table_core.specs.Views.{place, block}
use Rattle.table_core.specs.Pool.{cap, IsBlock}
use Rattle.table_core.specs.declared.view.View.{View}
use Rattle.step_table.specs.declared.pass.Pass.{Pass}
use Rattle.step_table.specs.declared.tokens.Reserved.{Reserved}
use Rattle.step_table.specs.declared.tokens.Debt.{Debt}
use Rattle.step_table.specs.declared.tokens.Block.{Block}
use Rattle.step_table.specs.declared.shared.Shared.{Shared}

abbrev pub view : Pass → View
view p = p.seat.me.0

abbrev pub plan : Shared → Plan
plan t = t.setup.plan

-- what the table was made with
pub record IsMadeWith (t : Shared) (checked : Program) (columns : Columns) (plan : Plan) : Type 0 where
  pub checked_is : t.setup.checked ≡ checked
  pub columns_is : t.setup.columns ≡ columns
  pub plan_is : t.setup.plan ≡ plan

-- the pass is one of the table
abbrev pub IsOf : Shared → Pass → Type 0
IsOf t p = p.seat.table_id ≡ t.table.shared.table_id

-- the same pass, which may hold and know something else, and has so many references at most
pub record IsSameWith (held : ℕ) (old new : Pass) : Type 0 where
  pub table : new.seat.table_id ≡ old.seat.table_id
  pub id : new.seat.id ≡ old.seat.id
  pub splits : new.splits ≡ old.splits
  pub number : new.number ≡ old.number
  pub held_is : new.held ≡ held

-- and so many as before
abbrev pub IsSame : Pass → Pass → Type 0
IsSame old new = IsSameWith old.held old new

-- what the values name
abbrev pub place_of : Reserved → Place
place_of r = place r.superblock r.class

abbrev pub owed_by : Debt → Place
owed_by d = place d.superblock d.class

abbrev pub block_of : Block → BlockOf
block_of b = block b.unit b.class b.fresh

-- the place is one of the table's, and in the hand
pub record HasPlace (g : Plan) (p : Place) (held : List Place) : Type 0 where
  pub superblock : p.superblock < g.geometry.superblocks
  pub class : p.class ≤ 3
  pub there : Has p held

-- the block is one of the table's, and in the hand
pub record HasBlock (g : Plan) (b : BlockOf) (held : List BlockOf) : Type 0 where
  pub is_block : IsBlock g b.unit b.class
  pub there : Has b held

-- a superblock with this word has room for one more block of the class
pub record TakesOne (g : Plan) (word : SuperWord) (class : ℕ) : Type 0 where
  pub of_class : (word.class ≡ class) ⊎ (word.count ≡ 0)
  pub room : word.count < cap g class
