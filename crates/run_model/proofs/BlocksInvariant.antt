-- What a run keeps of blocks: those in use are out of a sound pool, each for one task, and of its class; and the first
-- null answer saw a pool without room.
use Rattle.std.specs.Prelude.{◌≡◌, ℕ, ◌≤◌, Option, Some, IsSome, IsTrue, length}
use Rattle.task_syntax.specs.Places.{Each}
use Rattle.task_syntax.specs.declared.program.Program.{Program}
use Rattle.task_meaning.specs.Worths.{Accepted, OfCall, OfAll, Respawn}
use Rattle.kt_words.specs.Capacity.{IsWithoutRoom}
use Rattle.kt_words.specs.declared.super_word.SuperWord.{SuperWord}
use Rattle.pool_core.specs.Blocks.{BlockState}
use Rattle.pool_core.specs.Pool.{IsSound, IsOut}
use Rattle.record_core.specs.Sums.{total}
use Rattle.record_core.specs.Numbers.{by_number, found, HasTask}
use Rattle.record_core.specs.Journal.{task_count}
use Rattle.record_core.specs.EndSeen.{RunPlan}
use Rattle.record_core.specs.EndSound.{kind_class, members_class, evidence_count}
use Rattle.record_core.specs.EndFaithful.{HeldBlocks}
use Rattle.run_model.specs.State.{Evidence, Run}
use Rattle.run_model.specs.Placing.{pool_of, is_in_use}

abbrev pub InUse : Run → ℕ → Type 0
InUse r t = IsTrue (is_in_use r.roots r.bodies t)

-- the class of the block that a call asks for
abbrev pub class_of_call : Program → Accepted → Option ℕ
class_of_call p (OfCall call waits) = Some (kind_class p call.kind)
class_of_call p (OfAll members) = Some (members_class (length members))
class_of_call p (Respawn task waits) = Option.None

pub record BlocksStand (p : Program) (plan : RunPlan) (r : Run) : Type 0 where
  pub supers : length r.supers ≡ plan.superblocks
  pub sound : IsSound (pool_of plan.units r)
  -- a task has a block, and nothing else has
  pub owned : (t : ℕ) → HasTask r.journal.rows t → IsSome (found r.blocks t)
  pub of_task : (t : ℕ) → IsSome (found r.blocks t) → HasTask r.journal.rows t
  -- the block of a task in use is out of the pool, and no other such task has it
  pub out : (t : ℕ) (block : BlockState) → found r.blocks t ≡ Some block → InUse r t → IsOut (pool_of plan.units r) block
  pub apart : (t u : ℕ) (block : BlockState) → found r.blocks t ≡ Some block → found r.blocks u ≡ Some block → InUse r t → InUse r u → t ≡ u
  pub classes : (t class : ℕ) (call : Accepted) (block : BlockState) → by_number r.calls t ≡ Some call → found r.blocks t ≡ Some block
      → class_of_call p call ≡ Some class → block.class ≡ class

-- what the first null answer saw: no superblock had room, each had at most as many blocks as fit, and together at most as many as
-- there are tasks
pub record EvidenceHolds (plan : RunPlan) (r : Run) (e : Evidence) : Type 0 where
  pub class_fits : e.class ≤ 3
  pub every : length e.words ≡ plan.superblocks
  pub classes : Each e.words (λ (word : SuperWord). word.class ≤ 3)
  pub full : Each e.words (λ (word : SuperWord). IsWithoutRoom plan.units e.class word.class word.count)
  pub counted : total evidence_count e.words ≤ task_count r.journal.rows
  pub held : Each e.words (HeldBlocks plan.units)

abbrev pub EvidenceStands : RunPlan → Run → Type 0
EvidenceStands plan r = (e : Evidence) → r.evidence ≡ Some e → EvidenceHolds plan r e
