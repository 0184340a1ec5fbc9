-- Each move keeps the blocks in use apart, each out of a sound pool.
use Rattle.std.proofs.Common.{◌≡◌, ◌≢◌, ℕ, zero, suc, ◌+◌, ◌≤◌, Bool, true, false, cond, Option, Some, None, List, [], ◌∷◌, ◌++◌, length, slice_get, refl, sym, ◌∙◌, ap, subst, inl, inr, ⊎_elim, arith, nat_le, replicate}
use Rattle.std.specs.Prelude.{IsSome}
use Rattle.std.specs.Option.{is_some}
use Rattle.std.proofs.lemmas.Bool.{cases_eq, false≢true}
use Rattle.std.proofs.lemmas.Option.{none-some, same_Some, MatchOption-at_some, MatchOption-at_none}
use Rattle.task_syntax.specs.declared.value.Priority.{Priority}
use Rattle.task_syntax.specs.declared.program.Root.{Root as RootLine}
use Rattle.task_syntax.specs.declared.program.Program.{Program}
use Rattle.task_syntax.specs.declared.columns.Columns.{Columns}
use Rattle.task_meaning.specs.Worths.{Accepted, Respawn}
use Rattle.task_meaning.specs.Frame.{FrameOf, set_future, variables_of}
use Rattle.frame_code.specs.Words.{OfKind}
use Rattle.kt_words.specs.Ranges.{IsGeometry}
use Rattle.kt_words.specs.Capacity.{class_for}
use Rattle.kt_words.proofs.Powers.{unit_count}
use Rattle.pool_core.specs.Blocks.{BlockState}
use Rattle.pool_core.specs.Pool.{PoolState, Gives, HasNoRoom, IsSound}
use Rattle.record_core.specs.Numbers.{by_number, put_number, flat, found, HasTask}
use Rattle.record_core.specs.Journal.{next_number}
use Rattle.record_core.specs.EndSeen.{RunPlan}
use Rattle.record_core.specs.EndSound.{kind_class}
use Rattle.record_core.specs.declared.rows.ActivationRow.{ActivationRow}
use Rattle.record_core.specs.declared.rows.CutTag.{CutTag}
use Rattle.record_core.specs.declared.rows.CutTag.TheVariants.{Null, Limit}
use Rattle.run_model.specs.State.{Body, Outcome, RootWord, Named, Refused, Skipped, Super, Queues, Run, next_queued}
use Rattle.run_model.specs.Placing.{pool_of, placed, used_from, supers_with}
use Rattle.run_model.specs.Step.{Request, tasks_named, arrives, waits_or_queues, accepts, draws, with_body, with_root, root_request, at_first}
use Rattle.run_model.specs.Move.{Notes, with_notes, RunsAt, Asks, Renews, Refuses, RefusesRoot, begins, Move, RootMove}
use Rattle.run_model.proofs.Placed.{placed_gives}
use Rattle.run_model.proofs.ByNumber.{number_within, snoc_new, snoc_cases, found_new, found_other, found_old, none_of_empty}
use Rattle.run_model.proofs.NumbersInvariant.{NumbersStand}
use Rattle.run_model.proofs.NamesFacts.{goes_names, asks_named, renews_named, set_named, root_named}
use Rattle.run_model.proofs.LiveFacts.{read_snoc, task_snoc, task_old, task_within, one_started, task_then, task_was}
use Rattle.run_model.proofs.NumbersParts.{next_row, started_runs, held_starts}
use Rattle.run_model.proofs.RunsFacts.{running_task, running_within}
use Rattle.run_model.proofs.UsedFacts.{Uses}
use Rattle.run_model.proofs.UsedSound.{SuperFits, sound_of, out_of}
use Rattle.run_model.proofs.UsesFacts.{uses_named, uses_body, uses_drawn, uses_none, uses_ended, uses_root}
use Rattle.run_model.proofs.BlocksParts.{Core, core_fit, core_has, Newly, newly, core_fewer, core_none, core_placed, core_block, supers_length}
use Rattle.run_model.proofs.BlocksInvariant.{class_of_call, BlocksStand}
use Rattle.run_model.proofs.Reached.{IsNextRoot}

-- a superblock where no block was placed
abbrev unplaced : Super
unplaced = record { class = 0; ever = 0 }

-- every class is at most 3
pub class_fits : (words : ℕ) → class_for words ≤ 3
class_fits words = by (nat_le words 8) (nat_le words 16) (nat_le words 32)
  where
    by : (a b c : Bool) → cond a 0 (cond b 1 (cond c 2 3)) ≤ 3
    by true b c = omega arith
    by false true c = omega arith
    by false false true = omega arith
    by false false false = omega arith

-- a request has a class that there is, and it is the class of its call
pub request_fits : (p : Program) (c : Columns) (q : FrameOf ℕ) (request : Request) (to : ℕ) (retry : Bool) → Asks p c q request to retry → (request.class ≤ 3) × (class_of_call p request.call ≡ Some request.class)
request_fits p c q _ _ _ (Asks.calls line to call waits there e) = (class_fits (1 + variables_of p call.kind), refl)
request_fits p c q _ _ _ (Asks.gathers line to members there e) = (class_fits (1 + length (tasks_named q members)), refl)

-- the blocks of tasks: a task has one, of the class of its call
pub record Owned (p : Program) (rows : List ActivationRow) (calls : List Accepted) (blocks : List (Option BlockState)) : Type 0 where
  pub owned : (t : ℕ) → HasTask rows t → IsSome (found blocks t)
  pub of_task : (t : ℕ) → IsSome (found blocks t) → HasTask rows t
  pub classes : (t class : ℕ) (call : Accepted) (block : BlockState) → by_number calls t ≡ Some call → found blocks t ≡ Some block → class_of_call p call ≡ Some class → block.class ≡ class

pub record BlocksHeld (p : Program) (plan : RunPlan) (r : Run) : Type 0 where
  pub supers : length r.supers ≡ plan.superblocks
  pub core : Core plan.units r.roots r.bodies r.blocks r.supers
  pub owned : Owned p r.journal.rows r.calls r.blocks

module _ (p : Program) (plan : RunPlan) (geometry : IsGeometry plan.superblocks plan.units) where
  -- the pool of the blocks in use is sound
  pub held_sound : (r : Run) → BlocksHeld p plan r → IsSound (pool_of plan.units r)
  held_sound r now =
      sound_of plan.units r.supers (used_from r.roots r.bodies 1 r.blocks) (unit_count plan.units geometry.units_fit) (core_fit plan.units r.roots r.bodies r.blocks r.supers now.core)
      (omega (arith, now.supers, geometry.superblocks_fit)) (omega (arith, now.supers, geometry.superblocks_fit))

  -- a block that the pool gives stands apart from all that are in use
  pub held_newly : (r : Run) (class : ℕ) (block : BlockState) → class ≤ 3 → BlocksHeld p plan r → placed (pool_of plan.units r) class ≡ Some block → Newly plan.units r.supers (used_from r.roots r.bodies 1 r.blocks) class block
  held_newly r class block fits now e =
      let (new, gives) = MatchOption-at_some (HasNoRoom (pool_of plan.units r) class) (λ (b : BlockState). (new : PoolState) × Gives (pool_of plan.units r) class b new) block e (placed_gives (pool_of plan.units r) class fits (held_sound r now)) in
      newly plan.units r.supers (used_from r.roots r.bodies 1 r.blocks) class block new (unit_count plan.units geometry.units_fit) fits (core_fit plan.units r.roots r.bodies r.blocks r.supers now.core) gives

  -- where the pool gives none, it has no room for the class
  pub held_full : (r : Run) (class : ℕ) → class ≤ 3 → BlocksHeld p plan r → placed (pool_of plan.units r) class ≡ None → HasNoRoom (pool_of plan.units r) class
  held_full r class fits now e = MatchOption-at_none (HasNoRoom (pool_of plan.units r) class) (λ (b : BlockState). (new : PoolState) × Gives (pool_of plan.units r) class b new) e (placed_gives (pool_of plan.units r) class fits (held_sound r now))

  -- what stands is what is kept, seen as a pool
  pub blocks_stand : (r : Run) → BlocksHeld p plan r → BlocksStand p plan r
  blocks_stand r now =
      let fit = core_fit plan.units r.roots r.bodies r.blocks r.supers now.core in
      record {
        supers = now.supers;
        sound = held_sound r now;
        owned = now.owned.owned;
        of_task = now.owned.of_task;
        out = λ t block e used. let (i, there) = core_has r.roots r.bodies r.blocks t block e used in out_of plan.units r.supers (used_from r.roots r.bodies 1 r.blocks) (unit_count plan.units geometry.units_fit) fit i block there;
        apart = λ t u block e f used_t used_u. now.core.apart t u block e f ((Rattle.run_model.proofs.UsedFacts.in_use r.roots r.bodies t).0 used_t) ((Rattle.run_model.proofs.UsedFacts.in_use r.roots r.bodies u).0 used_u);
        classes = now.owned.classes;
      }

-- a new task has its block
owned_drawn : (p : Program) (rows : List ActivationRow) (calls : List Accepted) (blocks : List (Option BlockState)) (row : ActivationRow) (call : Accepted) (block : BlockState) (class : ℕ)
    → length calls ≡ length rows → length blocks ≡ length rows → row.task ≡ suc (length rows) → class_of_call p call ≡ Some class → block.class ≡ class → Owned p rows calls blocks
    → Owned p (rows ++ row ∷ []) (calls ++ call ∷ []) (blocks ++ Some block ∷ [])
owned_drawn p rows calls blocks row call block class as_calls as_blocks is_new class_is of_class now = record { owned = owned; of_task = of_task; classes = classes }
  where
    other : (t : ℕ) → t ≢ suc (length rows) → found (blocks ++ Some block ∷ []) t ≡ found blocks t
    other t differ = found_other blocks (Some block) t (λ same. differ (same ∙ ap suc as_blocks))

    here : (t : ℕ) → t ≡ suc (length rows) → found (blocks ++ Some block ∷ []) t ≡ Some block
    here t same = found_new blocks (Some block) t (same ∙ sym (ap suc as_blocks))

    owned : (t : ℕ) → HasTask (rows ++ row ∷ []) t → IsSome (found (blocks ++ Some block ∷ []) t)
    owned t task = ⊎_elim (λ same. ap is_some (here t same)) (λ differ. ap is_some (other t differ) ∙ now.owned t (task_old rows row t differ task)) (cases_eq t (suc (length rows)))

    of_task : (t : ℕ) → IsSome (found (blocks ++ Some block ∷ []) t) → HasTask (rows ++ row ∷ []) t
    of_task t some =
        ⊎_elim (λ same. (row, ap (by_number (rows ++ row ∷ [])) same ∙ snoc_new rows row, is_new ∙ sym same))
        (λ differ. task_snoc rows row t (now.of_task t (sym (ap is_some (other t differ)) ∙ some))) (cases_eq t (suc (length rows)))

    classes : (t class' : ℕ) (call' : Accepted) (block' : BlockState) → by_number (calls ++ call ∷ []) t ≡ Some call' → found (blocks ++ Some block ∷ []) t ≡ Some block' → class_of_call p call' ≡ Some class' → block'.class ≡ class'
    classes t class' call' block' e f g =
        ⊎_elim
        (λ old. let within = number_within calls t call' old in
        now.classes t class' call' block' old (sym (other t (λ same. absurd (omega (arith, within.1, as_calls, same)))) ∙ f) g)
        (λ new.
        let is_block : block ≡ block' = same_Some block block' (sym (here t (new.0 ∙ ap suc as_calls)) ∙ f) in
        ap (λ (b : BlockState). b.class) (sym is_block) ∙ of_class ∙ same_Some class class' (sym class_is ∙ ap (class_of_call p) (sym new.1) ∙ g))
        (snoc_cases calls call t call' e)

-- a further activation has none
owned_none : (p : Program) (rows : List ActivationRow) (calls : List Accepted) (blocks : List (Option BlockState)) (row : ActivationRow) (t : ℕ) (waits : Option ℕ)
    → HasTask rows t → row.task ≡ t → Owned p rows calls blocks → Owned p (rows ++ row ∷ []) (calls ++ Respawn t waits ∷ []) (blocks ++ None ∷ [])
owned_none p rows calls blocks row t waits task is_t now = record { owned = owned; of_task = of_task; classes = classes }
  where
    same : (u : ℕ) → found (blocks ++ None ∷ []) u ≡ found blocks u
    same u = read_snoc flat blocks None refl u

    not_new : (u : ℕ) → HasTask (rows ++ row ∷ []) u → u ≢ suc (length rows)
    not_new u (other, there, e) is_new =
        let is_row : other ≡ row = same_Some other row (sym there ∙ ap (by_number (rows ++ row ∷ [])) is_new ∙ snoc_new rows row) in
        absurd (omega (arith, (task_within rows t task).1, ap (λ (k : ActivationRow). k.task) is_row, e, is_t, is_new))

    owned : (u : ℕ) → HasTask (rows ++ row ∷ []) u → IsSome (found (blocks ++ None ∷ []) u)
    owned u has = ap is_some (same u) ∙ now.owned u (task_old rows row u (not_new u has) has)

    of_task : (u : ℕ) → IsSome (found (blocks ++ None ∷ []) u) → HasTask (rows ++ row ∷ []) u
    of_task u some = task_snoc rows row u (now.of_task u (sym (ap is_some (same u)) ∙ some))

    classes : (u class : ℕ) (call : Accepted) (block : BlockState) → by_number (calls ++ Respawn t waits ∷ []) u ≡ Some call → found (blocks ++ None ∷ []) u ≡ Some block → class_of_call p call ≡ Some class → block.class ≡ class
    classes u class call block e f g =
        ⊎_elim (λ old. now.classes u class call block old (sym (same u) ∙ f) g) (λ new. absurd (none-some class (ap (class_of_call p) (sym new.1) ∙ g))) (snoc_cases calls (Respawn t waits) u call e)

module _ (p : Program) (plan : RunPlan) (geometry : IsGeometry plan.superblocks plan.units) where
  arrives_blocks : (r : Run) (n : ℕ) (after : Option ℕ) → BlocksHeld p plan r → BlocksHeld p plan (arrives r n after)
  arrives_blocks r n None now = record { supers = now.supers; core = now.core; owned = now.owned }
  arrives_blocks r n (Some u) now = by (found r.outcomes u)
    where
      by : (o : Option Outcome) → BlocksHeld p plan (waits_or_queues o r n u)
      by None = record { supers = now.supers; core = now.core; owned = now.owned }
      by (Some outcome) = record { supers = now.supers; core = now.core; owned = now.owned }

  -- before the first root no block is in use
  pub blocks_first : BlocksHeld p plan (at_first plan)
  blocks_first = record {
    supers = length_replicate plan.superblocks;
    core = record {
      placed = λ t b e. absurd (none-some b (sym (ap flat (none_of_empty t)) ∙ e));
      apart = λ t u b e. absurd (none-some b (sym (ap flat (none_of_empty t)) ∙ e));
      supers_fit = λ place super e. let is_new = all_new plan.superblocks place super e in
          subst (λ (s : Super). SuperFits plan.units [] place s) is_new (record { class_fits = omega arith; ever_fits = omega arith; ever_counts = omega arith });
    };
    owned = record {
      owned = λ t task. absurd (none-some task.0 (sym (none_of_empty t) ∙ task.1));
      of_task = λ t some. absurd (false≢true (sym (ap is_some (ap flat (none_of_empty t))) ∙ some));
      classes = λ t class call block e. absurd (none-some call (sym (none_of_empty t) ∙ e));
    };
  }
    where
      length_replicate : (n : ℕ) → length (replicate n unplaced) ≡ n
      length_replicate zero = refl
      length_replicate (suc n) = ap suc (length_replicate n)

      all_new : (n place : ℕ) (super : Super) → slice_get (replicate n unplaced) place ≡ Some super → unplaced ≡ super
      all_new zero place super e = absurd (none-some super e)
      all_new (suc n) zero super e = same_Some unplaced super e
      all_new (suc n) (suc place) super e = all_new n place super e

  -- a root's word that names none
  nameless : (r : Run) (word : RootWord) → ((u : ℕ) → word ≢ Named u) → BlocksHeld p plan r → Core plan.units (r.roots ++ word ∷ []) r.bodies r.blocks r.supers
  nameless r word differ now = core_fewer plan.units (unit_count plan.units geometry.units_fit) r.roots r.bodies r.blocks r.supers now.core (r.roots ++ word ∷ []) r.bodies (λ u used. uses_root r.roots r.bodies word u (differ u) used)

  -- a root's move keeps the blocks in use apart
  pub blocks_root : (r s : Run) (root : RootLine) → IsNextRoot p r root → NumbersStand r → BlocksHeld p plan r → RootMove p plan.units r root s → BlocksHeld p plan s
  blocks_root r _ root next held now (RootMove.named block free e some) =
      let new = held_newly p plan geometry r request.class block (class_fits (1 + variables_of p root.kind)) now e in
      arrives_blocks (with_root (accepts plan.units r request block) (Named (next_number r.journal))) (next_number r.journal) request.after
      (record {
        supers = supers_length plan.units (unit_count plan.units geometry.units_fit) r.roots r.bodies r.blocks r.supers now.core request.class block (class_fits (1 + variables_of p root.kind)) new ∙ now.supers;
        core = core_block plan.units (unit_count plan.units geometry.units_fit) r.roots r.bodies r.blocks r.supers now.core request.class block (class_fits (1 + variables_of p root.kind)) new
            (r.roots ++ Named (next_number r.journal) ∷ []) (r.bodies ++ Some request.body ∷ []) less;
        owned = owned_drawn p r.journal.rows r.calls r.blocks (record { task = next_number r.journal; after = request.after; start = None }) request.call block request.class
            held.beside.of_calls held.beside.of_blocks refl refl (ap (λ (b : BlockState). b.class) new.block_is) now.owned;
      })
    where
      request : Request
      request = root_request p r root

      less : (u : ℕ) → Uses (r.roots ++ Named (next_number r.journal) ∷ []) (r.bodies ++ Some (root_request p r root).body ∷ []) u → u ≢ suc (length r.blocks) → Uses r.roots r.bodies u
      less u used differ =
          uses_drawn r.roots r.bodies (root_request p r root).body u (λ named. inr (inl (root_named p r root u (inl named)))) (λ same. differ (same ∙ ap suc held.beside.of_bodies ∙ sym (ap suc held.beside.of_blocks)))
          (uses_root r.roots (r.bodies ++ Some (root_request p r root).body ∷ []) (Named (next_number r.journal)) u (λ same. differ (sym (same_named same) ∙ sym (ap suc held.beside.of_blocks))) used)
        where
          same_named : Named (next_number r.journal) ≡ Named u → next_number r.journal ≡ u
          same_named e = cc
  blocks_root r _ root next held now (RootMove.skipped first e) = record { supers = now.supers; core = nameless r (Skipped first.0 first.1) (λ u same. absurd (differ u same)) now; owned = now.owned }
    where
      differ : (u : ℕ) → Skipped first.0 first.1 ≡ Named u → ⊥
      differ u same = cc
  blocks_root r _ root next held now (RootMove.refused tag notes free how) = by tag notes how
    where
      differ : (tag : CutTag) (u : ℕ) → Refused tag ≡ Named u → ⊥
      differ tag u same = cc

      by : (tag : CutTag) (notes : Notes) → RefusesRoot p plan.units r root tag notes → BlocksHeld p plan (with_root (with_notes r notes) (Refused tag))
      by _ _ (RefusesRoot.no_block e) = let core = nameless r (Refused Null) (λ u same. absurd (differ Null u same)) now in record { supers = now.supers; core = core; owned = now.owned }
      by _ _ (RefusesRoot.no_number block e none) =
          let class = kind_class p root.kind in
          let fits = class_fits (1 + variables_of p root.kind) in
          let units_fit = unit_count plan.units geometry.units_fit in
          let new = held_newly p plan geometry r class block fits now e in
          let core = core_placed plan.units units_fit r.roots r.bodies r.blocks r.supers now.core class block fits new in
          record {
            supers = supers_length plan.units units_fit r.roots r.bodies r.blocks r.supers now.core class block fits new ∙ now.supers;
            core = core_fewer plan.units units_fit r.roots r.bodies r.blocks (supers_with plan.units r.supers block) core (r.roots ++ Refused Limit ∷ []) r.bodies (λ u used. uses_root r.roots r.bodies (Refused Limit) u (λ same. absurd (differ Limit u same)) used);
            owned = now.owned;
          }

  module _ (c : Columns) where
    -- a renewal changes no superblock
    renewed_supers : (r : Run) (n : ℕ) (body to : Body) (after : Option ℕ) (priority : Priority) (notes : Notes) → Renews p c plan.units r n body to after priority notes → r.supers ≡ notes.supers
    renewed_supers r n _ _ _ _ _ (Renews.again q line target waits there e) = refl
    renewed_supers r n _ _ _ _ _ (Renews.retries q request to how e) = refl
    renewed_supers r n _ _ _ _ _ (Renews.behind members next u e) = refl

    -- beside a refusal a block may have been placed
    refused_core : (r : Run) (n : ℕ) (body : Body) (tag : CutTag) (notes : Notes) → Refuses p c plan.units r n body tag notes → BlocksHeld p plan r
        → Core plan.units r.roots r.bodies r.blocks notes.supers × (length notes.supers ≡ plan.superblocks)
    refused_core r n _ _ _ (Refuses.no_block q request to how e) now = (now.core, now.supers)
    refused_core r n _ _ _ (Refuses.no_number q request to retry block how e none) now =
        let fits = (request_fits p c q request to retry how).0 in
        let units_fit = unit_count plan.units geometry.units_fit in
        let new = held_newly p plan geometry r request.class block fits now e in (
          core_placed plan.units units_fit r.roots r.bodies r.blocks r.supers now.core request.class block fits new,
          supers_length plan.units units_fit r.roots r.bodies r.blocks r.supers now.core request.class block fits new ∙ now.supers,
        )
    refused_core r n _ _ _ (Refuses.no_renewal body to after priority notes how none) now =
        let same = renewed_supers r n body to after priority notes how in (subst (Core plan.units r.roots r.bodies r.blocks) same now.core, ap length (sym same) ∙ now.supers)

    -- the running task ends
    ended : (r : Run) (supers : List Super) (t m : ℕ) (body : Body) → NumbersStand r → RunsAt r t m body → Core plan.units r.roots r.bodies r.blocks supers → Core plan.units r.roots (put_number r.bodies t None) r.blocks supers
    ended r supers t m body held runs core =
        let within = running_within r [] held t m body runs in
        core_fewer plan.units (unit_count plan.units geometry.units_fit) r.roots r.bodies r.blocks supers core r.roots (put_number r.bodies t None)
        (λ u used. uses_ended r.roots r.bodies t u within.0 (omega (arith, within.1, held.beside.of_bodies)) used)

    started : (r : Run) (n : ℕ) (left : Queues) → NumbersStand r → next_queued r.ready ≡ Some (n, left) → BlocksHeld p plan r → BlocksHeld p plan (begins r n left)
    started r n left held next now =
        let (row, there, waits) = next_row r [] n left held next in
        let rows' = (begins r n left).journal.rows in
        let began = one_started r.journal.rows n (r.journal.stamps + 1) row there in
        record {
          supers = now.supers;
          core = now.core;
          owned = record {
            owned = λ t task. now.owned.owned t (task_was r.journal.rows rows' n (r.journal.stamps + 1) row there began t task);
            of_task = λ t some. task_then r.journal.rows rows' n (r.journal.stamps + 1) row there began t (now.owned.of_task t some);
            classes = now.owned.classes;
          };
        }

    -- each move keeps the blocks in use apart
    pub blocks_move : (r s : Run) → NumbersStand r → BlocksHeld p plan r → Move p c plan.units r s → BlocksHeld p plan s
    blocks_move r _ held now (Move.goes_on t n q next runs goes) = record {
      supers = now.supers;
      core = core_fewer plan.units (unit_count plan.units geometry.units_fit) r.roots r.bodies r.blocks r.supers now.core r.roots (put_number r.bodies t (Some (OfKind next)))
          (λ u used. uses_body r.roots r.bodies t (OfKind q) (OfKind next) u runs.has (λ named. uses_named r.roots r.bodies t u (OfKind q) runs.has (goes_names p c r q next u goes named)) used);
      owned = now.owned;
    }
    blocks_move r _ held now (Move.spawned t n to q request retry block runs asks e some) =
        let (fits, class_is) = request_fits p c q request to retry asks in
        let units_fit = unit_count plan.units geometry.units_fit in
        let new = held_newly p plan geometry r request.class block fits now e in
        arrives_blocks (with_body (accepts plan.units r request block) t goes_to) (next_number r.journal) request.after
        (record {
          supers = supers_length plan.units units_fit r.roots r.bodies r.blocks r.supers now.core request.class block fits new ∙ now.supers;
          core = core_block plan.units units_fit r.roots r.bodies r.blocks r.supers now.core request.class block fits new r.roots (put_number (r.bodies ++ Some request.body ∷ []) t (Some goes_to)) less;
          owned = owned_drawn p r.journal.rows r.calls r.blocks (record { task = next_number r.journal; after = request.after; start = None }) request.call block request.class
              held.beside.of_calls held.beside.of_blocks refl class_is (ap (λ (b : BlockState). b.class) new.block_is) now.owned;
        })
      where
        goes_to : Body
        goes_to = OfKind (set_future q to (Some (next_number r.journal)))

        has_then : found (r.bodies ++ Some request.body ∷ []) t ≡ Some (OfKind q)
        has_then = found_old r.bodies (Some request.body) t (OfKind q) runs.has

        less : (u : ℕ) → Uses r.roots (put_number (r.bodies ++ Some request.body ∷ []) t (Some goes_to)) u → u ≢ suc (length r.blocks) → Uses r.roots r.bodies u
        less u used differ =
            uses_drawn r.roots r.bodies request.body u (λ named. uses_named r.roots r.bodies t u (OfKind q) runs.has (asks_named p c q request to u retry asks (inl named)))
            (λ same. differ (same ∙ ap suc held.beside.of_bodies ∙ sym (ap suc held.beside.of_blocks)))
            (uses_body r.roots (r.bodies ++ Some request.body ∷ []) t (OfKind q) goes_to u has_then
            (λ named. ⊎_elim (λ new. absurd (differ (sym new ∙ sym (ap suc held.beside.of_blocks)))) (λ old. uses_named r.roots (r.bodies ++ Some request.body ∷ []) t u (OfKind q) has_then old) (set_named q to (next_number r.journal) u named)) used)
    blocks_move r _ held now (Move.respawned t n body to after priority notes runs renews some) =
        let same = renewed_supers r n body to after priority notes renews in
        let units_fit = unit_count plan.units geometry.units_fit in
        let fewer = core_fewer plan.units units_fit r.roots r.bodies r.blocks r.supers now.core r.roots (put_number (r.bodies ++ None ∷ []) t (Some to)) less in
        arrives_blocks (with_body (record (draws (with_notes r notes) (Some t) after priority (Respawn t after) None None) { running = None }) t to) (next_number r.journal) after
        (record {
          supers = ap length (sym same) ∙ now.supers;
          core = subst (Core plan.units r.roots (put_number (r.bodies ++ None ∷ []) t (Some to)) (r.blocks ++ None ∷ [])) same (core_none plan.units units_fit r.roots (put_number (r.bodies ++ None ∷ []) t (Some to)) r.blocks r.supers fewer);
          owned = owned_none p r.journal.rows r.calls r.blocks (record { task = t; after = after; start = None }) t after (running_task r [] held t n body runs) refl now.owned;
        })
      where
        has_then : found (r.bodies ++ None ∷ []) t ≡ Some body
        has_then = found_old r.bodies None t body runs.has

        less : (u : ℕ) → Uses r.roots (put_number (r.bodies ++ None ∷ []) t (Some to)) u → Uses r.roots r.bodies u
        less u used =
            uses_none r.roots r.bodies u
            (uses_body r.roots (r.bodies ++ None ∷ []) t body to u has_then (λ named. uses_named r.roots (r.bodies ++ None ∷ []) t u body has_then (renews_named p c plan.units r n u body to after priority notes renews (inl named))) used)
    blocks_move r _ held now (Move.gave t n body v runs answers) = record { supers = now.supers; core = ended r r.supers t n body held runs now.core; owned = now.owned }
    blocks_move r _ held now (Move.refused t n body tag notes runs refuses) =
        let (core, long) = refused_core r n body tag notes refuses now in record { supers = long; core = ended r notes.supers t n body held runs core; owned = now.owned }
    blocks_move r _ held now (Move.started n left idle next uncut) = started r n left held next now
    blocks_move r _ held now (Move.cut_at_start n left row u tag idle next there after cut) =
        let (body, runs) = started_runs r n left row held idle next there in
        let began = started r n left held next now in
        record { supers = began.supers; core = ended (begins r n left) r.supers row.task n body (held_starts r n left held idle next) runs began.core; owned = began.owned }
