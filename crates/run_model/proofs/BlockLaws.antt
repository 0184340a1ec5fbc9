-- The laws of the blocks in use.
use Rattle.std.proofs.Common.{◌≡◌, ℕ, suc, ◌+◌, ◌≤◌, Option, Some, None, List, [], ◌∷◌, ◌++◌, length, refl, sym, ◌∙◌, ap, inl, inr, ⊎_elim, arith}
use Rattle.std.specs.Option.{is_some}
use Rattle.std.proofs.lemmas.Bool.{cases_eq}
use Rattle.std.proofs.lemmas.Option.{none-some}
use Rattle.task_syntax.specs.declared.program.Root.{Root as RootLine}
use Rattle.task_syntax.specs.declared.program.Program.{Program}
use Rattle.task_syntax.specs.declared.columns.Columns.{Columns}
use Rattle.task_meaning.specs.Worths.{Respawn}
use Rattle.task_meaning.specs.Frame.{set_future, variables_of}
use Rattle.frame_code.specs.Words.{OfKind, OfMembers}
use Rattle.kt_words.specs.Ranges.{IsGeometry}
use Rattle.kt_words.proofs.Powers.{unit_count}
use Rattle.pool_core.specs.Blocks.{BlockState, HasUnit}
use Rattle.pool_core.specs.Pool.{IsSound}
use Rattle.pool_core.proofs.Apart.{blocks_apart as pool_apart}
use Rattle.record_core.specs.Numbers.{flat, found}
use Rattle.record_core.specs.Journal.{next_number}
use Rattle.record_core.specs.EndSeen.{RunPlan}
use Rattle.record_core.specs.RootEnds.{roots_named}
use Rattle.run_model.specs.State.{Body, Outcome, Named, Run}
use Rattle.run_model.specs.Placing.{pool_of, placed, used_from, supers_with}
use Rattle.run_model.specs.Step.{Request, arrives, waits_or_queues, accepts, draws, with_body, with_root, root_request, first_taskless, step, asks_root, at_first}
use Rattle.run_model.specs.Move.{with_notes, Move, RootMove, StaysOrMoves}
use Rattle.run_model.specs.End.{state_at}
use Rattle.run_model.specs.Laws.{IsReferred, roots_asked, BlocksAreApart, PoolsAreSound}
use Rattle.run_model.proofs.ByNumber.{found_new, found_other, found_old, found_within}
use Rattle.run_model.proofs.NumbersInvariant.{BodyNames, NumbersStand}
use Rattle.run_model.proofs.LiveFacts.{read_snoc}
use Rattle.run_model.proofs.NamesFacts.{asks_named, root_named}
use Rattle.run_model.proofs.Traversal.{step_moves, root_moves}
use Rattle.run_model.proofs.Reached.{IsNextRoot, asked_front, asks_append, always}
use Rattle.run_model.proofs.RunStands.{RunStands, run_first, run_root, run_move}
use Rattle.run_model.proofs.UsedFacts.{Uses, in_use}
use Rattle.run_model.proofs.UsedSound.{pool_with, sound_of, out_of}
use Rattle.run_model.proofs.UsesFacts.{uses_named, uses_drawn}
use Rattle.run_model.proofs.BlocksParts.{Core, core_fit, core_has, core_block, supers_length}
use Rattle.run_model.proofs.BlocksKept.{BlocksHeld, class_fits, held_sound, held_newly, request_fits, blocks_first, blocks_root, blocks_move}

-- numbers and blocks of every run
pub record WithBlocks (p : Program) (plan : RunPlan) (r : Run) : Type 0 where
  pub run : RunStands p plan.limit r
  pub blocks : BlocksHeld p plan r

first_with : (p : Program) (plan : RunPlan) → IsGeometry plan.superblocks plan.units → WithBlocks p plan (at_first plan)
first_with p plan geometry = record { run = run_first p plan; blocks = blocks_first p plan geometry }

root_with : (p : Program) (plan : RunPlan) → IsGeometry plan.superblocks plan.units → (r s : Run) (root : RootLine) → IsNextRoot p r root → WithBlocks p plan r → RootMove p plan.units r root s → WithBlocks p plan s
root_with p plan geometry r s root next now move = record { run = run_root p plan.limit plan.units r s root next now.run move; blocks = blocks_root p plan geometry r s root next now.run.numbers now.blocks move }

-- at each step of each run, blocks in use stand apart in a sound pool
pub blocks_always : (p : Program) (c : Columns) (plan : RunPlan) → IsGeometry plan.superblocks plan.units → (taken : ℕ) → WithBlocks p plan (state_at p c plan taken)
blocks_always p c plan geometry taken = always p c plan (WithBlocks p plan) (record {
  first = first_with p plan geometry;
  root = root_with p plan geometry;
  move = λ r s now move. record { run = run_move p c plan.limit plan.units r s now.run move; blocks = blocks_move p plan geometry c r s now.run.numbers now.blocks move };
}) taken

-- the pool of a run is sound at each step
pub pools_sound : PoolsAreSound
pools_sound p c plan taken geometry = held_sound p plan geometry (state_at p c plan taken) (blocks_always p c plan geometry taken).blocks

-- what something refers to is in use
referred_used : (r : Run) (u : ℕ) → NumbersStand r → IsReferred r u → Uses r.roots r.bodies u
referred_used r u held (IsReferred.unfinished task none) = inl ((held.live.has_body u task).1 none)
referred_used r u held (IsReferred.of_root at e) = inr (inl (at, e))
referred_used r u held (IsReferred.named t (OfKind q) e names) = uses_named r.roots r.bodies t u (OfKind q) e names
referred_used r u held (IsReferred.named t (OfMembers members next) e names) = uses_named r.roots r.bodies t u (OfMembers members next) e names

-- two tasks in use whose blocks share a unit are one
module _ (plan : RunPlan) (geometry : IsGeometry plan.superblocks plan.units) where
  core_apart : (roots : List Rattle.run_model.specs.State.RootWord) (bodies : List (Option Body)) (blocks : List (Option BlockState)) (supers : List Rattle.run_model.specs.State.Super) → Core plan.units roots bodies blocks supers → length supers ≡ plan.superblocks
      → (u w unit : ℕ) (one other : BlockState) → Uses roots bodies u → Uses roots bodies w → found blocks u ≡ Some one → found blocks w ≡ Some other → HasUnit one unit → HasUnit other unit → u ≡ w
  core_apart roots bodies blocks supers core long u w unit one other used_u used_w e f has_one has_other =
      let units_fit = unit_count plan.units geometry.units_fit in
      let bs = used_from roots bodies 1 blocks in
      let fit = core_fit plan.units roots bodies blocks supers core in
      let sound : IsSound (pool_with plan.units supers bs) = sound_of plan.units supers bs units_fit fit (omega (arith, long, geometry.superblocks_fit)) (omega (arith, long, geometry.superblocks_fit)) in
      let (i, there) = core_has roots bodies blocks u one e ((in_use roots bodies u).1 used_u) in
      let (j, there') = core_has roots bodies blocks w other f ((in_use roots bodies w).1 used_w) in
      let same : one ≡ other = pool_apart (pool_with plan.units supers bs) sound one other unit (out_of plan.units supers bs units_fit fit i one there) (out_of plan.units supers bs units_fit fit j other there') has_one has_other in
      core.apart u w other (e ∙ ap Some same) f used_u used_w

  -- a body more keeps in use what was
  uses_more : (roots : List Rattle.run_model.specs.State.RootWord) (bodies : List (Option Body)) (body : Body) (u : ℕ) → Uses roots bodies u → Uses roots (bodies ++ Some body ∷ []) u
  uses_more roots bodies body u (inl some) =
      let (x, e) = Rattle.run_model.proofs.ByNumber.has_some (found bodies u) some in inl (ap is_some (found_old bodies (Some body) u x e))
  uses_more roots bodies body u (inr (inl root)) = inr (inl root)
  uses_more roots bodies body u (inr (inr (t, other, e, named))) = inr (inr (t, other, found_old bodies (Some body) t other e, named))

-- an arrival gives no block
arrives_same : (r : Run) (n : ℕ) (after : Option ℕ) → (arrives r n after).blocks ≡ r.blocks
arrives_same r n None = refl
arrives_same r n (Some u) = by (found r.outcomes u)
  where
    by : (o : Option Outcome) → (waits_or_queues o r n u).blocks ≡ r.blocks
    by None = refl
    by (Some outcome) = refl

module _ (p : Program) (plan : RunPlan) (geometry : IsGeometry plan.superblocks plan.units) where
  -- the block of a new task, whose body names none but tasks in use, lies apart from the blocks of all in use
  new_apart : (r : Run) (request : Request) (block : BlockState) (u n unit : ℕ) (one other : BlockState) → NumbersStand r → BlocksHeld p plan r → request.class ≤ 3 → placed (pool_of plan.units r) request.class ≡ Some block
      → ((v : ℕ) → BodyNames request.body v → Uses r.roots r.bodies v) → Uses r.roots r.bodies u → found r.blocks u ≡ Some one → found r.blocks n ≡ None → found (r.blocks ++ Some block ∷ []) n ≡ Some other
      → HasUnit one unit → HasUnit other unit → ⊥
  new_apart r request block u n unit one other held now fits place names used e none there has_one has_other =
      let units_fit = unit_count plan.units geometry.units_fit in
      let new = held_newly p plan geometry r request.class block fits now place in
      let core = core_block plan.units units_fit r.roots r.bodies r.blocks r.supers now.core request.class block fits new r.roots (r.bodies ++ Some request.body ∷ [])
      (λ v used_v differ. uses_drawn r.roots r.bodies request.body v (names v) (λ same. differ (same ∙ ap suc held.beside.of_bodies ∙ sym (ap suc held.beside.of_blocks))) used_v) in
      let long = supers_length plan.units units_fit r.roots r.bodies r.blocks r.supers now.core request.class block fits new ∙ now.supers in
      let same : u ≡ n = core_apart plan geometry r.roots (r.bodies ++ Some request.body ∷ []) (r.blocks ++ Some block ∷ []) (supers_with plan.units r.supers block) core long u n unit one other
      (uses_more plan geometry r.roots r.bodies request.body u used) (inl (ap is_some (found_new r.bodies (Some request.body) n is_new_body))) (found_old r.blocks (Some block) u one e) there has_one has_other in
      none-some one (sym none ∙ ap (found r.blocks) (sym same) ∙ e)
    where
      is_new : n ≡ suc (length r.blocks)
      is_new = ⊎_elim (λ same. same) (λ differ. absurd (none-some other (sym none ∙ sym (found_other r.blocks (Some block) n differ) ∙ there))) (cases_eq n (suc (length r.blocks)))

      is_new_body : n ≡ suc (length r.bodies)
      is_new_body = is_new ∙ ap suc held.beside.of_blocks ∙ sym (ap suc held.beside.of_bodies)

  -- the same of a root that is asked for
  root_apart : (r s : Run) (root : RootLine) (u n unit : ℕ) (one other : BlockState) → NumbersStand r → BlocksHeld p plan r → RootMove p plan.units r root s → Uses r.roots r.bodies u → found r.blocks u ≡ Some one → found r.blocks n ≡ None → found s.blocks n ≡ Some other
      → HasUnit one unit → HasUnit other unit → ⊥
  root_apart r _ root u n unit one other held now (RootMove.skipped first taskless) used e none f has_one has_other = none-some other (sym none ∙ f)
  root_apart r _ root u n unit one other held now (RootMove.refused tag notes free refuses) used e none f has_one has_other = none-some other (sym none ∙ f)
  root_apart r _ root u n unit one other held now (RootMove.named block free place some) used e none f has_one has_other =
      new_apart r (root_request p r root) block u n unit one other held now (class_fits (1 + variables_of p root.kind)) place (λ v named. inr (inl (root_named p r root v (inl named)))) used e none
      (ap (λ xs. found xs n) (sym (arrives_same (with_root (accepts plan.units r (root_request p r root) block) (Named (next_number r.journal))) (next_number r.journal) (root_request p r root).after)) ∙ f) has_one has_other

module _ (p : Program) (c : Columns) (plan : RunPlan) (geometry : IsGeometry plan.superblocks plan.units) where
  -- a step that gives a block is a spawn
  given_apart : (r s : Run) (u n unit : ℕ) (one other : BlockState) → NumbersStand r → BlocksHeld p plan r → StaysOrMoves p c plan.units r s → Uses r.roots r.bodies u → found r.blocks u ≡ Some one → found r.blocks n ≡ None → found s.blocks n ≡ Some other
      → HasUnit one unit → HasUnit other unit → ⊥
  given_apart r s u n unit one other held now (inl stays) used e none f has_one has_other = none-some other (sym none ∙ ap (λ (x : Run). found x.blocks n) (sym stays.0) ∙ f)
  given_apart r _ u n unit one other held now (inr (Move.goes_on t m q next runs goes)) used e none f has_one has_other = none-some other (sym none ∙ f)
  given_apart r _ u n unit one other held now (inr (Move.gave t m body v runs answers)) used e none f has_one has_other = none-some other (sym none ∙ f)
  given_apart r _ u n unit one other held now (inr (Move.refused t m body tag notes runs refuses)) used e none f has_one has_other = none-some other (sym none ∙ f)
  given_apart r _ u n unit one other held now (inr (Move.started m left idle next uncut)) used e none f has_one has_other = none-some other (sym none ∙ f)
  given_apart r _ u n unit one other held now (inr (Move.cut_at_start m left row w tag idle next there after cut)) used e none f has_one has_other = none-some other (sym none ∙ f)
  given_apart r _ u n unit one other held now (inr (Move.respawned t m body to after priority notes runs renews some)) used e none f has_one has_other =
      none-some other (sym none ∙ sym (read_snoc flat r.blocks None refl n)
      ∙ ap (λ xs. found xs n) (sym (arrives_same (with_body (record (draws (with_notes r notes) (Some t) after priority (Respawn t after) None None) { running = None }) t to) (next_number r.journal) after)) ∙ f)
  given_apart r _ u n unit one other held now (inr (Move.spawned t m to q request retry block runs asks place some)) used e none f has_one has_other =
      new_apart p plan geometry r request block u n unit one other held now (request_fits p c q request to retry asks).0 place
      (λ v named. uses_named r.roots r.bodies t v (OfKind q) runs.has (asks_named p c q request to v retry asks (inl named))) used e none
      (ap (λ xs. found xs n) (sym (arrives_same (with_body (accepts plan.units r request block) t (OfKind (set_future q to (Some (next_number r.journal))))) (next_number r.journal) request.after)) ∙ f) has_one has_other

-- blocks in use stand apart at each step
pub blocks_apart : BlocksAreApart
blocks_apart = record {
  held = λ p c plan taken u w unit one other geometry ref_u ref_w e f has_one has_other.
      let now = blocks_always p c plan geometry taken in
      let r = state_at p c plan taken in
      core_apart plan geometry r.roots r.bodies r.blocks r.supers now.blocks.core now.blocks.supers u w unit one other (referred_used r u now.run.numbers ref_u) (referred_used r w now.run.numbers ref_w) e f has_one has_other;
  given = λ p c plan taken u n unit one other geometry ref_u e none f has_one has_other.
      let now = blocks_always p c plan geometry taken in
      let r = state_at p c plan taken in
      given_apart p c plan geometry r (step p c plan.units r) u n unit one other now.run.numbers now.blocks (step_moves p c plan.units r) (referred_used r u now.run.numbers ref_u) e none f has_one has_other;
  asked = λ p plan before more root u n unit one other geometry split ref_u e none f has_one has_other.
      let now = (asked_front p plan (WithBlocks p plan) (root_with p plan geometry) (first_with p plan geometry) before (root ∷ more) split).kept in
      let r = roots_asked p plan before in
      let then : found (asks_root p plan.units r root (first_taskless r.roots (roots_named root))).blocks n ≡ Some other = ap (λ (x : Run). found x.blocks n) (sym (asks_append p plan.units (at_first plan) before (root ∷ []))) ∙ f in
      root_apart p plan geometry r (asks_root p plan.units r root (first_taskless r.roots (roots_named root))) root u n unit one other now.run.numbers now.blocks (root_moves p plan.units r root) (referred_used r u now.run.numbers ref_u) e none then has_one has_other;
}
