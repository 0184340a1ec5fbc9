-- The next root is asked for: it is skipped, refused, or has a task.
use Rattle.std.proofs.Common.{◌≡◌, ℕ, zero, suc, ◌+◌, ◌<◌, ◌≤◌, ◌^◌, cond, Option, Some, None, List, [], ◌∷◌, ◌++◌, length, map, slice_get, refl, sym}
use Rattle.std.proofs.Common.{◌∙◌, ap, subst, take, inl, inr, arith}
use Rattle.std.specs.Option.{option_map, option_or}
use Rattle.std.proofs.lemmas.Option.{none-some, same_Some, slice_get_within}
use Rattle.task_syntax.specs.declared.program.RootArgument.{RootArgument}
use Rattle.task_syntax.specs.declared.program.RootArgument.TheVariants as root_argument
use Rattle.task_syntax.specs.declared.program.Root.{Root as RootLine}
use Rattle.task_syntax.specs.declared.program.Program.{Program}
use Rattle.task_meaning.specs.Meant.{future_at}
use Rattle.task_meaning.specs.Frame.{renamed, call_with, entry, variables_of}
use Rattle.task_meaning.specs.Roots.{root_number, root_future, root_call}
use Rattle.task_meaning.specs.RootLaws.{root_waits}
use Rattle.task_meaning.proofs.Renaming.{future_at-renamed, entry-renamed}
use Rattle.pool_core.specs.Blocks.{BlockState}
use Rattle.pool_core.specs.Pool.{PoolState, Gives}
use Rattle.frame_code.specs.Words.{OfKind, body_of}
use Rattle.frame_code.specs.Frames.{IsFrame}
use Rattle.frame_code.specs.Names.{names_of, body_with}
use Rattle.record_core.specs.Numbers.{HasTask}
use Rattle.record_core.specs.Journal.{next_number}
use Rattle.record_core.specs.EndSeen.{RunPlan}
use Rattle.record_core.specs.EndSound.{kind_class}
use Rattle.record_core.specs.RootEnds.{roots_named}
use Rattle.record_core.specs.declared.rows.ActivationRow.{ActivationRow}
use Rattle.record_core.specs.declared.rows.CutTag.TheVariants.{Null, Limit}
use Rattle.run_model.specs.State.{Named, Refused, Skipped, RootWord, Run}
use Rattle.run_model.specs.Placing.{pool_of, placed}
use Rattle.run_model.specs.Step.{Request, arrives, accepts, places, counts_null, own_task, own_tasks, taskless as taskless_word, first_taskless}
use Rattle.run_model.specs.Step.{with_root as run_with_root, root_request, asks_root, asks_root_with, asks_roots, at_first}
use Rattle.run_model.proofs.ByNumber.{snoc_new}
use Rattle.run_model.proofs.LiveFacts.{task_within}
use Rattle.run_model.proofs.NumbersInvariant.{NumbersHeld}
use Rattle.run_model.proofs.NumbersParts.{held_root}
use Rattle.run_model.proofs.NamesFacts.{root_named}
use Rattle.run_model.proofs.BlocksKept.{class_fits}
use Rattle.run_model.proofs.UsedFacts.{in_use}
use Rattle.run_model.proofs.Traversal.{root_moves}
use Rattle.run_model.proofs.Reached.{HasAsked, one_more_root, asks_append}
use Rattle.plain_state.specs.declared.record.RootState.{RootState}
use Rattle.plain_state.specs.declared.record.RootState.TheVariants as root
use Rattle.plain_state.specs.Engine.{EngineState, with_pool, with_root, null_counted}
use Rattle.plain_state.specs.Store.{without_block}
use Rattle.plain_state.specs.Moves.{behind_at, made_task, spawned, MayArrive, MaySpawn}
use Rattle.plain_state.specs.Sees.{Sees, root_state, unit_of}
use Rattle.plain_state.specs.Laws.{MayRun, Asked, cut_without_task, taskless_in, first_without_task, unit_in_root, root_units, root_first, root_after}
use Rattle.plain_state.specs.Laws.{AsksRoot, RootIsAsked, RootMayBeAsked}
use Rattle.plain_state.proofs.PoolParts.{gives_placed, no_room_placed}
use Rattle.plain_state.proofs.GrownLists.{cons_head, cons_tail}
use Rattle.plain_state.proofs.NewNames.{kind_fits}
use Rattle.plain_state.proofs.NewTask.{IsWanted}
use Rattle.plain_state.proofs.NotesSeen.{sees_null, sees_placed, sees_root}
use Rattle.plain_state.proofs.Makes.{Makes, makes, may_spawn}
use Rattle.plain_state.proofs.KnownRuns.{Known, known_asked, units_count, nulls_fit}
use Rattle.plain_state.proofs.NewArrives.{no_number_left, number_left}

-- words and states of roots, one beside the other
module _ (blocks : List (Option BlockState)) where
  -- a state of a root says how it was cut, as its word does
  cut_same : (word : RootWord) (state : RootState) → root_state blocks word ≡ Some state → cut_without_task state ≡ taskless_word (Some word)
  cut_same (Named t) state e = by (unit_of blocks t) e
    where
      by : (unit : Option ℕ) → option_map root.Named unit ≡ Some state → cut_without_task state ≡ None
      by None f = absurd (none-some state f)
      by (Some unit) f = ap cut_without_task (sym (same_Some (root.Named unit) state f))
  cut_same (Refused tag) state e = ap cut_without_task (sym (same_Some (root.Refused tag) state e))
  cut_same (Skipped at tag) state e = ap cut_without_task (sym (same_Some (root.Skipped at tag) state e))

  -- and the unit of its task
  unit_same : (word : RootWord) (state : RootState) → root_state blocks word ≡ Some state
      → unit_in_root state ≡ renamed (unit_of blocks) (own_task word)
  unit_same (Named t) state e = by (unit_of blocks t) e
    where
      by : (unit : Option ℕ) → option_map root.Named unit ≡ Some state → unit_in_root state ≡ unit
      by None f = absurd (none-some state f)
      by (Some unit) f = ap unit_in_root (sym (same_Some (root.Named unit) state f))
  unit_same (Refused tag) state e = ap unit_in_root (sym (same_Some (root.Refused tag) state e))
  unit_same (Skipped at tag) state e = ap unit_in_root (sym (same_Some (root.Skipped at tag) state e))

  -- the same of the root at a place
  at_same : (words : List RootWord) (states : List RootState) (place at : ℕ) → map (root_state blocks) words ≡ map (λ s. Some s) states
      → taskless_in at (slice_get states place) ≡ option_map (λ tag. (at, tag)) (taskless_word (slice_get words place))
  at_same [] [] place at e = refl
  at_same [] (state ∷ states) place at e = absurd (cc e)
  at_same (word ∷ words) [] place at e = absurd (cc e)
  at_same (word ∷ words) (state ∷ states) zero at e = ap (option_map (λ tag. (at, tag))) (cut_same word state (cons_head e))
  at_same (word ∷ words) (state ∷ states) (suc place) at e = at_same words states place at (cons_tail e)

  -- the first root without a task is the same
  first_same : (words : List RootWord) (states : List RootState) (ats : List ℕ) → map (root_state blocks) words ≡ map (λ s. Some s) states
      → first_without_task states ats ≡ first_taskless words ats
  first_same words states [] e = refl
  first_same words states (at ∷ more) e =
      ap (λ o. option_or o (first_without_task states more)) (at_same words states at at e)
      ∙ ap (option_or (option_map (λ tag. (at, tag)) (taskless_word (slice_get words at)))) (first_same words states more e)

  -- the units of the tasks of roots
  units_same : (words : List RootWord) (states : List RootState) → map (root_state blocks) words ≡ map (λ s. Some s) states
      → root_units states ≡ map (renamed (unit_of blocks)) (map own_task words)
  units_same [] [] e = refl
  units_same [] (state ∷ states) e = absurd (cc e)
  units_same (word ∷ words) [] e = absurd (cc e)
  units_same (word ∷ words) (state ∷ states) e =
      ap (λ o. o ∷ root_units states) (unit_same word state (cons_head e))
      ∙ ap (λ os. renamed (unit_of blocks) (own_task word) ∷ os) (units_same words states (cons_tail e))

  -- as many roots
  as_many : (words : List RootWord) (states : List RootState) → map (root_state blocks) words ≡ map (λ s. Some s) states
      → length states ≡ length words
  as_many [] [] e = refl
  as_many [] (state ∷ states) e = absurd (cc e)
  as_many (word ∷ words) [] e = absurd (cc e)
  as_many (word ∷ words) (state ∷ states) e = ap suc (as_many words states (cons_tail e))

-- the call of a root under other names
module _ (f : ℕ → Option ℕ) (own : List (Option ℕ)) where
  -- the arguments
  arguments_renamed : (arguments : List RootArgument) → map (root_future (map (renamed f) own)) arguments ≡ map (renamed f) (map
      (root_future own) arguments)
  arguments_renamed [] = refl
  arguments_renamed (root_argument.Number n ∷ more) = ap (λ os. None ∷ os) (arguments_renamed more)
  arguments_renamed (root_argument.Root at ∷ more) =
      ap (λ o. o ∷ map (root_future (map (renamed f) own)) more) (future_at-renamed f own at)
      ∙ ap (λ os. renamed f (future_at own at) ∷ os) (arguments_renamed more)

  -- the call
  call_renamed : (line : RootLine) → root_call (map (renamed f) own) line ≡ call_with f (root_call own line)
  call_renamed line = ap (λ futures. record { kind = line.kind; numbers = map root_number line.arguments; futures = futures })
      (arguments_renamed line.arguments)

  -- what it is behind
  waits_renamed : (behind : Option ℕ) → root_waits (map (renamed f) own) behind ≡ renamed f (root_waits own behind)
  waits_renamed None = refl
  waits_renamed (Some at) = future_at-renamed f own at

-- one root more
take_next : {A : Type 0} (xs : List A) (n : ℕ) (x : A) → slice_get xs n ≡ Some x → take (suc n) xs ≡ take n xs ++ x ∷ []
take_next [] n x e = absurd (none-some x e)
take_next (y ∷ xs) zero x e = ap (λ z. z ∷ []) (same_Some y x e)
take_next (y ∷ xs) (suc n) x e = ap (λ zs. y ∷ zs) (take_next xs n x e)

module _ (p : Program) (plan : RunPlan) (may : MayRun p plan) (e : EngineState) (done : ℕ) (asked : Asked p plan e done) (line : RootLine)
    (there : slice_get p.roots done ≡ Some line) where
  abbrev r : Run
  r = asked.run

  abbrev new : ℕ
  new = next_number asked.run.journal

  -- what is known of the run
  has : HasAsked p plan (Known p plan) done asked.run
  has = known_asked p plan may e done asked

  abbrev request : Request
  request = root_request p asked.run line

  abbrev f : ℕ → Option ℕ
  f = unit_of asked.run.blocks

  -- the units of the roots' tasks
  units_are : root_units e.roots ≡ map (renamed (unit_of asked.run.blocks)) (own_tasks asked.run)
  units_are = units_same asked.run.blocks asked.run.roots e.roots asked.sees.roots

  -- the call by units
  call_is : root_call (root_units e.roots) line ≡ call_with f (root_call (own_tasks asked.run) line)
  call_is = ap (λ us. root_call us line) units_are ∙ call_renamed f (own_tasks asked.run) line

  -- the first body by units
  first_is : root_first p e.roots line ≡ body_with f request.body
  first_is = ap (λ call. OfKind (entry p call)) call_is ∙ ap OfKind (sym (entry-renamed f p (root_call (own_tasks asked.run) line)))

  -- what the root wants is what it asks for in the run
  wanted : (first : List ℕ) → IsFrame p first → body_of p first ≡ root_first p e.roots line
      → IsWanted p asked.run request first (root_first p e.roots line) (root_after e.roots line) (kind_class p line.kind)
  wanted first frame says = record {
    class_is = refl;
    class_fits = class_fits (1 + variables_of p line.kind);
    frame = frame;
    says = says;
    units = first_is;
    holds = kind_fits p first (entry p (root_call (root_units e.roots) line)) frame says;
    after_is = ap (λ us. root_waits us line.behind) units_are ∙ waits_renamed f (own_tasks asked.run) line.behind;
    used = λ u names. let (at, named) = root_named p asked.run line u names in (in_use asked.run.roots asked.run.bodies u).1 (inr (inl (at, named)));
    tasks = λ u names. let (at, named) = root_named p asked.run line u names in has.kept.run.numbers.names.in_roots at u named;
  }

  -- the roots are as many
  roots_are : length e.roots ≡ done
  roots_are = as_many asked.run.blocks asked.run.roots e.roots asked.sees.roots ∙ has.roots

  -- one more null answer can be counted
  pub nulls_may : e.nulls + 1 < 2 ^ 64
  nulls_may = let few = nulls_fit p plan may asked.run has.kept in omega (arith, few, asked.sees.nulls)

  -- with a block and a number it has a task
  module _ (block : BlockState) (pool : PoolState) (first : List ℕ) (gives : Gives e.store.pool (kind_class p line.kind) block pool)
      (frame : IsFrame p first) (says : body_of p first ≡ root_first p e.roots line) where
    -- what it wants
    is : IsWanted p asked.run request first (root_first p e.roots line) (root_after e.roots line) (kind_class p line.kind)
    is = wanted first frame says

    abbrev task : EngineState
    task = made_task block pool line.priority (behind_at e.store (root_after e.roots line)) (names_of (root_first p e.roots line)) first e

    abbrev then : Run
    then = run_with_root (accepts plan.units asked.run request block) (Named (next_number asked.run.journal))

    abbrev new_row : ActivationRow
    new_row = record { task = next_number asked.run.journal; after = request.after; start = None }

    makes_it : Makes p plan.units None e asked.run request block pool first (root_first p e.roots line) (root_after e.roots line)
    makes_it = makes p plan may None e asked.run has.kept asked.sees request block pool first (root_first p e.roots line) (root_after e.roots line)
        (kind_class p line.kind) is gives

    -- the task is made
    made : Sees p plan.units (next_number asked.run.journal ∷ []) None task (accepts plan.units asked.run request block)
    made = makes_it.task (λ ws same. none-some (next_number asked.run.journal, ws) same)

    -- the root has the task
    rooted : Sees p plan.units [] None (with_root task (root.Named block.unit)) then
    rooted = sees_root p plan.units (next_number asked.run.journal ∷ []) [] None task (accepts plan.units asked.run request block) (Named
        (next_number asked.run.journal)) (root.Named block.unit) made (λ u. omega arith)
        (ap (option_map root.Named) makes_it.unit)

    -- its number is drawn, and has not arrived
    held : NumbersHeld then (next_number asked.run.journal ∷ [])
    held = held_root (accepts plan.units asked.run request block) (next_number asked.run.journal ∷ []) (Named (next_number asked.run.journal))
        makes_it.drawn
        (λ t same. let is_new = named_new t same in (
          subst (HasTask (asked.run.journal.rows ++ new_row ∷ [])) is_new (new_row, snoc_new asked.run.journal.rows new_row, refl),
          λ at stood. absurd (omega (arith, is_new, (task_within asked.run.journal.rows t (has.kept.run.numbers.names.in_roots at t stood)).1)),
        ))
      where
        named_new : (t : ℕ) → Named (next_number asked.run.journal) ≡ Named t → next_number asked.run.journal ≡ t
        named_new t same = cc

    -- it arrives
    arrived_root : MayArrive block.unit (behind_at e.store (root_after e.roots line)).waits task.store
        × Sees p plan.units [] None (with_root (spawned block pool line.priority (behind_at e.store (root_after e.roots line)) (names_of
        (root_first p e.roots line)) first None e) (root.Named block.unit)) (arrives then (next_number asked.run.journal) request.after)
    arrived_root = makes_it.arrives then.bodies then.roots [] None (with_root task (root.Named block.unit)) rooted held

    -- each call may be made
    pub may_root : MaySpawn block pool line.priority (behind_at e.store (root_after e.roots line)) (names_of (root_first p e.roots line)) first None e
    may_root = may_spawn p plan may None e asked.run has.kept asked.sees request block pool first (root_first p e.roots line)
        (root_after e.roots line) (kind_class p line.kind) is gives None tt arrived_root.0

  -- what is asked for is the next state
  abbrev next : Run
  next = asks_root p plan.units asked.run line (first_taskless asked.run.roots (roots_named line))

  -- one root more was asked for
  asked_next : asks_roots p plan.units (at_first plan) (take (done + 1) p.roots) ≡ next
  asked_next =
      let one_more : done + 1 ≡ suc done = omega arith in
      ap (λ n. asks_roots p plan.units (at_first plan) (take n p.roots)) one_more
      ∙ ap (asks_roots p plan.units (at_first plan)) (take_next p.roots done line there)
      ∙ asks_append p plan.units (at_first plan) (take done p.roots) (line ∷ []) ∙ ap (λ x. asks_roots p plan.units x (line ∷ [])) asked.asked

  -- the engine that stands for the next state
  next_asked : (now : EngineState) (s : Run) → next ≡ s → Sees p plan.units [] None now s → Asked p plan now (done + 1)
  next_asked now s same sees = record {
    run = next;
    asked = asked_next;
    within = let lt = slice_get_within p.roots done line there in omega (arith, lt);
    idle = (one_more_root p plan.units asked.run next line (root_moves p plan.units asked.run line)).running ∙ asked.idle;
    sees = subst (Sees p plan.units [] None now) (sym same) sees;
  }

  -- it names no root without a task
  free : first_without_task e.roots (roots_named line) ≡ None
      → next ≡ asks_root_with (placed (pool_of plan.units asked.run) (kind_class p line.kind)) plan.units asked.run request
  free none = ap (asks_root p plan.units asked.run line) (sym (first_same asked.run.blocks asked.run.roots e.roots
      (roots_named line) asked.sees.roots) ∙ none)

  -- the class of its block
  fits : kind_class p line.kind ≤ 3
  fits = class_fits (1 + variables_of p line.kind)

  -- the block that the pool gives is placed
  placed_is : (block : BlockState) (pool : PoolState) → Gives e.store.pool (kind_class p line.kind) block pool
      → placed (pool_of plan.units asked.run) (kind_class p line.kind) ≡ Some block
  placed_is block pool gives = ap (λ x. placed x (kind_class p line.kind)) (sym asked.sees.pool)
      ∙ gives_placed e.store.pool (kind_class p line.kind) fits asked.sees.sound block pool gives

  -- whatever comes of asking
  pub asks_next : (now : EngineState) → AsksRoot p plan e line now → Asked p plan now (done + 1)
  asks_next _ (AsksRoot.skips at tag first) =
      next_asked (with_root e (root.Skipped at tag)) (run_with_root asked.run (Skipped at tag))
      (ap (asks_root p plan.units asked.run line) (sym (first_same asked.run.blocks asked.run.roots e.roots (roots_named line) asked.sees.roots)
      ∙ first))
      (sees_root p plan.units [] [] None e asked.run (Skipped at tag) (root.Skipped at tag) asked.sees (λ u. refl) refl)
  asks_next _ (AsksRoot.has_null none full) =
      next_asked (with_root (null_counted (kind_class p line.kind) e) (root.Refused Null)) (run_with_root (counts_null plan.units asked.run
      (kind_class p line.kind)) (Refused Null))
      (free none ∙ ap (λ o. asks_root_with o plan.units asked.run request) (ap (λ x. placed x (kind_class p line.kind)) (sym asked.sees.pool)
      ∙ no_room_placed e.store.pool (kind_class p line.kind) fits asked.sees.sound full))
      (sees_root p plan.units [] [] None (null_counted (kind_class p line.kind) e) (counts_null plan.units asked.run (kind_class p line.kind))
      (Refused Null) (root.Refused Null)
      (sees_null p plan.units None e asked.run asked.sees (kind_class p line.kind)) (λ u. refl) refl)
  asks_next _ (AsksRoot.has_limit block pool none gives full) =
      next_asked (with_root (with_pool e (without_block pool block)) (root.Refused Limit)) (run_with_root (places plan.units asked.run block)
      (Refused Limit))
      (free none ∙ ap (λ o. asks_root_with o plan.units asked.run request) (placed_is block pool gives)
      ∙ ap (λ b. cond b (arrives (run_with_root (accepts plan.units asked.run request block) (Named (next_number asked.run.journal)))
      (next_number asked.run.journal) request.after) (run_with_root (places plan.units asked.run block) (Refused Limit)))
      (no_number_left asked.run e.journal asked.sees.journal full))
      (sees_root p plan.units [] [] None (with_pool e (without_block pool block)) (places plan.units asked.run block) (Refused Limit)
      (root.Refused Limit)
      (sees_placed p plan.units None e asked.run asked.sees (units_count p plan may) (kind_class p line.kind) fits block pool gives) (λ u. refl) refl)
  asks_next _ (AsksRoot.has_task block pool first none gives lt frame says) =
      next_asked (with_root (spawned block pool line.priority (behind_at e.store (root_after e.roots line)) (names_of
      (root_first p e.roots line)) first None e) (root.Named block.unit))
      (arrives (run_with_root (accepts plan.units asked.run request block) (Named (next_number asked.run.journal)))
      (next_number asked.run.journal) request.after)
      (free none ∙ ap (λ o. asks_root_with o plan.units asked.run request) (placed_is block pool gives)
      ∙ ap (λ b. cond b (arrives (run_with_root (accepts plan.units asked.run request block) (Named (next_number asked.run.journal)))
      (next_number asked.run.journal) request.after) (run_with_root (places plan.units asked.run block) (Refused Limit)))
      (number_left asked.run e.journal asked.sees.journal lt))
      ((arrived_root block pool first gives frame says).1)

-- the next root is asked for
pub root_is_asked : RootIsAsked
root_is_asked p plan e new done line may asked there asks = asks_next p plan may e done asked line there new asks

-- and may be
pub root_may_be_asked : RootMayBeAsked
root_may_be_asked p plan e done line may asked there = (
  nulls_may p plan may e done asked line there,
  roots_are p plan may e done asked line there,
  λ block pool first none gives lt frame says. may_root p plan may e done asked line there block pool first gives frame says,
)
