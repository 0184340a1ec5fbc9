-- A root that is given a block and a number.
use Rattle.std.proofs.Common.{◌≡◌, ℕ, None, List, length, sym, ◌∙◌, ap, subst}
use Rattle.task_syntax.specs.declared.program.Program.{Program}
use Rattle.task_syntax.specs.declared.program.Root.{Root as RootLine}
use Rattle.task_meaning.specs.Frame.{entry}
use Rattle.pool_core.specs.Blocks.{BlockState}
use Rattle.pool_core.specs.Pool.{Gives}
use Rattle.frame_code.specs.Words.{OfKind, body_of}
use Rattle.frame_code.specs.Frames.{IsFrame}
use Rattle.frame_code.specs.Names.{names_of}
use Rattle.frame_code.specs.Entries.{IsEntryOf}
use Rattle.frame_code.specs.declared.entries.Passed.{Passed}
use Rattle.record_core.specs.Journal.{next_number}
use Rattle.record_core.specs.EndSeen.{RunPlan}
use Rattle.record_core.specs.EndSound.{kind_class}
use Rattle.plain_state.specs.declared.record.Behind.{Behind}
use Rattle.plain_state.specs.declared.record.RootState.TheVariants as root
use Rattle.plain_state.specs.Engine.{EngineState, with_pool, with_root, with_store}
use Rattle.plain_state.specs.Moves.{MayArrive, MaySpawn, arrived, behind_at, made_task, spawned}
use Rattle.plain_state.specs.Laws.{AsksRoot, has_task, root_after, root_first}
use Rattle.plain_engine.specs.Asking.{IsGiven, MayMake, units_in, with_task}
use Rattle.plain_engine.specs.Roots.{IsPassedTo, MayAskRoot, NamesTasks}
use Rattle.plain_engine.proofs.StepLaws.{root_may_be_asked}

module _ (p : Program) (e : EngineState) (line : RootLine) (may : MayAskRoot p e line) (none : NamesTasks e line)
    (class : ℕ) (class_is : class ≡ kind_class p line.kind) (behind : Behind) (behind_is : behind ≡ behind_at e.store (root_after e.roots line))
    (block : BlockState) (number : ℕ) (new : EngineState) (given : IsGiven e class behind.task block number new)
    (passed : List Passed) (passes : IsPassedTo e.roots line passed) (first : List ℕ) (frame : IsFrame p first) (enters : IsEntryOf p line.kind passed first) where
  gives : Gives e.store.pool (kind_class p line.kind) block given.pool
  gives = subst (λ k. Gives e.store.pool k block given.pool) class_is given.gives

  says : body_of p first ≡ root_first p e.roots line
  says = enters ∙ ap (λ call. OfKind (entry p call)) passes

  abbrev names : List ℕ
  names = names_of (root_first p e.roots line)

  names_are : units_in p first ≡ names
  names_are = ap names_of says

  may_spawn : MaySpawn block given.pool line.priority (behind_at e.store (root_after e.roots line)) names first None e
  may_spawn = (root_may_be_asked p may.plan e (length e.roots) line may.may may.asked may.there).2 block given.pool first none gives given.left frame says

  may_spawn_behind : MaySpawn block given.pool line.priority behind names first None e
  may_spawn_behind = subst (λ b. MaySpawn block given.pool line.priority b names first None e) (sym behind_is) may_spawn

  -- its record may be made
  pub may_make : MayMake block (units_in p first) first new.store
  may_make = subst (λ (s : EngineState). MayMake block (units_in p first) first s.store) (sym given.after_is)
      (subst (λ ns. MayMake block ns first (with_pool e given.pool).store) (sym names_are)
      (record { within = may_spawn.within; fits = may_spawn.fits; hold = may_spawn.hold }))

  module _ (made : EngineState) (made_is : made ≡ with_task block number line.priority behind (units_in p first) first new) (unit : ℕ) (unit_is : unit ≡ block.unit) where
    is_task : made ≡ made_task block given.pool line.priority behind names first e
    is_task = made_is ∙ (ap (λ n. with_task block n line.priority behind (units_in p first) first new) given.number_is
        ∙ (ap (λ ns. with_task block (next_number e.journal) line.priority behind ns first new) names_are
        ∙ ap (λ s. with_task block (next_number e.journal) line.priority behind names first s) given.after_is))

    -- it may join what it waits for, or the queues
    pub may_arrive : MayArrive unit behind.waits made.store
    may_arrive = subst (λ u. MayArrive u behind.waits made.store) (sym unit_is)
        (subst (λ (s : EngineState). MayArrive block.unit behind.waits s.store) (sym is_task) may_spawn_behind.arrives)

    -- and this is what comes of asking for the root
    pub root_has_task : (last : EngineState) → last ≡ with_store made (arrived unit behind.waits made.store) → (plan : RunPlan) → AsksRoot p plan e line (with_root last (root.Named unit))
    root_has_task last last_is plan =
        let whole : last ≡ spawned block given.pool line.priority behind names first None e
        = last_is ∙ (ap (λ u. with_store made (arrived u behind.waits made.store)) unit_is ∙ ap (λ (s : EngineState). with_store s (arrived block.unit behind.waits s.store)) is_task) in
        let asks : AsksRoot p plan e line (with_root (spawned block given.pool line.priority behind names first None e) (root.Named block.unit))
        = subst (λ b. AsksRoot p plan e line (with_root (spawned block given.pool line.priority b names first None e) (root.Named block.unit))) (sym behind_is)
        (has_task block given.pool first none gives given.left frame says) in
        subst (λ u. AsksRoot p plan e line (with_root last (root.Named u))) (sym unit_is)
        (subst (λ s. AsksRoot p plan e line (with_root s (root.Named block.unit))) (sym whole) asks)
