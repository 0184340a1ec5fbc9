-- The start of an activation: it may begin, and runs or is cut.
use Rattle.std.proofs.Common.{◌≡◌, ℕ, zero, suc, ◌+◌, ◌<◌, Option, Some, None, List, [], ◌∷◌, length, slice_get, slice_set, refl, sym, ◌∙◌, ap, subst}
use Rattle.std.proofs.lemmas.Option.{none-some, same_Some}
use Rattle.task_syntax.specs.declared.program.Program.{Program}
use Rattle.task_syntax.specs.declared.columns.Columns.{Columns}
use Rattle.frame_code.specs.Frames.{IsFrame}
use Rattle.record_core.specs.Numbers.{by_number, put_number}
use Rattle.record_core.specs.Journal.{JournalState, started_rows, with_begun}
use Rattle.record_core.specs.EndSeen.{RunPlan}
use Rattle.record_core.specs.declared.rows.ActivationRow.{ActivationRow}
use Rattle.record_core.specs.declared.rows.CutTag.{CutTag}
use Rattle.run_model.specs.State.{Queues, Run, next_queued}
use Rattle.run_model.specs.Step.{step}
use Rattle.plain_state.specs.declared.record.Record.{Record}
use Rattle.plain_state.specs.Store.{frame_at}
use Rattle.plain_state.specs.Engine.{EngineState, with_store}
use Rattle.plain_state.specs.Moves.{begun}
use Rattle.plain_state.specs.Laws.{StartIsReady, starts_left}
use Rattle.plain_records.specs.Allocated.{HasFrame}
use Rattle.plain_engine.specs.Ending.{CutAt, EndsCut, MayBeCut, Moment}
use Rattle.plain_engine.specs.Going.{IdlesAt, IsIdle, IsRunning, MayStart, RunsAt, RunsToItsEnd, TakesNext, Turns, started}
use Rattle.plain_engine.proofs.StepLaws.{next_may_start, start_is_cut, start_runs, turns_end}

set_there : {A : Type 0} (xs : List A) (at : ℕ) (x y : A) → slice_get xs at ≡ Some x → slice_get (slice_set xs at y) at ≡ Some y
set_there [] at x y there = absurd (none-some x there)
set_there (z ∷ xs) zero x y there = refl
set_there (z ∷ xs) (suc at) x y there = set_there xs at x y there

put_there : {A : Type 0} (xs : List A) (n : ℕ) (x y : A) → by_number xs n ≡ Some x → by_number (put_number xs n y) n ≡ Some y
put_there xs zero x y there = absurd (none-some x there)
put_there xs (suc n) x y there = set_there xs n x y there

-- the row of an activation that has begun
begun_row : (j : JournalState) (n : ℕ) (row : ActivationRow) → by_number j.rows n ≡ Some row → by_number (with_begun j n).rows n ≡ Some (record row { start = Some (j.stamps + 1) })
begun_row j n row there =
    ap (λ found. by_number (started_rows j.rows n (j.stamps + 1) found) n) there ∙ put_there j.rows n row (record row { start = Some (j.stamps + 1) }) there

-- a next one that is taken
pub taken_so : (old new : EngineState) (result : Option ℕ) (unit : ℕ) → TakesNext old result new → result ≡ Some unit
    → (left : Queues) × (next_queued old.store.ready ≡ Some (unit, left)) × (new ≡ with_store old (record old.store { ready = left }))
taken_so old new result unit takes is = subst (λ r. TakesNext old r new) is takes

module _ (p : Program) (c : Columns) (old e : EngineState) (unit : ℕ) (left : Queues)
    (next : next_queued old.store.ready ≡ Some (unit, left)) (taken : e ≡ with_store old (record old.store { ready = left })) where
  -- it may begin
  pub may_start : IsIdle p c old → MayStart e unit
  may_start (plan, r, idle) =
      let (known, there, ready) = next_may_start p c plan old r unit left idle.may idle.rests next in
      subst (λ s. MayStart s unit) (sym taken) (known, there, ready.may)

  module _ (known : Record) (there : slice_get e.store.records unit ≡ Some known) (now : EngineState) (begins : now ≡ started known.number e) where
    there_before : slice_get old.store.records unit ≡ Some known
    there_before = ap (λ (s : EngineState). slice_get s.store.records unit) (sym taken) ∙ there

    now_is : now ≡ begun left known.number old
    now_is = begins ∙ ap (started known.number) taken

    is_ready : (plan : RunPlan) (r : Run) → IdlesAt p c old plan r → StartIsReady p old unit known
    is_ready plan r idle =
        let (k, k_there, ready) = next_may_start p c plan old r unit left idle.may idle.rests next in
        subst (λ (k : Record). StartIsReady p old unit k) (same_Some k known (sym k_there ∙ there_before)) ready

    -- its frame can be read
    pub has_frame : IsIdle p c old → HasFrame now.store unit
    has_frame (plan, r, idle) =
        let ready = is_ready plan r idle in
        subst (λ (s : EngineState). HasFrame s.store unit) (sym now_is) (record { known = known; there = there_before; fits = ready.fits; few = ready.few })

    module _ (words : List ℕ) (reads : words ≡ frame_at now.store unit) where
      reads_before : words ≡ frame_at old.store unit
      reads_before = reads ∙ ap (λ (s : EngineState). frame_at s.store unit) now_is

      pub is_frame : IsIdle p c old → IsFrame p words
      is_frame (plan, r, idle) = subst (IsFrame p) (sym reads_before) (is_ready plan r idle).frame

      abbrev at_step : RunPlan → Run → Moment
      at_step plan r = record { columns = c; plan = plan; run = step p c plan.units r }

      cut_at : (tag : CutTag) → known.cut ≡ Some tag → (plan : RunPlan) (r : Run) → IdlesAt p c old plan r
          → (after : ℕ) × CutAt p now unit words known.number tag after (at_step plan r)
      cut_at tag cut plan r idle =
          let (after, row, row_there, behind, ends) = start_is_cut p c plan old r unit left known tag idle.may idle.rests (record { next = next; there = there_before }) cut in (
            after,
            subst (λ ws. CutAt p now unit ws known.number tag after (at_step plan r)) (sym reads_before)
                (subst (λ s. CutAt p s unit (frame_at old.store unit) known.number tag after (at_step plan r)) (sym now_is)
                (record row { start = Some (old.journal.stamps + 1) }, begun_row old.journal known.number row row_there, behind, ends)),
          )

      -- it may be cut
      pub may_be_cut : (tag : CutTag) → known.cut ≡ Some tag → IsIdle p c old → MayBeCut p now unit words known.number tag
      may_be_cut tag cut (plan, r, idle) = let (after, at) = cut_at tag cut plan r idle in (after, at_step plan r, at)

      -- which is a turn
      pub turns_cut : (tag : CutTag) → known.cut ≡ Some tag → (new : EngineState) → EndsCut p now unit words known.number tag new → Turns p c old Rattle.std.proofs.Common.true new
      turns_cut tag cut new ends plan r idle = let (after, at) = cut_at tag cut plan r idle in (0, ends after (at_step plan r) at)

      runs_at : known.cut ≡ None → (plan : RunPlan) (r : Run) → IdlesAt p c old plan r → RunsAt p c now unit words plan (step p c plan.units r)
      runs_at cut plan r idle =
          let runs = start_runs p c plan old r unit left known idle.may idle.rests (record { next = next; there = there_before }) cut in
          subst (λ ws. RunsAt p c now unit ws plan (step p c plan.units r)) (sym reads_before)
          (subst (λ s. RunsAt p c s unit (frame_at old.store unit) plan (step p c plan.units r)) (sym now_is) (record { may = idle.may; runs = runs }))

      -- or it runs
      pub is_running : known.cut ≡ None → IsIdle p c old → IsRunning p c now unit words
      is_running cut (plan, r, idle) = (plan, step p c plan.units r, runs_at cut plan r idle)

      -- and to its end it is a turn
      pub turns_run : known.cut ≡ None → (new : EngineState) → RunsToItsEnd p c now unit words new → Turns p c old Rattle.std.proofs.Common.true new
      turns_run cut new ends plan r idle = ends plan (step p c plan.units r) (runs_at cut plan r idle)

  -- a turn takes one of the starts
  pub takes_start : (new : EngineState) → IsIdle p c old → Turns p c old Rattle.std.proofs.Common.true new → starts_left new < starts_left old
  takes_start new (plan, r, idle) turns =
      let (more, rests) = turns plan r idle in turns_end p c plan old new r more unit left idle.may idle.rests next rests
