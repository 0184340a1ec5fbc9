-- The laws on the start of an activation.
use Rattle.std.proofs.Common.{◌≡◌, ◌⊎◌, ℕ, ◌+◌, ◌*◌, ◌≤◌, Option, Some, None, [], length, slice_get, refl, sym, ◌∙◌, ap, subst, inl, inr, ⊎_elim, arith}
use Rattle.std.specs.Option.{option_map, is_some}
use Rattle.std.proofs.lemmas.Bool.{false≢true}
use Rattle.std.proofs.lemmas.Option.{none-some, same_Some}
use Rattle.task_syntax.specs.declared.program.Program.{Program}
use Rattle.task_syntax.specs.declared.columns.Columns.{Columns}
use Rattle.frame_code.specs.Frames.{IsFrame}
use Rattle.frame_code.specs.Names.{names_of}
use Rattle.frame_code.specs.Words.{body_of}
use Rattle.record_core.specs.Numbers.{by_number, found}
use Rattle.record_core.specs.Journal.{MayBegin, MayCause}
use Rattle.record_core.specs.EndSeen.{RunPlan}
use Rattle.record_core.specs.declared.rows.ActivationRow.{ActivationRow}
use Rattle.record_core.specs.declared.rows.Cause.TheVariants as cause
use Rattle.record_core.specs.declared.rows.CutTag.{CutTag}
use Rattle.run_model.specs.State.{Outcome, Gave, WasCut, Queues, Run, next_queued}
use Rattle.run_model.specs.Step.{step, step_with, starts_next, started_row, is_behind, completes}
use Rattle.run_model.specs.Step as run
use Rattle.run_model.specs.Move.{RunsAt, begins}
use Rattle.run_model.proofs.JournalKept.{may_begin}
use Rattle.run_model.proofs.NumbersParts.{held_starts}
use Rattle.run_model.proofs.QueueFacts.{times_next, times_self}
use Rattle.run_model.proofs.RunStands.{RunStands}
use Rattle.plain_state.specs.declared.record.Record.{Record}
use Rattle.plain_state.specs.declared.record.Outcome.TheVariants as seen
use Rattle.plain_state.specs.Store.{frame_at}
use Rattle.plain_state.specs.Engine.{EngineState}
use Rattle.plain_state.specs.Moves.{begun, finished}
use Rattle.plain_state.specs.Sees.{Sees, Rests, Runs, unit_of, unit_of_number, cut_behind, outcome_seen}
use Rattle.plain_state.specs.Laws.{StartRuns, StartIsCut, Finishes, StartIsReady, NextMayStart, NoneLeftIsTheEnd}
use Rattle.plain_state.proofs.Running.{reached_stands, reached_next}
use Rattle.plain_state.proofs.Frames.{frame_length}
use Rattle.plain_state.proofs.ReadySeen.{none_seen}
use Rattle.plain_state.proofs.Beginning.{Starting, starting}
use Rattle.plain_state.proofs.Finishing.{finish_sees}

module _ (p : Program) (c : Columns) (plan : RunPlan) (e : EngineState) (r : Run) (unit : ℕ) (left : Queues) (rests : Rests p c plan e r) (next : next_queued e.store.ready ≡ Some (unit, left)) where
  -- what every run keeps
  pub stand : RunStands p plan.limit r
  stand = reached_stands p c plan r rests.reached

  -- what starts
  pub start : Starting p plan.units e r unit left
  start = starting p plan.units e r unit left stand.numbers rests.idle rests.sees next

  -- the step of the run, before what the task is behind is asked for
  step_is : step p c plan.units r ≡ is_behind (begins r start.n start.rest) start.row.task start.row.after
  step_is = ap (step_with p c plan.units r) rests.idle ∙ ap (starts_next r) start.next ∙ ap (started_row (begins r start.n start.rest)) start.there

  -- what it is behind has ended
  outcome_behind : (u : ℕ) → start.row.after ≡ Some u → found r.outcomes u ≡ None → ⊥
  outcome_behind u after none =
      let moved = times_next r.ready start.rest start.n start.n start.next in
      let once = times_self start.n in
      let done = stand.numbers.numbers.free start.n u start.row start.there (omega (arith, moved, once)) after in
      false≢true (sym (ap is_some none) ∙ (stand.numbers.live.has_outcome u).1 done)

  -- it goes on
  record GoesOn : Type 0 where
    pub same : step p c plan.units r ≡ begins r start.n start.rest
    pub uncut : cut_behind r.outcomes start.row.after ≡ Some None

  -- it is cut
  record GetsCut : Type 0 where
    pub u : ℕ
    pub tag : CutTag
    pub after : start.row.after ≡ Some u
    pub outcome : found r.outcomes u ≡ Some (WasCut tag)
    pub same : step p c plan.units r ≡ completes (begins r start.n start.rest) start.row.task (WasCut tag) (cause.By u)
    pub is_cut : cut_behind r.outcomes start.row.after ≡ Some (Some tag)

  -- it is one of the two
  start_cases : GoesOn ⊎ GetsCut
  start_cases = by start.row.after refl
    where
      by : (o : Option ℕ) → start.row.after ≡ o → GoesOn ⊎ GetsCut
      by None after = inl (record { same = step_is ∙ ap (is_behind (begins r start.n start.rest) start.row.task) after; uncut = ap (cut_behind r.outcomes) after })
      by (Some u) after = behind (found r.outcomes u) refl
        where
          behind : (o : Option Outcome) → found r.outcomes u ≡ o → GoesOn ⊎ GetsCut
          behind None none = absurd (outcome_behind u after none)
          behind (Some (Gave v)) gave = inl (record {
            same = step_is ∙ ap (is_behind (begins r start.n start.rest) start.row.task) after ∙ ap (λ o. run.cut_behind o (begins r start.n start.rest) start.row.task u) gave;
            uncut = ap (cut_behind r.outcomes) after ∙ ap (option_map (λ o. Rattle.plain_state.specs.Store.cut_of (outcome_seen o))) gave;
          })
          behind (Some (WasCut tag)) cut = inr (record {
            u = u;
            tag = tag;
            after = after;
            outcome = cut;
            same = step_is ∙ ap (is_behind (begins r start.n start.rest) start.row.task) after ∙ ap (λ o. run.cut_behind o (begins r start.n start.rest) start.row.task u) cut;
            is_cut = ap (cut_behind r.outcomes) after ∙ ap (option_map (λ o. Rattle.plain_state.specs.Store.cut_of (outcome_seen o))) cut;
          })

  -- either way its start is stamped
  pub step_rows : (step p c plan.units r).journal.rows ≡ (begins r start.n start.rest).journal.rows
  step_rows = ⊎_elim (λ on. ap (λ (s : Run). s.journal.rows) on.same) (λ cut. ap (λ (s : Run). s.journal.rows) cut.same) start_cases

  -- its record knows how the task was cut that it is behind
  cut_known : (cut : Option CutTag) → cut_behind r.outcomes start.row.after ≡ Some cut → start.task.known.cut ≡ cut
  cut_known cut known = start.task.cut start.n start.row cut (record { there = start.there; of_task = refl; current = inl start.waits }) start.waits known

  module _ (known : Record) (there : slice_get e.store.records unit ≡ Some known) where
    -- the record is that of its task
    is_known : start.task.known ≡ known
    is_known = same_Some start.task.known known (sym start.stands ∙ there)

    -- and has its number
    number_is : known.number ≡ start.n
    number_is = ap (λ (k : Record). k.number) (sym is_known) ∙ start.number

    -- behind none that was cut, it runs
    pub start_runs : known.cut ≡ None → Runs p c plan (begun left known.number e) unit (frame_at e.store unit) (step p c plan.units r)
    start_runs uncut = ⊎_elim goes cut start_cases
      where
        goes : GoesOn → Runs p c plan (begun left known.number e) unit (frame_at e.store unit) (step p c plan.units r)
        goes on = record {
          reached = reached_next p c plan r rests.reached;
          t = start.row.task;
          n = start.n;
          body = start.body;
          runs = subst (λ s. RunsAt s start.row.task start.n start.body) (sym on.same) start.runs;
          at = subst (λ (s : Run). unit_of s.blocks start.row.task ≡ Some unit) (sym on.same) start.at;
          sees = subst (λ s. Sees p plan.units [] (Some (start.row.task, frame_at e.store unit)) (begun left known.number e) s) (sym on.same)
              (subst (λ k. Sees p plan.units [] (Some (start.row.task, frame_at e.store unit)) (begun left k e) (begins r start.n start.rest)) (sym number_is) start.sees);
        }

        cut : GetsCut → Runs p c plan (begun left known.number e) unit (frame_at e.store unit) (step p c plan.units r)
        cut gets = absurd (none-some gets.tag (sym uncut ∙ ap (λ (k : Record). k.cut) (sym is_known) ∙ cut_known (Some gets.tag) gets.is_cut))

    -- behind a cut task, it ends at once
    pub start_is_cut : (tag : CutTag) → known.cut ≡ Some tag → (after : ℕ) × (row : ActivationRow) × (by_number e.journal.rows known.number ≡ Some row) × (row.after ≡ Some after)
        × Finishes p c plan (begun left known.number e) unit (frame_at e.store unit) (seen.WasCut tag) (cause.By after) (step p c plan.units r)
    start_is_cut tag cut = ⊎_elim goes gets start_cases
      where
        goes : GoesOn → (after : ℕ) × (row : ActivationRow) × (by_number e.journal.rows known.number ≡ Some row) × (row.after ≡ Some after)
            × Finishes p c plan (begun left known.number e) unit (frame_at e.store unit) (seen.WasCut tag) (cause.By after) (step p c plan.units r)
        goes on = absurd (none-some tag (sym (cut_known None on.uncut) ∙ ap (λ (k : Record). k.cut) is_known ∙ cut))

        gets : GetsCut → (after : ℕ) × (row : ActivationRow) × (by_number e.journal.rows known.number ≡ Some row) × (row.after ≡ Some after)
            × Finishes p c plan (begun left known.number e) unit (frame_at e.store unit) (seen.WasCut tag) (cause.By after) (step p c plan.units r)
        gets was =
            let is_tag : was.tag ≡ tag = same_Some was.tag tag (sym (cut_known (Some was.tag) was.is_cut) ∙ ap (λ (k : Record). k.cut) is_known ∙ cut) in
            let here : by_number e.journal.rows known.number ≡ Some start.row = ap (by_number e.journal.rows) number_is ∙ ap (λ (j : Rattle.record_core.specs.Journal.JournalState). by_number j.rows start.n) rests.sees.journal ∙ start.there in
            let done : Finishes p c plan (begun left start.n e) unit (frame_at e.store unit) (seen.WasCut was.tag) (cause.By was.u) (step p c plan.units r) = ends was in (
              was.u,
              start.row,
              here,
              was.after,
              subst (λ k. Finishes p c plan (begun left k e) unit (frame_at e.store unit) (seen.WasCut tag) (cause.By was.u) (step p c plan.units r)) (sym number_is)
                  (subst (λ (g : CutTag). Finishes p c plan (begun left start.n e) unit (frame_at e.store unit) (seen.WasCut g) (cause.By was.u) (step p c plan.units r)) is_tag done),
            )
          where
            ends : (was : GetsCut) → Finishes p c plan (begun left start.n e) unit (frame_at e.store unit) (seen.WasCut was.tag) (cause.By was.u) (step p c plan.units r)
            ends was =
                let held = held_starts r start.n start.rest stand.numbers rests.idle start.next in
                let caused : MayCause (begins r start.n start.rest).journal (cause.By was.u) = ((stand.numbers.live.has_outcome was.u).0 (ap is_some was.outcome), stand.outcomes.cut was.u was.tag was.outcome) in
                let (waiters, may, sees) = finish_sees p plan.units (begun left start.n e) (begins r start.n start.rest) unit (frame_at e.store unit) start.row.task start.n start.body held start.runs start.at start.sees (WasCut was.tag) (cause.By was.u) caused in
                record {
                  task = start.row.task;
                  waiters = waiters;
                  known = known;
                  there = there;
                  of_task = ap (λ (k : Record). k.task) (sym is_known) ∙ start.task.task;
                  may = may;
                  rests = record {
                    reached = reached_next p c plan r rests.reached;
                    idle = ap (λ (s : Run). s.running) was.same;
                    sees = subst (λ s. Sees p plan.units [] None (finished unit start.row.task waiters (names_of (body_of p (frame_at e.store unit))) (seen.WasCut was.tag) (cause.By was.u) (begun left start.n e)) s) (sym was.same) sees;
                  };
                }

  -- it may begin, and its frame can be read
  pub next_may_start : (known : Record) × (slice_get e.store.records unit ≡ Some known) × StartIsReady p e unit known
  next_may_start =
      let may = may_begin r start.n start.rest stand.numbers start.next in
      let body = start.task.body start.body start.runs.has in
      let frame : IsFrame p (frame_at e.store unit) = subst (λ u. IsFrame p (frame_at e.store u)) start.first body.frame in
      let inside : start.task.block.unit * 8 + start.task.known.length ≤ length e.store.words = inside_words in
      let fits : unit * 8 + start.task.known.length ≤ length e.store.words = subst (λ u. u * 8 + start.task.known.length ≤ length e.store.words) start.first inside in
      let size = frame_length e.store unit start.task.known start.stands fits in
      let few = frame.few in (
        start.task.known,
        start.stands,
        record {
          may = subst (λ j. MayBegin j start.task.known.number) (sym rests.sees.journal) (subst (MayBegin r.journal) (sym start.number) may);
          frame = frame;
          fits = omega (arith, fits, rests.sees.shaped.of_words);
          length_is = size;
          few = omega (arith, size, few);
        },
      )
    where
      inside_words : start.task.block.unit * 8 + start.task.known.length ≤ length e.store.words
      inside_words =
          let inside = Rattle.plain_state.proofs.Units.block_inside p plan.units [] None e r rests.sees start.row.task start.task.block start.task.has_block start.used in
          omega (arith, start.task.fits, inside, rests.sees.shaped.of_words)

-- the law on a start
pub starts_run : StartRuns
starts_run p c plan e r unit left known run rests next uncut = start_runs p c plan e r unit left rests next.next known next.there uncut

-- the law on a start that is cut
pub starts_cut : StartIsCut
starts_cut p c plan e r unit left known tag run rests next cut = start_is_cut p c plan e r unit left rests next.next known next.there tag cut

-- the law on what a start needs
pub next_starts : NextMayStart
next_starts p c plan e r unit left run rests next = next_may_start p c plan e r unit left rests next

-- the law on the end of the run
pub none_left : NoneLeftIsTheEnd
none_left p c plan e r rests none = record {
  taken = rests.reached.0;
  reached = rests.reached.1;
  idle = rests.idle;
  quiet = none_seen (unit_of_number r) e.store.ready r.ready (record { high = rests.sees.high; regular = rests.sees.regular; low = rests.sees.low }) none;
}
