-- What stands of tasks under way after each part of a move.
use Rattle.std.proofs.Common.{◌≡◌, ◌≢◌, ℕ, ◌+◌, ◌≤◌, true, false, Option, Some, None, List, [], ◌∷◌, ◌++◌, length, slice_get, refl, sym, ◌∙◌, ap, subst, inl, inr, ⊎_elim, arith}
use Rattle.std.specs.Prelude.{Bool, IsSome}
use Rattle.std.specs.Option.{is_some}
use Rattle.std.proofs.lemmas.Bool.{cases_eq, false≢true}
use Rattle.std.proofs.lemmas.Option.{none-some, same_Some}
use Rattle.task_syntax.specs.Facts.{has}
use Rattle.task_syntax.specs.declared.value.Value.{Value}
use Rattle.task_syntax.specs.declared.value.Priority.{Priority}
use Rattle.task_syntax.specs.declared.program.Program.{Program}
use Rattle.task_meaning.specs.Worths.{Accepted, OfAll, Respawn}
use Rattle.pool_core.specs.Blocks.{BlockState}
use Rattle.frame_code.specs.Words.{OfKind, OfMembers}
use Rattle.record_core.specs.Numbers.{by_number, put_number, flat, found, HasTask}
use Rattle.record_core.specs.Journal.{next_number}
use Rattle.record_core.specs.declared.rows.ActivationRow.{ActivationRow}
use Rattle.record_core.specs.declared.rows.Cause.{Cause}
use Rattle.record_core.specs.declared.rows.CutTag.{CutTag}
use Rattle.run_model.specs.State.{Body, Outcome, Gave, WasCut, RootWord, Run, Queues, next_queued}
use Rattle.run_model.specs.Step.{Request, arrives, waits_or_queues, completes, accepts, draws, with_body, with_root}
use Rattle.run_model.specs.Move.{Notes, with_notes, RunsAt, begins}
use Rattle.run_model.proofs.ByNumber.{number_within, snoc_old, snoc_other, snoc_cases, found_new, found_other, found_put, found_put_other, found_within, found_old, has_some}
use Rattle.run_model.proofs.NumbersInvariant.{NumbersStand, IsLive}
use Rattle.run_model.proofs.LiveFacts.{WasRow, read_snoc, outcome_snoc, task_within, same_row, was_row, one_started, was_live, no_wait}
use Rattle.run_model.proofs.QueueFacts.{times_next, times_self}
use Rattle.run_model.proofs.NumbersParts.{next_row}
use Rattle.run_model.proofs.RunsFacts.{running_open, running_within}
use Rattle.run_model.proofs.FramesInvariant.{IsGiven, WillGive, has_started}
use Rattle.run_model.proofs.SeatFacts.{Grows, given_grows}
use Rattle.run_model.proofs.SeatEntries.{has_at}
use Rattle.run_model.proofs.TasksStand.{BodyStands, IsComplete, RunsBehind, TasksStand, body_grows}

-- whether there is a start
abbrev begun : Option ℕ → Bool
begun o = elim o [ None ↦ false | Some s ↦ true ]

-- a later run in which no more is live, and no other bodies are found
stand_same : (p : Program) (r s : Run) → TasksStand p r → Grows r s → ((t n : ℕ) (row : ActivationRow) → IsLive s t n row → IsLive r t n row)
    → ((t : ℕ) (body : Body) → found s.bodies t ≡ Some body → found r.bodies t ≡ Some body) → IsComplete s → RunsBehind s → TasksStand p s
stand_same p r s now grows was_live had complete runs_behind = record {
  tasks = λ t n row body live has. body_grows p r s t row.after (has_started row) body grows (now.tasks t n row body (was_live t n row live) (had t body has));
  complete = complete;
  runs_behind = runs_behind;
}

-- what is noted, and which root has which task, is not read here
pub stand_noted : (p : Program) (r : Run) (notes : Notes) → TasksStand p r → TasksStand p (with_notes r notes)
stand_noted p r notes now =
    stand_same p r (with_notes r notes) now (record { gave = λ u v e. e; calls = λ n call e. e }) (λ t n row live. live) (λ t body has. has) now.complete now.runs_behind

-- the same of a root's word
pub stand_root : (p : Program) (r : Run) (word : RootWord) → TasksStand p r → TasksStand p (with_root r word)
stand_root p r word now =
    stand_same p r (with_root r word) now (record { gave = λ u v e. e; calls = λ n call e. e }) (λ t n row live. live) (λ t body has. has) now.complete now.runs_behind

-- nor where a number waits
pub stand_arrives : (p : Program) (r : Run) (n : ℕ) (after : Option ℕ) → TasksStand p r → TasksStand p (arrives r n after)
stand_arrives p r n None now =
    stand_same p r (arrives r n None) now (record { gave = λ u v e. e; calls = λ n call e. e }) (λ t n row live. live) (λ t body has. has) now.complete now.runs_behind
stand_arrives p r n (Some u) now = by (found r.outcomes u)
  where
    by : (o : Option Outcome) → TasksStand p (waits_or_queues o r n u)
    by None =
        stand_same p r (waits_or_queues None r n u) now (record { gave = λ u v e. e; calls = λ n call e. e }) (λ t n row live. live) (λ t body has. has) now.complete now.runs_behind
    by (Some outcome) =
        stand_same p r (waits_or_queues (Some outcome) r n u) now (record { gave = λ u v e. e; calls = λ n call e. e }) (λ t n row live. live) (λ t body has. has) now.complete now.runs_behind

-- a task stands at another body
pub stand_body : (p : Program) (r : Run) (t : ℕ) (old to : Body) → found r.bodies t ≡ Some old → TasksStand p r
    → ((n : ℕ) (row : ActivationRow) → IsLive r t n row → BodyStands p r t row.after (has_started row) to) → TasksStand p (with_body r t to)
stand_body p r t old to has_old now new = record { tasks = tasks; complete = now.complete; runs_behind = now.runs_behind }
  where
    grows : Grows r (with_body r t to)
    grows = record { gave = λ u v e. e; calls = λ n call e. e }

    tasks : (u n : ℕ) (row : ActivationRow) (body : Body) → IsLive r u n row → found (put_number r.bodies t (Some to)) u ≡ Some body → BodyStands p (with_body r t to) u row.after (has_started row) body
    tasks u n row body live has =
        ⊎_elim
        (λ same.
        let within = found_within r.bodies t old has_old in
        let is_to : to ≡ body = same_Some to body (sym (found_put r.bodies t (Some to) within.0 within.1) ∙ sym (ap (found (put_number r.bodies t (Some to))) same) ∙ has) in
        let at_t : IsLive r t n row = record { there = live.there; of_task = live.of_task ∙ same; live = live.live } in
        body_grows p r (with_body r t to) u row.after (has_started row) body grows (subst (λ b. BodyStands p r u row.after (has_started row) b) is_to (subst (λ k. BodyStands p r k row.after (has_started row) to) (sym same) (new n row at_t))))
        (λ differ. body_grows p r (with_body r t to) u row.after (has_started row) body grows (now.tasks u n row body live (sym (found_put_other r.bodies t u (Some to) differ) ∙ has)))
        (cases_eq u t)

-- what is known grows where a number is drawn
pub drawn_grows : (r : Run) (task after : Option ℕ) (priority : Priority) (call : Accepted) (body : Option Body) (block : Option BlockState) → Grows r (draws r task after priority call body block)
drawn_grows r task after priority call body block = record {
  gave = λ u v e. outcome_snoc r.outcomes u ∙ e;
  calls = λ n other e. snoc_old r.calls call n other e;
}

-- a further activation of a task is drawn, and the task stands at this body
abbrev pub renewed_run : Run → ℕ → Body → Option ℕ → Priority → Run
renewed_run r t to after priority = with_body (record (draws r (Some t) after priority (Respawn t after) None None) { running = None }) t to

module _ (p : Program) (r : Run) (held : NumbersStand r) (now : TasksStand p r) where
  -- an aggregate that gave a value was drawn before
  complete_drawn : (call : Accepted) (t at u : ℕ) (v : Value) (members : List ℕ) → by_number (r.calls ++ call ∷ []) t ≡ Some (OfAll members) → found (r.outcomes ++ None ∷ []) t ≡ Some (Gave v) → slice_get members at ≡ Some u → IsGiven r u
  complete_drawn call t at u v members called gave e =
      let was : found r.outcomes t ≡ Some (Gave v) = sym (outcome_snoc r.outcomes t) ∙ gave in
      let within = found_within r.outcomes t (Gave v) was in
      let old = sym (snoc_other r.calls call t (λ same. absurd (omega (arith, same, within.1, held.beside.of_outcomes, held.beside.of_calls)))) ∙ called in
      now.complete t at u v members old was e

  -- a live number that had a row has a task with a number that was drawn
  live_within : (t n : ℕ) (row : ActivationRow) → by_number r.journal.rows n ≡ Some row → row.task ≡ t → (1 ≤ t) × (t ≤ length r.journal.rows)
  live_within t n row there of_task = task_within r.journal.rows t (subst (HasTask r.journal.rows) of_task (held.of_tasks n row there).of_task)

  -- a new task is drawn
  pub stand_accepts : (units : ℕ) (request : Request) (block : BlockState)
      → BodyStands p (accepts units r request block) (next_number r.journal) request.after false request.body → TasksStand p (accepts units r request block)
  stand_accepts units request block new = record { tasks = tasks; complete = complete; runs_behind = runs_behind }
    where
      grows : Grows r (accepts units r request block)
      grows = record { gave = λ u v e. outcome_snoc r.outcomes u ∙ e; calls = λ n other e. snoc_old r.calls request.call n other e }

      tasks : (t n : ℕ) (row : ActivationRow) (body : Body) → IsLive (accepts units r request block) t n row → found (r.bodies ++ Some request.body ∷ []) t ≡ Some body
          → BodyStands p (accepts units r request block) t row.after (has_started row) body
      tasks t n row body live has =
          ⊎_elim
          (λ old.
          let within = live_within t n row old live.of_task in
          let old_body = sym (found_other r.bodies (Some request.body) t (λ same. absurd (omega (arith, same, within.1, held.beside.of_bodies)))) ∙ has in
          body_grows p r (accepts units r request block) t row.after (has_started row) body grows (now.tasks t n row body (record { there = old; of_task = live.of_task; live = live.live }) old_body))
          (λ added.
          let is_row : row ≡ record { task = next_number r.journal; after = request.after; start = None } = added.1 in
          let is_t : next_number r.journal ≡ t = sym (ap (λ (x : ActivationRow). x.task) is_row) ∙ live.of_task in
          let is_body : request.body ≡ body = same_Some request.body body (sym (found_new r.bodies (Some request.body) t (omega (arith, is_t, held.beside.of_bodies))) ∙ has) in
          subst (λ (x : ActivationRow). BodyStands p (accepts units r request block) t x.after (has_started x) body) (sym is_row)
          (subst (λ k. BodyStands p (accepts units r request block) k request.after false body) is_t (subst (λ b. BodyStands p (accepts units r request block) (next_number r.journal) request.after false b) is_body new)))
          (snoc_cases r.journal.rows _ n row live.there)

      complete : IsComplete (accepts units r request block)
      complete t at u v members called gave e = given_grows r (accepts units r request block) u grows (complete_drawn request.call t at u v members called gave e)

      runs_behind : RunsBehind (accepts units r request block)
      runs_behind n u row runs there after =
          let (was, stood, some) = held.live.runs n runs in
          let is_row : Some was ≡ Some row = sym (snoc_old r.journal.rows _ n was stood) ∙ there in
          given_grows r (accepts units r request block) u grows (now.runs_behind n u row runs (stood ∙ is_row) after)

  -- a further activation of the running task is drawn, and the task stands at another body
  pub stand_renewed : (t m : ℕ) (old to : Body) (after : Option ℕ) (priority : Priority) → RunsAt r t m old
      → BodyStands p (renewed_run r t to after priority) t after false to
      → TasksStand p (renewed_run r t to after priority)
  stand_renewed t m old to after priority runs new = record { tasks = tasks; complete = complete; runs_behind = λ n u row e. absurd (none-some n e) }
    where
      grows : Grows r (renewed_run r t to after priority)
      grows = record { gave = λ u v e. outcome_snoc r.outcomes u ∙ e; calls = λ n other e. snoc_old r.calls (Respawn t after) n other e }

      within_t : (1 ≤ t) × (t ≤ length r.journal.rows)
      within_t = running_within r [] held t m old runs

      tasks : (u n : ℕ) (row : ActivationRow) (body : Body) → IsLive (renewed_run r t to after priority) u n row → found (put_number (r.bodies ++ None ∷ []) t (Some to)) u ≡ Some body → BodyStands p (renewed_run r t to after priority) u row.after (has_started row) body
      tasks u n row body live has =
          ⊎_elim
          (λ stood.
          let start : row.start ≡ None = ⊎_elim (λ e. e) (λ e. absurd (none-some n e)) live.live in
          let differ : u ≢ t = λ same. no_wait r.journal.rows r.journal.tasks r.outcomes r.bodies r.running held.live t m runs.row runs.running runs.there runs.of_task n row stood start (live.of_task ∙ same) in
          let old_body = sym (read_snoc flat r.bodies None refl u) ∙ sym (found_put_other (r.bodies ++ None ∷ []) t u (Some to) differ) ∙ has in
          body_grows p r (renewed_run r t to after priority) u row.after (has_started row) body grows (now.tasks u n row body (record { there = stood; of_task = live.of_task; live = inl start }) old_body))
          (λ added.
          let is_row : row ≡ record { task = t; after = after; start = None } = added.1 in
          let is_u : t ≡ u = sym (ap (λ (x : ActivationRow). x.task) is_row) ∙ live.of_task in
          let here = found_put (r.bodies ++ None ∷ []) t (Some to) within_t.0 (omega (arith, within_t.1, Rattle.run_model.proofs.ByNumber.length_snoc r.bodies None, held.beside.of_bodies)) in
          let is_body : to ≡ body = same_Some to body (sym here ∙ ap (found (put_number (r.bodies ++ None ∷ []) t (Some to))) is_u ∙ has) in
          subst (λ (x : ActivationRow). BodyStands p (renewed_run r t to after priority) u x.after (has_started x) body) (sym is_row)
          (subst (λ k. BodyStands p (renewed_run r t to after priority) k after false body) is_u (subst (λ b. BodyStands p (renewed_run r t to after priority) t after false b) is_body new)))
          (snoc_cases r.journal.rows _ n row live.there)

      complete : IsComplete (renewed_run r t to after priority)
      complete k at u v members called gave e = given_grows r (renewed_run r t to after priority) u grows (complete_drawn (Respawn t after) k at u v members called gave e)

-- the running task ends: what stands of the other tasks stays
pub stand_ends : (p : Program) (r : Run) (t m : ℕ) (old : Body) (outcome : Outcome) (why : Cause) → NumbersStand r → RunsAt r t m old
    → ((u n : ℕ) (row : ActivationRow) (body : Body) → u ≢ t → IsLive r u n row → found r.bodies u ≡ Some body → BodyStands p r u row.after (has_started row) body) → IsComplete r
    → ((at u : ℕ) (v : Value) (members : List ℕ) → outcome ≡ Gave v → by_number r.calls t ≡ Some (OfAll members) → slice_get members at ≡ Some u → IsGiven r u)
    → TasksStand p (completes r t outcome why)
stand_ends p r t m old outcome why held runs others complete ended = record { tasks = tasks; complete = complete'; runs_behind = λ n u row e. absurd (none-some n e) }
  where
    within : (1 ≤ t) × (t ≤ length r.journal.rows)
    within = running_within r [] held t m old runs

    -- it had no outcome
    no_outcome : (u : ℕ) (o : Outcome) → found r.outcomes u ≡ Some o → u ≢ t
    no_outcome u o e same =
        false≢true (sym (ap is_some (running_open r [] held t m old runs)) ∙ (held.live.has_outcome t).0 (ap is_some (sym (ap (found r.outcomes) same) ∙ e)))

    grows : Grows r (completes r t outcome why)
    grows = record { gave = λ u v e. found_put_other r.outcomes t u (Some outcome) (no_outcome u (Gave v) e) ∙ e; calls = λ n call e. e }

    tasks : (u n : ℕ) (row : ActivationRow) (body : Body) → IsLive (completes r t outcome why) u n row → found (put_number r.bodies t None) u ≡ Some body → BodyStands p (completes r t outcome why) u row.after (has_started row) body
    tasks u n row body live has =
        let differ : u ≢ t = λ same. absurd (none-some body (sym (found_put r.bodies t None within.0 (omega (arith, within.1, held.beside.of_bodies))) ∙ sym (ap (found (put_number r.bodies t None)) same) ∙ has)) in
        body_grows p r (completes r t outcome why) u row.after (has_started row) body grows
        (others u n row body differ (was_live r.journal.rows r.journal.tasks r.outcomes r.bodies r.running held.live u n row live) (sym (found_put_other r.bodies t u None differ) ∙ has))

    complete' : IsComplete (completes r t outcome why)
    complete' k at u v members called gave e =
        given_grows r (completes r t outcome why) u grows
        (⊎_elim
        (λ same.
        let is_outcome : outcome ≡ Gave v = same_Some outcome (Gave v) (sym (found_put r.outcomes t (Some outcome) within.0 (omega (arith, within.1, held.beside.of_outcomes))) ∙ sym (ap (found (put_number r.outcomes t (Some outcome))) same) ∙ gave) in
        ended at u v members is_outcome (sym (ap (by_number r.calls) same) ∙ called) e)
        (λ differ. complete k at u v members called (sym (found_put_other r.outcomes t k (Some outcome) differ) ∙ gave) e)
        (cases_eq k t))

-- an activation starts
module _ (p : Program) (r : Run) (n : ℕ) (left : Queues) (held : NumbersStand r) (now : TasksStand p r) (idle : r.running ≡ None) (next : next_queued r.ready ≡ Some (n, left)) where
  abbrev s : Run
  s = begins r n left

  -- its row, without a start
  first : (row : ActivationRow) × (by_number r.journal.rows n ≡ Some row) × (row.start ≡ None)
  first = next_row r [] n left held next

  -- a start changes no call and no outcome
  grows : Grows r s
  grows = record { gave = λ u v e. e; calls = λ n call e. e }

  -- what it is behind has an outcome
  pub behind_ended : (row : ActivationRow) (u : ℕ) → by_number r.journal.rows n ≡ Some row → row.after ≡ Some u → IsSome (found r.outcomes u)
  behind_ended row u there after =
      let ready = held.numbers.free n u row there (let moved = times_next r.ready left n n next in let once = times_self n in omega (arith, moved, once)) after in
      (held.live.has_outcome u).1 ready

  -- each row was there
  row_was : (k : ℕ) (row : ActivationRow) → by_number (begins r n left).journal.rows k ≡ Some row
      → WasRow r.journal.rows (begins r n left).journal.rows n (r.journal.stamps + 1) first.0 first.1 (one_started r.journal.rows n (r.journal.stamps + 1) first.0 first.1) k row
  row_was k row there =
      was_row r.journal.rows (begins r n left).journal.rows n (r.journal.stamps + 1) first.0 first.1 (one_started r.journal.rows n (r.journal.stamps + 1) first.0 first.1) k row there

  -- what stands of the tasks but its own stays
  pub begins_others : (t k : ℕ) (row : ActivationRow) (body : Body) → k ≢ n → IsLive s t k row → found r.bodies t ≡ Some body → BodyStands p s t row.after (has_started row) body
  begins_others t k row body differ live has =
      let w = row_was k row live.there in
      let start : w.was.start ≡ None = ⊎_elim (λ e. sym (w.start.1 differ) ∙ e) (λ e. absurd (differ (sym (same_Some n k e)))) live.live in
      let was = body_grows p r s t w.was.after (has_started w.was) body grows (now.tasks t k w.was body (record { there = w.stood; of_task = sym w.task ∙ live.of_task; live = inl start }) has) in
      let same_start : has_started w.was ≡ has_started row = ap begun (sym (w.start.1 differ)) in
      subst (λ o. BodyStands p s t o (has_started row) body) (sym w.after) (subst (λ b. BodyStands p s t w.was.after b body) same_start was)

  -- where what it is behind gave a value, its own task stands too
  module _ (uncut : (row : ActivationRow) (u : ℕ) (tag : CutTag) → by_number r.journal.rows n ≡ Some row → row.after ≡ Some u → found r.outcomes u ≢ Some (WasCut tag)) where
    -- what it is behind gave a value
    after_given : (u : ℕ) → first.0.after ≡ Some u → IsGiven r u
    after_given u after = let (o, e) = has_some (found r.outcomes u) (behind_ended first.0 u first.1 after) in by o e
      where
        by : (o : Outcome) → found r.outcomes u ≡ Some o → IsGiven r u
        by (Gave v) e = (v, e)
        by (WasCut tag) e = absurd (uncut first.0 u tag first.1 after e)

    -- so what will have given a value where it starts, gave one
    will_given : (u : ℕ) → WillGive r first.0.after u → IsGiven r u
    will_given u (inl given) = given
    will_given u (inr (inl after)) = after_given u after
    will_given u (inr (inr (a, members, after, call, among))) =
        let (v, gave) = after_given a after in let (i, e) = has_at u members among in now.complete a i u v members call gave e

    -- what stands of a body stands once its activation has started
    starts_body : (t : ℕ) (body : Body) → BodyStands p r t first.0.after false body → BodyStands p s t first.0.after true body
    starts_body t (OfKind q) was = record {
      seat = record {
        kind = was.seat.kind;
        state = was.seat.state;
        facts = was.seat.facts;
        is_kind = was.seat.is_kind;
        is_state = was.seat.is_state;
        way = was.seat.way;
        within = was.seat.within;
        numbers = was.seat.numbers;
        futures = was.seat.futures;
        held = was.seat.held;
        settled = λ x u h e. will_given u (was.seat.settled x u h e);
        members = was.seat.members;
      };
      of_call = was.of_call;
    }
    starts_body t (OfMembers members at) was = record { of_call = was.of_call; at = was.at; within = was.within; given = was.given }

    -- tasks under way stand as they did when one of their activations begins
    pub stand_begins : TasksStand p s
    stand_begins = record { tasks = tasks; complete = now.complete; runs_behind = runs_behind }
      where
        tasks : (t k : ℕ) (row : ActivationRow) (body : Body) → IsLive s t k row → found r.bodies t ≡ Some body → BodyStands p s t row.after (has_started row) body
        tasks t k row body live has = ⊎_elim own (λ differ. begins_others t k row body differ live has) (cases_eq k n)
          where
            own : k ≡ n → BodyStands p s t row.after (has_started row) body
            own same =
                let w = row_was k row live.there in
                let is_first : w.was ≡ first.0 = same_row r.journal.rows n w.was first.0 (sym (ap (by_number r.journal.rows) same) ∙ w.stood) first.1 in
                let of_task : first.0.task ≡ t = sym (ap (λ (x : ActivationRow). x.task) is_first) ∙ sym w.task ∙ live.of_task in
                let was_waiting : has_started first.0 ≡ false = ap begun first.2 in
                let was = subst (λ b. BodyStands p r t first.0.after b body) was_waiting (now.tasks t n first.0 body (record { there = first.1; of_task = of_task; live = inl first.2 }) has) in
                let after : first.0.after ≡ row.after = sym (ap (λ (x : ActivationRow). x.after) is_first) ∙ sym w.after in
                let has_begun : true ≡ has_started row = sym (ap begun (w.start.0 same)) in
                subst (λ o. BodyStands p s t o (has_started row) body) after (subst (λ b. BodyStands p s t first.0.after b body) has_begun (starts_body t body was))

        runs_behind : RunsBehind s
        runs_behind k u row e there after =
            let w = row_was k row there in
            let is_first : w.was ≡ first.0 = same_row r.journal.rows n w.was first.0 (ap (by_number r.journal.rows) (same_Some n k e) ∙ w.stood) first.1 in
            after_given u (sym (ap (λ (x : ActivationRow). x.after) is_first) ∙ sym w.after ∙ after)
