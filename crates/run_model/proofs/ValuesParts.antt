-- What stands of values after each part of a move.
use Rattle.std.proofs.Common.{◌≡◌, ◌≢◌, ℕ, zero, suc, ◌+◌, ◌≤◌, Option, Some, None, List, [], ◌∷◌, ◌++◌, length, slice_get, refl, sym, ◌∙◌, ap, subst, inl, inr, ⊎_elim, arith}
use Rattle.std.proofs.lemmas.Bool.{cases_eq}
use Rattle.std.proofs.lemmas.Option.{none-some, same_Some}
use Rattle.task_syntax.specs.Places.{Each}
use Rattle.task_syntax.specs.declared.value.Value.{Value}
use Rattle.task_syntax.specs.declared.value.Priority.{Priority}
use Rattle.task_syntax.specs.declared.program.Program.{Program}
use Rattle.task_syntax.specs.declared.columns.Columns.{Columns}
use Rattle.task_meaning.specs.Meant.{Meant, future_at}
use Rattle.task_meaning.specs.Frame.{FrameOf, CallOf, entry}
use Rattle.task_meaning.specs.Worths.{Accepted, OfCall, OfAll, Respawn}
use Rattle.task_meaning.specs.WorthLaws.{NamesUpTo}
use Rattle.task_meaning.specs.FrameLaws.{WorthGives, RestGives, HasWorth}
use Rattle.task_meaning.specs.AcceptedLaws.{IsCallAt, IsAggregateAt}
use Rattle.task_meaning.proofs.Worths.{later-worths, later-rest, first_frame-value}
use Rattle.pool_core.specs.Blocks.{BlockState}
use Rattle.frame_code.specs.Words.{OfKind}
use Rattle.record_core.specs.Numbers.{by_number, put_number, flat, found, HasTask}
use Rattle.record_core.specs.Journal.{next_number}
use Rattle.record_core.specs.declared.rows.ActivationRow.{ActivationRow}
use Rattle.record_core.specs.declared.rows.Cause.{Cause}
use Rattle.run_model.specs.State.{Body, Outcome, Gave, Run, Queues, next_queued}
use Rattle.run_model.specs.Step.{Request, arrives, waits_or_queues, completes, accepts, with_body}
use Rattle.run_model.specs.Move.{RunsAt, begins}
use Rattle.run_model.proofs.ByNumber.{length_snoc, number_within, member_at, snoc_new, snoc_cases, found_new, found_other, found_put, found_put_other, found_within}
use Rattle.run_model.proofs.NumbersInvariant.{NumbersStand, IsLive}
use Rattle.record_core.specs.EndAsks.{CallNames}
use Rattle.run_model.proofs.CallsInvariant.{CallsStand}
use Rattle.record_core.specs.EndCalls.{IsRowOf}
use Rattle.run_model.proofs.LiveFacts.{read_snoc, outcome_snoc, task_within, same_row, was_row, one_started, was_live, no_wait}
use Rattle.run_model.proofs.NumbersParts.{next_row}
use Rattle.run_model.proofs.RunsFacts.{running_within}
use Rattle.run_model.proofs.FramesInvariant.{IsGiven}
use Rattle.run_model.proofs.FramesParts.{renewed_run}
use Rattle.run_model.proofs.ValuesInvariant.{ValuesStand}

-- a future that stands in a list is the one at its position
named_there : (fs : List (Option ℕ)) (x u : ℕ) → slice_get fs x ≡ Some (Some u) → future_at fs x ≡ Some u
named_there [] x u e = absurd (none-some (Some u) e)
named_there (f ∷ fs) zero u e = same_Some f (Some u) e
named_there (f ∷ fs) (suc x) u e = named_there fs x u e

-- each future of a list names a task up to this number, where the futures by position do
pub names_each : (most : ℕ) (fs : List (Option ℕ)) → ((x u : ℕ) → future_at fs x ≡ Some u → u ≤ most) → Each fs (NamesUpTo most)
names_each most fs within x None e = tt
names_each most fs within x (Some u) e = within x u (named_there fs x u e)

-- the same of one task that may be named
pub names_up_to : (most : ℕ) (o : Option ℕ) → ((u : ℕ) → o ≡ Some u → u ≤ most) → NamesUpTo most o
names_up_to most None within = tt
names_up_to most (Some u) within = within u refl

-- two bodies of one frame
pub same_frame : (q next : FrameOf ℕ) → ◌≡◌ {A = Body} (OfKind q) (OfKind next) → q ≡ next
same_frame q next e = cc

module _ (p : Program) (c : Columns) (calls more : List Accepted) where
  -- a worth stays where calls are accepted later
  pub worth_later : (t : ℕ) (v : Value) → t ≤ length calls → WorthGives p c calls t v → WorthGives p c (calls ++ more) t v
  worth_later t v within (n, e) = (n, later-worths p c n calls more t within ∙ e)

  -- and it was the same before them
  pub worth_before : (t : ℕ) (v : Value) → t ≤ length calls → WorthGives p c (calls ++ more) t v → WorthGives p c calls t v
  worth_before t v within (n, e) = (n, sym (later-worths p c n calls more t within) ∙ e)

  -- the same of what is waited for
  pub has_later : (after : Option ℕ) → NamesUpTo (length calls) after → HasWorth p c calls after → HasWorth p c (calls ++ more) after
  has_later None within has = tt
  has_later (Some u) within (v, gives) = (v, worth_later u v within gives)

  -- and the other way round
  pub has_before : (after : Option ℕ) → NamesUpTo (length calls) after → HasWorth p c (calls ++ more) after → HasWorth p c calls after
  has_before None within has = tt
  has_before (Some u) within (v, gives) = (v, worth_before u v within gives)

  -- what follows from a frame did so before the later calls
  pub rest_before : (after : Option ℕ) (q : FrameOf ℕ) (v : Value) → Each q.futures (NamesUpTo (length calls)) → NamesUpTo (length calls) after
      → RestGives p c (calls ++ more) after q v → RestGives p c calls after q v
  rest_before after q v names waits (n, e) = (n, sym (ap (λ (m : Meant). m.value) (later-rest p c n calls more after q names waits)) ∙ e)

-- the call that is accepted last, of earlier tasks
pub last_call : (calls : List Accepted) (call : CallOf ℕ) (waits : Option ℕ) → ((u : ℕ) → CallNames (OfCall call waits) u → u ≤ length calls) → IsCallAt (calls ++ OfCall call waits ∷ []) (length calls) call waits
last_call calls call waits earlier = record {
  there = snoc_new calls (OfCall call waits);
  futures = names_each (length calls) call.futures (λ x u e. earlier u (inl (x, e)));
  waits_for = names_up_to (length calls) waits (λ u e. earlier u (inr e));
}

-- what follows from its first frame is its worth
pub first_worth : (p : Program) (c : Columns) (calls : List Accepted) (position : ℕ) (call : CallOf ℕ) (waits : Option ℕ) (v : Value) → IsCallAt calls position call waits
    → RestGives p c calls waits (entry p call) v → WorthGives p c calls (suc position) v
first_worth p c calls position call waits v is (n, e) = (n, sym (first_frame-value p c n calls position call waits is.there is.futures is.waits_for) ∙ e)

-- who is named in a run is among the accepted calls
module _ (r : Run) (held : NumbersStand r) where
  -- a task has the number of a call
  pub task_named : (u : ℕ) → HasTask r.journal.rows u → u ≤ length r.calls
  task_named u task = let within = task_within r.journal.rows u task in omega (arith, within.1, held.beside.of_calls)

  -- a frame names such tasks
  pub frame_names : (t : ℕ) (q : FrameOf ℕ) → found r.bodies t ≡ Some (OfKind q) → Each q.futures (NamesUpTo (length r.calls))
  frame_names t q has = names_each (length r.calls) q.futures (λ x u e. task_named u (held.names.in_bodies t u (OfKind q) has (x, e)))

  -- a task of a row is in range
  pub live_named : (t n : ℕ) (row : ActivationRow) → by_number r.journal.rows n ≡ Some row → row.task ≡ t → (1 ≤ t) × (t ≤ length r.journal.rows)
  live_named t n row there of_task = task_within r.journal.rows t (subst (HasTask r.journal.rows) of_task (held.of_tasks n row there).of_task)

  module _ (calls : CallsStand r) where
    -- what an activation is behind
    pub after_names : (n : ℕ) (row : ActivationRow) → by_number r.journal.rows n ≡ Some row → NamesUpTo (length r.calls) row.after
    after_names n row there = names_up_to (length r.calls) row.after (λ u after.
        let within = number_within r.journal.rows n row there in
        let (call, is_call) = member_at r.calls n within.0 (omega (arith, within.1, held.beside.of_calls)) in
        let below = (calls.earlier n u call is_call (named call (calls.row_of n call row is_call there) u after)).0 in
        omega (arith, below, within.1, held.beside.of_calls))
      where
        named : (call : Accepted) → IsRowOf n call row → (u : ℕ) → row.after ≡ Some u → CallNames call u
        named (OfCall call waits) is_row u after = inr (sym is_row.1 ∙ after)
        named (OfAll members) is_row u after = (0, sym is_row.1 ∙ after)
        named (Respawn t waits) is_row u after = sym is_row.1 ∙ after

    -- an aggregate that was accepted is one of earlier tasks
    pub aggregate_at : (position : ℕ) (members : List ℕ) → by_number r.calls (suc position) ≡ Some (OfAll members) → IsAggregateAt r.calls position members
    aggregate_at position members there = record {
      there = there;
      members_earlier = λ at u e. let below = (calls.earlier (suc position) u (OfAll members) there (at, e)).0 in omega (arith, below);
    }

module _ (p : Program) (c : Columns) (r : Run) (now : ValuesStand p c r) where
  -- what gave a value has a worth
  pub has_given : (after : Option ℕ) → ((u : ℕ) → after ≡ Some u → IsGiven r u) → HasWorth p c r.calls after
  has_given None given = tt
  has_given (Some u) given = let (v, e) = given u refl in (v, now.complete u v e)

  -- where a number waits is not read here
  pub values_arrives : (n : ℕ) (after : Option ℕ) → ValuesStand p c (arrives r n after)
  values_arrives n None = record { complete = now.complete; under_way = now.under_way }
  values_arrives n (Some u) = by (found r.outcomes u)
    where
      by : (o : Option Outcome) → ValuesStand p c (waits_or_queues o r n u)
      by None = record { complete = now.complete; under_way = now.under_way }
      by (Some outcome) = record { complete = now.complete; under_way = now.under_way }

  -- a task stands at another frame
  pub values_body : (t : ℕ) (old : Body) (next : FrameOf ℕ) → found r.bodies t ≡ Some old
      → ((n : ℕ) (row : ActivationRow) (v : Value) → IsLive r t n row → HasWorth p c r.calls row.after → RestGives p c r.calls row.after next v → WorthGives p c r.calls t v)
      → ValuesStand p c (with_body r t (OfKind next))
  values_body t old next has_old new = record { complete = now.complete; under_way = under_way }
    where
      under_way : (u n : ℕ) (row : ActivationRow) (q : FrameOf ℕ) (v : Value) → IsLive r u n row → found (put_number r.bodies t (Some (OfKind next))) u ≡ Some (OfKind q)
          → HasWorth p c r.calls row.after → RestGives p c r.calls row.after q v → WorthGives p c r.calls u v
      under_way u n row q v live has worth rest =
          ⊎_elim own (λ differ. now.under_way u n row q v live (sym (found_put_other r.bodies t u (Some (OfKind next)) differ) ∙ has) worth rest) (cases_eq u t)
        where
          own : u ≡ t → WorthGives p c r.calls u v
          own same =
              let within = found_within r.bodies t old has_old in
              let is_next = same_Some {A = Body} (OfKind next) (OfKind q) (sym (found_put r.bodies t (Some (OfKind next)) within.0 within.1) ∙ sym (ap (found (put_number r.bodies t (Some (OfKind next)))) same) ∙ has) in
              subst (λ k. WorthGives p c r.calls k v) (sym same)
              (new n row v (record { there = live.there; of_task = live.of_task ∙ same; live = live.live }) worth (subst (λ k. RestGives p c r.calls row.after k v) (sym (same_frame next q is_next)) rest))

module _ (p : Program) (c : Columns) (r : Run) (held : NumbersStand r) (now : ValuesStand p c r) where
  -- the running task ends
  pub values_ends : (t m : ℕ) (old : Body) (outcome : Outcome) (why : Cause) → RunsAt r t m old → ((v : Value) → outcome ≡ Gave v → WorthGives p c r.calls t v) → ValuesStand p c (completes r t outcome why)
  values_ends t m old outcome why runs ended = record { complete = complete; under_way = under_way }
    where
      within : (1 ≤ t) × (t ≤ length r.journal.rows)
      within = running_within r [] held t m old runs

      complete : (u : ℕ) (v : Value) → found (put_number r.outcomes t (Some outcome)) u ≡ Some (Gave v) → WorthGives p c r.calls u v
      complete u v gave = ⊎_elim own (λ differ. now.complete u v (sym (found_put_other r.outcomes t u (Some outcome) differ) ∙ gave)) (cases_eq u t)
        where
          own : u ≡ t → WorthGives p c r.calls u v
          own same =
              let here = found_put r.outcomes t (Some outcome) within.0 (omega (arith, within.1, held.beside.of_outcomes)) in
              let is_outcome : outcome ≡ Gave v = same_Some outcome (Gave v) (sym here ∙ sym (ap (found (put_number r.outcomes t (Some outcome))) same) ∙ gave) in
              subst (λ k. WorthGives p c r.calls k v) (sym same) (ended v is_outcome)

      under_way : (u n : ℕ) (row : ActivationRow) (q : FrameOf ℕ) (v : Value) → IsLive (completes r t outcome why) u n row → found (put_number r.bodies t None) u ≡ Some (OfKind q)
          → HasWorth p c r.calls row.after → RestGives p c r.calls row.after q v → WorthGives p c r.calls u v
      under_way u n row q v live has worth rest =
          let differ : u ≢ t = λ same. absurd (none-some (OfKind q) (sym (found_put r.bodies t None within.0 (omega (arith, within.1, held.beside.of_bodies))) ∙ sym (ap (found (put_number r.bodies t None)) same) ∙ has)) in
          now.under_way u n row q v (was_live r.journal.rows r.journal.tasks r.outcomes r.bodies r.running held.live u n row live) (sym (found_put_other r.bodies t u None differ) ∙ has) worth rest

  -- an activation starts
  pub values_begins : (n : ℕ) (left : Queues) → next_queued r.ready ≡ Some (n, left) → ValuesStand p c (begins r n left)
  values_begins n left next = record { complete = now.complete; under_way = under_way }
    where
      first : (row : ActivationRow) × (by_number r.journal.rows n ≡ Some row) × (row.start ≡ None)
      first = next_row r [] n left held next

      under_way : (t k : ℕ) (row : ActivationRow) (q : FrameOf ℕ) (v : Value) → IsLive (begins r n left) t k row → found r.bodies t ≡ Some (OfKind q)
          → HasWorth p c r.calls row.after → RestGives p c r.calls row.after q v → WorthGives p c r.calls t v
      under_way t k row q v live has worth rest =
          let w = was_row r.journal.rows (begins r n left).journal.rows n (r.journal.stamps + 1) first.0 first.1 (one_started r.journal.rows n (r.journal.stamps + 1) first.0 first.1) k row live.there in
          let start : w.was.start ≡ None =
          ⊎_elim
          (λ same. ap (λ (x : ActivationRow). x.start) (same_row r.journal.rows n w.was first.0 (sym (ap (by_number r.journal.rows) same) ∙ w.stood) first.1) ∙ first.2)
          (λ differ. sym (w.start.1 differ) ∙ ⊎_elim (λ e. e) (λ e. absurd (differ (sym (same_Some n k e)))) live.live)
          (cases_eq k n) in
          now.under_way t k w.was q v (record { there = w.stood; of_task = sym w.task ∙ live.of_task; live = inl start }) has
          (subst (HasWorth p c r.calls) w.after worth) (subst (λ o. RestGives p c r.calls o q v) w.after rest)

  module _ (calls : CallsStand r) where
    -- a worth that was given is one after the next call
    complete_drawn : (call : Accepted) (t : ℕ) (v : Value) → found (r.outcomes ++ None ∷ []) t ≡ Some (Gave v) → WorthGives p c (r.calls ++ call ∷ []) t v
    complete_drawn call t v gave =
        let was : found r.outcomes t ≡ Some (Gave v) = sym (outcome_snoc r.outcomes t) ∙ gave in
        let within = found_within r.outcomes t (Gave v) was in
        worth_later p c r.calls (call ∷ []) t v (omega (arith, within.1, held.beside.of_outcomes, held.beside.of_calls)) (now.complete t v was)

    -- and what follows from a frame gives the worth of its task still
    pub under_way_drawn : (call : Accepted) (t n : ℕ) (row : ActivationRow) (q : FrameOf ℕ) (v : Value) → IsLive r t n row → found r.bodies t ≡ Some (OfKind q)
        → HasWorth p c (r.calls ++ call ∷ []) row.after → RestGives p c (r.calls ++ call ∷ []) row.after q v → WorthGives p c (r.calls ++ call ∷ []) t v
    under_way_drawn call t n row q v live has worth rest =
        let within = live_named r held t n row live.there live.of_task in
        let waits = after_names r held calls n row live.there in
        worth_later p c r.calls (call ∷ []) t v (omega (arith, within.1, held.beside.of_calls))
        (now.under_way t n row q v live has (has_before p c r.calls (call ∷ []) row.after waits worth) (rest_before p c r.calls (call ∷ []) row.after q v (frame_names r held t q has) waits rest))

    -- a new task is drawn
    pub values_accepts : (units : ℕ) (request : Request) (block : BlockState)
        → ((q : FrameOf ℕ) (v : Value) → request.body ≡ OfKind q → RestGives p c (r.calls ++ request.call ∷ []) request.after q v → WorthGives p c (r.calls ++ request.call ∷ []) (next_number r.journal) v)
        → ValuesStand p c (accepts units r request block)
    values_accepts units request block new = record { complete = λ t v gave. complete_drawn request.call t v gave; under_way = under_way }
      where
        under_way : (t n : ℕ) (row : ActivationRow) (q : FrameOf ℕ) (v : Value) → IsLive (accepts units r request block) t n row → found (r.bodies ++ Some request.body ∷ []) t ≡ Some (OfKind q)
            → HasWorth p c (r.calls ++ request.call ∷ []) row.after → RestGives p c (r.calls ++ request.call ∷ []) row.after q v → WorthGives p c (r.calls ++ request.call ∷ []) t v
        under_way t n row q v live has worth rest =
            ⊎_elim
            (λ old.
            let within = live_named r held t n row old live.of_task in
            let old_body = sym (found_other r.bodies (Some request.body) t (λ same. absurd (omega (arith, same, within.1, held.beside.of_bodies)))) ∙ has in
            under_way_drawn request.call t n row q v (record { there = old; of_task = live.of_task; live = live.live }) old_body worth rest)
            (λ added.
            let is_row : row ≡ record { task = next_number r.journal; after = request.after; start = None } = added.1 in
            let is_t : next_number r.journal ≡ t = sym (ap (λ (x : ActivationRow). x.task) is_row) ∙ live.of_task in
            let is_body : request.body ≡ OfKind q = same_Some request.body (OfKind q) (sym (found_new r.bodies (Some request.body) t (omega (arith, is_t, held.beside.of_bodies))) ∙ has) in
            subst (λ k. WorthGives p c (r.calls ++ request.call ∷ []) k v) is_t
            (new q v is_body (subst (λ o. RestGives p c (r.calls ++ request.call ∷ []) o q v) (ap (λ (x : ActivationRow). x.after) is_row) rest)))
            (snoc_cases r.journal.rows _ n row live.there)

    -- a further activation of the running task is drawn, and the task stands at another body
    pub values_renewed : (t m : ℕ) (old to : Body) (after : Option ℕ) (priority : Priority) → RunsAt r t m old
        → ((q : FrameOf ℕ) (v : Value) → to ≡ OfKind q → RestGives p c (r.calls ++ Respawn t after ∷ []) after q v → WorthGives p c (r.calls ++ Respawn t after ∷ []) t v)
        → ValuesStand p c (renewed_run r t to after priority)
    values_renewed t m old to after priority runs new = record { complete = λ u v gave. complete_drawn (Respawn t after) u v gave; under_way = under_way }
      where
        within_t : (1 ≤ t) × (t ≤ length r.journal.rows)
        within_t = running_within r [] held t m old runs

        under_way : (u n : ℕ) (row : ActivationRow) (q : FrameOf ℕ) (v : Value) → IsLive (renewed_run r t to after priority) u n row → found (put_number (r.bodies ++ None ∷ []) t (Some to)) u ≡ Some (OfKind q)
            → HasWorth p c (r.calls ++ Respawn t after ∷ []) row.after → RestGives p c (r.calls ++ Respawn t after ∷ []) row.after q v → WorthGives p c (r.calls ++ Respawn t after ∷ []) u v
        under_way u n row q v live has worth rest =
            ⊎_elim
            (λ stood.
            let start : row.start ≡ None = ⊎_elim (λ e. e) (λ e. absurd (none-some n e)) live.live in
            let differ : u ≢ t = λ same. no_wait r.journal.rows r.journal.tasks r.outcomes r.bodies r.running held.live t m runs.row runs.running runs.there runs.of_task n row stood start (live.of_task ∙ same) in
            let old_body = sym (read_snoc flat r.bodies None refl u) ∙ sym (found_put_other (r.bodies ++ None ∷ []) t u (Some to) differ) ∙ has in
            under_way_drawn (Respawn t after) u n row q v (record { there = stood; of_task = live.of_task; live = inl start }) old_body worth rest)
            (λ added.
            let is_row : row ≡ record { task = t; after = after; start = None } = added.1 in
            let is_u : t ≡ u = sym (ap (λ (x : ActivationRow). x.task) is_row) ∙ live.of_task in
            let here = found_put (r.bodies ++ None ∷ []) t (Some to) within_t.0 (omega (arith, within_t.1, length_snoc r.bodies None, held.beside.of_bodies)) in
            let is_body : to ≡ OfKind q = same_Some to (OfKind q) (sym here ∙ ap (found (put_number (r.bodies ++ None ∷ []) t (Some to))) is_u ∙ has) in
            subst (λ k. WorthGives p c (r.calls ++ Respawn t after ∷ []) k v) is_u
            (new q v is_body (subst (λ o. RestGives p c (r.calls ++ Respawn t after ∷ []) o q v) (ap (λ (x : ActivationRow). x.after) is_row) rest)))
            (snoc_cases r.journal.rows _ n row live.there)
