-- Each move keeps what stands of counts, in a run of a valid program within the limit and in a pool that suffices.
use Rattle.std.proofs.Common.{◌≡◌, ◌≢◌, ℕ, zero, suc, ◌+◌, ◌≤◌, ◌<◌, Bool, true, false, Option, Some, None, List, [], ◌∷◌, ◌++◌, length, map, slice_get, refl, sym, ◌∙◌, ap, subst, inl, inr, ⊎_elim, arith}
use Rattle.std.proofs.lemmas.Bool.{cases_eq, ltb-false}
use Rattle.std.proofs.lemmas.Option.{none-some, same_Some, slice_get_within}
use Rattle.task_syntax.specs.Form.{IsWellFormed, IsFormedInstr}
use Rattle.task_syntax.specs.Valid.{IsValid}
use Rattle.task_syntax.specs.declared.value.Value.{Value}
use Rattle.task_syntax.specs.declared.value.Value.TheVariants.{Number, Trapped}
use Rattle.task_syntax.specs.declared.value.Priority.{Priority}
use Rattle.task_syntax.specs.declared.program.Program.{Program}
use Rattle.task_syntax.specs.declared.columns.Columns.{Columns}
use Rattle.task_meaning.specs.Meant.{Counts, Meant, future_at, behind}
use Rattle.task_meaning.specs.Frame.{FrameOf, CallOf, set_future}
use Rattle.task_meaning.specs.FrameLaws.{HasWorth, NamesAccepted, task_waited}
use Rattle.task_meaning.specs.FrameCounts.{RestCounts}
use Rattle.task_meaning.specs.Leads.{no_counts}
use Rattle.task_meaning.specs.Acts.{Calls, Gathers}
use Rattle.task_meaning.specs.Worths.{Accepted, Respawn, worths}
use Rattle.task_meaning.proofs.Ahead.{jumps_ahead}
use Rattle.task_meaning.proofs.Worths.{steps-rest}
use Rattle.task_meaning.proofs.FrameCounts.{grown-counts, accepted_spawns-counts}
use Rattle.task_meaning.proofs.FrameCountsOn.{reads-counts, ends-counts_rest, traps-counts_rest, accepted_respawns-counts, accepted_aggregates-counts}
use Rattle.pool_core.specs.Blocks.{BlockState}
use Rattle.frame_code.specs.Words.{OfKind, OfMembers}
use Rattle.record_core.specs.Numbers.{by_number, put_number, flat, found}
use Rattle.record_core.specs.Journal.{next_number, task_count}
use Rattle.task_meaning.specs.Frame.{variables_of}
use Rattle.record_core.specs.EndSound.{kind_class, members_class, IsAllOfClass, IsOfClass}
use Rattle.record_core.proofs.TotalFacts.{total-snoc}
use Rattle.record_core.specs.declared.rows.ActivationRow.{ActivationRow}
use Rattle.record_core.specs.declared.rows.Cause.{Cause}
use Rattle.record_core.specs.declared.rows.Cause.TheVariants as cause
use Rattle.record_core.specs.declared.rows.CutTag.{CutTag}
use Rattle.run_model.specs.State.{Body, Outcome, Gave, WasCut, Run, Queues, next_queued}
use Rattle.run_model.specs.Placing.{pool_of, placed}
use Rattle.run_model.specs.Step.{Request, tasks_named, call_request, all_request, asked_priority, has_number, arrives, waits_or_queues, accepts, with_body, completes, is_refused}
use Rattle.run_model.specs.Move.{Notes, with_notes, RunsAt, Goes, Asks, Answers, Renews, Refuses, Move, begins}
use Rattle.run_model.proofs.ByNumber.{length_put, length_snoc, member_at, snoc_new, snoc_old, found_put, found_put_other}
use Rattle.run_model.proofs.NumbersInvariant.{NumbersStand, IsLiveAt}
use Rattle.run_model.proofs.CallsInvariant.{CallsStand}
use Rattle.run_model.proofs.LiveFacts.{read_snoc, outcome_snoc, same_row, one_live, not_running, one_started}
use Rattle.run_model.proofs.NumbersParts.{next_row, held_starts}
use Rattle.run_model.proofs.RunsFacts.{running_within, running_number}
use Rattle.run_model.proofs.FramesInvariant.{IsSeated, FramesStand}
use Rattle.run_model.proofs.LineFacts.{shape_of}
use Rattle.run_model.proofs.SeatFacts.{seat_line, seat_formed}
use Rattle.run_model.proofs.FramesParts.{renewed_run}
use Rattle.run_model.proofs.TasksStand.{TasksStand, tasks_of}
use Rattle.run_model.proofs.FramesKept.{running_stands}
use Rattle.run_model.proofs.ValuesInvariant.{ValuesStand}
use Rattle.run_model.proofs.ValuesParts.{has_later, frame_names, after_names, last_call}
use Rattle.run_model.proofs.ValuesKept.{has_waited, spawn_names, again_names, gather_names, asked_earlier}
use Rattle.run_model.proofs.BlocksKept.{class_fits}
use Rattle.run_model.proofs.EvidenceKept.{tasks_started}
use Rattle.run_model.proofs.CountsInvariant.{tasks_left, activations_left, BodyCounts, BodiesCount, AddUp, CountsStand}
use Rattle.run_model.proofs.CountsParts.{bodies_put, bodies_snoc, bodies_later, put_twice, total_put, new_task_counts, old_task_counts}

-- no member stands past the end
past_end : {A : Type 0} (xs : List A) (i : ℕ) → slice_get xs i ≡ None → length xs ≤ i
past_end [] i e = omega arith
past_end (x ∷ xs) zero e = absurd (none-some x (sym e))
past_end (x ∷ xs) (suc i) e = let rest = past_end xs i e in omega (arith, rest)

-- a task that gave a value was not cut
gave_cut : (v : Value) (tag : CutTag) → Gave v ≡ WasCut tag → ⊥
gave_cut v tag e = cc

-- a list that a function made is as long
map_length : {A B : Type 0} (f : A → B) (xs : List A) → length (map f xs) ≡ length xs
map_length f [] = refl
map_length f (x ∷ xs) = ap suc (map_length f xs)

-- a number above 0 is one more than another
one_less : (n : ℕ) → 0 < n → (m : ℕ) × (n ≡ suc m)
one_less zero above = absurd (omega (arith, above))
one_less (suc m) above = (m, refl)

-- the row of a new task, and of a further activation
abbrev pub new_row : Run → Option ℕ → ActivationRow
new_row r after = record { task = next_number r.journal; after = after; start = None }

abbrev pub further_row : ℕ → Option ℕ → ActivationRow
further_row t after = record { task = t; after = after; start = None }

-- one member is put in the place of another that counts as much
add_put : (rows : List ActivationRow) (left : List Counts) (roots_left all : Counts) (t : ℕ) (old new : Counts) → by_number left t ≡ Some old → old.tasks ≡ new.tasks → old.activations ≡ new.activations
    → AddUp rows left roots_left all → AddUp rows (put_number left t new) roots_left all
add_put rows left roots_left all t old new e same_tasks same_activations now = record {
  tasks = omega (arith, now.tasks, same_tasks, total_put (λ (k : Counts). k.tasks) left t old new e);
  activations = omega (arith, now.activations, same_activations, total_put (λ (k : Counts). k.activations) left t old new e);
}

-- the class is one that a block may be asked of
abbrev pub MayAsk : Program → ℕ → Type 0
MayAsk p class = (class ≤ 3) × ((k : ℕ) → IsOfClass p k → class ≡ k)

-- while a task is still to come, the pool has a block for it
abbrev pub HasRoomLeft : Program → ℕ → Counts → Run → Type 0
HasRoomLeft p units all r = (class : ℕ) → MayAsk p class → task_count r.journal.rows < all.tasks → placed (pool_of units r) class ≡ None → ⊥

-- where a number waits is not read here
pub counts_arrives : (p : Program) (c : Columns) (all : Counts) (r : Run) (n : ℕ) (after : Option ℕ) → CountsStand p c r all → CountsStand p c (arrives r n after) all
counts_arrives p c all r n None now = now
counts_arrives p c all r n (Some u) now = by (found r.outcomes u)
  where
    by : (o : Option Outcome) → CountsStand p c (waits_or_queues o r n u) all
    by None = now
    by (Some outcome) = now

-- an arrival notes no null
pub nulls_arrives : (r : Run) (n : ℕ) (after : Option ℕ) → (arrives r n after).nulls ≡ r.nulls
nulls_arrives r n None = refl
nulls_arrives r n (Some u) = by (found r.outcomes u)
  where
    by : (o : Option Outcome) → (waits_or_queues o r n u).nulls ≡ r.nulls
    by None = refl
    by (Some outcome) = refl

-- a request is for a block of a class of its program
pub may_ask : (p : Program) → IsWellFormed p → IsValid p → (c : Columns) (r : Run) (after : Option ℕ) (q : FrameOf ℕ) → IsSeated p r after true q → (request : Request) (to : ℕ) (retry : Bool) → Asks p c q request to retry → MayAsk p request.class
may_ask p formed valid c r after q seat _ _ _ (Asks.calls line to call waits there e) = (class_fits (1 + variables_of p call.kind), of_class)
  where
    of_class : (k : ℕ) → IsOfClass p k → kind_class p call.kind ≡ k
    of_class k of =
        let (kind, arguments, priority, retry, is_spawn, is_call) = shape_of c line.instr q (Calls to call waits) e in
        let is_formed = subst (λ instr. IsFormedInstr p seat.kind seat.state q.at instr) is_spawn (seat_formed p formed valid c r after true q seat line there) in
        ap (λ (x : CallOf ℕ). kind_class p x.kind) is_call ∙ of.kinds kind is_formed.1
may_ask p formed valid c r after q seat _ _ _ (Asks.gathers line to members there e) = (class_fits (1 + length (tasks_named q members)), of_class)
  where
    of_class : (k : ℕ) → IsOfClass p k → members_class (length (tasks_named q members)) ≡ k
    of_class k of =
        let (priority, retry, is_all) = shape_of c line.instr q (Gathers to members) e in
        let names = gather_names p formed valid c r after q seat line there to members e in
        let as_many : length members ≡ length (tasks_named q members) = sym (map_length (future_at q.futures) members) ∙ ap length names ∙ map_length Some (tasks_named q members) in
        let here = of.aggregates q.kind seat.kind seat.is_kind q.state seat.state seat.is_state q.at line (seat_line p formed valid c r after true q seat line there) in
        ap members_class (sym as_many) ∙ subst (λ instr. IsAllOfClass k instr) is_all here

module _ (p : Program) (formed : IsWellFormed p) (valid : IsValid p) (c : Columns) (all : Counts) where
  module _ (r : Run) (held : NumbersStand r) (calls : CallsStand r) (frames : FramesStand p r) (values : ValuesStand p c r) (now : CountsStand p c r all) where
    tasks : TasksStand p r
    tasks = tasks_of p r frames

    -- what is left of the running task
    module _ (t n : ℕ) (body : Body) (runs : RunsAt r t n body) where
      -- its number is one of the rows
      within : (1 ≤ t) × (t ≤ length r.journal.rows)
      within = running_within r [] held t n body runs

      -- so much is left of it
      left_here : (k : Counts) × (by_number now.left t ≡ Some k)
      left_here = member_at now.left t within.0 (omega (arith, within.1, now.beside))

      -- as its body counts
      stands_here : BodyCounts p c r.journal.rows r.running r.calls t (Some body) left_here.0
      stands_here = subst (λ b. BodyCounts p c r.journal.rows r.running r.calls t b left_here.0) runs.has (now.bodies_count t left_here.0 left_here.1)

      -- what its activation is behind has a worth
      waited : HasWorth p c r.calls runs.row.after
      waited = has_waited p formed valid c r held calls tasks values t n body runs

      -- the running task ends with a value, and nothing was left of it
      ends_counts : (v : Value) (why : Cause) → left_here.0.tasks ≡ 0 → left_here.0.activations ≡ 0 → CountsStand p c (completes r t (Gave v) why) all
      ends_counts v why no_tasks no_activations = record {
        left = put_number now.left t no_counts;
        roots_left = now.roots_left;
        beside = length_put now.left t no_counts ∙ now.beside;
        bodies_count = bodies_later p c r.journal.rows r.journal.rows r.running None r.calls r.calls (put_number r.bodies t None) (put_number now.left t no_counts) stays
            (bodies_put p c r.journal.rows r.running r.calls r.bodies now.left t None no_counts within.0 (omega (arith, within.1, held.beside.of_bodies)) now.bodies_count refl);
        to_come = now.to_come;
        add_up = add_put r.journal.rows now.left now.roots_left all t left_here.0 no_counts left_here.1 no_tasks no_activations now.add_up;
        uncut = uncut;
        no_null = now.no_null;
        named = now.named;
      }
        where
          stays : (u m : ℕ) (row : ActivationRow) (q : FrameOf ℕ) → found (put_number r.bodies t None) u ≡ Some (OfKind q) → IsLiveAt r.journal.rows r.running u m row
              → (row' : ActivationRow) × IsLiveAt r.journal.rows None u m row' × ((k : Counts) → RestCounts p c r.calls row.after q k → RestCounts p c r.calls row'.after q k)
          stays u m row q has live =
              let differ : u ≢ t = λ same. absurd (none-some (OfKind q) (sym (found_put r.bodies t None within.0 (omega (arith, within.1, held.beside.of_bodies))) ∙ sym (ap (found (put_number r.bodies t None)) same) ∙ has)) in
              let start = not_running r.journal.rows r.journal.tasks r.outcomes r.bodies r.running held.live t n runs.row runs.running runs.there runs.of_task u m row differ live in
              (row, record { there = live.there; of_task = live.of_task; live = inl start }, λ k rest. rest)

          uncut : (u : ℕ) (tag : CutTag) → found (put_number r.outcomes t (Some (Gave v))) u ≢ Some (WasCut tag)
          uncut u tag e =
              ⊎_elim
              (λ same. gave_cut v tag (same_Some (Gave v) (WasCut tag)
              (sym (found_put r.outcomes t (Some (Gave v)) within.0 (omega (arith, within.1, held.beside.of_outcomes))) ∙ sym (ap (found (put_number r.outcomes t (Some (Gave v)))) same) ∙ e)))
              (λ differ. now.uncut u tag (sym (found_put_other r.outcomes t u (Some (Gave v)) differ) ∙ e))
              (cases_eq u t)

    -- what is counted from the frame that runs
    frame_here : (t n : ℕ) (q : FrameOf ℕ) (runs : RunsAt r t n (OfKind q)) → RestCounts p c r.calls runs.row.after q (left_here t n (OfKind q) runs).0
    frame_here t n q runs =
        let (m, row, live, rest) = stands_here t n (OfKind q) runs in
        let same : m ≡ n = one_live r.journal.rows r.journal.tasks r.outcomes r.bodies r.running held.live t m n row runs.row live (running_number r [] held t n (OfKind q) runs) in
        let is_row : row ≡ runs.row = same_row r.journal.rows n row runs.row (sym (ap (by_number r.journal.rows) same) ∙ live.there) runs.there in
        subst (λ (x : ActivationRow). RestCounts p c r.calls x.after q (left_here t n (OfKind q) runs).0) is_row rest

    -- where a frame goes on by a line, as much is counted
    goes_rest_counts : (after : Option ℕ) (q next : FrameOf ℕ) (k : Counts) → Goes p c r q next → RestCounts p c r.calls after q k → RestCounts p c r.calls after next k
    goes_rest_counts after q _ k (Goes.steps next acts) (m, e) =
        (m, sym (ap (λ (x : Meant). (behind after (worths p c m r.calls) x).counts) (steps-rest p c m (jumps_ahead p formed) (worths p c m r.calls) q next acts)) ∙ e)
    goes_rest_counts after q _ k (Goes.reads to x u i acts names gave) rest =
        (reads-counts p c (jumps_ahead p formed) r.calls after q to x u i k acts names (values.complete u (Number i) gave)).0 rest

    -- so the task is kept, where it goes on
    goes_counts : (t n : ℕ) (q next : FrameOf ℕ) → RunsAt r t n (OfKind q) → Goes p c r q next → CountsStand p c (with_body r t (OfKind next)) all
    goes_counts t n q next runs goes =
        let rest = goes_rest_counts runs.row.after q next (left_here t n (OfKind q) runs).0 goes (frame_here t n q runs) in
        let lies = within t n (OfKind q) runs in
        record {
          left = put_number now.left t (left_here t n (OfKind q) runs).0;
          roots_left = now.roots_left;
          beside = length_put now.left t (left_here t n (OfKind q) runs).0 ∙ now.beside;
          bodies_count = bodies_put p c r.journal.rows r.running r.calls r.bodies now.left t (Some (OfKind next)) (left_here t n (OfKind q) runs).0 lies.0 (omega (arith, lies.1, held.beside.of_bodies)) now.bodies_count
              (n, runs.row, running_number r [] held t n (OfKind q) runs, rest);
          to_come = now.to_come;
          add_up = add_put r.journal.rows now.left now.roots_left all t (left_here t n (OfKind q) runs).0 (left_here t n (OfKind q) runs).0 (left_here t n (OfKind q) runs).1 refl refl now.add_up;
          uncut = now.uncut;
          no_null = now.no_null;
          named = now.named;
        }

    -- of a task that ends with a value nothing is left
    answers_none : (t n : ℕ) (body : Body) (v : Value) (runs : RunsAt r t n body) → Answers p c r body v → ((left_here t n body runs).0.tasks ≡ 0) × ((left_here t n body runs).0.activations ≡ 0)
    answers_none t n _ _ runs (Answers.finishes q v acts) =
        let none = (ends-counts_rest p c (jumps_ahead p formed) r.calls runs.row.after q v (left_here t n (OfKind q) runs).0 acts (waited t n (OfKind q) runs)).0 (frame_here t n q runs) in
        (sym (ap (λ (k : Counts). k.tasks) none), sym (ap (λ (k : Counts). k.activations) none))
    answers_none t n _ _ runs (Answers.traps q to x u trap acts names gave) =
        let none = (traps-counts_rest p c (jumps_ahead p formed) r.calls runs.row.after q to x u (Trapped trap) (left_here t n (OfKind q) runs).0 acts names (values.complete u (Trapped trap) gave) tt (waited t n (OfKind q) runs)).0 (frame_here t n q runs) in
        (sym (ap (λ (k : Counts). k.tasks) none), sym (ap (λ (k : Counts). k.activations) none))
    answers_none t n _ _ runs (Answers.gathered members next none) =
        let here = stands_here t n (OfMembers members next) runs in
        (here.0, omega (arith, here.1, past_end members next none))

    -- an activation starts
    begins_counts : (n : ℕ) (queues : Queues) → r.running ≡ None → next_queued r.ready ≡ Some (n, queues) → CountsStand p c (begins r n queues) all
    begins_counts n queues idle next = record {
      left = now.left;
      roots_left = now.roots_left;
      beside = now.beside ∙ same_length;
      bodies_count = bodies_later p c r.journal.rows (begins r n queues).journal.rows r.running (Some n) r.calls r.calls r.bodies now.left stays now.bodies_count;
      to_come = now.to_come;
      add_up = record {
        tasks = omega (arith, now.add_up.tasks, tasks_started r.journal.rows n (r.journal.stamps + 1));
        activations = omega (arith, now.add_up.activations, same_length);
      };
      uncut = now.uncut;
      no_null = now.no_null;
      named = now.named;
    }
      where
        same_length : length r.journal.rows ≡ length (begins r n queues).journal.rows
        same_length = sym held.beside.of_calls ∙ (held_starts r n queues held idle next).beside.of_calls

        stays : (t k : ℕ) (row : ActivationRow) (q : FrameOf ℕ) → found r.bodies t ≡ Some (OfKind q) → IsLiveAt r.journal.rows r.running t k row
            → (row' : ActivationRow) × IsLiveAt (begins r n queues).journal.rows (Some n) t k row' × ((j : Counts) → RestCounts p c r.calls row.after q j → RestCounts p c r.calls row'.after q j)
        stays t k row q has live =
            let (first, there, start) = next_row r [] n queues held next in
            let one = one_started r.journal.rows n (r.journal.stamps + 1) first there in
            ⊎_elim
            (λ same.
            let is_first : first ≡ row = same_row r.journal.rows n first row there (sym (ap (by_number r.journal.rows) same) ∙ live.there) in (
              record first { start = Some (r.journal.stamps + 1) },
              record {
                there = ap (by_number (begins r n queues).journal.rows) same ∙ one.here;
                of_task = ap (λ (x : ActivationRow). x.task) is_first ∙ live.of_task;
                live = inr (ap Some (sym same));
              },
              λ j rest. subst (λ (x : ActivationRow). RestCounts p c r.calls x.after q j) (sym is_first) rest,
            ))
            (λ differ. (
              row,
              record {
                there = one.others k differ ∙ live.there;
                of_task = live.of_task;
                live = inl (⊎_elim (λ e. e) (λ e. absurd (none-some k (sym idle ∙ e))) live.live);
              },
              λ j rest. rest,
            ))
            (cases_eq k n)

    -- what a frame names, and what its activation is behind, was accepted
    all_named : (t n : ℕ) (q : FrameOf ℕ) (runs : RunsAt r t n (OfKind q)) → NamesAccepted r.calls runs.row.after q
    all_named t n q runs = (frame_names r held t q runs.has, after_names r held calls n runs.row runs.there)

    -- so much is left of the running task where it asks for a new one: that task and its activation, what is left of the new
    -- task, and what is left of this one
    record AsksFor (t n : ℕ) (q : FrameOf ℕ) (runs : RunsAt r t n (OfKind q)) (request : Request) (to : ℕ) : Type 0 where
      first : Counts
      rest : Counts
      of_first : BodyCounts p c (r.journal.rows ++ new_row r request.after ∷ []) r.running (r.calls ++ request.call ∷ []) (next_number r.journal) (Some request.body) first
      of_rest : RestCounts p c (r.calls ++ request.call ∷ []) runs.row.after (set_future q to (Some (next_number r.journal))) rest
      of_tasks : (left_here t n (OfKind q) runs).0.tasks ≡ 1 + (first.tasks + rest.tasks)
      of_activations : (left_here t n (OfKind q) runs).0.activations ≡ 1 + (first.activations + rest.activations)

    -- as the line of a spawn or an aggregate says
    asks_for : (t n : ℕ) (q : FrameOf ℕ) (runs : RunsAt r t n (OfKind q)) (request : Request) (to : ℕ) (retry : Bool) → Asks p c q request to retry → AsksFor t n q runs request to
    asks_for t n q runs _ _ _ (Asks.calls line to call waits there e) =
        let request = call_request p call (task_waited q waits) (asked_priority line.instr) in
        let k = (left_here t n (OfKind q) runs).0 in
        let earlier = asked_earlier p formed valid c r held calls tasks values t n q runs request to _ (Asks.calls line to call waits there e) in
        let grown = (grown-counts p c r.calls request.call runs.row.after q k (all_named t n q runs)).0 (frame_here t n q runs) in
        let (i, j, of_first, of_rest, sum) = (accepted_spawns-counts p c (jumps_ahead p formed) (r.calls ++ request.call ∷ []) (length r.calls) runs.row.after q to call waits k (line, there, e)
        (spawn_names p formed valid c r runs.row.after q (running_stands p r held tasks t n (OfKind q) runs).seat line there to call waits e)
        (last_call r.calls call request.after earlier)).0 grown in
        record {
          first = i;
          rest = j;
          of_first = (next_number r.journal, new_row r request.after, record { there = snoc_new r.journal.rows (new_row r request.after); of_task = refl; live = inl refl }, of_first);
          of_rest = subst (λ x. RestCounts p c (r.calls ++ request.call ∷ []) runs.row.after (set_future q to (Some x)) j) (ap suc held.beside.of_calls) of_rest;
          of_tasks = ap (λ (x : Counts). x.tasks) sum;
          of_activations = ap (λ (x : Counts). x.activations) sum;
        }
    asks_for t n q runs _ _ _ (Asks.gathers line to members there e) =
        let request = all_request (tasks_named q members) (asked_priority line.instr) in
        let seat = (running_stands p r held tasks t n (OfKind q) runs).seat in
        let k = (left_here t n (OfKind q) runs).0 in
        let names = gather_names p formed valid c r runs.row.after q seat line there to members e in
        let (priority, retry, is_all) = shape_of c line.instr q (Gathers to members) e in
        let is_formed = subst (λ instr. IsFormedInstr p seat.kind seat.state q.at instr) is_all (seat_formed p formed valid c r runs.row.after true q seat line there) in
        let as_many : length members ≡ length (tasks_named q members) = sym (map_length (future_at q.futures) members) ∙ ap length names ∙ map_length Some (tasks_named q members) in
        let (more, is_more) = one_less (length (tasks_named q members)) (omega (arith, as_many, is_formed.1)) in
        let earlier = asked_earlier p formed valid c r held calls tasks values t n q runs request to _ (Asks.gathers line to members there e) in
        let grown = (grown-counts p c r.calls request.call runs.row.after q k (all_named t n q runs)).0 (frame_here t n q runs) in
        let (j, worth, of_rest, sum) = (accepted_aggregates-counts p c (jumps_ahead p formed) (r.calls ++ request.call ∷ []) (length r.calls) runs.row.after q to members (tasks_named q members) k (line, there, e) names
        (record { there = snoc_new r.calls request.call; members_earlier = λ at u f. earlier u (at, f) })).0 grown in
        record {
          first = record { tasks = 0; activations = more };
          rest = j;
          of_first = (refl, omega (arith, is_more));
          of_rest = subst (λ x. RestCounts p c (r.calls ++ request.call ∷ []) runs.row.after (set_future q to (Some x)) j) (ap suc held.beside.of_calls) of_rest;
          of_tasks = omega (arith, ap (λ (x : Counts). x.tasks) sum);
          of_activations = omega (arith, is_more, ap (λ (x : Counts). x.activations) sum);
        }

    -- other calls leave what is counted from a frame of before
    stays_drawn : (call : Accepted) (t m : ℕ) (other : ActivationRow) (q : FrameOf ℕ) → found r.bodies t ≡ Some (OfKind q) → by_number r.journal.rows m ≡ Some other
        → (k : Counts) → RestCounts p c r.calls other.after q k → RestCounts p c (r.calls ++ call ∷ []) other.after q k
    stays_drawn call t m other q has there k rest = (grown-counts p c r.calls call other.after q k (frame_names r held t q has, after_names r held calls m other there)).0 rest

    -- a new task is drawn
    spawns_counts : (units t n to : ℕ) (q : FrameOf ℕ) (request : Request) (retry : Bool) (block : BlockState) → RunsAt r t n (OfKind q) → Asks p c q request to retry
        → CountsStand p c (with_body (accepts units r request block) t (OfKind (set_future q to (Some (next_number r.journal))))) all
    spawns_counts units t n to q request retry block runs asks = record {
      left = put_number (now.left ++ asked.first ∷ []) t asked.rest;
      roots_left = now.roots_left;
      beside = length_put (now.left ++ asked.first ∷ []) t asked.rest ∙ length_snoc now.left asked.first ∙ ap suc now.beside ∙ sym (length_snoc r.journal.rows row);
      bodies_count = bodies_put p c rows' r.running calls' (r.bodies ++ Some request.body ∷ []) (now.left ++ asked.first ∷ []) t (Some (OfKind (set_future q to (Some (next_number r.journal))))) asked.rest
          lies.0 (omega (arith, lies.1, length_snoc r.bodies (Some request.body), held.beside.of_bodies)) drawn
          (n, runs.row, record { there = snoc_old r.journal.rows row n runs.row runs.there; of_task = runs.of_task; live = inr runs.running }, asked.of_rest);
      to_come = now.to_come;
      add_up = record {
        tasks = omega (
          arith,
          now.add_up.tasks,
          new_task_counts r.journal.rows row refl,
          total-snoc (λ (x : Counts). x.tasks) now.left asked.first,
          total_put (λ (x : Counts). x.tasks) (now.left ++ asked.first ∷ []) t k asked.rest was,
          asked.of_tasks,
        );
        activations = omega (
          arith,
          now.add_up.activations,
          length_snoc r.journal.rows row,
          total-snoc (λ (x : Counts). x.activations) now.left asked.first,
          total_put (λ (x : Counts). x.activations) (now.left ++ asked.first ∷ []) t k asked.rest was,
          asked.of_activations,
        );
      };
      uncut = λ u tag e. now.uncut u tag (sym (outcome_snoc r.outcomes u) ∙ e);
      no_null = now.no_null;
      named = now.named;
    }
      where
        asked : AsksFor t n q runs request to
        asked = asks_for t n q runs request to retry asks

        row : ActivationRow
        row = new_row r request.after

        rows' : List ActivationRow
        rows' = r.journal.rows ++ new_row r request.after ∷ []

        calls' : List Accepted
        calls' = r.calls ++ request.call ∷ []

        k : Counts
        k = (left_here t n (OfKind q) runs).0

        lies : (1 ≤ t) × (t ≤ length r.journal.rows)
        lies = within t n (OfKind q) runs

        was : by_number (now.left ++ asked.first ∷ []) t ≡ Some k
        was = snoc_old now.left asked.first t k (left_here t n (OfKind q) runs).1

        stays : (u m : ℕ) (other : ActivationRow) (frame : FrameOf ℕ) → found r.bodies u ≡ Some (OfKind frame) → IsLiveAt r.journal.rows r.running u m other
            → (row' : ActivationRow) × IsLiveAt rows' r.running u m row' × ((x : Counts) → RestCounts p c r.calls other.after frame x → RestCounts p c calls' row'.after frame x)
        stays u m other frame has live =
            (other, record { there = snoc_old r.journal.rows row m other live.there; of_task = live.of_task; live = live.live }, stays_drawn request.call u m other frame has live.there)

        drawn : BodiesCount p c rows' r.running calls' (r.bodies ++ Some request.body ∷ []) (now.left ++ asked.first ∷ [])
        drawn = bodies_snoc p c rows' r.running calls' r.bodies now.left (Some request.body) asked.first (omega (arith, now.beside, held.beside.of_bodies))
            (bodies_later p c r.journal.rows rows' r.running r.running r.calls calls' r.bodies now.left stays now.bodies_count)
            (subst (λ x. BodyCounts p c rows' r.running calls' x (Some request.body) asked.first) (ap suc (sym held.beside.of_bodies)) asked.of_first)

    -- the running task is renewed: an activation is counted, and this is left of it
    record Renewed (t n : ℕ) (body : Body) (runs : RunsAt r t n body) (to : Body) (after : Option ℕ) : Type 0 where
      rest : Counts
      of_rest : BodyCounts p c (r.journal.rows ++ further_row t after ∷ []) None (r.calls ++ Respawn t after ∷ []) t (Some to) rest
      of_tasks : (left_here t n body runs).0.tasks ≡ rest.tasks
      of_activations : (left_here t n body runs).0.activations ≡ suc rest.activations

    -- a further activation is drawn, and the task stands at another body
    renews_counts : (t n : ℕ) (body to : Body) (after : Option ℕ) (priority : Priority) (runs : RunsAt r t n body) → (notes : Notes) → notes.nulls ≡ 0 → Renewed t n body runs to after
        → CountsStand p c (renewed_run (with_notes r notes) t to after priority) all
    renews_counts t n body to after priority runs notes no_null renewed = record {
      left = put_number (now.left ++ no_counts ∷ []) t renewed.rest;
      roots_left = now.roots_left;
      beside = length_put (now.left ++ no_counts ∷ []) t renewed.rest ∙ length_snoc now.left no_counts ∙ ap suc now.beside ∙ sym (length_snoc r.journal.rows row);
      bodies_count = subst (λ x. BodiesCount p c rows' None calls' x (put_number (now.left ++ no_counts ∷ []) t renewed.rest)) (put_twice (r.bodies ++ None ∷ []) t None (Some to))
          (subst (λ x. BodiesCount p c rows' None calls' (put_number (put_number (r.bodies ++ None ∷ []) t None) t (Some to)) x) (put_twice (now.left ++ no_counts ∷ []) t no_counts renewed.rest) again);
      to_come = now.to_come;
      add_up = record {
        tasks = omega (
          arith,
          now.add_up.tasks,
          old_task_counts r.journal.rows row lies.1,
          total-snoc (λ (x : Counts). x.tasks) now.left no_counts,
          total_put (λ (x : Counts). x.tasks) (now.left ++ no_counts ∷ []) t k renewed.rest was,
          renewed.of_tasks,
        );
        activations = omega (
          arith,
          now.add_up.activations,
          length_snoc r.journal.rows row,
          total-snoc (λ (x : Counts). x.activations) now.left no_counts,
          total_put (λ (x : Counts). x.activations) (now.left ++ no_counts ∷ []) t k renewed.rest was,
          renewed.of_activations,
        );
      };
      uncut = λ u tag e. now.uncut u tag (sym (outcome_snoc r.outcomes u) ∙ e);
      no_null = no_null;
      named = now.named;
    }
      where
        row : ActivationRow
        row = further_row t after

        rows' : List ActivationRow
        rows' = r.journal.rows ++ further_row t after ∷ []

        calls' : List Accepted
        calls' = r.calls ++ Respawn t after ∷ []

        k : Counts
        k = (left_here t n body runs).0

        lies : (1 ≤ t) × (t ≤ length r.journal.rows)
        lies = within t n body runs

        was : by_number (now.left ++ no_counts ∷ []) t ≡ Some k
        was = snoc_old now.left no_counts t k (left_here t n body runs).1

        many : t ≤ length (r.bodies ++ None ∷ [])
        many = omega (arith, lies.1, length_snoc r.bodies None, held.beside.of_bodies)

        stays : (u m : ℕ) (other : ActivationRow) (q : FrameOf ℕ) → found (put_number (r.bodies ++ None ∷ []) t None) u ≡ Some (OfKind q) → IsLiveAt r.journal.rows r.running u m other
            → (row' : ActivationRow) × IsLiveAt rows' None u m row' × ((x : Counts) → RestCounts p c r.calls other.after q x → RestCounts p c calls' row'.after q x)
        stays u m other q has live =
            let differ : u ≢ t = λ same. absurd (none-some (OfKind q) (sym (found_put (r.bodies ++ None ∷ []) t None lies.0 many) ∙ sym (ap (found (put_number (r.bodies ++ None ∷ []) t None)) same) ∙ has)) in
            let start = not_running r.journal.rows r.journal.tasks r.outcomes r.bodies r.running held.live t n runs.row runs.running runs.there runs.of_task u m other differ live in
            let old = sym (read_snoc flat r.bodies None refl u) ∙ sym (found_put_other (r.bodies ++ None ∷ []) t u None differ) ∙ has in
            (other, record { there = snoc_old r.journal.rows row m other live.there; of_task = live.of_task; live = inl start }, stays_drawn (Respawn t after) u m other q old live.there)

        out : BodiesCount p c rows' None calls' (put_number (r.bodies ++ None ∷ []) t None) (put_number (now.left ++ no_counts ∷ []) t no_counts)
        out = bodies_later p c r.journal.rows rows' r.running None r.calls calls' (put_number (r.bodies ++ None ∷ []) t None) (put_number (now.left ++ no_counts ∷ []) t no_counts) stays
            (bodies_put p c r.journal.rows r.running r.calls (r.bodies ++ None ∷ []) (now.left ++ no_counts ∷ []) t None no_counts lies.0 many
            (bodies_snoc p c r.journal.rows r.running r.calls r.bodies now.left None no_counts (omega (arith, now.beside, held.beside.of_bodies)) now.bodies_count refl) refl)

        again : BodiesCount p c rows' None calls' (put_number (put_number (r.bodies ++ None ∷ []) t None) t (Some to)) (put_number (put_number (now.left ++ no_counts ∷ []) t no_counts) t renewed.rest)
        again = bodies_put p c rows' None calls' (put_number (r.bodies ++ None ∷ []) t None) (put_number (now.left ++ no_counts ∷ []) t no_counts) t (Some to) renewed.rest lies.0
            (omega (arith, many, length_put (r.bodies ++ None ∷ []) t None)) out renewed.of_rest

    -- a task that is renewed has an activation left for it
    renews : (units t n : ℕ) (body to : Body) (after : Option ℕ) (priority : Priority) (notes : Notes) (runs : RunsAt r t n body) → Renews p c units r n body to after priority notes → notes.nulls ≡ 0
        → Renewed t n body runs to after
    renews units t n _ _ _ _ _ runs (Renews.again q line target waits there e) none =
        let after = task_waited q waits in
        let k = (left_here t n (OfKind q) runs).0 in
        let names = again_names p formed valid c r runs.row.after q (running_stands p r held tasks t n (OfKind q) runs).seat line there target waits e in
        let has = has_later p c r.calls (Respawn t after ∷ []) runs.row.after (after_names r held calls n runs.row runs.there) (waited t n (OfKind q) runs) in
        let grown = (grown-counts p c r.calls (Respawn t after) runs.row.after q k (all_named t n q runs)).0 (frame_here t n q runs) in
        let (j, rest, sum) = (accepted_respawns-counts p c (jumps_ahead p formed) (r.calls ++ Respawn t after ∷ []) runs.row.after q target waits k (line, there, e) names has).0 grown in
        record {
          rest = j;
          of_rest = (next_number r.journal, further_row t after, record { there = snoc_new r.journal.rows (further_row t after); of_task = refl; live = inl refl }, rest);
          of_tasks = omega (arith, ap (λ (x : Counts). x.tasks) sum);
          of_activations = omega (arith, ap (λ (x : Counts). x.activations) sum);
        }
    renews units t n _ _ _ _ _ runs (Renews.retries q request to how placed) none = absurd (omega (arith, none))
    renews units t n _ _ _ _ _ runs (Renews.behind members next u e) none =
        let here = stands_here t n (OfMembers members next) runs in
        let within = slice_get_within members next u e in
        let (more, is_more) = one_less (left_here t n (OfMembers members next) runs).0.activations (omega (arith, here.1, within)) in
        record {
          rest = record { tasks = 0; activations = more };
          of_rest = (refl, omega (arith, is_more, here.1));
          of_tasks = here.0;
          of_activations = is_more;
        }

    -- a move that refuses nothing, and notes no null, keeps what stands of counts
    pub counts_kept : (units : ℕ) (s : Run)
        → ((t n : ℕ) (body : Body) (tag : CutTag) (notes : Notes) → RunsAt r t n body → Refuses p c units r n body tag notes → s ≡ is_refused (with_notes r notes) t tag → ⊥)
        → ((t n : ℕ) (body to : Body) (after : Option ℕ) (priority : Priority) (notes : Notes) → RunsAt r t n body → Renews p c units r n body to after priority notes → s.nulls ≡ notes.nulls → notes.nulls ≡ 0)
        → Move p c units r s → CountsStand p c s all
    counts_kept units _ unrefused unnoted (Move.goes_on t n q next runs goes) = goes_counts t n q next runs goes
    counts_kept units _ unrefused unnoted (Move.spawned t n to q request retry block runs asks placed some) =
        counts_arrives p c all (with_body (accepts units r request block) t (OfKind (set_future q to (Some (next_number r.journal))))) (next_number r.journal) request.after
        (spawns_counts units t n to q request retry block runs asks)
    counts_kept units _ unrefused unnoted (Move.respawned t n body to after priority notes runs how some) =
        let none = unnoted t n body to after priority notes runs how (nulls_arrives (renewed_run (with_notes r notes) t to after priority) (next_number r.journal) after) in
        counts_arrives p c all (renewed_run (with_notes r notes) t to after priority) (next_number r.journal) after
        (renews_counts t n body to after priority runs notes none (renews units t n body to after priority notes runs how none))
    counts_kept units _ unrefused unnoted (Move.gave t n body v runs answers) =
        let none = answers_none t n body v runs answers in ends_counts t n body runs v cause.Clear none.0 none.1
    counts_kept units _ unrefused unnoted (Move.refused t n body tag notes runs refuses) = absurd (unrefused t n body tag notes runs refuses refl)
    counts_kept units _ unrefused unnoted (Move.started n queues idle next uncut) = begins_counts n queues idle next
    counts_kept units _ unrefused unnoted (Move.cut_at_start n queues row u tag idle next there after cut) = absurd (now.uncut u tag cut)

    -- no more is left of one task than of all
    some_left : (t n : ℕ) (body : Body) (runs : RunsAt r t n body)
        → ((left_here t n body runs).0.tasks ≤ tasks_left now.left) × ((left_here t n body runs).0.activations ≤ activations_left now.left)
    some_left t n body runs =
        let tasks_put = total_put (λ (x : Counts). x.tasks) now.left t (left_here t n body runs).0 no_counts (left_here t n body runs).1 in
        let activations_put = total_put (λ (x : Counts). x.activations) now.left t (left_here t n body runs).0 no_counts (left_here t n body runs).1 in
        (omega (arith, tasks_put), omega (arith, activations_put))

    -- where something is asked for, the numbers are not all drawn
    has_left : (limit : ℕ) → all.activations ≤ limit → r.journal.limit ≡ limit → (t n : ℕ) (body : Body) (runs : RunsAt r t n body) → 1 ≤ (left_here t n body runs).0.activations → has_number r ≡ false → ⊥
    has_left limit fits same t n body runs many none =
        let full = ltb-false (length r.journal.rows) r.journal.limit none in
        absurd (omega (arith, full, same, fits, many, (some_left t n body runs).1, now.add_up.activations))

    -- where the pool has room left
    module _ (units : ℕ) (room : HasRoomLeft p units all r) where
      -- the pool has a block for the task that is asked for
      has_block : (t n to : ℕ) (q : FrameOf ℕ) (request : Request) (retry : Bool) → RunsAt r t n (OfKind q) → Asks p c q request to retry → placed (pool_of units r) request.class ≡ None → ⊥
      has_block t n to q request retry runs asks none =
          let asked = asks_for t n q runs request to retry asks in
          room request.class (may_ask p formed valid c r runs.row.after q (running_stands p r held tasks t n (OfKind q) runs).seat request to retry asks)
          (omega (arith, asked.of_tasks, (some_left t n (OfKind q) runs).0, now.add_up.tasks)) none

      -- no null is noted beside a renewal
      none_noted : (t n : ℕ) (body to : Body) (after : Option ℕ) (priority : Priority) (notes : Notes) → RunsAt r t n body → Renews p c units r n body to after priority notes → notes.nulls ≡ 0
      none_noted t n _ _ _ _ _ runs (Renews.again q line target waits there e) = now.no_null
      none_noted t n _ _ _ _ _ runs (Renews.retries q request to how none) = absurd (has_block t n to q request true runs how none)
      none_noted t n _ _ _ _ _ runs (Renews.behind members next u e) = now.no_null

      -- no task is refused
      none_refused : (limit : ℕ) → all.activations ≤ limit → r.journal.limit ≡ limit → (t n : ℕ) (body : Body) (tag : CutTag) (notes : Notes) → RunsAt r t n body → Refuses p c units r n body tag notes → ⊥
      none_refused limit fits same t n _ _ _ runs (Refuses.no_block q request to how none) = has_block t n to q request false runs how none
      none_refused limit fits same t n _ _ _ runs (Refuses.no_number q request to retry block how placed none) =
          let asked = asks_for t n q runs request to retry how in
          has_left limit fits same t n (OfKind q) runs (omega (arith, asked.of_activations)) none
      none_refused limit fits same t n _ _ _ runs (Refuses.no_renewal body to after priority notes how none) =
          let renewed = renews units t n body to after priority notes runs how (none_noted t n body to after priority notes runs how) in
          has_left limit fits same t n body runs (omega (arith, renewed.of_activations)) none

      -- a move keeps what stands of counts
      pub counts_step : (limit : ℕ) → all.activations ≤ limit → r.journal.limit ≡ limit → (s : Run) → Move p c units r s → CountsStand p c s all
      counts_step limit fits same s move =
          counts_kept units s (λ t n body tag notes runs refuses e. none_refused limit fits same t n body tag notes runs refuses)
          (λ t n body to after priority notes runs how e. none_noted t n body to after priority notes runs how) move
