-- Each move of a run of a valid program keeps what stands of values.
use Rattle.std.proofs.Common.{◌≡◌, ℕ, zero, suc, ◌+◌, ◌≤◌, Bool, true, Option, Some, None, List, [], ◌∷◌, ◌++◌, length, map, slice_get, refl, sym, ◌∙◌, ap, subst}
use Rattle.std.specs.Prelude.{IfSome}
use Rattle.std.proofs.lemmas.Option.{none-some}
use Rattle.task_syntax.specs.Places.{Each}
use Rattle.task_syntax.specs.Form.{IsWellFormed, IsFormedInstr}
use Rattle.task_syntax.specs.Valid.{Held, HeldArgument, IsValid, IsSoundInstr}
use Rattle.task_syntax.specs.declared.instr.Argument.{Argument}
use Rattle.task_syntax.specs.declared.instr.Argument.TheVariants as argument
use Rattle.task_syntax.specs.declared.instr.Instr.TheVariants.{Spawn}
use Rattle.task_syntax.specs.declared.value.Value.{Value}
use Rattle.task_syntax.specs.declared.value.Value.TheVariants.{Number, Trapped}
use Rattle.task_syntax.specs.declared.value.Priority.{Priority}
use Rattle.task_syntax.specs.declared.instr.Line.{Line}
use Rattle.task_syntax.specs.declared.program.Root.{Root as RootLine}
use Rattle.task_syntax.specs.declared.program.Program.{Program}
use Rattle.task_syntax.specs.declared.columns.Columns.{Columns}
use Rattle.task_meaning.specs.Meant.{Meant, future_at, behind}
use Rattle.task_meaning.specs.Frame.{FrameOf, CallOf, code_at, entry, enter, set_future}
use Rattle.task_meaning.specs.FrameLaws.{WorthGives, RestGives, HasWorth, NamesTask, task_waited}
use Rattle.task_meaning.specs.Roots.{root_call}
use Rattle.task_meaning.specs.Acts.{Calls, Gathers, Respawns, act_of}
use Rattle.task_meaning.specs.Worths.{Accepted, OfAll, Respawn, worths}
use Rattle.task_meaning.proofs.Ahead.{jumps_ahead}
use Rattle.task_meaning.proofs.Worths.{steps-rest}
use Rattle.task_meaning.proofs.Frames.{accepted_spawns-rest}
use Rattle.task_meaning.proofs.FrameEnds.{accepted_aggregates-rest, reads-rest, ends-rest, traps-rest, accepted_respawns-rest, retries-rest}
use Rattle.task_meaning.proofs.AggregateRest.{aggregate-worths}
use Rattle.frame_code.specs.Words.{OfKind, OfMembers}
use Rattle.record_core.specs.Numbers.{by_number, flat}
use Rattle.record_core.specs.EndAsks.{CallNames, PassesTask}
use Rattle.record_core.specs.Journal.{next_number}
use Rattle.record_core.specs.EndSeen.{RunPlan}
use Rattle.record_core.specs.declared.rows.Cause.TheVariants as cause
use Rattle.record_core.specs.declared.rows.CutTag.{CutTag}
use Rattle.run_model.specs.State.{Body, Gave, WasCut, Named, Run}
use Rattle.run_model.specs.Step.{Request, steps, asked, task_list, tasks_named, own_tasks, root_request, at_first, accepts, with_body, with_root, cause_of_cut, call_request, asked_priority}
use Rattle.run_model.specs.Move.{Notes, with_notes, RunsAt, Goes, Asks, Answers, Renews, Move, RootMove, begins}
use Rattle.run_model.proofs.ByNumber.{snoc_new, found_old, none_of_empty, has_some}
use Rattle.run_model.proofs.NumbersInvariant.{NumbersStand}
use Rattle.run_model.proofs.NamesFacts.{asks_call_named, root_call_named}
use Rattle.run_model.proofs.CallsInvariant.{CallsStand}
use Rattle.run_model.proofs.NumbersParts.{started_runs, held_starts}
use Rattle.run_model.proofs.RunsFacts.{running_task, running_number}
use Rattle.run_model.proofs.NumbersKept.{numbers_first, numbers_root, numbers_move}
use Rattle.run_model.proofs.CallsKept.{calls_first, calls_root, calls_move}
use Rattle.run_model.proofs.FramesInvariant.{IsSeated, FramesStand}
use Rattle.run_model.proofs.LineFacts.{shape_of}
use Rattle.run_model.proofs.SeatFacts.{seat_formed, seat_sound}
use Rattle.run_model.proofs.SeatEntries.{item_at}
use Rattle.run_model.proofs.TasksStand.{TasksStand, tasks_of}
use Rattle.run_model.proofs.FramesParts.{renewed_run}
use Rattle.run_model.proofs.FramesKept.{frames_first, frames_root, frames_move, noted, runs_noted, running_stands, all_given}
use Rattle.run_model.proofs.ValuesInvariant.{ValuesStand}
use Rattle.run_model.proofs.ValuesParts.{worth_later, has_later, rest_before, last_call, first_worth, task_named, frame_names, after_names, aggregate_at, has_given, values_arrives, values_body, values_ends, values_begins, values_accepts, values_renewed, same_frame}
use Rattle.run_model.proofs.Reached.{IsNextRoot, IsKept, always}

-- before the first root no task has a body or an outcome
pub values_first : (p : Program) (c : Columns) (plan : RunPlan) → ValuesStand p c (at_first plan)
values_first p c plan = record {
  complete = λ t v e. absurd (none-some (Gave v) (sym (ap flat (none_of_empty t)) ∙ e));
  under_way = λ t n row q v live has. absurd (none-some (OfKind q) (sym (ap flat (none_of_empty t)) ∙ has));
}

-- what a refusal notes is not read here
values_noted : (p : Program) (c : Columns) (r : Run) (notes : Notes) → ValuesStand p c r → ValuesStand p c (with_notes r notes)
values_noted p c r notes now = record { complete = now.complete; under_way = now.under_way }

-- nor are calls
calls_noted : (r : Run) (notes : Notes) → CallsStand r → CallsStand (with_notes r notes)
calls_noted r notes now = record { row_of = now.row_of; earlier = now.earlier }

-- a body of an aggregate is not one of a frame
members_differ : (members : List ℕ) (next : ℕ) (q : FrameOf ℕ) → ◌≡◌ {A = Body} (OfMembers members next) (OfKind q) → ⊥
members_differ members next q e = cc

-- a cut task gave no value
cut_gave : (tag : CutTag) (v : Value) → WasCut tag ≡ Gave v → ⊥
cut_gave tag v e = cc

module _ (p : Program) (c : Columns) (units : ℕ) where
  -- asking for a root keeps what stands of values
  pub values_root : (r s : Run) (root : RootLine) → IsNextRoot p r root → NumbersStand r → CallsStand r → ValuesStand p c r → RootMove p units r root s → ValuesStand p c s
  values_root r _ root next held calls now (RootMove.named block free placed some) =
      values_arrives p c (with_root (accepts units r request block) (Named (next_number r.journal))) with_word (next_number r.journal) request.after
    where
      request : Request
      request = root_request p r root

      earlier : (u : ℕ) → CallNames request.call u → u ≤ length r.calls
      earlier u named = let (at, e) = root_call_named p r root u named in task_named r held u (held.names.in_roots at u e)

      new : (q : FrameOf ℕ) (v : Value) → request.body ≡ OfKind q → RestGives p c (r.calls ++ request.call ∷ []) request.after q v → WorthGives p c (r.calls ++ request.call ∷ []) (next_number r.journal) v
      new q v is_body rest =
          subst (λ k. WorthGives p c (r.calls ++ request.call ∷ []) k v) (ap suc held.beside.of_calls)
          (first_worth p c (r.calls ++ request.call ∷ []) (length r.calls) (root_call (own_tasks r) root) request.after v
          (last_call r.calls (root_call (own_tasks r) root) request.after earlier)
          (subst (λ k. RestGives p c (r.calls ++ request.call ∷ []) request.after k v) (sym (same_frame (entry p (root_call (own_tasks r) root)) q is_body)) rest))

      with_word : ValuesStand p c (with_root (accepts units r request block) (Named (next_number r.journal)))
      with_word = let drawn = values_accepts p c r held now calls units request block new in record { complete = drawn.complete; under_way = drawn.under_way }
  values_root r _ root next held calls now (RootMove.refused tag notes free how) = record { complete = now.complete; under_way = now.under_way }
  values_root r _ root next held calls now (RootMove.skipped first e) = record { complete = now.complete; under_way = now.under_way }

module _ (p : Program) (formed : IsWellFormed p) (valid : IsValid p) (c : Columns) where
  -- what follows from a frame is what follows from the next one, where it goes on
  goes_rest : (r : Run) (after : Option ℕ) (q next : FrameOf ℕ) (v : Value) → ValuesStand p c r → Goes p c r q next → RestGives p c r.calls after next v → RestGives p c r.calls after q v
  goes_rest r after q _ v now (Goes.steps next acts) (n, e) =
      (n, ap (λ (m : Meant). (behind after (worths p c n r.calls) m).value) (steps-rest p c n (jumps_ahead p formed) (worths p c n r.calls) q next acts) ∙ e)
  goes_rest r after q _ v now (Goes.reads to x u k acts names gave) rest =
      (reads-rest p c (jumps_ahead p formed) r.calls after q to x u k v acts names (now.complete u (Number k) gave)).1 rest

  -- what is waited for at a line of a seated frame names a task
  module _ (r : Run) (after : Option ℕ) (q : FrameOf ℕ) (seat : IsSeated p r after true q) where
    -- a variable that is held names a task
    pub waited_names : (waits : Option ℕ) → IfSome waits (Held seat.state q.at) → NamesTask q waits
    waited_names None held = tt
    waited_names (Some g) held = has_some (future_at q.futures g) (seat.held g (held seat.facts seat.way))

    -- members that are held name the tasks of the aggregate
    members_name : (members : List ℕ) → Each members (Held seat.state q.at) → map (future_at q.futures) members ≡ map Some (tasks_named q members)
    members_name [] held = refl
    members_name (m ∷ more) held =
        let (u, names) = has_some (future_at q.futures m) (seat.held m (held 0 m refl seat.facts seat.way)) in
        one u names (members_name more (λ at x e. held (suc at) x e))
      where
        one : (u : ℕ) → future_at q.futures m ≡ Some u → map (future_at q.futures) more ≡ map Some (tasks_named q more)
            → (future_at q.futures m ∷ map (future_at q.futures) more) ≡ map Some (task_list (future_at q.futures m ∷ map (future_at q.futures) more))
        one u names rest =
            subst (λ o. (o ∷ map (future_at q.futures) more) ≡ map Some (task_list (o ∷ map (future_at q.futures) more))) (sym names) (ap (λ os. Some u ∷ os) rest)

    module _ (line : Line) (there : slice_get (code_at p q.kind q.state) q.at ≡ Some line) where
      -- so does what a spawn is behind
      pub spawn_names : (to : ℕ) (call : CallOf ℕ) (waits : Option ℕ) → act_of c line.instr q ≡ Calls to call waits → NamesTask q waits
      spawn_names to call waits e =
          let (kind, arguments, priority, retry, is_spawn, is_call) = shape_of c line.instr q (Calls to call waits) e in
          let is_formed = subst (λ instr. IsFormedInstr p seat.kind seat.state q.at instr) is_spawn (seat_formed p formed valid c r after true q seat line there) in
          let is_sound = subst (λ instr. IsSoundInstr p seat.kind seat.state q.at instr) is_spawn (seat_sound p formed valid c r after true q seat line there) in
          let (callee, is_callee) = item_at p.kinds kind is_formed.1 in
          waited_names waits (is_sound callee is_callee).behind_held

      -- and each task that it passes
      pub spawn_passes : (to kind : ℕ) (arguments : List Argument) (waits : Option ℕ) (priority : Priority) (retry : Bool) → line.instr ≡ Spawn to kind arguments waits priority retry → Each arguments (PassesTask q)
      spawn_passes to kind arguments waits priority retry is_spawn =
          let is_formed = subst (λ instr. IsFormedInstr p seat.kind seat.state q.at instr) is_spawn (seat_formed p formed valid c r after true q seat line there) in
          let is_sound = subst (λ instr. IsSoundInstr p seat.kind seat.state q.at instr) is_spawn (seat_sound p formed valid c r after true q seat line there) in
          let (callee, is_callee) = item_at p.kinds kind is_formed.1 in
          λ at a e. passes a ((is_sound callee is_callee).held at a e)
        where
          passes : (a : Argument) → HeldArgument seat.state q.at a → PassesTask q a
          passes (argument.Number n) held = tt
          passes (argument.Future x) held = has_some (future_at q.futures x) (seat.held x (held seat.facts seat.way))

      -- and what a respawn is behind
      pub again_names : (target : ℕ) (waits : Option ℕ) → act_of c line.instr q ≡ Respawns target waits → NamesTask q waits
      again_names target waits e =
          let (priority, is_again) = shape_of c line.instr q (Respawns target waits) e in
          let is_formed = subst (λ instr. IsFormedInstr p seat.kind seat.state q.at instr) is_again (seat_formed p formed valid c r after true q seat line there) in
          let is_sound = subst (λ instr. IsSoundInstr p seat.kind seat.state q.at instr) is_again (seat_sound p formed valid c r after true q seat line there) in
          let (next, is_next) = item_at seat.kind.states target is_formed.0 in
          waited_names waits (is_sound next is_next).behind_held

      -- the members of an aggregate name the tasks of its call
      pub gather_names : (to : ℕ) (members : List ℕ) → act_of c line.instr q ≡ Gathers to members → map (future_at q.futures) members ≡ map Some (tasks_named q members)
      gather_names to members e =
          let (priority, retry, is_all) = shape_of c line.instr q (Gathers to members) e in
          members_name members (subst (λ instr. IsSoundInstr p seat.kind seat.state q.at instr) is_all (seat_sound p formed valid c r after true q seat line there))

  module _ (r : Run) (held : NumbersStand r) (calls : CallsStand r) (tasks : TasksStand p r) (now : ValuesStand p c r) (t n : ℕ) where
    -- what the running activation is behind has a worth
    pub has_waited : (body : Body) (runs : RunsAt r t n body) → HasWorth p c r.calls runs.row.after
    has_waited body runs = has_given p c r now runs.row.after (λ u after. tasks.runs_behind n u runs.row runs.running runs.there after)

    -- the value that the task gives is its worth
    answer_worth : (body : Body) (v : Value) → RunsAt r t n body → Answers p c r body v → WorthGives p c r.calls t v
    answer_worth _ _ runs (Answers.finishes q v acts) =
        now.under_way t n runs.row q v (running_number r [] held t n (OfKind q) runs) runs.has (has_waited (OfKind q) runs)
        ((ends-rest p c (jumps_ahead p formed) r.calls runs.row.after q v v acts (has_waited (OfKind q) runs)).1 refl)
    answer_worth _ _ runs (Answers.traps q to x u trap acts names gave) =
        now.under_way t n runs.row q (Trapped trap) (running_number r [] held t n (OfKind q) runs) runs.has (has_waited (OfKind q) runs)
        ((traps-rest p c (jumps_ahead p formed) r.calls runs.row.after q to x u (Trapped trap) (Trapped trap) acts names (now.complete u (Trapped trap) gave) tt (has_waited (OfKind q) runs)).1 refl)
    answer_worth _ _ runs (Answers.gathered members next none) =
        let call = (running_stands p r held tasks t n (OfMembers members next) runs).of_call in
        all_worth members call (λ at u e.
        let (w, gave) = all_given p r held tasks t n (OfMembers members next) runs c (Number 0) (Answers.gathered members next none) at u members call e in (w, now.complete u w gave))
      where
        all_worth : (members : List ℕ) → by_number r.calls t ≡ Some (OfAll members) → Each members (λ u. HasWorth p c r.calls (Some u)) → WorthGives p c r.calls t (Number 0)
        all_worth members call have = by t call
          where
            by : (t : ℕ) → by_number r.calls t ≡ Some (OfAll members) → WorthGives p c r.calls t (Number 0)
            by zero call = absurd (none-some (OfAll members) call)
            by (suc position) call = (aggregate-worths p c r.calls position members (Number 0) (aggregate_at r held calls position members call)).1 (have, refl)

    -- once a further call was accepted, what follows from the running frame is the worth of its task still
    running_worth : (more : Accepted) (q : FrameOf ℕ) (v : Value) (runs : RunsAt r t n (OfKind q)) → RestGives p c (r.calls ++ more ∷ []) runs.row.after q v → WorthGives p c (r.calls ++ more ∷ []) t v
    running_worth more q v runs rest =
        let waits = after_names r held calls n runs.row runs.there in
        let within = running_task r [] held t n (OfKind q) runs in
        worth_later p c r.calls (more ∷ []) t v (task_named r held t within)
        (now.under_way t n runs.row q v (running_number r [] held t n (OfKind q) runs) runs.has (has_waited (OfKind q) runs)
        (rest_before p c r.calls (more ∷ []) runs.row.after q v (frame_names r held t q runs.has) waits rest))

    -- a task that is renewed is worth what follows from its new frame
    renewed_worth : (units : ℕ) (body to : Body) (after : Option ℕ) (priority : Priority) (notes : Notes) → RunsAt r t n body → Renews p c units r n body to after priority notes
        → (q : FrameOf ℕ) (v : Value) → to ≡ OfKind q → RestGives p c (r.calls ++ Respawn t after ∷ []) after q v → WorthGives p c (r.calls ++ Respawn t after ∷ []) t v
    renewed_worth units _ _ _ _ _ runs (Renews.again q line target waits there e) next v is_next rest =
        let after = task_waited q waits in
        let names = again_names r runs.row.after q (running_stands p r held tasks t n (OfKind q) runs).seat line there target waits e in
        let has = has_later p c r.calls (Respawn t after ∷ []) runs.row.after (after_names r held calls n runs.row runs.there) (has_waited (OfKind q) runs) in
        running_worth (Respawn t after) q v runs
        ((accepted_respawns-rest p c (jumps_ahead p formed) (r.calls ++ Respawn t after ∷ []) runs.row.after q target waits v (line, there, e) names has).1
        (subst (λ k. RestGives p c (r.calls ++ Respawn t after ∷ []) after k v) (sym (same_frame (enter p q target) next is_next)) rest))
    renewed_worth units _ _ _ _ _ runs (Renews.retries q request to how none) next v is_next rest =
        let has = has_later p c r.calls (Respawn t None ∷ []) runs.row.after (after_names r held calls n runs.row runs.there) (has_waited (OfKind q) runs) in
        running_worth (Respawn t None) q v runs
        ((retries-rest p c (r.calls ++ Respawn t None ∷ []) runs.row.after q v has).0
        (subst (λ k. RestGives p c (r.calls ++ Respawn t None ∷ []) None k v) (sym (same_frame q next is_next)) rest))
    renewed_worth units _ _ _ _ _ runs (Renews.behind members at u e) q v is_q rest = absurd (members_differ members (at + 1) q is_q)

    -- the running frame asks for a new task
    module _ (q : FrameOf ℕ) (runs : RunsAt r t n (OfKind q)) where
      -- the next number is the one after the calls
      new_number : suc (length r.calls) ≡ next_number r.journal
      new_number = ap suc held.beside.of_calls

      -- what is asked for names earlier tasks
      pub asked_earlier : (request : Request) (to : ℕ) (retry : Bool) → Asks p c q request to retry → (u : ℕ) → CallNames request.call u → u ≤ length r.calls
      asked_earlier request to retry asks u named = task_named r held u (held.names.in_bodies t u (OfKind q) runs.has (asks_call_named p c q request to u retry asks named))

      -- a new task is worth what follows from its first frame
      asked_worth : (request : Request) (to : ℕ) (retry : Bool) → Asks p c q request to retry
          → (first : FrameOf ℕ) (v : Value) → request.body ≡ OfKind first → RestGives p c (r.calls ++ request.call ∷ []) request.after first v → WorthGives p c (r.calls ++ request.call ∷ []) (next_number r.journal) v
      asked_worth _ _ _ (Asks.calls line to call waits there e) first v is_first rest =
          let request = call_request p call (task_waited q waits) (asked_priority line.instr) in
          subst (λ k. WorthGives p c (r.calls ++ request.call ∷ []) k v) new_number
          (first_worth p c (r.calls ++ request.call ∷ []) (length r.calls) call request.after v
          (last_call r.calls call request.after (asked_earlier request to _ (Asks.calls line to call waits there e)))
          (subst (λ k. RestGives p c (r.calls ++ request.call ∷ []) request.after k v) (sym (same_frame (entry p call) first is_first)) rest))
      asked_worth _ _ _ (Asks.gathers line to members there e) first v is_first rest = absurd (members_differ (tasks_named q members) 1 first is_first)

      -- what follows from the frame that asked is what follows once its variable names the new task
      asks_rest : (after : Option ℕ) (request : Request) (to : ℕ) (retry : Bool) → Asks p c q request to retry → (v : Value)
          → RestGives p c (r.calls ++ request.call ∷ []) after (set_future q to (Some (next_number r.journal))) v → RestGives p c (r.calls ++ request.call ∷ []) after q v
      asks_rest after _ _ _ (Asks.calls line to call waits there e) v rest =
          let request = call_request p call (task_waited q waits) (asked_priority line.instr) in
          (accepted_spawns-rest p c (jumps_ahead p formed) (r.calls ++ request.call ∷ []) (length r.calls) after q to call waits v (line, there, e)
          (spawn_names r runs.row.after q (running_stands p r held tasks t n (OfKind q) runs).seat line there to call waits e)
          (last_call r.calls call request.after (asked_earlier request to _ (Asks.calls line to call waits there e)))).1
          (subst (λ k. RestGives p c (r.calls ++ request.call ∷ []) after (set_future q to (Some k)) v) (sym new_number) rest)
      asks_rest after _ _ _ (Asks.gathers line to members there e) v rest =
          let tasks_of_members = tasks_named q members in
          let call : Accepted = OfAll tasks_of_members in
          (accepted_aggregates-rest p c (jumps_ahead p formed) (r.calls ++ call ∷ []) (length r.calls) after q to members tasks_of_members v (line, there, e)
          (gather_names r runs.row.after q (running_stands p r held tasks t n (OfKind q) runs).seat line there to members e)
          (record {
            there = snoc_new r.calls call;
            members_earlier = λ at u f. asked_earlier _ to _ (Asks.gathers line to members there e) u (at, f);
          })).1
          (subst (λ k. RestGives p c (r.calls ++ call ∷ []) after (set_future q to (Some k)) v) (sym new_number) rest)

  -- a move keeps what stands of values
  pub values_move : (units : ℕ) (r s : Run) → NumbersStand r → CallsStand r → FramesStand p r → ValuesStand p c r → Move p c units r s → ValuesStand p c s
  values_move units r _ held calls frames now (Move.goes_on t n q next runs goes) =
      values_body p c r now t (OfKind q) next runs.has (λ m row v live worth rest. now.under_way t m row q v live runs.has worth (goes_rest r row.after q next v now goes rest))
  values_move units r _ held calls frames now (Move.spawned t n to q request retry block runs asks placed some) =
      let new = next_number r.journal in
      let tasks = tasks_of p r frames in
      let drawn : ValuesStand p c (accepts units r request block) = values_accepts p c r held now calls units request block (asked_worth r held calls tasks now t n q runs request to retry asks) in
      let has = found_old r.bodies (Some request.body) t (OfKind q) runs.has in
      values_arrives p c (with_body (accepts units r request block) t (OfKind (set_future q to (Some new))))
      (values_body p c (accepts units r request block) drawn t (OfKind q) (set_future q to (Some new)) has
      (λ m row v live worth rest. drawn.under_way t m row q v live has worth (asks_rest r held calls tasks now t n q runs row.after request to retry asks v rest)))
      new request.after
  values_move units r _ held calls frames now (Move.respawned t n body to after priority notes runs renews some) =
      values_arrives p c (renewed_run (with_notes r notes) t to after priority)
      (values_renewed p c (with_notes r notes) (noted r notes held) (values_noted p c r notes now) (calls_noted r notes calls) t n body to after priority (runs_noted r notes t n body runs)
      (renewed_worth r held calls (tasks_of p r frames) now t n units body to after priority notes runs renews))
      (next_number r.journal) after
  values_move units r _ held calls frames now (Move.gave t n body v runs answers) =
      values_ends p c r held now t n body (Gave v) cause.Clear runs (λ w same. subst (λ k. WorthGives p c r.calls t k) (same_value w same) (answer_worth r held calls (tasks_of p r frames) now t n body v runs answers))
    where
      same_value : (w : Value) → Gave v ≡ Gave w → v ≡ w
      same_value w e = cc
  values_move units r _ held calls frames now (Move.refused t n body tag notes runs refuses) =
      values_ends p c (with_notes r notes) (noted r notes held) (values_noted p c r notes now) t n body (WasCut tag) (cause_of_cut tag) (runs_noted r notes t n body runs) (λ v same. absurd (cut_gave tag v same))
  values_move units r _ held calls frames now (Move.started n left idle next uncut) = values_begins p c r held now n left next
  values_move units r _ held calls frames now (Move.cut_at_start n left row u tag idle next there after cut) =
      let (body, runs) = started_runs r n left row held idle next there in
      values_ends p c (begins r n left) (held_starts r n left held idle next) (values_begins p c r held now n left next) row.task n body (WasCut tag) (cause.By u) runs (λ v same. absurd (cut_gave tag v same))

-- numbers, calls, frames and values stand at each step of a run of a valid program
record HeldValues (p : Program) (c : Columns) (r : Run) : Type 0 where
  held : NumbersStand r
  calls : CallsStand r
  frames : FramesStand p r
  values : ValuesStand p c r

-- at each step of a run of a valid program values are the meaning's
pub values_always : (p : Program) → IsWellFormed p → IsValid p → (c : Columns) (plan : RunPlan) (taken : ℕ) → ValuesStand p c (steps p c plan.units taken (asked p plan))
values_always p formed valid c plan taken = (always p c plan (HeldValues p c) kept taken).values
  where
    kept : IsKept p c plan (HeldValues p c)
    kept = record {
      first = record { held = numbers_first plan; calls = calls_first plan; frames = frames_first p plan; values = values_first p c plan };
      root = λ r s root next now move. let held = numbers_root p plan.units r s root next now.held move in record {
        held = held;
        calls = calls_root p plan.units r s root next now.held now.calls move;
        frames = frames_root p formed valid plan.units r s root next now.held held now.frames move;
        values = values_root p c plan.units r s root next now.held now.calls now.values move;
      };
      move = λ r s now move. let held = numbers_move p c plan.units r s now.held move in record {
        held = held;
        calls = calls_move p c plan.units r s now.held now.calls move;
        frames = frames_move p formed valid c plan.units r s now.held held now.frames move;
        values = values_move p formed valid c plan.units r s now.held now.calls now.frames now.values move;
      };
    }
