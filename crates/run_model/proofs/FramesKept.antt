-- Each move of a run of a valid program keeps what stands of frames and aggregates.
use Rattle.std.proofs.Common.{◌≡◌, ℕ, suc, ◌<◌, ◌≤◌, Bool, true, false, Option, Some, None, List, [], ◌∷◌, ◌++◌, length, map, slice_get, refl, sym, ◌∙◌, ap, subst, inl, inr, ⊎_elim, arith}
use Rattle.std.specs.Prelude.{IsSome}
use Rattle.std.specs.Option.{is_some}
use Rattle.std.proofs.lemmas.Bool.{cases_eq, false≢true}
use Rattle.std.proofs.lemmas.Option.{none-some, slice_get_within, slice_get_cases}
use Rattle.task_syntax.specs.Places.{Each}
use Rattle.task_syntax.specs.Form.{IsWellFormed, IsFormedInstr}
use Rattle.task_syntax.specs.Valid.{Held, IsValid, IsSoundInstr}
use Rattle.task_syntax.specs.declared.value.Value.{Value}
use Rattle.task_syntax.specs.declared.value.Priority.{Priority}
use Rattle.task_syntax.specs.declared.instr.Line.{Line}
use Rattle.task_syntax.specs.declared.program.Root.{Root as RootLine}
use Rattle.task_syntax.specs.declared.program.Program.{Program}
use Rattle.task_syntax.specs.declared.columns.Columns.{Columns}
use Rattle.task_meaning.specs.Meant.{future_at}
use Rattle.task_meaning.specs.Frame.{FrameOf, code_at, set_future}
use Rattle.task_meaning.specs.FrameLaws.{task_waited}
use Rattle.task_meaning.specs.Roots.{root_call}
use Rattle.task_meaning.specs.RootLaws.{root_waits}
use Rattle.task_meaning.specs.Acts.{Gathers, act_of}
use Rattle.task_meaning.specs.Worths.{Accepted, OfCall, OfAll, Respawn}
use Rattle.pool_core.specs.Blocks.{BlockState}
use Rattle.frame_code.specs.Words.{OfKind, OfMembers}
use Rattle.record_core.specs.Numbers.{by_number, flat, found}
use Rattle.record_core.specs.Journal.{next_number}
use Rattle.record_core.specs.EndSeen.{RunPlan}
use Rattle.record_core.specs.declared.rows.ActivationRow.{ActivationRow}
use Rattle.record_core.specs.declared.rows.Cause.TheVariants as cause
use Rattle.record_core.specs.declared.rows.CutTag.{CutTag}
use Rattle.run_model.specs.State.{Body, Gave, WasCut, Named, Refused, Skipped, Run}
use Rattle.run_model.specs.Step.{Request, steps, asked, task_list, tasks_named, own_tasks, root_request, at_first, accepts, with_body, with_root, cause_of_cut, call_request, asked_priority}
use Rattle.run_model.specs.Move.{Notes, with_notes, RunsAt, Asks, Answers, Renews, Move, RootMove, begins}
use Rattle.run_model.proofs.ByNumber.{snoc_new, snoc_old, found_old, has_some, none_of_empty}
use Rattle.run_model.proofs.NumbersInvariant.{NumbersStand}
use Rattle.run_model.proofs.LiveFacts.{outcome_snoc, same_row}
use Rattle.run_model.proofs.NumbersParts.{held_starts, started_runs}
use Rattle.run_model.proofs.RunsFacts.{running_number}
use Rattle.run_model.proofs.RootsKept.{passed_has}
use Rattle.run_model.proofs.FramesInvariant.{IsGiven, IsSeated, has_started, FramesStand}
use Rattle.run_model.proofs.LineFacts.{shape_of}
use Rattle.run_model.proofs.SeatFacts.{Grows, given_grows, seat_grows, seat_formed, seat_sound, seat_goes, goes_kind, seat_asks}
use Rattle.run_model.proofs.SeatEntries.{spawn_seated, again_seated, root_seated}
use Rattle.run_model.proofs.TasksStand.{IsFramed, IsGathering, BodyStands, TasksStand, kinds_differ, same_members, tasks_of, frames_of}
use Rattle.run_model.proofs.FramesParts.{renewed_run, stand_noted, stand_root, stand_arrives, stand_body, stand_accepts, stand_renewed, stand_ends, begins_others, stand_begins}
use Rattle.run_model.proofs.Reached.{IsNextRoot, IsKept, always}
use Rattle.run_model.proofs.NumbersKept.{numbers_first, numbers_root, numbers_move}

-- before the first root no task has a body
pub frames_first : (p : Program) (plan : RunPlan) → FramesStand p (at_first plan)
frames_first p plan = record {
  seated = λ t n row q live has. absurd (no_body t (OfKind q) has);
  of_call = λ t q has. absurd (no_body t (OfKind q) has);
  gathers = λ t next members has. absurd (no_body t (OfMembers members next) has);
  gathered = λ t members body call has. absurd (no_body t body has);
  at = λ t n next row members live has. absurd (no_body t (OfMembers members next) has);
  before = λ t next at u members has. absurd (no_body t (OfMembers members next) has);
  complete = λ t at u v members call. absurd (none-some (OfAll members) (sym (none_of_empty t) ∙ call));
  runs_behind = λ n u row e. absurd (none-some n e);
}
  where
    no_body : (t : ℕ) (body : Body) → found [] t ≡ Some body → ⊥
    no_body t body has = none-some body (sym (ap flat (none_of_empty t)) ∙ has)

-- an activation that runs has started
starts_once : (row : ActivationRow) → IsSome row.start → has_started row ≡ true
starts_once row some = by row.start some
  where
    by : (o : Option ℕ) → IsSome o → elim o [ None ↦ false | Some s ↦ true ] ≡ true
    by None some = absurd (false≢true some)
    by (Some s) some = refl

-- what a refusal notes is not read here
pub noted : (r : Run) (notes : Notes) → NumbersStand r → NumbersStand (with_notes r notes)
noted r notes now = record { beside = now.beside; of_tasks = now.of_tasks; numbers = now.numbers; live = now.live; names = now.names }

-- nor of the running task
pub runs_noted : (r : Run) (notes : Notes) (t n : ℕ) (body : Body) → RunsAt r t n body → RunsAt (with_notes r notes) t n body
runs_noted r notes t n body runs = record { row = runs.row; running = runs.running; there = runs.there; of_task = runs.of_task; has = runs.has }

module _ (p : Program) (r : Run) (held : NumbersStand r) (now : TasksStand p r) where
  -- the call of the next number
  called : (call : Accepted) → by_number (r.calls ++ call ∷ []) (next_number r.journal) ≡ Some call
  called call = ap (by_number (r.calls ++ call ∷ [])) (ap suc (sym held.beside.of_calls)) ∙ snoc_new r.calls call

  module _ (t n : ℕ) (body : Body) (runs : RunsAt r t n body) where
    -- what stands of the task that runs
    pub running_stands : BodyStands p r t runs.row.after true body
    running_stands =
        let (row, there, some) = held.live.runs n runs.running in
        let begun : has_started runs.row ≡ true = starts_once runs.row (subst (λ (x : ActivationRow). IsSome x.start) (same_row r.journal.rows n row runs.row there runs.there) some) in
        subst (λ b. BodyStands p r t runs.row.after b body) begun (now.tasks t n runs.row body (running_number r [] held t n body runs) runs.has)

    -- the members before the next one of an aggregate that runs gave values
    member_given : (members : List ℕ) (next : ℕ) → IsGathering r t runs.row.after members next → (at u : ℕ) → at < next → slice_get members at ≡ Some u → IsGiven r u
    member_given members next g at u lt e = ⊎_elim last (λ differ. g.given at u (omega (arith, lt, differ)) e) (cases_eq (suc at) next)
      where
        last : suc at ≡ next → IsGiven r u
        last same =
            let (before, is_next, behind) = g.at in
            let is_at : before ≡ at = omega (arith, is_next, same) in
            now.runs_behind n u runs.row runs.running runs.there (behind ∙ ap (slice_get members) is_at ∙ e)

    -- an aggregate that ends with a value
    pub all_given : (c : Columns) (w : Value) → Answers p c r body w → (at u : ℕ) (members : List ℕ) → by_number r.calls t ≡ Some (OfAll members) → slice_get members at ≡ Some u → IsGiven r u
    all_given c w answers at u members call e = by body w answers running_stands
      where
        framed : (q : FrameOf ℕ) → IsFramed p r t runs.row.after true q → IsGiven r u
        framed q f = let (other, waits, of_kind, kind) = f.of_call in absurd (kinds_differ (by_number r.calls t) other waits members of_kind call)

        by : (body : Body) (w : Value) → Answers p c r body w → BodyStands p r t runs.row.after true body → IsGiven r u
        by _ _ (Answers.finishes q v acts) f = framed q f
        by _ _ (Answers.traps q to x u trap acts names gave) f = framed q f
        by _ _ (Answers.gathered others next none) g =
            let same = same_members (by_number r.calls t) others members g.of_call call in
            let there : slice_get others at ≡ Some u = ap (λ ms. slice_get ms at) same ∙ e in
            let past : length others ≤ next = elim (slice_get_cases others next).1 [ inl s ↦ absurd (none-some s.0 (sym none ∙ s.2)) | inr s ↦ s.0 ] in
            let lt = slice_get_within others at u there in
            member_given others next g at u (omega (arith, past, lt)) there

module _ (p : Program) (formed : IsWellFormed p) (valid : IsValid p) (units : ℕ) where
  -- asking for a root keeps what stands of each task
  root_stands : (r s : Run) (root : RootLine) → IsNextRoot p r root → NumbersStand r → TasksStand p r → RootMove p units r root s → TasksStand p s
  root_stands r _ root next held now (RootMove.named block free placed some) =
      stand_arrives p (with_root (accepts units r request block) (Named (next_number r.journal))) (next_number r.journal) request.after
      (stand_root p (accepts units r request block) (Named (next_number r.journal)) (stand_accepts p r held now units request block (record {
        seat = root_seated p (accepts units r request block) (own_tasks r) (length r.roots) root formed valid next.there
            (λ x k e. let (t, has) = passed_has p r root formed next.there free x k e in ap is_some has);
        of_call = (root_call (own_tasks r) root, root_waits (own_tasks r) root.behind, called p r held now request.call, refl);
      })))
    where
      request : Request
      request = root_request p r root
  root_stands r _ root next held now (RootMove.refused tag notes free how) = stand_root p (with_notes r notes) (Refused tag) (stand_noted p r notes now)
  root_stands r _ root next held now (RootMove.skipped first e) = stand_root p r (Skipped first.0 first.1) now

  -- and so the invariant
  pub frames_root : (r s : Run) (root : RootLine) → IsNextRoot p r root → NumbersStand r → NumbersStand s → FramesStand p r → RootMove p units r root s → FramesStand p s
  frames_root r s root next held held_s now move = frames_of p s held_s (root_stands r s root next held (tasks_of p r now) move)

module _ (p : Program) (formed : IsWellFormed p) (valid : IsValid p) (c : Columns) (units : ℕ) where
  -- a gathering line of a seated frame has a member that names a task
  some_member : (r : Run) (after : Option ℕ) (q : FrameOf ℕ) (seat : IsSeated p r after true q) (line : Line) (to : ℕ) (members : List ℕ) → slice_get (code_at p q.kind q.state) q.at ≡ Some line
      → act_of c line.instr q ≡ Gathers to members → 1 ≤ length (tasks_named q members)
  some_member r after q seat line to members there e =
      let (priority, retry, is_all) = shape_of c line.instr q (Gathers to members) e in
      let is_formed = subst (λ instr. IsFormedInstr p seat.kind seat.state q.at instr) is_all (seat_formed p formed valid c r after true q seat line there) in
      let is_sound = subst (λ instr. IsSoundInstr p seat.kind seat.state q.at instr) is_all (seat_sound p formed valid c r after true q seat line there) in
      by members is_formed.1 is_sound
    where
      by : (members : List ℕ) → 0 < length members → Each members (Held seat.state q.at) → 1 ≤ length (tasks_named q members)
      by [] some sound = absurd (omega (arith, some))
      by (m ∷ more) some sound = let (u, names) = has_some (future_at q.futures m) (seat.held m (sound 0 m refl seat.facts seat.way)) in one u names
        where
          one : (u : ℕ) → future_at q.futures m ≡ Some u → 1 ≤ length (task_list (future_at q.futures m ∷ map (future_at q.futures) more))
          one u names = subst (λ o. 1 ≤ length (task_list (o ∷ map (future_at q.futures) more))) (sym names) (omega arith)

  module _ (r : Run) (held : NumbersStand r) (now : TasksStand p r) where
    -- what stands of a new task that is asked for
    asked_stands : (t n to : ℕ) (q : FrameOf ℕ) (request : Request) (retry : Bool) (block : BlockState) → RunsAt r t n (OfKind q) → Asks p c q request to retry
        → BodyStands p (accepts units r request block) (next_number r.journal) request.after false request.body
    asked_stands t n _ q _ _ block runs (Asks.calls line to call waits there e) =
        let request = call_request p call (task_waited q waits) (asked_priority line.instr) in
        let grows : Grows r (accepts units r request block) = record { gave = λ u v e. outcome_snoc r.outcomes u ∙ e; calls = λ n other e. snoc_old r.calls request.call n other e } in
        let seat = (running_stands p r held now t n (OfKind q) runs).seat in
        record {
          seat = spawn_seated p formed valid c (accepts units r request block) runs.row.after q (seat_grows p r (accepts units r request block) runs.row.after true q grows seat) line there to call waits e;
          of_call = (call, task_waited q waits, called p r held now request.call, refl);
        }
    asked_stands t n _ q _ _ block runs (Asks.gathers line to members there e) = record {
      of_call = called p r held now (OfAll (tasks_named q members));
      at = (0, refl, refl);
      within = some_member r runs.row.after q (running_stands p r held now t n (OfKind q) runs).seat line to members there e;
      given = λ at u lt e. absurd (omega (arith, lt));
    }

    -- what stands of a task that is renewed
    renewed_stands : (t n : ℕ) (body to : Body) (after : Option ℕ) (priority : Priority) (notes : Notes) → RunsAt r t n body → Renews p c units r n body to after priority notes
        → Grows r (renewed_run (with_notes r notes) t to after priority) → BodyStands p (renewed_run (with_notes r notes) t to after priority) t after false to
    renewed_stands t n _ _ _ _ _ runs (Renews.again q line target waits there e) grows =
        let was = running_stands p r held now t n (OfKind q) runs in
        let (call, waited, is_call, kind) = was.of_call in
        record { seat = again_seated p formed valid c _ runs.row.after q (seat_grows p r _ runs.row.after true q grows was.seat) line there target waits e; of_call = (call, waited, grows.calls t (OfCall call waited) is_call, kind) }
    renewed_stands t n _ _ _ _ _ runs (Renews.retries q request to how none) grows =
        let was = running_stands p r held now t n (OfKind q) runs in
        let seat = seat_grows p r _ runs.row.after true q grows was.seat in
        let (call, waited, is_call, kind) = was.of_call in
        record {
          seat = record {
            kind = seat.kind;
            state = seat.state;
            facts = seat.facts;
            is_kind = seat.is_kind;
            is_state = seat.is_state;
            way = seat.way;
            within = seat.within;
            numbers = seat.numbers;
            futures = seat.futures;
            held = seat.held;
            settled = λ x u h e. inl (seat.settled x u h e);
            members = seat.members;
          };
          of_call = (call, waited, grows.calls t (OfCall call waited) is_call, kind);
        }
    renewed_stands t n _ _ _ _ _ runs (Renews.behind members next u e) grows =
        let was = running_stands p r held now t n (OfMembers members next) runs in
        record {
          of_call = grows.calls t (OfAll members) was.of_call;
          at = (next, omega arith, sym e);
          within = let lt = slice_get_within members next u e in omega (arith, lt);
          given = λ at v lt f. given_grows r _ v grows (member_given p r held now t n (OfMembers members next) runs members next was at v (omega (arith, lt)) f);
        }

  -- a move keeps what stands of each task
  move_stands : (r s : Run) → NumbersStand r → TasksStand p r → Move p c units r s → TasksStand p s
  move_stands r _ held now (Move.goes_on t n q next runs goes) =
      stand_body p r t (OfKind q) (OfKind next) runs.has now
      (λ m row live.
      let was = now.tasks t m row (OfKind q) live runs.has in
      let (call, waits, is_call, kind) = was.of_call in
      record { seat = seat_goes p formed valid c r r row.after (has_started row) q next was.seat goes; of_call = (call, waits, is_call, goes_kind p formed valid c r r row.after (has_started row) q next was.seat goes ∙ kind) })
  move_stands r _ held now (Move.spawned t n to q request retry block runs asks placed some) =
      let new = next_number r.journal in
      let drawn : TasksStand p (accepts units r request block) = stand_accepts p r held now units request block (asked_stands r held now t n to q request retry block runs asks) in
      let has = found_old r.bodies (Some request.body) t (OfKind q) runs.has in
      stand_arrives p (with_body (accepts units r request block) t (OfKind (set_future q to (Some new)))) new request.after
      (stand_body p (accepts units r request block) t (OfKind q) (OfKind (set_future q to (Some new))) has drawn
      (λ m row live.
      let was = drawn.tasks t m row (OfKind q) live has in
      record { seat = seat_asks p formed valid c (accepts units r request block) row.after (has_started row) q request to new retry was.seat asks (called p r held now request.call); of_call = was.of_call }))
  move_stands r _ held now (Move.respawned t n body to after priority notes runs renews some) =
      let grows : Grows r (renewed_run (with_notes r notes) t to after priority) = record { gave = λ u v e. outcome_snoc r.outcomes u ∙ e; calls = λ n other e. snoc_old r.calls (Respawn t after) n other e } in
      stand_arrives p (renewed_run (with_notes r notes) t to after priority) (next_number r.journal) after
      (stand_renewed p (with_notes r notes) (noted r notes held) (stand_noted p r notes now) t n body to after priority (runs_noted r notes t n body runs)
      (renewed_stands r held now t n body to after priority notes runs renews grows))
  move_stands r _ held now (Move.gave t n body v runs answers) =
      stand_ends p r t n body (Gave v) cause.Clear held runs (λ u m row other differ live has. now.tasks u m row other live has) now.complete
      (λ at u w members same call e. all_given p r held now t n body runs c v answers at u members call e)
  move_stands r _ held now (Move.refused t n body tag notes runs refuses) =
      let stood = stand_noted p r notes now in
      stand_ends p (with_notes r notes) t n body (WasCut tag) (cause_of_cut tag) (noted r notes held) (runs_noted r notes t n body runs) (λ u m row other differ live has. stood.tasks u m row other live has) stood.complete
      (λ at u w members same. absurd (cut_gave tag w same))
    where
      cut_gave : (tag : CutTag) (v : Value) → WasCut tag ≡ Gave v → ⊥
      cut_gave tag v e = cc
  move_stands r _ held now (Move.started n left idle next uncut) = stand_begins p r n left held now idle next uncut
  move_stands r _ held now (Move.cut_at_start n left row u tag idle next there after cut) =
      let (body, runs) = started_runs r n left row held idle next there in
      stand_ends p (begins r n left) row.task n body (WasCut tag) (cause.By u) (held_starts r n left held idle next) runs
      (λ v k other b differ live has. begins_others p r n left held now idle next v k other b
      (λ same. differ (sym live.of_task ∙ ap (λ (x : ActivationRow). x.task) (same_row (begins r n left).journal.rows n other runs.row (sym (ap (by_number (begins r n left).journal.rows) same) ∙ live.there) runs.there) ∙ runs.of_task)) live has)
      now.complete (λ at v w members same. absurd (cut_gave tag w same))
    where
      cut_gave : (tag : CutTag) (v : Value) → WasCut tag ≡ Gave v → ⊥
      cut_gave tag v e = cc

  -- and so the invariant
  pub frames_move : (r s : Run) → NumbersStand r → NumbersStand s → FramesStand p r → Move p c units r s → FramesStand p s
  frames_move r s held held_s now move = frames_of p s held_s (move_stands r s held (tasks_of p r now) move)

-- numbers, frames and aggregates stand at each step of a run of a valid program
record HeldFrames (p : Program) (r : Run) : Type 0 where
  held : NumbersStand r
  frames : FramesStand p r

-- at each step of a run of a valid program frames stand where a way leads
pub frames_always : (p : Program) → IsWellFormed p → IsValid p → (c : Columns) (plan : RunPlan) (taken : ℕ) → FramesStand p (steps p c plan.units taken (asked p plan))
frames_always p formed valid c plan taken = (always p c plan (HeldFrames p) kept taken).frames
  where
    kept : IsKept p c plan (HeldFrames p)
    kept = record {
      first = record { held = numbers_first plan; frames = frames_first p plan };
      root = λ r s root next now move. let held = numbers_root p plan.units r s root next now.held move in
          record { held = held; frames = frames_root p formed valid plan.units r s root next now.held held now.frames move };
      move = λ r s now move. let held = numbers_move p c plan.units r s now.held move in record { held = held; frames = frames_move p formed valid c plan.units r s now.held held now.frames move };
    }
