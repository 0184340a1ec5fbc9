-- A run keeps who made its tasks: move by move.
use Rattle.std.proofs.Common.{◌≡◌, ◌⊎◌, ℕ, suc, ◌+◌, ◌<◌, ◌≤◌, Bool, true, false, Option, Some, None, List, [], ◌∷◌, ◌++◌, length, map, slice_get, refl, sym, ◌∙◌, ap, subst, inl, inr, ⊎_elim, arith}
use Rattle.std.specs.Prelude.{IsSome}
use Rattle.std.specs.Option.{is_some}
use Rattle.std.proofs.lemmas.Option.{none-some, same_Some}
use Rattle.task_syntax.specs.Form.{IsWellFormed}
use Rattle.task_syntax.specs.Valid.{IsValid}
use Rattle.task_syntax.specs.declared.value.Priority.{Priority}
use Rattle.task_syntax.specs.declared.instr.Instr.{Instr}
use Rattle.task_syntax.specs.declared.instr.Line.{Line}
use Rattle.task_syntax.specs.declared.program.Root.{Root as RootLine}
use Rattle.task_syntax.specs.declared.program.Program.{Program}
use Rattle.task_syntax.specs.declared.columns.Columns.{Columns}
use Rattle.task_meaning.specs.Frame.{FrameOf, CallOf, code_at, set_future}
use Rattle.task_meaning.specs.Acts.{Calls, Gathers}
use Rattle.task_meaning.specs.FrameLaws.{task_waited}
use Rattle.task_meaning.specs.Worths.{Accepted, OfCall, Respawn}
use Rattle.task_meaning.proofs.Ahead.{StepsAhead, act-ahead, jumps_ahead}
use Rattle.frame_code.specs.Words.{OfKind}
use Rattle.record_core.specs.Numbers.{by_number, flat, found, put_number}
use Rattle.record_core.specs.Journal.{JournalState, Starts, next_number, with_accepted, with_begun, start_in, start_of, cause_of}
use Rattle.record_core.specs.JournalLaws.{GrowsFrom}
use Rattle.record_core.specs.EndSeen.{RunPlan}
use Rattle.record_core.specs.EndSound.{kind_class, members_class, IsNoRetry}
use Rattle.record_core.specs.EndAsks.{AsksFor, AsksAgain, AsksForCall, AsksForMembers, AsksForNumber, HasInstr, IsSpawned, StandsAt, class_wanted}
use Rattle.record_core.specs.declared.rows.ActivationRow.{ActivationRow}
use Rattle.record_core.specs.declared.rows.Cause.TheVariants as cause
use Rattle.record_core.specs.declared.rows.CutTag.{CutTag}
use Rattle.record_core.specs.declared.rows.CutTag.TheVariants.{Null}
use Rattle.run_model.specs.State.{Body, Named, Refused, Skipped, Evidence, Run}
use Rattle.run_model.specs.Placing.{pool_of, words_of}
use Rattle.run_model.specs.Step.{Request, accepts, asks_again, cause_of_cut, draws, evidence_or, root_request, tasks_named, with_body, with_root, at_first}
use Rattle.run_model.specs.Move.{Asks, Goes, Move, Notes, Refuses, RefusesRoot, Renews, RootMove, RunsAt, with_notes}
use Rattle.run_model.proofs.ByNumber.{found_new, found_old, found_put, has_some, length_snoc, none_of_empty, number_within, snoc_cases, snoc_new, snoc_old}
use Rattle.run_model.proofs.CodeFacts.{no_retry}
use Rattle.run_model.proofs.FramesInvariant.{FramesStand}
use Rattle.run_model.proofs.FramesKept.{running_stands}
use Rattle.run_model.proofs.JournalGrows.{grows_same, move_grows}
use Rattle.run_model.proofs.LineFacts.{shape_of}
use Rattle.run_model.proofs.LiveFacts.{finish_snoc, same_row, task_within}
use Rattle.run_model.proofs.NumbersInvariant.{IsLive}
use Rattle.run_model.proofs.MadeInvariant.{Asker, Askers, IsAhead, IsMadeNow, IsRefused, MadeStands}
use Rattle.run_model.proofs.MadeKept.{Goes as Stays, RowWas, arrives_made, begun_was, finished_was, made_goes, refused_stays, stands_stays}
use Rattle.run_model.proofs.AskersKept.{askers_ask, askers_draw, askers_start, askers_step, askers_stop}
use Rattle.run_model.proofs.NumbersParts.{next_row}
use Rattle.run_model.proofs.OrderKept.{as_many_begun, draws_goes, is_next, none_past, root_goes, stays_goes}
use Rattle.run_model.proofs.OutcomesKept.{cause_here, cause_snoc}
use Rattle.run_model.proofs.Reached.{IsNextRoot}
use Rattle.run_model.proofs.RootsKept.{get_last}
use Rattle.run_model.proofs.RunStands.{RunStands}
use Rattle.run_model.proofs.RunsFacts.{running_number, running_open, running_within}
use Rattle.run_model.proofs.TasksStand.{tasks_of}
use Rattle.run_model.proofs.ValuesKept.{gather_names, spawn_names, spawn_passes}

-- in its frame a task that runs stands at the instruction that asks for a new task, with that call and class
pub record IsAsked (p : Program) (r : Run) (t : ℕ) (q : FrameOf ℕ) (request : Request) (retry : Bool) : Type 0 where
  pub instr : Instr
  pub stands : StandsAt p r.calls t q instr
  pub asks : AsksFor q instr request.call
  pub class : class_wanted p instr ≡ Some request.class
  pub again : retry ≡ true → IsNoRetry instr → ⊥
  pub no_retry : retry ≡ false → IsNoRetry instr
  pub asks_again : retry ≡ true → AsksAgain q instr None
  pub number : AsksForNumber instr

pub map_length : {A B : Type 0} (f : A → B) (xs : List A) → length (map f xs) ≡ length xs
map_length f [] = refl
map_length f (x ∷ xs) = ap suc (map_length f xs)

-- the instruction at which a task stands is one of its kind
pub has_of : (p : Program) (calls : List Accepted) (t : ℕ) (q : FrameOf ℕ) (instr : Instr) → StandsAt p calls t q instr → HasInstr p calls t instr
has_of p calls t q instr stands = record {
  call = stands.call;
  waits = stands.waits;
  is_call = stands.is_call;
  in_kind = record { state = q.state; at = q.at; line = stands.line; there = subst (λ k. slice_get (code_at p k q.state) q.at ≡ Some stands.line) stands.of_kind stands.there; is = stands.is };
}

module _ (p : Program) (formed : IsWellFormed p) (valid : IsValid p) (c : Columns) (limit : ℕ) (r : Run) (run : RunStands p limit r) (frames : FramesStand p r) where
  -- a task that runs stands at the line of its frame
  pub stands_there : (t n : ℕ) (q : FrameOf ℕ) → RunsAt r t n (OfKind q) → (line : Line) → slice_get (code_at p q.kind q.state) q.at ≡ Some line → StandsAt p r.calls t q line.instr
  stands_there t n q runs line there =
      let (made, behind, is_made, of_kind) = frames.of_call t q runs.has in
      record { call = made; waits = behind; is_call = is_made; of_kind = of_kind; line = line; there = there; is = refl }

  pub is_asked : (t n to : ℕ) (q : FrameOf ℕ) (request : Request) (retry : Bool) → RunsAt r t n (OfKind q) → Asks p c q request to retry → IsAsked p r t q request retry
  is_asked t n _ q _ _ runs (Asks.calls line to call waits there e) =
      let (kind, arguments, priority, retry, is_spawn, is_call) = shape_of c line.instr q (Calls to call waits) e in
      let same : call.kind ≡ kind = ap (λ (k : CallOf ℕ). k.kind) is_call in
      let seat = (running_stands p r run.numbers (tasks_of p r frames) t n (OfKind q) runs).seat in
      let spawned : IsSpawned q kind arguments waits call (task_waited q waits) = record {
        is_call = is_call;
        passes = spawn_passes p formed valid c r runs.row.after q seat line there to kind arguments waits priority retry is_spawn;
        behind = refl;
        names = spawn_names p formed valid c r runs.row.after q seat line there to call waits e;
      } in
      record {
        instr = line.instr;
        stands = stands_there t n q runs line there;
        asks = subst (λ instr. AsksForCall q instr call (task_waited q waits)) (sym is_spawn) spawned;
        class = ap (class_wanted p) is_spawn ∙ ap (λ k. Some (kind_class p k)) (sym same);
        again = λ retries none. no_retry line.instr none retries;
        no_retry = λ once. subst IsNoRetry (sym is_spawn) (sym (ap asks_again is_spawn) ∙ once);
        asks_again = λ retries. subst (λ instr. AsksAgain q instr None) (sym is_spawn) (sym (ap asks_again is_spawn) ∙ retries, refl);
        number = subst AsksForNumber (sym is_spawn) tt;
      }
  is_asked t n _ q _ _ runs (Asks.gathers line to members there e) =
      let (priority, retry, is_all) = shape_of c line.instr q (Gathers to members) e in
      let seat = (running_stands p r run.numbers (tasks_of p r frames) t n (OfKind q) runs).seat in
      let names = gather_names p formed valid c r runs.row.after q seat line there to members e in
      let as_many : length (tasks_named q members) ≡ length members = sym (map_length Some (tasks_named q members)) ∙ sym (ap length names) ∙ map_length _ members in
      record {
        instr = line.instr;
        stands = stands_there t n q runs line there;
        asks = subst (λ instr. AsksForMembers q instr (tasks_named q members)) (sym is_all) names;
        class = ap (class_wanted p) is_all ∙ ap (λ n. Some (members_class n)) (sym as_many);
        again = λ retries none. no_retry line.instr none retries;
        no_retry = λ once. subst IsNoRetry (sym is_all) (sym (ap asks_again is_all) ∙ once);
        asks_again = λ retries. subst (λ instr. AsksAgain q instr None) (sym is_all) (sym (ap asks_again is_all) ∙ retries, refl);
        number = subst AsksForNumber (sym is_all) tt;
      }

-- the evidence of before, or that of a null answer, is of a refused block
noted : (p : Program) (units : ℕ) (r s : Run) (class : ℕ) → ((e : Evidence) → r.evidence ≡ Some e → IsRefused p s.calls s.roots s.journal.tasks e.class) → IsRefused p s.calls s.roots s.journal.tasks class
    → (e : Evidence) → evidence_or r.evidence units r class ≡ Some e → IsRefused p s.calls s.roots s.journal.tasks e.class
noted p units r s class before here e is_e = by r.evidence refl is_e
  where
    by : (o : Option Evidence) → r.evidence ≡ o → evidence_or o units r class ≡ Some e → IsRefused p s.calls s.roots s.journal.tasks e.class
    by None was f = subst (λ (x : Evidence). IsRefused p s.calls s.roots s.journal.tasks x.class) (same_Some (record { class = class; words = words_of (pool_of units r) }) e f) here
    by (Some first) was f = before e (was ∙ f)

-- a start that was written stays
pub starts_stay : (j k : JournalState) → GrowsFrom j k → (n : ℕ) → IsSome (start_of j.rows n) → IsSome (start_of k.rows n)
starts_stay j k grows n some = let (s, is) = has_some (start_of j.rows n) some in ap is_some (grows.stamps (Starts n) s is)

module _ (p : Program) (formed : IsWellFormed p) (valid : IsValid p) (c : Columns) (limit units : ℕ) where
  -- what runs has started
  running_started : (r : Run) → RunStands p limit r → (t n : ℕ) (body : Body) (runs : RunsAt r t n body) → IsSome runs.row.start
  running_started r run t n body runs =
      let (other, there, some) = run.numbers.live.runs n runs.running in
      subst (λ (x : ActivationRow). IsSome x.start) (same_row r.journal.rows n other runs.row there runs.there) some

  -- a frame goes on to a later line of its state
  goes_ahead : (r : Run) (q next : FrameOf ℕ) → Goes p c r q next → IsAhead q next
  goes_ahead r q _ (Goes.steps next (line, there, e)) =
      let ahead = subst (StepsAhead q) e (act-ahead c line.instr q (jumps_ahead p formed q.kind q.state q.at line there)) in (sym ahead.1, ahead.2)
  goes_ahead r q _ (Goes.reads to x u n acts e f) = (refl, omega arith)

  -- the body of the task that runs is another
  body_now : (r : Run) (run : RunStands p limit r) (t n : ℕ) (q : FrameOf ℕ) (bodies : List (Option Body)) (body : Body) → RunsAt r t n (OfKind q) → length r.journal.rows ≤ length bodies
      → found (put_number bodies t (Some body)) t ≡ Some body
  body_now r run t n q bodies body runs many = let within = running_within r [] run.numbers t n (OfKind q) runs in found_put bodies t (Some body) within.0 (omega (arith, within.1, many))

  module _ (r : Run) (run : RunStands p limit r) (frames : FramesStand p r) (made : MadeStands p r) where
    -- a task that a running task asks for was made by it
    spawned_made : (t n to : ℕ) (q : FrameOf ℕ) (request : Request) (retry : Bool) → RunsAt r t n (OfKind q) → Asks p c q request to retry
        → IsMadeNow p (with_accepted r.journal None request.after) (r.calls ++ request.call ∷ []) r.roots (next_number r.journal) n q
    spawned_made t n to q request retry runs asks =
        let asked = is_asked p formed valid c limit r run frames t n to q request retry runs asks in
        let within = running_within r [] run.numbers t n (OfKind q) runs in
        let live = running_number r [] run.numbers t n (OfKind q) runs in
        let of_number = number_within r.journal.rows n runs.row runs.there in
        record {
          not_named = λ named. omega (arith, (task_within r.journal.rows (next_number r.journal) (run.numbers.names.in_roots named.0 (next_number r.journal) named.1)).1);
          maker = record {
            row = runs.row;
            there = snoc_old r.journal.rows row n runs.row runs.there;
            instr = asked.instr;
            stands = subst (λ k. StandsAt p (r.calls ++ request.call ∷ []) k q asked.instr) (sym runs.of_task)
                (stands_stays p r.journal (with_accepted r.journal None request.after) r.calls (r.calls ++ request.call ∷ []) r.roots r.roots run.journal.journal
                (draws_goes r.journal r.calls r.roots None request.after request.call (inl refl)) t q asked.instr asked.stands);
            made = request.call;
            is_made = subst (λ k. by_number (r.calls ++ request.call ∷ []) (suc k) ≡ Some request.call) run.numbers.beside.of_calls (snoc_new r.calls request.call);
            asks = asked.asks;
            drawn = omega (arith, of_number.1);
            begun = started;
            before = λ s e. absurd (none-some s (sym (ap start_in (snoc_new r.journal.rows row)) ∙ e));
            next = next within live;
          };
          uncut = λ u after.
              let (v, gave) = frames.runs_behind n u runs.row runs.running runs.there after in
              (ap is_some (finish_snoc r.journal.tasks u) ∙ (run.numbers.live.has_outcome u).0 (ap is_some gave), cause_snoc r.journal.tasks u ∙ run.outcomes.gave u v gave);
        }
      where
        row : ActivationRow
        row = record { task = next_number r.journal; after = request.after; start = None }

        started : IsSome runs.row.start
        started = running_started r run t n (OfKind q) runs

        next : (1 ≤ t) × (t ≤ length r.journal.rows) → IsLive r t n runs.row
            → (m : ℕ) (other : ActivationRow) → by_number (r.journal.rows ++ row ∷ []) m ≡ Some other → other.task ≡ runs.row.task → n < m → next_number r.journal < m
        next within live m other there same later =
            ⊎_elim
            (λ old. absurd (omega (arith, later, run.numbers.live.last t n m runs.row other live old (same ∙ runs.of_task))))
            (λ new. absurd (omega (arith, within.1, sym (ap (λ (x : ActivationRow). x.task) new.1) ∙ same ∙ runs.of_task)))
            (snoc_cases r.journal.rows row m other there)

    -- what was refused before, is refused after
    still_refused : (s : Run) → Stays r.journal s.journal r.calls s.calls r.roots s.roots → (e : Evidence) → r.evidence ≡ Some e → IsRefused p s.calls s.roots s.journal.tasks e.class
    still_refused s goes e is_e = refused_stays p r.journal s.journal r.calls s.calls r.roots s.roots run.journal.journal goes run.outcomes.open_ e.class (made.refused e is_e)

    -- the instruction at which a task asks is its still
    has_still : (s : Run) → Stays r.journal s.journal r.calls s.calls r.roots s.roots → (t : ℕ) (instr : Instr) → HasInstr p r.calls t instr → HasInstr p s.calls t instr
    has_still s goes t instr has = record { call = has.call; waits = has.waits; is_call = goes.calls_stay t (OfCall has.call has.waits) has.is_call; in_kind = has.in_kind }

    -- beside a renewal a refused block is noted, if any is
    renewed_refused : (s : Run) → Stays r.journal s.journal r.calls s.calls r.roots s.roots → (t n : ℕ) (body to : Body) (after : Option ℕ) (priority : Priority) (notes : Notes) → RunsAt r t n body
        → Renews p c units r n body to after priority notes → ((after ≡ None) → ((m : ℕ) × (by_number s.calls m ≡ Some (Respawn t None))) ⊎ (cause_of s.journal.tasks t ≡ cause.Limit))
        → (e : Evidence) → notes.evidence ≡ Some e → IsRefused p s.calls s.roots s.journal.tasks e.class
    renewed_refused s goes t n _ _ _ _ _ runs (Renews.again q line target waits there f) on = still_refused s goes
    renewed_refused s goes t n _ _ _ _ _ runs (Renews.retries q request to how none) on =
        let asked = is_asked p formed valid c limit r run frames t n to q request true runs how in
        noted p units r s request.class (still_refused s goes) (IsRefused.again t asked.instr (has_still s goes t asked.instr (has_of p r.calls t q asked.instr asked.stands)) asked.class (asked.again refl) (on refl))
    renewed_refused s goes t n _ _ _ _ _ runs (Renews.behind members next u f) on = still_refused s goes

    -- beside a refusal too
    refused_refused : (s : Run) → Stays r.journal s.journal r.calls s.calls r.roots s.roots → (t n : ℕ) (body : Body) (tag : CutTag) (notes : Notes) → RunsAt r t n body → Refuses p c units r n body tag notes
        → cause_of s.journal.tasks t ≡ cause_of_cut tag → (e : Evidence) → notes.evidence ≡ Some e → IsRefused p s.calls s.roots s.journal.tasks e.class
    refused_refused s goes t n _ _ _ runs (Refuses.no_block q request to how none) why =
        let asked = is_asked p formed valid c limit r run frames t n to q request false runs how in
        noted p units r s request.class (still_refused s goes) (IsRefused.of_task t asked.instr (has_still s goes t asked.instr (has_of p r.calls t q asked.instr asked.stands)) asked.class why)
    refused_refused s goes t n _ _ _ runs (Refuses.no_number q request to retry block how placed none) why = still_refused s goes
    refused_refused s goes t n body _ _ runs (Refuses.no_renewal _ to after priority notes how none) why = renewed_refused s goes t n body to after priority notes runs how (λ _. inr why)

  -- where none runs any more, what was asked for stands
  stopped : (r : Run) (made : MadeStands p r) (rows : List ActivationRow) (bodies : List (Option Body)) → length rows ≡ length r.journal.rows → ((n : ℕ) → IsSome (start_of r.journal.rows n) → IsSome (start_of rows n))
      → Askers made.story rows bodies None
  stopped r made rows bodies many starts = askers_stop made.story r.journal.rows r.bodies r.running made.askers rows bodies many starts

  pub made_move : (r s : Run) → RunStands p limit r → FramesStand p r → MadeStands p r → Move p c units r s → MadeStands p s
  made_move r s run frames made (Move.goes_on t n q next runs goes) = record {
    story = made.story;
    askers = askers_step made.story r.journal.rows r.bodies r.running made.askers t n runs.row q runs.running runs.there runs.of_task runs.has (put_number r.bodies t (Some (OfKind next))) next
        (body_now r run t n q r.bodies (OfKind next) runs (omega (arith, run.numbers.beside.of_bodies))) (goes_ahead r q next goes);
    made = made.made;
    refused = made.refused;
  }
  made_move r _ run frames made (Move.spawned t n to q request retry block runs asks placed some) =
      let then = set_future q to (Some (next_number r.journal)) in
      let s = with_body (accepts units r request block) t (OfKind then) in
      let goes = draws_goes r.journal r.calls r.roots None request.after request.call (inl refl) in
      let row : ActivationRow = record { task = next_number r.journal; after = request.after; start = None } in
      let here : Asker = record { number = n; frame = q } in
      let many : length (r.bodies ++ Some request.body ∷ []) ≡ suc (length r.bodies) = length_snoc r.bodies (Some request.body) in
      arrives_made p s (next_number r.journal) request.after
      (made_goes p limit r s run goes made (made.story ++ Some here ∷ []) (λ u a e. found_old made.story (Some here) u a e)
      (askers_ask made.story r.journal.rows r.bodies r.running made.askers t n runs.row q runs.running runs.there runs.of_task runs.has (running_started r run t n (OfKind q) runs) row
      (put_number (r.bodies ++ Some request.body ∷ []) t (Some (OfKind then))) then
      (body_now r run t n q (r.bodies ++ Some request.body ∷ []) (OfKind then) runs (omega (arith, many, run.numbers.beside.of_bodies))) (refl, omega arith))
      (λ k task past. let next = (is_next r.journal None request.after k task past).0 in
      inr (
        here,
        found_new made.story (Some here) k (next ∙ ap suc (sym made.askers.beside)),
        subst (λ m. IsMadeNow p (with_accepted r.journal None request.after) (r.calls ++ request.call ∷ []) r.roots m n q) (sym next) (spawned_made r run frames made t n to q request retry runs asks),
      ))
      (still_refused r run frames made s goes))
  made_move r _ run frames made (Move.respawned t n body to after priority notes runs renews some) =
      let s = with_body (record (draws (with_notes r notes) (Some t) after priority (Respawn t after) None None) { running = None }) t to in
      let goes = draws_goes r.journal r.calls r.roots (Some t) after (Respawn t after) (inr (running_open r [] run.numbers t n body runs)) in
      let drawn : by_number (r.calls ++ Respawn t after ∷ []) (suc (length r.calls)) ≡ Some (Respawn t after) = snoc_new r.calls (Respawn t after) in
      arrives_made p s (next_number r.journal) after
      (made_goes p limit r s run goes made (made.story ++ None ∷ []) (λ u a e. found_old made.story None u a e)
      (askers_draw made.story r.journal.rows r.bodies r.running made.askers (record { task = t; after = after; start = None }) s.bodies)
      (λ k task past. let is = is_next r.journal (Some t) after k task past in absurd (omega (arith, is.0, is.1, (running_within r [] run.numbers t n body runs).1)))
      (renewed_refused r run frames made s goes t n body to after priority notes runs renews
      (λ none. inl (suc (length r.calls), drawn ∙ ap (λ o. Some (Respawn t o)) none))))
  made_move r s run frames made (Move.gave t n body v runs answers) =
      let grows = move_grows p c limit units r s run (Move.gave t n body v runs answers) in
      let goes = stays_goes r.journal s.journal r.calls r.roots grows (finished_was r.journal r.journal t cause.Clear (λ k row e. RowWas.stood e)) in
      made_goes p limit r s run goes made made.story (λ u a e. e) (stopped r made s.journal.rows s.bodies refl (λ k h. h)) (λ k task past. absurd (none_past r.journal s.journal refl k task past))
      (still_refused r run frames made s goes)
  made_move r s run frames made (Move.refused t n body tag notes runs refuses) =
      let grows = move_grows p c limit units r s run (Move.refused t n body tag notes runs refuses) in
      let goes = stays_goes r.journal s.journal r.calls r.roots grows (finished_was r.journal r.journal t (cause_of_cut tag) (λ k row e. RowWas.stood e)) in
      let within = running_within r [] run.numbers t n body runs in
      let why = cause_here r.journal.tasks t (r.journal.stamps + 1) (cause_of_cut tag) within.0 (omega (arith, within.1, run.numbers.beside.of_tasks)) t refl in
      made_goes p limit r s run goes made made.story (λ u a e. e) (stopped r made s.journal.rows s.bodies refl (λ k h. h)) (λ k task past. absurd (none_past r.journal s.journal refl k task past))
      (refused_refused r run frames made s goes t n body tag notes runs refuses why)
  made_move r s run frames made (Move.started n left idle next uncut) =
      let grows = move_grows p c limit units r s run (Move.started n left idle next uncut) in
      let (first, there, waits) = next_row r [] n left run.numbers next in
      let many = as_many_begun r.journal n in
      let goes = stays_goes r.journal s.journal r.calls r.roots grows (begun_was r.journal n first there waits many) in
      made_goes p limit r s run goes made made.story (λ u a e. e)
      (askers_start made.story r.journal.rows r.bodies r.running made.askers n s.journal.rows many (starts_stay r.journal s.journal grows) (ap start_in there ∙ waits))
      (λ k task past. absurd (none_past r.journal s.journal many k task past)) (still_refused r run frames made s goes)
  made_move r s run frames made (Move.cut_at_start n left row u tag idle next is_row after cut) =
      let grows = move_grows p c limit units r s run (Move.cut_at_start n left row u tag idle next is_row after cut) in
      let (first, there, waits) = next_row r [] n left run.numbers next in
      let many = as_many_begun r.journal n in
      let goes = stays_goes r.journal s.journal r.calls r.roots grows (finished_was r.journal (with_begun r.journal n) row.task (cause.By u) (begun_was r.journal n first there waits many)) in
      made_goes p limit r s run goes made made.story (λ u a e. e) (stopped r made s.journal.rows s.bodies many (starts_stay r.journal s.journal grows))
      (λ k task past. absurd (none_past r.journal s.journal many k task past)) (still_refused r run frames made s goes)

pub made_first : (p : Program) (plan : RunPlan) → MadeStands p (at_first plan)
made_first p plan = record {
  story = [];
  askers = record {
    beside = refl;
    rise = λ t u a b e. absurd (none-some a (sym (ap flat (none_of_empty t)) ∙ e));
    begun = λ t a e. absurd (none-some a (sym (ap flat (none_of_empty t)) ∙ e));
    now = λ n t row q a runs. absurd (none-some n runs);
  };
  made = λ t task. absurd (none-some task.0 (sym (none_of_empty t) ∙ task.1));
  refused = λ e is_e. absurd (none-some e is_e);
}

pub made_root : (p : Program) (limit units : ℕ) (r s : Run) (root : RootLine) → IsNextRoot p r root → RunStands p limit r → MadeStands p r → RootMove p units r root s → MadeStands p s
made_root p limit units r _ root next run made (RootMove.named block free placed some) =
    let request = root_request p r root in
    let word = Named (next_number r.journal) in
    let s = with_root (accepts units r request block) word in
    let goes = root_goes p limit r run word past (with_accepted r.journal None request.after) (r.calls ++ request.call ∷ []) (draws_goes r.journal r.calls r.roots None request.after request.call (inl refl)) in
    let askers = askers_draw made.story r.journal.rows r.bodies r.running made.askers (record { task = next_number r.journal; after = request.after; start = None }) s.bodies in
    arrives_made p s (next_number r.journal) request.after
    (made_goes p limit r s run goes made (made.story ++ None ∷ []) (λ u a e. found_old made.story None u a e) (subst (Askers (made.story ++ None ∷ []) s.journal.rows s.bodies) (sym next.idle) askers)
    (λ k task over. inl (length r.roots, subst (λ m. slice_get (r.roots ++ word ∷ []) (length r.roots) ≡ Some (Named m)) (sym (is_next r.journal None request.after k task over).0) (get_last r.roots word)))
    (λ e is_e. refused_stays p r.journal s.journal r.calls s.calls r.roots s.roots run.journal.journal goes run.outcomes.open_ e.class (made.refused e is_e)))
  where
    past : (t : ℕ) → Named (next_number r.journal) ≡ Named t → length r.journal.rows < t
    past t e = let same : next_number r.journal ≡ t = cc in omega (arith, same)
made_root p limit units r _ root next run made (RootMove.refused tag notes free how) = by tag notes how
  where
    past : (tag : CutTag) (t : ℕ) → Refused tag ≡ Named t → length r.journal.rows < t
    past tag t e = cc

    goes_so : (tag : CutTag) → Stays r.journal r.journal r.calls r.calls r.roots (r.roots ++ Refused tag ∷ [])
    goes_so tag = root_goes p limit r run (Refused tag) (past tag) r.journal r.calls (stays_goes r.journal r.journal r.calls r.roots (grows_same r.journal) (λ k row e. RowWas.stood e))

    still : (tag : CutTag) (e : Evidence) → r.evidence ≡ Some e → IsRefused p r.calls (r.roots ++ Refused tag ∷ []) r.journal.tasks e.class
    still tag e is_e = refused_stays p r.journal r.journal r.calls r.calls r.roots (r.roots ++ Refused tag ∷ []) run.journal.journal (goes_so tag) run.outcomes.open_ e.class (made.refused e is_e)

    with_evidence : (tag : CutTag) (notes : Notes) → ((e : Evidence) → notes.evidence ≡ Some e → IsRefused p r.calls (r.roots ++ Refused tag ∷ []) r.journal.tasks e.class) → MadeStands p (with_root (with_notes r notes) (Refused tag))
    with_evidence tag notes refused =
        made_goes p limit r (with_root (with_notes r notes) (Refused tag)) run (goes_so tag) made made.story (λ u a e. e) made.askers (λ k task over. absurd (none_past r.journal r.journal refl k task over)) refused

    by : (tag : CutTag) (notes : Notes) → RefusesRoot p units r root tag notes → MadeStands p (with_root (with_notes r notes) (Refused tag))
    by _ notes (RefusesRoot.no_block none) =
        with_evidence Null notes (noted p units r (with_root r (Refused Null)) (kind_class p root.kind) (still Null) (IsRefused.of_root (length r.roots) root next.there (get_last r.roots (Refused Null)) refl))
    by tag notes (RefusesRoot.no_number block placed none) = with_evidence tag notes (still tag)
made_root p limit units r _ root next run made (RootMove.skipped first e) =
    let word = Skipped first.0 first.1 in
    let goes = root_goes p limit r run word (past first.0 first.1) r.journal r.calls (stays_goes r.journal r.journal r.calls r.roots (grows_same r.journal) (λ k row e. RowWas.stood e)) in
    made_goes p limit r (with_root r word) run goes made made.story (λ u a e. e) made.askers (λ k task over. absurd (none_past r.journal r.journal refl k task over))
    (λ f is_f. refused_stays p r.journal r.journal r.calls r.calls r.roots (r.roots ++ word ∷ []) run.journal.journal goes run.outcomes.open_ f.class (made.refused f is_f))
  where
    past : (at : ℕ) (tag : CutTag) (t : ℕ) → Skipped at tag ≡ Named t → length r.journal.rows < t
    past at tag t h = cc
