-- What the running task asks for by units is what it asks for in the run.
use Rattle.std.proofs.Common.{◌≡◌, ℕ, suc, ◌+◌, ◌*◌, ◌<◌, ◌≤◌, Option, Some, None, List, [], ◌∷◌, length, map, slice_get, refl, sym, ◌∙◌, ap, subst}
use Rattle.std.specs.List.{filter_map, cons_option}
use Rattle.std.proofs.lemmas.Option.{none-some, same_Some}
use Rattle.task_syntax.specs.Form.{IsFormedInstr}
use Rattle.task_syntax.specs.declared.value.Value.{Value}
use Rattle.task_syntax.specs.declared.value.Value.TheVariants as value
use Rattle.task_syntax.specs.declared.instr.Argument.{Argument}
use Rattle.task_syntax.specs.declared.instr.Instr.{Instr}
use Rattle.task_syntax.specs.declared.instr.Instr.TheVariants.{Math, Cell, Spawn, All}
use Rattle.task_syntax.specs.declared.instr.Line.{Line}
use Rattle.task_syntax.specs.declared.program.Kind.{Kind}
use Rattle.task_syntax.specs.declared.program.State.{State}
use Rattle.task_syntax.specs.declared.program.Program.{Program}
use Rattle.task_syntax.specs.declared.columns.Columns.{Columns}
use Rattle.task_meaning.specs.Arithmetic.{computed, cell_at}
use Rattle.task_meaning.specs.Meant.{future_at}
use Rattle.task_meaning.specs.Frame.{FrameOf, CallOf, code_at, operand, entry, spawned as spawned_call, set_future, renamed, frame_with, call_with}
use Rattle.task_meaning.specs.Frame.{variables_of}
use Rattle.task_meaning.specs.Acts.{Act, Calls, Gathers, act_of, act_with, ActsAt}
use Rattle.task_meaning.specs.FrameLaws.{task_waited}
use Rattle.task_meaning.proofs.Renaming.{future_at-renamed, entry-renamed, act-renamed}
use Rattle.kt_words.specs.Capacity.{block_units}
use Rattle.frame_code.specs.Words.{OfKind, OfMembers, body_of}
use Rattle.frame_code.specs.Frames.{IsFrame}
use Rattle.frame_code.specs.Names.{body_with}
use Rattle.frame_code.specs.Stops.{trapped, stop_at, StopsAt}
use Rattle.frame_code.specs.declared.act.Act.{Act as FrameAct}
use Rattle.frame_code.specs.declared.act.Act.TheVariants as act
use Rattle.frame_code.specs.declared.act.SpawnRequest.{SpawnRequest}
use Rattle.frame_code.specs.declared.act.AllRequest.{AllRequest}
use Rattle.record_core.specs.EndSound.{members_class}
use Rattle.run_model.specs.State.{Body, Run}
use Rattle.run_model.specs.Step.{Request, call_request, all_request, task_list, tasks_named, asked_priority, asks_again, asks, does, step}
use Rattle.run_model.specs.Move.{RunsAt, Asks}
use Rattle.run_model.proofs.LineFacts.{future_within}
use Rattle.run_model.proofs.BlocksKept.{class_fits}
use Rattle.plain_state.specs.Laws.{Wanted, unit_in_if, SpawnWants, AllWants, Wants}
use Rattle.plain_state.proofs.Running.{stop_renamed, step_line}
use Rattle.plain_state.proofs.GrownLists.{cons_head, cons_tail}
use Rattle.plain_state.proofs.NewNames.{kind_fits, members_fit}

-- which instruction asks for a new task
abbrev AskShape : Option FrameAct → Instr → Type 0
AskShape (Some (act.Spawn request)) instr = (arguments : List Argument) ×
    (instr ≡ Spawn request.to request.kind arguments request.behind request.priority request.retry)
AskShape (Some (act.All request)) instr = instr ≡ All request.to request.members request.priority request.retry
AskShape _ instr = Unit {0}

-- a trap asks for none
trap_shape : (v : Value) (instr : Instr) → AskShape (trapped v) instr
trap_shape (value.Number n) instr = tt
trap_shape (value.Trapped t) instr = tt

-- what each instruction asks for
ask_shapes : (c : Columns) (instr : Instr) (q : FrameOf ℕ) → AskShape (stop_at c instr q) instr
ask_shapes c (Math op to left right) q = trap_shape (computed op (operand q.numbers left) (operand q.numbers right)) (Math op to left right)
ask_shapes c (Cell to column row) q = trap_shape (cell_at c column (operand q.numbers row)) (Cell to column row)
ask_shapes c (Spawn to kind arguments waits priority retry) q = (arguments, refl)
ask_shapes c (All to members priority retry) q = refl
ask_shapes c _ q = tt

-- so what is asked for tells the instruction
ask_shape : (c : Columns) (instr : Instr) (q : FrameOf ℕ) (asked : FrameAct) → stop_at c instr q ≡ Some asked → AskShape (Some asked) instr
ask_shape c instr q asked e = subst (λ o. AskShape o instr) e (ask_shapes c instr q)

-- tasks that variables name, and their units
abbrev AreListed : (ℕ → Option ℕ) → List ℕ → List ℕ → Type 0
AreListed f tasks members = (map f tasks ≡ map (λ u. Some u) members) × (filter_map f tasks ≡ members)

-- the tasks that these variables name have these units
tasks_listed : (f : ℕ → Option ℕ) (futures : List (Option ℕ)) (xs members : List ℕ)
    → map (λ u. Some u) members ≡ map (future_at (map (renamed f) futures)) xs → AreListed f (task_list (map (future_at futures) xs)) members
tasks_listed f futures [] [] e = (refl, refl)
tasks_listed f futures [] (m ∷ members) e = absurd (cc e)
tasks_listed f futures (x ∷ xs) [] e = absurd (cc e)
tasks_listed f futures (x ∷ xs) (m ∷ members) e =
    by (future_at futures x) (sym (future_at-renamed f futures x) ∙ sym (cons_head e)) (tasks_listed f futures xs members (cons_tail e))
  where
    by : (o : Option ℕ) → renamed f o ≡ Some m → AreListed f (task_list (map (future_at futures) xs)) members
        → AreListed f (task_list (o ∷ map (future_at futures) xs)) (m ∷ members)
    by None none rest = absurd (none-some m none)
    by (Some u) at (images, listed) = (
      ap (λ o. o ∷ map f (task_list (map (future_at futures) xs))) at ∙ ap (λ os. Some m ∷ os) images,
      ap (λ o. cons_option o (filter_map f (task_list (map (future_at futures) xs)))) at ∙ ap (λ ms. m ∷ ms) listed,
    )

-- so have the first of them
first_listed : (f : ℕ → Option ℕ) (tasks members : List ℕ) → map f tasks ≡ map (λ u. Some u) members
    → slice_get members 0 ≡ renamed f (slice_get tasks 0)
first_listed f [] [] e = refl
first_listed f [] (m ∷ members) e = absurd (cc e)
first_listed f (t ∷ tasks) [] e = absurd (cc e)
first_listed f (t ∷ tasks) (m ∷ members) e = sym (cons_head e)

-- they are as many
as_many : (f : ℕ → Option ℕ) (tasks members : List ℕ) → map f tasks ≡ map (λ u. Some u) members → length members ≡ length tasks
as_many f [] [] e = refl
as_many f [] (m ∷ members) e = absurd (cc e)
as_many f (t ∷ tasks) [] e = absurd (cc e)
as_many f (t ∷ tasks) (m ∷ members) e = ap suc (as_many f tasks members (cons_tail e))

-- the call of an act
abbrev call_of : Act ℕ → CallOf ℕ
call_of (Calls to call waits) = call
call_of _ = record { kind = 0; numbers = []; futures = [] }

-- What the frame asks for in the run, where it wants this by units.
pub record Wishes (p : Program) (c : Columns) (f : ℕ → Option ℕ) (q : FrameOf ℕ) (w : Wanted) : Type 0 where
  pub request : Request
  pub line : Line
  pub there : slice_get (code_at p q.kind q.state) q.at ≡ Some line
  pub asked : Asks p c q request w.to w.retry
  pub class : request.class ≡ w.class
  pub fits : w.class ≤ 3
  pub priority : w.priority ≡ request.priority
  pub first : w.first ≡ body_with f request.body
  pub after : w.after ≡ renamed f request.after
  pub holds : (words : List ℕ) → IsFrame p words → body_of p words ≡ w.first → length words ≤ block_units w.class * 8
  pub names : (kind : Kind) (state : State) → IsFormedInstr p kind state q.at line.instr → w.to < length kind.variables
  pub steps : (units : ℕ) (r : Run) (t n : ℕ) → RunsAt r t n (OfKind q)
      → step p c units r ≡ asks units r t (OfKind q) (λ m. OfKind (set_future q w.to (Some m))) request w.retry

-- what a spawn is behind
future_waited : (f : ℕ → Option ℕ) (q : FrameOf ℕ) (behind : Option ℕ)
    → unit_in_if (OfKind (frame_with f q)) behind ≡ renamed f (task_waited q behind)
future_waited f q None = refl
future_waited f q (Some x) = future_at-renamed f q.futures x

module _ (p : Program) (c : Columns) (f : ℕ → Option ℕ) (q : FrameOf ℕ) (w : Wanted) where
  -- a spawn
  spawn_wishes : (request : SpawnRequest) (arguments : List Argument) → StopsAt p c (frame_with f q) (act.Spawn request)
      → ActsAt p c (frame_with f q) (Calls request.to (spawned_call (frame_with f q) request.kind arguments) request.behind)
      → SpawnWants p (frame_with f q) request arguments w → Wishes p c f q w
  spawn_wishes request arguments (line, there, stops) (line', there', acts) wants =
      let (passed, is) = ask_shape c line.instr q (act.Spawn request) (sym (stop_renamed f c line.instr q) ∙ stops) in
      let call : CallOf ℕ = spawned_call q request.kind passed in
      let act_is : act_of c line.instr q ≡ Calls request.to call request.behind = ap (λ i. act_of c i q) is in
      let same_line : line' ≡ line = same_Some line' line (sym there' ∙ there) in
      let acts_here : act_of c line.instr (frame_with f q) ≡ Calls request.to (spawned_call
      (frame_with f q) request.kind arguments) request.behind = ap (λ (l : Line). act_of c l.instr (frame_with f q)) (sym same_line) ∙ acts in
      let call_is : spawned_call (frame_with f q) request.kind arguments ≡ call_with f call = ap call_of (sym acts_here ∙ act-renamed f c line.instr q
      ∙ ap (act_with f) act_is) in
      let to_is : w.to ≡ request.to = wants.to in
      let retry_is : w.retry ≡ asks_again line.instr = wants.retry ∙ sym (ap asks_again is) in
      record {
        request = call_request p call (task_waited q request.behind) (asked_priority line.instr);
        line = line;
        there = there;
        asked = subst (λ to. Asks p c q (call_request p call (task_waited q request.behind) (asked_priority line.instr)) to w.retry) (sym to_is)
            (subst (λ retry. Asks p c q (call_request p call (task_waited q request.behind) (asked_priority line.instr)) request.to retry)
            (sym retry_is) (Asks.calls line request.to call request.behind there act_is));
        class = sym wants.class;
        fits = subst (λ k. k ≤ 3) (sym wants.class) (class_fits (1 + variables_of p request.kind));
        priority = wants.priority ∙ sym (ap asked_priority is);
        first = wants.first ∙ ap (λ k. OfKind (entry p k)) call_is ∙ ap OfKind (sym (entry-renamed f p call));
        after = wants.after ∙ future_waited f q request.behind;
        holds = λ words frame says. subst (λ k. length words ≤ block_units k * 8) (sym wants.class) (kind_fits p words (entry p (spawned_call
            (frame_with f q) request.kind arguments)) frame (says ∙ wants.first));
        names = λ kind state formed. subst (λ to. to < length kind.variables) (sym to_is) (future_within kind request.to (subst
            (IsFormedInstr p kind state q.at) is formed).0);
        steps = λ units r t n runs. step_line p c units r t n q line runs there ∙ ap (does p units r t q line.instr) act_is
            ∙ ap (λ to. asks units r t (OfKind q) (λ m. OfKind (set_future q to (Some m))) (call_request p call (task_waited q request.behind)
            (asked_priority line.instr)) (asks_again line.instr)) (sym to_is)
            ∙ ap (asks units r t (OfKind q) (λ m. OfKind (set_future q w.to (Some m))) (call_request p call (task_waited q request.behind)
            (asked_priority line.instr))) (sym retry_is);
      }

  -- an aggregate
  all_wishes : (request : AllRequest) (members : List ℕ) → StopsAt p c (frame_with f q) (act.All request)
      → map (λ unit. Some unit) members ≡ map (future_at (map (renamed f) q.futures)) request.members
      → AllWants members request w → Wishes p c f q w
  all_wishes request members (line, there, stops) are wants =
      let is = ask_shape c line.instr q (act.All request) (sym (stop_renamed f c line.instr q) ∙ stops) in
      let act_is : act_of c line.instr q ≡ Gathers request.to request.members = ap (λ i. act_of c i q) is in
      let (images, listed) = tasks_listed f q.futures request.members members are in
      let many = as_many f (tasks_named q request.members) members images in
      let to_is : w.to ≡ request.to = wants.to in
      let retry_is : w.retry ≡ asks_again line.instr = wants.retry ∙ sym (ap asks_again is) in
      record {
        request = all_request (tasks_named q request.members) (asked_priority line.instr);
        line = line;
        there = there;
        asked = subst (λ to. Asks p c q (all_request (tasks_named q request.members) (asked_priority line.instr)) to w.retry) (sym to_is)
            (subst (λ retry. Asks p c q (all_request (tasks_named q request.members) (asked_priority line.instr)) request.to retry) (sym retry_is)
            (Asks.gathers line request.to request.members there act_is));
        class = sym (wants.class ∙ ap members_class many);
        fits = subst (λ k. k ≤ 3) (sym wants.class) (class_fits (1 + length members));
        priority = wants.priority ∙ sym (ap asked_priority is);
        first = wants.first ∙ ap (λ ms. OfMembers ms 1) (sym listed);
        after = wants.after ∙ first_listed f (tasks_named q request.members) members images;
        holds = λ words frame says. subst (λ k. length words ≤ block_units k * 8) (sym wants.class) (members_fit p words members 1 frame (says
            ∙ wants.first));
        names = λ kind state formed. subst (λ to. to < length kind.variables) (sym to_is) (future_within kind request.to (subst
            (IsFormedInstr p kind state q.at) is formed).0);
        steps = λ units r t n runs. step_line p c units r t n q line runs there ∙ ap (does p units r t q line.instr) act_is
            ∙ ap (λ to. asks units r t (OfKind q) (λ m. OfKind (set_future q to (Some m))) (all_request (tasks_named q request.members)
            (asked_priority line.instr)) (asks_again line.instr)) (sym to_is)
            ∙ ap (asks units r t (OfKind q) (λ m. OfKind (set_future q w.to (Some m))) (all_request (tasks_named q request.members)
            (asked_priority line.instr))) (sym retry_is);
      }

-- A body that wants something is a frame, and asks for it.
pub record AsksSo (p : Program) (c : Columns) (f : ℕ → Option ℕ) (body : Body) (w : Wanted) : Type 0 where
  pub q : FrameOf ℕ
  pub is : body ≡ OfKind q
  pub wishes : Wishes p c f q w

-- whatever is wanted
pub wants_seen : (p : Program) (c : Columns) (f : ℕ → Option ℕ) (body : Body) (w : Wanted) → Wants p c (body_with f body) w → AsksSo p c f body w
wants_seen p c f (OfKind q) w (Wants.by_spawn _ request arguments _ stops numbers futures acts wants) = record {
  q = q;
  is = refl;
  wishes =
      spawn_wishes p c f q w request arguments stops acts wants;
}
wants_seen p c f (OfKind q) w (Wants.by_all _ request members _ stops are wants) = record {
  q = q;
  is = refl;
  wishes = all_wishes p c f q w request
      members stops are wants;
}
wants_seen p c f (OfMembers members next) w wants = elim wants [ ]
