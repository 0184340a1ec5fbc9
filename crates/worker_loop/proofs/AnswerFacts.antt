-- What comes of asking for a new task.
use Rattle.std.proofs.Common.{◌≡◌, ◌∙◌, inl, inr, ℕ, true, Some, None, [], length, refl, ap, arith}
use Rattle.record_core.specs.declared.rows.CutTag.TheVariants as cut
use Rattle.frame_code.specs.Words.{BodyOf, OfKind, OfMembers, body_of}
use Rattle.frame_code.specs.declared.act.Act.TheVariants as act
use Rattle.frame_code.specs.declared.act.AllRequest.{AllRequest}
use Rattle.frame_code.specs.declared.act.SpawnRequest.{SpawnRequest}
use Rattle.task_syntax.specs.declared.columns.Columns.{Columns}
use Rattle.task_syntax.specs.declared.program.Program.{Program}
use Rattle.table_core.specs.declared.setup.Setup.{Setup}
use Rattle.table_core.specs.declared.view.View.{View}
use Rattle.step_table.specs.Passes.{view}
use Rattle.step_table.specs.declared.pass.Pass.{Pass}
use Rattle.schedule_core.specs.NewTasks.{refusal_in, made_in, held_spawned, kind_class, group_class}
use Rattle.schedule_core.specs.PastFrames.{past_words}
use Rattle.schedule_core.specs.Respawning.{AsksOnNull}
use Rattle.schedule_core.specs.Runs.{IsInStep}
use Rattle.schedule_core.specs.Spawning.{AsksFor, Spawns}
use Rattle.schedule_core.specs.SpawningAll.{SpawnsAll}
use Rattle.schedule_core.specs.declared.answers.Spawned.{Spawned}
use Rattle.schedule_core.specs.declared.answers.Spawned.TheVariants as spawned
use Rattle.schedule_core.specs.declared.running.Running.{Running}
use Rattle.schedule_core.proofs.AskingActs.{stands-asking, stands-asking_all}
use Rattle.worker_loop.specs.Serving.{Answers, Serves}
use Rattle.worker_loop.specs.Working.{others, Runs}
use Rattle.worker_loop.specs.declared.serving.Served.{Served}
use Rattle.worker_loop.specs.declared.serving.Served.TheVariants as served
use Rattle.worker_loop.proofs.CallFacts.{new-alone, null-alone, met-alone, met-refused}
use Rattle.worker_loop.proofs.CountFacts.{stands-putting}

retries : (p : Program) (c : Columns) (request : SpawnRequest) (b : BodyOf ℕ) → AsksFor p c (act.Spawn request) b → request.retry ≡ true → AsksOnNull p c b
retries p c request (OfKind q) asks retry = inl (request, asks, retry)
retries p c request (OfMembers units next) asks retry = absurd asks

retries-all : (p : Program) (c : Columns) (request : AllRequest) (b : BodyOf ℕ) → AsksFor p c (act.All request) b → request.retry ≡ true → AsksOnNull p c b
retries-all p c request (OfKind q) asks retry = inr (request, asks, retry)
retries-all p c request (OfMembers units next) asks retry = absurd asks

pub spawn-answers : (g : Setup) (x : Running) (request : SpawnRequest) (told : Spawned) (old new : Pass) → Runs g x [] old → AsksFor g.checked g.columns (act.Spawn request) (body_of g.checked x.frame.items)
    → Spawns g x request (view old) told (view new) → IsInStep g (record x { refused = refusal_in told; made = made_in told }) (view new) → new.held ≡ held_spawned old.held told
    → Answers g (record x { refused = refusal_in told; made = made_in told }) request.to request.retry told new
spawn-answers g x request (spawned.Future future entry) old new r asks has s held = (
  record {
    alone = new-alone g x (record x { refused = None; made = Some future.unit }) future.unit (past_words g.checked x.frame.items request.to future.unit) (view old) (view new) r.alone (ap others has.gets.view_is) (ap (λ (v : View). v.chains) has.gets.view_is)
        (ap (λ (v : View). v.answers) has.gets.view_is) (ap (λ (v : View). v.futures) has.gets.view_is) (ap (λ (v : View). v.runs) has.gets.view_is) refl s;
    made_is = refl;
    count = omega (arith, held, r.count);
  },
  stands-putting g.checked request.to (body_of g.checked x.frame.items) (stands-asking g.checked g.columns request (body_of g.checked x.frame.items) asks),
  refl,
)
spawn-answers g x request spawned.Null old new r asks has s held = (
  record { alone = null-alone g (kind_class g.checked request.kind) x (record x { refused = Some cut.Null; made = None }) (view old) (view new) r.alone has refl s; made_is = refl; count = held ∙ r.count },
  refl,
  λ retry. retries g.checked g.columns request (body_of g.checked x.frame.items) asks retry,
)
spawn-answers g x request spawned.Over old new r asks has s held = (
  record { alone = met-alone g (kind_class g.checked request.kind) x (record x { refused = Some cut.Limit; made = None }) (view old) (view new) r.alone has refl s; made_is = refl; count = held ∙ r.count },
  met-refused g (kind_class g.checked request.kind) x (record x { refused = Some cut.Limit; made = None }) (view old) (view new) has refl,
)

pub all-answers : (g : Setup) (x : Running) (request : AllRequest) (told : Spawned) (old new : Pass) → Runs g x [] old → AsksFor g.checked g.columns (act.All request) (body_of g.checked x.frame.items)
    → SpawnsAll g x request (view old) told (view new) → IsInStep g (record x { refused = refusal_in told; made = made_in told }) (view new) → new.held ≡ held_spawned old.held told
    → Answers g (record x { refused = refusal_in told; made = made_in told }) request.to request.retry told new
all-answers g x request (spawned.Future future entry) old new r asks has s held = (
  record {
    alone = new-alone g x (record x { refused = None; made = Some future.unit }) future.unit (past_words g.checked x.frame.items request.to future.unit) (view old) (view new) r.alone (ap others has.gets.view_is) (ap (λ (v : View). v.chains) has.gets.view_is)
        (ap (λ (v : View). v.answers) has.gets.view_is) (ap (λ (v : View). v.futures) has.gets.view_is) (ap (λ (v : View). v.runs) has.gets.view_is) refl s;
    made_is = refl;
    count = omega (arith, held, r.count);
  },
  stands-putting g.checked request.to (body_of g.checked x.frame.items) (stands-asking_all g.checked g.columns request (body_of g.checked x.frame.items) asks),
  refl,
)
all-answers g x request spawned.Null old new r asks has s held = (
  record { alone = null-alone g (group_class (length request.members)) x (record x { refused = Some cut.Null; made = None }) (view old) (view new) r.alone has refl s; made_is = refl; count = held ∙ r.count },
  refl,
  λ retry. retries-all g.checked g.columns request (body_of g.checked x.frame.items) asks retry,
)
all-answers g x request spawned.Over old new r asks has s held = (
  record { alone = met-alone g (group_class (length request.members)) x (record x { refused = Some cut.Limit; made = None }) (view old) (view new) r.alone has refl s; made_is = refl; count = held ∙ r.count },
  met-refused g (group_class (length request.members)) x (record x { refused = Some cut.Limit; made = None }) (view old) (view new) has refl,
)

-- what is served of a task is served of it with another frame
pub serves-same : (g : Setup) (x y : Running) (told : Served) (p : Pass) → y.started ≡ x.started → Serves g y told p → Serves g x told p
serves-same g x y (served.Goes back) p same (runs, started, refused) = (runs, started ∙ same, refused)
serves-same g x y served.Ended p same s = s
serves-same g x y served.Stopped p same (r, one, number) = (r, one, number ∙ ap (λ z. z.number) same)
