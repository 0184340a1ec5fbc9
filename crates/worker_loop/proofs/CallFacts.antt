-- What the calls of the scheduler leave of a task that a worker runs.
use Rattle.std.proofs.Common.{◌≡◌, ◌∙◌, ◌⊎◌, inl, inr, ℕ, ◌+◌, ◌==◌, Option, Some, None, List, [], ◌∷◌, refl, sym, ap, subst, arith}
use Rattle.std.specs.Option.{option_to_list}
use Rattle.std.specs.Prelude.{slice_get, slice_index}
use Rattle.record_core.specs.Counting.{Has, times, one_if}
use Rattle.record_core.specs.declared.rows.CutTag.TheVariants as cut
use Rattle.record_core.proofs.TotalFacts.{total-append}
use Rattle.frame_code.specs.Names.{names_of, named}
use Rattle.frame_code.specs.Units.{named_in}
use Rattle.frame_code.specs.Words.{BodyOf}
use Rattle.ready_queues.specs.declared.entry.Entry.{Entry}
use Rattle.table_core.specs.Asking.{Answer, OfTask, IsLimit}
use Rattle.table_core.specs.Views.{IsIdle}
use Rattle.table_core.specs.WaitViews.{is_run_at}
use Rattle.table_core.specs.declared.setup.Setup.{Setup}
use Rattle.table_core.specs.declared.view.View.{View}
use Rattle.task_syntax.specs.declared.value.Priority.{Priority}
use Rattle.schedule_rule.specs.Calls.{task_in}
use Rattle.schedule_rule.specs.DrawViews.{changed}
use Rattle.schedule_rule.specs.LifeViews.{answers_left, with_words}
use Rattle.schedule_rule.specs.TakingViews.{new_run}
use Rattle.table_core.specs.Holdings.{Run}
use Rattle.schedule_rule.proofs.FrontFacts.{front-says}
use Rattle.memory_pool.specs.Answers.{Refuses}
use Rattle.schedule_core.specs.Begins.{MetLimit}
use Rattle.schedule_core.specs.Completing.{WasRefused}
use Rattle.schedule_core.specs.declared.answers.Outcome.TheVariants.{RefusedLimit}
use Rattle.schedule_core.specs.FrameWords.{OnlySees}
use Rattle.schedule_core.specs.Moves.{GoesPast, RunsOn, unmade}
use Rattle.schedule_core.specs.Respawning.{HasRespawned, IsLimited}
use Rattle.schedule_core.specs.Runs.{IsInStep}
use Rattle.schedule_core.specs.NewTasks.{asking_of}
use Rattle.schedule_core.proofs.SpawnBlocks.{answered-in-step}
use Rattle.schedule_core.specs.Taking.{TakesRun}
use Rattle.schedule_core.specs.declared.running.Running.{Running}
use Rattle.frame_code.specs.declared.act.Act.{Act}
use Rattle.worker_loop.specs.Working.{others, RunsAlone}
use Rattle.worker_loop.proofs.HandFacts.{others-idle, idle-of, changed-one, dropped-run, less-all, answered-alone}

-- an entry that was published has changed nothing in the hand
pub publishes-sees : {P Q S : Type 0} (old new : View) → (P × (new ≡ old)) ⊎ (Q × (S × OnlySees old new)) → OnlySees old new
publishes-sees old new (inl (pushed, is)) = record { seen = ([], ap (λ (v : View). v.seen) is); view_is = is ∙ (λ k. record old { seen = (sym is k).seen }) }
publishes-sees old new (inr (full, (told, sees))) = sees

-- the frame of a run that was taken names what its words name
taken-names : (g : Setup) (u n : ℕ) (priority : Priority) (old : View) (x : Running) (new : View) (t : TakesRun g u n priority old x new) → named_in g.checked x.frame.items ≡ named g.checked (slice_index t.words)
taken-names g u n priority old x new t = ap (λ (l : List ℕ). named_in g.checked l) t.is_front ∙ ap names_of (front-says g.checked (slice_index t.words))

-- a task that an idle pass took is all that it has
pub taken-alone : (g : Setup) (u n : ℕ) (priority : Priority) (old : View) (x : Running) (new : View) → IsIdle old → TakesRun g u n priority old x new → RunsAlone g x [] new
taken-alone g u n priority old x new idle t = record {
  in_step = t.in_step;
  one = (
    new_run u t.class n (task_in (Some t.call) n) t.words,
    ap (λ (v : View). v.runs) t.view_is ∙ ap (λ (l : List Run). new_run u t.class n (task_in (Some t.call) n) t.words ∷ l) idle.0.runs,
  );
  none = ap others t.view_is ∙ others-idle old idle;
  chains = ap (λ (v : View). v.chains) t.view_is ∙ idle.0.chains;
  bag = λ w. omega (
    arith,
    ap (λ (v : View). times w v.futures) t.view_is,
    total-append (λ (z : ℕ). one_if (z == w)) (named g.checked (slice_index t.words)) old.futures,
    ap (times w) idle.0.futures,
    ap (times w) (taken-names g u n priority old x new t),
  );
  answers = ap (λ (v : View). answers_left x.task v.answers) t.view_is ∙ ap (answers_left x.task) idle.0.answers;
}

-- it goes on along its lines
pub advanced-alone : (g : Setup) (x : Running) (v : View) (asked : Act) (y : Running) → RunsAlone g x [] v → RunsOn g x v asked y → RunsAlone g y [] v
advanced-alone g x v asked y a on = record {
  in_step = on.in_step;
  one = a.one;
  none = a.none;
  chains = a.chains;
  bag = λ w. omega (arith, a.bag w, ap (times w) on.names);
  answers = ap (λ (z : Running). answers_left z.task v.answers) on.moved ∙ a.answers;
}

-- where it has a new task, the pass has a reference to that one besides
pub new-alone : (g : Setup) (x y : Running) (unit : ℕ) (words : List ℕ) (old new : View) → RunsAlone g x [] old → others new ≡ others old → new.chains ≡ old.chains → new.answers ≡ old.answers → new.futures ≡ unit ∷ old.futures
    → new.runs ≡ changed (is_run_at x.started.unit) (with_words words) old.runs → y ≡ record x { refused = y.refused; made = y.made } → IsInStep g y new → RunsAlone g y (unit ∷ []) new
new-alone g x y unit words old new a none chains answers futures runs is s = record {
  in_step = s;
  one = let c = changed-one (is_run_at x.started.unit) (with_words words) old.runs a.one in (c.0, runs ∙ c.1);
  none = none ∙ a.none;
  chains = chains ∙ a.chains;
  bag = λ w. omega (arith, ap (times w) futures, a.bag w, ap (λ (z : Running). times w (named_in g.checked z.frame.items)) is);
  answers = ap (λ (z : Running). answers_left z.task new.answers) is ∙ ap (answers_left x.task) answers ∙ a.answers;
}

-- where the pool had no block, it is all that the pass has still
pub null-alone : (g : Setup) (class : ℕ) (x y : Running) (old new : View) → RunsAlone g x [] old → Refuses g.plan class old new → y ≡ record x { refused = y.refused; made = y.made } → IsInStep g y new → RunsAlone g y [] new
null-alone g class x y old new a has is s = record {
  in_step = s;
  one = (a.one.0, ap (λ (v : View). v.runs) has.stays ∙ a.one.1);
  none = ap others has.stays ∙ a.none;
  chains = ap (λ (v : View). v.chains) has.stays ∙ a.chains;
  bag = λ w. omega (arith, ap (λ (v : View). times w v.futures) has.stays, a.bag w, ap (λ (z : Running). times w (named_in g.checked z.frame.items)) is);
  answers = ap (λ (z : Running). answers_left z.task new.answers) is ∙ ap (λ (v : View). answers_left x.task v.answers) has.stays ∙ a.answers;
}

-- and where the limit was met, it was told so
pub met-alone : (g : Setup) (class : ℕ) (x y : Running) (old new : View) → RunsAlone g x [] old → MetLimit g class (asking_of x) old new → y ≡ record x { refused = y.refused; made = y.made } → IsInStep g y new → RunsAlone g y [] new
met-alone g class x y old new a has is s = record {
  in_step = s;
  one = let c = changed-one (is_run_at x.started.unit) (with_words x.frame.items) old.runs a.one in (c.0, ap (λ (v : View). v.runs) has.view_is ∙ c.1);
  none = ap others has.view_is ∙ a.none;
  chains = ap (λ (v : View). v.chains) has.view_is ∙ a.chains;
  bag = λ w. omega (arith, ap (λ (v : View). times w v.futures) has.view_is, a.bag w, ap (λ (z : Running). times w (named_in g.checked z.frame.items)) is);
  answers = ap (λ (z : Running). answers_left z.task new.answers) is ∙ ap (λ (v : View). answers_left x.task v.answers) has.view_is ∙ answered-alone x.task old.answers a.answers;
}

pub met-refused : (g : Setup) (class : ℕ) (x y : Running) (old new : View) → MetLimit g class (asking_of x) old new → y ≡ record x { refused = Some cut.Limit; made = y.made } → WasRefused RefusedLimit y new
met-refused g class x y old new has is = (
  ap (λ (z : Running). z.refused) is,
  subst (λ (l : List Answer). Has (record { asker = OfTask y.task; refusal = IsLimit }) l) (sym (ap (λ (v : View). v.answers) has.view_is)) (0, ap (λ (z : Running). Some (record { asker = OfTask z.task; refusal = IsLimit })) (sym is)),
)

-- a task that goes past an act has just the references that its frame names then
pub past-alone : (g : Setup) (x y : Running) (body : BodyOf ℕ) (came given left units : List ℕ) (old new : View) → RunsAlone g x units old → GoesPast g x body came given left old y new
    → ((w : ℕ) → times w units + times w given ≡ times w came) → RunsAlone g y [] new
past-alone g x y body came given left units old new a past balanced = record {
  in_step = past.in_step;
  one = let c = changed-one (is_run_at x.started.unit) (with_words y.frame.items) old.runs a.one in (c.0, ap (λ (v : View). v.runs) past.view_is ∙ c.1);
  none = ap others past.view_is ∙ a.none;
  chains = ap (λ (v : View). v.chains) past.view_is ∙ a.chains;
  bag = λ w. omega (arith, past.referred w, past.names w, a.bag w, balanced w);
  answers = ap (λ (z : Running). answers_left z.task new.answers) past.moved ∙ ap (λ (v : View). answers_left x.task v.answers) past.view_is ∙ a.answers;
}

-- where the task's next activation was placed, the pass is idle
pub respawned-idle : (g : Setup) (x : Running) (wanted : Option ℕ) (priority : Priority) (IsNext : List ℕ → Type 0) (old : View) (told : Option Entry) (new : View) → RunsAlone g x [] old → HasRespawned g x wanted priority IsNext old told new → IsIdle new
respawned-idle g x wanted priority IsNext old told new a has = idle-of new (ap others has.view_is ∙ a.none)
    (ap (λ (v : View). v.runs) has.view_is ∙ dropped-run x.started.unit old.runs a.in_step.run a.one a.in_step.at.there)
    (ap (λ (v : View). v.futures) has.view_is ∙ less-all old.futures (named_in g.checked x.frame.items) (λ w. omega (arith, a.bag w)))
    (ap (λ (v : View). v.chains) has.view_is ∙ a.chains)
    (ap (λ (v : View). v.answers) has.view_is ∙ a.answers)

-- and where the limit was met, the task was told so
pub limited-alone : (g : Setup) (x : Running) (old : View) (back : Running) (new : View) → RunsAlone g x [] old → IsLimited g x old back new → RunsAlone g back [] new × WasRefused RefusedLimit back new
limited-alone g x old back new a has = (
  record {
    in_step = has.in_step;
    one = (a.one.0, ap (λ (v : View). v.runs) has.met.view_is ∙ a.one.1);
    none = ap others has.met.view_is ∙ a.none;
    chains = ap (λ (v : View). v.chains) has.met.view_is ∙ a.chains;
    bag = λ w. omega (arith, ap (λ (v : View). times w v.futures) has.met.view_is, a.bag w, ap (λ (z : Running). times w (named_in g.checked z.frame.items)) has.back_is);
    answers = ap (λ (z : Running). answers_left z.task new.answers) has.back_is ∙ ap (λ (v : View). answers_left x.task v.answers) has.met.view_is ∙ answered-alone x.task old.answers a.answers;
  },
  (
    ap (λ (z : Running). z.refused) has.back_is,
    subst (λ (l : List Answer). Has (record { asker = OfTask back.task; refusal = IsLimit }) l) (sym (ap (λ (v : View). v.answers) has.met.view_is))
        (0, ap (λ (z : Running). Some (record { asker = OfTask z.task; refusal = IsLimit })) (sym has.back_is)),
  ),
)

-- that its variable names the new task changes nothing in the hand
pub alone-unmade : (g : Setup) (x : Running) (units : List ℕ) (v : View) → RunsAlone g x units v → RunsAlone g (unmade x) units v
alone-unmade g x units v a = record {
  in_step = answered-in-step g x (unmade x) v refl a.in_step;
  one = a.one;
  none = a.none;
  chains = a.chains;
  bag = a.bag;
  answers = a.answers;
}

-- what was made for a task is in a list, if anything was
pub none-made : (made : Option ℕ) → option_to_list made ≡ [] → made ≡ None
none-made None is = refl
none-made (Some u) is = cc

pub one-made : (made : Option ℕ) (unit : ℕ) → option_to_list made ≡ unit ∷ [] → made ≡ Some unit
one-made None unit is = cc
one-made (Some u) unit is = ap (λ (l : List ℕ). slice_get l 0) is
