-- What the calls of the scheduler leave in the hand of a worker's pass.
use Rattle.std.proofs.Common.{◌≡◌, ◌∙◌, ℕ, Bool, true, false, cond, Some, None, List, [], ◌∷◌, refl, sym, ap, subst, append-nil, arith}
use Rattle.std.proofs.lemmas.Bool.{eq-eqb}
use Rattle.std.proofs.lemmas.Option.{none-some}
use Rattle.record_core.specs.Counting.{times, dropped}
use Rattle.frame_code.specs.Units.{named_in}
use Rattle.table_core.specs.Asking.{Answer, OfTask, IsLimit}
use Rattle.table_core.specs.Holdings.{Run}
use Rattle.table_core.specs.Views.{IsIdle}
use Rattle.table_core.specs.WaitViews.{is_run_at}
use Rattle.table_core.specs.declared.setup.Setup.{Setup}
use Rattle.table_core.specs.declared.view.View.{View}
use Rattle.schedule_rule.specs.DrawViews.{changed}
use Rattle.schedule_rule.specs.Frames.{BagSound}
use Rattle.schedule_rule.specs.LifeViews.{answers_left}
use Rattle.schedule_rule.specs.PlacingViews.{less}
use Rattle.step_table.specs.Lookups.{run_in}
use Rattle.step_table.specs.Passes.{IsSameWith}
use Rattle.step_table.specs.declared.pass.Pass.{Pass}
use Rattle.schedule_core.specs.FrameWords.{OnlySees}
use Rattle.schedule_core.specs.Runs.{IsInStep}
use Rattle.schedule_core.specs.declared.running.Running.{Running}
use Rattle.schedule_core.proofs.LessFacts.{less-front}
use Rattle.worker_loop.specs.Working.{Others, others, no_others, RunsAlone, GoesOn}

-- a pass that goes on twice goes on
pub goes-then : (a b c : Pass) → GoesOn a b → GoesOn b c → GoesOn a c
goes-then a b c first second = record {
  table = second.table ∙ first.table;
  id = second.id ∙ first.id;
  splits = second.splits ∙ first.splits;
  number = second.number ∙ first.number;
}

pub goes-self : (a : Pass) → GoesOn a a
goes-self a = record { table = refl; id = refl; splits = refl; number = refl }

pub same-goes : (held : ℕ) (a b : Pass) → IsSameWith held a b → GoesOn a b
same-goes held a b same = record { table = same.table; id = same.id; splits = same.splits; number = same.number }

-- of an idle pass, and of one that is
pub others-idle : (v : View) → IsIdle v → others v ≡ no_others
others-idle v (idle, blocks) = λ k. record {
  reserved = idle.reserved k;
  blocks = blocks k;
  debts = idle.debts k;
  made = idle.made k;
  waiting = idle.waiting k;
  done = idle.done k;
  retiring = idle.retiring k;
  drawn = idle.drawn k;
  no_task = idle.no_task k;
  no_after = idle.no_after k;
  stamps = idle.stamps k;
  unwritten = idle.unwritten k;
}

pub idle-of : (v : View) → others v ≡ no_others → v.runs ≡ [] → v.futures ≡ [] → v.chains ≡ [] → v.answers ≡ [] → IsIdle v
idle-of v none runs futures chains answers = (
  record {
    reserved = ap (λ (o : Others). o.reserved) none;
    debts = ap (λ (o : Others). o.debts) none;
    futures = futures;
    made = ap (λ (o : Others). o.made) none;
    waiting = ap (λ (o : Others). o.waiting) none;
    runs = runs;
    done = ap (λ (o : Others). o.done) none;
    retiring = ap (λ (o : Others). o.retiring) none;
    chains = chains;
    drawn = ap (λ (o : Others). o.drawn) none;
    no_task = ap (λ (o : Others). o.no_task) none;
    no_after = ap (λ (o : Others). o.no_after) none;
    stamps = ap (λ (o : Others). o.stamps) none;
    unwritten = ap (λ (o : Others). o.unwritten) none;
    answers = answers;
  },
  ap (λ (o : Others). o.blocks) none,
)

-- one run stays one
pub changed-one : (p : Run → Bool) (f : Run → Run) (runs : List Run) → (r : Run) × (runs ≡ r ∷ []) → (s : Run) × (changed p f runs ≡ s ∷ [])
changed-one p f runs (r, is) = by (p r) refl
  where
    by : (b : Bool) → p r ≡ b → (s : Run) × (changed p f runs ≡ s ∷ [])
    by true e = (f r, ap (changed p f) is ∙ ap (λ (b : Bool). cond b (f r ∷ []) (r ∷ [])) e)
    by false e = (r, ap (changed p f) is ∙ ap (λ (b : Bool). cond b (f r ∷ []) (r ∷ [])) e)

-- without it there is none
pub dropped-run : (u : ℕ) (runs : List Run) (s : Run) → (r : Run) × (runs ≡ r ∷ []) → run_in u runs ≡ Some s → dropped (is_run_at u) runs ≡ []
dropped-run u runs s (r, is) there = by (is_run_at u r) refl (ap (run_in u) (sym is) ∙ there)
  where
    by : (b : Bool) → is_run_at u r ≡ b → run_in u (r ∷ []) ≡ Some s → dropped (is_run_at u) runs ≡ []
    by true e found = ap (dropped (is_run_at u)) is ∙ ap (λ (b : Bool). cond b [] (r ∷ [])) e
    by false e found = absurd (none-some s (ap (λ (b : Bool). cond b (Some r) None) (sym e) ∙ found))

-- nothing is left where all that is there is given up
pub less-all : (l names : List ℕ) → ((w : ℕ) → times w l ≡ times w names) → less l names ≡ []
less-all l names same = ap (λ (k : List ℕ). less k names) (sym (append-nil l)) ∙ less-front l names [] same

-- a task is in step where neither its run nor the references have changed
pub in-step-like : (g : Setup) (x : Running) (v w : View) → IsInStep g x v → w.runs ≡ v.runs → w.futures ≡ v.futures → IsInStep g x w
in-step-like g x v w s runs futures = record {
  run = s.run;
  at = record { is_block = s.at.is_block; there = ap (run_in x.started.unit) runs ∙ s.at.there };
  number_is = s.number_is;
  task_is = s.task_is;
  placed = s.placed;
  unasked = s.unasked;
  frame = s.frame;
  way = s.way;
  names = s.names;
  same = s.same;
  spare = record {
    there = λ z. omega (arith, s.spare.there z, ap (times z) futures);
    bag = subst (BagSound g.checked) (λ k. record { futures = less (sym futures k) (named_in g.checked x.frame.items); runs = dropped (is_run_at x.started.unit) (sym runs k) }) s.spare.bag;
  };
}

pub alone-sees : (g : Setup) (x : Running) (units : List ℕ) (v w : View) → RunsAlone g x units v → OnlySees v w → RunsAlone g x units w
alone-sees g x units v w a sees = record {
  in_step = in-step-like g x v w a.in_step (ap (λ (z : View). z.runs) sees.view_is) (ap (λ (z : View). z.futures) sees.view_is);
  one = (a.one.0, ap (λ (z : View). z.runs) sees.view_is ∙ a.one.1);
  none = ap others sees.view_is ∙ a.none;
  chains = ap (λ (z : View). z.chains) sees.view_is ∙ a.chains;
  bag = λ z. omega (arith, ap (λ (y : View). times z y.futures) sees.view_is, a.bag z);
  answers = ap (λ (z : View). answers_left x.task z.answers) sees.view_is ∙ a.answers;
}

-- that the limit is met is answered to the task alone
pub answered-alone : (t : ℕ) (answers : List Answer) → answers_left t answers ≡ [] → answers_left t (record { asker = OfTask t; refusal = IsLimit } ∷ answers) ≡ []
answered-alone t answers none = ap (λ (b : Bool). cond b (answers_left t answers) (record { asker = OfTask t; refusal = IsLimit } ∷ answers_left t answers)) (eq-eqb t t refl) ∙ none

pub idle-sees : (v w : View) → IsIdle v → OnlySees v w → IsIdle w
idle-sees v w idle sees = idle-of w (ap others sees.view_is ∙ others-idle v idle) (ap (λ (z : View). z.runs) sees.view_is ∙ idle.0.runs) (ap (λ (z : View). z.futures) sees.view_is ∙ idle.0.futures)
    (ap (λ (z : View). z.chains) sees.view_is ∙ idle.0.chains) (ap (λ (z : View). z.answers) sees.view_is ∙ idle.0.answers)
