-- How records come to run and to be done.
use Rattle.std.proofs.Common.{◌≡◌, ◌≢◌, ◌∙◌, ℕ, ◌+◌, ◌<◌, ◌≤◌, ◌==◌, Bool, true, false, cond, Option, Some, None, List, [], ◌∷◌, ◌++◌, refl, sym, ap, subst, arith}
use Rattle.std.specs.Prelude.{slice_get, slice_index}
use Rattle.record_core.specs.Counting.{Has, dropped}
use Rattle.kt_words.specs.declared.plan.Plan.{Plan}
use Rattle.kt_words.specs.declared.state_word.StateWord.{StateWord}
use Rattle.kt_words.specs.declared.phase.Phase.TheVariants.{Ready}
use Rattle.kt_words.specs.StateWords.{packed_state}
use Rattle.task_syntax.specs.declared.program.Program.{Program}
use Rattle.task_syntax.specs.declared.value.Priority.TheVariants.{Regular}
use Rattle.task_meaning.specs.Worths.{Accepted}
use Rattle.frame_code.specs.Names.{named}
use Rattle.frame_code.specs.Words.{body_at}
use Rattle.table_core.specs.Addresses.{units_of, state, head, sum}
use Rattle.table_core.specs.Holdings.{Run, Done}
use Rattle.table_core.specs.RecordViews.{is_done_at}
use Rattle.table_core.specs.Story.{Fact, Outcome, IsAccepted}
use Rattle.table_core.specs.Views.{saw}
use Rattle.table_core.specs.WaitViews.{is_run_at, new_done, close_in, closed_list, finished}
use Rattle.table_core.specs.declared.setup.Setup.{Setup}
use Rattle.table_core.specs.declared.view.View.{View}
use Rattle.schedule_rule.specs.Calls.{task_in}
use Rattle.schedule_rule.specs.DrawViews.{changed}
use Rattle.schedule_rule.specs.LifeViews.{knowing, ended, count_out, counted_out}
use Rattle.schedule_rule.specs.SoundViews.{SoundView}
use Rattle.schedule_rule.specs.TakingViews.{new_run, took, IsOfCall, IsTakenFrame}
use Rattle.step_table.specs.declared.pass.Pass.{Pass}
use Rattle.step_table.specs.declared.record_tokens.Started.{Started}
use Rattle.step_table.specs.declared.record_tokens.Finishing.{Finishing}
use Rattle.step_table.specs.ListHands.{IsUnclosed}
use Rattle.step_table.specs.LivingSteps.{MayCountOut}
use Rattle.step_table.specs.Lookups.{run_in, done_in, first_by}
use Rattle.step_table.specs.Passes.{view}
use Rattle.step_table.specs.RecordHands.{RunAt}
use Rattle.step_table.specs.TakingSteps.{TakesRecord}
use Rattle.step_table.proofs.LookupFacts.{run-there}
use Rattle.table_records.specs.Plain.{IsPlainKind, call_behind}
use Rattle.table_records.specs.Records.{Spawns}
use Rattle.table_records.proofs.PlainFacts.{taken-names}
use Rattle.table_records.proofs.RootFacts.{taken-call}
use Rattle.reference_rows.specs.Hands.{over_at, RunsAs, IsAlone, HasMaker, Settles, Runs, Dones}
use Rattle.reference_rows.proofs.HandFacts.{same-number}

-- the run of the first member is looked up by its unit
run-first : (u : ℕ) (run : Run) (l : List Run) → run.unit ≡ u → run_in u (run ∷ l) ≡ Some run
run-first u run l its = ap (λ (b : Bool). cond b (Some run) (run_in u l)) (ap (λ (x : ℕ). x == u) its ∙ same-number u)

-- and it is left out by its unit
run-out : (u : ℕ) (run : Run) (l : List Run) → run.unit ≡ u → dropped (is_run_at u) (run ∷ l) ≡ l
run-out u run l its = ap (λ (b : Bool). cond b l (run ∷ dropped (is_run_at u) l)) (ap (λ (x : ℕ). x == u) its ∙ same-number u)

module _ (g : Setup) (plain : IsPlainKind g.checked) (u n : ℕ) (ready : StateWord) (p1 p2 : Pass) (started : Started) (v0 : View)
    (made : Spawns g false u None v0 n (view p1)) (word : ready.number ≡ n) (took_it : TakesRecord g u ready p1 started p2) (sound : SoundView g (view p2)) where
  abbrev run : Run
  run = new_run u took_it.class ready.number (task_in (Some took_it.call) ready.number) took_it.words

  -- its call is behind none, as that of each record that the maker made ready
  call-is : took_it.call ≡ call_behind None
  call-is = taken-call g u n ready p1 p2 started took_it sound word (0, ap (λ (v : View). slice_get v.facts 0) made.view_is)

  -- a record that was made ready and taken runs
  pub runs : Runs g.plan started u v0 (view p2)
  runs = record {
    near = made.near;
    unit_is = took_it.unit_is;
    run = run;
    runs_as = record {
      near = subst (λ (x : ℕ). x < units_of g.plan) (sym took_it.unit_is) made.near;
      at = subst (λ (x : ℕ). RunAt g.plan x (view p2) run) (sym took_it.unit_is) (record { is_block = took_it.frame_is.block; there = ap (λ (v : View). run_in u v.runs) took_it.view_is ∙ run-first u run (view p1).runs refl });
      number_is = sym took_it.number_is;
      placed = refl;
    };
    runs_are = ap (λ (v : View). v.runs) took_it.view_is ∙ ap (λ (v : View). run ∷ v.runs) made.view_is;
    futures_are = ap (λ (v : View). v.futures) took_it.view_is ∙ ap (λ (l : List ℕ). l ++ (view p1).futures) none ∙ ap (λ (v : View). v.futures) made.view_is;
    done_is = ap (λ (v : View). v.done) took_it.view_is ∙ ap (λ (v : View). v.done) made.view_is;
  }
    where
      none : named g.checked (slice_index took_it.words) ≡ []
      none = taken-names g.checked plain (slice_index took_it.words) None (subst (λ (call : Accepted). IsOfCall call (body_at g.checked (slice_index took_it.words))) call-is took_it.frame_is.is_of)

-- the first of the done records has its list closed
close-first : (u : ℕ) (l : List Done) → close_in u (new_done u ∷ l) ≡ record { unit = u; closed = true; out = false } ∷ l
close-first u l = ap (λ (b : Bool). cond b (record { unit = u; closed = true; out = false } ∷ l) (new_done u ∷ close_in u l)) (same-number u)

-- a done record is looked up at the head
done-looked : (u : ℕ) (d : Done) (l : List Done) → d.unit ≡ u → done_in u (d ∷ l) ≡ Some d
done-looked u d l its = ap (λ (b : Bool). cond b (Some d) (done_in u l)) (ap (λ (x : ℕ). x == u) its ∙ same-number u)

module _ (g : Plan) (u c t a x : ℕ) (o : Outcome) (v0 v1 : View) (near : u < units_of g) (one : v1 ≡ saw (state u) a (ended t o (finished u c v0))) (its : x ≡ u) where
  -- the list of a record that ended just now may be closed
  pub may-close : IsUnclosed g x v1
  may-close = subst (λ (y : ℕ). IsUnclosed g y v1) (sym its) (new_done u, record { near = near; there = ap (λ (v : View). done_in u v.done) one ∙ done-looked u (new_done u) v0.done refl }, refl)

  -- and it may be counted out then
  pub may-out : (y b : ℕ) (members : List ℕ) (v2 : View) → y ≡ x → v2 ≡ saw (head x) b (closed_list x members v1) → MayCountOut g y v2
  may-out y b members v2 same two = subst (λ (z : ℕ). MayCountOut g z v2) (sym (same ∙ its)) (record {
    done = record { unit = u; closed = true; out = false };
    at = record { near = near; there = ap (done_in u) closed ∙ done-looked u (record { unit = u; closed = true; out = false }) v0.done refl };
    closed = refl;
    counted = refl;
  })
    where
      closed : v2.done ≡ record { unit = u; closed = true; out = false } ∷ v0.done
      closed = ap (λ (v : View). v.done) two ∙ ap (λ (v : View). close_in x v.done) one ∙ ap (λ (z : ℕ). close_in z (new_done u ∷ v0.done)) its ∙ close-first u v0.done

-- a record that ran and is settled is done, and the other runs stay
pub dones : (g : Plan) (started : Started) (finishing : Finishing) (u : ℕ) (v0 v1 v2 : View) → Runs g started u v0 v1 → finishing.unit ≡ started.unit → Settles started.unit v1 v2 → Dones finishing u v0 v2
dones g started finishing u v0 v1 v2 runs its settled = record {
  unit_is = its ∙ runs.unit_is;
  runs_are = settled.runs_are ∙ ap (dropped (is_run_at started.unit)) runs.runs_are ∙ run-out started.unit runs.run v0.runs (found runs.run (ap (run_in started.unit) (sym runs.runs_are) ∙ runs.runs_as.at.there));
  done_is = settled.done_is ∙ ap (λ (x : ℕ). over_at x ∷ v1.done) runs.unit_is ∙ ap (λ (l : List Done). over_at u ∷ l) runs.done_is;
  futures_are = settled.futures_are ∙ runs.futures_are;
}
  where
    found : (run : Run) → run_in started.unit (run ∷ v0.runs) ≡ Some run → run.unit ≡ started.unit
    found run e = (run-there started.unit (run ∷ v0.runs) run e).1

-- the pass that ran one record alone runs none once it is settled
pub none-left : (g : Plan) (started : Started) (v0 v1 : View) → IsAlone g started v0 → Settles started.unit v0 v1 → v1.runs ≡ []
none-left g started v0 v1 alone settled =
    settled.runs_are ∙ ap (dropped (is_run_at started.unit)) alone.2
    ∙ run-out started.unit alone.0 [] (run-there started.unit (alone.0 ∷ []) alone.0 (ap (run_in started.unit) (sym alone.2) ∙ alone.1.at.there)).1

-- the maker runs alone
pub maker-alone : (g : Setup) (maker : Started) (v : View) → HasMaker g maker v → IsAlone g.plan maker v
maker-alone g maker v has = let opened = has.opened in (opened.run, record { near = opened.near; at = opened.at; number_is = opened.number_is; placed = opened.placed }, opened.runs_are)
