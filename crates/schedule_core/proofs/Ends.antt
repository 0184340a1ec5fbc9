-- A completion as a whole.
use Rattle.std.proofs.Common.{◌≡◌, ◌∙◌, ℕ, ◌≤◌, Bool, true, false, cond, Some, List, [], ◌∷◌, refl, sym, ap, subst, arith}
use Rattle.std.proofs.lemmas.Bool.{eq-eqb}
use Rattle.std.proofs.lemmas.Option.{same_Some}
use Rattle.record_core.specs.Counting.{Has, times, dropped}
use Rattle.record_core.proofs.CountFacts.{times-some}
use Rattle.kt_words.specs.Capacity.{block_units}
use Rattle.frame_code.specs.Units.{named_in}
use Rattle.table_core.specs.Addresses.{Addr, head, state, outcome as result_word}
use Rattle.table_core.specs.Asking.{Answer, OfTask, IsLimit}
use Rattle.table_core.specs.Holdings.{Done, Run}
use Rattle.table_core.specs.Own.{known_in}
use Rattle.table_core.specs.RecordViews.{is_done_at, forget_words}
use Rattle.table_core.specs.Story.{Fact, IsOver}
use Rattle.table_core.specs.WaitViews.{is_run_at, new_done, close_in, with_chain}
use Rattle.table_core.specs.declared.setup.Setup.{Setup}
use Rattle.table_core.specs.declared.view.View.{View}
use Rattle.schedule_rule.specs.Frames.{BagSound}
use Rattle.schedule_rule.specs.LifeViews.{KnowsEnd, answers_left}
use Rattle.schedule_rule.specs.PlacingViews.{less}
use Rattle.schedule_rule.specs.SoundViews.{SoundView}
use Rattle.step_table.specs.Endings.{outcome_of}
use Rattle.step_table.specs.ListHands.{MayFinish}
use Rattle.step_table.specs.ListSteps.{Finishes, TakesList}
use Rattle.step_table.specs.Lookups.{run_in, done_in}
use Rattle.step_table.specs.Passes.{view}
use Rattle.step_table.specs.RecordHands.{DoneAt}
use Rattle.step_table.proofs.LookupFacts.{run-there}
use Rattle.step_table.specs.declared.ending.Ending.{Ending}
use Rattle.step_table.specs.declared.pass.Pass.{Pass}
use Rattle.step_table.specs.declared.record_tokens.Chain.{Chain}
use Rattle.step_table.specs.declared.record_tokens.Finishing.{Finishing}
use Rattle.schedule_core.specs.Completing.{outcome_as, with_result, WritesResult, WasRefused, MayComplete, MayClose, Closes, Completes}
use Rattle.schedule_core.specs.References.{MayDropEach, DropsEach}
use Rattle.schedule_core.specs.Runs.{IsInStep}
use Rattle.schedule_core.specs.declared.answers.Outcome.{Outcome}
use Rattle.schedule_core.specs.declared.answers.Outcome.TheVariants as ends
use Rattle.schedule_core.specs.declared.running.Running.{Running}
use Rattle.schedule_core.proofs.EachFacts.{grows-on}
use Rattle.schedule_core.proofs.NextReady.{chain-same}
use Rattle.schedule_core.proofs.TakenRuns.{run-sees}

module _ (g : Setup) (x : Running) (outcome : Outcome) (old written done_now closed given last : Pass) (finishing back : Finishing) (chain : Chain) (ending : Ending)
    (may : MayComplete g x outcome (view old)) (writes : WritesResult x.started.unit outcome (view old) (view written)) (ends_as : outcome_of ending ≡ outcome_as outcome) where
  abbrev u : ℕ
  u = x.started.unit

  abbrev s : IsInStep g x (view old)
  s = may.in_step

  abbrev r : Run
  r = s.run

  r-unit : r.unit ≡ u
  r-unit = (run-there u (view old).runs r s.at.there).1

  -- what a pass knows of the end
  knows : (o : Outcome) → o ≡ outcome → KnowsEnd (view written) r (outcome_as o)
  knows (ends.Number n) is = ap (λ (v : View). known_in (result_word r.unit) v.known) writes.view_is ∙ ap (λ (q : Outcome). known_in (result_word r.unit) (with_result u q (view old).known)) (sym is)
      ∙ ap (λ (b : Bool). cond b (Some n) (known_in (result_word r.unit) (view old).known)) (eq-eqb u r.unit (sym r-unit))
  knows (ends.Trapped trap) is = tt
  knows ends.RefusedNull is = refl
  knows ends.RefusedLimit is = (
    refl,
    subst (λ (t : ℕ). Has (record { asker = OfTask t; refusal = IsLimit }) (view written).answers) (sym s.task_is)
        (subst (λ l. Has (record { asker = OfTask x.task; refusal = IsLimit }) l) (sym (ap (λ (v : View). v.answers) writes.view_is)) (limit outcome (sym is) may.refused)),
  )
    where
      limit : (o : Outcome) → o ≡ ends.RefusedLimit → WasRefused o x (view old) → Has (record { asker = OfTask x.task; refusal = IsLimit }) (view old).answers
      limit o same was = (subst (λ (q : Outcome). WasRefused q x (view old)) same was).1

  pub may-finish : MayFinish g.plan x.started ending (view written)
  may-finish = record {
    run = r;
    at = run-sees g.plan u (view old) (view written) r s.at (ap (λ (v : View). v.runs) writes.view_is);
    number_is = s.number_is;
    placed = s.placed;
    knows = subst (KnowsEnd (view written) r) (sym ends_as) (knows outcome refl);
  }

  module _ (finishes : Finishes g.plan x.started ending written finishing done_now) where
    pub may-close_list : (d : Done) × DoneAt g.plan finishing.unit (view done_now) d × (d.closed ≡ false)
    may-close_list = (
      new_done u,
      record {
        near = omega (arith, s.at.is_block.inside, finishes.unit_is);
        there = ap (λ (v : View). done_in finishing.unit v.done) finishes.view_is ∙ ap (λ (b : Bool). cond b (Some (new_done u)) (done_in finishing.unit (view written).done)) (eq-eqb u finishing.unit (sym finishes.unit_is));
      },
      refl,
    )

    module _ (takes : TakesList g.plan finishing done_now (back, chain) closed) where
      abbrev f : ℕ
      f = finishing.unit

      abbrev the_done : Done
      the_done = record (new_done u) { closed = true }

      done-then : (view closed).done ≡ the_done ∷ (view written).done
      done-then = ap (λ (v : View). v.done) takes.view_is ∙ ap (λ (v : View). close_in f v.done) finishes.view_is
          ∙ ap (λ (b : Bool). cond b (the_done ∷ (view written).done) (new_done u ∷ close_in f (view written).done)) (eq-eqb u f (sym finishes.unit_is))

      pub may-close : MayClose g.plan back.unit (view closed)
      may-close = record {
        done = the_done;
        at = record {
          near = omega (arith, s.at.is_block.inside, finishes.unit_is, ap (λ (z : Finishing). z.unit) takes.same);
          there = ap (done_in back.unit) done-then ∙ ap (λ (b : Bool). cond b (Some the_done) (done_in back.unit (view written).done)) (eq-eqb u back.unit (sym (ap (λ (z : Finishing). z.unit) takes.same ∙ finishes.unit_is)));
        };
        closed = refl;
        counted = refl;
      }

      module _ (closes : Closes back.unit (view closed) (view given)) (units : List ℕ) (are : units ≡ named_in g.checked x.frame.items) (sound : SoundView g (view written)) where
        futures-are : (view given).futures ≡ (view old).futures
        futures-are = ap (λ (v : View). v.futures) closes.view_is ∙ ap (λ (v : View). v.futures) takes.view_is ∙ ap (λ (v : View). v.futures) finishes.view_is ∙ ap (λ (v : View). v.futures) writes.view_is

        same_run : finishes.run ≡ r
        same_run = same_Some finishes.run r (sym finishes.was.there ∙ ap (λ (v : View). run_in u v.runs) writes.view_is ∙ s.at.there)

        runs-are : (view given).runs ≡ dropped (is_run_at u) (view old).runs
        runs-are = ap (λ (v : View). v.runs) closes.view_is ∙ ap (λ (v : View). v.runs) takes.view_is ∙ ap (λ (v : View). v.runs) finishes.view_is ∙ ap (λ (v : View). dropped (is_run_at u) v.runs) writes.view_is

        pub may-drop : MayDropEach g units (view given)
        may-drop = subst (λ (l : List ℕ). MayDropEach g l (view given)) (sym are) (record {
          near = λ k y at.
              let some : 1 ≤ times y (view written).futures = omega (arith, (times-some y (named_in g.checked x.frame.items)).1 (k, at), s.spare.there y, ap (λ (v : View). times y v.futures) writes.view_is) in
              let has = (times-some y (view written).futures).0 some in
              sound.records.near has.0 y has.1;
          there = λ w. omega (arith, s.spare.there w, ap (λ (l : List ℕ). times w l) futures-are);
          bag = subst (BagSound g.checked) (λ k. record { futures = less (sym futures-are k) (named_in g.checked x.frame.items); runs = sym runs-are k }) s.spare.bag;
        })

        pub completes : DropsEach units (view given) (view last) → Completes g x outcome (view old) chain (view last)
        completes drops = record {
          run = r;
          was = s.at;
          members = takes.members;
          has = chain-same g.plan chain (view closed) (view last) takes.members (ap (λ (v : View). v.chains) drops.view_is ∙ ap (λ (v : View). v.chains) closes.view_is) takes.has;
          settles = grows-on (view old).settles (view given).settles (view last).settles
              (grows-on (view old).settles (view closed).settles (view given).settles
              ([], ap (λ (v : View). v.settles) takes.view_is ∙ ap (λ (v : View). v.settles) finishes.view_is ∙ ap (λ (v : View). v.settles) writes.view_is)
              closes.settles)
              drops.settles;
          seen = grows-on (view old).seen (view written).seen (view last).seen writes.seen
              (grows-on (view written).seen (view done_now).seen (view last).seen ((state u, finishes.found) ∷ [], ap (λ (v : View). v.seen) finishes.view_is)
              (grows-on (view done_now).seen (view closed).seen (view last).seen ((head f, takes.word) ∷ [], ap (λ (v : View). v.seen) takes.view_is)
              (grows-on (view closed).seen (view given).seen (view last).seen closes.seen drops.seen)));
          view_is = drops.view_is
              ∙ (λ k. record (closes.view_is k) { futures = futures_then; sights = (view last).sights; settles = (view last).settles; seen = (view last).seen })
              ∙ (λ k. record (takes.view_is k) { done = done_then'; futures = futures_then; sights = (view last).sights; settles = (view last).settles; seen = (view last).seen })
              ∙ (λ k. record (finishes.view_is k) {
                done = done_then';
                chains = chains_then;
                futures = futures_then;
                sights = (view last).sights;
                settles = (view last).settles;
                seen = (view last).seen;
              })
              ∙ (λ k. record (writes.view_is k) {
                done = done_then';
                chains = chains_then;
                runs = runs_then;
                known = known_then;
                answers = answers_then;
                facts = facts_then;
                futures = futures_then;
                sights = (view last).sights;
                settles = (view last).settles;
                seen = (view last).seen;
              })
              ∙ (λ k. record (view old) {
                done = done_are k;
                chains = chains_are k;
                runs = runs_are k;
                known = known_are k;
                answers = answers_are k;
                facts = facts_are k;
                futures = all_futures k;
                sights = (view last).sights;
                settles = (view last).settles;
                seen = (view last).seen;
              });
        }
          where
            futures_then : List ℕ
            futures_then = less (view given).futures units

            done_then' : List Done
            done_then' = dropped (is_done_at back.unit) (view closed).done

            chains_then : List (List ℕ)
            chains_then = with_chain takes.members (view done_now).chains

            runs_then : List Run
            runs_then = dropped (is_run_at u) (view written).runs

            known_then : List (Addr × ℕ)
            known_then = forget_words u (block_units (finishes.run).class) (view written).known

            answers_then : List Answer
            answers_then = answers_left (finishes.run).task (view written).answers

            facts_then : List Fact
            facts_then = IsOver (finishes.run).task (outcome_of ending) ∷ (view written).facts

            done_are : done_then' ≡ (view old).done
            done_are = ap (dropped (is_done_at back.unit)) done-then
                ∙ ap (λ (b : Bool). cond b (view written).done (the_done ∷ dropped (is_done_at back.unit) (view written).done)) (eq-eqb u back.unit (sym (ap (λ (z : Finishing). z.unit) takes.same ∙ finishes.unit_is)))
                ∙ ap (λ (v : View). v.done) writes.view_is

            chains_are : chains_then ≡ with_chain takes.members (view old).chains
            chains_are = ap (λ (v : View). with_chain takes.members v.chains) finishes.view_is ∙ ap (λ (v : View). with_chain takes.members v.chains) writes.view_is

            runs_are : runs_then ≡ dropped (is_run_at u) (view old).runs
            runs_are = ap (λ (v : View). dropped (is_run_at u) v.runs) writes.view_is

            forgets : (o : Outcome) (c : ℕ) → forget_words u (block_units c) (with_result u o (view old).known) ≡ forget_words u (block_units c) (view old).known
            forgets (ends.Number n) c = ap (λ (b : Bool). cond b (forget_words u (block_units c) (view old).known) ((result_word u, n) ∷ forget_words u (block_units c) (view old).known)) (eq-eqb u u refl)
            forgets (ends.Trapped trap) c = refl
            forgets ends.RefusedNull c = refl
            forgets ends.RefusedLimit c = refl

            known_are : known_then ≡ forget_words u (block_units r.class) (view old).known
            known_are = ap (λ (v : View). forget_words u (block_units (finishes.run).class) v.known) writes.view_is
                ∙ ap (λ (q : Run). forget_words u (block_units q.class) (with_result u outcome (view old).known)) same_run ∙ forgets outcome r.class

            answers_are : answers_then ≡ answers_left x.task (view old).answers
            answers_are = ap (λ (v : View). answers_left (finishes.run).task v.answers) writes.view_is ∙ ap (λ (t : ℕ). answers_left t (view old).answers) (ap (λ (q : Run). q.task) same_run ∙ s.task_is)

            facts_are : facts_then ≡ IsOver x.task (outcome_as outcome) ∷ (view old).facts
            facts_are = (λ k. IsOver ((ap (λ (q : Run). q.task) same_run ∙ s.task_is) k) (ends_as k) ∷ (writes.view_is k).facts)

            all_futures : futures_then ≡ less (view old).futures (named_in g.checked x.frame.items)
            all_futures = (λ k. less (futures-are k) (are k))
