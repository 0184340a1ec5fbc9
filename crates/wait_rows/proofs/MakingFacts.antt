-- What a record that is made leaves of a hand.
use Rattle.std.proofs.Common.{◌≡◌, ◌≢◌, ◌∙◌, ◌⊎◌, inl, inr, ℕ, zero, suc, ◌+◌, ◌<◌, ◌≤◌, ◌==◌, Bool, true, false, cond, Some, None, List, [], ◌∷◌, ◌++◌, length, refl, sym, ap, subst, arith}
use Rattle.std.specs.Prelude.{slice_index}
use Rattle.std.proofs.lemmas.Bool.{eq-eqb, ne_eqb}
use Rattle.record_core.specs.Counting.{At, Has, one_if, passing, times}
use Rattle.record_core.proofs.TotalFacts.{none_there, total-append}
use Rattle.kt_words.specs.declared.plan.Plan.{Plan}
use Rattle.kt_words.specs.declared.state_word.StateWord.{StateWord}
use Rattle.task_syntax.specs.declared.value.Priority.TheVariants.{Regular}
use Rattle.frame_code.specs.Names.{named}
use Rattle.table_core.specs.Addresses.{units_of}
use Rattle.table_core.specs.Holdings.{Waiter, Run, Sight, SawTask, seen_at}
use Rattle.table_core.specs.Own.{runs_at}
use Rattle.table_core.specs.Story.{IsAccepted}
use Rattle.table_core.specs.WaitLists.{waits_at}
use Rattle.table_core.specs.WaitViews.{is_run_at, new_waiter}
use Rattle.table_core.specs.declared.setup.Setup.{Setup}
use Rattle.table_core.specs.declared.view.View.{View}
use Rattle.table_core.proofs.BagFacts.{one-here}
use Rattle.table_core.proofs.ListFacts.{same_some}
use Rattle.schedule_rule.specs.Calls.{task_in}
use Rattle.schedule_rule.specs.LifeViews.{KnowsBehind}
use Rattle.schedule_rule.specs.PlacingViews.{kept_sights}
use Rattle.schedule_rule.specs.SoundViews.{SoundView, IsUpTo}
use Rattle.schedule_rule.specs.TakingViews.{new_run}
use Rattle.step_table.specs.declared.pass.Pass.{Pass}
use Rattle.step_table.specs.declared.record_tokens.Linkable.{Linkable}
use Rattle.step_table.specs.declared.record_tokens.Started.{Started}
use Rattle.step_table.specs.Lookups.{first_by, run_in}
use Rattle.step_table.specs.Passes.{view}
use Rattle.step_table.specs.RecordHands.{HasFuture}
use Rattle.step_table.specs.PlacingSteps.{word_placed}
use Rattle.step_table.specs.SeeingSteps.{IsReadyWord}
use Rattle.step_table.specs.TakingSteps.{TakesRecord}
use Rattle.wait_lists.proofs.JoinFacts.{has-behind}
use Rattle.table_records.specs.Makers.{IsMaker}
use Rattle.table_records.specs.Plain.{call_behind}
use Rattle.table_records.specs.Records.{Spawns}
use Rattle.wait_rows.specs.declared.stage.Owner.{Owner}
use Rattle.wait_rows.specs.declared.stage.Stage.{Stage}
use Rattle.wait_rows.specs.declared.stage.Stage.TheVariants as stage
use Rattle.wait_rows.specs.declared.stage.Waiting.{Waiting}
use Rattle.wait_rows.specs.Hands.{RunsAt, StandsAs, JoinsList, HasWaiters, HasHand}
use Rattle.wait_rows.specs.Making.{Still, Runs, IsRunningStage, AllRun}
use Rattle.wait_rows.proofs.FoundFacts.{at-before, at-some, at-front, times-last, times-at}
use Rattle.wait_rows.proofs.HandFacts.{knows-still, waiters-still, still-refers, lists-still, holds-all}

-- a sight of a record to which there is a reference is kept
pub has-kept : (futures : List ℕ) (l : List Sight) (k : ℕ) (s : Sight) → At l k s → 1 ≤ times (seen_at s) futures → Has s (kept_sights futures l)
has-kept futures [] k s at some = absurd (none_there s at)
has-kept futures (x ∷ l) zero s at some =
    let same : x ≡ s = same_some x s at in
    let held : times (seen_at x) futures ≢ 0 = λ e. omega (arith, some, ap (λ (q : Sight). times (seen_at q) futures) same, e) in
    subst (λ (b : Bool). Has s (cond b (kept_sights futures l) (x ∷ kept_sights futures l))) (sym (ne_eqb (times (seen_at x) futures) 0 held)) (0, at)
has-kept futures (x ∷ l) (suc k) s at some = by (times (seen_at x) futures == 0) (has-kept futures l k s at some)
  where
    by : (b : Bool) → Has s (kept_sights futures l) → Has s (cond b (kept_sights futures l) (x ∷ kept_sights futures l))
    by true has = has
    by false has = (suc has.0, has.1)

module _ {A : Type 0} where
  -- one that is found is counted
  pub found-counted : (p : A → Bool) (l : List A) (x : A) → first_by p l ≡ Some x → 1 ≤ passing p l
  found-counted p [] x e = absurd (none_there x e)
  found-counted p (y ∷ l) x e = by (p y) e (found-counted p l x)
    where
      by : (b : Bool) → cond b (Some y) (first_by p l) ≡ Some x → (first_by p l ≡ Some x → 1 ≤ passing p l) → 1 ≤ one_if b + passing p l
      by true e later = omega arith
      by false e later = let rest = later e in omega (arith, rest)

  -- a member is one of those before, or the one that came after all
  pub last-cases : (l : List A) (x : A) (k : ℕ) (y : A) → At (l ++ x ∷ []) k y → At l k y ⊎ ((k ≡ length l) × (y ≡ x))
  last-cases [] x zero y at = inr (refl, sym (same_some x y at))
  last-cases [] x (suc k) y at = absurd (none_there y at)
  last-cases (z ∷ l) x zero y at = inl at
  last-cases (z ∷ l) x (suc k) y at = elim (last-cases l x k y at) [ inl t ↦ inl t | inr t ↦ inr (ap suc t.0, t.1) ]

  pub length-last : (l : List A) (x : A) → length (l ++ x ∷ []) ≡ length l + 1
  length-last [] x = refl
  length-last (y ∷ l) x = let rest = length-last l x in omega (arith, rest)

-- a waiter is counted at its unit
pub waits-there : (l : List Waiter) (k : ℕ) (x : Waiter) → At l k x → 1 ≤ waits_at x.unit l
waits-there [] k x at = absurd (none_there x at)
waits-there (y ∷ l) zero x at = let one : one_if (y.unit == x.unit) ≡ 1 = ap one_if (eq-eqb y.unit x.unit (ap (λ (z : Waiter). z.unit) (same_some y x at))) in omega (arith, one)
waits-there (y ∷ l) (suc k) x at = let later = waits-there l k x at in omega (arith, later)

-- the record that runs now is at a unit where none ran
pub other-unit : (g : Setup) (s : Started) (u w : ℕ) (old new : View) (run : Run) → Runs g s u old new → run_in w old.runs ≡ Some run → u ≢ w
other-unit g s u w old new run runs there e =
    let before : 1 ≤ runs_at w old.runs = found-counted (is_run_at w) old.runs run there in
    let one : one_if (runs.run.unit == w) ≡ 1 = ap one_if (eq-eqb runs.run.unit w (runs.unit_is ∙ e)) in
    omega (arith, before, one, ap (runs_at w) runs.runs, runs.sound.records.once w)

-- a run at another unit is found as before
pub still-run : (g : Setup) (s : Started) (u w : ℕ) (old new : View) (run : Run) → Runs g s u old new → run_in w old.runs ≡ Some run → run_in w new.runs ≡ Some run
still-run g s u w old new run runs there =
    let apart : runs.run.unit ≢ w = λ e. other-unit g s u w old new run runs there (sym runs.unit_is ∙ e) in
    ap (run_in w) runs.runs ∙ ap (λ (b : Bool). cond b (Some runs.run) (run_in w old.runs)) (ne_eqb runs.run.unit w apart) ∙ there

-- a maker stays one
pub still-maker : (g : Setup) (s maker : Started) (u : ℕ) (old new : View) → Runs g s u old new → IsMaker g maker old → IsMaker g maker new
still-maker g s maker u old new runs is = record {
  plain = is.plain;
  run = is.run;
  at = record { is_block = is.at.is_block; there = still-run g s u maker.unit old new is.run runs is.at.there };
  task_is = is.task_is;
  idle = is.idle;
  single = is.single;
  way = is.way;
  formed = is.formed;
}

-- the word of a record that is ready
pub ready-fits : (g : Plan) (word : StateWord) → IsUpTo g.limit word.number → word ≡ word_placed false word.number Regular → IsReadyWord word
ready-fits g word few e =
    subst IsReadyWord (sym e) (record { fits = record { priority_fits = omega arith; number_fits = omega (arith, few.1, g.limit_fits.1) }; phase_is = refl })

-- a record that was made ready and taken runs
pub runs-made : (g : Setup) (u : ℕ) (ready : StateWord) (before : View) (old new : Pass) (s : Started) → Spawns g false u None before ready.number (view old) → TakesRecord g u ready old s new
    → SoundView g (view new) → Runs g s u before (view new)
runs-made g u ready before old new s spawns takes sound = record {
  near = spawns.near;
  stands = record {
    unit_is = takes.unit_is;
    run = run;
    at = record { is_block = takes.frame_is.block; there = ap (run_in u) runs ∙ ap (λ (b : Bool). cond b (Some run) (run_in u before.runs)) (eq-eqb u u refl) };
    number_is = sym takes.number_is;
    placed = refl;
  };
  run = run;
  unit_is = refl;
  runs = runs;
  done = ap (λ (z : View). z.done) takes.view_is ∙ ap (λ (z : View). z.done) spawns.view_is;
  waiting = ap (λ (z : View). z.waiting) takes.view_is ∙ ap (λ (z : View). z.waiting) spawns.view_is;
  refers = let more = futures u in let one = one-here u in omega (arith, more, one);
  saw = subst (λ (n : ℕ). Has (SawTask u n) (view new).sights) (sym takes.number_is) (subst (Has (SawTask u ready.number)) (sym sights) (0, refl));
  still = record {
    futures = λ y. let more = futures y in omega (arith, more);
    sights = λ q held has. let later = has-kept (u ∷ before.futures) before.sights has.0 q has.1 (omega (arith, held)) in subst (Has q) (sym sights) (suc later.0, later.1);
    facts = λ f has. subst (Has f) (sym facts) (has-behind f takes.more _ (suc (suc has.0), has.1));
  };
  sound = sound;
}
  where
    run : Run
    run = new_run u takes.class ready.number (task_in (Some takes.call) ready.number) takes.words

    runs : (view new).runs ≡ run ∷ before.runs
    runs = ap (λ (z : View). z.runs) takes.view_is ∙ ap (λ (z : View). run ∷ z.runs) spawns.view_is

    sights : (view new).sights ≡ SawTask u ready.number ∷ kept_sights (u ∷ before.futures) before.sights
    sights = ap (λ (z : View). z.sights) takes.view_is ∙ ap (λ (z : View). z.sights) spawns.view_is

    facts : (view new).facts ≡ takes.more ++ (IsAccepted ready.number takes.call ∷ IsAccepted ready.number (call_behind None) ∷ before.facts)
    facts = ap (λ (z : View). z.facts) takes.view_is ∙ ap (λ (z : View). takes.more ++ (IsAccepted ready.number takes.call ∷ z.facts)) spawns.view_is

    futures : (y : ℕ) → one_if (u == y) + times y before.futures ≤ times y (view new).futures
    futures y =
        let all = ap (λ (z : View). times y z.futures) takes.view_is in
        let parts = total-append (λ (m : ℕ). one_if (m == y)) (named g.checked (slice_index takes.words)) (view old).futures in
        let rest = ap (λ (z : View). times y z.futures) spawns.view_is in omega (arith, all, parts, rest)

module _ (g : Setup) (waiting : List Waiting) (back : List Linkable) (owners : List Owner) (stages : List Stage) (v w : View) (hand : HasHand g.plan waiting back owners stages v) where
  -- a record more runs, with a list
  pub hand-listed : (s : Started) (o : Owner) → AllRun stages → Runs g s o.future.unit v w → o.task ≡ s.number → HasHand g.plan waiting back (owners ++ o ∷ []) (stages ++ stage.Running s ∷ []) w
  hand-listed s o all runs task_is = record {
    waiters = record {
      count = kept.count;
      near = kept.near;
      joins = λ k x at. let joins = kept.joins k x at in record { owner = joins.owner; there = at-front owners x.list joins.owner o joins.there; behind = joins.behind };
    };
    lists = record {
      count = length-last stages (stage.Running s) ∙ ap (λ (n : ℕ). n + 1) hand.lists.count ∙ sym (length-last owners o);
      refers = λ i p at. refers p (last-cases owners o i p at);
      sights = λ i p at. sights p (last-cases owners o i p at);
      apart = λ i j a b ati atj e. apart i j a b e (last-cases owners o i a ati) (last-cases owners o j b atj);
      stands = λ i p x at there. stands i p x (last-cases owners o i p at) (last-cases stages (stage.Running s) i x there);
    };
  }
    where
      kept : HasWaiters g.plan owners waiting back w
      kept = waiters-still g.plan owners waiting back v w runs.still runs.waiting (holds-all g.plan owners stages v hand.lists) hand.waiters

      refers : {i : ℕ} (p : Owner) → At owners i p ⊎ ((i ≡ length owners) × (p ≡ o)) → HasFuture g.plan p.future.unit w
      refers {i} p (inl at) = still-refers g.plan p.future.unit v w runs.still (hand.lists.refers i p at)
      refers p (inr t) = subst (λ (q : Owner). HasFuture g.plan q.future.unit w) (sym t.1) (record { near = runs.near; there = runs.refers })

      sights : {i : ℕ} (p : Owner) → At owners i p ⊎ ((i ≡ length owners) × (p ≡ o)) → Has (SawTask p.future.unit p.task) w.sights
      sights {i} p (inl at) = runs.still.sights (SawTask p.future.unit p.task) (hand.lists.refers i p at).there (hand.lists.sights i p at)
      sights p (inr t) =
          subst (λ (q : Owner). Has (SawTask q.future.unit q.task) w.sights) (sym t.1) (subst (λ (n : ℕ). Has (SawTask o.future.unit n) w.sights) (sym task_is) runs.saw)

      -- each of the records before runs, and at another unit
      runs-there : (i : ℕ) (p : Owner) → At owners i p → (t : Started) × RunsAt g.plan p.future.unit t v
      runs-there i p at =
          let there = at-some stages i (omega (arith, at-before owners i p at, hand.lists.count)) in by there.0 (all i there.0 there.1) (hand.lists.stands i p there.0 at there.1)
        where
          by : (x : Stage) → IsRunningStage x → StandsAs g.plan p.future.unit x v → (t : Started) × RunsAt g.plan p.future.unit t v
          by (stage.Running t) ok is = (t, is)
          by (stage.Done f) ok is = absurd ok
          by stage.Closed ok is = absurd ok

      new-unit : (i : ℕ) (p : Owner) → At owners i p → o.future.unit ≢ p.future.unit
      new-unit i p at = let is = runs-there i p at in other-unit g s o.future.unit p.future.unit v w is.1.run runs is.1.at.there

      apart : (i j : ℕ) (a b : Owner) → a.future.unit ≡ b.future.unit → At owners i a ⊎ ((i ≡ length owners) × (a ≡ o)) → At owners j b ⊎ ((j ≡ length owners) × (b ≡ o)) → i ≡ j
      apart i j a b e (inl ati) (inl atj) = hand.lists.apart i j a b ati atj e
      apart i j a b e (inl ati) (inr t) = absurd (new-unit i a ati (sym (e ∙ ap (λ (q : Owner). q.future.unit) t.1)))
      apart i j a b e (inr t) (inl atj) = absurd (new-unit j b atj (ap (λ (q : Owner). q.future.unit) (sym t.1) ∙ e))
      apart i j a b e (inr t) (inr t') = t.0 ∙ sym t'.0

      stands : (i : ℕ) (p : Owner) (x : Stage) → At owners i p ⊎ ((i ≡ length owners) × (p ≡ o)) → At stages i x ⊎ ((i ≡ length stages) × (x ≡ stage.Running s)) → StandsAs g.plan p.future.unit x w
      stands i p x (inl at) (inl there) = by x (all i x there) (hand.lists.stands i p x at there)
        where
          by : (x : Stage) → IsRunningStage x → StandsAs g.plan p.future.unit x v → StandsAs g.plan p.future.unit x w
          by (stage.Running t) ok is = record {
            unit_is = is.unit_is;
            run = is.run;
            at = record { is_block = is.at.is_block; there = still-run g s o.future.unit p.future.unit v w is.run runs is.at.there };
            number_is = is.number_is;
            placed = is.placed;
          }
          by (stage.Done f) ok is = absurd ok
          by stage.Closed ok is = absurd ok
      stands i p x (inl at) (inr t) = absurd (omega (arith, at-before owners i p at, hand.lists.count, t.0))
      stands i p x (inr t) (inl there) = absurd (omega (arith, at-before stages i x there, hand.lists.count, t.0))
      stands i p x (inr t) (inr t') =
          subst (λ (y : Stage). StandsAs g.plan p.future.unit y w) (sym t'.1) (subst (λ (q : Owner). StandsAs g.plan q.future.unit (stage.Running s) w) (sym t.1) runs.stands)

  -- one more waits, behind the task of a record with a list
  pub hand-waits : (x : Waiting) (o : Owner) (n : ℕ) → At owners x.list o → Spawns g true x.waiter.unit (Some o.task) v n w → SoundView g w → HasHand g.plan (waiting ++ x ∷ []) back owners stages w
  hand-waits x o n listed spawns sound = record {
    waiters = record {
      count = λ y. omega (arith, hand.waiters.count y, times-last (λ (z : Waiting). z.waiter.unit) y waiting x, ap (waits_at y) came);
      near = λ k y at. near y (last-cases waiting x k y at);
      joins = λ k y at. joins y (last-cases waiting x k y at);
    };
    lists = lists-still g.plan owners stages v w same (ap (λ (z : View). z.runs) spawns.view_is) (ap (λ (z : View). z.done) spawns.view_is) hand.lists;
  }
    where
      u : ℕ
      u = x.waiter.unit

      came : w.waiting ≡ new_waiter u n ∷ v.waiting
      came = ap (λ (z : View). z.waiting) spawns.view_is

      sights : w.sights ≡ SawTask u n ∷ kept_sights (u ∷ v.futures) v.sights
      sights = ap (λ (z : View). z.sights) spawns.view_is

      facts : w.facts ≡ IsAccepted n (call_behind (Some o.task)) ∷ v.facts
      facts = ap (λ (z : View). z.facts) spawns.view_is

      same : Still v w
      same = record {
        futures = λ y. let more = ap (λ (z : View). times y z.futures) spawns.view_is in omega (arith, more);
        sights = λ q held has. let later = has-kept (u ∷ v.futures) v.sights has.0 q has.1 (omega (arith, held)) in subst (Has q) (sym sights) (suc later.0, later.1);
        facts = λ f has. subst (Has f) (sym facts) (suc has.0, has.1);
      }

      near : {k : ℕ} (y : Waiting) → At waiting k y ⊎ ((k ≡ length waiting) × (y ≡ x)) → y.waiter.unit < units_of g.plan
      near {k} y (inl at) = hand.waiters.near k y at
      near y (inr t) = subst (λ (z : Waiting). z.waiter.unit < units_of g.plan) (sym t.1) spawns.near

      -- no other waits at the unit
      once : waits_at u v.waiting ≡ 0
      once = let one = one-here u in omega (arith, one, ap (waits_at u) came, sound.records.once u)

      was : (k : ℕ) (y : Waiting) → At waiting k y → (j : ℕ) (z : Waiter) → z.unit ≡ y.waiter.unit → At (new_waiter u n ∷ v.waiting) j z → Has z v.waiting
      was k y at zero z e there =
          let here : u ≡ y.waiter.unit = ap (λ (q : Waiter). q.unit) (same_some (new_waiter u n) z there) ∙ e in
          let none = subst (λ (m : ℕ). waits_at m v.waiting ≡ 0) here once in
          absurd (omega (arith, hand.waiters.count y.waiter.unit, times-at (λ (q : Waiting). q.waiter.unit) waiting k y at, none))
      was k y at (suc j) z e there = (j, there)

      knows : KnowsBehind w o.future.unit n
      knows = (
        call_behind (Some o.task),
        o.task,
        subst (Has (IsAccepted n (call_behind (Some o.task)))) (sym facts) (0, refl),
        same.sights (SawTask o.future.unit o.task) (hand.lists.refers x.list o listed).there (hand.lists.sights x.list o listed),
        refl,
      )

      first : (j : ℕ) (z : Waiter) → At (new_waiter u n ∷ v.waiting) j z → z.unit ≡ u → KnowsBehind w o.future.unit z.number
      first zero z there e = subst (λ (q : Waiter). KnowsBehind w o.future.unit q.number) (same_some (new_waiter u n) z there) knows
      first (suc j) z there e = absurd (omega (arith, once, counted))
        where
          counted : 1 ≤ waits_at u v.waiting
          counted = subst (λ (m : ℕ). 1 ≤ waits_at m v.waiting) e (waits-there v.waiting j z there)

      joins : {k : ℕ} (y : Waiting) → At waiting k y ⊎ ((k ≡ length waiting) × (y ≡ x)) → JoinsList owners y w
      joins {k} y (inl at) = let before = hand.waiters.joins k y at in record {
        owner = before.owner;
        there = before.there;
        behind = λ z has e. knows-still v w same before.owner.future.unit z.number (hand.lists.refers y.list before.owner before.there).there
            (before.behind z (was k y at has.0 z e (subst (λ (l : List Waiter). At l has.0 z) came has.1)) e);
      }
      joins y (inr t) = subst (λ (q : Waiting). JoinsList owners q w) (sym t.1)
          (record { owner = o; there = listed; behind = λ z has e. first has.0 z (subst (λ (l : List Waiter). At l has.0 z) came has.1) e })

-- the records with lists still all run
pub all-listed : (s : Started) (stages : List Stage) → AllRun stages → AllRun (stages ++ stage.Running s ∷ [])
all-listed s stages all i x at = by (last-cases stages (stage.Running s) i x at)
  where
    by : At stages i x ⊎ ((i ≡ length stages) × (x ≡ stage.Running s)) → IsRunningStage x
    by (inl there) = all i x there
    by (inr t) = subst IsRunningStage (sym t.1) tt
