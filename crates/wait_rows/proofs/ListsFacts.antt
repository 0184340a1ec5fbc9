-- What a finish and a close leave of the lists of a hand.
use Rattle.std.proofs.Common.{◌≡◌, ◌≢◌, ◌∙◌, ◌⊎◌, inl, inr, ℕ, zero, suc, Bool, cond, Some, List, [], ◌∷◌, refl, sym, ap, subst, arith, length-set}
use Rattle.std.specs.Prelude.{slice_set}
use Rattle.std.proofs.lemmas.Bool.{eq-eqb, ne_eqb}
use Rattle.record_core.specs.Counting.{At, Has, dropped}
use Rattle.kt_words.specs.declared.plan.Plan.{Plan}
use Rattle.table_core.specs.Holdings.{SawTask}
use Rattle.table_core.specs.WaitViews.{is_run_at, new_done, close_in}
use Rattle.table_core.specs.declared.view.View.{View}
use Rattle.table_core.proofs.ListFacts.{set_cases, set_again}
use Rattle.task_syntax.specs.declared.value.Trap.TheVariants.{Overflow}
use Rattle.task_syntax.specs.declared.value.Value.TheVariants as value
use Rattle.step_table.specs.RecordHands.{RunAt}
use Rattle.step_table.specs.declared.ending.Ending.{Ending}
use Rattle.step_table.specs.declared.ending.Ending.TheVariants as ending
use Rattle.step_table.specs.declared.pass.Pass.{Pass}
use Rattle.step_table.specs.declared.record_tokens.Linkable.{Linkable}
use Rattle.step_table.specs.declared.record_tokens.Started.{Started}
use Rattle.step_table.specs.declared.record_tokens.Finishing.{Finishing}
use Rattle.step_table.specs.declared.record_tokens.Chain.{Chain}
use Rattle.step_table.specs.Lookups.{run_in, done_in}
use Rattle.step_table.specs.Passes.{view}
use Rattle.step_table.specs.ListHands.{IsUnclosed, MayFinish}
use Rattle.step_table.specs.ListSteps.{TakesList, Finishes}
use Rattle.wait_rows.specs.declared.stage.Owner.{Owner}
use Rattle.wait_rows.specs.declared.stage.Stage.{Stage}
use Rattle.wait_rows.specs.declared.stage.Stage.TheVariants as stage
use Rattle.wait_rows.specs.declared.stage.Waiting.{Waiting}
use Rattle.wait_rows.specs.Hands.{RunsAt, StandsAs, HasLists, HasHand}
use Rattle.wait_rows.specs.Making.{Still}
use Rattle.wait_rows.proofs.FoundFacts.{at-before, at-some, run-kept, done-kept}
use Rattle.wait_rows.proofs.HandFacts.{no-less, still-refers, holds-all, waiters-still}

-- of a list the member at u is another
set-twice : (l : List Stage) (u : ℕ) (a b : Stage) → slice_set (slice_set l u a) u b ≡ slice_set l u b
set-twice [] u a b = refl
set-twice (x ∷ l) zero a b = refl
set-twice (x ∷ l) (suc u) a b = ap (λ (m : List Stage). x ∷ m) (set-twice l u a b)

-- what was taken is put back
pub put-back : (l : List Stage) (u : ℕ) (a b : Stage) → At l u b → slice_set (slice_set l u a) u b ≡ l
put-back l u a b at = set-twice l u a b ∙ set_again l u b at

module _ (g : Plan) (owners : List Owner) (stages : List Stage) (i : ℕ) where
  -- the record of a list that is there
  pub owner-of : (s : Stage) (v : View) → HasLists g owners stages v → At stages i s → (o : Owner) × At owners i o
  owner-of s v lists at = at-some owners i (omega (arith, lists.count, at-before stages i s at))

  -- Where one list's record stands as its stage says now, and those at other units stand as before, the lists stand so.
  lists-set : (s was : Stage) (v w : View) → HasLists g owners stages v → At stages i was → Still v w
      → ((o : Owner) → At owners i o → StandsAs g o.future.unit s w)
      → ((j : ℕ) (o : Owner) (x : Stage) → j ≢ i → At owners j o → StandsAs g o.future.unit x v → StandsAs g o.future.unit x w)
      → HasLists g owners (slice_set stages i s) w
  lists-set s was v w lists at same here others = record {
    count = length-set stages i s ∙ lists.count;
    refers = λ j o there. still-refers g o.future.unit v w same (lists.refers j o there);
    sights = λ j o there. same.sights (SawTask o.future.unit o.task) (lists.refers j o there).there (lists.sights j o there);
    apart = lists.apart;
    stands = λ j o x there is. by j o x there (set_cases stages i j s x is);
  }
    where
      by : (j : ℕ) (o : Owner) (x : Stage) → At owners j o → ((j ≡ i) × (x ≡ s)) ⊎ ((j ≢ i) × At stages j x) → StandsAs g o.future.unit x w
      by j o x there (inl t) = subst (λ (y : Stage). StandsAs g o.future.unit y w) (sym t.1) (here o (subst (λ (k : ℕ). At owners k o) t.0 there))
      by j o x there (inr t) = others j o x t.0 there (lists.stands j o x there t.1)

  -- a run of another list's record is at another unit
  unit-apart : (v : View) (o : Owner) → HasLists g owners stages v → At owners i o → (u : ℕ) → u ≡ o.future.unit → (j : ℕ) (p : Owner) → j ≢ i → At owners j p → u ≢ p.future.unit
  unit-apart v o lists at u is j p ne there e = ne (lists.apart j i p o there at (sym e ∙ is))

  -- what a record that runs needs
  pub running-of : (s : Started) (o : Owner) (v : View) → HasLists g owners stages v → At stages i (stage.Running s) → At owners i o → RunsAt g o.future.unit s v
  running-of s o v lists at there = lists.stands i o (stage.Running s) there at

  -- it may end by a trap
  pub may-finish : (s : Started) (v : View) → HasLists g owners stages v → At stages i (stage.Running s) → MayFinish g s (ending.Gave (value.Trapped Overflow)) v
  may-finish s v lists at =
      let mine = owner-of (stage.Running s) v lists at in let is = running-of s mine.0 v lists at mine.1 in record {
        run = is.run;
        at = subst (λ (u : ℕ). RunAt g u v is.run) (sym is.unit_is) is.at;
        number_is = is.number_is;
        placed = is.placed;
        knows = tt;
      }

  -- a record that ran is done
  pub lists-finished : (s : Started) (how : Ending) (old new : Pass) (done : Finishing) → HasLists g owners stages (view old) → At stages i (stage.Running s) → Still (view old) (view new)
      → Finishes g s how old done new → HasLists g owners (slice_set stages i (stage.Done done)) (view new)
  lists-finished s how old new done lists at same finishes = lists-set (stage.Done done) (stage.Running s) (view old) (view new) lists at same here others
    where
      runs_now : (view new).runs ≡ dropped (is_run_at s.unit) (view old).runs
      runs_now = ap (λ (z : View). z.runs) finishes.view_is

      done_now : (view new).done ≡ new_done s.unit ∷ (view old).done
      done_now = ap (λ (z : View). z.done) finishes.view_is

      here : (o : Owner) → At owners i o → StandsAs g o.future.unit (stage.Done done) (view new)
      here o there =
          let was = running-of s o (view old) lists at there in (
            finishes.unit_is ∙ was.unit_is,
            (
              new_done s.unit,
              record {
                near = was.at.is_block.inside;
                there = ap (done_in o.future.unit) done_now ∙ ap (λ (b : Bool). cond b (Some (new_done s.unit)) (done_in o.future.unit (view old).done)) (eq-eqb s.unit o.future.unit was.unit_is);
              },
              refl,
            ),
          )

      others : (j : ℕ) (o : Owner) (x : Stage) → j ≢ i → At owners j o → StandsAs g o.future.unit x (view old) → StandsAs g o.future.unit x (view new)
      others j o x ne there is =
          let mine = owner-of (stage.Running s) (view old) lists at in
          let was = running-of s mine.0 (view old) lists at mine.1 in
          let apart = unit-apart (view old) mine.0 lists mine.1 s.unit was.unit_is j o ne there in by x apart is
        where
          by : (x : Stage) → s.unit ≢ o.future.unit → StandsAs g o.future.unit x (view old) → StandsAs g o.future.unit x (view new)
          by (stage.Running t) apart is = record {
            unit_is = is.unit_is;
            run = is.run;
            at = record { is_block = is.at.is_block; there = ap (run_in o.future.unit) runs_now ∙ run-kept o.future.unit s.unit apart (view old).runs ∙ is.at.there };
            number_is = is.number_is;
            placed = is.placed;
          }
          by (stage.Done f) apart is =
              let t = is.1 in (
                is.0,
                (
                  t.0,
                  record {
                    near = t.1.near;
                    there = ap (done_in o.future.unit) done_now ∙ ap (λ (b : Bool). cond b (Some (new_done s.unit)) (done_in o.future.unit (view old).done)) (ne_eqb s.unit o.future.unit apart) ∙ t.1.there;
                  },
                  t.2,
                ),
              )
          by stage.Closed apart is = tt

  -- what a done record of the hand needs
  pub unclosed-of : (f : Finishing) (v : View) → HasLists g owners stages v → At stages i (stage.Done f) → IsUnclosed g f.unit v
  unclosed-of f v lists at =
      let mine = owner-of (stage.Done f) v lists at in let is = lists.stands i mine.0 (stage.Done f) mine.1 at in subst (λ (x : ℕ). IsUnclosed g x v) (sym is.0) is.1

  -- a done record's list is closed
  pub lists-closed : (f : Finishing) (old new : Pass) (taken : Finishing × Chain) → HasLists g owners stages (view old) → At stages i (stage.Done f) → Still (view old) (view new)
      → TakesList g f old taken new → HasLists g owners (slice_set stages i stage.Closed) (view new)
  lists-closed f old new taken lists at same takes = lists-set stage.Closed (stage.Done f) (view old) (view new) lists at same (λ o there. tt) others
    where
      runs_now : (view new).runs ≡ (view old).runs
      runs_now = ap (λ (z : View). z.runs) takes.view_is

      done_now : (view new).done ≡ close_in f.unit (view old).done
      done_now = ap (λ (z : View). z.done) takes.view_is

      others : (j : ℕ) (o : Owner) (x : Stage) → j ≢ i → At owners j o → StandsAs g o.future.unit x (view old) → StandsAs g o.future.unit x (view new)
      others j o x ne there is =
          let mine = owner-of (stage.Done f) (view old) lists at in
          let was = lists.stands i mine.0 (stage.Done f) mine.1 at in
          let apart = unit-apart (view old) mine.0 lists mine.1 f.unit was.0 j o ne there in by x apart is
        where
          by : (x : Stage) → f.unit ≢ o.future.unit → StandsAs g o.future.unit x (view old) → StandsAs g o.future.unit x (view new)
          by (stage.Running t) apart is = record {
            unit_is = is.unit_is;
            run = is.run;
            at = record { is_block = is.at.is_block; there = ap (run_in o.future.unit) runs_now ∙ is.at.there };
            number_is = is.number_is;
            placed = is.placed;
          }
          by (stage.Done t) apart is =
              let d = is.1 in (is.0, (d.0, record { near = d.1.near; there = ap (done_in o.future.unit) done_now ∙ done-kept o.future.unit f.unit apart (view old).done ∙ d.1.there }, d.2))
          by stage.Closed apart is = tt

-- a finish forgets nothing that was seen or known
pub still-finished : (g : Plan) (s : Started) (how : Ending) (old new : Pass) (done : Finishing) → Finishes g s how old done new → Still (view old) (view new)
still-finished g s how old new done finishes = record {
  futures = no-less (view old) (view new) (ap (λ (z : View). z.futures) finishes.view_is);
  sights = λ q held has. subst (Has q) (sym (ap (λ (z : View). z.sights) finishes.view_is)) has;
  facts = λ f has. subst (Has f) (sym (ap (λ (z : View). z.facts) finishes.view_is)) (suc has.0, has.1);
}

-- nor does a close
pub still-closed : (g : Plan) (f : Finishing) (old new : Pass) (taken : Finishing × Chain) → TakesList g f old taken new → Still (view old) (view new)
still-closed g f old new taken takes = record {
  futures = no-less (view old) (view new) (ap (λ (z : View). z.futures) takes.view_is);
  sights = λ q held has. subst (Has q) (sym (ap (λ (z : View). z.sights) takes.view_is)) has;
  facts = λ q has. subst (Has q) (sym (ap (λ (z : View). z.facts) takes.view_is)) has;
}

module _ (g : Plan) (waiting : List Waiting) (back : List Linkable) (owners : List Owner) (stages : List Stage) (i : ℕ) where
  -- a hand in which one record is done now
  pub hand-finished : (s : Started) (how : Ending) (old new : Pass) (done : Finishing) → HasHand g waiting back owners stages (view old) → At stages i (stage.Running s)
      → Finishes g s how old done new → HasHand g waiting back owners (slice_set (slice_set stages i stage.Closed) i (stage.Done done)) (view new)
  hand-finished s how old new done hand at finishes =
      let same = still-finished g s how old new done finishes in record {
        waiters = waiters-still g owners waiting back (view old) (view new) same (ap (λ (z : View). z.waiting) finishes.view_is) (holds-all g owners stages (view old) hand.lists) hand.waiters;
        lists = subst (λ (l : List Stage). HasLists g owners l (view new)) (sym (set-twice stages i stage.Closed (stage.Done done)))
            (lists-finished g owners stages i s how old new done hand.lists at same finishes);
      }

  -- a hand in which one list is closed now
  pub hand-taken : (f : Finishing) (old new : Pass) (taken : Finishing × Chain) → HasHand g waiting back owners stages (view old) → At stages i (stage.Done f)
      → TakesList g f old taken new → HasHand g waiting back owners (slice_set stages i stage.Closed) (view new)
  hand-taken f old new taken hand at takes =
      let same = still-closed g f old new taken takes in record {
        waiters = waiters-still g owners waiting back (view old) (view new) same (ap (λ (z : View). z.waiting) takes.view_is) (holds-all g owners stages (view old) hand.lists) hand.waiters;
        lists = lists-closed g owners stages i f old new taken hand.lists at same takes;
      }
