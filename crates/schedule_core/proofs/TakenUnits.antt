-- References to records are taken whose tasks are read, one after the other.
use Rattle.std.proofs.Common.{◌≡◌, ◌∙◌, inl, inr, ℕ, zero, suc, ◌<◌, ◌==◌, Bool, true, false, cond, Some, None, List, [], ◌∷◌, ◌++◌, refl, sym, ap, subst, append_assoc, arith}
use Rattle.std.proofs.lemmas.Bool.{eq-eqb}
use Rattle.std.proofs.lemmas.Option.{none-some}
use Rattle.record_core.specs.Counting.{At, Has, one_if}
use Rattle.record_core.proofs.TotalFacts.{none_there, total-append}
use Rattle.kt_words.specs.declared.plan.Plan.{Plan}
use Rattle.table_core.specs.Addresses.{Addr, refs, task, units_of}
use Rattle.table_core.specs.Holdings.{RootSays, Record, Sight, SawHead, SawTask, SawDone}
use Rattle.table_core.specs.Story.{IsTask}
use Rattle.table_core.specs.declared.view.View.{View}
use Rattle.table_core.proofs.ListFacts.{append_cases, each-append, each-none, same_some}
use Rattle.schedule_rule.specs.SeeingViews.{SeesTask}
use Rattle.step_table.specs.Passes.{view}
use Rattle.step_table.specs.RootSteps.{HasRootRecord, RefersRoot}
use Rattle.step_table.specs.declared.pass.Pass.{Pass}
use Rattle.step_table.specs.declared.record_tokens.Future.{Future}
use Rattle.schedule_core.specs.NamedRoots.{TakesUnits, TakesRoot}
use Rattle.schedule_core.specs.SeenTasks.{task_seen}
use Rattle.schedule_core.specs.declared.making.Behind.{Behind}
use Rattle.schedule_core.proofs.EachFacts.{grows-on, grows-self}
use Rattle.schedule_core.proofs.Placing.{has-before}
use Rattle.schedule_core.proofs.SeeingTasks.{seen-still}

-- what a list has, a longer one has that ends so
pub has-behind : {A : Type 0} (x : A) (more l : List A) → Has x l → Has x (more ++ l)
has-behind x [] l has = has
has-behind x (y ∷ more) l has = let t = has-behind x more l has in (suc t.0, t.1)

-- the task that was seen last at a record in newer sights was seen last in all
pub seen-newer : (u t : ℕ) (more l : List Sight) → task_seen u more ≡ Some t → task_seen u (more ++ l) ≡ Some t
seen-newer u t [] l e = absurd (none-some t e)
seen-newer u t (SawTask w x ∷ more) l e = by (w == u) (seen-newer u t more l) e
  where
    by : (b : Bool) → (task_seen u more ≡ Some t → task_seen u (more ++ l) ≡ Some t) → cond b (Some x) (task_seen u more) ≡ Some t → cond b (Some x) (task_seen u (more ++ l)) ≡ Some t
    by true deeper is = is
    by false deeper is = deeper is
seen-newer u t (SawHead w x ∷ more) l e = seen-newer u t more l e
seen-newer u t (SawDone w x ∷ more) l e = seen-newer u t more l e

module _ (g : Plan) where
  -- of no units
  pub takes-none : (v : View) → TakesUnits g [] v v
  takes-none v = record {
    near = each-none (λ u. u < units_of g);
    front = [];
    counts = λ w. refl;
    steps = [];
    since = refl;
    more = [];
    sights = refl;
    read = λ u t has. absurd (none_there (SawTask u t) has.1);
    saw = each-none _;
    facts = grows-self v.facts;
    view_is = refl;
  }

  -- of two lists of units
  pub takes-then : (xs ys : List ℕ) (u v w : View) → TakesUnits g xs u v → TakesUnits g ys v w → TakesUnits g (xs ++ ys) u w
  takes-then xs ys u v w first second = record {
    near = each-append (λ n. n < units_of g) xs ys first.near second.near;
    front = second.front ++ first.front;
    counts = λ n. omega (
      arith,
      first.counts n,
      second.counts n,
      total-append (λ (x : ℕ). one_if (x == n)) second.front first.front,
      total-append (λ (x : ℕ). one_if (x == n)) xs ys,
    );
    steps = second.steps ++ first.steps;
    since = second.since ∙ ap (λ l. second.steps ++ l) first.since ∙ sym (append_assoc second.steps first.steps u.seen);
    more = second.more ++ first.more;
    sights = second.sights ∙ ap (λ l. second.more ++ l) first.sights ∙ sym (append_assoc second.more first.more u.sights);
    read = λ n t has. elim (append_cases second.more first.more has.0 (SawTask n t) has.1) [
      | inl new ↦ has-before {A = Addr × ℕ} (task n, t) second.steps first.steps (second.read n t new)
      | inr was ↦ has-behind {A = Addr × ℕ} (task n, t) second.steps first.steps (first.read n t was)
    ];
    saw = each-append _ xs ys (λ k n at. let t = first.saw k n at in seen-still n t.0 second.more first.more t.1)
        (λ k n at. let t = second.saw k n at in (t.0, seen-newer n t.0 second.more first.more t.1));
    facts = grows-on u.facts v.facts w.facts first.facts second.facts;
    view_is = second.view_is ∙ (λ k. record (first.view_is k) {
      futures = second.front ++ (first.view_is k).futures;
      sights = w.sights;
      facts = w.facts;
      seen = w.seen;
    }) ∙ ap (λ (l : List ℕ). record u { futures = l; sights = w.sights; facts = w.facts; seen = w.seen }) (sym (append_assoc second.front first.front u.futures));
  }

-- a reference is taken to the record of a root, and its task is read
pub takes-root : (g : Plan) (limit r : ℕ) (future : Future) (b : Behind) (old mid : Pass) (new : View) → HasRootRecord g r (view old) → RefersRoot r old future mid → b.unit ≡ future.unit
    → SeesTask limit future.unit (view mid) b.task new → TakesRoot g r b (view old) new
takes-root g limit r future b old mid new has refers unit_is sees' = record {
  is_its = λ asked turn. its asked turn;
  takes = record {
    near = λ k w at. by k w at;
    front = u ∷ [];
    counts = λ w. refl;
    steps = (task u, b.task) ∷ (refs u, refers.refers.found) ∷ [];
    since = ap (λ (v : View). v.seen) whole;
    more = SawTask u b.task ∷ [];
    sights = ap (λ (v : View). v.sights) whole;
    read = λ w t it. reads w t it.0 it.1;
    saw = λ k w at. saws k w at;
    facts = (IsTask b.task ∷ [], ap (λ (v : View). v.facts) whole);
    view_is = whole ∙ (λ k. record (view old) { futures = u ∷ (view old).futures; sights = (sym whole k).sights; facts = (sym whole k).facts; seen = (sym whole k).seen });
  };
  task_is = ap (λ (v : View). task_seen u v.sights) whole ∙ ap (λ (t : Bool). cond t (Some b.task) (task_seen u (view old).sights)) (eq-eqb u u refl);
}
  where
    u : ℕ
    u = b.unit

    its : (asked : List RootSays) → (view old).turn ≡ asked ∷ [] → At asked r (Record u)
    its asked turn = subst (λ (w : ℕ). At asked r (Record w)) (sym unit_is) (refers.is_its asked turn)

    sees : SeesTask limit u (view mid) b.task new
    sees = subst (λ (w : ℕ). SeesTask limit w (view mid) b.task new) (sym unit_is) sees'

    mid_is : view mid ≡ record (view old) { futures = u ∷ (view old).futures; seen = (refs u, refers.refers.found) ∷ (view old).seen }
    mid_is = refers.refers.view_is ∙ (λ k. record (view old) { futures = sym unit_is k ∷ (view old).futures; seen = (refs (sym unit_is k), refers.refers.found) ∷ (view old).seen })

    whole : new ≡ record (view old) {
      futures = u ∷ (view old).futures;
      sights = SawTask u b.task ∷ (view old).sights;
      facts = IsTask b.task ∷ (view old).facts;
      seen = (task u, b.task) ∷ (refs u, refers.refers.found) ∷ (view old).seen;
    }
    whole = sees.view_is ∙ (λ k. record (mid_is k) {
      sights = SawTask u b.task ∷ (mid_is k).sights;
      facts = IsTask b.task ∷ (mid_is k).facts;
      seen = (task u, b.task) ∷ (mid_is k).seen;
    })

    same : Record has.unit ≡ Record u
    same = same_some (Record has.unit) (Record u) (sym has.there ∙ its has.asked has.has_turn)

    unit_of : RootSays → ℕ
    unit_of (Record w) = w
    unit_of said = 0

    by : (k w : ℕ) → At (u ∷ []) k w → w < units_of g
    by zero w at = subst (λ (n : ℕ). n < units_of g) (ap unit_of same ∙ same_some u w at) has.near
    by (suc k) w at = absurd (none_there w at)

    reads : (w t k : ℕ) → At (SawTask u b.task ∷ []) k (SawTask w t) → Has {X = Addr × ℕ} (task w, t) ((task u, b.task) ∷ (refs u, refers.refers.found) ∷ [])
    reads w t zero at = (0, ap (λ (s : Sight). Some (task (unit_at s), task_at s)) (same_some (SawTask u b.task) (SawTask w t) at))
      where
        unit_at : Sight → ℕ
        unit_at (SawTask n x) = n
        unit_at other = 0

        task_at : Sight → ℕ
        task_at (SawTask n x) = x
        task_at other = 0
    reads w t (suc k) at = absurd (none_there (SawTask w t) at)

    saws : (k w : ℕ) → At (u ∷ []) k w → (t : ℕ) × (task_seen w (SawTask u b.task ∷ []) ≡ Some t)
    saws zero w at = (b.task, ap (λ (t : Bool). cond t (Some b.task) None) (eq-eqb u w (same_some u w at)))
    saws (suc k) w at = absurd (none_there w at)
