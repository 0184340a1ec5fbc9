-- What each step leaves of the records that wait in a hand.
use Rattle.std.proofs.Common.{◌≡◌, ◌∙◌, inl, inr, ℕ, zero, suc, ◌+◌, ◌<◌, ◌≤◌, ◌==◌, List, [], ◌∷◌, ◌++◌, length, refl, sym, ap, subst, arith}
use Rattle.record_core.specs.Counting.{At, Has, one_if, times, dropped}
use Rattle.kt_words.specs.declared.plan.Plan.{Plan}
use Rattle.table_core.specs.Addresses.{units_of}
use Rattle.table_core.specs.Holdings.{Waiter, SawTask}
use Rattle.table_core.specs.Lists.{Each}
use Rattle.table_core.specs.WaitLists.{waits_at}
use Rattle.table_core.specs.WaitViews.{is_waiter_at, new_waiter}
use Rattle.table_core.specs.declared.setup.Setup.{Setup}
use Rattle.table_core.specs.declared.view.View.{View}
use Rattle.table_core.proofs.BagFacts.{one-here}
use Rattle.table_core.proofs.ListFacts.{same_some}
use Rattle.table_core.proofs.WaiterFacts.{waits-dropped, waits-link_in}
use Rattle.schedule_rule.specs.LifeViews.{KnowsBehind}
use Rattle.schedule_rule.specs.SoundViews.{SoundView}
use Rattle.step_table.specs.declared.pass.Pass.{Pass}
use Rattle.step_table.specs.declared.record_tokens.Linkable.{Linkable}
use Rattle.step_table.specs.declared.record_tokens.Chain.{Chain}
use Rattle.step_table.specs.Lookups.{run_in, done_in}
use Rattle.step_table.specs.Passes.{view}
use Rattle.step_table.specs.RecordHands.{HasFuture}
use Rattle.step_table.specs.ListHands.{IsChain, StandsChain}
use Rattle.step_table.specs.ListSteps.{Unchains}
use Rattle.step_table.proofs.LookupFacts.{waiter-there}
use Rattle.wait_lists.specs.Joining.{MayJoin, Waits, SawClosed, IsRelinked}
use Rattle.wait_lists.proofs.JoinFacts.{has-behind}
use Rattle.wait_rows.specs.declared.stage.Owner.{Owner}
use Rattle.wait_rows.specs.declared.stage.Stage.{Stage}
use Rattle.wait_rows.specs.declared.stage.Stage.TheVariants as stage
use Rattle.wait_rows.specs.declared.stage.Waiting.{Waiting}
use Rattle.wait_rows.specs.Hands.{units, units_back, StandsAs, HasLists, JoinsList, HasWaiters, HasHand}
use Rattle.wait_rows.specs.Making.{Still}
use Rattle.wait_rows.proofs.FoundFacts.{at-before, at-front, at-last, times-last, times-at, first-some, has-undropped, Was, was-linked}

-- as where the references are the same
pub no-less : (v w : View) → w.futures ≡ v.futures → (y : ℕ) → times y v.futures ≤ times y w.futures
no-less v w e y = omega (arith, ap (times y) e)

-- what is known of a predecessor stays known
pub knows-still : (v w : View) → Still v w → (u n : ℕ) → 1 ≤ times u v.futures → KnowsBehind v u n → KnowsBehind w u n
knows-still v w same u n held knows = (knows.0, knows.1, same.facts _ knows.2, same.sights (SawTask u knows.1) held knows.3, knows.4)

-- the pass has a reference to each record with a list
abbrev pub HoldsAll : List Owner → View → Type 0
HoldsAll owners v = (i : ℕ) (o : Owner) → At owners i o → 1 ≤ times o.future.unit v.futures

-- a chain stays where the chains stay
pub still-chain : (g : Plan) (c : Chain) (v w : View) → w.chains ≡ v.chains → IsChain g c v → IsChain g c w
still-chain g c v w same is = (is.0, record { there = stands is.0 is.1.there; first_is = is.1.first_is; length_is = is.1.length_is; near = is.1.near })
  where
    stands : (members : List ℕ) → StandsChain members v → StandsChain members w
    stands [] there = tt
    stands (u ∷ us) there = subst (Has (u ∷ us)) (sym same) there

-- each waiter was one before
abbrev pub AllWere : View → View → Type 0
AllWere v w = (k : ℕ) (y : Waiter) → At w.waiting k y → Was v.waiting y

-- a record that is to join its list may still
pub joins-still : (owners : List Owner) (x : Waiting) (v w : View) → Still v w → AllWere v w → HoldsAll owners v → JoinsList owners x v → JoinsList owners x w
joins-still owners x v w same were held joins = record {
  owner = joins.owner;
  there = joins.there;
  behind = λ y has e. let was = were has.0 y has.1 in
      subst (KnowsBehind w joins.owner.future.unit) was.number_is (knows-still v w same joins.owner.future.unit was.z.number (held x.list joins.owner joins.there) (joins.behind was.z was.there (was.unit_is ∙ e)));
}

-- the waiters are the same ones
pub waiters-still : (g : Plan) (owners : List Owner) (waiting : List Waiting) (back : List Linkable) (v w : View) → Still v w → w.waiting ≡ v.waiting
    → HoldsAll owners v → HasWaiters g owners waiting back v → HasWaiters g owners waiting back w
waiters-still g owners waiting back v w same kept held has = record {
  count = λ y. subst (λ (l : List Waiter). times y (units waiting) + times y (units_back back) ≤ waits_at y l) (sym kept) (has.count y);
  near = has.near;
  joins = λ k x at. joins-still owners x v w same
      (λ j y there. record { z = y; there = (j, subst (λ (l : List Waiter). At l j y) kept there); unit_is = refl; number_is = refl }) held (has.joins k x at);
}

-- a reference stays
pub still-refers : (g : Plan) (u : ℕ) (v w : View) → Still v w → HasFuture g u v → HasFuture g u w
still-refers g u v w same has = record { near = has.near; there = let more = same.futures u in omega (arith, more, has.there) }

-- a record stands as before where no record starts or ends
pub still-stands : (g : Plan) (u : ℕ) (s : Stage) (v w : View) → w.runs ≡ v.runs → w.done ≡ v.done → StandsAs g u s v → StandsAs g u s w
still-stands g u (stage.Running s) v w runs done is = record {
  unit_is = is.unit_is;
  run = is.run;
  at = record { is_block = is.at.is_block; there = ap (run_in u) runs ∙ is.at.there };
  number_is = is.number_is;
  placed = is.placed;
}
still-stands g u (stage.Done f) v w runs done is =
    let t = is.1 in (is.0, (t.0, record { near = t.1.near; there = ap (done_in u) done ∙ t.1.there }, t.2))
still-stands g u stage.Closed v w runs done is = tt

-- the references of all lists
pub holds-all : (g : Plan) (owners : List Owner) (stages : List Stage) (v : View) → HasLists g owners stages v → HoldsAll owners v
holds-all g owners stages v lists i o at = (lists.refers i o at).there

-- so do all lists
pub lists-still : (g : Plan) (owners : List Owner) (stages : List Stage) (v w : View) → Still v w → w.runs ≡ v.runs → w.done ≡ v.done → HasLists g owners stages v → HasLists g owners stages w
lists-still g owners stages v w same runs done has = record {
  count = has.count;
  refers = λ i o at. still-refers g o.future.unit v w same (has.refers i o at);
  sights = λ i o at. same.sights (SawTask o.future.unit o.task) (has.refers i o at).there (has.sights i o at);
  apart = has.apart;
  stands = λ i o s at there. still-stands g o.future.unit s v w runs done (has.stands i o s at there);
}

module _ (g : Plan) (owners : List Owner) (stages : List Stage) (back : List Linkable) where
  -- the last of those that wait may join its list
  pub may-join : (rest : List Waiting) (x : Waiting) (o : Owner) (v : View) → HasHand g (rest ++ x ∷ []) back owners stages v → At owners x.list o → MayJoin g o.future.unit x.waiter.unit v
  may-join rest x o v hand at =
      let joins = hand.waiters.joins (length rest) x (at-last rest x) in
      let same : joins.owner ≡ o = same_some joins.owner o (sym joins.there ∙ at) in
      let u = x.waiter.unit in
      let some : 1 ≤ waits_at u v.waiting = omega (arith, hand.waiters.count u, times-last (λ (y : Waiting). y.waiter.unit) u rest x, one-here u) in
      let found = first-some (is_waiter_at u) v.waiting some in
      let is = waiter-there u v.waiting found.0 found.1 in record {
        future = hand.lists.refers x.list o at;
        waiter = found.0;
        at = record { near = hand.waiters.near (length rest) x (at-last rest x); there = found.1 };
        behind = subst (λ (q : Owner). KnowsBehind v q.future.unit found.0.number) same (joins.behind found.0 is.0 is.1);
      }

  -- its list is there
  pub list-there : (rest : List Waiting) (x : Waiting) (v : View) → HasHand g (rest ++ x ∷ []) back owners stages v → x.list < length stages
  list-there rest x v hand =
      let joins = hand.waiters.joins (length rest) x (at-last rest x) in
      let low = at-before owners x.list joins.owner joins.there in omega (arith, low, hand.lists.count)

  -- those before it are near
  near-front : (rest : List Waiting) (x : Waiting) → Each (λ (y : Waiting). y.waiter.unit < units_of g) (rest ++ x ∷ []) → Each (λ (y : Waiting). y.waiter.unit < units_of g) rest
  near-front rest x all k y at = all k y (at-front rest k y x at)

  -- it has left for its list
  pub hand-joined : (rest : List Waiting) (x : Waiting) (u : ℕ) (v w : View) → HasHand g (rest ++ x ∷ []) back owners stages v → Waits u x.waiter.unit v w → HasHand g rest back owners stages w
  hand-joined rest x u v w hand waits =
      let n = x.waiter.unit in
      let left : w.waiting ≡ dropped (is_waiter_at n) v.waiting = ap (λ (z : View). z.waiting) waits.view_is in
      let some : 1 ≤ waits_at n v.waiting = omega (arith, hand.waiters.count n, times-last (λ (y : Waiting). y.waiter.unit) n rest x, one-here n) in
      let found = first-some (is_waiter_at n) v.waiting some in
      let is = waiter-there n v.waiting found.0 found.1 in
      let same : Still v w = record {
        futures = no-less v w (ap (λ (z : View). z.futures) waits.view_is);
        sights = λ s held has. subst (Has s) (sym waits.on_list.sights.1) (has-behind s waits.on_list.sights.0 v.sights has);
        facts = λ f has. subst (Has f) (sym (ap (λ (z : View). z.facts) waits.view_is)) has;
      } in record {
        waiters = record {
          count = λ y. omega (
            arith,
            hand.waiters.count y,
            times-last (λ (z : Waiting). z.waiter.unit) y rest x,
            ap (waits_at y) left,
            waits-dropped n y v.waiting found.0 is.0 is.1,
          );
          near = near-front rest x hand.waiters.near;
          joins = λ k y at. joins-still owners y v w same
              (λ j z there. let was = has-undropped (is_waiter_at n) v.waiting j z (subst (λ (l : List Waiter). At l j z) left there) in
              record { z = z; there = was; unit_is = refl; number_is = refl })
              (holds-all g owners stages v hand.lists) (hand.waiters.joins k y (at-front rest k y x at));
        };
        lists = lists-still g owners stages v w same (ap (λ (z : View). z.runs) waits.view_is) (ap (λ (z : View). z.done) waits.view_is) hand.lists;
      }

  -- it was told that its list is closed, and comes back
  pub hand-closed : (rest : List Waiting) (x : Waiting) (u : ℕ) (v w : View) → HasHand g (rest ++ x ∷ []) back owners stages v → SawClosed u x.waiter.unit v w
      → HasHand g rest (back ++ x.waiter ∷ []) owners stages w
  hand-closed rest x u v w hand closed =
      let n = x.waiter.unit in
      let same : Still v w = record {
        futures = no-less v w (ap (λ (z : View). z.futures) closed.view_is);
        sights = λ s held has. subst (Has s) (sym closed.on_list.sights.1) (has-behind s closed.on_list.sights.0 v.sights has);
        facts = λ f has. subst (Has f) (sym closed.facts.1) (has-behind f closed.facts.0 v.facts has);
      } in record {
        waiters = record {
          count = λ y. omega (
            arith,
            hand.waiters.count y,
            times-last (λ (z : Waiting). z.waiter.unit) y rest x,
            times-last (λ (z : Linkable). z.unit) y back x.waiter,
            as_often y closed.waiting,
          );
          near = near-front rest x hand.waiters.near;
          joins = λ k y at. joins-still owners y v w same (λ j z there. were j z there closed.waiting) (holds-all g owners stages v hand.lists) (hand.waiters.joins k y (at-front rest k y x at));
        };
        lists = lists-still g owners stages v w same (ap (λ (z : View). z.runs) closed.view_is) (ap (λ (z : View). z.done) closed.view_is) hand.lists;
      }
    where
      as_often : (y : ℕ) → IsRelinked x.waiter.unit v.waiting w.waiting → waits_at y w.waiting ≡ waits_at y v.waiting
      as_often y (inl e) = ap (waits_at y) e
      as_often y (inr t) = ap (waits_at y) t.1 ∙ waits-link_in x.waiter.unit t.0 y v.waiting

      were : (j : ℕ) (z : Waiter) → At w.waiting j z → IsRelinked x.waiter.unit v.waiting w.waiting → Was v.waiting z
      were j z there (inl e) = record { z = z; there = (j, subst (λ (l : List Waiter). At l j z) e there); unit_is = refl; number_is = refl }
      were j z there (inr t) = was-linked x.waiter.unit t.0 v.waiting j z (subst (λ (l : List Waiter). At l j z) t.1 there)

  -- the last that came back is in the hand no more, though it waits
  pub hand-lost : (waiting : List Waiting) (x : Linkable) (v : View) → HasHand g waiting (back ++ x ∷ []) owners stages v → HasHand g waiting back owners stages v
  hand-lost waiting x v hand = record {
    waiters = record {
      count = λ y. omega (arith, hand.waiters.count y, times-last (λ (z : Linkable). z.unit) y back x);
      near = hand.waiters.near;
      joins = hand.waiters.joins;
    };
    lists = hand.lists;
  }

-- the first of a chain has come
pub hand-unchained : (s : Setup) (owners : List Owner) (stages : List Stage) (back : List Linkable) (waiting : List Waiting) (members : List ℕ) (old new : Pass) (left : Linkable × Chain)
    → HasHand s.plan waiting back owners stages (view old) → Unchains s.plan members old left new → SoundView s (view new)
    → HasHand s.plan waiting (back ++ left.0 ∷ []) owners stages (view new)
hand-unchained s owners stages back waiting members old new left hand takes sound = record {
  waiters = record {
    count = λ y. omega (arith, hand.waiters.count y, times-last (λ (z : Linkable). z.unit) y back left.0, ap (waits_at y) came);
    near = hand.waiters.near;
    joins = λ k x at. let before = hand.waiters.joins k x at in record {
      owner = before.owner;
      there = before.there;
      behind = λ y has e. knows-still v w same before.owner.future.unit y.number (hand.lists.refers x.list before.owner before.there).there (before.behind y (was k x at has.0 y e (subst (λ (l : List Waiter). At l has.0 y) came has.1)) e);
    };
  };
  lists = lists-still s.plan owners stages v w same (ap (λ (z : View). z.runs) takes.view_is) (ap (λ (z : View). z.done) takes.view_is) hand.lists;
}
  where
    v : View
    v = view old

    w : View
    w = view new

    came : w.waiting ≡ new_waiter left.0.unit takes.number ∷ v.waiting
    came = ap (λ (z : View). z.waiting) takes.view_is

    same : Still v w
    same = record {
      futures = no-less v w (ap (λ (z : View). z.futures) takes.view_is);
      sights = λ q held has. subst (Has q) (sym (ap (λ (z : View). z.sights) takes.view_is)) has;
      facts = λ f has. subst (Has f) (sym (ap (λ (z : View). z.facts) takes.view_is)) (has-behind f takes.more v.facts has);
    }

    was : (k : ℕ) (x : Waiting) → At waiting k x → (j : ℕ) (y : Waiter) → y.unit ≡ x.waiter.unit → At (new_waiter left.0.unit takes.number ∷ v.waiting) j y → Has y v.waiting
    was k x at zero y e there =
        let n = x.waiter.unit in
        let here : left.0.unit ≡ n = ap (λ (z : Waiter). z.unit) (same_some (new_waiter left.0.unit takes.number) y there) ∙ e in
        let one : one_if (left.0.unit == n) ≡ 1 = ap (λ (m : ℕ). one_if (m == n)) here ∙ one-here n in
        absurd (omega (arith, hand.waiters.count n, times-at (λ (z : Waiting). z.waiter.unit) waiting k x at, ap (waits_at n) came, one, sound.records.once n))
    was k x at (suc j) y e there = (j, there)

-- lists that are the same make the same hand
pub hand-moved : (g : Plan) (w : View) (a a' : List Waiting) (b b' : List Linkable) (o o' : List Owner) (s s' : List Stage) → a' ≡ a → b' ≡ b → o' ≡ o → s' ≡ s → HasHand g a b o s w → HasHand g a' b' o' s' w
hand-moved g w a a' b b' o o' s s' ea eb eo es hand = subst (λ (l : List Waiting). HasHand g l b' o' s' w) (sym ea) (subst (λ (l : List Linkable). HasHand g a l o' s' w) (sym eb)
    (subst (λ (l : List Owner). HasHand g a b l s' w) (sym eo) (subst (λ (l : List Stage). HasHand g a b o l w) (sym es) hand)))
