-- A waiter joins the list of its predecessor, or is ready where that is closed.
use Rattle.std.proofs.Common.{◌≡◌, ◌∙◌, inl, inr, ℕ, suc, Option, Some, None, List, [], ◌∷◌, ◌++◌, refl, sym, ap, subst}
use Rattle.std.specs.Prelude.{IfSome}
use Rattle.record_core.specs.Counting.{Has, dropped}
use Rattle.kt_words.specs.declared.plan.Plan.{Plan}
use Rattle.kt_words.specs.declared.state_word.StateWord.{StateWord}
use Rattle.ready_queues.specs.declared.entry.Entry.{Entry}
use Rattle.table_core.specs.Addresses.{Addr, state}
use Rattle.table_core.specs.Holdings.{Waiter, SawTask}
use Rattle.table_core.specs.Story.{IsAccepted}
use Rattle.table_core.specs.WaitViews.{is_waiter_at}
use Rattle.table_core.specs.declared.setup.Setup.{Setup}
use Rattle.table_core.specs.declared.view.View.{View}
use Rattle.schedule_rule.specs.LifeViews.{KnowsOver, MayStart}
use Rattle.schedule_rule.specs.SeeingViews.{IsWaitingWord}
use Rattle.schedule_rule.specs.SoundViews.{SoundView}
use Rattle.step_table.specs.Lookups.{waiter_in}
use Rattle.step_table.specs.Passes.{view}
use Rattle.step_table.specs.RecordHands.{WaiterAt}
use Rattle.step_table.specs.SeeingSteps.{MayReady, Readies}
use Rattle.step_table.specs.declared.pass.Pass.{Pass}
use Rattle.step_table.specs.declared.record_tokens.Linkable.{Linkable}
use Rattle.wait_lists.specs.Joining.{IsRelinked, MayJoin, Waits, SawClosed}
use Rattle.wait_lists.proofs.JoinFacts.{has-behind}
use Rattle.wait_lists.proofs.Relinking.{dropped-link_in}
use Rattle.schedule_core.specs.Entries.{entry_of, priority_at}
use Rattle.schedule_core.specs.Making.{JoinsBehind}
use Rattle.schedule_core.specs.declared.making.Behind.{Behind}

-- what a list had, it has where it grew
pub has-grown : {A : Type 0} (x : A) (old new more : List A) → new ≡ more ++ old → Has x old → Has x new
has-grown x old new more e has = subst (λ l. Has x l) (sym e) (has-behind x more old has)

-- it stands in the list
pub join-waits : (g : Setup) (unit : ℕ) (behind : Behind) (old new : View) → Waits behind.unit unit old new → SoundView g new → JoinsBehind g unit behind old None new
join-waits g unit behind old new waits sound = record {
  steps = waits.steps;
  since = waits.on_list.since;
  enters = (waits.looked, waits.unclosed);
  facts = ([], ap (λ (v : View). v.facts) waits.view_is);
  sights = waits.on_list.sights;
  sound = sound;
  view_is = waits.view_is
      ∙ (λ k. record old { waiting = dropped (is_waiter_at unit) old.waiting; facts = (sym waits.view_is k).facts; sights = new.sights; tries = new.tries; seen = new.seen });
}

-- where the list was found closed, it may be ready
pub may-ready : (g : Plan) (u unit : ℕ) (old mid : View) → MayJoin g u unit old → SawClosed u unit old mid → MayReady g unit mid
may-ready g u unit old mid may closed =
    let b = may.behind in let still = closed.still may.waiter may.at.there in
    record {
      waiter = still.waiter;
      at = record { near = may.at.near; there = still.there };
      start = subst (λ (n : ℕ). MayStart mid n) (sym still.number_is) (
        b.0,
        has-grown (IsAccepted may.waiter.number b.0) old.facts mid.facts closed.facts.0 closed.facts.1 b.2,
        subst (λ (o : Option ℕ). IfSome o (KnowsOver mid)) (sym b.4) (closed.over b.1 (has-grown (SawTask u b.1) old.sights mid.sights closed.on_list.sights.0 closed.on_list.sights.1 b.3)),
      );
    }

-- and then it is
pub join-closed : (g : Setup) (unit : ℕ) (behind : Behind) (old : View) (mid new : Pass) (word : StateWord) → MayJoin g.plan behind.unit unit old → SawClosed behind.unit unit old (view mid) → Readies g.plan unit mid word new
    → SoundView g (view new) → JoinsBehind g unit behind old (Some (entry_of unit word)) (view new)
join-closed g unit behind old mid new word may closed ready sound = record {
  steps = (state unit, ready.found) ∷ (state unit, ready.was) ∷ closed.steps;
  since = ap (λ (v : View). v.seen) ready.view_is ∙ ap (λ (l : List (Addr × ℕ)). (state unit, ready.found) ∷ (state unit, ready.was) ∷ l) closed.on_list.since;
  enters = (
    refl,
    λ w there. number w there,
    record {
      closed = (suc (suc closed.closed.0), closed.closed.1);
      was = ready.was;
      saw = (1, refl);
      waited = waited;
      priority_is = ap priority_at ready.priority_is;
    },
  );
  facts = (closed.facts.0, ap (λ (v : View). v.facts) ready.view_is ∙ closed.facts.1);
  sights = (closed.on_list.sights.0, ap (λ (v : View). v.sights) ready.view_is ∙ closed.on_list.sights.1);
  sound = sound;
  view_is = whole ∙ (λ k. record old { waiting = dropped_is k; facts = (sym whole k).facts; sights = (sym whole k).sights; tries = (sym whole k).tries; seen = (sym whole k).seen });
}
  where
    number : (w : Waiter) → waiter_in unit old.waiting ≡ Some w → word.number ≡ w.number
    number w there = let still = closed.still w there in ready.number_is still.waiter (record { near = may.at.near; there = still.there }) ∙ still.number_is

    waited : IsWaitingWord word.number ready.was
    waited =
        let still = closed.still may.waiter may.at.there in let at : WaiterAt g.plan unit (view mid) still.waiter = record { near = may.at.near; there = still.there } in
        subst (λ (n : ℕ). IsWaitingWord n ready.was) (sym (ready.number_is still.waiter at)) (ready.waited still.waiter at)

    dropped_is : dropped (is_waiter_at unit) (view mid).waiting ≡ dropped (is_waiter_at unit) old.waiting
    dropped_is = by closed.waiting
      where
        by : IsRelinked unit old.waiting (view mid).waiting → dropped (is_waiter_at unit) (view mid).waiting ≡ dropped (is_waiter_at unit) old.waiting
        by (inl same) = ap (λ l. dropped (is_waiter_at unit) l) same
        by (inr linked) = ap (λ l. dropped (is_waiter_at unit) l) linked.1 ∙ dropped-link_in unit linked.0 old.waiting

    whole : view new ≡ record old {
      waiting = dropped (is_waiter_at unit) (view mid).waiting;
      facts = (view mid).facts;
      sights = (view mid).sights;
      tries = (view mid).tries;
      seen = (state unit, ready.found) ∷ (state unit, ready.was) ∷ (view mid).seen;
    }
    whole = ready.view_is
        ∙ (λ k. record (closed.view_is k) {
          waiting = dropped (is_waiter_at unit) (view mid).waiting;
          facts = (view mid).facts;
          sights = (view mid).sights;
          tries = (view mid).tries;
          seen = (state unit, ready.found) ∷ (state unit, ready.was) ∷ (view mid).seen;
        })

-- the same by what the calls return
pub joins-closed : (g : Setup) (waiter back : Linkable) (unit : ℕ) (behind : Behind) (old : View) (mid new : Pass) (word : StateWord) (e : Entry) → back ≡ waiter → unit ≡ back.unit → e ≡ entry_of unit word
    → MayJoin g.plan behind.unit waiter.unit old → SawClosed behind.unit waiter.unit old (view mid) → Readies g.plan back.unit mid word new → SoundView g (view new) → JoinsBehind g waiter.unit behind old (Some e) (view new)
joins-closed g waiter back unit behind old mid new word e back_is unit_is e_is may closed ready sound =
    subst (λ (z : Entry). JoinsBehind g waiter.unit behind old (Some z) (view new)) (sym (e_is ∙ ap (λ (n : ℕ). entry_of n word) (unit_is ∙ ap (λ (l : Linkable). l.unit) back_is)))
    (join-closed g waiter.unit behind old mid new word may closed (subst (λ (l : Linkable). Readies g.plan l.unit mid word new) back_is ready) sound)
