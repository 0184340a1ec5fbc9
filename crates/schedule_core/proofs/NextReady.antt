-- The first record of a chain is ready.
use Rattle.std.proofs.Common.{◌≡◌, ◌∙◌, ℕ, Bool, cond, Some, List, [], ◌∷◌, ◌++◌, refl, sym, ap, subst}
use Rattle.std.specs.Prelude.{slice_get}
use Rattle.std.proofs.lemmas.Bool.{eq-eqb}
use Rattle.record_core.specs.Counting.{Has, dropped}
use Rattle.kt_words.specs.declared.plan.Plan.{Plan}
use Rattle.kt_words.specs.declared.state_word.StateWord.{StateWord}
use Rattle.ready_queues.specs.declared.entry.Entry.{Entry}
use Rattle.table_core.specs.Addresses.{Addr, state, next}
use Rattle.table_core.specs.WaitLists.{link_to}
use Rattle.table_core.specs.WaitViews.{is_waiter_at, new_waiter, with_chain, same_list}
use Rattle.table_core.specs.declared.setup.Setup.{Setup}
use Rattle.table_core.specs.declared.view.View.{View}
use Rattle.step_table.specs.ListHands.{StandsChain, HasChain}
use Rattle.step_table.specs.ListSteps.{Unchains}
use Rattle.step_table.specs.Lookups.{waiter_in}
use Rattle.step_table.specs.Passes.{view}
use Rattle.step_table.specs.RecordHands.{WaiterAt}
use Rattle.step_table.specs.SeeingSteps.{MayReady, Readies}
use Rattle.step_table.specs.declared.pass.Pass.{Pass}
use Rattle.step_table.specs.declared.record_tokens.Chain.{Chain}
use Rattle.step_table.specs.declared.record_tokens.Linkable.{Linkable}
use Rattle.schedule_rule.specs.LifeViews.{MayStart}
use Rattle.schedule_rule.specs.SeeingViews.{IsWaitingWord}
use Rattle.schedule_core.specs.Completing.{GivesNext}
use Rattle.schedule_core.specs.Entries.{entry_of, priority_at}

-- a chain of the hand is one where the chains are the same
stands-same : (members : List ℕ) (v w : View) → w.chains ≡ v.chains → StandsChain members v → StandsChain members w
stands-same [] v w same there = there
stands-same (u ∷ us) v w same there = subst (λ (l : List (List ℕ)). Has (u ∷ us) l) (sym same) there

pub chain-same : (g : Plan) (chain : Chain) (v w : View) (members : List ℕ) → w.chains ≡ v.chains → HasChain g chain v members → HasChain g chain w members
chain-same g chain v w members same has = record { there = stands-same members v w same has.there; first_is = has.first_is; length_is = has.length_is; near = has.near }

module _ (g : Setup) (members : List ℕ) (chain : Chain) (old now : Pass) (left : Linkable × Chain) (has : HasChain g.plan chain (view old) members) (takes : Unchains g.plan members old left now) where
  abbrev u : ℕ
  u = left.0.unit

  -- it waits in the hand
  next-at : WaiterAt g.plan u (view now) (new_waiter u takes.number)
  next-at = record {
    near = has.near 0 u (ap (λ (l : List ℕ). slice_get l 0) takes.first_is);
    there = ap (λ (v : View). waiter_in u v.waiting) takes.view_is ∙ ap (λ (b : Bool). cond b (Some (new_waiter u takes.number)) (waiter_in u (view old).waiting)) (eq-eqb u u refl);
  }

  -- and may start
  pub next-waits : MayReady g.plan u (view now)
  next-waits = record { waiter = new_waiter u takes.number; at = next-at; start = takes.may_start }

  none-left : dropped (is_waiter_at u) (view now).waiting ≡ (view old).waiting
  none-left = ap (λ (v : View). dropped (is_waiter_at u) v.waiting) takes.view_is
      ∙ ap (λ (b : Bool). cond b (view old).waiting (new_waiter u takes.number ∷ dropped (is_waiter_at u) (view old).waiting)) (eq-eqb u u refl)

  -- its word says its number
  numbered : (word : StateWord) (new : Pass) → Readies g.plan u now word new → word.number ≡ takes.number
  numbered word new readies = readies.number_is (new_waiter u takes.number) next-at

  -- it waited under the number that it is ready under
  waited-so : (n : ℕ) (word : StateWord) (new : Pass) (readies : Readies g.plan u now word new) → n ≡ word.number → IsWaitingWord n readies.was
  waited-so n word new readies is =
      subst (λ (k : ℕ). IsWaitingWord k readies.was) (sym (is ∙ numbered word new readies)) (readies.waited (new_waiter u takes.number) next-at)

  -- under this number it may start
  starts-so : (n : ℕ) (word : StateWord) (new : Pass) → Readies g.plan u now word new → n ≡ word.number → MayStart (view new) n
  starts-so n word new readies is =
      subst (λ (k : ℕ). MayStart (view new) k) (sym (is ∙ numbered word new readies)) (subst (λ (v : View). MayStart v takes.number) (sym readies.view_is) takes.may_start)

  -- once it is ready, the others are a chain
  pub next-gives : (word : StateWord) (new : Pass) (entry : Entry) → Readies g.plan u now word new → entry.unit ≡ u → entry ≡ entry_of entry.unit word
      → GivesNext g members (view old) (entry, left.1) (view new)
  next-gives word new entry readies unit_is is = record {
    rest = takes.rest;
    first_is = takes.first_is ∙ ap (λ (x : ℕ). x ∷ takes.rest) (sym unit_is);
    has = chain-same g.plan left.1 (view now) (view new) takes.rest (ap (λ (v : View). v.chains) readies.view_is) takes.has;
    more = takes.more;
    seen = (
      (state u, readies.found) ∷ (state u, readies.was) ∷ (next u, link_to takes.rest) ∷ [],
      ap (λ (v : View). v.seen) readies.view_is ∙ ap (λ (v : View). (state u, readies.found) ∷ (state u, readies.was) ∷ v.seen) takes.view_is,
    );
    was = readies.was;
    saw = subst (λ (x : ℕ). Has {X = Addr × ℕ} (state x, readies.was) ((state u, readies.found) ∷ (state u, readies.was) ∷ (next u, link_to takes.rest) ∷ [])) (sym unit_is) (1, refl);
    waited = waited-so entry.number word new readies (ap (λ (e : Entry). e.number) is);
    priority_is = ap (λ (e : Entry). e.priority) is ∙ ap priority_at readies.priority_is;
    start = starts-so entry.number word new readies (ap (λ (e : Entry). e.number) is);
    view_is = readies.view_is
        ∙ (λ k. record (takes.view_is k) { waiting = none-left k; seen = (state u, readies.found) ∷ (state u, readies.was) ∷ (view now).seen })
        ∙ (λ k. record (view old) {
          chains = with_chain takes.rest (dropped (same_list (sym unit_is k ∷ takes.rest)) (view old).chains);
          facts = takes.more ++ (view old).facts;
          seen = (sym readies.view_is k).seen;
        });
  }
