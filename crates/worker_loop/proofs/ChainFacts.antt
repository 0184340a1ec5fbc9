-- The chain of records that waited for a task that ended.
use Rattle.std.proofs.Common.{◌≡◌, ◌∙◌, ℕ, ◌≤◌, ◌&&◌, Bool, true, false, cond, List, [], ◌∷◌, length, refl, sym, ap, subst, arith}
use Rattle.std.proofs.lemmas.Bool.{eq-eqb}
use Rattle.record_core.specs.Counting.{Has, dropped}
use Rattle.frame_code.specs.Units.{named_in}
use Rattle.ready_queues.specs.declared.entry.Entry.{Entry}
use Rattle.table_core.specs.Views.{IsIdle}
use Rattle.table_core.specs.WaitViews.{same_list, with_chain}
use Rattle.table_core.specs.declared.setup.Setup.{Setup}
use Rattle.table_core.specs.declared.view.View.{View}
use Rattle.step_table.specs.ListHands.{HasChain, IsChain}
use Rattle.step_table.specs.declared.record_tokens.Chain.{Chain}
use Rattle.schedule_core.specs.Completing.{Completes, GivesFirst}
use Rattle.schedule_core.specs.FrameWords.{OnlySees}
use Rattle.schedule_core.specs.declared.answers.Outcome.{Outcome}
use Rattle.schedule_core.specs.declared.running.Running.{Running}
use Rattle.worker_loop.specs.Working.{others, RunsAlone, HasOnlyChain}
use Rattle.worker_loop.proofs.HandFacts.{idle-of, dropped-run, less-all}

list-self : (l : List ℕ) → same_list l l ≡ true
list-self [] = refl
list-self (x ∷ l) = (λ k. eq-eqb x x refl k && list-self l k)

-- a task that ended leaves its chain alone
pub ended-chain : (g : Setup) (x : Running) (outcome : Outcome) (old : View) (chain : Chain) (new : View) → RunsAlone g x [] old → Completes g x outcome old chain new → HasOnlyChain g chain new
ended-chain g x outcome old chain new a has = record {
  members = has.members;
  has = has.has;
  chains = ap (λ (v : View). v.chains) has.view_is ∙ ap (with_chain has.members) a.chains;
  none = ap others has.view_is ∙ a.none;
  runs = ap (λ (v : View). v.runs) has.view_is ∙ dropped-run x.started.unit old.runs a.in_step.run a.one a.in_step.at.there;
  futures = ap (λ (v : View). v.futures) has.view_is ∙ less-all old.futures (named_in g.checked x.frame.items) (λ w. omega (arith, a.bag w));
  answers = ap (λ (v : View). v.answers) has.view_is ∙ a.answers;
}

-- the chain without its first is all that there is then
pub given-chain : (g : Setup) (chain : Chain) (old : View) (left : Entry × Chain) (new : View) → HasOnlyChain g chain old → GivesFirst g chain old left new → HasOnlyChain g left.1 new
given-chain g chain old left new h gives =
    let first = gives h.members h.has in
    record {
      members = first.rest;
      has = first.has;
      chains = ap (λ (v : View). v.chains) first.view_is
          ∙ ap (λ (l : List (List ℕ)). with_chain first.rest (dropped (same_list (left.0.unit ∷ first.rest)) l)) (h.chains ∙ ap (λ (l : List ℕ). with_chain l []) first.first_is)
          ∙ ap (λ (b : Bool). with_chain first.rest (cond b [] ((left.0.unit ∷ first.rest) ∷ []))) (list-self (left.0.unit ∷ first.rest));
      none = ap others first.view_is ∙ h.none;
      runs = ap (λ (v : View). v.runs) first.view_is ∙ h.runs;
      futures = ap (λ (v : View). v.futures) first.view_is ∙ h.futures;
      answers = ap (λ (v : View). v.answers) first.view_is ∙ h.answers;
    }

pub chain-sees : (g : Setup) (chain : Chain) (old new : View) → HasOnlyChain g chain old → OnlySees old new → HasOnlyChain g chain new
chain-sees g chain old new h sees = record {
  members = h.members;
  has = stays h.members h.has;
  chains = ap (λ (v : View). v.chains) sees.view_is ∙ h.chains;
  none = ap others sees.view_is ∙ h.none;
  runs = ap (λ (v : View). v.runs) sees.view_is ∙ h.runs;
  futures = ap (λ (v : View). v.futures) sees.view_is ∙ h.futures;
  answers = ap (λ (v : View). v.answers) sees.view_is ∙ h.answers;
}
  where
    stays : (members : List ℕ) → HasChain g.plan chain old members → HasChain g.plan chain new members
    stays [] has = record { there = tt; first_is = has.first_is; length_is = has.length_is; near = has.near }
    stays (u ∷ us) has = record { there = subst (λ (l : List (List ℕ)). Has (u ∷ us) l) (sym (ap (λ (v : View). v.chains) sees.view_is)) has.there; first_is = has.first_is; length_is = has.length_is; near = has.near }

-- a chain without records is nothing
pub chain-none : (g : Setup) (chain : Chain) (v : View) → HasOnlyChain g chain v → (1 ≤ chain.length → ⊥) → IsIdle v
chain-none g chain v h empty = by h.members h.has.length_is h.chains
  where
    by : (members : List ℕ) → chain.length ≡ length members → v.chains ≡ with_chain members [] → IsIdle v
    by [] e chains = idle-of v h.none h.runs h.futures chains h.answers
    by (u ∷ us) e chains = absurd (empty (omega (arith, e)))

-- the value names that chain
pub has-chain : (g : Setup) (chain : Chain) (v : View) → HasOnlyChain g chain v → IsChain g.plan chain v
has-chain g chain v h = (h.members, h.has)

no : {A : Type 0} → false ≡ true → A
no e = cc

pub none-left : (g : Setup) (chain : Chain) (old new : View) → HasOnlyChain g chain old → new ≡ old → (1 ≤ chain.length → false ≡ true) → IsIdle new
none-left g chain old new h is empty = subst IsIdle (sym is) (chain-none g chain old h (λ low. no (empty low)))
