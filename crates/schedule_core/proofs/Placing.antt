-- A new record is placed: it is ready, or it waits and joins the list of its predecessor.
use Rattle.std.proofs.Common.{◌≡◌, ◌∙◌, ◌⊎◌, inl, inr, ℕ, zero, suc, ◌≤◌, Bool, true, false, cond, Option, Some, None, List, [], ◌∷◌, ◌++◌, refl, sym, ap, subst, append_assoc}
use Rattle.std.specs.Prelude.{slice_get}
use Rattle.std.proofs.lemmas.Bool.{eq-eqb}
use Rattle.record_core.specs.Counting.{Has, times, dropped}
use Rattle.record_core.proofs.TotalFacts.{none_there}
use Rattle.kt_words.specs.HeadWords.{closed_word}
use Rattle.kt_words.specs.declared.state_word.StateWord.{StateWord}
use Rattle.task_syntax.specs.declared.value.Priority.{Priority}
use Rattle.task_syntax.specs.declared.value.Priority.TheVariants.{High, Regular, Low}
use Rattle.ready_queues.specs.declared.entry.Entry.{Entry}
use Rattle.table_core.specs.Addresses.{Addr, head, state, sum}
use Rattle.table_core.specs.Holdings.{Sight, SawTask, seen_at}
use Rattle.table_core.specs.Story.{IsAccepted}
use Rattle.table_core.specs.WaitViews.{is_waiter_at, new_waiter}
use Rattle.table_core.specs.declared.setup.Setup.{Setup}
use Rattle.table_core.specs.declared.view.View.{View}
use Rattle.schedule_rule.specs.SoundViews.{SoundView}
use Rattle.step_table.specs.Lookups.{waiter_in}
use Rattle.step_table.specs.Passes.{view}
use Rattle.step_table.specs.PlacingSteps.{Placement, placed_made, placing_of, word_placed, PlacesMade}
use Rattle.step_table.specs.RecordHands.{HasFuture}
use Rattle.step_table.specs.declared.pass.Pass.{Pass}
use Rattle.step_table.specs.declared.record_tokens.Future.{Future}
use Rattle.step_table.specs.declared.record_tokens.Made.{Made}
use Rattle.wait_lists.specs.Joining.{MayJoin}
use Rattle.wait_lists.proofs.JoinFacts.{has-behind}
use Rattle.schedule_core.specs.Entries.{entry_of, priority_at}
use Rattle.schedule_core.specs.Making.{MayPlaceNew, Enters, EntersClosed, FoundClosed, FoundDrawn, FoundOpen, JoinsBehind, PlacesNew, StaysOpen, waits_behind}
use Rattle.schedule_core.specs.References.{NoHeads}
use Rattle.schedule_core.specs.declared.making.Behind.{Behind}
use Rattle.schedule_core.proofs.EachFacts.{has-either}
use Rattle.schedule_core.proofs.Joining.{has-grown}
use Rattle.schedule_core.proofs.KeptSights.{kept-has}

-- what a list has, a longer one has that begins so
pub has-before : {A : Type 0} (x : A) (l more : List A) → Has x l → Has x (l ++ more)
has-before x [] more has = absurd (none_there x has.1)
has-before x (y ∷ l) more (zero, at) = (0, at)
has-before x (y ∷ l) more (suc k, at) = let t = has-before x l more (k, at) in (suc t.0, t.1)

-- the code of a priority tells it
pub priority-back : (priority : Priority) (word : StateWord) (n : ℕ) → word ≡ word_placed false n priority → priority_at word.priority ≡ priority
priority-back High word n is = ap (λ (w : StateWord). priority_at w.priority) is
priority-back Regular word n is = ap (λ (w : StateWord). priority_at w.priority) is
priority-back Low word n is = ap (λ (w : StateWord). priority_at w.priority) is

-- a list that stayed open did so with more steps before
stays-more : (unit u : ℕ) (steps more : List (Addr × ℕ)) → StaysOpen unit u steps → StaysOpen unit u (steps ++ more)
stays-more unit u steps more s = record {
  later = s.later;
  before = s.before ++ more;
  found = s.found;
  parts = ap (λ (l : List (Addr × ℕ)). l ++ more) s.parts ∙ append_assoc s.later ((state unit, s.found) ∷ s.before) more;
  unclosed = s.unclosed;
}

-- and with more steps afterwards, where none was on the head of a list
open-later : (u : ℕ) (front steps : List (Addr × ℕ)) → NoHeads front → FoundOpen u steps → FoundOpen u (front ++ steps)
open-later u front steps none opened = ((opened.0.0, has-behind (head u, opened.0.0) front steps opened.0.1), λ has. by (has-either (head u, closed_word) front steps has))
  where
    by : Has (head u, closed_word) front ⊎ Has (head u, closed_word) steps → ⊥
    by (inl t) = none u closed_word t
    by (inr t) = opened.1 t

stays-later : (unit u : ℕ) (front steps : List (Addr × ℕ)) → NoHeads front → StaysOpen unit u steps → StaysOpen unit u (front ++ steps)
stays-later unit u front steps none s = record {
  later = front ++ s.later;
  before = s.before;
  found = s.found;
  parts = ap (λ (l : List (Addr × ℕ)). front ++ l) s.parts ∙ sym (append_assoc front s.later ((state unit, s.found) ∷ s.before));
  unclosed = open-later u front s.later none s.unclosed;
}

-- one that was found closed was so in more steps
pub closed-more : (unit u : ℕ) (e : Entry) (steps more : List (Addr × ℕ)) → FoundClosed unit u e steps → FoundClosed unit u e (steps ++ more)
closed-more unit u e steps more f = record {
  closed = has-before (head u, closed_word) steps more f.closed;
  was = f.was;
  saw = has-before (state unit, f.was) steps more f.saw;
  waited = f.waited;
  priority_is = f.priority_is;
}

pub closed-later : (unit u : ℕ) (e : Entry) (front steps : List (Addr × ℕ)) → FoundClosed unit u e steps → FoundClosed unit u e (front ++ steps)
closed-later unit u e front steps f = record {
  closed = has-behind (head u, closed_word) front steps f.closed;
  was = f.was;
  saw = has-behind (state unit, f.was) front steps f.saw;
  waited = f.waited;
  priority_is = f.priority_is;
}

-- what is told of an entry is told with more steps before, and with more afterwards
pub enters-more : (unit number : ℕ) (priority : Priority) (behind : Option Behind) (told : Option Entry) (steps more : List (Addr × ℕ)) → Enters unit number priority behind told steps
    → Enters unit number priority behind told (steps ++ more)
enters-more unit number priority behind None steps more (b, is, stays) = (b, is, stays-more unit b.unit steps more stays)
enters-more unit number priority behind (Some e) steps more (unit_is, number_is, inl none) = (unit_is, number_is, inl none)
enters-more unit number priority behind (Some e) steps more (unit_is, number_is, inr (b, is, closed)) = (unit_is, number_is, inr (b, is, closed-more unit b.unit e steps more closed))

pub enters-later : (unit number : ℕ) (priority : Priority) (behind : Option Behind) (told : Option Entry) (front steps : List (Addr × ℕ)) → NoHeads front → Enters unit number priority behind told steps
    → Enters unit number priority behind told (front ++ steps)
enters-later unit number priority behind None front steps elsewhere (b, is, stays) = (b, is, stays-later unit b.unit front steps elsewhere stays)
enters-later unit number priority behind (Some e) front steps elsewhere (unit_is, number_is, inl none) = (unit_is, number_is, inl none)
enters-later unit number priority behind (Some e) front steps elsewhere (unit_is, number_is, inr (b, is, closed)) = (unit_is, number_is, inr (b, is, closed-later unit b.unit e front steps closed))

-- so it is with a draw that was found
pub drawn-more : (number : ℕ) (steps more : List (Addr × ℕ)) → FoundDrawn number steps → FoundDrawn number (steps ++ more)
drawn-more number steps more (found, is, has) = (found, is, has-before (sum 0, found) steps more has)

pub drawn-later : (number : ℕ) (front steps : List (Addr × ℕ)) → FoundDrawn number steps → FoundDrawn number (front ++ steps)
drawn-later number front steps (found, is, has) = (found, is, has-behind (sum 0, found) front steps has)

-- what was seen is kept of records to which a reference is left
kept-placed : (waits : Bool) (g : Setup) (made : Made) (number : ℕ) (priority : Priority) (x : Placement) (old new : Pass) → PlacesMade g waits made number priority x old new → (s : Sight) → Has s (view old).sights
    → 1 ≤ times (seen_at s) (view new).futures → Has s (view new).sights
kept-placed waits g made number priority x old new places s has some =
    let t = kept-has (placed_made waits g.checked made number x (view old)).futures (view old).sights s (subst (λ (v : View). 1 ≤ times (seen_at s) v.futures) places.view_is some) has in
    subst (λ (v : View). Has s v.sights) (sym places.view_is) (suc t.0, t.1)

-- the record is ready, behind no task
pub places-ready : (g : Setup) (made : Made) (number unit : ℕ) (behind : Option Behind) (x : Placement) (priority : Priority) (old new : Pass) (word : StateWord) (future : Future) → behind ≡ None → unit ≡ made.unit
    → word ≡ word_placed false number priority → future.unit ≡ made.unit → PlacesMade g false made number priority x old new → SoundView g (view new)
    → PlacesNew g made number priority behind x (view old) (future, Some (entry_of unit word)) (view new)
places-ready g made number unit behind x priority old new word future none unit_is word_is future_is places sound = record {
  future_is = future_is;
  steps = (state made.unit, places.found) ∷ [];
  since = ap (λ (v : View). v.seen) places.view_is;
  enters = (unit_is, ap (λ (w : StateWord). w.number) word_is, inl (none, priority-back priority word number word_is));
  facts = ([], ap (λ (v : View). v.facts) places.view_is);
  sees = (0, ap (λ (v : View). slice_get v.sights 0) places.view_is);
  kept = kept-placed false g made number priority x old new places;
  sound = sound;
  view_is = places.view_is
      ∙ (λ k. record (placed_made false g.checked made number x (view old)) {
        placings = placing_of (waits_behind (sym none k)) made.unit number priority x.words ∷ (view old).placings;
        facts = (sym places.view_is k).facts;
        sights = (sym places.view_is k).sights;
        tries = (sym places.view_is k).tries;
        seen = (sym places.view_is k).seen;
      });
}

module _ (g : Setup) (made : Made) (number : ℕ) (priority : Priority) (x : Placement) (b : Behind) (old mid : Pass) (places : PlacesMade g true made number priority x old mid) where
  abbrev u : ℕ
  u = made.unit

  its-waiter : waiter_in u (view mid).waiting ≡ Some (new_waiter u number)
  its-waiter = ap (λ (v : View). waiter_in u v.waiting) places.view_is ∙ ap (λ (t : Bool). cond t (Some (new_waiter u number)) (waiter_in u (view old).waiting)) (eq-eqb u u refl)

  its-task : Has (SawTask u number) (view mid).sights
  its-task = (0, ap (λ (v : View). slice_get v.sights 0) places.view_is)

  -- a record that waits may join the list of its predecessor
  pub may-join : (behind : Option Behind) (unit : ℕ) → behind ≡ Some b → unit ≡ u → MayPlaceNew g made number behind x old → MayJoin g.plan b.unit unit (view mid)
  may-join behind unit is unit_is may = subst (λ (w : ℕ). MayJoin g.plan b.unit w (view mid)) (sym unit_is) (record {
    future = record { near = has.near; there = subst (λ (v : View). 1 ≤ times b.unit v.futures) (sym places.view_is) has.there };
    waiter = new_waiter u number;
    at = record { near = m.0.at.is_block.inside; there = its-waiter };
    behind = (
      x.call,
      b.task,
      subst (λ (v : View). Has (IsAccepted number x.call) v.facts) (sym places.view_is) (subst (λ (n : ℕ). Has (IsAccepted n x.call) (view old).facts) m.0.number_is m.0.may.accepted),
      subst (λ (v : View). Has (SawTask b.unit b.task) v.sights) (sym places.view_is) m.3,
      m.1,
    );
  })
    where
      m : MayPlaceNew g made number (Some b) x old
      m = subst (λ (o : Option Behind). MayPlaceNew g made number o x old) is may

      has : HasFuture g.plan b.unit (placed_made true g.checked made number x (view old))
      has = m.2

  gone : dropped (is_waiter_at u) (new_waiter u number ∷ (view old).waiting) ≡ (view old).waiting
  gone = ap (λ (t : Bool). cond t (view old).waiting (new_waiter u number ∷ dropped (is_waiter_at u) (view old).waiting)) (eq-eqb u u refl)

  -- the record waits, or is ready where the list is closed
  pub places-waiting : (behind : Option Behind) (told : Option Entry) (future : Future) (unit : ℕ) (new : View) → behind ≡ Some b → unit ≡ u → future.unit ≡ u → JoinsBehind g unit b (view mid) told new
      → PlacesNew g made number priority behind x (view old) (future, told) new
  places-waiting behind told future unit new is unit_is future_is joined' = record {
    future_is = future_is;
    steps = joined.steps ++ ((state u, places.found) ∷ []);
    since = joined.since ∙ ap (λ (v : View). joined.steps ++ v.seen) places.view_is ∙ sym (append_assoc joined.steps ((state u, places.found) ∷ []) (view old).seen);
    enters = by told joined.enters;
    facts = (joined.facts.0, joined.facts.1 ∙ ap (λ (v : View). joined.facts.0 ++ v.facts) places.view_is);
    kept = λ s has some. has-grown s (view mid).sights new.sights joined.sights.0 joined.sights.1 (kept-placed true g made number priority x old mid places s has
        (subst (λ (l : List ℕ). 1 ≤ times (seen_at s) l) (ap (λ (v : View). v.futures) joined.view_is) some));
    sees = has-grown (SawTask u number) (view mid).sights new.sights joined.sights.0 joined.sights.1 its-task;
    sound = joined.sound;
    view_is = joined.view_is
        ∙ (λ k. record (places.view_is k) {
          waiting = dropped (is_waiter_at u) (places.view_is k).waiting;
          facts = new.facts;
          sights = new.sights;
          tries = new.tries;
          seen = new.seen;
        })
        ∙ (λ k. record (placed_made false g.checked made number x (view old)) {
          waiting = gone k;
          placings = placing_of (waits_behind (sym is k)) u number priority x.words ∷ (view old).placings;
          facts = new.facts;
          sights = new.sights;
          tries = new.tries;
          seen = new.seen;
        });
  }
    where
      joined : JoinsBehind g u b (view mid) told new
      joined = subst (λ (w : ℕ). JoinsBehind g w b (view mid) told new) unit_is joined'

      by : (o : Option Entry) → EntersClosed u b.unit (view mid) o joined.steps → Enters u number priority behind o (joined.steps ++ (state u, places.found) ∷ [])
      by None opened = (b, is, record { later = joined.steps; before = []; found = places.found; parts = refl; unclosed = opened })
      by (Some e) t = (t.0, t.1 (new_waiter u number) its-waiter, inr (b, is, closed-more u b.unit e joined.steps ((state u, places.found) ∷ []) t.2))
