-- A new record that is filled may be placed, and what it is to have been placed.
use Rattle.std.proofs.Common.{◌≡◌, ◌∙◌, ℕ, suc, ◌+◌, ◌^◌, ◌<◌, ◌≤◌, ◌==◌, Bool, true, false, Option, Some, None, List, ◌∷◌, ◌++◌, length, refl, sym, ap, subst, append_assoc, arith}
use Rattle.std.specs.Prelude.{IfSome, slice_index}
use Rattle.record_core.specs.Counting.{Has, times, dropped, one_if}
use Rattle.record_core.proofs.TotalFacts.{total-append}
use Rattle.task_syntax.specs.declared.program.Program.{Program}
use Rattle.task_syntax.specs.declared.value.Priority.{Priority}
use Rattle.task_meaning.specs.Worths.{Accepted, OfCall, OfAll, Respawn}
use Rattle.ready_queues.specs.declared.entry.Entry.{Entry}
use Rattle.frame_code.specs.Names.{named}
use Rattle.frame_code.specs.Words.{BodyOf, OfKind, OfMembers, body_at}
use Rattle.table_core.specs.Addresses.{refs, head, task}
use Rattle.table_core.specs.Asking.{Drawn}
use Rattle.table_core.specs.Holdings.{Made as MadeOf, Sight, SawTask}
use Rattle.table_core.specs.Own.{known_in}
use Rattle.table_core.specs.RecordViews.{is_at, is_made_at}
use Rattle.table_core.specs.Story.{IsAccepted}
use Rattle.table_core.specs.declared.setup.Setup.{Setup}
use Rattle.table_core.specs.declared.view.View.{View}
use Rattle.table_core.proofs.BagFacts.{times-dropped, one-here}
use Rattle.schedule_rule.specs.Calls.{after_in}
use Rattle.schedule_rule.specs.Frames.{BagSound}
use Rattle.schedule_rule.specs.LifeViews.{count_in, KnowsOver}
use Rattle.schedule_rule.specs.PlacingViews.{is_drawn, less, WasSeenAs, WereSeenAs, IsFirstFrame, IsPlaceable, MayStartUnless}
use Rattle.step_table.specs.Lookups.{made_in, run_in}
use Rattle.step_table.specs.Passes.{view}
use Rattle.step_table.specs.PlacingSteps.{Placement, PlacedFor, ForRun, ForRoot, IsFor, runs_past, placed_made, placing_of, MayPlaceMade}
use Rattle.step_table.specs.RecordHands.{MadeAt}
use Rattle.step_table.specs.declared.pass.Pass.{Pass}
use Rattle.step_table.specs.declared.record_tokens.Future.{Future}
use Rattle.step_table.specs.declared.record_tokens.Made.{Made}
use Rattle.step_table.proofs.LookupFacts.{made-there}
use Rattle.schedule_core.specs.Making.{MayOffer, FillsNew, MayPlaceNew, PlacesNew, Offers, KnowsPredecessor, task_behind, waits_behind}
use Rattle.schedule_core.specs.declared.making.Behind.{Behind}
use Rattle.schedule_core.proofs.ChangedRuns.{dropped-changed, first-changed}
use Rattle.schedule_core.proofs.LessFacts.{less-front}
use Rattle.schedule_core.proofs.Placing.{enters-more}
use Rattle.schedule_core.proofs.KeptSights.{kept-has}

-- a frame is the first one of a call in each view with the same sights
seen-kept : (v w : View) → w.sights ≡ v.sights → (unit task : Option ℕ) → WasSeenAs v unit task → WasSeenAs w unit task
seen-kept v w e (Some u) (Some t) was = subst (λ (l : List Sight). Has (SawTask u t) l) (sym e) was
seen-kept v w e (Some u) None was = was
seen-kept v w e None (Some t) was = was
seen-kept v w e None None was = tt

were-kept : (v w : View) → w.sights ≡ v.sights → (units tasks : List (Option ℕ)) → WereSeenAs v units tasks → WereSeenAs w units tasks
were-kept v w e units tasks were = record { length_is = were.length_is; each = λ k unit task at_unit at_task. seen-kept v w e unit task (were.each k unit task at_unit at_task) }

pub first-kept : (p : Program) (v w : View) → w.sights ≡ v.sights → (call : Accepted) (body : BodyOf ℕ) → IsFirstFrame p v call body → IsFirstFrame p w call body
first-kept p v w e (OfCall call waits) (OfKind q) first = record {
  passed = first.passed;
  kind = first.kind;
  numbers = first.numbers;
  futures = were-kept v w e first.passed.futures call.futures first.futures;
  is = first.is;
  way = first.way;
}
first-kept p v w e (OfAll members) (OfMembers units next) first = (were-kept v w e _ _ first.0, first.1)
first-kept p v w e (OfCall call waits) (OfMembers units next) first = first
first-kept p v w e (OfAll members) (OfKind q) first = first
first-kept p v w e (Respawn t waits) (OfKind q) first = first
first-kept p v w e (Respawn t waits) (OfMembers units next) first = first

-- who asked is in each view with the same runs
pub for-kept : (g : Setup) (d : Drawn) (v w : View) → w.runs ≡ v.runs → (asked : PlacedFor) → IsFor g d asked v → IsFor g d asked w
for-kept g d v w e (ForRun u past) is = record {
  run = is.run;
  at = record { is_block = is.at.is_block; there = ap (λ l. run_in u l) e ∙ is.at.there };
  asker_is = is.asker_is;
  moved = is.moved;
}
for-kept g d v w e ForRoot is = is

module _ (g : Setup) (made : Made) (number : ℕ) (behind : Option Behind) (words : List ℕ) (x : Placement) (old now : Pass) (may : MayOffer g made number behind words x (view old))
    (fills : FillsNew g.checked made number words (view old) (view now)) where
  abbrev v : View
  v = view old

  abbrev w : View
  w = view now

  abbrev u : ℕ
  u = made.unit

  abbrev h : MadeOf
  h = may.fills.rows.holding

  -- without what the frame takes, the references are those from before
  pub left : less w.futures (named g.checked (slice_index x.words)) ≡ v.futures
  left = ap (λ (t : View). less t.futures (named g.checked (slice_index x.words))) fills.view_is
      ∙ ap (λ (ws : List ℕ). less (fills.front ++ v.futures) (named g.checked (slice_index ws))) may.words_are
      ∙ less-front fills.front (named g.checked (slice_index words)) v.futures fills.counts

  counted : MadeAt g.plan u w (count_in h)
  counted = record {
    is_block = may.fills.rows.at.is_block;
    there = ap (λ (t : View). made_in u t.made) fills.view_is ∙ first-changed (is_made_at u) count_in (λ y. refl) v.made h may.fills.rows.at.there;
  }

  unit_is : h.unit ≡ u
  unit_is = (made-there u v.made h may.fills.rows.at.there).1

  accepted : Has (IsAccepted number x.call) w.facts
  accepted = subst (λ (t : View). Has (IsAccepted number x.call) t.facts) (sym fills.view_is) (subst (λ (c : Accepted). Has (IsAccepted number c) v.facts) (sym may.call_is) may.fills.rows.accepted)

  none-lacks : (l : List ℕ) → times number l ≡ 1 → times number (dropped (is_at number) l) ≡ 0
  none-lacks l one = omega (arith, one, one-here number, times-dropped number number l (omega (arith, one)))

  placeable : (unit : ℕ) → unit ≡ u → IsPlaceable g.checked w unit may.drawn x.words
  placeable unit is = subst (λ (z : ℕ). IsPlaceable g.checked w z may.drawn x.words) (sym is) (subst (λ (ws : List ℕ). IsPlaceable g.checked w u may.drawn ws) (sym may.words_are) (record {
    drawn = subst (λ (t : View). Has may.drawn t.drawn) (sym fills.view_is) may.there;
    task_row = ap (λ (n : ℕ). times n w.no_task) may.number_is ∙ ap (λ (t : View). times number t.no_task) fills.view_is ∙ none-lacks v.no_task may.fills.rows.lacks_task;
    after_row = ap (λ (n : ℕ). times n w.no_after) may.number_is ∙ ap (λ (t : View). times number t.no_after) fills.view_is ∙ none-lacks v.no_after may.fills.rows.lacks_after;
    is_frame = may.fills.frame;
    known = fills.knows.frame;
    held = λ n. omega (arith, fills.counts n, ap (λ (t : View). times n t.futures) fills.view_is, total-append (λ (y : ℕ). one_if (y == n)) fills.front v.futures);
    names = may.names;
  }))

  -- its number may be placed, where it may start if it does not wait
  places-made : (waits : Bool) → now.held < 2 ^ 63 → MayStartUnless waits w number → MayPlaceMade g waits made number x now
  places-made waits room starts = record {
    room = room;
    within = may.fills.rows.inside;
    drawn = may.drawn;
    number_is = may.number_is;
    holding = count_in h;
    at = counted;
    class_is = may.fills.class_is;
    may = record {
      has = (made-there u w.made (count_in h) counted.there).0;
      numbered = may.fills.rows.numbered ∙ sym may.number_is;
      counted = refl;
      placeable = placeable h.unit unit_is;
      references_known = ap (λ (n : ℕ). known_in (refs n) w.known) unit_is ∙ fills.knows.references;
      head_known = ap (λ (n : ℕ). known_in (head n) w.known) unit_is ∙ fills.knows.list;
      task_known = ap (λ (n : ℕ). known_in (task n) w.known) unit_is ∙ fills.knows.its_task ∙ ap (λ (n : ℕ). Some n) (sym may.number_is);
      accepted = subst (λ (n : ℕ). Has (IsAccepted n x.call) w.facts) (sym may.number_is) accepted;
      first = first-kept g.checked v w (ap (λ (t : View). t.sights) fills.view_is) x.call (body_at g.checked (slice_index x.words))
          (subst (λ (ws : List ℕ). IsFirstFrame g.checked v x.call (body_at g.checked (slice_index ws))) (sym may.words_are) may.first);
      starts = subst (λ (n : ℕ). MayStartUnless waits w n) (sym may.number_is) starts;
    };
    asked = for-kept g may.drawn v w (ap (λ (t : View). t.runs) fills.view_is) x.asked may.asked;
    covers = λ was. subst (BagSound g.checked) (λ k. record { futures = u ∷ sym left k; runs = runs_past x.asked (sym fills.view_is k).runs }) may.covers;
  }

  after_is : task_behind behind ≡ after_in (Some x.call)
  after_is = may.fills.rows.behind_is ∙ ap (λ (c : Accepted). after_in (Some c)) (sym may.call_is)

  -- the record may be placed
  pub may-place : now.held < 2 ^ 63 → MayPlaceNew g made number behind x now
  may-place room = by behind after_is may.predecessor
    where
      by : (o : Option Behind) → task_behind o ≡ after_in (Some x.call) → KnowsPredecessor g.plan o v → MayPlaceNew g made number o x now
      by None is knows = (places-made false room (x.call, accepted, subst (λ (t : Option ℕ). IfSome t (KnowsOver w)) is tt), sym is)
      by (Some b) is knows = (
        places-made true room tt,
        sym is,
        record { near = knows.0.near; there = enough b knows.0.there },
        has-later (SawTask u number) (SawTask b.unit b.task) _ (kept-has (u ∷ less w.futures (named g.checked (slice_index x.words))) w.sights (SawTask b.unit b.task) (enough b knows.0.there)
            (subst (λ (t : View). Has (SawTask b.unit b.task) t.sights) (sym fills.view_is) knows.1)),
      )
        where
          enough : (b' : Behind) → 1 ≤ times b'.unit v.futures → 1 ≤ times b'.unit (u ∷ less w.futures (named g.checked (slice_index x.words)))
          enough b' some = omega (arith, some, ap (λ (l : List ℕ). times b'.unit l) left)

          has-later : (s t : Sight) (l : List Sight) → Has t l → Has t (s ∷ l)
          has-later s t l has = (suc has.0, has.1)

  -- and what then has happened to it
  pub offers-new : (priority : Priority) (told : Future × Option Entry) (new : View) → PlacesNew g made number priority behind x w told new → Offers g made number priority behind x v told new
  offers-new priority told new placed = record {
    future_is = placed.future_is;
    steps = placed.steps ++ fills.seen.0;
    since = placed.since ∙ ap (λ l. placed.steps ++ l) fills.seen.1 ∙ sym (append_assoc placed.steps fills.seen.0 v.seen);
    enters = enters-more u number priority behind told.1 placed.steps fills.seen.0 placed.enters;
    facts = (placed.facts.0, placed.facts.1 ∙ ap (λ (t : View). placed.facts.0 ++ t.facts) fills.view_is);
    sees = placed.sees;
    kept = λ s has some. placed.kept s (subst (λ (t : View). Has s t.sights) (sym fills.view_is) has) some;
    sound = placed.sound;
    view_is = placed.view_is
        ∙ (λ k. record (placed_made false g.checked made number x (fills.view_is k)) {
          futures = u ∷ left k;
          placings = placing_of (waits_behind behind) u number priority x.words ∷ (fills.view_is k).placings;
          known = new_known k;
          facts = new.facts;
          sights = new.sights;
          tries = new.tries;
          seen = new.seen;
        })
        ∙ (λ k. record v {
          made = dropped-changed (is_made_at u) count_in (λ y. refl) v.made k;
          runs = runs_past x.asked v.runs;
          futures = u ∷ v.futures;
          drawn = dropped (is_drawn number) v.drawn;
          placings = placing_of (waits_behind behind) u number priority x.words ∷ v.placings;
          no_task = dropped (is_at number) v.no_task;
          no_after = dropped (is_at number) v.no_after;
          known = new.known;
          facts = new.facts;
          sights = new.sights;
          tries = new.tries;
          seen = new.seen;
        });
  }
    where
      new_known : (placed_made false g.checked made number x w).known ≡ new.known
      new_known = sym (ap (λ (t : View). t.known) placed.view_is)

-- the pass counts one reference more
pub offered-few : (g : Setup) (made : Made) (number : ℕ) (priority : Priority) (behind : Option Behind) (x : Placement) (old : Pass) (new : View) (told : Future × Option Entry) (held : ℕ) → held ≡ old.held → length (view old).futures ≤ old.held
    → Offers g made number priority behind x (view old) told new → length new.futures ≤ held + 1
offered-few g made number priority behind x old new told held held_is counted offers = omega (arith, held_is, counted, ap (λ (t : View). length t.futures) offers.view_is)
