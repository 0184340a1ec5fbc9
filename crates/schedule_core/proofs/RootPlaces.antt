-- The record of the next root gets its number, is placed and named; or the limit is met.
use Rattle.std.proofs.Common.{◌≡◌, ◌∙◌, ℕ, suc, ◌+◌, ◌<◌, Bool, true, cond, Option, Some, None, List, [], ◌∷◌, ◌++◌, map, length, refl, sym, ap, subst, append_assoc, arith}
use Rattle.std.specs.Prelude.{slice_get, slice_index}
use Rattle.std.specs.Option.{option_to_list}
use Rattle.std.proofs.lemmas.Bool.{eq-eqb}
use Rattle.record_core.specs.Counting.{At, Has, times, dropped}
use Rattle.kt_words.specs.Capacity.{block_units}
use Rattle.task_syntax.specs.declared.program.Root.{Root as RootLine}
use Rattle.task_meaning.specs.Worths.{Accepted}
use Rattle.ready_queues.specs.declared.entry.Entry.{Entry}
use Rattle.frame_code.specs.Entries.{call_of, future_of}
use Rattle.frame_code.specs.Names.{names_of, named, present}
use Rattle.frame_code.specs.Words.{BodyOf, body_at}
use Rattle.frame_code.proofs.WayLaws.{entries-way}
use Rattle.table_core.specs.Addresses.{Addr, sum, units_of, root as word_of_root}
use Rattle.table_core.specs.Asking.{OfRoot, IsLimit}
use Rattle.table_core.specs.Holdings.{Made as MadeOf, RootSays, Record, Sight, SawTask}
use Rattle.table_core.specs.Holdings as says
use Rattle.table_core.specs.Pool.{superblock_of}
use Rattle.table_core.specs.RecordViews.{is_at, is_made_at, new_made, put_root, left_sights}
use Rattle.table_core.specs.Story.{IsAccepted}
use Rattle.table_core.specs.Views.{place, block, saw}
use Rattle.table_core.specs.declared.setup.Setup.{Setup}
use Rattle.table_core.specs.declared.view.View.{View}
use Rattle.table_core.proofs.BagFacts.{one-here}
use Rattle.schedule_rule.specs.Calls.{task_in, after_in}
use Rattle.schedule_rule.specs.Counts.{class_in}
use Rattle.schedule_rule.specs.DrawViews.{changed, drawn_for, drew_for_root, give_number}
use Rattle.schedule_rule.specs.Frames.{BagSound}
use Rattle.schedule_rule.specs.PlacingViews.{is_drawn, IsFirstFrame}
use Rattle.schedule_rule.specs.SoundViews.{SoundView}
use Rattle.schedule_rule.proofs.CoveringFacts.{more-cover}
use Rattle.schedule_rule.proofs.PlacingFactsFrames.{first-fits}
use Rattle.step_table.specs.DrawSteps.{DrewNumber, IsNewNumber, MayDrawForRoot}
use Rattle.step_table.specs.Passes.{view}
use Rattle.step_table.specs.PlacingSteps.{Placement, PlacedFor, ForRoot, IsFor, runs_past, placing_of}
use Rattle.step_table.specs.RecordHands.{HasFuture, MayUnmake}
use Rattle.step_table.specs.RootSteps.{MayAsk, Names}
use Rattle.step_table.specs.declared.pass.Pass.{Pass}
use Rattle.step_table.specs.declared.record_tokens.Future.{Future}
use Rattle.step_table.specs.declared.record_tokens.Made.{Made}
use Rattle.step_table.specs.declared.roots.RootWord.TheVariants as word
use Rattle.schedule_core.specs.Hosting.{says_next}
use Rattle.schedule_core.specs.Making.{MayFillNew, MayOffer, Offers, KnowsPredecessor, task_behind, waits_behind}
use Rattle.schedule_core.specs.NamedRoots.{SawLast}
use Rattle.schedule_core.specs.Numbers.{GaveBack}
use Rattle.schedule_core.specs.References.{HasEach}
use Rattle.schedule_core.specs.RootStages.{MayPlaceRoot, NamesLimit, NamesTask, units_of_task}
use Rattle.schedule_core.specs.SeenTasks.{task_seen, unit_behind}
use Rattle.schedule_core.specs.NewTasks.{call_made}
use Rattle.schedule_core.specs.declared.new_tasks.Given.TheVariants as wanted
use Rattle.schedule_core.specs.declared.hosting.RootTask.{RootTask}
use Rattle.schedule_core.specs.declared.making.Behind.{Behind}
use Rattle.schedule_core.proofs.ChangedRuns.{dropped-changed, first-changed}
use Rattle.schedule_core.proofs.Offering.{first-kept}
use Rattle.schedule_core.proofs.EachFacts.{no-heads-none, no-heads-on}
use Rattle.schedule_core.proofs.Placing.{drawn-later, enters-later, enters-more, has-before}
use Rattle.schedule_core.proofs.RootCalls.{is-root_call, passed-agrees}
use Rattle.schedule_core.proofs.SpawnCalls.{seen-has, were-seen}
use Rattle.schedule_core.proofs.SpawnFrames.{entry-names, some-present}
use Rattle.schedule_core.proofs.SpawnRequests.{first-names}
use Rattle.schedule_core.proofs.TakenUnits.{has-behind}

module _ (g : Setup) (root : ℕ) (line : RootLine) (made : Made) (x : RootTask) (placement : Placement) (v : View) (m : MayPlaceRoot g root line made x placement v) where
  abbrev u : ℕ
  u = made.unit

  -- the record in the making
  abbrev its : MadeOf
  its = new_made (block made.unit made.class true)

  placed_call : placement.call ≡ call_made (wanted.Call line.kind x.passed.items) x.behind v.sights
  placed_call = ap (λ (y : Placement). y.call) m.placement_is

  placed_for : placement.asked ≡ ForRoot
  placed_for = ap (λ (y : Placement). y.asked) m.placement_is

  -- the number may be drawn
  pub may-draw_root : MayDrawForRoot g u root placement.call v
  may-draw_root = subst (λ (call : Accepted). MayDrawForRoot g u root call v) (sym placed_call) (record {
    permission = m.permission;
    asked = m.asked;
    has_turn = m.next.has_turn;
    is_next = m.next.is_next;
    inside = m.next.inside;
    undrawn = m.next.undrawn;
    line = line;
    line_there = m.next.is_line;
    call_is = is-root_call g.checked line m.asked x v m.task m.seen m.behind_seen;
    made = record { made = its; at = m.at; unnumbered = refl; class_is = m.class_is };
  })

  -- and without one the record may be a block again
  pub may-unmake_root : MayUnmake g.plan u made.class v
  may-unmake_root = record { made = its; at = m.at; class_is = refl; no_number = refl; not_live = refl }

  module _ (found n : ℕ) where
    -- the view behind the draw
    abbrev pub root_view : View
    root_view = saw (sum 0) found (drew_for_root u root placement.call n v)

    -- the task of each future that is passed was seen
    passed-seen : (k w : ℕ) → At (present (map future_of x.passed.items)) k w → (t : ℕ) × (task_seen w v.sights ≡ Some t)
    passed-seen k w at = let there = has-before w (present (map future_of x.passed.items)) (option_to_list (unit_behind x.behind)) (k, at) in m.seen there.0 w there.1

    -- the frame is the first one of the call
    first : IsFirstFrame g.checked v placement.call (body_at g.checked (slice_index x.first.items))
    first = subst (λ (a : Accepted). IsFirstFrame g.checked v a (body_at g.checked (slice_index x.first.items))) (sym placed_call)
        (subst (IsFirstFrame g.checked v (call_made (wanted.Call line.kind x.passed.items) x.behind v.sights)) (sym m.task.entry) (record {
          passed = call_of line.kind x.passed.items;
          kind = refl;
          numbers = refl;
          futures = were-seen x.passed.items v passed-seen;
          is = refl;
          way = entries-way g.checked (call_of line.kind x.passed.items) m.formed m.kind_fits;
        }))

    first-there : IsFirstFrame g.checked root_view placement.call (body_at g.checked (slice_index x.first.items))
    first-there = first-kept g.checked v root_view refl placement.call (body_at g.checked (slice_index x.first.items)) first

    has-there : (w : ℕ) → Has w (units_of_task x) → HasFuture g.plan w root_view
    has-there w has = let h = m.has has.0 w has.1 in record { near = h.near; there = h.there }

    -- what the first frame names was passed
    held : HasEach g.plan (named g.checked (slice_index x.first.items)) root_view
    held k w at =
        let there = entry-names g.checked (call_of line.kind x.passed.items) w (subst (λ (b : BodyOf ℕ). Has w (names_of b)) m.task.entry (k, at)) in
        has-there w (has-before w (present (map future_of x.passed.items)) (option_to_list (unit_behind x.behind)) (some-present (map future_of x.passed.items) w there))

    class_is : made.class ≡ class_in g.checked (Some placement.call)
    class_is = m.class_is ∙ ap (λ (a : Accepted). class_in g.checked (Some a)) (sym placed_call)

    abbrev fills : IsNewNumber g.plan.limit n v → MayFillNew g made n (task_behind x.behind) x.first.items root_view
    fills is_new = record {
      rows = record {
        holding = give_number n its;
        at = record { is_block = m.at.is_block; there = first-changed (is_made_at u) (give_number n) (λ y. refl) v.made its m.at.there };
        numbered = refl;
        some = λ e. absurd (omega (arith, is_new.within.0, e));
        uncounted = refl;
        inside = is_new.within.1;
        lacks_task = omega (arith, is_new.task_written, one-here n);
        lacks_after = omega (arith, is_new.after_written, one-here n);
        call = placement.call;
        accepted = (0, refl);
        is_new = ap (λ (a : Accepted). task_in (Some a) n) placed_call;
        behind_is = sym (ap (λ (a : Accepted). after_in (Some a)) placed_call);
      };
      class_is = refl;
      frame = m.task.frame;
      fits = omega (arith, m.task.frame.size, first-fits g.checked x.first.items m.task.frame root_view placement.call first-there, ap block_units class_is);
      held = held;
    }

    knows : KnowsPredecessor g.plan x.behind root_view
    knows = by x.behind (λ w has. has-there w (has-behind w (present (map future_of x.passed.items)) (option_to_list (unit_behind x.behind)) has)) m.behind_seen
      where
        by : (o : Option Behind) → ((w : ℕ) → Has w (option_to_list (unit_behind o)) → HasFuture g.plan w root_view) → SawLast o v → KnowsPredecessor g.plan o root_view
        by None has last = tt
        by (Some b) has last = (has b.unit (0, refl), seen-has b.unit b.task v.sights last)

    -- all that is needed to place it
    may-offer_view : IsNewNumber g.plan.limit n v → SoundView g root_view → MayOffer g made n x.behind x.first.items placement root_view
    may-offer_view is_new sound = record {
      fills = fills is_new;
      words_are = ap (λ (y : Placement). y.words) m.placement_is;
      call_is = refl;
      drawn = drawn_for n u (OfRoot root);
      there = (0, refl);
      number_is = refl;
      first = first-there;
      names = first-names g.checked line.kind x.passed.items x.first.items m.formed m.valid m.kind_fits (passed-agrees g.checked root line m.asked x.passed.items m.valid m.next.is_line m.task.passes) m.task.entry;
      predecessor = knows;
      asked = subst (λ (a : PlacedFor). IsFor g (drawn_for n u (OfRoot root)) a root_view) (sym placed_for) (root, refl);
      covers = subst (λ (a : PlacedFor). BagSound g.checked (record { futures = u ∷ root_view.futures; runs = runs_past a root_view.runs })) (sym placed_for)
          (more-cover g.checked root_view.runs root_view.futures (u ∷ root_view.futures) (λ w. omega arith) sound.records.bag);
    }

-- behind the draw the record may be offered
pub may-offer_root : (g : Setup) (root : ℕ) (line : RootLine) (made it : Made) (x : RootTask) (placement : Placement) (n : ℕ) (v w : View) → MayPlaceRoot g root line made x placement v → it ≡ made
    → DrewNumber g.plan.limit n v w (drew_for_root made.unit root placement.call n v) → SoundView g w → MayOffer g it n x.behind x.first.items placement w
may-offer_root g root line made it x placement n v w m is d sound = subst (λ (y : Made). MayOffer g y n x.behind x.first.items placement w) (sym is)
    (subst (MayOffer g made n x.behind x.first.items placement) (sym d.view_is) (may-offer_view g root line made x placement v m d.found n d.is_new (subst (SoundView g) d.view_is sound)))

-- the limit may be said of the next root, once it was answered so
pub may-say_limit : (g : Setup) (root : ℕ) (asked : List RootSays) (v : View) → v.turn ≡ asked ∷ [] → length asked ≡ root → root < g.plan.roots → v.root_task ≡ 0 → Has (record { asker = OfRoot root; refusal = IsLimit }) v.answers
    → MayAsk g root word.Limit v
may-say_limit g root asked v turn next inside undrawn answered = record {
  asked = asked;
  has_turn = turn;
  is_next = sym next;
  inside = subst (λ (n : ℕ). n < g.plan.roots) (sym next) inside;
  may = tt;
  says = (undrawn, subst (λ (n : ℕ). Has (record { asker = OfRoot n; refusal = IsLimit }) v.answers) (sym next) answered);
}

module _ (g : Setup) (root : ℕ) (line : RootLine) (made : Made) (x : RootTask) (placement : Placement) (v : View) (m : MayPlaceRoot g root line made x placement v) (mid new : Pass) where
  -- the record was given back: the limit may be said
  pub may-say_back : GaveBack g made (OfRoot root) v (view mid) → MayAsk g root word.Limit (view mid)
  may-say_back gave = may-say_limit g root m.asked (view mid) (ap (λ (w : View). w.turn) gave.view_is ∙ m.next.has_turn) m.next.is_next m.next.inside (ap (λ (w : View). w.root_task) gave.view_is ∙ m.next.undrawn)
      (0, ap (λ (w : View). slice_get w.answers 0) gave.view_is)

  -- and then it is
  pub names-limit : GaveBack g made (OfRoot root) v (view mid) → Names root word.Limit mid new → NamesLimit g made v (view new)
  names-limit gave names = record {
    saw = ((word_of_root root, names.found) ∷ gave.saw.0, gave.saw.1, ap (λ (w : View). w.seen) whole ∙ ap (λ (l : List (Addr × ℕ)). (word_of_root root, names.found) ∷ l) gave.saw.2, (suc gave.saw.3.0, gave.saw.3.1), gave.saw.4);
    view_is = whole ∙ (λ k. record (says_next says.Limit v) {
      made = dropped (is_made_at made.unit) v.made;
      settles = place (superblock_of g.plan made.unit) made.class ∷ v.settles;
      cleared = v.cleared + 1;
      may_draw = 0;
      known = (sym whole k).known;
      seen = (sym whole k).seen;
    });
  }
    where
      whole : view new ≡ record (says_next says.Limit v) {
        made = dropped (is_made_at made.unit) v.made;
        settles = place (superblock_of g.plan made.unit) made.class ∷ v.settles;
        cleared = v.cleared + 1;
        may_draw = 0;
        known = (view mid).known;
        seen = (word_of_root root, names.found) ∷ (view mid).seen;
      }
      whole = names.view_is ∙ (λ k. saw (word_of_root root) names.found (put_root says.Limit (gave.view_is k)))

-- what is dropped stands first
first-is-dropped : (u : ℕ) (l : List ℕ) → dropped (is_at u) (u ∷ l) ≡ l
first-is-dropped u l = ap (λ (b : Bool). cond b l (u ∷ dropped (is_at u) l)) (eq-eqb u u refl)

module _ (g : Setup) (root : ℕ) (line : RootLine) (made : Made) (x : RootTask) (placement : Placement) (v : View) (m : MayPlaceRoot g root line made x placement v) (found n : ℕ)
    (sound : SoundView g (root_view g root line made x placement v m found n)) (is_new : IsNewNumber g.plan.limit n v) (future : Future) (entry : Option Entry) (mid : Pass)
    (offers : Offers g made n line.priority x.behind placement (root_view g root line made x placement v m found n) (future, entry) (view mid)) where
  abbrev w : ℕ
  w = made.unit

  abbrev drew : View
  drew = root_view g root line made x placement v m found n

  -- the record of its task may be named
  pub may-say_record : MayAsk g root (word.Record future) (view mid)
  may-say_record = record {
    asked = m.asked;
    has_turn = ap (λ (y : View). y.turn) offers.view_is ∙ m.next.has_turn;
    is_next = sym m.next.is_next;
    inside = subst (λ (k : ℕ). k < g.plan.roots) (sym m.next.is_next) m.next.inside;
    may = (subst (λ (k : ℕ). k < units_of g.plan) (sym offers.future_is) m.at.is_block.inside, omega (arith, one, one-here w));
    says = record {
      drawn = λ e. absurd (omega (arith, is_new.within.0, sym task_is ∙ e));
      sees = subst (λ (t : ℕ). Has (SawTask future.unit t) (view mid).sights) (sym task_is) (subst (λ (y : ℕ). Has (SawTask y n) (view mid).sights) (sym offers.future_is) offers.sees);
      spare = λ was. subst (BagSound g.checked) (λ k. record { futures = sym left k; runs = sym runs k }) sound.records.bag;
    };
  }
    where
      task_is : (view mid).root_task ≡ n
      task_is = ap (λ (y : View). y.root_task) offers.view_is

      futures : (view mid).futures ≡ w ∷ v.futures
      futures = ap (λ (y : View). y.futures) offers.view_is

      one : times future.unit (view mid).futures ≡ times w (w ∷ v.futures)
      one = λ k. times (offers.future_is k) (futures k)

      left : dropped (is_at future.unit) (view mid).futures ≡ v.futures
      left = (λ k. dropped (is_at (offers.future_is k)) (futures k)) ∙ first-is-dropped w v.futures

      runs : (view mid).runs ≡ v.runs
      runs = ap (λ (y : View). y.runs) offers.view_is ∙ ap (λ (a : PlacedFor). runs_past a v.runs) (ap (λ (y : Placement). y.asked) m.placement_is)

  -- and then it is
  pub names-task : (new : Pass) → n ≡ found + 1 → Names root (word.Record future) mid new → NamesTask g line.priority made x.behind x.first.items placement.call v entry (view new)
  names-task new is_next names = record {
    number = n;
    placed = record {
      within = is_new.within;
      steps = (word_of_root root, names.found) ∷ offers.steps ++ (sum 0, found) ∷ [];
      since = ap (λ (y : View). y.seen) whole ∙ ap (λ (l : List (Addr × ℕ)). (word_of_root root, names.found) ∷ l) (offers.since ∙ sym (append_assoc offers.steps ((sum 0, found) ∷ []) v.seen));
      drawn = drawn-later n ((word_of_root root, names.found) ∷ offers.steps) ((sum 0, found) ∷ []) (found, is_next, (0, refl));
      enters = enters-later w n line.priority x.behind entry ((word_of_root root, names.found) ∷ []) (offers.steps ++ (sum 0, found) ∷ []) (no-heads-on (word_of_root root) names.found [] (λ u e. cc) no-heads-none)
          (enters-more w n line.priority x.behind entry offers.steps ((sum 0, found) ∷ []) offers.enters);
    };
    facts = (
      offers.facts.0 ++ IsAccepted n placement.call ∷ [],
      ap (λ (y : View). y.facts) whole ∙ offers.facts.1 ∙ sym (append_assoc offers.facts.0 (IsAccepted n placement.call ∷ []) v.facts),
    );
    view_is = whole ∙ (λ k. record (says_next (Record w) v) {
      made = dropped-changed (is_made_at w) (give_number n) (λ y. refl) v.made k;
      runs = ap (λ (a : PlacedFor). runs_past a v.runs) (ap (λ (y : Placement). y.asked) m.placement_is) k;
      futures = first-is-dropped w v.futures k;
      drawn = drawn_is k;
      no_task = first-is-dropped n v.no_task k;
      no_after = first-is-dropped n v.no_after k;
      calls = (n, placement.call) ∷ v.calls;
      may_draw = 0;
      placings = placing_of (waits_behind x.behind) w n line.priority (ap (λ (y : Placement). y.words) m.placement_is k) ∷ v.placings;
      known = (sym whole k).known;
      facts = (sym whole k).facts;
      sights = (sym whole k).sights;
      tries = (sym whole k).tries;
      seen = (sym whole k).seen;
    });
  }
    where
      drawn_is : dropped (is_drawn n) (drawn_for n w (OfRoot root) ∷ v.drawn) ≡ v.drawn
      drawn_is = ap (λ (b : Bool). cond b v.drawn (drawn_for n w (OfRoot root) ∷ dropped (is_drawn n) v.drawn)) (eq-eqb n n refl)

      named-so : view new ≡ saw (word_of_root root) names.found (put_root (Record w) (view mid))
      named-so = names.view_is ∙ (λ k. saw (word_of_root root) names.found (put_root (Record (offers.future_is k)) (view mid)))

      whole : view new ≡ record (says_next (Record w) v) {
        made = dropped (is_made_at w) (changed (is_made_at w) (give_number n) v.made);
        runs = runs_past placement.asked v.runs;
        futures = dropped (is_at w) (w ∷ v.futures);
        drawn = dropped (is_drawn n) (drawn_for n w (OfRoot root) ∷ v.drawn);
        no_task = dropped (is_at n) (n ∷ v.no_task);
        no_after = dropped (is_at n) (n ∷ v.no_after);
        calls = (n, placement.call) ∷ v.calls;
        may_draw = 0;
        placings = placing_of (waits_behind x.behind) w n line.priority placement.words ∷ v.placings;
        known = (view mid).known;
        facts = (view mid).facts;
        sights = left_sights w (dropped (is_at w) (w ∷ v.futures)) (view mid).sights;
        tries = (view mid).tries;
        seen = (word_of_root root, names.found) ∷ (view mid).seen;
      }
      whole = named-so ∙ (λ k. saw (word_of_root root) names.found (put_root (Record w) (offers.view_is k)))

-- the same, of the pass behind the draw
module _ (g : Setup) (root : ℕ) (line : RootLine) (made it : Made) (x : RootTask) (placement : Placement) (n : ℕ) (v w : View) (m : MayPlaceRoot g root line made x placement v) (is : it ≡ made)
    (d : DrewNumber g.plan.limit n v w (drew_for_root made.unit root placement.call n v)) (sound : SoundView g w) (told : Future × Option Entry) (mid : Pass) (offers : Offers g it n line.priority x.behind placement w told (view mid)) where
  there : Offers g made n line.priority x.behind placement (root_view g root line made x placement v m d.found n) told (view mid)
  there = subst (λ (y : View). Offers g made n line.priority x.behind placement y told (view mid)) d.view_is (subst (λ (y : Made). Offers g y n line.priority x.behind placement w told (view mid)) is offers)

  pub may-say_drawn : MayAsk g root (word.Record told.0) (view mid)
  may-say_drawn = may-say_record g root line made x placement v m d.found n (subst (SoundView g) d.view_is sound) d.is_new told.0 told.1 mid there

  pub names-drawn : (new : Pass) → Names root (word.Record told.0) mid new → NamesTask g line.priority made x.behind x.first.items placement.call v told.1 (view new)
  names-drawn new names = names-task g root line made x placement v m d.found n (subst (SoundView g) d.view_is sound) d.is_new told.0 told.1 mid there new d.is_next names
