-- The next root is asked for: references to the records of the roots that its line names are taken, and given back in the end.
use Rattle.std.proofs.Common.{◌≡◌, ◌∙◌, ℕ, zero, suc, ◌+◌, ◌^◌, ◌<◌, ◌≤◌, ◌==◌, Bool, true, cond, Option, Some, None, List, [], ◌∷◌, ◌++◌, map, length, refl, sym, ap, subst, append_assoc, arith}
use Rattle.std.specs.Prelude.{slice_get}
use Rattle.std.specs.List.{flat_map}
use Rattle.std.specs.Option.{option_to_list}
use Rattle.std.proofs.lemmas.Bool.{eq-eqb}
use Rattle.std.proofs.lemmas.List.{length-map}
use Rattle.record_core.specs.Counting.{At, Has, times, one_if, dropped}
use Rattle.record_core.specs.RootEnds.{root_passed, root_waited, roots_named}
use Rattle.record_core.proofs.TotalFacts.{none_there, total-append}
use Rattle.kt_words.specs.declared.plan.Plan.{Plan}
use Rattle.task_syntax.specs.Form.{IsWellFormed}
use Rattle.task_syntax.specs.Valid.{IsValid}
use Rattle.task_syntax.specs.declared.program.Program.{Program}
use Rattle.task_syntax.specs.declared.program.Root.{Root as RootLine}
use Rattle.task_syntax.specs.declared.program.RootArgument.{RootArgument}
use Rattle.task_syntax.specs.declared.program.RootArgument.TheVariants as root_argument
use Rattle.ready_queues.specs.declared.entry.Entry.{Entry}
use Rattle.frame_code.specs.Entries.{future_of, MayEnterWith}
use Rattle.frame_code.specs.Names.{present}
use Rattle.frame_code.specs.declared.entries.Passed.{Passed}
use Rattle.frame_code.specs.declared.entries.Passed.TheVariants as passed
use Rattle.table_core.specs.Addresses.{Addr, sum, task}
use Rattle.table_core.specs.Holdings.{Made as MadeOf, RootSays, Record, Sight, SawTask}
use Rattle.table_core.specs.Holdings as says
use Rattle.table_core.specs.Lists.{Each}
use Rattle.table_core.specs.Pool.{superblock_of}
use Rattle.table_core.specs.RecordViews.{is_made_at, new_made}
use Rattle.table_core.specs.Roots.{HasRecord}
use Rattle.table_core.specs.Views.{place, block}
use Rattle.table_core.specs.declared.setup.Setup.{Setup}
use Rattle.table_core.specs.declared.view.View.{View}
use Rattle.table_core.proofs.ListFacts.{each-append, at_map, same_some}
use Rattle.table_core.proofs.ReferenceBound.{units-few}
use Rattle.schedule_rule.specs.Frames.{BagSound}
use Rattle.schedule_rule.specs.PlacingViews.{less}
use Rattle.step_table.specs.Lookups.{made_in}
use Rattle.step_table.specs.RecordHands.{HasFuture, MadeAt}
use Rattle.step_table.specs.declared.record_tokens.Made.{Made}
use Rattle.step_table.specs.PlacingSteps.{placing_of}
use Rattle.schedule_core.specs.Making.{waits_behind}
use Rattle.schedule_core.specs.Begins.{HasBegun, SawLimit}
use Rattle.schedule_core.specs.Hosting.{ArePassedAs, IsPassedAs, IsNextRoot, IsBehindRoot, HaveRecords, HasHosted, MeetsLimit, Hosts, ReadsRoot, says_next}
use Rattle.schedule_core.specs.NamedRoots.{HaveRootRecords, SawLast, TakesUnits}
use Rattle.schedule_core.specs.References.{Grows, DropsEach, MayDropEach}
use Rattle.schedule_core.specs.RootStages.{IsRootTask, MayPlaceRoot, NamesLimit, NamesTask, PlacesRoot, asking_root, root_placement, units_of_task}
use Rattle.schedule_core.specs.SeenTasks.{task_seen, unit_behind}
use Rattle.schedule_core.specs.NewTasks.{call_made, kind_class}
use Rattle.schedule_core.specs.declared.new_tasks.Given.TheVariants as wanted
use Rattle.schedule_core.specs.declared.answers.HostSpawned.{HostSpawned}
use Rattle.schedule_core.specs.declared.answers.HostSpawned.TheVariants as hosted
use Rattle.schedule_core.specs.declared.hosting.RootTask.{RootTask}
use Rattle.schedule_core.specs.declared.making.Behind.{Behind}
use Rattle.schedule_core.proofs.EachFacts.{grows-on, less-parts, no-heads-both}
use Rattle.schedule_core.proofs.LessFacts.{less-front}
use Rattle.schedule_core.proofs.PassedRoots.{present-few}
use Rattle.schedule_core.proofs.Placing.{drawn-later, drawn-more, enters-later, enters-more, has-before}
use Rattle.schedule_core.proofs.RootCalls.{call-is, known_tasks, passed-agrees, seen-known, there-too}
use Rattle.schedule_core.proofs.SpawnEnds.{first-dropped}
use Rattle.schedule_core.proofs.SpawnFrames.{may-enter, some-present}
use Rattle.schedule_core.proofs.SpawnCalls.{seen-has}
use Rattle.schedule_core.proofs.SpawnSights.{has-times}
use Rattle.schedule_core.proofs.TakenUnits.{has-behind, seen-newer}

-- a member stands within the list
pub at-low : {A : Type 0} (l : List A) (k : ℕ) (x : A) → At l k x → k < length l
at-low [] k x at = absurd (none_there x at)
at-low (y ∷ l) zero x at = omega arith
at-low (y ∷ l) (suc k) x at = omega (arith, at-low l k x at)

-- what an argument names is passed by one
pub flat-member : (arguments : List RootArgument) (r : ℕ) → Has r (flat_map root_passed arguments) → Has (root_argument.Root r) arguments
flat-member [] r has = absurd (none_there r has.1)
flat-member (root_argument.Number n ∷ arguments) r has = let t = flat-member arguments r has in (suc t.0, t.1)
flat-member (root_argument.Root s ∷ arguments) r (zero, at) = (0, ap (λ (n : ℕ). Some (root_argument.Root n)) (same_some s r at))
flat-member (root_argument.Root s ∷ arguments) r (suc k, at) = let t = flat-member arguments r (k, at) in (suc t.0, t.1)

-- the roots that the next root's line names have records of the table
pub have-records : (g : Setup) (root : ℕ) (line : RootLine) (asked : List RootSays) (v w : View) (names : List ℕ) → IsWellFormed g.checked → IsNextRoot g root line asked v → w.turn ≡ v.turn → Each (HasRecord asked) names
    → HaveRootRecords g.plan names w
have-records g root line asked v w names formed next same have k r at =
    let h = have k r at in (
      omega (arith, at-low asked r (Record h.0) h.1, next.is_next, at-low g.checked.roots root line next.is_line, formed.roots_fit),
      record { asked = asked; has_turn = same ∙ next.has_turn; unit = h.0; there = h.1; near = next.near r h.0 h.1 },
    )

-- the view has changed in nothing that says which root is the next
pub next-kept : (g : Setup) (root : ℕ) (line : RootLine) (asked : List RootSays) (v w : View) → w.turn ≡ v.turn → w.root_task ≡ v.root_task → IsNextRoot g root line asked v → IsNextRoot g root line asked w
next-kept g root line asked v w turn drawn next = record {
  has_turn = turn ∙ next.has_turn;
  is_next = next.is_next;
  inside = next.inside;
  is_line = next.is_line;
  undrawn = drawn ∙ next.undrawn;
  near = next.near;
}

-- it may enter its kind
pub may-enter_root : (g : Setup) (q : Program) (root : ℕ) (line : RootLine) (asked : List RootSays) (given shown : List Passed) (v w : View) → q ≡ g.checked → IsWellFormed q → IsValid q → slice_get g.checked.roots root ≡ Some line
    → ArePassedAs asked line.arguments given → TakesUnits g.plan (present (map future_of given)) v w → shown ≡ given → MayEnterWith q line.kind shown
may-enter_root g q root line asked given shown v w same formed valid there are takes is = subst (MayEnterWith q line.kind) (sym is) (may-enter q line.kind given formed (formed.roots root line line_there).kind
    (passed-agrees q root line asked given valid line_there are) small)
  where
    line_there : slice_get q.roots root ≡ Some line
    line_there = subst (λ (p : Program). slice_get p.roots root ≡ Some line) (sym same) there

    present-has : (os : List (Option ℕ)) (k u : ℕ) → At os k (Some u) → Has u (present os)
    present-has [] k u at = absurd (none_there (Some u) at)
    present-has (None ∷ os) zero u at = let no : None ≡ Some u → ⊥ = λ e. cc in absurd (no (same_some None (Some u) at))
    present-has (None ∷ os) (suc k) u at = present-has os k u at
    present-has (Some x ∷ os) zero u at = (0, same_some (Some x) (Some u) at)
    present-has (Some x ∷ os) (suc k) u at = let t = present-has os k u at in (suc t.0, t.1)

    small : (k u : ℕ) → At (map future_of given) k (Some u) → u + 1 < 2 ^ 64
    small k u at = let t = present-has (map future_of given) k u at in omega (arith, units-few g.plan, takes.near t.0 u t.1)

-- the pass counts few references more
pub passed-few : (g : Plan) (arguments : List RootArgument) (asked : List RootSays) (given : List Passed) → ArePassedAs asked arguments given → length arguments ≤ 16 → length (present (map future_of given)) ≤ 16
passed-few g arguments asked given are few = omega (arith, are.length_is, few, present-few (map future_of given), length-map given future_of)

pub one-few : (o : Option ℕ) → length (option_to_list o) ≤ 1
one-few None = omega arith
one-few (Some u) = omega arith

-- references are given up in two parts
pub drops-both : (xs ys : List ℕ) (u v w : View) → DropsEach xs u v → DropsEach ys v w → DropsEach (xs ++ ys) u w
drops-both xs ys u v w first second = record {
  settles = grows-on u.settles v.settles w.settles first.settles second.settles;
  seen = grows-on u.seen v.seen w.seen first.seen second.seen;
  elsewhere = no-heads-both second.seen.0 first.seen.0 second.elsewhere first.elsewhere;
  view_is = second.view_is
      ∙ (λ k. record (first.view_is k) { futures = less (first.view_is k).futures ys; sights = w.sights; settles = w.settles; seen = w.seen })
      ∙ (λ k. record u { futures = sym (less-parts u.futures xs ys) k; sights = w.sights; settles = w.settles; seen = w.seen });
}

-- the limit was seen in some of the steps of a call
saw-between : (limit : ℕ) (u v w z : View) → Grows u.seen v.seen → SawLimit limit v w → Grows w.seen z.seen → SawLimit limit u z
saw-between limit u v w z before saw after = (
  after.0 ++ saw.0 ++ before.0,
  saw.1,
  after.1 ∙ ap (λ (l : List (Addr × ℕ)). after.0 ++ l) saw.2 ∙ ap (λ (l : List (Addr × ℕ)). after.0 ++ (saw.0 ++ l)) before.1
      ∙ ap (λ (l : List (Addr × ℕ)). after.0 ++ l) (sym (append_assoc saw.0 before.0 u.seen))
      ∙ sym (append_assoc after.0 (saw.0 ++ before.0) u.seen)
      ∙ ap (λ (l : List (Addr × ℕ)). l ++ u.seen) (sym (append_assoc after.0 saw.0 before.0)),
  has-before {A = Addr × ℕ} (sum 0, saw.1) (after.0 ++ saw.0) before.0 (has-behind {A = Addr × ℕ} (sum 0, saw.1) after.0 saw.0 saw.3),
  saw.4,
)

module _ (g : Setup) (root : ℕ) (line : RootLine) (made : Made) (v : View) (base : View) (asked : List RootSays) (next : IsNextRoot g root line asked base) (have : HaveRecords line asked)
    (begun : HasBegun g (kind_class g.checked line.kind) (asking_root root) base made v) where
  abbrev u : ℕ
  u = made.unit

  abbrev class : ℕ
  class = kind_class g.checked line.kind

  -- the turn is as it was
  pub begun-next : IsNextRoot g root line asked v
  begun-next = next-kept g root line asked base v (ap (λ (y : View). y.turn) begun.view_is) (ap (λ (y : View). y.root_task) begun.view_is) next

  module _ (x : RootTask) (z : View) (is_task : IsRootTask g.checked line asked x) (takes : TakesUnits g.plan (units_of_task x) v z) (last : SawLast x.behind z) where
    abbrev units : List ℕ
    units = units_of_task x

    taken-next : IsNextRoot g root line asked z
    taken-next = next-kept g root line asked v z (ap (λ (y : View). y.turn) takes.view_is) (ap (λ (y : View). y.root_task) takes.view_is) begun-next

    taken-has : (k w : ℕ) → At units k w → HasFuture g.plan w z
    taken-has k w at = record {
      near = takes.near k w at;
      there = omega (arith, has-times w units (k, at), takes.counts w, ap (λ (y : View). times w y.futures) takes.view_is, total-append (λ (n : ℕ). one_if (n == w)) takes.front v.futures);
    }

    taken-seen : (k w : ℕ) → At units k w → (t : ℕ) × (task_seen w z.sights ≡ Some t)
    taken-seen k w at = let t = takes.saw k w at in (t.0, ap (task_seen w) takes.sights ∙ seen-newer w t.0 takes.more v.sights t.1)

    -- the record may be placed
    pub may-place_root : IsWellFormed g.checked → IsValid g.checked → MayPlaceRoot g root line made x (root_placement line x z) z
    may-place_root formed valid = record {
      formed = formed;
      valid = valid;
      kind_fits = (formed.roots root line next.is_line).kind;
      asked = asked;
      next = taken-next;
      task = is_task;
      class_is = begun.class_is;
      at = subst (λ (c : ℕ). MadeAt g.plan u z (new_made (block u c true))) (sym begun.class_is) (record {
        is_block = begun.is_block;
        there = ap (λ (y : View). made_in u y.made) takes.view_is ∙ ap (λ (y : View). made_in u y.made) begun.view_is ∙ first-made;
      });
      permission = ap (λ (y : View). y.may_draw) takes.view_is ∙ ap (λ (y : View). y.may_draw) begun.view_is;
      has = taken-has;
      seen = taken-seen;
      behind_seen = last;
      placement_is = refl;
    }
      where
        first-made : made_in u (new_made (block u class true) ∷ base.made) ≡ Some (new_made (block u class true))
        first-made = ap (λ (b : Bool). cond b (Some (new_made (block u class true))) (made_in u base.made)) (eq-eqb u u refl)

    -- without the taken references those are left that were there
    left-taken : less (takes.front ++ v.futures) units ≡ v.futures
    left-taken = less-front takes.front units v.futures takes.counts

    -- they may be given up afterwards
    pub may-drop_taken : (a : View) → a.futures ≡ z.futures → a.runs ≡ z.runs → MayDropEach g units a
    may-drop_taken a futures runs = record {
      near = takes.near;
      there = λ w. omega (arith, takes.counts w, ap (λ (l : List ℕ). times w l) whole, total-append (λ (n : ℕ). one_if (n == w)) takes.front v.futures);
      bag = subst (BagSound g.checked) (λ k. record { futures = sym (ap (λ (l : List ℕ). less l units) whole ∙ left-taken) k; runs = sym (runs ∙ ap (λ (y : View). y.runs) takes.view_is) k }) begun.sound.records.bag;
    }
      where
        whole : a.futures ≡ takes.front ++ v.futures
        whole = futures ∙ ap (λ (y : View). y.futures) takes.view_is

    abbrev known : List (Option ℕ)
    known = known_tasks asked z.sights

    -- the view in which the record is made and the references are taken
    taken-is : z ≡ record base {
      made = new_made (block u class true) ∷ base.made;
      wins = place (superblock_of g.plan u) class ∷ base.wins;
      may_draw = 1;
      futures = takes.front ++ base.futures;
      sights = z.sights;
      facts = z.facts;
      seen = z.seen;
      looks = v.looks;
    }
    taken-is = takes.view_is ∙ (λ k. record (begun.view_is k) { futures = takes.front ++ (begun.view_is k).futures; sights = z.sights; facts = z.facts; seen = z.seen })

    left-base : less (takes.front ++ base.futures) units ≡ base.futures
    left-base = less-front takes.front units base.futures takes.counts

    seen-taken : Grows base.seen z.seen
    seen-taken = grows-on base.seen v.seen z.seen begun.seen (takes.steps, takes.since)

    facts-taken : Grows base.facts z.facts
    facts-taken = (takes.facts.0, takes.facts.1 ∙ ap (λ (y : View). takes.facts.0 ++ y.facts) begun.view_is)

    -- the task of a record that was taken was read in one of these steps
    read-unit : (r w : ℕ) → At asked r (Record w) → Has w units → ReadsRoot asked known takes.steps r
    read-unit r w at has =
        let t = takes.saw has.0 w has.1 in
        (w, t.0, at, seen-known z.sights asked r w at ∙ ap (task_seen w) takes.sights ∙ seen-newer w t.0 takes.more v.sights t.1, takes.read w t.0 (seen-has w t.0 takes.more t.1))

    -- so was the task of each root that the line names
    read-roots : Each (ReadsRoot asked known takes.steps) (roots_named line)
    read-roots = each-append (ReadsRoot asked known takes.steps) (flat_map root_passed line.arguments) (root_waited line.behind) (λ k r at. passed-read r (flat-member line.arguments r (k, at))) (waited-read line.behind x.behind is_task.behind
        (λ w has. has-behind w (present (map future_of x.passed.items)) (option_to_list (unit_behind x.behind)) has))
      where
        passed-read : (r : ℕ) → Has (root_argument.Root r) line.arguments → ReadsRoot asked known takes.steps r
        passed-read r has =
            let y = there-too line.arguments x.passed.items has.0 (root_argument.Root r) is_task.passes.length_is has.1 in
            let is : IsPassedAs asked (root_argument.Root r) y.0 = is_task.passes.each has.0 (root_argument.Root r) y.0 has.1 y.1 in
            read-unit r is.0 is.2 (has-before is.0 (present (map future_of x.passed.items)) (option_to_list (unit_behind x.behind))
            (some-present (map future_of x.passed.items) is.0 (has.0, at_map future_of x.passed.items has.0 (passed.Future is.0) (subst (λ (p : Passed). At x.passed.items has.0 p) is.1 y.1))))

        waited-read : (o : Option ℕ) (b : Option Behind) → IsBehindRoot asked o b → ((w : ℕ) → Has w (option_to_list (unit_behind b)) → Has w units) → Each (ReadsRoot asked known takes.steps) (root_waited o)
        waited-read None b is among k r at = absurd (none_there r at)
        waited-read (Some s) None is among k r at = absurd is
        waited-read (Some s) (Some b) is among zero r at = subst (ReadsRoot asked known takes.steps) (same_some s r at) (read-unit s b.unit is (among b.unit (0, refl)))
        waited-read (Some s) (Some b) is among (suc k) r at = absurd (none_there r at)

    -- with more steps before and behind
    read-more : (before after : List (Addr × ℕ)) (r : ℕ) → ReadsRoot asked known takes.steps r → ReadsRoot asked known (after ++ takes.steps ++ before) r
    read-more before after r (w, t, at, is, has) = (w, t, at, is, has-before {A = Addr × ℕ} (task w, t) (after ++ takes.steps) before (has-behind {A = Addr × ℕ} (task w, t) after takes.steps has))

    -- the limit is met
    meets-limit_root : (a n : View) → NamesLimit g made z a → DropsEach units a n → MeetsLimit g.plan class base n
    meets-limit_root a n names drops = record {
      saw = saw-between g.plan.limit base z a n seen-taken names.saw drops.seen;
      looks = (begun.looks.0, ap (λ (y : View). y.looks) whole ∙ begun.looks.1);
      facts = (facts-taken.0, ap (λ (y : View). y.facts) whole ∙ facts-taken.1);
      superblock = superblock_of g.plan u;
      settles = (drops.settles.0, drops.settles.1 ∙ ap (λ (l : List _). drops.settles.0 ++ l) settled);
      view_is = whole ∙ (λ k. record (says_next says.Limit base) {
        made = first-dropped u class base.made k;
        futures = left-base k;
        wins = place (superblock_of g.plan u) class ∷ base.wins;
        settles = n.settles;
        cleared = base.cleared + 1;
        may_draw = (sym whole k).may_draw;
        known = (sym whole k).known;
        sights = n.sights;
        facts = (sym whole k).facts;
        seen = n.seen;
        looks = (sym whole k).looks;
      });
    }
      where
        settled : a.settles ≡ place (superblock_of g.plan u) class ∷ base.settles
        settled = ap (λ (y : View). y.settles) names.view_is ∙ (λ k. place (superblock_of g.plan u) (begun.class_is k) ∷ (taken-is k).settles)

        whole : n ≡ record (says_next says.Limit base) {
          made = dropped (is_made_at u) (new_made (block u class true) ∷ base.made);
          futures = less (takes.front ++ base.futures) units;
          wins = place (superblock_of g.plan u) class ∷ base.wins;
          settles = n.settles;
          cleared = base.cleared + 1;
          may_draw = 0;
          known = a.known;
          sights = n.sights;
          facts = z.facts;
          seen = n.seen;
          looks = v.looks;
        }
        whole = drops.view_is
            ∙ (λ k. record (names.view_is k) { futures = less (names.view_is k).futures units; sights = n.sights; settles = n.settles; seen = n.seen })
            ∙ (λ k. record (says_next says.Limit (taken-is k)) {
              made = dropped (is_made_at u) (taken-is k).made;
              futures = less (taken-is k).futures units;
              settles = n.settles;
              cleared = (taken-is k).cleared + 1;
              may_draw = 0;
              known = a.known;
              sights = n.sights;
              seen = n.seen;
            })

    -- the task is there
    has-hosted : (a n : View) (entry : Option Entry) → NamesTask g line.priority made x.behind x.first.items (call_made (wanted.Call line.kind x.passed.items) x.behind z.sights) z entry a → DropsEach units a n → HasHosted g line asked base entry n
    has-hosted a n entry names drops = record {
      unit = u;
      number = names.number;
      is_block = begun.is_block;
      known = known;
      behind = x.behind;
      behind_is = is_task.behind;
      placed = record {
        within = names.placed.within;
        steps = (drops.seen.0 ++ names.placed.steps) ++ takes.steps ++ begun.seen.0;
        since = drops.seen.1 ∙ ap (λ (l : List (Addr × ℕ)). drops.seen.0 ++ l) (names.placed.since ∙ ap (λ (l : List (Addr × ℕ)). names.placed.steps ++ l) (takes.since ∙ ap (λ (l : List (Addr × ℕ)). takes.steps ++ l) begun.seen.1)) ∙ regroup;
        drawn = drawn-more names.number ((drops.seen.0 ++ names.placed.steps) ++ takes.steps) begun.seen.0
            (drawn-more names.number (drops.seen.0 ++ names.placed.steps) takes.steps (drawn-later names.number drops.seen.0 names.placed.steps names.placed.drawn));
        enters = enters-more u names.number line.priority x.behind entry ((drops.seen.0 ++ names.placed.steps) ++ takes.steps) begun.seen.0
            (enters-more u names.number line.priority x.behind entry (drops.seen.0 ++ names.placed.steps) takes.steps
            (enters-later u names.number line.priority x.behind entry drops.seen.0 names.placed.steps drops.elsewhere names.placed.enters));
      };
      passed = x.passed.items;
      passes = is_task.passes;
      words = x.first.items;
      is_frame = is_task.frame;
      first = is_task.entry;
      reads = λ k r at. read-more begun.seen.0 (drops.seen.0 ++ names.placed.steps) r (read-roots k r at);
      looks = (begun.looks.0, ap (λ (y : View). y.looks) whole ∙ begun.looks.1);
      facts = grows-on base.facts z.facts n.facts facts-taken (names.facts.0, ap (λ (y : View). y.facts) drops.view_is ∙ names.facts.1);
      settles = (drops.settles.0, drops.settles.1 ∙ ap (λ (y : View). drops.settles.0 ++ y.settles) names.view_is ∙ ap (λ (y : View). drops.settles.0 ++ y.settles) taken-is);
      view_is = whole ∙ (λ k. record (says_next (Record u) base) {
        made = first-dropped u class base.made k;
        futures = left-base k;
        calls = (names.number, call-is g.checked line asked x z is_task taken-seen last k) ∷ base.calls;
        wins = place (superblock_of g.plan u) class ∷ base.wins;
        settles = n.settles;
        may_draw = 0;
        placings = placing_of (waits_behind x.behind) u names.number line.priority x.first.items ∷ base.placings;
        looks = (sym whole k).looks;
        known = (sym whole k).known;
        sights = n.sights;
        facts = (sym whole k).facts;
        tries = (sym whole k).tries;
        seen = n.seen;
      });
    }
      where
        regroup : drops.seen.0 ++ (names.placed.steps ++ (takes.steps ++ (begun.seen.0 ++ base.seen))) ≡ ((drops.seen.0 ++ names.placed.steps) ++ takes.steps ++ begun.seen.0) ++ base.seen
        regroup = sym (append_assoc ((drops.seen.0 ++ names.placed.steps) ++ takes.steps) begun.seen.0 base.seen ∙ append_assoc (drops.seen.0 ++ names.placed.steps) takes.steps (begun.seen.0 ++ base.seen)
            ∙ append_assoc drops.seen.0 names.placed.steps (takes.steps ++ (begun.seen.0 ++ base.seen)))

        whole : n ≡ record (says_next (Record u) base) {
          made = dropped (is_made_at u) (new_made (block u class true) ∷ base.made);
          futures = less (takes.front ++ base.futures) units;
          calls = (names.number, call_made (wanted.Call line.kind x.passed.items) x.behind z.sights) ∷ base.calls;
          wins = place (superblock_of g.plan u) class ∷ base.wins;
          settles = n.settles;
          may_draw = 0;
          placings = placing_of (waits_behind x.behind) u names.number line.priority x.first.items ∷ base.placings;
          looks = v.looks;
          known = a.known;
          sights = n.sights;
          facts = a.facts;
          tries = a.tries;
          seen = n.seen;
        }
        whole = drops.view_is
            ∙ (λ k. record (names.view_is k) { futures = less (names.view_is k).futures units; sights = n.sights; settles = n.settles; seen = n.seen })
            ∙ (λ k. record (says_next (Record u) (taken-is k)) {
              made = dropped (is_made_at u) (taken-is k).made;
              futures = less (taken-is k).futures units;
              calls = (names.number, call_made (wanted.Call line.kind x.passed.items) x.behind z.sights) ∷ (taken-is k).calls;
              settles = n.settles;
              may_draw = 0;
              placings = placing_of (waits_behind x.behind) u names.number line.priority x.first.items ∷ (taken-is k).placings;
              known = a.known;
              sights = n.sights;
              facts = a.facts;
              tries = a.tries;
              seen = n.seen;
            })

    -- what comes of the root
    pub hosts-made : (told : HostSpawned) (a n : View) → PlacesRoot g line made x (root_placement line x z) z told a → DropsEach units a n → Hosts g root line asked base told n
    hosts-made (hosted.Named entry) a n places drops = has-hosted a n entry places drops
    hosts-made hosted.Over a n places drops = (have, meets-limit_root a n places drops)
    hosts-made hosted.Null a n places drops = absurd places
    hosts-made (hosted.Skipped j) a n places drops = absurd places

    -- what a placing leaves of the references and the runs
    pub placed-futures : (told : HostSpawned) (a : View) → PlacesRoot g line made x (root_placement line x z) z told a → (a.futures ≡ z.futures) × (a.runs ≡ z.runs)
    placed-futures (hosted.Named entry) a places = (ap (λ (y : View). y.futures) places.view_is, ap (λ (y : View). y.runs) places.view_is)
    placed-futures hosted.Over a places = (ap (λ (y : View). y.futures) places.view_is, ap (λ (y : View). y.runs) places.view_is)
    placed-futures hosted.Null a places = absurd places
    placed-futures (hosted.Skipped j) a places = absurd places
