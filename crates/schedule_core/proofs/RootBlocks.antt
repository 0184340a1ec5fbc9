-- A block is asked for the next root: a record is made in it, or the root's word says why there is none.
use Rattle.std.proofs.Common.{◌≡◌, ◌∙◌, ℕ, zero, suc, ◌+◌, ◌<◌, Option, Some, None, List, [], ◌∷◌, sym, ap, subst, arith}
use Rattle.std.specs.Prelude.{IfSome, slice_get, slice_index_or}
use Rattle.std.specs.List.{flat_map}
use Rattle.record_core.specs.RootEnds.{root_passed, root_waited, roots_named}
use Rattle.record_core.proofs.TotalFacts.{none_there}
use Rattle.task_syntax.specs.Form.{IsWellFormed}
use Rattle.task_syntax.specs.declared.program.Program.{Program}
use Rattle.task_syntax.specs.declared.program.Root.{Root as RootLine}
use Rattle.task_syntax.specs.declared.program.RootArgument.TheVariants as root_argument
use Rattle.table_core.specs.Addresses.{Addr, root as word_of_root}
use Rattle.table_core.specs.Holdings.{RootSays}
use Rattle.table_core.specs.Holdings as says
use Rattle.table_core.specs.Lists.{Each}
use Rattle.table_core.specs.RecordViews.{asked_by, put_root}
use Rattle.table_core.specs.Roots.{FirstMissing}
use Rattle.table_core.specs.Views.{place, saw}
use Rattle.table_core.specs.declared.setup.Setup.{Setup}
use Rattle.table_core.specs.declared.view.View.{View}
use Rattle.table_core.proofs.ListFacts.{each-append, same_some}
use Rattle.memory_pool.specs.Answers.{Gives, Refuses}
use Rattle.memory_pool.specs.Searches.{SeesMore}
use Rattle.step_table.specs.DrawSteps.{Asking, MaySeeDrawn}
use Rattle.step_table.specs.Passes.{view, block_of}
use Rattle.step_table.specs.RootSteps.{MayAsk, Names}
use Rattle.step_table.specs.declared.pass.Pass.{Pass}
use Rattle.step_table.specs.declared.record_tokens.Made.{Made}
use Rattle.step_table.specs.declared.roots.RootWord.TheVariants as word
use Rattle.step_table.specs.declared.tokens.Block.{Block}
use Rattle.schedule_core.specs.Begins.{HasBegun, MayMakeIn, MakesIn, MetLimit}
use Rattle.schedule_core.specs.Hosting.{Hosts, IsNextRoot, MeetsLimit, RefusesRoot, SkipsRoot, says_next}
use Rattle.schedule_core.specs.NamedRoots.{AreRoots, FirstWithout}
use Rattle.schedule_core.specs.RootStages.{asking_root}
use Rattle.schedule_core.specs.NewTasks.{kind_class}
use Rattle.schedule_core.specs.declared.answers.HostSpawned.{HostSpawned}
use Rattle.schedule_core.proofs.HostedRoots.{at-low, flat-member}
use Rattle.schedule_core.proofs.RootPlaces.{may-say_limit}

-- the next root of a turn, counted there
pub asking-next : (g : Setup) (root : ℕ) (line : RootLine) (asked : List RootSays) (base v : View) → IsNextRoot g root line asked base → v.turn ≡ base.turn → asking_root (asked_by v.turn) ≡ asking_root root
asking-next g root line asked base v next turn = ap asking_root (ap asked_by (turn ∙ next.has_turn) ∙ next.is_next)

module _ (g : Setup) (root : ℕ) (line : RootLine) (b : Block) (v base : View) (asked : List RootSays) (next : IsNextRoot g root line asked base) (gives : Gives g.plan (kind_class g.checked line.kind) base (block_of b) v) (later : SeesMore base v) where
  abbrev asking : Asking
  asking = asking_root (asked_by v.turn)

  asking-is : asking ≡ asking_root root
  asking-is = asking-next g root line asked base v next (ap (λ (y : View). y.turn) gives.view_is)

  -- the block's class is that of the kind
  gives-so : Gives g.plan b.class base (block_of b) v
  gives-so = subst (λ (c : ℕ). Gives g.plan c base (block_of b) v) (sym gives.of_class) gives

  -- a record may be made in the block
  pub may-make_next : MayMakeIn g b asking v
  may-make_next = record {
    base = base;
    gives = gives-so;
    later = later;
    may = subst (λ (a : Asking). MaySeeDrawn g a base) (sym asking-is) (record { asks = (asked, next.has_turn, next.is_next, next.inside, next.undrawn); moves = tt });
  }

  pub begun-so : (made : Made) (z : View) → MakesIn g b asking v (Some made) z → HasBegun g (kind_class g.checked line.kind) (asking_root root) base made z
  begun-so made z makes = subst (λ (c : ℕ). HasBegun g c (asking_root root) base made z) gives.of_class (subst (λ (a : Asking). HasBegun g b.class a base made z) asking-is (makes base gives-so later))

  met-so : (z : View) → MakesIn g b asking v None z → MetLimit g (kind_class g.checked line.kind) (asking_root root) base z
  met-so z makes = subst (λ (c : ℕ). MetLimit g c (asking_root root) base z) gives.of_class (subst (λ (a : Asking). MetLimit g b.class a base z) asking-is (makes base gives-so later))

  -- where the limit is met, the root's word may say so
  pub may-say_met : (z : View) → MakesIn g b asking v None z → MayAsk g root word.Limit z
  may-say_met z makes = let met = met-so z makes in
      may-say_limit g root asked z (ap (λ (y : View). y.turn) met.view_is ∙ next.has_turn) next.is_next next.inside (ap (λ (y : View). y.root_task) met.view_is ∙ next.undrawn) (0, ap (λ (y : View). slice_get y.answers 0) met.view_is)

  -- and then it does
  pub says-met : (mid new : Pass) → MakesIn g b asking v None (view mid) → Names root word.Limit mid new → MeetsLimit g.plan (kind_class g.checked line.kind) base (view new)
  says-met mid new makes names = record {
    saw = ((word_of_root root, names.found) ∷ met.saw.0, met.saw.1, ap (λ (y : View). y.seen) whole ∙ ap (λ (l : List (Addr × ℕ)). (word_of_root root, names.found) ∷ l) met.saw.2, (suc met.saw.3.0, met.saw.3.1), met.saw.4);
    looks = (met.looks.0, ap (λ (y : View). y.looks) whole ∙ met.looks.1);
    facts = (met.facts.0, ap (λ (y : View). y.facts) whole ∙ met.facts.1);
    superblock = met.superblock;
    settles = ([], ap (λ (y : View). y.settles) whole);
    view_is = whole ∙ (λ k. record (says_next says.Limit base) {
      wins = place met.superblock (kind_class g.checked line.kind) ∷ base.wins;
      settles = (sym whole k).settles;
      cleared = base.cleared + 1;
      may_draw = (sym whole k).may_draw;
      known = (sym whole k).known;
      sights = (sym whole k).sights;
      facts = (sym whole k).facts;
      seen = (sym whole k).seen;
      looks = (sym whole k).looks;
    });
  }
    where
      met : MetLimit g (kind_class g.checked line.kind) (asking_root root) base (view mid)
      met = met-so (view mid) makes

      whole : view new ≡ record (says_next says.Limit base) {
        wins = place met.superblock (kind_class g.checked line.kind) ∷ base.wins;
        settles = place met.superblock (kind_class g.checked line.kind) ∷ base.settles;
        cleared = base.cleared + 1;
        may_draw = (view mid).may_draw;
        known = (view mid).known;
        sights = (view mid).sights;
        facts = (view mid).facts;
        seen = (word_of_root root, names.found) ∷ (view mid).seen;
        looks = (view mid).looks;
      }
      whole = names.view_is ∙ (λ k. saw (word_of_root root) names.found (put_root says.Limit (met.view_is k)))

-- the pool has no block, and the root's word says so
pub says-null : (g : Setup) (root class : ℕ) (base : View) (mid new : Pass) → Refuses g.plan class base (view mid) → SeesMore base (view mid) → Names root word.Null mid new → RefusesRoot g.plan class base (view new)
says-null g root class base mid new refuses later names = record {
  saw = record {
    added = refuses.saw.added;
    since = ap (λ (y : View). y.looks) names.view_is ∙ refuses.saw.since;
    each = refuses.saw.each;
  };
  seen = ((word_of_root root, names.found) ∷ later.steps.0, ap (λ (y : View). y.seen) names.view_is ∙ ap (λ (l : List (Addr × ℕ)). (word_of_root root, names.found) ∷ l) later.steps.1);
  view_is = whole ∙ (λ k. record (says_next says.Null base) { looks = (sym whole k).looks; seen = (sym whole k).seen });
}
  where
    whole : view new ≡ record (says_next says.Null base) { looks = (view mid).looks; seen = (word_of_root root, names.found) ∷ (view mid).seen }
    whole = names.view_is ∙ (λ k. saw (word_of_root root) names.found (put_root says.Null (refuses.stays k)))

-- the roots that a root's line names are earlier ones
pub names-earlier : (p : Program) (at : ℕ) (line : RootLine) → IsWellFormed p → slice_get p.roots at ≡ Some line → Each (λ r. r < at) (roots_named line)
names-earlier p at line formed there =
    each-append (λ r. r < at) (flat_map root_passed line.arguments) (root_waited line.behind)
    (λ k r here. let t = flat-member line.arguments r (k, here) in (formed.roots at line there).arguments t.0 (root_argument.Root r) t.1) (by line.behind (formed.roots at line there).behind)
  where
    by : (o : Option ℕ) → IfSome o (λ earlier. earlier < at) → Each (λ r. r < at) (root_waited o)
    by None low k r here = absurd (none_there r here)
    by (Some s) low zero r here = subst (λ (n : ℕ). n < at) (same_some s r here) low
    by (Some s) low (suc k) r here = absurd (none_there r here)

pub names-roots : (p : Program) (at : ℕ) (line : RootLine) → IsWellFormed p → slice_get p.roots at ≡ Some line → AreRoots (roots_named line)
names-roots p at line formed there k r here = omega (arith, names-earlier p at line formed there k r here, at-low p.roots at line there, formed.roots_fit)

module _ (g : Setup) (root : ℕ) (line : RootLine) (asked : List RootSays) (v : View) (next : IsNextRoot g root line asked v) (formed : IsWellFormed g.checked) where
  -- the first root without a record is the first that is missing
  pub first-missing : (j : ℕ) → FirstWithout asked (roots_named line) (Some j) → FirstMissing g.checked asked root j
  first-missing j first = record {
    line = line;
    is_line = next.is_line;
    position = first.0;
    stands = first.1;
    earlier = names-earlier g.checked root line formed next.is_line first.0 j first.1;
    missing = first.2;
    before = λ k i low at. first.3 k i low at;
  }

  -- so the root may be skipped
  pub may-skip : (j : ℕ) → FirstWithout asked (roots_named line) (Some j) → MayAsk g root (word.Skipped j) v
  may-skip j first = record {
    asked = asked;
    has_turn = next.has_turn;
    is_next = sym next.is_next;
    inside = subst (λ (n : ℕ). n < g.plan.roots) (sym next.is_next) next.inside;
    may = subst (λ (n : ℕ). FirstMissing g.checked asked n j) (sym next.is_next) (first-missing j first);
    says = next.undrawn;
  }

  -- and then it is
  pub skips-root : (j : ℕ) (old new : Pass) → view old ≡ v → FirstWithout asked (roots_named line) (Some j) → Names root (word.Skipped j) old new → SkipsRoot g asked root j v (view new)
  skips-root j old new is first names = record { first = first-missing j first; found = names.found; view_is = names.view_is ∙ ap (λ (y : View). saw (word_of_root root) names.found (put_root (says.Skipped j) y)) is }

-- what is read at a place of a list is the member that stands there
read-there : {A : Type 0} (l : List A) (k : ℕ) (x y : A) → slice_get l k ≡ Some x → y ≡ slice_index_or l k y → y ≡ x
read-there [] k x y there is = absurd (none_there x there)
read-there (z ∷ l) zero x y there is = is ∙ same_some z x there
read-there (z ∷ l) (suc k) x y there is = read-there l k x y there is

module _ (g : Setup) (q : Program) (root : ℕ) (v : View) (shown : List RootLine) (x : RootLine) (same : q ≡ g.checked) (formed' : IsWellFormed q) (shown_is : shown ≡ q.roots) (is : x ≡ slice_index_or shown root x) where
  formed : IsWellFormed g.checked
  formed = subst IsWellFormed same formed'

  module _ (line : RootLine) (asked : List RootSays) (next : IsNextRoot g root line asked v) where
    -- the line that is read is that of the root
    pub line-is : x ≡ line
    line-is = read-there shown root line x (subst (λ (l : List RootLine). slice_get l root ≡ Some line) (sym (shown_is ∙ ap (λ (p : Program). p.roots) same)) next.is_line) is

    pub read-next : IsNextRoot g root x asked v
    read-next = subst (λ (l : RootLine). IsNextRoot g root l asked v) (sym line-is) next

    pub read-roots : AreRoots (roots_named x)
    read-roots = names-roots g.checked root x formed read-next.is_line

    pub may-skip_read : (j : ℕ) → FirstWithout asked (roots_named x) (Some j) → MayAsk g root (word.Skipped j) v
    may-skip_read j first = may-skip g root x asked v read-next formed j first

    pub skips-read : (j : ℕ) (old new : Pass) → view old ≡ v → FirstWithout asked (roots_named x) (Some j) → Names root (word.Skipped j) old new → SkipsRoot g asked root j v (view new)
    skips-read j old new old_is first names = skips-root g root x asked v read-next formed j old new old_is first names

    pub hosts-read : (told : HostSpawned) (after : View) → Hosts g root x asked v told after → Hosts g root line asked v told after
    hosts-read told after hosts = subst (λ (l : RootLine). Hosts g root l asked v told after) line-is hosts
