-- Tasks are seen for a new task, in whose record nothing changes.
use Rattle.std.proofs.Common.{◌≡◌, ◌∙◌, ℕ, zero, suc, ◌+◌, ◌<◌, ◌≤◌, ◌==◌, Bool, true, false, Option, Some, None, List, [], ◌∷◌, refl, sym, ap, subst, arith}
use Rattle.std.specs.Prelude.{IfSome, length, slice_index}
use Rattle.std.proofs.lemmas.Bool.{eqb-true}
use Rattle.std.proofs.lemmas.Option.{none-some}
use Rattle.record_core.specs.Counting.{At, Has, one_if, times}
use Rattle.record_core.proofs.TotalFacts.{none_there}
use Rattle.task_syntax.specs.declared.program.Program.{Program}
use Rattle.frame_code.specs.Frames.{IsFrame}
use Rattle.frame_code.specs.Names.{names_of, named}
use Rattle.frame_code.specs.Setting.{unit_of}
use Rattle.frame_code.specs.Units.{named_in}
use Rattle.frame_code.specs.Words.{BodyOf, OfKind, OfMembers, body_of}
use Rattle.table_core.specs.Addresses.{units_of}
use Rattle.table_core.specs.Lists.{Each}
use Rattle.table_core.specs.declared.setup.Setup.{Setup}
use Rattle.table_core.specs.declared.view.View.{View}
use Rattle.table_core.proofs.BagFacts.{one-here}
use Rattle.table_core.proofs.FrameReads.{names-few}
use Rattle.table_core.proofs.ListFacts.{same_some}
use Rattle.step_table.specs.RecordHands.{HasFuture}
use Rattle.step_table.specs.declared.record_tokens.Made.{Made}
use Rattle.schedule_core.specs.References.{HasEach}
use Rattle.schedule_core.specs.Runs.{IsInStep}
use Rattle.schedule_core.specs.SeenTasks.{SeesEach, task_seen, unit_behind}
use Rattle.schedule_core.specs.NewTasks.{IsMaking, MayMakeTask, MayPlaceTask, placement_of, class_given, units_given}
use Rattle.schedule_core.specs.Spawning.{named_if}
use Rattle.schedule_core.specs.declared.making.Behind.{Behind}
use Rattle.schedule_core.specs.declared.running.Running.{Running}
use Rattle.schedule_core.specs.declared.new_tasks.NewTask.{NewTask}
use Rattle.schedule_core.proofs.EachFacts.{grows-on}
use Rattle.schedule_core.proofs.SeeingTasks.{SeesBehind, seen-still}
use Rattle.schedule_core.proofs.SpawnFrames.{some-present, future-some}

-- a member stands once at least
pub has-times : (w : ℕ) (l : List ℕ) → Has w l → 1 ≤ times w l
has-times w [] has = absurd (none_there w has.1)
has-times w (x ∷ l) (zero, at) = omega (arith, one-here w, ap (λ (y : ℕ). one_if (y == w)) (same_some x w at))
has-times w (x ∷ l) (suc k, at) = omega (arith, has-times w l (k, at))

-- and what stands once is a member
pub times-has : (w : ℕ) (l : List ℕ) → 1 ≤ times w l → Has w l
times-has w [] some = absurd (omega (arith, some))
times-has w (x ∷ l) some = by (x == w) refl (λ s. times-has w l s)
  where
    by : (b : Bool) → (x == w) ≡ b → (1 ≤ times w l → Has w l) → Has w (x ∷ l)
    by true e deeper = (0, λ k. Some (eqb-true x w e k))
    by false e deeper = let t = deeper (omega (arith, some, ap one_if e)) in (suc t.0, t.1)

-- what a variable names is named by the frame
pub variable-named : (b : BodyOf ℕ) (y u : ℕ) → unit_of b y ≡ Some u → Has u (names_of b)
variable-named (OfKind q) y u is = some-present q.futures u (future-some q.futures y u is)
variable-named (OfMembers units next) y u is = absurd (none-some u is)

pub named-there : (p : Program) (words : List ℕ) (o : Option ℕ) (u : ℕ) → named_if p words o ≡ Some u → Has u (named_in p words)
named-there p words None u is = absurd (none-some u is)
named-there p words (Some y) u is = variable-named (body_of p words) y u is

module _ (g : Setup) (x : Running) (base : View) (s : IsInStep g x base) where
  -- the pass has a reference for what the frame names
  pub named-futures : (u : ℕ) → Has u (named_in g.checked x.frame.items) → 1 ≤ times u base.futures
  named-futures u has = omega (arith, has-times u (named_in g.checked x.frame.items) has, s.spare.there u)

  pub named-near : Each (λ u. u < units_of g.plan) base.futures → (u : ℕ) → Has u (named_in g.checked x.frame.items) → u < units_of g.plan
  named-near near u has = let t = times-has u base.futures (named-futures u has) in near t.0 u t.1

  pub named-has : (v : View) → v.futures ≡ base.futures → Each (λ u. u < units_of g.plan) base.futures → (u : ℕ) → Has u (named_in g.checked x.frame.items) → HasFuture g.plan u v
  named-has v is near u has = record { near = named-near near u has; there = subst (λ (l : List ℕ). 1 ≤ times u l) (sym is) (named-futures u has) }

module _ (g : Setup) (x : Running) (class : ℕ) (base : View) (made : Made) where
  -- tasks are seen while the record is made
  pub making-each : (units : List ℕ) (v w : View) → IsMaking g x class base made v → SeesEach units v w → IsMaking g x class base made w
  making-each units v w m sees = record {
    is_block = m.is_block;
    class_is = m.class_is;
    seen = grows-on base.seen v.seen w.seen m.seen sees.seen;
    looks = (m.looks.0, ap (λ (y : View). y.looks) sees.view_is ∙ m.looks.1);
    sights = grows-on base.sights v.sights w.sights m.sights sees.sights;
    facts = grows-on base.facts v.facts w.facts m.facts sees.facts;
    near = m.near;
    view_is = sees.view_is ∙ (λ k. record (m.view_is k) {
      sights = w.sights;
      facts = w.facts;
      seen = w.seen;
      looks = ap (λ (y : View). y.looks) (sym sees.view_is) k;
    });
  }

  pub making-behind : (b : Option Behind) (v w : View) → IsMaking g x class base made v → SeesBehind b v w → IsMaking g x class base made w
  making-behind None v w m is = subst (IsMaking g x class base made) (sym is) m
  making-behind (Some b) v w m sees = making-each [] v w m (record { each = λ k u at. absurd (none_there u at); sights = sees.1; facts = sees.2; seen = sees.3; view_is = sees.4 })

-- what was seen is seen still behind the sight of a predecessor
pub still-each : (units : List ℕ) (b : Option Behind) (v w : View) → ((k u : ℕ) → At units k u → (t : ℕ) × (task_seen u v.sights ≡ Some t)) → SeesBehind b v w
    → (k u : ℕ) → At units k u → (t : ℕ) × (task_seen u w.sights ≡ Some t)
still-each units None v w each is k u at = let t = each k u at in (t.0, ap (λ (y : View). task_seen u y.sights) is ∙ t.1)
still-each units (Some b) v w each sees k u at =
    let t = each k u at in let later = seen-still u t.0 sees.1.0 v.sights t.1 in (later.0, ap (task_seen u) sees.1.1 ∙ later.1)

pub behind-seen : (b : Option Behind) (v w : View) → SeesBehind b v w → IfSome b (λ (y : Behind). task_seen y.unit w.sights ≡ Some y.task)
behind-seen None v w is = tt
behind-seen (Some b) v w sees = sees.0

-- the task may be placed
pub may-place_task : (g : Setup) (x : Running) (made : Made) (new : NewTask) (behind : Option Behind) (v w z : View)
    → MayMakeTask g x made new v → SeesEach (units_given new.given) v w → SeesBehind behind w z → unit_behind behind ≡ new.behind
    → MayPlaceTask g x made new behind (placement_of g x made new behind z) z
may-place_task g x made new behind v w z may sees behind_sees behind_is = record {
  make = record {
    base = may.base;
    wants = may.wants;
    making = making-behind g x (class_given g.checked new.given) may.base made behind w z (making-each g x (class_given g.checked new.given) may.base made (units_given new.given) v w may.making sees) behind_sees;
  };
  seen = still-each (units_given new.given) behind w z sees.each behind_sees;
  behind_is = behind_is;
  behind_seen = behind-seen behind w z behind_sees;
  placement_is = refl;
}

module _ (g : Setup) (x : Running) (made : Made) (new : NewTask) (v : View) (may : MayMakeTask g x made new v) where
  futures_are : v.futures ≡ may.base.futures
  futures_are = ap (λ (y : View). y.futures) may.making.view_is

  -- what is given has references
  pub given-has : HasEach g.plan (units_given new.given) v
  given-has k u at = named-has g x may.base may.wants.in_step v futures_are may.making.near u (may.wants.named k u at)

  -- and the predecessor has one, also later
  pub behind-has : (w : View) → w.futures ≡ v.futures → IfSome new.behind (λ u. HasFuture g.plan u w)
  behind-has w is = by new.behind may.wants.behind
    where
      by : (o : Option ℕ) → IfSome o (λ u. Has u (named_in g.checked x.frame.items)) → IfSome o (λ u. HasFuture g.plan u w)
      by None there = tt
      by (Some u) there = named-has g x may.base may.wants.in_step w (is ∙ futures_are) may.making.near u there

-- the references of a first frame can be counted
pub names-fit : (p q : Program) (words : List ℕ) (old new : ℕ) → q ≡ p → IsFrame p words → new ≡ old → old + 64 ≤ 4294967296 → new + length (named q (slice_index words)) ≤ 4294967296
names-fit p q words old new same frame is room =
    omega (arith, ap (λ (r : Program). length (named r (slice_index words))) same, names-few p (slice_index words), frame.size, frame.few, is, room)
