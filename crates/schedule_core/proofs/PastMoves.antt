-- A running task goes past an act that puts a future into a variable, or drops it.
use Rattle.std.proofs.Common.{◌≡◌, ◌∙◌, ℕ, ◌==◌, Option, List, [], ◌++◌, refl, sym, ap, subst, arith}
use Rattle.std.specs.Prelude.{slice_index}
use Rattle.std.specs.Option.{option_to_list}
use Rattle.record_core.specs.Counting.{times, one_if}
use Rattle.record_core.proofs.TotalFacts.{total-append}
use Rattle.task_syntax.specs.Form.{IsWellFormed}
use Rattle.task_syntax.specs.declared.program.Program.{Program}
use Rattle.frame_code.specs.Calls.{IsPassedOn}
use Rattle.frame_code.specs.Frames.{IsFrame}
use Rattle.frame_code.specs.Moves.{passed_on}
use Rattle.frame_code.specs.Setting.{unit_in, with_future, IsSetFuture}
use Rattle.frame_code.specs.Units.{named_in}
use Rattle.frame_code.specs.Words.{BodyOf, OfKind, OfMembers, body_of}
use Rattle.table_core.specs.WaitViews.{is_run_at}
use Rattle.table_core.specs.declared.setup.Setup.{Setup}
use Rattle.table_core.specs.declared.view.View.{View}
use Rattle.schedule_rule.specs.DrawViews.{changed}
use Rattle.schedule_rule.specs.Frames.{HoldsNames}
use Rattle.schedule_rule.specs.LifeViews.{with_words}
use Rattle.schedule_rule.proofs.PlacingFacts.{times-less}
use Rattle.schedule_core.specs.Bags.{IsSpare}
use Rattle.schedule_core.specs.Moves.{HasLoose, DropsLoose, GoesPast, Names, Puts, set_past, unit_at, unmade}
use Rattle.schedule_core.specs.Runs.{IsInStep}
use Rattle.schedule_core.specs.declared.running.Running.{Running}
use Rattle.schedule_core.proofs.MovedTasks.{spare-fewer, in-step-at}
use Rattle.schedule_core.proofs.PastNames.{IsPast, StandsTouching, goes-past}
use Rattle.schedule_core.proofs.SpawnBlocks.{answered-in-step}

-- a future may be put into a variable before or after the act
commutes : (x : ℕ) (future : Option ℕ) (b : BodyOf ℕ) → passed_on (with_future x future b) ≡ with_future x future (passed_on b)
commutes x future (OfKind q) = refl
commutes x future (OfMembers units next) = refl

-- what is known of a running task whose variable was set and that went past its act: x before, and y then
pub record IsGone (g : Setup) (x : Running) (to : ℕ) (future : Option ℕ) (y : Running) : Type 0 where
  pub moved : y ≡ record x { frame = y.frame }
  pub frame : IsFrame g.checked y.frame.items
  pub body_is : body_of g.checked y.frame.items ≡ set_past g x to future
  pub names : HoldsNames g.checked (body_of g.checked y.frame.items)
  pub past : IsPast g.checked to future (body_of g.checked x.frame.items) (body_of g.checked y.frame.items)

pub is-gone : (g : Setup) (x y : Running) (v : View) (q : Program) (to : ℕ) (future : Option ℕ) (mid : List ℕ) → q ≡ g.checked → IsWellFormed q → IsInStep g x v → StandsTouching g.checked to (body_of g.checked x.frame.items)
    → y ≡ record x { frame = y.frame } → IsFrame q y.frame.items → IsSetFuture q to future x.frame.items mid → IsPassedOn q mid y.frame.items
    → HoldsNames g.checked (set_past g x to future) → IsGone g x to future y
is-gone g x y v q to future mid same formed s stands moved frame set passed names = record {
  moved = moved;
  frame = subst (λ (p : Program). IsFrame p y.frame.items) same frame;
  body_is = is;
  names = subst (HoldsNames g.checked) (sym is) names;
  past = subst (IsPast g.checked to future (body_of g.checked x.frame.items)) (sym is) (goes-past g.checked (slice_index x.frame.items) to (subst IsWellFormed same formed) future stands s.way);
}
  where
    is : body_of g.checked y.frame.items ≡ set_past g x to future
    is = subst (λ (p : Program). body_of p y.frame.items ≡ with_future to future (passed_on (body_of p x.frame.items))) same (passed ∙ ap passed_on set ∙ commutes to future (body_of q x.frame.items))

module _ (g : Setup) (x y : Running) (to : ℕ) (future before : Option ℕ) (v : View) (gone : IsGone g x to future y) (s : IsInStep g x v) (spare : IsSpare g.checked x.started.unit (option_to_list future ++ named_in g.checked x.frame.items) v)
    (before_is : before ≡ unit_in g.checked x.frame.items to) where
  unit-same : y.started.unit ≡ x.started.unit
  unit-same = ap (λ (z : Running). z.started.unit) gone.moved

  left-is : (w : ℕ) → times w (option_to_list before) ≡ times w (unit_at g x to)
  left-is w = ap (λ (o : Option ℕ). times w (option_to_list o)) before_is

  fewer : (w : ℕ) → times w (option_to_list before ++ named_in g.checked y.frame.items) ≡ times w (option_to_list future ++ named_in g.checked x.frame.items)
  fewer w = omega (
    arith,
    left-is w,
    gone.past.names w,
    total-append (λ (z : ℕ). one_if (z == w)) (option_to_list before) (named_in g.checked y.frame.items),
    total-append (λ (z : ℕ). one_if (z == w)) (option_to_list future) (named_in g.checked x.frame.items),
  )

  spare-past : IsSpare g.checked x.started.unit (option_to_list before ++ named_in g.checked y.frame.items) v
  spare-past = spare-fewer g.checked x.started.unit (option_to_list future ++ named_in g.checked x.frame.items) (option_to_list before ++ named_in g.checked y.frame.items) v (λ w. omega (arith, fewer w)) spare

  spare-named : IsSpare g.checked x.started.unit (named_in g.checked y.frame.items) v
  spare-named = spare-fewer g.checked x.started.unit (option_to_list future ++ named_in g.checked x.frame.items) (named_in g.checked y.frame.items) v
      (λ w. omega (arith, fewer w, total-append (λ (z : ℕ). one_if (z == w)) (option_to_list before) (named_in g.checked y.frame.items))) spare

  -- what the variable named before may be given up
  pub loose-past : HasLoose g y (option_to_list before) v
  loose-past = record {
    in_step = in-step-at g x y v gone.moved s gone.frame gone.past.way gone.names gone.past.same spare-named;
    single = gone.past.single;
    spare = subst (λ (u : ℕ). IsSpare g.checked u (option_to_list before ++ named_in g.checked y.frame.items) v) (sym unit-same) spare-past;
  }

  -- so the task goes past its act
  pub gone-past : (new : View) → DropsLoose g y (option_to_list before) v new → IsInStep g y new → GoesPast g x (set_past g x to future) (option_to_list future) [] (unit_at g x to) v y new
  gone-past new drops stays = record {
    moved = gone.moved;
    body_is = gone.body_is;
    names = gone.past.names;
    count = gone.past.count;
    referred = λ w. omega (
      arith,
      left-is w,
      ap (λ (z : View). times w z.futures) drops.view_is,
      times-less w v.futures (option_to_list before) (λ z. omega (
        arith,
        spare-past.there z,
        total-append (λ (a : ℕ). one_if (a == z)) (option_to_list before) (named_in g.checked y.frame.items),
      )),
    );
    settles = drops.settles;
    seen = drops.seen;
    view_is = drops.view_is ∙ (λ k. record v {
      runs = changed (is_run_at (unit-same k)) (with_words y.frame.items) v.runs;
      futures = (sym drops.view_is k).futures;
      sights = new.sights;
      settles = new.settles;
      may_draw = new.may_draw;
      seen = new.seen;
    });
    in_step = stays;
  }

-- the record that was made for it is named then
pub named-past : (g : Setup) (x y : Running) (to unit : ℕ) (old new : View) → Puts g x to unit old y new → Names g x to unit old (unmade y) new
named-past g x y to unit old new put = record {
  moved = ap unmade put.moved;
  body_is = put.body_is;
  names = put.names;
  count = put.count;
  referred = put.referred;
  settles = put.settles;
  seen = put.seen;
  view_is = put.view_is;
  in_step = answered-in-step g y (unmade y) new refl put.in_step;
}
