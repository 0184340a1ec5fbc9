-- A running task whose frame moves on by its own, and references that it names no more.
use Rattle.std.proofs.Common.{◌≡◌, ◌∙◌, ℕ, ◌+◌, ◌<◌, ◌≤◌, ◌==◌, Bool, true, false, cond, Option, Some, None, List, [], ◌∷◌, ◌++◌, refl, sym, ap, subst, arith}
use Rattle.std.specs.Prelude.{slice_index}
use Rattle.record_core.specs.Counting.{times, one_if, dropped}
use Rattle.record_core.proofs.TotalFacts.{total-append}
use Rattle.task_syntax.specs.declared.program.Program.{Program}
use Rattle.frame_code.specs.Control.{is_aggregate, control_at}
use Rattle.frame_code.specs.Frames.{IsFrame}
use Rattle.frame_code.specs.Names.{named}
use Rattle.frame_code.specs.Units.{named_in}
use Rattle.frame_code.specs.Ways.{BodyHasWay}
use Rattle.frame_code.specs.Words.{BodyOf, OfKind, OfMembers, body_at, body_of, members_at, frame_at}
use Rattle.table_core.specs.Addresses.{sum, units_of}
use Rattle.table_core.specs.Asking.{Asker}
use Rattle.table_core.specs.Views.{saw}
use Rattle.table_core.specs.WaitViews.{is_run_at}
use Rattle.table_core.specs.declared.setup.Setup.{Setup}
use Rattle.table_core.specs.declared.view.View.{View}
use Rattle.schedule_rule.specs.DrawViews.{changed, permitted, told_limit}
use Rattle.schedule_rule.specs.Frames.{BagSound, HoldsNames}
use Rattle.schedule_rule.specs.LifeViews.{with_words, moved_on, IsMovedFrame}
use Rattle.schedule_rule.specs.PlacingViews.{less}
use Rattle.schedule_rule.specs.SoundViews.{SoundView}
use Rattle.schedule_rule.proofs.CoveringFacts.{more-cover}
use Rattle.schedule_rule.proofs.PlacingFactsFrames.{formed-same}
use Rattle.schedule_rule.proofs.PlacingFacts.{times-less}
use Rattle.step_table.specs.DrawSteps.{Asking, Move, MaySeeDrawn, SeesDrawn, moved}
use Rattle.step_table.specs.Passes.{view}
use Rattle.step_table.specs.declared.pass.Pass.{Pass}
use Rattle.schedule_core.specs.Bags.{IsSpare}
use Rattle.schedule_core.specs.Moves.{HasLoose, DropsLoose, SeesFrame, looking_at}
use Rattle.schedule_core.specs.References.{Grows, MayDropEach, DropsEach}
use Rattle.schedule_core.specs.Runs.{IsTask, IsInStep, IsSameState}
use Rattle.schedule_core.specs.declared.running.Running.{Running}
use Rattle.schedule_core.proofs.BagFacts.{bag-moved}
use Rattle.schedule_core.proofs.EachFacts.{grows-on, less-parts}
use Rattle.schedule_core.proofs.SpawnMoves.{in-step-moved, kind-self}
use Rattle.schedule_core.proofs.SpawnSights.{has-times, times-has}

-- the references that are spare are so where fewer are asked for
pub spare-fewer : (p : Program) (u : ℕ) (units fewer : List ℕ) (v : View) → ((w : ℕ) → times w fewer ≤ times w units) → IsSpare p u units v → IsSpare p u fewer v
spare-fewer p u units fewer v less_of s = record {
  there = there;
  bag = more-cover p (dropped (is_run_at u) v.runs) (less v.futures units) (less v.futures fewer)
      (λ w. omega (arith, times-less w v.futures units s.there, times-less w v.futures fewer there, less_of w)) s.bag;
}
  where
    there : (w : ℕ) → times w fewer ≤ times w v.futures
    there w = omega (arith, less_of w, s.there w)

-- a running task is in step with a frame of its kind that names what is spare
pub in-step-at : (g : Setup) (x y : Running) (v : View) → y ≡ record x { frame = y.frame } → IsInStep g x v → IsFrame g.checked y.frame.items → BodyHasWay g.checked (body_of g.checked y.frame.items)
    → HoldsNames g.checked (body_of g.checked y.frame.items) → ((b : BodyOf ℕ) → IsSameState b (body_of g.checked x.frame.items) → IsSameState b (body_of g.checked y.frame.items)) → IsSpare g.checked x.started.unit (named_in g.checked y.frame.items) v → IsInStep g y v
in-step-at g x y v is s frame way names same spare = subst (λ (z : Running). IsInStep g z v) (sym is) (record {
  run = s.run;
  at = s.at;
  number_is = s.number_is;
  task_is = s.task_is;
  placed = s.placed;
  unasked = s.unasked;
  frame = frame;
  way = way;
  names = names;
  same = same (body_at g.checked (slice_index s.run.words)) s.same;
  spare = spare;
})

-- the frame of a task stands on from an earlier one of its kind
moved-task : (p : Program) (words next : List ℕ) → IsTask (body_of p next) → IsSameState (body_at p (slice_index words)) (body_of p next) → BodyHasWay p (body_of p next) → IsFrame p next → IsMovedFrame p words next
moved-task p words next single same way frame = by (is_aggregate (slice_index words 0)) refl (is_aggregate (slice_index next 0)) refl single same way
  where
    body : List ℕ → Bool → BodyOf ℕ
    body l b = cond b (OfMembers (members_at (slice_index l)) (control_at (slice_index l 0))) (OfKind (frame_at p (slice_index l)))

    by : (b : Bool) → is_aggregate (slice_index words 0) ≡ b → (d : Bool) → is_aggregate (slice_index next 0) ≡ d → IsTask (body next d) → IsSameState (body words b) (body next d) → BodyHasWay p (body next d)
        → IsMovedFrame p words next
    by b e true e' single' same' way' = absurd single'
    by true e false e' single' same' way' = absurd same'
    by false e false e' single' same' way' = record { single = e; next_single = e'; kind = same'.0; way = way'; formed = formed-same p next frame (slice_index next) (λ j low. refl) }

-- what a load of the total tells that is for nobody
pub sees-frame : (limit : ℕ) (asking : Asking) (old : Pass) (b : Bool) (new : Pass) → asking.asker ≡ None → SeesDrawn limit asking old b new → SeesFrame asking (view old) (view new)
sees-frame limit asking old true new nobody (found, low, is) = seen-so asking.move is
  where
    seen-so : (m : Option Move) → view new ≡ saw (sum 0) found (permitted (moved m (view old))) → SeesFrame (record { asker = asking.asker; move = m }) (view old) (view new)
    seen-so None e = record { seen = ((sum 0, found) ∷ [], ap (λ (v : View). v.seen) e); view_is = e ∙ (λ k. record (view old) { may_draw = (sym e k).may_draw; seen = (sym e k).seen }) }
    seen-so (Some m) e = record { seen = ((sum 0, found) ∷ [], ap (λ (v : View). v.seen) e); view_is = e ∙ (λ k. record (moved_on m.unit m.words (view old)) { may_draw = (sym e k).may_draw; seen = (sym e k).seen }) }
sees-frame limit asking old false new nobody (found, low, is) = seen-so asking.move (is ∙ ap (λ (a : Option Asker). saw (sum 0) found (told_limit a (moved asking.move (view old)))) nobody)
  where
    seen-so : (m : Option Move) → view new ≡ saw (sum 0) found (moved m (view old)) → SeesFrame (record { asker = asking.asker; move = m }) (view old) (view new)
    seen-so None e = record { seen = ((sum 0, found) ∷ [], ap (λ (v : View). v.seen) e); view_is = e ∙ (λ k. record (view old) { may_draw = (sym e k).may_draw; seen = (sym e k).seen }) }
    seen-so (Some m) e = record { seen = ((sum 0, found) ∷ [], ap (λ (v : View). v.seen) e); view_is = e ∙ (λ k. record (moved_on m.unit m.words (view old)) { may_draw = (sym e k).may_draw; seen = (sym e k).seen }) }

-- the table may be told where the frame of a running task stands
pub may-look : (g : Setup) (x : Running) (v : View) → IsInStep g x v → IsTask (body_of g.checked x.frame.items) → MaySeeDrawn g (looking_at x) v
may-look g x v s single = record {
  asks = tt;
  moves = record {
    run = s.run;
    at = s.at;
    idle = s.placed;
    frame = moved-task g.checked s.run.words x.frame.items single s.same s.way s.frame;
    covers = λ was. bag-moved g.checked v.futures (named g.checked (slice_index x.frame.items)) x.frame.items v.runs x.started.unit s.run s.at.there s.way (λ w. omega arith) s.spare.there s.spare.bag;
  };
}

module _ (g : Setup) (x : Running) (units : List ℕ) (v : View) (loose : HasLoose g x units v) where
  abbrev names : List ℕ
  names = named_in g.checked x.frame.items

  -- as many of each unit stand in both lists together
  both : (w : ℕ) → times w (units ++ names) ≡ times w units + times w names
  both w = total-append (λ (z : ℕ). one_if (z == w)) units names

  units-there : (w : ℕ) → times w units ≤ times w v.futures
  units-there w = omega (arith, loose.spare.there w, both w)

  names-left : (w : ℕ) → times w names ≤ times w (less v.futures units)
  names-left w = omega (arith, loose.spare.there w, both w, times-less w v.futures units units-there)

  left-bag : BagSound g.checked (record { futures = less (less v.futures units) names; runs = dropped (is_run_at x.started.unit) v.runs })
  left-bag = subst (λ (l : List ℕ). BagSound g.checked (record { futures = l; runs = dropped (is_run_at x.started.unit) v.runs })) (less-parts v.futures units names) loose.spare.bag

  module _ (mid : View) (sees : SeesFrame (looking_at x) v mid) where
    runs-are : mid.runs ≡ changed (is_run_at x.started.unit) (with_words x.frame.items) v.runs
    runs-are = ap (λ (z : View). z.runs) sees.view_is

    futures-are : mid.futures ≡ v.futures
    futures-are = ap (λ (z : View). z.futures) sees.view_is

    -- they may be given up once the table knows where the frame stands
    pub may-drop_loose : SoundView g mid → MayDropEach g units mid
    may-drop_loose sound = record {
      near = λ k u at. near-all u (omega (arith, has-times u units (k, at), units-there u, ap (λ (l : List ℕ). times u l) futures-are));
      there = λ w. omega (arith, units-there w, ap (λ (l : List ℕ). times w l) futures-are);
      bag = subst (BagSound g.checked) (λ k. record { futures = less (sym futures-are k) units; runs = sym runs-are k })
          (bag-moved g.checked (less v.futures units) names x.frame.items v.runs x.started.unit loose.in_step.run loose.in_step.at.there loose.in_step.way (λ w. omega arith) names-left left-bag);
    }
      where
        near-all : (u : ℕ) → 1 ≤ times u mid.futures → u < units_of g.plan
        near-all u there = let t = times-has u mid.futures there in sound.records.near t.0 u t.1

    module _ (new : View) (drops : DropsEach units mid new) where
      -- so they are
      pub drops-loose : DropsLoose g x units v new
      drops-loose = record {
        settles = subst (λ (l : List _). Grows l new.settles) (ap (λ (z : View). z.settles) sees.view_is) drops.settles;
        seen = grows-on v.seen mid.seen new.seen sees.seen drops.seen;
        view_is = drops.view_is ∙ (λ k. record (sees.view_is k) { futures = less (futures-are k) units; sights = new.sights; settles = new.settles; seen = new.seen })
            ∙ (λ k. record v {
              runs = changed (is_run_at x.started.unit) (with_words x.frame.items) v.runs;
              futures = less v.futures units;
              sights = new.sights;
              settles = new.settles;
              may_draw = (sym drops.view_is k).may_draw;
              seen = new.seen;
            });
      }

      -- and the task is in step
      pub left-in-step : IsInStep g x new
      left-in-step = in-step-moved g x x.frame.items (record v { futures = less v.futures units }) new left (ap (λ (z : View). z.runs) drops-loose.view_is)
          (λ w. omega (arith, ap (λ (z : View). times w z.futures) drops-loose.view_is)) (kind-self (body_of g.checked x.frame.items))
        where
          left : IsInStep g x (record v { futures = less v.futures units })
          left = record {
            run = loose.in_step.run;
            at = record { is_block = loose.in_step.at.is_block; there = loose.in_step.at.there };
            number_is = loose.in_step.number_is;
            task_is = loose.in_step.task_is;
            placed = loose.in_step.placed;
            unasked = loose.in_step.unasked;
            frame = loose.in_step.frame;
            way = loose.in_step.way;
            names = loose.in_step.names;
            same = loose.in_step.same;
            spare = record { there = names-left; bag = left-bag };
          }
