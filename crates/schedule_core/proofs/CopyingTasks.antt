-- A running task that copies a future: the pass takes one more reference to the record that the source names.
use Rattle.std.proofs.Common.{◌≡◌, ◌∙◌, ℕ, ◌≤◌, Option, Some, None, List, [], ◌∷◌, refl, sym, ap, subst, arith}
use Rattle.std.specs.Option.{option_to_list}
use Rattle.std.proofs.lemmas.Option.{none-some}
use Rattle.record_core.specs.Counting.{times, dropped}
use Rattle.task_syntax.specs.Form.{IsWellFormed}
use Rattle.task_syntax.specs.Valid.{IsValid}
use Rattle.task_syntax.specs.declared.columns.Columns.{Columns}
use Rattle.task_syntax.specs.declared.instr.Instr.{Instr}
use Rattle.task_syntax.specs.declared.instr.Instr.TheVariants.{Math, Cell, Spawn, All, Copy, Drop, Get, Again, Done}
use Rattle.task_syntax.specs.declared.program.Program.{Program}
use Rattle.task_syntax.specs.declared.value.Value.{Value}
use Rattle.task_syntax.specs.declared.value.Value.TheVariants as value
use Rattle.task_meaning.specs.Frame.{FrameOf, operand}
use Rattle.task_meaning.specs.Arithmetic.{computed, cell_at}
use Rattle.frame_code.specs.Names.{names_of, present}
use Rattle.frame_code.specs.Setting.{unit_in, unit_of}
use Rattle.frame_code.specs.Stops.{stop_at, trapped}
use Rattle.frame_code.specs.Units.{named_in, NamesUnit}
use Rattle.frame_code.specs.Words.{BodyOf, OfKind, OfMembers, body_of}
use Rattle.frame_code.specs.declared.act.Act.{Act}
use Rattle.frame_code.specs.declared.act.Act.TheVariants as act
use Rattle.table_core.specs.Addresses.{refs}
use Rattle.table_core.specs.Holdings.{Place}
use Rattle.table_core.specs.WaitViews.{is_run_at}
use Rattle.table_core.specs.declared.setup.Setup.{Setup}
use Rattle.table_core.specs.declared.view.View.{View}
use Rattle.schedule_rule.specs.DrawViews.{changed}
use Rattle.schedule_rule.specs.Frames.{HoldsNames}
use Rattle.schedule_rule.specs.HeldNames.{PutsInto, StandsPutting}
use Rattle.schedule_rule.specs.LifeViews.{with_words}
use Rattle.schedule_rule.specs.PlacingViews.{less}
use Rattle.schedule_rule.specs.SoundViews.{SoundView}
use Rattle.schedule_rule.proofs.CoveringFacts.{more-cover}
use Rattle.schedule_rule.proofs.HeldNameFacts.{acts-name}
use Rattle.schedule_rule.proofs.PlacingFacts.{times-less}
use Rattle.step_table.specs.Passes.{view}
use Rattle.step_table.specs.RecordHands.{HasFuture}
use Rattle.step_table.specs.RecordSteps.{Refers}
use Rattle.step_table.specs.declared.pass.Pass.{Pass}
use Rattle.step_table.specs.declared.record_tokens.Future.{Future}
use Rattle.schedule_core.specs.Bags.{IsSpare}
use Rattle.schedule_core.specs.Moves.{SeesFrame, TakesNamed, MayCopy, MayPut, GoesPast, Puts, Copies, looking, unit_at, set_past}
use Rattle.schedule_core.specs.References.{Grows}
use Rattle.schedule_core.specs.Runs.{IsInStep}
use Rattle.schedule_core.specs.Spawning.{AsksFor}
use Rattle.schedule_core.specs.declared.running.Running.{Running}
use Rattle.schedule_core.proofs.EachFacts.{grows-on}
use Rattle.schedule_core.proofs.MovedTasks.{spare-fewer}
use Rattle.schedule_core.proofs.SpawnFrames.{future-some, some-present}
use Rattle.schedule_core.proofs.SpawnSights.{has-times, times-has}

no-trap : (v : Value) (to source : ℕ) → trapped v ≡ Some (act.Copy to source) → ⊥
no-trap (value.Number n) to source e = cc
no-trap (value.Trapped t) to source e = cc

-- where a copy puts its future
abbrev into : Act → Option ℕ
into (act.Copy to source) = Some to
into _ = None

-- a frame that asks for a copy stands at one
copies-into : (c : Columns) (q : FrameOf ℕ) (to source : ℕ) (instr : Instr) → stop_at c instr q ≡ Some (act.Copy to source) → PutsInto to instr
copies-into c q to source (Math op at left right) e = absurd (no-trap (computed op (operand q.numbers left) (operand q.numbers right)) to source e)
copies-into c q to source (Cell at column row) e = absurd (no-trap (cell_at c column (operand q.numbers row)) to source e)
copies-into c q to source (Spawn at kind arguments waits priority retry) e = cc
copies-into c q to source (All at members priority retry) e = cc
copies-into c q to source (Copy at from) e = let s : act.Copy at from ≡ act.Copy to source = cc in let t : Some at ≡ Some to = ap into s in cc
copies-into c q to source (Drop x) e = cc
copies-into c q to source (Get at x) e = cc
copies-into c q to source (Again target waits priority) e = cc
copies-into c q to source (Done a) e = cc
copies-into c q to source _ e = cc

stands-copying : (p : Program) (c : Columns) (to source : ℕ) (b : BodyOf ℕ) → AsksFor p c (act.Copy to source) b → StandsPutting p to b
stands-copying p c to source (OfKind q) (line, at, stops) = (line, at, copies-into c q to source line.instr stops)
stands-copying p c to source (OfMembers units next) asks = absurd asks

-- its source names a unit
copy-names : (p : Program) (c : Columns) (to source : ℕ) (b : BodyOf ℕ) → IsWellFormed p → IsValid p → AsksFor p c (act.Copy to source) b → HoldsNames p b → (unit : ℕ) × (unit_of b source ≡ Some unit)
copy-names p c to source (OfKind q) formed valid asks names = acts-name p c q (act.Copy to source) formed valid asks names 0 source refl
copy-names p c to source (OfMembers units next) formed valid asks names = absurd asks

pub source-names : (g : Setup) (x : Running) (to source : ℕ) (v : View) (q : Program) → q ≡ g.checked → IsWellFormed q → IsValid q → MayCopy g x to source v → NamesUnit q x.frame.items source
source-names g x to source v q same formed valid may = subst (λ (p : Program). NamesUnit p x.frame.items source) (sym same)
    (copy-names g.checked g.columns to source (body_of g.checked x.frame.items) (subst IsWellFormed same formed) (subst IsValid same valid) may.asks may.in_step.names)

-- a unit that a variable names is one of those that the frame names
unit-named : (b : BodyOf ℕ) (x unit : ℕ) → unit_of b x ≡ Some unit → 1 ≤ times unit (names_of b)
unit-named (OfKind q) x unit is = has-times unit (present q.futures) (some-present q.futures unit (future-some q.futures x unit is))
unit-named (OfMembers units next) x unit is = absurd (none-some unit is)

module _ (g : Setup) (x : Running) (to source unit : ℕ) (v : View) (may : MayCopy g x to source v) (is : unit_in g.checked x.frame.items source ≡ Some unit) (mid : View) (sees : SeesFrame looking v mid) where
  pub has-source : SoundView g mid → HasFuture g.plan unit mid
  has-source sound =
      let there : 1 ≤ times unit mid.futures = omega (arith, unit-named (body_of g.checked x.frame.items) source unit is, may.in_step.spare.there unit, ap (λ (z : View). times unit z.futures) sees.view_is) in
      let t = times-has unit mid.futures there in record { near = sound.records.near t.0 unit t.1; there = there }

  module _ (old new : Pass) (future : Future) (old_is : view old ≡ mid) (refers : Refers unit old future new) where
    abbrev names : List ℕ
    names = named_in g.checked x.frame.items

    abbrev more : View
    more = record v { futures = unit ∷ v.futures; may_draw = (view new).may_draw; seen = (view new).seen }

    may-draw_is : (view new).may_draw ≡ mid.may_draw
    may-draw_is = ap (λ (z : View). z.may_draw) refers.view_is ∙ ap (λ (z : View). z.may_draw) old_is

    seen-is : (view new).seen ≡ (refs unit, refers.found) ∷ mid.seen
    seen-is = ap (λ (z : View). z.seen) refers.view_is ∙ ap (λ (z : View). (refs unit, refers.found) ∷ z.seen) old_is

    taken : view new ≡ more
    taken = refers.view_is ∙ (λ k. record (old_is k) { futures = unit ∷ (old_is k).futures; seen = (refs unit, refers.found) ∷ (old_is k).seen })
        ∙ (λ k. record (sees.view_is k) { futures = unit ∷ (sees.view_is k).futures; seen = (refs unit, refers.found) ∷ (sees.view_is k).seen })
        ∙ (λ k. record v { futures = unit ∷ v.futures; may_draw = sym may-draw_is k; seen = sym seen-is k })

    spare : IsSpare g.checked x.started.unit (unit ∷ names) more
    spare = record {
      there = λ w. omega (arith, may.in_step.spare.there w);
      bag = more-cover g.checked (dropped (is_run_at x.started.unit) v.runs) (less v.futures names) (less (unit ∷ v.futures) (unit ∷ names))
          (λ w. omega (
            arith,
            times-less w v.futures names may.in_step.spare.there,
            times-less w (unit ∷ v.futures) (unit ∷ names) (λ z. omega (arith, may.in_step.spare.there z)),
          ))
          may.in_step.spare.bag;
    }

    stays : IsInStep g x more
    stays = record {
      run = may.in_step.run;
      at = record { is_block = may.in_step.at.is_block; there = may.in_step.at.there };
      number_is = may.in_step.number_is;
      task_is = may.in_step.task_is;
      placed = may.in_step.placed;
      unasked = may.in_step.unasked;
      frame = may.in_step.frame;
      way = may.in_step.way;
      names = may.in_step.names;
      same = may.in_step.same;
      spare = spare-fewer g.checked x.started.unit (unit ∷ names) names more (λ w. omega arith) spare;
    }

    -- one more reference to it is beside what the runs need
    pub takes-source : TakesNamed g x unit v (view new)
    takes-source = record {
      in_step = subst (IsInStep g x) (sym taken) stays;
      spare = subst (IsSpare g.checked x.started.unit (unit ∷ names)) (sym taken) spare;
      seen = grows-on v.seen mid.seen (view new).seen sees.seen ((refs unit, refers.found) ∷ [], seen-is);
      view_is = taken;
    }

-- then one variable names the task that another names
pub may-put_source : (g : Setup) (x : Running) (to source unit : ℕ) (old mid : View) → MayCopy g x to source old → TakesNamed g x unit old mid → MayPut g x to unit mid
may-put_source g x to source unit old mid may takes = record {
  in_step = takes.in_step;
  puts = stands-copying g.checked g.columns to source (body_of g.checked x.frame.items) may.asks;
  spare = takes.spare;
}

pub copies : (g : Setup) (x y : Running) (to source unit : ℕ) (old mid new : View) → unit_in g.checked x.frame.items source ≡ Some unit → TakesNamed g x unit old mid → Puts g x to unit mid y new → Copies g x to source old y new
copies g x y to source unit old mid new is takes named = subst (λ (o : Option ℕ). GoesPast g x (set_past g x to o) (option_to_list o) (option_to_list o) (unit_at g x to) old y new) (sym is) (record {
  moved = named.moved;
  body_is = named.body_is;
  names = named.names;
  count = named.count;
  referred = λ w. omega (arith, named.referred w, ap (λ (z : View). times w z.futures) takes.view_is);
  settles = subst (λ (l : List Place). Grows l new.settles) (ap (λ (z : View). z.settles) takes.view_is) named.settles;
  seen = grows-on old.seen mid.seen new.seen takes.seen named.seen;
  view_is = named.view_is ∙ (λ k. record (takes.view_is k) {
    runs = changed (is_run_at x.started.unit) (with_words y.frame.items) (takes.view_is k).runs;
    futures = new.futures;
    sights = new.sights;
    settles = new.settles;
    may_draw = new.may_draw;
    seen = new.seen;
  });
  in_step = named.in_step;
})
