use Rattle.std.proofs.Common.{refl, sym, ◌∙◌, ap, subst}
use Rattle.std.specs.Prelude.{IfSome}
use Rattle.frame_code.specs.Setting.{unit_in}
use Rattle.record_core.specs.Numbers.{HasTask}
use Rattle.plain_state.specs.declared.record.Behind.{Behind}
use Rattle.plain_state.specs.Engine.{EngineState}
use Rattle.plain_state.specs.Sees.{Runs}
use Rattle.run_model.specs.Step.{step}
use Rattle.plain_engine.specs.Asking.{IsGiven, MayPlace, placed, units_in}
use Rattle.plain_engine.specs.Going.{wanted}
use Rattle.plain_engine.proofs.CarriedOut.{after_step}
use Rattle.plain_engine.proofs.Respawning.{after_known, known_unit}
use Rattle.plain_engine.proofs.Spawning.{may_count, refused_as, may_place, runs_placed}
use Rattle.plain_engine.proofs.engine.Engine.spawn_new.Goals as goal

pub behind-behind-requires : goal.behind-behind-requires
behind-behind-requires c = known_unit c.args.self.now c.args.after c.requires.known

pub ask-requires-clause-after : goal.ask-requires-clause-after
ask-requires-clause-after c = subst (λ (b : Behind). IfSome b.task (HasTask c.args.self.now.journal.rows)) (sym c.behind-behind.ensures)
    (after_known c.args.self.now c.args.after c.requires.known)

pub ask-requires-clause-null : goal.ask-requires-clause-null
ask-requires-clause-null c = may_count c.args.checked.now c.args.self.now c.args.unit c.args.frame.now.items c.requires.asks.0 c.requires.asks.1.may
    c.requires.asks.1.runs
    (wanted c.args.checked.now c.args.class c.args.after c.args.priority c.args.retry c.args.to c.args.first.now.items) c.requires.asks.1.wants

pub place-requires-clause-may : goal.place-requires-clause-may
place-requires-clause-may c =
    subst (λ (b : Behind). MayPlace c.in-Given.block c.in-Given.number c.args.priority b
    (units_in c.args.checked.now c.args.first.now.items) c.args.first.now.items
    (unit_in c.args.checked.now c.args.frame.now.items c.args.to) c.ask.new.self) (sym c.behind-behind.ensures)
    (may_place c.args.checked.now c.args.self.now c.args.unit c.args.frame.now.items c.requires.asks.0 c.requires.asks.1.may c.requires.asks.1.runs
    (wanted c.args.checked.now c.args.class c.args.after c.args.priority c.args.retry c.args.to c.args.first.now.items) c.requires.asks.1.wants
    c.in-Given.block c.in-Given.number c.ask.new.self
    (subst (λ (b : Behind). IsGiven c.args.self.now c.args.class b.task c.in-Given.block c.in-Given.number c.ask.new.self) c.behind-behind.ensures
    c.in-Given.ensures)
    c.args.first.now.items c.requires.first refl)

pub refused-requires-clause-refused : goal.refused-requires-clause-refused
refused-requires-clause-refused c = (
  after_step c.args.checked.now c.requires.asks.0,
  refused_as c.args.checked.now c.args.self.now c.args.unit c.args.frame.now.items c.requires.asks.0 c.requires.asks.1.may c.requires.asks.1.runs
      (wanted c.args.checked.now c.args.class c.args.after c.args.priority c.args.retry c.args.to c.args.first.now.items) c.requires.asks.1.wants
      c.in-Refused.tag c.ask.new.self c.in-Refused.ensures,
)

pub returns-in-Given-clause-steps : goal.returns-in-Given-clause-steps
returns-in-Given-clause-steps c m at = (
  1,
  subst (λ (s : EngineState). Runs c.args.checked.now m.columns m.plan s c.args.unit c.place.new.frame.items
      (step c.args.checked.now m.columns m.plan.units m.run))
      (sym (c.place.ensures.placed ∙ ap (λ (b : Behind). placed c.in-Given.block c.in-Given.number c.args.priority b
      (units_in c.args.checked.now c.args.first.now.items)
      c.args.first.now.items (unit_in c.args.checked.now c.args.frame.now.items c.args.to) c.ask.new.self) c.behind-behind.ensures))
      (runs_placed c.args.checked.now c.args.self.now c.args.unit c.args.frame.now.items m at.may at.runs
      (wanted c.args.checked.now c.args.class c.args.after c.args.priority c.args.retry c.args.to c.args.first.now.items) at.wants
      c.in-Given.block c.in-Given.number c.ask.new.self
      (subst (λ (b : Behind). IsGiven c.args.self.now c.args.class b.task c.in-Given.block c.in-Given.number c.ask.new.self) c.behind-behind.ensures
      c.in-Given.ensures)
      c.args.first.now.items c.requires.first refl c.place.new.frame.items c.place.ensures.frame c.place.ensures.named),
)

pub returns-in-Refused-clause-steps : goal.returns-in-Refused-clause-steps
returns-in-Refused-clause-steps c m at = (
  1,
  c.refused.ensures (after_step c.args.checked.now m)
      (refused_as c.args.checked.now c.args.self.now c.args.unit c.args.frame.now.items m at.may at.runs
      (wanted c.args.checked.now c.args.class c.args.after c.args.priority c.args.retry c.args.to c.args.first.now.items) at.wants
      c.in-Refused.tag c.ask.new.self c.in-Refused.ensures),
)
