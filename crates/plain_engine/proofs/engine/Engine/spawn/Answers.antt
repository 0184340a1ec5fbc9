use Rattle.std.proofs.Common.{ℕ, Option, List, sym, subst}
use Rattle.frame_code.specs.Words.{body_of}
use Rattle.frame_code.specs.Entries.{IsEntryOf}
use Rattle.frame_code.specs.declared.entries.Passed.{Passed}
use Rattle.frame_code.specs.declared.act.Act.TheVariants as act
use Rattle.plain_engine.specs.Asking.{IsKnown}
use Rattle.plain_engine.proofs.StepLaws.{names_are_known}
use Rattle.plain_engine.proofs.CarriedOut.{frame_asks, fits_asks}
use Rattle.plain_engine.proofs.Gathering.{variable_known}
use Rattle.plain_engine.proofs.SpawnWanted.{spawns, enters, asks_spawn}
use Rattle.plain_engine.proofs.engine.Engine.spawn.Goals as goal

pub class_of-class-requires : goal.class_of-class-requires
class_of-class-requires c = (fits_asks c.args.checked.now c.args.self.now c.args.unit c.args.frame.now.items (act.Spawn c.args.request.now) c.requires).1

pub named_if-after-requires-clause-frame : goal.named_if-after-requires-clause-frame
named_if-after-requires-clause-frame c = frame_asks c.args.checked.now c.args.self.now c.args.unit c.args.frame.now.items (act.Spawn c.args.request.now) c.requires

pub named_if-after-requires-clause-variable : goal.named_if-after-requires-clause-variable
named_if-after-requires-clause-variable c = (fits_asks c.args.checked.now c.args.self.now c.args.unit c.args.frame.now.items (act.Spawn c.args.request.now) c.requires).2

pub passed_by-requires-clause-frame : goal.passed_by-requires-clause-frame
passed_by-requires-clause-frame c = frame_asks c.args.checked.now c.args.self.now c.args.unit c.args.frame.now.items (act.Spawn c.args.request.now) c.requires

pub passed_by-requires-clause-kind : goal.passed_by-requires-clause-kind
passed_by-requires-clause-kind c = (fits_asks c.args.checked.now c.args.self.now c.args.unit c.args.frame.now.items (act.Spawn c.args.request.now) c.requires).1

pub passed_by-requires-clause-arguments : goal.passed_by-requires-clause-arguments
passed_by-requires-clause-arguments c = spawns c.args.checked.now c.args.self.now c.args.unit c.args.frame.now.items c.args.request.now c.requires

pub entry_frame-requires-clause-kind : goal.entry_frame-requires-clause-kind
entry_frame-requires-clause-kind c = (fits_asks c.args.checked.now c.args.self.now c.args.unit c.args.frame.now.items (act.Spawn c.args.request.now) c.requires).1

pub entry_frame-requires-clause-passed : goal.entry_frame-requires-clause-passed
entry_frame-requires-clause-passed c = rw c.as_slice.ensures (enters c.args.checked.now c.args.self.now c.args.unit c.args.frame.now.items c.args.request.now
    c.passed_by.new.passed c.requires (fits_asks c.args.checked.now c.args.self.now c.args.unit c.args.frame.now.items (act.Spawn c.args.request.now) c.requires).1
    c.passed_by.ensures.passed c.passed_by.ensures.agrees)

pub spawn_new-requires-clause-frame : goal.spawn_new-requires-clause-frame
spawn_new-requires-clause-frame c = frame_asks c.args.checked.now c.args.self.now c.args.unit c.args.frame.now.items (act.Spawn c.args.request.now) c.requires

pub spawn_new-requires-clause-variable : goal.spawn_new-requires-clause-variable
spawn_new-requires-clause-variable c = (fits_asks c.args.checked.now c.args.self.now c.args.unit c.args.frame.now.items (act.Spawn c.args.request.now) c.requires).0

pub spawn_new-requires-clause-known : goal.spawn_new-requires-clause-known
spawn_new-requires-clause-known c = subst (λ (o : Option ℕ). IsKnown c.args.self.now o) (sym c.named_if-after.ensures)
    (variable_known c.args.self.now (body_of c.args.checked.now c.args.frame.now.items) c.args.request.now.behind
    (names_are_known c.args.checked.now c.requires.moment.columns c.requires.moment.plan c.args.self.now c.requires.moment.run c.args.unit
    c.args.frame.now.items c.requires.at.may c.requires.at.runs))

pub spawn_new-requires-clause-asks : goal.spawn_new-requires-clause-asks
spawn_new-requires-clause-asks c = (
  c.requires.moment,
  asks_spawn c.args.checked.now c.args.self.now c.args.unit c.args.frame.now.items c.args.request.now c.passed_by.new.passed
      c.class_of-class.result c.named_if-after.result c.entry_frame.new.frame.items c.requires.moment c.requires.at c.passed_by.ensures.passed
      c.class_of-class.ensures c.named_if-after.ensures (subst (λ (given : List Passed). IsEntryOf c.args.checked.now c.args.request.now.kind given c.entry_frame.new.frame.items) c.as_slice.ensures
      c.entry_frame.ensures.entry),
)

pub returns-clause-steps : goal.returns-clause-steps
returns-clause-steps c m at = c.spawn_new.ensures.steps m
    (asks_spawn c.args.checked.now c.args.self.now c.args.unit c.args.frame.now.items c.args.request.now c.passed_by.new.passed
    c.class_of-class.result c.named_if-after.result c.entry_frame.new.frame.items m at c.passed_by.ensures.passed
    c.class_of-class.ensures c.named_if-after.ensures (subst (λ (given : List Passed). IsEntryOf c.args.checked.now c.args.request.now.kind given c.entry_frame.new.frame.items) c.as_slice.ensures
    c.entry_frame.ensures.entry))
