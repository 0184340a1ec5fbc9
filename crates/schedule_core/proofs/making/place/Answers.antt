use Rattle.std.proofs.Common.{Option, Some, subst, sym}
use Rattle.schedule_core.specs.Making.{MayPlaceNew, PlacesNew}
use Rattle.schedule_core.specs.declared.making.Behind.{Behind}
use Rattle.ready_queues.specs.declared.entry.Entry.{Entry}
use Rattle.step_table.specs.Passes.{view}
use Rattle.schedule_core.proofs.Placing.{places-ready, may-join, places-waiting}
use Rattle.schedule_core.proofs.making.place.Goals as goal

pub ready_made-requires : goal.ready_made-requires
ready_made-requires g c = (
  c.requires.0,
  (subst (λ (o : Option Behind). MayPlaceNew c.args.shared.now.setup c.args.made c.args.number o g.placement c.args.pass.now) c.in-None.is c.requires.1).0,
)

pub wait_made-requires : goal.wait_made-requires
wait_made-requires g c = (
  c.requires.0,
  (subst (λ (o : Option Behind). MayPlaceNew c.args.shared.now.setup c.args.made c.args.number o g.placement c.args.pass.now) c.in-Some.is c.requires.1).0,
)

pub join-entry-requires-clause-may : goal.join-entry-requires-clause-may
join-entry-requires-clause-may g c =
    may-join c.args.shared.now.setup c.args.made c.args.number c.args.priority g.placement c.in-Some.behind c.args.pass.now c.wait_made.new.pass c.wait_made.ensures.view c.args.behind c.wait_made.result.0.unit c.in-Some.is
    c.wait_made.ensures.waiter c.requires.1

pub returns-in-None-clause-placed : goal.returns-in-None-clause-placed
returns-in-None-clause-placed g c =
    subst (λ (e : Entry). PlacesNew c.args.shared.now.setup c.args.made c.args.number c.args.priority c.args.behind g.placement (view c.args.pass.now) (c.ready_made.result.1, Some e) (view c.ready_made.new.pass)) (sym c.entry_of.ensures)
    (places-ready c.args.shared.now.setup c.args.made c.args.number c.unit-unit.result c.args.behind g.placement c.args.priority c.args.pass.now c.ready_made.new.pass c.ready_made.result.0 c.ready_made.result.1
    c.in-None.is c.unit-unit.ensures c.ready_made.ensures.word c.ready_made.ensures.future c.ready_made.ensures.view c.ready_made.ensures.sound.after)

pub returns-in-Some-clause-placed : goal.returns-in-Some-clause-placed
returns-in-Some-clause-placed g c =
    places-waiting c.args.shared.now.setup c.args.made c.args.number c.args.priority g.placement c.in-Some.behind c.args.pass.now c.wait_made.new.pass c.wait_made.ensures.view c.args.behind c.join-entry.result c.wait_made.result.1
    c.wait_made.result.0.unit (view c.join-entry.new.pass) c.in-Some.is c.wait_made.ensures.waiter c.wait_made.ensures.future c.join-entry.ensures.joined
