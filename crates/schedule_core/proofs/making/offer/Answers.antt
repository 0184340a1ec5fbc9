use Rattle.std.proofs.Common.{◌∙◌, sym, subst, arith}
use Rattle.task_syntax.specs.declared.program.Program.{Program}
use Rattle.table_core.specs.declared.view.View.{View}
use Rattle.step_table.specs.Passes.{view}
use Rattle.schedule_core.specs.Making.{FillsNew, Offers}
use Rattle.schedule_core.proofs.Offering.{may-place, offers-new, offered-few}
use Rattle.schedule_core.proofs.making.offer.Goals as goal

pub place-placed-requires : goal.place-placed-requires
place-placed-requires g c = (
  c.fill_new.ensures.pass.table ∙ c.requires.0,
  may-place c.args.shared.now.setup c.args.made c.args.number c.args.behind c.args.first.now.items g.placement c.args.pass.now c.fill_new.new.pass c.requires.1.1.0
      (subst (λ (p : Program). FillsNew p c.args.made c.args.number c.args.first.now.items (view c.args.pass.now) (view c.fill_new.new.pass)) c.requires.1.0 c.fill_new.ensures.filled)
      (omega (arith, c.fill_new.ensures.pass.held_is, c.requires.1.1.1)),
)

pub keep_count-requires : goal.keep_count-requires
keep_count-requires g c =
    offered-few c.args.shared.now.setup c.args.made c.args.number c.args.priority c.args.behind g.placement c.args.pass.now (view c.place-placed.new.pass) c.place-placed.result c.held-held.result c.held-held.ensures.count c.args.pass.now.counts
    (offers-new c.args.shared.now.setup c.args.made c.args.number c.args.behind c.args.first.now.items g.placement c.args.pass.now c.fill_new.new.pass c.requires.1.1.0
    (subst (λ (p : Program). FillsNew p c.args.made c.args.number c.args.first.now.items (view c.args.pass.now) (view c.fill_new.new.pass)) c.requires.1.0 c.fill_new.ensures.filled)
    c.args.priority c.place-placed.result (view c.place-placed.new.pass) c.place-placed.ensures.placed)

pub returns-clause-offered : goal.returns-clause-offered
returns-clause-offered g c =
    subst (λ (v : View). Offers c.args.shared.now.setup c.args.made c.args.number c.args.priority c.args.behind g.placement (view c.args.pass.now) c.place-placed.result v) (sym c.keep_count.ensures.view)
    (offers-new c.args.shared.now.setup c.args.made c.args.number c.args.behind c.args.first.now.items g.placement c.args.pass.now c.fill_new.new.pass c.requires.1.1.0
    (subst (λ (p : Program). FillsNew p c.args.made c.args.number c.args.first.now.items (view c.args.pass.now) (view c.fill_new.new.pass)) c.requires.1.0 c.fill_new.ensures.filled)
    c.args.priority c.place-placed.result (view c.place-placed.new.pass) c.place-placed.ensures.placed)
