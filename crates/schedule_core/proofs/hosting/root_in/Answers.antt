use Rattle.step_table.specs.Passes.{view}
use Rattle.schedule_core.proofs.RootBlocks.{may-make_next, begun-so, may-say_met, says-met}
use Rattle.schedule_core.proofs.hosting.root_in.Goals as goal

pub make_in-requires : goal.make_in-requires
make_in-requires c = let may = c.requires.may in (c.requires.table, may-make_next c.args.shared.now.setup c.args.root c.args.line.now c.args.block (view c.args.pass.now) may.base may.asked may.next may.gives may.later)

pub name-requires-clause-may : goal.name-requires-clause-may
name-requires-clause-may c = let may = c.requires.may in
    may-say_met c.args.shared.now.setup c.args.root c.args.line.now c.args.block (view c.args.pass.now) may.base may.asked may.next may.gives may.later (view c.make_in.new.pass) c.in-None.ensures.made

pub make_root-requires-clause-may : goal.make_root-requires-clause-may
make_root-requires-clause-may c = let may = c.requires.may in record {
  base = may.base;
  asked = may.asked;
  next = may.next;
  have = may.have;
  begun = begun-so c.args.shared.now.setup c.args.root c.args.line.now c.args.block (view c.args.pass.now) may.base may.asked may.next may.gives may.later c.in-Some.made (view c.make_in.new.pass) c.in-Some.ensures.made;
}

pub returns-in-None-clause-hosted : goal.returns-in-None-clause-hosted
returns-in-None-clause-hosted c base asked next have gives later =
    (have, says-met c.args.shared.now.setup c.args.root c.args.line.now c.args.block (view c.args.pass.now) base asked next gives later c.make_in.new.pass c.name.new.pass c.in-None.ensures.made c.name.ensures.view)

pub returns-in-Some-clause-hosted : goal.returns-in-Some-clause-hosted
returns-in-Some-clause-hosted c base asked next have gives later =
    c.make_root.ensures.made base asked next have (begun-so c.args.shared.now.setup c.args.root c.args.line.now c.args.block (view c.args.pass.now) base asked next gives later c.in-Some.made (view c.make_in.new.pass) c.in-Some.ensures.made)
