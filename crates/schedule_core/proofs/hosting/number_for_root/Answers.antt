use Rattle.table_core.specs.Asking.{OfRoot}
use Rattle.step_table.specs.Passes.{view, plan}
use Rattle.schedule_core.proofs.Beginning.{gave-back, may-unmake_still}
use Rattle.schedule_core.proofs.hosting.number_for_root.Goals as goal

pub give_back-requires-clause-may : goal.give_back-requires-clause-may
give_back-requires-clause-may g c =
    let none = c.in-None.ensures.drawn in
    may-unmake_still (plan c.args.shared.now) c.args.made.unit c.args.made.class (OfRoot c.args.root) none.found (view c.args.pass.now) (view c.draw_for_root.new.pass) none.view_is c.requires.1.1

pub returns-in-None-clause-number : goal.returns-in-None-clause-number
returns-in-None-clause-number g c =
    let none = c.in-None.ensures.drawn in
    gave-back c.args.shared.now.setup c.args.made (OfRoot c.args.root) none.found (view c.args.pass.now) (view c.draw_for_root.new.pass) (view c.give_back.new.pass) none.is_met none.view_is c.give_back.ensures.back
