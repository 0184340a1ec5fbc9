use Rattle.step_table.proofs.shared.Shared.unchain.Goals as goal
use Rattle.std.proofs.Common.{◌-◌, arith, refl}
use Rattle.schedule_rule.proofs.ListKinds.{unchains-at}
use Rattle.table_core.proofs.ReferenceBound.{units-few}
use Rattle.step_table.proofs.ListStepping.{first-of, rest-near, unchains-value}
use Rattle.step_table.proofs.RecordStepping.{next-there}

pub own_word-word-requires : goal.own_word-word-requires
own_word-word-requires c = (first-of c.args.self.now.setup.plan c.args.chain c.args.pass.now.seat.me.0 c.in_ok-unit.unit c.requires.hand.0 c.requires.hand.1 c.in_ok-unit.was).near

pub load_as-link-requires-clause-word : goal.load_as-link-requires-clause-word
load_as-link-requires-clause-word c =
    let first = first-of c.args.self.now.setup.plan c.args.chain c.args.pass.now.seat.me.0 c.in_ok-unit.unit c.requires.hand.0 c.requires.hand.1 c.in_ok-unit.was in
    record { place = c.own_word-word.ensures; there = next-there c.args.self.now.setup.plan c.in_ok-unit.unit first.near; written = refl }

pub load_as-link-requires-clause-rule : goal.load_as-link-requires-clause-rule
load_as-link-requires-clause-rule c =
    let pass = c.args.pass.now in
    let first = first-of c.args.self.now.setup.plan c.args.chain pass.seat.me.0 c.in_ok-unit.unit c.requires.hand.0 c.requires.hand.1 c.in_ok-unit.was in
    unchains-at c.args.self.now.setup pass.seat.id pass.seat.me.0 c.in_ok-unit.unit first.rest first.there (omega (arith, pass.shares))

pub overflow_cast-link : goal.overflow_cast-link
overflow_cast-link c =
    let g = c.args.self.now.setup.plan in let old = c.args.pass.now.seat.me.0 in let told = c.load_as-link.ensures.told in
    let first = first-of g c.args.chain old c.in_ok-unit.unit c.requires.hand.0 c.requires.hand.1 c.in_ok-unit.was in
    let near = rest-near g old.chains c.in_ok-unit.unit c.load_as-link.result first.rest told.0 first.there first.rest_near told.2 in
    omega (arith, near, units-few g)

pub returns-clause-some : goal.returns-clause-some
returns-clause-some c = λ members has.
    let told = c.load_as-link.ensures.told in let g = c.args.self.now.setup.plan in
    let first = first-of g c.args.chain c.args.pass.now.seat.me.0 c.in_ok-unit.unit members has c.in_ok-unit.was in
    unchains-value g c.args.chain c.args.pass.now _ c.in_ok-unit.unit c.load_as-link.result c.checked_sub.result members has c.in_ok-unit.was c.checked_sub.ensures told
    (c.args.chain.length - 1) (omega (arith, first.longer))
