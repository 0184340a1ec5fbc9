use Rattle.step_table.proofs.shared.Shared.name.Goals as goal
use Rattle.std.proofs.Common.{◌∙◌, length, sym, ap, subst, arith, refl}
use Rattle.table_core.specs.RecordViews.{given_to_root, turned}
use Rattle.table_core.specs.declared.view.View.{View}
use Rattle.step_table.specs.declared.turn.NamedRoot.{NamedRoot}
use Rattle.step_table.specs.LastLooks.{KeepsNewest}
use Rattle.step_table.specs.Turns.{says_of}
use Rattle.step_table.specs.RootSteps.{FitsName}
use Rattle.table_core.specs.Views.{saw}
use Rattle.table_core.specs.Addresses.{root}
use Rattle.table_core.specs.RecordViews.{put_root}
use Rattle.step_table.proofs.RecordStepping.{root-there}
use Rattle.step_table.proofs.Naming.{name-rule, name-fits, taken-few}

pub root_word-lies-requires : goal.root_word-lies-requires
root_word-lies-requires c = omega (arith, c.requires.may.is_next, c.requires.may.inside, c.args.self.now.setup.plan.roots_fit)

pub word_of-requires : goal.word_of-requires
word_of-requires c = subst FitsName (sym c.named_by-named.ensures) (name-fits c.args.self.now.setup c.args.root c.args.word c.args.pass.now.seat.me.0 c.requires.may)

pub store_as-requires-clause-word : goal.store_as-requires-clause-word
store_as-requires-clause-word c =
    record { place = c.root_word-lies.ensures; there = root-there c.args.self.now.setup.plan c.args.root (omega (arith, c.requires.may.is_next, c.requires.may.inside, c.args.self.now.setup.plan.roots_fit)); written = refl }

pub store_as-requires-clause-rule : goal.store_as-requires-clause-rule
store_as-requires-clause-rule c =
    let pass = c.args.pass.now in
    name-rule c.args.self.now.setup pass.seat.id pass.seat.me.0 c.args.root c.args.word c.named_by-named.result c.word_of.result c.named_by-named.ensures c.word_of.ensures c.requires.may (omega (arith, pass.shares))

pub overflow_sub-pass : goal.overflow_sub-pass
overflow_sub-pass c =
    let pass = c.args.pass.now in omega (arith, pass.counts, c.taken_by-taken.ensures, taken-few c.args.self.now.setup c.args.root c.args.word pass.seat.me.0 c.requires.may)

pub with-pass-requires : goal.with-pass-requires
with-pass-requires c =
    let pass = c.args.pass.now in let may = c.requires.may in
    (may.asked, pass.turns ∙ may.has_turn, omega (arith, may.inside, c.args.self.now.setup.plan.roots_fit))

pub invariant_of-pass-clause-counts : goal.invariant_of-pass-clause-counts
invariant_of-pass-clause-counts c =
    let pass = c.args.pass.now in let told = c.store_as.ensures.told in
    let left = ap (λ (v : View). length v.futures) told.1 in
    let given = ap (λ (n : NamedRoot). length (given_to_root (says_of n) pass.seat.me.0.futures)) c.named_by-named.ensures in
    omega (arith, pass.counts, left, given, c.taken_by-taken.ensures, taken-few c.args.self.now.setup c.args.root c.args.word pass.seat.me.0 c.requires.may)

pub invariant_of-pass-clause-turns : goal.invariant_of-pass-clause-turns
invariant_of-pass-clause-turns c =
    let pass = c.args.pass.now in let told = c.store_as.ensures.told in
    c.with-pass.ensures ∙ ap (turned (says_of c.named_by-named.result)) pass.turns ∙ sym (ap (λ (v : View). v.turn) told.1)

pub invariant_of-pass-clause-looks : goal.invariant_of-pass-clause-looks
invariant_of-pass-clause-looks c = let pass = c.args.pass.now in subst (λ (v : View). KeepsNewest pass.last v.old_looks v.looks) (sym c.store_as.ensures.told.1) pass.looks

pub returns-clause-view : goal.returns-clause-view
returns-clause-view c =
    let told = c.store_as.ensures.told in
    record { found = told.0; view_is = told.1 ∙ ap (λ (n : NamedRoot). saw (root c.args.root) told.0 (put_root (says_of n) c.args.pass.now.seat.me.0)) c.named_by-named.ensures }
