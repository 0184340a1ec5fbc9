use Rattle.step_table.proofs.shared.Shared.look.Goals as goal
use Rattle.std.proofs.Common.{ℕ, ◌∙◌, length, sym, subst, ap, arith, refl}
use Rattle.table_core.specs.Addresses.{super}
use Rattle.table_core.specs.Views.{saw, looked, look_of}
use Rattle.table_core.specs.declared.view.View.{View}
use Rattle.schedule_rule.proofs.PoolKinds.{looks-at}
use Rattle.step_table.specs.LastLooks.{KeepsNewest}
use Rattle.step_table.proofs.LooksFacts.{keeps-looked}
use Rattle.step_table.proofs.Stepping.{super-there}

pub load_as-found-requires-clause-word : goal.load_as-found-requires-clause-word
load_as-found-requires-clause-word c = record { place = c.super_word-word.ensures; there = super-there c.args.self.now.setup.plan c.args.superblock c.requires.superblock; written = refl }

pub load_as-found-requires-clause-rule : goal.load_as-found-requires-clause-rule
load_as-found-requires-clause-rule c = looks-at c.args.self.now.setup c.args.pass.now.seat.id c.args.pass.now.seat.me.0 c.args.superblock c.args.class c.requires.superblock

pub of-requires : goal.of-requires
of-requires c = c.load_as-found.ensures.told.1

pub returns-clause-view : goal.returns-clause-view
returns-clause-view c =
    let old = c.args.pass.now.seat.me.0 in
    c.load_as-found.ensures.told.0 ∙ ap (λ (n : ℕ). saw (super c.args.superblock) n (looked c.args.superblock c.args.class n old)) (sym c.of.ensures.packed.1)

pub invariant_of-pass-clause-ages : goal.invariant_of-pass-clause-ages
invariant_of-pass-clause-ages c =
    let looks = ap (λ (v : View). length v.looks) c.load_as-found.ensures.told.0 in let old = ap (λ (v : View). v.old_looks) c.load_as-found.ensures.told.0 in
    omega (arith, looks, old, c.args.pass.now.ages)

pub invariant_of-pass-clause-looks : goal.invariant_of-pass-clause-looks
invariant_of-pass-clause-looks c =
    let pass = c.args.pass.now in let v = pass.seat.me.0 in let last = c.keep.new.self in
    subst (λ (w : View). KeepsNewest last w.old_looks w.looks) (sym c.load_as-found.ensures.told.0)
    (keeps-looked pass.last last v.old_looks v.looks (look_of c.args.superblock c.args.class c.load_as-found.result v) pass.ages pass.looks c.keep.ensures)
