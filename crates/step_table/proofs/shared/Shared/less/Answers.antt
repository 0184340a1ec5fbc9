use Rattle.step_table.proofs.shared.Shared.less.Goals as goal
use Rattle.std.proofs.Common.{length, refl, sym, ap, subst, arith}
use Rattle.schedule_rule.proofs.ReferenceKinds.{lessens-at}
use Rattle.std.proofs.lemmas.Bool.{eq-eqb}
use Rattle.record_core.proofs.CountFacts.{times-some}
use Rattle.table_core.specs.RecordViews.{is_at}
use Rattle.table_core.specs.declared.view.View.{View}
use Rattle.table_core.proofs.ListFacts.{length-dropped-has}
use Rattle.step_table.specs.LastLooks.{KeepsNewest}
use Rattle.step_table.proofs.RecordStepping.{refs-there}

pub fetch_sub_as-found-requires-clause-word : goal.fetch_sub_as-found-requires-clause-word
fetch_sub_as-found-requires-clause-word c = record { place = c.refs_word-word.ensures; there = refs-there c.args.self.now.setup.plan c.args.future.unit c.requires.may.has.near; written = refl }

pub fetch_sub_as-found-requires-clause-rule : goal.fetch_sub_as-found-requires-clause-rule
fetch_sub_as-found-requires-clause-rule c =
    let pass = c.args.pass.now in
    lessens-at c.args.self.now.setup pass.seat.id pass.seat.me.0 c.args.future.unit c.requires.may.has.near (omega (arith, pass.shares)) c.requires.may.has.there (λ n. c.requires.may.spare)

pub returns-clause-view : goal.returns-clause-view
returns-clause-view c = record { found = c.fetch_sub_as-found.result; view_is = c.fetch_sub_as-found.ensures.told; last_is = c.last_of.ensures }

pub invariant_of-pass-clause-counts : goal.invariant_of-pass-clause-counts
invariant_of-pass-clause-counts c =
    let pass = c.args.pass.now in let u = c.args.future.unit in let futures = pass.seat.me.0.futures in
    let left = ap (λ (v : View). length v.futures) c.fetch_sub_as-found.ensures.told in
    omega (arith, pass.counts, left, length-dropped-has (is_at u) futures u ((times-some u futures).0 c.requires.may.has.there) (eq-eqb u u refl))

pub invariant_of-pass-clause-looks : goal.invariant_of-pass-clause-looks
invariant_of-pass-clause-looks c = let pass = c.args.pass.now in subst (λ (w : View). KeepsNewest pass.last w.old_looks w.looks) (sym c.fetch_sub_as-found.ensures.told) pass.looks
