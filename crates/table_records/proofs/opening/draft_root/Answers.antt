use Rattle.table_records.proofs.opening.draft_root.Goals as goal
use Rattle.std.proofs.Common.{◌∙◌, None, refl, ap}
use Rattle.table_core.specs.declared.view.View.{View}
use Rattle.table_records.proofs.OpeningFacts.{begin-stays, may-write-root, drafts-root}
use Rattle.table_records.proofs.StageFacts.{may-number}

pub number_root-requires : goal.number_root-requires
number_root-requires g c =
    let old = c.args.pass.now.seat.me.0 in let mid = c.begin.new.pass.seat.me.0 in let begun = c.in_ok-made.ensures.made in (
      c.in_ok-made.ensures.pass.table ∙ c.requires.table,
      (
        begin-stays c.args.shared.now.setup old mid (ap (λ (v : View). v.turn) begun.view_is) (ap (λ (v : View). v.root_task) begun.view_is) c.requires.may,
        may-number c.args.shared.now.setup.plan c.in_ok-made.made.unit None old mid begun tt,
        refl,
      ),
    )

pub write-requires-clause-may : goal.write-requires-clause-may
write-requires-clause-may g c =
    may-write-root c.args.shared.now.setup.plan c.in_ok-made.made.unit c.in_ok-number.number c.args.pass.now.seat.me.0 c.begin.new.pass.seat.me.0 c.number_root.new.pass.seat.me.0 c.in_ok-made.ensures.made
    c.in_ok-number.ensures.number

pub returns-clause-draft : goal.returns-clause-draft
returns-clause-draft g c =
    drafts-root c.args.shared.now.setup c.in_ok-made.made.unit c.in_ok-number.number c.args.pass.now.seat.me.0 c.begin.new.pass.seat.me.0 c.number_root.new.pass.seat.me.0 _ c.in_ok-made.ensures.made
    c.in_ok-made.ensures.sound c.in_ok-number.ensures.number c.write.ensures.written
