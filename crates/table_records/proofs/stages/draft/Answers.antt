use Rattle.table_records.proofs.stages.draft.Goals as goal
use Rattle.std.proofs.Common.{◌∙◌, refl, ap}
use Rattle.table_core.specs.declared.view.View.{View}
use Rattle.table_records.proofs.StageFacts.{maker-stays, may-number, may-write, drafts}

pub number-requires : goal.number-requires
number-requires g c =
    let old = c.args.pass.now.seat.me.0 in let mid = c.begin.new.pass.seat.me.0 in let begun = c.in_ok-made.ensures.made in (
      c.in_ok-made.ensures.pass.table ∙ c.requires.table,
      (
        maker-stays c.args.shared.now.setup c.args.maker.now old mid (ap (λ (v : View). v.runs) begun.view_is) c.requires.maker,
        may-number c.args.shared.now.setup.plan c.in_ok-made.made.unit c.args.behind old mid begun c.requires.behind,
        refl,
      ),
    )

pub write-requires-clause-may : goal.write-requires-clause-may
write-requires-clause-may g c =
    may-write c.args.shared.now.setup.plan c.in_ok-made.made.unit c.args.maker.now.unit c.args.maker.now.number c.in_ok-number.number c.args.behind c.args.pass.now.seat.me.0 c.begin.new.pass.seat.me.0
    c.number.new.pass.seat.me.0 c.in_ok-made.ensures.made c.in_ok-number.ensures.number

pub returns-clause-draft : goal.returns-clause-draft
returns-clause-draft g c =
    drafts c.args.shared.now.setup c.in_ok-made.made.unit c.args.maker.now.unit c.args.maker.now.number c.in_ok-number.number c.args.behind c.args.pass.now.seat.me.0 c.begin.new.pass.seat.me.0
    c.number.new.pass.seat.me.0 _ c.in_ok-made.ensures.made c.in_ok-made.ensures.sound c.in_ok-number.ensures.number c.write.ensures.written
