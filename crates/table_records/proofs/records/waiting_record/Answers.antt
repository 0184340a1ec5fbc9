use Rattle.table_records.proofs.records.waiting_record.Goals as goal
use Rattle.std.proofs.Common.{◌∙◌, true, Some, inl, refl, arith}
use Rattle.table_records.proofs.PlaceFacts.{may-place, spawns-it, still-maker}

pub place_waiting-requires : goal.place_waiting-requires
place_waiting-requires g c =
    let draft = c.in_ok-made.ensures in (
      draft.pass.table ∙ c.requires.table,
      may-place c.args.shared.now.setup c.args.maker.now c.in_ok-made.made c.in_ok-made.number (Some c.args.behind) c.args.pass.now.seat.me.0 c.draft.new.pass c.requires.maker draft.draft true
          (record { is = inl refl }) draft.class (omega (arith, draft.pass.held_is, c.requires.room)),
    )

pub returns-clause-record : goal.returns-clause-record
returns-clause-record g c =
    let draft = c.in_ok-made.ensures in let placed = c.place_waiting.ensures in
    (c.in_ok-made.number, spawns-it c.args.shared.now.setup c.args.maker.now c.in_ok-made.made c.in_ok-made.number (Some c.args.behind) c.args.pass.now.seat.me.0 c.draft.new.pass c.requires.maker draft.draft true _ _ placed.waiter placed.view)

pub returns-clause-maker : goal.returns-clause-maker
returns-clause-maker g c =
    let draft = c.in_ok-made.ensures in
    still-maker c.args.shared.now.setup c.args.maker.now c.in_ok-made.made c.in_ok-made.number (Some c.args.behind) c.args.pass.now.seat.me.0 c.draft.new.pass c.requires.maker draft.draft true _
    c.place_waiting.ensures.view
