use Rattle.table_records.proofs.records.ready_record.Goals as goal
use Rattle.std.proofs.Common.{◌∙◌, false, None, inr, refl, sym, ap, subst, arith}
use Rattle.kt_words.specs.declared.state_word.StateWord.{StateWord}
use Rattle.step_table.specs.Passes.{view}
use Rattle.table_records.specs.Records.{Spawns}
use Rattle.table_records.proofs.PlaceFacts.{may-place, spawns-it, still-maker}

pub place_ready-requires : goal.place_ready-requires
place_ready-requires g c =
    let draft = c.in_ok-made.ensures in (
      draft.pass.table ∙ c.requires.table,
      may-place c.args.shared.now.setup c.args.maker.now c.in_ok-made.made c.in_ok-made.number None c.args.pass.now.seat.me.0 c.draft.new.pass c.requires.maker draft.draft false
          (record { is = inr (refl, refl) }) draft.class (omega (arith, draft.pass.held_is, c.requires.room)),
    )

pub returns-clause-record : goal.returns-clause-record
returns-clause-record g c =
    let draft = c.in_ok-made.ensures in let placed = c.place_ready.ensures in
    subst (λ n. Spawns c.args.shared.now.setup false c.place_ready.result.1.unit None c.args.pass.now.seat.me.0 n (view c.place_ready.new.pass)) (sym (ap (λ (w : StateWord). w.number) placed.word))
    (spawns-it c.args.shared.now.setup c.args.maker.now c.in_ok-made.made c.in_ok-made.number None c.args.pass.now.seat.me.0 c.draft.new.pass c.requires.maker draft.draft false _ _ placed.future placed.view)

pub returns-clause-maker : goal.returns-clause-maker
returns-clause-maker g c =
    let draft = c.in_ok-made.ensures in
    still-maker c.args.shared.now.setup c.args.maker.now c.in_ok-made.made c.in_ok-made.number None c.args.pass.now.seat.me.0 c.draft.new.pass c.requires.maker draft.draft false _
    c.place_ready.ensures.view
