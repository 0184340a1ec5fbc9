use Rattle.table_records.proofs.opening.first_run.Goals as goal
use Rattle.std.proofs.Common.{◌∙◌, None, refl, sym, ap, subst, arith}
use Rattle.kt_words.specs.declared.state_word.StateWord.{StateWord}
use Rattle.record_core.specs.Counting.{Has}
use Rattle.table_core.specs.Story.{IsAccepted}
use Rattle.table_core.specs.declared.view.View.{View}
use Rattle.step_table.specs.TakingSteps.{TakesRecord}
use Rattle.table_records.specs.Plain.{call_behind}
use Rattle.table_records.proofs.RootFacts.{may-place-root, taken-call, taken-maker, root-runs}

pub ready_made-requires : goal.ready_made-requires
ready_made-requires g c =
    let draft = c.in_ok-made.ensures in (
      draft.pass.table ∙ c.requires.table,
      may-place-root c.args.shared.now.setup c.requires.may.plain c.in_ok-made.made c.in_ok-made.number c.args.pass.now.seat.me.0 c.draft_root.new.pass draft.draft draft.class
          (omega (arith, draft.pass.held_is, c.requires.room)),
    )

pub returns-in-Ok-clause-maker : goal.returns-in-Ok-clause-maker
returns-in-Ok-clause-maker g c =
    let n = c.in_ok-made.number in let placed = c.ready_made.ensures in let taken = c.in-Ok.ensures in
    let drafted = subst (λ (v : View). Has (IsAccepted n (call_behind None)) v.facts) (sym c.in_ok-made.ensures.draft.view_is) (0, refl) in
    let knows = subst (λ (v : View). Has (IsAccepted n (call_behind None)) v.facts) (sym placed.view.view_is) drafted in
    taken-maker c.args.shared.now.setup c.unit-unit.result n c.ready_made.result.0 c.ready_made.new.pass c.take_ready.new.pass c.in-Ok.started c.requires.may.plain taken.taken taken.sound.after
    (ap (λ (w : StateWord). w.number) placed.word) knows

pub returns-in-Ok-clause-run : goal.returns-in-Ok-clause-run
returns-in-Ok-clause-run g c =
    let n = c.in_ok-made.number in let placed = c.ready_made.ensures in let taken = c.in-Ok.ensures in
    let drafted = subst (λ (v : View). Has (IsAccepted n (call_behind None)) v.facts) (sym c.in_ok-made.ensures.draft.view_is) (0, refl) in
    let knows = subst (λ (v : View). Has (IsAccepted n (call_behind None)) v.facts) (sym placed.view.view_is) drafted in
    let number_is = ap (λ (w : StateWord). w.number) placed.word in
    let told = subst (λ u. TakesRecord c.args.shared.now.setup u c.ready_made.result.0 c.ready_made.new.pass c.in-Ok.started c.take_ready.new.pass) c.unit-unit.ensures taken.taken in
    root-runs c.args.shared.now.setup n c.ready_made.result.0 c.in_ok-made.made c.args.pass.now.seat.me.0 c.draft_root.new.pass c.ready_made.new.pass c.take_ready.new.pass c.in-Ok.started c.requires.may.plain
    c.in_ok-made.ensures.draft placed.view told
    (taken-call c.args.shared.now.setup c.in_ok-made.made.unit n c.ready_made.result.0 c.ready_made.new.pass c.take_ready.new.pass c.in-Ok.started told taken.sound.after number_is knows) number_is
