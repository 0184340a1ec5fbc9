use Rattle.std.proofs.Common.{◌≡◌, ◌+◌, Some, None, cond, sym, ◌∙◌, ap, arith}
use Rattle.std.proofs.lemmas.Option.{slice_get-get_or}
use Rattle.task_syntax.specs.Facts.{has}
use Rattle.task_syntax.specs.declared.program.Program.{Program}
use Rattle.task_meaning.specs.Frame.{holds_at, holds_in, state_in}
use Rattle.frame_code.specs.declared.entries.Passed.TheVariants.{Number, Future}
use Rattle.frame_code.proofs.FirstFrames.{put-same, number-room, future-room, number-put, future-put}
use Rattle.frame_code.proofs.entries.put_passed.Goals as goal
use Rattle.frame_code.proofs.entries.put_passed.Goals.{in-Number, in-Future}

pub offset_bounds-words-number : goal.offset_bounds-words-number
offset_bounds-words-number c =
    let is = slice_get-get_or c.args.passed.now c.passed.x (Number 0) (omega (arith, c.passed-test.true, c.passed.auto.x-end)) ∙ ap Some c.in-Number.is in
    let room = number-room c.args.checked.now c.args.kind c.args.passed.now c.requires.passed c.passed.x c.passed.words c.passed.number c.passed.future c.passed.invariant c.in-Number.value is in
    omega (arith, room, c.passed.invariant.frame.few)

pub bounds-words-number : goal.bounds-words-number
bounds-words-number c =
    let is = slice_get-get_or c.args.passed.now c.passed.x (Number 0) (omega (arith, c.passed-test.true, c.passed.auto.x-end)) ∙ ap Some c.in-Number.is in
    number-room c.args.checked.now c.args.kind c.args.passed.now c.requires.passed c.passed.x c.passed.words c.passed.number c.passed.future c.passed.invariant c.in-Number.value is

pub overflow_add-number : goal.overflow_add-number
overflow_add-number c =
    let is = slice_get-get_or c.args.passed.now c.passed.x (Number 0) (omega (arith, c.passed-test.true, c.passed.auto.x-end)) ∙ ap Some c.in-Number.is in
    let room = number-room c.args.checked.now c.args.kind c.args.passed.now c.requires.passed c.passed.x c.passed.words c.passed.number c.passed.future c.passed.invariant c.in-Number.value is in
    omega (arith, room, c.passed.invariant.frame.few)

pub future_word-requires : goal.future_word-requires
future_word-requires c =
    let is = slice_get-get_or c.args.passed.now c.passed.x (Number 0) (omega (arith, c.passed-test.true, c.passed.auto.x-end)) ∙ ap Some c.in-Future.is in
    c.requires.passed.units c.passed.x (Future c.in-Future.unit) is

pub offset_bounds-words-future : goal.offset_bounds-words-future
offset_bounds-words-future c =
    let is = slice_get-get_or c.args.passed.now c.passed.x (Number 0) (omega (arith, c.passed-test.true, c.passed.auto.x-end)) ∙ ap Some c.in-Future.is in
    let room = future-room c.args.checked.now c.args.kind c.args.passed.now c.requires.passed c.passed.x c.passed.words c.passed.number c.passed.future c.passed.invariant c.in-Future.unit is in
    omega (arith, room, c.passed.invariant.frame.few)

pub bounds-words-future : goal.bounds-words-future
bounds-words-future c =
    let is = slice_get-get_or c.args.passed.now c.passed.x (Number 0) (omega (arith, c.passed-test.true, c.passed.auto.x-end)) ∙ ap Some c.in-Future.is in
    future-room c.args.checked.now c.args.kind c.args.passed.now c.requires.passed c.passed.x c.passed.words c.passed.number c.passed.future c.passed.invariant c.in-Future.unit is

pub overflow_add-future-in-Future : goal.overflow_add-future-in-Future
overflow_add-future-in-Future c =
    let is = slice_get-get_or c.args.passed.now c.passed.x (Number 0) (omega (arith, c.passed-test.true, c.passed.auto.x-end)) ∙ ap Some c.in-Future.is in
    let room = future-room c.args.checked.now c.args.kind c.args.passed.now c.requires.passed c.passed.x c.passed.words c.passed.number c.passed.future c.passed.invariant c.in-Future.unit is in
    omega (arith, room, c.passed.invariant.frame.few)

pub passed-preserved : goal.passed-preserved
passed-preserved c =
    let p = c.args.checked.now in
    let there = slice_get-get_or c.args.passed.now c.passed.x (Number 0) (omega (arith, c.passed-test.true, c.passed.auto.x-end)) in
    let holds : holds_at p c.args.kind 0 ≡ c.state_at-entry.result.now.holds
    = ap (λ (r : Program). holds_at r c.args.kind 0) (sym c.program.ensures.same) ∙ (ap (λ o. holds_in (state_in o 0)) c.kind_at-made.ensures ∙ ap holds_in c.state_at-entry.ensures) in
    elim c.match-passed-x.branch [
      | in-Number w ↦ put-same p c.args.kind c.args.passed.now (c.passed.x + 1) _ _ _ _ _ _ w.words-is w.number-is w.future-is
          (number-put p c.args.kind c.args.passed.now c.requires.passed c.passed.x c.passed.words c.passed.number c.passed.future c.passed.invariant w.in-Number.value
          (there ∙ ap Some w.in-Number.is))
      | in-Future w ↦ put-same p c.args.kind c.args.passed.now (c.passed.x + 1) _ _ _ _ _ _ w.words-is w.number-is w.future-is
          (future-put p c.args.kind c.args.passed.now c.requires.passed c.passed.x c.passed.words c.passed.number c.passed.future c.passed.invariant w.in-Future.unit w.future_word.result
          (there ∙ ap Some w.in-Future.is)
          (w.future_word.ensures ∙ ap (λ hs. cond (has c.passed.x hs) (Some w.in-Future.unit) None) (w.as_slice.ensures ∙ sym holds)))
    ]
