use Rattle.std.proofs.Common.{◌+◌, ◌<◌, length, sym, ◌∙◌, ap, subst, arith}
use Rattle.task_syntax.specs.declared.program.Sort.TheVariants.{Number, Future}
use Rattle.frame_code.proofs.Variables.{IsSort}
use Rattle.frame_code.proofs.HeldFrames.{sort-read, kept-same, held-room, past-number, past-held, past-given_up, kept-at_end}
use Rattle.frame_code.proofs.held.keep_held.Goals as goal
use Rattle.frame_code.proofs.held.keep_held.Goals.{in-Number, in-Future, then-not-is_held, else-not-is_held}

pub clear-requires-clause-within : goal.clear-requires-clause-within
clear-requires-clause-within c =
    let s = subst (λ vs. IsSort vs c.variables.x Future) (c.as_slice-variables.ensures ∙ c.variables_of-known.ensures.same)
    (sort-read c.as_slice-variables.result.now c.variables.x _ Future (omega (arith, c.variables-test.true, c.variables.auto.x-end)) c.in-Future.is) in
    held-room c.args.checked.now c.args.holds.now c.args.words.now c.variables.x c.variables.words c.variables.place c.variables.given_up c.variables.invariant s

pub overflow_add-place-in-Future : goal.overflow_add-place-in-Future
overflow_add-place-in-Future c =
    let s = subst (λ vs. IsSort vs c.variables.x Future) (c.as_slice-variables.ensures ∙ c.variables_of-known.ensures.same)
    (sort-read c.as_slice-variables.result.now c.variables.x _ Future (omega (arith, c.variables-test.true, c.variables.auto.x-end)) c.in-Future.is) in
    let room = held-room c.args.checked.now c.args.holds.now c.args.words.now c.variables.x c.variables.words c.variables.place c.variables.given_up c.variables.invariant s in
    omega (arith, room, c.variables.invariant.frame.few)

pub variables-preserved : goal.variables-preserved
variables-preserved c =
    let p = c.args.checked.now in
    let held = c.args.holds.now in
    let old = c.args.words.now in
    let x = c.variables.x in
    let same = (c.as_slice-variables.ensures ∙ c.variables_of-known.ensures.same) in
    let within : x < length c.as_slice-variables.result.now = omega (arith, c.variables-test.true, c.variables.auto.x-end) in
    elim c.match-variables-x.branch [
      | in-Number w ↦ kept-same p held old (x + 1) _ _ _ _ _ _ w.words-is w.place-is w.given_up-is
          (past-number p held old x c.variables.words c.variables.place c.variables.given_up c.variables.invariant
          (subst (λ vs. IsSort vs x Number) same (sort-read c.as_slice-variables.result.now x _ Number within w.in-Number.is)))
      | in-Future w ↦ elim w.if-not-is_held.branch [
        | then-not-is_held w' ↦ kept-same p held old (x + 1) _ _ _ _ _ _ (w.words-is ∙ (w'.words-is ∙ w'.clear.ensures.cleared)) w.place-is
            (w.given_up-is ∙ (w'.given_up-is ∙ w'.clear.ensures.told))
            (past-given_up p held old x c.variables.words c.variables.place c.variables.given_up c.variables.invariant
            (subst (λ vs. IsSort vs x Future) same (sort-read c.as_slice-variables.result.now x _ Future within w.in-Future.is))
            (omega (arith, within, ap length same)) (sym w.is_held.ensures ∙ w'.if-not-is_held.true))
        | else-not-is_held w' ↦ kept-same p held old (x + 1) _ _ _ _ _ _ (w.words-is ∙ w'.words-is) w.place-is (w.given_up-is ∙ w'.given_up-is)
            (past-held p held old x c.variables.words c.variables.place c.variables.given_up c.variables.invariant
            (subst (λ vs. IsSort vs x Future) same (sort-read c.as_slice-variables.result.now x _ Future within w.in-Future.is))
            (sym w.is_held.ensures ∙ w'.if-not-is_held.false))
      ]
    ]

pub returns-clause-kept : goal.returns-clause-kept
returns-clause-kept c =
    (kept-at_end c.args.checked.now c.args.holds.now c.args.words.now c.variables.x c.variables.words c.variables.place c.variables.given_up c.variables.invariant c.requires.task
    (omega (arith, c.variables-test.false, c.variables.auto.x-end, ap length (c.as_slice-variables.ensures ∙ c.variables_of-known.ensures.same)))).0

pub returns-clause-parts : goal.returns-clause-parts
returns-clause-parts c =
    (kept-at_end c.args.checked.now c.args.holds.now c.args.words.now c.variables.x c.variables.words c.variables.place c.variables.given_up c.variables.invariant c.requires.task
    (omega (arith, c.variables-test.false, c.variables.auto.x-end, ap length (c.as_slice-variables.ensures ∙ c.variables_of-known.ensures.same)))).1
