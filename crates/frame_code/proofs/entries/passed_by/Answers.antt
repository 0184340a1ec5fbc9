use Rattle.std.proofs.Common.{◌≡◌, ◌+◌, ◌<◌, ◌≤◌, ◌++◌, ◌∷◌, [], Some, length, slice_get, slice_index, sym, ◌∙◌, ap, subst, arith}
use Rattle.task_syntax.specs.declared.program.Program.{Program}
use Rattle.frame_code.specs.Setting.{unit_in}
use Rattle.frame_code.specs.Units.{NamesUnit}
use Rattle.frame_code.specs.declared.entries.Passed.TheVariants.{Number}
use Rattle.frame_code.proofs.PassedArguments.{ArePassedUpTo, up-same, length-more, number-room, future-room, future-named, number-more, future-more, all-passed, all-agree}
use Rattle.frame_code.proofs.entries.passed_by.Goals as goal
use Rattle.frame_code.proofs.entries.passed_by.Goals.{in-Number, in-Future}

pub bounds-variables-at : goal.bounds-variables-at
bounds-variables-at c =
    let p = c.args.checked.now in
    let request = c.args.request.now in
    let words = c.args.frame.now.items in
    let kind = c.kind_at-kind.result.now in
    let is_kind : slice_get p.kinds request.kind ≡ Some kind = ap (λ (r : Program). slice_get r.kinds request.kind) (sym c.program.ensures.same) ∙ c.kind_at-kind.ensures in
    let formed = c.program.ensures.formed.kinds request.kind kind is_kind in
    let within : c.arguments.at < kind.arguments = omega (arith, c.arguments-test.true, c.arguments.auto.at-end) in
    omega (arith, within, formed.arguments_are_variables, ap length c.as_slice-variables.ensures)

pub bounds : goal.bounds
bounds c =
    let p = c.args.checked.now in
    let request = c.args.request.now in
    let words = c.args.frame.now.items in
    let kind = c.kind_at-kind.result.now in
    let is_kind : slice_get p.kinds request.kind ≡ Some kind = ap (λ (r : Program). slice_get r.kinds request.kind) (sym c.program.ensures.same) ∙ c.kind_at-kind.ensures in
    let formed = c.program.ensures.formed.kinds request.kind kind is_kind in
    let within : c.arguments.at < kind.arguments = omega (arith, c.arguments-test.true, c.arguments.auto.at-end) in
    omega (arith, within, formed.arguments_are_variables, ap length c.as_slice-variables.ensures)

pub offset_bounds-numbers-number : goal.offset_bounds-numbers-number
offset_bounds-numbers-number c =
    let p = c.args.checked.now in
    let request = c.args.request.now in
    let words = c.args.frame.now.items in
    let kind = c.kind_at-kind.result.now in
    let is_kind : slice_get p.kinds request.kind ≡ Some kind = ap (λ (r : Program). slice_get r.kinds request.kind) (sym c.program.ensures.same) ∙ c.kind_at-kind.ensures in
    let formed = c.program.ensures.formed.kinds request.kind kind is_kind in
    let within : c.arguments.at < kind.arguments = omega (arith, c.arguments-test.true, c.arguments.auto.at-end) in
    let room = number-room p request words c.requires.arguments kind is_kind formed.arguments_fit formed.arguments_are_variables c.as_slice-variables.result.now c.as_slice-variables.ensures
    c.arguments.at within c.arguments.passed c.arguments.number c.arguments.future c.arguments.invariant.so_far _ c.in-Number.is in
    omega (arith, room.1)

pub bounds-numbers-number : goal.bounds-numbers-number
bounds-numbers-number c =
    let p = c.args.checked.now in
    let request = c.args.request.now in
    let words = c.args.frame.now.items in
    let kind = c.kind_at-kind.result.now in
    let is_kind : slice_get p.kinds request.kind ≡ Some kind = ap (λ (r : Program). slice_get r.kinds request.kind) (sym c.program.ensures.same) ∙ c.kind_at-kind.ensures in
    let formed = c.program.ensures.formed.kinds request.kind kind is_kind in
    let within : c.arguments.at < kind.arguments = omega (arith, c.arguments-test.true, c.arguments.auto.at-end) in
    let room = number-room p request words c.requires.arguments kind is_kind formed.arguments_fit formed.arguments_are_variables c.as_slice-variables.result.now c.as_slice-variables.ensures
    c.arguments.at within c.arguments.passed c.arguments.number c.arguments.future c.arguments.invariant.so_far _ c.in-Number.is in
    omega (arith, room.0, ap length c.as_slice-numbers.ensures)

pub push-requires : goal.push-requires
push-requires c =
    let p = c.args.checked.now in
    let request = c.args.request.now in
    let words = c.args.frame.now.items in
    let kind = c.kind_at-kind.result.now in
    let is_kind : slice_get p.kinds request.kind ≡ Some kind = ap (λ (r : Program). slice_get r.kinds request.kind) (sym c.program.ensures.same) ∙ c.kind_at-kind.ensures in
    let formed = c.program.ensures.formed.kinds request.kind kind is_kind in
    let within : c.arguments.at < kind.arguments = omega (arith, c.arguments-test.true, c.arguments.auto.at-end) in
    (omega arith, omega (arith, within, formed.arguments_fit, c.arguments.invariant.many))

pub overflow_add-number : goal.overflow_add-number
overflow_add-number c =
    let p = c.args.checked.now in
    let request = c.args.request.now in
    let words = c.args.frame.now.items in
    let kind = c.kind_at-kind.result.now in
    let is_kind : slice_get p.kinds request.kind ≡ Some kind = ap (λ (r : Program). slice_get r.kinds request.kind) (sym c.program.ensures.same) ∙ c.kind_at-kind.ensures in
    let formed = c.program.ensures.formed.kinds request.kind kind is_kind in
    let within : c.arguments.at < kind.arguments = omega (arith, c.arguments-test.true, c.arguments.auto.at-end) in
    let room = number-room p request words c.requires.arguments kind is_kind formed.arguments_fit formed.arguments_are_variables c.as_slice-variables.result.now c.as_slice-variables.ensures
    c.arguments.at within c.arguments.passed c.arguments.number c.arguments.future c.arguments.invariant.so_far _ c.in-Number.is in
    omega (arith, room.1)

pub offset_bounds-futures-future : goal.offset_bounds-futures-future
offset_bounds-futures-future c =
    let p = c.args.checked.now in
    let request = c.args.request.now in
    let words = c.args.frame.now.items in
    let kind = c.kind_at-kind.result.now in
    let is_kind : slice_get p.kinds request.kind ≡ Some kind = ap (λ (r : Program). slice_get r.kinds request.kind) (sym c.program.ensures.same) ∙ c.kind_at-kind.ensures in
    let formed = c.program.ensures.formed.kinds request.kind kind is_kind in
    let within : c.arguments.at < kind.arguments = omega (arith, c.arguments-test.true, c.arguments.auto.at-end) in
    let room = future-room p request words c.requires.arguments kind is_kind formed.arguments_fit formed.arguments_are_variables c.as_slice-variables.result.now c.as_slice-variables.ensures
    c.arguments.at within c.arguments.passed c.arguments.number c.arguments.future c.arguments.invariant.so_far _ c.in-Future.is in
    omega (arith, room.1)

pub bounds-futures-future : goal.bounds-futures-future
bounds-futures-future c =
    let p = c.args.checked.now in
    let request = c.args.request.now in
    let words = c.args.frame.now.items in
    let kind = c.kind_at-kind.result.now in
    let is_kind : slice_get p.kinds request.kind ≡ Some kind = ap (λ (r : Program). slice_get r.kinds request.kind) (sym c.program.ensures.same) ∙ c.kind_at-kind.ensures in
    let formed = c.program.ensures.formed.kinds request.kind kind is_kind in
    let within : c.arguments.at < kind.arguments = omega (arith, c.arguments-test.true, c.arguments.auto.at-end) in
    let room = future-room p request words c.requires.arguments kind is_kind formed.arguments_fit formed.arguments_are_variables c.as_slice-variables.result.now c.as_slice-variables.ensures
    c.arguments.at within c.arguments.passed c.arguments.number c.arguments.future c.arguments.invariant.so_far _ c.in-Future.is in
    omega (arith, room.0, ap length c.as_slice-futures.ensures)

pub named_unit-requires-clause-named : goal.named_unit-requires-clause-named
named_unit-requires-clause-named c =
    let p = c.args.checked.now in
    let request = c.args.request.now in
    let words = c.args.frame.now.items in
    let kind = c.kind_at-kind.result.now in
    let is_kind : slice_get p.kinds request.kind ≡ Some kind = ap (λ (r : Program). slice_get r.kinds request.kind) (sym c.program.ensures.same) ∙ c.kind_at-kind.ensures in
    let formed = c.program.ensures.formed.kinds request.kind kind is_kind in
    let within : c.arguments.at < kind.arguments = omega (arith, c.arguments-test.true, c.arguments.auto.at-end) in
    subst (λ xs. NamesUnit p words (slice_index xs c.arguments.future)) (sym c.as_slice-futures.ensures)
    (future-named p request words c.requires.arguments kind is_kind formed.arguments_fit formed.arguments_are_variables c.as_slice-variables.result.now c.as_slice-variables.ensures
    c.arguments.at within c.arguments.passed c.arguments.number c.arguments.future c.arguments.invariant.so_far _ c.in-Future.is)

pub push-requires-in-Future : goal.push-requires-in-Future
push-requires-in-Future c =
    let p = c.args.checked.now in
    let request = c.args.request.now in
    let words = c.args.frame.now.items in
    let kind = c.kind_at-kind.result.now in
    let is_kind : slice_get p.kinds request.kind ≡ Some kind = ap (λ (r : Program). slice_get r.kinds request.kind) (sym c.program.ensures.same) ∙ c.kind_at-kind.ensures in
    let formed = c.program.ensures.formed.kinds request.kind kind is_kind in
    let within : c.arguments.at < kind.arguments = omega (arith, c.arguments-test.true, c.arguments.auto.at-end) in
    (omega arith, omega (arith, within, formed.arguments_fit, c.arguments.invariant.many))

pub overflow_add-future : goal.overflow_add-future
overflow_add-future c =
    let p = c.args.checked.now in
    let request = c.args.request.now in
    let words = c.args.frame.now.items in
    let kind = c.kind_at-kind.result.now in
    let is_kind : slice_get p.kinds request.kind ≡ Some kind = ap (λ (r : Program). slice_get r.kinds request.kind) (sym c.program.ensures.same) ∙ c.kind_at-kind.ensures in
    let formed = c.program.ensures.formed.kinds request.kind kind is_kind in
    let within : c.arguments.at < kind.arguments = omega (arith, c.arguments-test.true, c.arguments.auto.at-end) in
    let room = future-room p request words c.requires.arguments kind is_kind formed.arguments_fit formed.arguments_are_variables c.as_slice-variables.result.now c.as_slice-variables.ensures
    c.arguments.at within c.arguments.passed c.arguments.number c.arguments.future c.arguments.invariant.so_far _ c.in-Future.is in
    omega (arith, room.1)

pub arguments-preserved : goal.arguments-preserved
arguments-preserved c =
    let p = c.args.checked.now in
    let request = c.args.request.now in
    let words = c.args.frame.now.items in
    let kind = c.kind_at-kind.result.now in
    let is_kind : slice_get p.kinds request.kind ≡ Some kind = ap (λ (r : Program). slice_get r.kinds request.kind) (sym c.program.ensures.same) ∙ c.kind_at-kind.ensures in
    let formed = c.program.ensures.formed.kinds request.kind kind is_kind in
    let within : c.arguments.at < kind.arguments = omega (arith, c.arguments-test.true, c.arguments.auto.at-end) in
    let both : ArePassedUpTo p request words (c.arguments.at + 1) c.match-variables-at.passed c.match-variables-at.number c.match-variables-at.future
    × (length c.match-variables-at.passed ≡ c.arguments.at + 1)
    = elim c.match-variables-at.branch [
      | in-Number w ↦ (
        up-same p request words (c.arguments.at + 1) _ _ _ _ _ _
            (w.passed-is ∙ (w.push.ensures ∙ ap (λ ns. c.arguments.passed ++ Number (slice_index ns c.arguments.number) ∷ []) c.as_slice-numbers.ensures)) w.number-is w.future-is
            (number-more p request words c.requires.arguments kind is_kind formed.arguments_fit formed.arguments_are_variables c.as_slice-variables.result.now c.as_slice-variables.ensures
            c.arguments.at within c.arguments.passed c.arguments.number c.arguments.future c.arguments.invariant.so_far _ w.in-Number.is),
        length-more c.arguments.passed _ _ c.arguments.at (w.passed-is ∙ w.push.ensures) c.arguments.invariant.many,
      )
      | in-Future w ↦ (
        up-same p request words (c.arguments.at + 1) _ _ _ _ _ _ (w.passed-is ∙ w.push-in-Future.ensures) w.number-is w.future-is
            (future-more p request words c.requires.arguments kind is_kind formed.arguments_fit formed.arguments_are_variables c.as_slice-variables.result.now c.as_slice-variables.ensures
            c.arguments.at within c.arguments.passed c.arguments.number c.arguments.future c.arguments.invariant.so_far _ w.named_unit.result w.in-Future.is
            (subst (λ xs. unit_in p words (slice_index xs c.arguments.future) ≡ Some w.named_unit.result) c.as_slice-futures.ensures w.named_unit.ensures)),
        length-more c.arguments.passed _ _ c.arguments.at (w.passed-is ∙ w.push-in-Future.ensures) c.arguments.invariant.many,
      )
    ] in
    record { so_far = both.0; many = both.1 }

pub returns-clause-passed : goal.returns-clause-passed
returns-clause-passed c =
    let p = c.args.checked.now in
    let request = c.args.request.now in
    let words = c.args.frame.now.items in
    let kind = c.kind_at-kind.result.now in
    let is_kind : slice_get p.kinds request.kind ≡ Some kind = ap (λ (r : Program). slice_get r.kinds request.kind) (sym c.program.ensures.same) ∙ c.kind_at-kind.ensures in
    let formed = c.program.ensures.formed.kinds request.kind kind is_kind in
    let past : kind.arguments ≤ c.arguments.at = omega (arith, c.arguments-test.false, c.arguments.auto.at-end) in
    all-passed p request words kind c.arguments.at c.arguments.passed c.arguments.number c.arguments.future is_kind past c.requires.arguments c.arguments.invariant.so_far

pub returns-clause-agrees : goal.returns-clause-agrees
returns-clause-agrees c =
    let p = c.args.checked.now in
    let request = c.args.request.now in
    let words = c.args.frame.now.items in
    let kind = c.kind_at-kind.result.now in
    let is_kind : slice_get p.kinds request.kind ≡ Some kind = ap (λ (r : Program). slice_get r.kinds request.kind) (sym c.program.ensures.same) ∙ c.kind_at-kind.ensures in
    let formed = c.program.ensures.formed.kinds request.kind kind is_kind in
    let past : kind.arguments ≤ c.arguments.at = omega (arith, c.arguments-test.false, c.arguments.auto.at-end) in
    all-agree p request words kind c.arguments.at c.arguments.passed c.arguments.number c.arguments.future is_kind past c.requires.arguments c.arguments.invariant.so_far
